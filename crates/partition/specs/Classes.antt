-- Partitions of the n states of a part, as the class of each, and a finer partition beside one (document 02, l).
use Rattle.std.specs.Prelude.{ℕ, Bool, not, ◌&&◌, eqb}
use Rattle.bounded.specs.Search.{any, count, largest}

-- Two states have one class.
unfoldable pub same_class : (ℕ → ℕ) → ℕ → ℕ → Bool
same_class class s t = eqb (class s) (class t)

-- A fine class stands in two classes: some state has the fine class of an earlier one, and not its class.
unfoldable pub crosses : ℕ → (ℕ → ℕ) → (ℕ → ℕ) → Bool
crosses n class fine = any n (λ s. any s (λ r. same_class fine r s && not (same_class class r s)))

-- State s is the first of its fine class.
unfoldable pub is_first : (ℕ → ℕ) → ℕ → Bool
is_first fine s = not (any s (λ r. same_class fine r s))

-- How many fine classes have their first state in class c.
unfoldable pub fine_classes : ℕ → (ℕ → ℕ) → (ℕ → ℕ) → ℕ → ℕ
fine_classes n class fine c = count n (λ s. eqb (class s) c && is_first fine s)

-- The limit: the largest number of fine classes in one class.
unfoldable pub limit : ℕ → (ℕ → ℕ) → (ℕ → ℕ) → ℕ
limit n class fine = largest n (λ s. fine_classes n class fine (class s))
