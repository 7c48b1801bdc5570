-- What reads one after the other bring.
use Rattle.std.proofs.Common.{◌≡◌, ℕ, ◌+◌, ◌≤◌, ◌<◌, List, [], ◌++◌, length, take, drop, Option, Some, None, IfSome, sym, ap, ◌∙◌, subst, inl, inr, arith, append_assoc, append-nil}
use Rattle.std.proofs.lemmas.List.{drop-drop, length-take-le}
use Rattle.std.proofs.Math.Nat.{eq-or-lt_of_le}
use Rattle.std.proofs.lemmas.List.Edits.{sets-eq}
use lib.Seq.{take_at, drop_at, take-add, take_all}
use Rattle.std.specs.Io.KnownBytes.{Consumes, IsAtEnd}
use Rattle.std.proofs.KnownBytes.{Consumes-trans}
use Rattle.words.specs.Laid.{over, Laid}

-- The n bytes that were laid stand at their place.
pub laid_piece : {d a e : List ℕ} {at r : ℕ} (n : ℕ) → Laid d at a e r → length a ≡ n → at + n ≤ length d
    → take n (drop at e) ≡ a
unfolding over
laid_piece {d} {a} {e} {at} n p q h =
    let behind = drop (at + length a) d in
    ap (λ (k : List ℕ). take n (drop at k))
    (p.text ∙ sets-eq a d at (omega arith) ∙ append_assoc (take at d) a behind)
    ∙ ap (take n) (drop_at (take at d) (a ++ behind) at (length-take-le at d (omega arith)))
    ∙ take_at a behind n q

-- What stays behind a place stays behind a later one.
pub kept_on : (n m : ℕ) (before now after : List ℕ) → drop m (drop n after) ≡ drop m (drop n now)
    → drop n now ≡ drop n before → drop (n + m) after ≡ drop (n + m) before
kept_on n m before now after p q =
    sym (drop-drop m n after) ∙ p ∙ ap (drop m) q ∙ drop-drop m n before

-- The bytes of a read stand behind those of the reads before it.
pub consumed_on : (a b c : Option (List ℕ)) (n m : ℕ) (now after : List ℕ) → take n after ≡ take n now
    → Consumes a b (take n now) → Consumes b c (take m (drop n after)) → Consumes a c (take (n + m) after)
consumed_on a b c n m now after same p q =
    subst (Consumes a c) (ap (λ (k : List ℕ). k ++ take m (drop n after)) (sym same) ∙ sym (take-add n m after))
    (Consumes-trans a b c _ _ p q)

-- As many bytes as there was room for, or all that the stream had, are its first bytes.
pub first_bytes : (a b : Option (List ℕ)) (bytes : List ℕ) (n most : ℕ) → n ≤ most → length bytes ≡ n
    → Consumes a b bytes → (n < most → IsAtEnd b) → IfSome a (λ xs. bytes ≡ take most xs)
first_bytes None b bytes n most h size p end = tt
first_bytes (Some x) None bytes n most h size p end = absurd p
first_bytes (Some x) (Some y) bytes n most h size p end =
    sym (ap (take most) p ∙ front)
  where
    whole : y ≡ [] → take most (bytes ++ y) ≡ bytes
    whole e =
        ap (take most) (ap (λ (k : List ℕ). bytes ++ k) e ∙ append-nil bytes)
        ∙ take_all most bytes (omega (arith, size))

    front : take most (bytes ++ y) ≡ bytes
    front = elim (eq-or-lt_of_le h) [
      | inl full ↦ take_at bytes y most (size ∙ full)
      | inr less ↦ whole (end less)
    ]
