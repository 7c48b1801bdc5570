-- What is written by one call and by several.
use Rattle.std.proofs.Common.{ℕ, ◌+◌, ◌*◌, ◌≡◌, refl, set, add-one, List, ◌++◌, Option, Result, Ok, Err, OnOk, ap, subst}
use Rattle.std.specs.Io.KnownBytes.{Appends}
use Rattle.std.proofs.KnownBytes.{Appends-trans}
use Rattle.composite.specs.Joining.{Joining, joining}
use Rattle.limits.specs.Pairs.{inputs_over, answer_line, pair_line}

-- One text in the place of another that is the same.
pub on_text : {T E : Type 0} (r : Result T E) (before after : Option (List ℕ)) {text other : List ℕ} → text ≡ other
    → OnOk r (Appends before after text) → OnOk r (Appends before after other)
on_text r before after is h = subst (λ (k : List ℕ). OnOk r (Appends before after k)) is h

-- A text was written, and a last call that goes well writes the rest.
pub last_text : {T E : Type 0} (r : Result T E) (before now after : Option (List ℕ)) (text rest : List ℕ)
    {all : List ℕ} → Appends before now text → text ++ rest ≡ all → OnOk r (Appends now after rest)
    → OnOk r (Appends before after all)
last_text (Err e) before now after text rest written is h = tt
last_text (Ok x) before now after text rest written is h =
    subst (Appends before after) is (Appends-trans before now after text rest written h)

-- The words, and the line's end for the answer.
pub line_is : (words a b : List ℕ) (j : Joining) → j ≡ joining a b 1024 → words ++ answer_line j ≡ pair_line words a b
unfolding pair_line
line_is words a b j is = ap (λ (k : Joining). words ++ answer_line k) is

-- One input more.
pub input_turn : (out now : List ℕ) (first m i : ℕ) → now ≡ inputs_over out first m i
    → set (set now (11 + 4 * i) (first + i)) (11 + 4 * m + 8 * i) 1 ≡ inputs_over out first m (i + 1)
unfolding inputs_over
input_turn out now first m i is = rw (is, add-one i) refl
