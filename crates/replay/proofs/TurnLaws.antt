-- The turns of a script one by one, and the lines that were written for them.
use Rattle.std.proofs.Common.{ℕ, ◌<◌, ◌≡◌, zero, suc, Bool, true, false, cond, eqb, List, [], ◌∷◌, ◌++◌, length, take, drop, Option, Some, None, refl, sym, ap, ◌∙◌, subst, inl, inr, arith, length-drop, append_assoc, append-nil}
use Rattle.std.proofs.lemmas.Bool.{cases_lt}
use lib.Seq.{take_at}
use Rattle.std.specs.Io.KnownBytes.{Appends}
use Rattle.std.proofs.KnownBytes.{Appends-trans}
use borrow.Author.Tests.{eqb-false}
use Rattle.std.specs.Prelude.{Result, Ok, Err, MatchResult, IsOkAnd}
use Rattle.script.specs.declared.operation.Operation as read
use Rattle.script.specs.declared.operation.Stop.{Stop}
use Rattle.script.specs.Answers.{read_of, item_of}
use Rattle.script.specs.Operation.{Operation, operation, size}
use Rattle.script.specs.Sequence.{operations}
use Rattle.script.proofs.Operations.{size-within, ended_is, operations-end, operations-first}
use Rattle.transcript.specs.Turn.{Turn, turn}
use Rattle.replay.specs.Transcript.{then, turns, all_turns}

-- The turns of some operations.
pub turns_of : List Operation → List ℕ → Turn
turns_of [] shelf = record { line = []; shelf = shelf }
turns_of (o ∷ os) shelf = then (turn o shelf) (turns_of os)

-- A turn that is the last, and one that others follow.
one_turn : (stops : Bool) (t : Turn) (f : List ℕ → Turn) (os : List Operation)
    → (stops ≡ false → f t.shelf ≡ turns_of os t.shelf) → cond stops t (then t f) ≡ then t (turns_of (cond stops [] os))
unfolding turns_of
one_turn true t f os h = ap (λ (line : List ℕ). record { line = line; shelf = t.shelf }) (sym (append-nil t.line))
one_turn false t f os h = ap (λ (r : Turn). record { line = t.line ++ r.line; shelf = r.shelf }) (h refl)

turns-operations : (n : ℕ) (s shelf : List ℕ) → length s < n → turns n s shelf ≡ turns_of (operations s) shelf
unfolding turns turns_of turn size
turns-operations zero s shelf h = absurd (omega arith)
turns-operations (suc n) s shelf h =
    elim (cases_lt (length s) 1) [
      | inl none ↦ rw (ended_is s none, operations-end s none) refl
      | inr some ↦
          one_turn (eqb (size (operation s)) 0) (turn (operation s) shelf)
          (turns n (drop (size (operation s)) s)) (operations (drop (size (operation s)) s))
          (λ e.
          let taken = eqb-false (size (operation s)) 0 e in
          let fits = size-within s in
          turns-operations n (drop (size (operation s)) s) (turn (operation s) shelf).shelf
          (omega (arith, length-drop (size (operation s)) s)))
          ∙ rw (operations-first s some) refl
    ]

-- The turns of a script are those of its operations.
pub turns_all : (s shelf : List ℕ) → all_turns s shelf ≡ turns_of (operations s) shelf
unfolding all_turns
turns_all s shelf = turns-operations (suc (length s)) s shelf (omega arith)

-- A text was written, and with the lines of the turns that are left it makes up the lines of all turns.
pub record Left (before now : Option (List ℕ)) (all left : Turn) : Type 0 where
  pub text : List ℕ
  pub written : Appends before now text
  pub line : text ++ left.line ≡ all.line
  pub shelf : left.shelf ≡ all.shelf

-- Nothing was written yet.
pub left_all : (now : Option (List ℕ)) (all : Turn) → Left now now all all
left_all now all = record { text = []; written = nothing now; line = refl; shelf = refl }
  where
    nothing : (now : Option (List ℕ)) → Appends now now []
    nothing None = tt
    nothing (Some bytes) = sym (append-nil bytes)

-- A turn whose line is written.
pub left_behind : (before now after : Option (List ℕ)) {all : Turn} (o : Operation) (os : List Operation)
    (shelf shelf' line : List ℕ) → Left before now all (turns_of (o ∷ os) shelf) → shelf' ≡ (turn o shelf).shelf
    → line ≡ (turn o shelf).line → Appends now after line → Left before after all (turns_of os shelf')
unfolding turns_of
left_behind before now after {all} o os shelf shelf' line left kept said written = record {
  text = left.text ++ line;
  written = Appends-trans before now after left.text line left.written written;
  line = rw (kept, said) (append_assoc left.text (turn o shelf).line _ ∙ left.line);
  shelf = rw kept left.shelf;
}

-- No turn is left.
pub left_none : (before now : Option (List ℕ)) {all : Turn} (shelf : List ℕ) → Left before now all (turns_of [] shelf)
    → (shelf ≡ all.shelf) × Appends before now all.line
unfolding turns_of
left_none before now shelf left =
    (left.shelf, subst (Appends before now) (sym (append-nil left.text) ∙ left.line) left.written)

-- A text that was written to the start of some bytes.
pub front : (text rest : List ℕ) {after : List ℕ} {n : ℕ} → n ≡ length text → after ≡ text ++ rest
    → take n after ≡ text
front text rest {after} {n} size is = ap (take n) is ∙ take_at text rest n (sym size)

-- What is read of a script where it does not end.
pub read_item : (i : Result read.Operation Stop) (r : Result (Option read.Operation) Stop)
    → MatchResult i (λ x. IsOkAnd r (λ y. y ≡ Some x)) (λ e. r ≡ Err e) → read_of r ≡ item_of i
unfolding read_of item_of
read_item (Ok x) (Ok y) is = rw is refl
read_item (Ok x) (Err e) is = absurd is
read_item (Err e) r is = rw is refl
