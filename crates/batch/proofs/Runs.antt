-- The calls of a script made one after the other.
use Prim.Native.Nat.{ℕ, suc, ◌+◌, ◌*◌, ◌≤◌, ◌<◌}
use mathlib.Core.Path.{◌≡◌, refl, sym, ap, ◌∙◌}
use mathlib.Core.List.{List, [], ◌∷◌}
use mathlib.Core.Option.{Option, none, some}
use native.Mathlib.Omega.{arith}
use lib.ListN.{length, get_or}
use borrow.Author.Tests.{lt-ltb, le-ltb}
use Rattle.bounded.specs.Search.{when, each}
use Rattle.words.specs.LittleEndian.{digits, as_words}
use Rattle.words.specs.Laid.{over}
use Rattle.words.proofs.LittleEndian.{length_digits, length-each}
use Rattle.words.proofs.LaidLaws.{length_over, over_nothing, over-append}
use Rattle.script.specs.Operation.{Operation}
use Rattle.script.specs.Sequence.{operations}
use Rattle.store.specs.Answer.{Answer, gives, refused, clash, breaks}
use Rattle.store.specs.Model.{Call}
use Rattle.store.specs.Demand.{step, shelf_after, shelf_answers}
use Rattle.std.specs.Prelude.{Result, Ok, Err, IsErrAnd}
use Rattle.batch.specs.declared.answer.NotRun.{NotRun}
use Rattle.batch.specs.declared.answer.NotRun.TheVariants.{Malformed}
use Rattle.batch.specs.Answers.{number_of, refusal_of}
use Rattle.batch.specs.Script.{call_of, calls, listed}
use Rattle.batch.specs.Slots.{numbers, slots}
use Rattle.batch.specs.Running.{refusal, made}
use Rattle.batch.proofs.Calls.{calls_of, calls-operations, FirstOf, first_of}

-- ---- the answers

eight_words : (ns : List ℕ) → length (each 8 (λ i. digits 8 (get_or ns i 0))) ≡ 64
eight_words ns = length-each 8 8 (λ i. digits 8 (get_or ns i 0)) (λ i l. length_digits 8 _)

-- An answer takes 64 bytes.
length-answer : (a : Answer) → length (as_words (numbers a)) ≡ 64
unfolding as_words numbers
length-answer (gives n) = eight_words (0 ∷ n ∷ 0 ∷ 0 ∷ 0 ∷ 0 ∷ 0 ∷ 0 ∷ [])
length-answer (refused k) = eight_words (1 ∷ k ∷ 0 ∷ 0 ∷ 0 ∷ 0 ∷ 0 ∷ 0 ∷ [])
length-answer (clash e) = eight_words (2 ∷ e ∷ 0 ∷ 0 ∷ 0 ∷ 0 ∷ 0 ∷ 0 ∷ [])
length-answer (breaks v) = eight_words (3 ∷ v.rule ∷ v.event ∷ v.s ∷ v.t ∷ v.u ∷ v.level ∷ 0 ∷ [])

pub words_of_numbers : (a : Answer) → as_words (numbers a) ≡ each 8 (λ i. digits 8 (get_or (numbers a) i 0))
unfolding as_words numbers
words_of_numbers (gives n) = refl
words_of_numbers (refused k) = refl
words_of_numbers (clash e) = refl
words_of_numbers (breaks v) = refl

-- The first answer laid, and the others behind it.
over-slots : (out : List ℕ) (at : ℕ) (a : Answer) (more : List Answer)
    → over out at (slots (a ∷ more)) ≡ over (over out at (as_words (numbers a))) (at + 64) (slots more)
unfolding slots
over-slots out at a more =
    over-append out at (as_words (numbers a)) (slots more)
    ∙ ap (λ (k : ℕ). over (over out at (as_words (numbers a))) (at + k) (slots more)) (length-answer a)

-- ---- the calls made so far

-- Some calls of the script are made, and these operations are left: to make the calls that they are leaves what making
-- them all leaves.
pub record Made (script shelf₀ out₀ shelf out : List ℕ) (operations : List Operation) (slot : ℕ) : Type 0 where
  pub left : List Call
  pub behind : calls_of operations ≡ some left
  pub same-shelf : shelf_after left shelf ≡ shelf_after (listed script) shelf₀
  pub same_answers : over out slot (slots (shelf_answers left shelf))
      ≡ over out₀ 0 (slots (shelf_answers (listed script) shelf₀))
  pub room : slot + length left * 64 ≤ length out

pub made_none : (script shelf out : List ℕ) → calls script ≡ some (listed script)
    → length (listed script) * 64 ≤ length out
    → Made script shelf out shelf out (operations script) 0
made_none script shelf out e h = record {
  left = listed script;
  behind = sym (calls-operations (suc (length script)) script (omega arith)) ∙ e;
  same-shelf = refl;
  same_answers = refl;
  room = omega arith;
}

module _ (script shelf₀ out₀ shelf out : List ℕ) (slot : ℕ) where
  pub made_end : Made script shelf₀ out₀ shelf out [] slot
      → (shelf ≡ shelf_after (listed script) shelf₀)
      × (out ≡ over out₀ 0 (slots (shelf_answers (listed script) shelf₀)))
  unfolding calls_of shelf_after shelf_answers slots
  made_end m =
      let found = m.behind in
      let none_left : m.left ≡ [] = cc in
      (rw none_left at m.same-shelf, sym (over_nothing out slot) ∙ rw none_left at m.same_answers)

  module _ (o : Operation) (os : List Operation) (m : Made script shelf₀ out₀ shelf out (o ∷ os) slot) where
    next_call : FirstOf o os m.left
    next_call = first_of o os m.left m.behind

    -- There is room for its answer.
    pub made-room : slot + 64 ≤ length out
    made-room = omega (arith, ap length next_call.all)

    -- What is left are calls.
    pub made_only : call_of o ≡ none → ⊥
    made_only e = let is = next_call.is in let z : ◌≡◌ {A = ℕ} 0 1 = cc in omega arith

    pub made_next : (c : Call) (shelf' out' : List ℕ) → call_of o ≡ some c → shelf' ≡ (step c shelf).shelf
        → out' ≡ over out slot (as_words (numbers (step c shelf).answer))
        → Made script shelf₀ out₀ shelf' out' os (slot + 64)
    unfolding shelf_after shelf_answers
    made_next c shelf' out' is s' o' =
        let f = next_call in
        let there = f.is in
        let same : f.call ≡ c = cc in
        let first : m.left ≡ c ∷ f.others = rw same at f.all in
        let count = ap length first in
        let laid = length_over out slot (as_words (numbers (step c shelf).answer)) in
        let as_long : length out' ≡ length out = cc in
        record {
          left = f.others;
          behind = f.behind;
          same-shelf = rw s' (rw first at m.same-shelf);
          same_answers = rw (s', o')
              (sym (over-slots out slot (step c shelf).answer (shelf_answers f.others (step c shelf).shelf))
              ∙ (rw first at m.same_answers));
          room = omega arith;
        }

-- ---- the whole script

-- A run is answered with the refusal that applies, or with none, and makes these calls.
abbrev pub Answers : List ℕ → ℕ → Option ℕ → List Call → Type 0
Answers script room answer cs = (answer ≡ refusal script room) × (made script room ≡ cs)

module _ (script : List ℕ) (room : ℕ) where
  pub run_malformed : calls script ≡ none → Answers script room (some 99) []
  unfolding refusal made
  run_malformed none-listed =
      let so : refusal script room ≡ some 99 = rw (none-listed, refusal) in
      (sym so, rw (so, made))

  module _ (all : calls script ≡ some (listed script)) where
    pub run_too_few : room < length (listed script) * 64 → Answers script room (some 15) []
    unfolding refusal made when
    run_too_few h =
        let small = lt-ltb room (length (listed script) * 64) h in
        let so : refusal script room ≡ some 15 = rw (all, refusal, small) in
        (sym so, rw (so, made))

    pub run-all : length (listed script) * 64 ≤ room → Answers script room none (listed script)
    unfolding refusal made when
    run-all h =
        let enough = le-ltb room (length (listed script) * 64) h in
        let so : refusal script room ≡ none = rw (all, refusal, enough) in
        (sym so, rw (so, made))

-- What a run answers at the exit of `?`.
pub told-malformed : (r : Result (Unit {0}) NotRun) (why : NotRun) → IsErrAnd r (λ e. e ≡ why) → why ≡ Malformed
    → refusal_of r ≡ some 99
told-malformed (Ok done) why h e = absurd h
told-malformed (Err w) why h e = ap (λ (v : NotRun). some (number_of v)) (h ∙ e)
