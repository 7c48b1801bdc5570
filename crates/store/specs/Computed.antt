-- Calls on a shelf and in the model as they compute, and a test of two lists of answers, for tables of examples.
use Rattle.std.specs.Prelude.{ℕ, Bool, true, false, ◌&&◌, eqb}
use mathlib.Core.List.{List, [], ◌∷◌, flatten}
use Rattle.words.specs.Laid.{over}
use Rattle.words.specs.LittleEndian.{number}
use Rattle.part.specs.Record.{body_length, kind}
use Rattle.restrictive.specs.Judged.{judged, same_violation}
use Rattle.composite.specs.Computed.{hooked, answered}
use Rattle.store.specs.Answer.{Answer, gives, refused, clash, breaks, obstacle_answer}
use Rattle.store.specs.Walk.{front, walk_at_most, walk, records}
use Rattle.store.specs.Calls as shelf
use Rattle.store.specs.Calls.{end_bytes, append, append_joined, hookup_of, passes}
use Rattle.store.specs.Model as model
use Rattle.store.specs.Model.{Call, answers}
use Rattle.store.specs.Demand.{step, shelf_answers}

-- Two answers are the same.
abbrev pub same_answer : Answer → Answer → Bool
same_answer (gives m) (gives n) = eqb m n
same_answer (gives m) (refused k) = false
same_answer (gives m) (clash e) = false
same_answer (gives m) (breaks v) = false
same_answer (refused j) (gives n) = false
same_answer (refused j) (refused k) = eqb j k
same_answer (refused j) (clash e) = false
same_answer (refused j) (breaks v) = false
same_answer (clash d) (gives n) = false
same_answer (clash d) (refused k) = false
same_answer (clash d) (clash e) = eqb d e
same_answer (clash d) (breaks v) = false
same_answer (breaks w) (gives n) = false
same_answer (breaks w) (refused k) = false
same_answer (breaks w) (clash e) = false
same_answer (breaks w) (breaks v) = same_violation w v

-- Two lists of answers are the same.
abbrev pub same_answers : List Answer → List Answer → Bool
same_answers [] [] = true
same_answers [] (y ∷ ys) = false
same_answers (x ∷ xs) [] = false
same_answers (x ∷ xs) (y ∷ ys) = same_answer x y && same_answers xs ys

-- The answers of calls on a shelf.
unfoldable pub told : List ℕ → List Call → List Answer
unfolding judged hooked answered shelf_answers step shelf.clear shelf.load shelf.hookup hookup_of append_joined append
    passes obstacle_answer walk walk_at_most front records end_bytes flatten over body_length kind number
told s calls = shelf_answers calls s

-- Their answers in the model, with so many bytes.
unfoldable pub plainly : ℕ → List Call → List Answer
unfolding judged hooked answered answers model.step model.load_record model.hookup_records model.append
    obstacle_answer flatten
plainly n calls = answers n calls []
