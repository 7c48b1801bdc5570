-- What a call answers at an exit of `?`, and what is left of a part that is read.
use Prim.Native.Nat.{ℕ, ◌<◌}
use mathlib.Core.List.{List}
use mathlib.Core.Path.{◌≡◌, refl, ap}
use Rattle.std.specs.Prelude.{Option, Some, None, IsSome, Result, Ok, Err, IsErrAnd}
use Rattle.std.specs.Iterator.{YieldsFirstRef}
use mathlib.Core.Option.{none}
use Rattle.store.specs.declared.answer.Refusal.TheVariants.{NoEnd, NoPart, Unfit, NoRoom, Rejected, Breaks}
use Rattle.store.specs.declared.answer.Refusal.TheVariants.{ObserversDiffer, Clash, TooLarge}
use Rattle.store.specs.declared.found.End.{End}
use Rattle.store.specs.declared.found.NoEnd as found
use Rattle.store.specs.Answer.{refused, number_of, obstacle_answer}
use Rattle.store.specs.Found.{Finds}
use Rattle.store.specs.Walk.{walk}
use Rattle.store.specs.Leading.{leading}
use Rattle.store.specs.declared.records.Records.{Records}
use native.Mathlib.Omega.{arith}
use lib.ListN.{length, drop, length-drop}
use Rattle.std.specs.Borrow.{Bor}
use Rattle.store.specs.declared.answer.Refusal.{Refusal}
use Rattle.restrictive.specs.declared.answer.Violation.{Violation}
use Rattle.composite.specs.declared.answer.Obstacle.{Obstacle}
use Rattle.composite.specs.Answers.{obstacle_of}
use Rattle.restrictive.specs.declared.answer.Failure.{Failure}
use Rattle.store.specs.Answers.{refusal_of, failure_answer, answer_of}

pub told : (r : Result ℕ Refusal) (q : Refusal) → IsErrAnd r (λ e. e ≡ q) → answer_of r ≡ refusal_of q
told (Ok n) q h = absurd h
told (Err e) q h = ap refusal_of h

pub told-stopped : (r : Result ℕ Refusal) (o : Obstacle)
    → IsErrAnd r (λ e. refusal_of e ≡ obstacle_answer (obstacle_of o))
    → answer_of r ≡ obstacle_answer (obstacle_of o)
told-stopped (Ok n) o h = absurd h
told-stopped (Err e) o h = h

pub told-failure : (r : Result ℕ Refusal) (f : Failure) → IsErrAnd r (λ e. refusal_of e ≡ failure_answer f)
    → answer_of r ≡ failure_answer f
told-failure (Ok n) f h = absurd h
told-failure (Err e) f h = h

-- The next record, where one is left behind the first k.
pub next_there : (before after : Records) (r : Option (Bor (List ℕ))) (rs : List (List ℕ)) (k : ℕ)
    → YieldsFirstRef (λ (x : Records). leading x.rest.now) before r after
    → leading before.rest.now ≡ drop k rs
    → k < length rs
    → IsSome r
next_there before after (Some x) rs k h e l = refl
next_there before after None rs k h e l = absurd (omega (arith, ap length h.0, ap length e, length-drop k rs))

-- What a walk says that ends without an end record.
pub endless : (s : List ℕ) (r : Result End found.NoEnd) → ((e : End) → r ≡ Ok e → ⊥) → Finds r s → walk s ≡ none
endless s (Ok e) n h = absurd (n e refl)
endless s (Err e) n h = h

-- A refusal that is neither a clash nor a break is told by its number.
pub plainly_refused : (r : Refusal) → ((v : Violation) → r ≡ Breaks v → ⊥) → ((e : ℕ) → r ≡ Clash e → ⊥)
    → refusal_of r ≡ refused (number_of (refusal_of r))
plainly_refused NoEnd n m = refl
plainly_refused NoPart n m = refl
plainly_refused Unfit n m = refl
plainly_refused NoRoom n m = refl
plainly_refused (Rejected k) n m = refl
plainly_refused (Breaks v) n m = absurd (n v refl)
plainly_refused ObserversDiffer n m = refl
plainly_refused (Clash e) n m = absurd (m e refl)
plainly_refused TooLarge n m = refl
