-- Demand 3: whole lists of calls on any shelf of six bytes or more.
use Rattle.std.specs.Prelude.{ℕ, ◌≤◌, ◌<◌, ◌≡◌, length}
use mathlib.Core.List.{List, [], ◌∷◌, ◌++◌, flatten}
use Rattle.machine.specs.Noninterference.{Noninterfering}
use Rattle.words.specs.LittleEndian.{Bytes}
use Rattle.part.specs.Format.{limited_kind}
use Rattle.part.specs.Record.{kind, observers}
use Rattle.screening.specs.Rejections.{Accepted}
use Rattle.screening.specs.Machine.{machine, observation}
use Rattle.store.specs.Answer.{Answer, gives, refused}
use Rattle.store.specs.Walk.{records}
use Rattle.store.specs.Reading.{count, part}
use Rattle.store.specs.Calls as shelf
use Rattle.store.specs.Calls.{Left, end_bytes}
use Rattle.store.specs.Model.{Call, clear, load, hookup, records_after, answers}

-- One call on the bytes of a shelf: what the contracts of Clear, Load and Hookup say.
unfoldable pub step : Call → List ℕ → Left
step clear s = shelf.clear s
step (load r) s = shelf.load s r
step (hookup i j) s = shelf.hookup s i j

-- The shelf after some calls, each on the shelf as the one before left it, and their answers.
unfoldable pub shelf_after : List Call → List ℕ → List ℕ
shelf_after [] s = s
shelf_after (c ∷ cs) s = shelf_after cs (step c s).shelf

unfoldable pub shelf_answers : List Call → List ℕ → List Answer
shelf_answers [] s = []
shelf_answers (c ∷ cs) s = (step c s).answer ∷ shelf_answers cs (step c s).shelf

-- The records that are loaded are bytes.
abbrev pub BytesLoaded : List Call → Type 0
BytesLoaded [] = Unit {0}
BytesLoaded (clear ∷ cs) = BytesLoaded cs
BytesLoaded (load r ∷ cs) = Bytes r × BytesLoaded cs
BytesLoaded (hookup i j ∷ cs) = BytesLoaded cs

-- xs begins with ys.
pub record Begins (xs ys : List ℕ) : Type 0 where
  pub rest : List ℕ
  pub so : xs ≡ ys ++ rest

-- A part of kind 1 or 2 hides its high inputs from each of its observers: every trace of it with k low events and every
-- k + 1 lists of its high inputs has a trace with the same low events and exactly those lists in its gaps. Of a limited
-- part this is not said (document 02, l).
pub record Hides (b : List ℕ) : Type 0 where
  pub accepted : Accepted b
  pub hides : (kind b ≡ limited_kind → ⊥) → (o : ℕ) → o < observers b → Noninterfering (machine b accepted) (observation b o)

-- Neither 12 nor 14.
pub record Foreseen (a : Answer) : Type 0 where
  pub not_12 : a ≡ refused 12 → ⊥
  pub not_14 : a ≡ refused 14 → ⊥

abbrev pub AllForeseen : List Answer → Type 0
AllForeseen [] = Unit {0}
AllForeseen (a ∷ rest) = Foreseen a × AllForeseen rest

-- After a first clear and the calls: the shelf begins with exactly the model's records, one behind the other, and then
-- the end record; it is as long as it was; every answer is the model's, and none is 12 or 14; the records on the shelf
-- are the model's, and Count is their number; and every part on the shelf that is not a limited one hides its high inputs.
pub record Meets (s : List ℕ) (calls : List Call) : Type 0 where
  pub begins : Begins (shelf_after (clear ∷ calls) s)
      (flatten (records_after (length s) (clear ∷ calls) []) ++ end_bytes)
  pub size : length (shelf_after (clear ∷ calls) s) ≡ length s
  pub same_answers : shelf_answers (clear ∷ calls) s ≡ answers (length s) (clear ∷ calls) []
  pub foreseen : AllForeseen (shelf_answers (clear ∷ calls) s)
  pub held : records (shelf_after (clear ∷ calls) s) ≡ records_after (length s) (clear ∷ calls) []
  pub counted : count (shelf_after (clear ∷ calls) s) ≡ gives (length (records_after (length s) (clear ∷ calls) []))
  pub hidden : (i : ℕ) → i < length (records_after (length s) (clear ∷ calls) [])
      → Hides (part (shelf_after (clear ∷ calls) s) i)

abbrev pub Demand3 : Type 0
Demand3 = (s : List ℕ) → 6 ≤ length s → (calls : List Call) → BytesLoaded calls → Meets s calls
