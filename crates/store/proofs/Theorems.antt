-- Demand 3: whole lists of calls.
use Prim.Native.Nat.{ℕ, ◌<◌}
use mathlib.Core.Path.{◌≡◌, refl}
use mathlib.Core.List.{List, [], ◌∷◌}
use lib.ListN.{length, get_or}
use Rattle.restrictive.proofs.Theorems.{passing-hides}
use Rattle.store.specs.Answer.{gives}
use Rattle.store.specs.Walk.{records}
use Rattle.store.specs.Reading.{count, part}
use Rattle.store.specs.Model as model
use Rattle.store.specs.Model.{Call, clear, load, hookup, records_after, answers}
use Rattle.store.specs.Demand.{step, shelf_after, shelf_answers, BytesLoaded, Hides, AllForeseen, Demand3}
use Rattle.store.proofs.Each.{each_at}
use Rattle.store.proofs.Simulation.{Good, good_accepted, Holds, holds-walk, holds-room, Together}
use Rattle.store.proofs.Simulation.{clear-together, load-together, hookup-together}

-- ---- many calls

-- What a list of calls leaves on the shelf and in the model, and the answers.
record Alike (n : ℕ) (calls : List Call) (s : List ℕ) (rs : List (List ℕ)) : Type 0 where
  holds : Holds n (shelf_after calls s) (records_after n calls rs)
  same : shelf_answers calls s ≡ answers n calls rs
  foreseen : AllForeseen (shelf_answers calls s)

module _ (n : ℕ) (c : Call) (calls : List Call) (s : List ℕ) (rs : List (List ℕ)) where
  -- One call, and the calls after it.
  then : Together n (step c s) (model.step n c rs)
      → (Holds n (step c s).shelf (model.step n c rs).records
      → Alike n calls (step c s).shelf (model.step n c rs).records)
      → Alike n (c ∷ calls) s rs
  unfolding shelf_after shelf_answers records_after answers
  then first more =
      let later = more first.holds in
      let one = first.same in
      let others = later.same in
      record { holds = later.holds; same = cc (one, others); foreseen = (first.foreseen, later.foreseen) }

alike : (n : ℕ) (calls : List Call) (s : List ℕ) (rs : List (List ℕ)) → BytesLoaded calls → Holds n s rs
    → Alike n calls s rs
unfolding shelf_after shelf_answers records_after answers step model.step
alike n [] s rs b h = record { holds = h; same = refl; foreseen = tt }
alike n (clear ∷ calls) s rs b h =
    then n clear calls s rs (clear-together n s h.size (holds-room n s rs h))
    (alike n calls (step clear s).shelf [] b)
alike n (load r ∷ calls) s rs b h =
    then n (load r) calls s rs (load-together n s rs h r b.0)
    (alike n calls (step (load r) s).shelf (model.step n (load r) rs).records b.1)
alike n (hookup i j ∷ calls) s rs b h =
    then n (hookup i j) calls s rs (hookup-together n s rs h i j)
    (alike n calls (step (hookup i j) s).shelf (model.step n (hookup i j) rs).records b)

-- ---- reading a shelf

module _ (n : ℕ) (s : List ℕ) (rs : List (List ℕ)) (h : Holds n s rs) where
  count_is : count s ≡ gives (length rs)
  unfolding count
  count_is = rw (holds-walk n s rs h, count)

  records_are : records s ≡ rs
  unfolding records
  records_are = rw (holds-walk n s rs h, records)

  part-hides : (i : ℕ) → i < length rs → Hides (part s i)
  unfolding part
  part-hides i l =
      rw records_are
      (let g = each_at Good rs h.good i l in
      let a = good_accepted (get_or rs i []) g in
      record { accepted = a; hides = λ n. passing-hides (get_or rs i []) a n g.passing })

-- ---- demand 3

pub demand3 : Demand3
unfolding step model.step
demand3 s six calls b =
    let n = length s in
    let all = then n clear calls s [] (clear-together n s refl six) (alike n calls (step clear s).shelf [] b) in
    let h = all.holds in
    record {
      begins = record { rest = h.rest; so = h.laid };
      size = h.size;
      same_answers = all.same;
      foreseen = all.foreseen;
      held = records_are n _ _ h;
      counted = count_is n _ _ h;
      hidden = part-hides n _ _ h;
    }
