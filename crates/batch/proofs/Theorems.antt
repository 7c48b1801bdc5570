-- Demand 3 about runs.
use Prim.Native.Nat.{ℕ, suc, ◌+◌, ◌≤◌, ◌<◌}
use mathlib.Core.Path.{◌≡◌, refl, sym, ap, ◌∙◌}
use mathlib.Core.List.{List, [], ◌∷◌, ◌++◌}
use mathlib.Core.Option.{Option, none, some}
use native.Mathlib.Omega.{arith}
use lib.ListN.{length, take, drop, length-drop}
use lib.Seq.{length-take-le, get_or-take, get_or-drop, take-append_seam, drop-append_seam}
use Rattle.words.specs.LittleEndian.{Bytes}
use Rattle.words.specs.Laid.{over}
use Rattle.words.proofs.LittleEndian.{byte_lt}
use Rattle.script.specs.Operation as script
use Rattle.script.specs.Operation.{operation, size}
use Rattle.script.proofs.Operations.{Stands, a_clear, a_load, a_hookup, a_count, a_part, at_end, cut_off, another}
use Rattle.script.proofs.Operations.{stands}
use Rattle.store.specs.Answer.{Answer}
use Rattle.store.specs.Model.{Call, clear, load, hookup}
use Rattle.store.specs.Demand.{step, shelf_after, shelf_answers, BytesLoaded}
use Rattle.store.proofs.Theorems.{demand3}
use Rattle.batch.specs.Script.{call_of, calls, listed}
use Rattle.batch.specs.Slots.{slots}
use Rattle.batch.specs.Running.{refusal, made}
use Rattle.batch.specs.Runs.{Run, made_by, all_made, shelf_after_runs, buffers_after, dealt, BytesRun}
use Rattle.batch.specs.Theorems.{RunsDemand3}
use Rattle.batch.proofs.Calls.{calls-some-left, calls-first}

-- ---- the records that a script of bytes loads

bytes_drop : (n : ℕ) (b : List ℕ) → Bytes b → Bytes (drop n b)
bytes_drop n b h i l = rw get_or-drop (byte_lt b h (n + i))

bytes_take : (n : ℕ) (b : List ℕ) → n ≤ length b → Bytes b → Bytes (take n b)
bytes_take n b w h i l = let inside : i < n = omega (arith, length-take-le n b w) in rw get_or-take (byte_lt b h i)

loaded_one : {s : List ℕ} {o : script.Operation} {c : Call} (cs : List Call) → Bytes s → Stands s o
    → call_of o ≡ some c → BytesLoaded cs
    → BytesLoaded (c ∷ cs)
unfolding call_of
loaded_one {s} {o} {c} cs b (a_clear l) e more = let is : clear ≡ c = cc in rw (← is) more
loaded_one {s} {o} {c} cs b (a_load n l) e more =
    let is : load (take n (drop 5 s)) ≡ c = cc in
    rw (← is) (bytes_take n (drop 5 s) (simp length-drop (omega arith)) (bytes_drop 5 s b), more)
loaded_one {s} {o} {c} cs b (a_hookup i j l) e more = let is : hookup i j ≡ c = cc in rw (← is) more
loaded_one cs b (a_count l) e more = let z : ◌≡◌ {A = ℕ} 0 1 = cc in absurd (omega arith)
loaded_one cs b (a_part i l) e more = let z : ◌≡◌ {A = ℕ} 0 1 = cc in absurd (omega arith)
loaded_one cs b (at_end l) e more = let z : ◌≡◌ {A = ℕ} 0 1 = cc in absurd (omega arith)
loaded_one cs b cut_off e more = let z : ◌≡◌ {A = ℕ} 0 1 = cc in absurd (omega arith)
loaded_one cs b another e more = let z : ◌≡◌ {A = ℕ} 0 1 = cc in absurd (omega arith)

loaded : (cs : List Call) (s : List ℕ) → Bytes s → calls s ≡ some cs → BytesLoaded cs
loaded [] s b e = tt
loaded (c ∷ cs) s b e =
    let f = calls-first s (c ∷ cs) (calls-some-left s c cs e) e in
    let all = f.all in
    let first : f.call ≡ c = cc in
    let rest : f.others ≡ cs = cc in
    let n = size (operation s) in
    loaded_one cs b (stands s) (f.is ∙ ap some first)
    (loaded cs (drop n s) (bytes_drop n s b) (f.behind ∙ ap some rest))

loaded_both : (cs ds : List Call) → BytesLoaded cs → BytesLoaded ds → BytesLoaded (cs ++ ds)
loaded_both [] ds a b = b
loaded_both (clear ∷ cs) ds a b = loaded_both cs ds a b
loaded_both (load r ∷ cs) ds a b = (a.0, loaded_both cs ds a.1 b)
loaded_both (hookup i j ∷ cs) ds a b = loaded_both cs ds a b

loaded_listed : (s : List ℕ) → Bytes s → BytesLoaded (listed s)
unfolding listed
loaded_listed s b = go (calls s) refl
  where
    go : (o : Option (List Call)) → calls s ≡ o → BytesLoaded (listed s)
    go none q = rw (q, listed) tt
    go (some cs) q = rw (q, listed) (loaded cs s b q)

loaded_made : (s : List ℕ) (room : ℕ) → Bytes s → BytesLoaded (made s room)
unfolding made
loaded_made s room b = go (refusal s room) refl
  where
    go : (o : Option ℕ) → refusal s room ≡ o → BytesLoaded (made s room)
    go none q = rw (q, made) (loaded_listed s b)
    go (some k) q = rw (q, made) tt

loaded_all : (rs : List Run) → BytesRun rs → BytesLoaded (all_made rs)
unfolding all_made
loaded_all [] b = tt
loaded_all (r ∷ rs) b =
    loaded_both (made_by r) (all_made rs) (loaded_made r.script (length r.out) b.0) (loaded_all rs b.1)

-- ---- one list of calls

shelf_both : (cs ds : List Call) (s : List ℕ) → shelf_after (cs ++ ds) s ≡ shelf_after ds (shelf_after cs s)
unfolding shelf_after
shelf_both [] ds s = refl
shelf_both (c ∷ cs) ds s = shelf_both cs ds (step c s).shelf

answers_both : (cs ds : List Call) (s : List ℕ)
    → shelf_answers (cs ++ ds) s ≡ shelf_answers cs s ++ shelf_answers ds (shelf_after cs s)
unfolding shelf_after shelf_answers
answers_both [] ds s = refl
answers_both (c ∷ cs) ds s =
    ap (λ (more : List Answer). (step c s).answer ∷ more) (answers_both cs ds (step c s).shelf)

as_many : (cs : List Call) (s : List ℕ) → length (shelf_answers cs s) ≡ length cs
unfolding shelf_answers
as_many [] s = refl
as_many (c ∷ cs) s = ap suc (as_many cs (step c s).shelf)

-- ---- the runs

runs_shelf : (rs : List Run) (s : List ℕ) → shelf_after_runs rs s ≡ shelf_after (all_made rs) s
unfolding shelf_after_runs all_made shelf_after
runs_shelf [] s = refl
runs_shelf (r ∷ rs) s =
    runs_shelf rs (shelf_after (made_by r) s) ∙ sym (shelf_both (made_by r) (all_made rs) s)

runs_answers : (rs : List Run) (s : List ℕ) → buffers_after rs s ≡ dealt rs (shelf_answers (all_made rs) s)
unfolding buffers_after all_made dealt
runs_answers [] s = refl
runs_answers (r ∷ rs) s =
    let mine = shelf_answers (made_by r) s in
    let others = shelf_answers (all_made rs) (shelf_after (made_by r) s) in
    rw (
      answers_both (made_by r) (all_made rs) s,
      ← as_many (made_by r) s,
      take-append_seam mine others,
      drop-append_seam mine others,
    )
    (ap (λ (more : List (List ℕ)). over r.out 0 (slots mine) ∷ more) (runs_answers rs (shelf_after (made_by r) s)))

-- ---- demand 3

pub runs_demand3 : RunsDemand3
runs_demand3 runs s cs b e six =
    let m = demand3 s six cs (rw e at (loaded_all runs b)) in
    record {
      shelf = rw (← e) (runs_shelf runs s);
      same_answers = runs_answers runs s
          ∙ ap (λ (made : List Call). dealt runs (shelf_answers made s)) e
          ∙ ap (dealt runs) m.same_answers;
      meets = m;
    }
