-- Demand 3 about runs: scripts run one behind the other on a shelf of six bytes or more, refused ones among them, of
-- which the first call is a Clear.
use Rattle.std.specs.Prelude.{ℕ, ◌≤◌, ◌≡◌, List, [], ◌∷◌, length}
use Rattle.store.specs.Model.{Call, clear, answers}
use Rattle.store.specs.Demand.{shelf_after, Meets}
use Rattle.batch.specs.Runs.{Run, all_made, shelf_after_runs, buffers_after, dealt, BytesRun}

-- The shelf is the one that demand 3 speaks of, for all their calls as one list, and the answers are the model's.
pub record RunsMeet (runs : List Run) (s : List ℕ) (cs : List Call) : Type 0 where
  pub shelf : shelf_after_runs runs s ≡ shelf_after (clear ∷ cs) s
  pub same_answers : buffers_after runs s ≡ dealt runs (answers (length s) (clear ∷ cs) [])
  pub meets : Meets s cs

abbrev pub RunsDemand3 : Type 0
RunsDemand3 =
    (runs : List Run) (s : List ℕ) (cs : List Call) → BytesRun runs → all_made runs ≡ clear ∷ cs → 6 ≤ length s
    → RunsMeet runs s cs
