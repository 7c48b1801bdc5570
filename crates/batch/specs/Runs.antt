-- A host's runs on one shelf: scripts that are run one behind the other, each with a buffer for its answers.
use Rattle.std.specs.Prelude.{ℕ, List, [], ◌∷◌, ◌++◌, length, take, drop}
use Rattle.words.specs.LittleEndian.{Bytes}
use Rattle.words.specs.Laid.{over}
use Rattle.store.specs.Answer.{Answer}
use Rattle.store.specs.Model.{Call}
use Rattle.store.specs.Demand.{shelf_after, shelf_answers}
use Rattle.batch.specs.Slots.{slots}
use Rattle.batch.specs.Running.{made}

-- A script, and the buffer that is lent for its answers.
pub record Run : Type 0 where
  pub script : List ℕ
  pub out : List ℕ

-- The calls that it makes.
abbrev pub made_by : Run → List Call
made_by r = made r.script (length r.out)

unfoldable pub all_made : List Run → List Call
all_made [] = []
all_made (r ∷ rs) = made_by r ++ all_made rs

-- The shelf after some runs, each on the shelf as the one before left it, and their buffers: what the contract of `run`
-- says.
unfoldable pub shelf_after_runs : List Run → List ℕ → List ℕ
shelf_after_runs [] s = s
shelf_after_runs (r ∷ rs) s = shelf_after_runs rs (shelf_after (made_by r) s)

unfoldable pub buffers_after : List Run → List ℕ → List (List ℕ)
buffers_after [] s = []
buffers_after (r ∷ rs) s =
    over r.out 0 (slots (shelf_answers (made_by r) s)) ∷ buffers_after rs (shelf_after (made_by r) s)

-- Some answers in turn, as many over the start of each buffer as its run makes calls.
unfoldable pub dealt : List Run → List Answer → List (List ℕ)
dealt [] told = []
dealt (r ∷ rs) told =
    over r.out 0 (slots (take (length (made_by r)) told)) ∷ dealt rs (drop (length (made_by r)) told)

-- The scripts are bytes.
abbrev pub BytesRun : List Run → Type 0
BytesRun [] = Unit {0}
BytesRun (r ∷ rs) = Bytes r.script × BytesRun rs
