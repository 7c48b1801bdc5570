-- A script run on a shelf: whether it is refused, and the calls that are made.
use Rattle.std.specs.Prelude.{ℕ, ◌*◌, List, [], ltb, length}
use Rattle.std.proofs.Math.Option.{Option, none, some}
use Rattle.bounded.specs.Search.{when}
use Rattle.store.specs.Model.{Call}
use Rattle.batch.specs.Script.{calls, listed}

-- The first refusal, with so many bytes for the answers: 99, which is no refusal of the documents, for a malformed
-- script; 15 for fewer than 64 bytes for each call.
unfoldable pub refusal : List ℕ → ℕ → Option ℕ
refusal script room = elim (calls script) [ none ↦ some 99 | some cs ↦ when (ltb room (length cs * 64)) 15 ]

-- The calls that a run makes: those of the script, or none where it is refused.
unfoldable pub made : List ℕ → ℕ → List Call
made script room = elim (refusal script room) [ none ↦ listed script | some k ↦ [] ]
