-- One call of a script done.
use Rattle.std.specs.Prelude.{ℕ, ◌≡◌, List}
use Rattle.std.proofs.Math.Option.{some}
use Rattle.script.specs.Operation.{Operation}
use Rattle.store.specs.Answer.{Answer}
use Rattle.store.specs.Model.{Call}
use Rattle.store.specs.Demand.{step}
use Rattle.batch.specs.Script.{call_of}

-- If the operation o is a call, a is its answer on the shelf s, and s' the shelf after it.
abbrev pub Answered : Operation → List ℕ → Answer → List ℕ → Type 0
Answered o s a s' = (c : Call) → call_of o ≡ some c → (a ≡ (step c s).answer) × (s' ≡ (step c s).shelf)
