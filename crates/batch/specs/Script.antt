-- A whole list of calls as bytes: the operations of a replay script, without Count and Part.
use Rattle.std.specs.Prelude.{ℕ, zero, suc, cond, List, [], ◌∷◌, ltb, length, drop}
use Rattle.std.proofs.Math.Option.{Option, none, some, map}
use Rattle.script.specs.Operation as script
use Rattle.script.specs.Operation.{Operation, operation, size}
use Rattle.store.specs.Model.{Call, clear, load, hookup}

-- The call of an operation, if it is Clear, Load or Hookup.
unfoldable pub call_of : Operation → Option Call
call_of script.clear = some clear
call_of (script.load r) = some (load r)
call_of (script.hookup i j) = some (hookup i j)
call_of script.count = none
call_of (script.part i) = none
call_of script.ended = none
call_of script.truncated = none
call_of script.unknown = none

-- The calls, one behind the other to the end of the bytes; none, where something else stands among them. At most so
-- many are looked at.
unfoldable pub calls_at_most : ℕ → List ℕ → Option (List Call)
calls_at_most zero s = none
calls_at_most (suc k) s =
    cond (ltb (length s) 1) (some [])
    (elim (call_of (operation s)) [
      | none ↦ none
      | some c ↦ map (λ (cs : List Call). c ∷ cs) (calls_at_most k (drop (size (operation s)) s))
    ])

-- Each call has a byte, so that no script has more calls than bytes.
unfoldable pub calls : List ℕ → Option (List Call)
calls s = calls_at_most (suc (length s)) s

-- The calls of a script; none where it is malformed.
unfoldable pub listed : List ℕ → List Call
listed s = elim (calls s) [ none ↦ [] | some cs ↦ cs ]
