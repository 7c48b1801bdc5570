-- The operations of a replay script one behind the other.
use Rattle.std.specs.Prelude.{ℕ, zero, suc, cond, List, [], ◌∷◌, ltb, eqb, length, drop}
use Rattle.script.specs.Operation.{Operation, operation, size}

-- The operations of some bytes, one behind the other, and the one at which they stop; n at most.
unfoldable pub operations_at_most : ℕ → List ℕ → List Operation
operations_at_most zero s = []
operations_at_most (suc n) s =
    cond (ltb (length s) 1) []
    (operation s ∷ cond (eqb (size (operation s)) 0) [] (operations_at_most n (drop (size (operation s)) s)))

-- All of them: each but the last takes a byte or more.
unfoldable pub operations : List ℕ → List Operation
operations s = operations_at_most (length s) s
