-- What the code reads in a script, as an operation of specs/Operation.antt.
use Rattle.std.specs.Prelude.{Option, Some, None, Result, Ok, Err}
use Rattle.script.specs.declared.operation.Call as call
use Rattle.script.specs.declared.operation.Call.TheVariants.{Clear, Load, Hookup}
use Rattle.script.specs.declared.operation.Operation as operation
use Rattle.script.specs.declared.operation.Operation.TheVariants.{Call, Count, Part}
use Rattle.script.specs.declared.operation.Stop.{Stop}
use Rattle.script.specs.declared.operation.Stop.TheVariants.{Truncated, Unknown}
use Rattle.script.specs.Operation as plain

-- Each call.
unfoldable pub operation_of_call : call.Call → plain.Operation
operation_of_call Clear = plain.clear
operation_of_call (Load r) = plain.load r.now
operation_of_call (Hookup i j) = plain.hookup i j

-- Each case of an operation.
unfoldable pub operation_of : operation.Operation → plain.Operation
operation_of (Call c) = operation_of_call c
operation_of Count = plain.count
operation_of (Part i) = plain.part i

-- Why none can be read.
unfoldable pub stop_of : Stop → plain.Operation
stop_of Truncated = plain.truncated
stop_of Unknown = plain.unknown

-- An operation, the end of the script, or why none can be read.
unfoldable pub read_of : Result (Option operation.Operation) Stop → plain.Operation
read_of (Ok None) = plain.ended
read_of (Ok (Some o)) = operation_of o
read_of (Err e) = stop_of e

-- An operation, or why none can be read.
unfoldable pub item_of : Result operation.Operation Stop → plain.Operation
item_of (Ok o) = operation_of o
item_of (Err e) = stop_of e
