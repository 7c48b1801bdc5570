-- The kinds of record and of event, as the code names them, and the numbers that stand for them in a record.
use Rattle.std.specs.Prelude.{◌≡◌, ℕ, Option, Some, None, Result, MatchResult, cond, eqb}
use Rattle.machine.specs.Machine as machine
use Rattle.part.specs.declared.format.Kind.{Kind}
use Rattle.part.specs.declared.format.Kind.TheVariants.{Single, Several, Limited}
use Rattle.part.specs.declared.format.UnknownKind.{UnknownKind}
use Rattle.part.specs.declared.format.EventKind.{EventKind}
use Rattle.part.specs.declared.format.EventKind.TheVariants.{Input, Output, Internal}
use Rattle.part.specs.Format.{single_kind, several_kind, limited_kind}

-- The kind of record that a number stands for, if any.
unfoldable pub kind_with : ℕ → Option Kind
kind_with k =
    cond (eqb k single_kind) (Some Single)
    (cond (eqb k several_kind) (Some Several) (cond (eqb k limited_kind) (Some Limited) None))

-- The number of a kind of record.
abbrev pub kind_number : Kind → ℕ
kind_number Single = single_kind
kind_number Several = several_kind
kind_number Limited = limited_kind

-- What is read of a number: the kind that it stands for, or that there is none.
abbrev pub ReadsKind : ℕ → Result Kind UnknownKind → Type 0
ReadsKind k r = MatchResult r (λ kind. kind_with k ≡ Some kind) (λ _. kind_with k ≡ None)

-- The machine's name of a kind of event.
abbrev pub machine_kind : EventKind → machine.Kind
machine_kind Input = machine.input
machine_kind Output = machine.output
machine_kind Internal = machine.internal
