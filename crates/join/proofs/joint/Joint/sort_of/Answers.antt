use Rattle.std.proofs.Common.{◌≡◌, refl, ◌∙◌}
use Rattle.std.specs.Prelude.{Some}
use mathlib.Core.Option.{some}
use Rattle.part.specs.declared.format.EventKind.TheVariants.{Internal}
use Rattle.part.specs.Events.{place}
use Rattle.part.proofs.Places.{place-stands}
use Rattle.join.proofs.Placing.{facts, first_at, second_at, first_none, second_none}
use Rattle.join.proofs.HeadEntries.{sort_none, sort_first, sort_second, sort_shared, becomes_internal}
use Rattle.join.proofs.joint.Joint.sort_of.Goals as goal
use Rattle.join.proofs.joint.Joint.sort_of.Goals.{In-Some-Some, After-meeting}

-- The two places of a shared event.
there : (c : In-Some-Some) → place c.args.self.now.a.bytes.now c.args.place.identifier ≡ some c.in-Some-Some.i
there c = first_at _ _ c.requires c.in-Some-Some.is-0

here : (c : In-Some-Some) → place c.args.self.now.b.bytes.now c.args.place.identifier ≡ some c.in-Some-Some.j
here c = second_at _ _ c.requires c.in-Some-Some.is-1

-- It becomes an internal event.
internal : (c : After-meeting) → c.meeting.result ≡ Some Internal
internal c =
    let d = (goal.at.unwrap-kind-requires c).In-Some-Some in
    rw (c.meeting.ensures, c.event_kind.ensures, c.event_kind-in-Some-Some.ensures)
    (becomes_internal _ _ _ _ _ (there d) (here d) (facts c.args.self.now))

pub event_kind-requires : goal.event_kind-requires
event_kind-requires c = (place-stands _ _ _ (there (goal.at.event_kind-requires c).In-Some-Some)).0

pub event_kind-requires-in-Some-Some : goal.event_kind-requires-in-Some-Some
event_kind-requires-in-Some-Some c = (place-stands _ _ _ (here (goal.at.event_kind-requires-in-Some-Some c).In-Some-Some)).0

pub unwrap-kind-requires : goal.unwrap-kind-requires
unwrap-kind-requires c = rw (internal c) refl

pub level-requires : goal.level-requires
level-requires c = (place-stands _ _ _ (there (goal.at.level-requires c).In-Some-Some)).0

pub kind_byte-requires : goal.kind_byte-requires
kind_byte-requires c = (place-stands _ _ _ (first_at _ _ c.requires c.in-Some-None.is-0)).0

pub level-requires-in-Some-None : goal.level-requires-in-Some-None
level-requires-in-Some-None c = (place-stands _ _ _ (first_at _ _ c.requires c.in-Some-None.is-0)).0

pub kind_byte-requires-in-None-Some : goal.kind_byte-requires-in-None-Some
kind_byte-requires-in-None-Some c = (place-stands _ _ _ (second_at _ _ c.requires c.in-None-Some.is-1)).0

pub level-requires-in-None-Some : goal.level-requires-in-None-Some
level-requires-in-None-Some c = (place-stands _ _ _ (second_at _ _ c.requires c.in-None-Some.is-1)).0

pub returns-in-Some-Some-clause-kind_value : goal.returns-in-Some-Some-clause-kind_value
returns-in-Some-Some-clause-kind_value c =
    let at = goal.at.returns-in-Some-Some-clause-kind_value c in
    let is : c.unwrap-kind.result ≡ Internal = cc (internal at.After-meeting) in
    rw is (sort_shared _ _ _ _ _ (there at.In-Some-Some) (here at.In-Some-Some)).0

pub returns-in-Some-Some-clause-level_value : goal.returns-in-Some-Some-clause-level_value
returns-in-Some-Some-clause-level_value c =
    let d = (goal.at.returns-in-Some-Some-clause-level_value c).In-Some-Some in
    c.level.ensures ∙ (sort_shared _ _ _ _ _ (there d) (here d)).1

pub returns-in-Some-None-clause-kind_value : goal.returns-in-Some-None-clause-kind_value
returns-in-Some-None-clause-kind_value c =
    c.kind_byte.ensures
    ∙ (sort_first _ _ _ c.args.self.now.first _ (first_at _ _ c.requires c.in-Some-None.is-0)
    (second_none _ _ c.requires c.in-Some-None.is-1)).0

pub returns-in-Some-None-clause-level_value : goal.returns-in-Some-None-clause-level_value
returns-in-Some-None-clause-level_value c =
    c.level-in-Some-None.ensures
    ∙ (sort_first _ _ _ c.args.self.now.first _ (first_at _ _ c.requires c.in-Some-None.is-0)
    (second_none _ _ c.requires c.in-Some-None.is-1)).1

pub returns-in-None-Some-clause-kind_value : goal.returns-in-None-Some-clause-kind_value
returns-in-None-Some-clause-kind_value c =
    c.kind_byte-in-None-Some.ensures
    ∙ (sort_second _ _ _ c.args.self.now.second _ (first_none _ _ c.requires c.in-None-Some.is-0)
    (second_at _ _ c.requires c.in-None-Some.is-1)).0

pub returns-in-None-Some-clause-level_value : goal.returns-in-None-Some-clause-level_value
returns-in-None-Some-clause-level_value c =
    c.level-in-None-Some.ensures
    ∙ (sort_second _ _ _ c.args.self.now.second _ (first_none _ _ c.requires c.in-None-Some.is-0)
    (second_at _ _ c.requires c.in-None-Some.is-1)).1

pub returns-in-None-None-clause-kind_value : goal.returns-in-None-None-clause-kind_value
returns-in-None-None-clause-kind_value c =
    (sort_none _ _ _ (first_none _ _ c.requires c.in-None-None.is-0) (second_none _ _ c.requires c.in-None-None.is-1)).0

pub returns-in-None-None-clause-level_value : goal.returns-in-None-None-clause-level_value
returns-in-None-None-clause-level_value c =
    (sort_none _ _ _ (first_none _ _ c.requires c.in-None-None.is-0) (second_none _ _ c.requires c.in-None-None.is-1)).1
