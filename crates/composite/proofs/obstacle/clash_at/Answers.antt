use Rattle.std.proofs.Common.{◌≡◌, sym, ◌∙◌}
use Rattle.part.specs.Record.{event_kind}
use Rattle.part.specs.Events.{kind_of}
use Rattle.composite.specs.Meeting.{meets}
use Rattle.composite.proofs.Obstacles.{kinds-clash, levels-clash, meets_some}
use Rattle.composite.proofs.obstacle.clash_at.Goals as goal
use Rattle.composite.proofs.obstacle.clash_at.Goals.{After-is_some-meets, then-meets, else-meets}

-- What the table says of the kinds that were read.
met : (c : After-is_some-meets) → let a = c.args in
    c.is_some-meets.result ≡ meets (kind_of (event_kind a.a.record.bytes.now a.i)) (kind_of (event_kind a.b.record.bytes.now a.j))
met c =
    rw (c.is_some-meets.ensures, c.meeting.ensures, c.event_kind.ensures, c.event_kind-2.ensures) (meets_some _ _)

pub returns : goal.returns
returns c =
    let p = c.requires in
    let is = met (goal.at.returns c).After-is_some-meets in
    elim c.if-meets.branch [
      | then-meets w ↦
          rw (w.result-is, w.level.ensures, w.level-then-meets.ensures)
          (levels-clash _ _ c.args.a.accepted _ p.i_bound _ p.j_value (sym is ∙ w.if-meets.true))
      | else-meets w ↦
          rw (w.result-is, w.if-meets.false)
          (kinds-clash _ _ c.args.a.accepted _ p.i_bound _ p.j_value (sym is ∙ w.if-meets.false))
    ]
