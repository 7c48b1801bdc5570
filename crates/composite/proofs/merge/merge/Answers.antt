use Rattle.std.proofs.Common.{ℕ, ◌+◌, ◌<◌, ap, ◌∙◌, List, arith}
use Rattle.words.specs.LittleEndian.{number}
use Rattle.composite.proofs.EntryWalk.{Walked, walked_none, walked_room, walked_more, walked_all, length_next}
use Rattle.composite.proofs.merge.merge.Goals as goal
use Rattle.composite.proofs.merge.merge.Goals.{After-past-j}

-- One turn more of the walk.
more : (c : After-past-j) →
    let a = c.args in
    let i = c.past-i.result in let j = c.past-j.result in
    Walked a.a.bytes.now a.b.bytes.now c.push.new.self.items i j × (c.loop-i.i + c.loop-i.j < i + j)
more c =
    let read =
    c.number-e.ensures.value ∙ ap (λ (r : List ℕ). number 2 r 0)
    c.next_entry-entry.ensures in
    walked_more c.args.a.framed c.args.b.framed c.loop-i.invariant.1 (omega arith) read
    c.push.ensures.items c.past-i.ensures c.past-j.ensures

pub loop-i-init : goal.loop-i-init
loop-i-init c = (omega arith, walked_none c.new-identifiers.ensures)

pub push-requires : goal.push-requires
push-requires c = (omega arith, walked_room c.args.a.framed c.args.b.framed c.loop-i.invariant.1 (omega arith))

pub number-e-requires-clause-room : goal.number-e-requires-clause-room
number-e-requires-clause-room c =
    let w = c.loop-i.invariant.1.within in
    rw (c.next_entry-entry.ensures, length_next _ _ c.args.a.framed c.args.b.framed _ _ w.0 w.1 (omega arith)) (omega arith)

pub loop-i-smaller : goal.loop-i-smaller
loop-i-smaller c = omega (arith, (more c).1)

pub loop-i-preserved : goal.loop-i-preserved
loop-i-preserved c = (c.loop-i.invariant.0, (more c).0)

pub returns : goal.returns
returns c = walked_all c.args.a.framed c.args.b.framed c.loop-i.invariant.1 (omega arith)
