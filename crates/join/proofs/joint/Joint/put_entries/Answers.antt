use Rattle.std.proofs.Common.{◌≡◌, arith, length}
use Rattle.words.proofs.LaidLaws.{nothing_laid}
use Rattle.composite.specs.Joined.{merged}
use Rattle.join.specs.Pieces.{all_entries}
use Rattle.join.proofs.Placing.{length_placed, placed_at}
use Rattle.join.proofs.HeadEntries.{entries_next}
use Rattle.join.proofs.joint.Joint.put_entries.Goals as goal

pub loop-i-init : goal.loop-i-init
loop-i-init c = nothing_laid _ _ _

pub put_entry-requires-clause-is_placed : goal.put_entry-requires-clause-is_placed
put_entry-requires-clause-is_placed c = (placed_at _ _ c.loop-i.i _ c.requires.are_placed c.loop-i-test.true).0

pub loop-i-preserved : goal.loop-i-preserved
loop-i-preserved c =
    entries_next _ _ _ _ c.loop-i.i (placed_at _ _ c.loop-i.i _ c.requires.are_placed c.loop-i-test.true).1
    c.loop-i.invariant c.put_entry.ensures

pub returns : goal.returns
unfolding all_entries
returns c =
    let self = c.args.self.now in
    let all : c.loop-i.i ≡ length (merged self.a.bytes.now self.b.bytes.now) =
    omega (arith, length_placed _ _ c.requires.are_placed) in
    rw (← all) c.loop-i.invariant
