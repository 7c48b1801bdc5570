use Rattle.std.proofs.Common.{◌+◌, ◌-◌, ◌≤◌, ◌≡◌, arith, length}
use Rattle.store.proofs.Readings.{part-stands}
use Rattle.store.proofs.record.record_at.Goals as goal
use Rattle.store.proofs.record.record_at.Goals.{After-extent-place}

-- The record lies on the shelf.
within : (c : After-extent-place) → c.extent-place.result.place + c.extent-place.result.size ≤ length c.args.s.now
within c =
    let spans = c.extent-place.ensures in
    rw (spans.starts, spans.long) (part-stands _ c.args.i c.requires.i_in_bounds).within

pub overflow_add-result : goal.overflow_add-result
overflow_add-result c = omega (arith, within c)

pub slice_bounds-result-end : goal.slice_bounds-result-end
slice_bounds-result-end c = omega (arith, within c)

pub returns : goal.returns
returns c =
    let e = c.extent-place.result in
    let size : e.place + e.size - e.place ≡ e.size = omega arith in
    rw (size, c.extent-place.ensures.starts, c.extent-place.ensures.long) (part-stands _ c.args.i c.requires.i_in_bounds).so
