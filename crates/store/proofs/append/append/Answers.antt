use Rattle.std.proofs.Common.{refl, arith}
use Rattle.store.specs.Walk.{records}
use Rattle.store.proofs.Appends.{append_full, append_laid}
use Rattle.store.proofs.append.append.Goals as goal

pub returns-then-s-place-clause-result_value : goal.returns-then-s-place-clause-result_value
returns-then-s-place-clause-result_value c =
    let s = c.args.s.now in
    simp (append_full s (records s) c.args.r.now (omega (arith, c.requires.place))) (refl)

pub returns-then-s-place-clause-s_after : goal.returns-then-s-place-clause-s_after
returns-then-s-place-clause-s_after c =
    let s = c.args.s.now in
    simp (append_full s (records s) c.args.r.now (omega (arith, c.requires.place))) (refl)

pub returns-clause-s_after : goal.returns-clause-s_after
returns-clause-s_after c =
    let room = c.if-s-place.false in
    simp (append_laid c.args.s.now c.args.r.now _ _ _ _ c.requires (omega arith)
    c.lay-behind.ensures) (c.put_end.ensures)

pub returns-clause-result_value : goal.returns-clause-result_value
returns-clause-result_value c =
    let room = c.if-s-place.false in
    simp (append_laid c.args.s.now c.args.r.now _ _ _ _ c.requires (omega arith)
    c.lay-behind.ensures) (refl)
