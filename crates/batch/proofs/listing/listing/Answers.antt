use Rattle.std.proofs.Common.{◌≡◌, refl}
use Rattle.std.proofs.Math.Option.{some}
use Rattle.script.specs.Answers.{operation_of, item_of}
use Rattle.batch.specs.Script.{call_of}
use Rattle.batch.proofs.Calls.{passed_none, passed_end, passed_stuck, passed_next, some-call, no_call, no_stop}
use Rattle.batch.proofs.Calls.{listed-all, listed-none, unlisted}
use Rattle.batch.proofs.listing.listing.Goals as goal

pub loop-item-init : goal.loop-item-init
loop-item-init c =
    rw (c.into_iter-item-iterator.ensures.into_iter_gives, c.of-item-items.ensures) (passed_none c.args.script.now)

pub returns-in_err-item : goal.returns-in_err-item
returns-in_err-item c =
    unlisted c.from_residual.result _ c.from_residual.ensures.1
    (listed-none _
    (passed_stuck _ _ _ _ (rw c.in-Some.ensures.steps at c.loop-item.invariant) (rw c.in_err-item.was (no_stop _))))

pub returns-in_default : goal.returns-in_default
unfolding item_of
returns-in_default c = record {
  none_listed = listed-none _
      (passed_stuck _ _ _ _ (rw c.in-Some.ensures.steps at c.loop-item.invariant)
      (rw c.in_ok-item.was (no_call _ c.in_default.not-Call)));
  told = refl;
}

pub loop-item-preserved : goal.loop-item-preserved
unfolding item_of operation_of
loop-item-preserved c =
    let call = some-call c.in-Call.field-0 in
    let is : call_of (item_of c.in-Some.item) ≡ some call.call = rw (c.in_ok-item.was, c.in-Call.is) call.is in
    passed_next _ _ _ _ (rw c.in-Some.ensures.steps at c.loop-item.invariant) is

pub returns : goal.returns
returns c = listed-all _ _ (passed_end _ _ (rw c.in-None.ensures.steps.0 at c.loop-item.invariant))
