use Rattle.std.proofs.Common.{ℕ, ◌≡◌, refl, sym, ap, ◌∙◌, List, [], arith, length}
use Rattle.words.specs.Laid.{over}
use Rattle.words.proofs.LaidLaws.{over_nothing}
use Rattle.store.specs.Model.{Call}
use Rattle.store.specs.Demand.{shelf_after, shelf_answers}
use Rattle.batch.specs.Slots.{slots}
use Rattle.batch.proofs.Runs.{run_malformed, run_too_few, run-all, told-malformed}
use Rattle.batch.proofs.run.run.Goals as goal

-- No call is made, and nothing changes.
nothing-made : {cs : List Call} (s out : List ℕ) → cs ≡ []
    → (s ≡ shelf_after cs s) × (out ≡ over out 0 (slots (shelf_answers cs s)))
unfolding shelf_after shelf_answers slots
nothing-made s out e = rw e (refl, sym (over_nothing out 0))

pub returns-in_err-n-clause-result_value : goal.returns-in_err-n-clause-result_value
returns-in_err-n-clause-result_value c =
    let why = c.in_err-n.ensures in
    told-malformed c.from_residual.result _ c.from_residual.ensures.1 why.told
    ∙ (run_malformed _ (length c.args.out.now) why.none_listed).0

pub returns-in_err-n-clause-shelf_after : goal.returns-in_err-n-clause-shelf_after
returns-in_err-n-clause-shelf_after c =
    let why = c.in_err-n.ensures in
    (nothing-made c.args.shelf.now c.args.out.now (run_malformed _ _ why.none_listed).1).0

pub returns-in_err-n-clause-out_after : goal.returns-in_err-n-clause-out_after
returns-in_err-n-clause-out_after c =
    let why = c.in_err-n.ensures in
    (nothing-made c.args.shelf.now c.args.out.now (run_malformed _ _ why.none_listed).1).1

pub returns-then-out-n-clause-result_value : goal.returns-then-out-n-clause-result_value
returns-then-out-n-clause-result_value c =
    let found = c.in_ok-n.ensures in
    let few = run_too_few _ (length c.args.out.now) found.all (omega (arith, found.many)) in
    few.0

pub returns-then-out-n-clause-shelf_after : goal.returns-then-out-n-clause-shelf_after
returns-then-out-n-clause-shelf_after c =
    let found = c.in_ok-n.ensures in
    let few = run_too_few _ (length c.args.out.now) found.all (omega (arith, found.many)) in
    (nothing-made c.args.shelf.now c.args.out.now few.1).0

pub returns-then-out-n-clause-out_after : goal.returns-then-out-n-clause-out_after
returns-then-out-n-clause-out_after c =
    let found = c.in_ok-n.ensures in
    let few = run_too_few _ (length c.args.out.now) found.all (omega (arith, found.many)) in
    (nothing-made c.args.shelf.now c.args.out.now few.1).1

pub perform_all-requires-clause-script_value : goal.perform_all-requires-clause-script_value
perform_all-requires-clause-script_value c =
    let found = c.in_ok-n.ensures in
    found.all

pub perform_all-requires-clause-has_room : goal.perform_all-requires-clause-has_room
perform_all-requires-clause-has_room c =
    let found = c.in_ok-n.ensures in
    omega (arith, found.many)

pub returns-clause-result_value : goal.returns-clause-result_value
returns-clause-result_value c =
    let found = c.in_ok-n.ensures in
    let whole = run-all _ (length c.args.out.now) found.all (omega (arith, found.many)) in
    whole.0

pub returns-clause-shelf_after : goal.returns-clause-shelf_after
returns-clause-shelf_after c =
    let found = c.in_ok-n.ensures in
    let whole = run-all _ (length c.args.out.now) found.all (omega (arith, found.many)) in
    rw whole.1 c.perform_all.ensures.shelf_after

pub returns-clause-out_after : goal.returns-clause-out_after
returns-clause-out_after c =
    let found = c.in_ok-n.ensures in
    let whole = run-all _ (length c.args.out.now) found.all (omega (arith, found.many)) in
    rw whole.1 c.perform_all.ensures.out_after
