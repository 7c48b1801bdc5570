use Rattle.std.proofs.Common.{◌≡◌, Err, refl, sym, ap, ◌∙◌, [], ◌∷◌}
use Rattle.screening.specs.Answers.{number_of}
use Rattle.restrictive.specs.declared.answer.Failure.TheVariants.{Refused, Breaks}
use Rattle.restrictive.specs.Verdict.{breaks, refused, verdict, taken}
use Rattle.restrictive.specs.Answers.{violation_of, failure_of, verdict_of, taken_of, limit_of}
use Rattle.explain.specs.Answers.{explaining_of}
use Rattle.explain.proofs.Told.{told, told-refused, of_break, of_pass}
use Rattle.explain.proofs.call.explain.Goals as goal
use Rattle.explain.proofs.call.explain.Goals.{In-Err-Breaks, In-Err-Refused}

-- what Check answers
broken : (c : In-Err-Breaks) → c.check-verdict.result ≡ Err (Breaks c.in-Err-Breaks.found)
broken c = c.in-Err-Breaks.is ∙ ap Err (rw c.in-Err-Breaks.is at c.in-Err-Breaks.field-0-is)

breaking : (c : In-Err-Breaks) → verdict c.args.bytes.now ≡ breaks (violation_of c.in-Err-Breaks.found.violation)
unfolding verdict_of failure_of
breaking c = sym c.check-verdict.ensures.verdict ∙ ap verdict_of (broken c)

counting : (c : In-Err-Breaks) → c.in-Err-Breaks.found.taken ≡ taken c.args.bytes.now
unfolding taken_of
counting c = sym (ap taken_of (broken c)) ∙ c.check-verdict.ensures.taken

refused_with : (c : In-Err-Refused) → c.check-verdict.result ≡ Err (Refused c.in-Err-Refused.field-0-0)
refused_with c = c.in-Err-Refused.is ∙ ap Err (rw c.in-Err-Refused.is at c.in-Err-Refused.field-0-is)

refusing : (c : In-Err-Refused) → verdict_of c.check-verdict.result ≡ refused (number_of c.in-Err-Refused.field-0-0)
unfolding verdict_of failure_of
refusing c = ap verdict_of (refused_with c)

pub returns-in-Err-Refused-clause-result_value : goal.returns-in-Err-Refused-clause-result_value
unfolding explaining_of
returns-in-Err-Refused-clause-result_value c =
    let e = refusing (goal.at.returns-in-Err-Refused-clause-result_value c).In-Err-Refused in
    (told-refused _ _ (sym c.check-verdict.ensures.verdict ∙ e) e).0

pub returns-in-Err-Refused-clause-out_after : goal.returns-in-Err-Refused-clause-out_after
returns-in-Err-Refused-clause-out_after c =
    let e = refusing (goal.at.returns-in-Err-Refused-clause-out_after c).In-Err-Refused in
    (told-refused _ _ (sym c.check-verdict.ensures.verdict ∙ e) e).1

pub returns-in-Err-Breaks-clause-result_value : goal.returns-in-Err-Breaks-clause-result_value
unfolding violation_of
returns-in-Err-Breaks-clause-result_value c =
    let at = (goal.at.returns-in-Err-Breaks-clause-result_value c).In-Err-Breaks in
    let v = c.in-Err-Breaks.found.violation in
    let numbers =
    c.number.result ∷ v.event ∷ v.s ∷ v.t ∷ v.u ∷ c.in-Err-Breaks.found.taken ∷ v.level ∷ 0 ∷ [] in
    (told _ _ numbers (sym c.check-verdict.ensures.verdict) (of_break _ (breaking at) (counting at) refl c.number.ensures)
    c.tell-in-Err-Breaks.ensures.result_value c.tell-in-Err-Breaks.ensures.out_after).0

pub returns-in-Err-Breaks-clause-out_after : goal.returns-in-Err-Breaks-clause-out_after
unfolding violation_of
returns-in-Err-Breaks-clause-out_after c =
    let at = (goal.at.returns-in-Err-Breaks-clause-out_after c).In-Err-Breaks in
    let v = c.in-Err-Breaks.found.violation in
    let numbers =
    c.number.result ∷ v.event ∷ v.s ∷ v.t ∷ v.u ∷ c.in-Err-Breaks.found.taken ∷ v.level ∷ 0 ∷ [] in
    (told _ _ numbers (sym c.check-verdict.ensures.verdict) (of_break _ (breaking at) (counting at) refl c.number.ensures)
    c.tell-in-Err-Breaks.ensures.result_value c.tell-in-Err-Breaks.ensures.out_after).1

pub returns-in-Ok-clause-result_value : goal.returns-in-Ok-clause-result_value
unfolding verdict_of taken_of limit_of
returns-in-Ok-clause-result_value c =
    let passing = sym c.check-verdict.ensures.verdict ∙ ap verdict_of c.in-Ok.is in
    let counted = sym (ap taken_of c.in-Ok.is) ∙ c.check-verdict.ensures.taken in
    let limited = sym (ap limit_of c.in-Ok.is) ∙ c.check-verdict.ensures.limit in
    (told _ _ (0 ∷ 0 ∷ 0 ∷ 0 ∷ 0 ∷ c.in-Ok.pass.taken ∷ 0 ∷ c.in-Ok.pass.limit ∷ []) passing
    (of_pass _ passing counted limited) c.tell.ensures.result_value c.tell.ensures.out_after).0

pub returns-in-Ok-clause-out_after : goal.returns-in-Ok-clause-out_after
unfolding verdict_of taken_of limit_of
returns-in-Ok-clause-out_after c =
    let passing = sym c.check-verdict.ensures.verdict ∙ ap verdict_of c.in-Ok.is in
    let counted = sym (ap taken_of c.in-Ok.is) ∙ c.check-verdict.ensures.taken in
    let limited = sym (ap limit_of c.in-Ok.is) ∙ c.check-verdict.ensures.limit in
    (told _ _ (0 ∷ 0 ∷ 0 ∷ 0 ∷ 0 ∷ c.in-Ok.pass.taken ∷ 0 ∷ c.in-Ok.pass.limit ∷ []) passing
    (of_pass _ passing counted limited) c.tell.ensures.result_value c.tell.ensures.out_after).1
