use Rattle.std.proofs.Common.{refl, arith}
use Rattle.std.proofs.lemmas.Result.{err_from_is_err_and}
use Rattle.words.specs.Sets.{Rows}
use Rattle.words.proofs.Arrays.{filled_end}
use Rattle.words.specs.LittleEndian.{byte}
use Rattle.part.specs.Record.{states}
use Rattle.restrictive.specs.Sets.{reached}
use Rattle.restrictive.specs.Verdict.{violation_for}
use Rattle.restrictive.proofs.OfferArrays.{reached-classes, around_offers}
use Rattle.restrictive.proofs.Scans.{found_first, nothing-more, found-last}
use Rattle.restrictive.proofs.search.Search.with_closures.Goals as goal
use Rattle.restrictive.proofs.search.Search.with_closures.Goals.{After-gather_each-met}

-- the classes of a closure are those that silent steps lead to
meets : (c : After-gather_each-met) → let x = c.args.self.now in
    Rows (states x.b.bytes.now) c.gather_each-met.result
    (reached x.b.bytes.now x.observer (byte x.columns.column.classes.now))
meets c =
    let sound = c.args.self.now.sound in
    reached-classes _ _ _ sound.framed sound.within
    c.args.closure.now c.args.labels.now c.gather_each-met.result
    c.requires.rows c.requires.class_of
    (filled_end sound.sized c.gather_each-met.ensures).words

pub rule_4-requires-clause-rows : goal.rule_4-requires-clause-rows
rule_4-requires-clause-rows c = meets (goal.at.rule_4-requires-clause-rows c).After-gather_each-met

pub returns-in_err-rule_4 : goal.returns-in_err-rule_4
unfolding violation_for
returns-in_err-rule_4 c =
    let p = err_from_is_err_and c.from_residual.result c.from_residual.ensures.1 in
    rw (p.1, p.2) (found_first _ 3 _ c.in_err-rule_4.ensures c.requires.earlier_rules_hold 5 _ refl (omega arith))

pub by_event-requires-clause-offered_silently : goal.by_event-requires-clause-offered_silently
by_event-requires-clause-offered_silently c =
    let sound = c.args.self.now.sound in
    around_offers _ _ _ sound.framed sound.within
    c.args.closure.now c.gather_each-met.result c.requires.rows
    (meets (goal.at.by_event-requires-clause-offered_silently c).After-gather_each-met)

pub returns : goal.returns
unfolding violation_for
returns c =
    found-last _ 4 _ c.by_event.ensures
    (nothing-more _ 3 _ c.in_ok-rule_4.ensures c.requires.earlier_rules_hold refl)
