use Rattle.std.proofs.Common.{refl, sym, ap, ◌∙◌, arith}
use mathlib.Core.Option.{some}
use Rattle.bounded.specs.Search.{first}
use Rattle.bounded.proofs.Search.{first_hit, first_more, first-nothing, first_done}
use Rattle.restrictive.specs.Found.{found_of}
use Rattle.restrictive.specs.Verdict.{event_violation}
use Rattle.restrictive.proofs.Offers.{stepless, has_step}
use Rattle.restrictive.proofs.search.Search.input_violation.Goals as goal

pub returns-then-is_enabled : goal.returns-then-is_enabled
unfolding found_of event_violation
returns-then-is_enabled c =
    sym (first-nothing _ _ (λ s h.
    has_step _ _ _ s c.requires.event_value (λ t l. c.args.self.now.sound.within _ _ t c.requires.event_bound h l)
    (c.is_enabled.ensures.0 c.if-is_enabled.true s h)))

pub loop-s-init : goal.loop-s-init
unfolding first
loop-s-init c = refl

pub returns-then-row-eq0 : goal.returns-then-row-eq0
unfolding found_of event_violation
returns-then-row-eq0 c =
    ap some c.violation.ensures
    ∙ sym (first_hit _ _ _ _ (omega (arith, c.args.self.now.sound.sized)) c.loop-s.invariant
    (stepless _ _ _ _ c.requires.event_value c.args.self.now.sound.framed.one_state
    (sym c.row.ensures ∙ c.if-row-eq0.true)))

pub loop-s-preserved : goal.loop-s-preserved
loop-s-preserved c =
    first_more _ _ c.loop-s.invariant
    (has_step _ _ _ _ c.requires.event_value
    (λ t l. c.args.self.now.sound.within _ _ t c.requires.event_bound (omega (arith, c.args.self.now.sound.sized)) l)
    (λ e. c.if-row-eq0.false (c.row.ensures ∙ e)))

pub returns : goal.returns
unfolding found_of event_violation
returns c = sym (first_done _ _ _ (omega (arith, c.args.self.now.sound.sized)) c.loop-s.invariant)
