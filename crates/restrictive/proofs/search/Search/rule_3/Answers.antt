use Rattle.std.proofs.Common.{◌≡◌, refl, ◌∙◌, arith}
use Rattle.words.specs.LittleEndian.{byte}
use Rattle.part.specs.Record.{states, observing}
use Rattle.partition.specs.Sets.{ClassOf}
use Rattle.restrictive.specs.Verdict.{rule_violation}
use Rattle.restrictive.proofs.Offers.{coarse_rule}
use Rattle.restrictive.proofs.OfferArrays.{direct_led}
use Rattle.restrictive.proofs.search.Search.rule_3.Goals as goal

pub by_event-requires-clause-offered_directly : goal.by_event-requires-clause-offered_directly
by_event-requires-clause-offered_directly c =
    let sound = c.args.self.now.sound in
    let labelled : ClassOf (states c.args.self.now.b.bytes.now) (byte c.coarse.result.column.classes.now) c.args.labels.now =
    rw c.coarse.ensures.column c.requires.class_of in
    direct_led _ _ _ sound.framed sound.within _ labelled

pub returns : goal.returns
returns c =
    let x = c.args.self.now in
    let own = x.columns.column.classes.now in
    let made = c.coarse.result in
    let same : rule_violation x.b.bytes.now (observing x.observer made.column.classes.now made.fine.classes.now) 2
    ≡ rule_violation x.b.bytes.now (observing x.observer own own) 2 = rw (c.coarse.ensures.column, c.coarse.ensures.fine) refl in
    c.by_event.ensures ∙ same ∙ coarse_rule _ _ 2 (omega arith)
