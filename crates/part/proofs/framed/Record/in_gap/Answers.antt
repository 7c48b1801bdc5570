use Rattle.std.proofs.Common.{◌<◌, ◌≤◌, ◌≡◌, true, sym, ◌∙◌, arith, ltb-true, leb-true}
use Rattle.part.specs.Record.{events, identifier}
use Rattle.part.proofs.Places.{rising_gap}
use Rattle.part.proofs.framed.Record.in_gap.Goals as goal
use Rattle.part.proofs.framed.Record.in_gap.Goals.{Joined-near-m, then-near-m+then-near-m-2, then-near-m+else-near-m-2, else-near-m}

-- the place is not behind the events, and the identifier at it, if any, is above e
around : (c : Joined-near-m) → c.if-near-m.value ≡ true → let a = c.args in (a.near ≤ events a.self.bytes.now)
    × (a.near < events a.self.bytes.now → a.e < identifier a.self.bytes.now a.near)
around c e = elim c.if-near-m.branch [
  | then-near-m+then-near-m-2 w ↦ (omega arith, λ l. absurd (omega arith))
  | then-near-m+else-near-m-2 w ↦ (omega arith, λ l. let below = ltb-true c.args.e w.identifier.result (sym w.value-is ∙ e) in omega (arith, w.identifier.ensures.value))
  | else-near-m w ↦ let within = leb-true c.args.near c.events-m.result (sym w.value-is ∙ e) in absurd (omega arith)
]

pub returns-then-near-eq0 : goal.returns-then-near-eq0
returns-then-near-eq0 c e =
    let w = around (goal.at.returns-then-near-eq0 c).Joined-near-m c.if-e-identifier.true in
    rising_gap _ _ c.requires _ w.0 w.1 (λ l. absurd (omega arith))

pub returns-else-near-eq0 : goal.returns-else-near-eq0
returns-else-near-eq0 c e =
    let w = around (goal.at.returns-else-near-eq0 c).Joined-near-m c.if-e-identifier.true in
    let read = c.identifier-else-near-eq0.ensures.value in
    rising_gap _ _ c.requires _ w.0 w.1 (λ l. omega (arith, ltb-true c.identifier-else-near-eq0.result c.args.e e))
