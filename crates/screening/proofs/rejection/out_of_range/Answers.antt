use Rattle.std.proofs.Common.{◌≤◌, ◌<◌, sym, ap, ◌∙◌, ltb, leb-true, leb-false, lt-ltb, ⊎_elim, arith}
use Rattle.bounded.proofs.Search.{true_not_false}
use Rattle.part.specs.Format.{max_states, max_events}
use Rattle.part.specs.Record.{states, start}
use Rattle.screening.proofs.Rejections.{long, rest, range_broken, last_range_test}
use Rattle.screening.proofs.rejection.out_of_range.Goals as goal
use Rattle.screening.proofs.rejection.out_of_range.Goals.{then-n-lt1, else-n-lt1, then-n-gt-STATES, else-n-gt-STATES, Else-n-start}

pub returns-then-b-lt-LISTS : goal.returns-then-b-lt-LISTS
returns-then-b-lt-LISTS c = let six = long _ c.requires.long_enough in let after = rest _ c.requires.length_right in
    sym (range_broken _ (λ k. omega arith))

pub returns-then-n-start : goal.returns-then-n-start
returns-then-n-start c =
    c.if-n-start.true ∙ sym (range_broken _ (λ k. elim c.if-n-gt-STATES.branch [
      | then-n-gt-STATES w ↦ ⊎_elim (λ l. omega arith) (λ l. omega arith) w.if-n-gt-STATES.either
      | else-n-gt-STATES w ↦
          let read = w.start.ensures in
          let late = leb-true c.states-n.result w.start.result (sym w.value-is ∙ c.if-n-start.true) in
          omega arith
    ]))

-- the number of states and the start are in their ranges
inside : (c : Else-n-start) → (1 ≤ states c.args.b.now) × (states c.args.b.now ≤ max_states) × (start c.args.b.now < states c.args.b.now)
inside c = elim c.if-n-gt-STATES.branch [
  | then-n-gt-STATES w ↦ absurd (elim c.if-n-lt1.branch [
    | then-n-lt1 v ↦ true_not_false (w.value-is ∙ v.t-7-is ∙ lt-ltb _ _ v.if-n-lt1.true) c.if-n-start.false
    | else-n-lt1 v ↦
        true_not_false (w.value-is ∙ v.t-7-is ∙ lt-ltb _ _ (⊎_elim (λ l. absurd (omega arith)) (λ l. l.1) w.if-n-gt-STATES.either)) c.if-n-start.false
  ])
  | else-n-gt-STATES w ↦
      let read = w.start.ensures in
      let early = leb-false c.states-n.result w.start.result (sym w.value-is ∙ c.if-n-start.false) in
      (omega arith, omega arith, omega arith)
]

pub returns-else-n-start : goal.returns-else-n-start
returns-else-n-start c =
    let six = long _ c.requires.long_enough in
    let after = rest _ c.requires.length_right in
    let within = inside (goal.at.returns-else-n-start c).Else-n-start in
    ap (ltb max_events) c.events.ensures.value ∙ sym (last_range_test _ (omega arith) within.0 within.1 within.2)
