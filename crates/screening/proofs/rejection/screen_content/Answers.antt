use Rattle.std.proofs.Common.{ℕ, ◌≡◌, sym, ◌∙◌, List, drop}
use Rattle.screening.specs.Answers.{rejection_of}
use Rattle.screening.specs.Rejections.{content_conditions, first_of}
use Rattle.screening.proofs.Accepted.{skip, hit}
use Rattle.screening.proofs.rejection.screen_content.Goals as goal
use Rattle.screening.proofs.rejection.screen_content.Goals.{Else-mislabelled, Else-misrefined, Else-misnumbered, Else-misordered, Else-stray_bit}

-- The cascade, as for the frame: behind each test its condition does not hold.
-- the first k conditions are passed
abbrev Passed : ℕ → List ℕ → Type 0
Passed k b = first_of content_conditions b ≡ first_of (drop k content_conditions) b

past-1 : (c : Else-misnumbered) → Passed 1 c.args.b.bytes.now
past-1 c = skip _ _ _ cc

past-2 : (c : Else-misrefined) → Passed 2 c.args.b.bytes.now
past-2 c = (skip _ _ _ cc) ∙ skip _ _ _ cc

past-3 : (c : Else-misordered)
    → Passed 3 c.args.b.bytes.now
past-3 c = ((skip _ _ _ cc) ∙ skip _ _ _ cc) ∙ skip _ _ _ cc

past-4 : (c : Else-mislabelled) → Passed 4
    c.args.b.bytes.now
past-4 c = (((skip _ _ _ cc) ∙ skip _ _ _ cc) ∙ skip _ _ _ cc) ∙ skip _ _ _ cc

past-5 : (c : Else-stray_bit) → Passed 5
    c.args.b.bytes.now
past-5 c = ((((skip _ _ _ cc) ∙ skip _ _ _ cc) ∙ skip _ _ _ cc) ∙ skip _ _ _ cc) ∙ skip _ _ _ cc

pub returns-then-misnumbered : goal.returns-then-misnumbered
unfolding rejection_of
returns-then-misnumbered c = sym (hit _ _ _ cc)

pub misrefined-requires : goal.misrefined-requires
misrefined-requires c =
    cc

pub returns-then-misrefined : goal.returns-then-misrefined
unfolding rejection_of
returns-then-misrefined c = sym (past-1 (goal.at.returns-then-misrefined c).Else-misnumbered ∙ hit _ _ _ cc)

pub returns-then-misordered : goal.returns-then-misordered
unfolding rejection_of
returns-then-misordered c = sym (past-2 (goal.at.returns-then-misordered c).Else-misrefined ∙ hit _ _ _ cc)

pub returns-then-mislabelled : goal.returns-then-mislabelled
unfolding rejection_of
returns-then-mislabelled c = sym (past-3 (goal.at.returns-then-mislabelled c).Else-misordered ∙ hit _ _ _ cc)

pub returns-then-stray_bit : goal.returns-then-stray_bit
unfolding rejection_of
returns-then-stray_bit c = sym (past-4 (goal.at.returns-then-stray_bit c).Else-mislabelled ∙ hit _ _ _ cc)

pub returns : goal.returns
unfolding first_of rejection_of
returns c = sym (past-5 c)
