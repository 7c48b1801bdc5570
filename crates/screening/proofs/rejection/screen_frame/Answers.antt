use Rattle.std.proofs.Common.{ℕ, ◌≡◌, sym, ◌∙◌, List, drop}
use Rattle.screening.specs.Answers.{rejection_of}
use Rattle.screening.specs.Rejections.{frame_conditions, first_of}
use Rattle.screening.proofs.Accepted.{skip, hit, none-holds}
use Rattle.screening.proofs.Rejections.{framed}
use Rattle.screening.proofs.rejection.screen_frame.Goals as goal
use Rattle.screening.proofs.rejection.screen_frame.Goals.{Else-mislisted, Else-out_of_range, Else-too_short, Else-wrong_kind, Else-wrong_length, Else-wrong_size}

-- The cascade: behind each test its condition does not hold, and the answer is the first of the conditions that are
-- left.
-- the first k conditions are passed
abbrev Passed : ℕ → List ℕ → Type 0
Passed k b = first_of frame_conditions b ≡ first_of (drop k frame_conditions) b

past-1 : (c : Else-too_short) → Passed 1 c.args.b.now
past-1 c = skip _ _ _ cc

past-2 : (c : Else-wrong_length) → Passed 2 c.args.b.now
past-2 c = (skip _ _ _ cc) ∙ skip _ _ _ cc

past-3 : (c : Else-wrong_kind) → Passed 3 c.args.b.now
past-3 c = ((skip _ _ _ cc) ∙ skip _ _ _ cc) ∙ skip _ _ _ cc

past-4 : (c : Else-out_of_range)
    → Passed 4 c.args.b.now
past-4 c = (((skip _ _ _ cc) ∙ skip _ _ _ cc) ∙ skip _ _ _ cc) ∙ skip _ _ _ cc

past-5 : (c : Else-wrong_size)
    → Passed 5
    c.args.b.now
past-5 c = ((((skip _ _ _ cc) ∙ skip _ _ _ cc) ∙ skip _ _ _ cc) ∙ skip _ _ _ cc) ∙ skip _ _ _ cc

past-6 : (c : Else-mislisted)
    → Passed 6
    c.args.b.now
past-6 c = (((((skip _ _ _ cc) ∙ skip _ _ _ cc) ∙ skip _ _ _ cc) ∙ skip _ _ _ cc) ∙ skip _ _ _ cc) ∙ skip _ _ _ cc

pub returns-then-too_short-clause-rejection : goal.returns-then-too_short-clause-rejection
unfolding rejection_of
returns-then-too_short-clause-rejection c = sym (hit _ _ _ cc)

pub returns-then-wrong_length-clause-rejection : goal.returns-then-wrong_length-clause-rejection
unfolding rejection_of
returns-then-wrong_length-clause-rejection c = sym (past-1 (goal.at.returns-then-wrong_length-clause-rejection c).Else-too_short ∙ hit _ _ _ cc)

pub returns-then-wrong_kind-clause-rejection : goal.returns-then-wrong_kind-clause-rejection
unfolding rejection_of
returns-then-wrong_kind-clause-rejection c = sym (past-2 (goal.at.returns-then-wrong_kind-clause-rejection c).Else-wrong_length ∙ hit _ _ _ cc)

pub returns-then-out_of_range-clause-rejection : goal.returns-then-out_of_range-clause-rejection
unfolding rejection_of
returns-then-out_of_range-clause-rejection c = sym (past-3 (goal.at.returns-then-out_of_range-clause-rejection c).Else-wrong_kind ∙ hit _ _ _ cc)

pub returns-then-wrong_size-clause-rejection : goal.returns-then-wrong_size-clause-rejection
unfolding rejection_of
returns-then-wrong_size-clause-rejection c = sym (past-4 (goal.at.returns-then-wrong_size-clause-rejection c).Else-out_of_range ∙ hit _ _ _ cc)

pub returns-then-mislisted-clause-rejection : goal.returns-then-mislisted-clause-rejection
unfolding rejection_of
returns-then-mislisted-clause-rejection c = sym (past-5 (goal.at.returns-then-mislisted-clause-rejection c).Else-wrong_size ∙ hit _ _ _ cc)

pub of-requires : goal.of-requires
unfolding first_of
of-requires c = framed _ (none-holds frame_conditions c.args.b.now (past-6 c))

pub returns-clause-rejection : goal.returns-clause-rejection
unfolding first_of rejection_of
returns-clause-rejection c = sym (past-6 (goal.at.returns-clause-rejection c).Else-mislisted)
