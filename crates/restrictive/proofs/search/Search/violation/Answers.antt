use Rattle.restrictive.specs.Answers.{violation_of}
use Rattle.restrictive.proofs.search.Search.violation.Goals as goal

pub returns : goal.returns
unfolding violation_of
returns c = let e = c.identifier.ensures.value in cc
