use Rattle.std.proofs.Common.{ℕ, ◌≡◌, get_or}
use Rattle.bounded.specs.Search.{largest}
use Rattle.words.specs.LittleEndian.{byte}
use Rattle.partition.proofs.classes.Column.largest_count.Given as goal

abbrev pub invariant-loop-class : goal.invariant-loop-class
invariant-loop-class l = l.most ≡ largest l.class-index (λ (u : ℕ). get_or l.counts (byte l.self.classes.now u) 0)
