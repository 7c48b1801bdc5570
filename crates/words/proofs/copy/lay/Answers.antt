use Rattle.std.proofs.Common.{refl, sym, ◌∙◌, arith}
use Rattle.words.proofs.LaidLaws.{word_turn, word_end}
use Rattle.words.proofs.copy.lay.Goals as goal

pub loop-i-preserved : goal.loop-i-preserved
loop-i-preserved c = word_turn _ _ _ _ (omega arith) ∙ c.loop-i.invariant

pub returns : goal.returns
returns c = record { text = sym (word_end _ _ _ _ (omega arith)) ∙ c.loop-i.invariant; behind = refl }
