use Rattle.std.proofs.Common.{ℕ, ◌≡◌, List, sym, ap, ◌∙◌, get_or}
use Rattle.bounded.specs.Search.{each}
use Rattle.words.specs.Laid.{over}
use Rattle.words.specs.LittleEndian.{digits}
use Rattle.store.specs.Answers.{answer_of}
use Rattle.batch.specs.Slots.{numbers}
use Rattle.batch.proofs.Runs.{words_of_numbers}
use Rattle.batch.proofs.slot.put_answer.Goals as goal
use Rattle.batch.proofs.slot.put_answer.Goals.{in-Ok, in-Err}

pub returns : goal.returns
unfolding numbers
returns c =
    let is : c.match-answer.numbers ≡ numbers (answer_of c.args.answer) =
    elim c.match-answer.branch [
      | in-Ok w ↦ rw w.in-Ok.is w.numbers-is
      | in-Err w ↦ rw w.in-Err.is (w.numbers-is ∙ w.refused-numbers.ensures)
    ] in
    c.put_words.ensures
    ∙ ap (over c.args.out.now c.args.at)
    (ap (λ (ns : List ℕ). each 8 (λ i. digits 8 (get_or ns i 0))) is ∙ sym (words_of_numbers (answer_of c.args.answer)))
