use Rattle.std.proofs.Common.{◌≡◌, ℕ, ◌+◌, ◌-◌, ◌∙◌, ap, arith, replicate, length, take, drop}
use Rattle.std.proofs.Common.{length-take, length-drop}
use Rattle.words.proofs.LaidLaws.{over-replaced}
use Rattle.store.specs.Calls.{end_bytes}
use Rattle.store.proofs.append.put_end.Goals as goal

pub returns : goal.returns
unfolding end_bytes
returns c =
    let a = c.args in
    let size : length (take (a.at + 6 - a.at) (drop a.at a.s.now)) ≡ 6 =
    simp (length-take, length-drop) (omega (arith, c.requires)) in
    let zeros : c.fill.new.self ≡ end_bytes =
    c.fill.ensures.after (λ y e. e) ∙ ap (λ (n : ℕ). replicate n 0) size in
    rw zeros (over-replaced a.s.now a.at (a.at + 6 - a.at) end_bytes (omega arith) (omega (arith, c.requires)))
