use Rattle.std.proofs.Common.{ℕ, ◌+◌, ◌-◌, ◌≡◌, arith, ◌∙◌, drop, replicate}
use Rattle.std.proofs.lemmas.List.{get_or-drop}
use Rattle.words.specs.LittleEndian.{byte}
use Rattle.words.proofs.Arrays.{zero_at}
use Rattle.words.proofs.LittleEndian.{number_padded, number_lt}
use Rattle.words.proofs.le.number.Goals as goal

pub returns-clause-value : goal.returns-clause-value
returns-clause-value g c =
    let n = g.row.N in
    let place : c.args.at + n - c.args.at ≡ n = omega arith in
    let zeros : (i : ℕ) → byte (drop n (replicate 8 0)) i ≡ 0 = λ i. get_or-drop n (replicate 8 0) i 0 ∙ zero_at 8 (n + i) in
    let padded = number_padded n c.args.s.now c.copy_from_slice.new.self (drop n (replicate 8 0)) c.args.at c.requires.width c.requires.room
    (rw place at c.copy_from_slice.ensures.after) zeros in
    omega (arith, padded)

pub returns-clause-upper_bound : goal.returns-clause-upper_bound
returns-clause-upper_bound g c =
    rw (returns-clause-value g c) (number_lt g.row.N c.args.s.now c.args.at (λ i l. (c.type_inv.s i).fits))
