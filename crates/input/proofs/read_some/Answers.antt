use Rattle.std.proofs.Common.{◌≡◌, ◌+◌, ◌≤◌, length, take, sym, ◌∙◌, subst, arith, length-drop}
use Rattle.std.proofs.lemmas.List.{drop-drop, length-take, length-take-le}
use Rattle.std.proofs.Math.Seq.{take-take}
use Rattle.std.specs.Io.KnownBytes.{Consumes}
use Rattle.words.proofs.LaidLaws.{laid_before, laid_kept}
use Rattle.input.proofs.ReadLaws.{laid_piece}
use Rattle.input.proofs.read_some.Goals as goal

pub returns-clause-head : goal.returns-clause-head
returns-clause-head g c =
    let n = c.in_ok-n.n in
    let few = c.in_ok-n.ensures.within in
    let chunk = c.read_chunk.new.chunk in
    let size : length (take n chunk) ≡ n = length-take-le n chunk (omega (arith, few)) in
    laid_before c.lay.ensures (omega (arith, size, few))

pub returns-clause-next : goal.returns-clause-next
returns-clause-next g c =
    let n = c.in_ok-n.n in
    let most = c.min-most.result in
    let chunk = c.read_chunk.new.chunk in
    let few : n ≤ most = c.in_ok-n.ensures.within in
    let size : length (take n chunk) ≡ n = length-take-le n chunk (omega (arith, few)) in
    let here = laid_piece n c.lay.ensures size (omega (arith, few)) in
    let read = c.in_ok-n.ensures.next in
    let before = g.R.Read.remaining c.args.reader.now in
    let after = g.R.Read.remaining c.read_chunk.new.reader in (
      subst (Consumes before after) (take-take n most chunk few ∙ sym here) read.0,
      λ none room. read.1 none
          (omega (arith, length-take most chunk, length-drop c.args.at c.lay.new.out)),
    )

-- What was read is a piece of n bytes, which is laid within the bytes.
pub returns-clause-brought : goal.returns-clause-brought
returns-clause-brought g c =
    let n = c.in_ok-n.n in
    let at = c.args.at in
    let bytes = c.args.bytes.now in
    let few = c.in_ok-n.ensures.within in
    let inside : at + n ≤ length bytes = omega (arith, few) in
    let chunk = c.read_chunk.new.chunk in
    let size : length (take n chunk) ≡ n = length-take-le n chunk (omega (arith, few)) in
    let behind = laid_kept n c.lay.ensures size inside in
    (omega (arith, length-drop at bytes, few), drop-drop n at c.lay.new.out ∙ behind ∙ sym (drop-drop n at bytes))
