use Rattle.std.proofs.Common.{ℕ, ◌≡◌, ◌+◌, length, take, subst, arith, length-drop}
use Rattle.std.proofs.lemmas.List.{length-take-le}
use Rattle.std.specs.Io.KnownBytes.{Consumes}
use Rattle.input.proofs.ReadLaws.{kept_on, consumed_on, first_bytes}
use Rattle.input.proofs.read_all.Goals as goal

pub loop-n-preserved : goal.loop-n-preserved
loop-n-preserved g c =
    let n = c.loop-n.n in
    let more = c.in_ok-more.more in
    let read = c.in_ok-more.ensures in
    record {
      brought = (
        omega (arith, read.brought.0, length-drop n c.loop-n.bytes),
        kept_on n more c.args.bytes.now c.loop-n.bytes c.read_some.new.bytes read.brought.1
            c.loop-n.invariant.brought.1,
      );
      next = consumed_on _ _ _ n more c.loop-n.bytes c.read_some.new.bytes read.head c.loop-n.invariant.next
          read.next.0;
    }

pub returns-then-more-eq0-clause-first : goal.returns-then-more-eq0-clause-first
returns-then-more-eq0-clause-first g c =
    let n = c.loop-n.n in
    let more = c.in_ok-more.more in
    let bytes = c.read_some.new.bytes in
    let read = c.in_ok-more.ensures in
    let before = g.R.Read.remaining c.args.reader.now in
    let after = g.R.Read.remaining c.read_some.new.reader in
    let none : n + more ≡ n = omega arith in
    let next = consumed_on before _ after n more c.loop-n.bytes bytes read.head c.loop-n.invariant.next read.next.0 in
    first_bytes before after (take n bytes) n (length c.args.bytes.now) (omega arith)
    (length-take-le n bytes (omega arith))
    (subst (λ (k : ℕ). Consumes before after (take k bytes)) none next)
    (λ less. read.next.1 c.if-more-eq0.true (omega (arith, length-drop n bytes)))
