use Rattle.std.proofs.Common.{◌≡◌, length, take}
use Rattle.words.specs.Laid.{Laid}
use Rattle.text.specs.Hex.{hex}
use Rattle.text.proofs.line.Line.hex.Given as goal

abbrev pub invariant-loop-b : goal.invariant-loop-b
invariant-loop-b l = record {
  same_reference : l.self.out.ghost_name ≡ l.initial.self.out.ghost_name;
  laid : Laid l.initial.self.out.now l.initial.self.at (hex (take l.b-index l.bytes)) l.self.out.now l.self.at;
  room : length l.self.out.now ≡ length l.initial.self.out.now;
}
