-- The rejection as it computes, for tables of examples. Whoever unfolds it unfolds all that it rests on.
use Rattle.std.specs.Prelude.{ℕ, List}
use Rattle.std.proofs.Math.Option.{none, some}
use Rattle.bounded.specs.Search.{any, each}
use Rattle.words.specs.Sets.{bit, exceeds}
use Rattle.words.specs.LittleEndian.{number, digits}
use Rattle.level.specs.Level.{rank, mislabelled}
use Rattle.partition.specs.Classes.{same_class, crosses}
use Rattle.part.specs.Format.{form}
use Rattle.part.specs.Record.{body_length, kind, lead, observer, listed_level, states, start, events, column, classes_below, entry_at, identifier, event_kind, level, row_at, row}
use Rattle.screening.specs.Rejections.{too_short, wrong_length, wrong_kind, out_of_range, wrong_size, falls, mislisted, skips_at, unnumbered, misnumbered_at, misnumbered, misrefined, unknown_at, misordered_at, misordered, mislabelled_at, mislabelled_observer, mislabelled_part, strays_at, row_strays, stray_bit, first_of, rejection}
use Rattle.part.specs.Layout.{body, layout}

-- The number that a record is rejected with; 0 where it is accepted.
unfoldable pub rejected_with : List ℕ → ℕ
unfolding rejection first_of too_short wrong_length wrong_kind out_of_range wrong_size form mislisted falls misnumbered misnumbered_at misrefined crosses same_class unnumbered skips_at misordered misordered_at unknown_at mislabelled_part mislabelled_observer mislabelled_at mislabelled rank stray_bit row_strays strays_at body_length kind lead observer listed_level states start events column classes_below entry_at identifier event_kind level row_at row any bit exceeds number digits each layout body
rejected_with b = elim (rejection b) [ none ↦ 0 | some k ↦ k ]
