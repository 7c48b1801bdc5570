-- The events of which a rule speaks, as the members of a word.
use Prim.Native.Nat.{ℕ, ◌<◌}
use mathlib.Core.Path.{◌≡◌, sym, ◌∙◌}
use mathlib.Core.Bool.{true, false}
use mathlib.Core.List.{List}
use mathlib.Core.Option.{none}
use lib.Dec.{ltb}
use borrow.Author.Tests.{lt-ltb}
use Rattle.bounded.proofs.Search.{and_now, and_right}
use Rattle.words.specs.Sets.{bit}
use Rattle.part.specs.Record.{events, Observer}
use Rattle.relations.specs.Relations.{role_at, concerns, rule_at}
use Rattle.relations.specs.Sets.{Concerned}
use Rattle.restrictive.specs.Verdict.{event_violation}
use Rattle.restrictive.proofs.Offers.{place_below, none_by}
use Rattle.restrictive.proofs.Scans.{first_start, first_now, first_past}

module _ (b : List ℕ) (o : Observer) (k word : ℕ) (of : Concerned b o.level k word) (i : ℕ) where
  -- The rule speaks of a member, and no other event breaks it.
  pub member_speaks : bit word i ≡ true → concerns (rule_at k) (role_at b o.level i) ≡ true
  member_speaks e = and_right (ltb i (events b)) _ (sym (of i) ∙ e)

  pub none_outside : k < 5 → i < events b → bit word i ≡ false → none ≡ event_violation b o k i
  none_outside l h e = sym (none_by b o k i l (sym (and_now _ _ (lt-ltb _ _ h)) ∙ sym (of i) ∙ e))

pub ruleset event_scans = (first_start, first_now, first_past, place_below, member_speaks, none_outside)
