use Rattle.std.proofs.Common.{sym, ◌∙◌}
use Rattle.composite.specs.Walk.{next_entry}
use Rattle.composite.proofs.EntryWalk.{first_has, second_has}
use Rattle.composite.proofs.merge.next_entry.Goals as goal

pub entry-requires : goal.entry-requires
entry-requires c =
    first_has _ _ _ _
    (sym c.comes_first.ensures ∙ c.if-comes_first.true)

pub returns-then-comes_first : goal.returns-then-comes_first
unfolding next_entry
returns-then-comes_first c = c.entry.ensures ∙ sym (rw (sym c.comes_first.ensures ∙ c.if-comes_first.true))

pub entry-requires-else-comes_first : goal.entry-requires-else-comes_first
entry-requires-else-comes_first c =
    second_has _ _ _ _ (sym c.comes_first.ensures ∙ c.if-comes_first.false) c.requires.places_bound.0 c.requires.places_bound.1
    c.requires.j_bound

pub returns-else-comes_first : goal.returns-else-comes_first
unfolding next_entry
returns-else-comes_first c = c.entry-else-comes_first.ensures ∙ sym (rw (sym c.comes_first.ensures ∙ c.if-comes_first.false))
