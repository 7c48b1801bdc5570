use Rattle.std.proofs.Common.{List, [], ◌∷◌, ◌++◌, length-append, ◌≡◌, ◌+◌, ◌<◌, length, refl, ap, ◌∙◌, arith}
use Rattle.std.proofs.lemmas.Slice.Zip.{zip_turn}
use Rattle.words.specs.LittleEndian.{byte}
use Rattle.words.specs.Sets.{union}
use Rattle.partition.proofs.ClassSeen.{seen_none, seen_more}
use Rattle.partition.proofs.ClassCounts.{counted_none, counted-more, counted_le, bool-most}
use Rattle.partition.proofs.classes.Columns.put_counts.Goals as goal
use Rattle.partition.proofs.classes.Columns.put_counts.Goals.{After-from-f}

one-more : {A : Type 0} (xs : List A) (x : A) → length (xs ++ (x ∷ [])) ≡ length xs + 1
one-more xs x = length-append xs (x ∷ [])

-- The turn of a state takes its class, below 64, and its fine class.
turn : (c : After-from-f) → let s = length c.loop-class.yielded in
    (c.from-c.result ≡ byte c.args.self.column.classes.now s) × (c.from-c.result < 64)
    × (c.from-f.result ≡ byte c.args.self.fine.classes.now s) × (s < 64)
turn c =
    let (in-column, _, class, fine) =
    zip_turn c.args.self.column.classes.now c.args.self.fine.classes.now c.loop-class.yielded c.into_iter-class-iterator.result c.loop-class.class-iterator c.next.new.self _
    (rw (c.into_iter-class-iterator.ensures.into_iter_gives, c.zip-class-items.ensures.first) c.iter.ensures.rest)
    (rw (c.into_iter-class-iterator.ensures.into_iter_gives) c.zip-class-items.ensures.second.0)
    c.loop-class.yielded_by (c.in-Some.field-0-0, c.in-Some.field-0-1) refl c.in-Some.ensures.steps in
    let of-class = c.from-c.ensures ∙ class 0 in
    (of-class, rw of-class (c.args.self.column.partition.below _ in-column), c.from-f.ensures ∙ fine 0, omega (arith, in-column, c.args.self.column.partition.few))

pub loop-class-init : goal.loop-class-init
loop-class-init c = (seen_none _, counted_none _ _ _ c.requires)

pub overflow_add-out : goal.overflow_add-out
overflow_add-out c =
    let (_, small, _, few) = turn (goal.at.overflow_add-out c).After-from-f in
    omega (arith, few, counted_le _ _ _ _ _ small c.loop-class.invariant.1, bool-most c.contains.result)

pub loop-class-preserved : goal.loop-class-preserved
loop-class-preserved c =
    let (of-class, small, of-fine, _) = turn (goal.at.loop-class-preserved c).After-from-f in
    let (seen, counted) = c.loop-class.invariant in (
      rw (one-more c.loop-class.yielded _) (seen_more _ _ _ _ _ of-fine (c.union-seen.ensures ∙ ap (union _) c.single.ensures) seen),
      rw (one-more c.loop-class.yielded _) (counted-more _ _ _ _ _ _ _ _ of-class small of-fine seen (rw (c.from.ensures, c.contains.ensures)) counted),
    )
