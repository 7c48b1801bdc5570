-- What the code finds of the obstacles, step by step.
use Prim.Native.Nat.{ℕ, ◌<◌}
use mathlib.Core.Path.{◌≡◌, refl, sym, ap, ◌∙◌}
use mathlib.Core.Logic.{⊎_elim}
use mathlib.Core.Bool.{Bool, true, false, not, ◌&&◌}
use mathlib.Core.List.{List}
use mathlib.Core.Option.{none, some}
use Rattle.std.specs.Prelude.{is_some}
use borrow.Author.Tests.{eq-eqb, ne_eqb}
use lib.Dec.{eqb}
use Rattle.bounded.specs.Search.{any, or_else, when}
use Rattle.bounded.proofs.Search.{true_or_false, or-then}
use Rattle.machine.specs.Machine.{Kind, Event, absent, event}
use Rattle.part.specs.Record.{observers, events, identifier, event_kind, level}
use Rattle.screening.specs.Rejections.{Accepted}
use Rattle.part.specs.Events.{kind_of, place, event_of}
use Rattle.screening.proofs.Places.{places}
use Rattle.part.proofs.Places.{event-none, event_at}
use Rattle.composite.specs.Meeting.{meets, clashes}
use Rattle.composite.specs.Joining.{
  Obstacle,
  refusal,
  clash,
  levels_differ,
  observers_differ,
  clash_at,
  first_clash,
  too_large,
  obstacle,
}
use Rattle.composite.specs.Walk.{meeting}

-- ---- a shared event

pub meets_some : (i j : Kind) → is_some (meeting i j) ≡ meets i j
unfolding meeting
meets_some i j = ⊎_elim (λ t. rw t) (λ f. rw f) (true_or_false (meets i j))

pub alone : (x : Event) (b : List ℕ) (e : ℕ) → place b e ≡ none → clashes x (event_of b e) ≡ false
unfolding clashes
alone x b e h = go x (event-none b e h)
  where
    go : (x : Event) → event_of b e ≡ absent → clashes x (event_of b e) ≡ false
    go absent q = refl
    go (event k l) q = rw q

module _ (a b : List ℕ) (p : Accepted a) (i : ℕ) (h : i < events a) (j : ℕ)
    (at : place b (identifier a i) ≡ some j) where
  shared : clashes (event_of a (identifier a i)) (event_of b (identifier a i))
      ≡ not (meets (kind_of (event_kind a i)) (kind_of (event_kind b j)) && eqb (level a i) (level b j))
  unfolding clashes
  shared = rw (event_at a (identifier a i) i ((places a p).found i h), event_at b (identifier a i) j at)

  pub kinds-clash : meets (kind_of (event_kind a i)) (kind_of (event_kind b j)) ≡ false
      → true ≡ clashes (event_of a (identifier a i)) (event_of b (identifier a i))
  kinds-clash f = sym (shared ∙ rw f)

  pub levels-clash : meets (kind_of (event_kind a i)) (kind_of (event_kind b j)) ≡ true
      → not (eqb (level a i) (level b j)) ≡ clashes (event_of a (identifier a i)) (event_of b (identifier a i))
  levels-clash t = sym (shared ∙ rw t)

-- ---- the first obstacle

module _ (a b : List ℕ) where
  -- r is what was found of the event at place i
  module _ (i : ℕ) {r : Bool} (e : r ≡ clashes (event_of a (identifier a i)) (event_of b (identifier a i))) where
    pub clash_here : r ≡ true → clash_at a b i ≡ some (clash (identifier a i))
    unfolding clash_at when
    clash_here t = rw (← e, t)

    pub no-clash_here : r ≡ false → clash_at a b i ≡ none
    unfolding clash_at when
    no-clash_here f = rw (← e, f)

  -- the lists are not as long, or they are, and then some level may differ
  pub uneven : {x y : ℕ} → x ≡ observers a → y ≡ observers b → (x ≡ y → ⊥) → observers_differ a b ≡ true
  unfolding observers_differ
  uneven {x} {y} p q n = rw (← p, ← q, ne_eqb x y n) refl

  pub as_long : {x y : ℕ} → x ≡ observers a → y ≡ observers b → x ≡ y
      → any (observers a) (levels_differ a b) ≡ observers_differ a b
  unfolding observers_differ
  as_long {x} {y} p q e = sym (or-then _ _ (ap not (eq-eqb (observers a) (observers b) (cc))))

  pub different : observers_differ a b ≡ true → obstacle a b ≡ some (refusal 9)
  unfolding obstacle when or_else
  different t = rw t

  pub clashing : (o : Obstacle) → observers_differ a b ≡ false → first_clash a b ≡ some o → obstacle a b ≡ some o
  unfolding obstacle when or_else
  clashing o f c = rw (f, c)

  pub large : observers_differ a b ≡ false → first_clash a b ≡ none → too_large a b ≡ true
      → obstacle a b ≡ some (refusal 11)
  unfolding obstacle when or_else
  large f c t = rw (f, c, t)

  pub clear : observers_differ a b ≡ false → first_clash a b ≡ none → too_large a b ≡ false → obstacle a b ≡ none
  unfolding obstacle when or_else
  clear f c t = rw (f, c, t)
