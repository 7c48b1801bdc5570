-- The words in which the functions inside Check promise things to each other: what the states offer, and what a rule permits. No promise of
-- Check itself rests on this page.
use Rattle.std.specs.Prelude.{ℕ, ◌≤◌, ◌<◌, ◌≡◌, Bool, true, not, ◌||◌, ◌&&◌, List, get_or, eqb}
use Rattle.bounded.specs.Search.{any, all}
use Rattle.words.specs.LittleEndian.{byte}
use Rattle.words.specs.Sets.{bit, Rows, gathered}
use Rattle.part.specs.Record.{states, events, row, Observer, observing}
use Rattle.machine.specs.Rules.{Rule, rule_1, rule_2, rule_3, rule_4, rule_5}
use Rattle.partition.specs.Classes.{same_class}
use Rattle.relations.specs.Relations.{rule_at, role_at, concerns, leads, reach_for}
use Rattle.relations.specs.Sets.{place_of, LookedUp}
use Rattle.restrictive.specs.declared.answer.Case.{Case}
use Rattle.restrictive.specs.Tests.{around}

-- Every state has a step of the event at place i.
abbrev pub Enabled : List ℕ → ℕ → Type 0
Enabled b i = (s : ℕ) → s < states b → row b i s ≡ 0 → ⊥

-- ---- what a state offers, and what a rule permits

-- The event at place i leads from s to a state of class c.
unfoldable pub led_to : List ℕ → (ℕ → ℕ) → ℕ → ℕ → ℕ → Bool
led_to b class i s c = any (states b) (λ t. leads b i s t && eqb (class t) c)

-- Silent steps lead from s to a state of class c, for an observer of this level.
unfoldable pub reached : List ℕ → ℕ → (ℕ → ℕ) → ℕ → ℕ → Bool
reached b l class s c = any (states b) (λ v. reach_for b l s v && eqb (class v) c)

-- u can answer the event at place i with a state of class c, as the rule wants it. A high input is answered by its own class alone.
unfoldable pub offer : List ℕ → ℕ → (ℕ → ℕ) → Rule → ℕ → ℕ → ℕ → Bool
offer b l class rule_1 i u c = true
offer b l class rule_2 i u c = eqb (class u) c
offer b l class rule_3 i u c = led_to b class i u c
offer b l class rule_4 i u c = reached b l class u c
offer b l class rule_5 i u c = any (states b) (λ v. around b l i u v && eqb (class v) c)

-- The classes among which a rule takes u, beside s: for rules 4 and 5 the fine ones.
abbrev pub beside : Observer → Rule → ℕ → ℕ
beside o rule_1 = o.class
beside o rule_2 = o.class
beside o rule_3 = o.class
beside o rule_4 = o.fine
beside o rule_5 = o.fine

-- Every state beside s offers c.
unfoldable pub permits : List ℕ → Observer → Rule → ℕ → ℕ → ℕ → Bool
permits b o r i s c = all (states b) (λ u. not (same_class (beside o r) u s) || offer b o.level o.class r i u c)

-- The words hold, by state, the classes that it offers at the event at place i; the states that the event may lead to.
abbrev pub Offers : List ℕ → ℕ → (ℕ → ℕ) → ℕ → ℕ → List ℕ → Type 0
Offers b l class k i words = Rows (states b) words (offer b l class (rule_at k) i)

abbrev pub Permitted : List ℕ → Observer → ℕ → ℕ → List ℕ → Type 0
Permitted b o k i words =
    (s : ℕ) → s < states b → (t : ℕ) → t < states b → bit (get_or words s 0) t ≡ permits b o (rule_at k) i s (o.class t)

-- For rule 3, which takes u among the classes, these stand for the fine ones.
abbrev pub Beside : ℕ → List ℕ → List ℕ → Type 0
Beside k column fine = k ≡ 2 → fine ≡ column

-- A case of one of the rules 2 to 5 that speaks of the event, with the states that the event may lead to and, after rule 2, the classes that
-- the states offer.
pub record Judgeable (b column fine : List ℕ) (l : ℕ) (c : Case) (permitted offers : List ℕ) : Type 0 where
  pub taken : Beside (place_of c.rule) column fine
  pub placed : c.event < events b
  pub later : 1 ≤ place_of c.rule
  pub speaks : concerns (rule_at (place_of c.rule)) (role_at b l c.event) ≡ true
  pub permitting : Permitted b (observing l column fine) (place_of c.rule) c.event permitted
  pub offering : 2 ≤ place_of c.rule → Offers b l (byte column) (place_of c.rule) c.event offers

-- Rule k + 1 speaks of the event at place i, which leads from s to t.
abbrev pub Asked : List ℕ → ℕ → ℕ → ℕ → ℕ → ℕ → Type 0
Asked b l k i s t = (concerns (rule_at k) (role_at b l i) ≡ true) × (leads b i s t ≡ true)

-- ---- how the code makes what the states offer

-- Looked up in the table it is what the states offer.
abbrev pub OfferedDirectly : List ℕ → ℕ → (ℕ → ℕ) → ℕ → List ℕ → Type 0
OfferedDirectly b l class k table = (i : ℕ) → i < events b → (words : List ℕ) → LookedUp b i table words → Offers b l class k i words

-- Looked up in the table, and then gathered over the closure of each state, it is what the states offer.
abbrev pub OfferedSilently : List ℕ → ℕ → (ℕ → ℕ) → ℕ → List ℕ → List ℕ → Type 0
OfferedSilently b l class k closure table =
    (i : ℕ) → i < events b → (after words : List ℕ) → LookedUp b i table after
    → Rows (states b) words (λ s. gathered 64 (get_or closure s 0) after) → Offers b l class k i words
