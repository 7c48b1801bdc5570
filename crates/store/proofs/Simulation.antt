-- The shelf and the model go together: each call on a shelf that holds the model's records gives the model's answer,
-- never 12 or 14, and leaves a shelf that holds the records that the model then has.
use Prim.Native.Nat.{ℕ, ◌+◌, ◌≤◌}
use mathlib.Core.Path.{◌≡◌, refl, sym, ap, ◌∙◌}
use mathlib.Core.Bool.{true}
use mathlib.Core.List.{List, [], ◌∷◌, ◌++◌, flatten, append_assoc, append-nil}
use mathlib.Core.Option.{Option, none, some}
use native.Mathlib.Decide.{dec_lt}
use native.Mathlib.Omega.{arith}
use lib.ListN.{length, get_or, take, drop, length-append}
use lib.Seq.{sets-eq, take-append_seam}
use borrow.Author.Tests.{lt-ltb, le-ltb, le-leb, lt-leb}
use Rattle.words.specs.LittleEndian.{Bytes}
use Rattle.words.specs.Laid.{over}
use Rattle.words.proofs.LaidLaws.{length_over, over-start}
use Rattle.screening.specs.Rejections.{Accepted}
use Rattle.screening.proofs.Proper.{proper_fits}
use Rattle.screening.proofs.ReadBack.{bytes-layout}
use Rattle.restrictive.specs.Verdict as check
use Rattle.restrictive.specs.Verdict.{Verdict, pass, verdict}
use Rattle.restrictive.proofs.Theorems.{passes-exactly}
use Rattle.composite.specs.Joined.{joined, joined_fields}
use Rattle.composite.specs.Joining.{Obstacle, obstacle}
use Rattle.composite.proofs.Joinable.{joins-exactly}
use Rattle.composite.proofs.JoinedProper.{joined_proper}
use Rattle.composite.proofs.Theorems.{joined-passes}
use Rattle.store.specs.Answer.{Answer, gives, refused, breaks, obstacle_answer}
use Rattle.store.specs.Walk.{walk}
use Rattle.store.specs.Calls as shelf
use Rattle.store.specs.Calls.{end_bytes, Left, unchanged, passes}
use Rattle.store.specs.Model as model
use Rattle.store.specs.Model.{Kept, kept}
use Rattle.store.specs.Demand.{Foreseen}
use Rattle.store.proofs.Each.{Each, each_at, each_last, each_as}
use Rattle.store.proofs.Steps.{flatten-append}
use Rattle.store.proofs.Walks.{walk-records}
use Rattle.store.proofs.Expected.{gives-foreseen, breaks-foreseen, refused-foreseen, refusal-foreseen}
use Rattle.store.proofs.Expected.{obstacle-foreseen}

-- Bytes that pass Check.
pub record Good (r : List ℕ) : Type 0 where
  pub passing : verdict r ≡ pass
  pub bytes : Bytes r

pub good_accepted : (r : List ℕ) → Good r → Accepted r
good_accepted r g = ((passes-exactly r).0 g.passing).0

good_passes : (r : List ℕ) → Good r → passes r ≡ true
unfolding passes
good_passes r g = rw (g.passing, passes)

joined_good : (a b : List ℕ) → Good a → Good b → obstacle a b ≡ none → Good (joined a b)
unfolding joined
joined_good a b g h n =
    let p = good_accepted a g in
    let q = good_accepted b h in
    let proper = joined_proper a b g.bytes h.bytes p q ((joins-exactly a b p q).0 n) in
    record {
      passing = joined-passes a b g.bytes h.bytes g.passing h.passing n;
      bytes = bytes-layout (joined_fields a b) (proper_fits (joined_fields a b) proper);
    }

-- A shelf of n bytes holds the records rs: they stand one behind the other, then the end record, then anything.
pub record Holds (n : ℕ) (s : List ℕ) (rs : List (List ℕ)) : Type 0 where
  pub size : length s ≡ n
  pub rest : List ℕ
  pub laid : s ≡ flatten rs ++ end_bytes ++ rest
  pub good : Each Good rs

-- The walk finds them.
pub holds-walk : (n : ℕ) (s : List ℕ) (rs : List (List ℕ)) → Holds n s rs → walk s ≡ some rs
holds-walk n s rs h = ap walk h.laid ∙ walk-records rs h.rest (each_as Good Accepted good_accepted rs h.good)

-- It has room for an end record.
pub holds-room : (n : ℕ) (s : List ℕ) (rs : List (List ℕ)) → Holds n s rs → 6 ≤ n
unfolding end_bytes
holds-room n s rs h =
    let size = h.size in
    let whole = ap length h.laid ∙ length-append (flatten rs ++ end_bytes) h.rest in
    omega (arith, length-append (flatten rs) end_bytes)

-- What a call leaves on the shelf and in the model.
pub record Together (n : ℕ) (l : Left) (k : Kept) : Type 0 where
  pub holds : Holds n l.shelf k.records
  pub same : l.answer ≡ k.answer
  pub foreseen : Foreseen l.answer

-- ---- Clear

pub clear-together : (n : ℕ) (s : List ℕ) → length s ≡ n → 6 ≤ n → Together n (shelf.clear s) (kept [] (gives 0))
unfolding shelf.clear flatten end_bytes
clear-together n s e h =
    rw (le-ltb (length s) 6 (omega arith))
    (record {
      holds = record {
        size = length_over s 0 end_bytes ∙ e;
        rest = drop 6 s;
        laid = over-start s end_bytes (omega arith);
        good = tt;
      };
      same = refl;
      foreseen = gives-foreseen 0;
    })

-- ---- an append

flatten-last : (rs : List (List ℕ)) (r : List ℕ) → flatten (rs ++ r ∷ []) ≡ flatten rs ++ r
unfolding flatten
flatten-last rs r = flatten-append rs (r ∷ []) ∙ ap (λ (l : List ℕ). flatten rs ++ l) (append-nil r)

-- A record and an end record over the end record behind front.
laid_over : (s front rest r : List ℕ) → s ≡ front ++ end_bytes ++ rest → length front + length r + 6 ≤ length s
    → over s (length front) (r ++ end_bytes) ≡ front ++ r ++ end_bytes
    ++ drop (length front + length (r ++ end_bytes)) s
unfolding over end_bytes
laid_over s front rest r e h =
    let size = length-append r end_bytes in
    let behind = drop (length front + length (r ++ end_bytes)) s in
    sets-eq (r ++ end_bytes) s (length front) (omega arith)
    ∙ ap (λ (l : List ℕ). l ++ (r ++ end_bytes) ++ behind)
    (ap (take (length front)) (e ∙ append_assoc front end_bytes rest) ∙ take-append_seam front (end_bytes ++ rest))
    ∙ ap (λ (l : List ℕ). l ++ behind) (sym (append_assoc front r end_bytes))

module _ (n : ℕ) (s : List ℕ) (rs : List (List ℕ)) (h : Holds n s rs) where
  -- A call that is refused leaves both as they were.
  stay : (a : Answer) → Foreseen a → Together n (unchanged s a) (kept rs a)
  stay a f = record { holds = h; same = refl; foreseen = f }

  append-holds : (r : List ℕ) → Good r → length (flatten rs) + length r + 6 ≤ n
      → Holds n (over s (length (flatten rs)) (r ++ end_bytes)) (rs ++ r ∷ [])
  append-holds r g l =
      let size = h.size in
      record {
        size = length_over s (length (flatten rs)) (r ++ end_bytes) ∙ size;
        rest = drop (length (flatten rs) + length (r ++ end_bytes)) s;
        laid = laid_over s (flatten rs) h.rest r h.laid (omega arith)
            ∙ ap (λ (l : List ℕ). l ++ end_bytes ++ drop (length (flatten rs) + length (r ++ end_bytes)) s)
            (sym (flatten-last rs r));
        good = each_last Good rs r h.good g;
      }

  append-together : (r : List ℕ) → Good r → Together n (shelf.append s rs r) (model.append n rs r)
  unfolding shelf.append model.append
  append-together r g =
      let size = h.size in
      let full = stay (refused 15) (refused-foreseen 15 (λ e. omega arith) (λ e. omega arith)) in
      elim (dec_lt n (length (flatten rs) + length r + 6)) [
        | yes l ↦ rw (size, lt-ltb n (length (flatten rs) + length r + 6) l) full
        | no l ↦ rw (size, le-ltb n (length (flatten rs) + length r + 6) (omega arith))
            (record { holds = append-holds r g (omega arith); same = refl; foreseen = gives-foreseen (length rs) })
      ]

  -- ---- Load

  pub load-together : (r : List ℕ) → Bytes r → Together n (shelf.load s r) (model.load_record n rs r)
  unfolding shelf.load model.load_record
  load-together r b = go (verdict r) refl
    where
      go : (v : Verdict) → verdict r ≡ v → Together n (shelf.load s r) (model.load_record n rs r)
      go pass e =
          rw (holds-walk n s rs h, e, shelf.load, model.load_record)
          (append-together r (record { passing = e; bytes = b }))
      go (check.refused k) e =
          rw (holds-walk n s rs h, e, shelf.load, model.load_record) (stay (refused k) (refusal-foreseen r k e))
      go (check.breaks v) e =
          rw (holds-walk n s rs h, e, shelf.load, model.load_record) (stay (breaks v) (breaks-foreseen v))

  -- ---- Hookup

  joined-together : (a b : List ℕ) → Good a → Good b
      → Together n (shelf.append_joined s rs a b) (model.hookup_records n rs a b)
  unfolding shelf.append_joined model.hookup_records
  joined-together a b g k = go (obstacle a b) refl
    where
      go : (o : Option Obstacle) → obstacle a b ≡ o
          → Together n (shelf.append_joined s rs a b) (model.hookup_records n rs a b)
      go none e =
          rw (e, shelf.append_joined, model.hookup_records) (append-together (joined a b) (joined_good a b g k e))
      go (some o) e =
          rw (e, shelf.append_joined, model.hookup_records) (stay (obstacle_answer o) (obstacle-foreseen a b o e))

  -- Records that the shelf holds pass, so that 14 does not come.
  parts_together : (a b : List ℕ) → Good a → Good b
      → Together n (shelf.hookup_of s rs a b) (model.hookup_records n rs a b)
  unfolding shelf.hookup_of
  parts_together a b g k = rw (good_passes a g, good_passes b k) (joined-together a b g k)

  pub hookup-together : (i j : ℕ) → Together n (shelf.hookup s i j) (model.step n (model.hookup i j) rs)
  unfolding shelf.hookup model.step
  hookup-together i j =
      let outside = stay (refused 13) (refused-foreseen 13 (λ e. omega arith) (λ e. omega arith)) in
      rw (holds-walk n s rs h, shelf.hookup)
      (elim (dec_lt i (length rs)) [
        | no l ↦ rw (le-leb (length rs) i (omega arith)) outside
        | yes l ↦ elim (dec_lt j (length rs)) [
          | no m ↦ rw (lt-leb (length rs) i l, le-leb (length rs) j (omega arith)) outside
          | yes m ↦ rw (lt-leb (length rs) i l, lt-leb (length rs) j m)
              (parts_together (get_or rs i []) (get_or rs j []) (each_at Good rs h.good i l)
              (each_at Good rs h.good j m))
        ]
      ])
