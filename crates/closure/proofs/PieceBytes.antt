-- The bytes of a piece: how many they are, how they are laid, and that the piece by rows is the piece of the record.
use Prim.Native.Nat.{ℕ, ◌+◌, ◌*◌, ◌≤◌, ◌<◌}
use mathlib.Core.Path.{◌≡◌, refl, sym, ap, ◌∙◌}
use mathlib.Core.Bool.{Bool}
use mathlib.Core.List.{List, ◌++◌}
use native.Mathlib.Nat.{zero-add}
use native.Mathlib.Omega.{arith}
use lib.ListN.{length, length-append, length-map}
use Rattle.bounded.specs.Search.{each}
use Rattle.bounded.specs.Paths.{reaches, visits_by, distances_by}
use Rattle.bounded.proofs.Search.{count_le}
use Rattle.bounded.proofs.Lists.{each_same}
use Rattle.bounded.proofs.Paths.{length-visits, reaches_wider, visits_wider, distances_wider}
use Rattle.words.specs.Arrays.{padded}
use Rattle.words.specs.Laid.{over}
use Rattle.words.specs.LittleEndian.{digits}
use Rattle.words.specs.Sets.{bit, mask, Rows}
use Rattle.words.proofs.Arrays.{length-padded}
use Rattle.words.proofs.LittleEndian.{length_digits, length-each}
use Rattle.words.proofs.LaidLaws.{over-append, each_turn}
use Rattle.words.proofs.Sets.{mask-same, mask_wider, none_above, represents_mask}
use Rattle.part.specs.Record.{observers, observer, states}
use Rattle.screening.specs.Rejections.{Accepted}
use Rattle.part.proofs.Fields.{own_columns}
use Rattle.screening.proofs.Ranges.{frame}
use Rattle.relations.specs.declared.silent.Closure.{Closure}
use Rattle.relations.specs.Relations.{step_by, silent_step, reach_for, visits_for, distances_for}
use Rattle.relations.specs.Sets.{Concerned, in_rows, ClosureFrom}
use Rattle.relations.proofs.SilentReach.{silent-steps, silent-within, reach-within}
use Rattle.relations.proofs.Theorems.{rows-within}
use Rattle.closure.specs.Closures.{piece_bytes, piece, block, pieces}
use Rattle.closure.specs.Pieces.{piece_by}

-- ---- how many bytes

visits-few : (step : ℕ → ℕ → Bool) (n s : ℕ) → length (visits_by step n s) ≤ n
visits-few step n s = omega (arith, length-visits step n s, count_le n (reaches step n s))

length-distances : (step : ℕ → ℕ → Bool) (n s : ℕ) → length (distances_by step n s) ≡ length (visits_by step n s)
unfolding distances_by
length-distances step n s = length-map (visits_by step n s) _

front_length : (set : ℕ) (xs : List ℕ) → length xs ≤ 64 → length (digits 8 set ++ padded 64 xs) ≡ 72
front_length set xs h =
    length-append (digits 8 set) (padded 64 xs) ∙ omega (arith, length_digits 8 set, length-padded 64 xs h)

pub length-piece_by : (step : ℕ → ℕ → Bool) (n s : ℕ) → n ≤ 64 → length (piece_by step n s) ≡ 136
unfolding piece_by piece_bytes
length-piece_by step n s h =
    let set = mask n (reaches step n s) in
    let few = visits-few step n s in
    let fit : length (distances_by step n s) ≤ 64 = omega (arith, length-distances step n s) in
    length-append (digits 8 set ++ padded 64 (visits_by step n s)) (padded 64 (distances_by step n s))
    ∙ omega (
      arith,
      front_length set (visits_by step n s) (omega arith),
      length-padded 64 (distances_by step n s) fit,
    )

-- ---- a piece is laid

pub piece_laid : (out : List ℕ) (at s : ℕ) (step : ℕ → ℕ → Bool) {c : Closure} {first second last : List ℕ}
    → ClosureFrom step 64 s c
    → first ≡ over out at (digits 8 c.set) → second ≡ over first (at + 8) c.visits
    → last ≡ over second (at + 72) c.distances → last ≡ over out at (piece_by step 64 s)
unfolding piece_by piece_bytes
piece_laid out at s step {c} found p q r =
    let set = mask 64 (reaches step 64 s) in
    let visits = padded 64 (visits_by step 64 s) in
    let distances = padded 64 (distances_by step 64 s) in
    let whole : c.set ≡ set =
    represents_mask 64 c.set (reaches step 64 s)
    (λ t l. sym (found.set t) ∙ none_above c.set 64 t found.small l) found.set in
    let front = front_length set (visits_by step 64 s) (visits-few step 64 s) in
    r ∙ rw (q, p, found.visits, found.distances, whole)
    (ap (λ (k : ℕ). over (over (over out at (digits 8 set)) (at + k) visits) (at + 72) distances)
    (sym (length_digits 8 set))
    ∙ ap (λ (l : List ℕ). over l (at + 72) distances) (sym (over-append out at (digits 8 set) visits))
    ∙ ap (λ (k : ℕ). over (over out at (digits 8 set ++ visits)) (at + k) distances) (sym front)
    ∙ sym (over-append out at (digits 8 set ++ visits) distances))

-- ---- the record's blocks

-- One block more is laid behind those of the observers below o.
pub blocks_turn : (b out : List ℕ) (o k : ℕ) → ((x : ℕ) → length (block b x) ≡ k) → {before next : List ℕ}
    → before ≡ over out 0 (each o (block b)) → next ≡ over before (o * k) (block b o)
    → next ≡ over out 0 (each (o + 1) (block b))
blocks_turn b out o k long {before} laid e =
    e ∙ ap (λ (i : ℕ). over before i (block b o)) (sym (zero-add (o * k)))
    ∙ rw laid (each_turn out 0 o k (block b) (λ x l. long x))

piece_own : (b : List ℕ) (o s : ℕ) → piece b o s ≡ piece_by (silent_step b (observer b o)) (states b) s
unfolding piece piece_by reach_for visits_for distances_for
piece_own b o s = refl

module _ (b : List ℕ) (a : Accepted b) (o silent : ℕ) (of : Concerned b (observer b o) 3 silent) (rows : List ℕ)
    (told : Rows (states b) rows (step_by b (bit silent))) where
  same-piece : (s : ℕ) → s < states b → piece_by (in_rows rows) 64 s ≡ piece b o s
  unfolding piece_by in_rows reach_for
  same-piece s h =
      let step = silent_step b (observer b o) in
      let few = (frame b a).few.most_states in
      let stays = silent-within b (observer b o) (rows-within b a) in
      let same : (u t : ℕ) → u < states b → in_rows rows u t ≡ step u t = λ u t l.
      told u l t ∙ silent-steps b _ silent of u t in
      let reached = reaches_wider (in_rows rows) step (states b) 64 few same stays s h in
      let set : mask 64 (reaches (in_rows rows) 64 s) ≡ mask (states b) (reaches step (states b) s) =
      mask-same 64 _ _ (λ t l. reached t)
      ∙ mask_wider (states b) 64 _ few (λ t l. reach-within b (observer b o) (rows-within b a) s t h l) in
      rw (
        set,
        visits_wider (in_rows rows) step (states b) 64 few same stays s h,
        distances_wider (in_rows rows) step (states b) 64 few same stays s h,
      ) (sym (piece_own b o s))

  pub same_block : each (states b) (piece_by (in_rows rows) 64) ≡ block b o
  unfolding block
  same_block = each_same (states b) _ _ same-piece

module _ (b : List ℕ) (a : Accepted b) where
  pub length-block : (o : ℕ) → length (block b o) ≡ states b * 136
  unfolding block
  length-block o =
      length-each (states b) 136 (piece b o) (λ s h.
      ap length (piece_own b o s) ∙ length-piece_by _ (states b) s (frame b a).few.most_states)

  pub length-pieces : (k : ℕ) → ((o : ℕ) → length (block b o) ≡ k) → length (pieces b) ≡ observers b * k
  unfolding pieces
  length-pieces k long = length-each (observers b) k (block b) (λ o h. long o)

  -- There are few observers.
  pub few-observers : observers b ≤ 255
  few-observers = omega (arith, own_columns b, (frame b a).few.most_columns)
