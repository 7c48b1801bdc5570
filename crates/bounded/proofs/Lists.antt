-- The laws of lists that are made by number: pieces one behind the other, the numbers that pass a test; and that an
-- order fixes a list by what is in it.
use Prim.Native.Nat.{ℕ, zero, suc, ◌+◌, ◌≤◌, ◌<◌}
use mathlib.Core.Path.{◌≡◌, refl, sym, ap, ◌∙◌, subst}
use mathlib.Core.Bool.{Bool, true, false, cond}
use mathlib.Core.List.{List, [], ◌∷◌, ◌++◌, map, append_assoc, append-nil}
use mathlib.Core.List.Memᴰ.{head as here}
use mathlib.Core.List.Memᴰ.{tail as there}
use mathlib.Core.List.{Memᴰ as Among}
use mathlib.Core.List.Memᴰ
use mathlib.Core.Logic.{◌↔◌, ◌⊎◌, inl, inr, ⊎_elim}
use native.Mathlib.Nat.{add-zero, le_step, lt-suc_self}
use native.Mathlib.Decide.{ℕ_discrete as dec_eq}
use native.Mathlib.Omega.{arith}
use lib.ListN.{length, get_or, length-append}
use Rattle.bounded.specs.Search.{count, total, each, listed}
use Rattle.bounded.specs.Paths.{InOrder, none, one, more}
use Rattle.bounded.proofs.Search.{last-or-below}

-- ---- pieces one behind the other

pub each_same : (n : ℕ) (f g : ℕ → List ℕ) → ((i : ℕ) → i < n → f i ≡ g i) → each n f ≡ each n g
unfolding each
each_same zero f g h = refl
each_same (suc n) f g h = rw (each_same n f g (λ i l. h i (le_step l)), h n (lt-suc_self n))

-- The first m pieces, and the n behind them.
pub each_add : (m n : ℕ) (f : ℕ → List ℕ) → each (m + n) f ≡ each m f ++ each n (λ i. f (m + i))
unfolding each
each_add m zero f = rw (add-zero m) (sym (append-nil (each m f)))
each_add m (suc n) f =
    let whole : m + suc n ≡ suc (m + n) = omega arith in
    rw (whole, each_add m n f) (append_assoc (each m f) (each n (λ i. f (m + i))) (f (m + n)))

-- Further pieces with nothing in them.
pub each_wider : (n wide : ℕ) (f : ℕ → List ℕ) → n ≤ wide → ((i : ℕ) → n ≤ i → i < wide → f i ≡ [])
    → each wide f ≡ each n f
unfolding each
each_wider n zero f h empty = let q : 0 ≡ n = omega arith in ap (λ (k : ℕ). each k f) q
each_wider n (suc wide) f h empty =
    elim (dec_eq n (suc wide)) [
      | yes q ↦ ap (λ (k : ℕ). each k f) (sym q)
      | no q ↦
          let rest = each_wider n wide f (omega arith) (λ i l m. empty i l (le_step m)) in
          rw (rest, empty wide (omega arith) (lt-suc_self wide)) (append-nil (each n f))
    ]

pub length-total : (n : ℕ) (f : ℕ → List ℕ) → length (each n f) ≡ total n (λ i. length (f i))
unfolding each total
length-total zero f = refl
length-total (suc n) f = length-append (each n f) (f n) ∙ ap (λ (k : ℕ). k + length (f n)) (length-total n f)

pub among_each : {x : ℕ} (n : ℕ) (f : ℕ → List ℕ) → Among x (each n f) ↔ ((i : ℕ) × (i < n) × Among x (f i))
unfolding each
among_each zero f = (λ m. absurd (Memᴰ.not-nil m), λ (i, h, m). absurd (omega arith))
among_each {x} (suc n) f =
    let rest = among_each {x = x} n f in (
      λ m.
          ⊎_elim (λ m. let (i, h, k) = rest.0 m in (i, le_step h, k)) (λ m. (n, lt-suc_self n, m))
          (Memᴰ.append_cases (each n f) m),
      λ (i, h, m).
          ⊎_elim (λ e. Memᴰ.append_right (each n f) (subst (λ (k : ℕ). Among x (f k)) e m))
          (λ l. Memᴰ.append_left (f n) (rest.1 (i, l, m))) (last-or-below h),
    )

-- ---- the numbers that pass a test

module _ (f : ℕ → Bool) where
  abbrev alone : ℕ → List ℕ
  alone i = cond (f i) (i ∷ []) []

  alone_in : (i : ℕ) → f i ≡ true → alone i ≡ i ∷ []
  alone_in i e = rw e

  alone_out : (i : ℕ) → f i ≡ false → alone i ≡ []
  alone_out i e = rw e

  among_alone : {t i : ℕ} → Among t (alone i) → (f i ≡ true) × (t ≡ i)
  among_alone {t} {i} m = go (f i) refl m
    where
      go : (b : Bool) → f i ≡ b → Among t (cond b (i ∷ []) []) → (f i ≡ true) × (t ≡ i)
      go true e m = (e, Memᴰ.eq_of_singleton m)
      go false e m = absurd (Memᴰ.not-nil m)

  pub among_listed : {t : ℕ} (n : ℕ) → Among t (listed n f) ↔ ((t < n) × (f t ≡ true))
  unfolding listed
  among_listed {t} n =
      let at = among_each {x = t} n alone in (
        λ m.
            let (i, h, k) = at.0 m in
            let (p, e) = among_alone k in
            (subst (λ (k : ℕ). k < n) (sym e) h, subst (λ (k : ℕ). f k ≡ true) (sym e) p),
        λ (h, p). at.1 (t, h, subst (Among t) (sym (alone_in t p)) (here refl)),
      )

  pub length-listed : (n : ℕ) → length (listed n f) ≡ count n f
  unfolding listed each count
  length-listed zero = refl
  length-listed (suc n) =
      length-append (each n alone) (alone n)
      ∙ ap (λ (k : ℕ). k + length (alone n)) (length-listed n)
      ∙ ap (λ (k : ℕ). count n f + k) (single (f n))
    where
      single : (b : Bool) → length (cond b (n ∷ []) []) ≡ cond b 1 0
      single true = refl
      single false = refl

  pub listed-none : (n : ℕ) → ((i : ℕ) → i < n → f i ≡ false) → listed n f ≡ []
  unfolding listed each
  listed-none n h = each_wider 0 n alone (omega arith) (λ i l m. alone_out i (h i m))

  -- Where no number at n or above passes.
  pub listed_wider : (n wide : ℕ) → n ≤ wide → ((i : ℕ) → n ≤ i → i < wide → f i ≡ false)
      → listed wide f ≡ listed n f
  unfolding listed
  listed_wider n wide h out = each_wider n wide alone h (λ i l m. alone_out i (out i l m))

pub listed_same : (n : ℕ) (f g : ℕ → Bool) → ((i : ℕ) → i < n → f i ≡ g i) → listed n f ≡ listed n g
unfolding listed
listed_same n f g h = each_same n _ _ (λ i l. ap (λ (b : Bool). cond b (i ∷ []) []) (h i l))

-- The lowest number that passes, and the list of the others.
pub listed-lowest : (n low : ℕ) (f g : ℕ → Bool) → low < n → f low ≡ true → g low ≡ false
    → ((i : ℕ) → i < low → f i ≡ false) → ((i : ℕ) → (i ≡ low → ⊥) → f i ≡ g i)
    → listed n f ≡ low ∷ listed n g
unfolding listed each
listed-lowest zero low f g h p q nothing same = absurd (omega arith)
listed-lowest (suc n) low f g h p q nothing same =
    ⊎_elim
    (λ e.
    let before : (i : ℕ) → i < n → f i ≡ false = λ i l. nothing i (omega arith) in
    let after : (i : ℕ) → i < n → g i ≡ false = λ i l. sym (same i (λ z. omega arith)) ∙ before i l in
    let top : f n ≡ true = subst (λ (k : ℕ). f k ≡ true) e p in
    let top' : g n ≡ false = subst (λ (k : ℕ). g k ≡ false) e q in
    rw (top, top', listed-none f n before, listed-none g n after) (ap (λ (k : ℕ). k ∷ []) (sym e)))
    (λ l.
    rw (listed-lowest n low f g l p q nothing same, same n (λ z. omega arith)))
    (last-or-below h)

-- ---- the same done to each of a list

pub map_same : (f g : ℕ → ℕ) (xs : List ℕ) → ((x : ℕ) → Among x xs → f x ≡ g x) → map f xs ≡ map g xs
map_same f g [] h = refl
map_same f g (x ∷ xs) h = rw (h x (here refl), map_same f g xs (λ y m. h y (there m)))

pub map_at : (f : ℕ → ℕ) (xs : List ℕ) (i : ℕ) → i < length xs → get_or (map f xs) i 0 ≡ f (get_or xs i 0)
map_at f [] i h = absurd (omega arith)
map_at f (x ∷ xs) zero h = refl
map_at f (x ∷ xs) (suc i) h = map_at f xs i (omega arith)

pub among_at : (xs : List ℕ) (i : ℕ) → i < length xs → Among (get_or xs i 0) xs
among_at [] i h = absurd (omega arith)
among_at (x ∷ xs) zero h = here refl
among_at (x ∷ xs) (suc i) h = there (among_at xs i (omega arith))

-- ---- lists in an order

module _ {Before : ℕ → ℕ → Type 0} where
  pub order-behind : {x : ℕ} {xs : List ℕ} → InOrder Before (x ∷ xs) → InOrder Before xs
  order-behind one = none
  order-behind (more r rest) = rest

  -- Two lists in order, with the first before the second.
  pub order-append : {xs ys : List ℕ} → InOrder Before xs → InOrder Before ys
      → ((x y : ℕ) → Among x xs → Among y ys → Before x y) → InOrder Before (xs ++ ys)
  order-append none p before = p
  order-append {ys = []} (one {x = x}) p before = one
  order-append {ys = y ∷ ys} (one {x = x}) p before = more (before x y (here refl) (here refl)) p
  order-append (more r rest) p before = more r (order-append rest p (λ x y m k. before x y (there m) k))

  pub order-each : (n : ℕ) (f : ℕ → List ℕ) → ((i : ℕ) → i < n → InOrder Before (f i))
      → ((i j x y : ℕ) → i < j → j < n → Among x (f i) → Among y (f j) → Before x y)
      → InOrder Before (each n f)
  unfolding each
  order-each zero f within across = none
  order-each (suc n) f within across =
      order-append
      (order-each n f (λ i l. within i (le_step l)) (λ i j x y l h. across i j x y l (le_step h)))
      (within n (lt-suc_self n))
      (λ x y m k. let (i, h, a) = (among_each n f).0 m in across i n x y h (lt-suc_self n) a k)

  pub order-listed : (n : ℕ) (f : ℕ → Bool)
      → ((x y : ℕ) → x < y → y < n → f x ≡ true → f y ≡ true → Before x y) → InOrder Before (listed n f)
  unfolding listed
  order-listed n f before =
      order-each n _ (λ i l. single i (f i))
      (λ i j x y l h m k.
      let (p, d) = among_alone f m in
      let (q, e) = among_alone f k in
      rw (d, e) (before i j l h p q))
    where
      single : (i : ℕ) (b : Bool) → InOrder Before (cond b (i ∷ []) [])
      single i true = one
      single i false = none

  module _ (trans : (x y z : ℕ) → Before x y → Before y z → Before x z) where
    -- The first is before all others.
    pub order-first : {x y : ℕ} {xs : List ℕ} → InOrder Before (x ∷ xs) → Among y xs → Before x y
    order-first one m = absurd (Memᴰ.not-nil m)
    order-first (more {x = x} {y = z} r rest) m =
        ⊎_elim (λ e. subst (Before x) (sym e) r) (λ k. trans _ _ _ r (order-first rest k)) (Memᴰ.cases_cons m)

    module _ (irreflexive : (x : ℕ) → Before x x → ⊥) where
      -- Each once.
      pub order-once : {xs : List ℕ} → InOrder Before xs → (i j : ℕ) → i < j → j < length xs
          → get_or xs i 0 ≡ get_or xs j 0 → ⊥
      order-once {xs = []} o i j l h e = omega arith
      order-once {xs = x ∷ xs} o zero zero l h e = omega arith
      order-once {xs = x ∷ xs} o zero (suc j) l h e =
          irreflexive x (subst (Before x) (sym e) (order-first o (among_at xs j (omega arith))))
      order-once {xs = x ∷ xs} o (suc i) zero l h e = omega arith
      order-once {xs = x ∷ xs} o (suc i) (suc j) l h e =
          order-once (order-behind o) i j (omega arith) (omega arith) e

      -- Two lists in order with the same numbers are the same list.
      pub order_only : (xs ys : List ℕ) → InOrder Before xs → InOrder Before ys
          → ((x : ℕ) → Among x xs ↔ Among x ys) → xs ≡ ys
      order_only [] [] o p same = refl
      order_only [] (y ∷ ys) o p same = absurd (Memᴰ.not-nil ((same y).1 (here refl)))
      order_only (x ∷ xs) [] o p same = absurd (Memᴰ.not-nil ((same x).0 (here refl)))
      order_only (x ∷ xs) (y ∷ ys) o p same =
          let first : x ≡ y =
          ⊎_elim (λ e. e)
          (λ m.
          ⊎_elim (λ e. sym e)
          (λ k. absurd (irreflexive x (trans _ _ _ (order-first o k) (order-first p m))))
          (Memᴰ.cases_cons ((same y).1 (here refl))))
          (Memᴰ.cases_cons ((same x).0 (here refl))) in
          let rest = order_only xs ys (order-behind o) (order-behind p) (λ z. (
            λ m. other (λ e. irreflexive x (subst (Before x) (e ∙ sym first) (order-first o m)))
                (Memᴰ.cases_cons ((same z).0 (there m))),
            λ m. other (λ e. irreflexive y (subst (Before y) (e ∙ first) (order-first p m)))
                (Memᴰ.cases_cons ((same z).1 (there m))),
          )) in
          rw (first, rest)
        where
          other : {z w : ℕ} {zs : List ℕ} → (z ≡ w → ⊥) → (z ≡ w) ⊎ Among z zs → Among z zs
          other d (inl e) = absurd (d e)
          other d (inr m) = m
