-- What holds of every record of a list.
use Prim.Native.Nat.{ℕ, zero, suc, ◌<◌}
use mathlib.Core.List.{List, [], ◌∷◌, ◌++◌}
use native.Mathlib.Nat.{le_of_suc-le-suc, not-suc-le-zero}
use lib.ListN.{length, get_or}

abbrev pub Each : (List ℕ → Type 0) → List (List ℕ) → Type 0
Each P [] = Unit {0}
Each P (r ∷ rs) = P r × Each P rs

pub each_at : (P : List ℕ → Type 0) (rs : List (List ℕ)) → Each P rs → (i : ℕ) → i < length rs → P (get_or rs i [])
each_at P [] h i l = absurd (not-suc-le-zero l)
each_at P (r ∷ rs) h zero l = h.0
each_at P (r ∷ rs) h (suc i) l = each_at P rs h.1 i (le_of_suc-le-suc l)

pub each_last : (P : List ℕ → Type 0) (rs : List (List ℕ)) (r : List ℕ) → Each P rs → P r → Each P (rs ++ r ∷ [])
each_last P [] r h p = (p, tt)
each_last P (q ∷ rs) r h p = (h.0, each_last P rs r h.1 p)

pub each_as : (P Q : List ℕ → Type 0) → ((r : List ℕ) → P r → Q r) → (rs : List (List ℕ)) → Each P rs → Each Q rs
each_as P Q f [] h = tt
each_as P Q f (r ∷ rs) h = (f r h.0, each_as P Q f rs h.1)
