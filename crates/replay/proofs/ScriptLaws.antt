-- The cases of a transcript.
use Rattle.std.proofs.Common.{ℕ, ◌-◌, ◌≤◌, ◌<◌, ◌≡◌, List, ◌++◌, length, take, drop, replicate, Option, Some, None, Result, Ok, Err, OnOk, IfSome, inl, inr, refl, sym, ap, ◌∙◌, subst, arith, length-drop}
use Rattle.std.proofs.lemmas.List.{length-take-le, take-replicate}
use Rattle.std.proofs.lemmas.Bool.{cases_lt}
use lib.Seq.{take_all}
use borrow.Author.Tests.{lt-ltb, le-ltb}
use Rattle.std.specs.Io.KnownBytes.{Appends}
use Rattle.words.specs.LittleEndian.{number}
use Rattle.report.specs.Line.{line_end}
use Rattle.transcript.specs.Lines.{truncated_text}
use Rattle.replay.specs.Transcript.{most, script_text, capacity_text, all_turns, with_shelf, transcript}

-- A script that is too long, one that is too short, one that asks for too large a shelf, and any other.
module _ (s : List ℕ) where
  pub too_long : most < length s → script_text ++ line_end ≡ transcript s
  unfolding transcript
  too_long long = rw (lt-ltb most (length s) long) refl

  module _ (fits : length s ≤ most) where
    pub too_short : length s < 4 → truncated_text ++ line_end ≡ transcript s
    unfolding transcript
    too_short short = rw (le-ltb most (length s) fits, lt-ltb (length s) 4 short) refl

    module _ (n : ℕ) (is : n ≡ number 4 s 0) (whole : 4 ≤ length s) where
      pub too_large : most < n → capacity_text ++ line_end ≡ transcript s
      unfolding transcript
      too_large large = rw (← is, le-ltb most (length s) fits, le-ltb (length s) 4 whole, lt-ltb most n large) refl

      pub replayed : n ≤ most
          → with_shelf (all_turns (take (length s - 4) (drop 4 s)) (replicate n 0xAA)) ≡ transcript s
      unfolding transcript
      replayed small =
          let behind : take (length s - 4) (drop 4 s) ≡ drop 4 s = take_all _ _ (omega (arith, length-drop 4 s)) in
          rw (behind, ← is, le-ltb most (length s) fits, le-ltb (length s) 4 whole, le-ltb most n small) refl

-- A shelf's first bytes are a shelf too.
pub new_shelf : (n room : ℕ) (s : List ℕ) → n ≤ room
    → with_shelf (all_turns s (take n (replicate room 0xAA))) ≡ with_shelf (all_turns s (replicate n 0xAA))
new_shelf n room s within =
    ap (λ (k : List ℕ). with_shelf (all_turns s k)) (take-replicate {X = ℕ} n room 0xAA within)

-- Bytes behind the first one too many say nothing.
pub first_enough : (n : ℕ) (input : List ℕ) → most < n → transcript (take n input) ≡ transcript input
first_enough n input above = elim (cases_lt n (length input)) [
  | inl long ↦
      sym (too_long (take n input) (omega (arith, length-take-le n input (omega arith))))
      ∙ too_long input (omega arith)
  | inr short ↦ ap transcript (take_all n input short)
]

-- One text in the place of another that is the same.
pub on_text : {T E : Type 0} (r : Result T E) (before after : Option (List ℕ)) {text other : List ℕ} → text ≡ other
    → OnOk r (Appends before after text) → OnOk r (Appends before after other)
on_text r before after is h = subst (λ (k : List ℕ). OnOk r (Appends before after k)) is h

-- What was written for the first bytes of an input was written for the input.
pub on_input : {T E : Type 0} (r : Result T E) (n : ℕ) (known before after : Option (List ℕ)) → most < n
    → OnOk r (IfSome known (λ input. Appends before after (transcript (take n input))))
    → OnOk r (IfSome known (λ input. Appends before after (transcript input)))
on_input (Err e) n known before after above h = tt
on_input (Ok x) n None before after above h = tt
on_input (Ok x) n (Some input) before after above h = subst (Appends before after) (first_enough n input above) h
