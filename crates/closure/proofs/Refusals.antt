-- The answer of the call in each of its cases.
use Prim.Native.Nat.{ℕ, ◌≤◌, ◌<◌}
use mathlib.Core.Path.{◌≡◌}
use mathlib.Core.List.{List}
use mathlib.Core.Option.{none, some}
use borrow.Author.Tests.{lt-ltb, le-ltb}
use lib.ListN.{length}
use Rattle.bounded.specs.Search.{or_else, when}
use Rattle.screening.specs.Rejections.{rejection}
use Rattle.closure.specs.Closures.{pieces, refusal}

module _ (b : List ℕ) (room : ℕ) where
  pub refused : (k : ℕ) → rejection b ≡ some k → refusal b room ≡ some k
  unfolding refusal or_else
  refused k e = rw e

  pub roomless : rejection b ≡ none → room < length (pieces b) → refusal b room ≡ some 15
  unfolding refusal or_else when
  roomless e h = rw (e, lt-ltb room (length (pieces b)) h)

  pub roomy : rejection b ≡ none → length (pieces b) ≤ room → refusal b room ≡ none
  unfolding refusal or_else when
  roomy e h = rw (e, le-ltb room (length (pieces b)) h)
