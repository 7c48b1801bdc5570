-- The calls of a script: what stands at the start decides the first, and the others stand behind it.
use Prim.Native.Nat.{ℕ, zero, suc, ◌+◌, ◌≤◌, ◌<◌}
use mathlib.Core.Path.{◌≡◌, refl, sym, ap, ◌∙◌}
use mathlib.Core.List.{List, [], ◌∷◌}
use mathlib.Core.Option.{Option, none, some, map}
use Rattle.std.specs.Prelude.{Err}
use native.Mathlib.Nat.{not-suc-le-zero, zero-add, add-zero}
use native.Mathlib.Decide.{dec_lt}
use native.Mathlib.Omega.{arith}
use lib.ListN.{length, drop, length-drop}
use borrow.Author.Tests.{lt-ltb, le-ltb}
use Rattle.script.specs.declared.operation.Call as call
use Rattle.script.specs.declared.operation.Call.TheVariants.{Clear, Load, Hookup}
use Rattle.script.specs.declared.operation.Operation as operation
use Rattle.script.specs.declared.operation.Operation.TheVariants.{Count, Part}
use Rattle.script.specs.declared.operation.Stop.{Stop}
use Rattle.script.specs.declared.operation.Stop.TheVariants.{Truncated, Unknown}
use Rattle.script.specs.Answers.{operation_of_call, operation_of, stop_of, item_of}
use Rattle.script.specs.Operation as script
use Rattle.script.specs.Operation.{operation, size}
use Rattle.script.specs.Sequence.{operations}
use Rattle.script.proofs.Operations.{size-within, operations-end, operations-first, operations-next, length-operations}
use Rattle.store.specs.Answer.{Answer}
use Rattle.store.specs.Model.{Call, clear, load, hookup}
use Rattle.store.specs.Demand.{step}
use Rattle.batch.specs.Script.{call_of, calls_at_most, calls, listed}
use Rattle.batch.specs.Performed.{Answered}
use Rattle.batch.specs.Listing.{Listed, Counts}
use Rattle.std.specs.Prelude.{Result, Ok, Err, IsErrAnd}
use Rattle.batch.specs.declared.answer.NotRun.{NotRun}
use Rattle.batch.specs.declared.answer.NotRun.TheVariants.{Malformed}

-- ---- the call at the start

-- It takes a byte or more, and no more than there are.
pub record Sized (s : List ℕ) : Type 0 where
  pub some_byte : 1 ≤ size (operation s)
  pub within : size (operation s) ≤ length s

pub call-sized : (s : List ℕ) (c : Call) → call_of (operation s) ≡ some c → Sized s
unfolding call_of size
call-sized s c e = record { some_byte = go (operation s) e; within = size-within s }
  where
    go : (o : script.Operation) → call_of o ≡ some c → 1 ≤ size o
    go script.clear q = omega arith
    go (script.load r) q = omega arith
    go (script.hookup i j) q = omega arith
    go script.count q = omega arith
    go (script.part i) q = omega arith
    go script.ended q = let z : ◌≡◌ {A = ℕ} 0 1 = cc in absurd (omega arith)
    go script.truncated q = let z : ◌≡◌ {A = ℕ} 0 1 = cc in absurd (omega arith)
    go script.unknown q = let z : ◌≡◌ {A = ℕ} 0 1 = cc in absurd (omega arith)

-- There is at most one call: what is done for it is done for every call that is there.
pub one_call : (o : script.Operation) (d : Call) (s : List ℕ) {s' : List ℕ} {a : Answer} → call_of o ≡ some d
    → (a ≡ (step d s).answer) × (s' ≡ (step d s).shelf)
    → Answered o s a s'
one_call o d s e h c f = let same : d ≡ c = cc in rw (← same) h

-- The operation o is a call.
pub record Calling (o : script.Operation) : Type 0 where
  pub call : Call
  pub is : call_of o ≡ some call

-- The code's calls are calls, and its other operations are not.
pub some-call : (c : call.Call) → Calling (operation_of_call c)
unfolding call_of operation_of_call
some-call Clear = record { call = clear; is = refl }
some-call (Load r) = record { call = load r.now; is = refl }
some-call (Hookup i j) = record { call = hookup i j; is = refl }

pub no_call : (o : operation.Operation) → ((c : call.Call) → o ≡ operation.TheVariants.Call c → ⊥)
    → call_of (operation_of o) ≡ none
unfolding call_of operation_of
no_call (operation.TheVariants.Call c) k = absurd (k c refl)
no_call Count k = refl
no_call (Part i) k = refl

-- Nor is a stop.
pub no_stop : (e : Stop) → call_of (item_of (Err e)) ≡ none
unfolding item_of stop_of call_of
no_stop Truncated = refl
no_stop Unknown = refl

-- ---- the calls

same_step : (j k : ℕ) (s : List ℕ) (o : Option Call) → call_of (operation s) ≡ o → length s ≤ j → length s ≤ k
    → ((t : List ℕ) → length t < j → length t < k → calls_at_most j t ≡ calls_at_most k t)
    → calls_at_most (suc j) s ≡ calls_at_most (suc k) s
unfolding calls_at_most
same_step j k s none e a b rest = rw (e, calls_at_most)
same_step j k s (some c) e a b rest =
    let w = call-sized s c e in
    let left = length-drop (size (operation s)) s in
    let more = rest (drop (size (operation s)) s) (omega arith) (omega arith) in
    rw (e, calls_at_most) (rw more)

-- How many are looked at does not matter once they are more than the bytes.
same-calls : (j k : ℕ) (s : List ℕ) → length s < j → length s < k → calls_at_most j s ≡ calls_at_most k s
same-calls zero k s a b = absurd (not-suc-le-zero a)
same-calls (suc j) zero s a b = absurd (not-suc-le-zero b)
same-calls (suc j) (suc k) s a b =
    same_step j k s (call_of (operation s)) refl (omega arith) (omega arith) (λ t c d. same-calls j k t c d)

pub calls-none-left : (s : List ℕ) → length s < 1 → calls s ≡ some []
unfolding calls calls_at_most
calls-none-left s h = rw (lt-ltb _ _ h)

pub calls_stuck : (s : List ℕ) → 1 ≤ length s → call_of (operation s) ≡ none → calls s ≡ none
unfolding calls calls_at_most
calls_stuck s h e = rw (le-ltb _ _ h, e)

pub calls_next : (s : List ℕ) (c : Call) → call_of (operation s) ≡ some c
    → calls s ≡ map (λ (cs : List Call). c ∷ cs) (calls (drop (size (operation s)) s))
unfolding calls calls_at_most
calls_next s c e =
    let w = call-sized s c e in
    let left = length-drop (size (operation s)) s in
    let rest =
    same-calls (length s) (suc (length (drop (size (operation s)) s))) (drop (size (operation s)) s) (omega arith)
    (omega arith) in
    rw (le-ltb (length s) 1 (omega arith), e, calls_at_most) (rw rest)

-- The operations are calls, all of them.
unfoldable pub calls_of : List script.Operation → Option (List Call)
calls_of [] = some []
calls_of (o ∷ os) = elim (call_of o) [ none ↦ none | some c ↦ map (λ (cs : List Call). c ∷ cs) (calls_of os) ]

-- Where something is left, and those behind the first are known.
some_left : (s : List ℕ) → 1 ≤ length s → ((t : List ℕ) → length t < length s → calls t ≡ calls_of (operations t))
    → (o : Option Call) → call_of (operation s) ≡ o → calls s ≡ calls_of (operations s)
unfolding calls_of
some_left s l behind none e = calls_stuck s l e ∙ rw (operations-first s l, e, calls_of) refl
some_left s l behind (some c) e =
    let w = call-sized s c e in
    let k = size (operation s) in
    calls_next s c e
    ∙ ap (map (λ (cs : List Call). c ∷ cs)) (behind (drop k s) (omega (arith, length-drop k s)))
    ∙ rw (operations-next s w.some_byte, e, calls_of) refl

-- The calls of a script are those that its operations are.
pub calls-operations : (n : ℕ) (s : List ℕ) → length s < n → calls s ≡ calls_of (operations s)
unfolding calls_of
calls-operations zero s h = absurd (omega arith)
calls-operations (suc n) s h =
    elim (dec_lt (length s) 1) [
      | yes l ↦ calls-none-left s l ∙ rw (operations-end s l) refl
      | no l ↦ some_left s (omega arith) (λ t less. calls-operations n t (omega arith)) (call_of (operation s)) refl
    ]

-- ---- how many they are

-- A listing of s that has passed n calls, and has these operations left.
pub record Passed (s : List ℕ) (n : ℕ) (left : List script.Operation) : Type 0 where
  pub fewer : n + length left ≤ length s
  pub rest : map length (calls s) ≡ map (λ (cs : List Call). n + length cs) (calls_of left)

map-nothing : (o : Option (List Call)) → map length o ≡ map (λ (cs : List Call). 0 + length cs) o
map-nothing none = refl
map-nothing (some cs) = ap some (sym (zero-add (length cs)))

map_one_more : (n : ℕ) (c : Call) (o : Option (List Call))
    → map (λ (cs : List Call). n + length cs) (map (λ (cs : List Call). c ∷ cs) o)
    ≡ map (λ (cs : List Call). n + 1 + length cs) o
map_one_more n c none = refl
map_one_more n c (some cs) = ap some (omega arith)

pub passed_none : (s : List ℕ) → Passed s 0 (operations s)
passed_none s = record {
  fewer = omega (arith, length-operations s);
  rest = map-nothing (calls s)
      ∙ ap (map (λ (cs : List Call). 0 + length cs)) (calls-operations (suc (length s)) s (omega arith));
}

pub passed_end : (s : List ℕ) (n : ℕ) → Passed s n [] → some n ≡ map length (calls s)
unfolding calls_of
passed_end s n w = rw w.rest (ap some (sym (add-zero n)))

module _ (s : List ℕ) (n : ℕ) (o : script.Operation) (left : List script.Operation) (w : Passed s n (o ∷ left)) where
  pub passed_stuck : call_of o ≡ none → none ≡ map length (calls s)
  unfolding calls_of
  passed_stuck e = rw (w.rest, e, calls_of) refl

  pub passed_next : {c : Call} → call_of o ≡ some c → Passed s (n + 1) left
  unfolding calls_of
  passed_next {c} e = record {
    fewer = omega (arith, w.fewer);
    rest = w.rest ∙ rw (e, calls_of) (map_one_more n c (calls_of left));
  }

-- ---- the first of them

pub calls-some-left : (s : List ℕ) (c : Call) (cs : List Call) → calls s ≡ some (c ∷ cs) → 1 ≤ length s
calls-some-left s c cs e = elim (dec_lt (length s) 1) [ yes l ↦ none_left l | no l ↦ omega arith ]
  where
    none_left : length s < 1 → 1 ≤ length s
    none_left l = let no = calls-none-left s l in let z : ◌≡◌ {A = ℕ} 0 1 = cc in absurd (omega arith)

-- The first call of s, and the others.
pub record First (s : List ℕ) (cs : List Call) : Type 0 where
  pub call : Call
  pub others : List Call
  pub is : call_of (operation s) ≡ some call
  pub all : cs ≡ call ∷ others
  pub behind : calls (drop (size (operation s)) s) ≡ some others

pub calls-first : (s : List ℕ) (cs : List Call) → 1 ≤ length s → calls s ≡ some cs → First s cs
calls-first s cs l h = go (call_of (operation s)) refl
  where
    go_on : (c : Call) → call_of (operation s) ≡ some c → (o : Option (List Call))
        → calls (drop (size (operation s)) s) ≡ o
        → map (λ (qs : List Call). c ∷ qs) o ≡ some cs
        → First s cs
    go_on c e none q found = let z : ◌≡◌ {A = ℕ} 0 1 = cc in absurd (omega arith)
    go_on c e (some qs) q found =
        let all : cs ≡ c ∷ qs = cc in record { call = c; others = qs; is = e; all = all; behind = q }

    go : (o : Option Call) → call_of (operation s) ≡ o → First s cs
    go none e = let no = calls_stuck s l e in let z : ◌≡◌ {A = ℕ} 0 1 = cc in absurd (omega arith)
    go (some c) e = go_on c e (calls (drop (size (operation s)) s)) refl (sym (calls_next s c e) ∙ h)

-- The same of the operations: the first is a call, and so are the others.
pub record FirstOf (o : script.Operation) (os : List script.Operation) (cs : List Call) : Type 0 where
  pub call : Call
  pub others : List Call
  pub is : call_of o ≡ some call
  pub all : cs ≡ call ∷ others
  pub behind : calls_of os ≡ some others

pub first_of : (o : script.Operation) (os : List script.Operation) (cs : List Call) → calls_of (o ∷ os) ≡ some cs
    → FirstOf o os cs
unfolding calls_of
first_of o os cs h = go (call_of o) refl (calls_of os) refl h
  where
    go : (d : Option Call) → call_of o ≡ d → (r : Option (List Call)) → calls_of os ≡ r
        → elim d [ none ↦ none | some c ↦ map (λ (qs : List Call). c ∷ qs) r ] ≡ some cs
        → FirstOf o os cs
    go none e r q h = let z : ◌≡◌ {A = ℕ} 0 1 = cc in absurd (omega arith)
    go (some c) e none q h = let z : ◌≡◌ {A = ℕ} 0 1 = cc in absurd (omega arith)
    go (some c) e (some qs) q h =
        let all : cs ≡ c ∷ qs = cc in record { call = c; others = qs; is = e; all = all; behind = q }

-- ---- all of them

pub listed-all : (s : List ℕ) (n : ℕ) → some n ≡ map length (calls s) → Listed s n
unfolding listed
listed-all s n e = go (calls s) refl e
  where
    go : (o : Option (List Call)) → calls s ≡ o → some n ≡ map length o → Listed s n
    go none q h = let z : ◌≡◌ {A = ℕ} 0 1 = cc in absurd (omega arith)
    go (some cs) q h =
        let same : listed s ≡ cs = rw (q, listed) in
        let many : n ≡ length cs = cc in
        record { all = rw same q; many = rw same (sym many) }

pub listed-none : (s : List ℕ) → none ≡ map length (calls s) → calls s ≡ none
listed-none s e = go (calls s) refl e
  where
    go : (o : Option (List Call)) → calls s ≡ o → none ≡ map length o → calls s ≡ none
    go none q h = q
    go (some cs) q h = let z : ◌≡◌ {A = ℕ} 0 1 = cc in absurd (omega arith)

-- What the count of a malformed script answers at an exit of `?`.
pub unlisted : (r : Result ℕ NotRun) (s : List ℕ) → IsErrAnd r (λ e. e ≡ Malformed) → calls s ≡ none → Counts r s
unlisted (Ok n) s h e = absurd h
unlisted (Err why) s h e = record { none_listed = e; told = h }
