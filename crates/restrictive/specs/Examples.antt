-- Records that tell the rules, the count, the order of the observers and the limit from their wrong readings (document 01, "Wrong readings";
-- document 02, f, i, k and l).
use Rattle.std.specs.Prelude.{ℕ, Bool, ◌&&◌, List, [], ◌∷◌, ◌++◌, T, eqb, length}
use Rattle.words.specs.LittleEndian.{number}
use Rattle.part.specs.Samples.{entry, bytes_of}
use Rattle.restrictive.specs.Verdict.{Verdict, pass, refused}
use Rattle.restrictive.specs.Earlier.{holds_kind, as_output_byte, as_outputs}
use Rattle.restrictive.specs.Judged.{judged, counted, told, same, broken_at, broken_for}

-- A record for observer 0 with start 0 from classes, entries and rows.
unfoldable sample : List ℕ → ℕ → List ℕ → List ℕ → List ℕ
sample classes m entries rows = bytes_of 1 0 (length classes) 0 m [] classes entries rows

-- Low output 1 stays in state 0; state 1, of the same class, answers only after the silent step by 2.
abbrev silent_before : List ℕ
silent_before = sample (0 ∷ 0 ∷ []) 2 (entry 1 1 0 ++ entry 2 1 0x40) (1 ∷ 0 ∷ 0 ∷ 1 ∷ [])

-- Low output 1 leads 0 to 2 and 1 to 3, states of two classes; silent steps by 2 go between these.
abbrev silent_after : List ℕ
silent_after = sample (0 ∷ 0 ∷ 1 ∷ 2 ∷ []) 2 (entry 1 1 0 ++ entry 2 1 0x40) (4 ∷ 8 ∷ 0 ∷ 0 ∷ 0 ∷ 0 ∷ 8 ∷ 4 ∷ [])

-- The same with a high input 2 in the place of the silent step: it is no answer.
abbrev high_input_before : List ℕ
high_input_before = sample (0 ∷ 0 ∷ []) 2 (entry 1 1 0 ++ entry 2 0 0x40) (1 ∷ 0 ∷ 1 ∷ 1 ∷ [])

-- Low input 1 leads from states 0 and 1 to both classes: one step of the class asked for is enough.
abbrev one_is_enough : List ℕ
one_is_enough = sample (0 ∷ 0 ∷ 1 ∷ []) 1 (entry 1 0 0) (5 ∷ 5 ∷ 4 ∷ [])

-- Input 1 has no step from state 1, which is never reached.
abbrev not_reached : List ℕ
not_reached = sample (0 ∷ 1 ∷ []) 1 (entry 1 0 0) (1 ∷ 0 ∷ [])

-- Two rules are broken: rule 1 by event 2 comes before rule 2 by event 1.
abbrev rule_before_event : List ℕ
rule_before_event = sample (0 ∷ 1 ∷ []) 2 (entry 1 0 0x40 ++ entry 2 0 0) (2 ∷ 2 ∷ 1 ∷ 0 ∷ [])

-- Input 1 changes the state; event 2, at a low level and of the kind given, leads from state 0 to itself, and from state 1, of the same
-- class, nowhere. An output shows the state.
abbrev mute : ℕ → List ℕ
mute kind = sample (0 ∷ 0 ∷ []) 2 (entry 1 0 0x40 ++ entry 2 kind 0) (2 ∷ 1 ∷ 1 ∷ 0 ∷ [])

-- Event 1 leads from state 0 to state 2, of another class, and not from state 1: at a low level an output breaks rule 5 there, and an
-- internal event rule 4.
abbrev leaving : ℕ → List ℕ
leaving kind = sample (0 ∷ 0 ∷ 1 ∷ []) 1 (entry 1 kind 0) (4 ∷ 0 ∷ 0 ∷ [])

-- State 1 answers low output 1 only behind a step of event 2. At a low level that step is silent where 2 is internal, and not where it is
-- an output.
abbrev answered_behind : ℕ → List ℕ
answered_behind kind = sample (0 ∷ 0 ∷ []) 2 (entry 1 1 0 ++ entry 2 kind 0) (1 ∷ 0 ∷ 0 ∷ 1 ∷ [])

-- In the earlier reading internal events count like outputs: `mute 2` passes, and did not pass in it. Of its bytes only the kind is
-- changed, though 2 is an identifier, a number of states and events and a row too. A kind above 2 is kept, and refused.
earlier_so : Bool
unfolding judged sample as_outputs as_output_byte holds_kind
earlier_so =
    same (judged (mute 1)) (broken_at 5 2 0 0 1)
    && same (judged (mute 2)) pass
    && same (judged (as_outputs (mute 2))) (broken_at 5 2 0 0 1)
    && eqb (number 52 (as_outputs (mute 2)) 0) (number 52 (mute 1) 0)
    && same (judged (leaving 1)) (broken_at 5 1 0 2 1)
    && same (judged (leaving 2)) (broken_at 4 1 0 2 1)
    && same (judged (answered_behind 1)) (broken_at 5 1 0 0 1)
    && same (judged (answered_behind 2)) pass
    && same (judged (as_outputs (answered_behind 2))) (broken_at 5 1 0 0 1)
    && same (judged (as_outputs (mute 3))) (refused 7)

earlier : T earlier_so
unfolding earlier_so
earlier = tt

rules_so : Bool
unfolding judged sample
rules_so =
    same (judged silent_before) pass
    && same (judged silent_after) pass
    && same (judged high_input_before) (broken_at 5 1 0 0 1)
    && same (judged one_is_enough) pass
    && same (judged not_reached) (broken_at 1 1 1 0 0)
    && same (judged rule_before_event) (broken_at 1 2 1 0 0)

readings : T rules_so
unfolding rules_so
readings = tt

-- ---- how many states are taken up (document 02, f)

-- The verdict and the count.
reported : List ℕ → Verdict → ℕ → Bool
unfolding judged counted sample
reported b v k = same (judged b) v && eqb (counted b) k

-- Event 1 is of the kind, at the level and with the rows given; event 2 is silent.
abbrev with_silent : List ℕ → ℕ → ℕ → List ℕ → List ℕ
with_silent classes kind level rows = sample classes 2 (entry 1 kind level ++ entry 2 1 0x40) rows

-- At a pass: closures of one state and of two. Reached classes would be 2, and without the state itself it would be 1.
abbrev passes_together : Bool
passes_together = reported silent_before pass 3

-- No two states share a class, so that rules 3 to 5 ask nothing; no silent event; no event.
abbrev passes_apart : Bool
passes_apart = reported (sample (0 ∷ 1 ∷ []) 1 (entry 1 1 0x40) (2 ∷ 2 ∷ [])) pass 3

abbrev passes_unmoved : Bool
passes_unmoved = reported one_is_enough pass 3 && reported (sample (0 ∷ 0 ∷ []) 0 [] []) pass 2

-- At a break of rule 5: low output 1 stays in 0, and from 1, of the same class, silent steps lead to 2 alone. Of rule 4: 0 leads to 2, of
-- another class, and 1 does not.
abbrev at_rule_5 : Bool
at_rule_5 = reported (with_silent (0 ∷ 0 ∷ 0 ∷ []) 1 0 (1 ∷ 0 ∷ 0 ∷ 0 ∷ 4 ∷ 0 ∷ [])) (broken_at 5 1 0 0 1) 4

abbrev at_rule_4 : Bool
at_rule_4 = reported (sample (0 ∷ 0 ∷ 1 ∷ []) 1 (entry 1 1 0x40) (4 ∷ 0 ∷ 0 ∷ [])) (broken_at 4 1 0 2 1) 4

-- At a break of rules 3, 2 and 1 it is 0, whatever silent steps there are, and at a refusal.
abbrev before_rule_4 : Bool
before_rule_4 =
    reported (with_silent (0 ∷ 0 ∷ 1 ∷ []) 0 0 (4 ∷ 2 ∷ 4 ∷ 1 ∷ 1 ∷ 1 ∷ [])) (broken_at 3 1 0 2 1) 0
    && reported (with_silent (0 ∷ 1 ∷ []) 0 0x40 (2 ∷ 2 ∷ 2 ∷ 2 ∷ [])) (broken_at 2 1 0 1 0) 0
    && reported (with_silent (0 ∷ 1 ∷ []) 0 0 (1 ∷ 0 ∷ 2 ∷ 2 ∷ [])) (broken_at 1 1 1 0 0) 0
    && reported (sample (0 ∷ 0 ∷ []) 1 (entry 1 1 0x40) (4 ∷ 0 ∷ [])) (refused 8) 0

counts_so : Bool
unfolding reported
counts_so = passes_together && passes_apart && passes_unmoved && at_rule_5 && at_rule_4 && before_rule_4

counts : T counts_so
unfolding counts_so
counts = tt

-- ---- several observers (document 02, k)

-- A record of kind 2 with two states and start 0, for observers of the levels 0x00 and 0x40: their class columns, one behind the other,
-- then entries and rows.
unfoldable for_two : List ℕ → ℕ → List ℕ → List ℕ → List ℕ
for_two columns m entries rows = bytes_of 2 2 2 0 m (0x00 ∷ 0x40 ∷ []) columns entries rows

reported_for : List ℕ → Verdict → ℕ → Bool
unfolding judged counted for_two
reported_for b v k = same (judged b) v && eqb (counted b) k

-- Input 1 of level 0x80 toggles. Where both states have one class it hides that, and where each has its own it breaks rule 2.
abbrev toggling : List ℕ → List ℕ
toggling columns = for_two columns 1 (entry 1 0 0x80) (2 ∷ 1 ∷ [])

-- Each observer has its own column: with that of the other the second would pass, and the first would not.
abbrev each_asked : Bool
each_asked =
    reported_for (toggling (0 ∷ 0 ∷ 0 ∷ 1 ∷ [])) (broken_for 0x40 2 1 0 1 0) 0
    && reported_for (toggling (0 ∷ 1 ∷ 0 ∷ 0 ∷ [])) (broken_for 0x00 2 1 0 1 0) 0
    && reported_for (toggling (0 ∷ 0 ∷ 0 ∷ 0 ∷ [])) pass 2

-- The first observer breaks rule 5 by event 2, the second rule 2 by event 1. The observer comes first, and the count is its own: for the
-- second, which sees event 3, it would be 2.
abbrev observer_first : Bool
observer_first =
    reported_for
    (for_two (0 ∷ 0 ∷ 0 ∷ 1 ∷ []) 3 (entry 1 0 0x80 ++ entry 2 1 0x00 ++ entry 3 1 0x40) (2 ∷ 1 ∷ 1 ∷ 0 ∷ 2 ∷ 0 ∷ []))
    (broken_for 0x00 5 2 0 0 1) 3

-- Output 1 of level 0x40 leads from 0 to 1. To the first observer it is silent, and its closures have 3 states. A break by the second counts
-- the second's, which are 2, and a pass the first's.
abbrev telling : List ℕ → List ℕ
telling columns = for_two columns 1 (entry 1 1 0x40) (2 ∷ 0 ∷ [])

abbrev own_count : Bool
own_count =
    reported_for (telling (0 ∷ 0 ∷ 0 ∷ 0 ∷ [])) (broken_for 0x40 5 1 0 1 1) 2
    && reported_for (telling (0 ∷ 0 ∷ 0 ∷ 1 ∷ [])) pass 3

-- Rule 1 is the same for all observers: it is told for the first. A class of the second column that only the first has before it is
-- refused.
abbrev alike : Bool
alike =
    reported_for (for_two (0 ∷ 0 ∷ 0 ∷ 0 ∷ []) 1 (entry 1 0 0x40) (1 ∷ 0 ∷ [])) (broken_for 0x00 1 1 1 0 0) 0
    && reported_for (toggling (0 ∷ 1 ∷ 0 ∷ 2 ∷ [])) (refused 6) 0

-- In the earlier reading the kinds are changed where the entries of kind 2 stand.
abbrev silenced : ℕ → List ℕ
silenced kind = for_two (0 ∷ 0 ∷ 0 ∷ 0 ∷ []) 1 (entry 1 kind 0x40) (2 ∷ 0 ∷ [])

earlier_for_two : Bool
unfolding for_two as_outputs as_output_byte holds_kind judged
earlier_for_two = eqb (number 36 (as_outputs (silenced 2)) 0) (number 36 (silenced 1) 0) && same (judged (silenced 2)) pass

observers_so : Bool
unfolding reported_for earlier_for_two
observers_so = each_asked && observer_first && own_count && alike && earlier_for_two

several : T observers_so
unfolding observers_so
several = tt

-- ---- limited parts (document 02, l)

-- A record of kind 3 for observer 0 with start 0, from classes, fine classes, entries and rows.
unfoldable finely : List ℕ → List ℕ → ℕ → List ℕ → List ℕ → List ℕ
finely classes fine m entries rows = bytes_of 3 0 (length classes) 0 m [] (classes ++ fine) entries rows

-- The verdict, the count and the limit.
limited_so : List ℕ → Verdict → ℕ → ℕ → Bool
unfolding judged counted told finely sample for_two
limited_so b v k l = same (judged b) v && eqb (counted b) k && eqb (told b) l

-- High input 1 leads to state 1, and low output 2 comes in state 0 alone. Only state 0 has the fine class of 0, so that rule 5 asks nothing of
-- state 1; rule 2 asks for the class and not for the fine class. Where the fine classes are the classes, it breaks rule 5, as in kind 1.
abbrev latch : List ℕ → List ℕ
latch fine = finely (0 ∷ 0 ∷ []) fine 2 (entry 1 0 0x40 ++ entry 2 1 0) (2 ∷ 2 ∷ 1 ∷ 0 ∷ [])

abbrev latched : Bool
latched =
    limited_so (latch (0 ∷ 1 ∷ [])) pass 2 2
    && limited_so (latch (0 ∷ 0 ∷ [])) (broken_at 5 2 0 0 1) 2 0
    && limited_so (sample (0 ∷ 0 ∷ []) 2 (entry 1 0 0x40 ++ entry 2 1 0) (2 ∷ 2 ∷ 1 ∷ 0 ∷ [])) (broken_at 5 2 0 0 1) 2 0

-- Rule 4 likewise: high output 1 leads from state 0 to state 2, of another class, and state 1 has the class of 0. Rule 3 takes u among the
-- classes: low input 1 does not lead from state 1 to the class of 2.
abbrev from_fine : Bool
from_fine =
    limited_so (finely (0 ∷ 0 ∷ 1 ∷ []) (0 ∷ 1 ∷ 2 ∷ []) 1 (entry 1 1 0x40) (4 ∷ 0 ∷ 0 ∷ [])) pass 4 2
    && limited_so (finely (0 ∷ 0 ∷ 1 ∷ []) (0 ∷ 0 ∷ 1 ∷ []) 1 (entry 1 1 0x40) (4 ∷ 0 ∷ 0 ∷ [])) (broken_at 4 1 0 2 1) 4 0
    && limited_so (finely (0 ∷ 0 ∷ 1 ∷ []) (0 ∷ 1 ∷ 2 ∷ []) 1 (entry 1 0 0) (4 ∷ 2 ∷ 4 ∷ [])) (broken_at 3 1 0 2 1) 0 0

-- The class of t is asked for, and not its fine class: event 1, an output of this level, leads from 0 to 2 and from 1 to 3.
abbrev to_class : ℕ → List ℕ
to_class level = finely (0 ∷ 0 ∷ 1 ∷ 1 ∷ []) (0 ∷ 0 ∷ 1 ∷ 2 ∷ []) 1 (entry 1 1 level) (4 ∷ 8 ∷ 0 ∷ 0 ∷ [])

abbrev class_asked : Bool
class_asked = limited_so (to_class 0) pass 4 2 && limited_so (to_class 0x40) pass 6 2

-- The limit is that of the class with most fine classes: not of the first, nor their number in all, 4, nor the 3 states of a class.
abbrev limits : Bool
limits =
    limited_so (finely (0 ∷ 0 ∷ 0 ∷ 1 ∷ 1 ∷ []) (0 ∷ 1 ∷ 1 ∷ 2 ∷ 3 ∷ []) 0 [] []) pass 5 2
    && limited_so (finely (0 ∷ 1 ∷ 1 ∷ 1 ∷ []) (0 ∷ 1 ∷ 2 ∷ 3 ∷ []) 0 [] []) pass 4 3
    && limited_so (finely (0 ∷ 1 ∷ []) (0 ∷ 1 ∷ []) 0 [] []) pass 2 1
    && limited_so (sample (0 ∷ 0 ∷ []) 0 [] []) pass 2 1
    && limited_so (for_two (0 ∷ 1 ∷ 0 ∷ 0 ∷ []) 0 [] []) pass 2 1
    && limited_so (finely (0 ∷ 0 ∷ []) (0 ∷ 2 ∷ []) 0 [] []) (refused 21) 0 0

limited_parts : Bool
unfolding limited_so
limited_parts = latched && from_fine && class_asked && limits

limited : T limited_parts
unfolding limited_parts
limited = tt
