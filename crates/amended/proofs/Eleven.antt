-- Steps 11 to 18 come, of a request that names an open session, to a case that step 11 does not refuse. `LastTimes` cites it: it stands apart, so that another
-- `passes_eleven` there is refused at what is said of it. Assumes nothing.
use mathlib.Core.Path.{◌≡◌, refl}
use mathlib.Core.Bool.{Bool, true, not, ◌&&◌, ◌||◌}
use lib.Dec.{eqb, ltb}
use Rattle.scan.specs.Lists.{◌gives◌or◌}
use Rattle.scan.proofs.Bools.{never, cond_keeps}
use Rattle.std.specs.Prelude.{Option, Some, None, Result, Ok, Err}
use Rattle.stream.specs.declared.Stream.{Stream}
use Rattle.stream.specs.declared.Refusal.{Refusal}
use Rattle.stream.specs.declared.Refusal.TheVariants.{Combination as Clash, TooMany}
use Rattle.table.specs.declared.SatBox.{SatBox}
use Rattle.steps.specs.Sights.{Asked, Lists, sight_of}
use Rattle.steps.specs.Steps.{rule_of, is_passed, is_named, table_case}
use Rattle.steps.specs.Tests.{lacks_session, names_dead, is_out_of_state, is_anothers, lacks_port}
use Rattle.steps.specs.declared.Sight.{Sight}
use Rattle.steps.specs.declared.cases.Case.{Case}
use Rattle.steps.specs.declared.cases.Case.TheVariants.{NoSession, NotLive, State, NotOwner, Transport, NotReached, Full}
use Rattle.serving.specs.Serving.{merging, merges, merge_case, is_unreached, is_opening, can_seat, case_of}

-- as `LastTimes` says it
abbrev passes_eleven : Option Case → Bool
passes_eleven None = true
passes_eleven (Some c) = ltb 11 (rule_of c).0

late : (b : Bool) (c d : Option Case) → passes_eleven c ≡ true → passes_eleven d ≡ true → passes_eleven (b gives c or d) ≡ true
late b c d p q = cond_keeps (λ x. passes_eleven x ≡ true) b c d (λ _. p) (λ _. q)

table_late : (v : Sight) → is_named v ≡ true → passes_eleven (table_case v) ≡ true
unfolding table_case
table_late v y =
    cond_keeps (λ x. passes_eleven x ≡ true) (lacks_session v) (Some NoSession) _ (λ z. never z (rw y))
    (λ _.
    late (names_dead v) (Some NotLive) _ refl
    (late (is_out_of_state v) (Some State) _ refl
    (late (is_anothers v) (Some NotOwner) _ refl
    (late (lacks_port v) (Some Transport) None refl refl))))

pub case_late : (t : SatBox) (a : Asked) (l : Lists) → is_named (sight_of t a) ≡ true → passes_eleven (case_of t a l) ≡ true
unfolding case_of
case_late t a l y =
    late (not (is_passed (table_case (sight_of t a)))) (table_case (sight_of t a)) _ (table_late (sight_of t a) y)
    (late (merges (sight_of t a) && not (is_passed (merge_case (merging t a l)))) (merge_case (merging t a l)) _ (by (merging t a l))
    (late (merges (sight_of t a) && (not (eqb a.stream 0) && is_unreached (sight_of t a))) (Some NotReached) _ refl
    (late (is_opening (sight_of t a) && not (can_seat t (sight_of t a))) (Some Full) None refl refl)))
  where
    by : (c : Result Stream Refusal) → passes_eleven (merge_case c) ≡ true
    by (Ok m) = refl
    by (Err Clash) = refl
    by (Err TooMany) = refl
