-- ORDER 1: the choice of a frontend on a well-formed table and, where every set is full, the lowest free one and steps 11 to 18 without a src at 17. It stands
-- apart from `Reaching`, on which it rests, so that another choice there (`IsChoice`) and other sets (`AllReach`) are refused where they stand. Assumes nothing.
use mathlib.Core.Path.{◌≡◌, refl, sym, ◌∙◌, ap}
use mathlib.Core.Bool.{true, false, not, ◌&&◌, ◌||◌, and-false}
use Prim.Native.Nat.{ℕ, ◌≤◌}
use lib.Dec.{eqb}
use borrow.Author.Tests.{eq-eqb, ne_eqb}
use Rattle.scan.proofs.Bools.{never, and_both, Case as Test, is, isnt, case, Same, same, other, sames}
use Rattle.table.specs.Table.{stream_of}
use Rattle.table.specs.Reach.{size_of, set_of}
use Rattle.table.specs.declared.SatBox.{SatBox}
use Rattle.finding.specs.Finding.{choice}
use Rattle.closings.proofs.Keeping.{Whole, frontends_few}
use Rattle.steps.specs.Sights.{Asked, Lists, sight_of}
use Rattle.steps.specs.Steps.{is_passed, looks_up, table_case}
use Rattle.serving.specs.Serving.{merges, is_unreached, case_of}
use Rattle.serving.proofs.Passing.{untested}
use Rattle.aim.specs.Aim.{method_number}
use Rattle.aim.specs.declared.Method.{Method}
use Rattle.aim.specs.declared.Method.TheVariants.{Options, Setup, Play, Teardown, Other}
use Rattle.stream.specs.Arrays.{are_fit}
use Rattle.steps.proofs.ReplyLaws.{passed_none}
use Rattle.amended.proofs.Reaching.{Fits, IsChoice, fits_feeds, feeds_fits, choice_is, choice_none, AllReach, is_free_frontend, feeds_if_free, case_without, src_is_reached}
use Rattle.std.specs.Prelude.{None}

-- THE CHOICE: where a free frontend reaches the src, the one that is chosen is free and reaches it, no other such has a smaller set, and none of
-- equal size a lower number; where none does, none is chosen
module _ (t : SatBox) (w : Whole t) (source : ℕ) where
  pub choice_is_that : (g : ℕ) → Fits t source g → IsChoice t source (choice t source)
  choice_is_that g e = choice_is t source (frontends_few t w) (λ z. choice_none t source (frontends_few t w) z g e)

  pub none_is_chosen : ((g : ℕ) → Fits t source g → ⊥) → choice t source ≡ 0
  none_is_chosen h = by (sames (choice t source) 0)
    where
      by : Same (choice t source) 0 → choice t source ≡ 0
      by (same z) = z
      by (other z) = absurd (h (choice t source) (choice_is t source (frontends_few t w) z).fits)

module _ (t : SatBox) (all : AllReach t.settings) (source : ℕ) (low : 1 ≤ source) (high : source ≤ 4) where
  -- and "the lowest free frontend" is taken: it is free, and none that is free is lower
  module _ (w : Whole t) where
    pub lowest_free_taken : (g : ℕ) → is_free_frontend t g ≡ true → (is_free_frontend t (choice t source) ≡ true) × (choice t source ≤ g)
    lowest_free_taken g e =
        let x = feeds_fits t source g (feeds_if_free t all source low high g ∙ e) in
        let c = choice_is_that t w source g x in
        (sym (feeds_if_free t all source low high (choice t source)) ∙ fits_feeds t source (choice t source) c.fits, c.lowest g x (ap size_of (size x ∙ sym (size c.fits))))
      where
        size : {f : ℕ} → Fits t source f → set_of t.settings f ≡ 15
        size {f} y = all.full f y.low y.high

module _ (t : SatBox) (w : Whole t) (all : AllReach t.settings) (a : Asked) (fit : are_fit a.codes ≡ true) where
  looked_up : (m : Method) → eqb (method_number m) 1 || eqb (method_number m) 2 ≡ true → looks_up m ≡ true
  looked_up Options k = never k refl
  looked_up Setup k = refl
  looked_up Play k = refl
  looked_up Teardown k = never k refl
  looked_up Other k = never k refl

  -- a stream whose owner's query is merged is live: 12
  live_merged : merges (sight_of t a) ≡ true → table_case (sight_of t a) ≡ None → (a.stream ≡ 0 → ⊥) → (stream_of t a.stream).frontend ≡ 0 → ⊥
  unfolding sight_of
  live_merged m p z q =
      never (rw (looked_up a.method (and_both (eqb (method_number a.method) 1 || eqb (method_number a.method) 2) _ m).0, ne_eqb a.stream 0 z, eq-eqb (stream_of t a.stream).frontend 0 q)) (untested (sight_of t a) p).stream

  -- so that the line of step 17 is not missed
  pub case_without_law : (l : Lists) → case_of t a l ≡ case_without t a l
  unfolding case_of case_without
  case_without_law l = by (case (is_passed (table_case (sight_of t a))))
    where
      silent : table_case (sight_of t a) ≡ None → Test (merges (sight_of t a)) → Same a.stream 0 → (merges (sight_of t a) && (not (eqb a.stream 0) && is_unreached (sight_of t a))) ≡ false
      silent p (isnt n) c = rw n
      silent p (is m) (same z) = rw (m, z)
      silent p (is m) (other z) = rw (m, src_is_reached t w all a fit (live_merged m p z), and-false (not (eqb a.stream 0)))

      by : Test (is_passed (table_case (sight_of t a))) → case_of t a l ≡ case_without t a l
      by (isnt n) = rw n
      by (is y) =
          let p = passed_none (table_case (sight_of t a)) y in
          rw (silent p (case _) (sames _ 0))
