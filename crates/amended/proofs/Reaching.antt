-- ORDER 1 OF DOCUMENT 02, "Not every tuner sees every dish": what the choice of a frontend is, what a well-formed table says of the sources, and what it
-- is that a box's frontends reach all four; of the choice of every such table, and of every request to such a box, in `Choosing`. Assumes nothing.
use mathlib.Core.Path.{◌≡◌, refl, ap}
use mathlib.Core.Bool.{Bool, true, false, not, ◌&&◌, ◌||◌, or-true, and-true, and-false}
use Prim.Native.Nat.{ℕ, zero, suc, ◌+◌, ◌≤◌, ◌<◌}
use native.Mathlib.Omega.{arith}
use lib.Dec.{eqb, leb}
use lib.ListN.{get_or, replicate}
use borrow.Author.Tests.{eq-eqb, ne_eqb, leb-true, leb-false, le-leb, not-true}
use Rattle.scan.specs.Lists.{is_between, ◌gives◌or◌}
use Rattle.scan.proofs.Bools.{never, and_both, or_second, Case as Test, is, isnt, case, Same, same, other, sames}
use Rattle.table.specs.Table.{stream_of}
use Rattle.table.specs.Reach.{has_source, size_of, set_of, up_to}
use Rattle.table.specs.Made.{settings_of}
use Rattle.table.specs.declared.Settings.{Settings}
use Rattle.table.specs.declared.SatBox.{SatBox}
use Rattle.table.proofs.Changes.{placed_at}
use Rattle.finding.specs.Finding.{is_held, can_feed, size_at, fewest_from, choice}
use Rattle.closings.proofs.Keeping.{Whole}
use Rattle.steps.specs.Sights.{Asked, Lists, sight_of}
use Rattle.steps.specs.Steps.{is_passed, is_setup, is_named, table_case}
use Rattle.steps.specs.declared.cases.Case.{Case}
use Rattle.steps.specs.declared.cases.Case.TheVariants.{NotReached, Full}
use Rattle.serving.specs.Serving.{source_of, merging, merges, merge_case, is_unreached, is_opening, can_seat, case_of}
use Rattle.std.specs.Result.{IsOk}
use Rattle.stream.specs.Values.{given}
use Rattle.serving.proofs.ServingLaws.{merged_passes}
use Rattle.stream.specs.Streams.{is_sound}
use Rattle.stream.specs.Arrays.{is_in_range, is_fit, are_fit}
use Rattle.stream.proofs.Soundness.{sound_live}
use Rattle.table.proofs.Rules.{placed_sound}
use Rattle.std.specs.Prelude.{Option, Some, None}

-- a free frontend of the box that reaches the source
pub record Fits (t : SatBox) (source f : ℕ) : Type 0 where
  pub low : 1 ≤ f
  pub high : f ≤ t.settings.frontends
  pub free : is_held f t.streams ≡ false
  pub reaches : has_source (set_of t.settings f) source ≡ true

-- WHAT THE CHOICE IS: free, reaching the source; no other such reaches fewer, and none that reaches as few has a lower number
pub record IsChoice (t : SatBox) (source f : ℕ) : Type 0 where
  pub fits : Fits t source f
  pub fewest : (g : ℕ) → Fits t source g → size_of (set_of t.settings f) ≤ size_of (set_of t.settings g)
  pub lowest : (g : ℕ) → Fits t source g → size_of (set_of t.settings g) ≡ size_of (set_of t.settings f) → f ≤ g

module _ (t : SatBox) (source f : ℕ) where
  pub fits_feeds : Fits t source f → can_feed t source f ≡ true
  fits_feeds x = rw (le-leb 1 f x.low, le-leb f t.settings.frontends x.high, x.free, x.reaches)

  pub feeds_fits : can_feed t source f ≡ true → Fits t source f
  feeds_fits e =
      let a = and_both (is_between 1 t.settings.frontends f) _ e in
      let b = and_both (leb 1 f) _ a.0 in
      let c = and_both (not (is_held f t.streams)) _ a.1 in
      record { low = leb-true _ _ b.0; high = leb-true _ _ b.1; free = not-true _ c.0; reaches = c.1 }

-- it is so among the `more` frontends from f on, or it is 0 and none of them can feed the stream
record Chosen (t : SatBox) (source more f g : ℕ) : Type 0 where
  can : (g ≡ 0 → ⊥) → (can_feed t source g ≡ true) × (f ≤ g)
  none : g ≡ 0 → (h : ℕ) → f ≤ h → h < f + more → can_feed t source h ≡ false
  fewest : (h : ℕ) → f ≤ h → h < f + more → can_feed t source h ≡ true → size_at t g ≤ size_at t h
  lowest : (h : ℕ) → f ≤ h → h < f + more → can_feed t source h ≡ true → size_at t h ≡ size_at t g → g ≤ h

module _ (t : SatBox) (source : ℕ) where
  -- a frontend before those that were looked at is taken, or it is not
  taken : (more f g : ℕ) → 1 ≤ f → Chosen t source more (suc f) g → can_feed t source f && (eqb g 0 || leb (size_at t f) (size_at t g)) ≡ true → Chosen t source (suc more) f f
  taken more f g low r y =
      let a = and_both (can_feed t source f) _ y in
      record {
        can = λ _. (a.0, omega arith);
        none = λ z. absurd (omega arith);
        fewest = λ h l u e. by h l u e (sames f h) (sames g 0) a.1;
        lowest = λ h l u e z. l;
      }
    where
      by : (h : ℕ) → f ≤ h → h < f + suc more → can_feed t source h ≡ true → Same f h → Same g 0 → eqb g 0 || leb (size_at t f) (size_at t g) ≡ true → size_at t f ≤ size_at t h
      by h l u e (same q) c k = rw q (omega arith)
      by h l u e (other q) (same z) k = never e (r.none z h (omega arith) (omega arith))
      by h l u e (other q) (other z) k =
          omega (arith, leb-true (size_at t f) (size_at t g) (rw (ne_eqb g 0 z) at k), r.fewest h (omega arith) (omega arith) e)

  passed : (more f g : ℕ) → Chosen t source more (suc f) g → can_feed t source f && (eqb g 0 || leb (size_at t f) (size_at t g)) ≡ false → Chosen t source (suc more) f g
  passed more f g r n =
      record {
        can = λ z. let c = r.can z in (c.0, omega (arith, c.1));
        none = λ z h l u. empty z h l u (sames f h) (case (can_feed t source f));
        fewest = λ h l u e. by h l u e (sames f h);
        lowest = λ h l u e z. low h l u e z (sames f h);
      }
    where
      empty : g ≡ 0 → (h : ℕ) → f ≤ h → h < f + suc more → Same f h → Test (can_feed t source f) → can_feed t source h ≡ false
      empty z h l u (same q) (is y) = never (rw (y, eq-eqb g 0 z)) n
      empty z h l u (same q) (isnt y) = rw (← q) y
      empty z h l u (other q) c = r.none z h (omega arith) (omega arith)

      more_of : can_feed t source f ≡ true → size_at t g < size_at t f
      more_of y = smaller (case (leb (size_at t f) (size_at t g)))
        where
          smaller : Test (leb (size_at t f) (size_at t g)) → size_at t g < size_at t f
          smaller (is z) = never (rw (y, z) (or-true (eqb g 0))) n
          smaller (isnt z) = leb-false _ _ z

      by : (h : ℕ) → f ≤ h → h < f + suc more → can_feed t source h ≡ true → Same f h → size_at t g ≤ size_at t h
      by h l u e (same q) = rw (← q) (omega (arith, more_of (rw q e)))
      by h l u e (other q) = r.fewest h (omega arith) (omega arith) e

      low : (h : ℕ) → f ≤ h → h < f + suc more → can_feed t source h ≡ true → size_at t h ≡ size_at t g → Same f h → g ≤ h
      low h l u e z (same q) = absurd (omega (arith, more_of (rw q e), ap (size_at t) q))
      low h l u e z (other q) = r.lowest h (omega arith) (omega arith) e z

  chosen : (more f : ℕ) → 1 ≤ f → Chosen t source more f (fewest_from t source more f)
  chosen zero f low =
      record {
        can = λ z. absurd (z refl);
        none = λ z h l u. absurd (omega arith);
        fewest = λ h l u e. absurd (omega arith);
        lowest = λ h l u e z. absurd (omega arith);
      }
  chosen (suc more) f low = by (case _) (chosen more (suc f) (omega arith))
    where
      by : Test (can_feed t source f && (eqb (fewest_from t source more (suc f)) 0 || leb (size_at t f) (size_at t (fewest_from t source more (suc f))))) → Chosen t source more (suc f) (fewest_from t source more (suc f)) → Chosen t source (suc more) f (fewest_from t source (suc more) f)
      by (is y) r = rw y (taken more f _ low r y)
      by (isnt n) r = rw n (passed more f _ r n)

  -- THE CHOICE IS THAT ONE, where there is one, and 0 where there is none
  module _ (few : t.settings.frontends ≤ 8) where
    pub choice_is : (choice t source ≡ 0 → ⊥) → IsChoice t source (choice t source)
    unfolding choice
    choice_is some =
        let r = chosen 8 1 (omega arith) in
        record {
          fits = feeds_fits t source (fewest_from t source 8 1) (r.can some).0;
          fewest = λ g e. r.fewest g e.low (omega (arith, e.high)) (fits_feeds t source g e);
          lowest = λ g e. r.lowest g e.low (omega (arith, e.high)) (fits_feeds t source g e);
        }

    pub choice_none : choice t source ≡ 0 → (g : ℕ) → Fits t source g → ⊥
    unfolding choice
    choice_none z g e = never (fits_feeds t source g e) ((chosen 8 1 (omega arith)).none z g e.low (omega (arith, e.high)))

-- "each stream's frontend reaches its src"
pub stream_reached : (t : SatBox) → Whole t → (id : ℕ) → ((stream_of t id).frontend ≡ 0 → ⊥) → has_source (set_of t.settings (stream_of t id).frontend) (stream_of t id).values.src ≡ true
stream_reached t w id live = or_second _ _ (and_both (is_sound t.settings.frontends (stream_of t id)) _ (placed_at t.settings t.streams w.formed.rows id)).1 (ne_eqb _ 0 live)

-- STEP 17 FOR A SRC, whatever the sets: of an owner's query that steps 11 to 16 and the PIDs of 17 let through, a src that is given is refused exactly
-- if the frontend held does not reach it
module _ (t : SatBox) (a : Asked) (l : Lists) (passed : table_case (sight_of t a) ≡ None) (owner : merges (sight_of t a) ≡ true) (named : is_named (sight_of t a) ≡ true) (some : a.stream ≡ 0 → ⊥) (merged : IsOk (merging t a l)) where
  src_seen : (sight_of t a).src ≡ get_or a.codes 0 0
  unfolding sight_of
  src_seen = refl

  reach_seen : (sight_of t a).reach ≡ set_of t.settings (stream_of t a.stream).frontend
  unfolding sight_of
  reach_seen = refl

  pub unreached_is_refused : (get_or a.codes 0 0 ≡ 0 → ⊥) → has_source (set_of t.settings (stream_of t a.stream).frontend) (get_or a.codes 0 0) ≡ false → case_of t a l ≡ Some NotReached
  unfolding case_of
  unreached_is_refused given n =
      let u : is_unreached (sight_of t a) ≡ true = rw (src_seen, reach_seen, ne_eqb _ 0 given, n) in
      rw (passed, merged_passes (merging t a l) merged, u, owner, ne_eqb a.stream 0 some)

  pub reached_passes : has_source (set_of t.settings (stream_of t a.stream).frontend) (get_or a.codes 0 0) ≡ true → case_of t a l ≡ None
  unfolding case_of
  reached_passes y =
      let u : is_unreached (sight_of t a) ≡ false = rw (src_seen, reach_seen, y, and-false (not (eqb (get_or a.codes 0 0) 0))) in
      rw (passed, merged_passes (merging t a l) merged, u, owner, named, ne_eqb a.stream 0 some, and-false (is_setup (sight_of t a).method))

-- AS BEFORE: every set is full
pub record AllReach (s : Settings) : Type 0 where
  pub full : (f : ℕ) → 1 ≤ f → f ≤ s.frontends → set_of s f ≡ 15

-- the settings of which document 01 has two, F and C, are such
pub settings_reach : (frontends size : ℕ) → frontends ≤ 8 → AllReach (settings_of frontends size)
settings_reach frontends size few = record { full = λ f low high. by f low high }
  where
    up : (n k m : ℕ) → k < n → k < m → get_or (up_to n (replicate m 15)) k 0 ≡ 15
    up zero k m h l = absurd (omega arith)
    up (suc n) k zero h l = absurd (omega arith)
    up (suc n) zero (suc m) h l = refl
    up (suc n) (suc k) (suc m) h l = up n k m (omega arith) (omega arith)

    by : (f : ℕ) → 1 ≤ f → f ≤ frontends → set_of (settings_of frontends size) f ≡ 15
    by zero low high = absurd (omega arith)
    by (suc k) low high = up frontends k 8 (omega arith) (omega arith)

-- a source that a stream may have is in the full set
pub full_has : (source : ℕ) → 1 ≤ source → source ≤ 4 → has_source 15 source ≡ true
full_has zero low high = absurd (omega arith)
full_has (suc zero) low high = refl
full_has (suc (suc zero)) low high = refl
full_has (suc (suc (suc zero))) low high = refl
full_has (suc (suc (suc (suc zero)))) low high = refl
full_has (suc (suc (suc (suc (suc k))))) low high = absurd (omega arith)

-- document 01's: a frontend of the box that no stream holds
abbrev pub is_free_frontend : SatBox → ℕ → Bool
is_free_frontend t f = is_between 1 t.settings.frontends f && not (is_held f t.streams)

module _ (t : SatBox) (all : AllReach t.settings) (source : ℕ) (low : 1 ≤ source) (high : source ≤ 4) where
  -- step 18: it can feed a stream exactly if it is free
  pub feeds_if_free : (f : ℕ) → can_feed t source f ≡ is_free_frontend t f
  feeds_if_free f = by (case (is_between 1 t.settings.frontends f))
    where
      by : Test (is_between 1 t.settings.frontends f) → can_feed t source f ≡ is_free_frontend t f
      by (is y) =
          let b = and_both (leb 1 f) _ y in
          rw (all.full f (leb-true _ _ b.0) (leb-true _ _ b.1), full_has source low high, and-true (not (is_held f t.streams)))
      by (isnt n) = rw n

-- STEPS 11 TO 18 WITHOUT A SRC AT 17, as document 01 has them
unfoldable pub case_without : SatBox → Asked → Lists → Option Case
case_without t a l =
    not (is_passed (table_case (sight_of t a))) gives table_case (sight_of t a) or
    (merges (sight_of t a) && not (is_passed (merge_case (merging t a l)))) gives merge_case (merging t a l) or
    (is_opening (sight_of t a) && not (can_seat t (sight_of t a))) gives Some Full or
    None

module _ (t : SatBox) (w : Whole t) (all : AllReach t.settings) (a : Asked) (fit : are_fit a.codes ≡ true) where
  -- what was read of a src is none, or 1 to 4
  src_range : (get_or a.codes 0 0 ≡ 0 → ⊥) → (1 ≤ get_or a.codes 0 0) × (get_or a.codes 0 0 ≤ 4)
  unfolding are_fit is_in_range
  src_range some =
      let b = and_both (leb 1 (get_or a.codes 0 0)) _ (or_second (eqb (get_or a.codes 0 0) 0) _ (and_both (is_fit 0 (get_or a.codes 0 0)) _ fit).0 (ne_eqb _ 0 some)) in
      (leb-true _ _ b.0, leb-true _ _ b.1)

  -- a new stream's src is 1 to 4
  pub new_range : (1 ≤ source_of (sight_of t a)) × (source_of (sight_of t a) ≤ 4)
  unfolding sight_of
  new_range = by (sames (get_or a.codes 0 0) 0)
    where
      by : Same (get_or a.codes 0 0) 0 → (1 ≤ given (get_or a.codes 0 0) 1) × (given (get_or a.codes 0 0) 1 ≤ 4)
      by (same z) = rw (eq-eqb (get_or a.codes 0 0) 0 z) (omega arith, omega arith)
      by (other z) = rw (ne_eqb (get_or a.codes 0 0) 0 z) (src_range z)

  -- STEP 17 NEVER REFUSES FOR A SRC
  pub src_is_reached : ((stream_of t a.stream).frontend ≡ 0 → ⊥) → is_unreached (sight_of t a) ≡ false
  unfolding sight_of
  src_is_reached live = by (sames (get_or a.codes 0 0) 0)
    where
      by : Same (get_or a.codes 0 0) 0 → (not (eqb (get_or a.codes 0 0) 0) && not (has_source (set_of t.settings (stream_of t a.stream).frontend) (get_or a.codes 0 0))) ≡ false
      by (same z) = rw (eq-eqb (get_or a.codes 0 0) 0 z)
      by (other z) =
          let r = src_range z in
          let m = stream_of t a.stream in
          let sound = placed_sound t.settings m (placed_at t.settings t.streams w.formed.rows a.stream) in
          let high = (sound_live t.settings.frontends m sound live).within in
          rw (all.full m.frontend (omega (arith, live)) high, full_has (get_or a.codes 0 0) r.0 r.1, and-false (not (eqb (get_or a.codes 0 0) 0)))
