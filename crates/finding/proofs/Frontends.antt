-- The frontend that a new stream takes: the search for it, and what is found. Assumes nothing.
use Rattle.std.proofs.Common.{◌≡◌, ℕ, zero, suc, ◌+◌, ◌-◌, ◌/◌, ◌^◌, ◌<◌, ◌≤◌, Bool, true, false, cond, ◌&&◌, ◌||◌, eqb, leb, List, ◌∷◌, length, get_or, drop, set, sym, refl, ap, ◌∙◌, arith, length-set, get_or-set_other, get_or-set_same, eq-eqb, ne_eqb, le-leb, leb-false, leb-true}
use mathlib.Core.Bool.{and-false}
use native.Mathlib.Nat.{zero-div}
use lib.ListN.{get_or-eq_default}
use Rattle.scan.specs.Lists.{is_between}
use Rattle.scan.proofs.Bools.{never, Case, is, isnt, case, Same, same, other, sames}
use Rattle.scan.proofs.Loops.{turn, end}
use Rattle.stream.specs.declared.Stream.{Stream}
use Rattle.std.specs.Prelude.{Option, Some, None, IfSome, is_some, unwrap_or, not}
use Rattle.table.specs.Table.{unless}
use Rattle.table.specs.Reach.{has_source, size_of, set_of}
use Rattle.table.specs.declared.Settings.{Settings}
use Rattle.table.specs.declared.SatBox.{SatBox}
use Rattle.finding.specs.Finding.{is_held, can_feed, size_at, fewest_from, choice}

module _ (t : SatBox) (source : ℕ) where
  -- the choice is none, or one of eight
  pub choice_small : choice t source ≤ 8
  unfolding choice
  choice_small = omega (arith, below 8 1 (omega arith))
    where
      below : (more f : ℕ) → 1 ≤ f → fewest_from t source more f < f + more
      below zero f low = omega arith
      below (suc more) f low = by (case _) (below more (suc f) (omega arith))
        where
          by : Case (can_feed t source f && (eqb (fewest_from t source more (suc f)) 0 || leb (size_at t f) (size_at t (fewest_from t source more (suc f))))) → fewest_from t source more (suc f) < suc f + more → fewest_from t source (suc more) f < f + suc more
          by (is y) h = rw y (omega arith)
          by (isnt n) h = rw n (omega arith)

-- THE SETS THAT ARE FREE, by their frontends: those of the streams so far are emptied
-- the sets are those of the frontends that no stream holds
abbrev pub FreeSets : SatBox → List ℕ → Type 0
FreeSets t sets = (f : ℕ) → get_or (0 ∷ sets) f 0 ≡ cond (is_held f t.streams) 0 (set_of t.settings f)

pub record Freeing (s : Settings) (ms : List Stream) (sets : List ℕ) (k : ℕ) : Type 0 where
  pub within : k ≤ length ms
  pub long : length sets ≡ 8
  pub same : (f : ℕ) → cond (is_held f (drop k ms)) 0 (get_or (0 ∷ sets) f 0) ≡ cond (is_held f ms) 0 (set_of s f)

pub freeing_start : (s : Settings) (ms : List Stream) → length s.reach ≡ 8 → Freeing s ms s.reach 0
freeing_start s ms n = record { within = omega arith; long = n; same = λ f. refl }

module _ {s : Settings} {ms : List Stream} {sets : List ℕ} {k : ℕ} (d : Stream) (r : Freeing s ms sets k) where
  pub freeing_end : length ms ≤ k → (f : ℕ) → get_or (0 ∷ sets) f 0 ≡ cond (is_held f ms) 0 (set_of s f)
  freeing_end h f = sym (ap (λ b. cond b 0 (get_or (0 ∷ sets) f 0)) (end (is_held f) ms k h)) ∙ r.same f

  -- the next stream's frontend has no set any more
  next : {now : List ℕ} → k < length ms → length now ≡ 8 → ((f : ℕ) → get_or (0 ∷ now) f 0 ≡ cond (eqb (get_or ms k d).frontend f) 0 (get_or (0 ∷ sets) f 0)) → Freeing s ms now (k + 1)
  next {now} h n e = record { within = omega arith; long = n; same = λ f. by f (case (eqb (get_or ms k d).frontend f)) ∙ (sym (ap (λ b. cond b 0 (get_or (0 ∷ sets) f 0)) (turn (is_held f) ms k d h)) ∙ r.same f) }
    where
      by : (f : ℕ) → Case (eqb (get_or ms k d).frontend f) → cond (is_held f (drop (k + 1) ms)) 0 (get_or (0 ∷ now) f 0) ≡ cond (eqb (get_or ms k d).frontend f || is_held f (drop (k + 1) ms)) 0 (get_or (0 ∷ sets) f 0)
      by f (is y) = rw (e f, y) (zero_both (is_held f (drop (k + 1) ms)))
        where
          zero_both : (b : Bool) → ◌≡◌ {A = ℕ} (cond b 0 0) 0
          zero_both true = refl
          zero_both false = refl
      by f (isnt z) = rw (e f, z)

  pub freeing_more : {g : ℕ} → k < length ms → g ≡ (get_or ms k d).frontend → 1 ≤ g → g ≤ 8 → Freeing s ms (set sets (g - 1) 0) (k + 1)
  freeing_more {g} h q low high = next h (length-set sets (g - 1) 0 ∙ r.long) (λ f. rw (← q) (by g f low high))
    where
      by : (g f : ℕ) → 1 ≤ g → g ≤ 8 → get_or (0 ∷ set sets (g - 1) 0) f 0 ≡ cond (eqb g f) 0 (get_or (0 ∷ sets) f 0)
      by zero f low high = absurd (omega arith)
      by (suc j) f low high = let e : suc j - 1 ≡ j = omega arith in rw e (at (sames (suc j) f))
        where
          at : Same (suc j) f → get_or (set (0 ∷ sets) (suc j) 0) f 0 ≡ cond (eqb (suc j) f) 0 (get_or (0 ∷ sets) f 0)
          at (same q) = rw (← q, eq-eqb (suc j) (suc j) refl) (get_or-set_same (0 ∷ sets) (suc j) 0 0 (omega (arith, r.long)))
          at (other q) = rw (ne_eqb (suc j) f q) (get_or-set_other (0 ∷ sets) (suc j) f 0 0 (λ z. q (sym z)))

  pub freeing_left : {g : ℕ} → k < length ms → g ≡ (get_or ms k d).frontend → (1 ≤ g → g ≤ 8 → ⊥) → Freeing s ms sets (k + 1)
  freeing_left {g} h q none = next h r.long (λ f. rw (← q) (by f (sames g f)))
    where
      by : (f : ℕ) → Same g f → get_or (0 ∷ sets) f 0 ≡ cond (eqb g f) 0 (get_or (0 ∷ sets) f 0)
      by f (other z) = rw (ne_eqb g f z)
      by f (same z) = rw (eq-eqb g f z) (nothing f (λ l u. none (rw z l) (rw z u)))
        where
          nothing : (f : ℕ) → (1 ≤ f → f ≤ 8 → ⊥) → get_or (0 ∷ sets) f 0 ≡ 0
          nothing zero n = refl
          nothing (suc j) n = get_or-eq_default (0 ∷ sets) 0 {n = suc j} (omega (arith, r.long, past))
            where
              past : 9 ≤ suc j
              past = by_past (case (leb (suc j) 8))
                where
                  by_past : Case (leb (suc j) 8) → 9 ≤ suc j
                  by_past (is y) = absurd (n (omega arith) (leb-true _ _ y))
                  by_past (isnt y) = omega (arith, leb-false (suc j) 8 y)

-- none is 0
pub is_nought : (o : Option ℕ) (b : Bool) → IfSome o (λ f. 0 < f) → is_some o ≡ not b → b ≡ eqb (unwrap_or o 0) 0
is_nought None true h e = refl
is_nought None false h e = never e refl
is_nought (Some f) true h e = never refl e
is_nought (Some f) false h e = rw (ne_eqb f 0 (omega arith))

some_of : (o : Option ℕ) {n : ℕ} → IfSome o (λ f. 0 < f) → unwrap_or o 0 ≡ n → o ≡ unless 0 n
some_of None h e = rw (← e)
some_of (Some f) h e = rw (← e, ne_eqb f 0 (omega arith))

-- THE SEARCH, from the last frontend down: the best of those above f, and how many sources it reaches
pub record Choosing (t : SatBox) (source best least f : ℕ) : Type 0 where
  pub high : f ≤ 8
  pub same : best ≡ fewest_from t source (8 - f) (suc f)
  pub size : least ≡ size_at t best

pub choosing_start : (t : SatBox) (source : ℕ) → Choosing t source 0 0 8
choosing_start t source = record { high = omega arith; same = refl; size = refl }

has_none : (source : ℕ) → has_source 0 source ≡ false
has_none source = let z : 0 / 2 ^ (source - 1) ≡ 0 = zero-div (2 ^ (source - 1)) in rw (z, and-false (is_between 1 4 source))

module _ {t : SatBox} {source best least f : ℕ} (sets : List ℕ) (e : FreeSets t sets) (r : Choosing t source best least f) where
  set_here : 1 ≤ f → get_or sets (f - 1) 0 ≡ cond (is_held f t.streams) 0 (set_of t.settings f)
  set_here h = by f h ∙ e f
    where
      by : (f : ℕ) → 1 ≤ f → get_or sets (f - 1) 0 ≡ get_or (0 ∷ sets) f 0
      by zero h = absurd (omega arith)
      by (suc k) h = let z : suc k - 1 ≡ k = omega arith in rw z

  module _ (low : 1 ≤ f) {fits : Bool} {size : ℕ} (p : fits ≡ has_source (get_or sets (f - 1) 0) source) (q : size ≡ size_of (get_or sets (f - 1) 0)) where
    here : fewest_from t source (8 - (f - 1)) (suc (f - 1)) ≡ cond (can_feed t source f && (eqb best 0 || leb (size_at t f) (size_at t best))) f best
    here =
        let a : 8 - (f - 1) ≡ suc (8 - f) = omega (arith, r.high) in
        let b : suc (f - 1) ≡ f = omega arith in
        ap (λ n. fewest_from t source n (suc (f - 1))) a
        ∙ (ap (λ k. fewest_from t source (suc (8 - f)) k) b
        ∙ ap (λ g. cond (can_feed t source f && (eqb g 0 || leb (size_at t f) (size_at t g))) f g) (sym r.same))

    flag : ((leb f t.settings.frontends && fits) && (eqb best 0 || leb size least)) ≡ (can_feed t source f && (eqb best 0 || leb (size_at t f) (size_at t best)))
    flag = by (case (is_held f t.streams))
      where
        by : Case (is_held f t.streams) → ((leb f t.settings.frontends && fits) && (eqb best 0 || leb size least)) ≡ (can_feed t source f && (eqb best 0 || leb (size_at t f) (size_at t best)))
        by (is y) =
            let z : get_or sets (f - 1) 0 ≡ 0 = set_here low ∙ rw y in
            rw (p, z, has_none source, y, and-false (leb f t.settings.frontends), and-false (is_between 1 t.settings.frontends f))
        by (isnt n) =
            let z : get_or sets (f - 1) 0 ≡ set_of t.settings f = set_here low ∙ rw n in
            rw (p, q, z, n, r.size, le-leb 1 f low)

    module _ {last b l : ℕ} (k : last ≡ t.settings.frontends) where
      pub choosing_take : ((leb f last && fits) && (eqb best 0 || leb size least)) ≡ true → b ≡ f → l ≡ size → Choosing t source b l (f - 1)
      choosing_take y u w =
          let v : ((leb f t.settings.frontends && fits) && (eqb best 0 || leb size least)) ≡ true = rw k at y in
          rw (u, w)
          (record {
            high = omega (arith, r.high);
            same = sym (here ∙ rw (sym flag ∙ v));
            size = by v (case (is_held f t.streams));
          })
        where
          by : ((leb f t.settings.frontends && fits) && (eqb best 0 || leb size least)) ≡ true → Case (is_held f t.streams) → size ≡ size_at t f
          by v (is h) = let z : get_or sets (f - 1) 0 ≡ 0 = set_here low ∙ rw h in never v (rw (p, z, has_none source, and-false (leb f t.settings.frontends)))
          by v (isnt n) = let z : get_or sets (f - 1) 0 ≡ set_of t.settings f = set_here low ∙ rw n in q ∙ ap size_of z

      pub choosing_leave : ((leb f last && fits) && (eqb best 0 || leb size least)) ≡ false → b ≡ best → l ≡ least → Choosing t source b l (f - 1)
      choosing_leave n u w =
          let v : ((leb f t.settings.frontends && fits) && (eqb best 0 || leb size least)) ≡ false = rw k at n in
          rw (u, w) (record { high = omega (arith, r.high); same = sym (here ∙ rw (sym flag ∙ v)); size = r.size })

pub choosing_end : (t : SatBox) (source : ℕ) (best : Option ℕ) {least f : ℕ} → f ≡ 0 → IfSome best (λ f. 0 < f) → Choosing t source (unwrap_or best 0) least f → best ≡ unless 0 (choice t source)
unfolding choice
choosing_end t source best e h r = some_of best h (r.same ∙ rw e)
