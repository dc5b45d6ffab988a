-- Sets of sources: what the code computes of one, and the walks over the sets of all frontends. Assumes nothing.
use mathlib.Core.Path.{◌≡◌, refl, sym, ◌∙◌, ap}
use mathlib.Core.Bool.{Bool, true, false, not, cond, ◌&&◌, and-true, and-false, beq}
use mathlib.Core.List.{List, [], ◌∷◌, ◌++◌, append-nil}
use Prim.Native.Nat.{ℕ, zero, suc, ◌+◌, ◌-◌, ◌/◌, ◌%◌, ◌^◌, ◌≤◌, ◌<◌, min}
use native.Mathlib.Nat.{sub-zero}
use native.Mathlib.Omega.{arith}
use lib.Dec.{eqb, leb, ltb}
use lib.ListN.{length, get_or, take, drop, replicate, drop_of_length-le, get_or-eq_default}
use lib.Seq.{take_all}
use borrow.Rule.Slice.PartMut.{put_mid, mid_of, post_of, mid_len, Post-is}
use native.Mathlib.Decide.{dec_lt}
use borrow.Author.Tests.{lt-leb, le-leb, ltb-true, ltb-false, ne_eqb}
use Rattle.scan.proofs.Bools.{by_cases, Case, is, isnt, case, Same, same, other, sames}
use Rattle.scan.specs.Lists.{is_between}
use Rattle.scan.proofs.Loops.{turn, end}
use Rattle.table.specs.Reach.{has_source, size_of, set_of, are_sets, up_to}
use Rattle.table.specs.declared.Settings.{Settings}

-- A SOURCE IN A SET
module _ (set source : ℕ) where
  pub has_low : source < 1 → false ≡ has_source set source
  has_low h = rw (lt-leb 1 source h)

  pub has_high : 4 < source → false ≡ has_source set source
  has_high h = rw (le-leb 1 source (omega arith), lt-leb source 4 h)

  pub has_bit : 1 ≤ source → source ≤ 4 → eqb (set / 2 ^ (source - 1) % 2) 1 ≡ has_source set source
  has_bit h k = rw (le-leb 1 source h, le-leb source 4 k)

-- HOW MANY
odd_bit : (n : ℕ) → n % 2 ≡ cond (eqb (n % 2) 1) 1 0
odd_bit n = by (sames (n % 2) 1)
  where
    by : Same (n % 2) 1 → n % 2 ≡ cond (eqb (n % 2) 1) 1 0
    by (same q) = q ∙ rw q
    by (other q) = rw (ne_eqb (n % 2) 1 q) (omega arith)

pub size_is : (set : ℕ) → set % 2 + set / 2 % 2 + set / 4 % 2 + set / 8 % 2 ≡ size_of set
size_is set =
    let one : set / 1 ≡ set = omega arith in
    four _ _ _ _ (odd_bit set ∙ rw one) (odd_bit (set / 2)) (odd_bit (set / 4)) (odd_bit (set / 8))
  where
    four : {a b c d : ℕ} (x y z w : ℕ) → a ≡ x → b ≡ y → c ≡ z → d ≡ w → a + b + c + d ≡ x + (y + (z + (w + 0)))
    four x y z w h i j k = omega arith

-- THE SET OF A FRONTEND
module _ (s : Settings) (f : ℕ) where
  pub set_none : f < 1 → 0 ≡ set_of s f
  set_none h = by f h
    where
      by : (f : ℕ) → f < 1 → 0 ≡ set_of s f
      by zero h = refl
      by (suc k) h = absurd (omega arith)

  pub set_at : 1 ≤ f → get_or s.reach (f - 1) 0 ≡ set_of s f
  set_at h = by f h
    where
      by : (f : ℕ) → 1 ≤ f → get_or s.reach (f - 1) 0 ≡ set_of s f
      by zero h = absurd (omega arith)
      by (suc k) h = let e : suc k - 1 ≡ k = omega arith in rw e

  pub set_past : length s.reach ≡ 8 → 8 < f → 0 ≡ set_of s f
  set_past n h = sym (get_or-eq_default (0 ∷ s.reach) 0 {n = f} (omega (arith, n)))

-- THE SETS OF ALL, one after the other: what place i may hold
abbrev is_some : ℕ → ℕ → ℕ → Bool
is_some frontends i set = leb set 15 && beq (ltb i frontends) (not (eqb set 0))

some_is : (frontends i set : ℕ) (sets : List ℕ) → are_sets (frontends - i) (set ∷ sets) ≡ (is_some frontends i set && are_sets (frontends - (i + 1)) sets)
some_is frontends i set sets = by (case (ltb i frontends)) (sames set 0)
  where
    by : Case (ltb i frontends) → Same set 0 → are_sets (frontends - i) (set ∷ sets) ≡ (is_some frontends i set && are_sets (frontends - (i + 1)) sets)
    by (is y) z =
        let e : frontends - i ≡ suc (frontends - (i + 1)) = omega (arith, ltb-true i frontends y) in
        rw (e, y) (up z)
      where
        up : Same set 0 → (is_between 1 15 set && are_sets (frontends - (i + 1)) sets) ≡ ((leb set 15 && beq true (not (eqb set 0))) && are_sets (frontends - (i + 1)) sets)
        up (same q) = rw q
        up (other q) = rw (ne_eqb set 0 q, le-leb 1 set (omega arith), and-true (leb set 15))
    by (isnt n) z =
        let h = ltb-false i frontends n in
        let e : frontends - i ≡ 0 = omega arith in
        let f : frontends - (i + 1) ≡ 0 = omega arith in
        rw (e, f, n) (past z)
      where
        past : Same set 0 → (eqb set 0 && are_sets 0 sets) ≡ ((leb set 15 && beq false (not (eqb set 0))) && are_sets 0 sets)
        past (same q) = rw q
        past (other q) = rw (ne_eqb set 0 q, and-false (leb set 15))

and_three : (a b c d : Bool) → (((a && b) && c) && d) ≡ (a && ((b && c) && d))
and_three true b c d = refl
and_three false b c d = refl

-- the sets before place i are looked at, and `sound` says what they are
pub record Looking (sets : List ℕ) (frontends : ℕ) (sound : Bool) (i : ℕ) : Type 0 where
  pub within : i ≤ length sets
  pub same : (sound && are_sets (frontends - i) (drop i sets)) ≡ are_sets frontends sets

pub looking_start : (sets : List ℕ) (frontends : ℕ) → Looking sets frontends true 0
looking_start sets frontends = let z : frontends - 0 ≡ frontends = omega arith in record { within = omega arith; same = rw z }

module _ {sets : List ℕ} {frontends : ℕ} {sound : Bool} {i : ℕ} (r : Looking sets frontends sound i) where
  pub looking_more : i < length sets → Looking sets frontends ((sound && leb (get_or sets i 0) 15) && beq (ltb i frontends) (not (eqb (get_or sets i 0) 0))) (i + 1)
  looking_more h =
      let q = turn (are_sets (frontends - i)) sets i 0 h ∙ some_is frontends i (get_or sets i 0) (drop (i + 1) sets) in
      record { within = omega arith; same = and_three sound _ _ _ ∙ (ap (λ b. sound && b) (sym q) ∙ r.same) }

  pub looking_end : length sets ≤ i → sound ≡ are_sets frontends sets
  looking_end h = sym (and-true sound) ∙ (sym (ap (λ b. sound && b) (end (are_sets (frontends - i)) sets i h)) ∙ r.same)

-- ZEROS ABOVE F
up_none : (sets : List ℕ) → up_to zero sets ≡ replicate (length sets) 0
up_none [] = refl
up_none (set ∷ sets) = ap (λ l. 0 ∷ l) (up_none sets)

up_cut : (n : ℕ) (sets : List ℕ) → up_to n sets ≡ take n sets ++ replicate (length sets - n) 0
up_cut zero sets = up_none sets ∙ rw sub-zero
up_cut (suc n) [] = let z : 0 - suc n ≡ 0 = omega arith in rw z
up_cut (suc n) (set ∷ sets) = let e : suc (length sets) - suc n ≡ length sets - n = omega arith in rw e (ap (λ l. set ∷ l) (up_cut n sets))

-- the sets from place m on are emptied
pub emptied : (n : ℕ) (sets zeros : List ℕ) {m : ℕ} → m ≡ min n (length sets) → zeros ≡ replicate (length (mid_of m (length sets - m) sets)) 0
    → put_mid m (length sets - m) sets zeros ≡ up_to n sets
emptied n sets zeros {m} e z =
    let k : m ≤ length sets = omega arith in
    let l : length (mid_of m (length sets - m) sets) ≡ length sets - n = mid_len m (length sets) sets (omega arith) ∙ omega arith in
    let p : post_of m (length sets - m) sets ≡ [] = Post-is m (length sets) sets k ∙ drop_of_length-le sets (omega arith) in
    let t : take m sets ≡ take n sets = min_take in
    rw (p, append-nil zeros, z, l, t, up_cut n sets)
  where
    min_take : take m sets ≡ take n sets
    min_take = by_cases (dec_lt n (length sets))
        (λ h. let q : m ≡ n = omega arith in rw q)
        (λ h. let q : m ≡ length sets = omega arith in rw q (take_all (length sets) sets (omega arith) ∙ sym (take_all n sets (omega arith))))
