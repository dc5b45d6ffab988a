-- A place tested part by part: each test that fails settles that it is not sound, and the last one says whether it is. Assumes nothing.
use mathlib.Core.Path.{◌≡◌, refl, ap, ◌∙◌, sym}
use mathlib.Core.Bool.{Bool, true, false, not, ◌&&◌, ◌||◌, and-true, and-false}
use mathlib.Core.List.{List, [], ◌∷◌}
use lib.Pointwise.{pointwise}
use Prim.Native.Nat.{ℕ, zero, suc, ◌≤◌, ◌<◌}
use native.Mathlib.Omega.{arith}
use lib.Dec.{eqb, leb}
use lib.ListN.{length, replicate}
use borrow.Author.Tests.{eq-eqb, ne_eqb, le-leb, lt-leb, leb-true, eqb-true, not-true, not-false}
use Rattle.scan.specs.Lists.{all}
use Rattle.scan.proofs.Bools.{and_both}
use Rattle.stream.specs.Values.{is_zero, only_src, are_none, are_in_range, go_together}
use Rattle.stream.specs.Pids.{is_padded, is_choice}
use Rattle.stream.specs.Streams.{no_stream, blank, are_zero, is_sound}
use Rattle.stream.specs.declared.Values.{Values}
use Rattle.stream.specs.declared.Stream.{Stream}
use Rattle.stream.proofs.Padding.{zeros_are}

-- a place where no stream is, compared field by field
all_zero : (n : ℕ) (l : List ℕ) → length l ≡ n → pointwise eqb l (replicate n 0) ≡ all is_zero l
all_zero zero [] e = refl
all_zero zero (p ∷ l) e = absurd (omega arith)
all_zero (suc n) [] e = absurd (omega arith)
all_zero (suc n) (p ∷ l) e = ap (λ b. eqb p 0 && b) (all_zero n l (omega arith))

none_by : (v : Values) → eqb v.src 0 && (eqb v.freq 0 && (eqb v.pol 0 && (eqb v.msys 0 && (eqb v.mtype 0 && (eqb v.plts 0 && (eqb v.ro 0 && (eqb v.sr 0 && eqb v.fec 0))))))) ≡ are_none v
unfolding are_none
none_by v = simp and-true

reorder : (p v c a : Bool) → p && (v && (c && a)) ≡ v && (c && a && p)
reorder true true true a = sym (and-true a)
reorder true true false a = refl
reorder true false c a = refl
reorder false true true a = sym (and-false a)
reorder false true false a = refl
reorder false false c a = refl

pub unused_by : (m : Stream) {r : Bool} → length m.pids ≡ 32
    → r ≡ (pointwise eqb m.pids (replicate 32 0) && ((eqb m.values.src 0 && (eqb m.values.freq 0 && (eqb m.values.pol 0 && (eqb m.values.msys 0 && (eqb m.values.mtype 0 && (eqb m.values.plts 0 && (eqb m.values.ro 0 && (eqb m.values.sr 0 && eqb m.values.fec 0)))))))) && (eqb m.count 0 && eqb m.all 0)))
    → r ≡ are_zero m
unfolding are_zero
unused_by m long e = e ∙ rw (all_zero 32 m.pids long, none_by m.values) (reorder (all is_zero m.pids) (are_none m.values) (eqb m.count 0) (eqb m.all 0))

-- a place where no stream is
pub unused_is : (f : ℕ) (m : Stream) → m.frontend ≡ 0 → is_sound f m ≡ are_zero m
unfolding is_sound
unused_is f m unused = rw (eq-eqb m.frontend 0 unused)

-- a live stream
module _ (f : ℕ) (m : Stream) (used : m.frontend ≡ 0 → ⊥) where
  lives : is_sound f m ≡ leb m.frontend f && (are_in_range m.values && (go_together m.values && is_choice m))
  unfolding is_sound
  lives = rw (ne_eqb m.frontend 0 used, le-leb 1 m.frontend (omega arith))

  pub live_past : f < m.frontend → false ≡ is_sound f m
  live_past h = rw (lives, lt-leb m.frontend f h)

  module _ (within : m.frontend ≤ f) {v : Bool} (values : v ≡ are_in_range m.values) where
    pub live_values : not v ≡ true → false ≡ is_sound f m
    live_values n = rw (lives, le-leb m.frontend f within, ← values, not-true v n)

    module _ (ranged : not v ≡ false) {g : Bool} (together : g ≡ go_together m.values) where
      pub live_apart : not g ≡ true → false ≡ is_sound f m
      live_apart n = rw (lives, le-leb m.frontend f within, ← values, not-false v ranged, ← together, not-true g n)

      module _ (allowed : not g ≡ false) where
        choice : is_sound f m ≡ leb m.all 1 && ((eqb m.all 0 || eqb m.count 0) && is_padded m.count 0 m.pids)
        unfolding is_choice
        choice = rw (lives, le-leb m.frontend f within, ← values, not-false v ranged, ← together, not-false g allowed)

        pub live_flag : 1 < m.all → false ≡ is_sound f m
        live_flag h = rw (choice, lt-leb m.all 1 h)

        module _ (flag : m.all ≤ 1) where
          pub live_both : not (eqb m.all 0 || eqb m.count 0) ≡ true → false ≡ is_sound f m
          live_both n = rw (choice, le-leb m.all 1 flag, not-true (eqb m.all 0 || eqb m.count 0) n)

          pub live_pids : not (eqb m.all 0 || eqb m.count 0) ≡ false → {r : Bool} → r ≡ is_padded m.count 0 m.pids → r ≡ is_sound f m
          live_pids n e = e ∙ rw (choice, le-leb m.all 1 flag, not-false (eqb m.all 0 || eqb m.count 0) n)

-- what is known of a live stream
pub record Live (f : ℕ) (m : Stream) : Type 0 where
  pub used : m.frontend ≡ 0 → ⊥
  pub within : m.frontend ≤ f
  pub ranged : are_in_range m.values ≡ true
  pub together : go_together m.values ≡ true
  pub choice : is_choice m ≡ true

pub live_sound : {f : ℕ} {m : Stream} → Live f m → is_sound f m ≡ true
live_sound {f} {m} s = rw (lives f m s.used, le-leb m.frontend f s.within, s.ranged, s.together, s.choice)

pub sound_live : (f : ℕ) (m : Stream) → is_sound f m ≡ true → (m.frontend ≡ 0 → ⊥) → Live f m
sound_live f m e u =
    let a = and_both (leb m.frontend f) (are_in_range m.values && (go_together m.values && is_choice m)) (sym (lives f m u) ∙ e) in
    let b = and_both (are_in_range m.values) (go_together m.values && is_choice m) a.1 in
    let c = and_both (go_together m.values) (is_choice m) b.1 in
    record { used = u; within = leb-true m.frontend f a.0; ranged = b.0; together = c.0; choice = c.1 }

-- an unused place that is sound is the one with all zeros
unused_values_none : (v : Values) → are_none v ≡ true → v ≡ (only_src 0)
unfolding are_none
unused_values_none v e =
    let a0 = and_both (eqb v.src 0) _ e in
    let a1 = and_both (eqb v.freq 0) _ a0.1 in
    let a2 = and_both (eqb v.pol 0) _ a1.1 in
    let a3 = and_both (eqb v.msys 0) _ a2.1 in
    let a4 = and_both (eqb v.mtype 0) _ a3.1 in
    let a5 = and_both (eqb v.plts 0) _ a4.1 in
    let a6 = and_both (eqb v.ro 0) _ a5.1 in
    let a7 = and_both (eqb v.sr 0) _ a6.1 in
    let a8 = and_both (eqb v.fec 0) _ a7.1 in
    let e0 : v.src ≡ 0 = eqb-true _ _ a0.0 in
    let e1 : v.freq ≡ 0 = eqb-true _ _ a1.0 in
    let e2 : v.pol ≡ 0 = eqb-true _ _ a2.0 in
    let e3 : v.msys ≡ 0 = eqb-true _ _ a3.0 in
    let e4 : v.mtype ≡ 0 = eqb-true _ _ a4.0 in
    let e5 : v.plts ≡ 0 = eqb-true _ _ a5.0 in
    let e6 : v.ro ≡ 0 = eqb-true _ _ a6.0 in
    let e7 : v.sr ≡ 0 = eqb-true _ _ a7.0 in
    let e8 : v.fec ≡ 0 = eqb-true _ _ a8.0 in
    let w : ◌≡◌ {A = Values}
    (record { src = v.src; freq = v.freq; pol = v.pol; msys = v.msys; mtype = v.mtype; plts = v.plts; ro = v.ro; sr = v.sr; fec = v.fec }) (only_src 0) =
    cc
    in
    w

pub sound_unused : (f : ℕ) (m : Stream) → is_sound f m ≡ true → m.frontend ≡ 0 → length m.pids ≡ 32 → m ≡ no_stream
unfolding are_zero
sound_unused f m e u h =
    let a = and_both (are_none m.values) (eqb m.count 0 && eqb m.all 0 && all is_zero m.pids) (sym (unused_is f m u) ∙ e) in
    let b = and_both (eqb m.count 0 && eqb m.all 0) (all is_zero m.pids) a.1 in
    let c = and_both (eqb m.count 0) (eqb m.all 0) b.0 in
    let v : m.values ≡ (only_src 0) = unused_values_none m.values a.0 in
    let n : m.count ≡ 0 = eqb-true _ _ c.0 in
    let k : m.all ≡ 0 = eqb-true _ _ c.1 in
    let p : m.pids ≡ replicate 32 0 = zeros_are m.pids b.1 ∙ rw h in
    let w : ◌≡◌ {A = Stream} (record { pids = m.pids; values = m.values; count = m.count; frontend = m.frontend; all = m.all }) no_stream = cc in
    w

pub none_sound : (f : ℕ) → is_sound f no_stream ≡ true
unfolding is_sound are_zero are_none
none_sound f = refl

pub blank_sound : (f n : ℕ) → 1 ≤ n → n ≤ f → is_sound f (blank n) ≡ true
unfolding is_sound are_in_range go_together is_choice
blank_sound f n h k = rw (ne_eqb n 0 (λ e. omega arith), le-leb 1 n h, le-leb n f k)
