-- The walk over the streams, and whether each live one has one owner. Assumes nothing.
use mathlib.Core.Path.{◌≡◌, refl, sym, ◌∙◌, ap, subst}
use mathlib.Core.Bool.{Bool, true, false, not, ◌&&◌, ◌||◌, and-true}
use mathlib.Core.List.{List, ◌∷◌}
use Prim.Native.Nat.{ℕ, suc, ◌+◌, ◌≤◌, ◌<◌}
use native.Mathlib.Numerals.{add-one}
use native.Mathlib.Omega.{arith}
use lib.Dec.{eqb}
use lib.ListN.{length, get_or, set, drop, replicate, length-set, length-map, get_or-map}
use borrow.Author.Tests.{eq-eqb, ne_eqb, not-true, not-false}
use Rattle.scan.specs.Lists.{all}
use Rattle.scan.proofs.Loops.{turn, end, Passing, passing_start, passing_more, passing_not, passing_end}
use Rattle.scan.proofs.Bools.{never, and_and}
use Rattle.stream.specs.Streams.{past_stream, are_zero, is_sound}
use Rattle.stream.specs.declared.Stream.{Stream}
use Rattle.stream.proofs.Soundness.{unused_is}
use Rattle.table.specs.Reach.{has_source, set_of}
use Rattle.table.specs.Formed.{is_placed, are_owned}
use Rattle.table.proofs.Rules.{frontends_of}
use Rattle.table.specs.declared.Session.{Session}
use Rattle.table.specs.declared.Settings.{Settings}
use Rattle.table.proofs.Places.{failed, held}
use Rattle.table.proofs.NumberLaws.{Gathered, gathered_start, gathered_more, gathered_end}
use Rattle.formed.proofs.Seating.{Tallied}

-- a live stream's place
module _ (s : Settings) (m : Stream) {r : Bool} (e : r ≡ is_sound s.frontends m) where
  pub placed_not : not r ≡ true → false ≡ (is_sound s.frontends m && has_source (set_of s m.frontend) m.values.src)
  placed_not q = rw (failed e q)

  pub placed_is : {f sources : ℕ} {x : Bool} → not r ≡ false → f ≡ m.frontend → sources ≡ set_of s f → x ≡ has_source sources m.values.src → x ≡ (is_sound s.frontends m && has_source (set_of s m.frontend) m.values.src)
  placed_is q a b c = c ∙ (ap (λ n. has_source n m.values.src) (b ∙ ap (set_of s) a) ∙ rw (held e q))

-- those before place k are sound, and their frontends stand at their IDs
pub record Sounding (settings : Settings) (ms : List Stream) (feeds : List ℕ) (k : ℕ) : Type 0 where
  pub rows : length ms ≡ 8
  pub ids : length feeds ≡ 9
  pub sound : Passing (is_placed settings) ms k
  pub gathered : Gathered (λ (m : Stream). m.frontend) (past_stream ∷ ms) (replicate 9 0) feeds (k + 1)

pub sounding_start : (settings : Settings) (ms : List Stream) {feeds : List ℕ} → length ms ≡ 8 → feeds ≡ replicate 9 0 → Sounding settings ms feeds 0
sounding_start settings ms {feeds} l z =
    record {
      rows = l;
      ids = ap length z;
      sound = passing_start (is_placed settings) ms;
      gathered = subst (λ f. Gathered (λ m. m.frontend) (past_stream ∷ ms) (replicate 9 0) f 1) (sym z) (gathered_more (λ m. m.frontend) past_stream (gathered_start (λ m. m.frontend) (past_stream ∷ ms) (replicate 9 0) (omega (arith, l))) (omega arith) refl);
    }

-- what the look at the streams comes to
abbrev pub Sounded : Settings → List Stream → List ℕ → Bool → Type 0
Sounded settings ms feeds r = (r ≡ all (is_placed settings) ms) × (r ≡ true → feeds ≡ 0 ∷ frontends_of ms)

module _ {settings : Settings} {k : ℕ} {ms : List Stream} {feeds : List ℕ} (s : Sounding settings ms feeds k) where
  pub sounding_end : 8 ≤ k → Sounded settings ms feeds true
  sounding_end h =
      (passing_end (is_placed settings) s.sound (omega (arith, s.rows)), λ y. gathered_end (λ m. m.frontend) s.gathered (omega (arith, s.rows)))

  module _ (h : k < 8) where
    row : k < length ms
    row = omega (arith, s.rows)

    -- an unused place is looked at by itself
    pub unused_placed : {r : Bool} → (get_or ms k past_stream).frontend ≡ 0 → r ≡ are_zero (get_or ms k past_stream) → r ≡ is_placed settings (get_or ms k past_stream)
    unused_placed z e =
        let m = get_or ms k past_stream in
        e ∙ (sym (unused_is settings.frontends m z) ∙ rw (eq-eqb m.frontend 0 z) (sym (and-true (is_sound settings.frontends m))))

    -- and a live one with what its frontend reaches
    pub live_placed : {r : Bool} → ((get_or ms k past_stream).frontend ≡ 0 → ⊥) → r ≡ (is_sound settings.frontends (get_or ms k past_stream) && has_source (set_of settings (get_or ms k past_stream).frontend) (get_or ms k past_stream).values.src) → r ≡ is_placed settings (get_or ms k past_stream)
    live_placed z e = e ∙ rw (ne_eqb (get_or ms k past_stream).frontend 0 z)

    module _ {r : Bool} (e : r ≡ is_placed settings (get_or ms k past_stream)) where
      pub sounding_not : (v : ℕ) → not r ≡ true → Sounded settings ms (set feeds (k + 1) v) false
      sounding_not v q = (passing_not (is_placed settings) past_stream s.sound row e (not-true r q), λ y. never y refl)

      pub sounding_more : {v : ℕ} → v ≡ (get_or ms k past_stream).frontend → not r ≡ false → Sounding settings ms (set feeds (k + 1) v) (k + 1)
      sounding_more x q =
          record {
            rows = s.rows;
            ids = length-set feeds _ _ ∙ s.ids;
            sound = passing_more (is_placed settings) past_stream s.sound row e (not-false r q);
            gathered = gathered_more (λ m. m.frontend) past_stream s.gathered (omega (arith, s.rows)) (x ∙ rw add-one);
          }

-- those before an ID have one owner where they are live, if `owned`
pub record Owning (feeds owners : List ℕ) (id : ℕ) (owned : Bool) : Type 0 where
  pub ids : length feeds ≡ 9
  pub same : (l : List Session) (ms : List Stream) → feeds ≡ 0 ∷ frontends_of ms → Tallied l owners → owned && are_owned l id (drop id (past_stream ∷ ms)) ≡ are_owned l 1 ms

pub owning_start : (feeds owners : List ℕ) → length feeds ≡ 9 → Owning feeds owners 0 true
owning_start feeds owners e = record { ids = e; same = λ l ms e t. refl }

long : (feeds : List ℕ) (ms : List Stream) → length feeds ≡ 9 → feeds ≡ 0 ∷ frontends_of ms → length ms ≡ 8
long feeds ms size e = let n : length feeds ≡ suc (length (frontends_of ms)) = ap length e in let m = length-map ms (λ x. x.frontend) in omega arith

module _ {feeds owners : List ℕ} {id : ℕ} {owned : Bool} (o : Owning feeds owners id owned) where
  pub owning_more : {r : Bool} → id < 9 → r ≡ (eqb (get_or feeds id 0) 0 || eqb (get_or owners id 0) 1) → Owning feeds owners (id + 1) (owned && r)
  owning_more {r} h x = record { ids = o.ids; same = by }
    where
      by : (l : List Session) (ms : List Stream) → feeds ≡ 0 ∷ frontends_of ms → Tallied l owners → (owned && r) && are_owned l (id + 1) (drop (id + 1) (past_stream ∷ ms)) ≡ are_owned l 1 ms
      by l ms e t =
          let f : get_or feeds id 0 ≡ (get_or (past_stream ∷ ms) id past_stream).frontend = ap (λ a. get_or a id 0) e ∙ get_or-map (λ m. m.frontend) (past_stream ∷ ms) id past_stream in
          let n : suc id ≡ id + 1 = omega arith in
          let y = turn (are_owned l id) (past_stream ∷ ms) id past_stream (omega (arith, long feeds ms o.ids e)) in
          sym (and_and owned r _) ∙ ap (λ b. owned && b) (rw (x, f, t id h) (sym (rw n at y))) ∙ o.same l ms e t

  pub owning_end : 9 ≤ id → (l : List Session) (ms : List Stream) → feeds ≡ 0 ∷ frontends_of ms → Tallied l owners → owned ≡ are_owned l 1 ms
  owning_end h l ms e t =
      let z = end (are_owned l id) (past_stream ∷ ms) id (omega (arith, long feeds ms o.ids e)) in
      sym (and-true owned) ∙ sym (ap (λ b. owned && b) z) ∙ o.same l ms e t
