-- Frontend orders by the ways they end. Assumes nothing.
use Rattle.std.specs.Prelude.{Option, Some, None, Result, Ok, Err}
use mathlib.Core.Path.{◌≡◌, refl, sym, ◌∙◌, ap}
use mathlib.Core.Bool.{Bool, true, false, cond, ◌||◌, and-false}
use Prim.Native.Nat.{ℕ, suc, ◌+◌}
use native.Mathlib.Omega.{arith}
use lib.Dec.{eqb, ltb}
use lib.ListN.{length, get_or}
use borrow.Author.Tests.{lt-ltb, le-ltb, le-leb, lt-leb, ne_eqb, eqb-false, ltb-true, ltb-false}
use Rattle.scan.specs.Lists.{is_between, first}
use Rattle.scan.proofs.Bools.{Same, same, other, sames, or_neither}
use Rattle.stream.specs.Streams.{past_stream}
use Rattle.stream.specs.Values.{are_complete}
use Rattle.scan.proofs.Loops.{first_within}
use Rattle.table.specs.Table.{unless, any, stream_of}
use Rattle.table.proofs.Firsts.{unless_some, unless_none}
use Rattle.table.specs.Formed.{well_formed}
use Rattle.table.specs.declared.SatBox.{SatBox}
use Rattle.table.specs.declared.Refusal.{Refusal}
use Rattle.table.specs.declared.Refusal.TheVariants.{Table, Frontend}
use Rattle.orders.specs.Orders.{plays_as_owner, order_at, order_for, order_of}
use Rattle.stream.specs.declared.Stream.{Stream}

-- a stream has the frontend n
abbrev pub is_fed : ℕ → Stream → Bool
is_fed n m = eqb m.frontend n

next : (i : ℕ) → i + 1 ≡ suc i
next i = omega arith

module _ (t : SatBox) (n : ℕ) {place : Option ℕ} (long : length t.streams ≡ 8) (f : place ≡ unless 8 (first (is_fed n) t.streams)) where
  pub order_none : place ≡ None → None ≡ order_for t n
  unfolding order_for
  order_none e = rw (le-ltb (first (is_fed n) t.streams) (length t.streams) (omega (arith, unless_none f e)))

  pub order_held : {r : Option Stream} {i : ℕ} → place ≡ Some i → r ≡ order_at t (i + 1) → r ≡ order_for t n
  unfolding order_for
  order_held {r} {i} h e =
      let s = unless_some f h in
      rw (lt-ltb (first (is_fed n) t.streams) (length t.streams) (omega (arith, first_within (is_fed n) t.streams, s.0, s.1)), ← s.0) (e ∙ ap (order_at t) (next i))

-- the stream of an ID by whether its owner plays and whether its values are there
module _ (t : SatBox) (i : ℕ) where
  pub order_unplayed : any (plays_as_owner (i + 1)) t.sessions ≡ false → None ≡ order_at t (i + 1)
  unfolding order_at
  order_unplayed e = rw e

  stands : stream_of t (i + 1) ≡ get_or t.streams i past_stream
  stands = ap (stream_of t) (next i)

  pub order_lacking : are_complete (get_or t.streams i past_stream).values ≡ false → None ≡ order_at t (i + 1)
  unfolding order_at
  order_lacking n = rw (ap (λ m. are_complete m.values) stands ∙ n, and-false)

  module _ (e : any (plays_as_owner (i + 1)) t.sessions ≡ true) where
    pub order_complete : are_complete (get_or t.streams i past_stream).values ≡ true → Some (get_or t.streams i past_stream) ≡ order_at t (i + 1)
    unfolding order_at
    order_complete y = rw (e, ap (λ m. are_complete m.values) stands ∙ y, stands)

-- a number that is 0 or above F
pub no_frontend : (frontends n : ℕ) → eqb n 0 || ltb frontends n ≡ true → is_between 1 frontends n ≡ false
no_frontend frontends n e =
    by (sames n 0)
  where
    by : Same n 0 → is_between 1 frontends n ≡ false
    by (same z) = rw z
    by (other z) = rw (lt-leb n frontends (ltb-true frontends n (rw (ne_eqb n 0 z) at e)), and-false)

pub a_frontend : (frontends n : ℕ) → eqb n 0 || ltb frontends n ≡ false → is_between 1 frontends n ≡ true
a_frontend frontends n e =
    let q = or_neither (eqb n 0) (ltb frontends n) e in
    let z = eqb-false n 0 q.0 in
    rw (le-leb 1 n (omega arith), le-leb n frontends (ltb-false frontends n q.1))

-- which refuses, and what none does
module _ (t : SatBox) (n : ℕ) {r : Result (Unit {0}) Refusal} (w : r ≡ cond (well_formed t) (cond (is_between 1 t.settings.frontends n) (Ok tt) (Err Frontend)) (Err Table)) where
  pub order_refused : {x : Refusal} → r ≡ Err x → Err x ≡ order_of t n
  unfolding order_of
  order_refused {x} h = by (well_formed t) (is_between 1 t.settings.frontends n) (sym h ∙ w)
    where
      by : (a b : Bool) → ◌≡◌ {A = Result (Unit {0}) Refusal} (Err x) (cond a (cond b (Ok tt) (Err Frontend)) (Err Table))
          → ◌≡◌ {A = Result (Option Stream) Refusal} (Err x) (cond a (cond b (Ok (order_for t n)) (Err Frontend)) (Err Table))
      by true true q = let y : ◌≡◌ {A = ℕ} 0 1 = cc in absurd (omega arith)
      by true false q = let z : x ≡ Frontend = cc in ap Err z
      by false b q = let z : x ≡ Table = cc in ap Err z

  pub order_given : {o : Unit {0}} → r ≡ Ok o → Ok (order_for t n) ≡ order_of t n
  unfolding order_of
  order_given {o} h = by (well_formed t) (is_between 1 t.settings.frontends n) (sym h ∙ w)
    where
      by : (a b : Bool) → ◌≡◌ {A = Result (Unit {0}) Refusal} (Ok o) (cond a (cond b (Ok tt) (Err Frontend)) (Err Table))
          → ◌≡◌ {A = Result (Option Stream) Refusal} (Ok (order_for t n)) (cond a (cond b (Ok (order_for t n)) (Err Frontend)) (Err Table))
      by true true q = refl
      by true false q = let y : ◌≡◌ {A = ℕ} 0 1 = cc in absurd (omega arith)
      by false b q = let y : ◌≡◌ {A = ℕ} 0 1 = cc in absurd (omega arith)
