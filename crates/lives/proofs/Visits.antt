-- What a sweep leaves, and which records it writes: each session closes at the visit that the table before the sweep gives it, with the cause of that
-- visit, or is as before. Assumes nothing.
use mathlib.Core.Path.{◌≡◌, refl, sym, ◌∙◌, ap, subst}
use mathlib.Core.Bool.{Bool, true, false, not, cond, ◌&&◌, and-false}
use mathlib.Core.List.{List, [], ◌∷◌, map, map-append, append-nil}
use Prim.Native.Nat.{ℕ, zero, suc, ◌≤◌, ◌<◌}
use native.Mathlib.Decide.{dec_lt}
use native.Mathlib.Omega.{arith}
use lib.Dec.{eqb, ltb}
use borrow.Author.Tests.{eq-eqb, ne_eqb, lt-ltb, le-ltb}
use Rattle.scan.proofs.Bools.{never, and_both, both, by_cases, Case, is, isnt, case, Same, same, other, sames, cond_keeps}
use Rattle.journal.specs.declared.Record.{Record}
use Rattle.table.specs.Table.{no_session, is_open, session_at, stream_of, owns}
use Rattle.table.specs.declared.Session.{Session}
use Rattle.table.specs.declared.SatBox.{SatBox}
use Rattle.table.proofs.Counts.{first_passes}
use Rattle.table.proofs.Changes.{opened}
use Rattle.closings.specs.Closing.{Did, nothing, then, upto, closing, is_expired, sweep_at, swept}
use Rattle.closings.proofs.Closings.{closable}
use Rattle.closings.proofs.Keeping.{Whole, whole_roomy, sweep_at_whole}
use Rattle.closings.proofs.Runs.{upto_keeps}
use Rattle.lives.specs.Closed.{takes, visit_of, closing_of, unnumbered, in_order, closings_at, sweep_closings}
use Rattle.lives.proofs.Departures.{upto_fates}
use Rattle.lives.proofs.Taking.{within, first_least, order_same, takes_self, one_number, one_owner, Took, closing_took, Taken, self, along, taken, taken_open, taken_none}

later : (v n : ℕ) → (v ≡ n → ⊥) → ltb v (suc n) ≡ ltb v n
later v n h =
    by_cases (dec_lt v n) (λ l. lt-ltb v (suc n) (omega arith) ∙ sym (lt-ltb v n l))
    (λ l. le-ltb v (suc n) (by_cases (dec_lt n v) (λ m. omega arith) (λ m. absurd (h (omega arith)))) ∙ sym (le-ltb v n (omega arith)))

-- A SWEEP
module _ (t : SatBox) (w : Whole t) where
  abbrev visit : ℕ → ℕ
  visit k = visit_of t (session_at t k)

  abbrev aged : ℕ → Bool
  aged k = is_expired t.clock (session_at t k)

  abbrev at : ℕ → List Record
  at i = cond (eqb (visit i) i) (closings_at 2 t i (λ k. eqb (visit k) i)) []

  abbrev passes : ℕ → Session → Bool
  passes k r = is_expired t.clock r && takes r (session_at t k)

  visit_by : (k n : ℕ) → n < 32 → visit k ≡ n → (aged n ≡ true) × (takes (session_at t n) (session_at t k) ≡ true)
  unfolding visit_of
  visit_by k n h e =
      and_both (aged n) _ (subst (λ m. passes k (session_at t m) ≡ true) e (first_passes (passes k) t.sessions no_session (omega (arith, e, w.places))))

  visit_least : (k n : ℕ) → aged n ≡ true → takes (session_at t n) (session_at t k) ≡ true → visit k ≤ n
  unfolding visit_of
  visit_least k n y z =
      first_least (passes k) t.sessions no_session n
      (within (is_expired t.clock) t.sessions no_session refl n y) (both y z)

  aged_open : (k : ℕ) → aged k ≡ true → is_open (session_at t k) ≡ true
  aged_open k y = (and_both (is_open (session_at t k)) _ y).0

  -- where one closes with its owner at an earlier visit, nobody closes at the visit of its place
  before : (n m : ℕ) → m < n → n < 32 → aged n ≡ true → visit n ≡ m → Taken (session_at t m) (session_at t n) → (k : ℕ) → visit k ≡ n → Taken (session_at t n) (session_at t k) → ⊥
  before n m l h y e (self q) k v z =
      let i = one_number t w n m (opened (session_at t n) (aged_open n y)) q in omega arith
  before n m l h y e (along own on q) k v (self z) =
      let i = one_number t w n k (opened (session_at t n) (aged_open n y)) (sym z) in
      let j : visit n ≡ n = ap visit i ∙ v in
      omega arith
  before n m l h y e (along own on q) k v (along mine there z) =
      let i = one_owner t w (session_at t m).stream m n own (subst (λ id. owns id (session_at t n) ≡ true) q mine) in
      omega arith

  -- after the first n visits
  record Visited (n : ℕ) (d : Did) : Type 0 where
    seats : (k : ℕ) → session_at d.satbox k ≡ cond (ltb (visit k) n) no_session (session_at t k)
    rows : (k : ℕ) → is_open (session_at t k) ≡ true → n ≤ visit k → stream_of d.satbox (session_at t k).stream ≡ stream_of t (session_at t k).stream
    text : map unnumbered d.records ≡ in_order at n

  module _ (n : ℕ) (h : n < 32) (d : Did) (v : Visited n d) where
    abbrev u : SatBox
    u = d.satbox

    -- who is gone, and who is there
    gone_at : (k : ℕ) → visit k < n → session_at u k ≡ no_session
    gone_at k l = v.seats k ∙ rw (lt-ltb (visit k) n l)

    there_at : (k : ℕ) → n ≤ visit k → session_at u k ≡ session_at t k
    there_at k l = v.seats k ∙ rw (le-ltb (visit k) n l)

    -- NOBODY CLOSES at the next
    idle : ((k : ℕ) → visit k ≡ n → ⊥) → Visited (suc n) (then d nothing)
    unfolding in_order
    idle z =
        record {
          seats = λ k. v.seats k ∙ rw (later (visit k) n (z k));
          rows = λ k some l. v.rows k some (omega arith);
          text = rw (append-nil, ne_eqb (visit n) n (z n), append-nil) v.text;
        }

    none_here : is_expired t.clock (session_at u n) ≡ false → (k : ℕ) → visit k ≡ n → ⊥
    none_here z k e =
        let y = visit_by k n h e in
        by_cases (dec_lt (visit n) n)
        (λ l.
        let x = visit_by n (visit n) (omega arith) refl in
        before n (visit n) l h y.0 refl (taken _ _ x.1) k e (taken _ _ y.1))
        (λ l. never y.0 (subst (λ (x : Session). is_expired t.clock x ≡ false) (there_at n (omega arith)) z))

    -- SOMEBODY CLOSES
    module _ (y : is_expired t.clock (session_at u n) ≡ true) where
      early : visit n < n → ⊥
      early l = never y (subst (λ (x : Session). is_expired t.clock x ≡ false) (sym (gone_at n l)) refl)

      here : session_at u n ≡ session_at t n
      here = there_at n (by_cases (dec_lt (visit n) n) (λ l. absurd (early l)) (λ l. omega arith))

      old : aged n ≡ true
      old = subst (λ (x : Session). is_expired t.clock x ≡ true) here y

      visited_now : visit n ≡ n
      visited_now = by_cases (dec_lt (visit n) n) (λ l. absurd (early l)) (λ l. omega (arith, visit_least n n old (takes_self (session_at t n))))

      -- of those that are there it takes along who closes at this visit
      closes_now : (k : ℕ) → n ≤ visit k → takes (session_at t n) (session_at t k) ≡ eqb (visit k) n
      closes_now k l = by (case (takes (session_at t n) (session_at t k)))
        where
          by : Case (takes (session_at t n) (session_at t k)) → takes (session_at t n) (session_at t k) ≡ eqb (visit k) n
          by (is z) = z ∙ sym (eq-eqb (visit k) n (omega (arith, visit_least k n old z)))
          by (isnt z) = z ∙ sym (ne_eqb (visit k) n (λ e. never (visit_by k n h e).1 z))

      module _ (clock : u.clock ≡ t.clock) (k : ℕ) where
        -- the record of one that is there is that of the table before the sweep
        record_now : (cause : ℕ) → is_open (session_at t k) ≡ true → n ≤ visit k → closing_of cause u k ≡ closing_of cause t k
        record_now cause some l = rw (clock, there_at k l, v.rows k some l)

        beside_now : Same k n
            → cond (takes (session_at u n) (session_at u k) && not (eqb k n)) (closing_of 3 u k ∷ []) []
            ≡ cond (eqb (visit k) n && not (eqb k n)) (closing_of 3 t k ∷ []) []
        beside_now (same e) =
            rw (eq-eqb k n e, and-false (takes (session_at u n) (session_at u k)), and-false (eqb (visit k) n))
        beside_now (other e) =
            by_cases (dec_lt (visit k) n)
            (λ l. rw (gone_at k l, here, taken_none (session_at t n) (aged_open n old), ne_eqb (visit k) n (λ q. omega arith)))
            (λ l. there (omega arith) (case (eqb (visit k) n)))
          where
            there : n ≤ visit k → Case (eqb (visit k) n)
                → cond (takes (session_at u n) (session_at u k) && not (eqb k n)) (closing_of 3 u k ∷ []) []
                ≡ cond (eqb (visit k) n && not (eqb k n)) (closing_of 3 t k ∷ []) []
            there l c =
                rw (ap (λ (x : Session). takes x (session_at u k)) here ∙ (ap (takes (session_at t n)) (there_at k l) ∙ closes_now k l))
                (picked c)
              where
                picked : Case (eqb (visit k) n) → cond (eqb (visit k) n && not (eqb k n)) (closing_of 3 u k ∷ []) [] ≡ cond (eqb (visit k) n && not (eqb k n)) (closing_of 3 t k ∷ []) []
                picked (isnt z) = rw z
                picked (is z) =
                    let some = taken_open (session_at t n) (session_at t k) (aged_open n old) (taken _ _ (closes_now k l ∙ z)) in
                    ap (λ (r : Record). cond (eqb (visit k) n && not (eqb k n)) (r ∷ []) []) (record_now 3 some l)

      module _ (clock : u.clock ≡ t.clock) (took : Took 2 n u (closing 2 n u)) where
        seats_now : (k : ℕ) → session_at (closing 2 n u).satbox k ≡ cond (ltb (visit k) (suc n)) no_session (session_at t k)
        seats_now k =
            took.seats k
            ∙ by_cases (dec_lt (visit k) n)
            (λ l.
            rw (gone_at k l, lt-ltb (visit k) (suc n) (omega arith))
            (cond_keeps (λ (x : Session). x ≡ no_session) (takes (session_at u n) no_session) no_session no_session (λ e. refl) (λ e. refl)))
            (λ l.
            let m : n ≤ visit k = omega arith in
            rw (here, there_at k m, closes_now k m) (there m (sames (visit k) n)))
          where
            there : n ≤ visit k → Same (visit k) n → cond (eqb (visit k) n) no_session (session_at t k) ≡ cond (ltb (visit k) (suc n)) no_session (session_at t k)
            there m (same e) = rw (eq-eqb (visit k) n e, lt-ltb (visit k) (suc n) (omega arith))
            there m (other e) = rw (ne_eqb (visit k) n e, later (visit k) n e, le-ltb (visit k) n m)

        rows_now : (k : ℕ) → is_open (session_at t k) ≡ true → suc n ≤ visit k → stream_of (closing 2 n u).satbox (session_at t k).stream ≡ stream_of t (session_at t k).stream
        rows_now k some l =
            let m : n ≤ visit k = omega arith in
            let left : takes (session_at u n) (session_at u k) ≡ false = rw (here, there_at k m) (closes_now k m ∙ ne_eqb (visit k) n (λ e. omega arith)) in
            (rw (there_at k m) at (took.rows k (rw (there_at k m) some) left)) ∙ v.rows k some m

        text_now : map unnumbered (closing 2 n u).records ≡ at n
        text_now =
            took.text
            ∙ rw (eq-eqb (visit n) n visited_now, record_now clock n 2 (aged_open n old) (omega (arith, visited_now)))
            (ap (λ rs. closing_of 2 t n ∷ rs) (order_same _ _ 32 (λ k. beside_now clock k (sames k n))))

        closed_now : Visited (suc n) (then d (closing 2 n))
        unfolding in_order
        closed_now =
            record {
              seats = seats_now;
              rows = rows_now;
              text = map-append unnumbered d.records (closing 2 n u).records ∙ rw (v.text, text_now);
            }

    -- THE NEXT VISIT
    visited_next : u.clock ≡ t.clock → Whole u → Visited (suc n) (then d (sweep_at n))
    unfolding sweep_at
    visited_next clock wu =
        let now = ap (λ clock. is_expired clock (session_at u n)) clock in
        cond_keeps (λ (x : Did). Visited (suc n) (then d (λ q. x))) (is_expired u.clock (session_at u n)) (closing 2 n u) (nothing u)
        (λ y. closed_now (sym now ∙ y) clock (closing_took 2 n u (closable u n _ h (whole_roomy u wu) y) wu)) (λ y. idle (none_here (sym now ∙ y)))

  visited : (n : ℕ) → n ≤ 32 → Visited n (upto sweep_at n t)
  unfolding upto in_order
  visited zero h = record { seats = λ k. rw (le-ltb (visit k) 0 (omega arith)); rows = λ k some l. refl; text = refl }
  visited (suc n) h =
      visited_next n (omega arith) (upto sweep_at n t) (visited n (omega arith)) (upto_fates t w n (omega arith)).clock
      (upto_keeps sweep_at Whole 32 sweep_at_whole t w n (omega arith))

  -- ITS RECORDS
  pub swept_text : map unnumbered (swept t).records ≡ sweep_closings t
  unfolding swept
  swept_text = (visited 32 (omega arith)).text

  -- WHO IS GONE: whom one that has expired takes along
  pub swept_gone : (i m : ℕ) → aged m ≡ true → takes (session_at t m) (session_at t i) ≡ true → session_at (swept t).satbox i ≡ no_session
  unfolding swept
  swept_gone i m y z =
      let l = within (is_expired t.clock) t.sessions no_session refl m y in
      (visited 32 (omega arith)).seats i ∙ rw (lt-ltb (visit i) 32 (omega (arith, visit_least i m y z, l, w.places)))

  -- so that nothing that has expired is open
  pub none_expired : (i : ℕ) → is_expired t.clock (session_at (swept t).satbox i) ≡ false
  unfolding swept
  none_expired i = by (case (aged i))
    where
      by : Case (aged i) → is_expired t.clock (session_at (swept t).satbox i) ≡ false
      by (is y) = subst (λ (x : Session). is_expired t.clock x ≡ false) (sym (swept_gone i i y (takes_self (session_at t i)))) refl
      by (isnt n) =
          subst (λ (x : Session). is_expired t.clock x ≡ false) (sym ((visited 32 (omega arith)).seats i))
          (cond_keeps (λ (x : Session). is_expired t.clock x ≡ false) (ltb (visit i) 32) no_session (session_at t i) (λ e. refl) (λ e. n))

  -- WHO STAYS
  module _ (i : ℕ) (some : is_open (session_at t i) ≡ true) (young : aged i ≡ false) (kept : (m : ℕ) → owns (session_at t i).stream (session_at t m) ≡ true → aged m ≡ false) where
    unvisited_by : (m : ℕ) → aged m ≡ true → Taken (session_at t m) (session_at t i) → ⊥
    unvisited_by m y (self e) =
        let same_place = one_number t w i m (opened (session_at t i) some) e in
        never y (subst (λ k. aged k ≡ false) same_place young)
    unvisited_by m y (along own on e) = never y (kept m (rw e own))

    unvisited : 32 ≤ visit i
    unvisited =
        by_cases (dec_lt (visit i) 32)
        (λ l. let y = visit_by i (visit i) l refl in absurd (unvisited_by (visit i) y.0 (taken _ _ y.1))) (λ l. omega arith)

    pub stays_seat : session_at (swept t).satbox i ≡ session_at t i
    unfolding swept
    stays_seat = (visited 32 (omega arith)).seats i ∙ rw (le-ltb (visit i) 32 unvisited)

    pub stays_row : stream_of (swept t).satbox (session_at t i).stream ≡ stream_of t (session_at t i).stream
    unfolding swept
    stays_row = (visited 32 (omega arith)).rows i some unvisited
