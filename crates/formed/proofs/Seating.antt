-- The walk over the sessions: a record for what holds before a place, and a law for the start, a turn and each way out. A walk that ends early
-- met what no sessions of a well-formed table have. Assumes nothing.
use Rattle.std.specs.Prelude.{Option, Some, None}
use mathlib.Core.Path.{◌≡◌, refl, sym, ◌∙◌, ap, subst}
use mathlib.Core.Bool.{Bool, true, false, not, ◌&&◌, ◌||◌, cond, and-false, and_assoc, or_assoc}
use mathlib.Core.List.{List, [], ◌∷◌}
use Prim.Native.Nat.{ℕ, zero, suc, ◌+◌, ◌*◌, ◌-◌, ◌%◌, ◌≤◌, ◌<◌, min}
use native.Mathlib.Numerals.{add-one}
use native.Mathlib.Decide.{dec_lt}
use native.Mathlib.Omega.{arith}
use lib.Dec.{eqb, leb}
use lib.ListN.{length, get_or, set, take, drop, replicate, length-set, length-take, get_or-replicate, get_or-eq_default}
use Rattle.std.proofs.lemmas.List.{get_or-take}
use lib.Seq.{get_or-set_same, get_or-set_other}
use borrow.Author.Tests.{eq-eqb, ne_eqb, eqb-true, eqb-false, leb-true, not-true}
use Rattle.scan.specs.Lists.{is_between, all}
use Rattle.scan.proofs.Loops.{turn, end, Passing, passing_start, passing_more, passing_not, passing_end}
use Rattle.scan.proofs.Bools.{never, by_cases, and_both, Case, is, isnt, case, Same, sames, same, other, both}
use Rattle.stream.specs.Values.{is_zero}
use Rattle.table.specs.Table.{count, is_among, are_distinct, no_session, has_number, is_free, is_open, owns}
use Rattle.table.specs.Formed.{is_seated, is_blank}
use Rattle.table.proofs.Counts.{bit, bit_no, bit_yes, count_none, none_count, count_map, count_distinct, distinct_count, is_number}
use Rattle.table.proofs.Rules.{numbers_of, is_proper}
use Rattle.table.specs.declared.Session.{Session}
use Rattle.table.proofs.Places.{failed, held, Counting, counting_start, counting_by, counting_end}
use Rattle.formed.specs.Standings.{is_vacant, latest, oldest}

-- a session is free, or on a stream that is live by the frontends at the streams' IDs
abbrev pub is_homed : List ℕ → Session → Bool
is_homed feeds s = is_free s || not (is_zero (get_or feeds s.stream 0))

-- the rules of the sessions, and what the look at them finds
abbrev pub are_seated : ℕ → ℕ → ℕ → List ℕ → List Session → Bool
are_seated clock bytes size feeds l =
    are_distinct (numbers_of l) && (all (is_homed feeds) l && (all (is_proper clock) l && (eqb (bytes % 16) 0 && leb (bytes + 16 * count is_open l) size)))

abbrev pub seats_of : ℕ → ℕ → ℕ → List ℕ → List Session → Option ℕ
seats_of clock bytes size feeds l = cond (are_seated clock bytes size feeds l) (Some (oldest l)) None

abbrev pub Tallied : List Session → List ℕ → Type 0
Tallied l owners = (id : ℕ) → id < 9 → get_or owners id 0 ≡ count (owns id) l

-- a live stream's ID
pub live_id : (feeds : List ℕ) (id : ℕ) → length feeds ≡ 9 → not (is_zero (get_or feeds id 0)) ≡ true → id < 9
live_id feeds id l e = by_cases (dec_lt id 9) (λ h. h) (λ h. absurd (eqb-false _ _ (not-true _ e) (get_or-eq_default feeds 0 {n = id} (omega arith))))

pub no_stream_law : (feeds : List ℕ) (id : ℕ) → length feeds ≡ 9 → 8 < id → is_zero (get_or feeds id 0) ≡ true
no_stream_law feeds id l h = eq-eqb _ _ (get_or-eq_default feeds 0 {n = id} (omega arith))

-- numbers that are packed: one more after the first n
count_packed : {A : Type 0} (p : A → Bool) (l : List A) (n : ℕ) (v : A) → n < length l → count p (take (n + 1) (set l n v)) ≡ count p (take n l) + bit (p v)
count_packed {A} p l n v h = rw add-one (by l n h)
  where
    by : (l : List A) (n : ℕ) → n < length l → count p (take (suc n) (set l n v)) ≡ count p (take n l) + bit (p v)
    by [] n h = absurd (omega arith)
    by (a ∷ l) zero h = omega arith
    by (a ∷ l) (suc n) h = omega (arith, by l n (omega arith))

-- numbers with zeros behind the first n: any other number is among the first k of them exactly if it is among the first n
module _ (m : ℕ) (other : eqb m 0 ≡ false) where
  among_none : (k : ℕ) (l : List ℕ) → all is_zero l ≡ true → is_among m (take k l) ≡ false
  among_none zero l e = refl
  among_none (suc k) [] e = refl
  among_none (suc k) (a ∷ l) e =
      let b = and_both (is_zero a) (all is_zero l) e in
      rw (ne_eqb a m (λ q. never (eq-eqb m 0 (sym q ∙ eqb-true a 0 b.0)) other)) (among_none k l b.1)

  pub among_padded : (n k : ℕ) (l : List ℕ) → n ≤ k → all is_zero (drop n l) ≡ true → is_among m (take k l) ≡ is_among m (take n l)
  among_padded zero k l h e = among_none k l e
  among_padded (suc n) zero l h e = absurd (omega arith)
  among_padded (suc n) (suc k) [] h e = refl
  among_padded (suc n) (suc k) (a ∷ l) h e = ap (λ b. eqb a m || b) (among_padded n k l (omega arith) e)

pub among_split : (m n k : ℕ) (l : List ℕ) → is_among m (take n l) || is_among m (take k (drop n l)) ≡ is_among m (take (n + k) l)
among_split m zero k l = let z : 0 + k ≡ k = omega arith in rw z
among_split m (suc n) k [] = let z : suc n + k ≡ suc (n + k) = omega arith in rw z (by k)
  where
    by : (k : ℕ) → is_among m (take k []) ≡ false
    by zero = refl
    by (suc k) = refl
among_split m (suc n) k (a ∷ l) = let z : suc n + k ≡ suc (n + k) = omega arith in rw z (or_assoc (eqb a m) _ _ ∙ ap (λ b. eqb a m || b) (among_split m n k l))

-- one more number behind the first n leaves zeros behind it
zeros_after : (l : List ℕ) (n v : ℕ) → all is_zero (drop n l) ≡ true → all is_zero (drop (n + 1) (set l n v)) ≡ true
zeros_after l n v e = rw add-one (by l n e)
  where
    by : (l : List ℕ) (n : ℕ) → all is_zero (drop n l) ≡ true → all is_zero (drop (suc n) (set l n v)) ≡ true
    by [] zero e = refl
    by [] (suc n) e = refl
    by (a ∷ l) zero e = (and_both (is_zero a) (all is_zero l) e).1
    by (a ∷ l) (suc n) e = by l n e

-- a session that is seated has a flag for its owner
flag : (n : ℕ) → n ≤ 1 → Same n 0 → bit (not (eqb n 0)) ≡ n
flag n h (same z) = rw z
flag n h (other z) = rw (ne_eqb n 0 z) (omega arith)

seated_owner : (clock : ℕ) (s : Session) → is_seated clock s ≡ true → s.owner ≤ 1
unfolding is_seated
seated_owner clock s e =
    let port = is_between 1024 65534 s.port && eqb (s.port % 2) 0 in
    let a = and_both (port && leb s.owner 1 && leb s.playing 1) (leb s.last clock) e in
    leb-true _ _ (and_both port (leb s.owner 1) (and_both (port && leb s.owner 1) (leb s.playing 1) a.0).0).1

-- how many more own the stream of an ID with a seated session
owns_more : (id : ℕ) (s : Session) → (s.number ≡ 0 → ⊥) → s.owner ≤ 1 → s.stream ≡ id → bit (owns id s) ≡ s.owner
owns_more id s k h e = rw (ne_eqb s.number 0 k, eq-eqb s.stream id e) (flag s.owner h (sames _ _))

owns_other : (id : ℕ) (s : Session) → (s.stream ≡ id → ⊥) → owns id s ≡ false
owns_other id s n = rw (ne_eqb s.stream id n, and-false (is_open s))

oldest_most : (l : List Session) → oldest l ≤ latest
oldest_most [] = omega arith
oldest_most (s ∷ l) = by (is_free s) (oldest_most l)
  where
    by : (b : Bool) {m : ℕ} → m ≤ latest → cond b m (min s.last m) ≤ latest
    by true h = h
    by false h = omega arith

-- a place among the first of some
pub in_front : (l : List Session) (end i : ℕ) → i < length (take end l) → get_or (take end l) i no_session ≡ get_or l i no_session
in_front l end i h = get_or-take end l i no_session (omega (arith, length-take end l))

-- what comparing a place with one where nobody is comes to
abbrev alike : Session → Bool
alike s = eqb s.number 0 && (eqb s.address 0 && (eqb s.last 0 && (eqb s.port 0 && (eqb s.stream 0 && (eqb s.owner 0 && eqb s.playing 0)))))

pub alike_vacant : (s : Session) → alike s ≡ is_vacant s
unfolding is_blank
alike_vacant s = simp and_assoc

module _ (clock bytes size : ℕ) (feeds : List ℕ) (l : List Session) where
  -- what no such sessions have
  pub ill : ((are_distinct (numbers_of l) ≡ true) → (all (is_homed feeds) l ≡ true) → (all (is_proper clock) l ≡ true) → ⊥) → None ≡ seats_of clock bytes size feeds l
  ill h = by (case (are_seated clock bytes size feeds l))
    where
      by : Case (are_seated clock bytes size feeds l) → None ≡ seats_of clock bytes size feeds l
      by (isnt n) = rw n
      by (is y) =
          let a = and_both (are_distinct (numbers_of l)) _ y in
          let b = and_both (all (is_homed feeds) l) _ a.1 in
          absurd (h a.0 b.0 (and_both (all (is_proper clock) l) _ b.1).0)

-- Those before place i are proper, and belong to a live stream where they are open; n of them are open, whose numbers stand in `numbers`, each
-- once, with zeros behind them; at each ID stands how many of them own its stream; and `old` is their oldest last time
pub record Seating (clock : ℕ) (feeds : List ℕ) (l : List Session) (i : ℕ) (numbers owners : List ℕ) (n old : ℕ) : Type 0 where
  pub places : length l ≡ 32
  pub room : length numbers ≡ 32
  pub ids : length owners ≡ 9
  pub most : n ≤ i
  pub proper : Passing (is_proper clock) l i
  pub homed : Passing (is_homed feeds) l i
  pub opened : Counting is_open l i n
  pub owned : (id : ℕ) → id < 9 → Counting (owns id) l i (get_or owners id 0)
  pub having : (m : ℕ) → (m ≡ 0 → ⊥) → Counting (has_number m) l i (count (is_number m) (take n numbers))
  pub once : (m : ℕ) → (m ≡ 0 → ⊥) → count (is_number m) (take n numbers) ≤ 1
  pub behind : all is_zero (drop n numbers) ≡ true
  pub young : old ≤ latest
  pub since : min old (oldest (drop i l)) ≡ oldest l

pub seating_start : (clock : ℕ) (feeds : List ℕ) (l : List Session) → length l ≡ 32 → {owners : List ℕ} → owners ≡ replicate 9 0 → Seating clock feeds l 0 (replicate 32 0) owners 0 latest
seating_start clock feeds l e {owners} z =
    record {
      places = e;
      room = refl;
      ids = ap length z;
      most = omega arith;
      proper = passing_start (is_proper clock) l;
      homed = passing_start (is_homed feeds) l;
      opened = counting_start is_open l;
      owned = λ id h. subst (Counting (owns id) l 0) (sym (ap (λ o. get_or o id 0) z ∙ get_or-replicate 9 id 0 0 h)) (counting_start (owns id) l);
      having = λ m h. counting_start (has_number m) l;
      once = λ m h. omega arith;
      behind = refl;
      young = omega arith;
      since = omega (arith, oldest_most l);
    }

module _ {clock : ℕ} {feeds : List ℕ} {l : List Session} {i n old : ℕ} {numbers owners : List ℕ} (w : Seating clock feeds l i numbers owners n old) where
  -- of a stream there are no more owners than sessions
  pub seating_most : (id : ℕ) → id < 9 → get_or owners id 0 ≤ 32
  seating_most id h = omega (arith, (w.owned id h).most, (w.owned id h).inside, w.places)

  -- what admitting the next session asks
  pub seating_asks : (s : Session) → (s.number ≡ 0 → ⊥) → (eqb s.number 0 ≡ false) × (n ≤ 32) × (all is_zero (drop n numbers) ≡ true)
  seating_asks s k = (ne_eqb s.number 0 k, omega (arith, w.most, w.opened.inside, w.places), w.behind)

  module _ (h : i < 32) where
    within : i < length l
    within = omega (arith, w.places)

    -- a free place that is not empty
    pub seating_not_empty : (bytes size : ℕ) → (get_or l i no_session).number ≡ 0 → is_vacant (get_or l i no_session) ≡ false → None ≡ seats_of clock bytes size feeds l
    seating_not_empty bytes size z e =
        let s = get_or l i no_session in
        let b : is_blank s ≡ false = rw (eq-eqb s.number 0 z) at e in
        ill clock bytes size feeds l (λ d f p. never p (sym (passing_not (is_proper clock) no_session w.proper within (rw (eq-eqb s.number 0 z, b)) refl)))

    module _ (e : is_vacant (get_or l i no_session) ≡ true) where
      free : has_number 0 (get_or l i no_session) ≡ true
      free = (and_both (is_free (get_or l i no_session)) (is_blank (get_or l i no_session)) e).0

      blank : is_blank (get_or l i no_session) ≡ true
      blank = (and_both (is_free (get_or l i no_session)) (is_blank (get_or l i no_session)) e).1

      pub seating_free : Seating clock feeds l (i + 1) numbers owners n old
      seating_free =
          record {
            places = w.places;
            room = w.room;
            ids = w.ids;
            most = omega (arith, w.most);
            proper = passing_more (is_proper clock) no_session w.proper within refl (rw free blank);
            homed = passing_more (is_homed feeds) no_session w.homed within refl (rw free);
            opened = counting_by is_open no_session w.opened within (rw free (omega arith));
            owned = λ id k. counting_by (owns id) no_session (w.owned id k) within (rw free (omega arith));
            having = λ m k. counting_by (has_number m) no_session (w.having m k) within (rw (ne_eqb (get_or l i no_session).number m (λ q. k (sym q ∙ eqb-true (get_or l i no_session).number 0 free))) (omega arith));
            once = w.once;
            behind = w.behind;
            young = w.young;
            since = ap (min old) (sym (turn oldest l i no_session within ∙ rw free)) ∙ w.since;
          }

    module _ (k : (get_or l i no_session).number ≡ 0 → ⊥) {r : Bool} (e : r ≡ (is_seated clock (get_or l i no_session) && (not (is_zero (get_or feeds (get_or l i no_session).stream 0)) && not (is_among (get_or l i no_session).number (take n numbers))))) where
      not_free : has_number 0 (get_or l i no_session) ≡ false
      not_free = ne_eqb (get_or l i no_session).number 0 k

      -- a number that came before
      twice : are_distinct (numbers_of l) ≡ true → is_among (get_or l i no_session).number (take n numbers) ≡ false
      twice d =
          let v = (get_or l i no_session).number in
          let c = (w.having v k).same in
          let b : count (has_number v) (drop i l) ≡ 1 + count (has_number v) (drop (i + 1) l) = turn (count (has_number v)) l i no_session within ∙ rw (eq-eqb v v refl) in
          let a : count (has_number v) l ≤ 1 = rw (sym (count_map (is_number v) (λ s. s.number) l)) (distinct_count (numbers_of l) d v k) in
          none_count (is_number v) (take n numbers) (omega (arith, a, b, c))

      -- a session that is not seated, or on no live stream, or whose number came before
      pub seating_not : (bytes size : ℕ) → not r ≡ true → None ≡ seats_of clock bytes size feeds l
      seating_not bytes size q =
          ill clock bytes size feeds l (λ d f p. never
          (both (rw not_free at (passed (is_proper clock) w.proper p)) (both (rw not_free at (passed (is_homed feeds) w.homed f)) (rw (twice d))))
          (failed e q))
        where
          passed : (t : Session → Bool) → Passing t l i → all t l ≡ true → t (get_or l i no_session) ≡ true
          passed t s y = (and_both (t (get_or l i no_session)) _ (sym (turn (all t) l i no_session within) ∙ s.same ∙ y)).0

      module _ (q : not r ≡ false) where
        seated : is_seated clock (get_or l i no_session) ≡ true
        seated = (and_both (is_seated clock (get_or l i no_session)) _ (held e q)).0

        home : (not (is_zero (get_or feeds (get_or l i no_session).stream 0)) ≡ true) × (not (is_among (get_or l i no_session).number (take n numbers)) ≡ true)
        home = and_both (not (is_zero (get_or feeds (get_or l i no_session).stream 0))) (not (is_among (get_or l i no_session).number (take n numbers))) (and_both (is_seated clock (get_or l i no_session)) _ (held e q)).1

        pub seating_id : length feeds ≡ 9 → (get_or l i no_session).stream < 9
        seating_id f = live_id feeds _ f home.0

        pub seating_owner : (get_or l i no_session).owner ≤ 1
        seating_owner = seated_owner clock (get_or l i no_session) seated

        pub seating_more : {m : ℕ} → length feeds ≡ 9 → m ≡ min old (get_or l i no_session).last → Seating clock feeds l (i + 1) (set numbers n (get_or l i no_session).number) (set owners (get_or l i no_session).stream (get_or owners (get_or l i no_session).stream 0 + (get_or l i no_session).owner)) (n + 1) m
        seating_more {m} size since =
            let v = (get_or l i no_session).number in
            let new : count (is_number v) (take n numbers) ≡ 0 = count_none (is_number v) (take n numbers) (not-true _ home.1) in
            record {
              places = w.places;
              room = length-set numbers _ _ ∙ w.room;
              ids = length-set owners _ _ ∙ w.ids;
              most = omega (arith, w.most);
              proper = passing_more (is_proper clock) no_session w.proper within refl (rw not_free seated);
              homed = passing_more (is_homed feeds) no_session w.homed within refl (rw not_free home.0);
              opened = counting_by is_open no_session w.opened within (rw not_free);
              owned = λ id t. counting_by (owns id) no_session (w.owned id t) within (tally id t (sames id (get_or l i no_session).stream));
              having = λ m t. counting_by (has_number m) no_session (w.having m t) within (packed m);
              once = λ m t. omega (arith, packed m, first m (w.once m t) new (case (eqb v m)));
              behind = zeros_after numbers n v w.behind;
              young = omega (arith, since, w.young);
              since =
                  let x : oldest (drop i l) ≡ min (get_or l i no_session).last (oldest (drop (i + 1) l)) = turn oldest l i no_session within ∙ rw not_free in
                  omega (arith, x, since, w.since);
            }
          where
            packed : (m : ℕ) → count (is_number m) (take (n + 1) (set numbers n (get_or l i no_session).number)) ≡ count (is_number m) (take n numbers) + bit (eqb (get_or l i no_session).number m)
            packed m = count_packed (is_number m) numbers n (get_or l i no_session).number (omega (arith, w.room, w.most))

            tally : (id : ℕ) → id < 9 → Same id (get_or l i no_session).stream → get_or (set owners (get_or l i no_session).stream (get_or owners (get_or l i no_session).stream 0 + (get_or l i no_session).owner)) id 0 ≡ get_or owners id 0 + bit (owns id (get_or l i no_session))
            tally id t (same x) =
                rw (owns_more id (get_or l i no_session) k seating_owner (sym x), x)
                (get_or-set_same owners (get_or l i no_session).stream (get_or owners (get_or l i no_session).stream 0 + (get_or l i no_session).owner) 0 (omega (arith, w.ids, live_id feeds _ size home.0)))
            tally id t (other x) =
                omega (arith, get_or-set_other owners (get_or l i no_session).stream id (get_or owners (get_or l i no_session).stream 0 + (get_or l i no_session).owner) 0 x, bit_no (owns_other id (get_or l i no_session) (λ q. x (sym q))))

            first : (m : ℕ) → count (is_number m) (take n numbers) ≤ 1 → count (is_number (get_or l i no_session).number) (take n numbers) ≡ 0 → Case (eqb (get_or l i no_session).number m) → count (is_number m) (take n numbers) + bit (eqb (get_or l i no_session).number m) ≤ 1
            first m t new (isnt x) = omega (arith, bit_no x)
            first m t new (is x) =
                let none : count (is_number m) (take n numbers) ≡ 0 = ap (λ j. count (is_number j) (take n numbers)) (sym (eqb-true _ m x)) ∙ new in
                omega (arith, bit_yes x)

-- where nobody is from place i on, the walk may end there
rest_vacant : (l : List Session) (last i : ℕ) → last ≤ i → all is_vacant (drop last l) ≡ true → all is_vacant (drop i l) ≡ true
rest_vacant l zero zero h v = v
rest_vacant [] zero (suc i) h v = refl
rest_vacant (s ∷ l) zero (suc i) h v = rest_vacant l zero i (omega arith) (and_both (is_vacant s) (all is_vacant l) v).1
rest_vacant l (suc last) zero h v = absurd (omega arith)
rest_vacant [] (suc last) (suc i) h v = refl
rest_vacant (s ∷ l) (suc last) (suc i) h v = rest_vacant l last i (omega arith) v

rest : {clock : ℕ} {feeds : List ℕ} {l : List Session} {numbers owners : List ℕ} {n old : ℕ} (k i : ℕ) → i + k ≡ 32 → all is_vacant (drop i l) ≡ true → Seating clock feeds l i numbers owners n old → Seating clock feeds l 32 numbers owners n old
rest {clock} {feeds} {l} {numbers} {owners} {n} {old} zero i e v w = let z : i ≡ 32 = omega arith in subst (λ j. Seating clock feeds l j numbers owners n old) z w
rest {l = l} (suc k) i e v w =
    let t : i < 32 = omega arith in
    let b = and_both (is_vacant (get_or l i no_session)) (all is_vacant (drop (i + 1) l)) (sym (turn (all is_vacant) l i no_session (omega (arith, w.places))) ∙ v) in
    rest k (i + 1) (omega arith) b.1 (seating_free w t b.0)

module _ {clock : ℕ} {feeds : List ℕ} {l : List Session} {i n old : ℕ} {numbers owners : List ℕ} (last : ℕ) (vacant : all is_vacant (drop last l) ≡ true) (w : Seating clock feeds l i numbers owners n old) (h : last ≤ i) where
  all_places : Seating clock feeds l 32 numbers owners n old
  all_places = rest (32 - i) i (omega (arith, w.opened.inside, w.places)) (rest_vacant l last i h vacant) w

  past : length l ≤ 32
  past = omega (arith, w.places)

  pub seated_most : n ≤ 32
  seated_most = omega (arith, all_places.most)

  pub seated_owned : Tallied l owners
  seated_owned id k = counting_end (owns id) (all_places.owned id k) past

  -- where all that was walked over is right, the journal's room decides
  decides : (bytes size : ℕ) → (eqb (bytes % 16) 0 && leb (bytes + 16 * n) size) ≡ are_seated clock bytes size feeds l
  decides bytes size =
      let w = all_places in
      let d = count_distinct (numbers_of l) (λ m z. rw (count_map (is_number m) (λ s. s.number) l) (omega (arith, counting_end (has_number m) (w.having m z) past, w.once m z))) in
      rw (d, sym (passing_end (is_homed feeds) w.homed past), sym (passing_end (is_proper clock) w.proper past), sym (counting_end is_open w.opened past))

  module _ (bytes size : ℕ) {r : Bool} (e : r ≡ (eqb (bytes % 16) 0 && leb (bytes + 16 * n) size)) where
    pub seated_well : not r ≡ false → Some old ≡ seats_of clock bytes size feeds l
    seated_well q =
        let x = end oldest l 32 past in
        let o : old ≡ oldest l = omega (arith, x, all_places.since, all_places.young) in
        rw (sym (decides bytes size) ∙ held e q, o)

    pub seated_ill : not r ≡ true → None ≡ seats_of clock bytes size feeds l
    seated_ill q = rw (sym (decides bytes size) ∙ failed e q)
