-- What each change of the sessions and the streams does to their rules: of the lists alone, with no table and no journal. Assumes nothing.
use mathlib.Core.Path.{◌≡◌, refl, sym, ◌∙◌, ap}
use mathlib.Core.Bool.{Bool, true, false, ◌&&◌, and-false}
use mathlib.Core.List.{List, ◌∷◌, map}
use Prim.Native.Nat.{ℕ, zero, suc, ◌+◌, ◌%◌, ◌≤◌, ◌<◌}
use native.Mathlib.Omega.{arith}
use lib.Dec.{eqb, leb}
use lib.ListN.{length, get_or, set}
use lib.Seq.{get_or-set_other, get_or-set_same}
use borrow.Author.Tests.{ne_eqb, eq-eqb, eqb-true, eqb-false, not-true, leb-true, le-leb}
use Rattle.scan.specs.Lists.{is_between}
use Rattle.scan.proofs.Bools.{never, and_both, Case, is, isnt, case, Same, same, other, sames, both}
use Rattle.stream.specs.Streams.{no_stream, past_stream, is_sound, are_zero}
use Rattle.stream.specs.declared.Stream.{Stream}
use Rattle.stream.specs.Values.{are_none}
use Rattle.table.specs.Table.{count, no_session, has_number, is_free, is_open, with_stream, is_on, owns}
use Rattle.table.proofs.Counts.{bit, bit_no, bit_yes, count_le, count_set, count_zero_at, count_set_le, count_set_same, cleared, count_cleared_le, count_cleared_same, count_cleared_none, all_cleared, once_set, get_or_set_all, get_or_set_alike, get_or_set_here}
use Rattle.table.proofs.Ids.{stream_in}
use Rattle.table.specs.Formed.{is_placed, is_seated, is_blank}
use Rattle.table.proofs.Rules.{is_proper, fed, Seats, Rows, AreProper, past_placed}
use Rattle.table.specs.declared.Session.{Session}
use Rattle.table.specs.declared.Settings.{Settings}

-- a session on the stream of an ID, made none
abbrev pub clear : ℕ → Session → Session
clear k = cleared (is_on k) no_session

zero_ne : (n : ℕ) → (n ≡ 0 → ⊥) → eqb 0 n ≡ false
zero_ne n h = ne_eqb 0 n (λ q. h (sym q))

and_weaker : (x y z : Bool) → (y ≡ true → z ≡ true) → x && y ≡ true → x && z ≡ true
and_weaker x y z h e = let q = and_both x y e in both q.0 (h q.1)

-- an open session has a number
pub opened : (s : Session) → is_open s ≡ true → s.number ≡ 0 → ⊥
opened s e = eqb-false _ _ (not-true _ e)

-- one that owns nothing
owns_none : (k : ℕ) (s : Session) → s.owner ≡ 0 → owns k s ≡ false
owns_none k s e = rw (e, and-false (is_on k s))

-- s is on no stream but its own
off : (k : ℕ) (s : Session) → (s.stream ≡ k → ⊥) → is_on k s ≡ false
off k s h = rw (ne_eqb s.stream k h, and-false (is_open s))

owns_on : (k : ℕ) (s : Session) → owns k s ≡ true → is_on k s ≡ true
owns_on k s e = (and_both (is_on k s) _ e).0

owns_not : (k : ℕ) (s : Session) → is_on k s ≡ false → Case (owns k s) → owns k s ≡ false
owns_not k s e (is z) = never (owns_on k s z) e
owns_not k s e (isnt z) = z

-- who owns l is not on another stream
owns_off : (k l : ℕ) → (l ≡ k → ⊥) → (s : Session) → owns l s ≡ true → is_on k s ≡ false
owns_off k l h s e = off k s (λ q. h (sym (eqb-true _ _ (and_both (is_open s) _ (owns_on l s e)).1) ∙ q))

module _ (l : List Session) (m : List Stream) (r : Seats l m) where
  -- ONE THAT OWNS NOTHING GOES
  pub seats_freed : (i : ℕ) → (get_or l i no_session).owner ≡ 0 → Seats (set l i no_session) m
  seats_freed i own =
      record {
        numbers = λ n g. omega (arith, count_set_le (has_number n) l i no_session, bit_no (zero_ne n g), r.numbers n g);
        homes = λ k g. omega (arith, count_set_le (is_on k) l i no_session, r.homes k g);
        owners = λ k g. count_set_same (owns k) l i no_session no_session (sym (owns_none k (get_or l i no_session) own)) ∙ r.owners k g;
      }

  -- an open session's stream is live
  pub seated_live : (i : ℕ) → ((get_or l i no_session).number ≡ 0 → ⊥) → (get_or m (get_or l i no_session).stream past_stream).frontend ≡ 0 → ⊥
  seated_live i some dead =
      let s = get_or l i no_session in
      never (rw (ne_eqb s.number 0 some, eq-eqb s.stream s.stream refl)) (count_zero_at (is_on s.stream) l i no_session refl (r.homes s.stream dead))

  -- A STREAM GOES, AND ALL THAT IS ON IT
  module _ (k : ℕ) where
    less : (p : Session → Bool) → p no_session ≡ false → count p (map (clear k) l) ≤ count p l
    less p h = count_cleared_le (is_on k) no_session p h l

    stays : (j : ℕ) → (j ≡ k → ⊥) → get_or (set m k no_stream) j past_stream ≡ get_or m j past_stream
    stays j h = get_or-set_other m k j no_stream past_stream h

    homes_emptied : (j : ℕ) → (get_or (set m k no_stream) j past_stream).frontend ≡ 0 → Same j k → count (is_on j) (map (clear k) l) ≡ 0
    homes_emptied j h (same q) = rw q (count_cleared_none (is_on k) no_session refl l)
    homes_emptied j h (other q) = omega (arith, less (is_on j) refl, r.homes j (rw (stays j q) at h))

    owners_emptied : (j : ℕ) → ((get_or (set m k no_stream) j past_stream).frontend ≡ 0 → ⊥) → Same j k → count (owns j) (map (clear k) l) ≡ 1
    owners_emptied j h (same q) = absurd (h (rw q (get_or_set_here (λ x. x.frontend ≡ 0) m k no_stream past_stream refl refl)))
    owners_emptied j h (other q) =
        count_cleared_same (is_on k) no_session (owns j) refl (owns_off k j q) l ∙ r.owners j (rw (stays j q) at h)

    pub seats_emptied : Seats (map (clear k) l) (set m k no_stream)
    seats_emptied =
        record {
          numbers = λ n h. omega (arith, less (has_number n) (zero_ne n h), r.numbers n h);
          homes = λ j h. homes_emptied j h (sames j k);
          owners = λ j h. owners_emptied j h (sames j k);
        }

  -- ONE COMES TO A FREE PLACE, with a number that nobody has
  module _ (i : ℕ) (s : Session) (h : i < length l) (free : (get_or l i no_session).number ≡ 0) (new : count (has_number s.number) l ≡ 0) where
    owns_seated : (k : ℕ) → count (owns k) (set l i s) ≡ count (owns k) l + bit (owns k s)
    owns_seated k =
        let none : owns k (get_or l i no_session) ≡ false = rw free in
        omega (arith, count_set (owns k) l i s no_session h, bit_no none)

    on_seated : (k : ℕ) → (s.stream ≡ k → ⊥) → count (is_on k) l ≡ 0 → count (is_on k) (set l i s) ≡ 0
    on_seated k g e = omega (arith, count_set_le (is_on k) l i s, bit_no (off k s g))

    -- and joins a stream that is live
    pub seats_joined : s.owner ≡ 0 → ((get_or m s.stream past_stream).frontend ≡ 0 → ⊥) → Seats (set l i s) m
    seats_joined own live =
        record {
          numbers = once_set (λ x. x.number) l i s r.numbers new;
          homes = λ k g. on_seated k (λ q. live (ap (λ j. (get_or m j past_stream).frontend) q ∙ g)) (r.homes k g);
          owners = λ k g. omega (arith, owns_seated k, bit_no (owns_none k s own), r.owners k g);
        }

    -- and owns a stream that was not live and is now x
    module _ (x : Stream) (some : s.number ≡ 0 → ⊥) (own : s.owner ≡ 0 → ⊥) (live : x.frontend ≡ 0 → ⊥) (row : s.stream < length m) (dead : (get_or m s.stream past_stream).frontend ≡ 0) where
      others : (k : ℕ) → (s.stream ≡ k → ⊥) → get_or (set m s.stream x) k past_stream ≡ get_or m k past_stream
      others k g = get_or-set_other m s.stream k x past_stream (λ q. g (sym q))

      homes_opened : (k : ℕ) → (get_or (set m s.stream x) k past_stream).frontend ≡ 0 → Same s.stream k → count (is_on k) (set l i s) ≡ 0
      homes_opened k g (same q) = absurd (live (rw (← q, get_or-set_same m s.stream x past_stream row) at g))
      homes_opened k g (other q) = on_seated k q (r.homes k (rw (others k q) at g))

      owners_opened : (k : ℕ) → ((get_or (set m s.stream x) k past_stream).frontend ≡ 0 → ⊥) → Same s.stream k → count (owns k) (set l i s) ≡ 1
      owners_opened k g (same q) =
          let none : count (is_on k) l ≡ 0 = r.homes k (ap (λ j. (get_or m j past_stream).frontend) (sym q) ∙ dead) in
          let mine : owns k s ≡ true = rw (ne_eqb s.number 0 some, eq-eqb s.stream k q, ne_eqb s.owner 0 own) in
          omega (arith, owns_seated k, count_le (is_on k) (owns k) (owns_on k) l, bit_yes mine)
      owners_opened k g (other q) =
          omega (arith, owns_seated k, bit_no (owns_not k s (off k s q) (case (owns k s))), r.owners k (rw (others k q) at g))

      pub seats_opened : Seats (set l i s) (set m s.stream x)
      seats_opened =
          record {
            numbers = once_set (λ y. y.number) l i s r.numbers new;
            homes = λ k g. homes_opened k g (sames s.stream k);
            owners = λ k g. owners_opened k g (sames s.stream k);
          }

  -- ONE CHANGES, but keeps its number, its stream and its part
  pub seats_alike : (i : ℕ) (s : Session) → s.number ≡ (get_or l i no_session).number → s.stream ≡ (get_or l i no_session).stream → s.owner ≡ (get_or l i no_session).owner → Seats (set l i s) m
  seats_alike i s a b c =
      record {
        numbers = λ n g. rw (count_set_same (has_number n) l i s no_session (rw a)) (r.numbers n g);
        homes = λ k g. count_set_same (is_on k) l i s no_session (rw (a, b)) ∙ r.homes k g;
        owners = λ k g. count_set_same (owns k) l i s no_session (rw (a, b, c)) ∙ r.owners k g;
      }

  -- A STREAM CHANGES, but keeps its frontend
  pub seats_fed : (k : ℕ) (x : Stream) → x.frontend ≡ (get_or m k past_stream).frontend → Seats l (set m k x)
  seats_fed k x e =
      let at : (j : ℕ) → (get_or (set m k x) j past_stream).frontend ≡ (get_or m j past_stream).frontend = λ j. get_or_set_alike (λ y. y.frontend) m k j x past_stream e in
      record { numbers = r.numbers; homes = λ j g. r.homes j (sym (at j) ∙ g); owners = λ j g. r.owners j (λ q. g (at j ∙ q)) }

-- the streams by their IDs, with another one of an ID
pub by_id : (ms : List Stream) (k : ℕ) (x : Stream) → (k ≡ 0 → ⊥) → past_stream ∷ with_stream k x ms ≡ set (past_stream ∷ ms) k x
by_id ms zero x h = absurd (h refl)
by_id ms (suc k) x h = refl

-- and so it is not 0
pub seated_id : (l : List Session) (ms : List Stream) → Seats l (past_stream ∷ ms) → (i : ℕ) → ((get_or l i no_session).number ≡ 0 → ⊥) → (get_or l i no_session).stream ≡ 0 → ⊥
seated_id l ms r i some q = seated_live l (past_stream ∷ ms) r i some (ap (λ k. (stream_in ms k).frontend) q)

pub none_placed : (s : Settings) → is_placed s no_stream ≡ true
unfolding is_sound are_zero are_none
none_placed s = refl

module _ (s : Settings) (ms : List Stream) (r : Rows s ms) where
  placed_with : (id : ℕ) (x : Stream) → is_placed s x ≡ true → (k : ℕ) → is_placed s (get_or (with_stream id x ms) k past_stream) ≡ true
  placed_with zero x good k = r.placed k
  placed_with (suc i) x good k = get_or_set_all (λ y. is_placed s y ≡ true) ms i k x past_stream good (r.placed k)

  -- the stream of every ID
  pub placed_at : (id : ℕ) → is_placed s (stream_in ms id) ≡ true
  placed_at zero = past_placed s
  placed_at (suc k) = r.placed k

  -- A STREAM GOES
  pub rows_freed : (id : ℕ) → Rows s (with_stream id no_stream ms)
  rows_freed zero = r
  rows_freed (suc k) =
      record {
        feeds = λ f h. omega (arith, count_set_le (fed f) ms k no_stream, bit_no (zero_ne f h), r.feeds f h);
        placed = placed_with (suc k) no_stream (none_placed s);
      }

  -- A STREAM COMES, with a frontend that no other has
  pub rows_opened : (id : ℕ) (x : Stream) → is_placed s x ≡ true → count (fed x.frontend) ms ≡ 0 → Rows s (with_stream id x ms)
  rows_opened zero x good new = r
  rows_opened (suc k) x good new =
      record { feeds = once_set (λ y. y.frontend) ms k x r.feeds new; placed = placed_with (suc k) x good }

  -- A STREAM CHANGES, but keeps its frontend
  pub rows_fed : (id : ℕ) (x : Stream) → is_placed s x ≡ true → x.frontend ≡ (stream_in ms id).frontend → Rows s (with_stream id x ms)
  rows_fed zero x good e = r
  rows_fed (suc k) x good e =
      record {
        feeds = λ f h. rw (count_set_same (fed f) ms k x past_stream (rw e)) (r.feeds f h);
        placed = placed_with (suc k) x good;
      }

pub none_proper : (clock : ℕ) → is_proper clock no_session ≡ true
unfolding is_blank
none_proper clock = refl

module _ (clock : ℕ) (l : List Session) (r : AreProper clock l) where
  pub proper_set : (i : ℕ) (s : Session) → is_proper clock s ≡ true → AreProper clock (set l i s)
  proper_set i s h j = get_or_set_all (λ x. is_proper clock x ≡ true) l i j s no_session h (r j)

  pub proper_cleared : (k : ℕ) → AreProper clock (map (clear k) l)
  proper_cleared k = all_cleared (is_on k) no_session (λ x. is_proper clock x ≡ true) l no_session (none_proper clock) (none_proper clock) r

  -- a later clock
  later_by : (later : ℕ) → clock ≤ later → (s : Session) → Case (is_free s) → is_proper clock s ≡ true → is_proper later s ≡ true
  unfolding is_seated
  later_by later h s (is z) e = rw z (rw z at e)
  later_by later h s (isnt z) e =
      rw z (and_weaker (is_between 1024 65534 s.port && eqb (s.port % 2) 0 && leb s.owner 1 && leb s.playing 1) (leb s.last clock) (leb s.last later) (λ y. le-leb s.last later (omega (arith, leb-true s.last clock y))) (rw z at e))

  pub proper_later : (later : ℕ) → clock ≤ later → AreProper later l
  proper_later later h i = later_by later h (get_or l i no_session) (case _) (r i)
