-- The rules of a well-formed table as counts over its two lists, from the test that computes them and back. A rule that is a count is kept
-- by a change in one line. Assumes nothing.
use mathlib.Core.Path.{◌≡◌, refl, sym, ◌∙◌, ap}
use mathlib.Core.Bool.{Bool, true, false, cond, ◌||◌}
use mathlib.Core.List.{List, [], ◌∷◌, map}
use Prim.Native.Nat.{ℕ, zero, suc, ◌+◌, ◌*◌, ◌%◌, ◌≤◌}
use native.Mathlib.Omega.{arith}
use lib.Dec.{eqb}
use lib.ListN.{get_or}
use borrow.Author.Tests.{ne_eqb, eq-eqb, eqb-true, eqb-false, not-true, leb-true, le-leb}
use Rattle.scan.specs.Lists.{all}
use Rattle.scan.proofs.Bools.{never, and_both, Case, is, isnt, case, both, or_second}
use Rattle.stream.specs.Values.{are_none}
use Rattle.stream.specs.Streams.{past_stream, is_sound, are_zero}
use Rattle.stream.specs.declared.Stream.{Stream}
use Rattle.table.specs.Table.{count, are_distinct, no_session, has_number, is_free, open_count, stream_of, is_dead, is_live, is_on, owns}
use Rattle.table.specs.Formed.{are_settings, is_placed, are_owned, is_seated, is_blank, well_formed}
use Rattle.table.specs.declared.Session.{Session}
use Rattle.table.specs.declared.Settings.{Settings}
use Rattle.table.specs.declared.SatBox.{SatBox}
use Rattle.table.proofs.Counts.{all_at, at_all, all_count, count_map, count_zero_at, distinct_count, count_distinct, is_number}

-- the rules by names
abbrev pub numbers_of : List Session → List ℕ
numbers_of l = map (λ s. s.number) l

abbrev pub frontends_of : List Stream → List ℕ
frontends_of ms = map (λ m. m.frontend) ms

abbrev pub is_housed : SatBox → Session → Bool
is_housed t s = is_free s || is_live (stream_of t s.stream)

abbrev pub is_proper : ℕ → Session → Bool
is_proper clock s = cond (is_free s) (is_blank s) (is_seated clock s)

-- a stream has a frontend
abbrev pub fed : ℕ → Stream → Bool
fed f m = eqb m.frontend f

-- the rules of the sessions l, where the streams by their IDs are ms; at 0 there is none
pub record Seats (l : List Session) (ms : List Stream) : Type 0 where
  pub numbers : (n : ℕ) → (n ≡ 0 → ⊥) → count (has_number n) l ≤ 1
  pub homes : (k : ℕ) → (get_or ms k past_stream).frontend ≡ 0 → count (is_on k) l ≡ 0
  pub owners : (k : ℕ) → ((get_or ms k past_stream).frontend ≡ 0 → ⊥) → count (owns k) l ≡ 1

-- the rules of the streams on a box with these settings
pub record Rows (s : Settings) (ms : List Stream) : Type 0 where
  pub feeds : (f : ℕ) → (f ≡ 0 → ⊥) → count (fed f) ms ≤ 1
  pub placed : (k : ℕ) → is_placed s (get_or ms k past_stream) ≡ true

pub past_placed : (s : Settings) → is_placed s past_stream ≡ true
unfolding is_sound are_zero are_none
past_placed s = refl

-- of a stream's place, what holds by itself
pub placed_sound : (s : Settings) (m : Stream) → is_placed s m ≡ true → is_sound s.frontends m ≡ true
placed_sound s m e = (and_both (is_sound s.frontends m) _ e).0

-- the rules of the sessions' own values
abbrev pub AreProper : ℕ → List Session → Type 0
AreProper clock l = (i : ℕ) → is_proper clock (get_or l i no_session) ≡ true

-- the rules of a journal of which `held` bytes of `size` are held, where n sessions are open
pub record Fits (held size n : ℕ) : Type 0 where
  pub whole : held % 16 ≡ 0
  pub bound : held + 16 * n ≤ size

pub record WellFormed (t : SatBox) : Type 0 where
  pub settings : are_settings t.settings ≡ true
  pub seats : Seats t.sessions (past_stream ∷ t.streams)
  pub rows : Rows t.settings t.streams
  pub proper : AreProper t.clock t.sessions
  pub fits : Fits t.held t.settings.size (open_count t)

-- an open session of a live stream is on no dead one, and one that is on no dead stream is housed
housed_off : (t : SatBox) (k : ℕ) → (stream_of t k).frontend ≡ 0 → (s : Session) → is_housed t s ≡ true → Case (is_free s) → Case (eqb s.stream k) → is_on k s ≡ false
housed_off t k dead s e (is z) c = rw z
housed_off t k dead s e (isnt z) (isnt y) = rw (z, y)
housed_off t k dead s e (isnt z) (is y) =
    absurd (eqb-false _ _ (not-true _ (or_second _ _ e z)) (ap (λ i. (stream_of t i).frontend) (eqb-true s.stream k y) ∙ dead))

off_housed : (t : SatBox) (s : Session) → ((stream_of t s.stream).frontend ≡ 0 → is_on s.stream s ≡ false) → Case (is_free s) → Case (is_dead (stream_of t s.stream)) → is_housed t s ≡ true
off_housed t s h (is z) c = rw z
off_housed t s h (isnt z) (isnt y) = rw (z, y)
off_housed t s h (isnt z) (is y) = never (rw (z, eq-eqb s.stream s.stream refl)) (h (eqb-true _ _ y))

-- a live stream's owners, by the ID that it has where the first has `id`
owned_one : (l : List Session) (id : ℕ) (ms : List Stream) → are_owned l id ms ≡ true → (k : ℕ) → ((get_or ms k past_stream).frontend ≡ 0 → ⊥) → count (owns (id + k)) l ≡ 1
owned_one l id [] e k h = absurd (h refl)
owned_one l id (m ∷ ms) e zero h =
    let n : id + 0 ≡ id = omega arith in
    rw n (eqb-true _ _ (or_second _ _ (and_both _ (are_owned l (suc id) ms) e).0 (ne_eqb _ _ h)))
owned_one l id (m ∷ ms) e (suc k) h =
    let n : id + suc k ≡ suc id + k = omega arith in
    rw n (owned_one l (suc id) ms (and_both (is_dead m || eqb (count (owns id) l) 1) _ e).1 k h)

one_step : (l : List Session) (id : ℕ) (m : Stream) → ((m.frontend ≡ 0 → ⊥) → count (owns id) l ≡ 1) → Case (is_dead m) → is_dead m || eqb (count (owns id) l) 1 ≡ true
one_step l id m h (is z) = rw z
one_step l id m h (isnt z) = rw (z, eq-eqb _ _ (h (eqb-false _ _ z)))

one_owned : (l : List Session) (id : ℕ) (ms : List Stream) → ((k : ℕ) → ((get_or ms k past_stream).frontend ≡ 0 → ⊥) → count (owns (id + k)) l ≡ 1) → are_owned l id ms ≡ true
one_owned l id [] h = refl
one_owned l id (m ∷ ms) h =
    let n : id + 0 ≡ id = omega arith in
    both (one_step l id m (λ g. rw n at (h 0 g)) (case (is_dead m)))
    (one_owned l (suc id) ms (λ k g. let n : id + suc k ≡ suc id + k = omega arith in rw n at (h (suc k) g)))

module _ (t : SatBox) where
  owners_of : are_owned t.sessions 1 t.streams ≡ true → (k : ℕ) → ((stream_of t k).frontend ≡ 0 → ⊥) → count (owns k) t.sessions ≡ 1
  owners_of e zero h = absurd (h refl)
  owners_of e (suc k) h = let n : 1 + k ≡ suc k = omega arith in rw n at (owned_one t.sessions 1 t.streams e k h)

  pub formed : well_formed t ≡ true → WellFormed t
  unfolding well_formed
  formed e =
      let a = and_both (are_settings t.settings) _ e in
      let b = and_both (are_distinct (numbers_of t.sessions)) _ a.1 in
      let c = and_both (all (is_housed t) t.sessions) _ b.1 in
      let d = and_both (are_owned t.sessions 1 t.streams) _ c.1 in
      let f = and_both (are_distinct (frontends_of t.streams)) _ d.1 in
      let g = and_both (all (is_placed t.settings) t.streams) _ f.1 in
      let h = and_both (all (is_proper t.clock) t.sessions) _ g.1 in
      let i = and_both (eqb (t.held % 16) 0) _ h.1 in
      record {
        settings = a.0;
        seats =
            record {
              numbers = λ n z. rw (sym (count_map (is_number n) (λ s. s.number) t.sessions)) (distinct_count (numbers_of t.sessions) b.0 n z);
              homes = λ k z. all_count (is_housed t) (is_on k) (λ s y. housed_off t k z s y (case _) (case _)) t.sessions c.0;
              owners = owners_of d.0;
            };
        rows =
            record {
              feeds = λ n z. rw (sym (count_map (is_number n) (λ m. m.frontend) t.streams)) (distinct_count (frontends_of t.streams) f.0 n z);
              placed = λ k. all_at (is_placed t.settings) t.streams k past_stream (past_placed t.settings) g.0;
            };
        proper = λ k. all_at (is_proper t.clock) t.sessions k no_session (unfold is_blank in refl) h.0;
        fits = record { whole = eqb-true _ _ i.0; bound = leb-true _ _ i.1 };
      }

  pub formed_back : WellFormed t → well_formed t ≡ true
  unfolding well_formed
  formed_back r =
      both r.settings
      (both (count_distinct (numbers_of t.sessions) (λ n z. rw (count_map (is_number n) (λ s. s.number) t.sessions) (r.seats.numbers n z)))
      (both (at_all (is_housed t) t.sessions no_session (λ i. off_housed t (get_or t.sessions i no_session) (λ dead. count_zero_at (is_on (get_or t.sessions i no_session).stream) t.sessions i no_session refl (r.seats.homes _ dead)) (case _) (case _)))
      (both (one_owned t.sessions 1 t.streams (λ k h. let n : 1 + k ≡ suc k = omega arith in rw n (r.seats.owners (suc k) h)))
      (both (count_distinct (frontends_of t.streams) (λ n z. rw (count_map (is_number n) (λ m. m.frontend) t.streams) (r.rows.feeds n z)))
      (both (at_all (is_placed t.settings) t.streams past_stream r.rows.placed)
      (both (at_all (is_proper t.clock) t.sessions no_session r.proper)
      (both (eq-eqb _ _ r.fits.whole) (le-leb _ _ r.fits.bound))))))))
