-- The table where the session that a request names is kept (order 3 of document 02): it is the one that was, but for that session's last time; it is
-- well formed, and what is then done to the session is the same on both. Assumes nothing.
use mathlib.Core.Path.{◌≡◌, refl, ◌∙◌}
use mathlib.Core.Bool.{Bool, true, false, ◌&&◌}
use mathlib.Core.List.{List, [], ◌∷◌}
use Prim.Native.Nat.{ℕ, zero, suc, ◌%◌, ◌<◌}
use native.Mathlib.Omega.{arith}
use lib.Dec.{eqb, leb}
use lib.ListN.{get_or, set, length-set}
use lib.Seq.{set-set}
use borrow.Author.Tests.{ne_eqb, le-leb, lt-ltb, ltb-true}
use Rattle.scan.specs.Lists.{first, is_between}
use Rattle.scan.proofs.Bools.{and_both, cond_keeps}
use Rattle.reader.specs.declared.fields.Session.{Session as Sent}
use Rattle.stream.specs.Streams.{past_stream}
use Rattle.stream.specs.declared.Stream.{Stream}
use Rattle.table.specs.Table.{no_session, has_number, is_open, session_at}
use Rattle.table.specs.Formed.{is_seated}
use Rattle.table.proofs.Rules.{is_proper}
use Rattle.table.specs.declared.Session.{Session}
use Rattle.table.specs.declared.SatBox.{SatBox}
use Rattle.table.proofs.Counts.{count_set_same, get_or_set_alike}
use Rattle.table.proofs.Changes.{seats_alike, proper_set}
use Rattle.steps.specs.Sights.{Asked, place_named, session_number, sight_of}
use Rattle.steps.specs.Steps.{is_named}
use Rattle.closings.specs.Closing.{restreamed, reseated, noting, close_one, closing}
use Rattle.closings.proofs.Keeping.{Whole}
use Rattle.serving.specs.Serving.{with_session, refreshed, kept}
use Rattle.serving.proofs.Passing.{named_closable}

-- A SESSION IS CHANGED in its place, and keeps its number, its stream, and whether it owns it: the table stays well formed (`Whole`)
pub record Alike (s u : Session) : Type 0 where
  pub number : s.number ≡ u.number
  pub stream : s.stream ≡ u.stream
  pub owner : s.owner ≡ u.owner

pub replaced_whole : (place : ℕ) (s : Session) (t : SatBox) → Whole t → Alike s (session_at t place) → is_proper t.clock s ≡ true → Whole (with_session place s t)
unfolding with_session
replaced_whole place s t w k good =
    let n = count_set_same is_open t.sessions place s no_session (rw k.number) in
    record {
      formed =
          record {
            settings = w.formed.settings;
            seats =
                seats_alike t.sessions (past_stream ∷ t.streams) w.formed.seats place s k.number k.stream k.owner;
            rows = w.formed.rows;
            proper = proper_set t.clock t.sessions w.formed.proper place s good;
            fits = record { whole = w.formed.fits.whole; bound = rw n w.formed.fits.bound };
          };
      places = length-set t.sessions place s ∙ w.places;
      rows = w.rows;
    }

-- step 15: "a even, 1024 to 65534"
abbrev pub is_port : ℕ → Bool
is_port p = is_between 1024 65534 p && eqb (p % 2) 0

-- what "well formed" asks of an open session's own values
pub record Seated (clock : ℕ) (s : Session) : Type 0 where
  pub port : is_port s.port ≡ true
  pub owner : leb s.owner 1 ≡ true
  pub playing : leb s.playing 1 ≡ true
  pub last : leb s.last clock ≡ true

pub seated : (clock : ℕ) (s : Session) → (s.number ≡ 0 → ⊥) → is_proper clock s ≡ true → Seated clock s
unfolding is_seated
seated clock s some e =
    let a = and_both _ (leb s.last clock) (rw (ne_eqb s.number 0 some) at e) in
    let b = and_both _ (leb s.playing 1) a.0 in
    let c = and_both _ (leb s.owner 1) b.0 in
    record { port = c.0; owner = c.1; playing = b.1; last = a.1 }

pub proper : (clock : ℕ) (s : Session) → (s.number ≡ 0 → ⊥) → Seated clock s → is_proper clock s ≡ true
unfolding is_seated
proper clock s some p = rw (ne_eqb s.number 0 some, p.port, p.owner, p.playing, p.last)

refreshed_whole : (place : ℕ) (t : SatBox) → Whole t → ((session_at t place).number ≡ 0 → ⊥) → Whole (with_session place (refreshed t.clock (session_at t place)) t)
refreshed_whole place t w some =
    let s = refreshed t.clock (session_at t place) in
    let v = seated t.clock (session_at t place) some (w.formed.proper place) in
    replaced_whole place s t w (record { number = refl; stream = refl; owner = refl })
    (proper t.clock s some (record { port = v.port; owner = v.owner; playing = v.playing; last = le-leb t.clock t.clock (omega arith) }))

-- the first of a kind stands where it stood, if what is set is of the kind of what was there
first_alike : {A : Type 0} (p : A → Bool) (l : List A) (i : ℕ) (v d : A) → p v ≡ p (get_or l i d) → first p (set l i v) ≡ first p l
first_alike p [] i v d e = refl
first_alike p (x ∷ l) zero v d e = rw e
first_alike p (x ∷ l) (suc i) v d e = rw (first_alike p l i v d e)

-- A SESSION THAT IS CHANGED AGAIN, or that closes, is as if it had not been changed before
module _ (place : ℕ) (s : Session) (t : SatBox) where
  pub with_again : (u : Session) (id : ℕ) (m : Stream) → with_session place u (restreamed id m (with_session place s t)) ≡ with_session place u (restreamed id m t)
  unfolding with_session restreamed
  with_again u id m = rw (set-set t.sessions place s u)

  module _ (k : Alike s (session_at t place)) where
    seat_alike : {B : Type 0} (f : Session → B) → f s ≡ f (session_at t place) → f (session_at (with_session place s t) place) ≡ f (session_at t place)
    unfolding with_session
    seat_alike f e = get_or_set_alike f t.sessions place place s no_session e

    close_again : (cause : ℕ) → close_one cause place (with_session place s t) ≡ close_one cause place t
    unfolding close_one noting reseated with_session
    close_again cause =
        rw (seat_alike (λ x. x.number) k.number, seat_alike (λ x. x.stream) k.stream, set-set t.sessions place s no_session)

    pub closing_again : (cause : ℕ) → closing cause place (with_session place s t) ≡ closing cause place t
    unfolding closing
    closing_again cause = rw (seat_alike (λ x. x.owner) k.owner, seat_alike (λ x. x.stream) k.stream, close_again cause)

-- THE TABLE WHERE IT IS KEPT
module _ (a : Asked) (t : SatBox) where
  abbrev pub seat : ℕ
  seat = place_named a.session t

  abbrev pub since : Session
  since = refreshed t.clock (session_at t seat)

  pub kept_by : (P : SatBox → Type 0) → (seat < 32 → P (with_session seat since t)) → (is_named (sight_of t a) ≡ false → P t) → P (kept a t)
  unfolding kept sight_of
  kept_by P f g = cond_keeps P (is_named (sight_of t a)) _ t (λ y. f (ltb-true seat 32 y)) g

  pub kept_named : seat < 32 → kept a t ≡ with_session seat since t
  unfolding kept sight_of
  kept_named h = rw (lt-ltb seat 32 h)

  pub kept_alone : is_named (sight_of t a) ≡ false → kept a t ≡ t
  unfolding kept
  kept_alone n = rw n

  -- but for its sessions it is the one that was
  pub kept_settings : (kept a t).settings ≡ t.settings
  unfolding with_session
  kept_settings = kept_by (λ u. u.settings ≡ t.settings) (λ y. refl) (λ n. refl)

  pub kept_streams : (kept a t).streams ≡ t.streams
  unfolding with_session
  kept_streams = kept_by (λ u. u.streams ≡ t.streams) (λ y. refl) (λ n. refl)

  -- every number is where it was
  pub kept_place : (sent : Sent) → place_named sent (kept a t) ≡ place_named sent t
  unfolding with_session
  kept_place sent =
      kept_by (λ u. place_named sent u ≡ place_named sent t)
      (λ y. rw (first_alike (has_number (session_number sent)) t.sessions seat since no_session refl)) (λ n. refl)

  pub kept_whole : Whole t → Whole (kept a t)
  unfolding sight_of
  kept_whole w =
      kept_by Whole (λ y. refreshed_whole seat t w (named_closable t w a (sight_of t a) refl (lt-ltb seat 32 y)).some) (λ n. w)
