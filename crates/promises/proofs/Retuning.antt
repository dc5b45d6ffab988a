-- What a SETUP and a PLAY of an open session do to it and to its stream, and the words in which `Methods` says what each method changes. `Methods` cites it: it
-- stands apart, so that a wrong `tuned` there is refused at what is said of these two. Assumes nothing.
use mathlib.Core.Path.{◌≡◌, refl, sym, ◌∙◌, ap, ap₂, subst}
use mathlib.Core.Bool.{Bool, true, false, not, cond}
use mathlib.Core.List.{List}
use Prim.Native.Nat.{ℕ, zero, suc, ◌<◌}
use native.Mathlib.Omega.{arith}
use lib.Dec.{eqb}
use lib.ListN.{set}
use lib.Seq.{get_or-set_same, get_or-set_other}
use borrow.Author.Tests.{ne_eqb, eq-eqb, lt-ltb}
use Rattle.steps.proofs.ReplyLaws.{read_passes}
use Rattle.scan.proofs.Bools.{never}
use Rattle.aim.specs.declared.Method.{Method}
use Rattle.aim.specs.declared.Method.TheVariants.{Options, Setup, Play, Teardown, Other}
use Rattle.reader.specs.Request.{method_of}
use Rattle.stream.specs.Streams.{past_stream, after_query}
use Rattle.stream.specs.declared.Stream.{Stream}
use Rattle.table.specs.Table.{no_session, session_at, stream_of, with_stream}
use Rattle.table.proofs.Ids.{stream_in}
use Rattle.table.specs.declared.Session.{Session}
use Rattle.table.specs.declared.SatBox.{SatBox}
use Rattle.steps.specs.Sights.{Asked, Lists, asked_of, lists_of, port_of, place_named, sight_of}
use Rattle.steps.specs.Steps.{is_passed, is_setup, looks_up, is_named}
use Rattle.closings.specs.Closing.{restreamed}
use Rattle.serving.specs.Serving.{stream_after, merges, with_session, kept, seat_after, retuned, Serving, grant, client_of, answered}
use Rattle.serving.specs.Turns.{takes_query}
use Rattle.serving.specs.declared.opening.Client.{Client}
use Rattle.closings.proofs.Keeping.{Whole, live_id}
use Rattle.serving.proofs.Kept.{since, kept_named, kept_streams, kept_place, kept_whole}
use Rattle.serving.proofs.Passing.{Untested, own_live, own_stream, named_closable}
use Rattle.serving.proofs.Branching.{after_live}
use Rattle.promises.proofs.Passing.{Changing, served_by}
use Rattle.promises.proofs.Requests.{answered_by}
use Rattle.promises.proofs.Keeps.{kept_since}

-- WHAT IS SAID. What is fixed when a box is made, F and C, and the clock are as they were
pub record Settled (t u : SatBox) : Type 0 where
  pub settings : u.settings ≡ t.settings
  pub clock : u.clock ≡ t.clock

-- in u the session s stands at a place, and m is the stream of an ID; every other place and every other stream is as it was in t. (Where m is the
-- stream that the ID had, no stream changes.)
pub record Changes (t u : SatBox) (place : ℕ) (s : Session) (id : ℕ) (m : Stream) : Type 0 where
  pub session : session_at u place ≡ s
  pub others : (i : ℕ) → (i ≡ place → ⊥) → session_at u i ≡ session_at t i
  pub stream : stream_of u id ≡ m
  pub streams : (k : ℕ) → (k ≡ id → ⊥) → stream_of u k ≡ stream_of t k
  pub settled : Settled t u

-- and nothing is written: the bytes held and the sequence are as they were
pub record Quietly (t u : SatBox) (place : ℕ) (s : Session) (id : ℕ) (m : Stream) : Type 0 where
  pub changes : Changes t u place s id m
  pub held : u.held ≡ t.held
  pub sequence : u.sequence ≡ t.sequence

-- a session's number, address, stream and part, with a last time, a port and whether it plays
abbrev pub but : ℕ → ℕ → ℕ → Session → Session
but last port playing s =
    record {
      number = s.number;
      address = s.address;
      last = last;
      port = port;
      stream = s.stream;
      owner = s.owner;
      playing = playing;
    }

-- a stream with the query merged into it
abbrev pub queried : Stream → Asked → Lists → Stream
queried m a l = after_query m a.codes l.pids l.delpids l.addpids

-- the stream of a session after its query, as `Methods` has it
abbrev tuned : SatBox → Asked → Lists → Session → Stream
tuned t a l s = cond (eqb s.owner 0) (stream_of t s.stream) (queried (stream_of t s.stream) a l)

-- A CHANGE OF THE LISTS
pub stream_other : (id k : ℕ) (m : Stream) (ms : List Stream) → (k ≡ id → ⊥) → stream_in (with_stream id m ms) k ≡ stream_in ms k
stream_other zero k m ms h = refl
stream_other (suc id) zero m ms h = refl
stream_other (suc id) (suc k) m ms h = get_or-set_other ms id k m past_stream (λ e. h (ap suc e))

pub stream_same : (id : ℕ) (m : Stream) (ms : List Stream) → ((stream_in ms id).frontend ≡ 0 → ⊥) → stream_in (with_stream id m ms) id ≡ m
stream_same zero m ms live = absurd (live refl)
stream_same (suc k) m ms live = get_or-set_same ms k m past_stream (omega (arith, (live_id ms (suc k) live).1))

-- a session is set, and no stream; or one stream too
module _ {t u : SatBox} {place : ℕ} {s : Session} (w : Whole t) (below : place < 32) (is : u.sessions ≡ set t.sessions place s) (settled : Settled t u) where
  changes_by : (id : ℕ) (m : Stream) → stream_of u id ≡ m → ((k : ℕ) → (k ≡ id → ⊥) → stream_of u k ≡ stream_of t k) → Changes t u place s id m
  changes_by id m e f =
      record {
        session = rw is (get_or-set_same t.sessions place s no_session (omega (arith, w.places)));
        others = λ i h. rw is (get_or-set_other t.sessions place i s no_session h);
        stream = e;
        streams = f;
        settled = settled;
      }

  pub changes_one : u.streams ≡ t.streams → (id : ℕ) → Changes t u place s id (stream_of t id)
  changes_one e id = changes_by id (stream_of t id) (rw e) (λ k h. rw e)

  pub changes_both : (id : ℕ) (m : Stream) → u.streams ≡ with_stream id m t.streams → stream_in (with_stream id m t.streams) id ≡ m → Changes t u place s id m
  changes_both id m e here = changes_by id m (rw e here) (λ k h. rw e (stream_other id k m t.streams h))

pub settled_same : {t u : SatBox} → u.settings ≡ t.settings → u.clock ≡ t.clock → Settled t u
settled_same a b = record { settings = a; clock = b }

-- A SESSION CHANGED IN ITS PLACE, with its stream or without
module _ (t : SatBox) (w : Whole t) {place : ℕ} (h : place < 32) (s : Session) (id : ℕ) where
  pub replaced_quietly : Quietly t (with_session place s t) place s id (stream_of t id)
  unfolding with_session
  replaced_quietly = record { changes = changes_one w h refl (settled_same refl refl) refl id; held = refl; sequence = refl }

  retuned_quietly : ((stream_of t id).frontend ≡ 0 → ⊥) → (m : Stream) (b : Bool) → Quietly t (with_session place s (cond (not b) (restreamed id m t) t)) place s id (cond b (stream_of t id) m)
  unfolding with_session restreamed
  retuned_quietly live m true = replaced_quietly
  retuned_quietly live m false =
      record { changes = changes_both w h refl (settled_same refl refl) id m refl (stream_same id m t.streams live); held = refl; sequence = refl }

-- A SETUP OR A PLAY OF AN OPEN SESSION, which steps 11 to 15 let through
looked : (n : Method) → takes_query n ≡ true → looks_up n ≡ true
looked Options k = never k refl
looked Setup k = refl
looked Play k = refl
looked Teardown k = never k refl
looked Other k = never k refl

module _ (t : SatBox) (a : Asked) (l : Lists) (client : Client) (w : Whole t) (takes : takes_query a.method ≡ true) (p : Untested (sight_of t a))
    (h : place_named a.session t < 32) where
  abbrev at : ℕ
  at = place_named a.session t

  abbrev now : Session
  now = session_at t at

  named : is_named (sight_of t a) ≡ true
  unfolding sight_of
  named = lt-ltb at 32 h

  -- its stream is the one that is named
  own : a.stream ≡ now.stream
  unfolding sight_of
  own = own_stream t w a (sight_of t a) refl named p (looked a.method takes)

  live : (stream_of t now.stream).frontend ≡ 0 → ⊥
  unfolding sight_of
  live = subst (λ k. (stream_of t k).frontend ≡ 0 → ⊥) own (own_live t w a (sight_of t a) refl named p (looked a.method takes))

  some : now.stream ≡ 0 → ⊥
  some z = live (ap (λ k. (stream_of t k).frontend) z)

  merges_owner : merges (sight_of t a) ≡ not (eqb now.owner 0)
  unfolding sight_of
  merges_owner =
      rw (takes, own, ne_eqb now.stream 0 some, ne_eqb now.number 0 (named_closable t w a (sight_of t a) refl named).some, eq-eqb now.stream now.stream refl)

  after_own : stream_after t a l ≡ queried (stream_of t now.stream) a l
  unfolding sight_of
  after_own =
      subst (λ k. stream_after t a l ≡ queried (stream_of t k) a l) own
      (after_live t a l client (sight_of t a) refl (λ z. some (sym own ∙ z)))

  retuned_is : retuned t a l ≡ cond (not (eqb now.owner 0)) (restreamed now.stream (queried (stream_of t now.stream) a l) t) t
  retuned_is =
      ap (λ b. cond b (restreamed a.stream (stream_after t a l) t) t) merges_owner
      ∙ ap₂ (λ k m. cond (not (eqb now.owner 0)) (restreamed k m t) t) own after_own

  retuning_quietly : {s : Session} → seat_after (sight_of t a) ≡ s → Quietly t (with_session at (seat_after (sight_of t a)) (retuned t a l)) at s now.stream (tuned t a l now)
  retuning_quietly is =
      subst (λ s. Quietly t (with_session at (seat_after (sight_of t a)) (retuned t a l)) at s now.stream (tuned t a l now)) is
      (rw retuned_is (retuned_quietly t w h (seat_after (sight_of t a)) now.stream live (queried (stream_of t now.stream) a l) (eqb now.owner 0)))

-- THE METHODS, as `Methods` names them
module _ (s : List ℕ) (address draw : ℕ) (t : SatBox) where
  abbrev a : Asked
  a = asked_of t.settings.frontends s

  abbrev l : Lists
  l = lists_of s

  abbrev place : ℕ
  place = place_named a.session t

  abbrev old : Session
  old = session_at t place

  abbrev k : SatBox
  k = kept a t

  abbrev after : Method → Session
  after m = cond (is_setup m) (but t.clock (port_of a.transport) old.playing old) (but t.clock old.port 1 old)

  abbrev u : SatBox
  u = (answered s address draw t).did.satbox

  module _ (w : Whole t) where
    module _ (h : place < 32) where
      kept_quietly : {v : SatBox} {x : Session} {id : ℕ} {m : Stream} → Quietly k v place x id m → Quietly t v place x id m
      unfolding with_session
      kept_quietly q =
          let e = kept_named a t h in
          let c = q.changes in
          record {
            changes =
                record {
                  session = c.session;
                  others = λ i n. c.others i n ∙ rw e (get_or-set_other t.sessions place i (since a t) no_session n);
                  stream = c.stream;
                  streams = λ i n. c.streams i n ∙ rw e;
                  settled = settled_same (c.settled.settings ∙ rw e) (c.settled.clock ∙ rw e);
                };
            held = q.held ∙ rw e;
            sequence = q.sequence ∙ rw e;
          }

    module _ (passed : is_passed (answered s address draw t).case ≡ true) where
      granted_by : (P : Serving → Type 0) → (Untested (sight_of k a) → Changing k a l → P (grant a.method k a l (client_of address draw a))) → P (answered s address draw t)
      granted_by P f =
          answered_by s address draw t (λ x. is_passed x.case ≡ true → P x)
          (λ r. served_by k a l (client_of address draw a) (λ x. is_passed x.case ≡ true → P x) (λ p q y. f p q) (λ n y. never y n)) (λ n y. never y (read_passes _ ∙ n)) passed

      pub untested : Untested (sight_of k a)
      untested = granted_by (λ x. Untested (sight_of k a)) (λ p q. p)

      pub changing : Changing k a l
      changing = granted_by (λ x. Changing k a l) (λ p q. q)

      pub does : {m : Method} → method_of s ≡ m → u ≡ (grant m k a l (client_of address draw a)).did.satbox
      does e = granted_by (λ x. x.did.satbox ≡ (grant a.method k a l (client_of address draw a)).did.satbox) (λ p q. refl) ∙ ap (λ m. (grant m k a l (client_of address draw a)).did.satbox) e

      pub retunes : place < 32 → takes_query a.method ≡ true → u ≡ with_session (sight_of k a).place (seat_after (sight_of k a)) (retuned k a l)
          → Quietly t u place (after a.method) old.stream (tuned t a l old)
      unfolding sight_of
      retunes h takes is =
          let e = kept_place a t a.session in
          let q : Quietly k u (place_named a.session k) (after a.method) (session_at k (place_named a.session k)).stream (tuned k a l (session_at k (place_named a.session k))) =
          rw is (retuning_quietly k a l (client_of address draw a) (kept_whole a t w) takes untested (rw e h) (rw (e, kept_since a t w h))) in
          let g : tuned k a l (since a t) ≡ tuned t a l old = rw (kept_streams a t) in
          kept_quietly h (subst (λ m. Quietly k u place (after a.method) old.stream m) g (rw (e, kept_since a t w h) at q))
