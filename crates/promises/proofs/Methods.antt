-- WHAT EACH METHOD CHANGES, AND WHAT IT LEAVES ALONE: of a request answered 200, with any bytes s, on a well-formed table t that was swept; session by
-- session and field by field. A request that gets another status changes nothing but a last time (`Requests.answered_still`). Which records an opening
-- and a closing write is said in `Records`, and what is held for them in `Written`. Assumes nothing.
use mathlib.Core.Path.{◌≡◌, refl, ◌∙◌, ap, subst}
use mathlib.Core.Bool.{Bool, true, false, cond, ◌&&◌}
use mathlib.Core.List.{List, [], ◌∷◌, map}
use Prim.Native.Nat.{ℕ, zero, suc, ◌<◌}
use native.Mathlib.Omega.{arith}
use lib.Dec.{eqb}
use lib.ListN.{length, get_or}
use lib.Seq.{get_or-set_same}
use borrow.Author.Tests.{ne_eqb, eq-eqb, ltb-true, lt-ltb, le-ltb}
use Rattle.std.specs.Prelude.{None}
use Rattle.scan.specs.Lists.{first}
use Rattle.scan.proofs.Bools.{and_both}
use Rattle.aim.specs.declared.Method.{Method}
use Rattle.aim.specs.declared.Method.TheVariants.{Options, Setup, Play, Teardown, Other}
use Rattle.reader.specs.Request.{method_of, request_refusal}
use Rattle.stream.specs.Streams.{no_stream, past_stream, blank}
use Rattle.stream.specs.declared.Stream.{Stream}
use Rattle.table.specs.Table.{no_session, session_at, stream_of, is_dead, is_on}
use Rattle.finding.specs.Finding.{lowest_place, lowest_id, drawn}
use Rattle.table.specs.declared.Session.{Session}
use Rattle.table.specs.declared.SatBox.{SatBox}
use Rattle.table.proofs.Changes.{clear, seated_live}
use Rattle.steps.specs.Sights.{Asked, Lists, asked_of, lists_of, port_of, place_named, sight_of}
use Rattle.steps.specs.Steps.{is_passed, is_setup, is_named}
use Rattle.closings.specs.Closing.{Did, restreamed, reseated, noting, close_one, closing}
use Rattle.closings.specs.Does.{Closable}
use Rattle.serving.specs.Serving.{has_place, guest, granted, seating, seating_as, joining, can_open, opening, stream_after, kept, client_of, answered}
use Rattle.closings.proofs.Closings.{closing_fine}
use Rattle.closings.proofs.Keeping.{Whole, owner_sessions, owner_streams}
use Rattle.serving.proofs.Kept.{kept_named, kept_alone, kept_place}
use Rattle.serving.proofs.OpeningKeeps.{row}
use Rattle.serving.proofs.Passing.{named_needed, named_closable}
use Rattle.serving.proofs.Branching.{after_new, merging_feed, merging_src}
use Rattle.promises.proofs.Passing.{Changing, source, feed, can_join_law, can_open_law, new_merged}
use Rattle.promises.proofs.Requests.{answered_still}
use Rattle.promises.proofs.Keeps.{kept_closes}
use Rattle.promises.proofs.Retuning.{Settled, Changes, Quietly, but, queried, stream_other, stream_same, changes_one, changes_both, settled_same, replaced_quietly, untested, changing, does, retunes}

-- WHAT IS SAID. In `Retuning` stand what is fixed when a box is made (`Settled`), a change of one session and one stream (`Changes`), that nothing is
-- written with it (`Quietly`), a session with another last time and port (`but`), and a stream with the query merged into it (`queried`). And here:
-- in u nobody is on the stream of an ID, and it is freed; every other session and every other stream is as it was in t
pub record Empties (t u : SatBox) (id : ℕ) : Type 0 where
  pub gone : (i : ℕ) → is_on id (session_at t i) ≡ true → session_at u i ≡ no_session
  pub others : (i : ℕ) → is_on id (session_at t i) ≡ false → session_at u i ≡ session_at t i
  pub stream : stream_of u id ≡ no_stream
  pub streams : (k : ℕ) → (k ≡ id → ⊥) → stream_of u k ≡ stream_of t k
  pub settled : Settled t u

-- a session that opens at the table's clock, and does not play
abbrev pub newcomer : ℕ → ℕ → ℕ → ℕ → ℕ → SatBox → Session
newcomer address draw port id owner t =
    record {
      number = drawn t.sessions draw;
      address = address;
      last = t.clock;
      port = port;
      stream = id;
      owner = owner;
      playing = 0;
    }

-- the stream of a session after its query, which is merged "for the owner"
abbrev pub tuned : SatBox → Asked → Lists → Session → Stream
tuned t a l s = cond (eqb s.owner 0) (stream_of t s.stream) (queried (stream_of t s.stream) a l)

-- A CHANGE OF THE LISTS
pub get_or_clear : (id : ℕ) (l : List Session) (k : ℕ) → get_or (map (clear id) l) k no_session ≡ clear id (get_or l k no_session)
get_or_clear id [] k = refl
get_or_clear id (s ∷ l) zero = refl
get_or_clear id (s ∷ l) (suc k) = get_or_clear id l k

-- THE METHODS
module _ (s : List ℕ) (address draw : ℕ) (t : SatBox) where
  -- what is asked; the place of the open session that is named, past all places where none is, and that session; the table where it is kept, order 3, and
  -- the table after
  abbrev a : Asked
  a = asked_of t.settings.frontends s

  abbrev l : Lists
  l = lists_of s

  abbrev place : ℕ
  place = place_named a.session t

  abbrev old : Session
  old = session_at t place

  abbrev k : SatBox
  k = kept a t

  abbrev after : Method → Session
  after m = cond (is_setup m) (but t.clock (port_of a.transport) old.playing old) (but t.clock old.port 1 old)

  abbrev u : SatBox
  u = (answered s address draw t).did.satbox

  module _ (w : Whole t) where
    -- WHERE A SESSION IS NAMED: what is done to it on the table where it is kept, and nothing else, is done to it on the one before
    module _ (h : place < 32) where
      -- there is its last time set; the rest of it stays, and its stream
      pub keeps : Quietly t k place (but t.clock old.port old.playing old) old.stream (stream_of t old.stream)
      keeps = rw (kept_named a t h) (replaced_quietly t w h _ old.stream)

    -- A REQUEST THAT A STEP AFTER THE 11TH REFUSES sets the last time of the session that it names, order 3; the rest of it stays, and its stream
    pub refused_keeps : request_refusal t.settings.frontends s ≡ None → is_passed (answered s address draw t).case ≡ false → place < 32
        → Quietly t u place (but t.clock old.port old.playing old) old.stream (stream_of t old.stream)
    refused_keeps read n h =
        let left_is : u ≡ k = ap (λ (d : Did). d.satbox) (answered_still s address draw t n) ∙ rw read in
        rw left_is (keeps h)

    module _ (passed : is_passed (answered s address draw t).case ≡ true) where
      -- OPTIONS NAMING A SESSION sets its last time to the clock; the rest of it stays, and its stream
      pub options_refreshes : method_of s ≡ Options → place < 32 → Quietly t u place (but t.clock old.port old.playing old) old.stream (stream_of t old.stream)
      options_refreshes e h = rw (does s address draw t w passed e) (keeps h)

      -- OPTIONS NAMING NONE changes nothing
      pub options_alone : method_of s ≡ Options → (place < 32 → ⊥) → u ≡ t
      unfolding sight_of
      options_alone e h = does s address draw t w passed e ∙ kept_alone a t (le-ltb place 32 (omega arith))

      -- and so does any other method, which step 6 refuses, but for the session that it names
      pub other_alone : method_of s ≡ Other → u ≡ k
      other_alone e = does s address draw t w passed e

      -- SETUP IN A SESSION replaces only its port and, for the owner, merges the query; order 3: and sets its last time
      pub setup_replaces : method_of s ≡ Setup → place < 32 → Quietly t u place (but t.clock (port_of a.transport) old.playing old) old.stream (tuned t a l old)
      unfolding sight_of
      setup_replaces e h =
          subst (λ m. Quietly t u place (after m) old.stream (tuned t a l old)) e
          (retunes s address draw t w passed h (rw e) (does s address draw t w passed e ∙ rw (kept_place a t a.session, lt-ltb place 32 h)))

      -- PLAY marks the session playing and, for the owner, merges the query; order 3: and sets its last time
      pub play_marks : method_of s ≡ Play → Quietly t u place (but t.clock old.port 1 old) old.stream (tuned t a l old)
      unfolding sight_of
      play_marks e =
          let h : place < 32 = ltb-true place 32 (rw (kept_place a t a.session) at (named_needed (sight_of k a) (untested s address draw t w passed) (rw e))) in
          subst (λ m. Quietly t u place (after m) old.stream (tuned t a l old)) e (retunes s address draw t w passed h (rw e) (does s address draw t w passed e))

      -- SETUP WITHOUT A SESSION takes the lowest free place, with the clock for its last time:
      module _ (setup : method_of s ≡ Setup) (stranger : place < 32 → ⊥) where
        unnamed : is_named (sight_of t a) ≡ false
        unfolding sight_of
        unnamed = le-ltb place 32 (omega arith)

        alone : k ≡ t
        alone = kept_alone a t unnamed

        free : Changing t a l
        free = subst (λ x. Changing x a l) alone (changing s address draw t w passed)

        placed : (b : Bool) → has_place t && b ≡ true → lowest_place t.sessions < 32
        placed b y = omega (arith, ltb-true (lowest_place t.sessions) (length t.sessions) (and_both (has_place t) b y).0, w.places)

        -- it joins the stream that it names, never owning it, and that stays;
        pub setup_joins : (a.stream ≡ 0 → ⊥)
            → Changes t u (lowest_place t.sessions) (newcomer address draw (port_of a.transport) a.stream 0 t) a.stream (stream_of t a.stream)
        unfolding joining seating_as noting reseated
        setup_joins some =
            let y = can_join_law t a l free setup unnamed some in
            rw (does s address draw t w passed setup, alone, unnamed, ne_eqb a.stream 0 some, y) (changes_one w (placed _ y) refl (settled_same refl refl) refl a.stream)

        -- or it owns a new one, with the lowest free ID
        pub setup_opens : a.stream ≡ 0
            → Changes t u (lowest_place t.sessions) (newcomer address draw (port_of a.transport) (lowest_id t.streams) 1 t) (lowest_id t.streams) (queried (blank (feed t a)) a l)
        unfolding opening seating_as noting reseated restreamed sight_of
        setup_opens none =
            let client = client_of address draw a in
            let id = lowest_id t.streams in
            let m = stream_after t a l in
            let y = can_open_law t a l free setup unnamed none in
            let o = new_merged t a l free setup unnamed none in
            let open-there : can_open m.values.src m.frontend t ≡ true = rw (merging_src t a l client (sight_of t a) refl none o, merging_feed t a l client (sight_of t a) refl none) y in
            let new : seating t a l client ≡ granted (opening m client t) (guest 1 id client t) = rw (eq-eqb a.stream 0 none) in
            subst (λ x. Changes t u (lowest_place t.sessions) (newcomer address draw (port_of a.transport) id 1 t) id x)
            (after_new t a l client (sight_of t a) refl none)
            (rw (does s address draw t w passed setup, alone, unnamed, new, open-there)
            (changes_both w (placed _ y) refl (settled_same refl refl) id m refl
            (get_or-set_same t.streams (first is_dead t.streams) m past_stream (row (source t a) (feed t a) t y w))))

      -- TEARDOWN closes
      module _ (teardown : method_of s ≡ Teardown) where
        closes : u ≡ (closing 1 place t).satbox
        unfolding sight_of
        closes = does s address draw t w passed teardown ∙ ap (λ (d : Did). d.satbox) (kept_closes a t 1)

        closable : Closable t place
        unfolding sight_of
        closable =
            named_closable t w a (sight_of t a) refl (rw (kept_place a t a.session) at (named_needed (sight_of k a) (untested s address draw t w passed) (rw teardown)))

        -- the session that is named, and no other where it owns nothing;
        pub teardown_leaves : old.owner ≡ 0 → Changes t u place no_session old.stream (stream_of t old.stream)
        unfolding closing close_one noting reseated sight_of
        teardown_leaves none =
            rw (closes, eq-eqb old.owner 0 none)
            (changes_one w closable.below refl (settled_same refl refl) refl old.stream)

        -- and with an owner each that is on its stream
        pub teardown_empties : (old.owner ≡ 0 → ⊥) → Empties t u old.stream
        unfolding sight_of
        teardown_empties some =
            let id = old.stream in
            let c = closable in
            let f = closing_fine 1 place t c in
            let ss = owner_sessions 1 place t c w some in
            let ms = owner_streams 1 place t c w some in
            rw closes
            (record {
              gone = λ i on. rw (ss, get_or_clear id t.sessions i, on);
              others = λ i off. rw (ss, get_or_clear id t.sessions i, off);
              stream = rw ms (stream_same id no_stream t.streams (seated_live t.sessions (past_stream ∷ t.streams) w.formed.seats place c.some));
              streams = λ k h. rw ms (stream_other id k no_stream t.streams h);
              settled = settled_same f.settings f.clock;
            })
