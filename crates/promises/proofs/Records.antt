-- Which records a request writes, and in which order: those of the sweep before it, and then its own. "Nothing else writes here: no PLAY, no
-- refusal." Assumes nothing.
use mathlib.Core.Path.{◌≡◌, refl, sym, ◌∙◌, ap, subst}
use mathlib.Core.Bool.{true, false}
use mathlib.Core.List.{List, [], ◌∷◌, ◌++◌}
use Prim.Native.Nat.{ℕ}
use lib.ListN.{set}
use lib.Seq.{get_or-set_same}
use borrow.Author.Tests.{ne_eqb, eq-eqb}
use Rattle.steps.proofs.ReplyLaws.{read_passes}
use Rattle.scan.specs.Lists.{first}
use Rattle.scan.proofs.Bools.{never}
use Rattle.aim.specs.declared.Method.{Method}
use Rattle.aim.specs.declared.Method.TheVariants.{Options, Setup, Play, Teardown}
use Rattle.reader.specs.Request.{method_of}
use Rattle.journal.specs.Records.{next_sequence}
use Rattle.journal.specs.declared.Record.{Record}
use Rattle.stream.specs.Streams.{past_stream}
use Rattle.table.specs.Table.{no_session, stream_of, is_dead}
use Rattle.finding.specs.Finding.{lowest_id}
use Rattle.table.specs.declared.Session.{Session}
use Rattle.table.specs.declared.SatBox.{SatBox}
use Rattle.steps.specs.Sights.{Asked, Lists, asked_of, lists_of, sight_of}
use Rattle.steps.specs.Steps.{is_passed, is_named}
use Rattle.closings.specs.Closing.{Did, restreamed, noting, record_of, closing, sweeping}
use Rattle.serving.specs.Serving.{guest, seating_as, joining, opening, stream_after, kept, Serving, granted, grant, served, client_of, answered}
use Rattle.satbox.specs.Calls.{requested}
use Rattle.serving.specs.declared.opening.Client.{Client}
use Rattle.closings.proofs.Keeping.{Whole}
use Rattle.serving.proofs.OpeningKeeps.{row}
use Rattle.serving.proofs.Branching.{merging_feed, merging_src}
use Rattle.closings.proofs.Leaving.{leaving, joiner_records, owner_records}
use Rattle.serving.proofs.Kept.{kept_alone}
use Rattle.promises.proofs.Keeps.{kept_is_named, kept_closes}
use Rattle.promises.proofs.Passing.{Changing, served_by, source, feed, can_join_law, can_open_law, new_merged}
use Rattle.promises.proofs.Serving.{denied_still}
use Rattle.promises.proofs.Requests.{answered_by, answered_still}

-- THE SWEEP'S, AND THEN ITS OWN
pub request_records : (s : List ℕ) (clock address draw : ℕ) (t : SatBox)
    → (requested s clock address draw t).did.records
    ≡ (sweeping clock t).records ++ (answered s address draw (sweeping clock t).satbox).did.records
unfolding requested
request_records s clock address draw t = refl

-- "NO REFUSAL": none where its status is not 200
pub refused_records : (s : List ℕ) (address draw : ℕ) (t : SatBox) → is_passed (answered s address draw t).case ≡ false → (answered s address draw t).did.records ≡ []
refused_records s address draw t n = ap (λ (d : Did). d.records) (answered_still s address draw t n)

-- the record of a session that opens, on a stream with that frontend: "both cause 0"
abbrev pub opens_as : ℕ → Session → ℕ → SatBox → Record
opens_as kind s frontend t =
    record {
      kind = kind;
      cause = 0;
      clock = t.clock;
      session = s.number;
      stream = s.stream;
      frontend = frontend;
      sequence = t.sequence;
    }

module _ (t : SatBox) (a : Asked) (l : Lists) (client : Client) where
  pub denied_records : is_passed (served t a l client).case ≡ false → (served t a l client).did.records ≡ []
  denied_records n = ap (λ (d : Did). d.records) (denied_still t a l client n)

  -- what is granted, by its method
  granted_is : (m : Method) → a.method ≡ m → is_passed (served t a l client).case ≡ true → served t a l client ≡ grant m t a l client
  granted_is m e =
      subst (λ n. is_passed (served t a l client).case ≡ true → served t a l client ≡ grant n t a l client) e
      (served_by t a l client (λ (x : Serving). is_passed x.case ≡ true → x ≡ grant a.method t a l client) (λ p q y. refl) (λ h y. never y h))

  quiet : (m : Method) → a.method ≡ m → (grant m t a l client).did.records ≡ [] → (served t a l client).did.records ≡ []
  quiet m e none =
      served_by t a l client (λ (x : Serving). x.did.records ≡ [])
      (λ p q. subst (λ n. (grant n t a l client).did.records ≡ []) (sym e) none) (λ h. refl)

  -- NONE of an OPTIONS
  pub options_records : a.method ≡ Options → (served t a l client).did.records ≡ []
  options_records e = quiet Options e refl

  -- "NO PLAY"
  pub play_records : a.method ≡ Play → (served t a l client).did.records ≡ []
  play_records e = quiet Play e refl

  -- NONE of a SETUP in a session
  pub retuned_records : a.method ≡ Setup → is_named (sight_of t a) ≡ true → (served t a l client).did.records ≡ []
  retuned_records e named = quiet Setup e (rw named refl)

  module _ (passed : is_passed (served t a l client).case ≡ true) where
    changing : Changing t a l
    changing = served_by t a l client (λ (x : Serving). is_passed x.case ≡ true → Changing t a l) (λ p q y. q) (λ h y. never y h) passed

    -- A SETUP without a session
    module _ (setup : a.method ≡ Setup) (stranger : is_named (sight_of t a) ≡ false) where
      -- ONE OF KIND 2, "joined", where it names a stream: with the frontend that the stream has
      module _ (some : a.stream ≡ 0 → ⊥) where
        pub joined_is : served t a l client ≡ granted (joining a.stream client t) (guest 0 a.stream client t)
        joined_is = granted_is Setup setup passed ∙ rw (stranger, ne_eqb a.stream 0 some)

        pub joined_records : (served t a l client).did.records ≡ opens_as 2 (served t a l client).session (stream_of t a.stream).frontend t ∷ []
        unfolding joining seating_as noting
        joined_records = rw (joined_is, can_join_law t a l changing setup stranger some)

      -- ONE OF KIND 1, "opened as owner", where it names none: with the frontend that the new stream takes
      module _ (none : a.stream ≡ 0) where
        pub opened_is : served t a l client ≡ granted (opening (stream_after t a l) client t) (guest 1 (lowest_id t.streams) client t)
        opened_is = granted_is Setup setup passed ∙ rw (stranger, eq-eqb a.stream 0 none)

        pub opened_records : Whole t → (served t a l client).did.records ≡ opens_as 1 (served t a l client).session (feed t a) t ∷ []
        unfolding opening seating_as noting restreamed sight_of
        opened_records w =
            let m = stream_after t a l in
            let f : m.frontend ≡ feed t a = merging_feed t a l client (sight_of t a) refl none in
            let g : m.values.src ≡ source t a = merging_src t a l client (sight_of t a) refl none (new_merged t a l changing setup stranger none) in
            let y = can_open_law t a l changing setup stranger none in
            rw (opened_is, f, g, y, get_or-set_same t.streams (first is_dead t.streams) m past_stream (row (source t a) (feed t a) t y w), f)

    -- THOSE OF A CLOSING, "cause 1 teardown", where it is a TEARDOWN
    module _ (teardown : a.method ≡ Teardown) where
      pub closed_is : served t a l client ≡ granted (closing 1 (sight_of t a).place t) (sight_of t a).session
      closed_is = granted_is Teardown teardown passed

      pub closed_records : (served t a l client).did.records ≡ (closing 1 (sight_of t a).place t).records
      closed_records = ap (λ (x : Serving). x.did.records) closed_is

      -- one where the session owns nothing; where it owns its stream, "each session still open on that stream .. closes directly after with
      -- cause 3, in place order"
      pub left_records : (sight_of t a).session.owner ≡ 0 → (served t a l client).did.records ≡ record_of 3 1 (sight_of t a).session t ∷ []
      unfolding sight_of
      left_records own = closed_records ∙ joiner_records 1 (sight_of t a).place t own

      pub emptied_records : ((sight_of t a).session.owner ≡ 0 → ⊥) → Whole t
          → (served t a l client).did.records
          ≡ record_of 3 1 (sight_of t a).session t
          ∷ leaving t.clock t.streams (sight_of t a).session.stream (next_sequence t.sequence) (set t.sessions (sight_of t a).place no_session)
      unfolding sight_of
      emptied_records own w = closed_records ∙ owner_records 1 (sight_of t a).place t own w.places

-- THE SAME OF ITS BYTES s, on a table that was swept: the session that is named is kept, and no record says so
module _ (s : List ℕ) (address draw : ℕ) (t : SatBox) where
  abbrev pub asks : Asked
  asks = asked_of t.settings.frontends s

  abbrev pub serves : Serving
  serves = served (kept asks t) asks (lists_of s) (client_of address draw asks)

  -- a request that is granted was read
  pub answered_is : is_passed (answered s address draw t).case ≡ true → answered s address draw t ≡ serves
  answered_is =
      answered_by s address draw t (λ (x : Serving). is_passed x.case ≡ true → x ≡ serves) (λ e y. refl) (λ e y. never y (read_passes _ ∙ e))

  silent : serves.did.records ≡ [] → (answered s address draw t).did.records ≡ []
  silent none = answered_by s address draw t (λ (x : Serving). x.did.records ≡ []) (λ e. none) (λ e. refl)

  pub answered_options : method_of s ≡ Options → (answered s address draw t).did.records ≡ []
  answered_options e = silent (options_records (kept asks t) asks (lists_of s) (client_of address draw asks) e)

  pub answered_play : method_of s ≡ Play → (answered s address draw t).did.records ≡ []
  answered_play e = silent (play_records (kept asks t) asks (lists_of s) (client_of address draw asks) e)

  pub answered_retuned : method_of s ≡ Setup → is_named (sight_of t asks) ≡ true → (answered s address draw t).did.records ≡ []
  answered_retuned e named = silent (retuned_records (kept asks t) asks (lists_of s) (client_of address draw asks) e (rw (kept_is_named asks t) named))

  module _ (passed : is_passed (answered s address draw t).case ≡ true) where
    same : answered s address draw t ≡ serves
    same = answered_is passed

    served_passed : is_passed serves.case ≡ true
    served_passed = subst (λ (x : Serving). is_passed x.case ≡ true) same passed

    -- one that names no session comes to the table as it was
    pub alone : is_named (sight_of t asks) ≡ false → answered s address draw t ≡ served t asks (lists_of s) (client_of address draw asks)
    alone stranger = same ∙ ap (λ k. served k asks (lists_of s) (client_of address draw asks)) (kept_alone asks t stranger)

    pub alone_passed : is_named (sight_of t asks) ≡ false → is_passed (served t asks (lists_of s) (client_of address draw asks)).case ≡ true
    alone_passed stranger = subst (λ (x : Serving). is_passed x.case ≡ true) (alone stranger) passed

    pub answered_joined : method_of s ≡ Setup → is_named (sight_of t asks) ≡ false → (asks.stream ≡ 0 → ⊥)
        → (answered s address draw t).did.records
        ≡ opens_as 2 (answered s address draw t).session (stream_of t asks.stream).frontend t ∷ []
    answered_joined setup stranger some =
        subst (λ (x : Serving). x.did.records ≡ opens_as 2 x.session (stream_of t asks.stream).frontend t ∷ []) (sym (alone stranger))
        (joined_records t asks (lists_of s) (client_of address draw asks) (alone_passed stranger) setup stranger some)

    pub answered_closed : method_of s ≡ Teardown → (answered s address draw t).did.records ≡ (closing 1 (sight_of t asks).place t).records
    answered_closed e =
        ap (λ (x : Serving). x.did.records) same
        ∙ closed_records (kept asks t) asks (lists_of s) (client_of address draw asks) served_passed e
        ∙ ap (λ (d : Did). d.records) (kept_closes asks t 1)
