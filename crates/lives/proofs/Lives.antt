-- THE LIFE OF A BOX, in seven statements: for every F and C in range, every first journal of C bytes and every sequence of calls that a caller may make
-- (`Lives`, `is_call`), of the box, the journal and the history after them (`life_after`, the fold of the calls' meanings from a fresh box).
-- Every call of a life is one that comes after others, so what holds after every sequence holds after every call. Assumes nothing.
use Rattle.std.specs.Prelude.{Ok, Some}
use mathlib.Core.Path.{◌≡◌, sym, ◌∙◌, ap, subst}
use mathlib.Core.Bool.{true, false}
use mathlib.Core.List.{List, [], ◌∷◌, ◌++◌, map}
use mathlib.Core.Logic.{◌↔◌}
use Prim.Native.Nat.{ℕ, ◌+◌, ◌*◌, ◌%◌, ◌≤◌, ◌<◌, max}
use native.Mathlib.Omega.{arith}
use lib.Dec.{eqb}
use lib.ListN.{length, take, get_or}
use Rattle.std.specs.Prelude.{None}
use Rattle.scan.specs.Lists.{all}
use Rattle.aim.specs.declared.Method.TheVariants.{Teardown}
use Rattle.refusals.specs.declared.Refusal.TheVariants as refusal
use Rattle.reader.specs.Request.{method_of, request_refusal}
use Rattle.journal.specs.Records.{record_size, read_at}
use Rattle.journal.specs.declared.Record.{Record}
use Rattle.table.specs.Table.{any, count, is_open, open_count, session_at, is_on, owns}
use Rattle.table.specs.Formed.{well_formed}
use Rattle.finding.specs.Finding.{is_held}
use Rattle.table.specs.Made.{fresh, number_in}
use Rattle.table.specs.declared.Session.{Session}
use Rattle.table.specs.declared.Settings.{Settings}
use Rattle.table.specs.declared.SatBox.{SatBox}
use Rattle.steps.specs.Sights.{asked_of, lists_of}
use Rattle.steps.specs.Steps.{is_passed}
use Rattle.steps.specs.declared.cases.Case.TheVariants.{Full}
use Rattle.closings.specs.Closing.{bytes_of, Did, is_expired, at_clock, sweeping}
use Rattle.satbox.specs.Calls.{requested, replied}
use Rattle.amended.proofs.Reaching.{AllReach}
use Rattle.closings.proofs.DoesLaws.{bytes_append}
use Rattle.closings.proofs.Keeping.{whole_formed}
use Rattle.lives.specs.Calls.{Lent, Call, request, order, lacks_journal, is_call, Life, live, run, records_of, Lives, life_after}
use Rattle.lives.specs.Closed.{Closed, is_closing_of, is_time_out, Fares, place_named_by, KeepsAlive, Sweeps, Stays, TearsDown, Ends, says_closed, says_opened, unnumbered, sweep_closings, teardown_closings, PassesElse}
use Rattle.lives.specs.Audit.{let_go, is_held_by, audited, holds, Quiet, Notes, Leads, LetGo}
use Rattle.lives.proofs.Lived.{lived}
use Rattle.lives.proofs.Journals.{counts_at, counts_next}
use Rattle.lives.proofs.Holding.{sized}
use Rattle.lives.proofs.Running.{live_good, after_good, swept_set}
use Rattle.lives.proofs.Refusals.{call_gated}
use Rattle.lives.proofs.Young.{young_after, after_young}
use Rattle.lives.proofs.Hearing.{hears_late, kept_hears, kept_fares}
use Rattle.lives.proofs.Faring.{unkept_fares, unkept_closed}
use Rattle.lives.proofs.InCalls.{expired_in, lost_in, torn_in, left_in}
use Rattle.lives.proofs.Lasting.{sweeping_text, stays_in, ends_in, torn_text, else_text}
use Rattle.lives.proofs.Chains.{leads_agree}
use Rattle.lives.proofs.Audits.{live_leads, after_leads}
use Rattle.lives.proofs.Answers.{held_agrees}
use Rattle.lives.proofs.LettingGo.{never_let_go, let_go_law}
use Rattle.lives.proofs.OpenCounts.{note_moves_one, quiet_moves_none, leads_count}
use Rattle.lives.proofs.ReadingBack.{read_back, after_fit}
use Rattle.lives.proofs.Rooms.{refused_exactly, passed_exactly}

module _ (settings : Settings) (j : List ℕ) (cs : List Call) where
  abbrev x : Life
  x = life_after settings j cs

  module _ (h : Lives settings j cs) where
    -- 1. EVERY REACHABLE BOX IS WELL FORMED (`table/specs/Formed.well_formed`),
    pub well_formed_law : well_formed x.satbox ≡ true
    well_formed_law = whole_formed x.satbox (after_good h).whole

    -- so that no call is refused with 1, whatever it is called with (`live`, `number_in`: document 01's numbers),
    pub never_refused_by_1 : (c : Call) → number_in (live c x).outcome ≡ 1 → ⊥
    never_refused_by_1 c = (call_gated x well_formed_law c).0

    -- and with 2 exactly if it is lent a journal of another length (`lacks_journal`)
    pub refused_by_2_for_length : (c : Call) → (number_in (live c x).outcome ≡ 2) ↔ (lacks_journal settings.size c x.journal ≡ true)
    refused_by_2_for_length c =
        rw (sized (after_good h)) at (call_gated x well_formed_law c).1

    -- and the box's own journal never is
    pub journal_has_its_length : length x.journal ≡ settings.size
    journal_has_its_length = (after_good h).journal

    -- What is fixed when a box is made, F, C and the sources that each frontend reaches, no call moves (`proofs/Settings.settings_stay` says it of each call)
    pub settings_stay : x.satbox.settings ≡ settings
    settings_stay = (after_good h).set

    -- order 1: so a box whose frontends reach all four stays one, and is document 01's in every call (`amended/proofs/Likewise`)
    pub all_reach_stays : AllReach settings → AllReach x.satbox.settings
    all_reach_stays = subst AllReach (sym (after_good h).set)

    -- 2. THE JOURNAL'S FIRST BYTES HELD ARE EXACTLY THE RECORDS, in order, of the openings and closings since the last collection: `since`, which
    -- the rules give for each call (`records`) and which is not read off the bytes held; their bytes are `bytes_of`,
    pub journal_holds_the_records : take x.satbox.held x.journal ≡ bytes_of x.since
    journal_holds_the_records = (after_good h).text

    -- 16 bytes each,
    pub sixteen_bytes_each : x.satbox.held ≡ record_size * length x.since
    sixteen_bytes_each = (after_good h).held

    -- and the sequence numbers run on over collections and wrap: each record has its place in the whole history (`history`), modulo 65,536,
    pub sequence_runs_on : (i : ℕ) (past : Record) → i < length x.history → (get_or x.history i past).sequence ≡ i % 65536
    sequence_runs_on i past l =
        counts_at 0 x.satbox.sequence x.history past (omega arith) (after_good h).sequence i l ∙ omega arith

    -- and the next one has their number
    pub sequence_to_come : x.satbox.sequence ≡ length x.history % 65536
    sequence_to_come = counts_next 0 x.satbox.sequence x.history (omega arith) (after_good h).sequence ∙ omega arith

    -- A call's own records stand behind those of the calls before it (`live`: `since` is those that are not collected by it, and then its own)
    pub call_writes_its_records : (c : Call) → is_call settings.size c ≡ true → take (live c x).satbox.held (live c x).journal ≡ bytes_of (live c x).since
    unfolding live
    call_writes_its_records c e = (live_good (after_good h) c e).text

    -- 3. BYTES HELD PLUS 16 FOR EACH OPEN SESSION NEVER EXCEED C
    pub room_for_every_closing : x.satbox.held + record_size * open_count x.satbox ≤ settings.size
    room_for_every_closing = omega (arith, (after_good h).whole.formed.fits.bound, sized (after_good h))

    -- 4. NO CLOSING IS EVER HELD BACK, in a request or a tick at any clock (`Sweeps`) that was not refused by number: of the sessions open before it
    module _ (clock : ℕ) (c : Call) (sweeps : Sweeps clock c) (done : (live c x).outcome ≡ Ok tt) where
      -- each that has expired at the clock used is closed by its sweep, and its record is there (`Closed`; the records of the call are `records`,
      -- which `since` then ends with),
      pub expired_is_closed : (i : ℕ) → is_expired (max x.satbox.clock clock) (session_at x.satbox i) ≡ true
          → Closed x.satbox i (sweeping clock x.satbox).satbox (live c x).records
      expired_is_closed = expired_in clock c sweeps x done (after_good h).whole

      -- and so is each whose stream loses its owner, at whatever place m
      pub ownerless_is_closed : (i m : ℕ) → is_open (session_at x.satbox i) ≡ true
          → owns (session_at x.satbox i).stream (session_at x.satbox m) ≡ true → is_expired (max x.satbox.clock clock) (session_at x.satbox m) ≡ true
          → Closed x.satbox i (sweeping clock x.satbox).satbox (live c x).records
      ownerless_is_closed = lost_in clock c sweeps x done (after_good h).whole

      -- and after the call nothing that is open has expired
      pub none_expired_is_open : (i : ℕ) → is_expired (max x.satbox.clock clock) (session_at (live c x).satbox i) ≡ false
      none_expired_is_open = young_after sweeps x done (after_good h).whole

    -- AND NOTHING ELSE CLOSES: a sweep at any clock leaves whoever has not expired, and whose stream's owner has not, where it was, as it was, and its
    -- stream too (`Stays`)
    pub unexpired_stays : (clock i : ℕ) → is_open (session_at x.satbox i) ≡ true → is_expired (max x.satbox.clock clock) (session_at x.satbox i) ≡ false
        → ((m : ℕ) → owns (session_at x.satbox i).stream (session_at x.satbox m) ≡ true → is_expired (max x.satbox.clock clock) (session_at x.satbox m) ≡ false)
        → Stays x.satbox i (sweeping clock x.satbox).satbox
    unexpired_stays clock = stays_in clock x.satbox (after_good h).whole

    -- and its records, sequence numbers aside, are those of `sweep_closings`, in that order: cause 2 of each that has expired, unless its owner has and is
    -- visited before it, and 3 of every other whose owner has
    pub sweep_causes : (clock : ℕ) → map unnumbered (sweeping clock x.satbox).records ≡ sweep_closings (at_clock clock x.satbox)
    sweep_causes clock = sweeping_text clock x.satbox (after_good h).whole

    -- In a TEARDOWN that is answered 200, after the sweep, the session that it names is closed too (`place_named_by`)
    module _ (s : List ℕ) (clock address draw : ℕ) (b : List ℕ) (l : Lent) (done : (live (request s clock address draw b l) x).outcome ≡ Ok tt)
        (tears : method_of s ≡ Teardown) (passed : is_passed (requested s clock address draw x.satbox).case ≡ true) where
      abbrev v : SatBox
      v = (sweeping clock x.satbox).satbox

      abbrev place : ℕ
      place = place_named_by s v

      abbrev c : Call
      c = request s clock address draw b l

      pub torn_down_is_closed : Closed v place (live c x).satbox (live c x).records
      torn_down_is_closed = torn_in s clock address draw b l x (rw (lived c x) at done) (after_good h).whole tears passed

      -- and with an owner each that was on its stream
      pub left_by_owner_is_closed : ((session_at v place).owner ≡ 0 → ⊥) → (i : ℕ) → is_on (session_at v place).stream (session_at v i) ≡ true
          → Closed v i (live c x).satbox (live c x).records
      left_by_owner_is_closed = left_in s clock address draw b l x (rw (lived c x) at done) (after_good h).whole tears passed

      -- and its records are those of its sweep, and then cause 1 of the one that it names and 3 of each that this takes along (`teardown_closings`)
      pub teardown_causes : map unnumbered (live c x).records
          ≡ sweep_closings (at_clock clock x.satbox) ++ teardown_closings v place
      teardown_causes = torn_text s clock address draw b l x (after_good h).whole done tears passed

    -- Of the sessions open before a call, whichever it is, refused or not, one that is not at its place with its number after it had expired, had lost
    -- its owner or was torn down (`Ends`),
    pub nothing_else_closes : (c : Call) (i : ℕ) → is_open (session_at x.satbox i) ≡ true
        → ((session_at (live c x).satbox i).number ≡ (session_at x.satbox i).number → ⊥) → Ends x.satbox i c
    nothing_else_closes c i some = ends_in x (after_good h).whole i some c

    -- and where it is no TEARDOWN answered 200 (`TearsDown`), what it writes after the records of its sweep is no closing
    pub no_other_closing_is_written : (clock : ℕ) (c : Call) → Sweeps clock c → (live c x).outcome ≡ Ok tt → (TearsDown x.satbox c → ⊥)
        → (rest : List Record) × ((live c x).records ≡ (sweeping clock x.satbox).records ++ rest) × (any says_closed rest ≡ false)
    no_other_closing_is_written clock c sweeps = else_text sweeps x (after_good h).whole

    -- WHO IS KEPT, order 3: a session that a request names which passes step 11, whatever its method and its status: steps 1 to 10 let it through
    -- (`request_refusal`), and in the box after expired sessions are closed the number of its Session header is an open session's; after this call and any
    -- others
    module _ (s : List ℕ) (clock address draw : ℕ) (b : List ℕ) (l : Lent) (ds : List Call) where
      abbrev naming : Call
      naming = request s clock address draw b l

      abbrev y : Life
      y = live naming x

      abbrev seat : ℕ
      seat = place_named_by s (sweeping clock x.satbox).satbox

      abbrev kept : Session
      kept = session_at (sweeping clock x.satbox).satbox seat

      module _ (calls : all (is_call settings.size) (naming ∷ ds) ≡ true) (done : (live naming x).outcome ≡ Ok tt)
          (read : request_refusal settings.frontends s ≡ None) (named : seat < 32) where
        -- is not closed for its age before the clock used plus 60: each record of those others that says so (`is_time_out`) has that clock or a later one,
        pub kept_is_not_timed_out : (i : ℕ) (past : Record) → i < length (records_of ds y) → is_time_out kept.number (get_or (records_of ds y) i past) ≡ true
            → max x.satbox.clock clock + 60 ≤ (get_or (records_of ds y) i past).clock
        kept_is_not_timed_out = hears_late (kept_hears (after_good h) s clock address draw b l done read named ds calls)

        -- and, but for a TEARDOWN that is answered 200 (`TearsDown`), which closes it, is open at its place, with a last time of the clock used or later, or one
        -- of the records of those others says that it closed (`Fares`)
        pub kept_stays : (TearsDown x.satbox naming → ⊥) → Fares kept.number seat (λ last. max x.satbox.clock clock ≤ last) (run ds y).satbox (records_of ds y)
        kept_stays = kept_fares (after_good h) s clock address draw b l done read named ds calls

    -- WHO IS NOT: an open session, after any calls of which none is a request that steps 1 to 10 let through and that has its number (`KeepsAlive`; past their
    -- last there is an order)
    module _ (i : ℕ) (some : is_open (session_at x.satbox i) ≡ true) (ds : List Call) (calls : all (is_call settings.size) ds ≡ true)
        (unkept : (k : ℕ) → KeepsAlive settings.frontends (session_at x.satbox i).number (get_or ds k (order 0)) → ⊥) where
      -- is open at its place, with the last time that it had, or one of the records says that it closed,
      pub unkept_stays : Fares (session_at x.satbox i).number i (λ last. last ≡ (session_at x.satbox i).last) (run ds x).satbox (records_of ds x)
      unkept_stays = unkept_fares (after_good h) (after_young h) i some ds calls unkept

      -- and is closed by the first request or tick at its last time plus 60 or later: once the box's clock is that, one of the records says so
      pub unkept_is_closed : (session_at x.satbox i).last + 60 ≤ (run ds x).satbox.clock → any (is_closing_of (session_at x.satbox i).number) (records_of ds x) ≡ true
      unkept_is_closed = unkept_closed (after_good h) (after_young h) i some ds calls unkept

    -- 5. AN OPENING THAT PASSES EVERY OTHER CHECK (`request_refusal`: steps 1 to 10; `PassesElse`: the others), with any bytes s, at any clock
    -- (`FullBox` has a life where it is refused, and one where it is granted at the last byte),
    module _ (s : List ℕ) (clock address draw : ℕ) where
      -- on the box after expired sessions are closed,
      abbrev u : SatBox
      u = (sweeping clock x.satbox).satbox

      module _ (read : request_refusal settings.frontends s ≡ None) (else : PassesElse u (asked_of settings.frontends s) (lists_of s)) where
        -- is refused for journal room, step 18, exactly if bytes held, plus 16 for each open session, plus 32, exceed C; both directions
        pub refused_for_room : ((requested s clock address draw x.satbox).case ≡ Some Full) ↔ (settings.size < u.held + record_size * open_count u + 2 * record_size)
        unfolding requested
        refused_for_room = refused_exactly settings s address draw u (swept_set h clock) read else

        -- and else it passes
        pub passed_with_room : u.held + record_size * open_count u + 2 * record_size ≤ settings.size → (requested s clock address draw x.satbox).case ≡ None
        unfolding requested
        passed_with_room = passed_exactly settings s address draw u (swept_set h clock) read else

    -- 6. WHAT WAS COLLECTED, JOINED (`gathered`), FOLLOWED BY WHAT IS HELD, IS THE WHOLE HISTORY'S RECORDS: nothing is lost or written twice
    pub collected_and_held : x.gathered ++ take x.satbox.held x.journal ≡ bytes_of x.history
    collected_and_held =
        let g = after_good h in
        rw (g.text, g.gathered, ← bytes_append) (ap bytes_of (sym g.split))

    -- and collected were the records before the last collection, held are those since
    pub collected_then_held : (past : List Record) × (x.history ≡ past ++ x.since) × (x.gathered ≡ bytes_of past)
    collected_then_held = let g = after_good h in (g.past, g.split, g.gathered)

    -- and whoever has these bytes has the history: read at each place (`journal/specs/Records.read_at`), they are its records
    pub history_is_read_back : (i : ℕ) (past : Record) → i < length x.history
        → read_at (x.gathered ++ take x.satbox.held x.journal) i ≡ Ok (get_or x.history i past)
    history_is_read_back i past l =
        let g = after_good h in
        rw collected_and_held (read_back x.history x.satbox.sequence g.recorded (after_fit h) g.sequence i past l)

    -- 7. THE AUDITOR'S THREE QUESTIONS HAVE ANSWERS from the history alone (`audited`, which reads nothing but records):
    -- the frontends held, which are those that the table's streams have;
    pub held_frontends : (f : ℕ) → (f ≡ 0 → ⊥) → is_held f x.satbox.streams ≡ is_held_by (λ n. true) (audited f x.history)
    held_frontends f z = held_agrees x.history x.satbox (after_good h).whole (leads_agree (after_leads h)) f z

    -- the session that owns each, which is the open session that owns its stream (`holds`);
    pub owner_of_each : (f n : ℕ) → (f ≡ 0 → ⊥) → holds x.satbox f n ≡ is_held_by (λ m. eqb m n) (audited f x.history)
    owner_of_each = (leads_agree (after_leads h)).same

    -- and for each that let go, when: at that record the table's session let it go, at that clock of the table (`LetGo`)
    pub when_let_go : (f n clock : ℕ) → (f ≡ 0 → ⊥) → audited f x.history ≡ let_go n clock → LetGo [] (fresh settings) x.history x.satbox f n clock
    when_let_go f n clock z e = let_go_law f n clock z (λ q. never_let_go q) (after_leads h) e

    -- AT EVERY RECORD these agree with the table at that moment: the life is a chain of tables from the fresh box to this one (`Leads`). Each record is
    -- written by one step of it, which is an opening or a closing in the table (`Notes`); no other step opens or closes anything (`Quiet`); and after
    -- each step the history so far and the table agree (`Agree`)
    pub agree_at_every_record : Leads [] (fresh settings) x.history x.satbox
    agree_at_every_record = after_leads h

    -- no record is of nobody: the step that writes one opens one session more or closes one, no other step does, and so as many are open as the
    -- history has openings less closings (`says_opened`, `says_closed`)
    pub each_record_is_of_one : {t : SatBox} {d : Did} → Notes t d → open_count d.satbox + count says_closed d.records ≡ open_count t + count says_opened d.records
    each_record_is_of_one = note_moves_one

    pub no_other_step_opens_or_closes : {t u : SatBox} → Quiet t u → open_count u ≡ open_count t
    no_other_step_opens_or_closes = quiet_moves_none

    pub open_are_the_opened_and_not_closed : open_count x.satbox + count says_closed x.history ≡ count says_opened x.history
    open_are_the_opened_and_not_closed = omega (arith, leads_count (after_leads h))

    -- and so is each call of it, from the box before it to the box after it
    pub agree_within_a_call : (c : Call) → is_call settings.size c ≡ true → Leads x.history x.satbox (live c x).history (live c x).satbox
    agree_within_a_call c e = live_leads (after_good h) (leads_agree (after_leads h)) c e
