-- A history and a table that agree about the frontends agree still after an opening, with its record. Assumes nothing.
use mathlib.Core.Path.{◌≡◌, refl, sym, ◌∙◌, ap, subst}
use mathlib.Core.Bool.{Bool, true, false, ◌||◌, and-false, and-true, or-false}
use mathlib.Core.List.{List, ◌++◌}
use Prim.Native.Nat.{ℕ, zero, suc, ◌<◌}
use native.Mathlib.Omega.{arith}
use lib.Dec.{eqb}
use lib.ListN.{length, get_or}
use lib.Seq.{get_or-set_same}
use borrow.Author.Tests.{eq-eqb, ne_eqb, eqb-true, eqb-false, ltb-true}
use Rattle.scan.specs.Lists.{first}
use Rattle.scan.proofs.Bools.{and_both, Case, is, isnt, case}
use Rattle.journal.specs.declared.Record.{Record}
use Rattle.stream.specs.Streams.{past_stream}
use Rattle.stream.specs.declared.Stream.{Stream}
use Rattle.table.specs.Table.{any, count, no_session, is_free, session_at, stream_of, is_dead, is_on}
use Rattle.table.proofs.Ids.{stream_in}
use Rattle.finding.specs.Finding.{lowest_place, lowest_id}
use Rattle.table.specs.declared.Session.{Session}
use Rattle.table.specs.declared.SatBox.{SatBox}
use Rattle.table.proofs.Counts.{count_zero_at, first_passes}
use Rattle.table.proofs.Rules.{fed}
use Rattle.finding.proofs.Draws.{drawn_nonzero}
use Rattle.closings.specs.Closing.{restreamed, reseated, noting, record_of}
use Rattle.serving.specs.Serving.{has_place, guest, seating_as, can_join, can_open}
use Rattle.serving.specs.declared.opening.Client.{Client}
use Rattle.closings.proofs.Keeping.{Whole}
use Rattle.serving.proofs.OpeningKeeps.{new_feed, row}
use Rattle.lives.specs.Audit.{Frontend, noted_by, audited, Agree}
use Rattle.lives.proofs.Keepers.{any_set_same, any_set_new, any_none, noted_joined, keeps_feed, is_holder, keeps}
use Rattle.lives.proofs.Agreeing.{agree_noted, agree_freed}

-- who owns nothing keeps nothing, and no free place does
joiner_keeps : (ms : List Stream) (f n : ℕ) (s : Session) → s.owner ≡ 0 → keeps ms f n s ≡ false
joiner_keeps ms f n s e = rw (e, and-false (is_on s.stream s))

free_keeps : (ms : List Stream) (f n : ℕ) (s : Session) → s.number ≡ 0 → keeps ms f n s ≡ false
free_keeps ms f n s e = rw e

-- nobody keeps a frontend that no stream has
unfed : (ms : List Stream) (f : ℕ) → count (fed f) ms ≡ 0 → (f ≡ 0 → ⊥) → (id : ℕ) → (stream_in ms id).frontend ≡ f → ⊥
unfed ms f none z zero e = z (sym e)
unfed ms f none z (suc k) e =
    eqb-false (get_or ms k past_stream).frontend f (count_zero_at (fed f) ms k past_stream (ne_eqb 0 f (λ q. z (sym q))) none) e

unfed_keeps : (ms : List Stream) (f n : ℕ) (l : List Session) → count (fed f) ms ≡ 0 → (f ≡ 0 → ⊥) → any (keeps ms f n) l ≡ false
unfed_keeps ms f n l none z =
    any_none (keeps ms f n) l no_session (λ i. keeps_feed ms f n (get_or l i no_session) (unfed ms f none z (get_or l i no_session).stream))

-- who owns a stream keeps its frontend
owner_keeps : (ms : List Stream) (f n : ℕ) (s : Session) → (s.number ≡ 0 → ⊥) → (s.owner ≡ 0 → ⊥) → (stream_in ms s.stream).frontend ≡ f → keeps ms f n s ≡ eqb s.number n
owner_keeps ms f n s some own e =
    rw (ne_eqb s.number 0 some, eq-eqb s.stream s.stream refl, ne_eqb s.owner 0 own, eq-eqb (stream_in ms s.stream).frontend f e) (and-true (eqb s.number n))

-- where b says whether n kept f before, and r is the opening's record
opened_holds : (ms : List Stream) (f n : ℕ) (s : Session) (b : Bool) (r : Record) (a : Frontend) → r.kind ≡ 1 → r.session ≡ s.number → r.frontend ≡ (stream_in ms s.stream).frontend
    → (s.number ≡ 0 → ⊥) → (s.owner ≡ 0 → ⊥) → b ≡ is_holder n a → ((stream_in ms s.stream).frontend ≡ f → b ≡ false) → Case (eqb r.frontend f)
    → keeps ms f n s || b ≡ is_holder n (noted_by f r a)
opened_holds ms f n s b r a kind number feed some own e none (is y) =
    let q : (stream_in ms s.stream).frontend ≡ f = sym feed ∙ eqb-true r.frontend f y in
    rw (owner_keeps ms f n s some own q, none q, y, kind, number) (or-false (eqb s.number n))
opened_holds ms f n s b r a kind number feed some own e none (isnt y) =
    rw (keeps_feed ms f n s (λ q. eqb-false r.frontend f y (feed ∙ q)), y) e

-- the lowest free place is a place, and is free
pub place_free : (t : SatBox) → has_place t ≡ true → (lowest_place t.sessions < length t.sessions) × ((session_at t (lowest_place t.sessions)).number ≡ 0)
place_free t e =
    let h = ltb-true (lowest_place t.sessions) (length t.sessions) e in
    (h, eqb-true _ _ (first_passes is_free t.sessions no_session h))

-- A SESSION JOINS
pub agree_joined : (h : List Record) (id : ℕ) (client : Client) (t : SatBox) → can_join id t ≡ true → Agree h t → Agree (h ++ (seating_as 2 (guest 0 id client t) t).records) (seating_as 2 (guest 0 id client t) t).satbox
unfolding seating_as noting reseated
agree_joined h id client t e g =
    let s = guest 0 id client t in
    let place = lowest_place t.sessions in
    let free = (place_free t (and_both (has_place t) _ e).0).1 in
    agree_noted h (reseated place s t) (record_of 2 0 s t)
    (λ f n z.
    any_set_same (keeps t.streams f n) t.sessions place s no_session (joiner_keeps t.streams f n s refl ∙ sym (free_keeps t.streams f n (session_at t place) free))
    ∙ (g.same f n z ∙ ap (is_holder n) (sym (noted_joined f (record_of 2 0 s t) refl (audited f h)))))

-- A NEW STREAM OPENS, with its owner
module _ (h : List Record) (m : Stream) (client : Client) (t : SatBox) (short : client.draw < 4294967296) (e : can_open m.values.src m.frontend t ≡ true) (w : Whole t) (g : Agree h t) where
  abbrev id : ℕ
  id = lowest_id t.streams

  abbrev s : Session
  s = guest 1 id client t

  abbrev u : SatBox
  u = restreamed id m t

  -- nobody is on it yet
  pub nobody : count (is_on id) t.sessions ≡ 0
  nobody = w.formed.seats.homes id (eqb-true _ _ (first_passes is_dead t.streams past_stream (row m.values.src m.frontend t e w)))

  pub agree_new : Agree h u
  agree_new = agree_freed t g id m nobody

  new_frontend : (stream_of u id).frontend ≡ m.frontend
  unfolding restreamed
  new_frontend = ap (λ (x : Stream). x.frontend) (get_or-set_same t.streams (first is_dead t.streams) m past_stream (row m.values.src m.frontend t e w))

  some : s.number ≡ 0 → ⊥
  some = drawn_nonzero t.sessions client.draw w.places short

  -- and nobody has its frontend
  fresh : (f n : ℕ) → (f ≡ 0 → ⊥) → (stream_of u id).frontend ≡ f → any (keeps u.streams f n) u.sessions ≡ false
  fresh f n z q =
      agree_new.same f n z ∙ (sym (g.same f n z) ∙ unfed_keeps t.streams f n t.sessions (subst (λ k. count (fed k) t.streams ≡ 0) (sym new_frontend ∙ q) (new_feed m.values.src m.frontend t e)) z)

  abbrev r : Record
  r = record_of 1 0 s u

  pub agree_opened : Agree (h ++ (seating_as 1 s u).records) (seating_as 1 s u).satbox
  unfolding seating_as noting reseated restreamed
  agree_opened =
      let place = lowest_place t.sessions in
      let free = place_free t (and_both (has_place t) _ e).0 in
      agree_noted h (reseated place s u) r
      (λ f n z.
      any_set_new (keeps u.streams f n) t.sessions place s no_session free.0 (free_keeps u.streams f n (session_at t place) free.1)
      ∙ opened_holds u.streams f n s (any (keeps u.streams f n) t.sessions) r (audited f h) refl refl refl some (λ q. omega arith) (agree_new.same f n z) (fresh f n z) (case _))
