-- Steps 11 to 15 let an OPTIONS through that names an open session, and a TEARDOWN of its stream. `Granting` cites them: they stand apart from what it says of
-- the answer, so that a wrong premise there is refused at that. Assumes nothing.
use mathlib.Core.Path.{◌≡◌, refl, ap, subst}
use mathlib.Core.Bool.{Bool, true, false, not, ◌&&◌}
use mathlib.Core.List.{List, ◌∷◌}
use Prim.Native.Nat.{ℕ, ◌<◌}
use lib.Dec.{ltb}
use lib.ListN.{length, get_or}
use borrow.Author.Tests.{lt-ltb, eq-eqb, ne_eqb}
use Rattle.std.specs.Prelude.{None, Option, Some}
use Rattle.scan.proofs.Bools.{never, Case as Test, is, isnt, case}
use Rattle.target.specs.Uri.{is_uri, has_query}
use Rattle.aim.specs.Aim.{uri_refusal}
use Rattle.aim.specs.Found.{takes_no_query}
use Rattle.refusals.specs.Refusals as reading
use Rattle.aim.specs.declared.Method.TheVariants.{Options, Teardown}
use Rattle.refusals.specs.declared.Refusal.{Refusal}
use Rattle.refusals.specs.declared.Refusal.TheVariants as refusal
use Rattle.reader.specs.Request.{method_of, uri_of, head_refusal, request_refusal}
use Rattle.stream.specs.Streams.{past_stream}
use Rattle.table.specs.Table.{session_at, stream_of}
use Rattle.table.specs.declared.SatBox.{SatBox}
use Rattle.table.proofs.Changes.{seated_live}
use Rattle.steps.specs.Sights.{Asked, codes_in, asked_of, place_named, sight_of}
use Rattle.steps.specs.Steps.{table_case}
use Rattle.closings.proofs.Keeping.{Whole}
use Rattle.serving.proofs.Passing.{named_closable}
use Rattle.scan.specs.Lists.{◌gives◌or◌}
use Rattle.aim.specs.Query.{text_in, code_in}
use Rattle.aim.proofs.AimLaws.{unqueried}
use Rattle.tuning.proofs.Words.{value_none}

-- what no refusal of a chain stops
goes_on : (b : Bool) (c : Refusal) (d : Option Refusal) → (b gives Some c or d) ≡ None → (b ≡ false) × (d ≡ None)
goes_on true c d e = cc
goes_on false c d e = (refl, e)

module _ (s : List ℕ) (address draw : ℕ) (t : SatBox) (read : request_refusal t.settings.frontends s ≡ None) where
  abbrev a : Asked
  a = asked_of t.settings.frontends s

  abbrev place : ℕ
  place = place_named a.session t

  -- step 8: an OPTIONS and a TEARDOWN have no query
  uri_read : uri_refusal t.settings.frontends (method_of s) (uri_of s) ≡ None
  unfolding request_refusal
  uri_read = by (case (reading.is_read (head_refusal s)))
    where
      by : Test (reading.is_read (head_refusal s)) → uri_refusal t.settings.frontends (method_of s) (uri_of s) ≡ None
      by (is y) = rw y at read
      by (isnt n) = never (ap reading.is_read (rw n at read)) n

  untaken : has_query (uri_of s) && takes_no_query (method_of s) ≡ false
  unfolding uri_refusal
  untaken =
      let long = goes_on (ltb 1024 (length (uri_of s))) refusal.UriLong _ uri_read in
      let form = goes_on (not (is_uri (uri_of s))) refusal.UriForm _ long.1 in
      (goes_on (has_query (uri_of s) && takes_no_query (method_of s)) refusal.QueryUntaken _ form.1).0

  module _ (takes : takes_no_query (method_of s) ≡ true) where
    unasked : has_query (uri_of s) ≡ false
    unasked = by (case (has_query (uri_of s)))
      where
        by : Test (has_query (uri_of s)) → has_query (uri_of s) ≡ false
        by (is y) = never refl (rw (y, takes) at untaken)
        by (isnt n) = n

    no_query : a.query ≡ false
    no_query = rw (unqueried (uri_of s) unasked)

    no_fe : get_or a.codes 1 0 ≡ 0
    unfolding codes_in code_in text_in
    no_fe = rw (unasked, value_none t.settings.frontends 1)

  module _ (named : place < 32) where
    -- OPTIONS
    module _ (options : method_of s ≡ Options) where
      pub options_table : table_case (sight_of t a) ≡ None
      unfolding table_case sight_of
      options_table = rw (options, lt-ltb place 32 named, no_query (rw options))

    -- TEARDOWN of the session's own stream, on a well-formed table
    module _ (w : Whole t) (teardown : method_of s ≡ Teardown) (own : a.stream ≡ (session_at t place).stream) where
      live : (stream_of t a.stream).frontend ≡ 0 → ⊥
      unfolding sight_of
      live z =
          seated_live t.sessions (past_stream ∷ t.streams) w.formed.seats place
          (named_closable t w a (sight_of t a) refl (lt-ltb place 32 named)).some (subst (λ k. (stream_of t k).frontend ≡ 0) own z)

      some : a.stream ≡ 0 → ⊥
      some z = live (ap (λ k. (stream_of t k).frontend) z)

      pub teardown_table : table_case (sight_of t a) ≡ None
      unfolding table_case sight_of
      teardown_table =
          rw (teardown, lt-ltb place 32 named, ne_eqb a.stream 0 some, ne_eqb (stream_of t a.stream).frontend 0 live, eq-eqb a.stream (session_at t place).stream own, no_fe (rw teardown), no_query (rw teardown))
