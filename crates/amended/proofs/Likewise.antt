-- ORDER 1, AS BEFORE: on a box whose frontends reach all four sources every request does what document 01 says where order 1 has other words: the same answer, table
-- and records. It stands apart from those words in `AsBefore`, on which it rests, so that others there are refused where they stand. Assumes nothing.
use mathlib.Core.Path.{◌≡◌, refl, sym, ◌∙◌, ap, subst}
use mathlib.Core.Bool.{Bool, true, false, not, cond, ◌&&◌}
use mathlib.Core.List.{List}
use Prim.Native.Nat.{ℕ, ◌≤◌}
use native.Mathlib.Omega.{arith}
use lib.Dec.{eqb, leb, ltb}
use lib.ListN.{length}
use borrow.Author.Tests.{eq-eqb, ne_eqb, eqb-true, leb-true, leb-false, le-leb, not-true}
use Rattle.scan.specs.Lists.{is_between}
use Rattle.scan.proofs.Bools.{never, and_both, Case as Test, is, isnt, case, Same, same, other, sames}
use Rattle.refusals.specs.Refusals as reading
use Rattle.aim.specs.declared.Method.{Method}
use Rattle.aim.specs.declared.Method.TheVariants.{Options, Setup, Play, Teardown, Other}
use Rattle.reader.specs.Request.{request_refusal}
use Rattle.stream.specs.Pids.{chosen}
use Rattle.stream.specs.Values.{go_together, merged}
use Rattle.stream.specs.Streams.{blank, changed, merge_of}
use Rattle.stream.specs.Arrays.{are_fit}
use Rattle.stream.specs.declared.Stream.{Stream}
use Rattle.stream.specs.declared.Refusal.{Refusal}
use Rattle.stream.specs.declared.Refusal.TheVariants.{Combination, TooMany}
use Rattle.std.specs.Prelude.{Result, Ok, Err, None}
use Rattle.table.specs.declared.SatBox.{SatBox}
use Rattle.finding.specs.Finding.{lowest_id, is_held, can_feed, choice}
use Rattle.closings.specs.Closing.{restreamed}
use Rattle.closings.proofs.Keeping.{Whole}
use Rattle.steps.specs.Sights.{Asked, Lists, asked_of, lists_of, sight_of}
use Rattle.steps.specs.Steps.{is_passed, is_named, read_case}
use Rattle.serving.specs.Serving.{has_place, has_room, guest, can_join, joining, can_open, opening, source_of, feed_of, merging, stream_after, merge_case, can_seat, case_of, kept, Serving, granted, retuning, grant, denied, served, client_of, answered}
use Rattle.serving.specs.declared.opening.Client.{Client}
use Rattle.amended.proofs.Reaching.{AllReach, is_free_frontend, feeds_if_free, new_range, case_without}
use Rattle.amended.proofs.Choosing.{lowest_free_taken, case_without_law}
use Rattle.promises.proofs.Passing.{Changing, through, can_open_law, new_merged}
use Rattle.serving.proofs.Kept.{kept_settings, kept_whole}
use Rattle.serving.proofs.Branching.{merging_feed, merging_src}
use Rattle.steps.proofs.ReplyLaws.{passed_none}
use Rattle.steps.proofs.Telling.{asked_fit}
use Rattle.amended.proofs.AsBefore.{lowest_frontend, feed_before, merging_before, queried_before, can_open_before, can_seat_before, case_before, opening_before, retuning_before, grant_before, served_before, answered_before, lowest}

-- what becomes of a query, by the two rules that may refuse it, is the same for any streams
abbrev settled : Bool → Bool → Stream → Result Stream Refusal
settled b c x = cond b (Err Combination) (cond c (Err TooMany) (Ok x))

settled_alike : (b c : Bool) (x y : Stream) → merge_case (settled b c x) ≡ merge_case (settled b c y)
settled_alike true c x y = refl
settled_alike false true x y = refl
settled_alike false false x y = refl

blank_case : (f g : ℕ) (codes pids delpids addpids : List ℕ) → merge_case (merge_of (blank f) codes pids delpids addpids) ≡ merge_case (merge_of (blank g) codes pids delpids addpids)
unfolding merge_of chosen
blank_case f g codes pids delpids addpids =
    settled_alike (not (go_together (merged (blank f).values codes))) (ltb 32 (length (chosen (blank f) codes pids delpids addpids).list))
    (changed (blank f) (merged (blank f).values codes) (chosen (blank f) codes pids delpids addpids))
    (changed (blank g) (merged (blank g).values codes) (chosen (blank g) codes pids delpids addpids))

cond_alike : (b : Bool) {x y : Serving} (z : Serving) → (b ≡ true → x ≡ y) → cond b x z ≡ cond b y z
cond_alike true z h = h refl
cond_alike false z h = refl

module _ (t : SatBox) (w : Whole t) (reach : AllReach t.settings) where
  free_is : (f : ℕ) → is_free_frontend t f ≡ true → (1 ≤ f) × (f ≤ t.settings.frontends) × (is_held f t.streams ≡ false)
  free_is f e =
      let a = and_both (is_between 1 t.settings.frontends f) _ e in
      let b = and_both (leb 1 f) _ a.0 in
      (leb-true _ _ b.0, leb-true _ _ b.1, not-true _ a.1)

  is_free_law : lowest_frontend t ≤ t.settings.frontends → is_free_frontend t (lowest_frontend t) ≡ true
  is_free_law h =
      rw (le-leb 1 (lowest_frontend t) (lowest t w reach).low, le-leb (lowest_frontend t) t.settings.frontends h, (lowest t w reach).free (omega arith))

  none_lower : (f : ℕ) → is_free_frontend t f ≡ true → lowest_frontend t ≤ f
  none_lower f e = by (case (leb (lowest_frontend t) f))
    where
      by : Test (leb (lowest_frontend t) f) → lowest_frontend t ≤ f
      by (is y) = leb-true _ _ y
      by (isnt n) = let z = free_is f e in never ((lowest t w reach).held f z.0 (leb-false _ _ n)) z.2

  module _ (source : ℕ) (from : 1 ≤ source) (to : source ≤ 4) where
    -- the choice, where it can feed the stream, is the lowest free one; and where it cannot, no frontend is free
    chosen_lowest : can_feed t source (choice t source) ≡ true → choice t source ≡ lowest_frontend t
    chosen_lowest e =
        let free = sym (feeds_if_free t reach source from to (choice t source)) ∙ e in
        let z = free_is (choice t source) free in
        let h = none_lower (choice t source) free in
        let k = (lowest_free_taken t reach source from to w (lowest_frontend t) (is_free_law (omega (arith, z.1)))).1 in
        omega arith

    same_test : can_feed t source (choice t source) ≡ is_free_frontend t (lowest_frontend t)
    same_test = by (case (can_feed t source (choice t source))) (case (is_free_frontend t (lowest_frontend t)))
      where
        by : Test (can_feed t source (choice t source)) → Test (is_free_frontend t (lowest_frontend t)) → can_feed t source (choice t source) ≡ is_free_frontend t (lowest_frontend t)
        by (is y) c = feeds_if_free t reach source from to (choice t source) ∙ ap (is_free_frontend t) (chosen_lowest y)
        by (isnt n) (isnt m) = rw (n, m)
        by (isnt n) (is m) = never (feeds_if_free t reach source from to (choice t source) ∙ (lowest_free_taken t reach source from to w (lowest_frontend t) m).0) n

  module _ (a : Asked) (l : Lists) (fit : are_fit a.codes ≡ true) where
    feeds_alike : can_feed t (source_of (sight_of t a)) (feed_of t (sight_of t a)) ≡ is_free_frontend t (feed_before t (sight_of t a))
    feeds_alike = by (sames (sight_of t a).fe 0)
      where
        by : Same (sight_of t a).fe 0 → can_feed t (source_of (sight_of t a)) (feed_of t (sight_of t a)) ≡ is_free_frontend t (feed_before t (sight_of t a))
        by (same z) = rw (eq-eqb _ 0 z) (same_test (source_of (sight_of t a)) (new_range t w reach a fit).0 (new_range t w reach a fit).1)
        by (other z) = rw (ne_eqb _ 0 z) (feeds_if_free t reach (source_of (sight_of t a)) (new_range t w reach a fit).0 (new_range t w reach a fit).1 (sight_of t a).fe)

    -- a frontend that is taken is the one of before
    feed_alike : can_feed t (source_of (sight_of t a)) (feed_of t (sight_of t a)) ≡ true → feed_of t (sight_of t a) ≡ feed_before t (sight_of t a)
    feed_alike = by (sames (sight_of t a).fe 0)
      where
        by : Same (sight_of t a).fe 0 → can_feed t (source_of (sight_of t a)) (feed_of t (sight_of t a)) ≡ true → feed_of t (sight_of t a) ≡ feed_before t (sight_of t a)
        by (same z) e = rw (eq-eqb _ 0 z) (chosen_lowest (source_of (sight_of t a)) (new_range t w reach a fit).0 (new_range t w reach a fit).1 (rw (eq-eqb _ 0 z) at e))
        by (other z) e = rw (ne_eqb _ 0 z)

    -- 18: the same openings pass
    seats_alike : can_seat t (sight_of t a) ≡ can_seat_before t (sight_of t a)
    seats_alike = ap (λ b. cond (eqb (sight_of t a).stream 0) (has_place t && (b && has_room t)) (can_join (sight_of t a).stream t)) feeds_alike

    -- 16 and 17: what becomes of a query does not rest on the frontend
    query_alike : merge_case (merging t a l) ≡ merge_case (merging_before t a l)
    unfolding merging
    query_alike = by (sames a.stream 0)
      where
        by : Same a.stream 0 → merge_case (merging t a l) ≡ merge_case (merging_before t a l)
        by (same z) = rw (eq-eqb a.stream 0 z) (blank_case _ _ a.codes l.pids l.delpids l.addpids)
        by (other z) = rw (ne_eqb a.stream 0 z)

    -- THE CASE
    pub case_alike : case_of t a l ≡ case_before t a l
    unfolding case_without
    case_alike = case_without_law t w reach a fit l ∙ rw (query_alike, seats_alike)

    after_alike : feed_of t (sight_of t a) ≡ feed_before t (sight_of t a) → stream_after t a l ≡ queried_before t a l
    unfolding merging
    after_alike e = rw e

    -- A SETUP OR A PLAY IN A SESSION
    retuning_alike : retuning t a l ≡ retuning_before t a l
    unfolding merging restreamed
    retuning_alike = by (sames a.stream 0)
      where
        by : Same a.stream 0 → retuning t a l ≡ retuning_before t a l
        by (same z) = rw z
        by (other z) = rw (ne_eqb a.stream 0 z)

    module _ (client : Client) (passed : case_of t a l ≡ None) where
      changing : Changing t a l
      changing = (through t a l passed).1

      -- A SETUP WITHOUT ONE, for a new stream
      opening_alike : a.method ≡ Setup → is_named (sight_of t a) ≡ false → a.stream ≡ 0 → opening (stream_after t a l) client t ≡ opening_before (queried_before t a l) client t
      unfolding opening sight_of
      opening_alike setup stranger none =
          let m = stream_after t a l in
          let y = can_open_law t a l changing setup stranger none in
          let f = feed_alike (and_both (can_feed t (source_of (sight_of t a)) (feed_of t (sight_of t a))) _ (and_both (has_place t) _ y).1).0 in
          let src = merging_src t a l client (sight_of t a) refl none (new_merged t a l changing setup stranger none) in
          let feed = merging_feed t a l client (sight_of t a) refl none in
          let open-there : can_open m.values.src m.frontend t ≡ true = rw (src, feed) y in
          let before-there : can_open_before m.frontend t ≡ true = rw (feed, f) (sym (ap (λ b. has_place t && (b && has_room t)) feeds_alike) ∙ y) in
          rw (← after_alike f, open-there, before-there)

      grant_alike : (k : Method) → a.method ≡ k → grant k t a l client ≡ grant_before k t a l client
      grant_alike Options e = refl
      grant_alike Setup e = by (case (is_named (sight_of t a)))
        where
          by : Test (is_named (sight_of t a)) → grant Setup t a l client ≡ grant_before Setup t a l client
          by (is y) = rw y retuning_alike
          by (isnt n) = rw n (cond_alike (eqb a.stream 0) (granted (joining a.stream client t) (guest 0 a.stream client t)) (λ z. ap (λ d. granted d (guest 1 (lowest_id t.streams) client t)) (opening_alike e n (eqb-true _ _ z))))
      grant_alike Play e = retuning_alike
      grant_alike Teardown e = refl
      grant_alike Other e = refl

    -- WHAT IS DONE, and the session that the answer is about
    pub served_alike : (client : Client) → served t a l client ≡ served_before t a l client
    unfolding served served_before
    served_alike client = by (case (is_passed (case_of t a l)))
      where
        by : Test (is_passed (case_of t a l)) → served t a l client ≡ served_before t a l client
        by (isnt n) = let m = sym (ap is_passed case_alike) ∙ n in rw (n, m, case_alike)
        by (is y) =
            let m = sym (ap is_passed case_alike) ∙ y in
            rw (y, m) (grant_alike client (passed_none (case_of t a l) y) a.method refl)

-- ANY REQUEST, of any bytes s: steps 1 to 18 on a swept table of such a box give document 01's session, case, table and records, and with these its answer
pub answered_as_before : (s : List ℕ) (address draw : ℕ) (t : SatBox) → Whole t → AllReach t.settings → answered s address draw t ≡ answered_before s address draw t
unfolding answered answered_before
answered_as_before s address draw t w reach =
    let f = t.settings.frontends in
    let a = asked_of f s in
    cond_alike (reading.is_read (request_refusal f s)) (denied t (read_case (request_refusal f s)))
    (λ e. served_alike (kept a t) (kept_whole a t w) (subst AllReach (sym (kept_settings a t)) reach) a (lists_of s) (asked_fit f s) (client_of address draw a))
