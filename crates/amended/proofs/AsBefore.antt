-- ORDER 1, AS BEFORE: what document 01 says where order 1 has other words, the words of the other orders as they are; that on a box whose frontends reach all four
-- sources every request does so (the same answer, table and records) is in `Likewise`, and that every table is judged so stands here. Assumes nothing.
use mathlib.Core.Path.{◌≡◌, refl}
use mathlib.Core.Bool.{Bool, true, false, not, cond, ◌&&◌, ◌||◌, and-true}
use mathlib.Core.List.{List, [], ◌∷◌, map}
use Prim.Native.Nat.{ℕ, zero, suc, ◌+◌, ◌*◌, ◌%◌, ◌≤◌, ◌<◌}
use native.Mathlib.Omega.{arith}
use lib.Dec.{eqb, leb}
use borrow.Author.Tests.{eq-eqb, ne_eqb, leb-true}
use Rattle.scan.specs.Lists.{is_between, all, ◌gives◌or◌}
use Rattle.journal.specs.Records.{record_size}
use Rattle.scan.proofs.Bools.{never, and_both, Case as Test, is, isnt, case, Same, same, other, sames}
use Rattle.refusals.specs.Refusals as reading
use Rattle.aim.specs.declared.Method.{Method}
use Rattle.aim.specs.declared.Method.TheVariants.{Options, Setup, Play, Teardown, Other}
use Rattle.reader.specs.Request.{request_refusal}
use Rattle.stream.specs.Values.{are_in_range}
use Rattle.stream.specs.declared.Values.{Values}
use Rattle.stream.specs.Streams.{blank, is_sound, merge_of}
use Rattle.stream.proofs.Soundness.{sound_live}
use Rattle.stream.specs.declared.Stream.{Stream}
use Rattle.stream.specs.declared.Refusal.{Refusal}
use Rattle.std.specs.Prelude.{Result, Option, Some, None}
use Rattle.std.specs.Result.{result_unwrap_or}
use Rattle.table.specs.Table.{are_distinct, no_session, is_free, open_count, stream_of, is_live}
use Rattle.table.specs.Reach.{are_sets}
use Rattle.table.specs.Formed.{are_sizes, is_placed, are_owned, is_seated, is_blank, well_formed}
use Rattle.table.specs.declared.Settings.{Settings}
use Rattle.table.specs.declared.SatBox.{SatBox}
use Rattle.finding.specs.Finding.{lowest_id, is_held}
use Rattle.closings.specs.Closing.{Did, when, nothing, restreamed, closing}
use Rattle.closings.proofs.Keeping.{Whole}
use Rattle.steps.specs.Sights.{Asked, Lists, asked_of, lists_of, sight_of}
use Rattle.steps.specs.Steps.{is_passed, is_named, table_case, read_case}
use Rattle.steps.specs.declared.Sight.{Sight}
use Rattle.steps.specs.declared.cases.Case.{Case}
use Rattle.steps.specs.declared.cases.Case.TheVariants.{Full}
use Rattle.serving.specs.Serving.{has_place, has_room, guest, seating_as, can_join, joining, merges, merge_case, is_opening, with_session, kept, seat_after, Serving, granted, denied, client_of}
use Rattle.serving.specs.declared.opening.Client.{Client}
use Rattle.amended.proofs.Reaching.{AllReach, full_has, is_free_frontend}

-- DOCUMENT 01, WHERE ORDER 1 HAS OTHER WORDS. "the lowest free frontend"; F + 1 where none is free
abbrev lowest_from : SatBox → ℕ → ℕ → ℕ
lowest_from t zero f = f
lowest_from t (suc more) f = cond (is_held f t.streams) (lowest_from t more (suc f)) f

abbrev pub lowest_frontend : SatBox → ℕ
lowest_frontend t = lowest_from t t.settings.frontends 1

-- a new stream takes fe "and, without fe, the lowest free frontend"
abbrev pub feed_before : SatBox → Sight → ℕ
feed_before t v = cond (eqb v.fe 0) (lowest_frontend t) v.fe

abbrev pub unmerged_before : SatBox → Asked → Stream
unmerged_before t a = cond (eqb a.stream 0) (blank (feed_before t (sight_of t a))) (stream_of t a.stream)

abbrev pub merging_before : SatBox → Asked → Lists → Result Stream Refusal
merging_before t a l = merge_of (unmerged_before t a) a.codes l.pids l.delpids l.addpids

abbrev pub queried_before : SatBox → Asked → Lists → Stream
queried_before t a l = result_unwrap_or (merging_before t a l) (unmerged_before t a)

-- 18: not "a new stream whose fe is held, or with no fe and no frontend free"
abbrev pub can_open_before : ℕ → SatBox → Bool
can_open_before f t = has_place t && (is_free_frontend t f && has_room t)

abbrev pub can_seat_before : SatBox → Sight → Bool
can_seat_before t v = cond (eqb v.stream 0) (can_open_before (feed_before t v) t) (can_join v.stream t)

-- 11 to 18; 17 knows no src
abbrev pub case_before : SatBox → Asked → Lists → Option Case
case_before t a l =
    not (is_passed (table_case (sight_of t a))) gives table_case (sight_of t a) or
    (merges (sight_of t a) && not (is_passed (merge_case (merging_before t a l)))) gives merge_case (merging_before t a l) or
    (is_opening (sight_of t a) && not (can_seat_before t (sight_of t a))) gives Some Full or
    None

abbrev pub opening_before : Stream → Client → SatBox → Did
opening_before m client t =
    when (can_open_before m.frontend t) (seating_as 1 (guest 1 (lowest_id t.streams) client t) (restreamed (lowest_id t.streams) m t)) t

abbrev pub retuning_before : SatBox → Asked → Lists → Serving
retuning_before t a l =
    granted (nothing (with_session (sight_of t a).place (seat_after (sight_of t a)) (cond (merges (sight_of t a)) (restreamed a.stream (queried_before t a l) t) t)))
    (seat_after (sight_of t a))

abbrev pub seating_before : SatBox → Asked → Lists → Client → Serving
seating_before t a l client =
    cond (eqb a.stream 0)
    (granted (opening_before (queried_before t a l) client t) (guest 1 (lowest_id t.streams) client t))
    (granted (joining a.stream client t) (guest 0 a.stream client t))

abbrev pub grant_before : Method → SatBox → Asked → Lists → Client → Serving
grant_before Options t a l client = granted (nothing t) (sight_of t a).session
grant_before Setup t a l client = cond (is_named (sight_of t a)) (retuning_before t a l) (seating_before t a l client)
grant_before Play t a l client = retuning_before t a l
grant_before Teardown t a l client = granted (closing 1 (sight_of t a).place t) (sight_of t a).session
grant_before Other t a l client = granted (nothing t) no_session

unfoldable pub served_before : SatBox → Asked → Lists → Client → Serving
served_before t a l client = cond (is_passed (case_before t a l)) (grant_before a.method t a l client) (denied t (case_before t a l))

unfoldable pub answered_before : List ℕ → ℕ → ℕ → SatBox → Serving
answered_before s address draw t =
    let a = asked_of t.settings.frontends s in
    cond (reading.is_read (request_refusal t.settings.frontends s))
    (served_before (kept a t) a (lists_of s) (client_of address draw a))
    (denied t (read_case (request_refusal t.settings.frontends s)))

-- THE LOWEST: those below it are held, and it is not, if it is one of the box's
pub record Lowest (t : SatBox) (more f r : ℕ) : Type 0 where
  pub low : f ≤ r
  pub high : r ≤ f + more
  pub free : r < f + more → is_held r t.streams ≡ false
  pub held : (g : ℕ) → f ≤ g → g < r → is_held g t.streams ≡ true

lowest_from_law : (t : SatBox) (more f : ℕ) → Lowest t more f (lowest_from t more f)
lowest_from_law t zero f = record { low = omega arith; high = omega arith; free = λ h. absurd (omega arith); held = λ g l h. absurd (omega arith) }
lowest_from_law t (suc more) f = by (case _) (lowest_from_law t more (suc f))
  where
    below : is_held f t.streams ≡ true → (r : ℕ) → Lowest t more (suc f) r → (g : ℕ) → f ≤ g → g < r → Same f g → is_held g t.streams ≡ true
    below y r z g l h (same q) = rw (← q) y
    below y r z g l h (other q) = z.held g (omega arith) h

    by : Test (is_held f t.streams) → Lowest t more (suc f) (lowest_from t more (suc f)) → Lowest t (suc more) f (lowest_from t (suc more) f)
    by (is y) z =
        rw y
        (record {
          low = omega (arith, z.low);
          high = omega (arith, z.high);
          free = λ h. z.free (omega arith);
          held = λ g l h. below y _ z g l h (sames f g);
        })
    by (isnt n) z = rw n (record { low = omega arith; high = omega arith; free = λ h. n; held = λ g l h. absurd (omega arith) })

module _ (t : SatBox) (w : Whole t) (reach : AllReach t.settings) where
  pub lowest : Lowest t t.settings.frontends 1 (lowest_frontend t)
  lowest = lowest_from_law t t.settings.frontends 1

-- ANY TABLE with such settings: it is well formed by document 01's rules, so that every call is refused, and done, as before
unfoldable pub well_formed_before : SatBox → Bool
well_formed_before t =
    are_sizes t.settings
    && (are_distinct (map (λ s. s.number) t.sessions)
    && (all (λ s. is_free s || is_live (stream_of t s.stream)) t.sessions
    && (are_owned t.sessions 1 t.streams
    && (are_distinct (map (λ m. m.frontend) t.streams)
    && (all (is_sound t.settings.frontends) t.streams
    && (all (λ s. cond (is_free s) (is_blank s) (is_seated t.clock s)) t.sessions
    && (eqb (t.held % record_size) 0 && leb (t.held + record_size * open_count t) t.settings.size)))))))

src_live : (v : Values) → are_in_range v ≡ true → (1 ≤ v.src) × (v.src ≤ 4)
unfolding are_in_range
src_live v e =
    let b = and_both (leb 1 v.src) _ (by (case (is_between 1 4 v.src))) in
    (leb-true _ _ b.0, leb-true _ _ b.1)
  where
    by : Test (is_between 1 4 v.src) → is_between 1 4 v.src ≡ true
    by (is y) = y
    by (isnt n) = never e (rw n)

placed_alike : (s : Settings) → AllReach s → (m : Stream) → is_placed s m ≡ is_sound s.frontends m
placed_alike s reach m = by (case (is_sound s.frontends m)) (sames m.frontend 0)
  where
    by : Test (is_sound s.frontends m) → Same m.frontend 0 → is_placed s m ≡ is_sound s.frontends m
    by (isnt n) c = rw n
    by (is y) (same z) = rw (y, eq-eqb m.frontend 0 z)
    by (is y) (other z) =
        let l = sound_live s.frontends m y z in
        let r = src_live m.values l.ranged in
        rw (y, ne_eqb m.frontend 0 z, reach.full m.frontend (omega arith) l.within, full_has m.values.src r.0 r.1)

all_alike : (p q : Stream → Bool) → ((m : Stream) → p m ≡ q m) → (ms : List Stream) → all p ms ≡ all q ms
all_alike p q h [] = refl
all_alike p q h (m ∷ ms) = rw (h m, all_alike p q h ms)

pub formed_as_before : (t : SatBox) → AllReach t.settings → are_sets t.settings.frontends t.settings.reach ≡ true → well_formed t ≡ well_formed_before t
unfolding well_formed well_formed_before
formed_as_before t reach sets =
    rw (sets, and-true (are_sizes t.settings), all_alike (is_placed t.settings) (is_sound t.settings.frontends) (placed_alike t.settings reach) t.streams)
