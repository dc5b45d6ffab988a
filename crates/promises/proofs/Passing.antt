-- What is known of a request that steps 11 to 18 let through, beside what the box's own proofs know of it. Assumes nothing.
use mathlib.Core.Path.{◌≡◌, refl}
use mathlib.Core.Bool.{Bool, true, false, not, ◌&&◌}
use Prim.Native.Nat.{ℕ}
use lib.Dec.{eqb}
use lib.ListN.{get_or}
use borrow.Author.Tests.{ne_eqb, eqb-false, not-false}
use Rattle.scan.proofs.Bools.{never, cond_keeps}
use Rattle.aim.specs.declared.Method.TheVariants.{Setup, Teardown}
use Rattle.std.specs.Prelude.{Result, Ok, Err, Option, Some, None}
use Rattle.std.specs.Result.{IsOk}
use Rattle.stream.specs.declared.Stream.{Stream}
use Rattle.stream.specs.declared.Refusal.{Refusal}
use Rattle.stream.specs.declared.Refusal.TheVariants.{Combination as Clash, TooMany}
use Rattle.table.specs.Table.{stream_of}
use Rattle.table.specs.Reach.{has_source, set_of}
use Rattle.table.specs.declared.SatBox.{SatBox}
use Rattle.steps.specs.Sights.{Asked, Lists, sight_of}
use Rattle.steps.specs.Steps.{is_passed, is_setup, is_named, table_case}
use Rattle.steps.specs.declared.Sight.{Sight}
use Rattle.steps.specs.declared.cases.Case.{Case as Verdict}
use Rattle.steps.specs.declared.cases.Case.TheVariants.{NotReached, Full}
use Rattle.steps.proofs.ReplyLaws.{passed_none}
use Rattle.steps.proofs.Telling.{chain}
use Rattle.closings.specs.Does.{Closable}
use Rattle.serving.specs.Serving.{can_join, can_open, source_of, feed_of, merging, merges, merge_case, is_unreached, is_opening, can_seat, case_of, Serving, grant, denied, served}
use Rattle.serving.specs.Turns.{change_case}
use Rattle.serving.specs.declared.opening.Client.{Client}
use Rattle.closings.proofs.Keeping.{Whole}
use Rattle.serving.proofs.Passing.{Untested, untested, named_needed, named_closable}
use Rattle.scan.specs.Lists.{◌gives◌or◌}

-- STEPS 16 TO 18: none of their tests holds
pub record Changing (t : SatBox) (a : Asked) (l : Lists) : Type 0 where
  pub query : merges (sight_of t a) && not (is_passed (merge_case (merging t a l))) ≡ false
  pub src : merges (sight_of t a) && (not (eqb a.stream 0) && is_unreached (sight_of t a)) ≡ false
  pub seat : is_opening (sight_of t a) && not (can_seat t (sight_of t a)) ≡ false

-- a case that is given only where it does not pass
first_none : (c d : Option Verdict) → (not (is_passed c) gives c or d) ≡ None → (c ≡ None) × (d ≡ None)
first_none None d e = (refl, e)
first_none (Some c) d e = cc

chain_of : (m : Bool) (c d : Option Verdict) → ((m && not (is_passed c)) gives c or d) ≡ None → (m && not (is_passed c) ≡ false) × (d ≡ None)
chain_of false c d e = (refl, e)
chain_of true c d e = let h = first_none c d e in (rw h.0, h.1)

changing : (t : SatBox) (a : Asked) (l : Lists) → change_case t a l ≡ None → Changing t a l
changing t a l e =
    let m = chain_of (merges (sight_of t a)) (merge_case (merging t a l)) _ e in
    let r = chain (merges (sight_of t a) && (not (eqb a.stream 0) && is_unreached (sight_of t a))) NotReached _ m.1 in
    let s = chain (is_opening (sight_of t a) && not (can_seat t (sight_of t a))) Full None r.1 in
    record { query = m.0; src = r.0; seat = s.0 }

-- ALL OF THEM
pub through : (t : SatBox) (a : Asked) (l : Lists) → case_of t a l ≡ None → Untested (sight_of t a) × Changing t a l
unfolding case_of
through t a l e = let h = first_none (table_case (sight_of t a)) (change_case t a l) e in (untested (sight_of t a) h.0, changing t a l h.1)

-- what holds of what is granted, and of what is denied, holds of a request
pub served_by : (t : SatBox) (a : Asked) (l : Lists) (client : Client) (P : Serving → Type 0)
    → (Untested (sight_of t a) → Changing t a l → P (grant a.method t a l client))
    → (is_passed (case_of t a l) ≡ false → P (denied t (case_of t a l))) → P (served t a l client)
unfolding served
served_by t a l client P f g =
    cond_keeps P (is_passed (case_of t a l)) (grant a.method t a l client) (denied t (case_of t a l))
    (λ e. let h = through t a l (passed_none (case_of t a l) e) in f h.0 h.1) g

-- of two tests that do not hold together, one holds and the other does not
and_other : (x y : Bool) → x && y ≡ false → x ≡ true → y ≡ false
and_other x y e h = rw h at e

-- 11: a TEARDOWN names an open session
pub tears_closable : (t : SatBox) (a : Asked) → Whole t → Untested (sight_of t a) → a.method ≡ Teardown → Closable t (sight_of t a).place
unfolding sight_of
tears_closable t a w p e = named_closable t w a (sight_of t a) refl (named_needed (sight_of t a) p (rw e))

-- 15: a SETUP has a port
pub through_port : (v : Sight) → Untested v → is_setup v.method ≡ true → v.port ≡ 0 → ⊥
through_port v p setup = eqb-false _ _ (and_other (is_setup v.method) _ p.port setup)

-- the src of a new stream, and the frontend that it takes
abbrev pub source : SatBox → Asked → ℕ
source t a = source_of (sight_of t a)

abbrev pub feed : SatBox → Asked → ℕ
feed t a = feed_of t (sight_of t a)

module _ (t : SatBox) (a : Asked) (l : Lists) (p : Changing t a l) where
  merged_only : (r : Result Stream Refusal) → not (is_passed (merge_case r)) ≡ false → IsOk r
  merged_only (Ok m) c = refl
  merged_only (Err Clash) c = never refl c
  merged_only (Err TooMany) c = never refl c

  -- 16 and 17: a query that is merged goes through
  pub through_merged : merges (sight_of t a) ≡ true → IsOk (merging t a l)
  through_merged e = merged_only (merging t a l) (and_other (merges (sight_of t a)) _ p.query e)

  -- 17, for a src: one that is given is reached by the frontend of the stream
  pub through_reached : merges (sight_of t a) ≡ true → (a.stream ≡ 0 → ⊥) → (get_or a.codes 0 0 ≡ 0 → ⊥) → has_source (set_of t.settings (stream_of t a.stream).frontend) (get_or a.codes 0 0) ≡ true
  unfolding sight_of
  through_reached e some given =
      let r : not (has_source (set_of t.settings (stream_of t a.stream).frontend) (get_or a.codes 0 0)) ≡ false = rw (ne_eqb a.stream 0 some, ne_eqb (get_or a.codes 0 0) 0 given) at (and_other (merges (sight_of t a)) _ p.src e) in
      not-false _ r

  -- 18: an opening has all that it takes
  through_seat : is_opening (sight_of t a) ≡ true → can_seat t (sight_of t a) ≡ true
  through_seat e = not-false _ (and_other (is_opening (sight_of t a)) _ p.seat e)

  -- A SETUP WITHOUT A SESSION
  module _ (setup : a.method ≡ Setup) (stranger : is_named (sight_of t a) ≡ false) where
    -- that names a stream: there is all that joining takes
    pub can_join_law : (a.stream ≡ 0 → ⊥) → can_join a.stream t ≡ true
    unfolding sight_of
    can_join_law some = rw (ne_eqb a.stream 0 some) at (through_seat (rw (setup, stranger)))

    -- that names none: there is all that opening takes, and the query is merged into a new stream
    module _ (none : a.stream ≡ 0) where
      pub can_open_law : can_open (source t a) (feed t a) t ≡ true
      unfolding sight_of
      can_open_law = rw none at (through_seat (rw (setup, stranger)))

      pub new_merged : IsOk (merging t a l)
      unfolding sight_of
      new_merged = through_merged (rw (setup, none))
