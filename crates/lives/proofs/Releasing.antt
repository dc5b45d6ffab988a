-- What a closing does to who holds which frontend, and what a change of a stream that nobody is on. It stands apart from `Keepers`, on which it rests, so that
-- another holder there is refused where it stands. Assumes nothing.
use mathlib.Core.Path.{◌≡◌, refl, sym, ◌∙◌}
use mathlib.Core.Bool.{false}
use mathlib.Core.List.{List}
use Prim.Native.Nat.{ℕ, ◌≤◌, ◌<◌}
use native.Mathlib.Omega.{arith}
use lib.ListN.{length, get_or, set}
use borrow.Author.Tests.{eq-eqb, ne_eqb}
use Rattle.scan.proofs.Bools.{case}
use Rattle.stream.specs.declared.Stream.{Stream}
use Rattle.table.specs.Table.{any, count, no_session, has_number, with_stream, is_on}
use Rattle.table.proofs.Ids.{stream_in}
use Rattle.table.specs.declared.Session.{Session}
use Rattle.table.proofs.Counts.{bit_no, bit_yes, count_set, count_zero_at, none_count}
use Rattle.lives.proofs.Keepers.{any_set_same, any_alike, any_less, keeps, keeps_has, keeps_other, keeps_feed, off_keeps}

-- ONE CLOSES, whose number no other has
module _ (ms : List Stream) (l : List Session) (i : ℕ) (h : i < length l) (some : (get_or l i no_session).number ≡ 0 → ⊥) (once : count (has_number (get_or l i no_session).number) l ≤ 1) (f : ℕ) where
  pub closed_keeps : any (keeps ms f (get_or l i no_session).number) (set l i no_session) ≡ false
  closed_keeps =
      let n = (get_or l i no_session).number in
      let c = count_set (has_number n) l i no_session no_session h in
      let z : count (has_number n) (set l i no_session) ≡ 0 = omega (arith, c, bit_yes (eq-eqb n n refl), bit_no (ne_eqb 0 n (λ q. some (sym q)))) in
      any_less (keeps ms f n) (has_number n) (keeps_has ms f n) (set l i no_session) (none_count (has_number n) (set l i no_session) z)

  -- it kept no frontend but its stream's
  pub closed_kept : ((stream_in ms (get_or l i no_session).stream).frontend ≡ f → ⊥) → any (keeps ms f (get_or l i no_session).number) l ≡ false
  closed_kept g =
      let n = (get_or l i no_session).number in
      sym (any_set_same (keeps ms f n) l i no_session no_session (sym (keeps_feed ms f n (get_or l i no_session) g))) ∙ closed_keeps

  pub closed_kept_others : (n : ℕ) → ((get_or l i no_session).number ≡ n → ⊥) → any (keeps ms f n) (set l i no_session) ≡ any (keeps ms f n) l
  closed_kept_others n g =
      any_set_same (keeps ms f n) l i no_session no_session (sym (keeps_other ms f n (get_or l i no_session) (ne_eqb (get_or l i no_session).number n g)))

-- A STREAM CHANGES that nobody is on
pub freed_keeps : (ms : List Stream) (id : ℕ) (m : Stream) (l : List Session) → count (is_on id) l ≡ 0 → (f n : ℕ) → any (keeps (with_stream id m ms) f n) l ≡ any (keeps ms f n) l
freed_keeps ms id m l none f n =
    any_alike (keeps (with_stream id m ms) f n) (keeps ms f n) l no_session
    (λ i. off_keeps ms id m f n (get_or l i no_session) (count_zero_at (is_on id) l i no_session refl none) (case _))
