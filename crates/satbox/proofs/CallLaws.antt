-- The calls by the ways they end: each refusal, and done. Assumes nothing.
use Rattle.std.specs.Prelude.{Option, Result, Ok, Err}
use mathlib.Core.Path.{◌≡◌, refl, sym, ◌∙◌, ap, subst}
use mathlib.Core.Bool.{Bool, true, false, cond, not, ◌&&◌, ◌||◌}
use mathlib.Core.List.{List, [], ◌∷◌}
use Prim.Native.Nat.{ℕ, ◌+◌, ◌-◌, ◌≤◌, ◌<◌, min, max}
use native.Mathlib.Omega.{arith}
use lib.Dec.{leb}
use lib.ListN.{length, take, length-take}
use borrow.Author.Tests.{le-leb, lt-leb, leb-true, leb-false}
use Rattle.scan.proofs.Bools.{Case, is, isnt, case}
use Rattle.writing.specs.Wrote.{Wrote}
use Rattle.writing.proofs.Writes.{wrote_front}
use Rattle.table.specs.Table.{any}
use Rattle.table.specs.Formed.{well_formed}
use Rattle.table.specs.Table.{is_free}
use Rattle.table.specs.declared.Session.{Session}
use Rattle.table.specs.declared.SatBox.{SatBox}
use Rattle.table.specs.declared.Refusal.{Refusal}
use Rattle.table.specs.declared.Refusal.TheVariants.{Table, Journal}
use Rattle.table.specs.Made.{Outcome}
use Rattle.table.proofs.Rules.{formed}
use Rattle.formed.specs.Standings.{latest, oldest}
use Rattle.closings.specs.Does.{Does}
use Rattle.closings.specs.Closing.{is_expired, swept, sweeping, at_clock}
use Rattle.closings.specs.DueAt.{closing_due, aged_at}
use Rattle.closings.specs.declared.Due.{Due}
use Rattle.satbox.specs.Calls.{◌else◌and_then◌, is_journal, tick_outcome, ticked, ticked_journal, emptied, collect_outcome, collected, collected_into}
use Rattle.closings.proofs.Closings.{age_is}
use Rattle.closings.proofs.DoesLaws.{does_as}
use Rattle.closings.proofs.Dues.{swept_aged, does_idle}
use Rattle.closings.proofs.Keeping.{Whole, clock_whole}

-- the table at the clock used, and swept there
pub clock_set : (t : SatBox) (clock n : ℕ) → n ≡ max t.clock clock
    → record { sessions = t.sessions; streams = t.streams; settings = t.settings; held = t.held; clock = n; sequence = t.sequence; spare = t.spare } ≡ at_clock clock t
unfolding at_clock
clock_set t clock n e = rw e

pub aged_swept : {t u r : SatBox} {j k : List ℕ} {due : Option Due} (clock : ℕ) → Whole t → u ≡ at_clock clock t → due ≡ aged_at u.clock → Does u j (closing_due due u) r k → Does (at_clock clock t) j (sweeping clock t) r k
aged_swept {t} {u} {r} {j} {k} clock w e f p =
    let q = does_as (ap (λ d. closing_due d u) f ∙ swept_aged u (subst Whole (sym e) (clock_whole clock t w))) p in
    subst (λ x. Does x j (swept x) r k) e q

-- the oldest last time says whether somebody has expired
oldest_age : (clock : ℕ) (l : List Session) → clock ≤ latest → leb (oldest l + 60) clock ≡ any (is_expired clock) l
oldest_age clock [] h = lt-leb (latest + 60) clock (omega arith)
oldest_age clock (s ∷ l) h = by (is_free s) (oldest_age clock l h)
  where
    two : (a b : ℕ) → clock < a + 60 → Case (leb (b + 60) clock) → leb (min a b + 60) clock ≡ leb (b + 60) clock
    two a b k (is y) = let m = leb-true (b + 60) clock y in le-leb (min a b + 60) clock (omega arith) ∙ sym y
    two a b k (isnt n) = let m = leb-false (b + 60) clock n in lt-leb (min a b + 60) clock (omega arith) ∙ sym n

    one : (a b : ℕ) → Case (leb (a + 60) clock) → leb (min a b + 60) clock ≡ leb (a + 60) clock || leb (b + 60) clock
    one a b (is y) = let k = leb-true (a + 60) clock y in rw y (le-leb (min a b + 60) clock (omega arith))
    one a b (isnt n) = rw n (two a b (leb-false (a + 60) clock n) (case _))

    by : (free : Bool) {r : Bool} → leb (oldest l + 60) clock ≡ r → leb (cond free (oldest l) (min s.last (oldest l)) + 60) clock ≡ (not free && leb 60 (clock - s.last)) || r
    by true e = e
    by false e = one s.last (oldest l) (case _) ∙ rw (age_is clock s.last, e)

pub idle_swept : {u : SatBox} {j : List ℕ} {old : ℕ} {b : Bool} (t : SatBox) (clock : ℕ) → u ≡ at_clock clock t → old ≡ oldest u.sessions → u.clock ≤ latest → b ≡ leb (old + 60) u.clock → b ≡ false
    → Does (at_clock clock t) j (sweeping clock t) u j
idle_swept {u} {j} t clock e o h f n = subst (λ x. Does x j (swept x) u j) e (does_idle (sym (f ∙ rw o (oldest_age u.clock u.sessions h)) ∙ n))

pub formed_held : (t : SatBox) → well_formed t ≡ true → t.held ≤ t.settings.size
formed_held t e = omega (arith, (formed t e).fits.bound)

-- THE FIRST TESTS of a call: what both let through, and what refuses, whatever comes after them
module _ (t : SatBox) (j : List ℕ) {r : Result ℕ Refusal} (e : r ≡ (well_formed t else Table and_then is_journal t j else Journal and_then Ok (oldest t.sessions))) where
  pub let_through : {n : ℕ} → r ≡ Ok n → ((well_formed t ≡ true) × (is_journal t j ≡ true)) × (n ≡ oldest t.sessions)
  let_through {n} h = by (well_formed t) (is_journal t j) (sym h ∙ e)
    where
      by : (a b : Bool) → ◌≡◌ {A = Result ℕ Refusal} (Ok n) (a else Table and_then b else Journal and_then Ok (oldest t.sessions)) → ((a ≡ true) × (b ≡ true)) × (n ≡ oldest t.sessions)
      by true true q = ((refl, refl), cc)
      by true false q = let y : ◌≡◌ {A = ℕ} 0 1 = cc in absurd (omega arith)
      by false b q = let y : ◌≡◌ {A = ℕ} 0 1 = cc in absurd (omega arith)

  pub refused_first : {x : Refusal} {T : Type 0} (o : Result T Refusal) → r ≡ Err x → (well_formed t else Table and_then is_journal t j else Journal and_then o) ≡ Err x
  refused_first {x} {T} o h = by (well_formed t) (is_journal t j) (sym h ∙ e)
    where
      by : (a b : Bool) → ◌≡◌ {A = Result ℕ Refusal} (Err x) (a else Table and_then b else Journal and_then Ok (oldest t.sessions)) → (a else Table and_then b else Journal and_then o) ≡ Err x
      by true true q = let y : ◌≡◌ {A = ℕ} 0 1 = cc in absurd (omega arith)
      by true false q = let z : x ≡ Journal = cc in rw z
      by false b q = let z : x ≡ Table = cc in rw z

-- TICK
module _ (clock : ℕ) (t : SatBox) (j : List ℕ) where
  -- what the contract says of what is returned, the box and the journal
  abbrev pub Ticks : Outcome → SatBox → List ℕ → Type 0
  Ticks o u k = ((u ≡ (ticked clock t j).satbox) × (o ≡ (ticked clock t j).outcome)) × (k ≡ ticked_journal clock t j)

  pub tick_done : {u : SatBox} {k : List ℕ} → tick_outcome t j ≡ Ok tt → Does (at_clock clock t) j (sweeping clock t) u k → Ticks (Ok tt) u k
  unfolding ticked ticked_journal at_clock
  tick_done e d = rw e ((d.satbox, refl), d.journal)

  pub tick_refused : {x : Refusal} → tick_outcome t j ≡ Err x → Ticks (Err x) t j
  unfolding ticked ticked_journal
  tick_refused e = rw e ((refl, refl), refl)

-- COLLECT
module _ (t : SatBox) (j b : List ℕ) where
  abbrev left : ℕ → SatBox
  left n = record { sessions = t.sessions; streams = t.streams; settings = t.settings; held = n; clock = t.clock; sequence = t.sequence; spare = t.spare }

  -- what the contract says of what is returned, the box and the buffer
  abbrev pub Collects : Result ℕ Refusal → SatBox → List ℕ → Type 0
  Collects o u d = ((u ≡ (collected t j b).satbox) × (o ≡ (collected t j b).outcome)) × (d ≡ collected_into t j b)

  pub collect_done : {d : List ℕ} {next : ℕ} → collect_outcome t j b ≡ Ok tt → t.held ≤ length b → t.held ≤ length j → Wrote b 0 (take t.held j) d next → Collects (Ok t.held) (left 0) d
  unfolding collected collected_into emptied
  collect_done e g h w =
      let n : length (take t.held j) ≡ t.held = length-take t.held j ∙ omega (arith, h) in
      rw e ((refl, refl), (wrote_front w (omega (arith, g))).0 ∙ rw n)

  pub collect_refused : {x : Refusal} → collect_outcome t j b ≡ Err x → Collects (Err x) t b
  unfolding collected collected_into
  collect_refused e = rw e ((refl, refl), refl)
