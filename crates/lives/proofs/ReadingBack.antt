-- Whoever has the bytes of a history has the history: each record is read back from its place. Assumes nothing.
use Rattle.std.specs.Prelude.{Ok, Err}
use mathlib.Core.Path.{◌≡◌, refl, sym, subst}
use mathlib.Core.Bool.{Bool, true}
use mathlib.Core.List.{List, [], ◌∷◌, ◌++◌, append-nil}
use Prim.Native.Nat.{ℕ, zero, suc, ◌+◌, ◌-◌, ◌*◌, ◌/◌, ◌%◌, ◌<◌}
use native.Mathlib.Omega.{arith}
use lib.ListN.{length, take, drop, get_or, replicate}
use lib.Seq.{take_at, drop-append-add}
use borrow.Author.Tests.{eq-eqb, lt-ltb, ltb-true}
use Rattle.scan.specs.Lists.{all, part}
use Rattle.scan.proofs.Bools.{and_both}
use Rattle.journal.specs.Records.{is_record, encoded, read_bytes, read_at, write_of}
use Rattle.journal.specs.declared.Record.{Record}
use Rattle.journal.proofs.RoundTrip.{Fitting, written_read}
use Rattle.table.specs.declared.Settings.{Settings}
use Rattle.table.specs.Table.{no_session, session_at}
use Rattle.table.specs.declared.Session.{Session}
use Rattle.table.specs.Made.{Outcome}
use Rattle.closings.specs.Closing.{Did, bytes_of, sweeping}
use Rattle.satbox.specs.Calls.{if_done, tick_outcome, ticked, collect_outcome, emptied, collected, request_outcome, requested, replied}
use Rattle.closings.proofs.DoesLaws.{bytes_length}
use Rattle.serving.proofs.RecordLaws.{CountsOn}
use Rattle.lives.specs.Calls.{lent, Call, request, tick, collect, order, is_short, is_call, Life, live, run, Lives, life_after}
use Rattle.lives.proofs.Lived.{lived, lived_as}
use Rattle.lives.proofs.Journals.{counts_at}
use Rattle.lives.proofs.Fitting.{Short, is_fit, Fits, all_both, sweeping_fits, requested_fits}
use Rattle.lives.proofs.Holding.{Good, born_good}
use Rattle.lives.proofs.Running.{live_good}

all_within : (p : Record → Bool) (l : List Record) (i : ℕ) (d : Record) → all p l ≡ true → i < length l → p (get_or l i d) ≡ true
all_within p [] i d e h = absurd (omega arith)
all_within p (r ∷ l) zero d e h = (and_both (p r) (all p l) e).0
all_within p (r ∷ l) (suc i) d e h = all_within p l i d (and_both (p r) (all p l) e).1 (omega arith)

-- the sixteen bytes at a place
encoded_long : (r : Record) → length (encoded r) ≡ 16
unfolding encoded
encoded_long r = refl

dropped : (r : Record) (rs : List Record) (n : ℕ) → drop (16 + n) (encoded r ++ bytes_of rs) ≡ drop n (bytes_of rs)
dropped r rs n = rw (encoded_long r) at (drop-append-add (encoded r) (bytes_of rs) n)

from_place : (rs : List Record) (i : ℕ) (d : Record) → i < length rs → take 16 (drop (16 * i) (bytes_of rs)) ≡ encoded (get_or rs i d)
from_place [] i d h = absurd (omega arith)
from_place (r ∷ rs) zero d h = take_at (encoded r) (bytes_of rs) 16 (encoded_long r)
from_place (r ∷ rs) (suc i) d h =
    let n : 16 * suc i ≡ 16 + 16 * i = omega arith in
    rw (n, dropped r rs (16 * i)) (from_place rs i d (omega arith))

at_place : (rs : List Record) (i : ℕ) (d : Record) → i < length rs → part (i * 16) (i * 16 + 16) (bytes_of rs) ≡ encoded (get_or rs i d)
at_place rs i d h =
    let n : i * 16 + 16 - i * 16 ≡ 16 = omega arith in
    let m : i * 16 ≡ 16 * i = omega arith in
    rw (n, m) (from_place rs i d h)

record_read : (r : Record) → is_record r ≡ true → Fitting r → read_bytes (encoded r) ≡ Ok r
unfolding write_of
record_read r e f = written_read r (encoded r) f (rw e)

-- EACH RECORD IS READ BACK
pub read_back : (rs : List Record) (next : ℕ) → all is_record rs ≡ true → all is_fit rs ≡ true → CountsOn 0 rs next → (i : ℕ) (d : Record) → i < length rs → read_at (bytes_of rs) i ≡ Ok (get_or rs i d)
unfolding read_at
read_back rs next records fit counts i d h =
    let r = get_or rs i d in
    let k = and_both (is_short r.clock) _ (all_within is_fit rs i d fit h) in
    let q : r.sequence ≡ (0 + i) % 65536 = counts_at 0 next rs d (omega arith) counts i h in
    let n = bytes_length rs in
    let long : length (bytes_of rs) % 16 ≡ 0 = omega arith in
    let place : i < length (bytes_of rs) / 16 = omega arith in
    rw (eq-eqb (length (bytes_of rs) % 16) 0 long, lt-ltb i (length (bytes_of rs) / 16) place, at_place rs i d h)
    (record_read r (all_within is_record rs i d records h)
    (record { clock = ltb-true r.clock 4294967296 k.0; session = ltb-true r.session 4294967296 k.1; sequence = omega arith }))

-- IN EVERY LIFE the session numbers are of 32 bits, and all that was written fits its bytes
record Fitted (x : Life) : Type 0 where
  numbers : (k : ℕ) → (session_at x.satbox k).number < 4294967296
  fit : all is_fit x.history ≡ true

fit_nothing : (rs : List Record) → all is_fit rs ≡ true → all is_fit (rs ++ []) ≡ true
fit_nothing rs e = rw append-nil e

module _ {settings : Settings} {x : Life} (g : Good settings x) (f : Fitted x) where
  short : Short x.satbox
  short = record { clock = g.clock; numbers = f.numbers }

  -- what a call did, or not
  FittedBy : Outcome → Did → Type 0
  FittedBy o d = ((k : ℕ) → (session_at (if_done o d.satbox x.satbox) k).number < 4294967296) × (all is_fit (x.history ++ if_done o d.records []) ≡ true)

  fitted_by : (o : Outcome) (d : Did) → Fits x.satbox d → FittedBy o d
  unfolding FittedBy
  fitted_by (Ok o) d h = (h.kept.numbers, all_both is_fit x.history d.records f.fit h.fit)
  fitted_by (Err r) d h = (f.numbers, fit_nothing x.history f.fit)

  emptied_numbers : (o : Outcome) (k : ℕ) → (session_at (if_done o (emptied x.satbox) x.satbox) k).number < 4294967296
  unfolding emptied
  emptied_numbers (Ok o) k = f.numbers k
  emptied_numbers (Err r) k = f.numbers k

  lived_fitted : (c : Call) → is_call settings.size c ≡ true → Fitted (lived_as c x)
  unfolding FittedBy
  lived_fitted (request s clock address draw b l) e =
      let p = and_both (is_short clock) _ e in
      let q = and_both (is_short draw) _ (and_both (is_short address) _ p.1).1 in
      let m = fitted_by (request_outcome x.satbox (lent l x.journal) b) (requested s clock address draw x.satbox).did (requested_fits s clock address draw (ltb-true clock 4294967296 p.0) (ltb-true draw 4294967296 q.0) x.satbox g.whole short) in
      record { numbers = m.0; fit = m.1 }
  lived_fitted (tick clock l) e =
      let m = fitted_by (tick_outcome x.satbox (lent l x.journal)) (sweeping clock x.satbox) (sweeping_fits clock x.satbox (ltb-true clock 4294967296 (and_both (is_short clock) _ e).0) g.whole short) in
      record { numbers = m.0; fit = m.1 }
  lived_fitted (collect b l) e =
      record { numbers = emptied_numbers (collect_outcome x.satbox (lent l x.journal) b); fit = fit_nothing x.history f.fit }
  lived_fitted (order n) e = record { numbers = f.numbers; fit = fit_nothing x.history f.fit }

  live_fitted : (c : Call) → is_call settings.size c ≡ true → Fitted (live c x)
  live_fitted c e = rw (lived c x) (lived_fitted c e)

run_fitted : {settings : Settings} (cs : List Call) {x : Life} → all (is_call settings.size) cs ≡ true → Good settings x → Fitted x → Fitted (run cs x)
run_fitted [] e g f = f
run_fitted {settings = settings} (c ∷ cs) e g f =
    let p = and_both (is_call settings.size c) _ e in
    run_fitted cs p.1 (live_good g c p.0) (live_fitted g f c p.0)

pub free_place : (n k : ℕ) → get_or (replicate n no_session) k no_session ≡ no_session
free_place zero k = refl
free_place (suc n) zero = refl
free_place (suc n) (suc k) = free_place n k

born_fitted : (settings : Settings) (j : List ℕ) → Fitted (life_after settings j [])
born_fitted settings j =
    record { numbers = λ k. subst (λ (s : Session). s.number < 4294967296) (sym (free_place 32 k)) (omega arith); fit = refl }

pub after_fit : {settings : Settings} {j : List ℕ} {cs : List Call} → Lives settings j cs → all is_fit (life_after settings j cs).history ≡ true
after_fit {settings} {j} {cs} h =
    (run_fitted cs h.calls (born_good settings j h.sizes h.journal) (born_fitted settings j)).fit
