-- Contracts that are records: two values that meet one are equal. Assumes nothing.
use mathlib.Core.Path.{◌≡◌, refl, sym, ap, ◌∙◌}
use mathlib.Core.Bool.{true, false, Bool}
use mathlib.Core.List.{List}
use Prim.Native.Nat.{ℕ, ◌+◌, ◌<◌}
use native.Mathlib.Omega.{arith}
use lib.Dec.{eqb}
use lib.ListN.{length, get_or}
use lib.Seq.{ext_get_or}
use Rattle.scan.specs.Found.{Holds, nowhere, Trimmed}
use Rattle.scan.specs.declared.Span.{Span}
use Rattle.scan.proofs.Bools.{never, Case, is, isnt, case}
use Rattle.scan.proofs.Parts.{holds_length}
use Rattle.scan.proofs.Trims.{trimmed_one}
use Rattle.std.specs.Prelude.{Option, Some, None, MatchOption, Result, Ok, Err, MatchResult}
use Rattle.lines.specs.Lines.{is_laid_out}
use Rattle.lines.specs.Laid.{SeenIs, LinesAre, unseen, times_of, place_of}
use Rattle.lines.specs.declared.Seen.{Seen}
use Rattle.lines.specs.declared.Seen.TheVariants.{Never, Once, Again}
use Rattle.lines.specs.declared.Lines.{Lines}
use Rattle.target.specs.Line.{is_three, line_part}
use Rattle.target.specs.Uri.{is_uri}
use Rattle.target.specs.Steps.{PartsAre, UriIs}
use Rattle.target.specs.declared.Parts.{Parts}
use Rattle.target.specs.declared.Uri.{Uri}
use Rattle.aim.specs.Found.{AimIs, Refuses}
use Rattle.aim.specs.declared.Aim.{Aim}
use Rattle.aim.specs.declared.Method.{Method as Methods}
use Rattle.refusals.specs.declared.Refusal.{Refusal}
use Rattle.refusals.specs.declared.Refusal.TheVariants.{Require}
use Rattle.reader.specs.Heads.{CseqIs, RequireIs, AskedIs, RefusedIs}
use Rattle.reader.specs.declared.Asked.{Asked}
use Rattle.reader.specs.declared.Refused.{Refused}

-- two spans that hold the same text and start at the same place
span_same : {s t : List ℕ} {x y : Span} → x.start ≡ y.start → Holds s t x.start x.end → Holds s t y.start y.end → x ≡ y
span_same {x = x} {y = y} a p q =
    let m = holds_length p in
    let n = holds_length q in
    let e : x.end ≡ y.end = omega arith in
    λ i. record { start = a i; end = e i }

pub trimmed_same : (s : List ℕ) (x y : Span) → Trimmed s x → Trimmed s y → x ≡ y
trimmed_same s x y p q = let e = trimmed_one s x y p q in λ i. record { start = e.0 i; end = e.1 i }

-- two values that may be missing: where one is, so is the other, and they are equal
option_same : {A P : Type 0} (Q : A → Type 0) (x y : Option A) → ((a : A) → Q a → P → ⊥) → ((a b : A) → Q a → Q b → a ≡ b) → MatchOption x P Q → MatchOption y P Q → x ≡ y
option_same Q None None n e p q = refl
option_same Q None (Some b) n e p q = absurd (n b q p)
option_same Q (Some a) None n e p q = absurd (n a p q)
option_same Q (Some a) (Some b) n e p q = ap Some (e a b p q)

-- THE LINES OF A REQUEST
seen_same : {s : List ℕ} {vs : List (List ℕ)} (v w : Seen) → (place_of v).start ≡ (place_of w).start → SeenIs s vs v → SeenIs s vs w → v ≡ w
seen_same {s} {vs} v w a f g = by v w (f.times ∙ sym g.times) (span_same a f.value g.value)
  where
    by : (v w : Seen) → times_of v ≡ times_of w → place_of v ≡ place_of w → v ≡ w
    by Never Never t e = refl
    by Never (Once x) t e = absurd (omega (arith, t))
    by Never (Again x) t e = absurd (omega (arith, t))
    by (Once x) Never t e = absurd (omega (arith, t))
    by (Once x) (Once y) t e = ap Once e
    by (Once x) (Again y) t e = absurd (omega (arith, t))
    by (Again x) Never t e = absurd (omega (arith, t))
    by (Again x) (Once y) t e = absurd (omega (arith, t))
    by (Again x) (Again y) t e = ap Again e

pub lines_same : (s : List ℕ) (x y : Option Lines) → MatchOption x (is_laid_out s ≡ false) (LinesAre s) → MatchOption y (is_laid_out s ≡ false) (LinesAre s) → x ≡ y
lines_same s x y = option_same (LinesAre s) x y (λ a p n. never p.whole n) both
  where
    both : (a b : Lines) → LinesAre s a → LinesAre s b → a ≡ b
    both a b p q =
        let l : a.line ≡ b.line = holds_length p.line ∙ sym (holds_length q.line) in
        let h : a.headers ≡ b.headers =
        ext_get_or unseen a.headers b.headers (p.five ∙ sym q.five)
        (λ k d. let f : k < 5 = omega (arith, p.five) in seen_same (get_or a.headers k unseen) (get_or b.headers k unseen) (p.starts k f ∙ sym (q.starts k f)) (p.headers k f) (q.headers k f))
        in
        λ i. record { headers = h i; line = l i }

-- THE PARTS OF A REQUEST LINE
pub parts_same : (l : List ℕ) (x y : Option Parts) → MatchOption x (is_three l ≡ false) (PartsAre l) → MatchOption y (is_three l ≡ false) (PartsAre l) → x ≡ y
parts_same l x y = option_same (PartsAre l) x y (λ a p n. never p.three n) both
  where
    both : (a b : Parts) → PartsAre l a → PartsAre l b → a ≡ b
    both a b p q =
        let c : a.first ≡ b.first = holds_length p.method ∙ sym (holds_length q.method) in
        let d : a.second ≡ b.second = holds_length p.uri ∙ ap (λ k. k + 1 + length (line_part 1 l)) c ∙ sym (holds_length q.uri) in
        λ i. record { first = c i; second = d i }

-- A URI
pub uri_same : (u : List ℕ) (x y : Option Uri) → MatchOption x (is_uri u ≡ false) (UriIs u) → MatchOption y (is_uri u ≡ false) (UriIs u) → x ≡ y
uri_same u x y = option_same (UriIs u) x y (λ a p n. never p.form n) both
  where
    both : (a b : Uri) → UriIs u a → UriIs u b → a ≡ b
    both a b p q =
        let d : a.query ≡ b.query = p.place ∙ sym q.place in
        let e : a.stream ≡ b.stream = p.stream ∙ sym q.stream in
        let f : a.host ≡ b.host = span_same (p.starts ∙ sym q.starts) p.host q.host in
        λ i. record { query = d i; stream = e i; host = f i }

-- WHAT A URI ASKS
module _ (frontends : ℕ) (m : Methods) (u : List ℕ) where
  passes_only : {a : Aim} {e : Refusal} → AimIs frontends m u a → Refuses frontends m u e → ⊥
  passes_only p f = let z : None ≡ Some _ = sym p.passes ∙ f in cc

  both_aims : (a b : Aim) → AimIs frontends m u a → AimIs frontends m u b → a ≡ b
  both_aims a b p q =
      let c : a.codes ≡ b.codes = ext_get_or 0 a.codes b.codes (p.thirteen.0 ∙ sym q.thirteen.0) (λ k _. p.codes k ∙ sym (q.codes k)) in
      let d : a.spans ≡ b.spans = ext_get_or nowhere a.spans b.spans (p.thirteen.1 ∙ sym q.thirteen.1) (λ k _. span_same (p.starts k ∙ sym (q.starts k)) (p.spans k) (q.spans k)) in
      let e : a.stream ≡ b.stream = p.stream ∙ sym q.stream in
      let f : a.host ≡ b.host = span_same (p.host_starts ∙ sym q.host_starts) p.host q.host in
      let g : a.query ≡ b.query = p.query_place ∙ sym q.query_place in
      λ i. record { codes = c i; spans = d i; stream = e i; host = f i; query = g i }

  pub aim_same : (x y : Result Aim Refusal) → MatchResult x (AimIs frontends m u) (Refuses frontends m u) → MatchResult y (AimIs frontends m u) (Refuses frontends m u) → x ≡ y
  aim_same (Ok a) (Ok b) p q = ap Ok (both_aims a b p q)
  aim_same (Ok a) (Err f) p q = absurd (passes_only p q)
  aim_same (Err e) (Ok b) p q = absurd (passes_only q p)
  aim_same (Err e) (Err f) p q = let z : Some e ≡ Some f = sym p ∙ q in cc

-- A REQUEST
-- the place of the digits of CSeq, and of a Require value, which step 5 alone hands out
cseq_same : (s : List ℕ) {a b : Span} → CseqIs s a → CseqIs s b → a ≡ b
cseq_same s p q = span_same (p.starts ∙ sym q.starts) p.held q.held

require_same : (s : List ℕ) (refusal : Refusal) (a b : Option Span) → MatchOption a (refusal ≡ Require → ⊥) (RequireIs s refusal) → MatchOption b (refusal ≡ Require → ⊥) (RequireIs s refusal) → a ≡ b
require_same s refusal a b = option_same (RequireIs s refusal) a b (λ v p n. n p.is) (λ v w p q. span_same (p.starts ∙ sym q.starts) p.held q.held)

module _ (frontends : ℕ) (s : List ℕ) where
  both_asked : (a b : Asked) → AskedIs frontends s a → AskedIs frontends s b → a ≡ b
  both_asked a b p q =
      let c : a.codes ≡ b.codes = ext_get_or 0 a.codes b.codes (p.thirteen.0 ∙ sym q.thirteen.0) (λ k _. p.codes k ∙ sym (q.codes k)) in
      let d : a.spans ≡ b.spans = ext_get_or nowhere a.spans b.spans (p.thirteen.1 ∙ sym q.thirteen.1) (λ k _. span_same (p.starts k ∙ sym (q.starts k)) (p.spans k) (q.spans k)) in
      let e : a.cseq ≡ b.cseq = cseq_same s p.cseq q.cseq in
      let f : a.method ≡ b.method = p.method ∙ sym q.method in
      let g : a.stream ≡ b.stream = p.stream ∙ sym q.stream in
      let h : a.host ≡ b.host = span_same (p.host_starts ∙ sym q.host_starts) p.host q.host in
      let j : a.query ≡ b.query = p.query ∙ sym q.query in
      let k : a.session ≡ b.session = p.session ∙ sym q.session in
      let l : a.transport ≡ b.transport = p.transport ∙ sym q.transport in
      λ i. record {
        codes = c i;
        spans = d i;
        cseq = e i;
        method = f i;
        stream = g i;
        host = h i;
        query = j i;
        session = k i;
        transport = l i;
      }

  both_refused : (a b : Refused) → RefusedIs frontends s a → RefusedIs frontends s b → a ≡ b
  both_refused a b p q =
      let w : Some a.refusal ≡ Some b.refusal = sym p.refusal ∙ q.refusal in
      let c : a.refusal ≡ b.refusal = cc in
      let d : a.cseq ≡ b.cseq = option_same (CseqIs s) a.cseq b.cseq (λ v i n. never n i.some) (λ v w i j. cseq_same s i j) p.cseq q.cseq in
      let e : a.require ≡ b.require = require_same s b.refusal a.require b.require (rw c at p.require) q.require in
      λ i. record { refusal = c i; cseq = d i; require = e i }

  asked_only : {a : Asked} {b : Refused} → AskedIs frontends s a → RefusedIs frontends s b → ⊥
  asked_only p q = let z : None ≡ Some _ = sym p.passes ∙ q.refusal in cc

  pub request_same : (x y : Result Asked Refused) → MatchResult x (AskedIs frontends s) (RefusedIs frontends s) → MatchResult y (AskedIs frontends s) (RefusedIs frontends s) → x ≡ y
  request_same (Ok a) (Ok b) p q = ap Ok (both_asked a b p q)
  request_same (Ok a) (Err b) p q = absurd (asked_only p q)
  request_same (Err a) (Ok b) p q = absurd (asked_only q p)
  request_same (Err a) (Err b) p q = ap Err (both_refused a b p q)
