-- What the reader hands over of a request that it lets through is what the request asks; and what such a request asks is in range.
-- Assumes nothing.
use mathlib.Core.Path.{◌≡◌, refl, ap, subst, ◌∙◌, sym}
use mathlib.Core.Bool.{Bool, true, false, not, ◌||◌}
use mathlib.Core.List.{List, [], ◌∷◌, map}
use Prim.Native.Nat.{ℕ, zero, suc, ◌+◌, ◌%◌, ◌≤◌, ◌<◌}
use native.Mathlib.Decide.{ℕ_discrete}
use native.Mathlib.Omega.{arith}
use lib.Dec.{eqb, leb, ltb}
use lib.ListN.{length, drop, get_or}
use lib.Seq.{ext_get_or}
use borrow.Author.Tests.{ltb-true, leb-true, eqb-true, le-ltb, lt-ltb}
use Rattle.scan.specs.Text.{text, is_empty, are_alike}
use Rattle.scan.specs.declared.Case.TheVariants.{Counts}
use Rattle.scan.specs.Lists.{part, ◌gives◌or◌}
use Rattle.scan.proofs.Bools.{never, by_cases, cond_keeps, and_both, or_right}
use Rattle.scan.proofs.Parts.{holds_length}
use Rattle.digits.specs.Reading.{read_number, at_least}
use Rattle.digits.specs.declared.Zeros.TheVariants.{Allowed, Refused}
use Rattle.std.specs.Prelude.{Option, Some, None, IfSome}
use Rattle.digits.proofs.Limits.{number_between}
use Rattle.lines.specs.Lines.{is_laid_out, request_line, header_lines}
use Rattle.lines.specs.Headers.{values_of}
use Rattle.target.specs.Line.{is_three, line_part}
use Rattle.target.specs.Uri.{starts_with, stream_named}
use Rattle.tuning.specs.Values.{value_of}
use Rattle.stream.specs.Arrays.{kept, is_fit, are_fit, is_in}
use Rattle.stream.proofs.Fitting.{all_in, fit_of, read_ranged}
use Rattle.aim.proofs.AimLaws.{given_code}
use Rattle.aim.specs.Query.{code_from, parts_of, text_in, code_in}
use Rattle.refusals.specs.declared.Refusal.{Refusal}
use Rattle.refusals.specs.declared.Refusal.TheVariants.{Layout, CSeq, RequestLine, HeaderTwice, Version, Require}
use Rattle.refusals.specs.declared.Refusal.TheVariants.{Method as OtherMethod}
use Rattle.refusals.specs.Refusals.{is_read}
use Rattle.aim.specs.Aim.{method_number}
use Rattle.aim.specs.declared.Method.TheVariants.{Other}
use Rattle.reader.specs.Fields.{transport_of, ports_in, port_from}
use Rattle.reader.specs.Heads.{is_pair, dash, AskedIs}
use Rattle.reader.specs.Request.{uri_of, method_of, cseq_of, is_twice, head_refusal, request_refusal}
use Rattle.reader.specs.declared.Asked.{Asked as Read}
use Rattle.std.specs.Prelude.{Option, Some, None}
use Rattle.steps.specs.Sights.{codes_in, asked_of, lists_of}
use Rattle.steps.specs.Handed.{asked_by, lists_by, Told}

-- THE CODES, by the attribute's place
-- so many numbers from n on
abbrev count_from : ℕ → ℕ → List ℕ
count_from n zero = []
count_from n (suc many) = n ∷ count_from (suc n) many

counted : (f : ℕ → ℕ) (n many k : ℕ) → k < many → get_or (map f (count_from n many)) k 0 ≡ f (n + k)
counted f n zero k h = absurd (omega arith)
counted f n (suc many) zero h = ap f (omega arith)
counted f n (suc many) (suc k) h = counted f (suc n) many k (omega arith) ∙ ap f (omega arith)

pub codes_length : (frontends : ℕ) (u : List ℕ) → length (codes_in frontends u) ≡ 13
unfolding codes_in
codes_length frontends u = refl

pub code_at : (frontends a : ℕ) (u : List ℕ) → a < 13 → get_or (codes_in frontends u) a 0 ≡ code_in frontends a (parts_of u)
unfolding codes_in
code_at frontends a u h = counted (λ k. code_in frontends k (parts_of u)) 0 13 a h ∙ ap (λ k. code_in frontends k (parts_of u)) (omega arith)

module _ (frontends : ℕ) (s : List ℕ) (r : Read) (i : AskedIs frontends s r) where
  codes_told : r.codes ≡ codes_in frontends (uri_of s)
  codes_told =
      ext_get_or 0 r.codes (codes_in frontends (uri_of s)) (i.thirteen.0 ∙ sym (codes_length frontends (uri_of s)))
      (λ a h. i.codes a ∙ sym (code_at frontends a (uri_of s) (omega (arith, i.thirteen.0))))

  pub asked_told : asked_by r ≡ asked_of frontends s
  asked_told = rw (i.method, i.stream, given_code (stream_named (uri_of s)), codes_told, i.query_some, i.session, i.transport)

  pub lists_told : lists_by s r ≡ lists_of s
  lists_told = rw (i.query_held.is, (i.spans 10).is, (i.spans 11).is, (i.spans 12).is)

  pub told : Told s r
  told =
      record {
        query = record { order = i.query_held.order; within = i.query_held.within; is = refl };
        list = λ a. rw i.query_held.is (record { order = (i.spans a).order; within = (i.spans a).within; is = refl });
      }

-- WHAT IS READ OF A TEXT IS IN RANGE
-- a code is 0 or read of a text
pub code_keeps : (P : ℕ → Type 0) (frontends a : ℕ) (u : List ℕ) → P 0 → ((xs : List ℕ) (c : ℕ) → value_of frontends a xs ≡ Some c → P c) → P (code_in frontends a (parts_of u))
unfolding code_in
code_keeps P frontends a u z h = one (value_of frontends a (text_in a (parts_of u))) (h (text_in a (parts_of u)))
  where
    one : (r : Option ℕ) → ((c : ℕ) → r ≡ Some c → P c) → P (code_from r)
    one (Some c) k = k c refl
    one None k = z

pub asked_fit : (frontends : ℕ) (s : List ℕ) → are_fit (asked_of frontends s).codes ≡ true
asked_fit frontends s = fit_of (codes_in frontends (uri_of s)) fits
  where
    fits : (a : ℕ) → is_in a kept ≡ true → is_fit a (get_or (codes_in frontends (uri_of s)) a 0) ≡ true
    fits a k =
        rw (code_at frontends a (uri_of s) (ltb-true a 13 (all_in (λ b. ltb b 13) kept a refl k)))
        (code_keeps (λ c. is_fit a c ≡ true) frontends a (uri_of s) refl (λ xs c e. or_right (eqb c 0) (read_ranged frontends a xs c k e)))

pub asked_fe : (frontends : ℕ) (s : List ℕ) → get_or (asked_of frontends s).codes 1 0 ≤ frontends
unfolding value_of
asked_fe frontends s =
    rw (code_at frontends 1 (uri_of s) (omega arith))
    (code_keeps (λ c. c ≤ frontends) frontends 1 (uri_of s) (omega arith)
    (λ xs c e. (subst (λ r. IfSome r (λ v. (1 ≤ v) × (v ≤ frontends))) e (number_between Allowed 5 1 frontends xs)).1))

-- the first of the two ports of a Transport that is of its form
abbrev IsPort : ℕ → Type 0
IsPort p = (1024 ≤ p) × (p ≤ 65534) × (p % 2 ≡ 0)

abbrev IsTransport : Option ℕ → Type 0
IsTransport port = IfSome port IsPort

ports_paired : (a b : Option ℕ) → IfSome a (λ v. (1024 ≤ v) × (v ≤ 65534)) → IsTransport (port_from a b)
ports_paired (Some a) (Some b) h =
    cond_keeps IsTransport (is_pair a b) (Some a) None (λ e. (h.0, h.1, eqb-true (a % 2) 0 (and_both (eqb (a % 2) 0) _ e).0)) (λ _. tt)
ports_paired (Some a) None h = tt
ports_paired None b h = tt

pub asked_port : (v : List ℕ) (port : ℕ) → transport_of v ≡ Some port → (1024 ≤ port) × (port ≤ 65534) × (port % 2 ≡ 0)
unfolding transport_of
asked_port v port e =
    subst IsTransport e
    (cond_keeps IsTransport (starts_with (text "RTP/AVP;unicast;client_port=") v) (ports_in (drop 28 v)) None
    (λ _. let ports = drop 28 v in
    ports_paired (at_least 1024 (read_number Refused 5 65534 (part 0 (dash ports) ports))) _ (number_between Refused 5 1024 65534 (part 0 (dash ports) ports)))
    (λ _. tt))

-- A CHAIN OF TESTS that lets through: none of them holds
pub chain : {A : Type 0} (b : Bool) (c : A) (d : Option A) → (b gives Some c or d) ≡ None → (b ≡ false) × (d ≡ None)
chain true c d e = cc
chain false c d e = (refl, e)

-- A REQUEST THAT STEPS 1 TO 10 LET THROUGH
-- has a method that document 01 names
pub method_known : (frontends : ℕ) (s : List ℕ) → request_refusal frontends s ≡ None → method_of s ≡ Other → ⊥
unfolding request_refusal head_refusal
method_known frontends s p m =
    let a = chain (not (is_laid_out s)) Layout _ (read_head (head_refusal s) _ p) in
    let b = chain (is_empty (cseq_of s)) CSeq _ a.1 in
    let c = chain (not (is_three (request_line s))) RequestLine _ b.1 in
    let d = chain (is_twice 1 s || is_twice 2 s || is_twice 3 s || is_twice 4 s) HeaderTwice _ c.1 in
    let e = chain (not (are_alike Counts (line_part 2 (request_line s)) (text "RTSP/1.0"))) Version _ d.1 in
    let f = chain (ltb 0 (length (values_of 3 (header_lines s)))) Require _ e.1 in
    let g = chain (eqb (method_number (method_of s)) 4) OtherMethod None f.1 in
    never (rw m) g.0
  where
    read_head : (o u : Option Refusal) → (not (is_read o) gives o or u) ≡ None → o ≡ None
    read_head None u e = refl
    read_head (Some x) u e = e

-- a request over 2,048 bytes is refused at step 1
pub head_short : (s : List ℕ) → (head_refusal s ≡ Some Layout → ⊥) → length s ≤ 2048
unfolding head_refusal is_laid_out
head_short s h = leb-true (length s) 2048 (and_both (leb (length s) 2048) _ (laid (is_laid_out s) _ h)).0
  where
    laid : (t : Bool) (rest : Option Refusal) → ((not t gives Some Layout or rest) ≡ Some Layout → ⊥) → t ≡ true
    laid true rest k = refl
    laid false rest k = absurd (k refl)

pub request_short : (frontends : ℕ) (s : List ℕ) → (request_refusal frontends s ≡ Some Layout → ⊥) → length s ≤ 2048
unfolding request_refusal
request_short frontends s h = head_short s (λ e. h (rw e))

pub asked_short : (frontends : ℕ) (s : List ℕ) → request_refusal frontends s ≡ None → length s ≤ 2048
asked_short frontends s p = request_short frontends s (λ e. let n : None ≡ Some Layout = sym p ∙ e in cc)
