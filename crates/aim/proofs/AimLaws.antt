-- A URI's refusal: which of the tests of steps 7 to 10 applies first. Assumes nothing.
use mathlib.Core.Path.{◌≡◌, refl, ap, ◌∙◌, sym}
use mathlib.Core.Bool.{Bool, true, false, not, cond, ◌&&◌, ◌||◌}
use mathlib.Core.List.{List, [], ◌∷◌}
use Prim.Native.Nat.{ℕ, ◌+◌, ◌≤◌, ◌<◌}
use native.Mathlib.Decide.{ℕ_discrete}
use native.Mathlib.Omega.{arith}
use lib.Dec.{ltb, eqb}
use lib.ListN.{length, get_or, replicate, drop_of_length-le}
use borrow.Author.Tests.{lt-ltb, le-ltb, ltb-false, eqb-true}
use Rattle.scan.specs.Lists.{all, part, first, ◌gives◌or◌}
use Rattle.scan.specs.Text.{is, cut}
use Rattle.scan.specs.Found.{Holds, nowhere}
use Rattle.scan.specs.declared.Span.{Span}
use Rattle.scan.proofs.Bools.{never, by_cases, by_test}
use Rattle.scan.proofs.Parts.{all_same, holds_nothing, holds_length}
use Rattle.target.specs.Uri.{is_uri, has_query, query_of, stream_named}
use Rattle.target.specs.declared.Uri.{Uri}
use Rattle.aim.specs.Query.{are_parts, attribute_in, text_in, code_from, code_in}
use Rattle.aim.specs.Found.{is_within, is_query, text_of, QueryIs, Reached, Refuses, unasked, verdict_of, is_span, AimIs, judged, takes_no_query, lacks_stream}
use Rattle.std.specs.Prelude.{Option, Some, None, Result, Ok, Err, MatchResult, is_some, MatchOption, IfSome, unwrap_or, ok_or, option_and_then}
use Rattle.std.specs.Bool.{then_some}
use Rattle.target.specs.Steps.{question, unless}
use Rattle.aim.specs.Aim.{has_stream, uri_refusal}
use Rattle.refusals.specs.declared.Refusal.{Refusal}
use Rattle.refusals.specs.declared.Refusal.TheVariants.{UriLong, UriForm, QueryUntaken, QueryForm, NoStream}
use Rattle.aim.specs.declared.Method.{Method}
use Rattle.aim.specs.declared.Aim.{Aim}
use Rattle.aim.specs.declared.query.Query.{Query}
use Rattle.tuning.proofs.Words.{value_none}

-- what is handed on where nothing was read, and what was read
pub none_refused : {A E : Type 0} (P : Type 0) (Q : A → Type 0) {o : Option A} {x e y : E} → MatchOption o P Q → o ≡ None → Err e ≡ ok_or o x → y ≡ e → P × (y ≡ x)
none_refused {A} {E} P Q {x = x} {e} h z v u =
    let w : ◌≡◌ {A = Result A E} (Err e) (Err x) = v ∙ ap (λ p. ok_or p x) z in
    (rw z at h, cc)

pub some_read : {A : Type 0} (P : Type 0) (Q : A → Type 0) {o : Option A} {v : A} → MatchOption o P Q → o ≡ Some v → Q v
some_read P Q h z = rw z at h

pub uri_long : (frontends : ℕ) (method : Method) (u : List ℕ) → 1024 < length u → Refuses frontends method u UriLong
unfolding uri_refusal
uri_long frontends method u h = rw (lt-ltb 1024 (length u) h)

pub uri_form : (frontends : ℕ) (method : Method) (u : List ℕ) → length u ≤ 1024 → is_uri u ≡ false → Refuses frontends method u UriForm
unfolding uri_refusal
uri_form frontends method u h n = rw (le-ltb 1024 (length u) h, n)

-- a stream that is given is not 0, which stands for none
given_named : (o : Option ℕ) → is_some (option_and_then (unless 0) o) ≡ not (eqb (code_from o) 0)
given_named None = refl
given_named (Some n) = by (eqb n 0)
  where
    by : (t : Bool) → is_some (cond t None (Some n)) ≡ not t
    by true = refl
    by false = refl

-- and where it stands is the number
pub given_code : (o : Option ℕ) → code_from (option_and_then (unless 0) o) ≡ code_from o
given_code None = refl
given_code (Some n) = by_test (λ t. code_from (cond t None (Some n)) ≡ n) (eqb n 0) (λ y. sym (eqb-true n 0 y)) (λ z. refl)

-- the stream that a sound URI names
module _ (frontends : ℕ) (method : Method) (u : List ℕ) {t : Uri} {start : Option ℕ} (r : Reached u t start) where
  abbrev b : Bool
  b = is_some start

  asks : has_query u ≡ b
  asks = by (has_query u) (sym r.query ∙ r.is.place)
    where
      by : (x : Bool) → start ≡ then_some x (question u + 1) → x ≡ is_some start
      by true e = rw e
      by false e = rw e

  pub stream_named_law : {s : Bool} → s ≡ is_some t.stream → s ≡ has_stream u
  stream_named_law e = e ∙ ap is_some r.is.stream ∙ given_named (stream_named u)

  abbrev ps : List (List ℕ)
  ps = cond b (cut 38 (query_of u)) []

  abbrev some : ℕ → Bool
  some a = ltb 0 (length (text_in a ps))

  chain : uri_refusal frontends method u
      ≡ (b && takes_no_query method) gives Some QueryUntaken or
      not (are_parts [] ps) gives Some QueryForm or
      judged (some 10 && (some 11 || some 12))
      ((some 11 || some 12) && not (has_stream u))
      (not (all (is_within frontends) ps))
      (lacks_stream method (has_stream u) b)
  unfolding uri_refusal
  chain = rw (le-ltb 1024 (length u) r.short, r.is.form, asks)

-- A URI WITHOUT A QUERY
pub unqueried : (u : List ℕ) → has_query u ≡ false → query_of u ≡ []
unqueried u e = drop_of_length-le u {i = first (is 63) u + 1} (omega (arith, ltb-false (first (is 63) u) (length u) e))

module _ (frontends : ℕ) (method : Method) (u : List ℕ) {t : Uri} (r : Reached u t None) where
  unasked_by : (l : Bool) → lacks_stream method (is_some t.stream) false ≡ l
      → MatchResult (cond l (Err NoStream) (Ok (record { codes = replicate 13 0; spans = replicate 13 nowhere; stream = t.stream; host = t.host; query = None }))) (AimIs frontends method u) (Refuses frontends method u)
  unfolding text_in code_in
  unasked_by true y = chain frontends method u r ∙ rw (lacks y)
    where
      lacks : lacks_stream method (is_some t.stream) false ≡ true → lacks_stream method (has_stream u) false ≡ true
      lacks e = ap (λ x. lacks_stream method x false) (sym (stream_named_law frontends method u r refl)) ∙ e
  unasked_by false n =
      record {
        passes = chain frontends method u r ∙ rw (ap (λ x. lacks_stream method x false) (sym (stream_named_law frontends method u r refl)) ∙ n);
        stream = r.is.stream;
        host = r.is.host;
        query = tt;
        thirteen = (refl, refl);
        codes = λ a. rw (asks frontends method u r, all_same {A = ℕ} 13 a 0, value_none frontends a);
        spans = λ a. rw (unqueried u (asks frontends method u r), asks frontends method u r, all_same 13 a nowhere) (holds_nothing []);
        host_starts = r.is.starts;
        query_place = rw (asks frontends method u r);
        query_some = rw (unqueried u (asks frontends method u r));
        starts = λ a. rw (asks frontends method u r, all_same 13 a nowhere);
      }

  pub unasked_law : {x : Result Aim Refusal} → x ≡ unasked method t → MatchResult x (AimIs frontends method u) (Refuses frontends method u)
  unasked_law e = rw e (unasked_by (lacks_stream method (is_some t.stream) false) refl)

-- A URI WITH ONE
-- a span holds something exactly if its text is not empty
span_given : {q x : List ℕ} (s : Span) → Holds q x s.start s.end → is_span s ≡ ltb 0 (length x)
span_given {q} {x} s h =
    let n : s.end ≡ s.start + length x = holds_length h in
    by_cases (ℕ_discrete (length x) 0)
    (λ z. rw (le-ltb s.start s.end (omega arith), le-ltb 0 (length x) (omega arith)))
    (λ z. rw (lt-ltb s.start s.end (omega arith), lt-ltb 0 (length x) (omega arith)))

-- a query that has its form is not empty
some_query : (q : List ℕ) → is_query q ≡ true → ltb 0 (length q) ≡ true
unfolding attribute_in
some_query [] e = never e refl
some_query (x ∷ q) e = lt-ltb 0 (length (x ∷ q)) (omega arith)

module _ (frontends : ℕ) (method : Method) (u : List ℕ) {t : Uri} {start : ℕ} (r : Reached u t (Some start)) where
  query_held : Holds u (query_of u) start (length u)
  query_held = rw r.query at r.is.query

  pub query_inside : start ≤ length u
  query_inside = query_held.order

  pub asked_untaken : {x : Bool} → x ≡ takes_no_query method → x ≡ true → Refuses frontends method u QueryUntaken
  asked_untaken e y = chain frontends method u r ∙ rw (sym e ∙ y)

  module _ {x : Bool} (e : x ≡ takes_no_query method) (n : x ≡ false) where
    pub asked_broken : is_query (part start (length u) u) ≡ false → Refuses frontends method u QueryForm
    asked_broken z = chain frontends method u r ∙ rw (sym e ∙ n, ap is_query (sym query_held.is) ∙ z)

    module _ {q : Query} (i : QueryIs frontends (part start (length u) u) q) {s : Bool} (g : s ≡ is_some t.stream) where
      own : QueryIs frontends (query_of u) q
      own = rw query_held.is at i

      given : (a : ℕ) → is_span (get_or q.spans a nowhere) ≡ ltb 0 (length (text_of a (query_of u)))
      given a = span_given (get_or q.spans a nowhere) (own.spans a)

      verdict_is : verdict_of method s q ≡ uri_refusal frontends method u
      verdict_is =
          rw (given 10, given 11, given 12, own.within, stream_named_law frontends method u r g)
          (sym (chain frontends method u r ∙ rw (sym e ∙ n, own.form)))

      pub asked_refused : {v : Refusal} → Some v ≡ verdict_of method s q → Refuses frontends method u v
      asked_refused d = sym (d ∙ verdict_is)

      pub asked_passed : None ≡ verdict_of method s q
          → AimIs frontends method u (record { codes = q.codes; spans = q.spans; stream = t.stream; host = t.host; query = Some (record { start = start; end = length u }) })
      asked_passed p =
          record {
            passes = sym (p ∙ verdict_is);
            stream = r.is.stream;
            host = r.is.host;
            query = query_held;
            thirteen = own.thirteen;
            codes = λ a. rw (asks frontends method u r) (own.codes a);
            spans = λ a. rw (asks frontends method u r) (own.spans a);
            host_starts = r.is.starts;
            query_place = rw (asks frontends method u r, place);
            query_some = sym (some_query (query_of u) own.form);
            starts = λ a. rw (asks frontends method u r) (own.starts a);
          }
        where
          place : start ≡ question u + 1
          place = let z : Some start ≡ then_some (has_query u) (question u + 1) = sym r.query ∙ r.is.place in let y : Some start ≡ Some (question u + 1) = z ∙ rw (asks frontends method u r) in cc

-- where the query of what was read stands, 0 to 0 where there is none
pub queried : {frontends : ℕ} {method : Method} {u : List ℕ} {r : Aim} → AimIs frontends method u r → Holds u (query_of u) (unwrap_or r.query nowhere).start (unwrap_or r.query nowhere).end
queried {u = u} {r} i = by (has_query u) refl r.query i.query_place i.query
  where
    by : (t : Bool) → has_query u ≡ t → (q : Option Span) → q ≡ then_some t (record { start = question u + 1; end = length u }) → IfSome q (λ x. Holds u (query_of u) x.start x.end)
        → Holds u (query_of u) (unwrap_or q nowhere).start (unwrap_or q nowhere).end
    by true e (Some x) p h = h
    by true e None p h = cc
    by false e (Some x) p h = cc
    by false e None p h = rw (unqueried u e) (holds_nothing u)
