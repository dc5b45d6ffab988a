-- A request's refusal: which of the tests of steps 1 to 6 applies first, and then its URI's. Assumes nothing.
use mathlib.Core.Path.{◌≡◌, refl, ap, ◌∙◌, sym}
use mathlib.Core.Bool.{Bool, true, false, cond, ◌||◌}
use mathlib.Core.List.{List, []}
use Prim.Native.Nat.{ℕ, zero, suc, ◌+◌, ◌-◌, ◌≤◌, ◌<◌, min}
use native.Mathlib.Omega.{arith}
use lib.Dec.{ltb, eqb}
use lib.ListN.{length, get_or}
use borrow.Author.Tests.{lt-ltb, eq-eqb, ne_eqb}
use Rattle.scan.specs.Text.{text, is_empty, are_alike}
use Rattle.scan.specs.Lists.{part, ◌gives◌or◌}
use Rattle.scan.specs.Found.{Holds, text_at, nowhere}
use Rattle.scan.specs.declared.Span.{Span}
use Rattle.scan.specs.declared.Case.TheVariants.{Counts}
use Rattle.scan.proofs.Bools.{never, Case as Test, is, isnt, case}
use Rattle.scan.proofs.Parts.{part_length, holds_length, holds_nothing, holds_inside, text_held, no_text, some_text}
use native.Mathlib.Nat.{zero-add}
use Rattle.digits.specs.Reading.{read_in, digits_read}
use Rattle.digits.specs.Standing.{Stands, digits_at}
use Rattle.digits.proofs.Limits.{are_digits_law}
use Rattle.lines.specs.Lines.{is_laid_out, request_line, header_lines}
use Rattle.lines.specs.Headers.{values_of}
use Rattle.lines.specs.Laid.{first_value, times_of, first_seen, place_of, unseen, SeenIs, LinesAre, value_start}
use Rattle.std.specs.Prelude.{Some, None, Option, MatchOption, is_some, unwrap_or, option_map, Result, Err}
use Rattle.std.specs.Option.{ok_or}
use Rattle.std.specs.Bool.{then_some}
use Rattle.lines.specs.declared.Seen.{Seen}
use Rattle.lines.specs.declared.Seen.TheVariants.{Never, Once, Again}
use Rattle.lines.specs.declared.Lines.{Lines}
use Rattle.target.specs.Line.{is_three, line_part}
use Rattle.target.specs.Steps.{PartsAre}
use Rattle.target.specs.declared.Parts.{Parts}
use Rattle.reader.specs.Fields.{session_of, transport_of}
use Rattle.reader.specs.Heads.{CseqSeen, CseqIs, StandsIn, session_in, head_text, session_seen, are_twice, uri_start, IsMethod, AskedIs, RefusedIs, RequireIs, is_version, are_repeated, Begun, Headed, behind, refused_by, is_other, method_in}
use Rattle.aim.specs.Aim.{uri_refusal}
use Rattle.aim.specs.Found.{AimIs, Refuses}
use Rattle.aim.proofs.AimLaws.{queried}
use Rattle.refusals.specs.Refusals.{is_read}
use Rattle.reader.specs.Request.{cseq_most, cseq_limit, cseq_of, is_twice, method_of, uri_of, head_refusal, request_refusal}
use Rattle.refusals.specs.declared.Refusal.{Refusal}
use Rattle.refusals.specs.declared.Refusal.TheVariants.{Layout, CSeq, RequestLine, HeaderTwice, Version, Require, UriLong, UriForm, QueryUntaken, QueryForm, PidsClash, PidsUnstreamed, NoStream}
use Rattle.refusals.specs.declared.Refusal.TheVariants.{Method as OtherMethod, Value as Outside}
use Rattle.aim.specs.declared.Method.{Method}
use Rattle.aim.specs.declared.Aim.{Aim}
use Rattle.reader.specs.declared.fields.Session.{Session}
use Rattle.reader.specs.declared.fields.Session.TheVariants.{Absent}

-- A HEADER BY ITS PLACE
-- of a count, two stands for more
capped : (P : ℕ → ℕ → Type 0) (n : ℕ) → P 0 0 → P 1 1 → ((m : ℕ) → 2 ≤ m → P 2 m) → P (min n 2) n
capped P zero a b c = a
capped P (suc zero) a b c = b
capped P (suc (suc n)) a b c = let e : min (suc (suc n)) 2 ≡ 2 = omega arith in rw e (c (suc (suc n)) (omega arith))

module _ {s : List ℕ} {vs : List (List ℕ)} {seen : Seen} (i : SeenIs s vs seen) where
  pub seen_text : head_text s seen ≡ first_value vs
  seen_text = i.value.is

  pub seen_stands : StandsIn s seen
  seen_stands = (i.value.order, i.value.within)

  pub seen_session : session_seen s seen ≡ session_of vs
  unfolding session_of
  seen_session =
      rw (i.times, seen_text)
      (capped (λ k n. cond (eqb k 0) Absent (session_in (first_value vs)) ≡ cond (eqb n 0) Absent (session_in (first_value vs))) (length vs) refl refl (λ m h. rw (ne_eqb m 0 (λ q. omega arith))))

  pub seen_twice : ltb 1 (times_of seen) ≡ ltb 1 (length vs)
  seen_twice = rw i.times (capped (λ k n. ltb 1 k ≡ ltb 1 n) (length vs) refl refl (λ m h. rw (lt-ltb 1 m (omega arith))))

  pub seen_sent : ltb 0 (times_of seen) ≡ ltb 0 (length vs)
  seen_sent = rw i.times (capped (λ k n. ltb 0 k ≡ ltb 0 n) (length vs) refl refl (λ m h. rw (lt-ltb 0 m (omega arith))))

-- a header was sent if a first value stands there
first_there : (seen : Seen) → is_some (first_seen seen) ≡ ltb 0 (times_of seen)
first_there Never = refl
first_there (Once v) = refl
first_there (Again v) = refl

-- and its value stands there
required_is : {s : List ℕ} (seen : Seen) → SeenIs s (values_of 3 (header_lines s)) seen → (place_of seen).start ≡ value_start 3 s → is_some (first_seen seen) ≡ true
    → MatchOption (first_seen seen) (Require ≡ Require → ⊥) (RequireIs s Require)
required_is Never i h y = never refl (sym y)
required_is (Once v) i h y = record { is = refl; held = i.value; starts = h }
required_is (Again v) i h y = record { is = refl; held = i.value; starts = h }

pub first_session : (s : List ℕ) (seen : Seen) → first_seen seen ≡ None → Absent ≡ session_seen s seen
first_session s Never e = refl
first_session s (Once v) e = cc
first_session s (Again v) e = cc

pub first_transport : (s : List ℕ) (seen : Seen) → first_seen seen ≡ None → None ≡ transport_of (head_text s seen)
unfolding transport_of
first_transport s Never e = refl
first_transport s (Once v) e = cc
first_transport s (Again v) e = cc

-- CSEQ
module _ {s : List ℕ} {seen : Seen} (q : CseqSeen s seen) where
  abbrev sent : List (List ℕ)
  sent = values_of 0 (header_lines s)

  cseq_not_once : (times_of seen ≡ 1 → ⊥) → is_empty (cseq_of s) ≡ true
  unfolding cseq_of
  cseq_not_once n = rw (q.whole, ne_eqb (length sent) 1 (λ e. n (q.values.times ∙ ap (λ k. min k 2) e)))

-- not sent once
pub cseq_other : {s : List ℕ} (seen : Seen) → CseqSeen s seen → ((place : Span) → seen ≡ Once place → ⊥) → is_empty (cseq_of s) ≡ true
cseq_other Never q n = cseq_not_once q (λ e. let z : ◌≡◌ {A = ℕ} 0 1 = e in omega arith)
cseq_other (Once place) q n = absurd (n place refl)
cseq_other (Again place) q n = cseq_not_once q (λ e. let z : ◌≡◌ {A = ℕ} 2 1 = e in omega arith)

-- sent once
module _ {s : List ℕ} {seen : Seen} {place : Span} (o : seen ≡ Once place) (seen_once : CseqSeen s seen) where
  q : CseqSeen s (Once place)
  q = rw o at seen_once

  abbrev value : List ℕ
  value = first_value (values_of 0 (header_lines s))

  cseq_is : cseq_of s ≡ digits_read 10 cseq_most cseq_limit value
  unfolding cseq_of
  cseq_is = let e : 1 ≡ min (length (values_of 0 (header_lines s))) 2 = q.values.times in
      rw (q.whole, eq-eqb (length (values_of 0 (header_lines s))) 1 (omega arith))

  value_is : text_at s place ≡ value
  value_is = text_held s value place q.values.value

  -- the digits stand where the value stands, if it is a number
  here : (t : Bool) → is_some (read_in 10 cseq_most cseq_limit value) ≡ t → {r : Option Span} → r ≡ then_some t place → MatchOption r (is_empty (cseq_of s) ≡ true) (CseqIs s)
  here true y e =
      rw e (record { some = rw (cseq_is, y) (some_text value (are_digits_law 10 cseq_most cseq_limit value y).some); starts = q.starts; held = rw (cseq_is, y) q.values.value })
  here false n e = rw e (rw (cseq_is, n))

  pub cseq_once : {r : Option Span} → Stands 10 cseq_most cseq_limit s place r → MatchOption r (is_empty (cseq_of s) ≡ true) (CseqIs s)
  cseq_once w = here (is_some (read_in 10 cseq_most cseq_limit value)) refl (w.is ∙ ap (λ v. then_some (is_some (read_in 10 cseq_most cseq_limit v)) place) value_is)

mapped_some : {A B : Type 0} (f : A → B) (o : Option A) → is_some (option_map f o) ≡ is_some o
mapped_some f (Some x) = refl
mapped_some f None = refl

-- HOW FAR IT HAS COME
pub begun : {s : List ℕ} {l : Lines} {c : Span} → LinesAre s l → CseqIs s c → Begun s l c
begun l i = record { lines = l; cseq_is = i }

-- REFUSED REQUESTS
-- by one of steps 1 to 6
pub head_refused : (frontends : ℕ) (s : List ℕ) {x : Refusal} → head_refusal s ≡ Some x → request_refusal frontends s ≡ Some x
unfolding request_refusal
head_refused frontends s h = rw h

-- what holds of two holds of the first that applies
pub gives_keeps : {A : Type 0} (P : A → Type 0) (b : Bool) (x y : A) → P x → P y → P (b gives x or y)
gives_keeps P true x y p q = p
gives_keeps P false x y p q = q

-- a URI is not refused for a Require header
abbrev IsOther : Option Refusal → Type 0
IsOther o = o ≡ Some Require → ⊥

uri_unrequired : (frontends : ℕ) (method : Method) (u : List ℕ) → IsOther (uri_refusal frontends method u)
unfolding uri_refusal
uri_unrequired frontends method u =
    gives_keeps IsOther _ (Some UriLong) _ (λ e. cc)
    (gives_keeps IsOther _ (Some UriForm) _ (λ e. cc)
    (gives_keeps IsOther _ (Some QueryUntaken) _ (λ e. cc)
    (gives_keeps IsOther _ (Some QueryForm) _ (λ e. cc)
    (gives_keeps IsOther _ (Some PidsClash) _ (λ e. cc)
    (gives_keeps IsOther _ (Some PidsUnstreamed) _ (λ e. cc)
    (gives_keeps IsOther _ (Some Outside) _ (λ e. cc)
    (gives_keeps IsOther _ (Some NoStream) None (λ e. cc) (λ e. cc))))))))

-- by a step that repeats no Require value
plainly : {frontends : ℕ} {s : List ℕ} {x : Refusal} {c : Option Span} → request_refusal frontends s ≡ Some x → (x ≡ Require → ⊥) → MatchOption c (is_empty (cseq_of s) ≡ true) (CseqIs s)
    → RefusedIs frontends s (refused_by x c)
plainly r n i = record { refusal = r; cseq = i; require = n }

pub head_plainly : (frontends : ℕ) {s : List ℕ} {x : Refusal} {c : Span} → CseqIs s c → head_refusal s ≡ Some x → (x ≡ Require → ⊥) → RefusedIs frontends s (refused_by x (Some c))
head_plainly frontends i h n = plainly (head_refused frontends _ h) n i

pub request_unlaid : (frontends : ℕ) (s : List ℕ) → is_laid_out s ≡ false → RefusedIs frontends s (refused_by Layout None)
unfolding head_refusal cseq_of
request_unlaid frontends s b = plainly (head_refused frontends s (rw b)) (λ e. cc) (rw b)

module _ (s : List ℕ) {l : Lines} (i : LinesAre s l) where
  pub cseq_seen : CseqSeen s (get_or l.headers 0 unseen)
  cseq_seen = record { whole = i.whole; values = i.headers 0 (omega arith); starts = i.starts 0 (omega arith) }

  pub request_uncounted : (frontends : ℕ) → is_empty (cseq_of s) ≡ true → RefusedIs frontends s (refused_by CSeq None)
  unfolding head_refusal
  request_uncounted frontends n = plainly (head_refused frontends s (rw (i.whole, n))) (λ e. cc) n

-- what was read is not refused
pub passed_is : (x : Option Refusal) → is_read x ≡ true → x ≡ None
passed_is None e = refl
passed_is (Some refusal) e = never refl (sym e)

-- a request past steps 3 to 5: its method, and its URI's place
module _ (frontends : ℕ) (s : List ℕ) {l : Lines} {c : Span} {p : Parts} (h : Headed s l c p) where
  line_is : request_line s ≡ part 0 l.line s
  line_is = sym h.begun.lines.line.is

  -- a part of the request line, by its place
  method_held : part 0 p.first (part 0 l.line s) ≡ line_part 0 (request_line s)
  method_held = h.parts_are.method.is ∙ ap (line_part 0) (sym line_is)

  uri_starts : p.first + 1 ≡ uri_start s
  uri_starts = ap (λ n. n + 1) (holds_length h.parts_are.method ∙ zero-add _ ∙ ap (λ l. length (line_part 0 l)) (sym line_is))

  uri_held : part (p.first + 1) p.second (part 0 l.line s) ≡ uri_of s
  uri_held = h.parts_are.uri.is ∙ ap (line_part 1) (sym line_is)

  pub method_read : {m : Method} → m ≡ method_in (part 0 p.first (part 0 l.line s)) → m ≡ method_of s
  unfolding method_of
  method_read e = e ∙ ap method_in method_held

  head_is : head_refusal s ≡ (is_other (method_of s) gives Some OtherMethod or None)
  unfolding head_refusal
  head_is =
      rw (
        h.begun.lines.whole,
        h.begun.cseq_is.some,
        ap is_three line_is ∙ h.parts_are.three,
        h.once,
        h.version,
        h.free,
      )

  pub request_unmethoded : is_other (method_in (part 0 p.first (part 0 l.line s))) ≡ true → head_refusal s ≡ Some OtherMethod
  request_unmethoded y = let o : is_other (method_of s) ≡ true = rw (method_read refl) at y in rw (head_is, o)

  module _ {m : Method} (w : IsMethod (part 0 p.first (part 0 l.line s)) m) where
    e : m ≡ method_of s
    e = method_read w.is

    passes : head_refusal s ≡ None
    passes = let o : is_other (method_of s) ≡ false = rw e at w.named in head_is ∙ rw o

    uri_aimed : uri_refusal frontends m (part (p.first + 1) p.second (part 0 l.line s)) ≡ request_refusal frontends s
    unfolding request_refusal
    uri_aimed = rw (passes, e, uri_held)

    -- refused by one of steps 7 to 10
    pub request_unaimed : {x : Refusal} → Refuses frontends m (part (p.first + 1) p.second (part 0 l.line s)) x → RefusedIs frontends s (refused_by x (Some c))
    request_unaimed f = plainly (sym uri_aimed ∙ f) (λ e. uri_unrequired frontends m (part (p.first + 1) p.second (part 0 l.line s)) (f ∙ ap Some e)) h.begun.cseq_is

    moved : {ys : List ℕ} {j k : ℕ} → Holds (uri_of s) ys j k → Holds s ys (p.first + 1 + j) (p.first + 1 + k)
    moved {ys} {j} {k} x =
        let n : length (part 0 l.line s) ≡ l.line - 0 = part_length 0 l.line s h.line_in in
        simp zero-add at
        (holds_inside 0 l.line s refl (omega arith) h.line_in
        (holds_inside (p.first + 1) p.second (part 0 l.line s) (sym uri_held) (omega (arith, h.first_in)) (omega (arith, h.second_in)) x))

    -- a query of the URI, by its place in the request
    moved_query : {ys : List ℕ} (q : Option Span) → Holds (uri_of s) ys (unwrap_or q nowhere).start (unwrap_or q nowhere).end
        → Holds s ys (unwrap_or (option_map (behind (p.first + 1)) q) nowhere).start (unwrap_or (option_map (behind (p.first + 1)) q) nowhere).end
    moved_query (Some q) x = moved x
    moved_query {ys} None x = let e : [] ≡ ys = x.is in rw (← e) (holds_nothing s)

    -- or by none
    pub request_asked : {a : Aim} {x : Session} {y : Option ℕ} → AimIs frontends m (part (p.first + 1) p.second (part 0 l.line s)) a
        → x ≡ session_seen s (get_or l.headers 1 unseen) → y ≡ transport_of (head_text s (get_or l.headers 2 unseen))
        → AskedIs frontends s (record {
          codes = a.codes;
          spans = a.spans;
          cseq = c;
          method = m;
          stream = a.stream;
          host = record { start = p.first + 1 + a.host.start; end = p.first + 1 + a.host.end };
          query = option_map (behind (p.first + 1)) a.query;
          session = x;
          transport = y;
        })
    request_asked {a} d x y =
        let i : AimIs frontends m (uri_of s) a = rw uri_held at d in
        record {
          passes = sym uri_aimed ∙ d.passes;
          thirteen = d.thirteen;
          cseq = h.begun.cseq_is;
          method = e;
          stream = i.stream;
          host = moved i.host;
          query = rw (uri_starts, i.query_place);
          query_held = moved_query a.query (queried i);
          query_some = mapped_some (behind (p.first + 1)) a.query ∙ i.query_some;
          codes = i.codes;
          spans = i.spans;
          host_starts = rw (uri_starts, i.host_starts);
          starts = i.starts;
          session = x ∙ seen_session (h.begun.lines.headers 1 (omega arith));
          transport = y ∙ ap transport_of (seen_text (h.begun.lines.headers 2 (omega arith)));
        }

-- FROM THE LINES ON
module _ (s : List ℕ) {l : Lines} {c : Span} (b : Begun s l c) where
  seen_of : (k : ℕ) → k < 5 → SeenIs s (values_of k (header_lines s)) (get_or l.headers k unseen)
  seen_of = b.lines.headers

  pub line_within : l.line ≤ length s
  line_within = b.lines.line.within

  own_line : request_line s ≡ part 0 l.line s
  own_line = sym b.lines.line.is

  pub request_unparted : is_three (part 0 l.line s) ≡ false → head_refusal s ≡ Some RequestLine
  unfolding head_refusal
  request_unparted n = rw (b.lines.whole, b.cseq_is.some, ap is_three own_line ∙ n)

  module _ {p : Parts} (i : PartsAre (part 0 l.line s) p) where
    three_is : is_three (request_line s) ≡ true
    three_is = ap is_three own_line ∙ i.three

    module _ {t : Bool} (w : t ≡ are_twice l.headers) where
      twice_is : are_repeated s ≡ t
      twice_is = sym (w ∙ rw (seen_twice (seen_of 1 (omega arith)), seen_twice (seen_of 2 (omega arith)), seen_twice (seen_of 3 (omega arith)), seen_twice (seen_of 4 (omega arith))))

      pub request_twice : t ≡ true → head_refusal s ≡ Some HeaderTwice
      unfolding head_refusal
      request_twice z = rw (b.lines.whole, b.cseq_is.some, three_is, twice_is ∙ z)

      module _ (n : t ≡ false) {v : Bool} (u : v ≡ are_alike Counts (part (p.second + 1) (length (part 0 l.line s)) (part 0 l.line s)) (text "RTSP/1.0")) where
        version_is : is_version s ≡ v
        version_is = sym (u ∙ ap (λ x. are_alike Counts x (text "RTSP/1.0")) (i.version.is ∙ ap (line_part 2) (sym own_line)))

        pub request_unversioned : v ≡ false → head_refusal s ≡ Some Version
        unfolding head_refusal
        request_unversioned z = rw (b.lines.whole, b.cseq_is.some, three_is, twice_is ∙ n, version_is ∙ z)

        module _ (a : v ≡ true) where
          -- a Require header was sent
          module _ {x : Bool} (f : x ≡ is_some (first_seen (get_or l.headers 3 unseen))) where
            sent_is : ltb 0 (length (values_of 3 (header_lines s))) ≡ x
            sent_is = sym (f ∙ first_there (get_or l.headers 3 unseen) ∙ seen_sent (seen_of 3 (omega arith)))

            required_first : x ≡ true → head_refusal s ≡ Some Require
            unfolding head_refusal
            required_first y = rw (b.lines.whole, b.cseq_is.some, three_is, twice_is ∙ n, version_is ∙ a, sent_is ∙ y)

            pub request_required : (frontends : ℕ) → x ≡ true → RefusedIs frontends s (record { refusal = Require; cseq = Some c; require = first_seen (get_or l.headers 3 unseen) })
            request_required frontends y =
                record {
                  refusal = head_refused frontends s (required_first y);
                  cseq = b.cseq_is;
                  require = required_is (get_or l.headers 3 unseen) (seen_of 3 (omega arith)) (b.lines.starts 3 (omega arith)) (sym f ∙ y);
                }

            pub request_headed : x ≡ false → Headed s l c p
            request_headed y =
                let m = i.uri in
                let k : length (part 0 l.line s) ≡ l.line - 0 = part_length 0 l.line s line_within in
                record {
                  begun = b;
                  parts_are = i;
                  once = twice_is ∙ n;
                  version = version_is ∙ a;
                  free = sent_is ∙ y;
                  line_in = line_within;
                  first_in = omega (arith, m.order);
                  second_in = omega (arith, m.within);
                }
