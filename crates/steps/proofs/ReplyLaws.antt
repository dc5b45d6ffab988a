-- What a request is answered with, by the reader's places, is what its bytes say; and every such answer fits its buffer. Assumes nothing.
use mathlib.Core.Path.{◌≡◌, refl, ap, subst, ◌∙◌, sym}
use mathlib.Core.Bool.{Bool, true, false, not, cond, ◌&&◌}
use mathlib.Core.List.{List, [], ◌∷◌}
use Prim.Native.Nat.{ℕ, ◌≤◌, ◌<◌}
use native.Mathlib.Omega.{arith}
use lib.Dec.{eqb, ltb}
use lib.ListN.{length}
use borrow.Author.Tests.{eqb-true, eqb-false}
use Rattle.std.specs.Prelude.{is_some}
use Rattle.scan.specs.Lists.{all, ◌gives◌or◌}
use Rattle.scan.specs.Text.{is_empty}
use Rattle.scan.specs.Found.{text_at, nowhere}
use Rattle.scan.specs.declared.Span.{Span}
use Rattle.scan.proofs.Bools.{never, by_test, cond_keeps}
use Rattle.scan.proofs.Parts.{text_held, text_within, text_nowhere}
use Rattle.digits.specs.Reading.{read_in, digits_read}
use Rattle.digits.proofs.Limits.{are_digits_law}
use Rattle.lines.specs.Lines.{is_laid_out, header_lines}
use Rattle.lines.specs.Headers.{values_of}
use Rattle.lines.specs.Laid.{first_value}
use Rattle.target.specs.Uri.{is_uri, host_of, has_query}
use Rattle.aim.specs.Query.{parts_of, are_parts}
use Rattle.aim.specs.Found.{is_within, takes_no_query, lacks_stream}
use Rattle.aim.specs.Aim.{has_stream, is_given, edits, uri_refusal}
use Rattle.refusals.specs.Refusals as reading
use Rattle.aim.specs.declared.Method.{Method}
use Rattle.aim.specs.declared.Method.TheVariants.{Options, Setup, Play, Teardown, Other}
use Rattle.refusals.specs.declared.Refusal.{Refusal}
use Rattle.refusals.specs.declared.Refusal.TheVariants as refusal
use Rattle.reader.specs.Heads.{CseqIs, RequireIs, AskedIs, RefusedIs}
use Rattle.reader.proofs.RequestLaws.{gives_keeps}
use Rattle.reader.specs.Request.{method_of, uri_of, cseq_most, cseq_limit, cseq_of, head_refusal, request_refusal}
use Rattle.reader.specs.declared.Asked.{Asked as Read}
use Rattle.reader.specs.declared.Refused.{Refused}
use Rattle.table.specs.declared.Session.{Session}
use Rattle.answer.specs.Lines.{refused_lines, answer_lines}
use Rattle.answer.specs.Answers.{lines_by, answer_text}
use Rattle.answer.specs.declared.Answer.{Answer}
use Rattle.answer.specs.declared.Kind.TheVariants as kind
use Rattle.answer.proofs.Fits.{answer_fits}
use Rattle.steps.proofs.Telling.{asked_short, request_short}
use Rattle.std.specs.Prelude.{Option, Some, None, MatchOption, unwrap_or}
use Rattle.steps.specs.Steps.{rule_of, status_of, read_case, is_passed, table_case}
use Rattle.steps.specs.Tests.{lacks_session, names_dead, is_out_of_state, is_anothers, lacks_port}
use Rattle.steps.specs.Replies.{granted_lines, reply_lines, reply_text}
use Rattle.steps.specs.Handed.{refused_kind, granted_kind, kind_of, reply_to, refused_reply}
use Rattle.steps.specs.declared.Sight.{Sight}
use Rattle.steps.specs.declared.cases.Case.{Case}
use Rattle.steps.specs.declared.cases.Case.TheVariants.{Reading, NoSession, NotLive, State, NotOwner, Transport, Combination, TooManyPids, NotReached, Full}
use Rattle.refusals.specs.Refusals.{reading_rule}

-- a case that is none of the reading's
abbrev pub IsUnread : Option Case → Type 0
IsUnread c = (x : Refusal) → c ≡ Some (Reading x) → ⊥

-- what passes is none of the refusals
pub passed_none : (c : Option Case) → is_passed c ≡ true → c ≡ None
passed_none None h = refl
passed_none (Some c) h = never refl (sym h)

pub read_passes : (x : Option Refusal) → is_passed (read_case x) ≡ reading.is_read x
read_passes None = refl
read_passes (Some x) = refl

-- steps 11 to 15 are none of the reading's
pub unread_chain : (b : Bool) (c d : Option Case) → IsUnread c → IsUnread d → IsUnread (b gives c or d)
unread_chain = gives_keeps IsUnread

pub table_unread : (v : Sight) → IsUnread (table_case v)
unfolding table_case
table_unread v =
    unread_chain (lacks_session v) (Some NoSession) _ (λ x e. cc)
    (unread_chain (names_dead v) (Some NotLive) _ (λ x e. cc)
    (unread_chain (is_out_of_state v) (Some State) _ (λ x e. cc)
    (unread_chain (is_anothers v) (Some NotOwner) _ (λ x e. cc)
    (unread_chain (lacks_port v) (Some Transport) None (λ x e. cc) (λ x e. cc)))))

-- THE WORD THAT AN ANSWER REPEATS
-- step 5 is a Require header's
fifth : (c : Case) → (rule_of c).0 ≡ 5 → c ≡ Reading refusal.Require
fifth (Reading refusal.Layout) e = absurd (omega arith)
fifth (Reading refusal.CSeq) e = absurd (omega arith)
fifth (Reading refusal.RequestLine) e = absurd (omega arith)
fifth (Reading refusal.HeaderTwice) e = absurd (omega arith)
fifth (Reading refusal.Version) e = absurd (omega arith)
fifth (Reading refusal.Require) e = refl
fifth (Reading refusal.Method) e = absurd (omega arith)
fifth (Reading refusal.UriLong) e = absurd (omega arith)
fifth (Reading refusal.UriForm) e = absurd (omega arith)
fifth (Reading refusal.QueryUntaken) e = absurd (omega arith)
fifth (Reading refusal.QueryForm) e = absurd (omega arith)
fifth (Reading refusal.PidsClash) e = absurd (omega arith)
fifth (Reading refusal.PidsUnstreamed) e = absurd (omega arith)
fifth (Reading refusal.Value) e = absurd (omega arith)
fifth (Reading refusal.NoStream) e = absurd (omega arith)
fifth NoSession e = absurd (omega arith)
fifth NotLive e = absurd (omega arith)
fifth State e = absurd (omega arith)
fifth NotOwner e = absurd (omega arith)
fifth Transport e = absurd (omega arith)
fifth Combination e = absurd (omega arith)
fifth TooManyPids e = absurd (omega arith)
fifth NotReached e = absurd (omega arith)
fifth Full e = absurd (omega arith)

-- the lines of a kind are those of its method or its step
granted_told : (method : Method) (host : List ℕ) (c : Option Case) (r : Read) (session : Session) → lines_by (granted_kind method) host (reply_to c r session) ≡ granted_lines method host session
unfolding reply_to
granted_told Options host c r session = refl
granted_told Setup host c r session = refl
granted_told Play host c r session = refl
granted_told Teardown host c r session = refl
granted_told Other host c r session = refl

refused_told : (step : ℕ) (word value : List ℕ) (a : Answer) → (eqb step 5 ≡ true → word ≡ value)
    → lines_by (eqb step 5 gives kind.Unsupported or eqb step 6 gives kind.Public or eqb step 10 gives kind.Allow or kind.Bare) word a ≡ refused_lines step value
refused_told step word value a h = by (eqb step 5) (eqb step 6) (eqb step 10) h
  where
    by : (five six ten : Bool) → (five ≡ true → word ≡ value)
        → lines_by (five gives kind.Unsupported or six gives kind.Public or ten gives kind.Allow or kind.Bare) word a
        ≡ (five gives refused_lines 5 value or six gives refused_lines 6 value or ten gives refused_lines 10 value or [])
    by true six ten k = ap (refused_lines 5) (k refl)
    by false true ten k = refl
    by false false true k = refl
    by false false false k = refl

-- the digits of CSeq are those that were sent
cseq_told : {s : List ℕ} {place : Span} → CseqIs s place → text_at s place ≡ cseq_of s
cseq_told {s} {place} i = text_held s (cseq_of s) place i.held

-- none, where there is no such CSeq
cseq_given : (s : List ℕ) (c : Option Span) → MatchOption c (is_empty (cseq_of s) ≡ true) (CseqIs s) → text_at s (unwrap_or c nowhere) ≡ cseq_of s
cseq_given s (Some place) i = cseq_told i
cseq_given s None n = text_nowhere s ∙ sym (none_there (cseq_of s) n)
  where
    none_there : (xs : List ℕ) → is_empty xs ≡ true → xs ≡ []
    none_there [] e = refl
    none_there (x ∷ xs) e = never e refl

-- the value of a Require header, where step 5 refuses
require_given : (s : List ℕ) (x : Refusal) (r : Option Span) → MatchOption r (x ≡ refusal.Require → ⊥) (RequireIs s x) → x ≡ refusal.Require
    → text_at s (unwrap_or r nowhere) ≡ first_value (values_of 3 (header_lines s))
require_given s x (Some place) i e = text_held s (first_value (values_of 3 (header_lines s))) place i.held
require_given s x None n e = absurd (n e)

-- THE ANSWER IS WHAT THE REQUEST'S BYTES SAY: of one that steps 1 to 10 let through
module _ (frontends : ℕ) (s : List ℕ) (r : Read) (i : AskedIs frontends s r) where
  abbrev word_at : Option Case → Span
  word_at c = cond (is_passed c) r.host nowhere

  lines_told_law : (c : Option Case) (session : Session) → IsUnread c → lines_by (kind_of c r.method) (text_at s (word_at c)) (reply_to c r session) ≡ reply_lines c s session
  unfolding reply_to
  lines_told_law None session n =
      granted_told r.method (text_at s r.host) None r session
      ∙ ap (λ m. granted_lines m (text_at s r.host) session) i.method
      ∙ ap (λ host. granted_lines (method_of s) host session) (text_held s (host_of (uri_of s)) r.host i.host)
  lines_told_law (Some c) session n =
      refused_told (rule_of c).0 (text_at s nowhere) (first_value (values_of 3 (header_lines s))) (reply_to (Some c) r session)
      (λ y. absurd (n refusal.Require (ap Some (fifth c (eqb-true (rule_of c).0 5 y)))))

  pub reply_told : (c : Option Case) (session : Session) → IsUnread c → answer_text s (reply_to c r session) ≡ reply_text c s session
  unfolding reply_to reply_text
  reply_told c session n =
      ap (answer_lines (status_of c) (text_at s r.cseq)) (lines_told_law c session n)
      ∙ ap (λ digits. answer_lines (status_of c) digits (reply_lines c s session)) (cseq_told i.cseq)

  -- its word is short
  word_short : (c : Option Case) → length (text_at s (word_at c)) ≤ 2048
  word_short c = omega (arith, text_within s (word_at c), asked_short frontends s i.passes)

-- and of one that they refuse
module _ (frontends : ℕ) (s : List ℕ) (x : Refused) (j : RefusedIs frontends s x) where
  abbrev value_at : Span
  value_at = unwrap_or x.require nowhere

  is_fifth : eqb (reading_rule x.refusal).0 5 ≡ true → x.refusal ≡ refusal.Require
  is_fifth y = let e : Reading x.refusal ≡ Reading refusal.Require = fifth (Reading x.refusal) (eqb-true (reading_rule x.refusal).0 5 y) in cc

  refusal_lines : (session : Session) → lines_by (refused_kind (Reading x.refusal)) (text_at s value_at) (refused_reply x) ≡ reply_lines (Some (Reading x.refusal)) s session
  refusal_lines session =
      refused_told (reading_rule x.refusal).0 (text_at s value_at) (first_value (values_of 3 (header_lines s))) (refused_reply x)
      (λ y. require_given s x.refusal x.require j.require (is_fifth y))

  pub refusal_told : (session : Session) → answer_text s (refused_reply x) ≡ reply_text (Some (Reading x.refusal)) s session
  unfolding refused_reply reply_text
  refusal_told session =
      ap (answer_lines (reading_rule x.refusal).1 (text_at s (unwrap_or x.cseq nowhere))) (refusal_lines session)
      ∙ ap (λ digits. answer_lines (reading_rule x.refusal).1 digits (reply_lines (Some (Reading x.refusal)) s session)) (cseq_given s x.cseq j.cseq)

  required_short : length (text_at s value_at) ≤ 2048
  required_short = short x.require j.require
    where
      short : (r : Option Span) → MatchOption r (x.refusal ≡ refusal.Require → ⊥) (RequireIs s x.refusal) → length (text_at s (unwrap_or r nowhere)) ≤ 2048
      short (Some place) i =
          let read : request_refusal frontends s ≡ Some refusal.Layout → ⊥ = λ z. let k : Some x.refusal ≡ Some refusal.Layout = sym j.refusal ∙ z in let e = i.is in cc in
          omega (arith, text_within s place, request_short frontends s read)
      short None n = rw (text_nowhere s) (omega arith)

-- EVERY ANSWER FITS
status_read : (q : Refusal) → (reading_rule q).1 < 1000
status_read refusal.Layout = omega arith
status_read refusal.CSeq = omega arith
status_read refusal.RequestLine = omega arith
status_read refusal.HeaderTwice = omega arith
status_read refusal.Version = omega arith
status_read refusal.Require = omega arith
status_read refusal.Method = omega arith
status_read refusal.UriLong = omega arith
status_read refusal.UriForm = omega arith
status_read refusal.QueryUntaken = omega arith
status_read refusal.QueryForm = omega arith
status_read refusal.PidsClash = omega arith
status_read refusal.PidsUnstreamed = omega arith
status_read refusal.Value = omega arith
status_read refusal.NoStream = omega arith

pub status_small : (c : Option Case) → status_of c < 1000
status_small None = omega arith
status_small (Some (Reading q)) = status_read q
status_small (Some NoSession) = omega arith
status_small (Some NotLive) = omega arith
status_small (Some State) = omega arith
status_small (Some NotOwner) = omega arith
status_small (Some Transport) = omega arith
status_small (Some Combination) = omega arith
status_small (Some TooManyPids) = omega arith
status_small (Some NotReached) = omega arith
status_small (Some Full) = omega arith

-- CSeq has ten digits at most
abbrev IsShort : List ℕ → Type 0
IsShort digits = length digits ≤ 10

pub cseq_short : (s : List ℕ) → IsShort (cseq_of s)
unfolding cseq_of
cseq_short s =
    let vs = values_of 0 (header_lines s) in
    let v = first_value vs in
    cond_keeps IsShort (is_laid_out s) (cond (eqb (length vs) 1) (digits_read 10 cseq_most cseq_limit v) []) []
    (λ _. cond_keeps IsShort (eqb (length vs) 1) (digits_read 10 cseq_most cseq_limit v) []
    (λ _. cond_keeps IsShort (is_some (read_in 10 cseq_most cseq_limit v)) v [] (λ y. omega (arith, (are_digits_law 10 cseq_most cseq_limit v y).few)) (λ _. omega arith))
    (λ _. omega arith))
    (λ _. omega arith)

-- a session's numbers of 32 bits, as the code's are
pub record Numbers (session : Session) : Type 0 where
  pub number : session.number < 4294967296
  pub stream : session.stream < 4294967296
  pub address : session.address < 4294967296
  pub port : session.port < 4294967296

pub reply_fits : (frontends : ℕ) (s : List ℕ) (r : Read) → AskedIs frontends s r → (c : Option Case) (session : Session) → IsUnread c → Numbers session
    → length (reply_text c s session) ≤ 4096
unfolding reply_to
reply_fits frontends s r i c session u n =
    subst (λ t. length t ≤ 4096) (reply_told frontends s r i c session u)
    (answer_fits (text_at s r.cseq) (text_at s (cond (is_passed c) r.host nowhere)) (reply_to c r session)
    (record {
      status = omega (arith, status_small c);
      session = n.number;
      stream = n.stream;
      address = n.address;
      port = n.port;
    })
    (rw (cseq_told i.cseq) (cseq_short s))
    (word_short frontends s r i c))

pub refusal_fits : (frontends : ℕ) (s : List ℕ) (x : Refused) → RefusedIs frontends s x → (session : Session) → length (reply_text (Some (Reading x.refusal)) s session) ≤ 4096
unfolding refused_reply
refusal_fits frontends s x j session =
    subst (λ t. length t ≤ 4096) (refusal_told frontends s x j session)
    (answer_fits (text_at s (unwrap_or x.cseq nowhere)) (text_at s (unwrap_or x.require nowhere)) (refused_reply x)
    (record {
      status = omega (arith, status_read x.refusal);
      session = omega arith;
      stream = omega arith;
      address = omega arith;
      port = omega arith;
    })
    (rw (cseq_given s x.cseq j.cseq) (cseq_short s))
    (required_short frontends s x j))
