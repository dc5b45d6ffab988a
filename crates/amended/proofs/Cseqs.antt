-- ORDER 2: CSeq comes back as it was sent, in every answer of every box; and for a CSeq without leading zeros every answer is that of before.
-- Assumes nothing.
use mathlib.Core.Path.{◌≡◌, refl, sym, ap, ◌∙◌}
use mathlib.Core.Bool.{true, false, not, cond, ◌||◌}
use mathlib.Core.List.{List, [], ◌∷◌, append_assoc}
use Prim.Native.Nat.{ℕ, ◌≤◌}
use native.Mathlib.Omega.{arith}
use lib.Dec.{eqb, ltb}
use lib.ListN.{length, get_or}
use borrow.Author.Tests.{eqb-true, le-leb}
use Rattle.std.specs.Prelude.{Option, Some, None}
use Rattle.scan.specs.Lists.{all, is_digit, is_text, ◌gives◌or◌}
use Rattle.scan.specs.Text.{text, ◌&◌, is_empty, are_alike}
use Rattle.scan.specs.declared.Case.TheVariants.{Counts}
use Rattle.scan.proofs.Bools.{never, and_both, Case as Test, is, isnt, case}
use Rattle.scan.proofs.Parts.{some_text}
use Rattle.digits.specs.Reading.{spelled, read_in, has_leading_zero, read_number}
use Rattle.std.specs.Prelude.{Option, Some, None, is_some}
use Rattle.digits.specs.declared.Zeros.TheVariants.{Allowed}
use Rattle.digits.proofs.Limits.{are_digits_law}
use Rattle.writing.specs.Writing.{decimal, width, numeral}
use Rattle.writing.proofs.Numerals.{decimal_bare, read_decimal}
use Rattle.lines.specs.Lines.{lines, is_laid_out, request_line, header_lines}
use Rattle.lines.specs.Headers.{values_of}
use Rattle.target.specs.Line.{is_three, line_part}
use Rattle.refusals.specs.Refusals as reading
use Rattle.refusals.specs.declared.Refusal.{Refusal}
use Rattle.refusals.specs.declared.Refusal.TheVariants as refusal
use Rattle.aim.specs.Aim.{uri_refusal, method_number}
use Rattle.reader.specs.Request.{cseq_of, method_of, uri_of, is_twice, head_refusal, request_refusal}
use Rattle.answer.specs.Lines.{reason_of, line, cseq_line}
use Rattle.answer.proofs.Fits.{reason_keeps}
use Rattle.table.specs.Table.{no_session}
use Rattle.table.specs.declared.Session.{Session}
use Rattle.table.specs.declared.SatBox.{SatBox}
use Rattle.closings.specs.Closing.{sweeping}
use Rattle.steps.specs.Sights.{asked_of, lists_of}
use Rattle.steps.specs.Steps.{status_of, read_case}
use Rattle.steps.specs.Replies.{reply_text, reply_lines}
use Rattle.steps.specs.declared.cases.Case.{Case}
use Rattle.steps.specs.declared.cases.Case.TheVariants.{Reading}
use Rattle.steps.proofs.ReplyLaws.{status_small}
use Rattle.serving.specs.Serving.{kept, Serving, served, denied, client_of, answered}
use Rattle.satbox.specs.Calls.{following, requested, answer_of}
use Rattle.amended.proofs.Spellings.{Bare, all_digits, digits_text, one_spelling, line_first}

-- DOCUMENT 01, WHERE ORDER 2 HAS OTHER WORDS: step 2 reads a number, and "All later answers carry it, without leading zeros"
unfoldable pub number_before : List ℕ → Option ℕ
number_before s =
    let vs = values_of 0 (header_lines s) in
    cond (is_laid_out s) (cond (eqb (length vs) 1) (read_number Allowed 10 4294967295 (get_or vs 0 [])) None) None

abbrev pub cseq_before : Option ℕ → List ℕ
cseq_before (Some n) = line "CSeq: " (decimal n)
cseq_before None = []

unfoldable pub head_before : List ℕ → Option Refusal
head_before s =
    not (is_laid_out s) gives Some refusal.Layout or
    not (is_some (number_before s)) gives Some refusal.CSeq or
    not (is_three (request_line s)) gives Some refusal.RequestLine or
    (is_twice 1 s || is_twice 2 s || is_twice 3 s || is_twice 4 s) gives Some refusal.HeaderTwice or
    not (are_alike Counts (line_part 2 (request_line s)) (text "RTSP/1.0")) gives Some refusal.Version or
    ltb 0 (length (values_of 3 (header_lines s))) gives Some refusal.Require or
    eqb (method_number (method_of s)) 4 gives Some refusal.Method or
    None

abbrev pub refusal_before : ℕ → List ℕ → Option Refusal
refusal_before frontends s = not (reading.is_read (head_before s)) gives head_before s or uri_refusal frontends (method_of s) (uri_of s)

unfoldable pub served_before : List ℕ → ℕ → ℕ → SatBox → Serving
served_before s address draw t =
    let asked = asked_of t.settings.frontends s in
    cond (reading.is_read (refusal_before t.settings.frontends s)) (served (kept asked t) asked (lists_of s) (client_of address draw asked))
    (denied t (read_case (refusal_before t.settings.frontends s)))

unfoldable pub requested_before : List ℕ → ℕ → ℕ → ℕ → SatBox → Serving
requested_before s clock address draw t = following (sweeping clock t) (served_before s address draw (sweeping clock t).satbox)

unfoldable pub reply_before : Option Case → List ℕ → Session → List ℕ
reply_before c s session =
    text "RTSP/1.0 " & decimal (status_of c) & line " " (text (reason_of (status_of c))) & cseq_before (number_before s)
    & reply_lines c s session
    & text "\r\n"

unfoldable pub answer_before : List ℕ → ℕ → ℕ → ℕ → SatBox → List ℕ
answer_before s clock address draw t = reply_before (requested_before s clock address draw t).case s (requested_before s clock address draw t).session

-- STEP 2, BY ITS WORDS: "exactly one CSeq of 1 to 10 digits up to 4294967295", and these are its digits
pub record Sends (s digits : List ℕ) : Type 0 where
  pub whole : is_laid_out s ≡ true
  pub once : values_of 0 (header_lines s) ≡ digits ∷ []
  pub some : 1 ≤ length digits
  pub few : length digits ≤ 10
  pub are : all is_digit digits ≡ true
  pub small : spelled 10 digits ≤ 4294967295

-- the digits that are handed on are those
sends_is : {s digits : List ℕ} → Sends s digits → cseq_of s ≡ digits
unfolding cseq_of
sends_is {s} {digits} c =
    rw (
      c.whole,
      c.once,
      le-leb 1 (length digits) c.some,
      le-leb (length digits) 10 c.few,
      all_digits digits ∙ c.are,
      le-leb (spelled 10 digits) 4294967295 c.small,
    )

sent : {s digits : List ℕ} → cseq_of s ≡ digits → Sends s digits → is_empty (cseq_of s) ≡ false
sent {s} {digits} e d = ap is_empty e ∙ some_text digits d.some

only : (vs : List (List ℕ)) → length vs ≡ 1 → vs ≡ get_or vs 0 [] ∷ []
only [] e = absurd (omega arith)
only (v ∷ []) e = refl
only (v ∷ w ∷ vs) e = absurd (omega arith)

-- or there are none, and no number was read before either
data Sending (s : List ℕ) : Type 0 where
  none : cseq_of s ≡ [] → number_before s ≡ None → Sending s
  some : Sends s (cseq_of s) → number_before s ≡ Some (spelled 10 (cseq_of s)) → Sending s

sending : (s : List ℕ) → Sending s
unfolding cseq_of number_before read_number
sending s = by (case (is_laid_out s)) (case (eqb (length vs) 1)) (case (is_some (read_in 10 10 4294967295 v)))
  where
    vs : List (List ℕ)
    vs = values_of 0 (header_lines s)

    v : List ℕ
    v = get_or vs 0 []

    unread : (r : Option ℕ) → is_some r ≡ false → r ≡ None
    unread (Some n) e = never refl e
    unread None e = refl

    by : Test (is_laid_out s) → Test (eqb (length vs) 1) → Test (is_some (read_in 10 10 4294967295 v)) → Sending s
    by (isnt n) p q = none (rw n) (rw n)
    by (is y) (isnt n) q = none (rw (y, n)) (rw (y, n))
    by (is y) (is z) (isnt n) = none (rw (y, z, n)) (rw (y, z) (unread (read_in 10 10 4294967295 v) n))
    by (is y) (is z) (is w) =
        let d = are_digits_law 10 10 4294967295 v w in
        let e : cseq_of s ≡ v = rw (y, z, w) in
        some
        (rw e (record { whole = y; once = only vs (eqb-true (length vs) 1 z); some = d.some; few = d.few; are = sym (all_digits v) ∙ d.digits; small = d.small }))
        (rw (e, y, z, le-leb 1 (length v) d.some, le-leb (length v) 10 d.few, d.digits, le-leb (spelled 10 v) 4294967295 d.small))

-- a number in decimal: digits without leading zeros that say it
abbrev number_of : Option ℕ → ℕ
number_of (Some n) = n
number_of None = 0

decimal_read : (v : ℕ) → v ≤ 4294967295 → read_in 10 10 4294967295 (decimal v) ≡ Some v
unfolding read_number
decimal_read v h = read_decimal Allowed 9 4294967295 v h (omega arith) (omega arith)

decimal_is : (v : ℕ) → v ≤ 4294967295 → Bare (decimal v)
decimal_is v h =
    let d = are_digits_law 10 10 4294967295 (decimal v) (ap is_some (decimal_read v h)) in
    record { some = d.some; are = sym (all_digits (decimal v)) ∙ d.digits; bare = decimal_bare v (omega arith) }

decimal_says : (v : ℕ) → v ≤ 4294967295 → spelled 10 (decimal v) ≡ v
decimal_says v h =
    let d = are_digits_law 10 10 4294967295 (decimal v) (ap is_some (decimal_read v h)) in
    let e : read_in 10 10 4294967295 (decimal v) ≡ Some (spelled 10 (decimal v)) =
    rw (le-leb 1 (length (decimal v)) d.some, le-leb (length (decimal v)) 10 d.few, d.digits, le-leb (spelled 10 (decimal v)) 4294967295 d.small)
    in
    ap number_of (sym e ∙ decimal_read v h)

-- EVERY ANSWER, LINE BY LINE
reason_text : (status : ℕ) → all is_text (text (reason_of status)) ≡ true
reason_text = reason_keeps (λ t. all is_text (text t) ≡ true) refl refl refl refl refl refl refl refl refl refl refl refl refl refl

text_both : (x y : List ℕ) → all is_text x ≡ true → all is_text y ≡ true → all is_text (x & y) ≡ true
text_both [] y p q = q
text_both (z ∷ x) y p q = let m = and_both (is_text z) (all is_text x) p in rw (m.0, text_both x y m.1 q)

-- the first line of an answer; what stands before the digits of CSeq, and what behind them
abbrev pub status_text : Option Case → List ℕ
status_text c = text "RTSP/1.0 " & decimal (status_of c) & text " " & text (reason_of (status_of c))

abbrev pub front_of : Option Case → List ℕ
front_of c = status_text c & text "\r\nCSeq: "

abbrev pub back_of : Option Case → List ℕ → Session → List ℕ
back_of c s session =
    text "\r\n"
    & reply_lines c s session
    & text "\r\n"

status_text_law : (c : Option Case) → all is_text (status_text c) ≡ true
status_text_law c =
    let v = status_of c in
    text_both (decimal v) (text " " & text (reason_of v)) (digits_text (decimal v) (decimal_is v (omega (arith, status_small c))).are) (reason_text v)

in_place : (code reason digits more : List ℕ)
    → text "RTSP/1.0 " & code & (text " " & reason & text "\r\n") & (text "CSeq: " & digits & text "\r\n") & more
    ≡ ((text "RTSP/1.0 " & code & text " " & reason) & text "\r\nCSeq: ") & digits & text "\r\n" & more
in_place code reason digits more = simp append_assoc

number_sent : (s : List ℕ) → is_empty (cseq_of s) ≡ false → number_before s ≡ Some (spelled 10 (cseq_of s))
number_sent s n = by (sending s)
  where
    by : Sending s → number_before s ≡ Some (spelled 10 (cseq_of s))
    by (none e f) = never (ap is_empty e) n
    by (some d f) = f

module _ (c : Option Case) (s : List ℕ) (session : Session) (n : is_empty (cseq_of s) ≡ false) where
  reply_in_place : reply_text c s session ≡ front_of c & cseq_of s & back_of c s session
  unfolding reply_text
  reply_in_place = rw n (in_place (decimal (status_of c)) (text (reason_of (status_of c))) (cseq_of s) _)

  before_in_place : reply_before c s session ≡ front_of c & decimal (spelled 10 (cseq_of s)) & back_of c s session
  unfolding reply_before
  before_in_place = rw (number_sent s n) (in_place (decimal (status_of c)) (text (reason_of (status_of c))) (decimal (spelled 10 (cseq_of s))) _)

  second_line : all is_digit (cseq_of s) ≡ true → get_or (lines (reply_text c s session)) 1 [] ≡ text "CSeq: " & cseq_of s
  second_line d =
      ap (λ l. get_or (lines l) 1 []) (reply_in_place ∙ append_assoc (status_text c) (text "\r\nCSeq: ") (cseq_of s & back_of c s session))
      ∙ ap (λ ls. get_or ls 1 []) (line_first (status_text c) (text "CSeq: " & cseq_of s & back_of c s session) (status_text_law c))
      ∙ ap (λ ls. get_or ls 0 []) (line_first (text "CSeq: " & cseq_of s) _ (digits_text (cseq_of s) d))

-- the answer of steps 1 and 2
refusal_early : (frontends : ℕ) (s : List ℕ) (r : Refusal) → head_refusal s ≡ Some r → request_refusal frontends s ≡ Some r
unfolding request_refusal
refusal_early frontends s r h = rw h

unlaid : (s : List ℕ) → is_laid_out s ≡ false → head_refusal s ≡ Some refusal.Layout
unfolding head_refusal
unlaid s z = rw z

uncounted : (s : List ℕ) → is_laid_out s ≡ true → cseq_of s ≡ [] → head_refusal s ≡ Some refusal.CSeq
unfolding head_refusal
uncounted s y e = rw (y, e)

abbrev Bad : List ℕ → Refusal → Type 0
Bad s r = reply_text (Some (Reading r)) s no_session ≡ text "RTSP/1.0 400 Bad Request\r\n\r\n"

early_text : (s : List ℕ) → cseq_of s ≡ [] → Bad s refusal.Layout × Bad s refusal.CSeq
unfolding reply_text reason_of decimal width numeral
early_text s e = (rw e, rw e)

-- AS BEFORE: step 2 refuses what it refused
refuses_alike : (s : List ℕ) → is_empty (cseq_of s) ≡ not (is_some (number_before s))
refuses_alike s = by (sending s)
  where
    by : Sending s → is_empty (cseq_of s) ≡ not (is_some (number_before s))
    by (none e f) = rw (e, f)
    by (some d f) = rw (f, some_text (cseq_of s) d.some)

head_as_before : (s : List ℕ) → head_refusal s ≡ head_before s
unfolding head_refusal head_before
head_as_before s = rw (refuses_alike s)

-- and a CSeq without leading zeros is written as it was
line_as_before : (s : List ℕ) → ((digits : List ℕ) → Sends s digits → has_leading_zero digits ≡ false) → cseq_line (cseq_of s) ≡ cseq_before (number_before s)
line_as_before s h = by (sending s)
  where
    by : Sending s → cseq_line (cseq_of s) ≡ cseq_before (number_before s)
    by (none e f) = rw (e, f)
    by (some d f) =
        let n = spelled 10 (cseq_of s) in
        rw (f, some_text (cseq_of s) d.some)
        (ap (line "CSeq: ")
        (one_spelling (cseq_of s) (decimal n) (record { some = d.some; are = d.are; bare = h (cseq_of s) d }) (decimal_is n d.small) (sym (decimal_says n d.small))))

module _ (s : List ℕ) (clock address draw : ℕ) (t : SatBox) where
  abbrev turn : Serving
  turn = requested s clock address draw t

  -- "EVERY ANSWER THAT CARRIES CSEQ COPIES THOSE DIGITS": the second line is `CSeq: ` and the digits that were sent
  pub comes_back : (digits : List ℕ) → Sends s digits → get_or (lines (answer_of s clock address draw t)) 1 [] ≡ text "CSeq: " & digits
  unfolding answer_of
  comes_back digits d =
      let e = sends_is d in
      rw (← e) (second_line turn.case s turn.session (sent e d) (rw e d.are))

  -- AND NO OTHER ANSWER CARRIES ONE
  refused_early : (r : Refusal) → head_refusal s ≡ Some r → answer_of s clock address draw t ≡ reply_text (Some (Reading r)) s no_session
  unfolding answer_of requested answered
  refused_early r h = rw (refusal_early (sweeping clock t).satbox.settings.frontends s r h)

  pub none_comes_back : ((digits : List ℕ) → Sends s digits → ⊥) → answer_of s clock address draw t ≡ text "RTSP/1.0 400 Bad Request\r\n\r\n"
  none_comes_back n = by (sending s) (case (is_laid_out s))
    where
      by : Sending s → Test (is_laid_out s) → answer_of s clock address draw t ≡ text "RTSP/1.0 400 Bad Request\r\n\r\n"
      by (some d f) l = absurd (n (cseq_of s) d)
      by (none e f) (isnt z) = refused_early refusal.Layout (unlaid s z) ∙ (early_text s e).0
      by (none e f) (is y) = refused_early refusal.CSeq (uncounted s y e) ∙ (early_text s e).1

  -- AS BEFORE: the same case, session, table and records, whatever the CSeq
  pub requested_as_before : requested s clock address draw t ≡ requested_before s clock address draw t
  unfolding requested requested_before answered served_before request_refusal
  requested_as_before = rw (head_as_before s)

  -- the answer to a request with a CSeq is that of before but for the digits, which were those of the number
  pub nothing_else : (digits : List ℕ) → Sends s digits
      → (answer_of s clock address draw t ≡ front_of turn.case & digits & back_of turn.case s turn.session)
      × (answer_before s clock address draw t ≡ front_of turn.case & decimal (spelled 10 digits) & back_of turn.case s turn.session)
  unfolding answer_of answer_before
  nothing_else digits d =
      let e = sends_is d in
      let n = sent e d in
      rw (← e, ← requested_as_before) (reply_in_place turn.case s turn.session n, before_in_place turn.case s turn.session n)

  -- so without leading zeros it is the same, byte for byte
  pub answer_as_before : ((digits : List ℕ) → Sends s digits → has_leading_zero digits ≡ false) → answer_of s clock address draw t ≡ answer_before s clock address draw t
  unfolding answer_of answer_before reply_text reply_before
  answer_as_before h = rw (← requested_as_before, line_as_before s h)
