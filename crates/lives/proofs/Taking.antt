-- What a closing leaves, and which records it writes: whom the session takes along is closed, everybody else is as before. Assumes nothing.
use mathlib.Core.Path.{◌≡◌, refl, sym, ◌∙◌, ap, subst}
use mathlib.Core.Bool.{Bool, true, false, not, cond, ◌&&◌, and-false, and-true}
use mathlib.Core.List.{List, [], ◌∷◌, map, map-append, append-nil}
use Prim.Native.Nat.{ℕ, zero, suc, ◌≤◌, ◌<◌}
use native.Mathlib.Decide.{dec_lt}
use native.Mathlib.Omega.{arith}
use lib.Dec.{eqb}
use lib.ListN.{length, get_or, set, get_or-eq_default}
use lib.Seq.{get_or-set_other}
use borrow.Author.Tests.{eq-eqb, ne_eqb, eqb-true}
use Rattle.scan.specs.Lists.{first}
use Rattle.scan.proofs.Bools.{never, and_both, both, or_second, or_right, by_cases, Case, is, isnt, case, Same, same, other, sames, cond_keeps}
use Rattle.journal.specs.declared.Record.{Record}
use Rattle.stream.specs.Streams.{no_stream, past_stream}
use Rattle.table.specs.Table.{count, no_session, has_number, is_open, session_at, stream_of, is_on, owns}
use Rattle.table.specs.declared.Session.{Session}
use Rattle.table.specs.declared.SatBox.{SatBox}
use Rattle.table.proofs.Counts.{bit_yes, bit_no, count_set, count_zero_at, get_or_set_here}
use Rattle.table.proofs.Changes.{opened, seated_live}
use Rattle.closings.specs.Closing.{Did, nothing, then, upto, reseated, noting, close_one, close_on, cascade, closing}
use Rattle.closings.specs.Does.{Closable}
use Rattle.closings.proofs.Closings.{free}
use Rattle.closings.proofs.Keeping.{Whole, owner_sessions, owner_streams}
use Rattle.lives.specs.Closed.{takes, closing_of, unnumbered, in_order, closings_at}
use Rattle.promises.proofs.Retuning.{stream_other}
use Rattle.promises.proofs.Methods.{get_or_clear}
use Rattle.lives.proofs.Fates.{off_stream}

-- OF LISTS: what passes a test that the default fails is in the list, and the first that passes is not past it
module _ {A : Type 0} (p : A → Bool) (l : List A) (d : A) (no : p d ≡ false) where
  pub within : (i : ℕ) → p (get_or l i d) ≡ true → i < length l
  within i y =
      by_cases (dec_lt i (length l)) (λ h. h)
      (λ h. never y (subst (λ (x : A). p x ≡ false) (sym (get_or-eq_default l d {n = i} (omega arith))) no))

  -- where at most one passes, two that pass are one
  pub sole : count p l ≤ 1 → (i k : ℕ) → p (get_or l i d) ≡ true → p (get_or l k d) ≡ true → i ≡ k
  sole few i k y z = by (sames i k)
    where
      by : Same i k → i ≡ k
      by (same e) = e
      by (other e) =
          let less = count_set p l i d d (within i y) in
          let none : count p (set l i d) ≡ 0 = omega (arith, less, bit_yes y, bit_no no) in
          never z (subst (λ (x : A). p x ≡ false) (get_or-set_other l i k d d (λ q. e (sym q))) (count_zero_at p (set l i d) k d no none))

pub first_least : {A : Type 0} (p : A → Bool) (l : List A) (d : A) (i : ℕ) → i < length l → p (get_or l i d) ≡ true → first p l ≤ i
first_least p [] d i h y = absurd (omega arith)
first_least p (a ∷ l) d zero h y = rw y (omega arith)
first_least p (a ∷ l) d (suc i) h y =
    cond_keeps (λ n. n ≤ suc i) (p a) 0 (suc (first p l)) (λ e. omega arith) (λ e. omega (arith, first_least p l d i (omega arith) y))

-- OF WHAT STANDS IN PLACE ORDER
pub order_same : (f g : ℕ → List Record) (n : ℕ) → ((k : ℕ) → f k ≡ g k) → in_order f n ≡ in_order g n
unfolding in_order
order_same f g zero h = refl
order_same f g (suc n) h = rw (order_same f g n h, h n)

pub order_none : (f : ℕ → List Record) (n : ℕ) → ((k : ℕ) → f k ≡ []) → in_order f n ≡ []
unfolding in_order
order_none f zero h = refl
order_none f (suc n) h = rw (order_none f n h, h n)

-- OF TWO SESSIONS
pub takes_self : (s : Session) → takes s s ≡ true
takes_self s = rw (eq-eqb s.number s.number refl)

pub takes_on : (r s : Session) → owns r.stream r ≡ true → is_on r.stream s ≡ true → takes r s ≡ true
takes_on r s own on = or_right (has_number s.number r) (both own on)

module _ (t : SatBox) (w : Whole t) where
  -- open sessions have different numbers
  pub one_number : (i k : ℕ) → ((session_at t i).number ≡ 0 → ⊥) → (session_at t i).number ≡ (session_at t k).number → i ≡ k
  one_number i k some e =
      let n = (session_at t i).number in
      sole (has_number n) t.sessions no_session (ne_eqb 0 n (λ q. some (sym q))) (w.formed.seats.numbers n some) i k (eq-eqb n n refl) (eq-eqb _ n (sym e))

  -- and a stream has one owner
  pub one_owner : (id i k : ℕ) → owns id (session_at t i) ≡ true → owns id (session_at t k) ≡ true → i ≡ k
  one_owner id i k y z =
      let on = (and_both (is_on id (session_at t i)) _ y).0 in
      let some = opened (session_at t i) (and_both (is_open (session_at t i)) _ on).0 in
      let live = seated_live t.sessions (past_stream ∷ t.streams) w.formed.seats i some in
      let here = eqb-true (session_at t i).stream id (and_both (is_open (session_at t i)) _ on).1 in
      let one : count (owns id) t.sessions ≡ 1 = w.formed.seats.owners id (subst (λ n. (stream_of t n).frontend ≡ 0 → ⊥) here live) in
      sole (owns id) t.sessions no_session refl (omega arith) i k y z

-- A CASCADE
-- what it has not come to is as before
record Ahead (t : SatBox) (n : ℕ) (u : SatBox) : Type 0 where
  clock : u.clock ≡ t.clock
  streams : u.streams ≡ t.streams
  seats : (k : ℕ) → n ≤ k → session_at u k ≡ session_at t k

close_on_ahead : (id n : ℕ) (t u : SatBox) → Ahead t n u → Ahead t (suc n) (close_on id n u).satbox
unfolding close_on close_one noting reseated
close_on_ahead id n t u a =
    cond_keeps (λ (d : Did). Ahead t (suc n) d.satbox) (is_on id (session_at u n)) (close_one 3 n u) (nothing u)
    (λ e.
    record {
      clock = a.clock;
      streams = a.streams;
      seats = λ k h. get_or-set_other u.sessions n k no_session no_session (λ q. omega arith) ∙ a.seats k (omega arith);
    })
    (λ e. record { clock = a.clock; streams = a.streams; seats = λ k h. a.seats k (omega arith) })

cascade_ahead : (id : ℕ) (t : SatBox) (n : ℕ) → Ahead t n (upto (close_on id) n t).satbox
unfolding upto
cascade_ahead id t zero = record { clock = refl; streams = refl; seats = λ k h. refl }
cascade_ahead id t (suc n) = close_on_ahead id n t (upto (close_on id) n t).satbox (cascade_ahead id t n)

close_on_text : (id n : ℕ) (t u : SatBox) → Ahead t n u → Case (is_on id (session_at t n))
    → map unnumbered (close_on id n u).records ≡ cond (is_on id (session_at t n)) (closing_of 3 t n ∷ []) []
unfolding close_on close_one noting
close_on_text id n t u a (is y) = rw (a.seats n (omega arith), y, a.clock, a.streams)
close_on_text id n t u a (isnt y) = rw (a.seats n (omega arith), y)

cascade_text : (id : ℕ) (t : SatBox) (n : ℕ)
    → map unnumbered (upto (close_on id) n t).records ≡ in_order (λ k. cond (is_on id (session_at t k)) (closing_of 3 t k ∷ []) []) n
unfolding upto in_order
cascade_text id t zero = refl
cascade_text id t (suc n) =
    let u = (upto (close_on id) n t).satbox in
    map-append unnumbered (upto (close_on id) n t).records (close_on id n u).records
    ∙ rw (cascade_text id t n, close_on_text id n t u (cascade_ahead id t n) (case _))

-- A CLOSING
module _ (cause i : ℕ) (t : SatBox) (c : Closable t i) (w : Whole t) where
  abbrev s : Session
  s = session_at t i

  -- another has another number
  apart : (k : ℕ) → (k ≡ i → ⊥) → has_number (session_at t k).number s ≡ false
  apart k h = ne_eqb s.number (session_at t k).number (λ q. h (sym (one_number t w i k c.some q)))

  -- of one that owns nothing
  module _ (own : s.owner ≡ 0) where
    alone : (k : ℕ) → (k ≡ i → ⊥) → takes s (session_at t k) ≡ false
    alone k h = rw (apart k h, own, and-false (is_on s.stream s))

    alone_is : closing cause i t ≡ close_one cause i t
    unfolding closing
    alone_is = rw (eq-eqb s.owner 0 own)

    alone_seats : (k : ℕ) → Same k i → session_at (closing cause i t).satbox k ≡ cond (takes s (session_at t k)) no_session (session_at t k)
    unfolding close_one noting reseated
    alone_seats k (same e) =
        rw (e, alone_is, takes_self s) (get_or_set_here (λ (x : Session). x ≡ no_session) t.sessions i no_session no_session refl refl)
    alone_seats k (other e) = rw (alone_is, alone k e) (get_or-set_other t.sessions i k no_session no_session e)

    alone_rows : (id : ℕ) → stream_of (closing cause i t).satbox id ≡ stream_of t id
    unfolding close_one noting reseated
    alone_rows id = rw alone_is

    nobody : (k : ℕ) → Same k i → cond (takes s (session_at t k) && not (eqb k i)) (closing_of 3 t k ∷ []) [] ≡ []
    nobody k (same e) = rw (eq-eqb k i e, and-false (takes s (session_at t k)))
    nobody k (other e) = rw (alone k e)

    alone_text : map unnumbered (closing cause i t).records ≡ closings_at cause t i (λ k. takes s (session_at t k))
    unfolding close_one noting
    alone_text =
        rw alone_is
        (ap (λ rs. closing_of cause t i ∷ rs)
        (sym (order_none (λ k. cond (takes s (session_at t k) && not (eqb k i)) (closing_of 3 t k ∷ []) []) 32 (λ k. nobody k (sames k i)))))

  -- of an owner
  module _ (own : s.owner ≡ 0 → ⊥) where
    abbrev id : ℕ
    id = s.stream

    on_own : is_on id s ≡ true
    on_own = rw (ne_eqb s.number 0 c.some, eq-eqb id id refl)

    owner_takes : (k : ℕ) → Same k i → takes s (session_at t k) ≡ is_on id (session_at t k)
    owner_takes k (same e) = rw (e, takes_self s, on_own)
    owner_takes k (other e) = rw (apart k e, on_own, ne_eqb s.owner 0 own)

    owner_seats : (k : ℕ) → session_at (closing cause i t).satbox k ≡ cond (takes s (session_at t k)) no_session (session_at t k)
    owner_seats k =
        rw (owner_sessions cause i t c w own, owner_takes k (sames k i)) (get_or_clear id t.sessions k)

    owner_rows : (k : ℕ) → is_open (session_at t k) ≡ true → takes s (session_at t k) ≡ false → stream_of (closing cause i t).satbox (session_at t k).stream ≡ stream_of t (session_at t k).stream
    owner_rows k some left =
        rw (owner_streams cause i t c w own)
        (stream_other id (session_at t k).stream no_stream t.streams (off_stream id (session_at t k) (sym (owner_takes k (sames k i)) ∙ left) (opened (session_at t k) some)))

    beside : (k : ℕ) → Same k i
        → cond (is_on id (get_or (set t.sessions i no_session) k no_session)) (closing_of 3 (reseated i no_session t) k ∷ []) []
        ≡ cond (takes s (session_at t k) && not (eqb k i)) (closing_of 3 t k ∷ []) []
    unfolding reseated
    beside k (same e) =
        let here = get_or_set_here (λ (x : Session). x ≡ no_session) t.sessions i no_session no_session refl refl in
        rw (e, here, eq-eqb i i refl, and-false (takes s s))
    beside k (other e) =
        rw (get_or-set_other t.sessions i k no_session no_session e, ne_eqb k i e, owner_takes k (other e)) (ap (λ b. cond b (closing_of 3 t k ∷ []) []) (sym (and-true (is_on id (session_at t k)))))

    owner_is : closing cause i t ≡ then (then (close_one cause i t) (cascade id)) (free id)
    unfolding closing
    owner_is = rw (ne_eqb s.owner 0 own)

    owner_text : map unnumbered (closing cause i t).records ≡ closings_at cause t i (λ k. takes s (session_at t k))
    unfolding close_one noting reseated cascade
    owner_text =
        ap (λ (d : Did). map unnumbered d.records) owner_is
        ∙ (ap (map unnumbered) (append-nil (then (close_one cause i t) (cascade id)).records)
        ∙ ap (λ rs. closing_of cause t i ∷ rs)
        (cascade_text id (reseated i no_session t) 32 ∙ order_same _ _ 32 (λ k. beside k (sames k i))))

-- what a closing does: whom the session at place i takes along is gone, the stream of everybody else is as it was, and the records are theirs
pub record Took (cause i : ℕ) (t : SatBox) (d : Did) : Type 0 where
  pub seats : (k : ℕ) → session_at d.satbox k ≡ cond (takes (session_at t i) (session_at t k)) no_session (session_at t k)
  pub rows : (k : ℕ) → is_open (session_at t k) ≡ true → takes (session_at t i) (session_at t k) ≡ false → stream_of d.satbox (session_at t k).stream ≡ stream_of t (session_at t k).stream
  pub text : map unnumbered d.records ≡ closings_at cause t i (λ k. takes (session_at t i) (session_at t k))

pub closing_took : (cause i : ℕ) (t : SatBox) → Closable t i → Whole t → Took cause i t (closing cause i t)
closing_took cause i t c w = by (sames (session_at t i).owner 0)
  where
    by : Same (session_at t i).owner 0 → Took cause i t (closing cause i t)
    by (same own) =
        record {
          seats = λ k. alone_seats cause i t c w own k (sames k i);
          rows = λ k some left. alone_rows cause i t c w own (session_at t k).stream;
          text = alone_text cause i t c w own;
        }
    by (other own) =
        record {
          seats = owner_seats cause i t c w own;
          rows = owner_rows cause i t c w own;
          text = owner_text cause i t c w own;
        }

-- whom an open session takes along is open; it is the session itself, or is on the stream that it owns
pub data Taken (r s : Session) : Type 0 where
  self : s.number ≡ r.number → Taken r s
  along : owns r.stream r ≡ true → is_open s ≡ true → s.stream ≡ r.stream → Taken r s

pub taken : (r s : Session) → takes r s ≡ true → Taken r s
taken r s y = by (case (has_number s.number r))
  where
    by : Case (has_number s.number r) → Taken r s
    by (is e) = self (sym (eqb-true r.number s.number e))
    by (isnt e) =
        let z = and_both (owns r.stream r) _ (or_second (has_number s.number r) _ y e) in
        let on = and_both (is_open s) _ z.1 in
        along z.0 on.0 (eqb-true s.stream r.stream on.1)

pub taken_open : (r s : Session) → is_open r ≡ true → Taken r s → is_open s ≡ true
taken_open r s some (self e) = rw e some
taken_open r s some (along own on e) = on

pub taken_none : (r : Session) → is_open r ≡ true → takes r no_session ≡ false
taken_none r some = rw (ne_eqb r.number 0 (opened r some)) (and-false (eqb r.stream r.stream && not (eqb r.owner 0)))
