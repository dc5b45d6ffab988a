-- A box's life: calls with whatever their callers hand in, one after the other, from a fresh box. Assumes nothing.
use Rattle.std.specs.Prelude.{ℕ, ◌≡◌, Bool, true, false, not, ◌&&◌, eqb, ltb, length, take, Ok, Err, Result}
use Rattle.std.specs.Result.{result_unwrap_or}
use mathlib.Core.List.{List, [], ◌∷◌, ◌++◌, foldl}
use Rattle.scan.specs.Lists.{all}
use Rattle.journal.specs.declared.Record.{Record}
use Rattle.table.specs.Made.{fresh, Outcome}
use Rattle.table.specs.declared.Settings.{Settings}
use Rattle.table.specs.declared.SatBox.{SatBox}
use Rattle.table.specs.declared.Refusal.{Refusal}
use Rattle.table.specs.Formed.{are_settings}
use Rattle.orders.specs.Orders.{order_of}
use Rattle.closings.specs.Closing.{sweeping}
use Rattle.satbox.specs.Calls.{if_done, ticked, ticked_journal, collected, collected_into, requested, replied, replied_journal}

-- the journal that a call is lent: the box's own, as the call before left it, or some other bytes
pub data Lent : Type 0 where
  own : Lent
  other : List ℕ → Lent

-- A CALL: a request with its bytes, clock, address, draw, answer buffer and journal; a tick with its clock and journal; a collection with
-- its collecting buffer and journal; a frontend order with the frontend's number
pub data Call : Type 0 where
  request : (bytes : List ℕ) (clock address draw : ℕ) (answer : List ℕ) (journal : Lent) → Call
  tick : (clock : ℕ) (journal : Lent) → Call
  collect : (buffer : List ℕ) (journal : Lent) → Call
  order : (frontend : ℕ) → Call

-- the bytes that are lent, where the box's own journal is j; and its own after a call that left `life_after` of them
abbrev pub lent : Lent → List ℕ → List ℕ
lent own j = j
lent (other k) j = k

abbrev pub own_after : Lent → List ℕ → List ℕ → List ℕ
own_after own j life_after = life_after
own_after (other k) j life_after = j

-- whether a call was done, whatever it counted; so was a frontend order, on or off
abbrev pub told : {T : Type 0} → Result T Refusal → Outcome
told (Ok x) = Ok tt
told (Err r) = Err r

-- the journal that a call is lent has not length C; a frontend order is lent none
abbrev pub lacks_journal : ℕ → Call → List ℕ → Bool
lacks_journal size (request s clock address draw b l) j = not (eqb (length (lent l j)) size)
lacks_journal size (tick clock l) j = not (eqb (length (lent l j)) size)
lacks_journal size (collect b l) j = not (eqb (length (lent l j)) size)
lacks_journal size (order n) j = false

-- WHICH CALLS A CALLER MAY MAKE of a box with journal size C: any, with numbers of 32 bits, as the code takes them; and where it does not hand
-- back the box's own journal, the bytes that it lends have another length than C
abbrev pub is_short : ℕ → Bool
is_short n = ltb n 4294967296

abbrev pub is_lent : ℕ → Lent → Bool
is_lent size own = true
is_lent size (other k) = not (eqb (length k) size)

abbrev pub is_call : ℕ → Call → Bool
is_call size (request s clock address draw b l) = is_short clock && (is_short address && (is_short draw && is_lent size l))
is_call size (tick clock l) = is_short clock && is_lent size l
is_call size (collect b l) = is_lent size l
is_call size (order n) = is_short n

-- where a life has come to: of its last call, whether it was refused and by which refusal, and the openings and closings in it, in their order, as the
-- rules give them: none where it was refused; the box and its journal; its history, which are the openings and closings of all its calls; those of them since
-- the last collection; and all bytes that were collected, joined
pub record Life : Type 0 where
  pub outcome : Outcome
  pub records : List Record
  pub satbox : SatBox
  pub journal : List ℕ
  pub history : List Record
  pub since : List Record
  pub gathered : List ℕ

-- after one call more, where `left` are those since the last collection that still are so, and `copied` the bytes that were collected
abbrev pub onward : Life → Outcome → List Record → SatBox → List ℕ → List Record → List ℕ → Life
onward x o rs t j left copied =
    record { outcome = o; records = rs; satbox = t; journal = j; history = x.history ++ rs; since = left ++ rs; gathered = x.gathered ++ copied }

-- ONE CALL; table and journal are those that the call before handed back. A collection copies as many bytes as it returns, to the front of its buffer
unfoldable pub live : Call → Life → Life
live (request s clock address draw b l) x =
    let r = replied s clock address draw x.satbox b (lent l x.journal) in
    onward x (told r.outcome) (if_done r.outcome (requested s clock address draw x.satbox).did.records []) r.satbox
    (own_after l x.journal (replied_journal s clock address draw x.satbox b (lent l x.journal))) x.since []
live (tick clock l) x =
    let r = ticked clock x.satbox (lent l x.journal) in
    onward x r.outcome (if_done r.outcome (sweeping clock x.satbox).records []) r.satbox
    (own_after l x.journal (ticked_journal clock x.satbox (lent l x.journal))) x.since []
live (collect b l) x =
    let r = collected x.satbox (lent l x.journal) b in
    onward x (told r.outcome) [] r.satbox x.journal (if_done r.outcome [] x.since) (take (result_unwrap_or r.outcome 0) (collected_into x.satbox (lent l x.journal) b))
live (order n) x = onward x (told (order_of x.satbox n)) [] x.satbox x.journal x.since []

-- A RUN: any calls, one after the other
abbrev pub run : List Call → Life → Life
run cs x = foldl (λ y c. live c y) x cs

-- the records that the calls of a run write, in their order
abbrev pub records_of : List Call → Life → List Record
records_of [] x = []
records_of (c ∷ cs) x = (live c x).records ++ records_of cs (live c x)

-- a life of the calls cs: F, C and the sets of sources are in range, the first journal has length C, and each call is one that a caller may make
pub record Lives (settings : Settings) (j : List ℕ) (cs : List Call) : Type 0 where
  pub sizes : are_settings settings ≡ true
  pub journal : length j ≡ settings.size
  pub calls : all (is_call settings.size) cs ≡ true

-- where it has come to from a fresh box with F frontends and journal size C; the journal's first bytes are whatever they are
abbrev pub life_after : Settings → List ℕ → List Call → Life
life_after settings j cs = run cs (record { outcome = Ok tt; records = []; satbox = fresh settings; journal = j; history = []; since = []; gathered = [] })
