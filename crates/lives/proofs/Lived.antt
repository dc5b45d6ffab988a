-- A call by what refuses it alone: what becomes of a life, whatever the call counts. Assumes nothing.
use Rattle.std.specs.Prelude.{Ok, Err}
use Rattle.std.specs.Result.{result_and, result_unwrap_or}
use mathlib.Core.Path.{◌≡◌, refl}
use mathlib.Core.List.{List, [], ◌++◌}
use Prim.Native.Nat.{ℕ}
use lib.ListN.{length, take, drop}
use Rattle.writing.specs.Writing.{written}
use Rattle.table.specs.Made.{Outcome}
use Rattle.orders.specs.Orders.{order_of}
use Rattle.closings.specs.Closing.{Did, bytes_of, sweeping}
use Rattle.satbox.specs.Calls.{if_done, tick_outcome, ticked, ticked_journal, collect_outcome, emptied, collected, collected_into, request_outcome, requested, answer_of, replied, replied_journal}
use Rattle.lives.specs.Calls.{Lent, lent, own_after, told, Call, request, tick, collect, order, Life, onward, live}

-- a life after a call that did d, or was refused, with the journal that it was lent
abbrev pub worked : Lent → Outcome → Did → Life → Life
worked l o d x =
    record {
      outcome = o;
      records = if_done o d.records [];
      satbox = if_done o d.satbox x.satbox;
      journal = own_after l x.journal (if_done o (written (lent l x.journal) x.satbox.held (bytes_of d.records)) (lent l x.journal));
      history = x.history ++ if_done o d.records [];
      since = x.since ++ if_done o d.records [];
      gathered = x.gathered ++ [];
    }

-- and after one that collected into b, or was refused
abbrev pub emptied_into : Lent → Outcome → List ℕ → Life → Life
emptied_into l o b x =
    let held = x.satbox.held in
    record {
      outcome = o;
      records = [];
      satbox = if_done o (emptied x.satbox) x.satbox;
      journal = x.journal;
      history = x.history ++ [];
      since = if_done o [] x.since ++ [];
      gathered = x.gathered ++ take (if_done o held 0) (if_done o (take held (lent l x.journal) ++ drop held b) b);
    }

abbrev pub lived_as : Call → Life → Life
lived_as (request s clock address draw b l) x =
    worked l (request_outcome x.satbox (lent l x.journal) b) (requested s clock address draw x.satbox).did x
lived_as (tick clock l) x = worked l (tick_outcome x.satbox (lent l x.journal)) (sweeping clock x.satbox) x
lived_as (collect b l) x = emptied_into l (collect_outcome x.satbox (lent l x.journal) b) b x
lived_as (order n) x = onward x (told (order_of x.satbox n)) [] x.satbox x.journal x.since []

-- what a call counts changes nothing of it
counted_work : (l : Lent) (n : ℕ) (o : Outcome) (d : Did) (x : Life)
    → onward x (told (result_and o (Ok n))) (if_done (result_and o (Ok n)) d.records []) (if_done o d.satbox x.satbox)
    (own_after l x.journal (if_done o (written (lent l x.journal) x.satbox.held (bytes_of d.records)) (lent l x.journal))) x.since []
    ≡ worked l o d x
counted_work l n (Ok u) d x = refl
counted_work l n (Err r) d x = refl

counted_empty : (l : Lent) (o : Outcome) (b : List ℕ) (x : Life)
    → (let held = x.satbox.held in
    onward x (told (result_and o (Ok held))) [] (if_done o (emptied x.satbox) x.satbox) x.journal (if_done (result_and o (Ok held)) [] x.since)
    (take (result_unwrap_or (result_and o (Ok held)) 0) (if_done o (take held (lent l x.journal) ++ drop held b) b)))
    ≡ emptied_into l o b x
counted_empty l (Ok u) b x = refl
counted_empty l (Err r) b x = refl

pub lived : (c : Call) (x : Life) → live c x ≡ lived_as c x
unfolding live replied replied_journal ticked ticked_journal collected collected_into
lived (request s clock address draw b l) x =
    counted_work l (length (answer_of s clock address draw x.satbox)) (request_outcome x.satbox (lent l x.journal) b) (requested s clock address draw x.satbox).did x
lived (tick clock l) x = refl
lived (collect b l) x = counted_empty l (collect_outcome x.satbox (lent l x.journal) b) b x
lived (order n) x = refl
