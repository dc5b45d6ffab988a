-- One answer: any two results that the contract of a public function allows for the same input are equal, and so are the lent buffers after
-- the call. The contract itself is cited: `ended` is the function's signature, and `Reads.Post` what its `ensures` says. Assumes nothing.
use mathlib.Core.Path.{◌≡◌, refl, sym, ◌∙◌}
use mathlib.Core.List.{List}
use Prim.Native.Nat.{ℕ}
use contract.Lifetimes.{Lfts}
use denote.Triple.Entry.{Args, Res}
use denote.Triple.Clauses.{Ended, AtExit, Lasts, at_exit}
use Rattle.scan.proofs as scan
use Rattle.scan.specs.contracts as scan_contracts
use Rattle.digits.proofs as digits
use Rattle.digits.specs.contracts as digits_contracts
use Rattle.writing.proofs as writing
use Rattle.writing.specs.contracts as writing_contracts
use Rattle.writing.specs.Wrote.{Wrote}
use Rattle.writing.proofs.Writes.{wrote_one}
use Rattle.journal.proofs as journal
use Rattle.journal.specs.contracts as journal_contracts
use Rattle.lines.proofs as lines
use Rattle.lines.specs.contracts as lines_contracts
use Rattle.tuning.proofs as tuning
use Rattle.tuning.specs.contracts as tuning_contracts
use Rattle.target.proofs as target
use Rattle.target.specs.contracts as target_contracts
use Rattle.refusals.proofs as refusals
use Rattle.refusals.specs.contracts as refusals_contracts
use Rattle.aim.proofs as aim
use Rattle.aim.specs.contracts as aim_contracts
use Rattle.reader.proofs as reader
use Rattle.reader.specs.contracts as reader_contracts
use Rattle.stream.proofs as stream
use Rattle.stream.specs.contracts as stream_contracts
use Rattle.table.proofs as table
use Rattle.table.specs.contracts as table_contracts
use Rattle.finding.proofs as finding
use Rattle.finding.specs.contracts as finding_contracts
use Rattle.formed.proofs as formed
use Rattle.formed.specs.contracts as formed_contracts
use Rattle.answer.proofs as answer
use Rattle.answer.specs.contracts as answer_contracts
use Rattle.steps.proofs as steps
use Rattle.steps.specs.contracts as steps_contracts
use Rattle.orders.proofs as orders
use Rattle.orders.specs.contracts as orders_contracts
use Rattle.closings.proofs as closings
use Rattle.closings.specs.contracts as closings_contracts
use Rattle.serving.proofs as serving
use Rattle.serving.specs.contracts as serving_contracts
use Rattle.satbox.proofs as satbox
use Rattle.satbox.specs.contracts as satbox_contracts
use Rattle.promises.proofs.Alike.{trimmed_same, lines_same, parts_same, uri_same, aim_same, request_same}

-- what a contract allows for the arguments: a result, and the parameters at exit
abbrev pub Contract : Ended → Type 1
Contract T = (κs : Lfts T.signature.lifetimes) → Args T.signature κs → Res T.signature κs → AtExit T κs → Type 0

-- two calls with the arguments a: the results x and y are equal, and so is what the lent buffers hold then, v and w
abbrev pub Unique : (T : Ended) → Contract T → Type 0
Unique T Allows =
    (κs : Lfts T.signature.lifetimes) (a : Args T.signature κs) (x y : Res T.signature κs) (v w : Lasts T κs a)
    → Allows κs a x (at_exit T κs a v) → Allows κs a y (at_exit T κs a w) → (x ≡ y) × (v ≡ w)

-- what two equations say, alone and of a function that is lent no buffer; and what two puts into the first buffer say
pub one : {A : Type 0} {x y z : A} → x ≡ z → y ≡ z → x ≡ y
one p q = p ∙ sym q

pub same : {A B : Type 0} {x y z : A} {v : B} → x ≡ z → y ≡ z → (x ≡ y) × (v ≡ v)
same p q = (one p q, refl)

wrote : {B : Type 0} {b t d f : List ℕ} {at m n : ℕ} {u : B} → Wrote b at t d m → Wrote b at t f n → (m ≡ n) × ◌≡◌ {A = List ℕ × B} (d, u) (f, u)
wrote {u = u} p q = let e = wrote_one p q in (e.1, λ i. (e.0 i, u))

-- SCAN
pub scan_first_in : Unique scan_contracts.first_in.ended scan.first_in.Reads.Post
scan_first_in κs a x y v w p q = same p.is q.is

pub scan_first_from : Unique scan_contracts.first_from.ended scan.first_from.Reads.Post
scan_first_from κs a x y v w p q = same p.is q.is

pub scan_text_end : Unique scan_contracts.text_end.ended scan.text_end.Reads.Post
scan_text_end κs a x y v w p q = same p.is q.is

pub scan_first_far : Unique scan_contracts.first_far.ended scan.first_far.Reads.Post
scan_first_far κs a x y v w p q = same p.is q.is

pub scan_all_in : Unique scan_contracts.all_in.ended scan.all_in.Reads.Post
scan_all_in κs a x y v w = same

pub scan_are_alike : Unique scan_contracts.are_alike.ended scan.are_alike.Reads.Post
scan_are_alike κs a x y v w = same

pub scan_trimmed : Unique scan_contracts.trimmed.ended scan.trimmed.Reads.Post
scan_trimmed κs a x y v w p q = (trimmed_same a.0.now x y p q, refl)

-- DIGITS
pub digits_number : Unique digits_contracts.number.ended digits.number.Reads.Post
digits_number κs a x y v w = same

pub digits_hex_number : Unique digits_contracts.hex_number.ended digits.hex_number.Reads.Post
digits_hex_number κs a x y v w = same

pub digits_digits_at : Unique digits_contracts.digits_at.ended digits.digits_at.Reads.Post
digits_digits_at κs a x y v w p q = same p.is q.is

pub digits_at_least : Unique digits_contracts.at_least.ended digits.at_least.Reads.Post
digits_at_least κs a x y v w = same

pub writing_put : Unique writing_contracts.put.ended writing.put.Reads.Post
writing_put κs a x y v w = wrote

pub writing_put_text : Unique writing_contracts.put_text.ended writing.put_text.Reads.Post
writing_put_text κs a x y v w = wrote

pub writing_put_decimal : Unique writing_contracts.put_decimal.ended writing.put_decimal.Reads.Post
writing_put_decimal κs a x y v w = wrote

pub writing_put_hex : Unique writing_contracts.put_hex.ended writing.put_hex.Reads.Post
writing_put_hex κs a x y v w = wrote

pub writing_put_dotted : Unique writing_contracts.put_dotted.ended writing.put_dotted.Reads.Post
writing_put_dotted κs a x y v w = wrote

-- JOURNAL
pub journal_number : Unique journal_contracts.number.ended journal.number.Reads.Post
journal_number κs a x y v w = same

pub journal_next_sequence : Unique journal_contracts.next_sequence.ended journal.next_sequence.Reads.Post
journal_next_sequence κs a x y v w = same

pub journal_read : Unique journal_contracts.read.ended journal.read.Reads.Post
journal_read κs a x y v w = same

pub journal_write : Unique journal_contracts.write.ended journal.write.Reads.Post
journal_write κs a x y v w = same

pub journal_put : Unique journal_contracts.put.ended journal.put.Reads.Post
journal_put κs a x y v w = wrote

-- LINES
pub lines_first : Unique lines_contracts.Seen.first.ended lines.Seen.first.Reads.Post
lines_first κs a x y v w = same

pub lines_seen : Unique lines_contracts.Lines.seen.ended lines.Lines.seen.Reads.Post
lines_seen κs a x y v w = same

pub lines_read_lines : Unique lines_contracts.read_lines.ended lines.read_lines.Reads.Post
lines_read_lines κs a x y v w p q = (lines_same a.0.now x y p q, refl)

-- TUNING
pub tuning_attribute_of : Unique tuning_contracts.attribute_of.ended tuning.attribute_of.Reads.Post
tuning_attribute_of κs a x y v w = same

pub tuning_value_of : Unique tuning_contracts.value_of.ended tuning.value_of.Reads.Post
tuning_value_of κs a x y v w = same

-- TARGET
pub target_starts_with : Unique target_contracts.starts_with.ended target.starts_with.Reads.Post
target_starts_with κs a x y v w = same

pub target_request_line : Unique target_contracts.request_line.ended target.request_line.Reads.Post
target_request_line κs a x y v w p q = (parts_same a.0.now x y p q, refl)

pub target_read_uri : Unique target_contracts.read_uri.ended target.read_uri.Reads.Post
target_read_uri κs a x y v w p q = (uri_same a.0.now x y p q, refl)

-- AIM
pub refusals_step : Unique refusals_contracts.step.ended refusals.step.Reads.Post
refusals_step κs a x y v w = same

pub refusals_status : Unique refusals_contracts.status.ended refusals.status.Reads.Post
refusals_status κs a x y v w = same

pub aim_read_aim : Unique aim_contracts.read_aim.ended aim.read_aim.Reads.Post
aim_read_aim κs a x y v w p q = (aim_same a.1.1.0 a.0 a.1.0.now x y p q, refl)

-- READER
pub reader_read : Unique reader_contracts.read.ended reader.read.Reads.Post
reader_read κs a x y v w p q = (request_same a.1.0 a.0.now x y p q, refl)

-- STREAM
pub stream_blank : Unique stream_contracts.Stream.blank.ended stream.Stream.blank.Reads.Post
stream_blank κs a x y v w = same

pub stream_are_complete : Unique stream_contracts.are_complete.ended stream.are_complete.Reads.Post
stream_are_complete κs a x y v w = same

pub stream_is_sound : Unique stream_contracts.is_sound.ended stream.is_sound.Reads.Post
stream_is_sound κs a x y v w = same

pub stream_is_unused : Unique stream_contracts.is_unused.ended stream.is_unused.Reads.Post
stream_is_unused κs a x y v w = same

pub stream_merge : Unique stream_contracts.merge.ended stream.merge.Reads.Post
stream_merge κs a x y v w = same

-- TABLE
pub table_fresh : Unique table_contracts.SatBox.fresh.ended table.SatBox.fresh.Reads.Post
table_fresh κs a x y v w = same

pub table_are_settings : Unique table_contracts.are_settings.ended table.are_settings.Reads.Post
table_are_settings κs a x y v w = same

pub table_has_source : Unique table_contracts.has_source.ended table.has_source.Reads.Post
table_has_source κs a x y v w = same

pub table_size_of : Unique table_contracts.size_of.ended table.size_of.Reads.Post
table_size_of κs a x y v w = same

pub table_set_of : Unique table_contracts.set_of.ended table.set_of.Reads.Post
table_set_of κs a x y v w = same

pub table_is_among : Unique table_contracts.is_among.ended table.is_among.Reads.Post
table_is_among κs a x y v w = same

pub table_are_distinct : Unique table_contracts.are_distinct.ended table.are_distinct.Reads.Post
table_are_distinct κs a x y v w = same

-- FORMED
pub formed_standing_of : Unique formed_contracts.standing_of.ended formed.standing_of.Reads.Post
formed_standing_of κs a x y v w = same

pub table_number : Unique table_contracts.number.ended table.number.Reads.Post
table_number κs a x y v w = same

pub finding_place_of : Unique finding_contracts.place_of.ended finding.place_of.Reads.Post
finding_place_of κs a x y v w p q = same p.0 q.0

pub finding_lowest_place : Unique finding_contracts.lowest_place.ended finding.lowest_place.Reads.Post
finding_lowest_place κs a x y v w p q = same p.0 q.0

pub finding_lowest_id : Unique finding_contracts.lowest_id.ended finding.lowest_id.Reads.Post
finding_lowest_id κs a x y v w = same

pub finding_owns : Unique finding_contracts.owns.ended finding.owns.Reads.Post
finding_owns κs a x y v w = same

pub finding_is_held : Unique finding_contracts.is_held.ended finding.is_held.Reads.Post
finding_is_held κs a x y v w = same

pub finding_choice : Unique finding_contracts.choice.ended finding.choice.Reads.Post
finding_choice κs a x y v w = same

pub finding_draw : Unique finding_contracts.draw.ended finding.draw.Reads.Post
finding_draw κs a x y v w = same

pub finding_count_open : Unique finding_contracts.count_open.ended finding.count_open.Reads.Post
finding_count_open κs a x y v w p q = same p.0 q.0

-- ANSWER
pub answer_write : Unique answer_contracts.write.ended answer.write.Reads.Post
answer_write κs a x y v w = wrote

-- STEPS
pub steps_number_of : Unique steps_contracts.number_of.ended steps.number_of.Reads.Post
steps_number_of κs a x y v w = same

pub steps_sight_of : Unique steps_contracts.sight_of.ended steps.sight_of.Reads.Post
steps_sight_of κs a x y v w = same

pub steps_step : Unique steps_contracts.Case.step.ended steps.Case.step.Reads.Post
steps_step κs a x y v w = same

pub steps_status : Unique steps_contracts.Case.status.ended steps.Case.status.Reads.Post
steps_status κs a x y v w = same

pub steps_case_of : Unique steps_contracts.case_of.ended steps.case_of.Reads.Post
steps_case_of κs a x y v w = same

pub steps_answer_to : Unique steps_contracts.answer_to.ended steps.answer_to.Reads.Post
steps_answer_to κs a x y v w = same

pub steps_answer_to_refused : Unique steps_contracts.answer_to_refused.ended steps.answer_to_refused.Reads.Post
steps_answer_to_refused κs a x y v w = same

-- ORDERS
pub orders_frontend_order : Unique orders_contracts.frontend_order.ended orders.frontend_order.Reads.Post
orders_frontend_order κs a x y v w = same

-- CLOSINGS
pub closings_code : Unique closings_contracts.Cause.code.ended closings.Cause.code.Reads.Post
closings_code κs a x y v w = same

pub closings_event : Unique closings_contracts.Event.new.ended closings.Event.new.Reads.Post
closings_event κs a x y v w = same

pub closings_write : Unique closings_contracts.write.ended closings.write.Reads.Post
closings_write κs a x y v w p q = (refl, λ i. (one p q i, (tt, (tt, tt))))

pub closings_one : Unique closings_contracts.one.ended closings.one.Reads.Post
closings_one κs a x y v w = same

pub closings_aged : Unique closings_contracts.aged.ended closings.aged.Reads.Post
closings_aged κs a x y v w = same

pub closings_is_expired : Unique closings_contracts.is_expired.ended closings.is_expired.Reads.Post
closings_is_expired κs a x y v w = same

pub closings_close_due : Unique closings_contracts.close_due.ended closings.close_due.Reads.Post
closings_close_due κs a x y v w p q = (refl, λ i. (one p.satbox q.satbox i, (one p.journal q.journal i, (tt, tt))))

-- SERVING
pub serving_reason : Unique serving_contracts.Turn.reason.ended serving.Turn.reason.Reads.Post
serving_reason κs a x y v w = same

pub serving_about : Unique serving_contracts.Turn.about.ended serving.Turn.about.Reads.Post
serving_about κs a x y v w = same

pub serving_turn_of : Unique serving_contracts.turn_of.ended serving.turn_of.Reads.Post
serving_turn_of κs a x y v w = same

pub serving_offer_of : Unique serving_contracts.offer_of.ended serving.offer_of.Reads.Post
serving_offer_of κs a x y v w = same

-- SATBOX: a tick is lent the journal, collecting a buffer, and a request the answer's buffer and the journal
pub satbox_tick : Unique satbox_contracts.tick.ended satbox.tick.Reads.Post
satbox_tick κs a x y v w p q = (one p.0 q.0, λ i. (tt, (tt, (one p.1 q.1 i, tt))))

pub satbox_collect : Unique satbox_contracts.collect.ended satbox.collect.Reads.Post
satbox_collect κs a x y v w p q = (one p.0 q.0, λ i. (tt, (tt, (one p.1 q.1 i, tt))))

pub satbox_request : Unique satbox_contracts.request.ended satbox.request.Reads.Post
satbox_request κs a x y v w p q =
    (one p.0 q.0, λ i. (tt, (tt, (tt, (tt, (tt, (one p.1 q.1 i, (one p.2 q.2 i, tt))))))))
