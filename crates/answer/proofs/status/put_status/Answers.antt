use Rattle.std.proofs.Common.{◌≡◌, ap, sym}
use borrow.Author.Rules.{rules}
use Rattle.scan.specs.Text.{text}
use Rattle.writing.specs.Writing.{decimal, width, numeral}
use Rattle.writing.proofs.Writes.{puts_as}
use Rattle.answer.specs.Lines.{reason_of}
use Rattle.answer.specs.Answers.{status_with}
use Rattle.answer.proofs.Reasons.{unnamed}
use Rattle.answer.proofs.status.put_status.Goals as goal

pub returns-in-200 : goal.returns-in-200
unfolding reason_of decimal width numeral
returns-in-200 c = rw c.in-200.is c.text.ensures

pub returns-in-400 : goal.returns-in-400
unfolding reason_of decimal width numeral
returns-in-400 c = rw c.in-400.is c.text-in-400.ensures

pub returns-in-403 : goal.returns-in-403
unfolding reason_of decimal width numeral
returns-in-403 c = rw c.in-403.is c.text-in-403.ensures

pub returns-in-404 : goal.returns-in-404
unfolding reason_of decimal width numeral
returns-in-404 c = rw c.in-404.is c.text-in-404.ensures

pub returns-in-405 : goal.returns-in-405
unfolding reason_of decimal width numeral
returns-in-405 c = rw c.in-405.is c.text-in-405.ensures

pub returns-in-414 : goal.returns-in-414
unfolding reason_of decimal width numeral
returns-in-414 c = rw c.in-414.is c.text-in-414.ensures

pub returns-in-454 : goal.returns-in-454
unfolding reason_of decimal width numeral
returns-in-454 c = rw c.in-454.is c.text-in-454.ensures

pub returns-in-455 : goal.returns-in-455
unfolding reason_of decimal width numeral
returns-in-455 c = rw c.in-455.is c.text-in-455.ensures

pub returns-in-461 : goal.returns-in-461
unfolding reason_of decimal width numeral
returns-in-461 c = rw c.in-461.is c.text-in-461.ensures

pub returns-in-501 : goal.returns-in-501
unfolding reason_of decimal width numeral
returns-in-501 c = rw c.in-501.is c.text-in-501.ensures

pub returns-in-503 : goal.returns-in-503
unfolding reason_of decimal width numeral
returns-in-503 c = rw c.in-503.is c.text-in-503.ensures

pub returns-in-505 : goal.returns-in-505
unfolding reason_of decimal width numeral
returns-in-505 c = rw c.in-505.is c.text-in-505.ensures

pub returns-in-551 : goal.returns-in-551
unfolding reason_of decimal width numeral
returns-in-551 c = rw c.in-551.is c.text-in-551.ensures

pub returns-in_default : goal.returns-in_default
returns-in_default c =
    let e : reason_of c.args.status ≡ "" = search (unnamed, rules) in
    puts_as (ap (λ r. status_with c.args.status (text r)) (sym e)) c.put_unnamed.ensures
