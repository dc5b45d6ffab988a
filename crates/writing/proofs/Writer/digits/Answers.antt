use Rattle.std.proofs.Common.{◌≡◌, ◌+◌, ◌-◌, length, ap, sym, arith}
use Rattle.writing.proofs.Writes.{puts, puts_past}
use Rattle.writing.proofs.Numerals.{numeral_length, numbering_start, numbering_out, numbering_put}
use Rattle.writing.proofs.Writer.digits.Goals as goal

pub returns-then-len-at : goal.returns-then-len-at
returns-then-len-at c = puts_past _ _ c.if-len-at.true

pub loop-init : goal.loop-init
loop-init c =
    let room = length c.args.self.now.buf.now - c.args.self.now.at in
    let e : c.args.count - (room - room) ≡ c.args.count = omega arith in
    rw e (numbering_start _ _ _ _ _)

pub loop-preserved : goal.loop-preserved
loop-preserved c = numbering_out c.loop.invariant (omega arith) (omega arith)

pub returns : goal.returns
returns c =
    let room = length c.args.self.now.buf.now - c.args.self.now.at in
    let e : c.args.count - (c.loop.counter - room) ≡ room = omega arith in
    let p = c.fitting-2.ensures in
    puts (numbering_put (rw e at c.loop.invariant) p.wrote.is) (ap (λ n. c.args.self.now.at + n) (sym (numeral_length _ c.args.count _))) p.named p.lies
