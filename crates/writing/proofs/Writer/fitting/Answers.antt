use Rattle.std.proofs.Common.{◌+◌, ap, sym, refl, arith}
use Rattle.writing.proofs.Writes.{puts}
use Rattle.writing.proofs.Numerals.{numeral_length, numbering_start, numbering_more, numbering_end}
use Rattle.writing.proofs.Writer.fitting.Goals as goal

pub loop-i-init : goal.loop-i-init
loop-i-init c = record { numbers = numbering_start _ _ _ _ _; named = refl; lies = refl }

pub loop-i-preserved : goal.loop-i-preserved
loop-i-preserved c =
    let l = c.loop-i.invariant in
    record { numbers = numbering_more l.numbers (omega arith) c.shown_digit.ensures refl; named = l.named; lies = l.lies }

pub returns : goal.returns
returns c =
    let l = c.loop-i.invariant in
    puts (numbering_end l.numbers (omega arith)) (ap (λ n. c.args.self.now.at + n) (sym (numeral_length _ c.args.count _))) l.named l.lies
