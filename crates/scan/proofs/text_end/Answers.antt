use Rattle.std.proofs.Common.{rules, tests, not, ap, ◌/◌, length, get_or, arith, []}
use Rattle.std.proofs.lemmas.Iterator.{YieldsList-from_slice}
use Rattle.std.proofs.lemmas.Iterator.Search.{position_from_yields_List}
use Rattle.scan.specs.Found.{in_class}
use Rattle.scan.specs.declared.Class.TheVariants.{NotText}
use Rattle.scan.specs.Lists.{is_text}
use Rattle.scan.proofs.Chains.{placed_as, block_some, block_none, block_past}
use Rattle.scan.proofs.text_end.Goals.{then-not-all_in+in_default, else-not-all_in}
use Rattle.scan.proofs.text_end.Goals as goal

pub returns-in-Some : goal.returns-in-Some
returns-in-Some c =
    let p = in_class NotText in
    let s = c.args.s.now in
    let i = c.loop-i.i in
    let f = placed_as p {xs = get_or c.as_chunks.result.0.now i []}
    (position_from_yields_List p _ _ c.position.result c.position.ensures.ran (YieldsList-from_slice _ c.iter.ensures.rest) (λ x b q k. search (rules, tests))) in
    let g = f.some c.in-Some.k c.in-Some.is in
    block_some p 16 (length s / 16) s c.as_chunks.ensures.front (omega arith) i c.loop-i-test.true c.loop-i.invariant g.0 g.1

pub loop-i-preserved : goal.loop-i-preserved
loop-i-preserved c =
    let p = in_class NotText in
    let s = c.args.s.now in
    let i = c.loop-i.i in
    elim c.if-not-all_in.branch [
      | then-not-all_in+in_default w ↦
          let f = placed_as p {xs = get_or c.as_chunks.result.0.now i []}
          (position_from_yields_List p _ _ w.position.result w.position.ensures.ran (YieldsList-from_slice _ w.iter.ensures.rest) (λ x b q k. search (rules, tests))) in
          block_none p 16 (length s / 16) s c.as_chunks.ensures.front (omega arith) i c.loop-i-test.true c.loop-i.invariant (f.none w.in_default.is)
      | else-not-all_in w ↦
          block_past p 16 (length s / 16) s c.as_chunks.ensures.front (omega arith) i c.loop-i-test.true c.loop-i.invariant is_text (λ b y. ap not y) c.all_in.ensures (ap not w.if-not-all_in.false)
    ]
