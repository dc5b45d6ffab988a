use mathlib.Core.Path.{refl}
use native.Mathlib.Omega.{arith}
use borrow.Author.Tests.{eqb-true, eqb-false}
use Rattle.scan.specs.Found.{in_class}
use Rattle.scan.specs.declared.Class.TheVariants.{NotText}
use Rattle.scan.proofs.Options.{by_some}
use Rattle.scan.proofs.Loops.{first_whole, first_within}
use Rattle.lines.proofs.SeenLaws.{lines_long, lines_unended, lines_alone, lines_follow, lines_read}
use Rattle.lines.proofs.read_lines.Goals as goal

pub returns-then-s-gt-LONGEST : goal.returns-then-s-gt-LONGEST
returns-then-s-gt-LONGEST c = lines_long _ c.if-s-gt-LONGEST.true

pub returns-in_err-line : goal.returns-in_err-line
returns-in_err-line c = rw c.from_residual.ensures (lines_unended _ (omega arith) (first_whole _ _ 0 (record { is = refl; within = first_within (in_class NotText) c.args.s.now })) refl c.in_err-line.ensures)

pub returns-then-line-eq0 : goal.returns-then-line-eq0
returns-then-line-eq0 c = rw c.then_some.ensures
    (by_some _ _ _ _ (λ y. lines_alone _ (omega arith) (first_whole _ _ 0 c.in_ok-line.ensures.0) refl c.in_ok-line.ensures.1 c.if-line-eq0.true (eqb-true _ _ y))
    (λ n. lines_follow _ (omega arith) (first_whole _ _ 0 c.in_ok-line.ensures.0) refl c.in_ok-line.ensures.1 c.if-line-eq0.true (eqb-false _ _ n)))

pub returns : goal.returns
returns c = lines_read _ (omega arith) (first_whole _ _ 0 c.in_ok-line.ensures.0) refl c.in_ok-line.ensures.1 c.if-line-eq0.false _ c.headers_after.ensures
