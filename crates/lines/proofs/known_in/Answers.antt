use mathlib.Core.Path.{refl, sym}
use native.Mathlib.Omega.{arith}
use Rattle.scan.specs.Text.{text}
use Rattle.scan.specs.declared.Case.TheVariants.{Ignored}
use Rattle.scan.proofs.Places.{miss, none, place_none}
use Rattle.lines.specs.Laid.{known}
use Rattle.lines.proofs.HeaderLaws.{named_is, named_not}
use Rattle.lines.proofs.known_in.Goals as goal

pub returns-then-is_named : goal.returns-then-is_named
returns-then-is_named c = named_is (text "CSeq") c.args.line.now refl (omega arith) c.is_named.ensures c.if-is_named.true

pub returns-then-is_named-2 : goal.returns-then-is_named-2
returns-then-is_named-2 c = named_is (text "Session") c.args.line.now refl (omega arith) c.is_named-2.ensures c.if-is_named-2.true

pub returns-then-is_named-3 : goal.returns-then-is_named-3
returns-then-is_named-3 c = named_is (text "Transport") c.args.line.now refl (omega arith) c.is_named-3.ensures c.if-is_named-3.true

pub returns-then-is_named-4 : goal.returns-then-is_named-4
returns-then-is_named-4 c = named_is (text "Require") c.args.line.now refl (omega arith) c.is_named-4.ensures c.if-is_named-4.true

pub returns-then-is_named-5 : goal.returns-then-is_named-5
returns-then-is_named-5 c = named_is (text "Accept") c.args.line.now refl (omega arith) c.is_named-5.ensures c.if-is_named-5.true

pub returns : goal.returns
returns c = λ h.
    let l = c.args.line.now in
    sym
    (place_none Ignored known
    (miss refl (named_not (text "CSeq") l c.is_named.ensures c.if-is_named.false h)
    (miss refl (named_not (text "Session") l c.is_named-2.ensures c.if-is_named-2.false h)
    (miss refl (named_not (text "Transport") l c.is_named-3.ensures c.if-is_named-3.false h)
    (miss refl (named_not (text "Require") l c.is_named-4.ensures c.if-is_named-4.false h)
    (miss refl (named_not (text "Accept") l c.is_named-5.ensures c.if-is_named-5.false h)
    none))))))
