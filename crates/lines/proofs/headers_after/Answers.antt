use Prim.Native.Nat.{◌+◌}
use mathlib.Core.Path.{◌∙◌, refl}
use Rattle.scan.specs.Lists.{part}
use Rattle.scan.proofs.Options.{by_some}
use Rattle.lines.specs.Laid.{HeaderIs}
use Rattle.std.specs.Prelude.{Some}
use Rattle.lines.specs.declared.Header.TheVariants.{Other}
use Rattle.lines.proofs.LineLaws.{line_found, line_lost}
use Rattle.lines.proofs.SeenLaws.{noting_bad, noting_end, noting_not, noting_unknown, noting_more, headers_whole}
use Rattle.lines.proofs.headers_after.Goals.{in-Known, in_default}
use Rattle.lines.proofs.headers_after.Goals as goal

pub returns-in_err-end : goal.returns-in_err-end
returns-in_err-end c = let f = line_lost c.args.s.now c.loop-end.from c.loop-end.invariant.inside c.in_err-end.ensures in
    rw c.from_residual.ensures (noting_bad c.loop-end.invariant f.1 f.2 refl)

pub returns-then-end-from : goal.returns-then-end-from
returns-then-end-from c = let f = line_found c.args.s.now c.loop-end.from c.loop-end.invariant.inside c.in_ok-end.ensures in
    let n = noting_end c.loop-end.invariant f.0 f.1 refl c.if-end-from.true in
    rw c.then_some.ensures (by_some _ _ _ _ (λ y. headers_whole c.loop-end.invariant.five (n.0 ∙ y) n.1 n.2) (λ z. n.0 ∙ z))

pub returns-in_err-name : goal.returns-in_err-name
returns-in_err-name c = let f = line_found c.args.s.now c.loop-end.from c.loop-end.invariant.inside c.in_ok-end.ensures in
    rw c.from_residual-in_err-name.ensures (noting_not c.loop-end.invariant f.0 f.1 refl c.if-end-from.false c.in_err-name.ensures)

pub loop-end-preserved : goal.loop-end-preserved
loop-end-preserved c = let f = line_found c.args.s.now c.loop-end.from c.loop-end.invariant.inside c.in_ok-end.ensures in
    elim c.match-branch-3.branch [
      | in-Known w ↦ rw (w.headers-is, w.again.ensures, w.place.ensures) (noting_more c.loop-end.invariant f.0 f.1 refl c.if-end-from.false (rw w.in-Known.is at c.in_ok-name.ensures))
      | in_default w ↦
          let h : HeaderIs (part c.loop-end.from (c.loop-end.from + c.in_ok-end.field-0) c.args.s.now) (Some Other) = rw w.in_default.is at c.in_ok-name.ensures in
          rw w.headers-is (noting_unknown c.loop-end.invariant f.0 f.1 refl c.if-end-from.false h.0 h.1)
    ]
