use mathlib.Core.Path.{◌≡◌, ◌∙◌, sym}
use mathlib.Core.Bool.{false, and-false}
use mathlib.Core.Logic.{inl, inr}
use borrow.Author.Tests.{lt-ltb, le-ltb}
use Rattle.lines.specs.Headers.{is_header}
use Rattle.lines.proofs.HeaderLaws.{header_law}
use Rattle.lines.proofs.is_header.Goals as goal

pub returns-then-colon-line : goal.returns-then-colon-line
returns-then-colon-line c = sym (header_law _ c.first_in-colon.ensures ∙ rw (lt-ltb _ _ c.if-colon-line.true.0, lt-ltb _ _ c.if-colon-line.true.1))

pub returns-else-colon-line : goal.returns-else-colon-line
returns-else-colon-line c =
    let none : is_header c.args.line.now ≡ false =
    header_law _ c.first_in-colon.ensures
    ∙ elim c.if-colon-line.either [ inl w ↦ rw (le-ltb _ _ w.1, and-false) | inr w ↦ rw (le-ltb _ _ w) ]
    in
    cc
