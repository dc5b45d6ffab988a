use Rattle.std.proofs.Common.{rules, tests, not, List, ℕ, ◌≡◌, ◌*◌, ◌/◌, ◌∙◌, ap, sym, arith, length}
use Rattle.std.specs.Simd.{first_chunks}
use Rattle.std.proofs.lemmas.Iterator.{YieldsList-from_slice}
use Rattle.std.proofs.lemmas.Iterator.Search.{position_from_yields_List}
use borrow.Author.Tests.{not-true}
use Rattle.scan.specs.Lists.{all, first}
use Rattle.scan.specs.Found.{in_class, FirstOf}
use Rattle.scan.specs.declared.Class.TheVariants.{Is, Not}
use Rattle.scan.proofs.Loops.{seeking_at, seeking_rest}
use Rattle.scan.proofs.Chains.{placed_as, first_placed, seeking_blocks}
use Rattle.scan.proofs.first_far.Goals as goal

pub returns : goal.returns
returns c =
    let p = in_class (Is c.args.x) in
    let q = in_class (Not c.args.x) in
    let s = c.args.s.now in
    let t = λ (block : List ℕ). not (all q block) in
    let f : FirstOf t c.as_chunks.result.0.now c.unwrap_or-at.result = first_placed t
    (placed_as t (position_from_yields_List t _ _ c.position.result c.position.ensures.ran (YieldsList-from_slice c.as_chunks.result.0.now cc) (λ x b q k. search (rules, tests))))
    c.unwrap_or-at.ensures in
    let e : first t (first_chunks 16 (length s / 16) s) ≡ c.unwrap_or-at.result = ap (first t) (sym c.as_chunks.ensures.front) ∙ sym f.is in
    seeking_rest p s _ (seeking_at p (seeking_blocks p q (λ b. not-true _) 16 (length s / 16) s (omega arith)) (ap (λ n. 16 * n) e)) c.first_is.ensures
