use Rattle.std.proofs.Common.{ℕ, rules, ◌≡◌, ◌∙◌, eqb, refl, List, [], ◌∷◌}
use Rattle.std.proofs.lemmas.Iterator.{YieldsList-from_slice}
use Rattle.std.proofs.lemmas.Iterator.Search.{any_from_yields_List}
use Rattle.table.proofs.Firsts.{any_same}
use Rattle.table.specs.Table.{any}
use Rattle.stream.specs.declared.Stream.{Stream}
use Rattle.finding.specs.Finding.{is_held}
use Rattle.finding.proofs.is_held.Goals as goal

held_same : (f : ℕ) (ms : List Stream) → any (λ (m : Stream). eqb m.frontend f) ms ≡ is_held f ms
held_same f [] = refl
held_same f (m ∷ ms) = rw (held_same f ms)

pub returns : goal.returns
returns c =
    let f = c.args.f in
    let ms = c.args.streams.now in
    any_from_yields_List (λ (m : Stream). eqb m.frontend f) _ _ c.any.result c.any.ensures.ran (YieldsList-from_slice _ c.iter.ensures.rest) (λ x b q k. search rules)
    ∙ (any_same (λ (m : Stream). eqb m.frontend f) ms ∙ held_same f ms)
