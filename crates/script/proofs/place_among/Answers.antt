use mathlib.Core.Path.{ap, ◌∙◌}
use Rattle.std.proofs.Common.{List, ℕ, rules, tests, not}
use Rattle.std.proofs.lemmas.Iterator.Consumers.{YieldsList-at, count_from_yields_List}
use Rattle.std.proofs.lemmas.Iterator.Search.{YieldsList-from_take_while}
use Rattle.std.proofs.lemmas.Iterator.Splits.{YieldsList-from_slice_split}
use Rattle.std.proofs.lemmas.List.Folds.{length-prefix_len}
use Rattle.std.specs.Prelude.{eqb}
use Rattle.std.specs.List.{slice_split}
use Rattle.scan.specs.Lists.{first}
use Rattle.scan.specs.Text.{are_alike, place_among}
use Rattle.scan.proofs.Chains.{place_first}
use Rattle.scan.proofs.Cuts.{split_cut}
use Rattle.script.proofs.place_among.Goals as goal

pub returns : goal.returns
unfolding place_among
returns c =
    let sought = λ (word : List ℕ). are_alike c.args.case word c.args.s.now in
    let pieces = slice_split (λ b. eqb b 32) c.args.words.now in
    count_from_yields_List c.take_while.result _ c.count.ensures.ran
    (YieldsList-from_take_while _ (λ word. not (sought word))
    (YieldsList-at c.take_while.ensures.source (YieldsList-from_slice_split _ (λ b. eqb b 32) c.args.words.now c.split.ensures.rest c.split.ensures.done c.split.ensures.closure (λ x r q k. search (rules, tests))))
    c.take_while.ensures.closure c.take_while.ensures.done (λ x b q k. search (rules, tests)))
    ∙ length-prefix_len (λ word. not (sought word)) pieces ∙ place_first sought pieces ∙ ap (first sought) (split_cut 32 c.args.words.now)
