use mathlib.Core.Path.{ap, ◌∙◌}
use Rattle.std.proofs.Common.{rules, tests}
use Rattle.std.proofs.lemmas.Iterator.Search.{all_from_yields_List}
use Rattle.std.proofs.lemmas.Iterator.Splits.{YieldsList-from_slice_split}
use Rattle.std.specs.Prelude.{eqb}
use Rattle.std.specs.List.{slice_split}
use Rattle.scan.specs.Lists.{all}
use Rattle.tuning.specs.Values.{are_pids}
use Rattle.tuning.specs.Found.{is_pid}
use Rattle.scan.proofs.Cuts.{split_cut}
use Rattle.tuning.proofs.Pieces.{list_all_all}
use Rattle.tuning.proofs.are_pids.Goals as goal

pub returns : goal.returns
unfolding are_pids
returns c =
    all_from_yields_List is_pid _ _ c.all.result c.all.ensures.ran
    (YieldsList-from_slice_split _ (λ b. eqb b 44) c.args.s.now c.split.ensures.rest c.split.ensures.done c.split.ensures.closure (λ x r q k. search (rules, tests)))
    (λ x r q k. search (rules, tests))
    ∙ list_all_all is_pid (slice_split (λ b. eqb b 44) c.args.s.now) ∙ ap (all is_pid) (split_cut 44 c.args.s.now)
