use borrow.Author.Rules.{rules}
use Rattle.stream.proofs.Soundness.{unused_is, live_past, live_values, live_apart, live_flag, live_both, live_pids}
use Rattle.stream.proofs.is_sound.Goals as goal

pub returns-then-m-eq0 : goal.returns-then-m-eq0
returns-then-m-eq0 c = search (unused_is, rules)

pub returns-then-frontends-from : goal.returns-then-frontends-from
returns-then-frontends-from c = search (live_past, rules)

pub returns-then-not-are_in_range : goal.returns-then-not-are_in_range
returns-then-not-are_in_range c = search (live_values, rules)

pub returns-then-not-go_together : goal.returns-then-not-go_together
returns-then-not-go_together c = search (live_apart, rules)

pub returns-then-m-gt1 : goal.returns-then-m-gt1
returns-then-m-gt1 c = search (live_flag, rules)

pub returns-then-not-m : goal.returns-then-not-m
returns-then-not-m c = search (live_both, rules)

pub returns : goal.returns
returns c = search (live_pids, rules)
