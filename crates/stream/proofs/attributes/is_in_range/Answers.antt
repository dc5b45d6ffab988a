use borrow.Author.Tests.{ne_eqb}
use Rattle.stream.specs.Arrays.{is_in_range}
use Rattle.stream.proofs.attributes.is_in_range.Goals as goal

pub returns-in-0 : goal.returns-in-0
unfolding is_in_range
returns-in-0 c = rw c.in-0.is

pub returns-in-2 : goal.returns-in-2
unfolding is_in_range
returns-in-2 c = rw c.in-2.is

pub returns-in-3 : goal.returns-in-3
unfolding is_in_range
returns-in-3 c = rw c.in-3.is

pub returns-in-4 : goal.returns-in-4
unfolding is_in_range
returns-in-4 c = rw c.in-4.is

pub returns-in-5 : goal.returns-in-5
unfolding is_in_range
returns-in-5 c = rw c.in-5.is

pub returns-in-6 : goal.returns-in-6
unfolding is_in_range
returns-in-6 c = rw c.in-6.is

pub returns-in-7 : goal.returns-in-7
unfolding is_in_range
returns-in-7 c = rw c.in-7.is

pub returns-in-8 : goal.returns-in-8
unfolding is_in_range
returns-in-8 c = rw c.in-8.is

pub returns-in-9 : goal.returns-in-9
unfolding is_in_range
returns-in-9 c = rw c.in-9.is

pub returns-in_default : goal.returns-in_default
unfolding is_in_range
returns-in_default c = let n = c.in_default.in_default-own.rest in
    rw (
      ne_eqb _ _ n.0.0.0.0.0.0.0.0.1,
      ne_eqb _ _ n.0.0.0.0.0.0.0.1,
      ne_eqb _ _ n.0.0.0.0.0.0.1,
      ne_eqb _ _ n.0.0.0.0.0.1,
      ne_eqb _ _ n.0.0.0.0.1,
      ne_eqb _ _ n.0.0.0.1,
      ne_eqb _ _ n.0.0.1,
      ne_eqb _ _ n.0.1,
      ne_eqb _ _ n.1,
    )
