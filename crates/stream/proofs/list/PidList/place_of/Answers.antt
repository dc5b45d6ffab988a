use Rattle.std.proofs.Common.{rules, tests, ◌≤◌, ◌<◌}
use Rattle.std.proofs.lemmas.Iterator.{IsFirst-from_position, YieldsList-from_slice}
use lib.ListN.{take}
use Rattle.stream.proofs.Places.{found_there, found_missing, found_none}
use Rattle.stream.proofs.list.PidList.place_of.Goals as goal

pub returns-in-Some : goal.returns-in-Some
returns-in-Some c =
    let f = IsFirst-from_position _ _ c.position.result (λ q. c.args.p ≤ q) (λ q. q < c.args.p) c.position.ensures.ran (YieldsList-from_slice (take c.self.inside.count c.self.inside.pids) cc) (λ x q k. search (rules, tests)) (λ x q k. search (rules, tests)) in
    rw (← c.self.view_is) (found_there _ _ (rw c.in-Some.is at f) c.if-list-at.true)

pub returns-in-Some-2 : goal.returns-in-Some-2
returns-in-Some-2 c =
    let f = IsFirst-from_position _ _ c.position.result (λ q. c.args.p ≤ q) (λ q. q < c.args.p) c.position.ensures.ran (YieldsList-from_slice (take c.self.inside.count c.self.inside.pids) cc) (λ x q k. search (rules, tests)) (λ x q k. search (rules, tests)) in
    rw (← c.self.view_is) (found_missing _ _ (rw c.in-Some.is at f) c.if-list-at.false)

pub returns-in-None : goal.returns-in-None
returns-in-None c =
    let f = IsFirst-from_position _ _ c.position.result (λ q. c.args.p ≤ q) (λ q. q < c.args.p) c.position.ensures.ran (YieldsList-from_slice (take c.self.inside.count c.self.inside.pids) cc) (λ x q k. search (rules, tests)) (λ x q k. search (rules, tests)) in
    rw (← c.self.view_is) (found_none _ _ (rw c.in-None.is at f))
