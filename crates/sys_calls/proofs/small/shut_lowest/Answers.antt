use Rattle.std.proofs.Common.{arith, ap}
use Rattle.sys_calls.specs.Small.{weight}
use Rattle.sys_calls.proofs.Shutting.{lighter}
use Rattle.sys_calls.proofs.small.shut_lowest.Goals as goal

pub overflow_add-small : goal.overflow_add-small
overflow_add-small c =
    let less = lighter c.small.inside.left c.small.inside.ends c.small.inside.status c.lowest_linked-found.result c.in-Some.end c.in-Some.field-0-1 c.in-Some.is c.lowest_linked-found.ensures.within c.lowest_linked-found.ensures.unshut in
    omega (arith, less, c.small.invariant)

pub invariant_of-small : goal.invariant_of-small
invariant_of-small c =
    let less = lighter c.small.inside.left c.small.inside.ends c.small.inside.status c.lowest_linked-found.result c.in-Some.end c.in-Some.field-0-1 c.in-Some.is c.lowest_linked-found.ensures.within c.lowest_linked-found.ensures.unshut in
    omega (arith, less, c.small.invariant)

pub returns-in-Some-clause-shorter : goal.returns-in-Some-clause-shorter
returns-in-Some-clause-shorter c =
    let less = lighter c.small.inside.left c.small.inside.ends c.small.inside.status c.lowest_linked-found.result c.in-Some.end c.in-Some.field-0-1 c.in-Some.is c.lowest_linked-found.ensures.within c.lowest_linked-found.ensures.unshut in
    rw c.in-Some.is (omega (arith, less, ap weight c.small.view_is))
