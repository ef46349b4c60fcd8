use Rattle.std.proofs.Common.{◌+◌, arith}
use Rattle.plain_kernel.proofs.Ready.{none_listed}
use Rattle.plain_kernel.proofs.Turns.{no_turns, more_turns, reached}
use Rattle.plain_kernel.proofs.running.run_to_end.Goals as goal

pub turns-init : goal.turns-init
turns-init c = record { items = 0; made = no_turns _ _; lighter = omega arith; covers = c.in_ok-ready.ensures; fits = c.requires.fits; none_takes = c.requires.none_takes }

pub turns-preserved : goal.turns-preserved
turns-preserved c =
    let i = c.turns.invariant in
    let t = c.in_ok-take_turn.ensures.turns in
    record { items = i.items + t.items; made = more_turns i.items t.items _ _ _ i.made t.made; lighter = omega (arith, i.lighter, t.lighter); covers = c.in_ok-take_turn.ensures.covers; fits = c.in_ok-take_turn.ensures.fits; none_takes = c.in_ok-take_turn.ensures.none_takes }

pub returns-clause-reaches : goal.returns-clause-reaches
returns-clause-reaches c =
    let i = c.turns.invariant in
    reached i.items _ _ _ i.made c.len-count.ensures.ordered i.none_takes
    (none_listed c.turns.processes.entries c.turns.ready c.len-count.ensures.ordered i.covers (c.first.ensures.none c.in_default.is))
