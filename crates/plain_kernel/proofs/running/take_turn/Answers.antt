use Rattle.std.proofs.Common.{◌^◌, []}
use Rattle.plain_kernel.proofs.Ready.{receiver_in}
use Rattle.plain_kernel.proofs.Ahead.{arrived, child_absent, child_fits, forked_off, forks_next, nobody, none_arrived, none_forked, none_nobody, none_out, none_struck, none_stuck, room_to_send, struck, taken_out, went_out}
use Rattle.plain_kernel.proofs.running.take_turn.Goals as goal

pub returns-in_default : goal.returns-in_default
returns-in_default c =
    let none = rw c.in_default.is at c.in_ok-step.ensures in
    let fewer = c.drop_first.ensures.fewer c.args.pid c.requires.first in
    let done = nobody c.args.processes.now.entries c.run_if_there.new.processes.entries c.args.ready.now c.args.pid c.len-count.ensures.ordered c.requires.first c.requires.covers c.requires.none_takes c.args.ttys.now.entries c.drop_first.new.self none (c.drop_first.ensures.others c.args.pid c.requires.first) fewer in
    record { turns = done.turns; covers = done.covers; fits = done.fits c.requires.fits; none_takes = none_nobody c.args.processes.now.entries c.run_if_there.new.processes.entries c.args.ready.now c.args.pid c.len-count.ensures.ordered c.requires.first c.requires.covers c.requires.none_takes none }

pub deliver-requires : goal.deliver-requires
deliver-requires c =
    let x = rw (c.in-Some.is, c.in-Emit-Mail.is, c.in-Emit-Mail.field-0-is, ← c.in-Emit-Mail.letter-is) at c.in_ok-step.ensures in
    room_to_send c.args.processes.now.entries c.run_if_there.new.processes.entries c.args.ready.now c.args.pid c.len-count.ensures.ordered c.requires.first c.requires.covers c.requires.none_takes _ (2 ^ 64) x c.requires.room

pub returns-in_ok-deliver-in-Emit-Mail : goal.returns-in_ok-deliver-in-Emit-Mail
returns-in_ok-deliver-in-Emit-Mail c =
    let x = rw (c.in-Some.is, c.in-Emit-Mail.is, c.in-Emit-Mail.field-0-is, ← c.in-Emit-Mail.letter-is) at c.in_ok-step.ensures in
    let arrives = c.in_ok-deliver-in-Emit-Mail.ensures in
    let done = arrived c.args.processes.now.entries c.run_if_there.new.processes.entries c.args.ready.now c.args.pid c.len-count.ensures.ordered c.requires.first c.requires.covers c.requires.none_takes c.args.ttys.now.entries c.deliver.new.ttys.entries c.deliver.new.processes.entries _ c.deliver.new.ready x arrives in
    record { turns = done.turns; covers = done.covers; fits = done.fits c.requires.fits; none_takes = none_arrived c.args.processes.now.entries c.run_if_there.new.processes.entries c.args.ready.now c.args.pid c.len-count.ensures.ordered c.requires.first c.requires.covers c.requires.none_takes c.args.ttys.now.entries c.deliver.new.ttys.entries c.deliver.new.processes.entries _ c.deliver.new.ready x arrives }

pub returns-in-Emit-Exit : goal.returns-in-Emit-Exit
returns-in-Emit-Exit c =
    let x = rw (c.in-Some.is, c.in-Emit-Exit.is, c.in-Emit-Exit.field-0-is) at c.in_ok-step.ensures in
    let done = went_out c.args.processes.now.entries c.run_if_there.new.processes.entries c.args.ready.now c.args.pid c.len-count.ensures.ordered c.requires.first c.requires.covers c.requires.none_takes c.args.ttys.now.entries _ x in
    record { turns = done.turns; covers = done.covers; fits = done.fits c.requires.fits; none_takes = none_out c.args.processes.now.entries c.run_if_there.new.processes.entries c.args.ready.now c.args.pid c.len-count.ensures.ordered c.requires.first c.requires.covers c.requires.none_takes _ x }

pub returns-in_ok-_took-in-Silent : goal.returns-in_ok-_took-in-Silent
returns-in_ok-_took-in-Silent c =
    let x = rw (c.in-Some.is, c.in-Silent.is) at c.in_ok-step.ensures in
    let taken = c.in_ok-_took-in-Silent.ensures in
    let done = struck c.args.processes.now.entries c.run_if_there.new.processes.entries c.args.ready.now c.args.pid c.len-count.ensures.ordered c.requires.first c.requires.covers c.requires.none_takes _ c.args.ttys.now.entries c.take_at.new.processes.entries x taken in
    record { turns = done.turns; covers = done.covers; fits = done.fits c.requires.fits; none_takes = none_struck c.args.processes.now.entries c.run_if_there.new.processes.entries c.args.ready.now c.args.pid c.len-count.ensures.ordered c.requires.first c.requires.covers c.requires.none_takes _ c.take_at.new.processes.entries x taken }

pub returns-in-Blocked : goal.returns-in-Blocked
returns-in-Blocked c =
    let x = rw c.in-Some.is at c.in_ok-step.ensures in
    let fewer = c.drop_first-in-Blocked.ensures.fewer c.args.pid c.requires.first in
    let done = taken_out c.args.processes.now.entries c.run_if_there.new.processes.entries c.args.ready.now c.args.pid c.len-count.ensures.ordered c.requires.first c.requires.covers c.requires.none_takes c.in-Some.step c.args.ttys.now.entries c.drop_first-in-Blocked.new.self c.in-Blocked.is x (c.drop_first-in-Blocked.ensures.others c.args.pid c.requires.first) fewer in
    record { turns = done.turns; covers = done.covers; fits = done.fits c.requires.fits; none_takes = none_stuck c.args.processes.now.entries c.run_if_there.new.processes.entries c.args.ready.now c.args.pid c.len-count.ensures.ordered c.requires.first c.requires.covers c.requires.none_takes c.in-Some.step c.in-Blocked.is x }

pub child_after-child-requires : goal.child_after-child-requires
child_after-child-requires c =
    let x = rw (c.in-Some.is, c.in-Forks.is) at c.in_ok-step.ensures in
    child_fits c.args.processes.now.entries c.run_if_there.new.processes.entries c.args.ready.now c.args.pid c.len-count.ensures.ordered c.requires.first c.requires.covers c.requires.none_takes [] x c.requires.fits

pub fork_at-requires-clause-forks : goal.fork_at-requires-clause-forks
fork_at-requires-clause-forks c =
    let x = rw (c.in-Some.is, c.in-Forks.is) at c.in_ok-step.ensures in
    forks_next c.args.processes.now.entries c.run_if_there.new.processes.entries c.args.ready.now c.args.pid c.len-count.ensures.ordered c.requires.first c.requires.covers c.requires.none_takes x

pub fork_at-requires-clause-absent : goal.fork_at-requires-clause-absent
fork_at-requires-clause-absent c = child_absent c.args.processes.now.entries c.run_if_there.new.processes.entries c.args.ready.now c.args.pid c.len-count.ensures.ordered c.requires.first c.requires.covers c.requires.none_takes [] c.child_after-child.result c.child_after-child.ensures

pub returns-in_ok-insert-in-Forks : goal.returns-in_ok-insert-in-Forks
returns-in_ok-insert-in-Forks c =
    let x = rw (c.in-Some.is, c.in-Forks.is) at c.in_ok-step.ensures in
    let put = c.in_ok-insert-in-Forks.ensures in
    let forked = c.in_ok-fork_at-in-Forks.ensures.ok in
    let done = forked_off c.args.processes.now.entries c.run_if_there.new.processes.entries c.args.ready.now c.args.pid c.len-count.ensures.ordered c.requires.first c.requires.covers c.requires.none_takes c.args.ttys.now.entries c.fork_at.new.processes.entries c.child_after-child.result c.insert.new.self x c.child_after-child.ensures forked put.more (receiver_in (c.child_after-child.result).0 c.args.ready.now _ put.more) put.at_most in
    record { turns = done.turns; covers = done.covers; fits = done.fits c.requires.fits; none_takes = none_forked c.args.processes.now.entries c.run_if_there.new.processes.entries c.args.ready.now c.args.pid c.len-count.ensures.ordered c.requires.first c.requires.covers c.requires.none_takes [] c.fork_at.new.processes.entries c.child_after-child.result x c.child_after-child.ensures forked }
