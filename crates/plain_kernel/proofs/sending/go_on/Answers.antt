use Rattle.std.proofs.Common.{arith, refl}
use Rattle.plain_kernel.proofs.Delivery.{stepped_silent, stepped_exit, stepped_mail, stepped_alone, stepped_two, less_to_send, not_sent, not_made, stuck_blocked, stuck_forks, stuck_over}
use Rattle.plain_kernel.proofs.sending.go_on.Goals as goal

pub send-requires : goal.send-requires
send-requires c =
    let s = rw (c.in-Ok-Emit-Mail.is, c.in-Ok-Emit-Mail.field-0-is, c.in-Ok-Emit-Mail.field-0-0-is) at c.step_at.ensures in
    omega (arith, less_to_send _ _ c.args.pid c.in-Ok-Emit-Mail.letter s, c.requires.room)

pub returns-in-Ok-Silent : goal.returns-in-Ok-Silent
returns-in-Ok-Silent c = stepped_silent _ _ _ c.args.pid (rw (c.in-Ok-Silent.is, c.in-Ok-Silent.field-0-is) at c.step_at.ensures)

pub returns-in-Ok-Emit-Exit : goal.returns-in-Ok-Emit-Exit
returns-in-Ok-Emit-Exit c = stepped_exit _ _ _ c.args.pid _ (rw (c.in-Ok-Emit-Exit.is, c.in-Ok-Emit-Exit.field-0-is, c.in-Ok-Emit-Exit.field-0-0-is) at c.step_at.ensures)

pub returns-in-Ok-Some : goal.returns-in-Ok-Some
returns-in-Ok-Some c =
    let s = rw (c.in-Ok-Emit-Mail.is, c.in-Ok-Emit-Mail.field-0-is, c.in-Ok-Emit-Mail.field-0-0-is) at c.step_at.ensures in
    let two = stepped_two c.args.processes.now.entries c.step_at.new.processes.entries c.send.new.processes.entries c.args.pid c.in-Ok-Some.to _ s (rw c.in-Ok-Some.field-0-is at c.in-Ok-Some.ensures.goes) in
    (stepped_mail _ _ _ _ _ c.args.pid _ s c.in-Ok-Some.ensures.ok c.in-Ok-Some.ensures.load c.in-Ok-Some.ensures.keys, two)

pub returns-in-Ok-None : goal.returns-in-Ok-None
returns-in-Ok-None c =
    let s = rw (c.in-Ok-Emit-Mail.is, c.in-Ok-Emit-Mail.field-0-is, c.in-Ok-Emit-Mail.field-0-0-is) at c.step_at.ensures in
    (stepped_mail _ _ _ _ _ c.args.pid _ s c.in-Ok-None.ensures.ok c.in-Ok-None.ensures.load c.in-Ok-None.ensures.keys, stepped_alone _ _ _ c.args.pid _ s (rw c.in-Ok-None.field-0-is at c.in-Ok-None.ensures.goes))

pub returns-in-Err-send : goal.returns-in-Err-send
returns-in-Err-send c =
    let s = rw (c.in-Ok-Emit-Mail.is, c.in-Ok-Emit-Mail.field-0-is, c.in-Ok-Emit-Mail.field-0-0-is) at c.step_at.ensures in
    (not_sent _ _ _ c.args.pid _ s c.in-Err-send.ensures.same_processes, c.in-Err-send.ensures.same_ttys)

pub returns-in-Ok-Blocked : goal.returns-in-Ok-Blocked
returns-in-Ok-Blocked c = stuck_blocked _ _ _ c.args.pid (rw (c.in-Ok-Blocked.is, c.in-Ok-Blocked.field-0-is) at c.step_at.ensures)

pub returns-in-Ok-Forks : goal.returns-in-Ok-Forks
returns-in-Ok-Forks c = stuck_forks _ _ _ c.args.pid (rw (c.in-Ok-Forks.is, c.in-Ok-Forks.field-0-is) at c.step_at.ensures)

pub returns-in-Ok-Over : goal.returns-in-Ok-Over
returns-in-Ok-Over c = stuck_over _ _ _ c.args.pid (rw (c.in-Ok-Over.is, c.in-Ok-Over.field-0-is) at c.step_at.ensures)

pub returns-in-Err : goal.returns-in-Err
returns-in-Err c = (not_made _ _ c.args.pid _ (rw c.in-Err.is at c.step_at.ensures), refl)
