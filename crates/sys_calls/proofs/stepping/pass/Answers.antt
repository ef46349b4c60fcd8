use Rattle.std.proofs.Common.{refl}
use Rattle.proc_state.specs.declared.process.Process.{Process}
use Rattle.sys_calls.proofs.Passing.{stands, then_passes, went_by, went_nowhere}
use Rattle.sys_calls.proofs.stepping.pass.Goals as goal

pub returns-then-not-is_live : goal.returns-then-not-is_live
returns-then-not-is_live c = went_nowhere c.args.p.now

pub pass_call-requires : goal.pass_call-requires
pass_call-requires c =
    let ran = c.instructions-did in
    let p : Process = c.args.p.now in
    let mid : Process = record { small = ran.new.small; ram = ran.new.ram; mail = p.mail; read = p.read; since = p.since } in
    stands p mid ran.result.0 c.instructions_left-most.result ran.result.1 (c.is_live.ensures.0 c.if-not-is_live.false) ran.ensures.made c.instructions_left-most.ensures ran.ensures.small ran.ensures.stops ran.ensures.all c.in-Call.is

pub returns-in-Call : goal.returns-in-Call
returns-in-Call c =
    let ran = c.instructions-did in
    let p : Process = c.args.p.now in
    let mid : Process = record { small = ran.new.small; ram = ran.new.ram; mail = p.mail; read = p.read; since = p.since } in
    let live = c.is_live.ensures.0 c.if-not-is_live.false in
    let at = stands p mid ran.result.0 c.instructions_left-most.result ran.result.1 live ran.ensures.made c.instructions_left-most.ensures ran.ensures.small ran.ensures.stops ran.ensures.all c.in-Call.is in
    let went = went_by p mid ran.result.0 c.instructions_left-most.result live ran.ensures.made c.instructions_left-most.ensures ran.ensures.ran ran.ensures.small refl ran.ensures.lighter in
    then_passes c.pass_call.result p mid c.pass_call.new.p went at c.pass_call.ensures

pub returns-in-Stepped : goal.returns-in-Stepped
returns-in-Stepped c =
    let ran = c.instructions-did in
    let p : Process = c.args.p.now in
    let mid : Process = record { small = ran.new.small; ram = ran.new.ram; mail = p.mail; read = p.read; since = p.since } in
    went_by p mid ran.result.0 c.instructions_left-most.result (c.is_live.ensures.0 c.if-not-is_live.false) ran.ensures.made c.instructions_left-most.ensures ran.ensures.ran ran.ensures.small refl ran.ensures.lighter
