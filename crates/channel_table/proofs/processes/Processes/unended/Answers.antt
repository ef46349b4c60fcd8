use Rattle.std.proofs.Common.{◌∙◌, sym, ap, find, cond, None, Some, not, ◌&&◌}
use Rattle.bus_msg.specs.Places.{same_pid}
use Rattle.channel_table.proofs.KeyLaws.{find-unended, if_unended}
use Rattle.channel_table.proofs.processes.Processes.unended.Goals as goal

pub returns-in-None : goal.returns-in-None
returns-in-None c =
    ap if_unended c.in-None.ensures.value
    ∙ sym (find-unended c.args.pid.0 c.self.inside.map.entries c.self.invariant.keyed c.self.invariant.distinct)
    ∙ ap (find (λ q. same_pid q.pid c.args.pid && not q.ended)) c.self.view_is

pub returns-then-placed : goal.returns-then-placed
returns-then-placed c =
    let q = c.in-Some.placed.now in
    sym (ap (λ b. cond b None (Some q)) c.if-placed.true)
    ∙ ap if_unended c.in-Some.ensures.value
    ∙ sym (find-unended c.args.pid.0 c.self.inside.map.entries c.self.invariant.keyed c.self.invariant.distinct)
    ∙ ap (find (λ q. same_pid q.pid c.args.pid && not q.ended)) c.self.view_is

pub returns-else-placed : goal.returns-else-placed
returns-else-placed c =
    let q = c.in-Some.placed.now in
    sym (ap (λ b. cond b None (Some q)) c.if-placed.false)
    ∙ ap if_unended c.in-Some.ensures.value
    ∙ sym (find-unended c.args.pid.0 c.self.inside.map.entries c.self.invariant.keyed c.self.invariant.distinct)
    ∙ ap (find (λ q. same_pid q.pid c.args.pid && not q.ended)) c.self.view_is
