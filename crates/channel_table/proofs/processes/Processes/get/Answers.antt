use Rattle.std.proofs.Common.{◌∙◌, ap, find}
use Rattle.bus_msg.specs.Places.{same_pid}
use Rattle.channel_table.proofs.KeyLaws.{lookup-keyed}
use Rattle.channel_table.proofs.processes.Processes.get.Goals as goal

pub returns : goal.returns
returns c =
    let found = lookup-keyed c.args.pid.0 c.self.inside.map.entries c.self.invariant.keyed in
    c.copied.ensures ∙ c.get.ensures.value ∙ found ∙ ap (find (λ q. same_pid q.pid c.args.pid)) c.self.view_is
