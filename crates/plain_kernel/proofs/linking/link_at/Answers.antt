use Rattle.std.proofs.Common.{ap, sym}
use Rattle.plain_kernel.proofs.Channels.{linked_there, linked_nowhere}
use Rattle.plain_kernel.proofs.linking.link_at.Goals as goal

pub returns-in-Some : goal.returns-in-Some
returns-in-Some c =
    linked_there _ _ c.args.pid c.args.peer c.args.far c.in-Some.start.now c.link.new.self (sym c.in-Some.ensures.value) (c.get_mut.follows.holds c.link.new.self).0 c.get_mut.ensures.ordered c.link.ensures.linked c.link.ensures.load

pub returns-in-None : goal.returns-in-None
returns-in-None c = linked_nowhere _ _ c.args.pid c.args.peer c.args.far (sym c.in-None.ensures.value) (ap (λ m. m.entries) c.get_mut.follows.holds-at-none)
