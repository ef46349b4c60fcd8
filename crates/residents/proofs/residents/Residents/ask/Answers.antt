use Rattle.std.proofs.Common.{◌∙◌, ap, sym}
use Rattle.std.specs.List.{list_any}
use Rattle.plain_kernel.specs.Maps.{at_key}
use Rattle.residents.proofs.Kept.{first_any}
use Rattle.residents.proofs.Asking.{next_asked}
use Rattle.residents.proofs.residents.Residents.ask.Goals as goal

pub has_asked-requires-clause-there : goal.has_asked-requires-clause-there
has_asked-requires-clause-there c = ap (list_any (at_key c.in-Some.pid)) c.ask_of.ensures.asking ∙ first_any c.in-Some.pid c.processes.self.asking (sym c.next_asking.ensures.first ∙ c.in-Some.is)

pub returns-in-Some-ask_of-clause-asks : goal.returns-in-Some-ask_of-clause-asks
returns-in-Some-ask_of-clause-asks c =
    next_asked c.in-Some.pid c.in-Some-ask_of.page c.args.self.now.here c.processes.self.here c.ask_of.new.self.here c.processes.invariant.0 (c.next_asking.ensures.lowest c.in-Some.pid c.in-Some.is) c.in-Some-ask_of.ensures.asks
