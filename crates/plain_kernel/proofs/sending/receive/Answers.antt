use Rattle.std.proofs.Common.{sym, ap, ◌∙◌}
use Rattle.plain_kernel.specs.Maps.{processes_of}
use Rattle.plain_kernel.proofs.Entries.{others_stay}
use Rattle.plain_kernel.proofs.Delivery.{received, received_load, not_received, nobody}
use Rattle.plain_kernel.proofs.sending.receive.Goals as goal

pub returns-in-Some-clause-ok : goal.returns-in-Some-clause-ok
returns-in-Some-clause-ok c = received c.take_in.result c.args.letter _ _ c.args.pid _ _ (record { found = sym c.in-Some.ensures.value; entries = (c.get_mut.follows.holds c.take_in.new.process).0; ordered = c.get_mut.ensures.ordered }) c.take_in.ensures

pub returns-in-Some-clause-load : goal.returns-in-Some-clause-load
returns-in-Some-clause-load c = received_load c.take_in.result c.args.letter _ _ c.args.pid _ _ (record { found = sym c.in-Some.ensures.value; entries = (c.get_mut.follows.holds c.take_in.new.process).0; ordered = c.get_mut.ensures.ordered }) c.take_in.ensures

pub returns-in-Some-clause-others : goal.returns-in-Some-clause-others
returns-in-Some-clause-others c = others_stay _ _ c.args.pid _ _ (record { found = sym c.in-Some.ensures.value; entries = (c.get_mut.follows.holds c.take_in.new.process).0; ordered = c.get_mut.ensures.ordered })

pub returns-in-Some-clause-err : goal.returns-in-Some-clause-err
returns-in-Some-clause-err c = not_received c.take_in.result c.args.letter _ _ c.args.pid _ _ (record { found = sym c.in-Some.ensures.value; entries = (c.get_mut.follows.holds c.take_in.new.process).0; ordered = c.get_mut.ensures.ordered }) c.take_in.ensures

pub returns-in-None-clause-ok : goal.returns-in-None-clause-ok
returns-in-None-clause-ok c = ap (λ m. processes_of m.entries) c.get_mut.follows.holds-at-none ∙ nobody c.args.letter c.args.processes.now.entries c.args.pid (sym c.in-None.ensures.value)
