use Rattle.page_server.proofs.Owners.{one_more_place}
use Rattle.page_server.proofs.processes.add_place.Goals as goal

pub returns-clause-same : goal.returns-clause-same
returns-clause-same c = one_more_place c.args.owners.now.items c.push.new.self.items c.in_ok-push.ensures.items
