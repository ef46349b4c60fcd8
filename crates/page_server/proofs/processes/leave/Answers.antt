use Rattle.std.proofs.Common.{sym, arith}
use Rattle.page_server.proofs.Owners.{in_owners}
use Rattle.page_server.proofs.processes.leave.Goals as goal

pub index_mut-requires : goal.index_mut-requires
index_mut-requires c =
    let within = in_owners c.args.owners.now.items c.in-Some.pages.place c.args.pid (c.requires.owned c.args.pid c.in-Some.pages (sym c.in-Some.ensures.value)) in
    omega arith
