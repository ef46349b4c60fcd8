use Rattle.page_server.proofs.processes.enter.Goals as goal

pub returns-clause-ok : goal.returns-clause-ok
returns-clause-ok c = record {
  pages = record { place = c.in_ok-place.place; table = c.new-table.result };
  empty = c.new-table.ensures;
  becomes = c.in_ok-insert.ensures.updates.0;
}
