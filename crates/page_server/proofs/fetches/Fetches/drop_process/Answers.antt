-- The notes of other processes stay with their fetches.
use Rattle.std.proofs.Common.{sym, subst}
use Rattle.page_server.specs.Fetches.{Noted}
use Rattle.page_server.proofs.FetchLaws.{process_dropped}
use Rattle.page_server.proofs.fetches.Fetches.drop_process.Goals as goal

pub invariant_of-self : goal.invariant_of-self
invariant_of-self c =
    subst (Noted c.drop_notes.new.notes) (sym c.drop_fetches.ensures)
    (process_dropped c.self.inside.notes c.drop_notes.new.notes c.args.pid c.self.inside.waiting.items c.drop_notes.ensures c.self.invariant)
