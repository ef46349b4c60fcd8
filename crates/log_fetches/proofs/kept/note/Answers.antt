use Rattle.std.proofs.Common.{subst, sym}
use Rattle.std.proofs.lemmas.Result.{on_ok_weaker}
use Rattle.bus_msg.specs.declared.entry.What.{What}
use Rattle.log_fetches.specs.Kept.{Notes}
use Rattle.log_fetches.proofs.Notes.{notes_loss, notes_sync}
use Rattle.log_fetches.proofs.kept.note.Goals as goal

pub returns-in-Sync : goal.returns-in-Sync
returns-in-Sync c =
    on_ok_weaker c.state.result
    (λ only. subst (λ (w : What). Notes c.args.before.now w c.args.kept.now.entries c.state.new.kept.entries) (sym c.in-Sync.is)
    (notes_sync c.args.before.now c.in-Sync.pid c.in-Sync.small c.in-Sync.read c.in-Sync.took c.args.kept.now.entries c.state.new.kept.entries only))
    c.state.ensures

pub returns-in-Crash : goal.returns-in-Crash
returns-in-Crash c =
    subst (λ (w : What). Notes c.args.before.now w c.args.kept.now.entries c.lose.new.kept.entries) (sym c.in-Crash.is)
    (notes_loss c.args.before.now c.in-Crash.k c.in-Crash.cause c.args.kept.now.entries c.lose.new.kept.entries c.lose.ensures)
