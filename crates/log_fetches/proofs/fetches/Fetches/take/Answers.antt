use Rattle.std.proofs.Common.{ℕ, List, subst}
use Rattle.std.proofs.lemmas.Result.{on_ok_weaker}
use Rattle.log_fetches.specs.declared.kept.Kept.{Kept}
use Rattle.log_fetches.specs.Fetches.{KeepsFetches}
use Rattle.log_fetches.proofs.Keeping.{fetches_after}
use Rattle.log_fetches.proofs.fetches.Fetches.take.Goals as goal

pub returns : goal.returns
returns c =
    on_ok_weaker c.note.result
    (λ notes. subst (λ (old : List (ℕ × Kept)). KeepsFetches c.args.before.now old c.note.new.kept.entries c.args.entry.now) c.self.view_is
    (fetches_after c.args.before.now c.self.inside.kept.entries c.note.new.kept.entries c.args.entry.now notes))
    c.note.ensures
