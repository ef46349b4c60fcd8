use Rattle.std.proofs.Common.{◌∙◌, Some, subst, sym}
use Rattle.bus_msg.specs.declared.entry.Entry.{Entry}
use Rattle.entry_lines.specs.declared.told.ToldWhat.TheVariants.{Stop}
use Rattle.log_audit.specs.Losses.{AnswersLine}
use Rattle.log_audit.proofs.Losing.{stop_follows, stop_refused}
use Rattle.log_audit.proofs.losses.next_stop.Goals as goal

pub returns-then-not-stop_may : goal.returns-then-not-stop_may
returns-then-not-stop_may c = stop_refused c.args.front.now c.args.place c.args.by (sym c.stop_may.ensures ∙ c.if-not-stop_may.true)

pub returns : goal.returns
returns c =
    subst (λ (e : Entry). AnswersLine c.args.front.now c.args.place c.args.by Stop (Some e)) (sym c.entry_at.ensures)
    (stop_follows c.args.front.now c.args.place c.args.by (sym c.stop_may.ensures ∙ c.if-not-stop_may.false))
