use Rattle.std.proofs.Common.{◌∙◌, Some, arith, subst, sym}
use Rattle.bus_msg.specs.declared.entry.Entry.{Entry}
use Rattle.entry_lines.specs.declared.told.ToldWhat.TheVariants.{Crash}
use Rattle.line_laws.specs.Meant.{cluster_no}
use Rattle.log_audit.specs.Losses.{AnswersLine}
use Rattle.log_audit.proofs.Losing.{loss_follows, loss_refused}
use Rattle.log_audit.proofs.losses.next_loss.Goals as goal

pub returns-then-k-ge16 : goal.returns-then-k-ge16
returns-then-k-ge16 c =
    let above = c.if-k-ge16.true in
    loss_refused c.args.front.now c.args.place c.args.by c.args.k c.args.cause (λ below. absurd (omega (arith, above, below)))

pub returns : goal.returns
returns c =
    subst (λ (e : Entry). AnswersLine c.args.front.now c.args.place c.args.by (Crash c.args.k c.args.cause) (Some e)) (sym c.entry_at.ensures)
    (loss_follows c.args.front.now c.args.place c.args.by (cluster_no c.args.k) c.args.cause (sym c.loss_may.ensures ∙ c.if-not-loss_may.false))
