use Rattle.std.proofs.Common.{◌∙◌, Some, arith, subst, sym}
use Rattle.bus_msg.specs.declared.entry.Entry.{Entry}
use Rattle.line_laws.specs.Meant.{cluster_no}
use Rattle.log_renewals.specs.Returns.{AnswersReturn}
use Rattle.log_renewals.proofs.Returning.{return_follows, return_refused}
use Rattle.log_renewals.proofs.returns.next_return.Goals as goal

pub returns-then-k-ge16 : goal.returns-then-k-ge16
returns-then-k-ge16 c =
    let above = c.if-k-ge16.true in
    return_refused c.args.front.now c.args.place c.args.by c.args.k (λ below. absurd (omega (arith, above, below)))

pub returns : goal.returns
returns c =
    subst (λ (e : Entry). AnswersReturn c.args.front.now c.args.place c.args.by c.args.k (Some e)) (sym c.entry_at.ensures)
    (return_follows c.args.front.now c.args.place c.args.by (cluster_no c.args.k) (sym c.return_may.ensures.may ∙ c.if-not-return_may.false))
