use Rattle.std.proofs.Common.{◌≡◌, sym, ◌∙◌, ap, subst, false, Option, Some, None, is_some, true≢false}
use Rattle.t32_base.proofs.Facts.{and_false}
use Rattle.t32_base.specs.declared.process.ClusterNo.{ClusterNo}
use Rattle.bus_msg.specs.Places.{Places}
use Rattle.page_server.specs.Account.{PagerState}
use Rattle.cluster_core.specs.Work.{WorksUnowed, is_first_server, owes_answer}
use Rattle.cluster_core.proofs.work.work_unowed.Goals as goal
use Rattle.cluster_core.proofs.work.work_unowed.Goals.{then-is_some+in_ok-post+in_default, else-is_some}

-- what is no page server owes no answer
unserved : (places : Places) (k : ClusterNo) (s : Option PagerState) → is_some s ≡ false → owes_answer places k s ≡ false
unserved places k None none = and_false (is_first_server places k)
unserved places k (Some p) none = absurd (true≢false none)

pub returns-clause-ok : goal.returns-clause-ok
returns-clause-ok g c =
    let Works : Option PagerState → Type 0 = λ s. WorksUnowed c.args.number c.args.places.now c.args.family.now c.args.here.now c.args.server.now c.in_ok-work_here.field-0 c.work_here.new.here s c.work_here.new.queue.items in
    elim c.if-is_some.branch [
      | then-is_some+in_ok-post+in_default w ↦ subst Works (sym (w.server-is ∙ w.in_ok-post.ensures.none w.in_default.is)) (c.in_ok-work_here.ensures.ok c.args.server.now (sym w.in_ok-post.ensures.owed ∙ ap is_some w.in_default.is))
      | else-is_some w ↦ subst Works (sym w.server-is) (c.in_ok-work_here.ensures.ok c.args.server.now (unserved c.args.places.now c.args.number c.args.server.now (sym c.is_some.ensures ∙ w.if-is_some.false)))
    ]
