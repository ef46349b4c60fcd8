use Rattle.std.proofs.Common.{◌≡◌, ◌∙◌, sym, ap, subst, length, Vec, Global, Option, IfSome}
use Rattle.bus_order.specs.View.{BusView}
use Rattle.cluster_run.specs.Left.{AllLeft}
use Rattle.cluster_run.specs.Past.{AllPast}
use Rattle.cluster_run.proofs.CaughtLeft.{caught_left}
use Rattle.cluster_run.proofs.Together.{past_kept, written}
use Rattle.cluster_threads.specs.declared.followed.Followed.{Followed}
use Rattle.cluster_threads.specs.Threads.{AreBeside, clusters_of, past_of}
use Rattle.cluster_threads.proofs.running.leave_all.Goals as goal

pub leave-requires-clause-left : goal.leave-requires-clause-left
leave-requires-clause-left c =
    let same : length c.finish.new.clusters ≡ length c.in_ok-clusters.clusters.items = c.finish.auto.clusters ∙ ap length c.deref_mut.ensures.value in
    let count : c.in_ok-clusters.clusters.len ≡ length c.in_ok-clusters.clusters.items = sym c.deref_mut.ensures.len ∙ ap length c.deref_mut.ensures.value in
    subst (AllLeft c.args.bus) (sym (written c.in_ok-clusters.clusters.len c.in_ok-clusters.clusters.items c.finish.new.clusters same count))
    (caught_left c.args.bus c.requires.sound c.in_ok-finish.ensures.run_out c.finish.new.clusters c.in_ok-finish.ensures.caught)

-- the lives that are over are those that were before the clusters took in the rest
pub leave-requires-clause-past : goal.leave-requires-clause-past
leave-requires-clause-past c =
    let b : BusView = c.args.bus in
    let P : Option (Vec Followed Global) → Type 0 = λ o. IfSome o (λ fs. AreBeside b (clusters_of fs.items) (past_of fs.items)) in
    let beside : AreBeside b (clusters_of c.in-Some.followed.items) (past_of c.in-Some.followed.items) = subst P c.in-Some.is c.requires.beside in
    let there = c.deref_mut.ensures.value ∙ c.in_ok-clusters.ensures.clusters in
    let same : length c.finish.new.clusters ≡ length c.in_ok-clusters.clusters.items = c.finish.auto.clusters ∙ ap length c.deref_mut.ensures.value in
    let count : c.in_ok-clusters.clusters.len ≡ length c.in_ok-clusters.clusters.items = sym c.deref_mut.ensures.len ∙ ap length c.deref_mut.ensures.value in
    subst (AllPast b c.in_ok-clusters.past.items) (sym (written c.in_ok-clusters.clusters.len c.in_ok-clusters.clusters.items c.finish.new.clusters same count))
    (past_kept b c.in_ok-clusters.past.items c.deref_mut.result.now c.finish.new.clusters c.in_ok-finish.ensures.lives
    (subst (AllPast b c.in_ok-clusters.past.items) (sym there) (subst (λ past. AllPast b past (clusters_of c.in-Some.followed.items)) (sym c.in_ok-clusters.ensures.past) beside.over)))
