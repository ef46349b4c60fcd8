use Rattle.std.proofs.Common.{◌≡◌, ◌∙◌, sym, ap, subst}
use Rattle.cluster_core.specs.View.{ClusterView}
use Rattle.bus_order.specs.View.{BusView}
use Rattle.cluster_run.specs.declared.life.Life.{Life}
use Rattle.cluster_run.specs.Begun.{BeginsLife}
use Rattle.cluster_run.specs.Left.{life_in}
use Rattle.cluster_turns.proofs.Staying.{same_lost}
use Rattle.cluster_run.proofs.AtTheEnd.{member_on}
use Rattle.cluster_run.proofs.NextLife.{next_life}
use Rattle.cluster_run.proofs.beginning.begin_life.Goals as goal

pub returns : goal.returns
returns c =
    let b : BusView = c.args.bus.now in
    let old = c.args.cluster.now in
    let lost : ClusterView = c.take_until_lost.new.cluster in
    let taken = c.in_ok-take_until_lost.ensures in
    let l : Life = c.past_life-life.result in
    let told = c.past_life-life.ensures in
    let it : c.replace-lost.result ≡ lost = c.replace-lost.ensures.value in
    let is : l ≡ life_in b.log lost =
    (λ i. record { cluster = told.cluster i; from = told.from i; upto = told.upto i; value = told.value i }) ∙ ap (life_in b.log) it in
    record {
      begins = subst (λ v. BeginsLife b old v c.args.past.now.items c.push.new.self.items) (sym c.replace-lost.ensures.after)
          (next_life b c.requires.sound c.requires.goes_on old lost c.in_ok-fresh.fresh l c.args.past.now.items c.push.new.self.items (member_on b old c.requires.member) taken.same taken.life taken.stopped
          (same_lost b.log old lost taken.same.number taken.life ∙ c.requires.lost) c.in_ok-fresh.ensures.back is c.in_ok-push.ensures.items);
    }
