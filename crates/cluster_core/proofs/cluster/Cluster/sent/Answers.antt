use Rattle.std.proofs.Common.{ap, sym, subst, ◌∙◌}
use Rattle.std.specs.Arc.{arc_value}
use Rattle.residents.specs.Owing.{owing_in}
use Rattle.residents.specs.Residents.{pids_in}
use Rattle.cluster_core.specs.View.{limits_of}
use Rattle.cluster_core.proofs.renewing.OwnRenewal.{pids_by_head}
use Rattle.bus_msg.specs.declared.entry.Post.{Post}
use Rattle.cert_sched.specs.Losses.{is_from}
use Rattle.cluster_core.specs.Parts.{AllOwn}
use Rattle.cluster_core.specs.Sent.{is_sent}
use Rattle.cluster_core.proofs.absorbing.AfterSent.{behind_all}
use Rattle.cluster_core.proofs.here.Owning.{own_by_head}
use Rattle.cluster_core.proofs.cluster.Cluster.sent.Goals as goal

pub invariant_of-self : goal.invariant_of-self
invariant_of-self g c = record {
  valid = c.self.invariant.valid;
  has = c.self.invariant.has;
  duty_are = c.renew.ensures.duty ∙ c.self.invariant.duty_are ∙ ap (λ pids. record { limits = limits_of (arc_value c.self.inside.system); owing = owing_in c.self.inside.places pids }) (sym (ap pids_in c.renew.ensures.here ∙ pids_by_head c.self.inside.queue.items c.self.inside.here.here));
  residents = subst (AllOwn c.self.inside.cursor) (sym c.renew.ensures.here) (own_by_head c.self.inside.cursor c.self.inside.queue.items c.self.inside.here.here c.self.invariant.residents);
  own = behind_all (λ (post : Post). is_from c.self.inside.number post.by) c.pop_front.result c.self.inside.queue.items c.pop_front.new.self.items c.pop_front.ensures.items c.self.invariant.own;
  of_kind = behind_all (λ (post : Post). is_sent post.what) c.pop_front.result c.self.inside.queue.items c.pop_front.new.self.items c.pop_front.ensures.items c.self.invariant.of_kind;
}
