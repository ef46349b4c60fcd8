use Rattle.std.proofs.Common.{◌≡◌, ◌<◌, ◌^◌, ap, subst, sym, ◌∙◌, true}
use Rattle.std.specs.List.{list_all}
use Rattle.bus_msg.specs.declared.entry.Post.{Post}
use Rattle.sys_text.specs.Valid.{is_system}
use Rattle.cert_sched.specs.Losses.{is_from}
use Rattle.cluster_core.specs.View.{ClusterView, duty_of, limits_of}
use Rattle.cluster_core.specs.Calls.{GoesOn, WorkIs}
use Rattle.residents.specs.ForkingAgain.{CanForkAgain}
use Rattle.cluster_core.specs.Parts.{AllOwn}
use Rattle.std.specs.Arc.{arc_value}
use Rattle.residents.specs.Owing.{owing_in}
use Rattle.residents.specs.Residents.{pids_in}
use Rattle.cluster_core.proofs.forks.CanFork.{can_fork_again}
use Rattle.cluster_core.specs.Serving.{CanAnswer}
use Rattle.cluster_core.specs.Work.{WorksOn, next_pid}
use Rattle.cluster_core.proofs.paging.Answering.{can_answer}
use Rattle.cluster_core.proofs.absorbing.Serials.{next_fits}
use Rattle.cluster_core.proofs.working.Turning.{worked_view, works}
use Rattle.cluster_core.proofs.handing.Posts.{next_can}
use Rattle.log_laws.proofs.records.Standing.{all_stand}
use Rattle.standing_backups.specs.Standing.{CanBeNext}
use Rattle.cluster_core.proofs.cluster.Cluster.do_work.Goals as goal

pub work_on-requires-clause-queue : goal.work_on-requires-clause-queue
work_on-requires-clause-queue g c = ap (λ (v : ClusterView). v.queue) c.self.view_is ∙ c.requires.empty

pub work_on-requires-clause-standing : goal.work_on-requires-clause-standing
work_on-requires-clause-standing g c =
    let old : ClusterView = c.args.self.now in
    let own = subst (λ (v : ClusterView). AllOwn v.cursor v.here) c.self.view_is c.self.invariant.residents in
    let valid = subst (λ (v : ClusterView). is_system v.system ≡ true) c.self.view_is c.self.invariant.valid in
    let some = c.requires.follows in
    subst (λ (v : ClusterView). CanBeNext v.places v.family v.here v.owed) (sym c.self.view_is) (next_can old some.log valid (all_stand old.system some.log some.open_log.0) some.follows own)

pub work_on-requires-clause-can : goal.work_on-requires-clause-can
work_on-requires-clause-can g c =
    let valid = subst (λ (v : ClusterView). is_system v.system ≡ true) c.self.view_is c.self.invariant.valid in
    subst (λ (v : ClusterView). CanAnswer v.server) (sym c.self.view_is) (can_answer c.args.self.now valid c.requires.follows)

pub work_on-requires-clause-pids : goal.work_on-requires-clause-pids
work_on-requires-clause-pids g c =
    let valid = subst (λ (v : ClusterView). is_system v.system ≡ true) c.self.view_is c.self.invariant.valid in
    let has = subst (λ (v : ClusterView). (v.number).0 < (v.system).clusters) c.self.view_is c.self.invariant.has in
    subst (λ (v : ClusterView). next_pid v.number v.places < 2 ^ 32) (sym c.self.view_is) (next_fits c.args.self.now valid has c.requires.follows)

pub work_on-requires-clause-forks : goal.work_on-requires-clause-forks
work_on-requires-clause-forks g c =
    let valid = subst (λ (v : ClusterView). is_system v.system ≡ true) c.self.view_is c.self.invariant.valid in
    let some = c.requires.follows in
    subst (λ (v : ClusterView). CanForkAgain v.here) (sym c.self.view_is) (can_fork_again c.args.self.now some.log valid c.requires.empty some.open_log some.follows)

pub returns-clause-follows : goal.returns-clause-follows
returns-clause-follows g c =
    let old : ClusterView = c.args.self.now in
    let own = subst (λ (v : ClusterView). AllOwn v.cursor v.here) c.self.view_is c.self.invariant.residents in
    let has = subst (λ (v : ClusterView). (v.number).0 < (v.system).clusters) c.self.view_is c.self.invariant.has in
    let valid = subst (λ (v : ClusterView). is_system v.system ≡ true) c.self.view_is c.self.invariant.valid in
    let on = subst (λ (v : ClusterView). WorksOn v.number v.places v.family v.owed c.self.inside.here v.server c.in_ok-worked.worked c.work_on.new.here c.work_on.new.server c.work_on.new.queue.items) c.self.view_is c.in_ok-worked.ensures.ok in
    let duty = c.self.invariant.duty_are ∙ ap duty_of c.self.view_is in
    let done = works old c.requires.follows c.requires.empty own valid has c.self.inside.here c.work_on.new.here c.work_on.new.server c.in_ok-worked.worked c.work_on.new.queue.items duty (ap (λ (v : ClusterView). v.here) c.self.view_is) on in
    let whole : c.count_step.new.self ≡ worked_view old c.work_on.new.here.here c.work_on.new.server c.work_on.new.queue.items =
    c.count_step.ensures ∙ ap (λ (v : ClusterView). worked_view v c.work_on.new.here.here c.work_on.new.server c.work_on.new.queue.items) c.self.view_is in
    subst (GoesOn old) (sym whole) done.goes_on

pub returns-clause-work : goal.returns-clause-work
returns-clause-work g c =
    let old : ClusterView = c.args.self.now in
    let own = subst (λ (v : ClusterView). AllOwn v.cursor v.here) c.self.view_is c.self.invariant.residents in
    let has = subst (λ (v : ClusterView). (v.number).0 < (v.system).clusters) c.self.view_is c.self.invariant.has in
    let valid = subst (λ (v : ClusterView). is_system v.system ≡ true) c.self.view_is c.self.invariant.valid in
    let on = subst (λ (v : ClusterView). WorksOn v.number v.places v.family v.owed c.self.inside.here v.server c.in_ok-worked.worked c.work_on.new.here c.work_on.new.server c.work_on.new.queue.items) c.self.view_is c.in_ok-worked.ensures.ok in
    let duty = c.self.invariant.duty_are ∙ ap duty_of c.self.view_is in
    let done = works old c.requires.follows c.requires.empty own valid has c.self.inside.here c.work_on.new.here c.work_on.new.server c.in_ok-worked.worked c.work_on.new.queue.items duty (ap (λ (v : ClusterView). v.here) c.self.view_is) on in
    let whole : c.count_step.new.self ≡ worked_view old c.work_on.new.here.here c.work_on.new.server c.work_on.new.queue.items =
    c.count_step.ensures ∙ ap (λ (v : ClusterView). worked_view v c.work_on.new.here.here c.work_on.new.server c.work_on.new.queue.items) c.self.view_is in
    subst (WorkIs old c.in_ok-worked.worked) (sym whole) done.work

pub invariant_of-self-2 : goal.invariant_of-self-2
invariant_of-self-2 g c =
    let old : ClusterView = c.args.self.now in
    let own = subst (λ (v : ClusterView). AllOwn v.cursor v.here) c.self.view_is c.self.invariant.residents in
    let has = subst (λ (v : ClusterView). (v.number).0 < (v.system).clusters) c.self.view_is c.self.invariant.has in
    let valid = subst (λ (v : ClusterView). is_system v.system ≡ true) c.self.view_is c.self.invariant.valid in
    let on = subst (λ (v : ClusterView). WorksOn v.number v.places v.family v.owed c.self.inside.here v.server c.in_ok-worked.worked c.work_on.new.here c.work_on.new.server c.work_on.new.queue.items) c.self.view_is c.in_ok-worked.ensures.ok in
    let duty = c.self.invariant.duty_are ∙ ap duty_of c.self.view_is in
    let done = works old c.requires.follows c.requires.empty own valid has c.self.inside.here c.work_on.new.here c.work_on.new.server c.in_ok-worked.worked c.work_on.new.queue.items duty (ap (λ (v : ClusterView). v.here) c.self.view_is) on in
    record {
      valid = c.self.invariant.valid;
      has = c.self.invariant.has;
      duty_are = c.work_on.ensures.duty ∙ c.self.invariant.duty_are ∙ ap (λ pids. record { limits = limits_of (arc_value c.self.inside.system); owing = owing_in c.self.inside.places pids }) (ap (λ (v : ClusterView). pids_in v.here) c.self.view_is ∙ sym done.pids);
      residents = subst (λ (v : ClusterView). AllOwn v.cursor c.work_on.new.here.here) (sym c.self.view_is) done.residents;
      own = subst (λ (v : ClusterView). list_all (λ (post : Post). is_from v.number post.by) c.work_on.new.queue.items ≡ true) (sym c.self.view_is) done.own;
      of_kind = done.of_kind;
    }
