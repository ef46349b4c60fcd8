use Rattle.std.proofs.Common.{◌∙◌, ap, sym, false, is_some, not, subst}
use Rattle.std.specs.Option.{option_map_or}
use Rattle.std.specs.List.{list_any}
use Rattle.slab.specs.Slab.{with_value}
use Rattle.slab.proofs.SlabLemmas.{Updates-with_value}
use Rattle.plain_kernel.specs.Maps.{at_key, pid_of}
use Rattle.quanta.specs.declared.limits.Limits.{Limits}
use Rattle.residents.specs.Residents.{RunsOnAt, ResidentsView, stays_at}
use Rattle.residents.specs.Quantum.{RunsQuantum}
use Rattle.residents.specs.Slots.{stands_in}
use Rattle.residents.specs.ChildrenFirst.{comes_after_at, comes_after_children}
use Rattle.residents.specs.Held.{can_act, is_running, runs_at}
use Rattle.residents.specs.ForkingAgain.{is_rolling, rolls_at}
use Rattle.residents.proofs.RollingParts.{none_made}
use Rattle.residents.proofs.Slots.{nobody_fails, nobody_held, no_entry, process_there}
use Rattle.residents.proofs.Kept.{never_empty, kept_written, ran_at}
use Rattle.residents.proofs.Asking.{lacks_listed, ran_lacks}
use Rattle.residents.proofs.residents.Residents.run_on.Goals as goal

pub run_quantum-requires-clause-last : goal.run_quantum-requires-clause-last
run_quantum-requires-clause-last c = λ none comes.
    c.requires.last none
    (ap (λ (v : ResidentsView). comes_after_at (v.duty).limits v.here (pid_of c.args.pid)) (sym c.self.view_is)
    ∙ ap (λ o. option_map_or (comes_after_children (c.self.inside.duty).limits) o false) (process_there c.self.inside.residents c.args.pid c.in-Some.key.now c.in-Some-get_mut.resident.now c.self.inside.keys.entries (sym c.in-Some.ensures.value) (sym c.in-Some-get_mut.ensures.value))
    ∙ ap (λ (limits : Limits). comes_after_children limits c.in-Some-get_mut.resident.now) (sym c.limits.ensures) ∙ comes)

pub run_quantum-requires-clause-running : goal.run_quantum-requires-clause-running
run_quantum-requires-clause-running c =
    sym (ap (λ o. option_map_or is_rolling o false) (process_there c.self.inside.residents c.args.pid c.in-Some.key.now c.in-Some-get_mut.resident.now c.self.inside.keys.entries (sym c.in-Some.ensures.value) (sym c.in-Some-get_mut.ensures.value))) ∙ ap (λ (v : ResidentsView). rolls_at v.here (pid_of c.args.pid)) c.self.view_is ∙ c.requires.running

pub run_quantum-requires-clause-waiting : goal.run_quantum-requires-clause-waiting
run_quantum-requires-clause-waiting c = λ some.
    sym (ap (λ o. option_map_or is_running o false) (process_there c.self.inside.residents c.args.pid c.in-Some.key.now c.in-Some-get_mut.resident.now c.self.inside.keys.entries (sym c.in-Some.ensures.value) (sym c.in-Some-get_mut.ensures.value))) ∙ ap (λ (v : ResidentsView). runs_at v.here (pid_of c.args.pid)) c.self.view_is ∙ c.requires.waiting some

pub unreachable-requires : goal.unreachable-requires
unreachable-requires c = never_empty c.self.inside.duty c.self.inside.residents c.args.pid c.in-Some.key.now c.self.inside.keys.entries c.self.inside.ready.keys c.self.inside.asking.keys c.self.invariant.0 (sym c.in-Some.ensures.value) (sym c.in-None-get_mut.ensures.value)

pub invariant_of-self : goal.invariant_of-self
invariant_of-self c = (
  kept_written c.self.inside.duty c.self.inside.residents (with_value c.self.inside.residents c.in-Some.key.now c.run_quantum.new.self) c.args.pid c.in-Some.key.now c.run_quantum.new.self c.self.inside.keys.entries c.self.inside.ready.keys c.self.inside.asking.keys
      (λ acts. ap (λ (v : ResidentsView). list_any (at_key c.args.pid) v.ready) c.self.view_is ∙ c.requires.ready)
      (λ some.
      lacks_listed c.self.inside.duty c.self.inside.residents c.self.inside.ready.keys c.self.inside.asking.keys c.args.pid c.in-Some.key.now c.in-Some-get_mut.resident.now c.self.inside.keys.entries (sym c.in-Some.ensures.value) (sym c.in-Some-get_mut.ensures.value) (c.self.invariant.0).each
      (ran_lacks c.limits.result c.args.by c.args.childless c.args.made c.in-Some-get_mut.resident.now c.run_quantum.new.self c.run_quantum.result c.run_quantum.ensures some))
      (sym c.in-Some.ensures.value)
      (Updates-with_value c.self.inside.residents c.in-Some.key.now c.run_quantum.new.self (ap is_some (sym c.in-Some-get_mut.ensures.value))) c.self.invariant.0,
  tt,
)

pub returns-in-Some-get_mut-clause-turn : goal.returns-in-Some-get_mut-clause-turn
returns-in-Some-get_mut-clause-turn c =
    subst (λ (limits : Limits). RunsOnAt limits c.args.by c.args.childless c.args.made (pid_of c.args.pid) c.args.self.now.here c.run_quantum.result (stands_in (with_value c.self.inside.residents c.in-Some.key.now c.run_quantum.new.self) c.self.inside.keys.entries))
    (ap (λ (v : ResidentsView). (v.duty).limits) c.self.view_is)
    (ran_at c.self.inside.duty c.args.by c.args.childless c.args.made c.self.inside.residents (with_value c.self.inside.residents c.in-Some.key.now c.run_quantum.new.self) c.args.pid c.in-Some.key.now c.self.inside.keys.entries c.self.inside.ready.keys c.self.inside.asking.keys
    c.in-Some-get_mut.resident.now c.run_quantum.new.self c.args.self.now.here c.self.invariant.0 (sym c.in-Some.ensures.value) (sym c.in-Some-get_mut.ensures.value)
    (Updates-with_value c.self.inside.residents c.in-Some.key.now c.run_quantum.new.self (ap is_some (sym c.in-Some-get_mut.ensures.value))) (ap (λ (v : ResidentsView). v.here) c.self.view_is) c.run_quantum.result
    (subst (λ (limits : Limits). RunsQuantum limits c.args.by 64 c.args.childless c.args.made c.in-Some-get_mut.resident.now c.run_quantum.result c.run_quantum.new.self) c.limits.ensures c.run_quantum.ensures))

pub returns-in-None-clause-turn : goal.returns-in-None-clause-turn
returns-in-None-clause-turn c = (
  none_made c.args.made (λ some. sym (ap (λ o. option_map_or is_running o false) (nobody_held c.self.inside.residents c.args.pid c.self.inside.keys.entries (no_entry c.args.pid c.self.inside.keys.entries (sym c.in-None.ensures.value)))) ∙ ap (λ (v : ResidentsView). runs_at v.here (pid_of c.args.pid)) c.self.view_is ∙ c.requires.waiting some),
  ap (λ (v : ResidentsView). stays_at (v.duty).limits (pid_of c.args.pid) v.here) (sym c.self.view_is) ∙ nobody_fails (λ h. not (can_act (c.self.inside.duty).limits h)) c.self.inside.residents c.args.pid c.self.inside.keys.entries (no_entry c.args.pid c.self.inside.keys.entries (sym c.in-None.ensures.value)),
  ap (λ (v : ResidentsView). v.here) c.self.view_is,
)
