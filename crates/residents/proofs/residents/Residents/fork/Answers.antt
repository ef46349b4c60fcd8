use Rattle.std.proofs.Common.{◌∙◌, ap, sym, is_some}
use Rattle.slab.specs.Slab.{with_value}
use Rattle.slab.proofs.SlabLemmas.{Updates-with_value}
use Rattle.residents.specs.Residents.{ResidentsView}
use Rattle.residents.specs.Held.{held_of}
use Rattle.residents.proofs.Slots.{no_entry, process_there}
use Rattle.residents.proofs.Kept.{kept_written, never_empty, ready_put}
use Rattle.residents.proofs.Asking.{lacks_listed}
use Rattle.residents.proofs.Forked.{forks_at, nobody_forks, still_lacks_forked}
use Rattle.residents.proofs.residents.Residents.fork.Goals as goal

pub fork-requires : goal.fork-requires
fork-requires c =
    c.requires c.in-Some-get_mut.resident.now
    (ap (λ (v : ResidentsView). held_of v.here c.args.parent) (sym c.self.view_is) ∙ process_there c.self.inside.residents (c.args.parent).0 c.in-Some.key.now c.in-Some-get_mut.resident.now c.self.inside.keys.entries (sym c.in-Some.ensures.value) (sym c.in-Some-get_mut.ensures.value))

pub unreachable-requires : goal.unreachable-requires
unreachable-requires c = never_empty c.self.inside.duty c.self.inside.residents (c.args.parent).0 c.in-Some.key.now c.self.inside.keys.entries c.self.inside.ready.keys c.self.inside.asking.keys c.self.invariant.0 (sym c.in-Some.ensures.value) (sym c.in-None-get_mut.ensures.value)

pub invariant_of-self-in-Some : goal.invariant_of-self-in-Some
invariant_of-self-in-Some c = (
  kept_written c.self.inside.duty c.self.inside.residents (with_value c.self.inside.residents c.in-Some.key.now c.fork.new.self) (c.args.parent).0 c.in-Some.key.now c.fork.new.self c.self.inside.keys.entries c.insert.new.self.keys c.self.inside.asking.keys
      (λ acts. c.in_ok-insert-in-Some.ensures.updates.1)
      (λ some.
      lacks_listed c.self.inside.duty c.self.inside.residents c.self.inside.ready.keys c.self.inside.asking.keys (c.args.parent).0 c.in-Some.key.now c.in-Some-get_mut.resident.now c.self.inside.keys.entries (sym c.in-Some.ensures.value) (sym c.in-Some-get_mut.ensures.value) (c.self.invariant.0).each
      (still_lacks_forked c.args.child c.in-Some-get_mut.resident.now c.fork.new.self c.fork.result c.fork.ensures.ok c.fork.ensures.err some))
      (sym c.in-Some.ensures.value)
      (Updates-with_value c.self.inside.residents c.in-Some.key.now c.fork.new.self (ap is_some (sym c.in-Some-get_mut.ensures.value)))
      (ready_put c.self.inside.duty c.self.inside.residents c.self.inside.keys.entries (c.args.parent).0 c.self.inside.ready.keys c.insert.new.self.keys c.self.inside.asking.keys c.in_ok-insert-in-Some.ensures.updates.0 c.self.invariant.0),
  tt,
)

pub returns-in-Some-get_mut-clause-ok : goal.returns-in-Some-get_mut-clause-ok
returns-in-Some-get_mut-clause-ok c =
    forks_at c.self.inside.duty c.self.inside.residents (with_value c.self.inside.residents c.in-Some.key.now c.fork.new.self) (c.args.parent).0 c.in-Some.key.now c.self.inside.keys.entries c.self.inside.ready.keys c.self.inside.asking.keys c.in-Some-get_mut.resident.now c.fork.new.self
    c.args.self.now.here c.self.invariant.0 (sym c.in-Some.ensures.value) (sym c.in-Some-get_mut.ensures.value)
    (Updates-with_value c.self.inside.residents c.in-Some.key.now c.fork.new.self (ap is_some (sym c.in-Some-get_mut.ensures.value))) (ap (λ (v : ResidentsView). v.here) c.self.view_is) c.args.child c.fork.result c.fork.ensures.ok

pub returns-in-None-clause-ok : goal.returns-in-None-clause-ok
returns-in-None-clause-ok c = nobody_forks c.self.inside.residents (c.args.parent).0 c.self.inside.keys.entries c.args.child c.args.self.now.here (no_entry (c.args.parent).0 c.self.inside.keys.entries (sym c.in-None.ensures.value)) (ap (λ (v : ResidentsView). v.here) c.self.view_is)
