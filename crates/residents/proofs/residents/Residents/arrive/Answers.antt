use Rattle.std.proofs.Common.{◌∙◌, ap, sym, is_some}
use Rattle.slab.specs.Slab.{with_value}
use Rattle.slab.proofs.SlabLemmas.{Updates-with_value}
use Rattle.t32_base.specs.declared.letter.Letter.{Letter}
use Rattle.residents.specs.Residents.{ResidentsView}
use Rattle.residents.specs.Held.{arrived_held, held_of}
use Rattle.residents.proofs.Slots.{process_there}
use Rattle.residents.proofs.Kept.{kept_written, never_empty, ready_put}
use Rattle.residents.proofs.Coming.{arrival, no_arrival, on_ok, still_lacks}
use Rattle.residents.proofs.Asking.{lacks_listed}
use Rattle.residents.proofs.residents.Residents.arrive.Goals as goal

pub invariant_of-self-in_err-copy-in-Some-get_mut : goal.invariant_of-self-in_err-copy-in-Some-get_mut
invariant_of-self-in_err-copy-in-Some-get_mut c = (
  kept_written c.self.inside.duty c.self.inside.residents (with_value c.self.inside.residents c.in-Some.key.now c.in-Some-get_mut.resident.now) (c.args.pid).0 c.in-Some.key.now c.in-Some-get_mut.resident.now c.self.inside.keys.entries c.insert.new.self.keys c.self.inside.asking.keys
      (λ acts. c.in_ok-insert-in-Some.ensures.updates.1)
      (lacks_listed c.self.inside.duty c.self.inside.residents c.self.inside.ready.keys c.self.inside.asking.keys (c.args.pid).0 c.in-Some.key.now c.in-Some-get_mut.resident.now c.self.inside.keys.entries (sym c.in-Some.ensures.value) (sym c.in-Some-get_mut.ensures.value) (c.self.invariant.0).each)
      (sym c.in-Some.ensures.value)
      (Updates-with_value c.self.inside.residents c.in-Some.key.now c.in-Some-get_mut.resident.now (ap is_some (sym c.in-Some-get_mut.ensures.value)))
      (ready_put c.self.inside.duty c.self.inside.residents c.self.inside.keys.entries (c.args.pid).0 c.self.inside.ready.keys c.insert.new.self.keys c.self.inside.asking.keys c.in_ok-insert-in-Some.ensures.updates.0 c.self.invariant.0),
  tt,
)

pub deliver-requires : goal.deliver-requires
deliver-requires c =
    c.requires c.args.pid c.in-Some-get_mut.resident.now
    (ap (λ (v : ResidentsView). held_of v.here c.args.pid) (sym c.self.view_is) ∙ process_there c.self.inside.residents (c.args.pid).0 c.in-Some.key.now c.in-Some-get_mut.resident.now c.self.inside.keys.entries (sym c.in-Some.ensures.value) (sym c.in-Some-get_mut.ensures.value))

pub unreachable-requires : goal.unreachable-requires
unreachable-requires c = never_empty c.self.inside.duty c.self.inside.residents (c.args.pid).0 c.in-Some.key.now c.self.inside.keys.entries c.self.inside.ready.keys c.self.inside.asking.keys c.self.invariant.0 (sym c.in-Some.ensures.value) (sym c.in-None-get_mut.ensures.value)

pub invariant_of-self-in-Some : goal.invariant_of-self-in-Some
invariant_of-self-in-Some c = (
  kept_written c.self.inside.duty c.self.inside.residents (with_value c.self.inside.residents c.in-Some.key.now c.deliver.new.self) (c.args.pid).0 c.in-Some.key.now c.deliver.new.self c.self.inside.keys.entries c.insert.new.self.keys c.self.inside.asking.keys
      (λ acts. c.in_ok-insert-in-Some.ensures.updates.1)
      (λ some.
      lacks_listed c.self.inside.duty c.self.inside.residents c.self.inside.ready.keys c.self.inside.asking.keys (c.args.pid).0 c.in-Some.key.now c.in-Some-get_mut.resident.now c.self.inside.keys.entries (sym c.in-Some.ensures.value) (sym c.in-Some-get_mut.ensures.value) (c.self.invariant.0).each
      (still_lacks c.in-Some-get_mut.resident.now c.deliver.new.self c.in_ok-copy-in-Some-get_mut.field-0 c.deliver.result c.deliver.ensures.ok c.deliver.ensures.err some))
      (sym c.in-Some.ensures.value)
      (Updates-with_value c.self.inside.residents c.in-Some.key.now c.deliver.new.self (ap is_some (sym c.in-Some-get_mut.ensures.value)))
      (ready_put c.self.inside.duty c.self.inside.residents c.self.inside.keys.entries (c.args.pid).0 c.self.inside.ready.keys c.insert.new.self.keys c.self.inside.asking.keys c.in_ok-insert-in-Some.ensures.updates.0 c.self.invariant.0),
  tt,
)

pub returns-in_ok-copy-in-Some-get_mut-clause-ok : goal.returns-in_ok-copy-in-Some-get_mut-clause-ok
returns-in_ok-copy-in-Some-get_mut-clause-ok c =
    on_ok c.deliver.result
    (λ is.
    arrival c.self.inside.duty c.self.inside.residents (with_value c.self.inside.residents c.in-Some.key.now c.deliver.new.self) (c.args.pid).0 c.in-Some.key.now c.in-Some-get_mut.resident.now c.deliver.new.self c.args.letter.now c.self.inside.keys.entries c.self.inside.ready.keys c.self.inside.asking.keys c.args.self.now.here
    c.self.invariant.0 (sym c.in-Some.ensures.value) (sym c.in-Some-get_mut.ensures.value)
    (Updates-with_value c.self.inside.residents c.in-Some.key.now c.deliver.new.self (ap is_some (sym c.in-Some-get_mut.ensures.value)))
    (ap (λ (v : ResidentsView). v.here) c.self.view_is)
    (is ∙ ap (λ (l : Letter). arrived_held c.in-Some-get_mut.resident.now l) c.in_ok-copy-in-Some-get_mut.ensures))
    c.deliver.ensures.ok

pub returns-in-None-clause-ok : goal.returns-in-None-clause-ok
returns-in-None-clause-ok c = no_arrival c.self.inside.residents (c.args.pid).0 c.args.letter.now c.self.inside.keys.entries c.args.self.now.here (sym c.in-None.ensures.value) (ap (λ (v : ResidentsView). v.here) c.self.view_is)
