use Rattle.std.proofs.Common.{◌∙◌, ap, sym, is_some}
use Rattle.slab.specs.Slab.{with_value}
use Rattle.slab.proofs.SlabLemmas.{Updates-with_value}
use Rattle.residents.specs.Residents.{ResidentsView}
use Rattle.std.specs.List.{list_any}
use Rattle.plain_kernel.specs.Maps.{at_key}
use Rattle.residents.proofs.Kept.{kept_written, never_empty}
use Rattle.residents.proofs.Asking.{lacks_listed}
use Rattle.residents.proofs.RollingSlots.{no_steps_at, rolled_lacks, steps_at}
use Rattle.residents.proofs.residents.Residents.roll_steps.Goals as goal

pub unreachable-requires : goal.unreachable-requires
unreachable-requires c = never_empty c.self.inside.duty c.self.inside.residents c.args.pid c.in-Some.key.now c.self.inside.keys.entries c.self.inside.ready.keys c.self.inside.asking.keys c.self.invariant.0 (sym c.in-Some.ensures.value) (sym c.in-None-get_mut.ensures.value)

pub invariant_of-self : goal.invariant_of-self
invariant_of-self c = (
  kept_written c.self.inside.duty c.self.inside.residents (with_value c.self.inside.residents c.in-Some.key.now c.roll.new.self) c.args.pid c.in-Some.key.now c.roll.new.self c.self.inside.keys.entries c.self.inside.ready.keys c.self.inside.asking.keys
      (λ acts. ap (λ (v : ResidentsView). list_any (at_key c.args.pid) v.ready) c.self.view_is ∙ c.requires.ready)
      (λ some.
      lacks_listed c.self.inside.duty c.self.inside.residents c.self.inside.ready.keys c.self.inside.asking.keys c.args.pid c.in-Some.key.now c.in-Some-get_mut.resident.now c.self.inside.keys.entries (sym c.in-Some.ensures.value) (sym c.in-Some-get_mut.ensures.value) (c.self.invariant.0).each
      (rolled_lacks c.args.most c.in-Some-get_mut.resident.now c.roll.new.self c.roll.result c.roll.ensures.ok c.roll.ensures.err some))
      (sym c.in-Some.ensures.value)
      (Updates-with_value c.self.inside.residents c.in-Some.key.now c.roll.new.self (ap is_some (sym c.in-Some-get_mut.ensures.value))) c.self.invariant.0,
  tt,
)

pub returns-in-Some-get_mut-clause-ok : goal.returns-in-Some-get_mut-clause-ok
returns-in-Some-get_mut-clause-ok c =
    steps_at c.self.inside.duty c.self.inside.residents (with_value c.self.inside.residents c.in-Some.key.now c.roll.new.self) c.args.pid c.in-Some.key.now c.self.inside.keys.entries c.self.inside.ready.keys c.self.inside.asking.keys c.in-Some-get_mut.resident.now c.roll.new.self
    c.args.self.now.here c.self.invariant.0 (sym c.in-Some.ensures.value) (sym c.in-Some-get_mut.ensures.value)
    (Updates-with_value c.self.inside.residents c.in-Some.key.now c.roll.new.self (ap is_some (sym c.in-Some-get_mut.ensures.value))) (ap (λ (v : ResidentsView). v.here) c.self.view_is) c.args.most c.roll.result c.roll.ensures.ok

pub returns-in-None-clause-ok : goal.returns-in-None-clause-ok
returns-in-None-clause-ok c = no_steps_at c.self.inside.residents c.args.pid c.args.most c.self.inside.keys.entries c.args.self.now.here (sym c.in-None.ensures.value) (ap (λ (v : ResidentsView). v.here) c.self.view_is)
