use Rattle.std.proofs.Common.{◌∙◌, ap, sym, is_some}
use Rattle.slab.specs.Slab.{with_value}
use Rattle.slab.proofs.SlabLemmas.{Updates-with_value}
use Rattle.residents.specs.Residents.{ResidentsView}
use Rattle.std.specs.List.{list_any}
use Rattle.plain_kernel.specs.Maps.{at_key}
use Rattle.residents.proofs.Kept.{kept_written, never_empty}
use Rattle.residents.proofs.Asking.{lacks_listed}
use Rattle.residents.specs.Held.{Held, held_of, page_lacked}
use Rattle.residents.proofs.Slots.{process_there}
use Rattle.residents.proofs.RollingSlots.{begins_at, begun_lacks, none_begins}
use Rattle.residents.proofs.residents.Residents.begin_again.Goals as goal

pub unreachable-requires : goal.unreachable-requires
unreachable-requires c = never_empty c.self.inside.duty c.self.inside.residents (c.args.child).0 c.in-Some.key.now c.self.inside.keys.entries c.self.inside.ready.keys c.self.inside.asking.keys c.self.invariant.0 (sym c.in-Some.ensures.value) (sym c.in-None.ensures.value)

pub invariant_of-self : goal.invariant_of-self
invariant_of-self c = (
  kept_written c.self.inside.duty c.self.inside.residents (with_value c.self.inside.residents c.in-Some.key.now c.begin_again.new.self) (c.args.child).0 c.in-Some.key.now c.begin_again.new.self c.self.inside.keys.entries c.self.inside.ready.keys c.self.inside.asking.keys
      (λ acts. ap (λ (v : ResidentsView). list_any (at_key (c.args.child).0) v.ready) c.self.view_is ∙ c.requires.ready)
      (λ some.
      lacks_listed c.self.inside.duty c.self.inside.residents c.self.inside.ready.keys c.self.inside.asking.keys (c.args.child).0 c.in-Some.key.now c.in-Some-get_mut.resident.now c.self.inside.keys.entries (sym c.in-Some.ensures.value) (sym c.in-Some-get_mut.ensures.value) (c.self.invariant.0).each
      (begun_lacks c.args.born c.in-Some-get_mut.resident.now (ap (λ (h : Held). is_some (page_lacked h)) (sym c.begin_again.ensures) ∙ some)))
      (sym c.in-Some.ensures.value)
      (Updates-with_value c.self.inside.residents c.in-Some.key.now c.begin_again.new.self (ap is_some (sym c.in-Some-get_mut.ensures.value))) c.self.invariant.0,
  tt,
)

pub begin_again-requires : goal.begin_again-requires
begin_again-requires c =
    c.requires.can c.in-Some-get_mut.resident.now
    (ap (λ (v : ResidentsView). held_of v.here c.args.child) (sym c.self.view_is) ∙ process_there c.self.inside.residents (c.args.child).0 c.in-Some.key.now c.in-Some-get_mut.resident.now c.self.inside.keys.entries (sym c.in-Some.ensures.value) (sym c.in-Some-get_mut.ensures.value))

pub returns-in-Some-get_mut-clause-here : goal.returns-in-Some-get_mut-clause-here
returns-in-Some-get_mut-clause-here c =
    begins_at c.self.inside.duty c.self.inside.residents (with_value c.self.inside.residents c.in-Some.key.now c.begin_again.new.self) (c.args.child).0 c.in-Some.key.now c.self.inside.keys.entries c.self.inside.ready.keys c.self.inside.asking.keys c.in-Some-get_mut.resident.now c.begin_again.new.self
    c.args.self.now.here c.self.invariant.0 (sym c.in-Some.ensures.value) (sym c.in-Some-get_mut.ensures.value)
    (Updates-with_value c.self.inside.residents c.in-Some.key.now c.begin_again.new.self (ap is_some (sym c.in-Some-get_mut.ensures.value))) (ap (λ (v : ResidentsView). v.here) c.self.view_is) c.args.born c.begin_again.ensures

pub returns-in_default-clause-here : goal.returns-in_default-clause-here
returns-in_default-clause-here c =
    let same = ap (λ (v : ResidentsView). v.here) c.self.view_is in
    same ∙ none_begins c.self.inside.residents (c.args.child).0 c.args.born c.self.inside.keys.entries c.args.self.now.here (sym c.in_default.ensures.value) same
