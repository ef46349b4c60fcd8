use Rattle.std.proofs.Common.{◌∙◌, ap, sym, is_some}
use Rattle.slab.specs.Slab.{with_value}
use Rattle.slab.proofs.SlabLemmas.{Updates-with_value}
use Rattle.residents.specs.Held.{Held, page_lacked}
use Rattle.residents.specs.Residents.{ResidentsView}
use Rattle.residents.specs.Duty.{is_able}
use Rattle.residents.proofs.Kept.{kept_written, never_empty}
use Rattle.residents.proofs.Asking.{able_listed, lacks_listed}
use Rattle.residents.proofs.Renewing.{none_renewed, renewed_able, renewed_lacks, renewed_there}
use Rattle.residents.proofs.residents.Residents.renewed.Goals as goal

pub unreachable-requires : goal.unreachable-requires
unreachable-requires c = never_empty c.self.inside.duty c.self.inside.residents (c.args.pid).0 c.in-Some.key.now c.self.inside.keys.entries c.self.inside.ready.keys c.self.inside.asking.keys c.self.invariant.0 (sym c.in-Some.ensures.value) (sym c.in-None.ensures.value)

pub invariant_of-self : goal.invariant_of-self
invariant_of-self c = (
  kept_written c.self.inside.duty c.self.inside.residents (with_value c.self.inside.residents c.in-Some.key.now c.renewed.new.self) (c.args.pid).0 c.in-Some.key.now c.renewed.new.self c.self.inside.keys.entries c.self.inside.ready.keys c.self.inside.asking.keys
      (λ able.
      able_listed c.self.inside.duty c.self.inside.residents c.self.inside.ready.keys c.self.inside.asking.keys (c.args.pid).0 c.in-Some.key.now c.in-Some-get_mut.resident.now c.self.inside.keys.entries (sym c.in-Some.ensures.value) (sym c.in-Some-get_mut.ensures.value) (c.self.invariant.0).each
      (renewed_able c.self.inside.duty c.args.pid c.in-Some-get_mut.resident.now (ap (λ (h : Held). is_able c.self.inside.duty (c.args.pid, h)) (sym c.renewed.ensures) ∙ able)))
      (λ some.
      lacks_listed c.self.inside.duty c.self.inside.residents c.self.inside.ready.keys c.self.inside.asking.keys (c.args.pid).0 c.in-Some.key.now c.in-Some-get_mut.resident.now c.self.inside.keys.entries (sym c.in-Some.ensures.value) (sym c.in-Some-get_mut.ensures.value) (c.self.invariant.0).each
      (renewed_lacks c.in-Some-get_mut.resident.now (ap (λ (h : Held). is_some (page_lacked h)) (sym c.renewed.ensures) ∙ some)))
      (sym c.in-Some.ensures.value)
      (Updates-with_value c.self.inside.residents c.in-Some.key.now c.renewed.new.self (ap is_some (sym c.in-Some-get_mut.ensures.value))) c.self.invariant.0,
  tt,
)

pub returns-in-Some-get_mut-clause-here : goal.returns-in-Some-get_mut-clause-here
returns-in-Some-get_mut-clause-here c =
    renewed_there c.self.inside.duty c.self.inside.residents (with_value c.self.inside.residents c.in-Some.key.now c.renewed.new.self) (c.args.pid).0 c.in-Some.key.now c.in-Some-get_mut.resident.now c.renewed.new.self c.self.inside.keys.entries c.self.inside.ready.keys
    c.self.inside.asking.keys c.args.self.now.here c.self.invariant.0 (sym c.in-Some.ensures.value) (sym c.in-Some-get_mut.ensures.value)
    (Updates-with_value c.self.inside.residents c.in-Some.key.now c.renewed.new.self (ap is_some (sym c.in-Some-get_mut.ensures.value)))
    (ap (λ (v : ResidentsView). v.here) c.self.view_is) c.renewed.ensures

pub returns-in_default-clause-here : goal.returns-in_default-clause-here
returns-in_default-clause-here c = none_renewed c.self.inside.residents (c.args.pid).0 c.self.inside.keys.entries c.args.self.now.here (sym c.in_default.ensures.value) (ap (λ (v : ResidentsView). v.here) c.self.view_is)
