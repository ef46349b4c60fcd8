use Rattle.std.proofs.Common.{◌∙◌, ap, sym, is_some, false}
use Rattle.std.specs.Option.{option_map_or}
use Rattle.std.proofs.lemmas.Bool.{false≢true}
use Rattle.slab.specs.Slab.{with_value}
use Rattle.slab.proofs.SlabLemmas.{Updates-with_value}
use Rattle.residents.specs.Held.{is_running, runs_at}
use Rattle.residents.specs.Residents.{ResidentsView}
use Rattle.residents.proofs.Slots.{nobody_held, no_entry, process_there}
use Rattle.residents.proofs.Kept.{kept_written, never_empty, syncs_at}
use Rattle.residents.proofs.Asking.{able_listed, lacks_listed}
use Rattle.residents.proofs.ChildFirst.{syncs_lacks}
use Rattle.residents.proofs.Owed.{syncs_able}
use Rattle.residents.proofs.residents.Residents.synchronise.Goals as goal

pub synchronise-requires : goal.synchronise-requires
synchronise-requires c =
    ap (λ o. option_map_or is_running o false) (sym (process_there c.self.inside.residents (c.args.pid).0 c.in-Some.key.now c.in-Some-get_mut.resident.now c.self.inside.keys.entries (sym c.in-Some.ensures.value) (sym c.in-Some-get_mut.ensures.value)))
    ∙ ap (λ (v : ResidentsView). runs_at v.here c.args.pid) c.self.view_is ∙ c.requires

pub unreachable-requires : goal.unreachable-requires
unreachable-requires c = never_empty c.self.inside.duty c.self.inside.residents (c.args.pid).0 c.in-Some.key.now c.self.inside.keys.entries c.self.inside.ready.keys c.self.inside.asking.keys c.self.invariant.0 (sym c.in-Some.ensures.value) (sym c.in-None-get_mut.ensures.value)

pub unreachable-requires-in-None : goal.unreachable-requires-in-None
unreachable-requires-in-None c =
    false≢true
    (ap (λ o. option_map_or is_running o false) (sym (nobody_held c.self.inside.residents (c.args.pid).0 c.self.inside.keys.entries (no_entry (c.args.pid).0 c.self.inside.keys.entries (sym c.in-None.ensures.value))))
    ∙ ap (λ (v : ResidentsView). runs_at v.here c.args.pid) c.self.view_is ∙ c.requires)

pub invariant_of-self : goal.invariant_of-self
invariant_of-self c = (
  kept_written c.self.inside.duty c.self.inside.residents (with_value c.self.inside.residents c.in-Some.key.now c.synchronise.new.self) (c.args.pid).0 c.in-Some.key.now c.synchronise.new.self c.self.inside.keys.entries c.self.inside.ready.keys c.self.inside.asking.keys
      (λ acts.
      able_listed c.self.inside.duty c.self.inside.residents c.self.inside.ready.keys c.self.inside.asking.keys (c.args.pid).0 c.in-Some.key.now c.in-Some-get_mut.resident.now c.self.inside.keys.entries (sym c.in-Some.ensures.value) (sym c.in-Some-get_mut.ensures.value) (c.self.invariant.0).each
      (syncs_able c.self.inside.duty c.args.pid c.args.by c.in-Some-get_mut.resident.now c.synchronise.new.self c.synchronise.result c.synchronise.ensures.ok c.synchronise.ensures.err acts))
      (λ some.
      lacks_listed c.self.inside.duty c.self.inside.residents c.self.inside.ready.keys c.self.inside.asking.keys (c.args.pid).0 c.in-Some.key.now c.in-Some-get_mut.resident.now c.self.inside.keys.entries (sym c.in-Some.ensures.value) (sym c.in-Some-get_mut.ensures.value) (c.self.invariant.0).each
      (syncs_lacks c.args.by c.in-Some-get_mut.resident.now c.synchronise.new.self c.synchronise.result c.synchronise.ensures.ok c.synchronise.ensures.err some))
      (sym c.in-Some.ensures.value)
      (Updates-with_value c.self.inside.residents c.in-Some.key.now c.synchronise.new.self (ap is_some (sym c.in-Some-get_mut.ensures.value))) c.self.invariant.0,
  tt,
)

pub returns-clause-ok : goal.returns-clause-ok
returns-clause-ok c =
    syncs_at c.self.inside.duty c.args.by c.self.inside.residents (with_value c.self.inside.residents c.in-Some.key.now c.synchronise.new.self) (c.args.pid).0 c.in-Some.key.now c.self.inside.keys.entries c.self.inside.ready.keys c.self.inside.asking.keys c.in-Some-get_mut.resident.now c.synchronise.new.self
    c.args.self.now.here c.self.invariant.0 (sym c.in-Some.ensures.value) (sym c.in-Some-get_mut.ensures.value)
    (Updates-with_value c.self.inside.residents c.in-Some.key.now c.synchronise.new.self (ap is_some (sym c.in-Some-get_mut.ensures.value))) (ap (λ (v : ResidentsView). v.here) c.self.view_is) c.synchronise.result c.synchronise.ensures.ok
