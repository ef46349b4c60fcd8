use Rattle.std.proofs.Common.{◌∙◌, ap, sym, is_some, false}
use Rattle.std.specs.List.{list_any}
use Rattle.std.specs.Option.{option_map_or}
use Rattle.plain_kernel.specs.Maps.{at_key, pid_of}
use Rattle.std.proofs.lemmas.Bool.{false≢true}
use Rattle.slab.specs.Slab.{with_value}
use Rattle.slab.proofs.SlabLemmas.{Updates-with_value}
use Rattle.residents.specs.Held.{is_running, runs_at}
use Rattle.residents.specs.Residents.{ResidentsView}
use Rattle.residents.proofs.Slots.{nobody_held, no_entry, process_there}
use Rattle.residents.proofs.Kept.{kept_written, never_empty}
use Rattle.residents.proofs.Renewing.{renews_at, renews_lacks}
use Rattle.residents.proofs.Asking.{lacks_listed}
use Rattle.residents.proofs.residents.Residents.renew.Goals as goal

pub renew-requires : goal.renew-requires
renew-requires c =
    ap (λ o. option_map_or is_running o false) (sym (process_there c.self.inside.residents c.args.pid c.in-Some.key.now c.in-Some-get_mut.resident.now c.self.inside.keys.entries (sym c.in-Some.ensures.value) (sym c.in-Some-get_mut.ensures.value)))
    ∙ ap (λ (v : ResidentsView). runs_at v.here (pid_of c.args.pid)) c.self.view_is ∙ c.requires.runs

pub unreachable-requires : goal.unreachable-requires
unreachable-requires c = never_empty c.self.inside.duty c.self.inside.residents c.args.pid c.in-Some.key.now c.self.inside.keys.entries c.self.inside.ready.keys c.self.inside.asking.keys c.self.invariant.0 (sym c.in-Some.ensures.value) (sym c.in-None-get_mut.ensures.value)

pub unreachable-requires-in-None : goal.unreachable-requires-in-None
unreachable-requires-in-None c =
    false≢true
    (ap (λ o. option_map_or is_running o false) (sym (nobody_held c.self.inside.residents c.args.pid c.self.inside.keys.entries (no_entry c.args.pid c.self.inside.keys.entries (sym c.in-None.ensures.value))))
    ∙ ap (λ (v : ResidentsView). runs_at v.here (pid_of c.args.pid)) c.self.view_is ∙ c.requires.runs)

pub invariant_of-self : goal.invariant_of-self
invariant_of-self c = (
  kept_written c.self.inside.duty c.self.inside.residents (with_value c.self.inside.residents c.in-Some.key.now c.renew.new.self) c.args.pid c.in-Some.key.now c.renew.new.self c.self.inside.keys.entries c.self.inside.ready.keys c.self.inside.asking.keys
      (λ able. ap (λ (v : ResidentsView). list_any (at_key c.args.pid) v.ready) c.self.view_is ∙ c.requires.ready)
      (λ some.
      lacks_listed c.self.inside.duty c.self.inside.residents c.self.inside.ready.keys c.self.inside.asking.keys c.args.pid c.in-Some.key.now c.in-Some-get_mut.resident.now c.self.inside.keys.entries (sym c.in-Some.ensures.value) (sym c.in-Some-get_mut.ensures.value) (c.self.invariant.0).each
      (renews_lacks c.args.to c.args.by c.in-Some-get_mut.resident.now c.renew.new.self c.renew.result c.renew.ensures.ok c.renew.ensures.err some))
      (sym c.in-Some.ensures.value)
      (Updates-with_value c.self.inside.residents c.in-Some.key.now c.renew.new.self (ap is_some (sym c.in-Some-get_mut.ensures.value))) c.self.invariant.0,
  tt,
)

pub returns-clause-ok : goal.returns-clause-ok
returns-clause-ok c =
    renews_at c.self.inside.duty c.args.by c.args.to c.self.inside.residents (with_value c.self.inside.residents c.in-Some.key.now c.renew.new.self) c.args.pid c.in-Some.key.now c.self.inside.keys.entries c.self.inside.ready.keys c.self.inside.asking.keys c.in-Some-get_mut.resident.now c.renew.new.self
    c.args.self.now.here c.self.invariant.0 (sym c.in-Some.ensures.value) (sym c.in-Some-get_mut.ensures.value)
    (Updates-with_value c.self.inside.residents c.in-Some.key.now c.renew.new.self (ap is_some (sym c.in-Some-get_mut.ensures.value))) (ap (λ (v : ResidentsView). v.here) c.self.view_is) c.renew.result c.renew.ensures.ok
