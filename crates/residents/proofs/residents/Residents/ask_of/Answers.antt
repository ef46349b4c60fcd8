use Rattle.std.proofs.Common.{◌∙◌, ap, sym, is_some, is_none}
use Rattle.slab.specs.Slab.{with_value}
use Rattle.slab.proofs.SlabLemmas.{Updates-with_value}
use Rattle.plain_kernel.specs.Maps.{pid_of}
use Rattle.residents.specs.Residents.{ResidentsView, lacks_none_at}
use Rattle.residents.specs.Held.{page_lacked}
use Rattle.residents.proofs.Slots.{nobody_fails, no_entry}
use Rattle.residents.proofs.Kept.{never_empty, kept_written}
use Rattle.residents.proofs.Asking.{able_listed, after_ask_acts, after_ask_lacks, asked_of, lacks_listed}
use Rattle.residents.proofs.residents.Residents.ask_of.Goals as goal

pub unreachable-requires : goal.unreachable-requires
unreachable-requires c = never_empty c.self.inside.duty c.self.inside.residents c.args.pid c.in-Some.key.now c.self.inside.keys.entries c.self.inside.ready.keys c.self.inside.asking.keys c.self.invariant.0 (sym c.in-Some.ensures.value) (sym c.in-None-get_mut.ensures.value)

pub invariant_of-self : goal.invariant_of-self
invariant_of-self c = (
  kept_written c.self.inside.duty c.self.inside.residents (with_value c.self.inside.residents c.in-Some.key.now c.ask.new.self) c.args.pid c.in-Some.key.now c.ask.new.self c.self.inside.keys.entries c.self.inside.ready.keys c.self.inside.asking.keys
      (λ acts.
      able_listed c.self.inside.duty c.self.inside.residents c.self.inside.ready.keys c.self.inside.asking.keys c.args.pid c.in-Some.key.now c.in-Some-get_mut.resident.now c.self.inside.keys.entries (sym c.in-Some.ensures.value) (sym c.in-Some-get_mut.ensures.value) (c.self.invariant.0).each
      (after_ask_acts c.self.inside.duty (pid_of c.args.pid) c.in-Some-get_mut.resident.now c.ask.new.self c.ask.result c.ask.ensures.asked acts))
      (λ some.
      lacks_listed c.self.inside.duty c.self.inside.residents c.self.inside.ready.keys c.self.inside.asking.keys c.args.pid c.in-Some.key.now c.in-Some-get_mut.resident.now c.self.inside.keys.entries (sym c.in-Some.ensures.value) (sym c.in-Some-get_mut.ensures.value) (c.self.invariant.0).each
      (after_ask_lacks c.in-Some-get_mut.resident.now c.ask.new.self c.ask.result c.ask.ensures.asked some))
      (sym c.in-Some.ensures.value)
      (Updates-with_value c.self.inside.residents c.in-Some.key.now c.ask.new.self (ap is_some (sym c.in-Some-get_mut.ensures.value))) c.self.invariant.0,
  tt,
)

pub returns-in-Some-get_mut-clause-asks : goal.returns-in-Some-get_mut-clause-asks
returns-in-Some-get_mut-clause-asks c =
    asked_of c.self.inside.duty c.self.inside.residents (with_value c.self.inside.residents c.in-Some.key.now c.ask.new.self) c.args.pid c.in-Some.key.now c.self.inside.keys.entries c.self.inside.ready.keys c.self.inside.asking.keys
    c.in-Some-get_mut.resident.now c.ask.new.self c.args.self.now.here c.self.invariant.0 (sym c.in-Some.ensures.value) (sym c.in-Some-get_mut.ensures.value)
    (Updates-with_value c.self.inside.residents c.in-Some.key.now c.ask.new.self (ap is_some (sym c.in-Some-get_mut.ensures.value))) (ap (λ (v : ResidentsView). v.here) c.self.view_is) c.ask.result c.ask.ensures.page c.ask.ensures.asked

pub returns-in-None-clause-asks : goal.returns-in-None-clause-asks
returns-in-None-clause-asks c = (
  ap (λ (v : ResidentsView). lacks_none_at (pid_of c.args.pid) v.here) (sym c.self.view_is) ∙ nobody_fails (λ h. is_none (page_lacked h)) c.self.inside.residents c.args.pid c.self.inside.keys.entries (no_entry c.args.pid c.self.inside.keys.entries (sym c.in-None.ensures.value)),
  ap (λ (v : ResidentsView). v.here) c.self.view_is,
)
