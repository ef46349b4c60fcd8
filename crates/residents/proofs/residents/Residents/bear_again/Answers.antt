use Rattle.std.proofs.Common.{◌∙◌, ap, sym, subst, is_some, Option}
use Rattle.std.specs.Prelude.{Result, Ok, Err, OnErr}
use Rattle.std.proofs.lemmas.Bool.{false≢true}
use Rattle.t32_base.specs.declared.streams.NoMemory.{NoMemory}
use Rattle.proc_state.specs.declared.process.Process.{Process}
use Rattle.slab.specs.Slab.{with_value}
use Rattle.slab.proofs.SlabLemmas.{Updates-with_value}
use Rattle.residents.specs.Residents.{ResidentsView}
use Rattle.std.specs.List.{list_any}
use Rattle.std.proofs.lemmas.Option.{same_Some}
use Rattle.plain_kernel.specs.Maps.{at_key, pid_of}
use Rattle.residents.specs.ForkingAgain.{StandsAtForkAgain}
use Rattle.residents.specs.Held.{held_of}
use Rattle.residents.proofs.Slots.{nobody_held, no_entry, process_there}
use Rattle.residents.proofs.Kept.{kept_written, never_empty, written_back}
use Rattle.residents.proofs.Asking.{lacks_listed}
use Rattle.residents.proofs.RollingSlots.{bears_at, forked_again_lacks}
use Rattle.residents.proofs.residents.Residents.bear_again.Goals as goal

on_err : {A B : Type 0} → (r : Result (Option Process) NoMemory) → (A → B) → OnErr r A → OnErr r B
on_err (Ok made) f h = tt
on_err (Err fault) f h = f h

pub fork_again-requires : goal.fork_again-requires
fork_again-requires c =
    let at = process_there c.self.inside.residents c.args.pid c.in-Some.key.now c.in-Some-get_mut.resident.now c.self.inside.keys.entries (sym c.in-Some.ensures.value) (sym c.in-Some-get_mut.ensures.value) in
    let stood = c.requires.stands in
    subst StandsAtForkAgain (same_Some stood.held c.in-Some-get_mut.resident.now (sym stood.there ∙ ap (λ (v : ResidentsView). held_of v.here (pid_of c.args.pid)) (sym c.self.view_is) ∙ at)) stood.stands

pub unreachable-requires-in-None : goal.unreachable-requires-in-None
unreachable-requires-in-None c =
    let stood = c.requires.stands in
    false≢true
    (ap is_some (sym (nobody_held c.self.inside.residents c.args.pid c.self.inside.keys.entries (no_entry c.args.pid c.self.inside.keys.entries (sym c.in-None.ensures.value))) ∙ ap (λ (v : ResidentsView). held_of v.here (pid_of c.args.pid)) c.self.view_is ∙ stood.there))

pub unreachable-requires : goal.unreachable-requires
unreachable-requires c = never_empty c.self.inside.duty c.self.inside.residents c.args.pid c.in-Some.key.now c.self.inside.keys.entries c.self.inside.ready.keys c.self.inside.asking.keys c.self.invariant.0 (sym c.in-Some.ensures.value) (sym c.in-None-get_mut.ensures.value)

pub invariant_of-self : goal.invariant_of-self
invariant_of-self c = (
  kept_written c.self.inside.duty c.self.inside.residents (with_value c.self.inside.residents c.in-Some.key.now c.fork_again.new.self) c.args.pid c.in-Some.key.now c.fork_again.new.self c.self.inside.keys.entries c.self.inside.ready.keys c.self.inside.asking.keys
      (λ acts. ap (λ (v : ResidentsView). list_any (at_key c.args.pid) v.ready) c.self.view_is ∙ c.requires.ready)
      (λ some.
      lacks_listed c.self.inside.duty c.self.inside.residents c.self.inside.ready.keys c.self.inside.asking.keys c.args.pid c.in-Some.key.now c.in-Some-get_mut.resident.now c.self.inside.keys.entries (sym c.in-Some.ensures.value) (sym c.in-Some-get_mut.ensures.value) (c.self.invariant.0).each
      (forked_again_lacks c.args.made c.in-Some-get_mut.resident.now c.fork_again.new.self c.fork_again.result c.fork_again.ensures.ok c.fork_again.ensures.err some))
      (sym c.in-Some.ensures.value)
      (Updates-with_value c.self.inside.residents c.in-Some.key.now c.fork_again.new.self (ap is_some (sym c.in-Some-get_mut.ensures.value))) c.self.invariant.0,
  tt,
)

pub returns-clause-ok : goal.returns-clause-ok
returns-clause-ok c =
    bears_at c.self.inside.duty c.self.inside.residents (with_value c.self.inside.residents c.in-Some.key.now c.fork_again.new.self) c.args.pid c.in-Some.key.now c.self.inside.keys.entries c.self.inside.ready.keys c.self.inside.asking.keys c.in-Some-get_mut.resident.now c.fork_again.new.self
    c.args.self.now.here c.self.invariant.0 (sym c.in-Some.ensures.value) (sym c.in-Some-get_mut.ensures.value)
    (Updates-with_value c.self.inside.residents c.in-Some.key.now c.fork_again.new.self (ap is_some (sym c.in-Some-get_mut.ensures.value))) (ap (λ (v : ResidentsView). v.here) c.self.view_is) c.args.made c.fork_again.result c.fork_again.ensures.ok

pub returns-clause-err : goal.returns-clause-err
returns-clause-err c =
    on_err c.fork_again.result
    (λ same. written_back c.self.inside.residents (with_value c.self.inside.residents c.in-Some.key.now c.fork_again.new.self) c.in-Some.key.now c.in-Some-get_mut.resident.now c.fork_again.new.self c.self.inside.keys.entries (sym c.in-Some-get_mut.ensures.value)
    (Updates-with_value c.self.inside.residents c.in-Some.key.now c.fork_again.new.self (ap is_some (sym c.in-Some-get_mut.ensures.value))) same ∙ ap (λ (v : ResidentsView). v.here) c.self.view_is)
    c.fork_again.ensures.err
