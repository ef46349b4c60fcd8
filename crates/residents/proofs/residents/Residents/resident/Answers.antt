use Rattle.std.proofs.Common.{◌≡◌, ◌∙◌, ap, sym, subst, true}
use Rattle.std.specs.Option.{option_copied}
use Rattle.plain_kernel.specs.Maps.{pid_of}
use Rattle.residents.specs.Residents.{ResidentsView, are_rising, pids_in}
use Rattle.residents.specs.Held.{held_of}
use Rattle.residents.proofs.Slots.{nobody_held, no_entry, process_there}
use Rattle.residents.proofs.Kept.{never_empty, rising_here}
use Rattle.residents.proofs.residents.Residents.resident.Goals as goal

pub unreachable-requires : goal.unreachable-requires
unreachable-requires c = never_empty c.self.inside.duty c.self.inside.residents c.args.pid c.in-Some.key.now c.self.inside.keys.entries c.self.inside.ready.keys c.self.inside.asking.keys c.self.invariant.0 (sym c.in-Some.ensures.value) (sym c.get-in-Some.ensures ∙ ap option_copied c.in-None-get.is)

pub returns-in-Some-get-clause-there : goal.returns-in-Some-get-clause-there
returns-in-Some-get-clause-there c =
    sym (process_there c.self.inside.residents c.args.pid c.in-Some.key.now c.in-Some-get.resident.now c.self.inside.keys.entries (sym c.in-Some.ensures.value) (sym c.get-in-Some.ensures ∙ ap option_copied c.in-Some-get.is))
    ∙ ap (λ (v : ResidentsView). held_of v.here (pid_of c.args.pid)) c.self.view_is

pub returns-in-None-clause-there : goal.returns-in-None-clause-there
returns-in-None-clause-there c =
    sym (nobody_held c.self.inside.residents c.args.pid c.self.inside.keys.entries (no_entry c.args.pid c.self.inside.keys.entries (sym c.in-None.ensures.value)))
    ∙ ap (λ (v : ResidentsView). held_of v.here (pid_of c.args.pid)) c.self.view_is

pub returns-in-Some-get-clause-ordered : goal.returns-in-Some-get-clause-ordered
returns-in-Some-get-clause-ordered c = subst (λ (v : ResidentsView). are_rising (pids_in v.here) ≡ true) c.self.view_is (rising_here c.self.inside.duty c.self.inside.residents c.self.inside.keys.entries c.self.inside.ready.keys c.self.inside.asking.keys c.self.invariant.0)

pub returns-in-None-clause-ordered : goal.returns-in-None-clause-ordered
returns-in-None-clause-ordered c = subst (λ (v : ResidentsView). are_rising (pids_in v.here) ≡ true) c.self.view_is (rising_here c.self.inside.duty c.self.inside.residents c.self.inside.keys.entries c.self.inside.ready.keys c.self.inside.asking.keys c.self.invariant.0)
