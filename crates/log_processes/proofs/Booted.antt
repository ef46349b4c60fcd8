-- What is kept of a root at boot.
use Rattle.std.proofs.Common.{◌≡◌, refl, sym, ◌∙◌, ap, [], append-nil, length, true, false, Option, Some}
use Rattle.t32_base.specs.declared.process.Pid.{Pid}
use Rattle.sys_text.specs.declared.system.System.{System}
use Rattle.proc_state.specs.State.{ProcState}
use Rattle.plain_kernel.specs.Kernel.{boot, process_at}
use Rattle.plain_kernel.proofs.AtBoot.{boot-each}
use Rattle.cert_sched.specs.Schedule.{plain_after}
use Rattle.cert_sched.specs.Told.{told}
use Rattle.cert_sched.specs.Deeds.{saved_letters}
use Rattle.cert_sched.specs.Rules.{has_its_pages}
use Rattle.cert_sched.specs.Steps.{saved_of, start_steps}
use Rattle.std.specs.Option.{option_map_or}
use Rattle.log_processes.specs.Starting.{IsKeptAtBoot}
use Rattle.log_processes.specs.Sending.{KeepsProcess}

starts_at : (system : System) (p : Pid) (s : ProcState) → process_at (boot system) p ≡ Some s → start_steps system [] p ≡ 0
unfolding plain_after
starts_at system p s there = ap (λ (o : Option ProcState). option_map_or (λ (s : ProcState). (s.small).steps) o 0) there ∙ boot-each (λ p s. (s.small).steps ≡ 0) system (λ p r. refl) (λ p s peer far none. none) p s there

none_saved : (system : System) (p : Pid) (s : ProcState) → process_at (boot system) p ≡ Some s → length (saved_of system [] p) ≡ 0
unfolding plain_after
none_saved system p s there =
    ap (λ (o : Option ProcState). length (option_map_or (saved_letters [] p) o [])) there ∙ ap length (append-nil s.mail)
    ∙ ap length (boot-each (λ p s. s.mail ≡ []) system (λ p r. refl) (λ p s peer far none. none) p s there)

boots : (system : System) (p : Pid) (s : ProcState) → process_at (boot system) p ≡ Some s → KeepsProcess p s 0 0 system []
unfolding plain_after
boots system p s there = record { there = there; begins = sym (starts_at system p s there); letters = sym (none_saved system p s there) }

waits_not : (system : System) (p : Pid) → has_its_pages system [] p ≡ true
unfolding told
waits_not system p = refl

pub kept_at_boot : IsKeptAtBoot (record { start = 0; saved = 0; whole = true; parent = false })
kept_at_boot system front limits p s before limited there =
    record { before = before; limited = limited; process = boots system p s there; whole = sym (waits_not system p); parent = refl }
