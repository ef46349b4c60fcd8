-- A parent that has forked and its child stand under their own pids.
use Rattle.std.proofs.Common.{◌≡◌, ℕ, refl, arith, List, Option, Some, None}
use Rattle.std.specs.Option.{option_map_or}
use Rattle.t32_base.specs.declared.process.Pid.{Pid}
use Rattle.proc_state.specs.declared.process.Process.{Process}
use Rattle.residents.specs.Held.{Held, Runs, held_of}
use Rattle.cluster_core.specs.Parts.{AllOwn, IsHeldOwn, IsOwn}
use Rattle.residents.specs.Bearing.{forked, newborn, with_born, with_fork}
use Rattle.cluster_core.proofs.here.Owning.{own_at, own_changed}
use Rattle.cluster_core.proofs.losses.OwningWaits.{own_more}

-- the parent has its pid and its letters still
pub own_forked : (cursor : ℕ) (p child : Pid) (process : Process) → IsOwn cursor p process → IsOwn cursor p (forked process child)
own_forked cursor p child process own = record { pid_is = own.pid_is; arrived = own.arrived }

-- to the child came none
pub own_newborn : (cursor : ℕ) (child : Pid) (process : Process) → IsOwn cursor child (newborn process child)
own_newborn cursor child process = record { pid_is = refl; arrived = omega arith }

pub own_born : (cursor : ℕ) (p child : Pid) (here : List (Pid × Held)) → AllOwn cursor here → AllOwn cursor (with_born p child here)
own_born cursor p child here own = by_found (held_of here p) refl
  where
    by_held : (h : Held) → IsHeldOwn cursor p h → AllOwn cursor (with_fork p child h here)
    by_held (Runs process) mine = own_more cursor child (Runs (newborn process child)) _ (own_newborn cursor child process) (own_changed cursor p (Runs (forked process child)) here own (own_forked cursor p child process mine))
    by_held _ mine = own

    by_found : (o : Option Held) → held_of here p ≡ o → AllOwn cursor (option_map_or (λ (h : Held). with_fork p child h here) o here)
    by_found None none = own
    by_found (Some h) there = by_held h (own_at cursor here p h own there)
