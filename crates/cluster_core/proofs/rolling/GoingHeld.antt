-- A process that goes on as a log says: it rolls forward with what is left to withhold, and runs where nothing is.
use Rattle.std.proofs.Common.{◌≡◌, refl, sym, ◌∙◌, List, [], Bool, true, false, cond, Some, None}
use Rattle.t32_base.specs.declared.process.Pid.{Pid}
use Rattle.t32_base.specs.declared.process.Counts.{Counts}
use Rattle.sys_text.specs.declared.system.System.{System}
use Rattle.sys_text.specs.Valid.{is_system}
use Rattle.proc_state.specs.declared.process.Process.{Process}
use Rattle.proc_state.specs.State.{has_ended, state_of}
use Rattle.bus_msg.specs.declared.entry.Entry.{Entry}
use Rattle.roll_forward.specs.RunsOut.{nothing_left}
use Rattle.cert_sched.specs.Legal.{MayStand}
use Rattle.cert_sched.specs.Legal.{IsLegalBy, Stands}
use Rattle.cert_sched.specs.Simulation.{IsUnended}
use Rattle.log_laws.proofs.records.Standing.{all_stand}
use Rattle.replay_laws.specs.rolling.Behind.{RollsBehind}
use Rattle.replay_laws.proofs.rolling.ByRule.{stand_caught_up}
use Rattle.replay_laws.proofs.costs.CaughtLimits.{caught_keeps}
use Rattle.residents.specs.Held.{Runs, Rolls, IsHeldWithin}
use Rattle.cluster_core.specs.View.{limits_of}
use Rattle.cluster_core.specs.Follows.{IsOpen}
use Rattle.residents.specs.ForkingAgain.{going_held}
use Rattle.cluster_core.specs.Holds.{CarriesMarks, IsHeldAs, MarkedIfThere, unended_process}
use Rattle.cluster_core.proofs.absorbing.Telling.{at_once}
use Rattle.cluster_core.proofs.here.Within.{own_within, runs_marked}

module _ (system : System) (log : List Entry) (p : Pid) (process : Process) (counts : Counts) (births : List Pid) (valid : is_system system ≡ true) (go : IsOpen MayStand system log) (unended : IsUnended system log p)
    (behind : RollsBehind system log p (state_of process) counts births) where
  -- with nothing left it has caught up
  runs_held : nothing_left counts births ≡ true → IsHeldAs system log [] p (Runs process)
  runs_held none = at_once system log p (state_of process) (stand_caught_up system log p (state_of process) counts births valid go.0 go.1 unended behind none)

  -- it is held as the log says
  pub going_is_held : IsHeldAs system log [] p (going_held process counts births)
  going_is_held = by_left (nothing_left counts births) refl
    where
      by_left : (b : Bool) → nothing_left counts births ≡ b → IsHeldAs system log [] p (cond b (Runs process) (Rolls process counts births))
      by_left true none = runs_held none
      by_left false some = (refl, behind)

  -- with its marks it is within its limits
  pub going_within : CarriesMarks system log p process → IsHeldWithin (limits_of system) (going_held process counts births)
  going_within carries = by_left (nothing_left counts births) refl
    where
      by_left : (b : Bool) → nothing_left counts births ≡ b → IsHeldWithin (limits_of system) (cond b (Runs process) (Rolls process counts births))
      by_left true none =
          let all : IsLegalBy Stands system log = all_stand system log go.0 in
          sym (own_within system log p process (runs_marked system log p process valid (runs_held none) all unended carries))
          ∙ caught_keeps system log p (state_of process) counts births valid go.0 go.1 unended behind none
      by_left false some = tt

-- who carries its marks carries them as it goes on
pub going_marked : (system : System) (log : List Entry) (p : Pid) (process : Process) (counts : Counts) (births : List Pid) → CarriesMarks system log p process → MarkedIfThere CarriesMarks system log p (unended_process (going_held process counts births))
going_marked system log p process counts births carries = by_left (nothing_left counts births)
  where
    by_status : (b : Bool) → MarkedIfThere CarriesMarks system log p (cond b None (Some process))
    by_status true = tt
    by_status false = carries

    by_left : (b : Bool) → MarkedIfThere CarriesMarks system log p (unended_process (cond b (Runs process) (Rolls process counts births)))
    by_left true = by_status (has_ended (process.small).status)
    by_left false = by_status (has_ended (process.small).status)
