-- A process that rolls forward in a cluster, in each log that the cluster follows.
use Rattle.std.proofs.Common.{◌≡◌, ℕ, ◌+◌, refl, sym, subst, arith, List, [], true, Option, Some, None, is_some, true≢false}
use Rattle.t32_base.specs.declared.process.Pid.{Pid}
use Rattle.sys_text.specs.declared.system.System.{System}
use Rattle.sys_text.specs.Valid.{is_system}
use Rattle.proc_state.specs.declared.process.Process.{Process}
use Rattle.proc_state.specs.State.{ProcState, state_of}
use Rattle.bus_msg.specs.declared.entry.Entry.{Entry}
use Rattle.roll_forward.specs.Advancing.{Going, going, rolled_on}
use Rattle.roll_forward.specs.RunsOut.{RunsOut, nothing_left}
use Rattle.cert_sched.specs.Legal.{MayStand}
use Rattle.cert_sched.specs.Legal.{IsLegalBy, Stands}
use Rattle.cert_sched.specs.Schedule.{process_after}
use Rattle.cert_sched.specs.Simulation.{IsUnended}
use Rattle.cert_sched.proofs.ThereLaws.{unended_there}
use Rattle.log_laws.proofs.records.Standing.{legal_stands}
use Rattle.replay_laws.specs.rolling.Behind.{RollsBehind}
use Rattle.replay_laws.proofs.rolling.ByRule.{stand_caught_up, standing_behind}
use Rattle.replay_laws.proofs.rolling.Reaching.{led_unended}
use Rattle.replay_laws.proofs.rolling.Stepping.{went_on}
use Rattle.residents.specs.Held.{Held, Runs, Rolls}
use Rattle.residents.specs.Quantum.{RollsTo}
use Rattle.cluster_core.specs.Follows.{IsOpen}
use Rattle.cluster_core.specs.Holds.{IsHeldAs}
use Rattle.cluster_core.proofs.absorbing.Telling.{at_once}

-- the process in the kernel without failures
record InKernel (system : System) (log : List Entry) (p : Pid) : Type 0 where
  pub now : ProcState
  pub there : process_after system log p ≡ Some now

in_kernel : (system : System) (log : List Entry) (p : Pid) → is_some (process_after system log p) ≡ true → InKernel system log p
in_kernel system log p some = by_process (process_after system log p) refl some
  where
    by_process : (o : Option ProcState) → process_after system log p ≡ o → is_some o ≡ true → InKernel system log p
    by_process None is h = absurd (true≢false (sym h))
    by_process (Some now) is h = record { now = now; there = is }

module _ (system : System) (log : List Entry) (p : Pid) (valid : is_system system ≡ true) (open_log : IsOpen MayStand system log) (unended : IsUnended system log p) where
  kernel : InKernel system log p
  kernel = in_kernel system log p (unended_there MayStand (λ system log e may. may.stands) system log p valid open_log.0 unended)

  stands : IsLegalBy Stands system log
  stands = legal_stands MayStand (λ system log e may. may.stands) system log open_log.0

  -- after all steps that were ahead nothing is left
  none_left : (n : ℕ) (g h : Going) → RollsBehind system log p g.state g.counts g.births → RunsOut g.state g.counts g.births (n + 0) → rolled_on n g ≡ Some h → nothing_left h.counts h.births ≡ true
  none_left n g h rolls out rolled =
      let led = led_unended MayStand (λ system log e may. may.stands) system log p kernel.now valid open_log.0 unended kernel.there in
      let went = went_on system log p kernel.now led (n + 0) n g h rolls.rolls out (omega arith) rolled in
      let sum = went.sum in
      let none : went.left ≡ 0 = omega (arith, sum) in
      subst (RunsOut h.state h.counts h.births) none went.runs_out

  -- after steps that are withheld one that rolls forward is held as the log says, whether it still rolls forward or runs
  pub rolled_held : (n : ℕ) (was between : Held) → IsHeldAs system log [] p was → RollsTo n was between → IsHeldAs system log [] p between
  rolled_held n (Runs s) (Runs q) held rolls = subst (λ (x : Process). IsHeldAs system log [] p (Runs x)) (sym rolls.1) held
  rolled_held n (Rolls s counts births) (Rolls q left unborn) held rolls =
      let on = rolls.2 in
      (refl, standing_behind system log p (n + rolls.0) n (going s counts births) (going q left unborn) valid stands unended held.1 on.runs_out (omega arith) on.rolled)
  rolled_held n (Rolls s counts births) (Runs q) held rolls =
      let left = rolls.0 in
      let unborn = rolls.1 in
      let on = rolls.2 in
      let behind = standing_behind system log p (n + 0) n (going s counts births) (going q left unborn) valid stands unended held.1 on.runs_out (omega arith) on.rolled in
      let none = none_left n (going s counts births) (going q left unborn) held.1 on.runs_out on.rolled in
      at_once system log p (state_of q) (stand_caught_up system log p (state_of q) left unborn valid open_log.0 open_log.1 unended behind none)
  rolled_held n was between held rolls = absurd rolls
