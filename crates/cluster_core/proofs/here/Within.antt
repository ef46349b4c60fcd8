-- A process here that runs, with its marks and within its limits.
use Rattle.std.proofs.Common.{◌≡◌, ℕ, ◌+◌, ◌-◌, ◌*◌, refl, sym, ◌∙◌, ap, subst, arith, List, [], length, Bool, true, false, cond, ◌&&◌, leb, Some, None}
use Rattle.std.specs.Prelude.{option_and_then, nat_le}
use Rattle.std.proofs.lemmas.Bool.Decides.{nat_tests}
use Rattle.t32_base.specs.declared.process.Pid.{Pid}
use Rattle.t32_base.specs.declared.process.Counts.{Counts}
use Rattle.sys_text.specs.declared.system.System.{System}
use Rattle.sys_text.specs.Valid.{is_system}
use Rattle.proc_state.specs.declared.process.Process.{Process}
use Rattle.proc_state.specs.State.{state_of, has_ended}
use Rattle.plain_kernel.specs.Kernel.{process_at}
use Rattle.bus_msg.specs.declared.entry.Entry.{Entry}
use Rattle.roll_forward.specs.RunsOut.{RunsOut}
use Rattle.cert_sched.specs.Legal.{MayStand}
use Rattle.cert_sched.specs.Legal.{IsLegalBy, Stands}
use Rattle.cert_sched.specs.Rules.{keeps_limits}
use Rattle.cert_sched.specs.Schedule.{done, process_after}
use Rattle.cert_sched.specs.Simulation.{IsUnended}
use Rattle.cert_sched.specs.Steps.{silent_upto}
use Rattle.cert_sched.proofs.MailLaws.{silent_upto-ends}
use Rattle.cert_sched.proofs.OpenLaws.{unended_open}
use Rattle.cert_sched.proofs.StepLaws.{SilentFrom, silent_from}
use Rattle.log_laws.proofs.pages.SizesStay.{process_sized}
use Rattle.log_laws.proofs.records.Standing.{all_stand, itself}
use Rattle.replay_laws.specs.rolling.Behind.{RollsBehind}
use Rattle.sync_point.proofs.Cuts.{cut_keeps}
use Rattle.sync_point.specs.Batch.{synced}
use Rattle.quanta.specs.declared.limits.Limits.{Limits}
use Rattle.quanta.specs.Limited.{is_within}
use Rattle.checkpoint_laws.specs.posts.Running.{RunsMarked}
use Rattle.checkpoint_laws.proofs.posts.SilentSizes.{silent_sizes}
use Rattle.checkpoint_laws.specs.limits.Within.{is_within_by}
use Rattle.checkpoint_laws.proofs.limits.OwnCounts.{own_limits}
use Rattle.residents.specs.Held.{Held, Runs, Rolls, IsHeldWithin}
use Rattle.cluster_core.specs.View.{limits_of}
use Rattle.residents.specs.Quantum.{RollsTo}
use Rattle.cluster_core.specs.Holds.{CarriesMarks, IsHeldAs, MarkedIfThere, unended_process}
use Rattle.replay_laws.proofs.costs.CaughtLimits.{caught_limits}
use Rattle.cluster_core.specs.Follows.{IsOpen}

-- ---- a process that runs

-- a process to which silent steps lead
module _ (system : System) (log : List Entry) (p : Pid) (process : Process) (valid : is_system system ≡ true) (reached : silent_upto system log p (process.small).steps ≡ Some (state_of process)) where
  from : SilentFrom system log p (process.small).steps (state_of process)
  from = silent_from system log p (process.small).steps (state_of process) reached

  was_there : process_after system log p ≡ Some from.was
  was_there = ap (option_and_then (λ k. process_at k p)) from.before ∙ from.there

  -- it has not ended, where it has not in the log
  pub still_runs : IsLegalBy Stands system log → IsUnended system log p → has_ended (process.small).status ≡ false
  still_runs legal unended = silent_upto-ends system log p (process.small).steps from.was (state_of process) was_there reached ∙ unended_open Stands itself system log p valid legal unended from.was was_there

  -- its memory has its pages
  still_sized : length (process.ram).bytes ≡ 256 * (process.small).pages
  still_sized =
      let same = silent_sizes ((process.small).steps - done from.kernel p) from.was (state_of process) from.silent in
      same.bytes ∙ process_sized system log p from.was valid was_there ∙ ap (λ n. 256 * n) (sym same.pages)

  -- it has its marks, where those that run have them
  pub carried : IsLegalBy Stands system log → IsUnended system log p → MarkedIfThere CarriesMarks system log p (unended_process (Runs process)) → CarriesMarks system log p process
  carried legal unended = subst (λ b. MarkedIfThere CarriesMarks system log p (cond b None (Some process))) (still_runs legal unended)

  -- so it runs with them
  pub runs_marked : IsLegalBy Stands system log → IsUnended system log p → CarriesMarks system log p process → RunsMarked system log p process
  runs_marked legal unended carries = record {
    valid = valid;
    legal = legal;
    reached = reached;
    runs = still_runs legal unended;
    sized = still_sized ∙ ap (λ n. 256 * n) carries.pages;
    marked = carries.marked;
  }

-- ---- its limits

turned_tests : (a b : Bool) → (a && b) ≡ (b && a)
turned_tests true true = refl
turned_tests true false = refl
turned_tests false true = refl
turned_tests false false = refl

-- the limits of a system are those by the counts
pub within_same : (system : System) (process : Process) → is_within_by process system.syncreads system.syncsteps ≡ is_within (limits_of system) process
within_same system process = turned_tests (nat_le ((process.small).steps - process.since) system.syncsteps) (nat_le (length process.read) system.syncreads)

-- a process that runs with its marks is within its limits where it is within those of the log
pub own_within : (system : System) (log : List Entry) (p : Pid) (process : Process) → RunsMarked system log p process → keeps_limits system log p (state_of process) ≡ is_within (limits_of system) process
own_within system log p process runs = own_limits system log p process runs ∙ within_same system process

-- one that has read nothing and made no step since is within them
pub start_within : (limits : Limits) (process : Process) → process.read ≡ [] → process.since ≡ (process.small).steps → is_within limits process ≡ true
start_within limits process unread here = (λ j. leb (length (unread j)) limits.reads && leb ((process.small).steps - here j) limits.steps) ∙ none_counted limits.reads limits.steps (process.small).steps
  where
    none_counted : (reads steps at : ℕ) → (leb 0 reads && leb (at - at) steps) ≡ true
    none_counted reads steps at = grind (arith, nat_tests)

-- so is one that has just synchronised
pub synced_within : (system : System) (process : Process) → IsHeldWithin (limits_of system) (Runs (synced process))
synced_within system process = start_within (limits_of system) (synced process) refl (sym (cut_keeps process).steps)

-- ---- steps of roll-forward

module _ (system : System) (log : List Entry) (p : Pid) (valid : is_system system ≡ true) (open_log : IsOpen MayStand system log) (unended : IsUnended system log p) where
  -- one that has just caught up is within its limits
  caught_within : (n : ℕ) (s : Process) (counts : Counts) (births : List Pid) (q : Process) → RollsBehind system log p (state_of s) counts births → RollsTo n (Rolls s counts births) (Runs q) → IsHeldAs system log [] p (Runs q)
      → MarkedIfThere CarriesMarks system log p (unended_process (Runs q)) → is_within (limits_of system) q ≡ true
  caught_within n s counts births q behind rolls held marks =
      let left = rolls.0 in
      let unborn = rolls.1 in
      let on = rolls.2 in
      let count : n + 0 ≡ n = omega arith in
      let all = all_stand system log open_log.0 in
      sym (own_within system log p q (runs_marked system log p q valid held all unended (carried system log p q valid held all unended marks)))
      ∙ caught_limits system log p s q counts left births unborn n valid open_log.0 open_log.1 unended behind (subst (RunsOut (state_of s) counts births) count on.runs_out) on.rolled

  -- so steps that are withheld leave a process within its limits
  pub rolled_within : (n : ℕ) (was between : Held) → IsHeldAs system log [] p was → RollsTo n was between → IsHeldAs system log [] p between → MarkedIfThere CarriesMarks system log p (unended_process between)
      → IsHeldWithin (limits_of system) was → IsHeldWithin (limits_of system) between
  rolled_within n (Runs s) (Runs q) was_held rolls held marks within = subst (λ (x : Process). is_within (limits_of system) x ≡ true) (sym rolls.1) within
  rolled_within n (Rolls s counts births) (Runs q) was_held rolls held marks within = caught_within n s counts births q was_held.1 rolls held marks
  rolled_within n (Rolls s counts births) (Rolls q left unborn) was_held rolls held marks within = tt
  rolled_within n was between was_held rolls held marks within = absurd rolls
