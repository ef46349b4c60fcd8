-- Each saved letter of a process that has not ended is among those that came to it, and they stand by rising number.
use Rattle.std.proofs.Common.{◌≡◌, ℕ, sym, ◌∙◌, ap, refl, List, [], true, Option, Some, None, is_some, true≢false}
use Rattle.std.specs.Option.{option_map_or}
use Rattle.std.proofs.lemmas.Bool.{and_parts}
use Rattle.t32_base.specs.declared.process.Pid.{Pid}
use Rattle.sys_text.specs.declared.system.System.{System}
use Rattle.sys_text.specs.Valid.{is_system}
use Rattle.proc_state.specs.State.{ProcState}
use Rattle.bus_msg.specs.declared.entry.Entry.{Entry}
use Rattle.cert_sched.specs.Schedule.{process_after}
use Rattle.cert_sched.specs.Deeds.{arrived_count, saved_letters}
use Rattle.cert_sched.specs.Steps.{saved_of}
use Rattle.cert_sched.specs.Legal.{IsLegalBy, Stands}
use Rattle.cert_sched.specs.Simulation.{IsUnended}
use Rattle.cert_sched.proofs.OpenLaws.{unended_open}
use Rattle.cert_sched.proofs.RollLaws.{all_roll}
use Rattle.cert_sched.proofs.ThereLaws.{unended_there}
use Rattle.log_laws.specs.letters.Numbered.{are_below, are_in_order}
use Rattle.log_laws.proofs.letters.LogReads.{itself, all_saved_numbered}
use Rattle.checkpoint_laws.specs.posts.Marked.{arrived_below}
use Rattle.checkpoint_laws.proofs.posts.SavedNumbers.{saved_arrived}

-- where so many letters arrived as came to it
pub record Came (system : System) (log : List Entry) (p : Pid) (next : ℕ) : Type 0 where
  pub rises : are_in_order (saved_of system log p) ≡ true
  pub all : arrived_below next (saved_of system log p) ≡ saved_of system log p

pub came : (system : System) (log : List Entry) (p : Pid) (next : ℕ) → is_system system ≡ true → IsLegalBy Stands system log → IsUnended system log p → next ≡ arrived_count log p → Came system log p next
came system log p next valid legal unended count = by_process (process_after system log p) refl (unended_there Stands itself system log p valid legal unended)
  where
    by_process : (o : Option ProcState) → process_after system log p ≡ o → is_some o ≡ true → Came system log p next
    by_process None there some = absurd (true≢false (sym some))
    by_process (Some now) there some =
        let goes_on = unended_open Stands itself system log p valid legal unended now there in
        let rolls = (all_roll Stands itself system log valid legal).rolls p now there goes_on in
        let is : saved_of system log p ≡ saved_letters log p rolls.start = ap (λ (o : Option ProcState). option_map_or (saved_letters log p) o []) rolls.started in
        let numbered = all_saved_numbered system log p now valid legal there goes_on in
        record {
          rises = (and_parts (are_in_order (saved_of system log p)) (are_below (arrived_count log p) (saved_of system log p)) numbered).0;
          all = ap (arrived_below next) is ∙ saved_arrived system log p rolls.start next rolls.started (count ∙ rolls.arrived) ∙ sym is;
        }
