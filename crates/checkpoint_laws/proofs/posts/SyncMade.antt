-- What a synchronisation, which may take a signal, makes of each process.
use Rattle.std.proofs.Common.{◌≡◌, ℕ, refl, ◌∙◌, ap, List, [], ◌∷◌, ◌++◌, append-nil, true, false, Option, Some, None, is_some}
use Rattle.std.specs.Prelude.{option_and_then}
use Rattle.std.proofs.lemmas.Bool.{and_parts}
use Rattle.t32_base.specs.declared.process.Pid.{Pid}
use Rattle.t32_base.specs.Small.{SmallState}
use Rattle.sys_text.specs.declared.system.System.{System}
use Rattle.proc_state.specs.State.{ProcState, can_take}
use Rattle.sys_calls.specs.Take.{taken}
use Rattle.plain_kernel.specs.Kernel.{Kernel, process_at}
use Rattle.bus_msg.specs.declared.entry.What.TheVariants.{Sync}
use Rattle.bus_msg.specs.declared.entry.Entry.{Entry}
use Rattle.bus_msg.specs.Places.{same_pid}
use Rattle.bus_msg.specs.PlacedAfter.{what}
use Rattle.cert_sched.specs.Schedule.{items_of, run_upto, plain_after, process_after}
use Rattle.cert_sched.specs.Steps.{silent_upto}
use Rattle.cert_sched.specs.Kinds.{after_take, took_is}
use Rattle.cert_sched.proofs.BirthLaws.{kernel_taken, take_is_made}
use Rattle.cert_sched.proofs.MadeLaws.{apart_from}
use Rattle.cert_sched.proofs.StepLaws.{silent_applies, process_after-silent, process_after-beside}

-- The entry can be applied, its process is as it was before it and then took the signal that is told, and every other process is as it was.
pub record SyncMade (system : System) (log : List Entry) (e : Entry) (p : Pid) (took : Option ℕ) (before : ProcState) : Type 0 where
  pub applies : is_some (plain_after system (log ++ e ∷ [])) ≡ true
  pub own : process_after system (log ++ e ∷ []) p ≡ Some (after_take took before)
  pub others : (q : Pid) → same_pid p q ≡ false → process_after system (log ++ e ∷ []) q ≡ process_after system log q

-- a kernel that has a process is there
kernel_there : (o : Option Kernel) (p : Pid) (s : ProcState) → option_and_then (λ k. process_at k p) o ≡ Some s → is_some o ≡ true
kernel_there None p s there = cc
kernel_there (Some k) p s there = refl

pub sync_made : (system : System) (log : List Entry) (e : Entry) (p : Pid) (small : SmallState) (read : List ℕ) (took : Option ℕ) (before : ProcState) → what e ≡ Sync p small read took → silent_upto system log p small.steps ≡ Some before
    → took_is took before ≡ true → SyncMade system log e p took before
sync_made system log e p small read None before is reached can =
    let items : (k : Kernel) → items_of k (what e) ≡ run_upto k p small.steps = λ k. ap (items_of k) is ∙ append-nil (run_upto k p small.steps) in
    record {
      applies = silent_applies system log e p small.steps before reached items;
      own = process_after-silent system log e p small.steps before reached items;
      others = λ q apart. process_after-beside system log e p small.steps before q reached items (apart_from p q apart);
    }
sync_made system log e p small read (Some g) before is reached can =
    let t = take_is_made system log e p small.steps before reached (and_parts (can_take before) _ can).0 (λ k there. kernel_taken system log e p small read g k is there) in
    let own : process_after system (log ++ e ∷ []) p ≡ Some (taken before) = (t.0).after ∙ ap (λ (s : ProcState). Some (taken s)) t.1 in
    record { applies = kernel_there (plain_after system (log ++ e ∷ [])) p (taken before) own; own = own; others = (t.0).others }
