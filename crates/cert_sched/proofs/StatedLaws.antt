-- In a legal log a process that has a state in its record is in the kernel without failures.
use Rattle.std.proofs.Common.{◌≡◌, refl, sym, ◌∙◌, List, Bool, true, false, ◌||◌, eqb, is_some}
use Rattle.std.specs.List.{list_any}
use Rattle.t32_base.specs.declared.process.Pid.{Pid}
use Rattle.sys_text.specs.declared.system.System.{System}
use Rattle.sys_text.specs.Valid.{is_system}
use Rattle.sys_text.specs.Boot.{roots_of}
use Rattle.bus_msg.specs.declared.entry.Entry.{Entry}
use Rattle.cert_sched.specs.Schedule.{process_after, placement}
use Rattle.cert_sched.specs.Record.{has_state, is_root}
use Rattle.cert_sched.specs.Legal.{IsLegalBy}
use Rattle.cert_sched.proofs.PidLaws.{placed_pids}
use Rattle.cert_sched.proofs.CameLaws.{IsStandingRule}
use Rattle.cert_sched.proofs.FamilyLaws.{Families, families, root_in, was_cut_in}
use Rattle.cert_sched.proofs.ThereLaws.{placed_there}

-- it is a root, or was cut
pub stated_there : (May : System → List Entry → Entry → Type 0) → IsStandingRule May → (system : System) (log : List Entry) (p : Pid) → is_system system ≡ true → IsLegalBy May system log → has_state system log p ≡ true
    → is_some (process_after system log p) ≡ true
stated_there May standing system log p valid legal stated = placed_there May standing system log p valid legal (by_root (is_root system p) refl stated)
  where
    all : Families system log
    all = families May standing system log valid legal

    by_root : (b : Bool) → is_root system p ≡ b → (b || was_cut_in log p) ≡ true → list_any (λ m. eqb m p.0) (placed_pids (placement system log).placed) ≡ true
    by_root true root h = all.roots_stay p.0 (sym (root_in p (roots_of system)) ∙ root)
    by_root false other h = all.cut_in p h
