-- The processes that are kept of the log with no entry are the roots.
use Rattle.std.proofs.Common.{◌≡◌, ℕ, refl, sym, ◌∙◌, ap, arith, List, [], ◌∷◌, map, Bool, true, false, cond, not, ◌&&◌, ◌||◌, eqb, Option, Some, None, is_some, true≢false}
use Rattle.std.specs.Prelude.{find, option_map}
use Rattle.std.specs.FinMap as finmap
use Rattle.std.specs.List.{list_any}
use Rattle.std.specs.Map.{lookup}
use Rattle.std.specs.Ordering.{nat_cmp, is_eq}
use Rattle.std.proofs.lemmas.Bool.Decides.{nat_tests}
use Rattle.t32_base.specs.declared.process.Pid.{Pid}
use Rattle.sys_text.specs.declared.system.System.{System}
use Rattle.sys_text.specs.declared.system.Root.{Root}
use Rattle.sys_text.specs.Boot.{roots_of}
use Rattle.sys_text.specs.Valid.{is_system}
use Rattle.proc_state.specs.declared.process.Process.{Process}
use Rattle.proc_state.specs.State.{ProcState, state_of}
use Rattle.plain_kernel.specs.Kernel.{Kernel, boot, pid_cmp, process_at}
use Rattle.plain_kernel.specs.Maps.{at_key, booted_ttys, linked_processes, processes_of}
use Rattle.plain_kernel.proofs.Entries.{lookup_state}
use Rattle.plain_kernel.proofs.Roots.{booted as booted_is}
use Rattle.bus_msg.specs.declared.placed.Placed.{Placed}
use Rattle.bus_msg.specs.Places.{same_pid, unended_at}
use Rattle.cert_sched.specs.Schedule.{placed_root, placement, plain_after, process_after}
use Rattle.cert_sched.specs.Legal.{IsLegalBy, Stands}
use Rattle.cert_sched.specs.Simulation.{IsUnended}
use Rattle.cert_sched.proofs.AmongLaws.{all_alike}
use Rattle.cert_sched.proofs.BootPids.{state_pids}
use Rattle.cert_sched.proofs.PidLaws.{placed_pids}
use Rattle.cert_sched.proofs.ThereLaws.{unended_there}
use Rattle.log_laws.proofs.records.Standing.{itself}
use Rattle.log_cuts.specs.Ahead.{IsAhead}
use Rattle.audited_process.specs.declared.audited.Audited.{Audited}
use Rattle.audited_process.specs.Audited.{BeginsAsRoot}
use Rattle.audited_log.specs.Processes.{AreKept, IsKept, kept_at}

-- what is kept of a root
abbrev pub IsStarted : Option Process → Option Audited → Type 0
IsStarted None None = Unit {0}
IsStarted None (Some a) = ⊥
IsStarted (Some s) None = ⊥
IsStarted (Some s) (Some a) = BeginsAsRoot (state_of s) a × IsAhead (state_of a.process) a.ahead

-- ---- the roots are placed, and none has ended

roots_placed : (p : Pid) (roots : List (Pid × Root)) → list_any (λ m. eqb m p.0) (placed_pids (map placed_root roots)) ≡ is_some (find (λ (q : Placed). same_pid q.pid p && not q.ended)
    (map placed_root roots))
roots_placed p [] = refl
roots_placed p (r ∷ roots) = by_test (same_pid r.0 p) (roots_placed p roots)
  where
    rest : List Placed
    rest = map placed_root roots

    by_test : (b : Bool) → list_any (λ m. eqb m p.0) (placed_pids rest) ≡ is_some (find (λ (q : Placed). same_pid q.pid p && not q.ended) rest)
        → (b || list_any (λ m. eqb m p.0) (placed_pids rest)) ≡ is_some (cond (b && true) (Some (placed_root r)) (find (λ (q : Placed). same_pid q.pid p && not q.ended) rest))
    by_test true more = refl
    by_test false more = more

-- a process that is found is among the pids
untied : (n m : ℕ) → is_eq (nat_cmp n m) ≡ true → eqb m n ≡ true
untied n m same = grind (arith, nat_tests)

found_among : (p : Pid) (es : List (Pid × ProcState)) → is_some (finmap.find pid_cmp p es) ≡ true → list_any (λ m. eqb m p.0) (state_pids es) ≡ true
found_among p [] found = absurd (true≢false (sym found))
found_among p (e ∷ es) found = by_test (is_eq (pid_cmp p e.0)) refl found (found_among p es)
  where
    either : (b c : Bool) → c ≡ true → (b || c) ≡ true
    either true c is = refl
    either false c is = is

    by_test : (b : Bool) → is_eq (pid_cmp p e.0) ≡ b → is_some (cond b (Some e.1) (finmap.find pid_cmp p es)) ≡ true → (is_some (finmap.find pid_cmp p es) ≡ true
        → list_any (λ m. eqb m p.0) (state_pids es) ≡ true)
        → (eqb (e.0).0 p.0 || list_any (λ m. eqb m p.0) (state_pids es)) ≡ true
    by_test true is h more = ap (λ b. b || list_any (λ m. eqb m p.0) (state_pids es)) (untied p.0 (e.0).0 is)
    by_test false is h more = either (eqb (e.0).0 p.0) (list_any (λ m. eqb m p.0) (state_pids es)) (more h)

nothing_legal : (system : System) → IsLegalBy Stands system []
unfolding IsLegalBy
nothing_legal system = tt

booted : (system : System) → plain_after system [] ≡ Some (boot system)
unfolding plain_after
booted system = refl

module _ (system : System) (valid : is_system system ≡ true) (p : Pid) where
  root_unended : is_some (process_at (boot system) p) ≡ true → IsUnended system [] p
  unfolding placement
  root_unended there =
      sym (roots_placed p (roots_of system)) ∙ sym ((all_alike Stands itself system [] valid (nothing_legal system) (boot system) (booted system)).among p)
      ∙ found_among p (boot system).processes there

  no_root : process_at (boot system) p ≡ None → is_some (unended_at (placement system []) p) ≡ false
  unfolding plain_after
  no_root none = by_test (is_some (unended_at (placement system []) p)) refl
    where
      gone : process_after system [] p ≡ None
      gone = none

      by_test : (b : Bool) → is_some (unended_at (placement system []) p) ≡ b → b ≡ false
      by_test true is = absurd (true≢false (sym (unended_there Stands itself system [] p valid (nothing_legal system) is) ∙ ap is_some gone))
      by_test false is = refl

-- what is kept of each root is kept of the log with no entry
pub started_are : (system : System) (roots : List (ℕ × Process)) (kept : List (ℕ × Audited)) → is_system system ≡ true → processes_of roots ≡ linked_processes system
    → ((n : ℕ) → IsStarted (lookup (at_key n) roots) (lookup (at_key n) kept)) → AreKept system [] kept
started_are system roots kept valid states each p = by_root (lookup (at_key p.0) roots) (kept_at kept p) at (each p.0)
  where
    linked : (boot system).processes ≡ linked_processes system
    linked = ap (λ (k : Kernel). k.processes) (sym (booted_is system (linked_processes system) (booted_ttys system.roots) refl refl))

    at : process_at (boot system) p ≡ option_map state_of (lookup (at_key p.0) roots)
    at = ap (finmap.find pid_cmp p) (linked ∙ sym states) ∙ lookup_state p.0 roots

    by_root : (o : Option Process) (k : Option Audited) → process_at (boot system) p ≡ option_map state_of o → IsStarted o k → IsKept system [] p k
    by_root None None at is = no_root system valid p at
    by_root None (Some a) at is = absurd is
    by_root (Some s) None at is = absurd is
    by_root (Some s) (Some a) at is = record { unended = root_unended system valid p (ap is_some at); audited = is.0 system p valid at; ahead = is.1 }
