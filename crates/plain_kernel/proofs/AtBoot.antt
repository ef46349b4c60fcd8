-- What holds of the kernel at boot: what its roots and its channels give it.
use Rattle.std.proofs.Common.{◌≡◌, ℕ, refl, sym, ap, subst, ◌∙◌, cond, List, [], ◌∷◌, Option, Some, None}
use Rattle.std.specs.Prelude.{fold, option_map}
use Rattle.std.specs.Option.{option_map_or}
use Rattle.std.specs.declared.cmp.Ordering.{Ordering}
use Rattle.std.specs.declared.cmp.Ordering.TheVariants.{Less, Equal, Greater}
use Rattle.std.specs.Ordering.{is_eq}
use Rattle.std.specs.FinMap.Entries.{is_sorted-put}
use Rattle.std.proofs.lemmas.Option.{same_Some}
use Rattle.t32_base.specs.declared.process.Pid.{Pid}
use Rattle.t32_base.specs.Small.{SmallState}
use Rattle.sys_text.specs.declared.system.System.{System}
use Rattle.sys_text.specs.declared.system.Root.{Root}
use Rattle.sys_text.specs.Boot.{roots_of}
use Rattle.proc_state.specs.State.{ProcState, linked_to}
use Rattle.plain_kernel.specs.Kernel.{Kernel, pid_cmp, process_at, with_process, with_root, root_process, empty, boot, boot_roots, ends_linked, free_end_at, link_put, root_pid, with_chan, with_end_linked}
use Rattle.plain_kernel.proofs.Laws.{pid_cmp_total, process_at-with_process}
use Rattle.plain_kernel.proofs.Others.{steps_at}
use Rattle.plain_kernel.proofs.Pids.{HasOwnPids, HasPids, IsRising, pids_in, put_process, tied_pids}

-- ---- what the start keeps

-- what each root keeps, the roots keep
roots_keep : (P : Kernel → Type 0) (system : System) → ((k : Kernel) (r : Pid × Root) → P k → P (with_root system k r)) → (k : Kernel) (roots : List (Pid × Root)) → P k → P (fold (with_root system) k roots)
roots_keep P system one k [] has = has
roots_keep P system one k (r ∷ roots) has = roots_keep P system one (with_root system k r) roots (one k r has)

-- what each end that is linked keeps, the channels keep
pub chans-keep : (P : Kernel → Type 0) → ((k : Kernel) (p : Pid) (s : ProcState) (peer : Pid) (far : ℕ) → process_at k p ≡ Some s → P k → P (with_process k p (linked_to s peer far)))
    → (system : System) (k : Kernel) (chans : List (ℕ × ℕ)) → P k → P (record k { processes = fold (with_chan system) k.processes chans })
chans-keep P one system k [] has = has
chans-keep P one system k (chan ∷ chans) has =
    chans-keep P one system (record k { processes = with_chan system k.processes chan }) chans
    (by_ends (root_pid system chan.0) (root_pid system chan.1) (free_end_at k.processes (root_pid system chan.0)) (free_end_at k.processes (root_pid system chan.1)))
  where
    by_process : (j : Kernel) (p peer : Pid) (far : ℕ) (o : Option ProcState) → process_at j p ≡ o → P j → P (record j { processes = link_put p peer far o j.processes })
    by_process j p peer far None there has = has
    by_process j p peer far (Some s) there has = one j p s peer far there has

    linked : (j : Kernel) (p peer : Pid) (far : ℕ) → P j → P (record j { processes = with_end_linked j.processes p peer far })
    linked j p peer far has = by_process j p peer far (process_at j p) refl has

    by_ends : (p q : Pid) (near far : Option ℕ) → P (record k { processes = ends_linked k.processes p q near far })
    by_ends p q None far = has
    by_ends p q (Some near) None = has
    by_ends p q (Some near) (Some far) = linked (record k { processes = with_end_linked k.processes p q far }) q p near (linked k p q far has)

-- what is kept by a root, and by an end that is linked, holds at boot
pub boot-keeps : (P : Kernel → Type 0) (system : System) → P empty → ((k : Kernel) (r : Pid × Root) → P k → P (with_root system k r))
    → ((k : Kernel) (p : Pid) (s : ProcState) (peer : Pid) (far : ℕ) → process_at k p ≡ Some s → P k → P (with_process k p (linked_to s peer far))) → P (boot system)
unfolding boot
boot-keeps P system nothing root link = chans-keep P link system (boot_roots system) system.chans (roots_keep P system root empty (roots_of system) nothing)

-- ---- of each process

-- each process of a kernel has this under its pid
abbrev pub Each : (Pid → ProcState → Type 0) → Kernel → Type 0
Each Q k = (p : Pid) (s : ProcState) → process_at k p ≡ Some s → Q p s

put_each : (Q : Pid → ProcState → Type 0) (k : Kernel) (p : Pid) (s : ProcState) → Q p s → Each Q k → Each Q (with_process k p s)
put_each Q k p s has each q t there = by_order (pid_cmp q p) refl (sym (process_at-with_process k p s q) ∙ there)
  where
    by_order : (o : Ordering) → pid_cmp q p ≡ o → cond (is_eq o) (Some s) (process_at k q) ≡ Some t → Q q t
    by_order Less tied e = each q t e
    by_order Equal tied e = subst (Q q) (same_Some s t e) (subst (λ x. Q x s) (sym (tied_pids q p tied)) has)
    by_order Greater tied e = each q t e

-- what each root has, and has still with an end linked, each process has at boot
pub boot-each : (Q : Pid → ProcState → Type 0) (system : System) → ((p : Pid) (r : Root) → Q p (root_process system p r))
    → ((p : Pid) (s : ProcState) (peer : Pid) (far : ℕ) → Q p s → Q p (linked_to s peer far)) → Each Q (boot system)
boot-each Q system root link =
    boot-keeps (Each Q) system (λ p s there. cc) (λ k r each. put_each Q k r.0 (root_process system r.0 r.1) (root r.0 r.1) each)
    (λ k p s peer far there each. put_each Q k p (linked_to s peer far) (link p s peer far (each p s there)) each)

-- no process has made a step
pub boot-steps : (system : System) (p : Pid) → steps_at (boot system) p ≡ 0
boot-steps system p = by_process (process_at (boot system) p) refl
  where
    by_process : (o : Option ProcState) → process_at (boot system) p ≡ o → option_map_or (λ (s : ProcState). (s.small).steps) o 0 ≡ 0
    by_process None there = refl
    by_process (Some s) there = boot-each (λ p s. (s.small).steps ≡ 0) system (λ p r. refl) (λ p s peer far none. none) p s there

-- each has its pid
pub boot-own : (system : System) → HasOwnPids (boot system)
boot-own system p small there = by_process (process_at (boot system) p) refl there
  where
    by_process : (o : Option ProcState) → process_at (boot system) p ≡ o → option_map (λ (s : ProcState). s.small) o ≡ Some small → small.pid ≡ p
    by_process None at e = cc
    by_process (Some s) at e =
        ap (λ (x : SmallState). x.pid) (sym (same_Some s.small small e)) ∙ boot-each (λ p s. (s.small).pid ≡ p) system (λ p r. refl) (λ p s peer far same. same) p s at

-- ---- of the pids

with_root_rising : (system : System) (k : Kernel) (r : Pid × Root) → IsRising k → IsRising (with_root system k r)
with_root_rising system k r rising = is_sorted-put pid_cmp pid_cmp_total r.0 (root_process system r.0 r.1) k.processes rising

pub roots-rising : (system : System) → IsRising (boot_roots system)
roots-rising system = roots_keep IsRising system (with_root_rising system) empty (roots_of system) tt

pub boot-rising : (system : System) → IsRising (boot system)
boot-rising system =
    boot-keeps IsRising system tt (with_root_rising system) (λ k p s peer far there rising. is_sorted-put pid_cmp pid_cmp_total p (linked_to s peer far) k.processes rising)

pub boot-pids : (system : System) → HasPids (pids_in (boot system)) (boot system)
boot-pids system = record { rising = boot-rising system; are = refl }

-- the channels leave the pids of the roots
pub boot-root_pids : (system : System) → pids_in (boot system) ≡ pids_in (boot_roots system)
unfolding boot
boot-root_pids system =
    (chans-keep (HasPids (pids_in (boot_roots system))) (λ k p s peer far there has. put_process (pids_in (boot_roots system)) k p s (linked_to s peer far) has there) system (boot_roots system) system.chans
    (record { rising = roots-rising system; are = refl })).are
