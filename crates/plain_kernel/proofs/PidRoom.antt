-- At boot each pid fits a number, with those of all children that may still be made.
use Rattle.std.proofs.Common.{◌≡◌, ℕ, ◌+◌, ◌*◌, ◌^◌, ◌<◌, ◌≤◌, refl, sym, ap, ◌∙◌, arith, List, [], ◌∷◌, ◌++◌, length, true, eqb, Option, Some, None, IsSome}
use Rattle.std.specs.Prelude.{fold, option_map}
use Rattle.std.specs.List.{list_all}
use Rattle.std.specs.Map.{lookup}
use Rattle.std.proofs.lemmas.Bool.{false≢true}
use Rattle.std.proofs.lemmas.List.{length-append}
use Rattle.std.proofs.lemmas.List.Sums.{count_by-le-length}
use Rattle.t32_base.specs.declared.process.Pid.{Pid}
use Rattle.t32_base.specs.Small.{SmallState}
use Rattle.sys_text.specs.declared.system.System.{System}
use Rattle.sys_text.specs.declared.system.Root.{Root}
use Rattle.sys_text.specs.Valid.{is_root, is_system}
use Rattle.sys_text.specs.Boot.{roots_of, with_pids}
use Rattle.sys_text.proofs.Bounds.{first_of_two, second_of_two, root_fits, root_tests, system_bounds, tests}
use Rattle.proc_state.specs.declared.process.Process.{Process}
use Rattle.proc_state.specs.State.{ProcState, linked_to, state_of}
use Rattle.plain_kernel.specs.Kernel.{Kernel, boot, boot_roots, empty, root_process, with_root}
use Rattle.plain_kernel.specs.Maps.{at_key, booted_ttys, kernel_of, linked_processes, pid_of, processes_of, total_load, PidsFit}
use Rattle.plain_kernel.proofs.AtBoot.{chans-keep}
use Rattle.plain_kernel.proofs.Entries.{lookup_state}
use Rattle.plain_kernel.proofs.Others.{small_at}
use Rattle.plain_kernel.proofs.Roots.{booted}
use Rattle.plain_kernel.proofs.Spending.{EachSmall, found_small, put_small}

-- a root has one of 16 clusters, and one of the serials 1 to 32
abbrev IsLow : Pid → SmallState → Type 0
IsLow p small = p.0 < 1024

abbrev AreLow : List (Pid × Root) → Type 0
AreLow [] = Unit {0}
AreLow (r ∷ roots) = ((r.0).0 < 1024) × AreLow roots

pids_low : (s : System) → s.clusters ≤ 16 → (earlier roots : List Root) → length earlier + length roots ≤ 32 → list_all (is_root s.clusters (length s.images)) roots ≡ true → AreLow (with_pids earlier roots)
pids_low s few earlier [] room all = tt
pids_low s few earlier (r ∷ roots) room all =
    let b = root_fits s r few (first_of_two _ (list_all (is_root s.clusters (length s.images)) roots) all) in
    let serial = count_by-le-length (λ (q : Root). eqb (q.home).0 (r.home).0) earlier in
    (omega (arith, b.home, few, serial, room), pids_low s few (earlier ++ r ∷ []) roots (omega (arith, room, length-append earlier (r ∷ []))) (second_of_two (is_root s.clusters (length s.images) r) _ all))

roots_low : (system : System) (k : Kernel) (roots : List (Pid × Root)) → AreLow roots → EachSmall IsLow k → EachSmall IsLow (fold (with_root system) k roots)
roots_low system k [] low each = each
roots_low system k (r ∷ roots) low each = roots_low system (with_root system k r) roots low.1 (put_small IsLow k r.0 (root_process system r.0 r.1) each low.0)

boot_low : (system : System) → is_system system ≡ true → EachSmall IsLow (boot system)
unfolding boot
boot_low system valid =
    let b = system_bounds system valid in
    let t = root_tests system.clusters (length system.images) system.roots (tests system valid).roots in
    chans-keep (EachSmall IsLow) (λ k p s peer far there each. put_small IsLow k p (linked_to s peer far) each (each p s.small (found_small k p s there)))
    system (boot_roots system) system.chans (roots_low system empty (roots_of system) (pids_low system b.clusters [] system.roots (omega (arith, b.roots)) t.each) (λ p small there. cc))

pub boot_fits : (system : System) (es : List (ℕ × Process)) → is_system system ≡ true → processes_of es ≡ linked_processes system → total_load es < 2 ^ 28 → PidsFit es
boot_fits system es valid states room q there = by_process (lookup (at_key q) es) refl there
  where
    whole : kernel_of es (booted_ttys system.roots) ≡ boot system
    whole = booted system (processes_of es) (booted_ttys system.roots) states refl

    by_process : (o : Option Process) → lookup (at_key q) es ≡ o → IsSome o → q + 4 * total_load es < 2 ^ 32
    by_process None is some = absurd (false≢true some)
    by_process (Some p) is some =
        let at : small_at (boot system) (pid_of q) ≡ Some p.small =
        ap (λ k. small_at k (pid_of q)) (sym whole) ∙ ap (option_map (λ (s : ProcState). s.small)) (lookup_state q es ∙ ap (option_map state_of) is) in
        omega (arith, boot_low system valid (pid_of q) p.small at, room)
