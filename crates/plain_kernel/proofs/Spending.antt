-- The steps that a process has made and those that it has left, at most, are together never more than it had left at boot.
use Rattle.std.proofs.Common.{◌≡◌, ℕ, ◌+◌, ◌≤◌, refl, sym, ◌∙◌, ap, subst, arith, List, [], ◌∷◌, ◌++◌, length, Bool, true, false, eqb, eqb-true, eq-eqb, Option, Some, None, true≢false}
use Rattle.std.specs.Prelude.{fold, option_map}
use Rattle.std.specs.List.{list_all}
use Rattle.std.specs.Option.{option_map_or}
use Rattle.std.proofs.lemmas.List.Sums.{count_by-le-length}
use Rattle.std.proofs.lemmas.Option.{same_Some}
use Rattle.t32_base.specs.declared.process.Pid.{Pid}
use Rattle.t32_base.specs.declared.process.Status.{Status}
use Rattle.t32_base.specs.declared.process.Status.TheVariants.{Live, Closing, Ended}
use Rattle.t32_base.specs.Small.{SmallState, is_unshut, stages}
use Rattle.sys_text.specs.declared.system.System.{System}
use Rattle.sys_text.specs.declared.system.Root.{Root}
use Rattle.sys_text.specs.Valid.{is_root, is_system}
use Rattle.sys_text.specs.Boot.{roots_of, with_pids}
use Rattle.sys_text.proofs.Bounds.{first_of_two, second_of_two, root_fits, root_tests, system_bounds, tests}
use Rattle.proc_state.specs.State.{ProcState, linked_to}
use Rattle.proc_state.proofs.Linking.{length-linked}
use Rattle.sys_calls.specs.Small.{weight}
use Rattle.plain_kernel.specs.Kernel.{Kernel, boot, boot_roots, empty, process_at, root_process, with_process, with_root}
use Rattle.plain_kernel.proofs.Laws.{process_at-same}
use Rattle.plain_kernel.proofs.AtBoot.{boot-steps, chans-keep}
use Rattle.plain_kernel.proofs.Others.{small_at, small_at-other}

-- each process of a kernel, but for its memory and its mailbox, has this under its pid
abbrev pub EachSmall : (Pid → SmallState → Type 0) → Kernel → Type 0
EachSmall Q k = (p : Pid) (small : SmallState) → small_at k p ≡ Some small → Q p small

pub put_small : (Q : Pid → SmallState → Type 0) (k : Kernel) (p : Pid) (t : ProcState) → EachSmall Q k → Q p t.small → EachSmall Q (with_process k p t)
put_small Q k p t each has q x there = by_pid (eqb q.0 p.0) refl
  where
    by_pid : (b : Bool) → eqb q.0 p.0 ≡ b → Q q x
    by_pid true is =
        let number : q.0 ≡ p.0 = eqb-true q.0 p.0 is in
        let same : p ≡ q = λ i. record { 0 = sym number i } in
        let at : t.small ≡ x = same_Some t.small x (sym (ap (option_map (λ (s : ProcState). s.small)) (process_at-same k p t)) ∙ ap (small_at (with_process k p t)) same ∙ there) in
        subst (λ (r : Pid). Q r x) same (subst (Q p) at has)
    by_pid false is = each q x (sym (small_at-other k p t q (λ e. true≢false (sym (eq-eqb q.0 p.0 e) ∙ is))) ∙ there)

pub found_small : (k : Kernel) (p : Pid) (s : ProcState) → process_at k p ≡ Some s → small_at k p ≡ Some s.small
found_small k p s there = ap (option_map (λ (s : ProcState). s.small)) there

-- ---- a step

-- the steps made and those left, at most, are within the bound of the process
abbrev pub IsWithin : (Pid → ℕ) → Pid → SmallState → Type 0
IsWithin bound p small = small.steps + weight small ≤ bound p

-- ---- the start

-- how many steps a process has left at boot, at most
abbrev pub boot_weight : System → Pid → ℕ
boot_weight system p = option_map_or weight (small_at (boot system) p) 0

-- a process has made no step at boot, so each is within what it has left there
pub boot-within : (system : System) → EachSmall (IsWithin (boot_weight system)) (boot system)
boot-within system p small there =
    let none : small.steps ≡ 0 = by_process (process_at (boot system) p) there (boot-steps system p) in
    let left : boot_weight system p ≡ weight small = ap (λ o. option_map_or weight o 0) there in
    omega (arith, none, left)
  where
    by_process : (o : Option ProcState) → option_map (λ (s : ProcState). s.small) o ≡ Some small → option_map_or (λ (s : ProcState). (s.small).steps) o 0 ≡ 0 → small.steps ≡ 0
    by_process None is none = cc
    by_process (Some s) is none = ap (λ (x : SmallState). x.steps) (sym (same_Some s.small small is)) ∙ none

-- at most 100000 instructions are left, and there are 32 ends
record StartsSmall (p : Pid) (small : SmallState) : Type 0 where
  pub left : small.left ≤ 100000
  pub ends : length small.ends ≡ 32

abbrev LimitsFit : List (Pid × Root) → Type 0
LimitsFit [] = Unit {0}
LimitsFit (r ∷ roots) = ((r.1).limit ≤ 100000) × LimitsFit roots

limits_fit : (s : System) → s.clusters ≤ 16 → (earlier roots : List Root) → list_all (is_root s.clusters (length s.images)) roots ≡ true → LimitsFit (with_pids earlier roots)
limits_fit s few earlier [] all = tt
limits_fit s few earlier (r ∷ roots) all =
    let b = root_fits s r few (first_of_two _ (list_all (is_root s.clusters (length s.images)) roots) all) in
    (b.limit, limits_fit s few (earlier ++ r ∷ []) roots (second_of_two (is_root s.clusters (length s.images) r) _ all))

roots_small : (system : System) (k : Kernel) (roots : List (Pid × Root)) → LimitsFit roots → EachSmall StartsSmall k → EachSmall StartsSmall (fold (with_root system) k roots)
roots_small system k [] fit each = each
roots_small system k (r ∷ roots) fit each =
    roots_small system (with_root system k r) roots fit.1 (put_small StartsSmall k r.0 (root_process system r.0 r.1) each (record { left = fit.0; ends = refl }))

boot_small : (system : System) → is_system system ≡ true → EachSmall StartsSmall (boot system)
unfolding boot
boot_small system valid =
    let b = system_bounds system valid in
    let t = root_tests system.clusters (length system.images) system.roots (tests system valid).roots in
    chans-keep (EachSmall StartsSmall)
    (λ k p s peer far there each.
    let was = each p s.small (found_small k p s there) in
    put_small StartsSmall k p (linked_to s peer far) each (record { left = was.left; ends = length-linked (s.small).ends peer far ∙ was.ends }))
    system (boot_roots system) system.chans
    (roots_small system empty (roots_of system) (limits_fit system b.clusters [] system.roots t.each) (λ p small there. cc))

few_stages : (status : Status) → stages status ≤ 2
few_stages Live = omega arith
few_stages (Closing end) = omega arith
few_stages (Ended end) = omega arith

-- of a valid system that is 100034 at most: the instructions, the ends and two changes of status
pub boot_weight-few : (system : System) (p : Pid) → is_system system ≡ true → boot_weight system p ≤ 100034
boot_weight-few system p valid = by_process (small_at (boot system) p) refl
  where
    by_process : (o : Option SmallState) → small_at (boot system) p ≡ o → option_map_or weight o 0 ≤ 100034
    by_process None there = omega arith
    by_process (Some small) there =
        let s = boot_small system valid p small there in
        let few = count_by-le-length is_unshut small.ends in
        let stages_few = few_stages small.status in
        omega (arith, s.left, s.ends, few, stages_few)
