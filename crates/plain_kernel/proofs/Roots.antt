-- The start of a kernel, root by root.
use Rattle.std.proofs.Common.{◌≡◌, ℕ, ◌+◌, ◌*◌, ◌<◌, ◌≤◌, Bool, true, eqb, List, [], ◌∷◌, ◌++◌, length, take, map, fold, get_or, refl, sym, ap, ◌∙◌, arith, Some, append_assoc, append-nil}
use Rattle.std.specs.Prelude.{slice_get}
use Rattle.std.specs.List.{count_by}
use Rattle.std.specs.BTreeMap.{insert_entry}
use Rattle.std.specs.List.Sorted.{IsStrictlySortedBy}
use Rattle.std.specs.Ordering.{nat_cmp, match_ordering}
use Rattle.std.specs.declared.cmp.Ordering.TheVariants.{Less, Equal, Greater}
use Rattle.std.specs.FinMap.{put}
use Rattle.std.specs.FinMap.Entries.{by_order}
use Rattle.t32_base.specs.declared.process.Mode.TheVariants.{Quarter}
use Rattle.std.proofs.lemmas.Cmp.{nat_cmp_total}
use Rattle.std.proofs.lemmas.List.{take_more}
use Rattle.std.proofs.lemmas.Nat.{mul-le}
use Rattle.std.proofs.lemmas.List.Sums.{fold-append}
use Rattle.std.proofs.lemmas.Map.Entries.{sum_by-insert_entry}
use Rattle.std.proofs.lemmas.Option.{slice_get-get_or}
use Rattle.t32_base.specs.declared.process.Pid.{Pid}
use Rattle.proc_state.specs.State.{ProcState}
use Rattle.sys_text.specs.declared.system.System.{System}
use Rattle.sys_text.specs.declared.system.Root.{Root}
use Rattle.sys_text.specs.Valid.{is_system}
use Rattle.sys_text.specs.Boot.{pid_of as pid_in, with_pids, roots_of}
use Rattle.sys_text.proofs.Bounds.{root_bounds, root_image, system_bounds}
use Rattle.plain_kernel.specs.Kernel.{Kernel, pid_cmp, boot, boot_roots, with_chan, with_root, empty, root_process}
use Rattle.plain_kernel.specs.Maps.{pid_of, booted_processes, booted_ttys, linked_processes, CanBoot}
use Rattle.plain_kernel.specs.Starts.{starts_in, starts_load, state_load}
use Rattle.plain_kernel.proofs.Entries.{insert_seen}

-- ---- an entry that is inserted is put

pub insert_put : {X : Type 0} → (k : ℕ) (v : X) (es : List (ℕ × X)) → insert_entry nat_cmp es k v ≡ put nat_cmp k v es
insert_put k v [] = refl
insert_put k v (e ∷ es) =
    elim (nat_cmp k e.0) as (λ o. match_ordering o ((k, v) ∷ e ∷ es) ((e.0, v) ∷ es) (e ∷ insert_entry nat_cmp es k v) ≡ by_order o ((k, v) ∷ e ∷ es) ((e.0, v) ∷ es) (e ∷ put nat_cmp k v es)) [
      | Less ↦ refl
      | Equal ↦ refl
      | Greater ↦ ap (λ r. e ∷ r) (insert_put k v es)
    ]

insert_state : (k : ℕ) (v : ProcState) (es : List (ℕ × ProcState)) → starts_in (insert_entry nat_cmp es k v) ≡ put pid_cmp (pid_of k) v (starts_in es)
insert_state k v es = insert_seen (λ s. s) k v es

-- ---- one root more

abbrev pub same_home : Root → Root → Bool
same_home r q = eqb (q.home).0 (r.home).0

pids-snoc : (earlier roots : List Root) (r : Root) → with_pids earlier (roots ++ r ∷ []) ≡ with_pids earlier roots ++ (pid_in (r.home).0 (1 + count_by (same_home r) (earlier ++ roots)), r) ∷ []
pids-snoc earlier [] r = rw (append-nil earlier) refl
pids-snoc earlier (q ∷ roots) r =
    ap (λ rest. (pid_in (q.home).0 (1 + count_by (same_home q) earlier), q) ∷ rest)
    (pids-snoc (earlier ++ q ∷ []) roots r ∙ ap (λ l. with_pids (earlier ++ q ∷ []) roots ++ (pid_in (r.home).0 (1 + count_by (same_home r) l), r) ∷ []) (append_assoc earlier (q ∷ []) roots))

-- the roots so far
pub booted_more : (system : System) (roots : List Root) (n : ℕ) (d root : Root) (v : ProcState) (es fs : List (ℕ × ProcState)) (pid : Pid) → n < length roots → root ≡ get_or roots n d
    → starts_in es ≡ booted_processes system (with_pids [] (take n roots)) → fs ≡ insert_entry nat_cmp es pid.0 v → pid ≡ pid_in (root.home).0 (1 + count_by (same_home root) (take n roots)) → v ≡ root_process system pid root
    → starts_in fs ≡ booted_processes system (with_pids [] (take (n + 1) roots))
booted_more system roots n d root v es fs pid within is before insert pid_is state =
    let step : Pid × Root → List (Pid × ProcState) → List (Pid × ProcState) = λ r ps. put pid_cmp r.0 (root_process system r.0 r.1) ps in
    let pids : with_pids [] (take (n + 1) roots) ≡ with_pids [] (take n roots) ++ (pid, root) ∷ [] =
    ap (with_pids []) (take_more roots n d within ∙ ap (λ r. take n roots ++ r ∷ []) (sym is)) ∙ pids-snoc [] (take n roots) root
    ∙ ap (λ p. with_pids [] (take n roots) ++ (p, root) ∷ []) (sym pid_is) in
    ap starts_in insert ∙ insert_state pid.0 v es ∙ ap (λ s. put pid_cmp pid s (starts_in es)) state ∙ ap (λ ps. put pid_cmp pid (root_process system pid root) ps) before
    ∙ sym (ap (booted_processes system) pids ∙ fold-append _ [] (with_pids [] (take n roots)) ((pid, root) ∷ []))

pub ttys_more : (roots : List Root) (n : ℕ) (d root : Root) (es fs : List (ℕ × List ℕ)) → n < length roots → root ≡ get_or roots n d → es ≡ booted_ttys (take n roots) → fs ≡ insert_entry nat_cmp es root.tty []
    → fs ≡ booted_ttys (take (n + 1) roots)
ttys_more roots n d root es fs within is before insert =
    insert ∙ insert_put root.tty [] es ∙ ap (put nat_cmp root.tty []) before
    ∙ sym (ap booted_ttys (take_more roots n d within ∙ ap (λ r. take n roots ++ r ∷ []) (sym is)) ∙ fold-append _ [] (take n roots) (root ∷ []))

pub load_more : (es fs : List (ℕ × ProcState)) (k : ℕ) (v : ProcState) (bound : ℕ) → IsStrictlySortedBy nat_cmp (map (λ (e : ℕ × ProcState). e.0) es) → fs ≡ insert_entry nat_cmp es k v → state_load v ≤ bound
    → starts_load fs ≤ starts_load es + bound
load_more es fs k v bound ordered insert within =
    omega (arith, ap starts_load insert, sum_by-insert_entry state_load nat_cmp_total es k v ordered, within)

-- ---- a root of a valid system

-- what an array of roots has where it ends
abbrev pub no_root : Root
no_root = record { home = record { 0 = 0 }; backup = record { 0 = 0 }; mode = Quarter; image = 0; limit = 0; births = 0; tty = 0 }

pub can_boot : (s : System) (n : ℕ) (d root : Root) → is_system s ≡ true → n < length s.roots → root ≡ get_or s.roots n d → CanBoot s root
can_boot s n d root valid within is =
    let at : slice_get s.roots n ≡ Some root = slice_get-get_or s.roots n d within ∙ ap Some (sym is) in
    let b = root_bounds s n root valid at in
    let i = root_image s n root valid at in
    record {
      image = i.image;
      is_image = record { at = i.at; least = (i.bounds).least; pages = (i.bounds).pages; fits = (i.bounds).fits };
      number = omega (arith, b.image_number);
      limit = b.limit;
      births = b.births;
    }

-- what a root and its children may make, of which there are 31 at most
pub light : (v : ProcState) (limit births : ℕ) → state_load v ≡ 2 * (limit + 34 + births * (limit + 34)) → limit ≤ 100000 → births ≤ 31 → state_load v ≤ 6402176
light v limit births e h few =
    let children : births * (limit + 34) ≤ 31 * 100034 = mul-le births (limit + 34) 31 100034 few (omega (arith, h)) in
    omega (arith, children, e, h)

pub root_home : (s : System) (n : ℕ) (d root : Root) → is_system s ≡ true → n < length s.roots → root ≡ get_or s.roots n d → (root.home).0 < 16
root_home s n d root valid within is =
    let at : slice_get s.roots n ≡ Some root = slice_get-get_or s.roots n d within ∙ ap Some (sym is) in
    let b = root_bounds s n root valid at in
    omega (arith, b.home, b.clusters)

pub few_roots : (s : System) → is_system s ≡ true → length s.roots ≤ 32
few_roots s valid = (system_bounds s valid).roots

-- ---- both maps are the kernel at its start

boot_from : (system : System) (k : Kernel) (earlier roots : List Root)
    → fold (with_root system) k (with_pids earlier roots) ≡ record {
      processes = fold (λ ps (r : Pid × Root). put pid_cmp r.0 (root_process system r.0 r.1) ps) k.processes (with_pids earlier roots);
      ttys = fold (λ ts (r : Root). put nat_cmp r.tty [] ts) k.ttys roots;
    }
boot_from system k earlier [] = refl
boot_from system k earlier (r ∷ roots) = boot_from system (with_root system k (pid_in (r.home).0 (1 + count_by (same_home r) earlier), r)) (earlier ++ r ∷ []) roots

pub booted_roots : (system : System) → boot_roots system ≡ record { processes = booted_processes system (roots_of system); ttys = booted_ttys system.roots }
booted_roots system = boot_from system empty [] system.roots

pub booted : (system : System) (ps : List (Pid × ProcState)) (ts : List (ℕ × List ℕ)) → ps ≡ linked_processes system → ts ≡ booted_ttys system.roots → record { processes = ps; ttys = ts } ≡ boot system
unfolding boot
booted system ps ts p t =
    (λ i. record { processes = p i; ttys = t i })
    ∙ ap (λ (k : Kernel). record k { processes = fold (with_chan system) k.processes system.chans }) (sym (booted_roots system))
