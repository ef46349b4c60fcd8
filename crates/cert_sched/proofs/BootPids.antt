-- The pids of the kernel at boot: they are those of the roots, and no two of them are equal.
use Rattle.std.proofs.Common.{◌≡◌, ℕ, Bool, true, false, ◌||◌, eqb, List, [], ◌∷◌, map, refl, sym, ap, ◌∙◌, arith, T, eqb-true, eq-eqb, true≢false}
use Rattle.std.specs.Prelude.{fold}
use Rattle.std.specs.List.{list_any}
use Rattle.std.specs.Ordering.{nat_cmp}
use Rattle.std.specs.declared.cmp.Ordering.{Ordering}
use Rattle.std.specs.declared.cmp.Ordering.TheVariants.{Less, Equal, Greater}
use Rattle.std.specs.FinMap.{put, is_sorted}
use Rattle.std.specs.FinMap.Entries.{by_order, below_all}
use Rattle.std.proofs.lemmas.Bool.Decides.{nat_tests}
use Rattle.std.proofs.lemmas.Bool.{or_parts}
use Rattle.t32_base.specs.declared.process.Pid.{Pid}
use Rattle.sys_text.specs.declared.system.System.{System}
use Rattle.sys_text.specs.declared.system.Root.{Root}
use Rattle.sys_text.specs.Valid.{is_system}
use Rattle.sys_text.specs.Boot.{roots_of}
use Rattle.proc_state.specs.State.{ProcState}
use Rattle.plain_kernel.specs.Kernel.{Kernel, boot, boot_roots, empty, pid_cmp, root_process, with_root}
use Rattle.plain_kernel.proofs.AtBoot.{boot-rising, boot-root_pids}
use Rattle.plain_kernel.proofs.Pids.{is_below, left_true, right_true}
use Rattle.cert_sched.specs.Parts.{put_rising, rising}
use Rattle.cert_sched.specs.Schedule.{placed_root}
use Rattle.cert_sched.proofs.PidLaws.{apart_of, placed_pids}
use Rattle.cert_sched.proofs.RisingLaws.{NoTwo, put_all, put_all-none, put_all-put, put_rising-swap, rising-any}
use Rattle.cert_sched.proofs.RootPids.{root_pids_differ}

abbrev pub state_pids : List (Pid × ProcState) → List ℕ
state_pids ps = map (λ (e : Pid × ProcState). (e.0).0) ps

abbrev pub root_pids : List (Pid × Root) → List ℕ
root_pids roots = placed_pids (map placed_root roots)

-- ---- the channels leave them

pub numbers_are : (ps : List (Pid × ProcState)) → map (λ (p : Pid). p.0) (map (λ (e : Pid × ProcState). e.0) ps) ≡ state_pids ps
numbers_are [] = refl
numbers_are (e ∷ ps) = ap (λ ns. (e.0).0 ∷ ns) (numbers_are ps)

chans_stay : (system : System) → state_pids (boot system).processes ≡ state_pids (boot_roots system).processes
chans_stay system = sym (numbers_are (boot system).processes) ∙ ap (map (λ (p : Pid). p.0)) (boot-root_pids system) ∙ numbers_are (boot_roots system).processes

-- ---- root by root

tied_same : (n m : ℕ) → nat_cmp n m ≡ Equal → eqb m n ≡ true
tied_same n m tied = grind (arith, nat_tests)

-- a process that is put where none is has one pid more
put_new : (p : Pid) (s : ProcState) (es : List (Pid × ProcState)) → list_any (λ n. eqb n p.0) (state_pids es) ≡ false → rising (state_pids (put pid_cmp p s es)) ≡ put_rising p.0 (rising (state_pids es))
put_new p s [] none = refl
put_new p s (e ∷ es) none =
    let parts = or_parts (eqb (e.0).0 p.0) (list_any (λ n. eqb n p.0) (state_pids es)) none in
    by_case (pid_cmp p e.0) refl parts.0 (put_new p s es parts.1)
  where
    by_case : (o : Ordering) → pid_cmp p e.0 ≡ o → eqb (e.0).0 p.0 ≡ false → rising (state_pids (put pid_cmp p s es)) ≡ put_rising p.0 (rising (state_pids es))
        → rising (state_pids (by_order o ((p, s) ∷ e ∷ es) ((e.0, s) ∷ es) (e ∷ put pid_cmp p s es))) ≡ put_rising p.0 (put_rising (e.0).0 (rising (state_pids es)))
    by_case Less is apart more = refl
    by_case Equal is apart more = absurd (true≢false (sym (tied_same p.0 (e.0).0 is) ∙ apart))
    by_case Greater is apart more = ap (put_rising (e.0).0) more ∙ put_rising-swap (e.0).0 p.0 (rising (state_pids es))

-- roots of which no two have one pid, and none has that of a process that is there
numbers_from : (system : System) (k : Kernel) (roots : List (Pid × Root)) → NoTwo (root_pids roots)
    → ((n : ℕ) → list_any (λ m. eqb m n) (root_pids roots) ≡ true → list_any (λ m. eqb m n) (state_pids k.processes) ≡ false)
    → rising (state_pids (fold (with_root system) k roots).processes) ≡ put_all (root_pids roots) (rising (state_pids k.processes))
numbers_from system k [] two apart = refl
numbers_from system k (r ∷ roots) two apart = numbers_from system (with_root system k r) roots two.1 later ∙ ap (put_all (root_pids roots)) one ∙ put_all-put (root_pids roots) (r.0).0 (rising (state_pids k.processes))
  where
    is_first : list_any (λ m. eqb m (r.0).0) (root_pids (r ∷ roots)) ≡ true
    is_first = ap (λ b. b || list_any (λ m. eqb m (r.0).0) (root_pids roots)) (eq-eqb (r.0).0 (r.0).0 refl)

    one : rising (state_pids (with_root system k r).processes) ≡ put_rising (r.0).0 (rising (state_pids k.processes))
    one = put_new r.0 (root_process system r.0 r.1) k.processes (apart (r.0).0 is_first)

    later : (n : ℕ) → list_any (λ m. eqb m n) (root_pids roots) ≡ true → list_any (λ m. eqb m n) (state_pids (with_root system k r).processes) ≡ false
    later n among = by_test (eqb (r.0).0 n) refl
      where
        by_test : (b : Bool) → eqb (r.0).0 n ≡ b → list_any (λ m. eqb m n) (state_pids (with_root system k r).processes) ≡ false
        by_test true is = absurd (true≢false (sym among ∙ ap (λ p. list_any (λ m. eqb m p) (root_pids roots)) (sym (eqb-true (r.0).0 n is)) ∙ two.0))
        by_test false is =
            sym (rising-any (λ m. eqb m n) (state_pids (with_root system k r).processes)) ∙ ap (list_any (λ m. eqb m n)) one
            ∙ rising-any (λ m. eqb m n) ((r.0).0 ∷ state_pids k.processes)
            ∙ ap (λ b. b || list_any (λ m. eqb m n) (state_pids k.processes)) is
            ∙ apart n (ap (λ b. b || list_any (λ m. eqb m n) (root_pids roots)) is ∙ among)

-- they are those of the roots
pub boot_numbers : (system : System) → is_system system ≡ true → rising (state_pids (boot system).processes) ≡ rising (root_pids (roots_of system))
boot_numbers system valid =
    ap rising (chans_stay system)
    ∙ numbers_from system empty (roots_of system) (apart_of (map placed_root (roots_of system)) (root_pids_differ system valid)) (λ n among. refl)
    ∙ put_all-none (root_pids (roots_of system))

-- ---- no two are equal

less_apart : (x y : ℕ) → nat_cmp x y ≡ Less → eqb y x ≡ false
less_apart x y h = grind (arith, nat_tests)

none_same : (x : Pid) (es : List (Pid × ProcState)) → T (below_all pid_cmp x es) → list_any (λ m. eqb m x.0) (state_pids es) ≡ false
none_same x [] ordered = refl
none_same x (e ∷ es) ordered = ap (λ b. b || list_any (λ m. eqb m x.0) (state_pids es)) (less_apart x.0 (e.0).0 (is_below _ (left_true _ _ ordered))) ∙ none_same x es (right_true _ _ ordered)

sorted_apart : (es : List (Pid × ProcState)) → T (is_sorted pid_cmp es) → NoTwo (state_pids es)
sorted_apart [] ordered = tt
sorted_apart (e ∷ es) ordered = (none_same e.0 es (left_true _ _ ordered), sorted_apart es (right_true _ _ ordered))

pub boot_apart : (system : System) → NoTwo (state_pids (boot system).processes)
boot_apart system = sorted_apart (boot system).processes (boot-rising system)
