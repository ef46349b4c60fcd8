-- The records of a cluster before the first entry.
use Rattle.std.proofs.Common.{◌≡◌, ℕ, refl, sym, ◌∙◌, ap, arith, List, [], ◌∷◌, ◌++◌, map, Bool, true, false, cond, ◌&&◌, ◌||◌, eqb, eqb-true, Option, Some, None, T}
use Rattle.std.specs.Prelude.{filter, nat_lt, option_map}
use Rattle.std.specs.List.{list_all, list_any}
use Rattle.std.specs.declared.cmp.Ordering.TheVariants.{Less}
use Rattle.std.specs.Ordering.{is_eq, nat_cmp}
use Rattle.std.specs.FinMap.{is_sorted}
use Rattle.std.specs.FinMap.{find as find_in}
use Rattle.std.specs.FinMap.Entries.{below_all}
use Rattle.std.proofs.lemmas.Bool.Decides.{nat_tests}
use Rattle.t32_base.specs.declared.process.Pid.{Pid}
use Rattle.t32_base.specs.declared.process.ClusterNo.{ClusterNo}
use Rattle.t32_base.specs.declared.letter.BackRec.{BackRec}
use Rattle.sys_text.specs.declared.system.System.{System}
use Rattle.sys_text.specs.declared.system.Root.{Root}
use Rattle.sys_text.specs.Valid.{is_system}
use Rattle.sys_text.specs.Boot.{roots_of}
use Rattle.write_count.specs.Counting.{counts_of, no_counts}
use Rattle.proc_state.specs.State.{ProcState}
use Rattle.plain_kernel.specs.Kernel.{boot, pid_cmp, process_at}
use Rattle.plain_kernel.proofs.AtBoot.{boot-each, boot-rising}
use Rattle.plain_kernel.proofs.Pids.{is_below, left_true, right_true}
use Rattle.bus_msg.specs.Places.{same_pid}
use Rattle.cert_sched.specs.Schedule.{plain_after}
use Rattle.cert_sched.specs.Record.{backup_record, has_state, is_root, record_from}
use Rattle.cert_sched.proofs.BootPids.{boot_numbers, root_pids, state_pids}
use Rattle.cert_sched.proofs.RisingLaws.{rising-any}
use Rattle.backup_records.specs.Records.{are_rising, record_in}
use Rattle.log_laws.specs.records.Kept.{KeepsRecords, has_backup_in, record_at_boot, records_at_boot}

-- ---- what is found

tied : (n m : ℕ) → is_eq (nat_cmp n m) ≡ eqb m n
tied n m = grind (arith, nat_tests)

-- of processes whose pids pass a test the record of each is found, and of no other
found_at_boot : (t : Pid → Bool) (es : List (Pid × ProcState)) (p : Pid)
    → record_in (map record_at_boot (filter (λ (e : Pid × ProcState). t e.0) es)) p ≡ cond (t p) (option_map (λ (s : ProcState). record_at_boot (p, s)) (find_in pid_cmp p es)) None
found_at_boot t [] p = by_test (t p)
  where
    by_test : (b : Bool) → record_in [] p ≡ cond b None None
    by_test true = refl
    by_test false = refl
found_at_boot t (e ∷ es) p =
    by_tests (same_pid e.0 p) (t e.0) refl refl (found_at_boot t es p) ∙ ap (λ b. cond (t p) (option_map (λ (s : ProcState). record_at_boot (p, s)) (cond b (Some e.1) (find_in pid_cmp p es))) None) (sym (tied p.0 (e.0).0))
  where
    left : List (Pid × ProcState)
    left = filter (λ (e : Pid × ProcState). t e.0) es

    found : Option ProcState → Option BackRec
    found o = option_map (λ (s : ProcState). record_at_boot (p, s)) o

    same_pids : same_pid e.0 p ≡ true → e.0 ≡ p
    same_pids same = λ i. record { 0 = eqb-true (e.0).0 p.0 same i }

    by_tests : (b c : Bool) → same_pid e.0 p ≡ b → t e.0 ≡ c → record_in (map record_at_boot left) p ≡ cond (t p) (found (find_in pid_cmp p es)) None
        → record_in (map record_at_boot (cond c (e ∷ left) left)) p ≡ cond (t p) (found (cond b (Some e.1) (find_in pid_cmp p es))) None
    by_tests true true same passes more =
        ap (λ b. cond b (Some (record_at_boot e)) (record_in (map record_at_boot left) p)) same
        ∙ ap (λ (q : Pid). Some (record_at_boot (q, e.1))) (same_pids same)
        ∙ ap (λ b. cond b (Some (record_at_boot (p, e.1))) None) (sym passes ∙ ap t (same_pids same))
    by_tests true false same fails more =
        let none : t p ≡ false = ap t (sym (same_pids same)) ∙ fails in
        more ∙ ap (λ b. cond b (found (find_in pid_cmp p es)) None) none ∙ ap (λ b. cond b (Some (record_at_boot (p, e.1))) None) (sym none)
    by_tests false true apart passes more = ap (λ b. cond b (Some (record_at_boot e)) (record_in (map record_at_boot left) p)) apart ∙ more
    by_tests false false apart fails more = more

-- ---- by rising pid

less_is : (n m : ℕ) → nat_cmp n m ≡ Less → nat_lt n m ≡ true
less_is n m less = grind (arith, nat_tests)

above_boot : (t : Pid × ProcState → Bool) (x : Pid) (es : List (Pid × ProcState)) → T (below_all pid_cmp x es) → list_all (λ (r : BackRec). nat_lt x.0 (r.pid).0) (map record_at_boot (filter t es)) ≡ true
above_boot t x [] ordered = refl
above_boot t x (e ∷ es) ordered = by_test (t e) (above_boot t x es (right_true _ _ ordered))
  where
    above : List (Pid × ProcState) → Bool
    above es = list_all (λ (r : BackRec). nat_lt x.0 (r.pid).0) (map record_at_boot es)

    by_test : (b : Bool) → above (filter t es) ≡ true → above (cond b (e ∷ filter t es) (filter t es)) ≡ true
    by_test true more = ap (λ b. b && above (filter t es)) (less_is x.0 (e.0).0 (is_below _ (left_true _ _ ordered))) ∙ more
    by_test false more = more

rising_of : (t : Pid × ProcState → Bool) (es : List (Pid × ProcState)) → T (is_sorted pid_cmp es) → are_rising (map record_at_boot (filter t es)) ≡ true
rising_of t [] ordered = refl
rising_of t (e ∷ es) ordered = by_test (t e) (rising_of t es (right_true _ _ ordered))
  where
    by_test : (b : Bool) → are_rising (map record_at_boot (filter t es)) ≡ true → are_rising (map record_at_boot (cond b (e ∷ filter t es) (filter t es))) ≡ true
    by_test true more = ap (λ b. b && are_rising (map record_at_boot (filter t es))) (above_boot t e.0 es (left_true _ _ ordered)) ∙ more
    by_test false more = more

-- the pids of the records at boot rise
pub boot_records_rise : (system : System) (k : ClusterNo) → are_rising (records_at_boot system k) ≡ true
boot_records_rise system k = rising_of (λ (e : Pid × ProcState). has_backup_in system [] k e.0) (boot system).processes (boot-rising system)

-- ---- a process of the kernel at boot is a root

found_among : (p : Pid) (s : ProcState) (es : List (Pid × ProcState)) → find_in pid_cmp p es ≡ Some s → list_any (λ m. eqb m p.0) (state_pids es) ≡ true
found_among p s [] found = cc
found_among p s (e ∷ es) found = by_test (eqb (e.0).0 p.0) (ap (λ b. cond b (Some e.1) (find_in pid_cmp p es)) (sym (tied p.0 (e.0).0)) ∙ found) (found_among p s es)
  where
    by_test : (b : Bool) → cond b (Some e.1) (find_in pid_cmp p es) ≡ Some s → (find_in pid_cmp p es ≡ Some s → list_any (λ m. eqb m p.0) (state_pids es) ≡ true) → (b || list_any (λ m. eqb m p.0) (state_pids es)) ≡ true
    by_test true found more = refl
    by_test false found more = more found

among_roots : (p : Pid) (roots : List (Pid × Root)) → list_any (λ m. eqb m p.0) (root_pids roots) ≡ list_any (λ (r : Pid × Root). same_pid r.0 p) roots
among_roots p [] = refl
among_roots p (r ∷ roots) = ap (λ b. eqb (r.0).0 p.0 || b) (among_roots p roots)

booted_root : (system : System) (p : Pid) (s : ProcState) → is_system system ≡ true → process_at (boot system) p ≡ Some s → is_root system p ≡ true
booted_root system p s valid there =
    sym (among_roots p (roots_of system))
    ∙ sym (rising-any (λ m. eqb m p.0) (root_pids (roots_of system)))
    ∙ ap (list_any (λ m. eqb m p.0)) (sym (boot_numbers system valid))
    ∙ rising-any (λ m. eqb m p.0) (state_pids (boot system).processes)
    ∙ found_among p s (boot system).processes there

-- ---- the records

nothing_counted : counts_of [] ≡ no_counts
nothing_counted = refl

-- the record of a process before the first entry is that at boot
pub boot_record : (system : System) (p : Pid) → is_system system ≡ true → backup_record system [] p ≡ option_map (λ (s : ProcState). record_at_boot (p, s)) (process_at (boot system) p)
unfolding backup_record plain_after
boot_record system p valid = by_process (process_at (boot system) p) refl
  where
    by_process : (o : Option ProcState) → process_at (boot system) p ≡ o → option_map (record_from system [] p) o ≡ option_map (λ (s : ProcState). record_at_boot (p, s)) o
    by_process None there = refl
    by_process (Some s) there =
        let stated : has_state system [] p ≡ true = ap (λ b. b || false) (booted_root system p s valid there) in
        let empty : s.mail ≡ [] = boot-each (λ p s. s.mail ≡ []) system (λ p r. refl) (λ p s peer far none. none) p s there in
        λ i. Some (record {
          pid = p;
          state = cond (stated i) (Some s.small) None;
          saved = empty i ++ [];
          next = 0;
          counts = nothing_counted i;
          births = [];
        })

-- before the first entry the records of a cluster are those at boot
pub boot_records_kept : (system : System) (k : ClusterNo) → is_system system ≡ true → KeepsRecords system [] k (records_at_boot system k)
boot_records_kept system k valid p = found_at_boot (has_backup_in system [] k) (boot system).processes p ∙ ap (λ o. cond (has_backup_in system [] k p) o None) (sym (boot_record system p valid))
