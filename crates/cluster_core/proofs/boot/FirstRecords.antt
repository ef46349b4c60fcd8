-- The records of the roots of a kernel at their start, one after another.
use Rattle.std.proofs.Common.{◌≡◌, ℕ, refl, sym, ◌∙◌, ap, List, [], ◌∷◌, ◌++◌, map, Bool, true, false, cond, eqb, eqb-true, eq-eqb, ltb, Option, Some, None, true≢false, Bor}
use Rattle.std.specs.Prelude.{option_map}
use Rattle.std.specs.FinMap as finmap
use Rattle.std.specs.Map.{lookup}
use Rattle.std.specs.Option.{option_map_or}
use Rattle.std.specs.Ordering.{nat_cmp}
use Rattle.std.specs.List.Sorted.{IsStrictlySortedBy}
use Rattle.t32_base.specs.declared.process.Pid.{Pid}
use Rattle.t32_base.specs.declared.process.ClusterNo.{ClusterNo}
use Rattle.t32_base.specs.declared.letter.BackRec.{BackRec}
use Rattle.sys_text.specs.declared.system.System.{System}
use Rattle.sys_text.specs.Valid.{is_system}
use Rattle.proc_state.specs.State.{ProcState}
use Rattle.plain_kernel.specs.Kernel.{boot, pid_cmp, process_at}
use Rattle.plain_kernel.specs.Maps.{at_key, linked_processes, pid_of}
use Rattle.plain_kernel.specs.Starts.{starts_in}
use Rattle.plain_kernel.proofs.Entries.{lookup_start}
use Rattle.bus_msg.specs.declared.placed.Placed.{Placed}
use Rattle.bus_msg.specs.Places.{Places, is_cluster, same_pid, unended_at}
use Rattle.cert_sched.specs.Schedule.{placement}
use Rattle.cert_sched.specs.Record.{backup_record}
use Rattle.backup_records.specs.Records.{record_in, with_record}
use Rattle.log_laws.specs.records.Kept.{KeepsRecords, has_backup_in, record_at_boot}
use Rattle.log_laws.proofs.records.BootLaws.{boot_record}
use Rattle.cluster_core.specs.Booting.{AreFirstRecords}
use Rattle.cluster_core.proofs.boot.Booted.{boot_has}
use Rattle.residents.proofs.Changing.{pid_same}
use Rattle.residents.proofs.Slots.{at_key_is}
use Rattle.page_accounts.proofs.Booted.{key_new, lookup_last, lookup_before}

-- the entries of a map that were seen
abbrev pub seen : List (Bor ℕ × Bor ProcState) → List (ℕ × ProcState)
seen es = map (λ (e : Bor ℕ × Bor ProcState). ((e.0).now, (e.1).now)) es

-- ---- one record more

record_with : (r : BackRec) (recs : List BackRec) (p : Pid) → record_in (with_record r recs) p ≡ cond (same_pid r.pid p) (Some r) (record_in recs p)
record_with r [] p = refl
record_with r (s ∷ rest) p = by_tests (ltb (r.pid).0 (s.pid).0) (same_pid s.pid r.pid) refl (record_with r rest p)
  where
    same_side : (b : Bool) → same_pid s.pid r.pid ≡ true → same_pid r.pid p ≡ b → cond b (Some r) (record_in rest p) ≡ cond b (Some r) (cond (same_pid s.pid p) (Some s) (record_in rest p))
    same_side true is at = refl
    same_side false is at = sym (ap (λ b. cond b (Some s) (record_in rest p)) (ap (λ q. same_pid q p) (pid_same s.pid r.pid (eqb-true (s.pid).0 (r.pid).0 is)) ∙ at))

    apart : (a b : Bool) → same_pid s.pid r.pid ≡ false → same_pid s.pid p ≡ a → same_pid r.pid p ≡ b → cond a (Some s) (cond b (Some r) (record_in rest p)) ≡ cond b (Some r) (cond a (Some s) (record_in rest p))
    apart true true other at_s at_r =
        absurd (true≢false (sym (eq-eqb (s.pid).0 (r.pid).0 (eqb-true (s.pid).0 p.0 at_s ∙ sym (eqb-true (r.pid).0 p.0 at_r))) ∙ other))
    apart true false other at_s at_r = refl
    apart false b other at_s at_r = refl

    by_tests : (a b : Bool) → same_pid s.pid r.pid ≡ b → record_in (with_record r rest) p ≡ cond (same_pid r.pid p) (Some r) (record_in rest p)
        → record_in (cond a (r ∷ s ∷ rest) (cond b (r ∷ rest) (s ∷ with_record r rest))) p ≡ cond (same_pid r.pid p) (Some r) (cond (same_pid s.pid p) (Some s) (record_in rest p))
    by_tests true b is more = refl
    by_tests false true is more = same_side (same_pid r.pid p) is refl
    by_tests false false is more = ap (λ o. cond (same_pid s.pid p) (Some s) o) more ∙ apart (same_pid s.pid p) (same_pid r.pid p) is refl refl

-- ---- one process more of a map that rises

module _ (places : Places) (k : ClusterNo) (es : List (ℕ × ProcState)) (e : ℕ × ProcState) (rest : List (ℕ × ProcState)) (recs : List BackRec) (ordered : IsStrictlySortedBy nat_cmp (map (λ (d : ℕ × ProcState). d.0) (es ++ e ∷ rest)))
    (are : AreFirstRecords places k es recs) where
  abbrev has : Pid → Bool
  has p = option_map_or (λ (q : Placed). is_cluster q.backup k) (unended_at places p) false

  abbrev due : List (ℕ × ProcState) → Pid → Option BackRec
  due all p = cond (has p) (option_map (λ (s : ProcState). record_at_boot (p, s)) (lookup (at_key p.0) all)) None

  found : lookup (at_key e.0) (es ++ e ∷ []) ≡ Some e.1
  found = lookup_last e.0 es e (key_new es e rest ordered) ∙ ap (λ b. cond b (Some e.1) None) (at_key_is e.0 e.0 ∙ eq-eqb e.0 e.0 refl)

  beside : (p : Pid) → eqb e.0 p.0 ≡ false → due (es ++ e ∷ []) p ≡ due es p
  beside p other = ap (λ o. cond (has p) (option_map (λ (s : ProcState). record_at_boot (p, s)) o) None) (lookup_before p.0 es e (at_key_is p.0 e.0 ∙ other))

  -- its backup is here: its record is added
  pub more_recorded : has (pid_of e.0) ≡ true → AreFirstRecords places k (es ++ e ∷ []) (with_record (record_at_boot (pid_of e.0, e.1)) recs)
  more_recorded here p = record_with (record_at_boot (pid_of e.0, e.1)) recs p ∙ by_test (eqb e.0 p.0) refl
    where
      by_test : (b : Bool) → eqb e.0 p.0 ≡ b → cond b (Some (record_at_boot (pid_of e.0, e.1))) (record_in recs p) ≡ due (es ++ e ∷ []) p
      by_test true is =
          let same : pid_of e.0 ≡ p = pid_same (pid_of e.0) p (eqb-true e.0 p.0 is) in
          sym (ap (λ b. cond b (option_map (λ (s : ProcState). record_at_boot (pid_of e.0, s)) (lookup (at_key e.0) (es ++ e ∷ []))) None) here ∙ ap (option_map (λ (s : ProcState). record_at_boot (pid_of e.0, s))) found)
          ∙ ap (due (es ++ e ∷ [])) same
      by_test false is = are p ∙ sym (beside p is)

  -- it is elsewhere
  pub none_recorded : has (pid_of e.0) ≡ false → AreFirstRecords places k (es ++ e ∷ []) recs
  none_recorded away p = are p ∙ by_test (eqb e.0 p.0) refl
    where
      by_test : (b : Bool) → eqb e.0 p.0 ≡ b → due es p ≡ due (es ++ e ∷ []) p
      by_test true is =
          let same : pid_of e.0 ≡ p = pid_same (pid_of e.0) p (eqb-true e.0 p.0 is) in
          let none : has p ≡ false = ap has (sym same) ∙ away in
          (λ i. cond (none i) (option_map (λ (s : ProcState). record_at_boot (p, s)) (lookup (at_key p.0) es)) None)
          ∙ sym (λ i. cond (none i) (option_map (λ (s : ProcState). record_at_boot (p, s)) (lookup (at_key p.0) (es ++ e ∷ []))) None)
      by_test false is = sym (beside p is)

-- ---- all of them

-- those of the kernel at its start are the records of the empty log
pub first_kept : (system : System) (k : ClusterNo) (all : List (ℕ × ProcState)) (recs : List BackRec) → is_system system ≡ true → starts_in all ≡ linked_processes system → AreFirstRecords (placement system []) k all recs → KeepsRecords system [] k recs
first_kept system k all recs valid states are p = are p ∙ ap (λ o. cond (has_backup_in system [] k p) o None) one
  where
    at : process_at (boot system) p ≡ lookup (at_key p.0) all
    at = ap (finmap.find pid_cmp p) (boot_has system ∙ sym states) ∙ lookup_start p.0 all

    one : option_map (λ (s : ProcState). record_at_boot (p, s)) (lookup (at_key p.0) all) ≡ backup_record system [] p
    one = ap (option_map (λ (s : ProcState). record_at_boot (p, s))) (sym at) ∙ sym (boot_record system p valid)
