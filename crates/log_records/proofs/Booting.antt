-- Before the first entry the records are those of the roots, each as it starts.
use Rattle.std.proofs.Common.{◌≡◌, ℕ, ◌+◌, ◌<◌, refl, sym, ◌∙◌, ap, arith, subst, List, [], ◌∷◌, ◌++◌, length, take, get_or, map, Bool, true, false, cond, not, ◌&&◌, ◌||◌, eqb-true, Option, Some, None, is_some, slice_get, ◌⊎◌, inl, inr}
use Rattle.std.specs.Prelude.{find}
use Rattle.std.specs.FinMap as finmap
use Rattle.std.specs.List.{list_any}
use Rattle.std.specs.Map.{lookup}
use Rattle.std.proofs.lemmas.List.{take_more}
use Rattle.std.proofs.lemmas.List.Folds.{list_any-append}
use Rattle.std.proofs.lemmas.Option.{same_Some, slice_get-get_or}
use Rattle.t32_base.specs.declared.process.Pid.{Pid}
use Rattle.t32_base.specs.declared.letter.BackRec.{BackRec}
use Rattle.t32_base.proofs.Facts.{same_pid_of}
use Rattle.sys_text.specs.declared.system.System.{System}
use Rattle.sys_text.specs.declared.system.Root.{Root}
use Rattle.sys_text.specs.Boot.{roots_of}
use Rattle.sys_text.specs.Valid.{is_system}
use Rattle.proc_state.specs.State.{ProcState}
use Rattle.plain_kernel.specs.Kernel.{Kernel, boot, pid_cmp, process_at}
use Rattle.plain_kernel.specs.Maps.{at_key, booted_ttys, linked_processes}
use Rattle.plain_kernel.specs.Starts.{starts_in}
use Rattle.plain_kernel.proofs.Entries.{lookup_start}
use Rattle.plain_kernel.proofs.Roots.{booted}
use Rattle.bus_msg.specs.declared.placed.Placed.{Placed}
use Rattle.bus_msg.specs.Places.{same_pid}
use Rattle.backup_records.specs.Records.{record_in}
use Rattle.backup_records.proofs.BirthLaws.{record_put, record_put-other}
use Rattle.cert_sched.specs.Record.{backup_record}
use Rattle.cert_sched.specs.Schedule.{placed_root, places_at_boot, placement}
use Rattle.log_laws.specs.records.Kept.{record_at_boot}
use Rattle.log_laws.proofs.records.BootLaws.{boot_record}
use Rattle.log_records.specs.Records.{AreFirstOf, AreRecordsOf, start_record, with_first}

-- ---- one process after another

-- of the process itself its record is found, if it is there, and of any other what was there
first_found : (q p : Pid) (start : Option ProcState) (recs : List BackRec) → same_pid q p ≡ false → record_in (with_first q start recs) p ≡ record_in recs p
first_found q p None recs apart = refl
first_found q p (Some s) recs apart = record_put-other (record_at_boot (q, s)) recs p apart

own_found : (q : Pid) (start : Option ProcState) (recs : List BackRec) → (record_in recs q ≡ start_record q start) ⊎ (record_in recs q ≡ None) → record_in (with_first q start recs) q ≡ start_record q start
own_found q None recs (inl is) = is
own_found q None recs (inr is) = is
own_found q (Some s) recs before = record_put (record_at_boot (q, s)) recs

module _ (starts : List (ℕ × ProcState)) where
  abbrev start : Pid → Option ProcState
  start p = lookup (at_key p.0) starts

  abbrev is_placed : List Placed → Pid → Bool
  is_placed placed p = list_any (λ (q : Placed). same_pid q.pid p) placed

  one_more : (placed : List Placed) (q : Placed) (recs : List BackRec) → AreFirstOf placed starts recs → AreFirstOf (placed ++ q ∷ []) starts (with_first q.pid (start q.pid) recs)
  one_more placed q recs are p =
      by_pid (same_pid q.pid p) refl ∙ ap (λ b. cond b (start_record p (start p)) None) (sym (list_any-append (λ (q : Placed). same_pid q.pid p) placed (q ∷ [])))
    where
      before : (b : Bool) (r : Pid) → is_placed placed r ≡ b → (record_in recs r ≡ start_record r (start r)) ⊎ (record_in recs r ≡ None)
      before true r is = inl (are r ∙ ap (λ b. cond b (start_record r (start r)) None) is)
      before false r is = inr (are r ∙ ap (λ b. cond b (start_record r (start r)) None) is)

      all : (b : Bool) → (b || true) ≡ true
      all true = refl
      all false = refl

      none : (b : Bool) → (b || false) ≡ b
      none true = refl
      none false = refl

      by_pid : (b : Bool) → same_pid q.pid p ≡ b → record_in (with_first q.pid (start q.pid) recs) p ≡ cond (is_placed placed p || (b || false)) (start_record p (start p)) None
      by_pid true same =
          subst (λ (r : Pid). record_in (with_first q.pid (start q.pid) recs) r ≡ start_record r (start r)) (same_pid_of q.pid p (eqb-true (q.pid).0 p.0 same))
          (own_found q.pid (start q.pid) recs (before (is_placed placed q.pid) q.pid refl))
          ∙ ap (λ b. cond b (start_record p (start p)) None) (sym (all (is_placed placed p)))
      by_pid false apart =
          first_found q.pid p (start q.pid) recs apart ∙ are p ∙ ap (λ b. cond b (start_record p (start p)) None) (sym (none (is_placed placed p)))

  -- the process at a place, behind those in front of it
  pub next_first : (placed : List Placed) (i : ℕ) (q : Placed) (recs : List BackRec) → i < length placed → Some q ≡ slice_get placed i
      → AreFirstOf (take i placed) starts recs → AreFirstOf (take (i + 1) placed) starts (with_first q.pid (start q.pid) recs)
  next_first placed i q recs within at before =
      let same : q ≡ get_or placed i q = same_Some q (get_or placed i q) (at ∙ slice_get-get_or placed i q within) in
      subst (λ qs. AreFirstOf qs starts (with_first q.pid (start q.pid) recs)) (sym (take_more placed i q within ∙ ap (λ r. take i placed ++ r ∷ []) (sym same)))
      (one_more (take i placed) q recs before)

-- a place of the list has a process
pub none_beyond : (placed : List Placed) (i : ℕ) → i < length placed → None ≡ slice_get placed i → ⊥
none_beyond [] i within at = omega (arith, within)
none_beyond (q ∷ placed) i within at = let there = at ∙ slice_get-get_or (q ∷ placed) i q within in cc

-- ---- all of them

-- the roots are placed, and none has ended
roots_placed : (p : Pid) (roots : List (Pid × Root)) → list_any (λ (q : Placed). same_pid q.pid p) (map placed_root roots)
    ≡ is_some (find (λ (q : Placed). same_pid q.pid p && not q.ended) (map placed_root roots))
roots_placed p [] = refl
roots_placed p (r ∷ roots) = by_test (same_pid r.0 p) (roots_placed p roots)
  where
    rest : List Placed
    rest = map placed_root roots

    by_test : (b : Bool) → list_any (λ (q : Placed). same_pid q.pid p) rest ≡ is_some (find (λ (q : Placed). same_pid q.pid p && not q.ended) rest)
        → (b || list_any (λ (q : Placed). same_pid q.pid p) rest) ≡ is_some (cond (b && true) (Some (placed_root r)) (find (λ (q : Placed). same_pid q.pid p && not q.ended) rest))
    by_test true more = refl
    by_test false more = more

-- the records of the roots at their start are those of the log with no entry
pub first_are : (system : System) (starts : List (ℕ × ProcState)) (recs : List BackRec) → is_system system ≡ true → starts_in starts ≡ linked_processes system
    → AreFirstOf (places_at_boot system).placed starts recs → AreRecordsOf system [] recs
unfolding placement
first_are system starts recs valid states are p = are p ∙ (λ i. cond (roots_placed p (roots_of system) i) (one i) None)
  where
    linked : (boot system).processes ≡ linked_processes system
    linked = ap (λ (k : Kernel). k.processes) (sym (booted system (linked_processes system) (booted_ttys system.roots) refl refl))

    at : process_at (boot system) p ≡ lookup (at_key p.0) starts
    at = ap (finmap.find pid_cmp p) (linked ∙ sym states) ∙ lookup_start p.0 starts

    one : start_record p (lookup (at_key p.0) starts) ≡ backup_record system [] p
    one = ap (start_record p) (sym at) ∙ sym (boot_record system p valid)
