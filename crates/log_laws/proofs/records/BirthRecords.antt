-- A birth beside the records: the child has a record without a state, and is kept where its parent is.
use Rattle.std.proofs.Common.{◌≡◌, ℕ, refl, sym, ◌∙◌, ap, subst, List, [], ◌∷◌, ◌++◌, length, Bool, true, false, cond, ◌||◌, eqb-true, eq-eqb, Option, Some, None, is_some, true≢false}
use Rattle.std.specs.Prelude.{option_map}
use Rattle.std.specs.Option.{option_map_or}
use Rattle.t32_base.specs.declared.process.Pid.{Pid}
use Rattle.t32_base.specs.declared.process.ClusterNo.{ClusterNo}
use Rattle.t32_base.specs.declared.letter.BackRec.{BackRec}
use Rattle.sys_text.specs.declared.system.System.{System}
use Rattle.sys_text.specs.Valid.{is_system}
use Rattle.sys_calls.specs.Fork.{fork_child}
use Rattle.bus_msg.specs.declared.entry.What.TheVariants.{Birth}
use Rattle.bus_msg.specs.declared.entry.Entry.{Entry}
use Rattle.bus_msg.specs.declared.placed.Placed.{Placed}
use Rattle.bus_msg.specs.Places.{same_pid, is_cluster, unended_at}
use Rattle.bus_msg.specs.PlacedAfter.{what}
use Rattle.cert_sched.specs.Deeds.{arrived_count, deeds_in, is_birth_of, is_cut, since, start_of, starts}
use Rattle.cert_sched.specs.Schedule.{placement, process_after}
use Rattle.cert_sched.specs.Record.{backup_record, has_state, record_from, record_with}
use Rattle.cert_sched.specs.Kinds.{BirthHolds, KindHolds}
use Rattle.cert_sched.specs.Legal.{IsLegalBy, Stands}
use Rattle.cert_sched.specs.Rules.{is_by_right}
use Rattle.cert_sched.proofs.BornLaws.{birth_applied, child_absent}
use Rattle.cert_sched.proofs.FamilyLaws.{Families, families, found_born, found_child}
use Rattle.cert_sched.proofs.FreshLaws.{BornRightly, born_rightly, child_new}
use Rattle.cert_sched.proofs.LogLaws.{IsLegal-before, IsLegal-last}
use Rattle.cert_sched.proofs.RecordLaws.{has_state-snoc, letters_started, saved_letters-start, since-snoc, start_of-snoc}
use Rattle.cert_sched.proofs.StatedLaws.{stated_there}
use Rattle.cert_sched.proofs.ThereLaws.{found_among}
use Rattle.backup_records.specs.Records.{after_birth, record_after, record_in, record_of_child, with_child_of}
use Rattle.backup_records.proofs.BirthLaws.{birth-child, birth-elsewhere, birth-other}
use Rattle.log_laws.specs.records.Kept.{KeepsRecords, has_backup_in, is_renewed}
use Rattle.log_laws.proofs.records.Backed.{record_there, with_backup_unended}
use Rattle.log_laws.proofs.records.OneRecord.{record_follows}
use Rattle.log_laws.proofs.records.Standing.{itself}

module _ (system : System) (log : List Entry) (e : Entry) (valid : is_system system ≡ true) (legal : IsLegalBy Stands system (log ++ e ∷ [])) (parent : Pid) (at : ℕ) (child : Pid) (end : ℕ) (is : what e ≡ Birth parent at child end) where
  stands : Stands system log e
  stands = IsLegal-last Stands system log e legal

  before : IsLegalBy Stands system log
  before = IsLegal-before Stands system log e legal

  all : Families system log
  all = families Stands itself system log valid before

  kind : BirthHolds system log parent at child end
  kind = subst (KindHolds system log e) is stands.kind

  born : BornRightly (placement system log) parent child
  born = born_rightly (placement system log) (e.post).by parent child (ap (is_by_right (placement system log) (e.post).by) (sym is) ∙ stands.by_right) kind.child_is

  -- the child was not placed, and is not its parent
  child_none : unended_at (placement system log) child ≡ None
  child_none = by_found (unended_at (placement system log) child) refl
    where
      by_found : (o : Option Placed) → unended_at (placement system log) child ≡ o → o ≡ None
      by_found None found = refl
      by_found (Some q) found = absurd (true≢false (sym (found_among child (placement system log).placed (ap is_some found)) ∙ child_new (placement system log) parent child all.numbered born))

  apart : same_pid parent child ≡ false
  apart = by_test (same_pid parent child) refl
    where
      by_test : (b : Bool) → same_pid parent child ≡ b → b ≡ false
      by_test true same =
          let pids : parent ≡ child = λ i. record { 0 = eqb-true parent.0 child.0 same i } in
          absurd (true≢false (ap is_some (sym born.found ∙ ap (unended_at (placement system log)) pids ∙ child_none)))
      by_test false other = refl

  -- every other process is found as before
  pub unended_beside : (p : Pid) → same_pid child p ≡ false → unended_at (placement system (log ++ e ∷ [])) p ≡ unended_at (placement system log) p
  unended_beside p other = found_born system log e stands all parent at child end is born p other

  -- ---- the record of the child

  unstated : has_state system log child ≡ false
  unstated = by_state (has_state system log child) refl
    where
      by_state : (b : Bool) → has_state system log child ≡ b → b ≡ false
      by_state true stated = absurd (true≢false (sym (stated_there Stands itself system log child valid before stated) ∙ ap is_some (child_absent system log e parent at child end is stands.applies)))
      by_state false none = refl

  -- it has no state, nothing was saved, and it has done nothing
  pub child_record : backup_record system (log ++ e ∷ []) child ≡ Some (record_of_child child)
  unfolding backup_record
  child_record =
      let made = birth_applied system log e parent at child end is stands.applies kind.end_is in
      let birth : is_birth_of child (what e) ≡ true = ap (is_birth_of child) is ∙ eq-eqb child.0 child.0 refl in
      let starting : starts child e ≡ true = (λ i. is_cut child (is i) || birth i) in
      let start : start_of system (log ++ e ∷ []) child ≡ Some (fork_child made.before child) =
      start_of-snoc system log e child ∙ ap (λ b. cond b (process_after system (log ++ e ∷ []) child) (start_of system log child)) starting ∙ made.child_is in
      let state : has_state system (log ++ e ∷ []) child ≡ false = has_state-snoc system log e child ∙ (λ i. unstated i || is_cut child (is i)) in
      let saved = saved_letters-start log e child (fork_child made.before child) starting in
      let next : arrived_count (log ++ e ∷ []) child ≡ 0 = ap length (letters_started (λ f. is_birth_of child (what f)) log e child birth) in
      let deeds : since (log ++ e ∷ []) child ≡ [] = since-snoc log e child ∙ ap (λ b. cond b [] (since log child ++ deeds_in child (what e))) starting in
      ap (option_map (record_from system (log ++ e ∷ []) child)) start
      ∙ (λ i. Some (record_with child (state i) (saved i) (next i) (deeds i) (fork_child made.before child)))

  -- ---- the records of a cluster

  module _ (k : ClusterNo) (recs : List BackRec) (keeps : KeepsRecords system log k recs) where
    abbrev backed : Option Placed → Bool
    backed o = option_map_or (λ (q : Placed). is_cluster q.backup k) o false

    -- the child has none yet
    pub none_yet : record_in recs child ≡ None
    none_yet = keeps child ∙ ap (λ o. cond (backed o) (backup_record system log child) None) child_none

    -- its backup is where that of its parent is
    child_backed : has_backup_in system (log ++ e ∷ []) k child ≡ has_backup_in system log k parent
    child_backed = ap backed (found_child system log e stands all parent at child end is born) ∙ sym (ap backed born.found)

    of_child : (b : Bool) → has_backup_in system log k parent ≡ b → record_in (after_birth parent child recs) child ≡ cond (has_backup_in system (log ++ e ∷ []) k child) (backup_record system (log ++ e ∷ []) child) None
    of_child true has =
        birth-child parent child recs (ap is_some (keeps parent ∙ ap (λ b. cond b (backup_record system log parent) None) has) ∙ record_there system log parent valid before (ap is_some born.found)) apart
        ∙ sym child_record
        ∙ ap (λ b. cond b (backup_record system (log ++ e ∷ []) child) None) (sym (child_backed ∙ has))
    of_child false has =
        ap (λ rs. record_in rs child) (birth-elsewhere parent child recs (keeps parent ∙ ap (λ b. cond b (backup_record system log parent) None) has))
        ∙ none_yet
        ∙ ap (λ b. cond b (backup_record system (log ++ e ∷ []) child) None) (sym (child_backed ∙ has))

    of_other : (p : Pid) → same_pid child p ≡ false → (b : Bool) → has_backup_in system log k p ≡ b
        → record_in (after_birth parent child recs) p ≡ cond (has_backup_in system (log ++ e ∷ []) k p) (backup_record system (log ++ e ∷ []) p) None
    of_other p other b has = birth-other parent child recs p other ∙ ap (option_map (with_child_of parent child)) (keeps p ∙ ap (λ b. cond b (backup_record system log p) None) has) ∙ by_backup b has
      where
        same : has_backup_in system (log ++ e ∷ []) k p ≡ has_backup_in system log k p
        same = ap backed (unended_beside p other)

        by_backup : (b : Bool) → has_backup_in system log k p ≡ b
            → option_map (with_child_of parent child) (cond b (backup_record system log p) None) ≡ cond (has_backup_in system (log ++ e ∷ []) k p) (backup_record system (log ++ e ∷ []) p) None
        by_backup true has =
            ap (λ w. option_map (record_after w) (backup_record system log p)) (sym is)
            ∙ sym (record_follows Stands itself system log e p valid legal (ap (is_renewed p) is) (with_backup_unended system log k p has))
            ∙ ap (λ b. cond b (backup_record system (log ++ e ∷ []) p) None) (sym (same ∙ has))
        by_backup false has = ap (λ b. cond b (backup_record system (log ++ e ∷ []) p) None) (sym (same ∙ has))

    -- the records stay those of the log
    pub births_kept : KeepsRecords system (log ++ e ∷ []) k (after_birth parent child recs)
    births_kept p = by_pid (same_pid child p) refl
      where
        by_pid : (b : Bool) → same_pid child p ≡ b → record_in (after_birth parent child recs) p ≡ cond (has_backup_in system (log ++ e ∷ []) k p) (backup_record system (log ++ e ∷ []) p) None
        by_pid true same =
            subst (λ (q : Pid). record_in (after_birth parent child recs) q ≡ cond (has_backup_in system (log ++ e ∷ []) k q) (backup_record system (log ++ e ∷ []) q) None) (λ i. record { 0 = eqb-true child.0 p.0 same i })
            (of_child (has_backup_in system log k parent) refl)
        by_pid false other = of_other p other (has_backup_in system log k p) refl
