-- An entry that stands next can be taken in: its letter has room and is counted among few, its child is new, it read from the fronts, and its record is numbered.
use Rattle.std.proofs.Common.{◌≡◌, ℕ, ◌-◌, ◌<◌, ◌^◌, refl, sym, ◌∙◌, ap, arith, subst, List, [], ◌∷◌, ◌++◌, length, Bool, true, false, cond, Option, Some, None, is_some, true≢false}
use Rattle.std.specs.Option.{option_map_or}
use Rattle.std.proofs.lemmas.List.Elements.{All-head}
use Rattle.t32_base.specs.declared.process.Pid.{Pid}
use Rattle.t32_base.specs.declared.process.ClusterNo.{ClusterNo}
use Rattle.t32_base.specs.declared.letter.Letter.{Letter}
use Rattle.t32_base.specs.declared.letter.BackRec.{BackRec}
use Rattle.t32_base.specs.Small.{SmallState}
use Rattle.sys_text.specs.declared.system.System.{System}
use Rattle.sys_text.specs.Valid.{is_system}
use Rattle.write_count.specs.Counting.{count_for}
use Rattle.proc_state.specs.Mail.{RiseTo}
use Rattle.proc_state.specs.State.{ProcState}
use Rattle.bus_msg.specs.declared.entry.What.{What}
use Rattle.bus_msg.specs.declared.entry.What.TheVariants.{Mail, Birth, Sync, Rebackup}
use Rattle.bus_msg.specs.declared.entry.Entry.{Entry}
use Rattle.bus_msg.specs.declared.placed.Placed.{Placed}
use Rattle.bus_msg.specs.Places.{cluster_no, is_cluster, unended_at}
use Rattle.bus_msg.specs.PlacedAfter.{what}
use Rattle.backup_queue.specs.Fronts.{AreFronts, AreOnEnds}
use Rattle.backup_records.specs.Records.{CanCut, record_in}
use Rattle.cert_sched.specs.Schedule.{placement, process_after}
use Rattle.cert_sched.specs.Record.{backup_record}
use Rattle.cert_sched.specs.Rules.{is_by_right}
use Rattle.cert_sched.specs.Kinds.{BirthHolds, KindHolds, SyncHolds}
use Rattle.cert_sched.specs.Legal.{IsLegalBy, Stands}
use Rattle.cert_sched.specs.Simulation.{IsUnended}
use Rattle.cert_sched.specs.Steps.{saved_of}
use Rattle.cert_sched.specs.Deeds.{saved_letters}
use Rattle.cert_sched.proofs.FamilyLaws.{families}
use Rattle.cert_sched.proofs.FreshLaws.{BornRightly, born_rightly, child_new}
use Rattle.cert_sched.proofs.LogLaws.{IsLegal-before, IsLegal-last}
use Rattle.cert_sched.proofs.SpentLaws.{few_steps_after}
use Rattle.cert_sched.proofs.ThereLaws.{found_among, unended_there}
use Rattle.log_laws.specs.records.Kept.{KeepsRecords, has_backup_in}
use Rattle.log_laws.proofs.letters.SyncReads.{sync_ends, sync_fronts}
use Rattle.log_laws.proofs.records.Brought.{can_bring}
use Rattle.log_laws.proofs.records.Counts.{next_fits, starts_from}
use Rattle.log_laws.proofs.records.KeptLaws.{counted_below, still_unended}
use Rattle.log_laws.proofs.records.OneRecord.{letter_out}
use Rattle.log_laws.proofs.records.Standing.{itself}
use Rattle.log_records.specs.Records.{AreRecordsOf, CanRenew, CanTake}
use Rattle.log_records.proofs.Found.{found_passing, passing}

-- the record of a process that has not ended
record Found (system : System) (log : List Entry) (p : Pid) (r : BackRec) : Type 0 where
  pub unended : IsUnended system log p
  pub is : backup_record system log p ≡ Some r

module _ (system : System) (log : List Entry) (e : Entry) (recs : List BackRec) (valid : is_system system ≡ true) (legal : IsLegalBy Stands system (log ++ e ∷ []))
    (are : AreRecordsOf system log recs) where
  stands : Stands system log e
  stands = IsLegal-last Stands system log e legal

  before : IsLegalBy Stands system log
  before = IsLegal-before Stands system log e legal

  found : (p : Pid) (r : BackRec) → record_in recs p ≡ Some r → Found system log p r
  found p r there = by_unended (is_some (unended_at (placement system log) p)) refl (sym (are p) ∙ there)
    where
      by_unended : (b : Bool) → is_some (unended_at (placement system log) p) ≡ b → cond b (backup_record system log p) None ≡ Some r → Found system log p r
      by_unended true has is = record { unended = has; is = is }
      by_unended false has is = cc

  -- a process makes so few steps that its letters can be counted
  counted : (at : ℕ) (letter : Letter) (r : BackRec) → what e ≡ Mail at letter → Found system log letter.from r → (letter.out < 32) × (count_for r.counts letter < 2 ^ 32 - 1)
  counted at letter r is f =
      by_process (process_after system (log ++ e ∷ []) letter.from) refl
      (unended_there Stands itself system (log ++ e ∷ []) letter.from valid legal (still_unended system log e at letter letter.from is f.unended))
    where
      by_process : (o : Option ProcState) → process_after system (log ++ e ∷ []) letter.from ≡ o → is_some o ≡ true → (letter.out < 32) × (count_for r.counts letter < 2 ^ 32 - 1)
      by_process None there some = absurd (true≢false (sym some))
      by_process (Some now) there some =
          let out = letter_out system log e at letter stands is in
          let below = counted_below system log e at letter r now valid legal is f.unended f.is there in
          let few = few_steps_after system (log ++ e ∷ []) letter.from now valid there in
          (out, omega (arith, below, few))

  -- a child has no record yet
  child_has_none : (parent : Pid) (at : ℕ) (child : Pid) (end : ℕ) → what e ≡ Birth parent at child end → record_in recs child ≡ None
  child_has_none parent at child end is = are child ∙ by_found (unended_at (placement system log) child) refl
    where
      born : BornRightly (placement system log) parent child
      born =
          let kind : BirthHolds system log parent at child end = subst (KindHolds system log e) is stands.kind in
          born_rightly (placement system log) (e.post).by parent child (subst (λ w. is_by_right (placement system log) (e.post).by w ≡ true) is stands.by_right) kind.child_is

      by_found : (o : Option Placed) → unended_at (placement system log) child ≡ o → cond (is_some o) (backup_record system log child) None ≡ None
      by_found None there = refl
      by_found (Some q) there =
          absurd (true≢false (sym (found_among child (placement system log).placed (ap is_some there))
          ∙ child_new (placement system log) parent child (families Stands itself system log valid before).numbered born))

  saved_found : (p : Pid) (r : BackRec) → backup_record system log p ≡ Some r → saved_of system log p ≡ r.saved
  saved_found p r is =
      let from = starts_from system log p r is in
      ap (λ (o : Option ProcState). option_map_or (saved_letters log p) o []) from.started ∙ ap (λ (r : BackRec). r.saved) from.is

  can_cut : (p : Pid) (small : SmallState) (read : List ℕ) (took : Option ℕ) → what e ≡ Sync p small read took → CanCut p read recs
  can_cut p small read took is r there =
      let f = found p r there in
      let saved : saved_of system log p ≡ r.saved = saved_found p r f.is in
      let holds : SyncHolds system log p small read took = subst (KindHolds system log e) is stands.kind in (
        subst (AreFronts read) saved (sync_fronts system log p small read took valid before holds f.unended),
        subst (AreOnEnds read) saved (sync_ends system log p small read took valid before holds f.unended),
      )

  -- ---- the record that a new backup brings

  -- those of the processes whose backup is in a cluster are its records
  kept_there : (k : ClusterNo) → KeepsRecords system log k (passing (has_backup_in system log k) recs)
  kept_there k p = found_passing (has_backup_in system log k) recs p ∙ ap (λ o. cond (has_backup_in system log k p) o None) (are p) ∙ by_placed (unended_at (placement system log) p)
    where
      backed : Option Placed → Bool
      backed o = option_map_or (λ (q : Placed). is_cluster q.backup k) o false

      by_placed : (o : Option Placed) → cond (backed o) (cond (is_some o) (backup_record system log p) None) None ≡ cond (backed o) (backup_record system log p) None
      by_placed None = refl
      by_placed (Some q) = refl

  can_renew : (to : ClusterNo) (fresh : Bool) (more : List BackRec) → what e ≡ Rebackup to fresh more → CanRenew fresh more
  can_renew to false more is = tt
  can_renew to true [] is = tt
  can_renew to true (r ∷ more) is =
      All-head (λ (r : BackRec). RiseTo 0 r.saved r.next) r more
      (can_bring system log e (cluster_no 0) to true (r ∷ more) (passing (has_backup_in system log (cluster_no 0)) recs) valid legal is (kept_there (cluster_no 0))).numbered

  by_kind : length log < 2 ^ 64 - 1 → (w : What) → what e ≡ w → CanTake w recs
  by_kind room (Mail at letter) is = (
    λ p r for there.
        let fits = next_fits system log p r (found p r there).is in
        omega (arith, fits, room),
    λ r there. counted at letter r is (found letter.from r there),
  )
  by_kind room (Birth parent at child end) is = child_has_none parent at child end is
  by_kind room (Sync p small read took) is = can_cut p small read took is
  by_kind room (Rebackup to fresh more) is = can_renew to fresh more is
  by_kind room _ is = tt

-- each entry that stands next can be taken in
pub can_take : (system : System) (log : List Entry) (e : Entry) (recs : List BackRec) → is_system system ≡ true → IsLegalBy Stands system (log ++ e ∷ []) → length log < 2 ^ 64 - 1
    → AreRecordsOf system log recs → CanTake (what e) recs
can_take system log e recs valid legal room are = by_kind system log e recs valid legal are room (what e) refl
