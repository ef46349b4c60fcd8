-- The children that never synchronised, as a cluster keeps them, go on with the log.
use Rattle.std.proofs.Common.{◌≡◌, refl, sym, ◌∙◌, ap, List, [], ◌∷◌, ◌++◌, true, false}
use Rattle.std.specs.Prelude.{filter, not}
use Rattle.std.specs.List.{list_any}
use Rattle.t32_base.specs.declared.process.Pid.{Pid}
use Rattle.sys_text.specs.declared.system.System.{System}
use Rattle.sys_text.specs.Valid.{is_system}
use Rattle.bus_msg.specs.declared.entry.What.{What}
use Rattle.bus_msg.specs.declared.entry.What.TheVariants.{Birth, Exit, Rebackup, Sync}
use Rattle.bus_msg.specs.declared.entry.Entry.{Entry}
use Rattle.bus_msg.specs.Places.{same_pid}
use Rattle.bus_msg.specs.PlacedAfter.{what}
use Rattle.birth_notice.specs.Family.{stands_in}
use Rattle.cert_sched.specs.Kinds.{KindHolds}
use Rattle.cert_sched.specs.Legal.{IsLegalBy, Stands, MayStand}
use Rattle.cert_sched.specs.Record.{backup_record}
use Rattle.cert_sched.proofs.FamilyLaws.{one_record}
use Rattle.cert_sched.proofs.LogLaws.{IsLegal-last}
use Rattle.log_laws.specs.births.Unsynced.{changes_unsynced, unsynced_births}
use Rattle.log_laws.proofs.births.NewBirth.{birth_last, child_apart, stands_in_none}
use Rattle.log_laws.proofs.births.NewBackups.{renewed_goes}
use Rattle.log_laws.proofs.births.OtherEntries.{ended_goes, others_leave, synced_goes}
use Rattle.log_laws.proofs.records.Standing.{all_stand}
use Rattle.cluster_core.specs.Families.{CanJoin, family_after}
use Rattle.cluster_core.specs.Follows.{IsOpen}

module _ (system : System) (log : List Entry) (e : Entry) (births : List (Pid × Pid)) (valid : is_system system ≡ true) (now : IsOpen MayStand system log) (next : IsOpen MayStand system (log ++ e ∷ [])) (kept : births ≡ unsynced_births system log) where
  may : MayStand system log e
  may = IsLegal-last MayStand system log e next.0

  legal : IsLegalBy Stands system log
  legal = all_stand system log now.0

  -- another entry leaves them
  other : (w : What) → what e ≡ w → changes_unsynced w ≡ false → births ≡ unsynced_births system (log ++ e ∷ [])
  other w is none = kept ∙ sym (others_leave system log e (ap changes_unsynced is ∙ none))

  abbrev without : Pid → List (Pid × Pid) → List (Pid × Pid)
  without p bs = filter (λ (b : Pid × Pid). not (same_pid b.1 p)) bs

  pub family_next : family_after (what e) births ≡ unsynced_births system (log ++ e ∷ [])
  family_next = by_what (what e) refl (may.stands).kind
    where
      by_what : (w : What) → what e ≡ w → KindHolds system log e w → family_after w births ≡ unsynced_births system (log ++ e ∷ [])
      by_what (Birth parent at child end) is kind = ap (λ bs. bs ++ (parent, child) ∷ []) kept ∙ sym (birth_last system log e parent at child end valid legal may.stands is)
      by_what (Exit r at end) is kind = ap (without r) kept ∙ sym (ended_goes system log e r at end is)
      by_what (Sync r small read took) is kind = ap (without r) kept ∙ sym (synced_goes system log e r small read took is)
      by_what (Rebackup to true []) is kind = absurd kind
      by_what (Rebackup to true (r ∷ rs)) is kind =
          let one : rs ≡ [] = one_record r rs (backup_record system (log ++ e ∷ []) r.pid) kind.records in
          ap (without r.pid) kept ∙ sym (renewed_goes system log e to r (is ∙ ap (λ rest. Rebackup to true (r ∷ rest)) one))
      by_what (Rebackup to false recs) is kind = other (Rebackup to false recs) is refl
      by_what w is kind = other w is refl

  -- a child that is born is new there
  pub can_join : CanJoin (what e) births
  can_join = by_what (what e) refl
    where
      by_what : (w : What) → what e ≡ w → CanJoin w births
      by_what (Birth parent at child end) is =
          (child_apart system log e parent at child end valid legal may.stands is, ap (list_any (stands_in child)) kept ∙ stands_in_none system log e parent at child end valid legal may.stands is)
      by_what w is = tt
