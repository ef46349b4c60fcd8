-- The children of a log that never synchronised, after an entry that may follow.
use Rattle.std.proofs.Common.{◌≡◌, refl, sym, ◌∙◌, ap, List, [], ◌∷◌, ◌++◌, map, Bool, true, false, Option, Some, None, is_some, Result, Ok, Err}
use Rattle.std.specs.Prelude.{OnOk}
use Rattle.t32_base.specs.declared.process.Pid.{Pid}
use Rattle.t32_base.specs.declared.letter.BackRec.{BackRec}
use Rattle.sys_text.specs.declared.system.System.{System}
use Rattle.sys_text.specs.Valid.{is_system}
use Rattle.bus_msg.specs.declared.entry.What.{What}
use Rattle.bus_msg.specs.declared.entry.What.TheVariants.{Birth, Exit, Rebackup, Sync}
use Rattle.bus_msg.specs.declared.entry.Entry.{Entry}
use Rattle.bus_msg.specs.PlacedAfter.{what}
use Rattle.birth_notice.specs.Family.{first_unsynced}
use Rattle.cert_sched.specs.Family.{has_unsynced_child}
use Rattle.cert_sched.specs.Record.{backup_record}
use Rattle.cert_sched.specs.Kinds.{KindHolds}
use Rattle.cert_sched.specs.Legal.{IsLegalBy, MayStand}
use Rattle.log_laws.specs.births.Unsynced.{changes_unsynced, unsynced_births}
use Rattle.log_laws.proofs.births.FirstChild.{none_first}
use Rattle.log_laws.proofs.births.NewBackups.{handed_on_stay, renewed_goes}
use Rattle.log_laws.proofs.births.NewBirth.{birth_last, child_apart, stands_in_none}
use Rattle.log_laws.proofs.births.OtherEntries.{ended_goes, others_leave, synced_goes}
use Rattle.log_laws.proofs.records.Standing.{all_stand}
use Rattle.log_processes.specs.Families.{CanBear, KeepsFamily, SaysParent, family_after}

-- a new backup after a process has run has its record alone
one_record : (rs : List BackRec) (r q : BackRec) (o : Option BackRec) → map Some (r ∷ q ∷ rs) ≡ o ∷ [] → ⊥
one_record rs r q o is = cc

module _ (system : System) (log : List Entry) (e : Entry) (valid : is_system system ≡ true) (legal : IsLegalBy MayStand system log) (may : MayStand system log e) where
  follows : (w : What) → what e ≡ w → KindHolds system log e w → family_after w (unsynced_births system log) ≡ unsynced_births system (log ++ e ∷ [])
  follows (Birth parent at child end) is kind = sym (birth_last system log e parent at child end valid (all_stand system log legal) may.stands is)
  follows (Exit pid at end) is kind = sym (ended_goes system log e pid at end is)
  follows (Sync pid small read took) is kind = sym (synced_goes system log e pid small read took is)
  follows (Rebackup to true []) is kind = absurd kind
  follows (Rebackup to true (r ∷ [])) is kind = sym (renewed_goes system log e to r is)
  follows (Rebackup to true (r ∷ q ∷ rs)) is kind = absurd (one_record rs r q (backup_record system (log ++ e ∷ []) r.pid) kind.records)
  follows (Rebackup to false recs) is kind = sym (handed_on_stay system log e to recs is)
  follows w is kind = sym (others_leave system log e (ap changes_unsynced is))

  pub can_bear : CanBear (unsynced_births system log) (what e)
  can_bear = by_what (what e) refl
    where
      by_what : (w : What) → what e ≡ w → CanBear (unsynced_births system log) w
      by_what (Birth parent at child end) is =
          let stand = all_stand system log legal in
          (child_apart system log e parent at child end valid stand may.stands is, stands_in_none system log e parent at child end valid stand may.stands is)
      by_what w is = tt

pub family_follows : (births : List (Pid × Pid)) (e : Entry) → KeepsFamily births (family_after (what e) births) e
family_follows births e system log valid legal may are =
    ap (family_after (what e)) are ∙ follows system log e valid legal may (what e) refl (may.stands).kind

-- ---- whether a process has one

none_or_some : (o : Option Pid) (b : Bool) → (o ≡ None → b ≡ false) → (b ≡ false → o ≡ None) → is_some o ≡ b
none_or_some None b to from = sym (to refl)
none_or_some (Some p) true to from = refl
none_or_some (Some p) false to from = let none : Some p ≡ None = from refl in cc

pub says_parent : (births : List (Pid × Pid)) (p : Pid) → SaysParent births p (is_some (first_unsynced births p))
says_parent births p system log are =
    ap (λ bs. is_some (first_unsynced bs p)) are
    ∙ none_or_some (first_unsynced (unsynced_births system log) p) (has_unsynced_child system log p) (none_first system log p).0 (none_first system log p).1

-- ---- where a call answers Ok

pub where_ok : {E : Type 0} {A B : Type 0} (r : Result (Unit {0}) E) → (A → B) → OnOk r A → OnOk r B
where_ok (Ok u) f a = f a
where_ok (Err e) f a = tt
