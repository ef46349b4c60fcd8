-- The entries that are built so far beside the records of a cluster: no process makes so many steps that its letters could not be counted.
use Rattle.std.proofs.Common.{◌≡◌, ℕ, ◌-◌, ◌<◌, ◌^◌, refl, sym, arith, List, [], ◌∷◌, ◌++◌, length, true, Option, Some, None, is_some, true≢false}
use Rattle.t32_base.specs.declared.process.ClusterNo.{ClusterNo}
use Rattle.t32_base.specs.declared.letter.Letter.{Letter}
use Rattle.t32_base.specs.declared.letter.BackRec.{BackRec}
use Rattle.sys_text.specs.declared.system.System.{System}
use Rattle.sys_text.specs.Valid.{is_system}
use Rattle.write_count.specs.Counting.{count_for}
use Rattle.proc_state.specs.State.{ProcState}
use Rattle.bus_msg.specs.declared.entry.What.TheVariants.{Mail}
use Rattle.bus_msg.specs.declared.entry.Entry.{Entry}
use Rattle.bus_msg.specs.PlacedAfter.{what}
use Rattle.cert_sched.specs.Schedule.{process_after}
use Rattle.cert_sched.specs.Record.{backup_record}
use Rattle.cert_sched.specs.Legal.{IsLegalBy, Stands, MayStand}
use Rattle.cert_sched.specs.Simulation.{IsUnended}
use Rattle.cert_sched.proofs.LogLaws.{IsLegal-last}
use Rattle.cert_sched.proofs.SpentLaws.{few_steps_after}
use Rattle.cert_sched.proofs.ThereLaws.{unended_there}
use Rattle.backup_records.specs.Records.{CanNote}
use Rattle.log_laws.specs.records.Kept.{KeepsRecords}
use Rattle.log_laws.proofs.records.KeptLaws.{counted_below, note_by, still_unended}
use Rattle.log_laws.proofs.records.OneRecord.{letter_out}
use Rattle.log_laws.proofs.records.Standing.{all_stand, itself}

-- the record of the sender of a letter may count it
stand_count : (system : System) (log : List Entry) (e : Entry) (at : ℕ) (letter : Letter) (kept : BackRec) → is_system system ≡ true → IsLegalBy Stands system (log ++ e ∷ []) → what e ≡ Mail at letter → IsUnended system log letter.from
    → backup_record system log letter.from ≡ Some kept → (letter.out < 32) × (count_for kept.counts letter < 2 ^ 32 - 1)
stand_count system log e at letter kept valid legal is unended kept_is =
    by_process (process_after system (log ++ e ∷ []) letter.from) refl (unended_there Stands itself system (log ++ e ∷ []) letter.from valid legal (still_unended system log e at letter letter.from is unended))
  where
    by_process : (o : Option ProcState) → process_after system (log ++ e ∷ []) letter.from ≡ o → is_some o ≡ true → (letter.out < 32) × (count_for kept.counts letter < 2 ^ 32 - 1)
    by_process None there some = absurd (true≢false (sym some))
    by_process (Some now) there some =
        let out = letter_out system log e at letter (IsLegal-last Stands system log e legal) is in
        let below = counted_below system log e at letter kept now valid legal is unended kept_is there in
        let few = few_steps_after system (log ++ e ∷ []) letter.from now valid there in
        (out, omega (arith, below, few))

-- each entry of a log of the entries that are built so far may be noted
pub can_note : (system : System) (log : List Entry) (e : Entry) (k : ClusterNo) (recs : List BackRec) → is_system system ≡ true → IsLegalBy MayStand system (log ++ e ∷ []) → length log < 2 ^ 64 - 1 → KeepsRecords system log k recs
    → CanNote (what e) recs
can_note system log e k recs valid legal room keeps =
    note_by system log e k recs valid (all_stand system (log ++ e ∷ []) legal) room keeps (λ at letter kept is unended kept_is. stand_count system log e at letter kept valid (all_stand system (log ++ e ∷ []) legal) is unended kept_is)
