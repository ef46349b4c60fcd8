-- What one more entry makes of the record of a process that has not ended.
use Rattle.std.proofs.Common.{◌≡◌, ◌∙◌, refl, sym, ap, List, [], ◌∷◌, ◌++◌, Bool, true, false, Some, true≢false}
use Rattle.std.specs.Prelude.{option_map}
use Rattle.std.specs.Option.{option_map_or}
use Rattle.t32_base.specs.declared.process.Pid.{Pid}
use Rattle.t32_base.specs.declared.process.ClusterNo.{ClusterNo}
use Rattle.t32_base.specs.declared.letter.BackRec.{BackRec}
use Rattle.sys_text.specs.declared.system.System.{System}
use Rattle.sys_text.specs.Valid.{is_system}
use Rattle.bus_msg.specs.declared.entry.What.{What}
use Rattle.bus_msg.specs.declared.entry.What.TheVariants.{Mail, Birth, Sync}
use Rattle.bus_msg.specs.declared.entry.Entry.{Entry}
use Rattle.bus_msg.specs.PlacedAfter.{what}
use Rattle.cert_sched.specs.Told.{cluster_lost}
use Rattle.cert_sched.specs.Record.{backup_record}
use Rattle.cert_sched.specs.Deeds.{is_cut}
use Rattle.cert_sched.specs.Legal.{IsLegalBy, Stands}
use Rattle.cert_sched.specs.Simulation.{IsUnended}
use Rattle.backup_records.specs.Records.{record_after}
use Rattle.log_laws.proofs.records.OneRecord.{record_follows, uncut_unrenewed}
use Rattle.log_laws.proofs.records.Standing.{itself}

-- the record follows an entry that does not cut its process
pub record_next : (system : System) (log : List Entry) (e : Entry) (p : Pid) (kept : BackRec) → is_system system ≡ true → IsLegalBy Stands system (log ++ e ∷ []) → is_cut p (what e) ≡ false → IsUnended system log p → backup_record system log p ≡ Some kept
    → backup_record system (log ++ e ∷ []) p ≡ Some (record_after (what e) kept)
record_next system log e p kept valid legal no_cut unended is = record_follows Stands itself system log e p valid legal (uncut_unrenewed p (what e) no_cut) unended ∙ ap (option_map (record_after (what e))) is

-- one that moves a process is a loss, and leaves its record
pub loss_leaves : (w : What) (moved : ClusterNo → Bool) (kept : BackRec) → option_map_or moved (cluster_lost w) false ≡ true → record_after w kept ≡ kept
loss_leaves (Mail at letter) moved kept moves = absurd (true≢false (sym moves))
loss_leaves (Birth parent at child end) moved kept moves = absurd (true≢false (sym moves))
loss_leaves (Sync pid small read took) moved kept moves = absurd (true≢false (sym moves))
loss_leaves w moved kept moves = refl
