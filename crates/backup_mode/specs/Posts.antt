-- The posts by which processes get new backups.
use Rattle.std.specs.Prelude.{true, false, List, [], ◌∷◌, Some}
use Rattle.t32_base.specs.declared.process.Pid.{Pid}
use Rattle.t32_base.specs.declared.process.ClusterNo.{ClusterNo}
use Rattle.t32_base.specs.declared.letter.BackRec.{BackRec}
use Rattle.write_count.specs.Counting.{no_counts}
use Rattle.proc_state.specs.State.{ProcState}
use Rattle.bus_msg.specs.declared.entry.Post.{Post}
use Rattle.bus_msg.specs.declared.entry.By.TheVariants.{Cluster}
use Rattle.bus_msg.specs.declared.entry.What.TheVariants.{Rebackup}

-- the record of a process that runs, as it is: its state, the letters that it has not read, and nothing that it did since
abbrev pub renewed_record : Pid → ProcState → BackRec
renewed_record p s = record { pid = p; state = Some s.small; saved = s.mail; next = s.next; counts = no_counts; births = [] }

-- the post by which it gets its new backup
abbrev pub fresh_post : ClusterNo → ClusterNo → Pid → ProcState → Post
fresh_post k to p s = record { by = Cluster k; what = Rebackup to true (renewed_record p s ∷ []) }

-- the post by which a family that was moved gets its new backup
abbrev pub standing_post : ClusterNo → ClusterNo → List BackRec → Post
standing_post k to recs = record { by = Cluster k; what = Rebackup to false recs }
