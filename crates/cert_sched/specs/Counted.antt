-- What the backups had counted of the processes that crashes moved.
use Rattle.std.specs.Prelude.{ℕ, List, filter}
use Rattle.std.specs.List.{sum_by}
use Rattle.std.specs.Option.{option_map_or}
use Rattle.t32_base.specs.declared.process.ClusterNo.{ClusterNo}
use Rattle.sys_text.specs.declared.system.System.{System}
use Rattle.bus_msg.specs.declared.entry.Entry.{Entry}
use Rattle.bus_msg.specs.declared.placed.Placed.{Placed}
use Rattle.bus_msg.specs.Places.{is_moved_by}
use Rattle.bus_msg.specs.PlacedAfter.{what}
use Rattle.cert_sched.specs.Told.{Told, told, cluster_lost}
use Rattle.cert_sched.specs.Record.{backup_record, withheld_in}

-- the counts and births in the records of the processes that a crash of k moves
abbrev pub counted_at : System → Told → ClusterNo → ℕ
counted_at system t k = sum_by (λ (q : Placed). option_map_or withheld_in (backup_record system t.log q.pid) 0) (filter (is_moved_by k) (t.places).placed)

-- summed over each crash of the log
abbrev pub counted : System → List Entry → ℕ
counted system log = sum_by (λ t. option_map_or (counted_at system t) (cluster_lost (what t.entry)) 0) (told system log)
