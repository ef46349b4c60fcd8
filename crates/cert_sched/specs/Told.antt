-- The entries of a log, each with what stood before it.
use Rattle.std.specs.Prelude.{Bool, false, ◌&&◌, List, [], ◌∷◌, ◌++◌, Option, Some, None}
use Rattle.std.specs.List.{list_any}
use Rattle.std.specs.Option.{option_map_or}
use Rattle.t32_base.specs.declared.process.Pid.{Pid}
use Rattle.t32_base.specs.declared.process.ClusterNo.{ClusterNo}
use Rattle.sys_text.specs.declared.system.System.{System}
use Rattle.bus_msg.specs.declared.entry.What.{What}
use Rattle.bus_msg.specs.declared.entry.What.TheVariants.{Crash}
use Rattle.bus_msg.specs.declared.entry.Entry.{Entry}
use Rattle.bus_msg.specs.declared.placed.Placed.{Placed}
use Rattle.bus_msg.specs.Places.{Places, is_moved_by, same_pid}
use Rattle.bus_msg.specs.PlacedAfter.{what, placed_after}
use Rattle.cert_sched.specs.Schedule.{places_at_boot}

-- an entry, the log before it, and the placement before it
pub record Told : Type 0 where
  pub log : List Entry
  pub places : Places
  pub entry : Entry

abbrev pub told_from : List Entry → Places → List Entry → List Told
told_from log places [] = []
told_from log places (e ∷ rest) = record { log = log; places = places; entry = e } ∷ told_from (log ++ e ∷ []) (placed_after places (what e)) rest

-- each entry of a log with what stood before it
unfoldable pub told : System → List Entry → List Told
told system log = told_from [] (places_at_boot system) log

-- the cluster that an entry loses
abbrev pub cluster_lost : What → Option ClusterNo
cluster_lost (Crash k cause) = Some k
cluster_lost _ = None

-- a crash of k moves the process
abbrev pub is_moved : Pid → Places → ClusterNo → Bool
is_moved p places k = list_any (λ (q : Placed). same_pid q.pid p && is_moved_by k q) places.placed

-- the entry is a crash that moves the process
abbrev pub moves : Pid → Told → Bool
moves p t = option_map_or (is_moved p t.places) (cluster_lost (what t.entry)) false
