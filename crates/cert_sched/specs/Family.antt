-- The children of a process that never synchronised.
use Rattle.std.specs.Prelude.{Bool, false, not, ◌&&◌, if◌then◌else◌, List, [], ◌∷◌, ◌++◌, fold}
use Rattle.std.specs.List.{list_any, flat_map}
use Rattle.std.specs.Option.{option_map_or}
use Rattle.t32_base.specs.declared.process.Pid.{Pid}
use Rattle.sys_text.specs.declared.system.System.{System}
use Rattle.bus_msg.specs.declared.entry.What.{What}
use Rattle.bus_msg.specs.declared.entry.What.TheVariants.{Birth}
use Rattle.bus_msg.specs.declared.entry.Entry.{Entry}
use Rattle.bus_msg.specs.declared.placed.Placed.{Placed}
use Rattle.bus_msg.specs.Places.{Places, same_pid, unended_at}
use Rattle.bus_msg.specs.PlacedAfter.{what}
use Rattle.cert_sched.specs.Schedule.{placement}

-- a process that has not ended and never synchronised
abbrev pub is_unsynced : Places → Pid → Bool
is_unsynced places p = option_map_or (λ (q : Placed). not q.synced) (unended_at places p) false

-- a birth, as parent and child
abbrev pub born : What → List (Pid × Pid)
born (Birth parent at child end) = (parent, child) ∷ []
born _ = []

abbrev pub births_of : List Entry → List (Pid × Pid)
births_of log = flat_map (λ e. born (what e)) log

-- a child joins its parent's family where it never synchronised
abbrev pub joins : Places → List Pid → Pid × Pid → List Pid
joins places family b = if list_any (same_pid b.0) family && is_unsynced places b.1 then family ++ b.1 ∷ [] else family

-- the process, its children that never synchronised, and the same of these, in the order of their births
abbrev pub unsynced_family : System → List Entry → Pid → List Pid
unsynced_family system log p = fold (joins (placement system log)) (p ∷ []) (births_of log)

-- a child of the process has not ended and never synchronised
abbrev pub has_unsynced_child : System → List Entry → Pid → Bool
has_unsynced_child system log p = list_any (λ (b : Pid × Pid). same_pid b.0 p && is_unsynced (placement system log) b.1) (births_of log)
