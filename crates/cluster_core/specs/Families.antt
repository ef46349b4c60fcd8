-- The children that never synchronised, as a cluster keeps them.
use Rattle.std.specs.Prelude.{◌≡◌, false, not, if◌then◌else◌, List, [], ◌∷◌, ◌++◌, filter, ⊤}
use Rattle.std.specs.List.{list_any}
use Rattle.t32_base.specs.declared.process.Pid.{Pid}
use Rattle.t32_base.specs.declared.letter.BackRec.{BackRec}
use Rattle.sys_text.specs.declared.system.System.{System}
use Rattle.bus_msg.specs.declared.entry.What.{What}
use Rattle.bus_msg.specs.declared.entry.What.TheVariants.{Birth, Exit, Rebackup, Sync}
use Rattle.bus_msg.specs.declared.entry.Entry.{Entry}
use Rattle.bus_msg.specs.Places.{same_pid}
use Rattle.birth_notice.specs.Family.{stands_in}
use Rattle.log_laws.specs.births.Unsynced.{unsynced_births}
use Rattle.cluster_core.specs.View.{ClusterView}

-- the process of the first record goes from these births
abbrev pub without_renewed : List BackRec → List (Pid × Pid) → List (Pid × Pid)
without_renewed [] births = births
without_renewed (r ∷ rs) births = filter (λ (b : Pid × Pid). not (same_pid b.1 r.pid)) births

-- what an entry makes of these births: a child that is born comes last, and one that synchronised, got a new backup after it has run, or ended goes
abbrev pub family_after : What → List (Pid × Pid) → List (Pid × Pid)
family_after (Birth parent at child end) births = births ++ (parent, child) ∷ []
family_after (Exit pid at end) births = filter (λ (b : Pid × Pid). not (same_pid b.1 pid)) births
family_after (Sync pid small read took) births = filter (λ (b : Pid × Pid). not (same_pid b.1 pid)) births
family_after (Rebackup to fresh recs) births = if fresh then without_renewed recs births else births
family_after w births = births

-- a child that an entry tells of is new there, and not its own parent
abbrev pub CanJoin : What → List (Pid × Pid) → Type 0
CanJoin (Birth parent at child end) births = (same_pid child parent ≡ false) × (list_any (stands_in child) births ≡ false)
CanJoin w births = ⊤

-- they are those of the log
abbrev pub HoldsFamily : System → List Entry → ClusterView → Type 0
HoldsFamily system log c = c.family ≡ unsynced_births system log
