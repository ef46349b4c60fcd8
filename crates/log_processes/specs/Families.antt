-- The children that never synchronised, entry by entry.
use Rattle.std.specs.Prelude.{◌≡◌, Bool, true, false, not, filter, List, [], ◌∷◌, ◌++◌, ⊤}
use Rattle.std.specs.List.{list_any}
use Rattle.t32_base.specs.declared.process.Pid.{Pid}
use Rattle.t32_base.specs.declared.letter.BackRec.{BackRec}
use Rattle.sys_text.specs.declared.system.System.{System}
use Rattle.sys_text.specs.Valid.{is_system}
use Rattle.bus_msg.specs.declared.entry.What.{What}
use Rattle.bus_msg.specs.declared.entry.What.TheVariants.{Birth, Exit, Rebackup, Sync}
use Rattle.bus_msg.specs.declared.entry.Entry.{Entry}
use Rattle.bus_msg.specs.Places.{same_pid}
use Rattle.birth_notice.specs.Family.{stands_in}
use Rattle.cert_sched.specs.Family.{has_unsynced_child}
use Rattle.cert_sched.specs.Legal.{IsLegalBy, MayStand}
use Rattle.log_laws.specs.births.Unsynced.{unsynced_births}

-- a child that an entry bears is none of these, nor its own parent
abbrev pub CanBear : List (Pid × Pid) → What → Type 0
CanBear births (Birth parent at child end) = (same_pid child parent ≡ false) × (list_any (stands_in child) births ≡ false)
CanBear births _ = ⊤

-- without the process of the first of these records
abbrev pub without_first : List BackRec → List (Pid × Pid) → List (Pid × Pid)
without_first [] births = births
without_first (r ∷ rs) births = filter (λ (b : Pid × Pid). not (same_pid b.1 r.pid)) births

-- the children after an entry, each behind its parent
abbrev pub family_after : What → List (Pid × Pid) → List (Pid × Pid)
family_after (Birth parent at child end) births = births ++ (parent, child) ∷ []
family_after (Exit pid at end) births = filter (λ (b : Pid × Pid). not (same_pid b.1 pid)) births
family_after (Sync pid small read took) births = filter (λ (b : Pid × Pid). not (same_pid b.1 pid)) births
family_after (Rebackup to true recs) births = without_first recs births
family_after (Rebackup to false recs) births = births
family_after _ births = births

-- the children of a log that never synchronised, and then of the log with an entry that may follow
abbrev pub KeepsFamily : List (Pid × Pid) → List (Pid × Pid) → Entry → Type 0
KeepsFamily old new e = (system : System) (log : List Entry) → is_system system ≡ true → IsLegalBy MayStand system log → MayStand system log e → old ≡ unsynced_births system log
    → new ≡ unsynced_births system (log ++ e ∷ [])

-- it says of each log of which they are the children whether this process has one of them
abbrev pub SaysParent : List (Pid × Pid) → Pid → Bool → Type 0
SaysParent births p parent = (system : System) (log : List Entry) → births ≡ unsynced_births system log → parent ≡ has_unsynced_child system log p
