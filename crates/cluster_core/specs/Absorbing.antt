-- Which entries concern the processes and the records of a cluster.
use Rattle.std.specs.Prelude.{◌≡◌, Bool, true, false, ◌==◌, List, Some, ⊤, not}
use Rattle.std.specs.Int.{bit_at}
use Rattle.t32_base.specs.declared.process.Pid.{Pid}
use Rattle.t32_base.specs.declared.process.ClusterNo.{ClusterNo}
use Rattle.t32_base.specs.declared.letter.BackRec.{BackRec}
use Rattle.bus_msg.specs.declared.entry.What.{What}
use Rattle.bus_msg.specs.declared.entry.What.TheVariants.{Mail, Birth, Exit, Page, Fetch, PageIs, Crash, Return, Rebackup}
use Rattle.bus_msg.specs.declared.entry.Dests.{Dests}
use Rattle.bus_msg.specs.declared.entry.Entry.{Entry}
use Rattle.bus_msg.specs.PlacedAfter.{what}
use Rattle.cert_sched.specs.Deeds.{is_end_of}
use Rattle.backup_records.specs.Records.{records_after}
use Rattle.residents.specs.Bearing.{CanBear}
use Rattle.residents.specs.Resident.{CanComeTo}
use Rattle.residents.specs.Held.{Held, held_of}

-- the cluster is one of those that an entry goes to
abbrev pub goes_to : Dests → ClusterNo → Bool
goes_to dests k = bit_at dests.clusters k.0 == 1

-- a letter for an end of the process
abbrev pub is_letter_for : Pid → What → Bool
is_letter_for p (Mail at letter) = is_end_of p letter.to
is_letter_for p w = false

-- a letter for a process that is here goes to this cluster
abbrev pub ComesHere : ClusterNo → Entry → List (Pid × Held) → Type 0
ComesHere k e here = (p : Pid) (h : Held) → held_of here p ≡ Some h → is_letter_for p (what e) ≡ true → goes_to e.dests k ≡ true

-- where an entry does not go to this cluster it leaves the records as they are
abbrev pub IsNotedHere : ClusterNo → Entry → List BackRec → Type 0
IsNotedHere k e recs = goes_to e.dests k ≡ false → records_after k (what e) recs ≡ recs

-- an entry changes nothing here but what a page server keeps: a letter that does not go to this cluster, a page, and a fetch
abbrev pub passes_by : ClusterNo → Dests → What → Bool
passes_by k dests (Mail at letter) = not (goes_to dests k)
passes_by k dests (Page p at i bytes) = true
passes_by k dests (Fetch p i) = true
passes_by k dests w = false

-- a page that an entry tells of may come to its process, if that is here
abbrev pub CanCome : What → List (Pid × Held) → Type 0
CanCome (PageIs p i bytes) here = (h : Held) → held_of here p ≡ Some h → CanComeTo i bytes h
CanCome w here = ⊤

-- a birth that an entry tells of may be made, where the parent is here
abbrev pub CanBeBorn : What → List (Pid × Held) → Type 0
CanBeBorn (Birth parent at child end) here = CanBear parent child here
CanBeBorn w here = ⊤

-- an entry after which other processes here may be to get a new backup
abbrev pub changes_owing : What → Bool
changes_owing (Birth parent at child end) = true
changes_owing (Exit pid at end) = true
changes_owing (Crash k cause) = true
changes_owing (Return k) = true
changes_owing (Rebackup to fresh recs) = true
changes_owing w = false
