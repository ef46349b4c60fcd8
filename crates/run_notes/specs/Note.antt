-- What is noted of a run that came to its end.
use Rattle.std.specs.Prelude.{ℕ, ◌≡◌, ◌⊎◌, Bool, true, false, List, [], ◌++◌, map, Some}
use Rattle.std.specs.List.{flat_map, list_any}
use Rattle.bus_msg.specs.declared.entry.What.{What}
use Rattle.bus_msg.specs.declared.entry.What.TheVariants.{Exit}
use Rattle.bus_msg.specs.declared.entry.Entry.{Entry}
use Rattle.bus_msg.specs.PlacedAfter.{what}
use Rattle.cert_sched.specs.declared.script.ScriptWord.{ScriptWord}
use Rattle.plain_kernel.specs.Apply.{plain_run}
use Rattle.plain_kernel.specs.Kernel.{Kernel}
use Rattle.plain_kernel.specs.declared.item.Item.{Item}
use Rattle.proc_state.specs.State.{ProcState}
use Rattle.report_text.specs.declared.run.Run.{Run}
use Rattle.sys_text.specs.declared.system.System.{System}
use Rattle.t32_base.specs.declared.process.End.TheVariants.{Trap}
use Rattle.t32_base.specs.declared.process.Pid.{Pid}
use Rattle.run_notes.specs.Reached.{unreached}
use Rattle.run_notes.specs.Traps.{traps_of}

-- an entry tells that a process ended by a trap
abbrev pub is_trap : What → Bool
is_trap (Exit pid at (Trap code)) = true
is_trap _ = false

-- the traps of the processes of a kernel
abbrev pub traps_in : List (List ℕ) → System → List Item → Kernel → List ℕ
traps_in lines system items kernel = traps_of lines system items kernel (map (λ (e : Pid × ProcState). e.0) kernel.processes)

-- these are the traps of the kernel to which the items lead, or nothing is told of them
abbrev pub TellsTraps : List (List ℕ) → System → List Item → (note : List ℕ) → Type 0
TellsTraps lines system items note = (note ≡ []) ⊎ ((kernel : Kernel) × (plain_run system items ≡ Some kernel) × (note ≡ traps_in lines system items kernel))

-- the same of a run, where its log has a trap
abbrev pub TellsTrapsBy : (has : Bool) → List (List ℕ) → System → List Item → (note : List ℕ) → Type 0
TellsTrapsBy true lines system items note = TellsTraps lines system items note
TellsTrapsBy false lines system items note = note ≡ []

abbrev pub has_trap : List Entry → Bool
has_trap log = list_any (λ (e : Entry). is_trap (what e)) log

abbrev pub TellsTrapsOf : List (List ℕ) → System → Run → (note : List ℕ) → Type 0
TellsTrapsOf lines system r note = TellsTrapsBy (has_trap r.log) lines system r.items note

-- the words of the script that were not reached, and then the traps
abbrev pub IsRunNote : List (List ℕ) → System → List ScriptWord → Run → (note : List ℕ) → Type 0
IsRunNote lines system script r note = (traps : List ℕ) × TellsTrapsOf lines system r traps × (note ≡ flat_map (unreached r) script ++ traps)
