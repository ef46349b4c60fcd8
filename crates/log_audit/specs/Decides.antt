-- What a checker of a log answers to a line.
use Rattle.std.specs.Prelude.{◌≡◌, true, List, Option, Some, None}
use Rattle.sys_text.specs.declared.system.System.{System}
use Rattle.sys_text.specs.Valid.{is_system}
use Rattle.bus_msg.specs.declared.entry.Entry.{Entry}
use Rattle.cert_sched.specs.Legal.{IsLegalBy}
use Rattle.entry_lines.specs.declared.told.Told.{Told}
use Rattle.entry_lines.specs.Told.{told_of}

-- By a rule of entries, where something is kept of each legal log with the lines so far: the answer is an entry with the line that may follow every such log; or there is none that may follow any.
abbrev pub Decides : (System → List Entry → Entry → Type 0) → (System → List Entry → Type 0) → Told → Option Entry → Type 0
Decides May Kept told (Some e) = (system : System) (log : List Entry) → is_system system ≡ true → IsLegalBy May system log → Kept system log → (told_of e ≡ told) × May system log e
Decides May Kept told None = (system : System) (log : List Entry) (e : Entry) → is_system system ≡ true → IsLegalBy May system log → Kept system log → told_of e ≡ told → May system log e → ⊥
