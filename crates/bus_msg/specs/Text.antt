-- The line of an entry in a printed log.
use Rattle.std.specs.Prelude.{ℕ, Bool, true, false, List, [], ◌∷◌, ◌++◌, codes, Option, Some, None}
use Rattle.std.specs.List.{flat_map}
use Rattle.std.specs.Option.{option_map_or}
use Rattle.std.specs.Fmt.{decimal}
use Rattle.hex.specs.Hex.{encode_lower}
use Rattle.t32_base.specs.Small.{SmallState}
use Rattle.t32_base.specs.declared.process.End.{End}
use Rattle.t32_base.specs.declared.process.End.TheVariants.{Exit as Exited, Trap, Killed, Limit}
use Rattle.t32_base.specs.declared.letter.Letter.{Letter}
use Rattle.t32_base.specs.declared.letter.BackRec.{BackRec}
use Rattle.t32_base.specs.declared.letter.Body.{Body}
use Rattle.t32_base.specs.declared.letter.Body.TheVariants.{Said, EndOf, Signal}
use Rattle.t32_base.specs.declared.letter.To.{To}
use Rattle.t32_base.specs.declared.letter.To.TheVariants.{Proc, Tty}
use Rattle.bus_msg.specs.declared.entry.What.{What}
use Rattle.bus_msg.specs.declared.entry.What.TheVariants.{Mail, Birth, Exit, Page, Sync, Fetch, PageIs, Crash, Return, Rebackup, Done, Stop}
use Rattle.bus_msg.specs.declared.entry.Cause.{Cause}
use Rattle.bus_msg.specs.declared.entry.Cause.TheVariants.{Place, Step, Disk}
use Rattle.bus_msg.specs.declared.entry.By.{By}
use Rattle.bus_msg.specs.declared.entry.By.TheVariants.{Cluster, Bus}
use Rattle.bus_msg.specs.declared.entry.Entry.{Entry}

-- how a process ended
abbrev pub end_text : End → List ℕ
end_text (Exited s) = codes "exit " ++ decimal s
end_text (Trap c) = codes "trap " ++ decimal c
end_text (Killed g) = codes "killed " ++ decimal g
end_text Limit = codes "limit"

-- what a letter to end e of process p carries: bytes as hexadecimal digits, the end of the sender's end, or a signal
abbrev pub body_text : ℕ → ℕ → ℕ → Body → List ℕ
body_text out p e (Said bytes) = codes " out " ++ (decimal out ++ (codes " to " ++ (decimal p ++ (codes " end " ++ (decimal e ++ (codes " " ++ encode_lower bytes))))))
body_text out p e EndOf = codes " out " ++ (decimal out ++ (codes " to " ++ (decimal p ++ (codes " end " ++ (decimal e ++ codes " eof")))))
body_text out p e (Signal g) = codes " to " ++ (decimal p ++ (codes " sig " ++ decimal g))

abbrev pub bytes_said : Body → List ℕ
bytes_said (Said bytes) = bytes
bytes_said EndOf = []
bytes_said (Signal g) = []

abbrev pub letter_text : Letter → To → List ℕ
letter_text letter (Tty t) = codes " out " ++ (decimal letter.out ++ (codes " tty " ++ (decimal t ++ (codes " " ++ encode_lower (bytes_said letter.body)))))
letter_text letter (Proc p e) = body_text letter.out p.0 e letter.body

abbrev pub cause_text : Cause → List ℕ
cause_text Place = codes " place"
cause_text (Step n) = codes " step " ++ decimal n
cause_text (Disk n) = codes " disk " ++ decimal n

abbrev pub took_text : Option ℕ → List ℕ
took_text None = codes " plain"
took_text (Some g) = codes " take " ++ decimal g

-- a number after a space
abbrev pub spaced : ℕ → List ℕ
spaced n = codes " " ++ decimal n

abbrev pub pids_text : List BackRec → List ℕ
pids_text recs = flat_map (λ (r : BackRec). spaced (r.pid).0) recs

-- the step count in the state of the first record
abbrev pub first_steps : List BackRec → ℕ
first_steps [] = 0
first_steps (r ∷ rs) = option_map_or (λ (s : SmallState). s.steps) r.state 0

abbrev pub rebackup_text : Bool → ℕ → List BackRec → List ℕ
rebackup_text true to recs = pids_text recs ++ (codes " at " ++ (decimal (first_steps recs) ++ (codes " to " ++ (decimal to ++ codes " fresh"))))
rebackup_text false to recs = pids_text recs ++ (codes " to " ++ (decimal to ++ codes " standing"))

abbrev pub what_text : What → List ℕ
what_text (Mail at letter) = codes "mail " ++ (decimal (letter.from).0 ++ (codes " at " ++ (decimal at ++ letter_text letter letter.to)))
what_text (Birth parent at child end) = codes "birth " ++ (decimal parent.0 ++ (codes " at " ++ (decimal at ++ (codes " child " ++ (decimal child.0 ++ (codes " end " ++ decimal end))))))
what_text (Exit pid at end) = codes "exit " ++ (decimal pid.0 ++ (codes " at " ++ (decimal at ++ (codes " " ++ end_text end))))
what_text (Page pid at index bytes) = codes "page " ++ (decimal pid.0 ++ (codes " at " ++ (decimal at ++ spaced index)))
what_text (Sync pid small read took) = codes "sync " ++ (decimal pid.0 ++ (codes " at " ++ (decimal small.steps ++ took_text took)))
what_text (Fetch pid index) = codes "fetch " ++ (decimal pid.0 ++ spaced index)
what_text (PageIs pid index bytes) = codes "pageis " ++ (decimal pid.0 ++ spaced index)
what_text (Crash k cause) = codes "crash " ++ (decimal k.0 ++ cause_text cause)
what_text (Return k) = codes "return " ++ decimal k.0
what_text (Rebackup to fresh recs) = codes "rebackup" ++ rebackup_text fresh to.0 recs
what_text (Done rests) = codes "done"
what_text Stop = codes "stop"

abbrev pub by_text : By → List ℕ
by_text (Cluster k) = decimal k.0
by_text Bus = codes "bus"

-- the place, who sent it, and what it says; without the line's end
abbrev pub line_of : Entry → List ℕ
line_of e = decimal e.place ++ (codes " " ++ (by_text (e.post).by ++ (codes " " ++ what_text (e.post).what)))
