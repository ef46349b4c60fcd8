-- The line that says this.
use Rattle.std.specs.Prelude.{ℕ, List, ◌++◌, codes, Option, Some, None}
use Rattle.std.specs.List.{flat_map}
use Rattle.std.specs.Fmt.{decimal}
use Rattle.hex.specs.Hex.{encode_lower}
use Rattle.bus_msg.specs.Text.{cause_text}
use Rattle.entry_lines.specs.declared.told.ToldBy.{ToldBy}
use Rattle.entry_lines.specs.declared.told.ToldBy.TheVariants.{Cluster, Bus}
use Rattle.entry_lines.specs.declared.told.ToldEnd.{ToldEnd}
use Rattle.entry_lines.specs.declared.told.ToldEnd.TheVariants.{Exit as Exited, Trap, Killed, Limit}
use Rattle.entry_lines.specs.declared.told.ToldLetter.{ToldLetter}
use Rattle.entry_lines.specs.declared.told.ToldLetter.TheVariants.{Shown, Said, EndOf, Signal}
use Rattle.entry_lines.specs.declared.told.ToldWhat.{ToldWhat}
use Rattle.entry_lines.specs.declared.told.ToldWhat.TheVariants.{Mail, Birth, Exit, Page, Sync, Fetch, PageIs, Crash, Return, Fresh, Standing, Done, Stop}
use Rattle.entry_lines.specs.declared.told.Told.{Told}

abbrev pub by_text : ToldBy → List ℕ
by_text (Cluster k) = decimal k
by_text Bus = codes "bus"

abbrev pub end_text : ToldEnd → List ℕ
end_text (Exited s) = codes "exit " ++ decimal s
end_text (Trap c) = codes "trap " ++ decimal c
end_text (Killed g) = codes "killed " ++ decimal g
end_text Limit = codes "limit"

-- bytes as hexadecimal digits, two for each; the digit of ten is `a`
abbrev pub letter_text : ToldLetter → List ℕ
letter_text (Shown out tty bytes) = codes "out " ++ (decimal out ++ (codes " tty " ++ (decimal tty ++ (codes " " ++ encode_lower bytes))))
letter_text (Said out to end bytes) =
    codes "out " ++ (decimal out ++ (codes " to " ++ (decimal to ++ (codes " end " ++ (decimal end ++ (codes " " ++ encode_lower bytes))))))
letter_text (EndOf out to end) =
    codes "out " ++ (decimal out ++ (codes " to " ++ (decimal to ++ (codes " end " ++ (decimal end ++ codes " eof")))))
letter_text (Signal to signal) = codes "to " ++ (decimal to ++ (codes " sig " ++ decimal signal))

abbrev pub took_text : Option ℕ → List ℕ
took_text None = codes " plain"
took_text (Some g) = codes " take " ++ decimal g

-- a number after a space
abbrev pub spaced : ℕ → List ℕ
spaced n = codes " " ++ decimal n

abbrev pub pids_text : List ℕ → List ℕ
pids_text pids = flat_map spaced pids

abbrev pub what_text : ToldWhat → List ℕ
what_text (Mail from at letter) = codes "mail " ++ (decimal from ++ (codes " at " ++ (decimal at ++ (codes " " ++ letter_text letter))))
what_text (Birth parent at child end) =
    codes "birth " ++ (decimal parent ++
    (codes " at " ++ (decimal at ++ (codes " child " ++ (decimal child ++ (codes " end " ++ decimal end))))))
what_text (Exit pid at end) = codes "exit " ++ (decimal pid ++ (codes " at " ++ (decimal at ++ (codes " " ++ end_text end))))
what_text (Page pid at index) = codes "page " ++ (decimal pid ++ (codes " at " ++ (decimal at ++ spaced index)))
what_text (Sync pid at took) = codes "sync " ++ (decimal pid ++ (codes " at " ++ (decimal at ++ took_text took)))
what_text (Fetch pid index) = codes "fetch " ++ (decimal pid ++ spaced index)
what_text (PageIs pid index) = codes "pageis " ++ (decimal pid ++ spaced index)
what_text (Crash k cause) = codes "crash " ++ (decimal k ++ cause_text cause)
what_text (Return k) = codes "return " ++ decimal k
what_text (Fresh pids at to) =
    codes "rebackup" ++ (pids_text pids ++ (codes " at " ++ (decimal at ++ (codes " to " ++ (decimal to ++ codes " fresh")))))
what_text (Standing pids to) = codes "rebackup" ++ (pids_text pids ++ (codes " to " ++ (decimal to ++ codes " standing")))
what_text Done = codes "done"
what_text Stop = codes "stop"

-- the place, who sent it, and what it says; without the line's end
abbrev pub text_of : Told → List ℕ
text_of t = decimal t.place ++ (codes " " ++ (by_text t.by ++ (codes " " ++ what_text t.what)))
