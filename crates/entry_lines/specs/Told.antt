-- What the line of an entry says, and which of it fits the code's numbers.
use Rattle.std.specs.Prelude.{ℕ, ◌<◌, ◌^◌, Bool, true, false, List, [], ◌∷◌, map, Option, Some, None}
use Rattle.hex.specs.Hex.{IsBytes}
use Rattle.t32_base.specs.declared.process.End.{End}
use Rattle.t32_base.specs.declared.process.End.TheVariants.{Exit as Exited, Trap, Killed, Limit}
use Rattle.t32_base.specs.declared.letter.Letter.{Letter}
use Rattle.t32_base.specs.declared.letter.BackRec.{BackRec}
use Rattle.t32_base.specs.declared.letter.Body.{Body}
use Rattle.t32_base.specs.declared.letter.Body.TheVariants.{Said, EndOf, Signal}
use Rattle.t32_base.specs.declared.letter.To.{To}
use Rattle.t32_base.specs.declared.letter.To.TheVariants.{Proc, Tty}
use Rattle.bus_msg.specs.declared.entry.What.{What}
use Rattle.bus_msg.specs.declared.entry.What.TheVariants.{Mail, Birth, Exit, Page, Sync, Fetch, PageIs, Crash, Return, Rebackup, Done, Stop}
use Rattle.bus_msg.specs.declared.entry.Cause.{Cause}
use Rattle.bus_msg.specs.declared.entry.Cause.TheVariants.{Place, Step, Disk}
use Rattle.bus_msg.specs.declared.entry.By.{By}
use Rattle.bus_msg.specs.declared.entry.By.TheVariants.{Cluster, Bus}
use Rattle.bus_msg.specs.declared.entry.Entry.{Entry}
use Rattle.bus_msg.specs.Text.{bytes_said, first_steps}
use Rattle.entry_lines.specs.declared.told.ToldBy.{ToldBy}
use Rattle.entry_lines.specs.declared.told.ToldBy.TheVariants.{Cluster as ByCluster, Bus as ByBus}
use Rattle.entry_lines.specs.declared.told.ToldEnd.{ToldEnd}
use Rattle.entry_lines.specs.declared.told.ToldEnd.TheVariants.{Exit as ToldExited, Trap as ToldTrap, Killed as ToldKilled, Limit as ToldLimit}
use Rattle.entry_lines.specs.declared.told.ToldLetter.{ToldLetter}
use Rattle.entry_lines.specs.declared.told.ToldLetter.TheVariants.{Shown, Said as ToldSaid, EndOf as ToldEndOf, Signal as ToldSignal}
use Rattle.entry_lines.specs.declared.told.ToldWhat.{ToldWhat}
use Rattle.entry_lines.specs.declared.told.ToldWhat.TheVariants.{Mail as ToldMail, Birth as ToldBirth, Exit as ToldExit, Page as ToldPage, Sync as ToldSync, Fetch as ToldFetch, PageIs as ToldPageIs, Crash as ToldCrash, Return as ToldReturn, Fresh, Standing, Done as ToldDone, Stop as ToldStop}
use Rattle.entry_lines.specs.declared.told.Told.{Told}

-- ---- the printed part of an entry

abbrev pub told_by : By → ToldBy
told_by (Cluster k) = ByCluster k.0
told_by Bus = ByBus

abbrev pub told_end : End → ToldEnd
told_end (Exited s) = ToldExited s
told_end (Trap c) = ToldTrap c
told_end (Killed g) = ToldKilled g
told_end Limit = ToldLimit

abbrev pub told_body : ℕ → ℕ → ℕ → Body → ToldLetter
told_body out to end (Said bytes) = ToldSaid out to end bytes
told_body out to end EndOf = ToldEndOf out to end
told_body out to end (Signal g) = ToldSignal to g

abbrev pub told_letter : Letter → To → ToldLetter
told_letter letter (Tty t) = Shown letter.out t (bytes_said letter.body)
told_letter letter (Proc p e) = told_body letter.out p.0 e letter.body

abbrev pub pids_of : List BackRec → List ℕ
pids_of recs = map (λ (r : BackRec). (r.pid).0) recs

abbrev pub told_rebackup : Bool → ℕ → List BackRec → ToldWhat
told_rebackup true to recs = Fresh (pids_of recs) (first_steps recs) to
told_rebackup false to recs = Standing (pids_of recs) to

abbrev pub told_what : What → ToldWhat
told_what (Mail at letter) = ToldMail (letter.from).0 at (told_letter letter letter.to)
told_what (Birth parent at child end) = ToldBirth parent.0 at child.0 end
told_what (Exit pid at end) = ToldExit pid.0 at (told_end end)
told_what (Page pid at index bytes) = ToldPage pid.0 at index
told_what (Sync pid small read took) = ToldSync pid.0 small.steps took
told_what (Fetch pid index) = ToldFetch pid.0 index
told_what (PageIs pid index bytes) = ToldPageIs pid.0 index
told_what (Crash k cause) = ToldCrash k.0 cause
told_what (Return k) = ToldReturn k.0
told_what (Rebackup to fresh recs) = told_rebackup fresh to.0 recs
told_what (Done rests) = ToldDone
told_what Stop = ToldStop

abbrev pub told_of : Entry → Told
told_of e = record { place = e.place; by = told_by (e.post).by; what = told_what (e.post).what }

-- ---- the numbers are below 2^64, and the bytes are bytes

abbrev pub IsSmall : ℕ → Type 0
IsSmall n = n < 2 ^ 64

abbrev pub ByFits : ToldBy → Type 0
ByFits (ByCluster k) = IsSmall k
ByFits ByBus = Unit {0}

abbrev pub EndFits : ToldEnd → Type 0
EndFits (ToldExited s) = IsSmall s
EndFits (ToldTrap c) = IsSmall c
EndFits (ToldKilled g) = IsSmall g
EndFits ToldLimit = Unit {0}

abbrev pub LetterFits : ToldLetter → Type 0
LetterFits (Shown out tty bytes) = IsSmall out × IsSmall tty × IsBytes bytes
LetterFits (ToldSaid out to end bytes) = IsSmall out × IsSmall to × IsSmall end × IsBytes bytes
LetterFits (ToldEndOf out to end) = IsSmall out × IsSmall to × IsSmall end
LetterFits (ToldSignal to signal) = IsSmall to × IsSmall signal

abbrev pub CauseFits : Cause → Type 0
CauseFits Place = Unit {0}
CauseFits (Step n) = IsSmall n
CauseFits (Disk n) = IsSmall n

abbrev pub TookFits : Option ℕ → Type 0
TookFits None = Unit {0}
TookFits (Some g) = IsSmall g

abbrev pub AllSmall : List ℕ → Type 0
AllSmall [] = Unit {0}
AllSmall (n ∷ ns) = IsSmall n × AllSmall ns

abbrev pub WhatFits : ToldWhat → Type 0
WhatFits (ToldMail from at letter) = IsSmall from × IsSmall at × LetterFits letter
WhatFits (ToldBirth parent at child end) = IsSmall parent × IsSmall at × IsSmall child × IsSmall end
WhatFits (ToldExit pid at end) = IsSmall pid × IsSmall at × EndFits end
WhatFits (ToldPage pid at index) = IsSmall pid × IsSmall at × IsSmall index
WhatFits (ToldSync pid at took) = IsSmall pid × IsSmall at × TookFits took
WhatFits (ToldFetch pid index) = IsSmall pid × IsSmall index
WhatFits (ToldPageIs pid index) = IsSmall pid × IsSmall index
WhatFits (ToldCrash k cause) = IsSmall k × CauseFits cause
WhatFits (ToldReturn k) = IsSmall k
WhatFits (Fresh pids at to) = AllSmall pids × IsSmall at × IsSmall to
WhatFits (Standing pids to) = AllSmall pids × IsSmall to
WhatFits ToldDone = Unit {0}
WhatFits ToldStop = Unit {0}

abbrev pub Fits : Told → Type 0
Fits t = IsSmall t.place × ByFits t.by × WhatFits t.what
