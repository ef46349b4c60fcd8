-- What the log of a run tells of its end: what each terminal was sent, and how each process ended, if it did.
use Rattle.std.specs.Prelude.{ℕ, List, [], ◌++◌, codes, fold, Option, Some, None}
use Rattle.std.specs.List.{flat_map, range_with_len}
use Rattle.std.specs.Fmt.{decimal}
use Rattle.std.specs.Ordering.{nat_cmp}
use Rattle.std.specs.FinMap.{find, put}
use Rattle.t32_base.specs.declared.process.Pid.{Pid}
use Rattle.t32_base.specs.declared.process.End.{End}
use Rattle.t32_base.specs.declared.process.Status.{Status}
use Rattle.t32_base.specs.declared.process.Status.TheVariants.{Live, Closing, Ended}
use Rattle.t32_base.specs.declared.letter.Letter.{Letter}
use Rattle.t32_base.specs.declared.letter.To.{To}
use Rattle.t32_base.specs.declared.letter.To.TheVariants.{Proc, Tty}
use Rattle.sys_text.specs.declared.system.System.{System}
use Rattle.sys_text.specs.declared.system.Root.{Root}
use Rattle.sys_text.specs.Boot.{with_pids}
use Rattle.plain_kernel.specs.Kernel.{bytes_said, text_put}
use Rattle.plain_kernel.specs.Maps.{booted_ttys}
use Rattle.bus_msg.specs.declared.entry.What.{What}
use Rattle.bus_msg.specs.declared.entry.What.TheVariants.{Mail, Birth, Exit}
use Rattle.bus_msg.specs.declared.entry.Entry.{Entry}
use Rattle.bus_msg.specs.PlacedAfter.{what}
use Rattle.bus_msg.specs.Text.{end_text}
use Rattle.report_text.specs.Report.{newline, tty_part}

-- how a process ended, if it did
abbrev pub end_of : Status → Option End
end_of (Ended end) = Some end
end_of (Closing end) = None
end_of Live = None

-- the bytes that each terminal was sent, by rising terminal, and the end of each process, by rising pid
pub record Outcome : Type 0 where
  pub ttys : List (ℕ × List ℕ)
  pub ends : List (ℕ × Option End)

-- a letter to a terminal comes after what that was sent
abbrev pub ttys_with : Letter → To → List (ℕ × List ℕ) → List (ℕ × List ℕ)
ttys_with letter (Tty t) ttys = text_put t (bytes_said letter.body) (find nat_cmp t ttys) ttys
ttys_with letter (Proc p e) ttys = ttys

-- what an entry adds
abbrev pub told_after : What → Outcome → Outcome
told_after (Mail at letter) o = record o { ttys = ttys_with letter letter.to o.ttys }
told_after (Birth parent at child end) o = record o { ends = put nat_cmp child.0 None o.ends }
told_after (Exit pid at end) o = record o { ends = put nat_cmp pid.0 (Some end) o.ends }
told_after w o = o

-- no process of these roots has ended
abbrev pub ends_of : List (Pid × Root) → List (ℕ × Option End)
ends_of roots = fold (λ ends (r : Pid × Root). put nat_cmp (r.0).0 None ends) [] roots

-- the roots, and the terminals that they name
abbrev pub none_told : System → Outcome
none_told system = record { ttys = booted_ttys system.roots; ends = ends_of (with_pids [] system.roots) }

-- what a log tells
abbrev pub outcome_of : System → List Entry → Outcome
outcome_of system log = fold (λ o (e : Entry). told_after (what e) o) (none_told system) log

-- ---- in print

-- where nothing can move, a process that has not ended waits
abbrev pub standing_text : Option End → List ℕ
standing_text (Some end) = end_text end
standing_text None = codes "waiting"

abbrev pub end_part : ℕ × Option End → List ℕ
end_part e = codes "pid " ++ decimal e.0 ++ codes " " ++ standing_text e.1 ++ newline

-- the 16 terminals, and then the processes
abbrev pub outcome_report : Outcome → List ℕ
outcome_report o = flat_map (λ t. tty_part t (find nat_cmp t o.ttys)) (range_with_len 0 16) ++ flat_map end_part o.ends
