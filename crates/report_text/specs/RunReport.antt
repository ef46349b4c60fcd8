-- What is printed of a run.
use Rattle.std.specs.Prelude.{ℕ, Bool, true, false, if◌then◌else◌, List, [], ◌++◌, length, count_by, codes}
use Rattle.std.specs.List.{list_any, flat_map}
use Rattle.std.specs.Fmt.{decimal}
use Rattle.t32_base.specs.declared.process.ClusterNo.{ClusterNo}
use Rattle.plain_kernel.specs.Kernel.{Kernel}
use Rattle.bus_msg.specs.declared.entry.What.{What}
use Rattle.bus_msg.specs.declared.entry.What.TheVariants.{Sync, Crash, Return}
use Rattle.bus_msg.specs.declared.entry.Entry.{Entry}
use Rattle.bus_msg.specs.PlacedAfter.{what}
use Rattle.bus_msg.specs.Text.{line_of}
use Rattle.cert_sched.specs.Printing.{items_text_of}
use Rattle.report_text.specs.declared.run.Run.{Run}
use Rattle.report_text.specs.declared.run.Ended.{Ended}
use Rattle.report_text.specs.declared.run.Ended.TheVariants.{Finished, Lost}
use Rattle.report_text.specs.Report.{newline, plain_report}

-- a cluster and a place, after a word
abbrev pub at_place : List ℕ → ClusterNo → ℕ → List ℕ
at_place word k place = word ++ (decimal k.0 ++ (codes " at " ++ (decimal place ++ newline)))

abbrev pub loss_part : ℕ → What → List ℕ
loss_part place (Crash k cause) = at_place (codes "crash ") k place
loss_part place (Return k) = at_place (codes "return ") k place
loss_part place _ = []

abbrev pub is_crash : What → Bool
is_crash (Crash k cause) = true
is_crash _ = false

abbrev pub no_crash : List ℕ
no_crash = codes "crash none" ++ newline

-- the crashes and returns, in the order of the log; or that there was no crash
abbrev pub losses_part : List Entry → List ℕ
losses_part log =
    if list_any (λ (e : Entry). is_crash (what e)) log
    then flat_map (λ (e : Entry). loss_part e.place (what e)) log
    else no_crash

-- the crash that ended the run, where one did
abbrev pub lost_part : Ended → List ℕ
lost_part Finished = []
lost_part (Lost cluster at) = at_place (codes "lost ") cluster at

abbrev pub is_sync : What → Bool
is_sync (Sync pid small read took) = true
is_sync _ = false

-- the entries, the synchronisations among them, and what was withheld
abbrev pub bus_part : ℕ → ℕ → ℕ → List ℕ
bus_part entries syncs withheld =
    codes "bus " ++ (decimal entries ++ (codes " syncs " ++ (decimal syncs ++ (codes " withheld " ++ (decimal withheld ++ newline)))))

-- the losses, how many entries of which kind, and the schedule
abbrev pub run_part : Run → List ℕ
run_part r = losses_part r.log ++ lost_part r.ended ++ bus_part (length r.log) (count_by (λ (e : Entry). is_sync (what e)) r.log) r.withheld ++ items_text_of r.items

-- the kernel, and the run
abbrev pub report_of : Kernel → Run → List ℕ
report_of k r = plain_report k ++ run_part r

-- the number of entries, and a line for each
abbrev pub log_lines : List Entry → List ℕ
log_lines log = flat_map (λ (e : Entry). line_of e ++ newline) log

abbrev pub log_text_of : List Entry → List ℕ
log_text_of log = (codes "log " ++ (decimal (length log) ++ newline)) ++ log_lines log
