-- What is printed of the run of a workload: one line that counts.
use Rattle.std.specs.Prelude.{ℕ, ◌==◌, Bool, false, not, List, ◌++◌, length, map, count_by, codes, Option, Some, None}
use Rattle.std.specs.Option.{option_map_or}
use Rattle.std.specs.Fmt.{decimal}
use Rattle.std.specs.Ordering.{nat_cmp}
use Rattle.std.specs.FinMap.{find}
use Rattle.t32_base.specs.declared.process.Pid.{Pid}
use Rattle.t32_base.specs.declared.process.End.{End}
use Rattle.t32_base.specs.declared.process.End.TheVariants.{Exit as Exited, Trap, Killed, Limit}
use Rattle.proc_state.specs.State.{ProcState}
use Rattle.plain_kernel.specs.Kernel.{Kernel, tty_at}
use Rattle.report_text.specs.Report.{newline}
use Rattle.report_text.specs.Outcome.{Outcome, end_of}

-- the end of a process that exited with status 0
abbrev pub is_exit_0 : Option End → Bool
is_exit_0 None = false
is_exit_0 (Some (Exited code)) = code == 0
is_exit_0 (Some (Trap code)) = false
is_exit_0 (Some (Killed signal)) = false
is_exit_0 (Some Limit) = false

-- the size, how many bytes terminal 0 was sent, how many processes ended with exit 0, and how many others there are
abbrev pub load_line : (size tty exits other : ℕ) → List ℕ
load_line size tty exits other =
    codes "load " ++ (decimal size ++ (codes " tty " ++ (decimal tty ++ (codes " exits " ++ (decimal exits ++ (codes " other " ++ (decimal other ++ newline)))))))

-- the process has ended with exit 0
abbrev pub has_exited_0 : Pid × ProcState → Bool
has_exited_0 e = is_exit_0 (end_of ((e.1).small).status)

-- the line of a workload of this size, where the kernel stands after its run
abbrev pub load_report : ℕ → Kernel → List ℕ
load_report size k = load_line size (option_map_or length (tty_at k 0) 0) (count_by has_exited_0 k.processes) (count_by (λ e. not (has_exited_0 e)) k.processes)

-- the same of what a log tells
abbrev pub outcome_load : ℕ → Outcome → List ℕ
outcome_load size o =
    let ends = map (λ (e : ℕ × Option End). e.1) o.ends in
    load_line size (option_map_or length (find nat_cmp 0 o.ttys) 0) (count_by is_exit_0 ends) (count_by (λ end. not (is_exit_0 end)) ends)
