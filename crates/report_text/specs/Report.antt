-- What is printed of a kernel: the bytes of each terminal, and how each process stands.
use Rattle.std.specs.Prelude.{ℕ, Bool, true, false, List, [], ◌∷◌, ◌++◌, length, map, codes, Option, Some, None, ◌||◌}
use Rattle.std.specs.List.{flat_map, range_with_len}
use Rattle.std.specs.Fmt.{decimal}
use Rattle.t32_base.specs.declared.process.Pid.{Pid}
use Rattle.t32_base.specs.declared.process.Status.{Status}
use Rattle.t32_base.specs.declared.process.Status.TheVariants.{Live, Closing, Ended}
use Rattle.proc_state.specs.State.{ProcState, can_take}
use Rattle.sys_calls.specs.Next.{next_step, has_step}
use Rattle.plain_kernel.specs.Kernel.{Kernel, process_at, tty_at}
use Rattle.bus_msg.specs.Text.{end_text}

-- a line feed
abbrev pub newline : List ℕ
newline = 10 ∷ []

-- the bytes of a terminal that a root names
abbrev pub tty_part : ℕ → Option (List ℕ) → List ℕ
tty_part t None = []
tty_part t (Some bytes) = codes "tty " ++ decimal t ++ codes " " ++ decimal (length bytes) ++ newline ++ bytes ++ newline

-- an unended process has a step, or waits
abbrev pub moves_text : Bool → List ℕ
moves_text true = codes "running"
moves_text false = codes "waiting"

abbrev pub status_text : Status → Bool → List ℕ
status_text (Ended end) moves = end_text end
status_text (Closing end) moves = moves_text moves
status_text Live moves = moves_text moves

abbrev pub pid_part : Pid → Option ProcState → List ℕ
pid_part p None = []
pid_part p (Some s) = codes "pid " ++ decimal p.0 ++ codes " " ++ status_text (s.small).status (has_step (next_step s) || can_take s) ++ newline

-- the 16 terminals, and then the processes, both rising
abbrev pub ttys_report : Kernel → List ℕ → List ℕ
ttys_report k ts = flat_map (λ t. tty_part t (tty_at k t)) ts

abbrev pub pids_report : Kernel → List Pid → List ℕ
pids_report k ps = flat_map (λ (p : Pid). pid_part p (process_at k p)) ps

abbrev pub plain_report : Kernel → List ℕ
plain_report k = ttys_report k (range_with_len 0 16) ++ pids_report k (map (λ (e : Pid × ProcState). e.0) k.processes)
