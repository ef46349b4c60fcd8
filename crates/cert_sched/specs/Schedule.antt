-- The schedule of a log, and the kernel without failures and the placement after it.
use Rattle.std.specs.Prelude.{ℕ, ◌+◌, ◌-◌, true, false, ◌==◌, if◌then◌else◌, List, [], ◌∷◌, ◌++◌, map, fold, count_by, Option, Some, None, option_and_then}
use Rattle.std.specs.List.{flat_map}
use Rattle.std.specs.Option.{option_map_or}
use Rattle.t32_base.specs.declared.process.Pid.{Pid}
use Rattle.t32_base.specs.Small.{SmallState}
use Rattle.t32_base.specs.declared.letter.BackRec.{BackRec}
use Rattle.sys_text.specs.declared.system.System.{System}
use Rattle.sys_text.specs.declared.system.Root.{Root}
use Rattle.sys_text.specs.Boot.{pid_of, roots_of}
use Rattle.proc_state.specs.State.{ProcState}
use Rattle.plain_kernel.specs.declared.item.Item.{Item}
use Rattle.plain_kernel.specs.declared.item.Item.TheVariants.{Run, Fork, Take}
use Rattle.plain_kernel.specs.Kernel.{Kernel, boot, process_at}
use Rattle.plain_kernel.specs.Apply.{apply_all}
use Rattle.bus_msg.specs.declared.entry.What.{What}
use Rattle.bus_msg.specs.declared.entry.What.TheVariants.{Mail, Birth, Exit, Page, Sync, Fetch, PageIs, Crash, Return, Rebackup, Done, Stop}
use Rattle.bus_msg.specs.declared.entry.Entry.{Entry}
use Rattle.bus_msg.specs.declared.placed.Placed.{Placed}
use Rattle.bus_msg.specs.Places.{Places, boot_places}
use Rattle.bus_msg.specs.PlacedAfter.{what, placement_after}

-- ---- the items of an entry

-- the steps of a process in the schedule so far
abbrev pub done : Kernel → Pid → ℕ
done k p = option_map_or (λ (s : ProcState). (s.small).steps) (process_at k p) 0

-- a run of no steps gives no item
abbrev pub run_of : Pid → ℕ → List Item
run_of p n = if n == 0 then [] else Run p n ∷ []

-- the run of a process up to a step count
abbrev pub run_upto : Kernel → Pid → ℕ → List Item
run_upto k p at = run_of p (at - done k p)

abbrev pub take_of : Pid → Option ℕ → List Item
take_of p None = []
take_of p (Some g) = Take p ∷ []

-- the steps in the state of a record
abbrev pub steps_in : Option SmallState → ℕ
steps_in state = option_map_or (λ (s : SmallState). s.steps) state 0

abbrev pub run_of_first : Kernel → List BackRec → List Item
run_of_first k [] = []
run_of_first k (r ∷ rs) = run_upto k r.pid (steps_in r.state)

abbrev pub runs_of : Kernel → List (Pid × ℕ) → List Item
runs_of k rests = flat_map (λ (r : Pid × ℕ). run_upto k r.0 r.1) rests

-- what an entry adds to the schedule, where the kernel stands after the entries before it
abbrev pub items_of : Kernel → What → List Item
items_of k (Mail at letter) = run_upto k letter.from at
items_of k (Birth parent at child end) = run_upto k parent (at - 1) ++ Fork parent child ∷ []
items_of k (Exit pid at end) = run_upto k pid at
items_of k (Page pid at index bytes) = []
items_of k (Sync pid small read took) = run_upto k pid small.steps ++ take_of pid took
items_of k (Fetch pid index) = []
items_of k (PageIs pid index bytes) = []
items_of k (Crash cluster cause) = []
items_of k (Return cluster) = []
items_of k (Rebackup to true recs) = run_of_first k recs
items_of k (Rebackup to false recs) = []
items_of k (Done rests) = runs_of k rests
items_of k Stop = []

-- ---- the schedule of a log

-- the kernel after an entry, where its items can be applied
abbrev pub after_entry : Option Kernel → Entry → Option Kernel
after_entry kernel e = option_and_then (λ k. apply_all (items_of k (what e)) k) kernel

-- the kernel without failures after a log, where its items can be applied
unfoldable pub plain_after : System → List Entry → Option Kernel
plain_after system log = fold after_entry (Some (boot system)) log

abbrev pub items_in : Option Kernel → Entry → List Item
items_in None e = []
items_in (Some k) e = items_of k (what e)

abbrev pub schedule_from : Option Kernel → List Entry → List Item
schedule_from k [] = []
schedule_from k (e ∷ log) = items_in k e ++ schedule_from (after_entry k e) log

-- the items of the entries of a log, in order
unfoldable pub schedule_of : System → List Entry → List Item
schedule_of system log = schedule_from (Some (boot system)) log

-- a process in the kernel after a log
abbrev pub process_after : System → List Entry → Pid → Option ProcState
process_after system log p = option_and_then (λ k. process_at k p) (plain_after system log)

-- its steps there
abbrev pub done_after : System → List Entry → Pid → ℕ
done_after system log p = option_map_or (λ k. done k p) (plain_after system log) 0

-- ---- the placement of a log

-- the pid of a root after earlier ones
abbrev pub next_pid : List Root → Root → Pid
next_pid earlier root = pid_of (root.home).0 (1 + count_by (λ (q : Root). (q.home).0 == (root.home).0) earlier)

abbrev pub placed_root : Pid × Root → Placed
placed_root r = record { pid = r.0; home = (r.1).home; backup = Some (r.1).backup; mode = (r.1).mode; lost = None; ended = false; synced = false }

abbrev pub places_at_boot : System → Places
places_at_boot system = boot_places system.clusters system.pager (map placed_root (roots_of system))

-- where the processes of a system are placed after a log
unfoldable pub placement : System → List Entry → Places
placement system log = placement_after (places_at_boot system) log
