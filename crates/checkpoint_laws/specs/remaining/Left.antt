-- How many posts clusters may still send after a log, while no cluster is lost.
use Rattle.std.specs.Prelude.{ℕ, ◌+◌, ◌*◌, Bool, true, false, not, ◌&&◌, ◌||◌, nat_lt, if◌then◌else◌, List, is_none, count_by}
use Rattle.std.specs.List.{sum_by, range_with_len}
use Rattle.std.specs.Option.{option_map_or}
use Rattle.t32_base.specs.declared.process.Pid.{Pid}
use Rattle.t32_base.specs.Small.{SmallState}
use Rattle.sys_text.specs.declared.system.System.{System}
use Rattle.proc_state.specs.State.{ProcState, is_live}
use Rattle.sys_calls.specs.Small.{weight}
use Rattle.plain_kernel.specs.Kernel.{boot}
use Rattle.bus_msg.specs.declared.entry.What.{What}
use Rattle.bus_msg.specs.declared.entry.What.TheVariants.{Mail, Birth, Exit, Page, Sync, Fetch, PageIs}
use Rattle.bus_msg.specs.declared.entry.Entry.{Entry}
use Rattle.bus_msg.specs.declared.placed.Placed.{Placed}
use Rattle.bus_msg.specs.Places.{unended_in}
use Rattle.cert_sched.specs.Schedule.{placement, process_after, done_after}
use Rattle.cert_sched.specs.Record.{has_state}
use Rattle.cert_sched.specs.Moved.{any_since_moved, is_page_at}
use Rattle.cert_sched.specs.Steps.{start_steps, page_count}
use Rattle.log_laws.specs.pages.Left.{left_of_pages}
use Rattle.checkpoint_laws.specs.remaining.Load.{left_of_children, log_births, log_load}

-- the kinds of entries that a cluster sends while none is lost: letters, births, exits, changed pages, synchronisations, pages that are asked for and that come
abbrev pub is_from_cluster : What → Bool
is_from_cluster (Mail at letter) = true
is_from_cluster (Birth parent at child end) = true
is_from_cluster (Exit pid at end) = true
is_from_cluster (Page pid at index bytes) = true
is_from_cluster (Sync pid small read took) = true
is_from_cluster (Fetch pid index) = true
is_from_cluster (PageIs pid index bytes) = true
is_from_cluster _ = false

-- ---- one process

-- the process has made steps since its start
abbrev pub has_stepped : System → List Entry → Pid → Bool
has_stepped system log p = nat_lt (start_steps system log p) (done_after system log p)

-- it may synchronise: it has made steps since its start, or is a child that was never cut
abbrev pub may_sync : System → List Entry → Pid → Bool
may_sync system log p = has_stepped system log p || not (has_state system log p)

-- where a signal comes it is taken: the process is live, and no handler of it runs
abbrev pub takes_signals : SmallState → Bool
takes_signals s = is_live s.status && is_none s.frame

-- the process is there, and takes a signal that comes
abbrev pub may_take : System → List Entry → Pid → Bool
may_take system log p = option_map_or (λ (s : ProcState). takes_signals s.small) (process_after system log p) false

-- the steps that a process has made, and those that it has left at most
abbrev pub most_of : ProcState → ℕ
most_of s = (s.small).steps + weight s.small

-- the most steps that the process can ever have made
abbrev pub most_steps : System → List Entry → Pid → ℕ
most_steps system log p = option_map_or most_of (process_after system log p) 0

-- since a crash moved the process, its page i was not sent as it was at a step count
abbrev pub is_unsent : System → List Entry → Pid → ℕ → ℕ → Bool
is_unsent system log p i steps = not (any_since_moved system log p (is_page_at p i steps))

-- how many pairs of a page and a step count up to the most pass a test
abbrev pub pairs_that : (ℕ → ℕ → Bool) → ℕ → ℕ → ℕ
pairs_that test pages most = sum_by (λ i. count_by (test i) (range_with_len 0 (most + 1))) (range_with_len 0 pages)

-- how many pages of the process may still be sent, each as it is at each step count that it can have
abbrev pub unsent_of : System → List Entry → Pid → ℕ
unsent_of system log p = pairs_that (is_unsent system log p) (page_count system log p) (most_steps system log p)

-- a synchronisation where the process may synchronise, one more where it may take a signal, and its pages
abbrev pub left_of_process : System → List Entry → Pid → ℕ
left_of_process system log p = (if may_sync system log p then 1 else 0) + (if may_take system log p then 1 else 0) + unsent_of system log p

-- ---- all processes

-- the same of all processes that have not ended, and of the children that may still be born
abbrev pub left_of_syncs : System → List Entry → ℕ
left_of_syncs system log = sum_by (λ (q : Placed). left_of_process system log q.pid) (unended_in (placement system log)) + log_births system log

-- At least as much as clusters may still send: three for each step that is left, a letter, an exit or a birth, a synchronisation, and one that takes a signal; the pages that are asked
-- for and that come; the changed pages, a synchronisation of each process that has made steps or is a child that was never cut, and one of each that may take a signal; and these of
-- each child that may still be born.
abbrev pub left_to_send : System → List Entry → ℕ
left_to_send system log = 3 * log_load system log + left_of_pages system log + left_of_syncs system log

-- ---- how much it can be

-- a synchronisation, one that takes a signal, every page at every step count that the process can have, and the same of the children that it may still fork
abbrev pub most_of_process : SmallState → ℕ
most_of_process s = 2 + s.pages * (s.steps + weight s + 1) + left_of_children s

-- the same of all processes at boot
abbrev pub most_syncs : System → ℕ
most_syncs system = sum_by (λ (e : Pid × ProcState). most_of_process (e.1).small) (boot system).processes
