-- How much is left to ask for and to answer of the pages of processes that a loss moved.
use Rattle.std.specs.Prelude.{ℕ, ◌+◌, ◌*◌, Bool, not, if◌then◌else◌, List, length, count_by, sum_by}
use Rattle.std.specs.List.{range_with_len}
use Rattle.t32_base.specs.declared.process.Pid.{Pid}
use Rattle.sys_text.specs.declared.system.System.{System}
use Rattle.bus_msg.specs.declared.entry.Entry.{Entry}
use Rattle.bus_msg.specs.declared.placed.Placed.{Placed}
use Rattle.bus_msg.specs.Places.{unended_in}
use Rattle.cert_sched.specs.Schedule.{placement}
use Rattle.cert_sched.specs.Moved.{moved_with_state, any_since_moved, is_fetch, waiting_fetches}
use Rattle.cert_sched.specs.Steps.{page_count}

-- page i of the process was not fetched since a crash moved it
abbrev pub is_unasked : System → List Entry → Pid → ℕ → Bool
is_unasked system log p i = not (any_since_moved system log p (is_fetch p i))

-- how many pages of a process are still to be fetched: none of one that was not moved with a state
abbrev pub unasked_of : System → List Entry → Pid → ℕ
unasked_of system log p =
    if moved_with_state system log p then count_by (is_unasked system log p) (range_with_len 0 (page_count system log p)) else 0

-- how many pages are still to be fetched, of all processes that have not ended
abbrev pub unasked : System → List Entry → ℕ
unasked system log = sum_by (λ (q : Placed). unasked_of system log q.pid) (unended_in (placement system log))

-- each page is to be fetched and to come; one that was fetched is to come
abbrev pub left_of_pages : System → List Entry → ℕ
left_of_pages system log = 2 * unasked system log + length (waiting_fetches system log)
