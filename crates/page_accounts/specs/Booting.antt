-- What a page server puts at boot, and what its disk counts by then.
use Rattle.std.specs.Prelude.{ℕ, ◌≡◌, ◌+◌, ◌<◌, ◌≤◌, ◌^◌, true, nat_le, List, [], Result, Ok, Err}
use Rattle.std.specs.List.{list_all, sum_by}
use Rattle.std.specs.Option.{IfSome}
use Rattle.proc_state.specs.State.{ProcState}
use Rattle.cert_sched.specs.Account.{Account, all_pages}
use Rattle.cert_sched.specs.Losses.{capped}
use Rattle.page_server.specs.declared.disk.DiskRefused.{DiskRefused}
use Rattle.page_server.specs.declared.disk.DiskRefused.TheVariants.{Fault, NoMemory}
use Rattle.page_server.specs.Disk.{Counts, Failed}

-- both accounts hold every page of a memory
abbrev pub whole_memory : List ℕ → Account
whole_memory bytes = record { now = all_pages bytes; kept = all_pages bytes }

-- the pages of the memories of processes
abbrev pub pages_of : List (ℕ × ProcState) → ℕ
pages_of es = sum_by (λ (e : ℕ × ProcState). ((e.1).small).pages) es

-- the uncommitted account alone holds every page of a memory
abbrev pub memory_put : List ℕ → Account
memory_put bytes = record { now = all_pages bytes; kept = [] }

-- a u64 holds the count of calls, and each call that fails is still to come, where the disk tells them
abbrev pub IsAhead : Counts → Type 0
IsAhead counts = (counts.calls < 2 ^ 64) × IfSome counts.failing (λ (failing : List ℕ). list_all (λ n. nat_le counts.calls n) failing ≡ true)

-- so many calls of the disk were carried out, as far as a count goes, none of them one that fails, and the count of faults did not fall
pub record CallsMade (made : ℕ) (old new : Counts) : Type 0 where
  pub least : capped (old.calls + made) ≤ new.calls
  pub most : new.calls ≤ old.calls + made
  pub faults : old.faults ≤ new.faults
  pub failing : new.failing ≡ old.failing
  pub ahead : IsAhead old → IsAhead new

-- fewer calls than these were carried out
pub record FewerMade (calls : ℕ) (old new : Counts) : Type 0 where
  pub made : ℕ
  pub fewer : made < calls
  pub so_many : CallsMade made old new

-- one of so many calls failed: it has the number of the calls before it, and the count of faults rose
pub record FailedAmong (calls : ℕ) (old new : Counts) (call : ℕ) : Type 0 where
  pub before : Counts
  pub made : FewerMade calls old before
  pub failed : Failed before new call

-- what the disk counts after so many pages were to be put, by one call each
abbrev pub CountsAfterPuts : ℕ → Counts → Counts → Result (Unit {0}) DiskRefused → Type 0
CountsAfterPuts pages old new (Ok done) = CallsMade pages old new
CountsAfterPuts pages old new (Err (Fault fault)) = FailedAmong pages old new fault.call
CountsAfterPuts pages old new (Err NoMemory) = FewerMade pages old new
