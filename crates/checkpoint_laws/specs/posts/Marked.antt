-- What the next synchronisation of a process sends.
use Rattle.std.specs.Prelude.{ℕ, ◌≡◌, ◌<◌, Bool, true, false, nat_lt, List, filter, slice_get, Some}
use Rattle.std.specs.Option.{option_map_or}
use Rattle.t32_base.specs.declared.process.Pid.{Pid}
use Rattle.t32_base.specs.declared.letter.Arrived.{Arrived}
use Rattle.sys_text.specs.declared.system.System.{System}
use Rattle.rv_mem.specs.Memory.{page_at}
use Rattle.proc_state.specs.declared.process.Process.{Process}
use Rattle.bus_msg.specs.declared.entry.Entry.{Entry}
use Rattle.cert_sched.specs.Parts.{rising}
use Rattle.cert_sched.specs.Account.{account_after, page_in}
use Rattle.cert_sched.specs.Moved.{any_since_moved, is_page_at}
use Rattle.cert_sched.specs.Steps.{numbers_read, saved_of, start_steps}

abbrev pub is_dirty : Process → ℕ → Bool
is_dirty p i = option_map_or (λ b. b) (slice_get (p.ram).dirty i) false

-- the letters that have arrived where so many had: those with a lower number
abbrev pub arrived_below : ℕ → List Arrived → List Arrived
arrived_below next letters = filter (λ (a : Arrived). nat_lt a.number next) letters

-- It counts from the steps of its start, has read these letters of those that arrived since, and each page without a mark is that of its account. No page with a mark
-- was sent at its present step count.
pub record IsMarked (system : System) (log : List Entry) (p : Pid) (process : Process) : Type 0 where
  pub since_start : process.since ≡ start_steps system log p
  pub read : rising process.read ≡ numbers_read (arrived_below (process.mail).next (saved_of system log p)) (process.mail).letters
  pub clean : (i : ℕ) → i < (process.small).pages → is_dirty process i ≡ false → page_in (account_after system log p).now i ≡ Some (page_at (process.ram).bytes i)
  pub unsent : (i : ℕ) → i < (process.small).pages → is_dirty process i ≡ true → any_since_moved system log p (is_page_at p i (process.small).steps) ≡ false
