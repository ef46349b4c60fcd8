-- The two accounts of the pages of a process, which the page servers keep, after a log.
use Rattle.std.specs.Prelude.{ℕ, zero, suc, ◌+◌, ◌/◌, Bool, false, if◌then◌else◌, List, [], ◌∷◌, fold, length, take, drop}
use Rattle.std.specs.Option.{option_map_or}
use Rattle.std.specs.Ordering.{nat_cmp}
use Rattle.std.specs.FinMap.{put}
use Rattle.t32_base.specs.declared.process.Pid.{Pid}
pub use Rattle.t32_base.specs.Account.{Account, no_pages, page_in, committed, reverted}
use Rattle.sys_text.specs.declared.system.System.{System}
use Rattle.proc_state.specs.State.{ProcState}
use Rattle.plain_kernel.specs.Kernel.{boot, process_at}
use Rattle.bus_msg.specs.declared.entry.What.{What}
use Rattle.bus_msg.specs.declared.entry.What.TheVariants.{Exit, Page}
use Rattle.bus_msg.specs.declared.entry.Entry.{Entry}
use Rattle.bus_msg.specs.Places.{same_pid}
use Rattle.bus_msg.specs.PlacedAfter.{what}
use Rattle.cert_sched.specs.Told.{Told, told, moves}
use Rattle.cert_sched.specs.Deeds.{is_cut}

-- so many pages of bytes, numbered from i on
abbrev pub pages_from : ℕ → ℕ → List ℕ → List (ℕ × List ℕ)
pages_from i zero bytes = []
pages_from i (suc n) bytes = (i, take 256 bytes) ∷ pages_from (i + 1) n (drop 256 bytes)

-- every page of a memory
abbrev pub all_pages : List ℕ → List (ℕ × List ℕ)
all_pages bytes = pages_from 0 (length bytes / 256) bytes

abbrev pub image_pages : ProcState → Account
image_pages s = record { now = all_pages s.memory; kept = all_pages s.memory }

-- at boot both accounts of a root hold its whole memory; those of a child are empty
abbrev pub account_at_boot : System → Pid → Account
account_at_boot system p = option_map_or image_pages (process_at (boot system) p) no_pages

abbrev pub page_put : Pid → What → List (ℕ × List ℕ) → List (ℕ × List ℕ)
page_put p (Page pid at index bytes) pages = if same_pid pid p then put nat_cmp index bytes pages else pages
page_put p _ pages = pages

abbrev pub is_exit_of : Pid → What → Bool
is_exit_of p (Exit pid at end) = same_pid pid p
is_exit_of p _ = false

-- its exit empties both; a cut keeps what came; a crash that moves the process goes back to what was kept
abbrev pub account_step : Pid → Account → Told → Account
account_step p a t =
    if is_exit_of p (what t.entry) then no_pages
    else if is_cut p (what t.entry) then committed a
    else if moves p t then reverted a
    else record { now = page_put p (what t.entry) a.now; kept = a.kept }

-- both accounts after a log
unfoldable pub account_after : System → List Entry → Pid → Account
account_after system log p = fold (account_step p) (account_at_boot system p) (told system log)
