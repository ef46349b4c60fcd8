-- What a cluster holds, as contracts see it.
use Rattle.std.specs.Prelude.{ℕ, ◌+◌, ◌-◌, ◌*◌, ◌^◌, min, Bool, true, false, ◌||◌, nat_lt, if◌then◌else◌, List, [], ◌∷◌, length, Option, Some, None, option_map}
use Rattle.std.specs.List.{sum_by}
use Rattle.std.specs.Option.{option_map_or}
use Rattle.t32_base.specs.declared.process.Pid.{Pid}
use Rattle.t32_base.specs.declared.process.ClusterNo.{ClusterNo}
use Rattle.t32_base.specs.declared.letter.BackRec.{BackRec}
use Rattle.sys_text.specs.declared.system.System.{System}
use Rattle.proc_state.specs.declared.process.Process.{Process}
use Rattle.sys_calls.specs.Small.{weight_with_children}
use Rattle.bus_msg.specs.declared.entry.Post.{Post}
use Rattle.bus_msg.specs.declared.entry.What.{What}
use Rattle.bus_msg.specs.declared.entry.What.TheVariants.{Rebackup}
use Rattle.bus_msg.specs.Places.{Places}
use Rattle.quanta.specs.declared.limits.Limits.{Limits}
use Rattle.page_server.specs.Account.{Account, PagerState, account, no_pages}
use Rattle.residents.specs.Duty.{DutyView}
use Rattle.residents.specs.Owing.{duty_in}
use Rattle.residents.specs.Held.{Held, Runs, Rolls, Waits, held_of, with_renewed}

-- its system and number, the length of the log that it has taken in, and the placement then; the processes at home here; the records of
-- processes whose backup is here; the children that never synchronised; the pids of the processes that wait for their new backup, rising; what it keeps where
-- it is a page server: the accounts, the fetches that wait, and the counts of its disk; the posts that are still to be sent, and whether the first was tried;
-- its kernel steps, and the disk call that failed
pub record ClusterView : Type 0 where
  pub system : System
  pub number : ClusterNo
  pub cursor : ℕ
  pub places : Places
  pub here : List (Pid × Held)
  pub records : List BackRec
  pub family : List (Pid × Pid)
  pub owed : List ℕ
  pub server : Option PagerState
  pub queue : List Post
  pub tried : Bool
  pub steps : ℕ
  pub failed : Option ℕ

-- ---- questions

abbrev pub held_at : ClusterView → Pid → Option Held
held_at c p = held_of c.here p

-- after so many letters and steps the processes of a system are due to synchronise
abbrev pub limits_of : System → Limits
limits_of system = record { reads = system.syncreads; steps = system.syncsteps }

-- by these limits the processes here synchronise, and these are to get a new backup
abbrev pub duty_of : ClusterView → DutyView
duty_of c = duty_in (limits_of c.system) c.places c.here

-- no pages where it has no account of the process
abbrev pub account_at : ClusterView → Pid → Account
account_at c p = option_map_or (λ (s : PagerState). account s p) c.server no_pages

-- the calls of a disk, none where there is none
abbrev pub calls_in : Option PagerState → ℕ
calls_in server = option_map_or (λ (s : PagerState). (s.counts).calls) server 0

abbrev pub disk_calls : ClusterView → ℕ
disk_calls c = calls_in c.server

-- which calls of a disk fail, where there is one, as far as it tells
abbrev pub failing_in : Option PagerState → Option (Option (List ℕ))
failing_in server = option_map (λ (s : PagerState). (s.counts).failing) server

abbrev pub head_of : List Post → Option Post
head_of [] = None
head_of (post ∷ rest) = Some post

-- ---- the head was sent

-- where the head was a new backup for a process that has run, the process counts from where it stands
abbrev pub renewed_by : What → List (Pid × Held) → List (Pid × Held)
renewed_by (Rebackup to true (r ∷ rs)) here = with_renewed r.pid here
renewed_by _ here = here

-- the same by the head of these posts
abbrev pub renewed_by_head : List Post → List (Pid × Held) → List (Pid × Held)
renewed_by_head [] here = here
renewed_by_head (head ∷ rest) here = renewed_by head.what here

abbrev pub after_head : ClusterView → What → ClusterView
after_head c w = record c { here = renewed_by w c.here }

abbrev pub after_sent : ClusterView → List Post → ClusterView
after_sent c [] = c
after_sent c (head ∷ rest) = record (after_head c head.what) { queue = rest; tried = false }

-- ---- the page server

-- the same cluster, which keeps this as a page server
abbrev pub with_server : Option PagerState → ClusterView → ClusterView
with_server server c = record c { server = server }

-- ---- kernel steps

abbrev pub next_count : ℕ → ℕ
next_count n = min (n + 1) (2 ^ 64 - 1)

-- one kernel step more
abbrev pub counted_once : ClusterView → ClusterView
counted_once c = record c { steps = next_count c.steps }

-- a call of its disk failed, by a kernel step: no process is there any more
abbrev pub failed_at : ℕ → ClusterView → ClusterView
failed_at call c = record c { here = []; steps = next_count c.steps; failed = Some call }

-- the head was tried, by a kernel step
abbrev pub tried_once : ClusterView → ClusterView
tried_once c = record c { tried = true; steps = next_count c.steps }

-- ---- what is left to do

-- it has made a step or read a letter since its last synchronisation
abbrev pub has_moved : Process → Bool
has_moved p = nat_lt p.since (p.small).steps || nat_lt 0 (length p.read)

-- two for each step that a process and the children that it may still fork have left at most, and one for a synchronisation
abbrev pub process_load : Process → ℕ
process_load p = 2 * weight_with_children p.small + (if has_moved p then 1 else 0)

abbrev pub held_load : Held → ℕ
held_load (Runs p) = process_load p
held_load (Rolls p counts births) = process_load p
held_load (Waits waiting) = 0

-- the same of all processes here
abbrev pub load : ClusterView → ℕ
load c = sum_by (λ (e : Pid × Held). held_load e.1) c.here
