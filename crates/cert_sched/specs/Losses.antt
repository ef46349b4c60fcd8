-- The words of a script that name a kernel step or a disk call of a cluster, and how many of these a cluster has made at least.
use Rattle.std.specs.Prelude.{ℕ, ◌+◌, ◌-◌, ◌^◌, min, Bool, true, false, not, ◌&&◌, ◌||◌, ◌==◌, nat_le, nat_lt, if◌then◌else◌, List, [], ◌∷◌, length, count_by}
use Rattle.std.specs.List.{list_any, sum_by}
use Rattle.std.specs.Option.{option_map_or}
use Rattle.t32_base.specs.declared.process.Pid.{Pid}
use Rattle.t32_base.specs.declared.process.ClusterNo.{ClusterNo}
use Rattle.sys_text.specs.declared.system.System.{System}
use Rattle.sys_text.specs.declared.system.Root.{Root}
use Rattle.sys_text.specs.Boot.{roots_of}
use Rattle.plain_kernel.specs.Kernel.{root_process}
use Rattle.bus_msg.specs.declared.entry.What.{What}
use Rattle.bus_msg.specs.declared.entry.What.TheVariants.{Page, PageIs, Crash}
use Rattle.bus_msg.specs.declared.entry.Cause.{Cause}
use Rattle.bus_msg.specs.declared.entry.Cause.TheVariants.{Place, Step, Disk}
use Rattle.bus_msg.specs.declared.entry.By.{By}
use Rattle.bus_msg.specs.declared.entry.By.TheVariants.{Cluster, Bus}
use Rattle.bus_msg.specs.declared.entry.Entry.{Entry}
use Rattle.bus_msg.specs.Places.{same_cluster}
use Rattle.bus_msg.specs.PlacedAfter.{what}
use Rattle.cert_sched.specs.declared.script.ScriptWord.{ScriptWord}
use Rattle.cert_sched.specs.declared.script.ScriptWord.TheVariants.{CrashAt, CrashStep, DiskAt, ReturnAt}
use Rattle.cert_sched.specs.Told.{cluster_lost}

-- ---- entries and words

abbrev pub is_from : ClusterNo → By → Bool
is_from k (Cluster j) = same_cluster j k
is_from k Bus = false

-- an entry that the cluster sent
abbrev pub is_by_cluster : ClusterNo → Entry → Bool
is_by_cluster k e = is_from k (e.post).by

abbrev pub is_crash_of : ClusterNo → What → Bool
is_crash_of k w = option_map_or (λ j. same_cluster j k) (cluster_lost w) false

abbrev pub was_lost_in : List Entry → ClusterNo → Bool
was_lost_in log k = list_any (λ e. is_crash_of k (what e)) log

-- the cause is this step, or this disk call
abbrev pub is_step : ℕ → Cause → Bool
is_step n Place = false
is_step n (Step m) = m == n
is_step n (Disk m) = false

abbrev pub is_disk : ℕ → Cause → Bool
is_disk n Place = false
is_disk n (Step m) = false
is_disk n (Disk m) = m == n

abbrev pub is_step_crash : ClusterNo → ℕ → What → Bool
is_step_crash k n (Crash j cause) = same_cluster j k && is_step n cause
is_step_crash k n _ = false

abbrev pub is_disk_crash : ClusterNo → ℕ → What → Bool
is_disk_crash k n (Crash j cause) = same_cluster j k && is_disk n cause
is_disk_crash k n _ = false

-- a word by which a cluster is lost
abbrev pub is_loss_word : ScriptWord → Bool
is_loss_word (CrashAt k place) = true
is_loss_word (CrashStep k step) = true
is_loss_word (DiskAt k call) = true
is_loss_word (ReturnAt k place) = false

abbrev pub is_step_word : ClusterNo → ℕ → ScriptWord → Bool
is_step_word k n (CrashAt j place) = false
is_step_word k n (CrashStep j step) = same_cluster j k && step == n
is_step_word k n (DiskAt j call) = false
is_step_word k n (ReturnAt j place) = false

abbrev pub is_disk_word : ClusterNo → ℕ → ScriptWord → Bool
is_disk_word k n (CrashAt j place) = false
is_disk_word k n (CrashStep j step) = false
is_disk_word k n (DiskAt j call) = same_cluster j k && call == n
is_disk_word k n (ReturnAt j place) = false

-- ---- the least counts

abbrev pub is_page_entry : What → Bool
is_page_entry (Page pid at index bytes) = true
is_page_entry _ = false

abbrev pub is_page_is_entry : What → Bool
is_page_is_entry (PageIs pid index bytes) = true
is_page_is_entry _ = false

-- the pages of all roots
abbrev pub root_pages : System → ℕ
root_pages system = sum_by (λ (r : Pid × Root). ((root_process system r.0 r.1).small).pages) (roots_of system)

-- a cluster that has taken in these entries and sent its own of those has made at least so many kernel steps: one for each
abbrev pub least_steps : List Entry → List Entry → ClusterNo → ℕ
least_steps heard sent k = length heard + count_by (is_by_cluster k) sent

-- and, as a page server, so many disk calls: one for each page of a root, each page that came, and each that it answered
abbrev pub least_calls : System → List Entry → List Entry → ClusterNo → ℕ
least_calls system heard sent k =
    root_pages system + count_by (λ (e : Entry). is_page_entry (what e)) heard + count_by (λ (e : Entry). is_page_is_entry (what e) && is_by_cluster k e) sent

-- a count stands still at the greatest 64-bit number
abbrev pub capped : ℕ → ℕ
capped n = min n (2 ^ 64 - 1)

-- ---- losses at a step or a disk call

-- the part of a log before the last entry that passes
abbrev pub before_last : (Entry → Bool) → List Entry → List Entry
before_last test [] = []
before_last test (e ∷ log) = if list_any test log then e ∷ before_last test log else []

-- what the cluster had heard when it sent its last entry
abbrev pub heard : ClusterNo → List Entry → List Entry
heard k log = before_last (is_by_cluster k) log

-- the cluster was lost before, or has sent nothing, or has made as many steps or calls by then
abbrev pub may_be_lost_at : List Entry → ClusterNo → ℕ → ℕ → Bool
may_be_lost_at log k least n = was_lost_in log k || not (list_any (is_by_cluster k) log) || nat_le least n

abbrev pub has_step_left : List ScriptWord → List Entry → ClusterNo → ℕ → Bool
has_step_left script log k n = nat_lt (count_by (λ e. is_step_crash k n (what e)) log) (count_by (is_step_word k n) script)

abbrev pub has_disk_left : List ScriptWord → List Entry → ClusterNo → ℕ → Bool
has_disk_left script log k n = nat_lt (count_by (λ e. is_disk_crash k n (what e)) log) (count_by (is_disk_word k n) script)

-- a loss at a step or a disk call stands at most as often as the script has the word, and not before the least count
abbrev pub is_scripted_cause : System → List ScriptWord → List Entry → ClusterNo → Cause → Bool
is_scripted_cause system script log k Place = true
is_scripted_cause system script log k (Step n) = has_step_left script log k n && may_be_lost_at log k (least_steps (heard k log) log k) n
is_scripted_cause system script log k (Disk n) = has_disk_left script log k n && may_be_lost_at log k (least_calls system (heard k log) log k) n

abbrev pub is_scripted_loss : System → List ScriptWord → List Entry → What → Bool
is_scripted_loss system script log (Crash k cause) = is_scripted_cause system script log k cause
is_scripted_loss system script log _ = true
