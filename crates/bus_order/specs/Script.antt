-- The words of a script beside a log: which are used, and since when a cluster is off.
use Rattle.std.specs.Prelude.{ℕ, ◌≡◌, ◌+◌, ◌<◌, Bool, true, false, not, ◌||◌, nat_le, if◌then◌else◌, List, find, length, count_by, remove, Option, Some, None}
use Rattle.std.specs.List.{list_any}
use Rattle.t32_base.specs.declared.process.ClusterNo.{ClusterNo}
use Rattle.proc_state.specs.Mail.{without_first}
use Rattle.bus_msg.specs.declared.entry.What.{What}
use Rattle.bus_msg.specs.declared.entry.What.TheVariants.{Crash, Return}
use Rattle.bus_msg.specs.declared.entry.Cause.{Cause}
use Rattle.bus_msg.specs.declared.entry.Cause.TheVariants.{Place, Step, Disk}
use Rattle.bus_msg.specs.declared.entry.Entry.{Entry}
use Rattle.bus_msg.specs.Places.{same_cluster}
use Rattle.bus_msg.specs.PlacedAfter.{what}
use Rattle.cert_sched.specs.declared.script.ScriptWord.{ScriptWord}
use Rattle.cert_sched.specs.declared.script.ScriptWord.TheVariants.{CrashAt, CrashStep, DiskAt, ReturnAt}
use Rattle.cert_sched.specs.Parts.{last_that}
use Rattle.bus_order.specs.declared.script.Turn.{Turn}
use Rattle.bus_order.specs.declared.script.Turn.TheVariants.{Lost, Back}
use Rattle.cert_sched.specs.Losses.{is_crash_of, is_step_crash, is_disk_crash, is_step_word, is_disk_word}

-- ---- the words

-- a word for the loss of this cluster at this step, or at this disk call
abbrev pub is_word_for : ClusterNo → Cause → ScriptWord → Bool
is_word_for k Place w = false
is_word_for k (Step n) w = is_step_word k n w
is_word_for k (Disk n) w = is_disk_word k n w

-- such a word is left
abbrev pub has_unused : List ScriptWord → ClusterNo → Cause → Bool
has_unused left k cause = list_any (is_word_for k cause) left

-- this word is the first that passes, and has this number
abbrev pub IsFirst : (ScriptWord → Bool) → List ScriptWord → ℕ → ScriptWord → Type 0
IsFirst test words number word = (find test words ≡ Some word) × (number < length words) × (remove words number ≡ without_first test words)

-- a loss of this cluster at this step, or at this disk call
abbrev pub is_loss_for : ClusterNo → Cause → What → Bool
is_loss_for k Place w = false
is_loss_for k (Step n) w = is_step_crash k n w
is_loss_for k (Disk n) w = is_disk_crash k n w

-- the words for a step or a disk call that are left, and the losses there, are together as many as the words of the script
abbrev pub AccountsFor : List ScriptWord → List ScriptWord → List Entry → Type 0
AccountsFor script left log =
    (k : ClusterNo) (cause : Cause) → count_by (is_word_for k cause) left + count_by (λ (e : Entry). is_loss_for k cause (what e)) log ≡ count_by (is_word_for k cause) script

-- a word for a step of this cluster gave a crash, or the cluster has made no more steps than it names
abbrev pub is_unpassed : ClusterNo → List Entry → ℕ → ScriptWord → Bool
is_unpassed k log steps (CrashAt j place) = true
is_unpassed k log steps (CrashStep j step) = not (same_cluster j k) || list_any (λ e. is_step_crash j step (what e)) log || nat_le steps step
is_unpassed k log steps (DiskAt j call) = true
is_unpassed k log steps (ReturnAt j place) = true

-- a word for a disk call of this cluster names none that was made
abbrev pub is_uncalled : ClusterNo → ℕ → ScriptWord → Bool
is_uncalled k calls (CrashAt j place) = true
is_uncalled k calls (CrashStep j step) = true
is_uncalled k calls (DiskAt j call) = not (same_cluster j k) || nat_le calls call
is_uncalled k calls (ReturnAt j place) = true

-- what a word does to a cluster
abbrev pub told_by : Turn → What
told_by (Lost k) = Crash k Place
told_by (Back k) = Return k

-- ---- off

-- an entry that tells of the loss or the return of a cluster
abbrev pub is_turn : What → Bool
is_turn (Crash k cause) = true
is_turn (Return k) = true
is_turn _ = false

-- of this cluster
abbrev pub turns : ClusterNo → What → Bool
turns k (Crash j cause) = same_cluster j k
turns k (Return j) = same_cluster j k
turns k _ = false

-- the place of an entry that loses the cluster
abbrev pub place_of_loss : ClusterNo → Option Entry → Option ℕ
place_of_loss k None = None
place_of_loss k (Some e) = if is_crash_of k (what e) then Some e.place else None

-- the place of a crash of the cluster that no return of it follows
abbrev pub off_at : List Entry → ClusterNo → Option ℕ
off_at log k = place_of_loss k (last_that (λ (e : Entry). turns k (what e)) log)
