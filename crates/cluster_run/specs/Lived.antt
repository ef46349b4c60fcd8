-- The clusters that did the work of a run: each followed the log for as long as it lived.
use Rattle.std.specs.Prelude.{ℕ, ◌+◌, ◌≤◌, ◌<◌, ◌≡◌, ◌⊎◌, Bool, true, false, not, ◌&&◌, ◌||◌, ◌==◌, List, [], ◌∷◌, length, take, slice_get, Option, Some, None, ⊤}
use Rattle.std.specs.List.{list_any}
use Rattle.t32_base.specs.declared.process.ClusterNo.{ClusterNo}
use Rattle.sys_text.specs.declared.system.System.{System}
use Rattle.bus_msg.specs.declared.entry.Cause.{Cause}
use Rattle.bus_msg.specs.declared.entry.Cause.TheVariants.{Place, Step, Disk}
use Rattle.bus_msg.specs.declared.entry.Entry.{Entry}
use Rattle.bus_msg.specs.Places.{same_cluster}
use Rattle.cert_sched.specs.declared.script.ScriptWord.{ScriptWord}
use Rattle.cert_sched.specs.Losses.{is_disk_word}
use Rattle.cluster_core.specs.View.{ClusterView}
use Rattle.cluster_core.specs.Follows.{Follows, StandsBetween}
use Rattle.cluster_turns.specs.Lives.{EndsBy, begins_at, end_cause, end_of_life, ends_at_done, has_sent}
use Rattle.cluster_run.specs.declared.life.Life.{Life}

-- it followed the log up to a place, and sent nothing later
pub record FollowedUpto (Follow : System → List Entry → ClusterView → Type 0) (system : System) (log : List Entry) (l : Life) : Type 0 where
  pub follows : Follow system (take l.upto log) l.value
  pub sent_before : has_sent log l.cluster l.upto (end_of_life log l.cluster l.from + 1) ≡ false

-- it stands between the log up to a place and the entry there, its last one; this life does not end with the run
pub record LeftBetween (Follow : System → List Entry → ClusterView → Type 0) (system : System) (log : List Entry) (l : Life) : Type 0 where
  pub entry : Entry
  pub there : slice_get log l.upto ≡ Some entry
  pub lost : ends_at_done log l.cluster l.from ≡ false
  pub between : StandsBetween Follow system (take l.upto log) entry l.value
  pub sent_before : has_sent log l.cluster (l.upto + 1) (end_of_life log l.cluster l.from + 1) ≡ false

-- Where it has not failed it followed the log, to the end where the life ends with the run. Only a word of the script makes it fail.
pub record LifeHolds (Follow : System → List Entry → ClusterView → Type 0) (system : System) (script : List ScriptWord) (log : List Entry) (l : Life) : Type 0 where
  pub begins : begins_at log l.cluster l.from ≡ true
  pub number : (l.value).number ≡ l.cluster
  pub within : l.upto ≤ end_of_life log l.cluster l.from
  pub followed : (l.value).failed ≡ None → FollowedUpto Follow system log l ⊎ LeftBetween Follow system log l
  pub to_the_end : ends_at_done log l.cluster l.from ≡ true → (l.value).failed ≡ None → l.upto ≡ end_of_life log l.cluster l.from
  pub lost_by : EndsBy (end_cause log l.cluster l.from) l.value
  pub failed_by : (n : ℕ) → (l.value).failed ≡ Some n → list_any (is_disk_word l.cluster n) script ≡ true

abbrev pub AllLives : (System → List Entry → ClusterView → Type 0) → System → List ScriptWord → List Entry → List Life → Type 0
AllLives Follow system script log [] = ⊤
AllLives Follow system script log (l ∷ ls) = LifeHolds Follow system script log l × AllLives Follow system script log ls

-- ---- which lives are there

abbrev pub is_life : ClusterNo → ℕ → Life → Bool
is_life k from l = same_cluster l.cluster k && l.from == from

-- no two stand for the same life
abbrev pub are_distinct : List Life → Bool
are_distinct [] = true
are_distinct (l ∷ ls) = not (list_any (is_life l.cluster l.from) ls) && are_distinct ls

abbrev pub is_at_step_or_disk : Option Cause → Bool
is_at_step_or_disk None = false
is_at_step_or_disk (Some Place) = false
is_at_step_or_disk (Some (Step n)) = true
is_at_step_or_disk (Some (Disk n)) = true

-- nothing was sent in this life, and it ends neither with the run nor at a step or a disk call
abbrev pub may_be_left_out : List Entry → ClusterNo → ℕ → Bool
may_be_left_out log k from =
    not (has_sent log k from (end_of_life log k from + 1)) && not (ends_at_done log k from) && not (is_at_step_or_disk (end_cause log k from))

-- each life is there once, as far as it may not be left out, and each that is there followed the log, by a relation
pub record LivedBy (Follow : System → List Entry → ClusterView → Type 0) (system : System) (script : List ScriptWord) (log : List Entry) (lives : List Life) : Type 0 where
  pub each : AllLives Follow system script log lives
  pub distinct : are_distinct lives ≡ true
  pub all_there : (k : ClusterNo) (from : ℕ) → k.0 < system.clusters → from ≤ length log → begins_at log k from ≡ true →
      (list_any (is_life k from) lives || may_be_left_out log k from) ≡ true

-- the clusters of a run did its work
abbrev pub Lived : System → List ScriptWord → List Entry → List Life → Type 0
Lived system script log lives = LivedBy Follows system script log lives
