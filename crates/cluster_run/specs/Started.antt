-- The clusters of a system at their start.
use Rattle.std.specs.Prelude.{ℕ, ◌≡◌, ◌⊎◌, List, [], length, slice_get, Some, None}
use Rattle.sys_text.specs.declared.system.System.{System}
use Rattle.cert_sched.specs.declared.script.ScriptWord.{ScriptWord}
use Rattle.cluster_core.specs.View.{ClusterView}
use Rattle.cluster_core.specs.Follows.{Follows}
use Rattle.cluster_core.specs.Calls.{IsFirst}
use Rattle.cluster_turns.specs.Disks.{HasFailed, IsDiskOf}

-- the cluster with a number has done nothing yet, and follows the empty log, or a call of its disk failed that a word of the script names
pub record IsStarted (system : System) (script : List ScriptWord) (number : ℕ) (c : ClusterView) : Type 0 where
  pub number_is : (c.number).0 ≡ number
  pub first : IsFirst system c.number c
  pub disk : IsDiskOf script [] c
  pub stands : ((c.failed ≡ None) × Follows system [] c) ⊎ HasFailed script c

-- so many clusters, each at the place of its number
pub record AllStarted (system : System) (script : List ScriptWord) (count : ℕ) (cs : List ClusterView) : Type 0 where
  pub each : length cs ≡ count
  pub started : (n : ℕ) (c : ClusterView) → slice_get cs n ≡ Some c → IsStarted system script n c
