-- Which clusters of a run have stopped.
use Rattle.std.specs.Prelude.{ℕ, ◌≡◌, ◌⊎◌, Bool, false, List, length, slice_get, Some}
use Rattle.cluster_core.specs.View.{ClusterView}
use Rattle.bus_order.specs.View.{BusView}
use Rattle.cluster_turns.specs.Along.{IsAlong, IsFailed}

-- a cluster that has not stopped is along its bus, or a call of its disk failed
abbrev pub MovesUnless : BusView → Bool → ClusterView → Type 0
MovesUnless b stopped c = stopped ≡ false → IsAlong b c ⊎ IsFailed b c

-- so each of these clusters
pub record AreStopped (b : BusView) (cs : List ClusterView) (stopped : List Bool) : Type 0 where
  pub each : length stopped ≡ length cs
  pub moving : (n : ℕ) (c : ClusterView) (t : Bool) → slice_get cs n ≡ Some c → slice_get stopped n ≡ Some t → MovesUnless b t c
