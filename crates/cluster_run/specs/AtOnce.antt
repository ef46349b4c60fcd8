-- A cluster that was lost in its turn and has come back goes on in the same turn.
use Rattle.std.specs.Prelude.{◌≡◌, ◌⊎◌}
use Rattle.cluster_core.specs.View.{ClusterView}
use Rattle.bus_order.specs.View.{BusView}
use Rattle.cluster_turns.specs.Progress.{Falls, remaining_of}
use Rattle.cluster_turns.specs.Turns.{GoesOwn, TurnsOwn}

-- on a bus whose log goes on it did what a turn does, and less is left
pub record GoesFurther (b after : BusView) (c new : ClusterView) : Type 0 where
  pub goes_on : GoesOwn b
  pub turns : TurnsOwn b after c new
  pub falls : Falls (remaining_of b c) (remaining_of after new)

-- it and its bus are as they were, or it went on
abbrev pub GoesOnAtOnce : BusView → BusView → ClusterView → ClusterView → Type 0
GoesOnAtOnce b after c new = ((after ≡ b) × (new ≡ c)) ⊎ GoesFurther b after c new
