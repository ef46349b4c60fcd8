-- The forks that processes of a cluster have to make again, and the children that wait for them.
use Rattle.std.specs.Prelude.{◌≡◌, ◌&&◌, Bool, true, false, List, Some}
use Rattle.std.specs.List.{list_any}
use Rattle.t32_base.specs.declared.process.Pid.{Pid}
use Rattle.bus_msg.specs.Places.{same_pid}
use Rattle.cluster_core.specs.View.{ClusterView}
use Rattle.residents.specs.Held.{Held, Runs, Rolls, Waits, held_of, is_waiting}

-- A process has still to make the fork again that bears a child: one that runs has made each, one that rolls forward has those to make that are left, and one that waits has not begun.
abbrev pub has_to_bear : Pid → Held → Bool
has_to_bear child (Runs p) = false
has_to_bear child (Rolls p counts births) = list_any (same_pid child) births
has_to_bear child (Waits waiting) = true

-- of these births, where the parent and the child are both here: the child waits exactly where its parent has still to make the fork again that bears it
abbrev pub ForksLeft : List (Pid × Pid) → List (Pid × Held) → Type 0
ForksLeft births here =
    (parent child : Pid) (q h : Held) → held_of here parent ≡ Some q → held_of here child ≡ Some h → list_any (λ (b : Pid × Pid). same_pid b.0 parent && same_pid b.1 child) births ≡ true → is_waiting h ≡ has_to_bear child q

-- so it is for the children that never synchronised
abbrev pub HoldsForks : ClusterView → Type 0
HoldsForks c = ForksLeft c.family c.here
