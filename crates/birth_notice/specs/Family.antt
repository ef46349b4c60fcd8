-- The children that never synchronised, each with its parent, and which of them is to be synchronised next.
use Rattle.std.specs.Prelude.{◌≡◌, ℕ, zero, suc, Bool, true, not, ◌&&◌, ◌||◌, if◌then◌else◌, nat_lt, List, [], ◌∷◌, map, filter, length, Option, Some, None}
use Rattle.std.specs.Option.{option_map, unwrap_or}
use Rattle.std.specs.List.{list_any}
use Rattle.t32_base.specs.declared.process.Pid.{Pid}
use Rattle.bus_msg.specs.Places.{same_pid}

-- ---- the births that may stand in a list

-- the process stands in this birth, as the parent or as the child
abbrev pub stands_in : Pid → Pid × Pid → Bool
stands_in p birth = same_pid p birth.0 || same_pid p birth.1

-- Each child is new when it is born: it is not its own parent, and stands in no birth before. So no child stands twice, and no parent is the child of a later birth.
abbrev pub are_births : List (Pid × Pid) → Bool
are_births [] = true
are_births (birth ∷ later) = not (same_pid birth.1 birth.0) && not (list_any (λ (b : Pid × Pid). stands_in b.1 birth) later) && are_births later

-- ---- children

abbrev pub is_of : Pid → Pid × Pid → Bool
is_of parent birth = same_pid birth.0 parent

-- the children of a process, in the order of their births
abbrev pub children_of : List (Pid × Pid) → Pid → List Pid
children_of births parent = map (λ (b : Pid × Pid). b.1) (filter (is_of parent) births)

-- the lower of two pids, of which the second may be missing
abbrev pub lower : Pid → Option Pid → Pid
lower p None = p
lower p (Some q) = if nat_lt q.0 p.0 then q else p

-- the lowest of these pids, if there are any
abbrev pub lowest : List Pid → Option Pid
lowest [] = None
lowest (p ∷ ps) = Some (lower p (lowest ps))

-- ---- which is next

-- Of the lowest child: the one that `next` gives for it, which is before it, or the child itself where there is none. Without children, none.
abbrev pub next_by : List (Pid × Pid) → (Pid → Option Pid) → Pid → Option Pid
next_by births next parent = option_map (λ child. unwrap_or (next child) child) (lowest (children_of births parent))

-- The rule: `next` gives for each process what is next by `next` itself.
abbrev pub IsByRule : List (Pid × Pid) → (Pid → Option Pid) → Type 0
IsByRule births next = (parent : Pid) → next parent ≡ next_by births next parent

-- the next one, by going down to children of children at most this many times
abbrev pub first_within : ℕ → List (Pid × Pid) → Pid → Option Pid
first_within zero births parent = None
first_within (suc n) births parent = next_by births (first_within n births) parent

-- The child to be synchronised first, before its parent. No way down is longer than there are births, so this is what the rule says.
abbrev pub first_unsynced : List (Pid × Pid) → Pid → Option Pid
first_unsynced births parent = first_within (length births) births parent
