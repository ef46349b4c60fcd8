-- The family of a process among some births.
use Rattle.std.specs.Prelude.{ℕ, if◌then◌else◌, List, [], ◌∷◌, ◌++◌, drop, fold, map}
use Rattle.std.specs.BTreeSet.{insert_key}
use Rattle.std.specs.List.{list_any}
use Rattle.std.specs.Ordering.{nat_cmp}
use Rattle.t32_base.specs.declared.process.Pid.{Pid}
use Rattle.bus_msg.specs.Places.{same_pid}

-- a child joins its parent's family
abbrev pub joins_with : List Pid → Pid × Pid → List Pid
joins_with family b = if list_any (same_pid b.0) family then family ++ b.1 ∷ [] else family

-- the process, its children among these births, and the same of these, in the order of their births
abbrev pub family_of : List (Pid × Pid) → Pid → List Pid
family_of births p = fold joins_with (p ∷ []) births

-- the numbers of these pids, each at its place in the rising order
abbrev pub by_number : List Pid → List ℕ
by_number pids = fold (insert_key nat_cmp) [] (map (λ (q : Pid). q.0) pids)

-- the pids of the family of a process but for its own, rising
abbrev pub others_of : List (Pid × Pid) → Pid → List ℕ
others_of births p = by_number (drop 1 (family_of births p))
