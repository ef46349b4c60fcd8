-- What changes a placement, when it may, and the bits of a route.
use Rattle.std.specs.Prelude.{◌≡◌, ℕ, ◌+◌, ◌-◌, ◌*◌, ◌^◌, ◌<◌, bit_or, Bool, true, false, not, ◌&&◌, ◌||◌, if◌then◌else◌, List, [], ◌∷◌, length, Option, Some, None}
use Rattle.std.specs.Option.{IfSome, option_map_or}
use Rattle.std.specs.List.{list_any}
use Rattle.t32_base.specs.declared.process.Pid.{Pid}
use Rattle.t32_base.specs.declared.process.ClusterNo.{ClusterNo}
use Rattle.bus_msg.specs.declared.entry.What.{What}
use Rattle.bus_msg.specs.declared.entry.What.TheVariants.{Birth, Return}
use Rattle.bus_msg.specs.declared.placed.Placed.{Placed}
use Rattle.bus_msg.specs.Places.{ClusterPlace, Places, same_pid, placed_at, next_serial_in, lives_in}
use Rattle.bus_msg.specs.Route.{to_list}

-- one process with its backup in a cluster; a fresh backup counts as a synchronisation
abbrev pub with_backup : ClusterNo → Bool → Pid → Placed → Placed
with_backup to fresh pid q = if same_pid q.pid pid then record q { backup = Some to; synced = q.synced || fresh } else q

-- one process with its backup in a cluster
abbrev pub given_backup : ClusterNo → Pid → Placed → Placed
given_backup to pid q = if same_pid q.pid pid then record q { backup = Some to } else q

-- a cluster whose last forked child is taken back
abbrev pub lowered_serial : ClusterPlace → ClusterPlace
lowered_serial c = record c { next_serial = c.next_serial - 1 }

-- no two processes have one number
abbrev pub pids_differ : List Placed → Bool
pids_differ [] = true
pids_differ (q ∷ qs) = not (list_any (λ (p : Placed). same_pid p.pid q.pid) qs) && pids_differ qs

-- a child may be born: it is not placed yet, and the serials of its parent's home are not used up
abbrev pub CanBeBorn : Places → Pid → Pid → Type 0
CanBeBorn places parent child = (placed_at places child ≡ None) × IfSome (placed_at places parent) (λ (q : Placed). next_serial_in places q.home < 2 ^ 32 - 1)

-- a child is the next of its parent: it is not placed yet, and has the pid of the next serial of its parent's home
abbrev pub IsNextChild : Places → Pid → Pid → Type 0
IsNextChild places parent child = (placed_at places child ≡ None) × IfSome (placed_at places parent) (λ (q : Placed). child.0 ≡ (q.home).0 + 16 * next_serial_in places q.home)

-- an entry may be taken in: its child, where it tells of one, is the next
abbrev pub CanBeAbsorbed : Places → What → Type 0
CanBeAbsorbed places (Birth parent at child end) = IsNextChild places parent child
CanBeAbsorbed places _ = Unit {0}

-- it tells of a birth
abbrev pub is_birth : What → Bool
is_birth (Birth parent at child end) = true
is_birth _ = false

-- an entry that says this has a route: a cluster that returns is one of the clusters
abbrev pub IsRoutable : Places → What → Type 0
IsRoutable places (Return k) = k.0 < length places.clusters
IsRoutable places _ = Unit {0}

-- ---- the bits of a route

-- the home of a process, and its backup
abbrev pub home_list : Option Placed → List ClusterNo
home_list placed = option_map_or (λ (q : Placed). q.home ∷ []) placed []

abbrev pub backup_list : Option Placed → List ClusterNo
backup_list placed = option_map_or (λ (q : Placed). to_list q.backup) placed []

-- these bits, with one for each cluster of a list that lives
abbrev pub bits_onto : Places → List ClusterNo → ℕ → ℕ
bits_onto places [] bits = bits
bits_onto places (k ∷ ks) bits = if lives_in places k then bit_or (2 ^ k.0) (bits_onto places ks bits) else bits_onto places ks bits
