-- The post by which a family that waits in a cluster gets its new backup.
use Rattle.std.specs.Prelude.{ℕ, ◌≡◌, ◌≢◌, Bool, true, false, List, [], ◌∷◌, find, map, Option, Some, None, is_some, option_map}
use Rattle.std.specs.List.{list_any}
use Rattle.std.specs.Option.{option_map_or}
use Rattle.t32_base.specs.declared.process.Pid.{Pid}
use Rattle.t32_base.specs.declared.process.ClusterNo.{ClusterNo}
use Rattle.t32_base.specs.declared.letter.BackRec.{BackRec}
use Rattle.bus_msg.specs.declared.entry.Post.{Post}
use Rattle.bus_msg.specs.Places.{Places}
use Rattle.bus_msg.specs.NewBackup.{next_backup_at}
use Rattle.plain_kernel.specs.Maps.{at_key, pid_of}
use Rattle.birth_notice.specs.Joined.{others_of}
use Rattle.backup_mode.specs.Posts.{standing_post}
use Rattle.backup_mode.specs.Renewal.{number_of}
use Rattle.residents.specs.Held.{Held}
use Rattle.residents.specs.Records.{record_at}

-- the process waits here, and has a state in its record
abbrev pub is_stated_at : List (Pid × Held) → ℕ → Bool
is_stated_at here n = option_map_or (λ (r : BackRec). is_some r.state) (record_at here (pid_of n)) false

-- the first of these processes that has one
abbrev pub first_stated : List (Pid × Held) → List ℕ → Option Pid
first_stated here owed = option_map pid_of (find (is_stated_at here) owed)

-- The post hands on the records of a process and of its family, as they wait here, to its next backup: its own first, and the others by rising pid.
pub record HandsOn (k : ClusterNo) (places : Places) (births : List (Pid × Pid)) (here : List (Pid × Held)) (p : Pid) (post : Post) : Type 0 where
  pub to : ClusterNo
  pub recs : List BackRec
  pub backup : next_backup_at places p ≡ Some to
  pub family : map number_of recs ≡ p.0 ∷ others_of births p
  pub records : map Some recs ≡ map (λ (r : BackRec). record_at here r.pid) recs
  pub post_is : post ≡ standing_post k to recs

-- The next post is that of the first of these processes that has a state; there is none exactly where there is no process.
abbrev pub IsNextStanding : ClusterNo → Places → List (Pid × Pid) → List (Pid × Held) → List ℕ → Option Post → Type 0
IsNextStanding k places births here owed None = owed ≡ []
IsNextStanding k places births here owed (Some post) = (p : Pid) × (first_stated here owed ≡ Some p) × HandsOn k places births here p post

-- each record that waits here is that of its process
abbrev pub AreNamed : List (Pid × Held) → Type 0
AreNamed here = (p : Pid) (r : BackRec) → record_at here p ≡ Some r → r.pid ≡ p

-- a process that waits here with a state is to get a backup, and its family waits here too
pub record CanHandOn (places : Places) (births : List (Pid × Pid)) (here : List (Pid × Held)) (p : Pid) : Type 0 where
  pub stated : is_stated_at here p.0 ≡ true
  pub backup : is_some (next_backup_at places p) ≡ true
  pub family : (n : ℕ) → list_any (at_key n) (others_of births p) ≡ true → is_some (record_at here (pid_of n)) ≡ true

-- of these processes, where there are any, one has a state, and the first of those can hand on
pub record CanBeNext (places : Places) (births : List (Pid × Pid)) (here : List (Pid × Held)) (owed : List ℕ) : Type 0 where
  pub named : AreNamed here
  pub some : owed ≢ [] → is_some (first_stated here owed) ≡ true
  pub can : (p : Pid) → first_stated here owed ≡ Some p → CanHandOn places births here p
