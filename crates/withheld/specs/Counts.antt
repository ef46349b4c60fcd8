-- How many letters and births of each process are counted since it last started again, entry by entry.
use Rattle.std.specs.Prelude.{◌≡◌, ℕ, ◌+◌, false, ◌||◌, if◌then◌else◌, List, filter, length}
use Rattle.std.specs.BTreeMap.{BTreeMap, get}
use Rattle.std.specs.List.{sum_by}
use Rattle.std.specs.Option.{option_map_or, unwrap_or}
use Rattle.std.specs.Ordering.{nat_cmp}
use Rattle.t32_base.specs.declared.process.Pid.{Pid}
use Rattle.t32_base.specs.declared.process.ClusterNo.{ClusterNo}
use Rattle.write_count.specs.Counting.{counts_of, total_of}
use Rattle.bus_msg.specs.declared.entry.What.{What}
use Rattle.bus_msg.specs.declared.entry.What.TheVariants.{Mail, Birth}
use Rattle.bus_msg.specs.declared.entry.Entry.{Entry}
use Rattle.bus_msg.specs.declared.placed.Placed.{Placed}
use Rattle.bus_msg.specs.Places.{Places, is_moved_by, same_pid}
use Rattle.roll_forward.specs.Deeds.{Deed, births_in, letters_in}
use Rattle.cert_sched.specs.Deeds.{is_birth_of, is_cut, since}
use Rattle.cert_sched.specs.Told.{cluster_lost}

-- ---- what a log counts

-- all counts of the letters among these deeds, and the number of births
abbrev pub total_in : List Deed → ℕ
total_in deeds = total_of (counts_of (letters_in deeds)) + length (births_in deeds)

-- what is counted of a process: its letters and births since it last started again
abbrev pub count_since : List Entry → Pid → ℕ
count_since log p = total_in (since log p)

-- ---- what an entry does to it

-- how many letters and births of a process an entry tells of
abbrev pub deeds_told : Pid → What → ℕ
deeds_told p (Mail at letter) = if same_pid letter.from p then 1 else 0
deeds_told p (Birth parent at child end) = if same_pid parent p then 1 else 0
deeds_told p _ = 0

-- a process starts again by its cuts and its birth: then nothing is counted of it
abbrev pub count_after : Pid → What → ℕ → ℕ
count_after p w n = if is_cut p w || is_birth_of p w then 0 else n + deeds_told p w

-- the counts of the processes that a crash of k moves, where each has such a count
abbrev pub moved_count : (Pid → ℕ) → Places → ClusterNo → ℕ
moved_count count places k = sum_by (λ (q : Placed). count q.pid) (filter (is_moved_by k) places.placed)

-- the count of a process, if a crash of k moves it
abbrev pub count_if_moved : (Pid → ℕ) → ClusterNo → Placed → ℕ
count_if_moved count k q = if is_moved_by k q then count q.pid else 0

-- what an entry adds to what is withheld: nothing but by a crash
abbrev pub withheld_at : (Pid → ℕ) → Places → What → ℕ
withheld_at count places w = option_map_or (moved_count count places) (cluster_lost w) 0

-- ---- the counts as they are kept

-- in a map by the numbers of the processes; of one that is not there nothing is counted
abbrev pub count_of : BTreeMap ℕ ℕ → Pid → ℕ
count_of counts p = unwrap_or (get nat_cmp counts p.0) 0

-- after has this count of the process, and keeps every other count
pub record ChangesOnly (before after : BTreeMap ℕ ℕ) (p : Pid) (count : ℕ) : Type 0 where
  pub this : count_of after p ≡ count
  pub others : (q : Pid) → same_pid p q ≡ false → count_of after q ≡ count_of before q

-- each process has the count that an entry makes of the one before
abbrev pub NotesCounts : What → BTreeMap ℕ ℕ → BTreeMap ℕ ℕ → Type 0
NotesCounts w before after = (p : Pid) → count_of after p ≡ count_after p w (count_of before p)
