-- What a process sends for a new backup, and what it is then.
use Rattle.std.specs.Prelude.{ℕ, ◌≡◌, false, true, List, [], ◌∷◌, ◌++◌, length, map, replicate, is_some}
use Rattle.std.specs.List.Sorted.{IsStrictlySortedBy}
use Rattle.std.specs.Ordering.{nat_cmp}
use Rattle.t32_base.specs.declared.process.ClusterNo.{ClusterNo}
use Rattle.t32_base.specs.declared.letter.BackRec.{BackRec}
use Rattle.proc_state.specs.declared.process.Process.{Process}
use Rattle.proc_state.specs.State.{state_of}
use Rattle.bus_msg.specs.declared.entry.Post.{Post}
use Rattle.sync_point.specs.Batch.{page_posts}
use Rattle.backup_mode.specs.Posts.{fresh_post}

-- the changed pages, and then its record as it is
abbrev pub renewal : Process → ClusterNo → ClusterNo → List Post
renewal p to by = page_posts p by ++ fresh_post by to (p.small).pid (state_of p) ∷ []

-- after it no page is marked; the process is else as it was
abbrev pub cleared : Process → Process
cleared p = record p { ram = record (p.ram) { dirty = replicate (length (p.ram).dirty) false } }

abbrev pub number_of : BackRec → ℕ
number_of r = (r.pid).0

-- the records of a family: first that of a process, which has a state, and then the others by rising pid
abbrev pub AreInOrder : List BackRec → Type 0
AreInOrder [] = ⊥
AreInOrder (first ∷ rest) = (is_some first.state ≡ true) × IsStrictlySortedBy nat_cmp (map number_of rest)
