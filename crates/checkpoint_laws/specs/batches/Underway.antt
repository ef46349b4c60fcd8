-- A batch that is under way: some of its pages were sent, and the rest is left.
use Rattle.std.specs.Prelude.{ℕ, ◌≡◌, ◌<◌, Bool, true, false, not, ◌&&◌, ◌==◌, nat_lt, List, [], ◌∷◌, ◌++◌, map, Option, Some}
use Rattle.std.specs.List.{list_all, list_any}
use Rattle.t32_base.specs.declared.process.Pid.{Pid}
use Rattle.t32_base.specs.declared.process.ClusterNo.{ClusterNo}
use Rattle.t32_base.specs.declared.letter.Letter.{Letter}
use Rattle.sys_text.specs.declared.system.System.{System}
use Rattle.rv_mem.specs.Memory.{page_at}
use Rattle.proc_state.specs.State.{ProcState, delivered, has_ended}
use Rattle.bus_msg.specs.declared.entry.What.TheVariants.{Page, Sync}
use Rattle.bus_msg.specs.declared.entry.By.TheVariants.{Cluster}
use Rattle.bus_msg.specs.declared.entry.Post.{Post}
use Rattle.bus_msg.specs.declared.entry.Entry.{Entry}
use Rattle.cert_sched.specs.Parts.{rising}
use Rattle.cert_sched.specs.Account.{account_after, page_in}
use Rattle.cert_sched.specs.Moved.{any_since_moved, is_page_at}
use Rattle.cert_sched.specs.Steps.{numbers_read, page_count, saved_of}
use Rattle.cert_sched.specs.Kinds.{ChildrenSynced}
use Rattle.checkpoint_laws.specs.posts.Sending.{MaySend, is_due_at}
use Rattle.checkpoint_laws.specs.posts.Cut.{TakesTo}

-- ---- the posts that are left

-- page i of the process, as it is at its step count
abbrev pub page_left : ClusterNo → Pid → ProcState → ℕ → Post
page_left k p s i = record { by = Cluster k; what = Page p (s.small).steps i (page_at s.memory i) }

-- its state, with the numbers of the letters that it has read, and the signal that it took, if it took one
abbrev pub sync_left : ClusterNo → Pid → ProcState → List ℕ → Option ℕ → Post
sync_left k p s read took = record { by = Cluster k; what = Sync p s.small read took }

-- each page of these numbers, and then the state
abbrev pub posts_left : ClusterNo → Pid → ProcState → List ℕ → Option ℕ → List ℕ → List Post
posts_left k p s read took indices = map (page_left k p s) indices ++ sync_left k p s read took ∷ []

-- ---- the pages that are left

-- page i is among them
abbrev pub is_left : List ℕ → ℕ → Bool
is_left indices i = list_any (λ j. i == j) indices

-- their numbers rise, so that none is there twice
abbrev pub are_rising : List ℕ → Bool
are_rising [] = true
are_rising (i ∷ indices) = list_all (nat_lt i) indices && are_rising indices

-- Of a process with so many steps and this memory, the numbers of the pages that are left rise, each is one of its pages, and none was sent at that step count since a crash
-- moved it; any other page is that of its account.
pub record PagesLeft (system : System) (log : List Entry) (p : Pid) (steps : ℕ) (memory : List ℕ) (indices : List ℕ) : Type 0 where
  pub in_order : are_rising indices ≡ true
  pub within : list_all (λ i. nat_lt i (page_count system log p)) indices ≡ true
  pub unsent : list_all (λ i. not (any_since_moved system log p (is_page_at p i steps))) indices ≡ true
  pub account : (i : ℕ) → i < page_count system log p → is_left indices i ≡ false → page_in (account_after system log p).now i ≡ Some (page_at memory i)

-- The home k of the process may send it as it is; it has not ended, its children have synchronised, and these of its pages are left.
pub record PagesMay (system : System) (log : List Entry) (k : ClusterNo) (p : Pid) (s : ProcState) (indices : List ℕ) : Type 0 where
  pub may : MaySend system log (Cluster k) p s
  pub runs : has_ended (s.small).status ≡ false
  pub left : PagesLeft system log p (s.small).steps s.memory indices
  pub children : ChildrenSynced system log p

-- ---- the process

-- after these letters came to it, one after the other
abbrev pub with_letters : ProcState → List Letter → ProcState
with_letters s [] = s
with_letters s (l ∷ letters) = with_letters (delivered s l) letters

-- The home k of the process may send it as it is before it takes the signal that is told, if one is; s is the process after that, and has not ended. These of its pages are
-- left, these are the letters that it has read, its children have synchronised, and it is due, takes a signal, or is a child that was never cut.
pub record BatchMay (system : System) (log : List Entry) (k : ClusterNo) (p : Pid) (s : ProcState) (read : List ℕ) (took : Option ℕ) (indices : List ℕ) : Type 0 where
  pub before : ProcState
  pub takes : TakesTo took before s
  pub may : MaySend system log (Cluster k) p before
  pub runs : has_ended (s.small).status ≡ false
  pub left : PagesLeft system log p (s.small).steps s.memory indices
  pub reads : rising read ≡ numbers_read (saved_of system log p) s.mail
  pub children : ChildrenSynced system log p
  pub due : is_due_at system log p took before ≡ true
