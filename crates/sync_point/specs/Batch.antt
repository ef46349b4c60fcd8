-- What a process sends when it synchronises, and what it is then.
use Rattle.std.specs.Prelude.{ℕ, Bool, false, List, [], ◌∷◌, ◌++◌, map, filter, length, replicate, slice_get, Option, None, if◌then◌else◌}
use Rattle.std.specs.List.{range_with_len}
use Rattle.std.specs.Option.{option_map_or}
use Rattle.t32_base.specs.declared.process.ClusterNo.{ClusterNo}
use Rattle.rv_mem.specs.Memory.{page_at}
use Rattle.proc_state.specs.declared.process.Process.{Process}
use Rattle.proc_state.specs.Mail.{first_signal, signal_letter}
use Rattle.proc_state.specs.State.{can_take, state_of}
use Rattle.sys_calls.specs.Steps.{read_after}
use Rattle.sys_calls.specs.Take.{taken}
use Rattle.bus_msg.specs.declared.entry.What.TheVariants.{Page, Sync}
use Rattle.bus_msg.specs.declared.entry.By.TheVariants.{Cluster}
use Rattle.bus_msg.specs.declared.entry.Post.{Post}

-- page i changed since the last synchronisation
abbrev pub is_marked : Process → ℕ → Bool
is_marked p i = option_map_or (λ b. b) (slice_get (p.ram).dirty i) false

-- the numbers of the pages that changed, rising
abbrev pub marked_pages : Process → List ℕ
marked_pages p = filter (is_marked p) (range_with_len 0 (length (p.ram).dirty))

-- page i as it is, at the step count of the process
abbrev pub page_post : Process → ClusterNo → ℕ → Post
page_post p by i = record { by = Cluster by; what = Page (p.small).pid (p.small).steps i (page_at (p.ram).bytes i) }

-- each page that changed
abbrev pub page_posts : Process → ClusterNo → List Post
page_posts p by = map (page_post p by) (marked_pages p)

-- the process after it took its first signal: the number of the letter is the last that it read
abbrev pub after_take : Process → Process
after_take p = record p {
  small = (taken (state_of p)).small;
  mail = record (p.mail) { letters = (taken (state_of p)).mail };
  read = read_after p.read (signal_letter (p.mail).letters);
}

-- the signal that it takes: the first that waits, if it can take one
abbrev pub took_by : Process → Option ℕ
took_by p = if can_take (state_of p) then first_signal (p.mail).letters else None

-- the process after that; as it is, where it can take none
abbrev pub cut_of : Process → Process
cut_of p = if can_take (state_of p) then after_take p else p

-- the state after the take, the numbers of the letters that were read in the order of reading, and the signal that was taken
abbrev pub sync_post : Process → ClusterNo → Post
sync_post p by = record { by = Cluster by; what = Sync (p.small).pid (cut_of p).small (cut_of p).read (took_by p) }

-- the changed pages, and then the state
abbrev pub batch : Process → ClusterNo → List Post
batch p by = page_posts p by ++ sync_post p by ∷ []

-- after it the signal is taken, no page is marked, no letter was read, and the steps count from now
abbrev pub synced : Process → Process
synced p = record (cut_of p) { ram = record (p.ram) { dirty = replicate (length (p.ram).dirty) false }; read = []; since = (p.small).steps }
