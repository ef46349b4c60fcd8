-- What an entry is to one process.
use Rattle.std.specs.Prelude.{ℕ, Bool, true, false, not, ◌||◌, if◌then◌else◌, List, Option, Some, None}
use Rattle.std.specs.List.{list_any}
use Rattle.std.specs.Option.{option_map_or}
use Rattle.t32_base.specs.declared.process.Pid.{Pid}
use Rattle.t32_base.specs.declared.letter.BackRec.{BackRec}
use Rattle.bus_msg.specs.declared.entry.What.{What}
use Rattle.bus_msg.specs.declared.entry.What.TheVariants.{Mail, Birth, Exit, Page, Done}
use Rattle.bus_msg.specs.Places.{Places, is_moved_by, same_pid, unended_at}
use Rattle.cert_sched.specs.Deeds.{is_cut, is_end_of}
use Rattle.cert_sched.specs.Told.{cluster_lost}
use Rattle.log_processes.specs.Arrivals.{is_writer}

-- the process forks by it
abbrev pub forks : Pid → What → Bool
forks p (Birth parent at child end) = same_pid parent p
forks p _ = false

-- the process steps by it: it is its letter, its fork or its cut
abbrev pub steps_by : Pid → What → Bool
steps_by p w = is_writer p w || forks p w || is_cut p w

-- the letter of it goes to the process
abbrev pub gets_letter : Pid → What → Bool
gets_letter p (Mail at letter) = is_end_of p letter.to
gets_letter p _ = false

-- the process steps by it, or gets its letter
abbrev pub changes : Pid → What → Bool
changes p w = steps_by p w || gets_letter p w

-- neither the process nor the run ends by it
abbrev pub goes_on : Pid → What → Bool
goes_on p (Exit pid at end) = not (same_pid pid p)
goes_on p (Done rests) = false
goes_on p _ = true

-- the page of the process that it tells of, and the step count at which the page was so
abbrev pub page_sent : Pid → What → Option (ℕ × ℕ)
page_sent p (Page pid at index bytes) = if same_pid pid p then Some (index, at) else None
page_sent p _ = None

-- it moves the process, by where that is placed
abbrev pub is_moved_at : Pid → Places → What → Bool
is_moved_at p places w = option_map_or (λ k. option_map_or (is_moved_by k) (unended_at places p) false) (cluster_lost w) false

-- one of these records is of the process
abbrev pub names_in : Pid → List BackRec → Bool
names_in p recs = list_any (λ (r : BackRec). same_pid r.pid p) recs
