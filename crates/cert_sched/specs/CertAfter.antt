-- The schedule of a log, kept entry by entry.
use Rattle.std.specs.Prelude.{ℕ, ◌-◌, ◌≡◌, max, true, false, if◌then◌else◌, List, [], ◌∷◌, ◌++◌, Option, Some, None, option_map, unwrap_or}
use Rattle.std.specs.List.{flat_map}
use Rattle.std.specs.Ordering.{nat_cmp}
use Rattle.std.specs.FinMap.{find, put}
use Rattle.t32_base.specs.declared.process.Pid.{Pid}
use Rattle.t32_base.specs.declared.letter.BackRec.{BackRec}
use Rattle.sys_text.specs.declared.system.System.{System}
use Rattle.plain_kernel.specs.declared.item.Item.{Item}
use Rattle.plain_kernel.specs.declared.item.Item.TheVariants.{Fork}
use Rattle.bus_msg.specs.declared.entry.What.{What}
use Rattle.bus_msg.specs.declared.entry.What.TheVariants.{Mail, Birth, Exit, Page, Sync, Fetch, PageIs, Crash, Return, Rebackup, Done, Stop}
use Rattle.bus_msg.specs.declared.entry.Entry.{Entry}
use Rattle.bus_msg.specs.Places.{same_pid}
use Rattle.cert_sched.specs.Schedule.{run_of, take_of, steps_in, schedule_of, done_after}
use Rattle.cert_sched.specs.Steps.{first_record}
use Rattle.cert_sched.specs.Rules.{is_over}
use Rattle.cert_sched.specs.Legal.{Stands}

-- the items so far, and the steps in them of each process that an entry told of, by rising pid
pub record CertView : Type 0 where
  pub items : List Item
  pub done : List (ℕ × ℕ)

-- the steps of a process that are kept; of one that is not there, none
abbrev pub steps_of : List (ℕ × ℕ) → Pid → ℕ
steps_of done p = unwrap_or (find nat_cmp p.0 done) 0

abbrev pub steps_done : CertView → Pid → ℕ
steps_done c p = steps_of c.done p

-- ---- which log it is of

-- the cert is that of a log: the items are its schedule, and where the log is not over each process has its count of steps
pub record IsCertOf (system : System) (log : List Entry) (c : CertView) : Type 0 where
  pub items : c.items ≡ schedule_of system log
  pub steps : is_over system log ≡ false → (p : Pid) → steps_done c p ≡ done_after system log p

-- a cert of every system before its first entry
abbrev pub StartsSchedule : CertView → Type 0
StartsSchedule c = (system : System) → IsCertOf system [] c

-- a cert of a log, and then of the log with an entry that stands next in it
abbrev pub KeepsSchedule : CertView → CertView → Entry → Type 0
KeepsSchedule old new e = (system : System) (log : List Entry) → IsCertOf system log old → Stands system log e → IsCertOf system (log ++ e ∷ []) new

-- ---- one more entry

-- the run of a process up to a step count, where each process has so many steps
abbrev pub run_to : (Pid → ℕ) → Pid → ℕ → List Item
run_to done p at = run_of p (at - done p)

abbrev pub run_to_record : (Pid → ℕ) → Option BackRec → List Item
run_to_record done None = []
run_to_record done (Some r) = run_to done r.pid (steps_in r.state)

abbrev pub runs_to : (Pid → ℕ) → List (Pid × ℕ) → List Item
runs_to done rests = flat_map (λ (r : Pid × ℕ). run_to done r.0 r.1) rests

-- what an entry adds to the items
abbrev pub added : (Pid → ℕ) → What → List Item
added done (Mail at letter) = run_to done letter.from at
added done (Birth parent at child end) = run_to done parent (at - 1) ++ Fork parent child ∷ []
added done (Exit pid at end) = run_to done pid at
added done (Page pid at index bytes) = []
added done (Sync pid small read took) = run_to done pid small.steps ++ take_of pid took
added done (Fetch pid index) = []
added done (PageIs pid index bytes) = []
added done (Crash k cause) = []
added done (Return k) = []
added done (Rebackup to true recs) = run_to_record done (first_record recs)
added done (Rebackup to false recs) = []
added done (Done rests) = runs_to done rests
added done Stop = []

-- the process whose count an entry raises, and to what; Done ends the log, and raises none
abbrev pub count_in : What → Option (Pid × ℕ)
count_in (Mail at letter) = Some (letter.from, at)
count_in (Birth parent at child end) = Some (parent, at)
count_in (Exit pid at end) = Some (pid, at)
count_in (Page pid at index bytes) = None
count_in (Sync pid small read took) = Some (pid, small.steps)
count_in (Fetch pid index) = None
count_in (PageIs pid index bytes) = None
count_in (Crash k cause) = None
count_in (Return k) = None
count_in (Rebackup to true recs) = option_map (λ (r : BackRec). (r.pid, steps_in r.state)) (first_record recs)
count_in (Rebackup to false recs) = None
count_in (Done rests) = None
count_in Stop = None

-- a count is the greater of the old one and the new
abbrev pub raised : Option (Pid × ℕ) → List (ℕ × ℕ) → List (ℕ × ℕ)
raised None done = done
raised (Some r) done = put nat_cmp (r.0).0 (max r.1 (steps_of done r.0)) done

-- the same, of the counts as a function
abbrev pub raised_at : Option (Pid × ℕ) → (Pid → ℕ) → Pid → ℕ
raised_at None done p = done p
raised_at (Some r) done p = if same_pid p r.0 then max r.1 (done r.0) else done p

-- the cert with one more entry
abbrev pub cert_after : CertView → What → CertView
cert_after c w = record { items = c.items ++ added (steps_of c.done) w; done = raised (count_in w) c.done }
