-- A worked process: it has the marks of its start, and two steps later, of which the second stores to its one page, it has those of a process that runs on, or that rolls forward.
use Rattle.std.proofs.Common.{◌≡◌, ℕ, List, refl, [], ◌∷◌, Bool, true, false, Some}
use Rattle.std.specs.Option.{option_map_or}
use Rattle.t32_base.specs.declared.process.Pid.{Pid}
use Rattle.t32_base.specs.declared.process.Counts.{Counts}
use Rattle.sys_text.specs.declared.system.System.{System}
use Rattle.proc_state.specs.declared.process.Process.{Process}
use Rattle.proc_state.specs.State.{ProcState, root_state}
use Rattle.sys_calls.specs.Next.{silently}
use Rattle.plain_kernel.specs.Kernel.{boot}
use Rattle.plain_kernel.specs.Apply.{one_step, steps}
use Rattle.write_count.specs.Counting.{counts_of}
use Rattle.roll_forward.specs.Advancing.{going, rolled_on}
use Rattle.cert_sched.specs.Schedule.{placement, plain_after}
use Rattle.cert_sched.specs.Steps.{silent_upto}
use Rattle.cert_sched.specs.Legal.{IsLegalBy}
use Rattle.cert_sched.proofs.Systems.{store_system, store_words}
use Rattle.log_laws.proofs.letters.LogReads.{silent_reads}
use Rattle.checkpoint_laws.specs.posts.Marked.{IsMarked}
use Rattle.checkpoint_laws.specs.posts.Running.{RunsMarked}
use Rattle.checkpoint_laws.specs.marks.Rolled.{RollsMarked}
use Rattle.checkpoint_laws.specs.marks.Stepped.{StepsSilently}
use Rattle.checkpoint_laws.proofs.marks.BootMarks.{boot_marks}
use Rattle.checkpoint_laws.proofs.marks.RolledMarks.{rolled_marked}
use Rattle.checkpoint_laws.proofs.marks.SentPages.{sent_none}
use Rattle.checkpoint_laws.proofs.marks.StepMarks.{step_runs}

-- a program that stores to its page and then jumps to itself, by a name
abbrev named : System
named = record store_system { images = record { name = 115 ∷ []; pages = 1; entry = 65536; words = store_words } ∷ [] }

-- process 16
abbrev it : Pid
it = record { 0 = 16 }

abbrev there : ℕ → ProcState
there n = option_map_or (λ s. s) (silent_upto named [] it n) (root_state it 65536 1 [] 0 0 0)

-- the process after so many steps, with the marks of its pages
abbrev process : ℕ → List Bool → Process
process n dirty = record { small = (there n).small; ram = record { bytes = (there n).memory; dirty = dirty }; mail = record { letters = (there n).mail; next = (there n).next }; read = []; since = 0 }

begins : RunsMarked named [] it (process 0 (false ∷ []))
unfolding boot one_step steps silently plain_after silent_upto IsLegalBy
begins = record { valid = refl; legal = tt; reached = refl; runs = refl; sized = refl; marked = boot_marks named it (process 0 (false ∷ [])) 1 refl refl refl refl refl }

first : StepsSilently (process 0 (false ∷ [])) (process 1 (false ∷ []))
unfolding boot one_step steps silently plain_after silent_upto
first = record { makes = refl; marks = refl; took = record { read = refl; since = refl } }

-- the store marks the page
second : StepsSilently (process 1 (false ∷ [])) (process 2 (true ∷ []))
unfolding boot one_step steps silently plain_after silent_upto
second = record { makes = refl; marks = refl; took = record { read = refl; since = refl } }

runs_on : RunsMarked named [] it (process 2 (true ∷ []))
runs_on =
    step_runs named [] it (process 1 (false ∷ [])) (process 2 (true ∷ []))
    (step_runs named [] it (process 0 (false ∷ [])) (process 1 (false ∷ [])) begins (sent_none named it ((process 0 (false ∷ [])).small).steps) first)
    (sent_none named it ((process 1 (false ∷ [])).small).steps) second

-- ---- the same where it rolls forward

-- nothing is to be withheld
abbrev none_counted : Counts
none_counted = counts_of []

rolls : RollsMarked named [] it (process 0 (false ∷ []))
unfolding boot one_step steps silently plain_after silent_upto IsLegalBy placement
rolls = record {
  valid = refl;
  legal = tt;
  unended = refl;
  reads = silent_reads named [] it 0 (there 0) refl tt refl refl;
  next = refl;
  pages = refl;
  marked = begins.marked;
}

two_rolled : rolled_on 2 (going (process 0 (false ∷ [])) none_counted []) ≡ Some (going (process 2 (true ∷ [])) none_counted [])
unfolding boot one_step steps silently plain_after silent_upto rolled_on
two_rolled = refl

rolls_on : IsMarked named [] it (process 2 (true ∷ []))
rolls_on =
    rolled_marked named [] it 2 (process 0 (false ∷ [])) (process 2 (true ∷ [])) none_counted none_counted [] [] rolls
    (sent_none named it ((process 0 (false ∷ [])).small).steps) two_rolled refl
