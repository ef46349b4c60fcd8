-- Worked counts at the limits and one beyond them, a letter that the sixth step of a process sends, and a synchronisation before it.
use Rattle.std.proofs.Common.{◌≡◌, ℕ, List, refl, [], ◌∷◌, true, false, Option}
use Rattle.t32_base.specs.declared.process.Pid.{Pid}
use Rattle.t32_base.specs.declared.process.Mode.TheVariants.{Quarter}
use Rattle.t32_base.specs.declared.letter.Letter.{Letter}
use Rattle.t32_base.specs.declared.letter.To.TheVariants.{Tty}
use Rattle.t32_base.specs.declared.letter.Body.TheVariants.{Said}
use Rattle.sys_text.specs.declared.system.System.{System}
use Rattle.proc_state.specs.declared.process.Process.{Process}
use Rattle.proc_state.specs.State.{root_state}
use Rattle.sys_calls.specs.Next.{silently}
use Rattle.plain_kernel.specs.Kernel.{boot}
use Rattle.plain_kernel.specs.Apply.{one_step, steps}
use Rattle.sync_point.specs.Due.{is_due_by}
use Rattle.bus_msg.specs.declared.entry.What.TheVariants.{Fetch, Mail, Sync}
use Rattle.cert_sched.specs.Schedule.{plain_after}
use Rattle.cert_sched.specs.Steps.{emission_at, silent_upto}
use Rattle.cert_sched.specs.Rules.{is_within_limits}
use Rattle.cert_sched.proofs.Systems.{hi_words, root, system}
use Rattle.checkpoint_laws.specs.limits.Within.{KeepsLimits, is_within_by}

-- process 16
abbrev it : Pid
it = record { 0 = 16 }

-- ---- by its own counts

-- it has made so many steps, ten of them before its last synchronisation, and has read these letters since
abbrev counted : ℕ → List ℕ → Process
counted n read = record { small = record (root_state it 65536 1 [] 0 0 0).small { steps = n }; ram = record { bytes = []; dirty = [] }; mail = record { letters = []; next = 0 }; read = read; since = 10 }

below : is_due_by (counted 15 (1 ∷ [])) 2 6 ≡ false
below = refl

-- at a limit it is due, and still within them
due_by_steps : is_due_by (counted 16 (1 ∷ [])) 2 6 ≡ true
due_by_steps = refl

due_by_reads : is_due_by (counted 15 (1 ∷ 2 ∷ [])) 2 6 ≡ true
due_by_reads = refl

at_both : is_within_by (counted 16 (1 ∷ 2 ∷ [])) 2 6 ≡ true
at_both = refl

-- one more step, or one more letter, is beyond them
step_beyond : is_within_by (counted 17 (1 ∷ 2 ∷ [])) 2 6 ≡ false
step_beyond = refl

read_beyond : is_within_by (counted 16 (1 ∷ 2 ∷ 3 ∷ [])) 2 6 ≡ false
read_beyond = refl

-- ---- by the log

-- the sixth step of the program writes
abbrev limited : ℕ → System
limited n = system 2 (0, 1) n hi_words (root 0 1 Quarter 1000)

abbrev letter : Letter
letter = record { from = it; out = 0; to = Tty 0; body = Said (104 ∷ 105 ∷ 10 ∷ []) }

letter_kept : KeepsLimits (limited 6) [] (Mail 6 letter)
unfolding boot one_step steps silently plain_after emission_at
letter_kept = refl

letter_beyond : is_within_limits (limited 5) [] (Mail 6 letter) it ≡ false
unfolding boot one_step steps silently plain_after emission_at
letter_beyond = refl

-- to ask for a page is not limited
fetch_kept : KeepsLimits (limited 5) [] (Fetch it 0)
fetch_kept = refl

-- a synchronisation is within the limits by the steps before it, whether a signal is taken or not
sync_kept : (took : Option ℕ) → KeepsLimits (limited 5) [] (Sync it (record (root_state it 65536 1 [] 0 0 0).small { steps = 5 }) [] took)
unfolding boot one_step steps silently plain_after silent_upto
sync_kept took = refl

sync_beyond : (took : Option ℕ) → is_within_limits (limited 4) [] (Sync it (record (root_state it 65536 1 [] 0 0 0).small { steps = 5 }) [] took) it ≡ false
unfolding boot one_step steps silently plain_after silent_upto
sync_beyond took = refl
