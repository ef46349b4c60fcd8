-- A worked log: process 16 writes a letter, and its cluster is lost; where it has to roll forward from, how far, and what lies beyond.
use Rattle.std.proofs.Common.{◌≡◌, ℕ, refl, ap, arith, List, [], ◌∷◌, true, false, Some, None, lit≤}
use Rattle.std.specs.Option.{option_map_or}
use Rattle.t32_base.specs.declared.process.Pid.{Pid}
use Rattle.t32_base.specs.declared.letter.Letter.{Letter}
use Rattle.t32_base.specs.declared.letter.Body.TheVariants.{Said}
use Rattle.t32_base.specs.declared.letter.To.TheVariants.{Tty}
use Rattle.sys_text.specs.declared.system.System.{System}
use Rattle.sys_text.specs.Valid.{is_system}
use Rattle.proc_state.specs.State.{ProcState, root_state}
use Rattle.sys_calls.specs.Next.{silently}
use Rattle.sys_calls.specs.declared.steps.Emission.TheVariants.{Mail as Sent}
use Rattle.write_count.specs.Counting.{counts_of}
use Rattle.plain_kernel.specs.Kernel.{boot}
use Rattle.plain_kernel.specs.Apply.{one_step, steps}
use Rattle.bus_msg.specs.declared.entry.What.TheVariants.{Mail, Crash}
use Rattle.bus_msg.specs.declared.entry.Cause.TheVariants.{Place}
use Rattle.bus_msg.specs.declared.entry.By.TheVariants.{Cluster, Bus}
use Rattle.bus_msg.specs.declared.entry.Entry.{Entry}
use Rattle.roll_forward.specs.Deeds.{Deed, Sends}
use Rattle.roll_forward.specs.Replay.{replayed}
use Rattle.cert_sched.specs.Schedule.{plain_after, placement, process_after}
use Rattle.cert_sched.specs.Told.{told}
use Rattle.cert_sched.specs.Steps.{emission_at}
use Rattle.cert_sched.specs.Rules.{is_over}
use Rattle.cert_sched.specs.Rolling.{refilled, RollsAs}
use Rattle.cert_sched.specs.Legal.{IsLegalBy, MayStand}
use Rattle.cert_sched.specs.Simulation.{IsUnended}
use Rattle.cert_sched.proofs.Systems.{cluster, two_system, two_words}
use Rattle.replay_laws.specs.rolling.Behind.{RollsBehind}
use Rattle.replay_laws.proofs.rolling.ByRule.{stand_caught_up}

-- the system of two letters, with a name for its image
abbrev named_system : System
named_system = record two_system { images = record { name = 97 ∷ []; pages = 1; entry = 65536; words = two_words } ∷ [] }

abbrev writer : Pid
writer = record { 0 = 16 }

-- what it writes by its sixth step
abbrev written : Letter
written = record { from = writer; out = 0; to = Tty 0; body = Said (97 ∷ 10 ∷ []) }

abbrev letter : Entry
letter = record { place = 0; post = record { by = Cluster (cluster 0); what = Mail 6 written }; dests = record { clusters = 2; tty = Some 0 } }

abbrev loss : Entry
loss = record { place = 1; post = record { by = Bus; what = Crash (cluster 0) Place }; dests = record { clusters = 3; tty = None } }

abbrev log : List Entry
log = letter ∷ loss ∷ []

legal : IsLegalBy MayStand named_system log
unfolding boot one_step steps silently plain_after placement told is_over emission_at IsLegalBy
legal = (
  record { stands = record { placed = (refl, refl, refl); by_right = refl; applies = refl; kind = refl }; limits = refl; new_page = refl; pages = refl },
  (record { stands = record { placed = (refl, refl, refl); by_right = refl; applies = refl; kind = refl }; limits = refl; new_page = refl; pages = refl }, tt),
)

-- ---- its way

abbrev no_process : ProcState
no_process = root_state writer 65536 1 [] 0 0 0

abbrev at_start : ProcState
at_start = refilled log writer (option_map_or (λ s. s) (process_after named_system [] writer) no_process)

-- after so many steps
abbrev after : ℕ → ProcState
after n = option_map_or (λ (r : ProcState × List Deed). r.0) (replayed n at_start []) no_process

abbrev start : ProcState
start = option_map_or (λ s. s) (process_after named_system [] writer) no_process

-- it begins with the letter to withhold, and has it still before its sixth step
begins : RollsBehind named_system log writer at_start (counts_of (written ∷ [])) []
unfolding boot one_step steps silently plain_after
begins = record {
  rolls = record { start = start; steps = 0; done = []; rest = Sends (Sent written) ∷ []; started = refl; replays = refl; parts = refl; counts_left = refl; births_left = refl };
  behind = lit≤ tt;
}

halfway : RollsBehind named_system log writer (after 5) (counts_of (written ∷ [])) []
unfolding boot one_step steps silently plain_after
halfway = record {
  rolls = record { start = start; steps = 5; done = []; rest = Sends (Sent written) ∷ []; started = refl; replays = refl; parts = refl; counts_left = refl; births_left = refl };
  behind = lit≤ tt;
}

-- then nothing is left, and it is where it was
withheld : RollsBehind named_system log writer (after 6) (counts_of []) []
unfolding boot one_step steps silently plain_after
withheld = record {
  rolls = record { start = start; steps = 6; done = Sends (Sent written) ∷ []; rest = []; started = refl; replays = refl; parts = refl; counts_left = refl; births_left = refl };
  behind = lit≤ tt;
}

valid : is_system named_system ≡ true
valid = refl

not_over : is_over named_system log ≡ false
unfolding told placement is_over
not_over = refl

unended : IsUnended named_system log writer
unfolding placement
unended = refl

there : process_after named_system log writer ≡ Some (after 6)
there = stand_caught_up named_system log writer (after 6) (counts_of []) [] valid legal not_over unended withheld refl

-- a silent step beyond leaves what it has done again, and is no longer where it was: so its steps are to be counted too
beyond : RollsAs named_system log writer (after 7) (counts_of []) []
unfolding boot one_step steps silently plain_after
beyond = record { start = start; steps = 7; done = Sends (Sent written) ∷ []; rest = []; started = refl; replays = refl; parts = refl; counts_left = refl; births_left = refl }

not_there : process_after named_system log writer ≡ Some (after 7) → ⊥
unfolding boot one_step steps silently plain_after
not_there is = let more : 6 ≡ 7 = ap (λ o. option_map_or (λ (s : ProcState). (s.small).steps) o 0) is in absurd (omega (arith, more))
