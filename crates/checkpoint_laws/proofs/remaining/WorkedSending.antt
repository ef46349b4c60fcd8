-- A worked log: what a process may still send falls by its changed page and by its synchronisation, and does not by the same page again; it takes a signal, and none after that.
use Rattle.std.proofs.Common.{◌≡◌, ℕ, ◌+◌, ◌*◌, refl, sym, ◌∙◌, arith, true, false, [], ◌∷◌, None, true≢false}
use Rattle.std.specs.Option.{option_map_or}
use Rattle.t32_base.specs.declared.process.Pid.{Pid}
use Rattle.t32_base.specs.declared.process.Mode.TheVariants.{Quarter}
use Rattle.sys_text.specs.declared.system.System.{System}
use Rattle.proc_state.specs.State.{ProcState, root_state}
use Rattle.sys_calls.specs.Next.{silently}
use Rattle.sys_calls.specs.Take.{struck}
use Rattle.plain_kernel.specs.Kernel.{boot}
use Rattle.plain_kernel.specs.Apply.{one_step, steps}
use Rattle.bus_msg.specs.declared.entry.What.{What}
use Rattle.bus_msg.specs.declared.entry.What.TheVariants.{Page, Sync}
use Rattle.bus_msg.specs.declared.entry.By.TheVariants.{Cluster}
use Rattle.bus_msg.specs.declared.entry.Entry.{Entry}
use Rattle.cert_sched.specs.Schedule.{plain_after, placement}
use Rattle.cert_sched.specs.Told.{told}
use Rattle.cert_sched.specs.Steps.{silent_upto}
use Rattle.cert_sched.proofs.Systems.{cluster, root, store_system}
use Rattle.checkpoint_laws.specs.remaining.Left.{left_to_send, takes_signals}

-- one process with one page, which stores to it and then jumps to itself, for ten instructions at most
abbrev short : System
short = record store_system { roots = root 0 1 Quarter 10 ∷ [] }

abbrev it : Pid
it = record { 0 = 16 }

-- the process after three steps
abbrev there : ProcState
there = option_map_or (λ s. s) (silent_upto short [] it 3) (root_state it 65536 1 [] 0 0 0)

abbrev entry : ℕ → What → Entry
entry place what = record { place = place; post = record { by = Cluster (cluster 0); what = what }; dests = record { clusters = 3; tty = None } }

abbrev page : ℕ → Entry
page place = entry place (Page it 3 0 [])

abbrev sync : ℕ → Entry
sync place = entry place (Sync it there.small [] None)

-- Forty-four steps are left: ten instructions, thirty-two ends and two changes of status. The page may be sent at each step count from none on, and a signal may be taken.
at_first : left_to_send short [] ≡ 3 * 44 + 46
unfolding boot one_step steps silently plain_after placement told silent_upto
at_first = refl

-- With one birth allowed the child may make as many, and it may synchronise, take a signal and send its page at each of its step counts.
with_birth : System
with_birth = record store_system { roots = record (root 0 1 Quarter 10) { births = 1 } ∷ [] }

one_birth : left_to_send with_birth [] ≡ 3 * 88 + 46 + 46
unfolding boot one_step steps silently plain_after placement told silent_upto with_birth
one_birth = refl

-- its page is sent as it is after three steps
page_sent : left_to_send short (page 0 ∷ []) ≡ 3 * 44 + 45
unfolding boot one_step steps silently plain_after placement told silent_upto
page_sent = refl

-- and it synchronises there
state_sent : left_to_send short (page 0 ∷ sync 1 ∷ []) ≡ 3 * 41 + 45
unfolding boot one_step steps silently plain_after placement told silent_upto
state_sent = refl

-- the same page once more leaves as much to send
page_again : left_to_send short (page 0 ∷ page 1 ∷ []) ≡ 3 * 44 + 45
unfolding boot one_step steps silently plain_after placement told silent_upto
page_again = refl

-- refused: by the same page once more less is left
not_less : left_to_send short (page 0 ∷ page 1 ∷ []) ≡ 3 * 44 + 44 → ⊥
not_less e = let wrong : 3 * 44 + 45 ≡ 3 * 44 + 44 = sym page_again ∙ e in omega (arith, wrong)

-- ---- signals

-- after three steps it takes a signal
after_three : takes_signals there.small ≡ true
unfolding silent_upto silently plain_after boot one_step steps
after_three = refl

-- refused: without a handler it closes by the first, and takes no second
not_closing : takes_signals (struck true 9 there.small) ≡ true → ⊥
unfolding silent_upto silently plain_after boot one_step steps
not_closing e = true≢false (sym e)

-- refused: while its handler runs it takes none
not_handling : takes_signals (struck false 9 there.small) ≡ true → ⊥
unfolding silent_upto silently plain_after boot one_step steps
not_handling e = true≢false (sym e)
