-- A worked process: it changes its one page and is due after 64 steps. Its batch may stand, and it is marked as the log says then. Another one takes a signal when it synchronises.
use Rattle.std.proofs.Common.{◌≡◌, ℕ, zero, suc, ◌<◌, refl, sym, ap, arith, [], ◌∷◌, true, false, not, ◌||◌, Some, None, is_some, true≢false}
use Rattle.std.specs.Option.{option_map_or}
use Rattle.t32_base.specs.declared.process.Pid.{Pid}
use Rattle.t32_base.specs.declared.process.End.TheVariants.{Killed}
use Rattle.t32_base.specs.declared.process.Status.TheVariants.{Closing}
use Rattle.t32_base.specs.declared.letter.Arrived.{Arrived}
use Rattle.t32_base.specs.declared.letter.Body.TheVariants.{Signal}
use Rattle.t32_base.specs.declared.letter.To.TheVariants.{Proc}
use Rattle.t32_base.specs.Account.{page_in}
use Rattle.sys_text.specs.declared.system.System.{System}
use Rattle.rv_mem.specs.Memory.{page_at}
use Rattle.proc_state.specs.declared.process.Process.{Process}
use Rattle.proc_state.specs.State.{ProcState, is_live, state_of, root_state}
use Rattle.sys_calls.specs.Next.{silently}
use Rattle.sys_calls.specs.Small.{with_status}
use Rattle.plain_kernel.specs.Kernel.{boot}
use Rattle.plain_kernel.specs.Apply.{one_step, steps}
use Rattle.bus_msg.specs.declared.entry.By.TheVariants.{Cluster}
use Rattle.bus_msg.specs.declared.entry.What.TheVariants.{Sync}
use Rattle.sync_point.specs.Batch.{batch, synced, took_by}
use Rattle.sync_point.specs.Due.{is_due_by}
use Rattle.cert_sched.specs.Schedule.{plain_after, placement}
use Rattle.cert_sched.specs.Told.{told}
use Rattle.cert_sched.specs.Record.{has_state}
use Rattle.cert_sched.specs.Account.{account_after}
use Rattle.cert_sched.specs.Steps.{silent_upto}
use Rattle.cert_sched.specs.Rules.{is_over}
use Rattle.cert_sched.specs.Legal.{IsLegalBy}
use Rattle.cert_sched.proofs.Systems.{cluster, store_system, store_words}
use Rattle.checkpoint_laws.specs.posts.Cut.{TakesTo}
use Rattle.checkpoint_laws.specs.posts.Marked.{IsMarked, is_dirty}
use Rattle.checkpoint_laws.specs.posts.Sending.{MaySend, is_due_since}
use Rattle.checkpoint_laws.specs.posts.Running.{RunsMarked}
use Rattle.checkpoint_laws.specs.posts.Batched.{AllNew, AllStand, log_with}
use Rattle.checkpoint_laws.proofs.posts.BatchStands.{batch_stands, batch_marks}
use Rattle.checkpoint_laws.proofs.posts.BatchIsNew.{batch_is_new}

-- a program that stores to its page and then jumps to itself, by a name; its process is to synchronise after 64 steps
abbrev named : System
named = record store_system { images = record { name = 115 ∷ []; pages = 1; entry = 65536; words = store_words } ∷ [] }

-- process 16
abbrev it : Pid
it = record { 0 = 16 }

-- the process after so many steps
abbrev there : ProcState
there = option_map_or (λ s. s) (silent_upto named [] it 64) (root_state it 65536 1 [] 0 0 0)

-- its page is marked
abbrev process : Process
process = record { small = there.small; ram = record { bytes = there.memory; dirty = true ∷ [] }; mail = record { letters = there.mail; next = there.next }; read = []; since = 0 }

runs : RunsMarked named [] it process
unfolding boot one_step steps silently plain_after placement told is_over silent_upto account_after IsLegalBy
runs = record { valid = refl; legal = tt; reached = refl; runs = refl; sized = refl; marked = record { since_start = refl; read = refl; clean = clean; unsent = unsent } }
  where
    clean : (i : ℕ) → i < 1 → is_dirty process i ≡ false → page_in (account_after named [] it).now i ≡ Some (page_at (process.ram).bytes i)
    clean zero within is = cc
    clean (suc i) within is = absurd (omega arith)

    unsent : (i : ℕ) → i < 1 → is_dirty process i ≡ true → false ≡ false
    unsent i within is = refl

may : MaySend named [] (Cluster (cluster 0)) it (state_of process)
unfolding boot one_step steps silently plain_after placement told is_over silent_upto
may = record { goes_on = refl; by_home = refl; reached = refl }

due : is_due_by process 32 64 ≡ true
unfolding boot one_step steps silently plain_after silent_upto
due = refl

-- its batch, which is its page and its state, may stand
stands : AllStand named [] (batch process (cluster 0))
stands = batch_stands named [] it process (cluster 0) runs may refl (ap (λ b. b || is_some (took_by process) || not (has_state named [] it)) due)

-- after it the process is marked as the log says
marked : IsMarked named (log_with named [] (batch process (cluster 0))) it (synced process)
marked = batch_marks named [] it process (cluster 0) runs may refl

-- its page is sent for the first time
fresh : AllNew named [] (batch process (cluster 0))
fresh = batch_is_new named [] it process (cluster 0) runs

-- a step earlier it was not due
not_due : is_due_since named [] it (option_map_or (λ s. s) (silent_upto named [] it 63) (root_state it 65536 1 [] 0 0 0)) ≡ false
unfolding boot one_step steps silently plain_after silent_upto
not_due = refl

-- ---- a signal that it takes

-- where a signal waits for it, it is cut as it is after the take: it closes, and the letter was read
abbrev signal : ℕ → ℕ → Arrived
signal number g = record { number = number; letter = record { from = record { 0 = 17 }; out = 0; to = Proc it 0; body = Signal g } }

abbrev signalled : ProcState
signalled = record (root_state it 65536 1 [] 0 0 0) { mail = signal 4 9 ∷ signal 5 10 ∷ []; next = 6 }

takes : TakesTo (Some 9) signalled (record signalled { small = with_status signalled.small (Closing (Killed 9)); mail = signal 5 10 ∷ [] })
takes = record { can = refl; after = refl }

-- it takes no other, and none of which nothing is told
not_second : (s : ProcState) → TakesTo (Some 10) signalled s → ⊥
not_second s other = true≢false (sym other.can)

not_untold : TakesTo None signalled (record signalled { small = with_status signalled.small (Closing (Killed 9)); mail = signal 5 10 ∷ [] }) → ⊥
not_untold other = true≢false (ap (λ (s : ProcState). is_live (s.small).status) other.after)

-- its last post says so, and names the letter as read
abbrev signalled_process : Process
signalled_process = record { small = signalled.small; ram = record { bytes = signalled.memory; dirty = false ∷ [] }; mail = record { letters = signalled.mail; next = signalled.next }; read = 3 ∷ []; since = 0 }

takes_when_synced : batch signalled_process (cluster 0) ≡ record { by = Cluster (cluster 0); what = Sync it (with_status signalled.small (Closing (Killed 9))) (3 ∷ 4 ∷ []) (Some 9) } ∷ []
takes_when_synced = refl
