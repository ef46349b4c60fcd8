-- A worked batch: a process changes its one page and is due after 64 steps. Its page is sent, the other cluster is lost, and then its state may stand. The page may not
-- be sent a second time. Letters that come meanwhile leave the signal that another process takes.
use Rattle.std.proofs.Common.{◌≡◌, ℕ, zero, suc, ◌<◌, refl, sym, arith, List, [], ◌∷◌, ◌++◌, false, Some, None, true≢false}
use Rattle.std.specs.Option.{option_map_or}
use Rattle.t32_base.specs.declared.process.Pid.{Pid}
use Rattle.t32_base.specs.declared.process.End.TheVariants.{Killed}
use Rattle.t32_base.specs.declared.process.Status.TheVariants.{Closing}
use Rattle.t32_base.specs.declared.letter.Body.TheVariants.{Signal}
use Rattle.t32_base.specs.declared.letter.Letter.{Letter}
use Rattle.t32_base.specs.declared.letter.To.TheVariants.{Proc}
use Rattle.t32_base.specs.Account.{page_in}
use Rattle.sys_text.specs.declared.system.System.{System}
use Rattle.rv_mem.specs.Memory.{page_at}
use Rattle.proc_state.specs.State.{ProcState, delivered, root_state}
use Rattle.sys_calls.specs.Next.{silently}
use Rattle.sys_calls.specs.Small.{with_status}
use Rattle.plain_kernel.specs.Kernel.{boot}
use Rattle.plain_kernel.specs.Apply.{one_step, steps}
use Rattle.bus_msg.specs.declared.entry.What.TheVariants.{Crash}
use Rattle.bus_msg.specs.declared.entry.By.TheVariants.{Bus}
use Rattle.bus_msg.specs.declared.entry.Cause.TheVariants.{Place}
use Rattle.bus_msg.specs.declared.entry.Entry.{Entry}
use Rattle.cert_sched.specs.Appended.{entry_of}
use Rattle.cert_sched.specs.Schedule.{plain_after, placement}
use Rattle.cert_sched.specs.Told.{told}
use Rattle.cert_sched.specs.Account.{account_after}
use Rattle.cert_sched.specs.Steps.{silent_upto}
use Rattle.cert_sched.specs.Rules.{is_over}
use Rattle.cert_sched.specs.Legal.{IsLegalBy, Stands}
use Rattle.cert_sched.proofs.LogLaws.{IsLegal-snoc}
use Rattle.cert_sched.proofs.Systems.{cluster, store_system, store_words}
use Rattle.checkpoint_laws.specs.posts.Batched.{AllStand}
use Rattle.checkpoint_laws.specs.posts.Cut.{TakesTo}
use Rattle.checkpoint_laws.specs.batches.Underway.{BatchMay, is_left, page_left, posts_left, with_letters}
use Rattle.checkpoint_laws.proofs.batches.PageSent.{page_sent}
use Rattle.checkpoint_laws.proofs.batches.RestStands.{next_stands, rest_stands}
use Rattle.checkpoint_laws.proofs.batches.EntryBetween.{batch_stays}
use Rattle.checkpoint_laws.proofs.batches.TakenLetters.{letters_come}
use Rattle.checkpoint_laws.proofs.batches.OtherSenders.{others_between}

-- a program that stores to its page and then jumps to itself, by a name; its process is to synchronise after 64 steps
abbrev named : System
named = record store_system { images = record { name = 115 ∷ []; pages = 1; entry = 65536; words = store_words } ∷ [] }

-- process 16
abbrev it : Pid
it = record { 0 = 16 }

-- the process after so many steps
abbrev there : ProcState
there = option_map_or (λ s. s) (silent_upto named [] it 64) (root_state it 65536 1 [] 0 0 0)

-- its batch is under way, with its page left
begins : BatchMay named [] (cluster 0) it there [] None (0 ∷ [])
unfolding boot one_step steps silently plain_after placement told is_over silent_upto account_after
begins = record { before = there; takes = record { can = refl; after = refl }; may = record { goes_on = refl; by_home = refl; reached = refl }; runs = refl; left = record { in_order = refl; within = refl; unsent = refl; account = account }; reads = refl; children = refl; due = refl }
  where
    account : (i : ℕ) → i < 1 → is_left (0 ∷ []) i ≡ false → page_in (account_after named [] it).now i ≡ Some (page_at (there.memory) i)
    account zero within other = absurd (true≢false other)
    account (suc i) within other = absurd (omega arith)

-- the page is sent
abbrev page_log : List Entry
page_log = entry_of named [] (page_left (cluster 0) it there 0) ∷ []

rest : BatchMay named page_log (cluster 0) it there [] None []
rest = page_sent named [] (cluster 0) it there 0 [] None [] begins

legal : IsLegalBy Stands named page_log
unfolding IsLegalBy
legal = (next_stands named [] (cluster 0) it there [] None 0 [] begins, tt)

-- the other cluster is lost
abbrev loss : Entry
loss = entry_of named page_log (record { by = Bus; what = Crash (cluster 1) Place })

loss_stands : Stands named page_log loss
unfolding boot one_step steps silently plain_after placement told is_over silent_upto
loss_stands = record { placed = (refl, refl, refl); by_right = refl; applies = refl; kind = refl }

-- the rest is under way still
goes_on : BatchMay named (page_log ++ loss ∷ []) (cluster 0) it there [] None []
unfolding boot one_step steps silently plain_after placement told is_over silent_upto
goes_on = batch_stays named page_log loss (cluster 0) it there [] None [] (others_between named page_log loss (cluster 0) it refl legal loss_stands refl refl refl refl) rest

-- so its state may stand
last : AllStand named (page_log ++ loss ∷ []) (posts_left (cluster 0) it there [] None [])
last = rest_stands named (page_log ++ loss ∷ []) (cluster 0) it there [] None [] refl (IsLegal-snoc Stands named page_log loss legal loss_stands) goes_on

-- its page is not left once it was sent at that step count
not_again : BatchMay named page_log (cluster 0) it there [] None (0 ∷ []) → ⊥
unfolding boot one_step steps silently plain_after placement told silent_upto
not_again b = true≢false (sym (b.left).unsent)

-- ---- a signal that is taken

-- a signal waits for it, and another comes while its batch is under way: it takes the first one still, and the other waits
abbrev signal : ℕ → Letter
signal g = record { from = record { 0 = 17 }; out = 0; to = Proc it 0; body = Signal g }

abbrev root : ProcState
root = root_state it 65536 1 [] 0 0 0

abbrev signalled : ProcState
signalled = delivered root (signal 9)

abbrev closes : ProcState
closes = record root { small = with_status root.small (Closing (Killed 9)); next = 1 }

first_taken : TakesTo (Some 9) signalled closes
first_taken = record { can = refl; after = refl }

first_still : TakesTo (Some 9) (with_letters signalled (signal 10 ∷ [])) (with_letters closes (signal 10 ∷ []))
first_still = letters_come (Some 9) signalled closes (signal 10 ∷ []) first_taken

not_the_other : (s : ProcState) → TakesTo (Some 10) (with_letters signalled (signal 10 ∷ [])) s → ⊥
not_the_other s takes = true≢false (sym takes.can)
