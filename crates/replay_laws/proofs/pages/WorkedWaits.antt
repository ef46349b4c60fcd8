-- Worked logs: the wait of a process with two pages, from the loss of its home to the first page that comes.
use Rattle.std.proofs.Common.{ℕ, zero, suc, ◌<◌, refl, sym, arith, List, [], ◌∷◌, Some, None, true≢false}
use Rattle.std.specs.Prelude.{replicate}
use Rattle.t32_base.specs.declared.process.Pid.{Pid}
use Rattle.t32_base.specs.declared.process.Mode.TheVariants.{Quarter}
use Rattle.t32_base.specs.declared.letter.BackRec.{BackRec}
use Rattle.write_count.specs.Counting.{no_counts}
use Rattle.proc_state.specs.State.{root_small}
use Rattle.sys_text.specs.declared.system.System.{System}
use Rattle.bus_msg.specs.declared.entry.What.{What}
use Rattle.bus_msg.specs.declared.entry.What.TheVariants.{Fetch, PageIs, Crash}
use Rattle.bus_msg.specs.declared.entry.Cause.TheVariants.{Place}
use Rattle.bus_msg.specs.declared.entry.By.{By}
use Rattle.bus_msg.specs.declared.entry.By.TheVariants.{Cluster, Bus}
use Rattle.bus_msg.specs.declared.entry.Entry.{Entry}
use Rattle.plain_kernel.specs.Kernel.{boot}
use Rattle.plain_kernel.specs.Apply.{one_step, steps}
use Rattle.cert_sched.specs.Schedule.{plain_after, placement}
use Rattle.cert_sched.specs.Told.{told}
use Rattle.cert_sched.specs.Record.{backup_record}
use Rattle.cert_sched.specs.Account.{account_after}
use Rattle.cert_sched.proofs.Systems.{cluster, root}
use Rattle.page_waits.specs.Waiting.{WaitingState, with_page}
use Rattle.replay_laws.specs.pages.Waits.{WaitsAs, first_wait, none_queued}
use Rattle.replay_laws.proofs.pages.Begins.{none_below}

-- one process with two pages, at home in cluster 0 with its backup in cluster 1
abbrev two_pages : System
two_pages = record {
  clusters = 2;
  pager = (cluster 0, cluster 1);
  syncreads = 32;
  syncsteps = 4096;
  images = record { name = []; pages = 2; entry = 65536; words = 0x0000006f ∷ [] } ∷ [];
  roots = root 0 1 Quarter 1000 ∷ [];
  chans = [];
}

abbrev it : Pid
it = record { 0 = 16 }

abbrev its_record : BackRec
its_record = record { pid = it; state = Some (root_small it 65536 2 1000 0 0); saved = []; next = 0; counts = no_counts; births = [] }

abbrev entry : ℕ → By → What → Entry
entry place by what = record { place = place; post = record { by = by; what = what }; dests = record { clusters = 2; tty = None } }

-- cluster 0 is lost, its first page is asked for, and comes
abbrev lost : Entry
lost = entry 0 Bus (Crash (cluster 0) Place)

abbrev first_asked : Entry
first_asked = entry 1 (Cluster (cluster 1)) (Fetch it 0)

abbrev first_page : List ℕ
first_page = 0x6f ∷ replicate 255 0

abbrev first_came : Entry
first_came = entry 2 (Cluster (cluster 1)) (PageIs it 0 first_page)

-- what holds of both pages
each_of_two : (P : ℕ → Type 0) → P 0 → P 1 → (i : ℕ) → i < 2 → P i
each_of_two P a b zero within = a
each_of_two P a b (suc zero) within = b
each_of_two P a b (suc (suc i)) within = absurd (omega (arith, within))

at_loss : WaitsAs two_pages (lost ∷ []) it none_queued (first_wait its_record)
unfolding boot one_step steps plain_after placement told backup_record account_after
at_loss = record {
  kept = refl;
  moved = refl;
  pages = refl;
  some = omega arith;
  at_most = omega arith;
  asked = λ i within. none_below i;
  come = each_of_two _ refl refl;
}

after_the_first : WaitsAs two_pages (lost ∷ first_asked ∷ first_came ∷ []) it none_queued (with_page 0 first_page (record (first_wait its_record) { asked = 1 }))
unfolding boot one_step steps plain_after placement told backup_record account_after
after_the_first = record {
  kept = refl;
  moved = refl;
  pages = refl;
  some = omega arith;
  at_most = omega arith;
  asked = each_of_two _ refl refl;
  come = each_of_two _ refl refl;
}

-- refused: before the loss it waits for nothing
not_before : (w : WaitingState) → WaitsAs two_pages [] it none_queued w → ⊥
unfolding told
not_before w waits = true≢false (sym waits.moved)
