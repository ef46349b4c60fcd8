-- Where the marks are those that the log says, the process may synchronise once its marked pages came.
use Rattle.std.proofs.Common.{◌≡◌, ℕ, suc, ◌-◌, ◌<◌, ◌≤◌, refl, sym, ◌∙◌, ap, subst, arith, List, [], ◌∷◌, length, Bool, true, false, ◌||◌, cond, ltb, Option, Some}
use Rattle.std.specs.Prelude.{option_and_then, nat_le}
use Rattle.std.specs.Option.{option_map_or}
use Rattle.t32_base.specs.declared.process.Pid.{Pid}
use Rattle.t32_base.specs.declared.process.ClusterNo.{ClusterNo}
use Rattle.sys_text.specs.declared.system.System.{System}
use Rattle.proc_state.specs.declared.process.Process.{Process}
use Rattle.proc_state.specs.State.{ProcState, state_of, has_ended}
use Rattle.sys_calls.proofs.Counting.{silently_counts}
use Rattle.plain_kernel.specs.Kernel.{process_at}
use Rattle.bus_msg.specs.declared.entry.Entry.{Entry}
use Rattle.cert_sched.specs.Parts.{put_rising, rising}
use Rattle.cert_sched.specs.Schedule.{done, process_after}
use Rattle.cert_sched.specs.Deeds.{saved_letters}
use Rattle.cert_sched.specs.Account.{account_after, all_pages}
use Rattle.cert_sched.specs.Steps.{numbers_read, saved_of}
use Rattle.cert_sched.specs.Legal.{Stands}
use Rattle.cert_sched.proofs.CameLaws.{IsStandingRule}
use Rattle.cert_sched.proofs.MailLaws.{silent_upto-ends}
use Rattle.cert_sched.proofs.RollLaws.{all_roll, rolls_next}
use Rattle.cert_sched.proofs.StepLaws.{silent_from}
use Rattle.log_laws.proofs.pages.SizesStay.{process_sized}
use Rattle.sync_point.specs.Batch.{batch}
use Rattle.sync_point.specs.Due.{is_due_by}
use Rattle.sync_point.specs.Laws.{HasUnmarked, pages_sent, with_pages}
use Rattle.sync_point.proofs.WholeLaws.{come_whole}
use Rattle.checkpoint_laws.specs.posts.Marked.{arrived_below}
use Rattle.checkpoint_laws.specs.posts.Sending.{is_due_since}
use Rattle.checkpoint_laws.specs.posts.Running.{RunsMarked}
use Rattle.checkpoint_laws.proofs.posts.WholePages.{all_numbered}
use Rattle.checkpoint_laws.proofs.posts.PagedAccounts.{both_paged}
use Rattle.checkpoint_laws.proofs.posts.SilentSizes.{silent_sizes}
use Rattle.checkpoint_laws.proofs.posts.SavedNumbers.{saved_arrived}

-- ---- as many numbers in rising order

pub put_length : (n : ℕ) (xs : List ℕ) → length (put_rising n xs) ≡ suc (length xs)
put_length n [] = refl
put_length n (x ∷ xs) = by_test (ltb n x) (put_length n xs)
  where
    by_test : (b : Bool) → length (put_rising n xs) ≡ suc (length xs) → length (cond b (n ∷ x ∷ xs) (x ∷ put_rising n xs)) ≡ suc (suc (length xs))
    by_test true more = refl
    by_test false more = ap suc more

pub rising_length : (xs : List ℕ) → length (rising xs) ≡ length xs
rising_length [] = refl
rising_length (x ∷ xs) = put_length x (rising xs) ∙ ap suc (rising_length xs)

itself : IsStandingRule Stands
itself system log e stands = stands

-- ---- the process after the log

-- where the process was after the log, from where silent steps lead to it
pub record Was (system : System) (log : List Entry) (p : Pid) (process : Process) : Type 0 where
  pub was : ProcState
  pub there : process_after system log p ≡ Some was
  pub next : (process.mail).next ≡ was.next
  pub pages : (process.small).pages ≡ (was.small).pages
  pub bytes : length (process.ram).bytes ≡ length was.memory

module _ (system : System) (log : List Entry) (p : Pid) (process : Process) (runs : RunsMarked system log p process) where
  s : ProcState
  s = state_of process

  pub was_there : Was system log p process
  was_there =
      let f = silent_from system log p (process.small).steps (state_of process) runs.reached in
      let n : ℕ = (process.small).steps - done f.kernel p in
      let same = silent_sizes n f.was (state_of process) f.silent in
      record {
        was = f.was;
        there = ap (option_and_then (λ k. process_at k p)) f.before ∙ f.there;
        next = (silently_counts n f.was (state_of process) f.silent).next;
        pages = same.pages;
        bytes = same.bytes;
      }

  -- ---- the letters read

  -- every saved letter has arrived
  saved_came : arrived_below (process.mail).next (saved_of system log p) ≡ saved_of system log p
  saved_came =
      let w = was_there in
      let goes_on : has_ended ((w.was).small).status ≡ false = sym (silent_upto-ends system log p (process.small).steps w.was (state_of process) w.there runs.reached) ∙ runs.runs in
      let rolls = (all_roll Stands itself system log runs.valid runs.legal).rolls p w.was w.there goes_on in
      let saved : saved_of system log p ≡ saved_letters log p rolls.start = ap (λ (o : Option ProcState). option_map_or (saved_letters log p) o []) rolls.started in
      ap (arrived_below (process.mail).next) saved
      ∙ saved_arrived system log p rolls.start (process.mail).next rolls.started (w.next ∙ rolls_next system log p w.was rolls ∙ rolls.arrived)
      ∙ sym saved

  pub marks_reads : rising process.read ≡ numbers_read (saved_of system log p) (process.mail).letters
  marks_reads = (runs.marked).read ∙ ap (λ saved. numbers_read saved (process.mail).letters) saved_came

  pub marks_due : is_due_since system log p (state_of process) ≡ is_due_by process system.syncreads system.syncsteps
  marks_due =
      let count : length (numbers_read (saved_of system log p) (process.mail).letters) ≡ length process.read = sym (ap length marks_reads) ∙ rising_length process.read in
      λ j. nat_le system.syncreads (count j) || nat_le system.syncsteps ((process.small).steps - sym (runs.marked).since_start j)

  -- ---- the pages

  -- as many marks as pages
  pub marks_count : length (process.ram).dirty ≡ (process.small).pages
  marks_count =
      let w = was_there in
      let sized = process_sized system log p w.was runs.valid w.there in
      omega (arith, runs.sized, w.bytes, sized, w.pages)

  has_unmarked : HasUnmarked process (account_after system log p)
  has_unmarked =
      let w = was_there in
      let paged = (both_paged system p log w.was runs.valid runs.legal w.there).now in
      record {
        rising = paged.rising;
        clean = λ i within unmarked. (runs.marked).clean i (subst (λ n. i < n) marks_count within) unmarked;
        within = λ i behind. paged.within i (subst (λ n. n ≤ i) (marks_count ∙ w.pages) behind);
      }

  pub marks_account : (by : ClusterNo) → (with_pages (pages_sent (batch process by)) (account_after system log p)).now ≡ all_pages (process.ram).bytes
  marks_account by = come_whole process by (account_after system log p) has_unmarked ∙ sym (all_numbered (process.ram).bytes (length (process.ram).dirty) runs.sized)
