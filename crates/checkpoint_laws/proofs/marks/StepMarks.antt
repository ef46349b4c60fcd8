-- A process that runs with its marks runs with them after a silent step.
use Rattle.std.proofs.Common.{◌≡◌, ℕ, zero, suc, ◌-◌, ◌<◌, refl, sym, ◌∙◌, ap, subst, arith, List, [], ◌∷◌, length, Bool, false, slice_get, Option, Some, None}
use Rattle.std.specs.Prelude.{option_and_then}
use Rattle.std.specs.Option.{option_map_or}
use Rattle.t32_base.specs.declared.process.Pid.{Pid}
use Rattle.sys_text.specs.declared.system.System.{System}
use Rattle.rv_mem.specs.Memory.{page_at}
use Rattle.proc_state.specs.declared.process.Process.{Process}
use Rattle.proc_state.specs.State.{ProcState, state_of}
use Rattle.sys_calls.specs.Next.{next_step, letter_taken, silent_of, silently}
use Rattle.sys_calls.proofs.Counting.{CountsOne, silent_counts, silent_goes_on}
use Rattle.bus_msg.specs.declared.entry.Entry.{Entry}
use Rattle.cert_sched.specs.Parts.{rising}
use Rattle.cert_sched.specs.Schedule.{done_after, process_after}
use Rattle.cert_sched.specs.Account.{account_after, page_in}
use Rattle.cert_sched.specs.Moved.{any_since_moved, is_page_at}
use Rattle.cert_sched.specs.Steps.{numbers_read, saved_of, silent_upto}
use Rattle.roll_forward.proofs.RollLaws.{silent_clean}
use Rattle.log_laws.proofs.pages.StepSizes.{SameSize, Keeps, next_keeps}
use Rattle.checkpoint_laws.specs.posts.Marked.{IsMarked, arrived_below, is_dirty}
use Rattle.checkpoint_laws.specs.posts.Running.{RunsMarked}
use Rattle.checkpoint_laws.proofs.posts.MarksLead.{marks_count}
use Rattle.checkpoint_laws.proofs.posts.ReadsOneMore.{came, one_more}
use Rattle.checkpoint_laws.proofs.posts.Standing.{reached_later}
use Rattle.checkpoint_laws.specs.marks.Sent.{SentUpto}
use Rattle.checkpoint_laws.specs.marks.Stepped.{StepsSilently}
use Rattle.checkpoint_laws.proofs.marks.SentPages.{never_at, sent_later}
use Rattle.checkpoint_laws.proofs.marks.TakenLetter.{silent_takes_out, length-step_marks}

-- ---- pages that were sent

pub step_sent : (system : System) (log : List Entry) (p : Pid) (old new : Process) → SentUpto system log p (old.small).steps → StepsSilently old new → SentUpto system log p (new.small).steps
step_sent system log p old new upto step =
    let count = (silent_counts (state_of old) (state_of new) step.makes).steps in
    sent_later system log p (old.small).steps (new.small).steps (omega (arith, count)) upto

-- ---- a page that is marked or not

none_within : (marks : List Bool) (i : ℕ) → i < length marks → slice_get marks i ≡ None → ⊥
none_within [] i within none = absurd (omega arith)
none_within (m ∷ marks) zero within none = cc
none_within (m ∷ marks) (suc i) within none = none_within marks i (omega (arith, within)) none

-- a page that has no mark among so many has one that is not set
pub unset : (marks : List Bool) (i : ℕ) → i < length marks → option_map_or (λ (b : Bool). b) (slice_get marks i) false ≡ false → slice_get marks i ≡ Some false
unset marks i within unmarked = by_mark (slice_get marks i) refl unmarked
  where
    by_mark : (o : Option Bool) → slice_get marks i ≡ o → option_map_or (λ (b : Bool). b) o false ≡ false → o ≡ Some false
    by_mark None there is = absurd (none_within marks i within there)
    by_mark (Some b) there is = ap Some is

-- ---- the step

module _ (system : System) (log : List Entry) (p : Pid) (old new : Process) (runs : RunsMarked system log p old) (step : StepsSilently old new) where
  counts : CountsOne (state_of old) (state_of new)
  counts = silent_counts (state_of old) (state_of new) step.makes

  sizes : SameSize (state_of old) (state_of new)
  sizes = subst (Keeps (state_of old)) step.makes (next_keeps (state_of old))

  as_many : length (new.ram).dirty ≡ length (old.ram).dirty
  as_many = ap length step.marks ∙ length-step_marks (state_of old) (old.ram).dirty

  reached : silent_upto system log p (new.small).steps ≡ Some (state_of new)
  unfolding silent_upto silently
  reached =
      let low = reached_later system log p (state_of old) runs.reached in
      let one = counts.steps in
      let made : (new.small).steps - done_after system log p ≡ suc ((old.small).steps - done_after system log p) = omega (arith, low, one) in
      ap (λ n. option_and_then (silently n) (process_after system log p)) made ∙ by_process (process_after system log p) runs.reached
    where
      n : ℕ
      n = (old.small).steps - done_after system log p

      by_process : (o : Option ProcState) → option_and_then (silently n) o ≡ Some (state_of old) → option_and_then (silently (suc n)) o ≡ Some (state_of new)
      by_process None is = cc
      by_process (Some w) is = ap (λ o. option_and_then (λ q. silent_of (next_step q)) o) is ∙ ap silent_of step.makes

  -- ---- the letters

  all_came : arrived_below (new.mail).next (saved_of system log p) ≡ saved_of system log p
  all_came = ap (λ n. arrived_below n (saved_of system log p)) counts.next ∙ (came system log p old runs).all

  -- ---- the pages

  clean_now : (i : ℕ) → i < (new.small).pages → is_dirty new i ≡ false → page_in (account_after system log p).now i ≡ Some (page_at (new.ram).bytes i)
  clean_now i within unmarked =
      let count : i < length (new.ram).dirty = subst (λ n. i < n) (sizes.pages ∙ sym (marks_count system log p old runs) ∙ sym as_many) within in
      let kept = silent_clean old new step.makes step.marks i (unset (new.ram).dirty i count unmarked) in
      (runs.marked).clean i (subst (λ n. i < n) sizes.pages within) (ap (λ o. option_map_or (λ (b : Bool). b) o false) kept.0) ∙ ap Some (sym kept.1)

  -- ---- the marks

  module _ (upto : SentUpto system log p (old.small).steps) where
    unsent_now : (i : ℕ) → any_since_moved system log p (is_page_at p i (new.small).steps) ≡ false
    unsent_now i =
        let count = counts.steps in
        never_at system log p (old.small).steps (new.small).steps i (omega (arith, count)) upto

    marked_now : IsMarked system log p new
    marked_now = record {
      since_start = (step.took).since ∙ (runs.marked).since_start;
      read = ap rising (step.took).read ∙ one_more system log p old runs (letter_taken (state_of old)) (new.mail).letters (silent_takes_out (state_of old) (state_of new) step.makes)
          ∙ sym (ap (λ letters. numbers_read letters (new.mail).letters) all_came);
      clean = clean_now;
      unsent = λ i within is. unsent_now i;
    }

    runs_now : RunsMarked system log p new
    runs_now =
        let size = sizes.bytes in
        let marks = as_many in
        let before = runs.sized in
        record {
          valid = runs.valid;
          legal = runs.legal;
          reached = reached;
          runs = silent_goes_on (state_of old) (state_of new) step.makes;
          sized = omega (arith, size, marks, before);
          marked = marked_now;
        }

pub step_marked : (system : System) (log : List Entry) (p : Pid) (old new : Process) → RunsMarked system log p old → SentUpto system log p (old.small).steps → StepsSilently old new → IsMarked system log p new
step_marked system log p old new runs upto step = marked_now system log p old new runs step upto

pub step_runs : (system : System) (log : List Entry) (p : Pid) (old new : Process) → RunsMarked system log p old → SentUpto system log p (old.small).steps → StepsSilently old new → RunsMarked system log p new
step_runs system log p old new runs upto step = runs_now system log p old new runs step upto
