-- A process that rolls forward has its marks after steps that are silent or withheld.
use Rattle.std.proofs.Common.{◌≡◌, ℕ, zero, suc, ◌+◌, ◌<◌, sym, ◌∙◌, ap, subst, arith, List, length, Bool, true, false, slice_get, Some}
use Rattle.std.specs.Option.{option_map_or}
use Rattle.std.proofs.lemmas.Option.{same_Some}
use Rattle.t32_base.specs.declared.process.Pid.{Pid}
use Rattle.t32_base.specs.declared.process.Counts.{Counts}
use Rattle.t32_base.specs.declared.letter.Arrived.{Arrived}
use Rattle.sys_text.specs.declared.system.System.{System}
use Rattle.rv_mem.specs.Memory.{page_at}
use Rattle.proc_state.specs.declared.process.Process.{Process}
use Rattle.proc_state.specs.State.{state_of}
use Rattle.roll_forward.specs.Advancing.{Going, going, rolled_on}
use Rattle.roll_forward.proofs.RollLaws.{rolled_keeps}
use Rattle.roll_forward.proofs.RolledLaws.{RolledKeeps, rolled_keeps as rolled_counts}
use Rattle.bus_msg.specs.declared.entry.Entry.{Entry}
use Rattle.backup_queue.specs.Queue.{is_unread}
use Rattle.cert_sched.specs.Account.{account_after, page_in}
use Rattle.cert_sched.specs.Moved.{any_since_moved, is_page_at}
use Rattle.cert_sched.specs.Steps.{numbers_read, saved_of}
use Rattle.log_laws.specs.letters.Numbered.{are_in_order}
use Rattle.checkpoint_laws.specs.posts.Marked.{IsMarked, arrived_below, is_dirty}
use Rattle.checkpoint_laws.specs.marks.Rolled.{RollsMarked}
use Rattle.checkpoint_laws.specs.marks.Sent.{SentUpto}
use Rattle.checkpoint_laws.proofs.marks.RolledReads.{ReadsOn, RolledOver, rolled_over}
use Rattle.checkpoint_laws.proofs.marks.SavedCame.{Came, came}
use Rattle.checkpoint_laws.proofs.marks.SentPages.{never_at, sent_later}
use Rattle.checkpoint_laws.proofs.marks.StepMarks.{unset}
use Rattle.checkpoint_laws.proofs.posts.TakenNumbers.{filter_in_order, has, has_filter}

pub rolled_sent : (system : System) (log : List Entry) (p : Pid) (n : ℕ) (old new : Process) (counts left : Counts) (births unborn : List Pid) → SentUpto system log p (old.small).steps
    → rolled_on n (going old counts births) ≡ Some (going new left unborn) → SentUpto system log p (new.small).steps
rolled_sent system log p n old new counts left births unborn upto rolled =
    let count = (rolled_counts n (going old counts births) (going new left unborn) rolled).steps in
    sent_later system log p (old.small).steps (new.small).steps (omega (arith, count)) upto

-- no steps leave the marks
none_rolled : (g h : Going) → rolled_on 0 g ≡ Some h → h.marks ≡ g.marks
unfolding rolled_on
none_rolled g h rolled = ap (λ (k : Going). k.marks) (sym (same_Some g h rolled))

module _ (system : System) (log : List Entry) (p : Pid) (n : ℕ) (old new : Process) (counts left : Counts) (births unborn : List Pid) (rolls : RollsMarked system log p old) (upto : SentUpto system log p (old.small).steps)
    (rolled : rolled_on n (going old counts births) ≡ Some (going new left unborn)) where
  count_on : RolledKeeps n (state_of old) (state_of new)
  count_on = rolled_counts n (going old counts births) (going new left unborn) rolled

  over : RolledOver (going old counts births) (going new left unborn)
  over = rolled_over n (going old counts births) (going new left unborn) rolled

  saved : List Arrived
  saved = saved_of system log p

  -- ---- the letters

  all_came : Came system log p (old.mail).next
  all_came = came system log p (old.mail).next rolls.valid rolls.legal rolls.unended rolls.next

  read_before : ReadsOn saved (going old counts births)
  unfolding saved
  read_before =
      let test = is_unread (numbers_read saved (old.mail).letters) in
      let unread = (rolls.reads).left in
      record {
        read = (rolls.marked).read ∙ ap (λ letters. numbers_read letters (old.mail).letters) all_came.all;
        in_order = ap are_in_order unread ∙ filter_in_order test saved all_came.rises;
        within = λ m there. has_filter m test saved (ap (has m) (sym unread) ∙ there);
      }

  read_now : numbers_read saved (new.mail).letters ≡ numbers_read (arrived_below (new.mail).next saved) (new.mail).letters
  unfolding saved
  read_now = ap (λ letters. numbers_read letters (new.mail).letters) (sym (ap (λ m. arrived_below m saved) count_on.next ∙ all_came.all))

  -- ---- the pages

  within_marks : (i : ℕ) → i < (new.small).pages → i < length (new.ram).dirty
  within_marks i within = subst (λ m. i < m) (over.pages ∙ rolls.pages ∙ sym over.marks) within

  clean_now : (i : ℕ) → i < (new.small).pages → is_dirty new i ≡ false → page_in (account_after system log p).now i ≡ Some (page_at (new.ram).bytes i)
  clean_now i within unmarked =
      let kept = rolled_keeps n (going old counts births) (going new left unborn) rolled i (unset (new.ram).dirty i (within_marks i within) unmarked) in
      (rolls.marked).clean i (subst (λ m. i < m) over.pages within) (ap (λ o. option_map_or (λ (b : Bool). b) o false) kept.0) ∙ ap Some (sym kept.1)

  -- a page that has a mark was not sent at the step count that is reached; where no step was made it is as before
  unsent_now : (i : ℕ) → i < (new.small).pages → is_dirty new i ≡ true → any_since_moved system log p (is_page_at p i (new.small).steps) ≡ false
  unsent_now i within marked = by_steps n count_on.steps rolled
    where
      by_steps : (m : ℕ) → (new.small).steps ≡ (old.small).steps + m → rolled_on m (going old counts births) ≡ Some (going new left unborn) → any_since_moved system log p (is_page_at p i (new.small).steps) ≡ false
      by_steps zero count made =
          let same : (new.small).steps ≡ (old.small).steps = omega (arith, count) in
          ap (λ m. any_since_moved system log p (is_page_at p i m)) same
          ∙ (rolls.marked).unsent i (subst (λ m. i < m) over.pages within)
          (ap (λ (marks : List Bool). option_map_or (λ (b : Bool). b) (slice_get marks i) false) (sym (none_rolled (going old counts births) (going new left unborn) made)) ∙ marked)
      by_steps (suc m) count made = never_at system log p (old.small).steps (new.small).steps i (omega (arith, count)) upto

  marked_now : new.since ≡ old.since → IsMarked system log p new
  unfolding saved
  marked_now since = record {
    since_start = since ∙ (rolls.marked).since_start;
    read = (over.reads saved all_came.rises read_before).read ∙ read_now;
    clean = clean_now;
    unsent = unsent_now;
  }

pub rolled_marked : (system : System) (log : List Entry) (p : Pid) (n : ℕ) (old new : Process) (counts left : Counts) (births unborn : List Pid) → RollsMarked system log p old → SentUpto system log p (old.small).steps
    → rolled_on n (going old counts births) ≡ Some (going new left unborn) → new.since ≡ old.since → IsMarked system log p new
rolled_marked system log p n old new counts left births unborn rolls upto rolled = marked_now system log p n old new counts left births unborn rolls upto rolled
