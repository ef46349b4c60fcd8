-- A fork leaves the marks of the parent: it changes its registers, its ends and its births, and no page. So does a birth in the log, to every process that has not ended.
use Rattle.std.proofs.Common.{◌≡◌, ℕ, ◌+◌, ◌<◌, sym, ◌∙◌, ap, subst, arith, List, Bool, true, false, Some, length, Option}
use Rattle.std.specs.Prelude.{slice_get}
use Rattle.std.specs.Option.{option_map_or}
use Rattle.t32_base.specs.declared.process.Pid.{Pid}
use Rattle.sys_text.specs.declared.system.System.{System}
use Rattle.sys_text.specs.Valid.{is_system}
use Rattle.rv_mem.specs.Memory.{page_at}
use Rattle.proc_state.specs.declared.process.Process.{Process}
use Rattle.proc_state.specs.State.{ProcState, SameRest, state_of}
use Rattle.sys_calls.specs.Fork.{fork_parent}
use Rattle.sys_calls.specs.Steps.{read_after}
use Rattle.sys_calls.proofs.ForkLaws.{forks_marks_none, forks_takes_none}
use Rattle.roll_forward.specs.Rolling.{RollingState}
use Rattle.roll_forward.specs.Advancing.{Advances}
use Rattle.roll_forward.specs.declared.rolled.Rolled.TheVariants.{Born}
use Rattle.bus_msg.specs.declared.entry.What.TheVariants.{Birth}
use Rattle.bus_msg.specs.declared.entry.Entry.{Entry}
use Rattle.bus_msg.specs.PlacedAfter.{what}
use Rattle.cert_sched.specs.Account.{is_exit_of}
use Rattle.cert_sched.specs.Parts.{rising}
use Rattle.cert_sched.specs.Deeds.{is_cut}
use Rattle.cert_sched.specs.Steps.{numbers_read, saved_of}
use Rattle.cert_sched.specs.Told.{cluster_lost}
use Rattle.cert_sched.specs.Legal.{IsLegalBy, Stands}
use Rattle.cert_sched.specs.Simulation.{IsUnended}
use Rattle.cert_sched.proofs.ThereLaws.{unended_not_born}
use Rattle.log_laws.proofs.pages.OneEntry.{moves_none}
use Rattle.log_laws.specs.letters.ReadsFrom.{ReadsFrom}
use Rattle.log_laws.proofs.letters.LogReads.{itself}
use Rattle.checkpoint_laws.specs.posts.Marked.{IsMarked, arrived_below}
use Rattle.checkpoint_laws.specs.marks.Beside.{LeavesMarks, is_some_page}
use Rattle.checkpoint_laws.specs.marks.Rolled.{RollsMarked}
use Rattle.checkpoint_laws.specs.marks.Sent.{SentUpto}
use Rattle.checkpoint_laws.proofs.marks.SentPages.{never_at, sent_later}

-- ---- the parent

module _ (system : System) (log : List Entry) (p child : Pid) (old new : Process) (forked : state_of new ≡ fork_parent (state_of old) child) where
  -- it has made one step more
  pub forked_steps : (new.small).steps ≡ (old.small).steps + 1
  forked_steps = ap (λ (s : ProcState). (s.small).steps) forked

  forked_pages : (new.small).pages ≡ (old.small).pages
  forked_pages = ap (λ (s : ProcState). (s.small).pages) forked

  pub forked_sent : SentUpto system log p (old.small).steps → SentUpto system log p (new.small).steps
  forked_sent upto = let count = forked_steps in sent_later system log p (old.small).steps (new.small).steps (omega (arith, count)) upto

  forked_bytes : (new.ram).bytes ≡ (old.ram).bytes
  forked_bytes = ap (λ (s : ProcState). s.memory) forked

  forked_as : new.read ≡ old.read → new.since ≡ old.since → (new.ram).dirty ≡ (old.ram).dirty → IsMarked system log p old → SentUpto system log p (old.small).steps → IsMarked system log p new
  forked_as read since dirty marked upto =
      let count = forked_steps in
      record {
        since_start = since ∙ marked.since_start;
        read = ap rising read ∙ marked.read ∙ sym (ap (λ (s : ProcState). numbers_read (arrived_below s.next (saved_of system log p)) s.mail) forked);
        clean = λ i within unmarked.
            marked.clean i (subst (λ n. i < n) forked_pages within) (ap (λ marks. option_map_or (λ (b : Bool). b) (slice_get marks i) false) (sym dirty) ∙ unmarked)
            ∙ ap (λ bytes. Some (page_at bytes i)) (sym forked_bytes);
        unsent = λ i within is. never_at system log p (old.small).steps (new.small).steps i (omega (arith, count)) upto;
      }

  pub forked_marked : SameRest old new → IsMarked system log p old → SentUpto system log p (old.small).steps → IsMarked system log p new
  forked_marked rest = forked_as rest.read rest.since (λ j. (rest.ram j).dirty)

-- ---- a parent that rolls forward, and makes its fork again

module _ (system : System) (log : List Entry) (p child : Pid) (process : Option Process) (old new : RollingState) (again : Advances (Born child process) old new) where
  read_again : (new.process).read ≡ (old.process).read
  read_again = (again.taken).read ∙ ap (read_after (old.process).read) (forks_takes_none (state_of old.process) (again.step).0)

  dirty_again : ((new.process).ram).dirty ≡ ((old.process).ram).dirty
  dirty_again = again.marks ∙ forks_marks_none (state_of old.process) ((old.process).ram).dirty (again.step).0

  again_marked : IsMarked system log p old.process → SentUpto system log p ((old.process).small).steps → IsMarked system log p new.process
  again_marked = forked_as system log p child old.process new.process (again.step).1 read_again (again.taken).since dirty_again

  pub again_rolls : RollsMarked system log p old.process → SentUpto system log p ((old.process).small).steps → RollsMarked system log p new.process
  again_rolls rolls upto = record {
    valid = rolls.valid;
    legal = rolls.legal;
    unended = rolls.unended;
    reads = subst (ReadsFrom (saved_of system log p)) (sym (ap (λ (s : ProcState). s.mail) (again.step).1)) rolls.reads;
    next = ap (λ (s : ProcState). s.next) (again.step).1 ∙ rolls.next;
    pages = ap (λ (s : ProcState). (s.small).pages) (again.step).1 ∙ rolls.pages ∙ sym (ap length dirty_again);
    marked = again_marked rolls.marked upto;
  }

  pub again_sent : SentUpto system log p ((old.process).small).steps → SentUpto system log p ((new.process).small).steps
  again_sent = forked_sent system log p child old.process new.process (again.step).1

-- ---- the log

-- a birth is no cut, exit or page, loses no cluster, and bears no process that is there
pub birth_leaves : (system : System) (log : List Entry) (e : Entry) (parent : Pid) (at : ℕ) (child : Pid) (end : ℕ) (p : Pid) → is_system system ≡ true → IsLegalBy Stands system log → Stands system log e → what e ≡ Birth parent at child end
    → IsUnended system log p → LeavesMarks system log e p
birth_leaves system log e parent at child end p valid legal stands is unended = record {
  no_cut = ap (is_cut p) is;
  no_birth = unended_not_born Stands itself system log e p valid legal stands unended;
  no_exit = ap (is_exit_of p) is;
  no_page = ap (is_some_page p) is;
  stays = moves_none system log e (ap cluster_lost is) p;
}
