-- What a process has read of its saved letters, as it remembers it, and what it has read with one letter more.
use Rattle.std.proofs.Common.{◌≡◌, sym, ◌∙◌, ap, List, [], true, false, eqb, Option, Some, None}
use Rattle.std.specs.List.{list_any}
use Rattle.std.specs.Option.{option_map_or}
use Rattle.std.proofs.lemmas.Bool.{and_parts}
use Rattle.t32_base.specs.declared.process.Pid.{Pid}
use Rattle.t32_base.specs.declared.letter.Arrived.{Arrived}
use Rattle.sys_text.specs.declared.system.System.{System}
use Rattle.proc_state.specs.declared.process.Process.{Process}
use Rattle.proc_state.specs.State.{ProcState, state_of, has_ended}
use Rattle.sys_calls.specs.Steps.{read_after}
use Rattle.bus_msg.specs.declared.entry.Entry.{Entry}
use Rattle.backup_queue.specs.Queue.{is_unread}
use Rattle.cert_sched.specs.Parts.{put_rising, rising}
use Rattle.cert_sched.specs.Deeds.{arrived_count, saved_letters}
use Rattle.cert_sched.specs.Steps.{numbers_read, saved_of}
use Rattle.cert_sched.specs.Legal.{Stands}
use Rattle.cert_sched.proofs.MailLaws.{silent_upto-ends}
use Rattle.cert_sched.proofs.RollLaws.{all_roll, rolls_next}
use Rattle.log_laws.specs.letters.Numbered.{are_below, are_in_order}
use Rattle.log_laws.specs.letters.ReadsFrom.{ReadsFrom}
use Rattle.log_laws.proofs.letters.LogReads.{itself, all_saved_numbered, silent_reads}
use Rattle.checkpoint_laws.specs.posts.Marked.{arrived_below}
use Rattle.checkpoint_laws.specs.posts.Running.{RunsMarked}
use Rattle.checkpoint_laws.proofs.posts.MarksLead.{was_there, marks_reads}
use Rattle.checkpoint_laws.proofs.posts.SavedNumbers.{saved_arrived}
use Rattle.checkpoint_laws.proofs.posts.TakenNumbers.{TakesOut, filter_in_order, has_filter, one_more_read, taken_was_there, rising_last}

module _ (system : System) (log : List Entry) (p : Pid) (process : Process) (runs : RunsMarked system log p process) where
  -- the saved letters rise, and all of them have arrived
  pub record Came : Type 0 where
    pub rises : are_in_order (saved_of system log p) ≡ true
    pub all : arrived_below (process.mail).next (saved_of system log p) ≡ saved_of system log p

  pub came : Came
  came =
      let w = was_there system log p process runs in
      let goes_on : has_ended ((w.was).small).status ≡ false = sym (silent_upto-ends system log p (process.small).steps w.was (state_of process) w.there runs.reached) ∙ runs.runs in
      let rolls = (all_roll Stands itself system log runs.valid runs.legal).rolls p w.was w.there goes_on in
      let is : saved_of system log p ≡ saved_letters log p rolls.start = ap (λ (o : Option ProcState). option_map_or (saved_letters log p) o []) rolls.started in
      let numbered = all_saved_numbered system log p w.was runs.valid runs.legal w.there goes_on in
      record {
        rises = (and_parts (are_in_order (saved_of system log p)) (are_below (arrived_count log p) (saved_of system log p)) numbered).0;
        all =
            ap (arrived_below (process.mail).next) is
            ∙ saved_arrived system log p rolls.start (process.mail).next rolls.started (w.next ∙ rolls_next system log p w.was rolls ∙ rolls.arrived)
            ∙ sym is;
      }

  reads : ReadsFrom (saved_of system log p) (process.mail).letters
  reads = silent_reads system log p (process.small).steps (state_of process) runs.valid runs.legal runs.reached runs.runs

  in_order : are_in_order (process.mail).letters ≡ true
  in_order =
      ap are_in_order reads.left
      ∙ filter_in_order (is_unread (numbers_read (saved_of system log p) (process.mail).letters)) (saved_of system log p) came.rises

  -- where a letter is taken out of its mailbox, its number is the last of those that it has read
  pub one_more : (taken : Option Arrived) (mail : List Arrived) → TakesOut taken (process.mail).letters mail → rising (read_after process.read taken) ≡ numbers_read (saved_of system log p) mail
  one_more None mail same = marks_reads system log p process runs ∙ ap (numbers_read (saved_of system log p)) (sym same)
  one_more (Some a) mail taken =
      let there = has_filter a.number (is_unread (numbers_read (saved_of system log p) (process.mail).letters)) (saved_of system log p)
      (ap (λ mail. list_any (λ (b : Arrived). eqb b.number a.number) mail) (sym reads.left) ∙ taken_was_there (process.mail).letters mail a taken) in
      rising_last process.read a.number
      ∙ ap (put_rising a.number) (marks_reads system log p process runs)
      ∙ sym (one_more_read (saved_of system log p) (process.mail).letters mail a came.rises in_order there taken)
