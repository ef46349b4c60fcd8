-- A process that takes its first signal when it synchronises: the state that is told is that after the take, and the letters that it tells of are those that it has read then.
use Rattle.std.proofs.Common.{◌≡◌, ℕ, refl, ◌∙◌, ap, List, Bool, true, false, ◌&&◌, cond, eqb, eq-eqb, Option, Some, None, is_some, true≢false, sym}
use Rattle.std.specs.Option.{option_map_or}
use Rattle.std.proofs.lemmas.Bool.{and_from, and_parts}
use Rattle.t32_base.specs.declared.process.Pid.{Pid}
use Rattle.sys_text.specs.declared.system.System.{System}
use Rattle.proc_state.specs.declared.process.Process.{Process}
use Rattle.proc_state.specs.Mail.{first_signal, is_on}
use Rattle.proc_state.specs.State.{can_take, is_live, state_of}
use Rattle.sys_calls.specs.Steps.{read_after}
use Rattle.sys_calls.specs.Take.{taken}
use Rattle.sys_calls.proofs.TakeLaws.{signal_there}
use Rattle.bus_msg.specs.declared.entry.Entry.{Entry}
use Rattle.sync_point.specs.Batch.{after_take as after_it, cut_of, took_by}
use Rattle.cert_sched.specs.Parts.{rising}
use Rattle.cert_sched.specs.Steps.{numbers_read, saved_of}
use Rattle.checkpoint_laws.specs.posts.Cut.{TakesTo}
use Rattle.checkpoint_laws.specs.posts.Running.{RunsMarked}
use Rattle.checkpoint_laws.proofs.posts.MarksLead.{marks_reads}
use Rattle.checkpoint_laws.proofs.posts.ReadsOneMore.{one_more}

-- the first signal that waits may be taken
first_takes : (process : Process) (o : Option ℕ) → can_take (state_of process) ≡ true → first_signal (process.mail).letters ≡ o → is_some o ≡ true → TakesTo o (state_of process) (taken (state_of process))
first_takes process None can first some = absurd (true≢false (sym some))
first_takes process (Some g) can first some = record {
  can = and_from (can_take (state_of process)) _ can (ap (λ (o : Option ℕ). option_map_or (λ h. eqb h g) o false) first ∙ eq-eqb g g refl);
  after = refl;
}

pub cut_takes : (process : Process) → TakesTo (took_by process) (state_of process) (state_of (cut_of process))
cut_takes process = by_take (can_take (state_of process)) refl
  where
    by_take : (b : Bool) → can_take (state_of process) ≡ b → TakesTo (cond b (first_signal (process.mail).letters) None) (state_of process) (state_of (cond b (after_it process) process))
    by_take true can = first_takes process (first_signal (process.mail).letters) can refl (and_parts (is_live (process.small).status && _) _ can).1
    by_take false none = record { can = refl; after = refl }

module _ (system : System) (log : List Entry) (p : Pid) (process : Process) (runs : RunsMarked system log p process) where
  pub cut_reads : rising (cut_of process).read ≡ numbers_read (saved_of system log p) ((cut_of process).mail).letters
  cut_reads = by_take (can_take (state_of process)) refl
    where
      by_take : (b : Bool) → can_take (state_of process) ≡ b → rising (cond b (after_it process) process).read ≡ numbers_read (saved_of system log p) ((cond b (after_it process) process).mail).letters
      by_take true can =
          let letter = signal_there (state_of process) can in
          ap (λ o. rising (read_after process.read o)) letter.1
          ∙ one_more system log p process runs (Some letter.0) (taken (state_of process)).mail (record { wanted = is_on 0; found = letter.1; left = refl })
      by_take false none = marks_reads system log p process runs
