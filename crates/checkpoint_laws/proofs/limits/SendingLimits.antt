-- What a process sends that is not due keeps the limits.
use Rattle.std.proofs.Common.{◌≡◌, ℕ, suc, ◌-◌, refl, sym, ◌∙◌, ap, subst, arith, List, length, true, false, ◌&&◌, leb, Option, Some, None}
use Rattle.std.specs.Prelude.{option_and_then, option_map}
use Rattle.std.specs.Option.{option_map_or}
use Rattle.t32_base.specs.declared.process.Pid.{Pid}
use Rattle.t32_base.specs.declared.process.End.{End}
use Rattle.t32_base.specs.declared.letter.Letter.{Letter}
use Rattle.sys_text.specs.declared.system.System.{System}
use Rattle.proc_state.specs.declared.process.Process.{Process}
use Rattle.proc_state.specs.State.{ProcState, state_of}
use Rattle.sys_calls.specs.declared.steps.Emission.{Emission}
use Rattle.sys_calls.specs.declared.steps.Emission.TheVariants.{Mail as SentMail, Exit as SentExit}
use Rattle.sys_calls.specs.Calls.{Emits}
use Rattle.sys_calls.specs.Next.{emission_of, last_emission, next_step, silently}
use Rattle.sys_calls.proofs.Counting.{emits_counts}
use Rattle.sync_point.specs.Due.{is_due_by}
use Rattle.bus_msg.specs.declared.entry.What.{What}
use Rattle.bus_msg.specs.declared.entry.What.TheVariants.{Mail, Exit}
use Rattle.bus_msg.specs.declared.entry.Entry.{Entry}
use Rattle.cert_sched.specs.Schedule.{done_after, process_after}
use Rattle.cert_sched.specs.Steps.{emission_at, numbers_read, reads_since, saved_of, silent_upto}
use Rattle.cert_sched.specs.Rules.{keeps_limits}
use Rattle.cert_sched.proofs.StepLaws.{Tells, sent_is_own}
use Rattle.log_laws.proofs.letters.StepReads.{sent_leaves}
use Rattle.checkpoint_laws.specs.posts.Running.{RunsMarked}
use Rattle.checkpoint_laws.proofs.posts.Standing.{reached_later}
use Rattle.checkpoint_laws.specs.limits.Within.{KeepsLimits}
use Rattle.checkpoint_laws.proofs.limits.OwnCounts.{own_reads}
use Rattle.checkpoint_laws.proofs.limits.StepLimits.{one_more}

module _ (system : System) (log : List Entry) (p : Pid) (process : Process) (e : Emission) (t : ProcState) (runs : RunsMarked system log p process) (sends : next_step (state_of process) ≡ Emits e t) where
  -- it is the step that the log would tell of
  pub sent_at : emission_at system log p (t.small).steps ≡ Some (e, t)
  unfolding emission_at silent_upto
  sent_at =
      let low = reached_later system log p (state_of process) runs.reached in
      let one = (emits_counts (state_of process) t e sends).steps in
      let made : (t.small).steps - done_after system log p ≡ suc ((process.small).steps - done_after system log p) = omega (arith, low, one) in
      ap (λ n. option_and_then (last_emission n) (process_after system log p)) made ∙ by_process (process_after system log p) runs.reached
    where
      n : ℕ
      n = (process.small).steps - done_after system log p

      by_process : (o : Option ProcState) → option_and_then (silently n) o ≡ Some (state_of process) → option_and_then (last_emission (suc n)) o ≡ Some (e, t)
      by_process None is = cc
      by_process (Some w) is = ap (λ o. option_and_then (λ q. emission_of (next_step q)) o) is ∙ ap emission_of sends

  module _ (undue : is_due_by process system.syncreads system.syncsteps ≡ false) where
    -- after it the process keeps the limits
    pub sent_limits : keeps_limits system log p t ≡ true
    sent_limits =
        let one = (emits_counts (state_of process) t e sends).steps in
        let read : reads_since system log p t ≡ length process.read = ap (λ mail. length (numbers_read (saved_of system log p) mail)) (sent_leaves (state_of process) t e sends) ∙ own_reads system log p process runs in
        (λ j. leb ((t.small).steps - sym (runs.marked).since_start j) system.syncsteps && leb (read j) system.syncreads)
        ∙ one_more system.syncreads system.syncsteps (length process.read) (length process.read) (process.small).steps (t.small).steps process.since undue (omega (arith, one)) (omega arith)

    sent_items : option_map_or (keeps_limits system log p) (option_map (λ (r : Emission × ProcState). r.1) (emission_at system log p (t.small).steps)) false ≡ true
    sent_items = ap (λ o. option_map_or (keeps_limits system log p) (option_map (λ (r : Emission × ProcState). r.1) o) false) sent_at ∙ sent_limits

    -- and so does the entry that tells of it
    pub told_limits : (w : What) → Tells p (t.small).steps e w → KeepsLimits system log w
    told_limits w tells = by_emission e tells
      where
        by_emission : (m : Emission) → Tells p (t.small).steps m w → KeepsLimits system log w
        by_emission (SentMail letter) told =
            subst (KeepsLimits system log) (sym told.1)
            (subst (λ q. option_map_or (keeps_limits system log q) (option_map (λ (r : Emission × ProcState). r.1) (emission_at system log q (t.small).steps)) false ≡ true) (sym told.0) sent_items)
        by_emission (SentExit end) told = subst (KeepsLimits system log) (sym told) sent_items

pub sent_keeps : (system : System) (log : List Entry) (p : Pid) (process : Process) (e : Emission) (t : ProcState) → RunsMarked system log p process → is_due_by process system.syncreads system.syncsteps ≡ false → next_step (state_of process) ≡ Emits e t
    → keeps_limits system log p t ≡ true
sent_keeps system log p process e t runs undue sends = sent_limits system log p process e t runs sends undue

pub letter_keeps : (system : System) (log : List Entry) (p : Pid) (process : Process) (letter : Letter) (t : ProcState) → RunsMarked system log p process → is_due_by process system.syncreads system.syncsteps ≡ false
    → next_step (state_of process) ≡ Emits (SentMail letter) t → KeepsLimits system log (Mail (t.small).steps letter)
letter_keeps system log p process letter t runs undue sends =
    let own = sent_is_own system log p (t.small).steps letter t (sent_at system log p process (SentMail letter) t runs sends) in
    told_limits system log p process (SentMail letter) t runs sends undue (Mail (t.small).steps letter) (own, refl)

pub exit_keeps : (system : System) (log : List Entry) (p : Pid) (process : Process) (end : End) (t : ProcState) → RunsMarked system log p process → is_due_by process system.syncreads system.syncsteps ≡ false
    → next_step (state_of process) ≡ Emits (SentExit end) t → KeepsLimits system log (Exit p (t.small).steps end)
exit_keeps system log p process end t runs undue sends = told_limits system log p process (SentExit end) t runs sends undue (Exit p (t.small).steps end) refl
