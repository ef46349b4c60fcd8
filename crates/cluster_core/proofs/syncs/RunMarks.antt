-- The marks of a process after a quantum.
use Rattle.std.proofs.Common.{◌≡◌, ℕ, zero, suc, refl, sym, ◌∙◌, ap, subst, List, [], Bool, true, false, cond, length, Option, Some, None, true≢false}
use Rattle.std.specs.Prelude.{option_and_then}
use Rattle.t32_base.specs.declared.process.Pid.{Pid}
use Rattle.t32_base.specs.declared.process.Counts.{Counts}
use Rattle.sys_text.specs.declared.system.System.{System}
use Rattle.sys_text.specs.Valid.{is_system}
use Rattle.write_count.specs.Counting.{no_counts}
use Rattle.proc_state.specs.declared.process.Process.{Process}
use Rattle.proc_state.specs.State.{state_of, has_ended}
use Rattle.sys_calls.specs.declared.steps.Emission.{Emission}
use Rattle.sys_calls.specs.Calls.{Emits, Over}
use Rattle.sys_calls.specs.Next.{next_step}
use Rattle.sys_calls.proofs.Counting.{ended_is_over}
use Rattle.roll_forward.specs.Advancing.{Going, going, gone_on, rolled_on}
use Rattle.bus_msg.specs.declared.entry.Entry.{Entry}
use Rattle.cert_sched.specs.Deeds.{arrived_count}
use Rattle.cert_sched.specs.Legal.{IsLegalBy, Stands}
use Rattle.cert_sched.specs.Simulation.{IsUnended}
use Rattle.cert_sched.specs.Steps.{saved_of, silent_upto}
use Rattle.log_laws.specs.letters.ReadsFrom.{ReadsFrom}
use Rattle.log_laws.proofs.letters.LogReads.{silent_reads}
use Rattle.log_laws.proofs.pages.StepSizes.{SameSize, Keeps, next_keeps}
use Rattle.checkpoint_laws.proofs.marks.RolledMarks.{rolled_marked, rolled_sent}
use Rattle.checkpoint_laws.proofs.marks.RolledReads.{rolled_over}
use Rattle.checkpoint_laws.proofs.marks.SendingMarks.{sending_marked, sending_sent}
use Rattle.cluster_core.specs.Holds.{CarriesMarks, IsHeldAs, MarkedIfThere, unended_process}
use Rattle.quanta.specs.Quantum.{RunsOn}
use Rattle.residents.specs.Quantum.{RollsTo, RunsTo}
use Rattle.residents.specs.Held.{Held, Runs, Rolls}
use Rattle.log_laws.proofs.letters.RollingReads.{rolling_reads, silent_next}
use Rattle.replay_laws.proofs.rolling.Others.{rolls_next}

-- one that has ended makes no step
stays_ended : (n : ℕ) (g h : Going) → rolled_on n g ≡ Some h → has_ended ((g.state).small).status ≡ true → has_ended ((h.state).small).status ≡ true
unfolding rolled_on
stays_ended zero g h rolled ended = let same : g ≡ h = cc in ap (λ (k : Going). has_ended ((k.state).small).status) (sym same) ∙ ended
stays_ended (suc n) g h rolled ended = by_case (rolled_on n g) refl rolled (λ k is. stays_ended n g k is ended)
  where
    by_case : (o : Option Going) → rolled_on n g ≡ o → option_and_then (λ k. gone_on k (next_step k.state)) o ≡ Some h → ((k : Going) → rolled_on n g ≡ Some k → has_ended ((k.state).small).status ≡ true) → has_ended ((h.state).small).status ≡ true
    by_case None is last before = cc
    by_case (Some k) is last before = let none : None ≡ Some h = sym (ap (gone_on k) (ended_is_over k.state (before k is))) ∙ last in cc

-- a process, if it has not ended
abbrev unended_one : Process → Option Process
unended_one s = cond (has_ended (s.small).status) None (Some s)

module _ (system : System) (log : List Entry) (p : Pid) (valid : is_system system ≡ true) (legal : IsLegalBy Stands system log) (unended : IsUnended system log p) where
  -- what is asked of it before steps: it has read what it should, and all letters have arrived
  abbrev HasRead : Process → Type 0
  HasRead s = ReadsFrom (saved_of system log p) (s.mail).letters × ((s.mail).next ≡ arrived_count log p)

  -- steps, silent ones or ones whose letters are withheld
  carried_over : (n : ℕ) (s t : Process) (counts left : Counts) (births unborn : List Pid) → rolled_on n (going s counts births) ≡ Some (going t left unborn) → t.since ≡ s.since → HasRead s → CarriesMarks system log p s → CarriesMarks system log p t
  carried_over n s t counts left births unborn rolled since has m =
      let over = rolled_over n (going s counts births) (going t left unborn) rolled in
      record {
        marked = rolled_marked system log p n s t counts left births unborn (record { valid = valid; legal = legal; unended = unended; reads = has.0; next = has.1; pages = m.pages; marked = m.marked }) m.sent rolled since;
        pages = over.pages ∙ m.pages ∙ sym over.marks;
        sent = rolled_sent system log p n s t counts left births unborn m.sent rolled;
      }

  marked_over : (n : ℕ) (s t : Process) (counts left : Counts) (births unborn : List Pid) → rolled_on n (going s counts births) ≡ Some (going t left unborn) → t.since ≡ s.since → (has_ended (s.small).status ≡ false → HasRead s)
      → MarkedIfThere CarriesMarks system log p (unended_one s) → MarkedIfThere CarriesMarks system log p (unended_one t)
  marked_over n s t counts left births unborn rolled since has = by_status (has_ended (s.small).status) (has_ended (t.small).status) refl refl
    where
      by_status : (a b : Bool) → has_ended (s.small).status ≡ a → has_ended (t.small).status ≡ b → MarkedIfThere CarriesMarks system log p (cond a None (Some s)) → MarkedIfThere CarriesMarks system log p (cond b None (Some t))
      by_status a true ended is m = tt
      by_status true false ended is m = absurd (true≢false (sym (stays_ended n (going s counts births) (going t left unborn) rolled ended) ∙ is))
      by_status false false runs is m = carried_over n s t counts left births unborn rolled since (has runs) m

  -- ---- what is held

  has_run : (s : Process) → silent_upto system log p (s.small).steps ≡ Some (state_of s) → has_ended (s.small).status ≡ false → HasRead s
  has_run s is runs = (silent_reads system log p (s.small).steps (state_of s) valid legal is runs, silent_next system log p (s.small).steps (state_of s) valid legal is runs)

  -- steps that are withheld
  pub marked_rolled : (n : ℕ) (was between : Held) → IsHeldAs system log [] p was → RollsTo n was between → MarkedIfThere CarriesMarks system log p (unended_process was) → MarkedIfThere CarriesMarks system log p (unended_process between)
  marked_rolled n (Runs s) (Runs q) held rolls m = subst (λ (x : Process). MarkedIfThere CarriesMarks system log p (unended_one x)) (sym rolls.1) m
  marked_rolled n (Rolls s counts births) (Rolls q left unborn) held rolls m =
      let on = rolls.2 in
      let same = (held.1).rolls in
      marked_over n s q counts left births unborn on.rolled on.since (λ runs. (rolling_reads system log p (state_of s) counts births valid legal unended same, rolls_next system log p (state_of s) counts births same)) m
  marked_rolled n (Rolls s counts births) (Runs q) held rolls m =
      let on = rolls.2 in
      let same = (held.1).rolls in
      marked_over n s q counts rolls.0 births rolls.1 on.rolled on.since (λ runs. (rolling_reads system log p (state_of s) counts births valid legal unended same, rolls_next system log p (state_of s) counts births same)) m
  marked_rolled n was between held rolls m = absurd rolls

  -- silent steps
  pub marked_ran : (n : ℕ) (s t : Process) → silent_upto system log p (s.small).steps ≡ Some (state_of s) → RunsOn n s t → MarkedIfThere CarriesMarks system log p (unended_one s) → MarkedIfThere CarriesMarks system log p (unended_one t)
  marked_ran n s t is on = marked_over n s t no_counts no_counts [] [] (on.ran no_counts []) on.since (has_run s is)

  pub marked_runs : (n : ℕ) (between new : Held) → IsHeldAs system log [] p between → RunsTo n between new → MarkedIfThere CarriesMarks system log p (unended_process between) → MarkedIfThere CarriesMarks system log p (unended_process new)
  marked_runs n (Runs q) (Runs r) held runs m = marked_ran n q r held runs m
  marked_runs n (Rolls q left unborn) new held runs m = subst (λ (x : Held). MarkedIfThere CarriesMarks system log p (unended_process x)) (sym runs.1) m
  marked_runs n between new held runs m = absurd runs

  -- a step that sends something
  pub marked_sends : (s t : Process) (e : Emission) → next_step (state_of s) ≡ Emits e (state_of t) → t ≡ record s { small = t.small } → MarkedIfThere CarriesMarks system log p (unended_one s) → MarkedIfThere CarriesMarks system log p (unended_one t)
  marked_sends s t e sends touches = by_status (has_ended (s.small).status) (has_ended (t.small).status) refl
    where
      sizes : SameSize (state_of s) (state_of t)
      sizes = subst (Keeps (state_of s)) sends (next_keeps (state_of s))

      by_status : (a b : Bool) → has_ended (s.small).status ≡ a → MarkedIfThere CarriesMarks system log p (cond a None (Some s)) → MarkedIfThere CarriesMarks system log p (cond b None (Some t))
      by_status a true is m = tt
      by_status true false ended m = let over : Over ≡ Emits e (state_of t) = sym (ended_is_over (state_of s) ended) ∙ sends in cc
      by_status false false runs m = record {
        marked = sending_marked system log p s t e sends touches m.marked m.sent;
        pages = sizes.pages ∙ m.pages ∙ sym (ap (λ (q : Process). length (q.ram).dirty) touches);
        sent = sending_sent system log p s t e sends m.sent;
      }
