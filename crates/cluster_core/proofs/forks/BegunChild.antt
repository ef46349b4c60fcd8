-- A fork that is made again, beside a log: the parent rolls forward after it, and a child that waits for it begins there.
use Rattle.std.proofs.Common.{◌≡◌, ◌≤◌, refl, sym, ◌∙◌, ap, subst, arith, List, [], ◌∷◌, true, false, length, Option, Some}
use Rattle.std.specs.Option.{option_map_or}
use Rattle.std.proofs.lemmas.List.{length-replicate}
use Rattle.t32_base.specs.declared.process.Pid.{Pid}
use Rattle.t32_base.specs.declared.process.Counts.{Counts}
use Rattle.t32_base.specs.declared.letter.BackRec.{BackRec}
use Rattle.sys_text.specs.declared.system.System.{System}
use Rattle.sys_text.specs.Valid.{is_system}
use Rattle.proc_state.specs.declared.process.Process.{Process}
use Rattle.proc_state.specs.State.{ProcState, state_of}
use Rattle.sys_calls.specs.Calls.{Forks}
use Rattle.sys_calls.specs.Fork.{fork_child}
use Rattle.sys_calls.specs.Next.{next_step}
use Rattle.bus_msg.specs.declared.entry.Entry.{Entry}
use Rattle.roll_forward.specs.RunsOut.{RunsOn}
use Rattle.cert_sched.specs.Deeds.{saved_letters, start_of}
use Rattle.cert_sched.specs.Moved.{any_since_moved}
use Rattle.cert_sched.specs.Record.{backup_record, has_state}
use Rattle.cert_sched.specs.Legal.{IsLegalBy, Stands}
use Rattle.cert_sched.specs.Simulation.{IsUnended}
use Rattle.cert_sched.specs.Steps.{saved_of}
use Rattle.cert_sched.proofs.RunsOutLaws.{record_of}
use Rattle.replay_laws.specs.rolling.Behind.{RollsBehind}
use Rattle.replay_laws.proofs.rolling.ByRule.{itself, standing_from_kept}
use Rattle.replay_laws.proofs.rolling.ForkedAgain.{child_starts}
use Rattle.replay_laws.proofs.rolling.Reaching.{led_there}
use Rattle.replay_laws.proofs.rolling.Stepping.{rolls_on}
use Rattle.checkpoint_laws.specs.marks.Beside.{is_some_page}
use Rattle.checkpoint_laws.proofs.marks.AllMarked.{all_marked}
use Rattle.checkpoint_laws.proofs.marks.ForkMarks.{forked_marked, forked_sent}
use Rattle.checkpoint_laws.proofs.marks.SentPages.{unsent_upto}
use Rattle.residents.specs.Bearing.{forked, newborn}
use Rattle.residents.specs.ForkingAgain.{with_mail_of}
use Rattle.cluster_core.specs.Holds.{CarriesMarks}

module _ (system : System) (log : List Entry) (p : Pid) (process : Process) (counts : Counts) (child : Pid) (births : List Pid) (valid : is_system system ≡ true) (legal : IsLegalBy Stands system log) (unended : IsUnended system log p)
    (behind : RollsBehind system log p (state_of process) counts (child ∷ births)) (forks : next_step (state_of process) ≡ Forks) where
  -- ---- the parent

  -- it rolls forward after the fork
  pub forked_behind : RollsBehind system log p (state_of (forked process child)) counts births
  forked_behind =
      let l = led_there Stands itself system log p valid legal unended in
      subst (λ next. RunsOn (state_of process) counts (λ t left rest. RollsBehind system log p t left rest) next (child ∷ births)) forks (rolls_on system log p l.now l.led (state_of process) counts (child ∷ births) behind.rolls refl)

  -- with its marks
  pub forked_carries : CarriesMarks system log p process → CarriesMarks system log p (forked process child)
  forked_carries carries = record {
    marked = forked_marked system log p child process (forked process child) refl (record { ram = refl; read = refl; since = refl }) carries.marked carries.sent;
    pages = carries.pages;
    sent = forked_sent system log p child process (forked process child) refl carries.sent;
  }

  -- ---- the child

  module _ (kept : BackRec) (is : backup_record system log child ≡ Some kept) (stateless : has_state system log child ≡ false) (open_child : IsUnended system log child) where
    starts : start_of system log child ≡ Some (fork_child (state_of process) child)
    starts = child_starts Stands itself system log p valid legal unended (state_of process) counts child births stateless behind.rolls forks

    -- it rolls forward from there
    pub born_behind : RollsBehind system log child (state_of (with_mail_of kept (newborn process child))) kept.counts kept.births
    born_behind = standing_from_kept system log child (fork_child (state_of process) child) kept valid legal open_child starts is

    -- with each page marked, where none was sent since a crash moved it
    pub born_carries : CarriesMarks system log p process → any_since_moved system log child (is_some_page child) ≡ false → CarriesMarks system log child (with_mail_of kept (newborn process child))
    born_carries carries unsent =
        let pages = carries.pages in
        let within : (process.small).pages ≤ length (process.ram).dirty = omega (arith, pages) in
        let saved : kept.saved ≡ saved_of system log child =
        sym (ap (λ (r : BackRec). r.saved) (record_of system log child (fork_child (state_of process) child) kept starts is)) ∙ sym (ap (λ (o : Option ProcState). option_map_or (saved_letters log child) o []) starts) in
        record {
          marked =
              all_marked system log child (with_mail_of kept (newborn process child)) (length (process.ram).dirty) (sym (ap (λ (o : Option ProcState). option_map_or (λ (s : ProcState). (s.small).steps) o 0) starts)) refl saved refl within unsent;
          pages = pages ∙ sym (length-replicate (length (process.ram).dirty) true);
          sent = unsent_upto system log child 0 unsent;
        }
