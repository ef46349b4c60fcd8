-- In a cluster that follows a log each process that rolls forward can make its forks again.
use Rattle.std.proofs.Common.{◌≡◌, ℕ, zero, suc, sym, ◌∙◌, ap, subst, List, [], ◌∷◌, true, false, Some, is_some}
use Rattle.t32_base.specs.declared.process.Pid.{Pid}
use Rattle.t32_base.specs.declared.process.Counts.{Counts}
use Rattle.sys_text.specs.Valid.{is_system}
use Rattle.proc_state.specs.State.{ProcState, state_of}
use Rattle.sys_calls.specs.Calls.{Forks}
use Rattle.sys_calls.specs.Fork.{fork_child}
use Rattle.sys_calls.specs.Next.{next_step}
use Rattle.bus_msg.specs.declared.entry.Entry.{Entry}
use Rattle.roll_forward.specs.Rolling.{with_saved}
use Rattle.cert_sched.specs.Legal.{MayStand}
use Rattle.cert_sched.specs.Legal.{IsLegalBy, Stands}
use Rattle.cert_sched.specs.Record.{has_state}
use Rattle.cert_sched.specs.Simulation.{IsUnended}
use Rattle.log_laws.proofs.records.Standing.{all_stand}
use Rattle.replay_laws.specs.rolling.Behind.{RollsBehind}
use Rattle.replay_laws.proofs.rolling.ByRule.{itself, standing_always, standing_from_kept}
use Rattle.replay_laws.proofs.rolling.ForkedAgain.{child_starts}
use Rattle.replay_laws.proofs.rolling.FromStart.{record_stated}
use Rattle.replay_laws.proofs.rolling.Reaching.{led_there}
use Rattle.replay_laws.proofs.rolling.Stepping.{rolls_on}
use Rattle.replay_laws.proofs.forks.EitherWait.{kept_so}
use Rattle.cluster_core.specs.View.{ClusterView, held_at}
use Rattle.residents.specs.Held.{Held, Rolls, Waits}
use Rattle.residents.specs.ForkingAgain.{AtForks, AtFront, CanBeginAgain, CanForkAgain}
use Rattle.cluster_core.specs.Follows.{Follows, IsOpen}
use Rattle.cluster_core.specs.Holds.{IsHeldAs, is_fetch_queued}
use Rattle.cluster_core.proofs.working.Working.{home_of_it}
use Rattle.residents.proofs.KeptForks.{runs_less}

module _ (c : ClusterView) (log : List Entry) (valid : is_system c.system ≡ true) (empty : c.queue ≡ []) (go : IsOpen MayStand c.system log) (f : Follows c.system log c) where
  legal : IsLegalBy Stands c.system log
  legal = all_stand c.system log go.0

  -- whoever is here has not ended
  pub unended_here : (p : Pid) (h : Held) → held_at c p ≡ Some h → IsUnended c.system log p
  unended_here p h at = ap is_some (home_of_it c p h empty at valid log go f).found

  -- at a fork the child can begin again, where it waits for that
  at_front : (p : Pid) (s : ProcState) (counts : Counts) (births : List Pid) → IsUnended c.system log p → RollsBehind c.system log p s counts births → next_step s ≡ Forks → AtFront (CanBeginAgain c.here) s births
  at_front p s counts [] unended rolls forks = tt
  at_front p s counts (child ∷ births) unended rolls forks = begins
    where
      begins : CanBeginAgain c.here s child
      begins w at none =
          let waits = (subst (λ ps. IsHeldAs c.system log ps child (Waits w)) empty ((f.processes).held child (Waits w) at)).1 in
          let kept = kept_so c.system log child (is_fetch_queued child []) w waits in
          let stateless : has_state c.system log child ≡ false = sym (record_stated c.system log child w.kept kept) ∙ ap is_some none in
          let starts = child_starts Stands itself c.system log p valid legal unended s counts child births stateless rolls.rolls forks in
          let open_child = unended_here child (Waits w) at in
          standing_always c.system log child (with_saved (fork_child s child) (w.kept).saved (w.kept).next) (w.kept).counts (w.kept).births valid legal open_child
          (standing_from_kept c.system log child (fork_child s child) w.kept valid legal open_child starts kept).rolls

  -- so at each fork that comes within some steps
  at_forks : (n : ℕ) (p : Pid) (s : ProcState) (counts : Counts) (births : List Pid) → IsUnended c.system log p → RollsBehind c.system log p s counts births → AtForks (CanBeginAgain c.here) n s counts births
  at_forks zero p s counts births unended rolls = tt
  at_forks (suc n) p s counts births unended rolls = λ left.
      let l = led_there Stands itself c.system log p valid legal unended in (
        at_front p s counts births unended rolls,
        runs_less s counts (λ t left rest. RollsBehind c.system log p t left rest) (λ t left rest. AtForks (CanBeginAgain c.here) n t left rest) (next_step s) births (λ t left rest on. at_forks n p t left rest unended on)
            (rolls_on c.system log p l.now l.led s counts births rolls.rolls left),
      )

pub can_fork_again : (c : ClusterView) (log : List Entry) → is_system c.system ≡ true → c.queue ≡ [] → IsOpen MayStand c.system log → Follows c.system log c → CanForkAgain c.here
can_fork_again c log valid empty go f p process counts births at n =
    at_forks c log valid empty go f n p (state_of process) counts births (unended_here c log valid empty go f p (Rolls process counts births) at) ((f.processes).held p (Rolls process counts births) at).1
