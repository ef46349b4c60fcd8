-- A cluster goes on to follow a log where a process that rolls forward made a fork again, and its child began where it waited for that.
use Rattle.std.proofs.Common.{◌≡◌, refl, sym, ◌∙◌, ap, subst, List, [], ◌∷◌, Bool, true, false, cond, Some, None, is_some, inl}
use Rattle.t32_base.specs.declared.process.Pid.{Pid}
use Rattle.t32_base.specs.declared.process.Counts.{Counts}
use Rattle.sys_text.specs.Valid.{is_system}
use Rattle.proc_state.specs.declared.process.Process.{Process}
use Rattle.proc_state.specs.State.{has_ended, state_of}
use Rattle.sys_calls.specs.Calls.{Forks, Over}
use Rattle.sys_calls.specs.Next.{next_step}
use Rattle.sys_calls.proofs.Counting.{ended_is_over}
use Rattle.bus_msg.specs.declared.entry.Entry.{Entry}
use Rattle.roll_forward.specs.RunsOut.{nothing_left}
use Rattle.cert_sched.specs.Legal.{MayStand}
use Rattle.cert_sched.specs.Legal.{IsLegalBy, Stands}
use Rattle.cert_sched.specs.Parts.{rising}
use Rattle.cert_sched.specs.Rules.{has_its_pages, has_awaited_backup}
use Rattle.cert_sched.specs.Simulation.{IsUnended}
use Rattle.log_laws.proofs.records.Standing.{all_stand}
use Rattle.replay_laws.specs.rolling.Behind.{RollsBehind}
use Rattle.page_waits.specs.Waiting.{WaitingState}
use Rattle.replay_laws.proofs.pages.MovedStated.{stateless_paged}
use Rattle.replay_laws.specs.forks.ForkWaits.{WaitsForFork}
use Rattle.replay_laws.proofs.forks.EitherWait.{for_fork}
use Rattle.cluster_core.specs.View.{ClusterView, held_at, limits_of}
use Rattle.residents.specs.Held.{Held, Runs, Rolls, Waits, IsHeldWithin, held_of}
use Rattle.residents.specs.Bearing.{forked, newborn}
use Rattle.cluster_core.specs.Follows.{Follows, IsOpen}
use Rattle.residents.specs.ForkingAgain.{with_mail_of, going_held, with_fork_again}
use Rattle.cluster_core.specs.ForksAgain.{ForksLeft}
use Rattle.cluster_core.specs.Holds.{CarriesMarks, IsHeldAs, MarkedIfThere, is_fetch_queued, process_in, unended_process}
use Rattle.cluster_core.specs.Queue.{Nothing, with_queue}
use Rattle.residents.specs.Residents.{pids_in}
use Rattle.cluster_core.proofs.forks.BegunChild.{born_behind, born_carries, forked_behind, forked_carries}
use Rattle.cluster_core.proofs.forks.CanFork.{unended_here}
use Rattle.cluster_core.proofs.forks.ForkedFamily.{forks_forked}
use Rattle.residents.proofs.ForkedHere.{kept_at_begin, kept_at_fork, pids_forked}
use Rattle.cluster_core.proofs.rolling.GoingHeld.{going_is_held, going_marked, going_within}
use Rattle.cluster_core.proofs.here.Within.{start_within}
use Rattle.cluster_core.specs.Standing.{has_begun}
use Rattle.backup_laws.proofs.AwaitedFamilies.{child_awaited}
use Rattle.cluster_core.proofs.births.OneParent.{next_is_born}
use Rattle.replay_laws.proofs.rolling.Stateless.{stateless_unsynced}
use Rattle.replay_laws.proofs.rolling.ByRule.{itself}

module _ (c : ClusterView) (log : List Entry) (p : Pid) (process : Process) (counts : Counts) (child : Pid) (births : List Pid) (valid : is_system c.system ≡ true) (empty : c.queue ≡ []) (go : IsOpen MayStand c.system log) (f : Follows c.system log c)
    (there : held_at c p ≡ Some (Rolls process counts (child ∷ births))) (forks : next_step (state_of process) ≡ Forks) where
  legal : IsLegalBy Stands c.system log
  legal = all_stand c.system log go.0

  -- those that are here, where nothing is queued
  held_now : (q : Pid) (h : Held) → held_at c q ≡ Some h → IsHeldAs c.system log [] q h
  held_now q h at = subst (λ ps. IsHeldAs c.system log ps q h) empty ((f.processes).held q h at)

  marked_now : (q : Pid) (h : Held) → held_at c q ≡ Some h → MarkedIfThere CarriesMarks c.system log q (unended_process h)
  marked_now q h at = subst (λ ps. MarkedIfThere CarriesMarks c.system (with_queue c.system log ps) q (unended_process h)) empty (f.marks q h at)

  -- ---- the parent

  parent_open : IsUnended c.system log p
  parent_open = unended_here c log valid empty go f p (Rolls process counts (child ∷ births)) there

  behind : RollsBehind c.system log p (state_of process) counts (child ∷ births)
  behind = (held_now p (Rolls process counts (child ∷ births)) there).1

  after : RollsBehind c.system log p (state_of (forked process child)) counts births
  after = forked_behind c.system log p process counts child births valid legal parent_open behind forks

  -- one that stands before a fork has not ended
  carried : CarriesMarks c.system log p process
  carried = by_status (has_ended (process.small).status) refl (marked_now p (Rolls process counts (child ∷ births)) there)
    where
      by_status : (b : Bool) → has_ended (process.small).status ≡ b → MarkedIfThere CarriesMarks c.system log p (cond b None (Some process)) → CarriesMarks c.system log p process
      by_status true ended m = let over : Over ≡ Forks = sym (ended_is_over (state_of process) ended) ∙ forks in cc
      by_status false runs m = m

  carried_after : CarriesMarks c.system log p (forked process child)
  carried_after = forked_carries c.system log p process counts child births valid legal parent_open behind forks carried

  -- ---- the child, where it waits for the fork

  module _ (w : WaitingState) (at : held_at c child ≡ Some (Waits w)) (none : (w.kept).state ≡ None) where
    waits : WaitsForFork c.system log child w
    waits = for_fork c.system log child (is_fetch_queued child []) w go.0 (held_now child (Waits w) at).1 none

    child_open : IsUnended c.system log child
    child_open = unended_here c log valid empty go f child (Waits w) at

    begun_behind : RollsBehind c.system log child (state_of (with_mail_of w.kept (newborn process child))) (w.kept).counts (w.kept).births
    begun_behind = born_behind c.system log p process counts child births valid legal parent_open behind forks w.kept waits.kept waits.stateless child_open

    abbrev begun : Held
    begun = going_held (with_mail_of w.kept (newborn process child)) (w.kept).counts (w.kept).births

    begun_held : IsHeldAs c.system log [] child begun
    begun_held = going_is_held c.system log child (with_mail_of w.kept (newborn process child)) (w.kept).counts (w.kept).births valid go child_open begun_behind

    -- with nothing left it runs, and has made no step
    begun_within : IsHeldWithin (limits_of c.system) begun
    begun_within = by_left (nothing_left (w.kept).counts (w.kept).births)
      where
        by_left : (b : Bool) → IsHeldWithin (limits_of c.system) (cond b (Runs (with_mail_of w.kept (newborn process child))) (Rolls (with_mail_of w.kept (newborn process child)) (w.kept).counts (w.kept).births))
        by_left true = start_within (limits_of c.system) (with_mail_of w.kept (newborn process child)) refl refl
        by_left false = tt

    begun_paged : has_its_pages c.system log child ≡ true
    begun_paged = stateless_paged c.system log child legal waits.stateless

    begun_marked : MarkedIfThere CarriesMarks c.system log child (unended_process begun)
    begun_marked =
        going_marked c.system log child (with_mail_of w.kept (newborn process child)) (w.kept).counts (w.kept).births
        (born_carries c.system log p process counts child births valid legal parent_open behind forks w.kept waits.kept waits.stateless child_open carried waits.unsent)

  -- ---- all that are here, line by line

  abbrev now : List (Pid × Held)
  now = with_fork_again p process counts child births c.here

  pub held_forked : (q : Pid) (h : Held) → held_of now q ≡ Some h → IsHeldAs c.system log c.queue q h
  held_forked q h at =
      subst (λ ps. IsHeldAs c.system log ps q h) (sym empty)
      (kept_at_fork p process counts child births c.here (IsHeldAs c.system log []) held_now (going_is_held c.system log p (forked process child) counts births valid go parent_open after)
      (λ was at holds. kept_at_begin (IsHeldAs c.system log [] child) process child was holds (λ w is none. begun_held w (at ∙ ap Some is) none)) q h at)

  pub once_forked : rising (pids_in now) ≡ rising (pids_in c.here)
  once_forked = ap rising (pids_forked p process counts child births c.here)

  pub limits_forked : (q : Pid) (h : Held) → held_of now q ≡ Some h → IsHeldWithin (limits_of c.system) h
  limits_forked =
      kept_at_fork p process counts child births c.here (λ q h. IsHeldWithin (limits_of c.system) h) f.limits (going_within c.system log p (forked process child) counts births valid go parent_open after carried_after)
      (λ was at holds. kept_at_begin (IsHeldWithin (limits_of c.system)) process child was holds (λ w is none. begun_within w (at ∙ ap Some is) none))

  pub pages_forked : (q : Pid) (h : Held) → held_of now q ≡ Some h → is_some (process_in h) ≡ true → has_its_pages c.system log q ≡ true
  pages_forked =
      kept_at_fork p process counts child births c.here (λ q h. is_some (process_in h) ≡ true → has_its_pages c.system log q ≡ true) f.pages (λ some. f.pages p (Rolls process counts (child ∷ births)) there refl)
      (λ was at holds. kept_at_begin (λ h. is_some (process_in h) ≡ true → has_its_pages c.system log child ≡ true) process child was holds (λ w is none some. begun_paged w (at ∙ ap Some is) none))

  -- a child that begins waits for no new backup, as its parent
  begun_awaited : (w : WaitingState) → held_at c child ≡ Some (Waits w) → (w.kept).state ≡ None → has_awaited_backup c.system log child ≡ true
  begun_awaited w at none =
      let born = next_is_born c.system log p (state_of process) counts child births behind.rolls in
      child_awaited c.system log p child valid legal born (stateless_unsynced Stands itself c.system log child valid legal (child_open w at none) (waits w at none).stateless) (f.backups p (Rolls process counts (child ∷ births)) there refl)

  pub backups_forked : (q : Pid) (h : Held) → held_of now q ≡ Some h → has_begun h ≡ true → has_awaited_backup c.system log q ≡ true
  backups_forked =
      kept_at_fork p process counts child births c.here (λ q h. has_begun h ≡ true → has_awaited_backup c.system log q ≡ true) f.backups (λ begun. f.backups p (Rolls process counts (child ∷ births)) there refl)
      (λ was at holds. kept_at_begin (λ h. has_begun h ≡ true → has_awaited_backup c.system log child ≡ true) process child was holds (λ w is none begun. begun_awaited w (at ∙ ap Some is) none))

  pub marks_forked : (q : Pid) (h : Held) → held_of now q ≡ Some h → MarkedIfThere CarriesMarks c.system (with_queue c.system log c.queue) q (unended_process h)
  marks_forked q h at =
      subst (λ ps. MarkedIfThere CarriesMarks c.system (with_queue c.system log ps) q (unended_process h)) (sym empty)
      (kept_at_fork p process counts child births c.here (λ q h. MarkedIfThere CarriesMarks c.system log q (unended_process h)) marked_now (going_marked c.system log p (forked process child) counts births carried_after)
      (λ was at holds. kept_at_begin (λ h. MarkedIfThere CarriesMarks c.system log child (unended_process h)) process child was holds (λ w is none. begun_marked w (at ∙ ap Some is) none)) q h at)

  pub family_forked : ForksLeft c.family now
  family_forked = forks_forked c.system log p process counts child births c.here valid legal parent_open behind there held_now c.family f.family f.forks

pub forks_again_follows : (c : ClusterView) (log : List Entry) (p : Pid) (process : Process) (counts : Counts) (child : Pid) (births : List Pid) → is_system c.system ≡ true → c.queue ≡ [] → IsOpen MayStand c.system log → Follows c.system log c
    → held_at c p ≡ Some (Rolls process counts (child ∷ births)) → next_step (state_of process) ≡ Forks → Follows c.system log (record c { here = with_fork_again p process counts child births c.here })
forks_again_follows c log p process counts child births valid empty go f there forks = record {
  log = record { cursor = (f.log).cursor; places = (f.log).places };
  processes = record {
    held = held_forked c log p process counts child births valid empty go f there forks;
    each_once = once_forked c log p process counts child births valid empty go f there forks ∙ (f.processes).each_once;
  };
  queue = record { own = (f.queue).own; legal = (f.queue).legal };
  queued = inl (record { queued = Nothing; posts = empty; together = tt });
  steps = record { counted = (f.steps).counted };
  limits = limits_forked c log p process counts child births valid empty go f there forks;
  pages = pages_forked c log p process counts child births valid empty go f there forks;
  marks = marks_forked c log p process counts child births valid empty go f there forks;
  records = f.records;
  family = f.family;
  owed = f.owed;
  backups = backups_forked c log p process counts child births valid empty go f there forks;
  forks = family_forked c log p process counts child births valid empty go f there forks;
  accounts = record { keeps = (f.accounts).keeps; there = (f.accounts).there; calls = (f.accounts).calls };
  disk = f.disk;
}
