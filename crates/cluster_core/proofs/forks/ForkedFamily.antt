-- Which forks are still to be made again after a fork that was made again: that one no more, for which its child waited, and all those of the child.
use Rattle.std.proofs.Common.{◌≡◌, refl, sym, ◌∙◌, ap, subst, List, [], ◌∷◌, Bool, true, false, cond, ◌||◌, eqb-true, Option, Some, None, true≢false}
use Rattle.std.specs.Prelude.{is_none}
use Rattle.std.specs.List.{list_any}
use Rattle.t32_base.specs.declared.process.Pid.{Pid}
use Rattle.t32_base.specs.declared.process.Counts.{Counts}
use Rattle.t32_base.specs.Small.{SmallState}
use Rattle.sys_text.specs.declared.system.System.{System}
use Rattle.sys_text.specs.Valid.{is_system}
use Rattle.proc_state.specs.declared.process.Process.{Process}
use Rattle.proc_state.specs.State.{state_of}
use Rattle.bus_msg.specs.declared.entry.Entry.{Entry}
use Rattle.bus_msg.specs.Places.{same_pid}
use Rattle.roll_forward.specs.RunsOut.{nothing_left}
use Rattle.cert_sched.specs.Legal.{IsLegalBy, Stands}
use Rattle.cert_sched.specs.Record.{has_state}
use Rattle.cert_sched.specs.Simulation.{IsUnended, bears}
use Rattle.cert_sched.proofs.FamilyLaws.{Pair}
use Rattle.log_laws.specs.births.Unsynced.{unsynced_births}
use Rattle.log_laws.proofs.births.FamilyKept.{births_may_stand}
use Rattle.log_laws.proofs.births.UnsyncedChild.{stateless}
use Rattle.page_waits.specs.Waiting.{WaitingState}
use Rattle.replay_laws.specs.rolling.Behind.{RollsBehind}
use Rattle.replay_laws.proofs.rolling.ByRule.{itself}
use Rattle.replay_laws.proofs.rolling.ForkedAgain.{forked_once_only}
use Rattle.replay_laws.proofs.forks.Begins.{state_none}
use Rattle.replay_laws.proofs.forks.EitherWait.{kept_so}
use Rattle.replay_laws.proofs.forks.StatedAbove.{in_the_record}
use Rattle.residents.specs.Held.{Held, Runs, Rolls, Waits, held_of, is_waiting}
use Rattle.residents.specs.Bearing.{forked, newborn}
use Rattle.residents.specs.ForkingAgain.{begun_with, with_mail_of, going_held, with_fork_again}
use Rattle.cluster_core.specs.ForksAgain.{ForksLeft, has_to_bear}
use Rattle.cluster_core.specs.Holds.{IsHeldAs, is_fetch_queued}
use Rattle.residents.proofs.ForkedHere.{FoundForked, found_forked, going_waits}
use Rattle.cluster_core.proofs.forks.ForksAgain.{bears_by}
use Rattle.cluster_core.proofs.forks.ForksPaged.{BornSo, among_unsynced, born_so}
use Rattle.residents.proofs.Changing.{pid_same}
use Rattle.cluster_core.proofs.births.OneParent.{next_is_born, one_parent}

-- one that goes on has the forks to make that are left
going_bears : (process : Process) (counts : Counts) (births : List Pid) (c : Pid) → has_to_bear c (going_held process counts births) ≡ list_any (same_pid c) births
going_bears process counts [] c = by_left (nothing_left counts [])
  where
    by_left : (b : Bool) → has_to_bear c (cond b (Runs process) (Rolls process counts [])) ≡ false
    by_left true = refl
    by_left false = refl
going_bears process counts (b ∷ bs) c = refl

-- one that begins where it waited has those of its record to make, as before
begun_bears : (process : Process) (child c : Pid) (was : Held) → ((w : WaitingState) → was ≡ Waits w → list_any (same_pid c) (w.kept).births ≡ true) → has_to_bear c (begun_with (newborn process child) was) ≡ has_to_bear c was
begun_bears process child c (Waits w) among = by_state (is_none (w.kept).state)
  where
    by_state : (b : Bool) → has_to_bear c (cond b (going_held (with_mail_of w.kept (newborn process child)) (w.kept).counts (w.kept).births) (Waits w)) ≡ true
    by_state true = going_bears (with_mail_of w.kept (newborn process child)) (w.kept).counts (w.kept).births c ∙ among w refl
    by_state false = refl
begun_bears process child c _ among = refl

-- where its record has no state it waits no more
begun_waits : (process : Process) (child : Pid) (was : Held) → ((w : WaitingState) → was ≡ Waits w → (w.kept).state ≡ None) → is_waiting (begun_with (newborn process child) was) ≡ false
begun_waits process child (Waits w) none =
    ap (λ (o : Option SmallState). is_waiting (cond (is_none o) (going_held (with_mail_of w.kept (newborn process child)) (w.kept).counts (w.kept).births) (Waits w))) (none w refl) ∙ going_waits (with_mail_of w.kept (newborn process child)) (w.kept).counts (w.kept).births
begun_waits process child _ none = refl

module _ (system : System) (log : List Entry) (p : Pid) (process : Process) (counts : Counts) (child : Pid) (births : List Pid) (here : List (Pid × Held)) (valid : is_system system ≡ true) (legal : IsLegalBy Stands system log) (unended : IsUnended system log p)
    (behind : RollsBehind system log p (state_of process) counts (child ∷ births)) (there : held_of here p ≡ Some (Rolls process counts (child ∷ births))) (held : (q : Pid) (h : Held) → held_of here q ≡ Some h → IsHeldAs system log [] q h) where
  abbrev Found : Pid → Held → Type 0
  Found q h = FoundForked p process counts child births here q h

  own_was : (q : Pid) (h : Held) → (f : Found q h) → same_pid q p ≡ true → f.was ≡ Rolls process counts (child ∷ births)
  own_was q h f own =
      let same : Some f.was ≡ Some (Rolls process counts (child ∷ births)) = sym f.there ∙ ap (held_of here) (pid_same q p (eqb-true q.0 p.0 own)) ∙ there in
      cc

  kept_at : (q : Pid) (was : Held) → held_of here q ≡ Some was → (w : WaitingState) → was ≡ Waits w → IsHeldAs system log [] q (Waits w)
  kept_at q was at w is = subst (IsHeldAs system log [] q) is (held q was at)

  -- ---- who waits

  -- another than the child waits where it did
  other_waits : (c : Pid) (h : Held) → (f : Found c h) → same_pid c child ≡ false → is_waiting h ≡ is_waiting f.was
  other_waits c h f apart = by_pid (same_pid c p) refl
    where
      by_pid : (b : Bool) → same_pid c p ≡ b → is_waiting h ≡ is_waiting f.was
      by_pid true own = ap is_waiting (f.parent own) ∙ going_waits (forked process child) counts births ∙ sym (ap is_waiting (own_was c h f own))
      by_pid false other = ap is_waiting (f.other other apart)

  -- the child does not, where it has no state in its record
  child_begun : (c : Pid) (h : Held) → (f : Found c h) → same_pid c child ≡ true → has_state system log c ≡ false → is_waiting h ≡ false
  child_begun c h f own none = by_pid (same_pid c p) refl
    where
      by_pid : (b : Bool) → same_pid c p ≡ b → is_waiting h ≡ false
      by_pid true is = ap is_waiting (f.parent is) ∙ going_waits (forked process child) counts births
      by_pid false apart =
          ap is_waiting (f.begun apart own)
          ∙ begun_waits process child f.was (λ w is. state_none system log c w.kept none (kept_so system log c (is_fetch_queued c []) w (kept_at c f.was f.there w is).1))

  -- ---- who has forks to make

  -- another than the parent has the same
  other_bears : (r c : Pid) (q : Held) → (f : Found r q) → same_pid r p ≡ false → BornSo system log r c → has_to_bear c q ≡ has_to_bear c f.was
  other_bears r c q f apart so = by_pid (same_pid r child) refl
    where
      by_pid : (b : Bool) → same_pid r child ≡ b → has_to_bear c q ≡ has_to_bear c f.was
      by_pid true own =
          ap (has_to_bear c) (f.begun apart own)
          ∙ begun_bears process child c f.was (λ w is. in_the_record system log r c w.kept valid legal so.born so.unsynced (kept_so system log r (is_fetch_queued r []) w (kept_at r f.was f.there w is).1))
      by_pid false other = ap (has_to_bear c) (f.other apart other)

  -- the parent has those that are left
  parent_bears : (r c : Pid) (q : Held) → (f : Found r q) → same_pid r p ≡ true → has_to_bear c q ≡ list_any (same_pid c) births
  parent_bears r c q f own = ap (has_to_bear c) (f.parent own) ∙ going_bears (forked process child) counts births c

  -- ---- all of them

  -- a child that was born and never synchronised, of another than the parent, is not the child
  of_parent : (r c : Pid) → same_pid c child ≡ true → BornSo system log r c → list_any (bears_by r c) (unsynced_births system log) ≡ true → same_pid r p ≡ true
  of_parent r c own so any =
      let same : child ≡ c = sym (pid_same c child (eqb-true c.0 child.0 own)) in
      let mine = among_unsynced system log p c (subst (λ k. bears log p k ≡ true) same (next_is_born system log p (state_of process) counts child births behind.rolls)) so.unsynced in
      one_parent (unsynced_births system log) p r c (births_may_stand system log valid legal) mine any

  pub forks_forked : (family : List Pair) → family ≡ unsynced_births system log → ForksLeft family here → ForksLeft family (with_fork_again p process counts child births here)
  forks_forked family are left r c q h at_parent at_child any = by_child (same_pid c child) (same_pid r p) refl refl
    where
      fp : Found r q
      fp = found_forked p process counts child births here r q at_parent

      fc : Found c h
      fc = found_forked p process counts child births here c h at_child

      any_now : list_any (bears_by r c) (unsynced_births system log) ≡ true
      any_now = subst (λ bs. list_any (bears_by r c) bs ≡ true) are any

      so : BornSo system log r c
      so = born_so system log r c any_now

      before : is_waiting fc.was ≡ has_to_bear c fp.was
      before = left r c fp.was fc.was fp.there fc.there any

      by_child : (a b : Bool) → same_pid c child ≡ a → same_pid r p ≡ b → is_waiting h ≡ has_to_bear c q
      by_child true true own of_p =
          child_begun c h fc own (stateless system log c valid legal so.among)
          ∙ sym (parent_bears r c q fp of_p ∙ ap (λ k. list_any (same_pid k) births) (pid_same c child (eqb-true c.0 child.0 own)) ∙ forked_once_only Stands itself system log p valid legal unended (state_of process) counts child births behind.rolls)
      by_child true false own apart = absurd (true≢false (sym (of_parent r c own so any_now) ∙ apart))
      by_child false true other of_p =
          other_waits c h fc other ∙ before ∙ ap (has_to_bear c) (own_was r q fp of_p) ∙ (λ i. other i || list_any (same_pid c) births) ∙ sym (parent_bears r c q fp of_p)
      by_child false false other apart = other_waits c h fc other ∙ before ∙ sym (other_bears r c q fp apart so)
