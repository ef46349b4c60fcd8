-- A birth in the log, of a process that stands before its fork: after it the parent that has forked and the child as it was born run with their marks.
use Rattle.std.proofs.Common.{◌≡◌, ℕ, ◌+◌, ◌-◌, ◌*◌, refl, sym, ◌∙◌, ap, subst, arith, List, [], ◌∷◌, ◌++◌, length, true, false, cond, ◌||◌, eq-eqb, Option, Some, None}
use Rattle.std.specs.Prelude.{option_and_then}
use Rattle.std.specs.Option.{option_map_or}
use Rattle.std.proofs.lemmas.List.{length-replicate}
use Rattle.t32_base.specs.declared.process.Pid.{Pid}
use Rattle.sys_text.specs.declared.system.System.{System}
use Rattle.proc_state.specs.declared.process.Process.{Process}
use Rattle.proc_state.specs.State.{ProcState, SameRest, has_ended, state_of}
use Rattle.sys_calls.specs.Calls.{Forks}
use Rattle.sys_calls.specs.Next.{next_step, silently}
use Rattle.sys_calls.specs.Fork.{fork_child, fork_parent}
use Rattle.plain_kernel.specs.Kernel.{Kernel, process_at}
use Rattle.bus_msg.specs.declared.entry.What.TheVariants.{Birth}
use Rattle.bus_msg.specs.declared.entry.Entry.{Entry}
use Rattle.bus_msg.specs.PlacedAfter.{what}
use Rattle.roll_forward.specs.Advancing.{IsNewborn}
use Rattle.cert_sched.specs.Schedule.{done, done_after, placement, plain_after, process_after}
use Rattle.cert_sched.specs.Deeds.{is_birth_of, is_cut, saved_letters, start_of, starts}
use Rattle.cert_sched.specs.Told.{cluster_lost}
use Rattle.cert_sched.specs.Moved.{any_since_moved}
use Rattle.cert_sched.specs.Steps.{saved_of, silent_upto}
use Rattle.cert_sched.specs.Rules.{is_by_right}
use Rattle.cert_sched.specs.Kinds.{KindHolds}
use Rattle.cert_sched.specs.Legal.{IsLegalBy, Stands}
use Rattle.cert_sched.specs.Simulation.{IsUnended}
use Rattle.cert_sched.proofs.BornLaws.{birth_from}
use Rattle.cert_sched.proofs.CutLaws.{by_home_there}
use Rattle.cert_sched.proofs.FreshLaws.{born_rightly, child_new, numbered}
use Rattle.cert_sched.proofs.LogLaws.{IsLegal-snoc}
use Rattle.cert_sched.proofs.RecordLaws.{saved_letters-start, start_of-snoc}
use Rattle.log_laws.proofs.pages.OneEntry.{any_since-goes_on, moves_none}
use Rattle.log_laws.proofs.letters.LogReads.{itself}
use Rattle.log_laws.proofs.letters.RollingReads.{silent_next}
use Rattle.checkpoint_laws.specs.posts.Marked.{IsMarked}
use Rattle.checkpoint_laws.specs.posts.Running.{RunsMarked}
use Rattle.checkpoint_laws.proofs.posts.BirthStands.{forks_at}
use Rattle.checkpoint_laws.proofs.posts.MarksLead.{marks_count}
use Rattle.checkpoint_laws.specs.marks.Beside.{is_some_page}
use Rattle.checkpoint_laws.specs.marks.Sent.{SentUpto}
use Rattle.checkpoint_laws.proofs.marks.AllMarked.{all_marked}
use Rattle.checkpoint_laws.proofs.marks.EntryMarks.{marks_kept}
use Rattle.checkpoint_laws.proofs.marks.ForkMarks.{birth_leaves, forked_marked}
use Rattle.checkpoint_laws.proofs.marks.SentPages.{unsent_upto}
use Rattle.checkpoint_laws.proofs.marks.UnplacedPages.{unplaced_unsent}

-- a process that the log has where it is
here : (system : System) (log : List Entry) (p : Pid) (s : ProcState) → process_after system log p ≡ Some s → silent_upto system log p (s.small).steps ≡ Some s
unfolding silent_upto silently
here system log p s there =
    let steps : done_after system log p ≡ (s.small).steps = by_kernel (plain_after system log) there in
    let none : (s.small).steps - done_after system log p ≡ 0 = omega (arith, steps) in
    ap (λ n. option_and_then (silently n) (process_after system log p)) none ∙ ap (option_and_then (silently 0)) there
  where
    by_kernel : (o : Option Kernel) → option_and_then (λ k. process_at k p) o ≡ Some s → option_map_or (λ k. done k p) o 0 ≡ (s.small).steps
    by_kernel None is = cc
    by_kernel (Some k) is = ap (λ (o : Option ProcState). option_map_or (λ (s : ProcState). (s.small).steps) o 0) is

module _ (system : System) (log : List Entry) (e : Entry) (p child : Pid) (end : ℕ) (old : Process) (runs : RunsMarked system log p old) (stands : Stands system log e) (is : what e ≡ Birth p ((old.small).steps + 1) child end) where
  abbrev more : List Entry
  more = log ++ e ∷ []

  legal_more : IsLegalBy Stands system more
  legal_more = IsLegal-snoc Stands system log e runs.legal stands

  by_right : is_by_right (placement system log) (e.post).by (Birth p ((old.small).steps + 1) child end) ≡ true
  by_right = ap (is_by_right (placement system log) (e.post).by) (sym is) ∙ stands.by_right

  unended : IsUnended system log p
  unended = by_home_there (placement system log) (e.post).by p by_right

  -- it was not placed, so it has sent no page
  child_unsent : any_since_moved system more child (is_some_page child) ≡ false
  child_unsent =
      let kind : KindHolds system log e (Birth p ((old.small).steps + 1) child end) = subst (KindHolds system log e) is stands.kind in
      let new = child_new (placement system log) p child (numbered Stands itself system log runs.valid runs.legal) (born_rightly (placement system log) (e.post).by p child by_right kind.child_is) in
      any_since-goes_on system log e child (is_some_page child) (moves_none system log e (ap cluster_lost is) child)
      ∙ (λ i. unplaced_unsent system log child runs.legal new i || is_some_page child (is i))

  pub child_sent : (n : ℕ) → SentUpto system more child n
  child_sent n = unsent_upto system more child n child_unsent

  module _ (forks : next_step (state_of old) ≡ Forks) where
    -- the kernel makes the birth where the process stands
    record Made : Type 0 where
      pub parent_is : process_after system more p ≡ Some (fork_parent (state_of old) child)
      pub child_is : process_after system more child ≡ Some (fork_child (state_of old) child)

    made : Made
    made =
        let b = birth_from system log e p ((old.small).steps + 1) child end is stands.applies (state_of old) (forks_at system log p (state_of old) runs.reached forks) in
        record {
          parent_is = b.0.parent_is ∙ ap (λ s. Some (fork_parent s child)) b.1;
          child_is = b.0.child_is ∙ ap (λ s. Some (fork_child s child)) b.1;
        }

    -- ---- the parent

    module _ (new : Process) (forked : state_of new ≡ fork_parent (state_of old) child) (rest : SameRest old new) (upto : SentUpto system log p (old.small).steps) where
      parent_marked : IsMarked system more p new
      parent_marked =
          let next = ap (λ (s : ProcState). s.next) forked in
          let came = silent_next system log p (old.small).steps (state_of old) runs.valid runs.legal runs.reached runs.runs in
          marks_kept system log e p new runs.valid runs.legal unended (birth_leaves system log e p ((old.small).steps + 1) child end p runs.valid runs.legal stands is unended) (omega (arith, next, came))
          (forked_marked system log p child old new forked rest runs.marked upto)

      pub parent_runs : RunsMarked system more p new
      parent_runs = record {
        valid = runs.valid;
        legal = legal_more;
        reached = here system more p (state_of new) (made.parent_is ∙ ap Some (sym forked));
        runs = ap (λ (s : ProcState). has_ended (s.small).status) forked ∙ runs.runs;
        sized = (λ j. length (rest.ram j).bytes) ∙ runs.sized ∙ (λ j. 256 * length (sym rest.ram j).dirty);
        marked = parent_marked;
      }

    -- ---- the child

    child_starts : start_of system more child ≡ Some (fork_child (state_of old) child)
    child_starts =
        let own : starts child e ≡ true = ap (λ w. is_cut child w || is_birth_of child w) is ∙ eq-eqb child.0 child.0 refl in
        start_of-snoc system log e child ∙ ap (λ b. cond b (process_after system more child) (start_of system log child)) own ∙ made.child_is

    child_saved : saved_of system more child ≡ []
    child_saved =
        let own : starts child e ≡ true = ap (λ w. is_cut child w || is_birth_of child w) is ∙ eq-eqb child.0 child.0 refl in
        ap (λ (o : Option ProcState). option_map_or (saved_letters more child) o []) child_starts ∙ saved_letters-start log e child (fork_child (state_of old) child) own

    module _ (c : Process) (newborn : IsNewborn (state_of old) (length (old.ram).dirty) child c) where
      child_marked : IsMarked system more child c
      child_marked =
          let pages : (c.small).pages ≡ (old.small).pages = ap (λ (s : ProcState). (s.small).pages) newborn.state in
          let marks = marks_count system log p old runs in
          all_marked system more child c (length (old.ram).dirty)
          (newborn.since ∙ sym (ap (λ (o : Option ProcState). option_map_or (λ (s : ProcState). (s.small).steps) o 0) child_starts))
          newborn.read
          (ap (λ (s : ProcState). s.mail) newborn.state ∙ sym child_saved)
          newborn.dirty (omega (arith, pages, marks)) child_unsent

      pub child_runs : RunsMarked system more child c
      child_runs =
          let bytes : length (c.ram).bytes ≡ length (old.ram).bytes = ap (λ (s : ProcState). length s.memory) newborn.state in
          let marks : length (c.ram).dirty ≡ length (old.ram).dirty = ap length newborn.dirty ∙ length-replicate (length (old.ram).dirty) true in
          let before = runs.sized in
          record {
            valid = runs.valid;
            legal = legal_more;
            reached = here system more child (state_of c) (made.child_is ∙ ap Some (sym newborn.state));
            runs = ap (λ (s : ProcState). has_ended (s.small).status) newborn.state;
            sized = omega (arith, bytes, marks, before);
            marked = child_marked;
          }
