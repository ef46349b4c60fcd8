-- What holds of each process of a cluster that has taken in the birth that it had queued: of the parent that has forked, of the child as it was born, and of the others.
use Rattle.std.proofs.Common.{◌≡◌, ℕ, ◌+◌, refl, sym, ◌∙◌, ap, subst, List, [], ◌∷◌, ◌++◌, Bool, true, false, cond, ◌||◌, length, Some, None, is_some, true≢false}
use Rattle.std.specs.Prelude.{option_map}
use Rattle.std.specs.Option.{option_map_or}
use Rattle.std.proofs.lemmas.List.{length-replicate}
use Rattle.t32_base.specs.declared.process.Pid.{Pid}
use Rattle.sys_text.specs.declared.system.System.{System}
use Rattle.sys_text.specs.Valid.{is_system}
use Rattle.proc_state.specs.declared.process.Process.{Process}
use Rattle.proc_state.specs.State.{ProcState, SameRest, state_of}
use Rattle.sys_calls.specs.Fork.{next_end}
use Rattle.roll_forward.specs.Advancing.{IsNewborn}
use Rattle.roll_forward.specs.Deeds.{Bears}
use Rattle.backup_records.specs.Records.{record_after, with_child}
use Rattle.bus_msg.specs.declared.entry.What.TheVariants.{Birth}
use Rattle.bus_msg.specs.declared.entry.Entry.{Entry}
use Rattle.bus_msg.specs.declared.placed.Placed.{Placed}
use Rattle.bus_msg.specs.Places.{Places, placed_at, same_pid}
use Rattle.bus_msg.specs.PlacedAfter.{placed_after, what, with_birth}
use Rattle.channel_table.specs.Changes.{pids_differ}
use Rattle.cert_sched.specs.Account.{is_exit_of}
use Rattle.cert_sched.specs.Appended.{entry_of}
use Rattle.cert_sched.specs.Deeds.{deeds_in, is_birth_of, is_cut, letter_for}
use Rattle.cert_sched.specs.Kinds.{BirthHolds, KindHolds}
use Rattle.cert_sched.specs.Legal.{IsLegalBy, Stands, MayStand}
use Rattle.cert_sched.specs.Losses.{is_crash_of}
use Rattle.cert_sched.specs.Moved.{is_fetch, is_page_is}
use Rattle.cert_sched.specs.Record.{has_state}
use Rattle.cert_sched.specs.Rules.{has_its_pages, home_at, is_living}
use Rattle.cert_sched.specs.Schedule.{done_after, placement, process_after}
use Rattle.cert_sched.specs.Simulation.{IsUnended}
use Rattle.cert_sched.specs.Steps.{silent_upto}
use Rattle.cert_sched.specs.Told.{cluster_lost, is_moved}
use Rattle.cert_sched.proofs.BirthClusters.{birth_living}
use Rattle.cert_sched.proofs.BirthPlaces.{born_beside}
use Rattle.cert_sched.proofs.BornLaws.{birth_applied, child_absent}
use Rattle.cert_sched.proofs.LogLaws.{IsLegal-last, placement-snoc}
use Rattle.cert_sched.proofs.MadeLaws.{BirthMade}
use Rattle.cert_sched.proofs.RecordLaws.{has_state-snoc}
use Rattle.cert_sched.proofs.StatedLaws.{stated_there}
use Rattle.cert_sched.proofs.ThereLaws.{unended_not_born}
use Rattle.replay_laws.proofs.pages.MovedStated.{stateless_paged}
use Rattle.log_laws.proofs.records.Standing.{all_stand}
use Rattle.checkpoint_laws.specs.posts.Running.{RunsMarked}
use Rattle.checkpoint_laws.proofs.limits.ForkLimits.{fork_within}
use Rattle.checkpoint_laws.specs.marks.Beside.{is_some_page}
use Rattle.checkpoint_laws.specs.marks.Sent.{is_later_page}
use Rattle.checkpoint_laws.proofs.marks.BornMarks.{child_runs, child_sent, parent_runs}
use Rattle.checkpoint_laws.proofs.marks.ForkMarks.{forked_sent}
use Rattle.checkpoint_laws.proofs.marks.SentPages.{sent_on}
use Rattle.page_waits.specs.Waiting.{WaitingState}
use Rattle.cluster_core.specs.View.{ClusterView, held_at, limits_of}
use Rattle.residents.specs.Held.{Held, Runs, Waits, IsHeldWithin}
use Rattle.residents.specs.Residents.{pids_in}
use Rattle.cluster_core.specs.Parts.{AllOwn}
use Rattle.cluster_core.specs.Queue.{Nothing}
use Rattle.cluster_core.specs.Holds.{CarriesMarks, IsHeldAs, MarkedIfThere, process_in, unended_process}
use Rattle.cluster_core.specs.Bearing.{BearsChild, birth_post}
use Rattle.residents.specs.Bearing.{forked, newborn}
use Rattle.cluster_core.specs.Follows.{IsOpen}
use Rattle.cluster_core.proofs.syncs.Batching.{unqueued}
use Rattle.cluster_core.proofs.here.Beside.{FollowsBeside, all_of, one_of_them}
use Rattle.cluster_core.proofs.paging.HasPages.{pages_after}
use Rattle.cluster_core.proofs.here.Here.{is_among}
use Rattle.cluster_core.proofs.losses.Homes.{HomeHere, pids_apart, home_here}
use Rattle.cluster_core.proofs.syncs.Marking.{marked_next}
use Rattle.cluster_core.proofs.here.Owning.{own_at}
use Rattle.cluster_core.proofs.absorbing.Spared.{BringsNothing, Spares, emission_stays, held_stays, silent_stays}
use Rattle.cluster_core.proofs.absorbing.Telling.{done_is}
use Rattle.cluster_core.proofs.here.Within.{carried, runs_marked, start_within, within_same}

module _ (system : System) (valid : is_system system ≡ true) (log : List Entry) (e : Entry) (c : ClusterView) (f : FollowsBeside all_of system log (unqueued c)) (b : BearsChild system log c)
    (whole : entry_of system log (birth_post c.number b.pid (state_of b.process) b.child) ≡ e) (now : IsOpen MayStand system log) (next : IsOpen MayStand system (log ++ e ∷ [])) where
  abbrev later : List Entry
  later = log ++ e ∷ []

  abbrev places : Places
  places = placement system log

  abbrev p : Pid
  p = b.pid

  abbrev old : Process
  old = b.process

  abbrev parent : Process
  parent = forked b.process b.child

  abbrev born : Process
  born = newborn b.process b.child

  abbrev end : ℕ
  end = next_end (state_of b.process)

  is : what e ≡ Birth p ((old.small).steps + 1) b.child end
  is = sym (ap (λ (x : Entry). what x) whole)

  legal : IsLegalBy Stands system log
  legal = all_stand system log now.0

  legal_later : IsLegalBy Stands system later
  legal_later = all_stand system later next.0

  stands : Stands system log e
  stands = (IsLegal-last MayStand system log e next.0).stands

  differ : pids_differ places.placed ≡ true
  differ = pids_apart system log valid now.0

  -- who is here is at home here
  home : (q : Pid) (h : Held) → held_at c q ≡ Some h → HomeHere places q c.number
  home q h there = home_here places c.number (pids_in c.here) q differ (f.processes).each_once (is_among c.here q h there)

  unended : IsUnended system log p
  unended = ap is_some (home p (Runs old) b.there).found

  reached : silent_upto system log p (old.small).steps ≡ Some (state_of old)
  reached = (f.processes).held p (Runs old) b.there refl

  carries : CarriesMarks system log p old
  carries = carried system log p old valid reached legal unended (f.marks p (Runs old) b.there refl)

  runs : RunsMarked system log p old
  runs = runs_marked system log p old valid reached legal unended carries

  rest : SameRest old parent
  rest = record { ram = refl; read = refl; since = refl }

  is_newborn : IsNewborn (state_of old) (length (old.ram).dirty) b.child born
  is_newborn = record { state = refl; read = refl; since = refl; dirty = refl }

  -- ---- the parent

  parent_now : RunsMarked system later p parent
  parent_now = parent_runs system log e p b.child end old runs stands is b.stands parent refl rest carries.sent

  pub parent_held : IsHeldAs system later [] p (Runs (forked b.process b.child))
  parent_held = parent_now.reached

  -- ---- the child

  child_now : RunsMarked system later b.child born
  child_now = child_runs system log e p b.child end old runs stands is b.stands born is_newborn

  pub child_held : IsHeldAs system later [] b.child (Runs (newborn b.process b.child))
  child_held = child_now.reached

  -- ---- the marks of both

  parent_carries : CarriesMarks system later p parent
  parent_carries = record {
    marked = parent_now.marked;
    pages = carries.pages;
    sent = sent_on system log p e (parent.small).steps (ap (is_later_page p (parent.small).steps) is) (forked_sent system log p b.child old parent refl carries.sent);
  }

  pub parent_marked : MarkedIfThere CarriesMarks system later p (unended_process (Runs (forked b.process b.child)))
  parent_marked = subst (λ x. MarkedIfThere CarriesMarks system later p (cond x None (Some parent))) (sym parent_now.runs) parent_carries

  child_carries : CarriesMarks system later b.child born
  child_carries = record {
    marked = child_now.marked;
    pages = carries.pages ∙ sym (length-replicate (length (old.ram).dirty) true);
    sent = child_sent system log e p b.child end old runs stands is (born.small).steps;
  }

  pub child_marked : MarkedIfThere CarriesMarks system later b.child (unended_process (Runs (newborn b.process b.child)))
  child_marked = child_carries

  -- ---- the limits of both

  pub parent_within : IsHeldWithin (limits_of system) (Runs (forked b.process b.child))
  parent_within = sym (within_same system parent) ∙ fork_within old parent b.child system.syncreads system.syncsteps refl rest b.undue

  pub child_within : IsHeldWithin (limits_of system) (Runs (newborn b.process b.child))
  child_within = start_within (limits_of system) born refl refl

  -- ---- the pages of both

  not_lost : is_crash_of c.number (what e) ≡ false
  not_lost = ap (is_crash_of c.number) is

  pub parent_pages : has_its_pages system later p ≡ true
  parent_pages = pages_after system log e p c.number valid now.0 stands differ (home p (Runs old) b.there) not_lost (f.pages p (Runs old) b.there refl)

  -- the child was not there, so it has no state in its record
  child_stateless : has_state system later b.child ≡ false
  child_stateless = has_state-snoc system log e b.child ∙ (λ i. by_state (has_state system log b.child) refl i || is_cut b.child (is i))
    where
      by_state : (x : Bool) → has_state system log b.child ≡ x → x ≡ false
      by_state true stated =
          absurd (true≢false (sym (stated_there Stands (λ system log e stands. stands) system log b.child valid legal stated) ∙ ap is_some (child_absent system log e p ((old.small).steps + 1) b.child end is stands.applies)))
      by_state false none = refl

  pub child_pages : has_its_pages system later b.child ≡ true
  child_pages = stateless_paged system later b.child legal_later child_stateless

  -- ---- any other process here

  kind : BirthHolds system log p ((old.small).steps + 1) b.child end
  kind = subst (KindHolds system log e) is stands.kind

  made : BirthMade system log e p b.child
  made = birth_applied system log e p ((old.small).steps + 1) b.child end is stands.applies kind.end_is

  places_later : placement system later ≡ with_birth places b.child (placed_at places p)
  places_later = placement-snoc system log e ∙ ap (placed_after places) is

  brings_nothing : BringsNothing system log e
  brings_nothing = record {
    no_loss = ap cluster_lost is;
    no_letter = λ q. ap (letter_for q) is;
    no_fetch = λ q i. ap (is_fetch q i) is;
    no_page_is = λ q i. ap (is_page_is q i) is;
    no_exit = λ q. ap (is_exit_of q) is;
    living = λ by lives. ap (λ places. is_living places by) places_later ∙ birth_living places b.child (placed_at places p) by ∙ lives;
  }

  -- none that is here is born by it
  not_child : (q : Pid) → HomeHere places q c.number → same_pid b.child q ≡ false
  not_child q here = sym (ap (is_birth_of q) is) ∙ unended_not_born MayStand (λ system log e may. may.stands) system log e q valid now.0 stands (ap is_some here.found)

  spares_other : (q : Pid) → same_pid p q ≡ false → HomeHere places q c.number → Spares system log e q
  spares_other q apart here = record {
    silent = silent_stays system log later q process steps;
    emission = emission_stays system log later q process steps;
    home = ap (λ places. home_at places q) places_later ∙ ap (option_map (λ (r : Placed). r.home)) (born_beside q b.child places (placed_at places p) (not_child q here));
    no_cut = ap (is_cut q) is;
    no_birth = ap (is_birth_of q) is ∙ not_child q here;
    no_page = ap (is_some_page q) is;
    no_deed = ap (deeds_in q) is ∙ ap (λ x. cond x (Bears b.child ∷ []) []) apart;
    kept = λ r own. ap (λ w. record_after w r) is ∙ ap (λ x. cond x (with_child b.child r) r) (ap (same_pid p) own ∙ apart);
  }
    where
      process : process_after system later q ≡ process_after system log q
      process = made.others q apart (not_child q here)

      steps : done_after system later q ≡ done_after system log q
      steps = done_is system later q ∙ ap (λ o. option_map_or (λ (s : ProcState). (s.small).steps) o 0) process ∙ sym (done_is system log q)

  pub other_held : AllOwn c.cursor c.here → (q : Pid) (h : Held) → held_at c q ≡ Some h → same_pid p q ≡ false → IsHeldAs system later [] q h
  other_held own q h there apart =
      held_stays system valid log e now next brings_nothing c.number Nothing q h tt (home q h there) (spares_other q apart (home q h there))
      (λ (waiting : WaitingState) waits. (own_at c.cursor c.here q (Waits waiting) own (there ∙ ap Some waits)).pid_is) (one_of_them all_of system log [] q h refl ((f.processes).held q h there))

  pub other_marked : (q : Pid) (h : Held) → held_at c q ≡ Some h → same_pid p q ≡ false → MarkedIfThere CarriesMarks system later q (unended_process h)
  other_marked q h there apart =
      let s = spares_other q apart (home q h there) in
      marked_next system log q valid legal (ap is_some (home q h there).found) e Nothing h tt tt (one_of_them all_of system log [] q h refl ((f.processes).held q h there))
      (s.no_cut, s.no_birth, s.no_page, ap (λ o. option_map_or (is_moved q places) o false) brings_nothing.no_loss) (brings_nothing.no_exit q) (f.marks q h there refl)

  pub other_pages : (q : Pid) (h : Held) → held_at c q ≡ Some h → same_pid p q ≡ false → is_some (process_in h) ≡ true → has_its_pages system later q ≡ true
  other_pages q h there apart some = pages_after system log e q c.number valid now.0 stands differ (home q h there) not_lost (f.pages q h there some)
