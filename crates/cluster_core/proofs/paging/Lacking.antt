-- Where nothing in a cluster can move: who waits for its pages, and that no answer is owed.
use Rattle.std.proofs.Common.{◌≡◌, ℕ, refl, sym, ◌∙◌, ap, subst, List, [], ◌∷◌, Bool, true, false, cond, not, ◌&&◌, ◌||◌, eqb, eqb-true, eq-eqb, inl, inr, Option, Some, None, is_some, true≢false}
use Rattle.std.specs.Prelude.{find, option_and_then, option_map, slice_get, ◌≢◌}
use Rattle.std.specs.List.{list_any}
use Rattle.std.specs.Option.{option_map_or}
use Rattle.std.proofs.lemmas.Bool.{or_parts}
use Rattle.t32_base.specs.declared.process.Pid.{Pid}
use Rattle.sys_text.specs.Valid.{is_system}
use Rattle.bus_msg.specs.declared.entry.By.TheVariants.{Cluster}
use Rattle.bus_msg.specs.Places.{Places, same_cluster, same_pid}
use Rattle.bus_msg.specs.declared.entry.Entry.{Entry}
use Rattle.bus_msg.specs.declared.placed.Placed.{Placed}
use Rattle.cert_sched.specs.Family.{is_unsynced}
use Rattle.cert_sched.specs.Legal.{IsLegalBy, Stands, MayStand}
use Rattle.cert_sched.specs.Moved.{waiting_fetches}
use Rattle.cert_sched.specs.Schedule.{placement}
use Rattle.cert_sched.specs.Simulation.{bears}
use Rattle.cert_sched.specs.Rules.{is_by}
use Rattle.cert_sched.proofs.RisingLaws.{NoTwo}
use Rattle.page_server.specs.Account.{PagerState}
use Rattle.page_accounts.specs.Answering.{earliest}
use Rattle.page_waits.specs.Waiting.{WaitingState, next_page}
use Rattle.log_laws.proofs.records.Standing.{all_stand}
use Rattle.replay_laws.specs.pages.Waits.{WaitsAs, none_queued}
use Rattle.replay_laws.proofs.pages.FetchesWait.{a_fetch_waits}
use Rattle.log_laws.specs.births.Unsynced.{unsynced_births}
use Rattle.log_laws.proofs.births.UnsyncedChild.{lives_with_parent}
use Rattle.replay_laws.specs.forks.ForkWaits.{HasStatedOne, WaitsSo}
use Rattle.replay_laws.proofs.forks.EitherWait.{for_pages, stated_record}
use Rattle.replay_laws.proofs.forks.StatedAbove.{stated_above}
use Rattle.cluster_core.specs.declared.worked.Worked.TheVariants.{Waits as IsWaiting, Rests}
use Rattle.residents.specs.Duty.{DutyView, is_owed}
use Rattle.cluster_core.specs.View.{ClusterView, counted_once, held_at, limits_of, duty_of}
use Rattle.residents.specs.Held.{Held, Runs, Rolls, Waits, can_act, held_of, is_waiting, page_lacked}
use Rattle.residents.specs.Residents.{are_stuck, pids_in}
use Rattle.cluster_core.specs.Parts.{AllOwn, IsHeldOwn}
use Rattle.cluster_core.specs.Holds.{IsHeldAs, KeepsIfThere}
use Rattle.cluster_core.specs.Calls.{OwesNoAnswer, OwesNothing, WaitsForPages, WorkIs}
use Rattle.residents.specs.Asking.{any_lacks, any_waits}
use Rattle.cluster_core.specs.Work.{is_first_server, owes_answer}
use Rattle.cluster_core.specs.Follows.{Follows, IsOpen}
use Rattle.cluster_core.specs.ForksAgain.{has_to_bear}
use Rattle.cluster_core.proofs.forks.ForksAgain.{bears_by}
use Rattle.cluster_core.proofs.forks.ForksPaged.{among_unsynced}
use Rattle.cluster_core.proofs.losses.HeldAtHome.{held_at_home, home_found}
use Rattle.cluster_core.proofs.losses.Homes.{HomeHere}
use Rattle.cluster_core.proofs.losses.FirstServer.{FirstServes, first_serves}
use Rattle.cluster_core.proofs.here.Here.{is_among}
use Rattle.residents.proofs.Changing.{same_itself}
use Rattle.cluster_core.proofs.working.Lightening.{pids_apart}
use Rattle.cluster_core.proofs.here.Owning.{own_at, none_waits, waiting_unsettled}
use Rattle.cluster_core.proofs.working.Working.{home_of_it}

-- ---- one of those that are here

-- one that passes a test, by its pid
record Found (test : Held → Bool) (here : List (Pid × Held)) : Type 0 where
  pub pid : Pid
  pub held : Held
  pub there : held_of here pid ≡ Some held
  pub passes : test held ≡ true

-- where no pid stands twice
found_any : (test : Held → Bool) (here : List (Pid × Held)) → NoTwo (pids_in here) → list_any (λ (e : Pid × Held). test e.1) here ≡ true → Found test here
found_any test [] two any = absurd (true≢false (sym any))
found_any test (e ∷ here) two any = by_test (test e.1) refl any (found_any test here two.1)
  where
    beside : (p : Pid) (h : Held) → held_of here p ≡ Some h → (b : Bool) → same_pid e.0 p ≡ b → held_of (e ∷ here) p ≡ Some h
    beside p h at true is = absurd (true≢false (sym (ap (λ n. list_any (λ m. eqb m n) (pids_in here)) (eqb-true (e.0).0 p.0 is) ∙ is_among here p h at) ∙ two.0))
    beside p h at false is = ap (λ b. option_map (λ (e : Pid × Held). e.1) (cond b (Some e) (find (λ (q : Pid × Held). same_pid q.0 p) here))) is ∙ at

    by_test : (b : Bool) → test e.1 ≡ b → (b || list_any (λ (e : Pid × Held). test e.1) here) ≡ true → (list_any (λ (e : Pid × Held). test e.1) here ≡ true → Found test here) → Found test (e ∷ here)
    by_test true is any more = record {
      pid = e.0;
      held = e.1;
      there = ap (λ b. option_map (λ (e : Pid × Held). e.1) (cond b (Some e) (find (λ (q : Pid × Held). same_pid q.0 e.0) here))) (same_itself e.0);
      passes = is;
    }
    by_test false is any more =
        let one = more any in
        record { pid = one.pid; held = one.held; there = beside one.pid one.held one.there (same_pid e.0 one.pid) refl; passes = one.passes }

-- where none passes a test, no one does that is found
none_passes : (test : Held → Bool) (here : List (Pid × Held)) (p : Pid) (h : Held) → list_any (λ (e : Pid × Held). test e.1) here ≡ false → held_of here p ≡ Some h → test h ≡ false
none_passes test [] p h none there = cc
none_passes test (e ∷ here) p h none there = by_pid (same_pid e.0 p) there (none_passes test here p h parts.1)
  where
    parts : (test e.1 ≡ false) × (list_any (λ (e : Pid × Held). test e.1) here ≡ false)
    parts = or_parts (test e.1) (list_any (λ (e : Pid × Held). test e.1) here) none

    by_pid : (b : Bool) → option_map (λ (e : Pid × Held). e.1) (cond b (Some e) (find (λ (e : Pid × Held). same_pid e.0 p) here)) ≡ Some h → (held_of here p ≡ Some h → test h ≡ false) → test h ≡ false
    by_pid true at more =
        let same : e.1 ≡ h = cc in
        ap test (sym same) ∙ parts.0
    by_pid false at more = more at

-- where none can move none acts
none_acts : (duty : DutyView) (here : List (Pid × Held)) → are_stuck duty here ≡ true → list_any (λ (e : Pid × Held). can_act duty.limits e.1) here ≡ false
none_acts duty [] stuck = refl
none_acts duty (e ∷ here) stuck = by_tests (is_owed duty e) (can_act duty.limits e.1) stuck (none_acts duty here)
  where
    by_tests : (o b : Bool) → (not (o || b) && are_stuck duty here) ≡ true → (are_stuck duty here ≡ true → list_any (λ (e : Pid × Held). can_act duty.limits e.1) here ≡ false) → (b || list_any (λ (e : Pid × Held). can_act duty.limits e.1) here) ≡ false
    by_tests true b stuck more = absurd (true≢false (sym stuck))
    by_tests false true stuck more = absurd (true≢false (sym stuck))
    by_tests false false stuck more = more stuck

-- ---- a process waits for its pages, or a child for its parent's fork

none_of : (o : Option ℕ) → is_some o ≡ false → o ≡ None
none_of None is = refl
none_of (Some i) is = absurd (true≢false is)

-- one that waits is found under its pid
abbrev waits_at : List (Pid × Held) → Pid → Bool
waits_at here p = option_map_or is_waiting (held_of here p) false

record WaitsThere (here : List (Pid × Held)) (p : Pid) : Type 0 where
  pub waiting : WaitingState
  pub there : held_of here p ≡ Some (Waits waiting)

waits_there : (here : List (Pid × Held)) (p : Pid) → waits_at here p ≡ true → WaitsThere here p
waits_there here p is = by_found (held_of here p) refl is
  where
    by_found : (o : Option Held) → held_of here p ≡ o → option_map_or is_waiting o false ≡ true → WaitsThere here p
    by_found None there is = absurd (true≢false (sym is))
    by_found (Some (Waits w)) there is = record { waiting = w; there = there }
    by_found (Some _) there is = absurd (true≢false (sym is))

module _ (c : ClusterView) (valid : is_system c.system ≡ true) (empty : c.queue ≡ []) (own : AllOwn c.cursor c.here) (stuck : are_stuck (duty_of c) c.here ≡ true) (lacks : any_lacks c.here ≡ false) (log : List Entry)
    (go : IsOpen MayStand c.system log) (f : Follows c.system log c) where
  legal : IsLegalBy Stands c.system log
  legal = all_stand c.system log go.0

  home : (p : Pid) (h : Held) → held_at c p ≡ Some h → HomeHere (placement c.system log) p c.number
  home p h there = home_of_it c p h empty there valid log go f

  so_held : (p : Pid) (w : WaitingState) → held_at c p ≡ Some (Waits w) → WaitsSo c.system log p none_queued w
  so_held p w there = (subst (λ queue. IsHeldAs c.system log queue p (Waits w)) empty ((f.processes).held p (Waits w) there)).1

  -- all pages of one that waits for pages were asked for and one has not come, so a fetch waits in the log
  fetch_waits : (p : Pid) (w : WaitingState) → held_at c p ≡ Some (Waits w) → WaitsAs c.system log p none_queued w → waiting_fetches c.system log ≢ []
  fetch_waits p w there waits =
      let mine : IsHeldOwn c.cursor p (Waits w) = own_at c.cursor c.here p (Waits w) own there in
      a_fetch_waits c.system log p w legal (ap is_some (home p (Waits w) there).found) waits
      (none_of (next_page w) (none_passes (λ h. is_some (page_lacked h)) c.here p (Waits w) lacks there)) (mine.lacks (stated_record c.system log p none_queued w go.0 waits))

  -- where none can move, the parent of a child that waits waits too
  parent_waits : (parent child : Pid) → bears log parent child ≡ true → is_unsynced (placement c.system log) child ≡ true → waits_at c.here child ≡ true → waits_at c.here parent ≡ true
  parent_waits parent child born unsynced waits =
      let w = waits_there c.here child waits in
      let at = held_at_home (placement c.system log) c.number c.here parent (f.processes).each_once parent_home in
      by_held at.0 at.1 (sym (f.forks parent child at.0 (Waits w.waiting) at.1 w.there (subst (λ bs. list_any (bears_by parent child) bs ≡ true) (sym f.family) among)))
    where
      among : list_any (bears_by parent child) (unsynced_births c.system log) ≡ true
      among = among_unsynced c.system log parent child born unsynced

      parent_home : HomeHere (placement c.system log) parent c.number
      parent_home =
          let w = waits_there c.here child waits in
          let there = home child (Waits w.waiting) w.there in
          home_found (placement c.system log) parent c.number (there.placed).home (sym (lives_with_parent c.system log parent child valid legal among) ∙ ap (option_map (λ (q : Placed). q.home)) there.found) there.home

      by_held : (q : Held) → held_of c.here parent ≡ Some q → has_to_bear child q ≡ true → option_map_or is_waiting (held_of c.here parent) false ≡ true
      by_held (Runs s) at bears = absurd (true≢false (sym bears))
      by_held (Rolls s counts births) at bears = absurd (true≢false (none_passes (can_act (limits_of c.system)) c.here parent (Rolls s counts births) (none_acts (duty_of c) c.here stuck) at))
      by_held (Waits w) at bears = ap (λ o. option_map_or is_waiting o false) at

  -- so some process waits for its pages
  pub fetch_awaited : (p : Pid) (w : WaitingState) → held_at c p ≡ Some (Waits w) → waiting_fetches c.system log ≢ []
  fetch_awaited p w there = by_wait (so_held p w there)
    where
      above : HasStatedOne c.system log (waits_at c.here) → waiting_fetches c.system log ≢ []
      above one =
          let v = waits_there c.here one.pid one.passes in
          fetch_waits one.pid v.waiting v.there (for_pages c.system log one.pid none_queued v.waiting (so_held one.pid v.waiting v.there) one.stated)

      by_wait : WaitsSo c.system log p none_queued w → waiting_fetches c.system log ≢ []
      by_wait (inl waits) = fetch_waits p w there waits
      by_wait (inr waits) = above (stated_above c.system log (waits_at c.here) valid legal parent_waits p (ap is_some (home p (Waits w) there).found) waits.stateless (ap (λ o. option_map_or is_waiting o false) there))

-- where none can move and one waits, a fetch waits in the log
pub waited : (c : ClusterView) → is_system c.system ≡ true → c.queue ≡ [] → AllOwn c.cursor c.here → are_stuck (duty_of c) c.here ≡ true → any_waits c.here ≡ true → any_lacks c.here ≡ false → WaitsForPages c
waited c valid empty own stuck waits lacks log go f = by_held one.held one.there one.passes
  where
    one : Found is_waiting c.here
    one = found_any is_waiting c.here (pids_apart c log valid go.0 f) waits

    by_held : (h : Held) → held_at c one.pid ≡ Some h → is_waiting h ≡ true → waiting_fetches c.system log ≢ []
    by_held (Waits w) there is = fetch_awaited c valid empty own stuck lacks log go f one.pid w there
    by_held _ there is = absurd (true≢false (sym is))

-- ---- no answer is owed

none_first : (fs : List (Pid × ℕ)) → is_some (slice_get fs 0) ≡ false → fs ≡ []
none_first [] none = refl
none_first (f ∷ fs) none = absurd (true≢false none)

-- the first of the page servers that live keeps the fetches of the log, and so none waits
pub unowed : (c : ClusterView) → owes_answer c.places c.number c.server ≡ false → OwesNoAnswer c
unowed c none log go f first = by_server c.server ((f.accounts).there serves.unlost serves.server) (second (is_first_server c.places c.number) (is_some (option_and_then earliest c.server)) is_first none) (f.accounts).keeps
  where
    serves : FirstServes c.system log c.number
    serves = first_serves c.system log c.number go.0 (ap (is_by (Cluster c.number)) first ∙ eq-eqb (c.number).0 (c.number).0 refl)

    is_first : is_first_server c.places c.number ≡ true
    is_first =
        ap (λ (places : Places). is_first_server places c.number) (f.log).places ∙ ap (λ o. option_map_or (λ s. same_cluster s c.number) o false) first ∙ eq-eqb (c.number).0 (c.number).0 refl

    second : (a b : Bool) → a ≡ true → (a && b) ≡ false → b ≡ false
    second true b is none = none
    second false b is none = absurd (true≢false (sym is))

    by_server : (o : Option PagerState) → is_some o ≡ true → is_some (option_and_then earliest o) ≡ false → KeepsIfThere c.system log o → waiting_fetches c.system log ≡ []
    by_server None there none keeps = absurd (true≢false (sym there))
    by_server (Some s) there none keeps = sym keeps.waits ∙ none_first s.fetches none

-- ---- what a work says then

pub rested_work : (c : ClusterView) → AllOwn c.cursor c.here → OwesNothing c → are_stuck (duty_of c) c.here ≡ true → any_waits c.here ≡ false → WorkIs c Rests (counted_once c)
rested_work c own nothing stuck none = (nothing, none_waits (duty_of c) c.here none ∙ stuck, unowed c nothing.unowed, refl)

pub waited_work : (c : ClusterView) → is_system c.system ≡ true → c.queue ≡ [] → AllOwn c.cursor c.here → OwesNothing c → are_stuck (duty_of c) c.here ≡ true → any_waits c.here ≡ true → WorkIs c IsWaiting (counted_once c)
waited_work c valid empty own nothing stuck waits = (nothing, waiting_unsettled (duty_of c) c.here waits, waited c valid empty own stuck waits nothing.none, unowed c nothing.unowed, refl)
