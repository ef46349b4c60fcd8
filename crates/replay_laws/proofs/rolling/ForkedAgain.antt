-- A child that never was cut starts as the fork makes it that its parent makes again; and its parent makes that fork once.
use Rattle.std.proofs.Common.{◌≡◌, ℕ, zero, suc, refl, sym, ◌∙◌, ap, subst, List, [], ◌∷◌, ◌++◌, map, length, true, false, not, Option, Some, None, is_some, true≢false}
use Rattle.std.specs.List.{list_any}
use Rattle.std.proofs.lemmas.List.{length-map}
use Rattle.std.proofs.lemmas.Grind.{flat_map-append}
use Rattle.std.proofs.lemmas.Option.{same_Some}
use Rattle.t32_base.specs.declared.process.Pid.{Pid}
use Rattle.t32_base.specs.declared.process.Counts.{Counts}
use Rattle.sys_text.specs.declared.system.System.{System}
use Rattle.sys_text.specs.Valid.{is_system}
use Rattle.proc_state.specs.State.{ProcState}
use Rattle.sys_calls.specs.Calls.{Forks}
use Rattle.sys_calls.specs.Next.{next_step}
use Rattle.sys_calls.specs.Fork.{fork_child, fork_parent}
use Rattle.bus_msg.specs.declared.entry.Entry.{Entry}
use Rattle.bus_msg.specs.Places.{same_pid}
use Rattle.roll_forward.specs.Deeds.{Deed, Sends, Bears, births_in, child_in}
use Rattle.cert_sched.specs.Schedule.{process_after, placement}
use Rattle.cert_sched.specs.Deeds.{start_of, since}
use Rattle.cert_sched.specs.Family.{is_unsynced}
use Rattle.cert_sched.specs.Record.{has_state}
use Rattle.cert_sched.specs.Rolling.{refilled, RollsAs}
use Rattle.cert_sched.specs.Legal.{IsLegalBy}
use Rattle.cert_sched.specs.Simulation.{IsUnended, bears}
use Rattle.cert_sched.proofs.ReplayLaws.{Replays, ReplaysBy}
use Rattle.cert_sched.proofs.ForkLaws.{forked, forked_by, forked_on}
use Rattle.cert_sched.proofs.CameLaws.{IsStandingRule}
use Rattle.cert_sched.proofs.OpenLaws.{unended_open}
use Rattle.cert_sched.proofs.ThereLaws.{unended_there}
use Rattle.cert_sched.proofs.ChildLaws.{child_with_parent}
use Rattle.replay_laws.proofs.rolling.Replaying.{Part, rolling_of}
use Rattle.replay_laws.proofs.rolling.Reaching.{Reach, on_way, beyond, reach}
use Rattle.replay_laws.proofs.rolling.BirthStates.{birth_state, stateless_start}
use Rattle.replay_laws.proofs.rolling.BornLists.{AllApart, apart_rest, in_one_part, same_parts, state_behind}
use Rattle.replay_laws.proofs.rolling.ForkedPids.{forked_pids}
use Rattle.replay_laws.proofs.rolling.ForkedStates.{Bore, all_bore}

-- ---- the fork that comes next

-- the first child that the rest of a replay forks
record First (child : ProcState) (cs : List ProcState) : Type 0 where
  pub more : List ProcState
  pub is : cs ≡ child ∷ more

some_left : (child : Pid) (births : List Pid) → (child ∷ births) ≡ [] → ⊥
some_left child births e = cc

-- where its next step is a fork, it is as that fork makes the first child that is left
first_forked : (m : ℕ) (s now : ProcState) (rest : List Deed) (child : Pid) (births : List Pid) → child ∷ births ≡ births_in rest → next_step s ≡ Forks → Replays m s rest now → First (fork_child s child) (forked m s rest)
first_forked zero s now rest child births left forks on = absurd (some_left child births (left ∙ ap births_in on.0))
first_forked (suc m) s now rest child births left forks on = by_rest rest left (subst (λ next. ReplaysBy s (λ x r. Replays m x r now) next rest) forks on)
  where
    by_rest : (rest : List Deed) → child ∷ births ≡ births_in rest → ReplaysBy s (λ x r. Replays m x r now) Forks rest → First (fork_child s child) (forked (suc m) s rest)
    by_rest [] left h = absurd h
    by_rest (Sends e ∷ ds) left h = absurd h
    by_rest (Bears c ∷ ds) left h = record {
      more = forked m (fork_parent s c) ds;
      is = ap (λ next. forked_by s (λ x r. forked m x r) next (Bears c ∷ ds)) forks ∙ ap (λ q. fork_child s q ∷ forked m (fork_parent s c) ds) (sym (same_parts child c births (births_in ds) left).first);
    }

module _ (system : System) (log : List Entry) (parent : Pid) (now : ProcState) (bore : Bore system log parent now) where
  abbrev from : ProcState
  from = refilled log parent (bore.rolls).start

  parted : (s : ProcState) (rest : List Deed) (part : Part from (since log parent) s rest) → births_in (since log parent) ≡ births_in part.done ++ births_in rest
  parted s rest part = ap births_in part.parts ∙ flat_map-append child_in part.done rest

  forked_part : (s : ProcState) (rest : List Deed) (child : Pid) (births : List Pid) → child ∷ births ≡ births_in rest → next_step s ≡ Forks → (part : Part from (since log parent) s rest) → Reach part.steps (bore.rolls).made s rest now
      → birth_state system log child ≡ Some (fork_child s child)
  forked_part s rest child births left forks part (beyond k sum none silent) = absurd (some_left child births (left ∙ ap births_in none))
  forked_part s rest child births left forks part (on_way m sum on) =
      let first = first_forked m s now rest child births left forks on in
      let earlier = forked part.steps from part.done in
      let all : forked (bore.rolls).made from (since log parent) ≡ earlier ++ fork_child s child ∷ first.more =
      (λ i. forked (sym sum i) from (part.parts i)) ∙ forked_on part.steps m from s part.done rest part.replays ∙ ap (λ cs. earlier ++ cs) first.is in
      let many : length earlier ≡ length (births_in part.done) = sym (length-map earlier (λ (c : ProcState). (c.small).pid)) ∙ ap length (forked_pids part.steps from s part.done part.replays) in
      let births_are : births_in (since log parent) ≡ births_in part.done ++ child ∷ births = parted s rest part ∙ ap (λ bs. births_in part.done ++ bs) (sym left) in
      state_behind (birth_state system log) earlier first.more (fork_child s child) (births_in part.done) births child many
      (ap (map Some) (sym all) ∙ bore.are ∙ ap (map (birth_state system log)) births_are)

-- ---- in a legal log

module _ (May : System → List Entry → Entry → Type 0) (standing : IsStandingRule May) (system : System) (log : List Entry) (parent : Pid) (valid : is_system system ≡ true) (legal : IsLegalBy May system log) where
  record BoreThere : Type 0 where
    pub now : ProcState
    pub bore : Bore system log parent now

  bore_there : IsUnended system log parent → BoreThere
  bore_there unended = by_process (process_after system log parent) refl (unended_there May standing system log parent valid legal unended)
    where
      by_process : (o : Option ProcState) → process_after system log parent ≡ o → is_some o ≡ true → BoreThere
      by_process None here there = absurd (true≢false (sym there))
      by_process (Some now) here there = record { now = now; bore = all_bore May standing system log parent now valid legal here (unended_open May standing system log parent valid legal unended now here) }

  -- what the fork makes that comes next is what was born
  pub forked_again : IsUnended system log parent → (s : ProcState) (counts : Counts) (child : Pid) (births : List Pid) → RollsAs system log parent s counts (child ∷ births) → next_step s ≡ Forks → birth_state system log child ≡ Some (fork_child s child)
  forked_again unended s counts child births rolls forks =
      let b = bore_there unended in
      let r = rolling_of system log parent s counts (child ∷ births) rolls in
      let same = same_Some r.start ((b.bore).rolls).start (sym r.started ∙ ((b.bore).rolls).started) in
      let part = subst (λ (x : ProcState). Part (refilled log parent x) (since log parent) s r.rest) same r.part in
      forked_part system log parent b.now b.bore s r.rest child births r.births_left forks part
      (reach (refilled log parent ((b.bore).rolls).start) (since log parent) s r.rest ((b.bore).rolls).made b.now part ((b.bore).rolls).replays)

  -- and from there a child starts that has no state in its record
  pub child_starts : IsUnended system log parent → (s : ProcState) (counts : Counts) (child : Pid) (births : List Pid) → has_state system log child ≡ false → RollsAs system log parent s counts (child ∷ births) → next_step s ≡ Forks
      → start_of system log child ≡ Some (fork_child s child)
  child_starts unended s counts child births stateless rolls forks = stateless_start system log child stateless ∙ forked_again unended s counts child births rolls forks

  -- ---- each fork once

  all_apart : IsUnended system log parent → AllApart (births_in (since log parent))
  all_apart unended = ((bore_there unended).bore).apart

  parts_of : (s : ProcState) (counts : Counts) (births : List Pid) (rolls : RollsAs system log parent s counts births) → births_in (since log parent) ≡ births_in rolls.done ++ births
  parts_of s counts births rolls = ap births_in rolls.parts ∙ flat_map-append child_in rolls.done rolls.rest ∙ ap (λ bs. births_in rolls.done ++ bs) (sym rolls.births_left)

  -- the child of the fork that comes next is none of those that are left behind it
  pub forked_once_only : IsUnended system log parent → (s : ProcState) (counts : Counts) (child : Pid) (births : List Pid) → RollsAs system log parent s counts (child ∷ births) → list_any (same_pid child) births ≡ false
  forked_once_only unended s counts child births rolls =
      (apart_rest (births_in rolls.done) (child ∷ births) (subst AllApart (parts_of s counts (child ∷ births) rolls) (all_apart unended))).0

  -- a child that never synchronised was made again, or is left
  pub unsynced_left : (s : ProcState) (counts : Counts) (child : Pid) (births : List Pid) → bears log parent child ≡ true → is_unsynced (placement system log) child ≡ true → (rolls : RollsAs system log parent s counts births)
      → list_any (same_pid child) (births_in rolls.done) ≡ not (list_any (same_pid child) births)
  unsynced_left s counts child births born unsynced rolls =
      let w = child_with_parent May standing system log parent child valid legal born unsynced in
      let parts = parts_of s counts births rolls in
      in_one_part (births_in rolls.done) births child (subst AllApart parts (all_apart (ap is_some w.parent_at))) (sym (ap (list_any (same_pid child)) parts) ∙ w.recorded)
