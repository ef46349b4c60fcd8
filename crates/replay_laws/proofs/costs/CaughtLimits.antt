-- In a log that is not over each process that has not ended is within its limits where it is, and so is one that has just caught up.
use Rattle.std.proofs.Common.{◌≡◌, ℕ, ◌+◌, ◌-◌, ◌≤◌, sym, ◌∙◌, ap, subst, arith, List, [], true, false, leb, Option, Some}
use Rattle.std.specs.Option.{option_map_or}
use Rattle.std.proofs.lemmas.Bool.{and_from}
use Rattle.std.proofs.lemmas.Bool.Decides.{nat_tests}
use Rattle.std.proofs.lemmas.Option.{same_Some}
use Rattle.t32_base.specs.declared.process.Pid.{Pid}
use Rattle.t32_base.specs.declared.process.Counts.{Counts}
use Rattle.sys_text.specs.declared.system.System.{System}
use Rattle.sys_text.specs.Valid.{is_system}
use Rattle.proc_state.specs.declared.process.Process.{Process}
use Rattle.proc_state.specs.State.{ProcState, has_ended, state_of}
use Rattle.write_count.specs.Counting.{counts_of}
use Rattle.bus_msg.specs.declared.entry.Entry.{Entry}
use Rattle.roll_forward.specs.Deeds.{Deed, letters_in, births_in}
use Rattle.roll_forward.specs.RunsOut.{RunsOut, nothing_left}
use Rattle.roll_forward.specs.Replay.{replayed}
use Rattle.roll_forward.specs.Advancing.{going, rolled_on}
use Rattle.cert_sched.specs.Schedule.{process_after}
use Rattle.cert_sched.specs.Deeds.{saved_letters, since}
use Rattle.cert_sched.specs.Steps.{saved_of, start_steps}
use Rattle.cert_sched.specs.Rules.{is_over, keeps_limits}
use Rattle.cert_sched.specs.Rolling.{refilled}
use Rattle.cert_sched.specs.Legal.{IsLegalBy, MayStand}
use Rattle.cert_sched.specs.Simulation.{IsUnended}
use Rattle.cert_sched.proofs.LimitLaws.{Limited, stand_limited}
use Rattle.cert_sched.proofs.OpenLaws.{unended_open}
use Rattle.cert_sched.proofs.ReadLaws.{read_count}
use Rattle.cert_sched.proofs.ReplayLaws.{Sharp, first_is, replays_computes, replays_counts, replays_goes_on, sharp_replays}
use Rattle.cert_sched.proofs.RunsOutLaws.{replays_fine, runs_out_once, sharp_runs_out, start_ends}
use Rattle.replay_laws.specs.rolling.Behind.{RollsBehind}
use Rattle.replay_laws.proofs.rolling.ByRule.{stand_caught_up, standing}
use Rattle.replay_laws.proofs.rolling.CaughtUp.{caught_up_after}
use Rattle.replay_laws.proofs.rolling.Exact.{IsExact, exact_unended}

-- ---- counts below their limits

steps_below : (n start first most : ℕ) → n ≡ start + first → first ≤ most → leb (n - start) most ≡ true
steps_below n start first most count within = grind (arith, nat_tests)

reads_below : (n most : ℕ) → n ≤ most → leb n most ≡ true
reads_below n most within = grind (arith, nat_tests)

-- ---- where its last deed led it

module _ (system : System) (log : List Entry) (p : Pid) (now : ProcState) (goes_on : has_ended (now.small).status ≡ false) (l : Limited system log p now) where
  abbrev s : ProcState
  s = refilled log p l.start

  abbrev deeds : List Deed
  deeds = since log p

  -- where it is just there, that is where it is
  at_last : IsExact system log p now → l.there ≡ now
  at_last x =
      let sharp : Sharp x.made s deeds now = subst (λ start. Sharp x.made (refilled log p start) deeds now) (same_Some x.start l.start (sym x.started ∙ l.started)) x.sharp in
      let led = sharp_replays l.first s l.there deeds l.sharp in
      let fine = replays_fine l.first s l.there deeds (replays_goes_on l.rest l.there now [] l.silent goes_on) (start_ends system log p l.start l.started) led in
      let once : l.first ≡ x.made =
      runs_out_once l.first x.made s (counts_of (letters_in deeds)) (births_in deeds) (sharp_runs_out l.first s l.there deeds fine l.sharp) (sharp_runs_out x.made s now deeds fine sharp) in
      let same : ◌≡◌ {A = Option (ProcState × List Deed)} (Some (l.there, deeds)) (Some (now, deeds)) =
      sym (replays_computes l.first s l.there deeds led) ∙ ap (λ n. replayed n s (births_in deeds)) once ∙ replays_computes x.made s now deeds (sharp_replays x.made s now deeds sharp) in
      (first_is (l.there, deeds) now deeds same).0

  -- and there it keeps the limits
  last_keeps : keeps_limits system log p l.there ≡ true
  last_keeps =
      let steps = (replays_counts l.first s l.there deeds (sharp_replays l.first s l.there deeds l.sharp)).steps in
      let started : start_steps system log p ≡ ((l.start).small).steps = ap (λ o. option_map_or (λ (q : ProcState). (q.small).steps) o 0) l.started in
      let saved : saved_of system log p ≡ saved_letters log p l.start = ap (λ o. option_map_or (saved_letters log p) o []) l.started in
      and_from _ _ (ap (λ n. leb (((l.there).small).steps - n) system.syncsteps) started ∙ steps_below ((l.there).small).steps ((l.start).small).steps l.first system.syncsteps steps l.within)
      (ap (λ letters. leb (read_count letters (l.there).mail) system.syncreads) saved ∙ reads_below (read_count (saved_letters log p l.start) (l.there).mail) system.syncreads l.reads)

-- ---- in a log of what is built

-- each process that has not ended is within its limits, where the log is not over
pub stand_keeps : (system : System) (log : List Entry) (p : Pid) (now : ProcState) → is_system system ≡ true → IsLegalBy MayStand system log → is_over system log ≡ false → IsUnended system log p
    → process_after system log p ≡ Some now → keeps_limits system log p now ≡ true
stand_keeps system log p now valid legal open_log unended there =
    let goes_on = unended_open MayStand standing system log p valid legal unended now there in
    let l = stand_limited system log valid legal p now there goes_on in
    ap (keeps_limits system log p) (sym (at_last system log p now goes_on l (exact_unended MayStand standing system log p now valid legal open_log unended there)))
    ∙ last_keeps system log p now goes_on l

-- so is one that rolls forward, is not beyond where it was and has nothing left
pub caught_keeps : (system : System) (log : List Entry) (p : Pid) (s : ProcState) (counts : Counts) (births : List Pid) → is_system system ≡ true → IsLegalBy MayStand system log → is_over system log ≡ false → IsUnended system log p
    → RollsBehind system log p s counts births → nothing_left counts births ≡ true → keeps_limits system log p s ≡ true
caught_keeps system log p s counts births valid legal open_log unended rolls none =
    stand_keeps system log p s valid legal open_log unended (stand_caught_up system log p s counts births valid legal open_log unended rolls none)

-- and one that has made all the steps ahead
pub caught_limits : (system : System) (log : List Entry) (p : Pid) (process q : Process) (counts left : Counts) (births unborn : List Pid) (n : ℕ) → is_system system ≡ true → IsLegalBy MayStand system log
    → is_over system log ≡ false → IsUnended system log p → RollsBehind system log p (state_of process) counts births → RunsOut (state_of process) counts births n
    → rolled_on n (going process counts births) ≡ Some (going q left unborn) → keeps_limits system log p (state_of q) ≡ true
caught_limits system log p process q counts left births unborn n valid legal open_log unended rolls runs made =
    stand_keeps system log p (state_of q) valid legal open_log unended
    (caught_up_after MayStand standing system log p n (going process counts births) (going q left unborn) valid legal open_log unended rolls runs made)
