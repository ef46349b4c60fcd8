-- A process that rolls forward has caught up where nothing is left: it is the process in the kernel.
use Rattle.std.proofs.Common.{◌≡◌, ℕ, zero, suc, ◌+◌, ◌-◌, ◌<◌, refl, sym, ◌∙◌, ap, subst, arith, List, [], true, false, Option, Some, None, is_some, true≢false}
use Rattle.std.specs.Prelude.{option_and_then}
use Rattle.t32_base.specs.declared.process.Pid.{Pid}
use Rattle.t32_base.specs.declared.process.Counts.{Counts}
use Rattle.sys_text.specs.declared.system.System.{System}
use Rattle.sys_text.specs.Valid.{is_system}
use Rattle.proc_state.specs.State.{ProcState, has_ended}
use Rattle.sys_calls.specs.Next.{silently}
use Rattle.write_count.specs.Counting.{counts_of}
use Rattle.bus_msg.specs.declared.entry.Entry.{Entry}
use Rattle.roll_forward.specs.Deeds.{Deed, letters_in, births_in}
use Rattle.roll_forward.specs.RunsOut.{RunsOut, nothing_left}
use Rattle.roll_forward.specs.Advancing.{Going, rolled_on}
use Rattle.cert_sched.specs.Schedule.{process_after, done_after}
use Rattle.cert_sched.specs.Deeds.{since}
use Rattle.cert_sched.specs.Steps.{silent_upto}
use Rattle.cert_sched.specs.Rules.{is_over}
use Rattle.cert_sched.specs.Rolling.{refilled, RollsAs}
use Rattle.cert_sched.specs.Legal.{IsLegalBy}
use Rattle.cert_sched.specs.Simulation.{IsUnended}
use Rattle.cert_sched.proofs.CameLaws.{IsStandingRule}
use Rattle.cert_sched.proofs.ReplayLaws.{Replays, Sharp, sharp_replays, replays_counts, replays_computes}
use Rattle.cert_sched.proofs.RunsOutLaws.{AllFine, replays_fine, sharp_runs_out, start_ends}
use Rattle.cert_sched.proofs.OpenLaws.{unended_open}
use Rattle.cert_sched.proofs.ThereLaws.{unended_there}
use Rattle.replay_laws.specs.rolling.Behind.{RollsBehind, EndsExactly}
use Rattle.replay_laws.proofs.rolling.Replaying.{Part, rolling_of, sharp_split}
use Rattle.replay_laws.proofs.rolling.Reaching.{Led, led_there, Reach, on_way, beyond, reach, fine_left, same_part, done_is}
use Rattle.replay_laws.proofs.rolling.Stepping.{behind_on, went_on}
use Rattle.replay_laws.proofs.rolling.Exact.{IsExact, exact_unended}

-- the way of a process that is just where its last deed led it
led_exact : (system : System) (log : List Entry) (p : Pid) (now : ProcState) → process_after system log p ≡ Some now → has_ended (now.small).status ≡ false → IsExact system log p now → Led system log p now
led_exact system log p now there goes_on x =
    let replays = sharp_replays x.made (refilled log p x.start) now (since log p) x.sharp in
    record {
      start = x.start;
      started = x.started;
      made = x.made;
      replays = replays;
      open_still = goes_on;
      fine = replays_fine x.made (refilled log p x.start) now (since log p) goes_on (start_ends system log p x.start x.started) replays;
      count = done_is system log p now there;
    }

-- nothing is ahead where nothing is left
no_more : (m : ℕ) (s now : ProcState) (rest : List Deed) → AllFine rest → Sharp m s rest now → nothing_left (counts_of (letters_in rest)) (births_in rest) ≡ true → now ≡ s
no_more zero s now rest fine sharp none = sharp.1
no_more (suc m) s now rest fine sharp none = absurd (true≢false (sym none ∙ (sharp_runs_out (suc m) s now rest fine sharp).0))

pub caught_up_exact : (system : System) (log : List Entry) (p : Pid) (now s : ProcState) (counts : Counts) (births : List Pid) → process_after system log p ≡ Some now → has_ended (now.small).status ≡ false → IsExact system log p now
    → RollsBehind system log p s counts births → nothing_left counts births ≡ true → now ≡ s
unfolding led_exact
caught_up_exact system log p now s counts births there goes_on x rolls none =
    let led = led_exact system log p now there goes_on x in
    let r = rolling_of system log p s counts births rolls.rolls in
    let part = same_part system log p now s counts births led r in
    by_reach part ((λ i. nothing_left (sym r.counts_left i) (sym r.births_left i)) ∙ none)
    (fine_left (refilled log p led.start) (since log p) s r.rest part led.fine)
    (reach (refilled log p led.start) (since log p) s r.rest led.made now part led.replays)
  where
    no_steps : (k : ℕ) → Replays k now [] s → k ≡ 0 → now ≡ s
    no_steps zero silent is = sym silent.1
    no_steps (suc k) silent is = absurd (omega (arith, is))

    by_reach : {rest : List Deed} → (part : Part (refilled log p x.start) (since log p) s rest) → nothing_left (counts_of (letters_in rest)) (births_in rest) ≡ true → AllFine rest → Reach part.steps x.made s rest now → now ≡ s
    by_reach {rest} part nothing fine (on_way m sum on) =
        no_more m s now rest fine
        (sharp_split part.steps m (refilled log p x.start) s now part.done rest part.replays
        (subst (λ ds. Sharp (part.steps + m) (refilled log p x.start) ds now) part.parts (subst (λ n. Sharp n (refilled log p x.start) (since log p) now) (sym sum) x.sharp)))
        nothing
    by_reach {rest} part nothing fine (beyond k sum empty silent) =
        let steps = (replays_counts k now s [] silent).steps in
        let behind = rolls.behind in
        let count = done_is system log p now there in
        no_steps k silent (omega (arith, steps, behind, count))

-- In a legal log that is not over, a process that rolls forward, is not beyond where it was and has nothing left is the process in the kernel.
pub standing_caught_up : (May : System → List Entry → Entry → Type 0) → IsStandingRule May → (system : System) (log : List Entry) (p : Pid) (s : ProcState) (counts : Counts) (births : List Pid) → is_system system ≡ true → IsLegalBy May system log
    → is_over system log ≡ false → IsUnended system log p → RollsBehind system log p s counts births → nothing_left counts births ≡ true → process_after system log p ≡ Some s
standing_caught_up May standing system log p s counts births valid legal goes_on unended rolls none =
    by_process (process_after system log p) refl (unended_there May standing system log p valid legal unended)
  where
    by_process : (o : Option ProcState) → process_after system log p ≡ o → is_some o ≡ true → process_after system log p ≡ Some s
    by_process None is there = absurd (true≢false (sym there))
    by_process (Some now) is there =
        is ∙ ap Some (caught_up_exact system log p now s counts births is (unended_open May standing system log p valid legal unended now is)
        (exact_unended May standing system log p now valid legal goes_on unended is) rolls none)

-- it stands in the log where its own steps are
pub silent_here : (system : System) (log : List Entry) (p : Pid) (s : ProcState) → process_after system log p ≡ Some s → silent_upto system log p (s.small).steps ≡ Some s
unfolding silent_upto silently
silent_here system log p s there =
    let none : (s.small).steps - done_after system log p ≡ 0 = let count = done_is system log p s there in omega (arith, count) in
    ap (λ n. option_and_then (silently n) (process_after system log p)) none ∙ ap (option_and_then (silently 0)) there

-- where all steps ahead are made nothing is left
none_ahead : (left ahead : ℕ) (h : Going) → left + ahead ≡ ahead → RunsOut h.state h.counts h.births left → nothing_left h.counts h.births ≡ true
none_ahead zero ahead h sum runs = runs
none_ahead (suc left) ahead h sum runs = absurd (omega (arith, sum))

-- after all the steps ahead it has caught up: where it was not beyond before, or where something was left
pub caught_up_after : (May : System → List Entry → Entry → Type 0) → IsStandingRule May → (system : System) (log : List Entry) (p : Pid) (ahead : ℕ) (g h : Going) → is_system system ≡ true → IsLegalBy May system log
    → is_over system log ≡ false → IsUnended system log p → RollsBehind system log p g.state g.counts g.births → RunsOut g.state g.counts g.births ahead → rolled_on ahead g ≡ Some h → process_after system log p ≡ Some h.state
caught_up_after May standing system log p ahead g h valid legal goes_on unended rolls runs is =
    let l = led_there May standing system log p valid legal unended in
    let behind = behind_on system log p l.now l.led ahead ahead g h rolls runs (omega arith) is in
    let w = went_on system log p l.now l.led ahead ahead g h rolls.rolls runs (omega arith) is in
    standing_caught_up May standing system log p h.state h.counts h.births valid legal goes_on unended behind (none_ahead w.left ahead h w.sum w.runs_out)

pub caught_up_from : (May : System → List Entry → Entry → Type 0) → IsStandingRule May → (system : System) (log : List Entry) (p : Pid) (ahead : ℕ) (g h : Going) → is_system system ≡ true → IsLegalBy May system log
    → is_over system log ≡ false → IsUnended system log p → RollsAs system log p g.state g.counts g.births → nothing_left g.counts g.births ≡ false → RunsOut g.state g.counts g.births ahead → rolled_on ahead g ≡ Some h
    → process_after system log p ≡ Some h.state
caught_up_from May standing system log p ahead g h valid legal goes_on unended rolls left runs is =
    let l = led_there May standing system log p valid legal unended in
    let w = went_on system log p l.now l.led ahead ahead g h rolls runs (omega arith) is in
    standing_caught_up May standing system log p h.state h.counts h.births valid legal goes_on unended (record { rolls = w.rolls; behind = w.behind (some ahead runs) }) (none_ahead w.left ahead h w.sum w.runs_out)
  where
    some : (ahead : ℕ) → RunsOut g.state g.counts g.births ahead → 0 < ahead
    some zero runs = absurd (true≢false (sym runs ∙ left))
    some (suc ahead) runs = omega arith

-- ---- where it is just where its last deed led it

pub ends_exactly : (system : System) (log : List Entry) (p : Pid) (now : ProcState) → has_ended (now.small).status ≡ false → IsExact system log p now → EndsExactly system log p now
ends_exactly system log p now goes_on x =
    let replays = sharp_replays x.made (refilled log p x.start) now (since log p) x.sharp in
    record {
      start = x.start;
      started = x.started;
      ahead = x.made;
      runs_out = sharp_runs_out x.made (refilled log p x.start) now (since log p) (replays_fine x.made (refilled log p x.start) now (since log p) goes_on (start_ends system log p x.start x.started) replays) x.sharp;
      leads = replays_computes x.made (refilled log p x.start) now (since log p) replays;
    }
