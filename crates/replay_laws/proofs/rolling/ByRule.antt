-- The laws of a process that rolls forward, by the rules under which they are promised.
use Rattle.std.proofs.Common.{◌≡◌, ℕ, arith, ◌<◌, ◌≤◌, ◌^◌, sym, subst, List, [], ◌∷◌, ◌++◌, true, false, Some}
use Rattle.std.specs.Prelude.{fold}
use Rattle.t32_base.specs.declared.process.Pid.{Pid}
use Rattle.t32_base.specs.declared.process.Counts.{Counts}
use Rattle.t32_base.specs.declared.letter.BackRec.{BackRec}
use Rattle.t32_base.specs.declared.letter.Letter.{Letter}
use Rattle.t32_base.specs.Small.{SmallState}
use Rattle.sys_text.specs.declared.system.System.{System}
use Rattle.sys_text.specs.Valid.{is_system}
use Rattle.rv_mem.specs.Memory.{Memory}
use Rattle.proc_state.specs.State.{ProcState, delivered, has_ended, state_of}
use Rattle.sys_calls.specs.Next.{next_step, is_blocked}
use Rattle.bus_msg.specs.declared.entry.Entry.{Entry}
use Rattle.bus_msg.specs.PlacedAfter.{what}
use Rattle.roll_forward.specs.RunsOut.{RunsOut, RunsOn, nothing_left}
use Rattle.roll_forward.specs.Rolling.{CanRoll, RollingState, started, with_saved}
use Rattle.roll_forward.specs.Advancing.{Advances, Going, rolled_on}
use Rattle.roll_forward.specs.declared.rolled.Rolled.{Rolled}
use Rattle.cert_sched.specs.Schedule.{process_after}
use Rattle.cert_sched.specs.Deeds.{is_cut, start_of, deeds_in, letter_for}
use Rattle.cert_sched.specs.Steps.{silent_upto}
use Rattle.cert_sched.specs.Record.{backup_record}
use Rattle.cert_sched.specs.Rules.{is_over}
use Rattle.cert_sched.specs.Legal.{IsLegalBy, Stands, MayStand}
use Rattle.cert_sched.specs.Simulation.{IsUnended}
use Rattle.cert_sched.specs.Rolling.{RollsAs}
use Rattle.cert_sched.proofs.SpentLaws.{few_steps_after}
use Rattle.cert_sched.proofs.CameLaws.{IsStandingRule}
use Rattle.cert_sched.proofs.OpenLaws.{unended_open}
use Rattle.replay_laws.specs.rolling.Behind.{EndsExactly, RollsBehind, RunsAhead}
use Rattle.replay_laws.proofs.rolling.Entries.{fold_delivered, rolls_entry_standing, rolls_letter, rolls_quiet}
use Rattle.replay_laws.proofs.rolling.Reaching.{led_there, led_unended}
use Rattle.replay_laws.proofs.rolling.Stepping.{rolls_on, went_on, behind_on, rolls_advanced}
use Rattle.replay_laws.proofs.rolling.RunningOut.{runs_ahead, can_roll}
use Rattle.replay_laws.proofs.rolling.NotEnded.{rolls_not_ended, rolls_not_blocked}
use Rattle.replay_laws.proofs.rolling.KeepingBehind.{behind_from_record, behind_standing}
use Rattle.replay_laws.proofs.rolling.FromStart.{behind_from_kept, behind_from_start}
use Rattle.replay_laws.proofs.rolling.Exact.{exact_unended}
use Rattle.replay_laws.proofs.rolling.CaughtUp.{standing_caught_up, caught_up_after, caught_up_from, ends_exactly, silent_here}

-- each entry stands by the rule of the entries that stand, and by that of those that are built so far
pub itself : IsStandingRule Stands
itself system log e stands = stands

pub standing : IsStandingRule MayStand
standing system log e may = may.stands

pub begins_behind : (system : System) (log : List Entry) (p : Pid) (start : ProcState) (kept : BackRec) (small : SmallState) (ram : Memory) → is_system system ≡ true → IsLegalBy Stands system log → IsUnended system log p → start_of system log p ≡ Some start
    → backup_record system log p ≡ Some kept → kept.state ≡ Some small → ram.bytes ≡ start.memory → RollsBehind system log p (started small ram kept.saved kept.next) kept.counts kept.births
begins_behind system log p start kept small ram valid legal unended =
    let l = led_there Stands itself system log p valid legal unended in
    behind_from_record system log p l.now start kept small ram l.led

-- from its start each rolls forward, with the saved letters of its record,
pub standing_from_kept : (system : System) (log : List Entry) (p : Pid) (start : ProcState) (kept : BackRec) → is_system system ≡ true → IsLegalBy Stands system log → IsUnended system log p → start_of system log p ≡ Some start → backup_record system log p ≡ Some kept
    → RollsBehind system log p (with_saved start kept.saved kept.next) kept.counts kept.births
standing_from_kept = behind_from_kept Stands itself

-- and so with its state and the memory of its start
pub standing_from_start : (system : System) (log : List Entry) (p : Pid) (start : ProcState) (kept : BackRec) (ram : Memory) → is_system system ≡ true → IsLegalBy Stands system log → IsUnended system log p → start_of system log p ≡ Some start
    → backup_record system log p ≡ Some kept → ram.bytes ≡ start.memory → RollsBehind system log p (started start.small ram kept.saved kept.next) kept.counts kept.births
standing_from_start = behind_from_start Stands itself

-- ---- entries

pub standing_entry : (system : System) (log : List Entry) (e : Entry) (p : Pid) (s : ProcState) (counts : Counts) (births : List Pid) → is_system system ≡ true → IsLegalBy Stands system (log ++ e ∷ []) → is_cut p (what e) ≡ false → deeds_in p (what e) ≡ []
    → RollsAs system log p s counts births → RollsAs system (log ++ e ∷ []) p (fold delivered s (letter_for p (what e))) counts births
standing_entry system log e p s counts births valid legal no_cut none rolls =
    subst (λ t. RollsAs system (log ++ e ∷ []) p t counts births) (sym (fold_delivered s (letter_for p (what e)))) (rolls_entry_standing system log e p Stands itself s counts births valid legal no_cut none rolls)

pub standing_letter : (system : System) (log : List Entry) (e : Entry) (p : Pid) (s : ProcState) (counts : Counts) (births : List Pid) (letter : Letter) → is_system system ≡ true → IsLegalBy Stands system (log ++ e ∷ []) → is_cut p (what e) ≡ false
    → deeds_in p (what e) ≡ [] → letter_for p (what e) ≡ letter ∷ [] → RollsAs system log p s counts births → RollsAs system (log ++ e ∷ []) p (delivered s letter) counts births
standing_letter system log e p = rolls_letter system log e p Stands itself

pub standing_quiet : (system : System) (log : List Entry) (e : Entry) (p : Pid) (s : ProcState) (counts : Counts) (births : List Pid) → is_system system ≡ true → IsLegalBy Stands system (log ++ e ∷ []) → is_cut p (what e) ≡ false → deeds_in p (what e) ≡ []
    → letter_for p (what e) ≡ [] → RollsAs system log p s counts births → RollsAs system (log ++ e ∷ []) p s counts births
standing_quiet system log e p = rolls_quiet system log e p Stands itself

pub entry_behind : (system : System) (log : List Entry) (e : Entry) (p : Pid) (s : ProcState) (counts : Counts) (births : List Pid) → is_system system ≡ true → IsLegalBy Stands system (log ++ e ∷ []) → IsUnended system log p → is_cut p (what e) ≡ false
    → deeds_in p (what e) ≡ [] → RollsBehind system log p s counts births → RollsBehind system (log ++ e ∷ []) p (fold delivered s (letter_for p (what e))) counts births
entry_behind system log e p s counts births valid legal unended no_cut none rolls =
    subst (λ t. RollsBehind system (log ++ e ∷ []) p t counts births) (sym (fold_delivered s (letter_for p (what e)))) (behind_standing system log e p Stands itself s counts births valid legal unended no_cut none rolls)

-- ---- steps

pub standing_step : (system : System) (log : List Entry) (p : Pid) (s : ProcState) (counts : Counts) (births : List Pid) → is_system system ≡ true → IsLegalBy Stands system log → IsUnended system log p → RollsAs system log p s counts births → nothing_left counts births ≡ false
    → RunsOn s counts (λ t left rest. RollsBehind system log p t left rest) (next_step s) births
standing_step system log p s counts births valid legal unended =
    let l = led_there Stands itself system log p valid legal unended in
    rolls_on system log p l.now l.led s counts births

pub standing_steps : (system : System) (log : List Entry) (p : Pid) (ahead n : ℕ) (g h : Going) → is_system system ≡ true → IsLegalBy Stands system log → IsUnended system log p → RollsAs system log p g.state g.counts g.births
    → RunsOut g.state g.counts g.births ahead → n ≤ ahead → rolled_on n g ≡ Some h → RollsAs system log p h.state h.counts h.births
standing_steps system log p ahead n g h valid legal unended rolls runs within is =
    let l = led_there Stands itself system log p valid legal unended in
    (went_on system log p l.now l.led ahead n g h rolls runs within is).rolls

pub standing_behind : (system : System) (log : List Entry) (p : Pid) (ahead n : ℕ) (g h : Going) → is_system system ≡ true → IsLegalBy Stands system log → IsUnended system log p → RollsBehind system log p g.state g.counts g.births
    → RunsOut g.state g.counts g.births ahead → n ≤ ahead → rolled_on n g ≡ Some h → RollsBehind system log p h.state h.counts h.births
standing_behind system log p ahead n g h valid legal unended =
    let l = led_there Stands itself system log p valid legal unended in
    behind_on system log p l.now l.led ahead n g h

pub standing_advanced : (system : System) (log : List Entry) (p : Pid) (old new : RollingState) (r : Rolled) → is_system system ≡ true → IsLegalBy Stands system log → IsUnended system log p → RollsAs system log p (state_of old.process) old.counts old.births
    → nothing_left old.counts old.births ≡ false → Advances r old new → RollsBehind system log p (state_of new.process) new.counts new.births
standing_advanced system log p old new r valid legal unended =
    let l = led_there Stands itself system log p valid legal unended in
    rolls_advanced system log p l.now l.led old new r

-- ---- what is ahead

pub standing_ahead : (system : System) (log : List Entry) (p : Pid) (s : ProcState) (counts : Counts) (births : List Pid) → is_system system ≡ true → IsLegalBy Stands system log → IsUnended system log p → RollsAs system log p s counts births
    → RunsAhead system log p s counts births
standing_ahead system log p s counts births valid legal unended =
    let l = led_there Stands itself system log p valid legal unended in
    runs_ahead system log p l.now s counts births l.led

pub standing_can : (system : System) (log : List Entry) (p : Pid) (now s : ProcState) (counts : Counts) (births : List Pid) → is_system system ≡ true → IsLegalBy Stands system log → IsUnended system log p → process_after system log p ≡ Some now
    → (now.small).steps < 2 ^ 64 → RollsAs system log p s counts births → CanRoll s counts births
standing_can system log p now s counts births valid legal unended there =
    can_roll system log p now s counts births (led_unended Stands itself system log p now valid legal unended there)

-- no process makes so many steps
pub standing_always : (system : System) (log : List Entry) (p : Pid) (s : ProcState) (counts : Counts) (births : List Pid) → is_system system ≡ true → IsLegalBy Stands system log → IsUnended system log p → RollsAs system log p s counts births → CanRoll s counts births
standing_always system log p s counts births valid legal unended rolls =
    let l = led_there Stands itself system log p valid legal unended in
    let few = few_steps_after system log p l.now valid l.there in
    can_roll system log p l.now s counts births l.led (omega (arith, few)) rolls

pub standing_open : (system : System) (log : List Entry) (p : Pid) (s : ProcState) (counts : Counts) (births : List Pid) → is_system system ≡ true → IsLegalBy Stands system log → IsUnended system log p → RollsAs system log p s counts births
    → has_ended (s.small).status ≡ false
standing_open system log p s counts births valid legal unended =
    let l = led_there Stands itself system log p valid legal unended in
    rolls_not_ended system log p l.now s counts births l.led

pub standing_moves : (system : System) (log : List Entry) (p : Pid) (s : ProcState) (counts : Counts) (births : List Pid) → is_system system ≡ true → IsLegalBy Stands system log → IsUnended system log p → RollsAs system log p s counts births
    → nothing_left counts births ≡ false → is_blocked (next_step s) ≡ false
standing_moves system log p s counts births valid legal unended =
    let l = led_there Stands itself system log p valid legal unended in
    rolls_not_blocked system log p l.now s counts births l.led

-- ---- the end of the way

pub standing_exact : (system : System) (log : List Entry) (p : Pid) (now : ProcState) → is_system system ≡ true → IsLegalBy Stands system log → is_over system log ≡ false → IsUnended system log p → process_after system log p ≡ Some now → EndsExactly system log p now
standing_exact system log p now valid legal goes_on unended there =
    ends_exactly system log p now (unended_open Stands itself system log p valid legal unended now there) (exact_unended Stands itself system log p now valid legal goes_on unended there)

pub standing_there : (system : System) (log : List Entry) (p : Pid) (s : ProcState) (counts : Counts) (births : List Pid) → is_system system ≡ true → IsLegalBy Stands system log → is_over system log ≡ false → IsUnended system log p
    → RollsBehind system log p s counts births → nothing_left counts births ≡ true → process_after system log p ≡ Some s
standing_there = standing_caught_up Stands itself

pub standing_silent : (system : System) (log : List Entry) (p : Pid) (s : ProcState) (counts : Counts) (births : List Pid) → is_system system ≡ true → IsLegalBy Stands system log → is_over system log ≡ false → IsUnended system log p
    → RollsBehind system log p s counts births → nothing_left counts births ≡ true → silent_upto system log p (s.small).steps ≡ Some s
standing_silent system log p s counts births valid legal goes_on unended rolls none = silent_here system log p s (standing_there system log p s counts births valid legal goes_on unended rolls none)

pub standing_after : (system : System) (log : List Entry) (p : Pid) (ahead : ℕ) (g h : Going) → is_system system ≡ true → IsLegalBy Stands system log → is_over system log ≡ false → IsUnended system log p
    → RollsBehind system log p g.state g.counts g.births → RunsOut g.state g.counts g.births ahead → rolled_on ahead g ≡ Some h → process_after system log p ≡ Some h.state
standing_after = caught_up_after Stands itself

pub standing_from : (system : System) (log : List Entry) (p : Pid) (ahead : ℕ) (g h : Going) → is_system system ≡ true → IsLegalBy Stands system log → is_over system log ≡ false → IsUnended system log p
    → RollsAs system log p g.state g.counts g.births → nothing_left g.counts g.births ≡ false → RunsOut g.state g.counts g.births ahead → rolled_on ahead g ≡ Some h → process_after system log p ≡ Some h.state
standing_from = caught_up_from Stands itself

-- in a log of the entries that are built so far
pub stand_caught_up : (system : System) (log : List Entry) (p : Pid) (s : ProcState) (counts : Counts) (births : List Pid) → is_system system ≡ true → IsLegalBy MayStand system log → is_over system log ≡ false → IsUnended system log p
    → RollsBehind system log p s counts births → nothing_left counts births ≡ true → process_after system log p ≡ Some s
stand_caught_up = standing_caught_up MayStand standing

pub stand_silent : (system : System) (log : List Entry) (p : Pid) (s : ProcState) (counts : Counts) (births : List Pid) → is_system system ≡ true → IsLegalBy MayStand system log → is_over system log ≡ false → IsUnended system log p
    → RollsBehind system log p s counts births → nothing_left counts births ≡ true → silent_upto system log p (s.small).steps ≡ Some s
stand_silent system log p s counts births valid legal goes_on unended rolls none = silent_here system log p s (stand_caught_up system log p s counts births valid legal goes_on unended rolls none)
