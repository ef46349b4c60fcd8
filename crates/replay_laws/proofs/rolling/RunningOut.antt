-- A process that rolls forward runs out, within the steps that the process in the kernel has more.
use Rattle.std.proofs.Common.{◌^◌, ◌<◌, sym, ap, subst, arith, List}
use Rattle.t32_base.specs.declared.process.Pid.{Pid}
use Rattle.t32_base.specs.declared.process.Counts.{Counts}
use Rattle.sys_text.specs.declared.system.System.{System}
use Rattle.proc_state.specs.State.{ProcState}
use Rattle.write_count.specs.Counting.{counts_of}
use Rattle.bus_msg.specs.declared.entry.Entry.{Entry}
use Rattle.roll_forward.specs.Deeds.{Deed, letters_in, births_in}
use Rattle.roll_forward.specs.RunsOut.{nothing_left}
use Rattle.roll_forward.specs.Rolling.{CanRoll}
use Rattle.cert_sched.specs.Deeds.{since}
use Rattle.cert_sched.specs.Rolling.{refilled, RollsAs}
use Rattle.cert_sched.proofs.ReplayLaws.{replays_counts}
use Rattle.cert_sched.proofs.RunsOutLaws.{replays_run_out}
use Rattle.replay_laws.specs.rolling.Behind.{RunsAhead}
use Rattle.replay_laws.proofs.rolling.Replaying.{Part, rolling_of}
use Rattle.replay_laws.proofs.rolling.Reaching.{Led, Reach, on_way, beyond, reach, fine_left, same_part}

pub runs_ahead : (system : System) (log : List Entry) (p : Pid) (now s : ProcState) (counts : Counts) (births : List Pid) → Led system log p now → RollsAs system log p s counts births → RunsAhead system log p s counts births
runs_ahead system log p now s counts births led rolls =
    let r = rolling_of system log p s counts births rolls in
    let part = same_part system log p now s counts births led r in
    let runs = by_reach r.rest part (reach (refilled log p led.start) (since log p) s r.rest led.made now part led.replays) in
    subst (λ c. RunsAhead system log p s c births) (sym r.counts_left) (subst (λ b. RunsAhead system log p s (counts_of (letters_in r.rest)) b) (sym r.births_left) runs)
  where
    by_reach : (rest : List Deed) (part : Part (refilled log p led.start) (since log p) s rest) → Reach part.steps led.made s rest now → RunsAhead system log p s (counts_of (letters_in rest)) (births_in rest)
    by_reach rest part (on_way m sum on) =
        let out = replays_run_out m s now rest (fine_left (refilled log p led.start) (since log p) s rest part led.fine) on in
        let steps = (replays_counts m s now rest on).steps in
        let count = out.count in
        let done = led.count in
        record { ahead = out.ahead; runs_out = out.runs_out; within = omega (arith, steps, count, done) }
    by_reach rest part (beyond k sum none silent) =
        record { ahead = 0; runs_out = ap (λ ds. nothing_left (counts_of (letters_in ds)) (births_in ds)) none; within = omega arith }

-- so it can roll, where the steps of the process in the kernel are fewer than 2 ^ 64
pub can_roll : (system : System) (log : List Entry) (p : Pid) (now s : ProcState) (counts : Counts) (births : List Pid) → Led system log p now → (now.small).steps < 2 ^ 64 → RollsAs system log p s counts births → CanRoll s counts births
can_roll system log p now s counts births led fits rolls =
    let r = runs_ahead system log p now s counts births led rolls in
    let within = r.within in
    let done = led.count in
    record { ahead = r.ahead; fits = omega (arith, within, fits, done); runs_out = r.runs_out }
