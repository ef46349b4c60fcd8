-- A process that rolls forward has not ended, and does not wait while something is left.
use Rattle.std.proofs.Common.{◌≡◌, refl, ◌∙◌, List, false}
use Rattle.t32_base.specs.declared.process.Pid.{Pid}
use Rattle.t32_base.specs.declared.process.Counts.{Counts}
use Rattle.sys_text.specs.declared.system.System.{System}
use Rattle.proc_state.specs.State.{ProcState, has_ended}
use Rattle.sys_calls.specs.Calls.{Next, Silent, Blocked, Forks, Emits, Over}
use Rattle.sys_calls.specs.Next.{next_step, is_blocked}
use Rattle.bus_msg.specs.declared.entry.Entry.{Entry}
use Rattle.roll_forward.specs.Deeds.{Deed}
use Rattle.roll_forward.specs.RunsOut.{RunsOn, nothing_left}
use Rattle.cert_sched.specs.Deeds.{since}
use Rattle.cert_sched.specs.Rolling.{refilled, RollsAs}
use Rattle.cert_sched.proofs.MailLaws.{silently_ends}
use Rattle.cert_sched.proofs.ReplayLaws.{replays_goes_on}
use Rattle.cert_sched.proofs.RunsOutLaws.{replays_no_deed}
use Rattle.replay_laws.specs.rolling.Behind.{RollsBehind}
use Rattle.replay_laws.proofs.rolling.Replaying.{Part, rolling_of}
use Rattle.replay_laws.proofs.rolling.Reaching.{Led, Reach, on_way, beyond, reach, same_part}
use Rattle.replay_laws.proofs.rolling.Stepping.{rolls_on}

pub rolls_not_ended : (system : System) (log : List Entry) (p : Pid) (now s : ProcState) (counts : Counts) (births : List Pid) → Led system log p now → RollsAs system log p s counts births → has_ended (s.small).status ≡ false
rolls_not_ended system log p now s counts births led rolls =
    let r = rolling_of system log p s counts births rolls in
    let part = same_part system log p now s counts births led r in
    by_reach r.rest part (reach (refilled log p led.start) (since log p) s r.rest led.made now part led.replays)
  where
    by_reach : (rest : List Deed) (part : Part (refilled log p led.start) (since log p) s rest) → Reach part.steps led.made s rest now → has_ended (s.small).status ≡ false
    by_reach rest part (on_way m sum on) = replays_goes_on m s now rest on led.open_still
    by_reach rest part (beyond k sum none silent) = silently_ends k now s (replays_no_deed k now s silent) ∙ led.open_still

unblocked : (s : ProcState) (counts : Counts) (After : ProcState → Counts → List Pid → Type 0) (next : Next) (births : List Pid) → RunsOn s counts After next births → is_blocked next ≡ false
unblocked s counts After (Silent t) births h = refl
unblocked s counts After Blocked births h = absurd h
unblocked s counts After Forks births h = refl
unblocked s counts After (Emits e t) births h = refl
unblocked s counts After Over births h = refl

pub rolls_not_blocked : (system : System) (log : List Entry) (p : Pid) (now s : ProcState) (counts : Counts) (births : List Pid) → Led system log p now → RollsAs system log p s counts births → nothing_left counts births ≡ false → is_blocked (next_step s) ≡ false
rolls_not_blocked system log p now s counts births led rolls left =
    unblocked s counts (λ t c b. RollsBehind system log p t c b) (next_step s) births (rolls_on system log p now led s counts births rolls left)
