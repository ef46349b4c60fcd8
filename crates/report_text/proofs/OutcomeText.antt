-- Where nothing can move, what is printed of a kernel is what is printed of what it tells.
use Rattle.std.proofs.Common.{◌≡◌, refl, sym, ◌∙◌, ap, List, [], ◌∷◌, ◌++◌, map, Bool, true, false, not, cond, T, Some, ◌||◌}
use Rattle.std.specs.Prelude.{codes}
use Rattle.std.specs.List.{flat_map, list_any, range_with_len}
use Rattle.std.specs.Fmt.{decimal}
use Rattle.std.specs.Ordering.{is_eq}
use Rattle.std.specs.Cmp.{tied_itself}
use Rattle.std.specs.FinMap.{find, is_sorted}
use Rattle.std.proofs.lemmas.Bool.{or_parts}
use Rattle.t32_base.specs.declared.process.Pid.{Pid}
use Rattle.t32_base.specs.declared.process.Status.{Status}
use Rattle.t32_base.specs.declared.process.Status.TheVariants.{Live, Closing, Ended}
use Rattle.sys_text.specs.declared.system.System.{System}
use Rattle.sys_text.specs.Valid.{is_system}
use Rattle.proc_state.specs.State.{ProcState, can_take}
use Rattle.sys_calls.specs.Next.{next_step, has_step}
use Rattle.plain_kernel.specs.Kernel.{Kernel, pid_cmp, process_at}
use Rattle.plain_kernel.specs.Apply.{plain_run}
use Rattle.plain_kernel.specs.Still.{can_act, is_still}
use Rattle.plain_kernel.proofs.Laws.{pid_cmp_total}
use Rattle.plain_kernel.proofs.Pids.{IsRising, left_true, right_true}
use Rattle.bus_msg.specs.declared.entry.Entry.{Entry}
use Rattle.cert_sched.specs.Schedule.{plain_after, schedule_of}
use Rattle.cert_sched.specs.Scripted.{is_finished}
use Rattle.cert_sched.specs.Legal.{IsLegal, MayFollow}
use Rattle.cert_sched.proofs.Applied.{finished_kernel_still, legal_runs}
use Rattle.cert_sched.proofs.LogLaws.{plain_run-schedule_of}
use Rattle.cert_sched.proofs.StepLaws.{plain_after-rising}
use Rattle.cert_sched.proofs.StillLaws.{found_later}
use Rattle.report_text.specs.Report.{newline, pid_part, pids_report, plain_report, status_text, ttys_report}
use Rattle.report_text.specs.Outcome.{end_of, end_part, outcome_of, outcome_report, standing_text}
use Rattle.report_text.proofs.Told.{numbered, told_by}
use Rattle.cert_sched.proofs.MayLaws.{legal_may_stand}
use Rattle.report_text.proofs.Outcomes.{outcome-is}

-- a process without a step has ended or waits
stands_as : (status : Status) → status_text status false ≡ standing_text (end_of status)
stands_as (Ended end) = refl
stands_as (Closing end) = refl
stands_as Live = refl

-- the lines of processes that a kernel has, in order
lines_are : (k : Kernel) (es : List (Pid × ProcState)) → ((q : Pid) (s : ProcState) → find pid_cmp q es ≡ Some s → process_at k q ≡ Some s) → T (is_sorted pid_cmp es) → list_any can_act es ≡ false
    → pids_report k (map (λ (e : Pid × ProcState). e.0) es) ≡ flat_map end_part (map numbered es)
lines_are k [] there rising none = refl
lines_are k (e ∷ es) there rising none =
    let parts = or_parts (has_step (next_step e.1) || can_take e.1) (list_any can_act es) none in
    let here : process_at k e.0 ≡ Some e.1 = there e.0 e.1 (ap (λ o. cond (is_eq o) (Some e.1) (find pid_cmp e.0 es)) (tied_itself pid_cmp_total e.0)) in
    let line : pid_part e.0 (process_at k e.0) ≡ end_part (numbered e) =
    ap (pid_part e.0) here
    ∙ ap (λ t. codes "pid " ++ decimal (e.0).0 ++ codes " " ++ t ++ newline) (ap (status_text ((e.1).small).status) parts.0 ∙ stands_as ((e.1).small).status) in
    ap (λ x. x ++ pids_report k (map (λ (e : Pid × ProcState). e.0) es)) line
    ∙ ap (λ x. end_part (numbered e) ++ x) (lines_are k es (λ q s found. there q s (found_later e es q s (left_true _ _ rising) found)) (right_true _ _ rising) parts.1)

none_acts : (b : Bool) → not b ≡ true → b ≡ false
none_acts true h = sym h
none_acts false h = refl

pub still_report : (k : Kernel) → IsRising k → is_still k ≡ true → plain_report k ≡ outcome_report (told_by k)
still_report k rising still = ap (λ lines. ttys_report k (range_with_len 0 16) ++ lines) (lines_are k k.processes (λ q s found. found) rising (none_acts (list_any can_act k.processes) still))

-- what a log that came to its end tells is printed as the kernel after its schedule is
pub finished_report : (system : System) (log : List Entry) → is_system system ≡ true → IsLegal system log → is_finished log ≡ true
    → (kernel : Kernel) × (plain_run system (schedule_of system log) ≡ Some kernel) × (plain_report kernel ≡ outcome_report (outcome_of system log))
finished_report system log valid legal finished =
    let runs = legal_runs system log (legal_may_stand system log legal) in
    let after : plain_after system log ≡ Some runs.0 = sym (plain_run-schedule_of system log) ∙ runs.1 in (
      runs.0,
      runs.1,
      still_report runs.0 (plain_after-rising system log runs.0 after) (finished_kernel_still system log runs.0 (legal_may_stand system log legal) finished runs.1)
          ∙ ap outcome_report (outcome-is MayFollow (λ system log e may. may.stands) system log valid legal runs.0 after),
    )
