-- What is counted of a kernel for the line of a workload is what is counted of what its log tells.
use Rattle.std.proofs.Common.{◌≡◌, ℕ, ◌+◌, refl, sym, ◌∙◌, ap, List, [], ◌∷◌, map, Bool, true, not, cond, Option, Some}
use Rattle.std.specs.Prelude.{Result, Ok, Err, IfOk, count_by, length}
use Rattle.std.specs.Option.{option_map_or}
use Rattle.std.proofs.lemmas.List.Sums.{sum_by-cons}
use Rattle.t32_base.specs.declared.process.Pid.{Pid}
use Rattle.t32_base.specs.declared.process.End.{End}
use Rattle.t32_base.specs.declared.streams.NoMemory.{NoMemory}
use Rattle.sys_text.specs.declared.system.System.{System}
use Rattle.sys_text.specs.Valid.{is_system}
use Rattle.proc_state.specs.State.{ProcState}
use Rattle.plain_kernel.specs.Kernel.{Kernel, tty_at}
use Rattle.plain_kernel.specs.Apply.{plain_run}
use Rattle.plain_kernel.specs.declared.item.Item.{Item}
use Rattle.bus_msg.specs.declared.entry.Entry.{Entry}
use Rattle.cert_sched.specs.Schedule.{plain_after, schedule_of}
use Rattle.cert_sched.specs.Legal.{IsLegal, MayFollow}
use Rattle.cert_sched.proofs.Applied.{legal_runs}
use Rattle.cert_sched.proofs.LogLaws.{plain_run-schedule_of}
use Rattle.report_text.specs.Load.{has_exited_0, is_exit_0, load_line, load_report, outcome_load}
use Rattle.report_text.specs.Outcome.{outcome_of}
use Rattle.report_text.proofs.Told.{numbered, told_by}
use Rattle.cert_sched.proofs.MayLaws.{legal_may_stand}
use Rattle.report_text.proofs.Outcomes.{outcome-is}

-- as many processes pass a test of their ends as ends pass it
ends_counted : (test : Option End → Bool) (es : List (Pid × ProcState)) → count_by test (map (λ (e : ℕ × Option End). e.1) (map numbered es)) ≡ count_by (λ (e : Pid × ProcState). test (numbered e).1) es
ends_counted test [] = refl
ends_counted test (e ∷ es) =
    sum_by-cons (λ (end : Option End). cond (test end) 1 0) (numbered e).1 (map (λ (e : ℕ × Option End). e.1) (map numbered es))
    ∙ ap (λ n. cond (test (numbered e).1) 1 0 + n) (ends_counted test es)
    ∙ sym (sum_by-cons (λ (e : Pid × ProcState). cond (test (numbered e).1) 1 0) e es)

counted : (size : ℕ) (k : Kernel) → load_report size k ≡ outcome_load size (told_by k)
counted size k =
    ap (λ n. load_line size tty n (count_by (λ (e : Pid × ProcState). not (has_exited_0 e)) k.processes)) (sym (ends_counted is_exit_0 k.processes))
    ∙ ap (load_line size tty (count_by is_exit_0 (map (λ (e : ℕ × Option End). e.1) (map numbered k.processes)))) (sym (ends_counted (λ end. not (is_exit_0 end)) k.processes))
  where
    tty : ℕ
    tty = option_map_or length (tty_at k 0) 0

-- what the log of a workload's run tells is printed as the kernel after its schedule is
pub finished_load : (system : System) (log : List Entry) (size : ℕ) → is_system system ≡ true → IsLegal system log
    → (kernel : Kernel) × (plain_run system (schedule_of system log) ≡ Some kernel) × (load_report size kernel ≡ outcome_load size (outcome_of system log))
finished_load system log size valid legal =
    let runs = legal_runs system log (legal_may_stand system log legal) in
    let after : plain_after system log ≡ Some runs.0 = sym (plain_run-schedule_of system log) ∙ runs.1 in (
      runs.0,
      runs.1,
      counted size runs.0 ∙ ap (outcome_load size) (outcome-is MayFollow (λ system log e may. may.stands) system log valid legal runs.0 after),
    )

-- so is the line that was made of it
pub load_told : (system : System) (items : List Item) (log : List Entry) (size : ℕ) (made : Result (List ℕ) NoMemory) → is_system system ≡ true → IsLegal system log → items ≡ schedule_of system log
    → IfOk made (λ text. text ≡ outcome_load size (outcome_of system log))
    → IfOk made (λ text. (kernel : Kernel) × (plain_run system items ≡ Some kernel) × (text ≡ load_report size kernel))
load_told system items log size (Ok text) valid legal same is =
    let told = finished_load system log size valid legal in
    (told.0, ap (plain_run system) same ∙ told.1, is ∙ sym told.2)
load_told system items log size (Err e) valid legal same is = tt
