-- What is printed of a run and its log is of the form, and its log says what the entries say.
use Rattle.std.proofs.Common.{◌≡◌, ℕ, List, [], ◌++◌, length, map, codes, count_by, Option, Some, None, refl, ap, ◌∙◌, arith, append_assoc}
use Rattle.std.specs.List.{range_with_len}
use Rattle.std.specs.Option.{option_map, option_and_then}
use Rattle.std.proofs.lemmas.List.Sums.{count_by-le-length}
use Rattle.t32_base.specs.declared.process.Pid.{Pid}
use Rattle.proc_state.specs.State.{ProcState}
use Rattle.plain_kernel.specs.Kernel.{Kernel}
use Rattle.bus_msg.specs.declared.entry.Entry.{Entry}
use Rattle.bus_msg.specs.PlacedAfter.{what}
use Rattle.cert_sched.specs.Printing.{items_text_of}
use Rattle.entry_lines.specs.Told.{IsSmall, told_of}
use Rattle.report_text.specs.declared.run.Run.{Run}
use Rattle.report_text.specs.declared.run.Ended.{Ended}
use Rattle.report_text.specs.declared.run.Ended.TheVariants.{Finished, Lost}
use Rattle.report_text.specs.Report.{pids_report, ttys_report}
use Rattle.report_text.specs.RunReport.{is_sync, losses_part, lost_part, bus_part, report_of, run_part, log_lines, log_text_of}
use Rattle.log_section.specs.Lines.{Left, behind_line, behind_one}
use Rattle.log_section.specs.Form.{log_shape, loss_shapes, behind_ttys, behind_processes, behind_losses, behind_lost, behind_bus, behind_items, log_part, told_lines, IsForm}
use Rattle.log_section.specs.Printed.{KernelFits, RunFits}
use Rattle.log_section.proofs.Passing.{number_past}
use Rattle.log_section.proofs.ReportForm.{ttys_passed, processes_passed, no_tty, small_range}
use Rattle.log_section.proofs.RunForm.{losses_passed, losses_other, lost_passed, bus_passed, items_passed}
use Rattle.log_section.proofs.LogForm.{log_read}

-- ---- what stands behind each part

abbrev from_items : Run → List ℕ
from_items r = items_text_of r.items ++ log_text_of r.log

abbrev bus_of : Run → List ℕ
bus_of r = bus_part (length r.log) (count_by (λ (e : Entry). is_sync (what e)) r.log) r.withheld

abbrev from_bus : Run → List ℕ
from_bus r = bus_of r ++ from_items r

abbrev from_lost : Run → List ℕ
from_lost r = lost_part r.ended ++ from_bus r

abbrev from_losses : Run → List ℕ
from_losses r = losses_part r.log ++ from_lost r

abbrev pids_of : Kernel → List Pid
pids_of k = map (λ (e : Pid × ProcState). e.0) k.processes

abbrev from_pids : Kernel → Run → List ℕ
from_pids k r = pids_report k (pids_of k) ++ from_losses r

parts_are : (k : Kernel) (r : Run) → report_of k r ++ log_text_of r.log ≡ ttys_report k (range_with_len 0 16) ++ from_pids k r
parts_are k r =
    let ttys = ttys_report k (range_with_len 0 16) in
    let pids = pids_report k (pids_of k) in
    let losses = losses_part r.log in
    let lost = lost_part r.ended in
    let items = items_text_of r.items in
    let log = log_text_of r.log in
    let run : run_part r ++ log ≡ from_losses r =
    append_assoc ((losses ++ lost) ++ bus_of r) items log
    ∙ append_assoc (losses ++ lost) (bus_of r) (items ++ log)
    ∙ append_assoc losses lost (bus_of r ++ (items ++ log)) in
    append_assoc (ttys ++ pids) (run_part r) log
    ∙ append_assoc ttys pids (run_part r ++ log)
    ∙ ap (λ (text : List ℕ). ttys ++ (pids ++ text)) run

-- ---- the whole

log_headed : (log : List Entry) → IsSmall (length log) → behind_line log_shape (log_text_of log) ≡ Some (length log, log_lines log)
log_headed log small = number_past (codes "\n") 0 (length log) 10 [] (log_lines log) small refl

-- behind the terminals and the processes
report_passed : (k : Kernel) (r : Run) → KernelFits k → RunFits r → behind_processes (behind_ttys (report_of k r ++ log_text_of r.log)) ≡ from_losses r
report_passed k r fits run_fits =
    let text = ttys_report k (range_with_len 0 16) ++ from_pids k r in
    let other = losses_other r.log (from_lost r) run_fits.log in
    let ttys : behind_ttys text ≡ from_pids k r =
    ttys_passed k (range_with_len 0 16) (from_pids k r) fits (small_range 0 16 (omega arith)) (no_tty k (pids_of k) (from_losses r) other.1) (length text) (omega arith) in
    let pids : behind_processes (from_pids k r) ≡ from_losses r = processes_passed k (pids_of k) (from_losses r) fits other.0 (length (from_pids k r)) (omega arith) in
    ap (λ (t : List ℕ). behind_processes (behind_ttys t)) (parts_are k r) ∙ ap behind_processes ttys ∙ pids

-- behind the losses, what stands next is none of them
no_loss : (r : Run) → behind_one loss_shapes (from_lost r) ≡ None
no_loss r = by_end r.ended
  where
    by_end : (e : Ended) → behind_one loss_shapes (lost_part e ++ from_bus r) ≡ None
    by_end Finished = refl
    by_end (Lost k at) = refl

part_read : (k : Kernel) (r : Run) → KernelFits k → RunFits r → log_part (report_of k r ++ log_text_of r.log) ≡ Some (length r.log, log_lines r.log)
part_read k r fits run_fits =
    let syncs : IsSmall (count_by (λ (e : Entry). is_sync (what e)) r.log) = omega (arith, count_by-le-length (λ (e : Entry). is_sync (what e)) r.log, run_fits.entries) in
    let lost : behind_lost (from_lost r) ≡ from_bus r = lost_passed r.ended _ run_fits.ended in
    ap (λ (t : List ℕ). option_and_then (behind_line log_shape) (option_and_then behind_items (option_and_then behind_bus (option_map behind_lost (behind_losses t)))))
    (report_passed k r fits run_fits)
    ∙ ap (λ (o : Option (List ℕ)). option_and_then (behind_line log_shape) (option_and_then behind_items (option_and_then behind_bus (option_map behind_lost o))))
    (losses_passed r.log (from_lost r) run_fits.log (no_loss r))
    ∙ ap (λ (t : List ℕ). option_and_then (behind_line log_shape) (option_and_then behind_items (behind_bus t))) lost
    ∙ ap (λ (o : Option (List ℕ)). option_and_then (behind_line log_shape) (option_and_then behind_items o))
    (bus_passed (length r.log) _ r.withheld (from_items r) run_fits.entries syncs run_fits.withheld)
    ∙ ap (option_and_then (behind_line log_shape)) (items_passed r.items (log_text_of r.log) run_fits.items run_fits.count)
    ∙ log_headed r.log run_fits.entries

pub printed_form : (k : Kernel) (r : Run) → KernelFits k → RunFits r → IsForm (report_of k r ++ log_text_of r.log) (map told_of r.log)
printed_form k r fits run_fits =
    ap (option_and_then (λ (left : Left). told_lines left.0 left.1)) (part_read k r fits run_fits) ∙ log_read r.log run_fits.log
