use Rattle.std.proofs.Common.{◌≡◌, ◌+◌, [], ap, Some, ◌∙◌}
use Rattle.t32_base.specs.declared.letter.BackRec.{BackRec}
use Rattle.t32_base.specs.declared.letter.Letter.{Letter}
use Rattle.proc_state.specs.State.{ProcState, linked_to}
use Rattle.backup_queue.specs.Queue.{saved_with}
use Rattle.roll_forward.specs.Rolling.{started, with_saved}
use Rattle.roll_forward.proofs.Examples.{can_roll_alike, counted, pid, reader_first, reader_saved, reader_start}
use Rattle.cluster_tests.proofs.rolls.rolls.reader_lost.Goals as goal

-- a record with one letter saved more
saved_one : BackRec → Letter → BackRec
saved_one r letter = record r { saved = saved_with r.saved letter r.next; next = r.next + 1 }

pub start-requires-clause-runs_out : goal.start-requires-clause-runs_out
unfolding saved_one
start-requires-clause-runs_out c =
    let reader = c.link.new.self in
    let told : c.save.new.self ≡ record { pid = pid 16; state = Some reader.small; saved = reader_saved; next = 1; counts = counted 1; births = [] } =
    c.in_ok-save.ensures.ok ∙ ap (λ r. saved_one r c.in_ok-came.came) c.in_ok-rec.ensures ∙ ap (λ l. saved_one (record { pid = pid 16; state = Some reader.small; saved = []; next = 0; counts = counted 1; births = [] }) l) c.in_ok-came.ensures in
    let state = c.link.ensures.linked ∙ ap (λ (s : ProcState). linked_to s (pid 17) 1) c.in_ok-reader.ensures.state in
    rw told
    (can_roll_alike (started reader.small reader.ram reader_saved 1) reader_start (counted 1) [] (ap (λ (s : ProcState). with_saved s reader_saved 1) state) reader_first)
