use Rattle.std.proofs.Common.{◌≡◌, [], None, Some, replicate, set, sym, ap, ◌∙◌, subst}
use Rattle.t32_base.specs.declared.letter.BackRec.{BackRec}
use Rattle.rv_mem.specs.Memory.{page_at}
use Rattle.proc_state.specs.State.{ProcState}
use Rattle.roll_forward.proofs.Examples.{can_roll_alike, counted, pid, two_first, two_start}
use Rattle.page_waits.specs.Pages.{memory_of}
use Rattle.page_waits.specs.Waiting.{WaitingState, CanGoOn, page_count, start_of, with_page}
use Rattle.checkpoint_tests.proofs.waits.waits.two_moved.Goals as goal

-- a process that waits for its first page alone
waits_for_one : BackRec → WaitingState
waits_for_one r = record { kept = r; asked = 0; come = replicate (page_count r) None }

-- one whose memory is its first page
of_one_page : ProcState → ProcState
of_one_page s = record { small = s.small; memory = memory_of (set (replicate (s.small).pages None) 0 (Some (page_at s.memory 0))); mail = []; next = 0 }

pub into_rolling-requires-clause-rolls : goal.into_rolling-requires-clause-rolls
unfolding waits_for_one of_one_page
into_rolling-requires-clause-rolls c =
    let two = c.in_ok-two.two in
    let kept : BackRec = record { pid = pid 16; state = Some two.small; saved = []; next = 0; counts = counted 1; births = [] } in
    let page = page_at two.ram.bytes 0 in
    let told : c.come.new.self ≡ with_page 0 page (waits_for_one kept) =
    c.come.ensures
    ∙ ap (λ (w : WaitingState). with_page 0 c.page.result w) (c.in_ok-waiting.ensures ∙ ap waits_for_one c.in_ok-line_recorded.ensures)
    ∙ ap (λ page. with_page 0 page (waits_for_one kept)) c.page.ensures in
    subst (λ w. CanGoOn w) (sym told)
    (can_roll_alike (start_of (with_page 0 page (waits_for_one kept)) two.small) two_start (counted 1) [] (ap of_one_page c.in_ok-two.ensures.state) two_first)
