use Rattle.std.proofs.Common.{◌≡◌, ◌∙◌, [], None, ap, refl, subst, sym}
use Rattle.t32_base.specs.declared.letter.BackRec.{BackRec}
use Rattle.proc_state.specs.State.{ProcState, state_of}
use Rattle.roll_forward.specs.Rolling.{with_saved}
use Rattle.roll_forward.proofs.Examples.{can_roll_alike, counted, pid, two_first, two_start}
use Rattle.residents.specs.ForkingAgain.{CanBeginWith}
use Rattle.residents.specs.Held.{Waits}
use Rattle.cluster_tests.proofs.rolls.at_home.begin.Goals as goal

pub begin_again-requires : goal.begin_again-requires
begin_again-requires c =
    let kept : BackRec = record { pid = pid 16; state = None; saved = []; next = 0; counts = counted 1; births = [] } in
    let at : c.waiting-resident.result ≡ Waits (record { kept = kept; asked = 0; come = [] }) = c.waiting-resident.ensures ∙ ap Waits c.for_fork.ensures ∙ ap (λ (r : BackRec). Waits (record { kept = r; asked = 0; come = [] })) c.in_ok-child_record.ensures in
    let fresh = c.in_ok-born.ensures.fresh in
    let same = ap (λ (s : ProcState). with_saved s [] 0) c.in_ok-born.ensures.state in
    subst (CanBeginWith c.in_ok-born.born) (sym at)
    (refl, fresh.letters, fresh.unread, fresh.synced ∙ sym fresh.steps, can_roll_alike (with_saved (state_of c.in_ok-born.born) [] 0) two_start (counted 1) [] same two_first)
