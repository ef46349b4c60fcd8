-- A process whose pages are those of the memory in which it started goes on from that start.
use Rattle.std.proofs.Common.{◌≡◌, ℕ, List, sym, ap, ◌∙◌, subst, Some}
use Rattle.std.specs.Prelude.{option_map}
use Rattle.std.specs.Option.{IsSomeAnd}
use Rattle.t32_base.specs.Small.{SmallState}
use Rattle.proc_state.specs.State.{ProcState}
use Rattle.roll_forward.specs.Rolling.{CanRoll}
use Rattle.page_waits.specs.Begun.{begun, BeginsFrom}
use Rattle.page_waits.specs.Pages.{AreAllPages}
use Rattle.page_waits.specs.Waiting.{WaitingState, CanGoOn, rolling_of, start_of}
use Rattle.page_waits.proofs.AllPages.{all_memory}

-- the process with other bytes in its memory
abbrev with_memory : WaitingState → SmallState → List ℕ → ProcState
with_memory w small bytes = record { small = small; memory = bytes; mail = (w.kept).saved; next = (w.kept).next }

pub can_from : (w : WaitingState) (start : ProcState) → AreAllPages start.memory w.come → BeginsFrom start w.kept → CanGoOn w
can_from w start all begins =
    subst (λ o. IsSomeAnd o (λ small. CanRoll (start_of w small) (w.kept).counts (w.kept).births)) (sym begins.state)
    (subst (λ (bytes : List ℕ). CanRoll (with_memory w start.small bytes) (w.kept).counts (w.kept).births) (sym (all_memory start.memory w.come all)) begins.rolls)

pub rolls_from : (w : WaitingState) (start : ProcState) → AreAllPages start.memory w.come → BeginsFrom start w.kept → rolling_of w ≡ Some (begun start w.kept)
rolls_from w start all begins =
    ap (option_map (λ (small : SmallState). begun (start_of w small) w.kept)) begins.state
    ∙ ap (λ (bytes : List ℕ). Some (begun (with_memory w start.small bytes) w.kept)) (all_memory start.memory w.come all)
