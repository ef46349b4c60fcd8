-- A process that waits for its pages, as contracts see it.
use Rattle.std.specs.Prelude.{ℕ, nat_lt, Bool, if◌then◌else◌, List, length, slice_set, Option, Some, None, is_some, option_map}
use Rattle.std.specs.List.{list_all}
use Rattle.std.specs.Option.{IsSomeAnd, option_map_or}
use Rattle.t32_base.specs.declared.letter.BackRec.{BackRec}
use Rattle.t32_base.specs.Small.{SmallState}
use Rattle.proc_state.specs.State.{ProcState}
use Rattle.roll_forward.specs.Rolling.{CanRoll, RollingState}
use Rattle.page_waits.specs.Begun.{begun}
use Rattle.page_waits.specs.Pages.{memory_of}

-- its record, with the letters that were saved; how many of its pages were asked for, the lowest first; and each page by its index, where it has come
pub record WaitingState : Type 0 where
  pub kept : BackRec
  pub asked : ℕ
  pub come : List (Option (List ℕ))

-- the pages of the process of a record: none where the record has no state
abbrev pub page_count : BackRec → ℕ
page_count r = option_map_or (λ (small : SmallState). small.pages) r.state 0

-- the lowest page that was not asked for, if there is one
abbrev pub next_page : WaitingState → Option ℕ
next_page w = if nat_lt w.asked (length w.come) then Some w.asked else None

-- a page has come; it takes the place of one that came before
abbrev pub with_page : ℕ → List ℕ → WaitingState → WaitingState
with_page i page w = record w { come = slice_set w.come i (Some page) }

-- every page has come
abbrev pub is_whole : WaitingState → Bool
is_whole w = list_all is_some w.come

-- ---- where it goes on

-- the process: the state of its record, the memory that its pages make, and the saved letters in its mailbox
abbrev pub start_of : WaitingState → SmallState → ProcState
start_of w small = record { small = small; memory = memory_of w.come; mail = (w.kept).saved; next = (w.kept).next }

-- its record has a state, and from there it can do again all that the record counts
abbrev pub CanGoOn : WaitingState → Type 0
CanGoOn w = IsSomeAnd (w.kept).state (λ small. CanRoll (start_of w small) (w.kept).counts (w.kept).births)

-- it rolls forward from there
abbrev pub rolling_of : WaitingState → Option RollingState
rolling_of w = option_map (λ (small : SmallState). begun (start_of w small) w.kept) (w.kept).state
