-- The ends of a process.
use Rattle.std.specs.Prelude.{ℕ, Bool, true, false, List, Option, Some, None, slice_get, slice_set, position, option_and_then, is_some}
use Rattle.std.specs.Option.{option_map_or}
use Rattle.t32_base.specs.declared.process.Pid.{Pid}
use Rattle.t32_base.specs.declared.process.EndState.{EndState}
use Rattle.t32_base.specs.declared.process.EndState.TheVariants.{Never, Tty, Linked, Shut}
use Rattle.t32_base.specs.declared.letter.To.{To}
use Rattle.t32_base.specs.declared.letter.To.TheVariants.{Proc, Tty as ToTty}

abbrev pub is_never : EndState → Bool
is_never Never = true
is_never (Tty t) = false
is_never (Linked peer far finished) = false
is_never Shut = false

abbrev pub is_linked : EndState → Bool
is_linked Never = false
is_linked (Tty t) = false
is_linked (Linked peer far finished) = true
is_linked Shut = false

-- linked, and no end letter was read
abbrev pub is_unfinished : EndState → Bool
is_unfinished Never = false
is_unfinished (Tty t) = false
is_unfinished (Linked peer far true) = false
is_unfinished (Linked peer far false) = true
is_unfinished Shut = false

-- where an end leads: an open one to a terminal or to the peer's end, any other nowhere
abbrev pub leads_to : EndState → Option To
leads_to Never = None
leads_to (Tty t) = Some (ToTty t)
leads_to (Linked peer far finished) = Some (Proc peer far)
leads_to Shut = None

-- where end i leads, if there is such an end and it is open
abbrev pub leads_at : List EndState → ℕ → Option To
leads_at ends i = option_and_then leads_to (slice_get ends i)

-- end i is open
abbrev pub is_open_at : List EndState → ℕ → Bool
is_open_at ends i = is_some (leads_at ends i)

-- end i is linked, and no end letter was read
abbrev pub is_unfinished_at : List EndState → ℕ → Bool
is_unfinished_at ends i = option_map_or is_unfinished (slice_get ends i) false

-- end i is linked
abbrev pub is_linked_at : List EndState → ℕ → Bool
is_linked_at ends i = option_map_or is_linked (slice_get ends i) false

-- the end letter of an end was read
abbrev pub finished_end : EndState → EndState
finished_end Never = Never
finished_end (Tty t) = Tty t
finished_end (Linked peer far finished) = Linked peer far true
finished_end Shut = Shut

-- the end letter of end i was read
abbrev pub finished_at : List EndState → ℕ → List EndState
finished_at ends i = option_map_or (λ end. slice_set ends i (finished_end end)) (slice_get ends i) ends

-- the lowest end that was never linked, if there is one
abbrev pub free_end : List EndState → Option ℕ
free_end ends = position is_never ends

-- that end is linked to an end of a peer, and no end letter was read; where there is none, nothing is linked
abbrev pub ends_linked_to : List EndState → Pid → ℕ → List EndState
ends_linked_to ends peer far = option_map_or (λ end. slice_set ends end (Linked peer far false)) (free_end ends) ends
