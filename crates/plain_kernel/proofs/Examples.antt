-- Answers of calls of the kernel, and some that none may give.
use Rattle.std.proofs.Common.{◌≡◌, ℕ, List, [], ◌∷◌, unwrap_or, refl, arith, lit<, Some, Ok, Err, inl, inr}
use Rattle.t32_base.specs.declared.process.Pid.{Pid}
use Rattle.t32_base.specs.declared.process.End.TheVariants.{Killed}
use Rattle.t32_base.specs.declared.process.Status.TheVariants.{Closing}
use Rattle.t32_base.specs.declared.letter.Arrived.{Arrived}
use Rattle.t32_base.specs.declared.letter.Body.TheVariants.{Signal}
use Rattle.t32_base.specs.declared.letter.To.TheVariants.{Proc}
use Rattle.proc_state.specs.State.{ProcState, linked_to, root_state}
use Rattle.sys_calls.specs.Small.{with_frame, with_status}
use Rattle.plain_kernel.specs.declared.item.Item.TheVariants.{Run, Fork, Take}
use Rattle.plain_kernel.specs.declared.item.NotApplied.TheVariants.{Disabled, NoMemory}
use Rattle.plain_kernel.specs.Kernel.{Kernel}
use Rattle.plain_kernel.specs.Apply.{one_step, steps, take_step}
use Rattle.plain_kernel.specs.Answers.{Applies}
use Rattle.plain_kernel.specs.Still.{default_item}

-- ---- a process reads where nothing was sent: of nine steps it makes the five before

abbrev reader_image : List ℕ
reader_image = 147 ∷ 8 ∷ 48 ∷ 0 ∷ 19 ∷ 5 ∷ 16 ∷ 0 ∷ 183 ∷ 5 ∷ 1 ∷ 0 ∷ 147 ∷ 133 ∷ 69 ∷ 3 ∷ 19 ∷ 6 ∷ 32 ∷ 0 ∷ 115 ∷ 0 ∷ 0 ∷ 0 ∷ []

abbrev reader : Kernel
reader = record { processes = (record { 0 = 16 }, linked_to (root_state (record { 0 = 16 }) 65536 1 reader_image 1000 0 0) (record { 0 = 17 }) 1) ∷ []; ttys = [] }

stops_at_its_read : Applies (Run (record { 0 = 16 }) 9) (Err (Disabled 5)) reader (unwrap_or (steps 5 (record { 0 = 16 }) reader) reader)
unfolding one_step steps
stops_at_its_read = (refl, refl, inr (lit< tt, refl))

-- ---- a signal waits: it is taken before the process makes a step, and closes one that does not handle it

abbrev signal_9 : Arrived
signal_9 = record { number = 0; letter = record { from = record { 0 = 17 }; out = 0; to = Proc (record { 0 = 16 }) 0; body = Signal 9 } }

abbrev waited_for : ProcState
waited_for = record (root_state (record { 0 = 16 }) 65536 1 reader_image 1000 0 0) { mail = signal_9 ∷ []; next = 1 }

abbrev one_process : ProcState → Kernel
one_process s = record { processes = (record { 0 = 16 }, s) ∷ []; ttys = [] }

takes_first : default_item (one_process waited_for) ≡ Some (Take (record { 0 = 16 }))
unfolding default_item
takes_first = refl

closes_it : Applies (Take (record { 0 = 16 })) (Ok tt) (one_process waited_for) (one_process (record waited_for { small = with_status waited_for.small (Closing (Killed 9)); mail = [] }))
unfolding take_step
closes_it = refl

-- while a handler runs it waits, since the registers from before are kept
abbrev handles : ProcState
handles = record waited_for { small = with_frame waited_for.small (Some (waited_for.small).regs) }

waits_for_its_handler : Applies (Take (record { 0 = 16 })) (Err (Disabled 0)) (one_process handles) (one_process handles)
unfolding take_step steps
waits_for_its_handler = (refl, refl, refl)

makes_a_step : default_item (one_process handles) ≡ Some (Run (record { 0 = 16 }) 1)
unfolding default_item
makes_a_step = refl

-- ---- a run of no steps is no item: it cannot be applied, after none, and the kernel stands as before

run_of_none : Applies (Run (record { 0 = 16 }) 0) (Err (Disabled 0)) reader reader
unfolding steps
run_of_none = (refl, refl, inl (refl, refl))

-- ---- no call may answer so

-- a run of no steps made one
step_of_none : (p : Pid) (old new : Kernel) → Applies (Run p 0) (Err (Disabled 1)) old new → ⊥
step_of_none p old new a = elim a.2 [ inl none ↦ omega (arith, none.1) | inr more ↦ omega (arith, more.0) ]

-- memory was refused after all steps of a run, or after a step of a fork
refused_after_all : (p : Pid) (old new : Kernel) → Applies (Run p 3) (Err (NoMemory 3)) old new → ⊥
refused_after_all p old new a = omega (arith, a.1)

refused_after_a_step : (p c : Pid) (old new : Kernel) → Applies (Fork p c) (Err (NoMemory 1)) old new → ⊥
refused_after_a_step p c old new a = omega (arith, a.1)

-- or after a step of a take, which has none
take_refused_after_a_step : (p : Pid) (old new : Kernel) → Applies (Take p) (Err (NoMemory 1)) old new → ⊥
take_refused_after_a_step p old new a = omega (arith, a.1)
