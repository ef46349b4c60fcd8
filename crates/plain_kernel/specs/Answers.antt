-- What the calls of the kernel answer.
use Rattle.std.specs.Prelude.{ℕ, ◌≡◌, ◌<◌, ◌⊎◌, Bool, true, false, List, take, slice_get, Some, None, Result, Ok, Err}
use Rattle.t32_base.specs.declared.process.Pid.{Pid}
use Rattle.t32_base.specs.declared.streams.NoMemory.{NoMemory as RefusedMemory}
use Rattle.sys_text.specs.declared.system.System.{System}
use Rattle.plain_kernel.specs.declared.item.Item.{Item}
use Rattle.plain_kernel.specs.declared.item.Item.TheVariants.{Run, Fork, Take}
use Rattle.plain_kernel.specs.declared.item.NotApplied.{NotApplied}
use Rattle.plain_kernel.specs.declared.item.NotApplied.TheVariants.{Disabled, NoMemory}
use Rattle.plain_kernel.specs.declared.item.RunRefused.{RunRefused}
use Rattle.plain_kernel.specs.declared.item.RunRefused.TheVariants.{BadItem, NoMemory as RunNoMemory}
use Rattle.plain_kernel.specs.Kernel.{Kernel, boot}
use Rattle.plain_kernel.specs.Apply.{one_step, steps, apply, apply_all}

-- the process whose steps an item makes
abbrev pub runs_pid : Item → Pid
runs_pid (Run p n) = p
runs_pid (Fork p c) = p
runs_pid (Take p) = p

-- so many steps are not yet all of an item: a run has more, and a fork and a take have none to count
abbrev pub IsWithin : Item → ℕ → Type 0
IsWithin (Run p n) done = done < n
IsWithin (Fork p c) done = done ≡ 0
IsWithin (Take p) done = done ≡ 0

-- the next step of an item cannot be made: it is a run of more steps, and the process makes none; no other item has steps, nor has a run of none
abbrev pub StopsAt : Item → ℕ → Kernel → Type 0
StopsAt (Run p n) done k = ((n ≡ 0) × (done ≡ 0)) ⊎ ((done < n) × (one_step p k ≡ None))
StopsAt (Fork p c) done k = done ≡ 0
StopsAt (Take p) done k = done ≡ 0

-- An item was applied. Or it cannot be applied after so many of its steps, or memory was refused then, and the kernel stands after those.
abbrev pub Applies : Item → Result (Unit {0}) NotApplied → Kernel → Kernel → Type 0
Applies item (Ok all) old new = apply old item ≡ Some new
Applies item (Err (Disabled done)) old new = (apply old item ≡ None) × (steps done (runs_pid item) old ≡ Some new) × StopsAt item done new
Applies item (Err (NoMemory done)) old new = (steps done (runs_pid item) old ≡ Some new) × IsWithin item done

-- what a fork comes to: the item is applied whole, or memory was refused before it
abbrev pub fork_answer : Result (Unit {0}) RefusedMemory → Result (Unit {0}) NotApplied
fork_answer (Ok all) = Ok all
fork_answer (Err e) = Err (NoMemory 0)

-- what a take comes to: the item is applied whole, or it cannot be, or memory was refused before it
abbrev pub take_answer : Result Bool RefusedMemory → Result (Unit {0}) NotApplied
take_answer (Ok true) = Ok tt
take_answer (Ok false) = Err (Disabled 0)
take_answer (Err e) = Err (NoMemory 0)

-- the items before this one apply, and it does not
pub record BadAt (system : System) (items : List Item) (index : ℕ) : Type 0 where
  pub item : Item
  pub kernel : Kernel
  pub there : slice_get items index ≡ Some item
  pub before : apply_all (take index items) (boot system) ≡ Some kernel
  pub refused : apply kernel item ≡ None

-- The items were applied from the system's start. Or the items before one apply and that one does not.
abbrev pub Runs : System → List Item → Result Kernel RunRefused → Type 0
Runs system items (Ok kernel) = apply_all items (boot system) ≡ Some kernel
Runs system items (Err (BadItem index)) = BadAt system items index
Runs system items (Err RunNoMemory) = Unit {0}
