-- The processes of a cluster in their slots: a slab has the processes, and a map has the key of each by its pid.
use Rattle.std.specs.Prelude.{ℕ, ◌≡◌, true, List, [], ◌∷◌, map, Option, Some, None, IsSome, is_some}
use Rattle.std.specs.List.{list_any, AllByRecursion}
use Rattle.std.specs.List.Sorted.{IsStrictlySortedBy}
use Rattle.std.specs.Ordering.{nat_cmp}
use Rattle.slab.specs.Slab.{Slab, get}
use Rattle.t32_base.specs.declared.process.Pid.{Pid}
use Rattle.plain_kernel.specs.Maps.{at_key, pid_of}
use Rattle.cert_sched.proofs.RisingLaws.{NoTwo}
use Rattle.residents.specs.Duty.{DutyView, is_able}
use Rattle.residents.specs.Held.{Held, page_lacked}

-- a process that is in its slot, before others
abbrev pub in_slot : Pid → Option Held → List (Pid × Held) → List (Pid × Held)
in_slot pid None rest = rest
in_slot pid (Some h) rest = (pid, h) ∷ rest

-- the processes by pid, each from its slot
abbrev pub stands_in : Slab Held → List (ℕ × ℕ) → List (Pid × Held)
stands_in slots [] = []
stands_in slots (e ∷ es) = in_slot (pid_of e.0) (get slots e.1) (stands_in slots es)

-- the key of a pid has a process; one that can have a turn is among those that are ready, and one with a page to ask for among those that ask
pub record IsSlot (duty : DutyView) (slots : Slab Held) (ready asking : List ℕ) (e : ℕ × ℕ) : Type 0 where
  pub filled : IsSome (get slots e.1)
  pub able : (h : Held) → get slots e.1 ≡ Some h → is_able duty (pid_of e.0, h) ≡ true → list_any (at_key e.0) ready ≡ true
  pub lacks : (h : Held) → get slots e.1 ≡ Some h → is_some (page_lacked h) ≡ true → list_any (at_key e.0) asking ≡ true

-- The pids rise, and no two of them have one key. A pid that is ready or asks need not be there: where a process was refused, its pid may stay, and goes once it is asked.
pub record IsKept (duty : DutyView) (slots : Slab Held) (keys : List (ℕ × ℕ)) (ready asking : List ℕ) : Type 0 where
  pub ordered : IsStrictlySortedBy nat_cmp (map (λ (e : ℕ × ℕ). e.0) keys)
  pub apart : NoTwo (map (λ (e : ℕ × ℕ). e.1) keys)
  pub each : AllByRecursion (IsSlot duty slots ready asking) keys
