-- A copy of a process, led ahead of it by silent steps.
use Rattle.std.specs.Prelude.{ℕ, ◌≡◌, ◌-◌, Bool, true, false, Option, Some, None, ⊤}
use Rattle.proc_state.specs.State.{ProcState}
use Rattle.sys_calls.specs.Next.{silently}

-- where silent steps up to a step count lead a process
abbrev pub upto : ℕ → ProcState → Option ProcState
upto at s = silently (at - (s.small).steps) s

-- silent steps lead the process to its copy, where there is one
abbrev pub IsAhead : ProcState → Option ProcState → Type 0
IsAhead s None = ⊤
IsAhead s (Some t) = upto (t.small).steps s ≡ Some t

-- they lead it there; or there are no such steps
abbrev pub ComesTo : ℕ → ProcState → Bool → ProcState → Type 0
ComesTo at s true t = upto at s ≡ Some t
ComesTo at s false t = upto at s ≡ None
