-- The pages that the processes of a cluster lack, and ask for.
use Rattle.std.specs.Prelude.{ℕ, ◌≡◌, Bool, true, not, ◌||◌, nat_lt, List, Some, is_some, is_none}
use Rattle.std.specs.List.{list_any, list_all}
use Rattle.t32_base.specs.declared.process.Pid.{Pid}
use Rattle.residents.specs.Changed.{with_changed}
use Rattle.residents.specs.Held.{Held, asked_held, held_of, is_waiting, page_lacked}

-- ---- the pages that a process lacks

-- a process here lacks a page that was not asked for
abbrev pub any_lacks : List (Pid × Held) → Bool
any_lacks here = list_any (λ (e : Pid × Held). is_some (page_lacked e.1)) here

-- no process below the pid does
abbrev pub is_lowest_lacking : Pid → List (Pid × Held) → Bool
is_lowest_lacking p here = list_all (λ (e : Pid × Held). not (nat_lt (e.0).0 p.0) || is_none (page_lacked e.1)) here

-- the lowest page of the lowest process is asked for
pub record AsksNext (old new : List (Pid × Held)) (pid : Pid) (index : ℕ) : Type 0 where
  pub was : Held
  pub there : held_of old pid ≡ Some was
  pub lacks : page_lacked was ≡ Some index
  pub lowest : is_lowest_lacking pid old ≡ true
  pub new_is : new ≡ with_changed pid (asked_held was) old

-- ---- who waits

-- a process here waits for its pages
abbrev pub any_waits : List (Pid × Held) → Bool
any_waits here = list_any (λ (e : Pid × Held). is_waiting e.1) here
