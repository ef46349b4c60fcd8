-- A process at home in a cluster, as its code keeps it.
use Rattle.std.specs.Prelude.{ℕ, ◌≡◌, ◌≤◌, ◌<◌, true, List, [], length, Option, Some, None, ⊤}
use Rattle.t32_base.specs.declared.letter.BackRec.{BackRec}
use Rattle.write_count.specs.Counting.{no_counts}
use Rattle.proc_state.specs.State.{state_of}
use Rattle.roll_forward.specs.RunsOut.{RunsOut}
use Rattle.residents.specs.declared.resident.Standing.{Standing}
use Rattle.residents.specs.declared.resident.Standing.TheVariants.{Runs as IsRunning, Rolls as IsRolling, Waits as IsWaiting}
use Rattle.page_waits.specs.Waiting.{is_whole, with_page, CanGoOn}
use Rattle.residents.specs.Held.{Held, Runs, Rolls, Waits, going_on}

-- a record of nothing
abbrev pub nothing_kept : BackRec
nothing_kept = record { pid = record { 0 = 0 }; state = None; saved = []; next = 0; counts = no_counts; births = [] }

-- what is held; none stands only while a process that has caught up is taken over
abbrev pub held_standing : Option Standing → Held
held_standing None = Waits (record { kept = nothing_kept; asked = 0; come = [] })
held_standing (Some (IsRunning p)) = Runs p
held_standing (Some (IsRolling r)) = Rolls r.process r.counts r.births
held_standing (Some (IsWaiting w)) = Waits w

-- one that rolls forward has still to withhold something, and runs out
abbrev pub StandsSo : Option Standing → Type 0
StandsSo None = ⊥
StandsSo (Some (IsRunning p)) = ⊤
StandsSo (Some (IsRolling r)) = (1 ≤ r.ahead) × RunsOut (state_of r.process) r.counts r.births r.ahead
StandsSo (Some (IsWaiting w)) = ⊤

-- nothing is left to withhold for one that rolls forward
abbrev pub HasCaughtUp : Option Standing → Type 0
HasCaughtUp None = ⊤
HasCaughtUp (Some (IsRunning p)) = ⊤
HasCaughtUp (Some (IsRolling r)) = r.ahead ≡ 0
HasCaughtUp (Some (IsWaiting w)) = ⊤

-- it runs
abbrev pub running_on : Option Standing → Option Standing
running_on None = None
running_on (Some (IsRunning p)) = Some (IsRunning p)
running_on (Some (IsRolling r)) = Some (IsRunning r.process)
running_on (Some (IsWaiting w)) = Some (IsWaiting w)

-- a page that comes to one that waits is one of its pages, and where it was the last that lacked the process can go on
abbrev pub CanComeTo : ℕ → List ℕ → Held → Type 0
CanComeTo i bytes (Waits waiting) = (i < length waiting.come) × (is_whole (with_page i bytes waiting) ≡ true → CanGoOn (with_page i bytes waiting))
CanComeTo i bytes (Runs p) = ⊤
CanComeTo i bytes (Rolls p counts births) = ⊤

-- all pages have come to one that waits, and it can go on
abbrev pub CanGoOnFrom : Option Standing → Type 0
CanGoOnFrom None = ⊤
CanGoOnFrom (Some (IsRunning p)) = ⊤
CanGoOnFrom (Some (IsRolling r)) = ⊤
CanGoOnFrom (Some (IsWaiting w)) = (is_whole w ≡ true) × CanGoOn w

-- it goes on where it waited and all its pages have come
abbrev pub gone_on : Held → Held
gone_on (Waits waiting) = going_on waiting
gone_on (Runs p) = Runs p
gone_on (Rolls p counts births) = Rolls p counts births
