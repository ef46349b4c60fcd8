-- What is held of the processes here, where one is another now or one is more.
use Rattle.std.specs.Prelude.{nat_lt, if◌then◌else◌, List, [], ◌∷◌, map}
use Rattle.t32_base.specs.declared.process.Pid.{Pid}
use Rattle.bus_msg.specs.Places.{same_pid}
use Rattle.residents.specs.Held.{Held}

-- one process more, in its place by rising pid
abbrev pub with_more : Pid → Held → List (Pid × Held) → List (Pid × Held)
with_more pid h [] = (pid, h) ∷ []
with_more pid h (e ∷ here) = if nat_lt pid.0 (e.0).0 then (pid, h) ∷ e ∷ here else e ∷ with_more pid h here

-- the process with a pid is another one now
abbrev pub with_changed : Pid → Held → List (Pid × Held) → List (Pid × Held)
with_changed p now here = map (λ (e : Pid × Held). if same_pid e.0 p then (p, now) else e) here
