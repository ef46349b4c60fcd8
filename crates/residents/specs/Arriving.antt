-- What arrives at the processes of a cluster: letters, and pages.
use Rattle.std.specs.Prelude.{ℕ, if◌then◌else◌, List, map}
use Rattle.t32_base.specs.declared.process.Pid.{Pid}
use Rattle.t32_base.specs.declared.letter.Letter.{Letter}
use Rattle.bus_msg.specs.Places.{same_pid}
use Rattle.cert_sched.specs.Deeds.{is_end_of}
use Rattle.residents.specs.Held.{Held, arrived_held, page_held}

-- a letter to an end of a process that is here arrives
abbrev pub with_letter : Letter → List (Pid × Held) → List (Pid × Held)
with_letter letter here = map (λ (e : Pid × Held). if is_end_of e.0 letter.to then (e.0, arrived_held e.1 letter) else e) here

-- a page comes to a process that is here
abbrev pub with_page_come : Pid → ℕ → List ℕ → List (Pid × Held) → List (Pid × Held)
with_page_come p i bytes here = map (λ (e : Pid × Held). if same_pid e.0 p then (e.0, page_held i bytes e.1) else e) here
