-- A cluster that has come back.
use Rattle.std.specs.Prelude.{ℕ, false, List, [], None}
use Rattle.t32_base.specs.declared.process.Pid.{Pid}
use Rattle.t32_base.specs.declared.process.ClusterNo.{ClusterNo}
use Rattle.sys_text.specs.declared.system.System.{System}
use Rattle.bus_msg.specs.Places.{Places}
use Rattle.cluster_core.specs.View.{ClusterView}

-- Behind its return in the log it has this placement and these children that never synchronised, and counts its kernel steps on; it has no process, no record, no disk, and nothing to send.
abbrev pub returned : System → ClusterNo → Places → List (Pid × Pid) → (cursor : ℕ) → (steps : ℕ) → ClusterView
returned system k places family cursor steps =
    record { system = system; number = k; cursor = cursor; places = places; here = []; records = []; family = family; owed = []; server = None; queue = []; tried = false; steps = steps; failed = None }
