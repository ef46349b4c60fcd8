-- The processes here that wait for their new backup do nothing before they have it.
use Rattle.std.specs.Prelude.{◌≡◌, Bool, true, nat_lt, List, Some}
use Rattle.t32_base.specs.declared.process.Pid.{Pid}
use Rattle.sys_text.specs.declared.system.System.{System}
use Rattle.bus_msg.specs.declared.entry.Entry.{Entry}
use Rattle.cert_sched.specs.Rules.{has_awaited_backup}
use Rattle.residents.specs.Held.{Held, Runs, Rolls, Waits}
use Rattle.cluster_core.specs.View.{ClusterView, held_at}

-- it runs or rolls forward, or one of its pages was asked for
abbrev pub has_begun : Held → Bool
has_begun (Runs p) = true
has_begun (Rolls p counts births) = true
has_begun (Waits waiting) = nat_lt 0 waiting.asked

-- a process here that has begun does not wait for its new backup
abbrev pub HoldsBackups : System → List Entry → ClusterView → Type 0
HoldsBackups system log c = (p : Pid) (h : Held) → held_at c p ≡ Some h → has_begun h ≡ true → has_awaited_backup system log p ≡ true
