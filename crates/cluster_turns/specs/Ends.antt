-- How a log ends, and how far a cluster follows it.
use Rattle.std.specs.Prelude.{ℕ, ◌-◌, Bool, not, ◌&&◌, ◌||◌, if◌then◌else◌, List, length, drop}
use Rattle.t32_base.specs.declared.process.ClusterNo.{ClusterNo}
use Rattle.sys_text.specs.declared.system.System.{System}
use Rattle.bus_msg.specs.declared.entry.Entry.{Entry}
use Rattle.cert_sched.specs.Losses.{was_lost_in}
use Rattle.cert_sched.specs.Rules.{is_over}
use Rattle.cert_sched.specs.Scripted.{is_closed, is_finished}

-- how many entries of a log a cluster that lives follows: all, but the last where the log is over
abbrev pub followed_length : System → List Entry → ℕ
followed_length system log = length log - (if is_over system log then 1 else 0)

-- a loss that is not covered stands last: the run has ended by it
abbrev pub ends_lost : System → List Entry → Bool
ends_lost system log = is_over system log && not (is_closed log)

-- the end stands last, or such a loss: the run did not stop for want of memory
abbrev pub has_run_out : System → List Entry → Bool
has_run_out system log = is_finished log || ends_lost system log

-- what a cluster did that has come up to a place was cut off: it was lost from there on, or the run has ended by a loss that is not covered
abbrev pub is_cut_off : ClusterNo → System → List Entry → (cursor : ℕ) → Bool
is_cut_off k system log cursor = was_lost_in (drop cursor log) k || ends_lost system log
