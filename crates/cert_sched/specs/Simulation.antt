-- What makes a loss good: the record of a process leads to where it is, and a loss that is covered moves it to a living home.
use Rattle.std.specs.Prelude.{ℕ, ◌≡◌, ◌-◌, ◌≤◌, Bool, true, ◌&&◌, List, [], ◌∷◌, ◌++◌, Some, None, is_some}
use Rattle.std.specs.List.{list_any}
use Rattle.t32_base.specs.declared.process.Pid.{Pid}
use Rattle.t32_base.specs.declared.process.ClusterNo.{ClusterNo}
use Rattle.t32_base.specs.declared.letter.BackRec.{BackRec}
use Rattle.sys_text.specs.declared.system.System.{System}
use Rattle.proc_state.specs.State.{ProcState}
use Rattle.sys_calls.specs.Next.{silently}
use Rattle.bus_msg.specs.declared.entry.What.TheVariants.{Crash}
use Rattle.bus_msg.specs.declared.entry.Cause.{Cause}
use Rattle.bus_msg.specs.declared.entry.By.TheVariants.{Bus}
use Rattle.bus_msg.specs.declared.entry.Entry.{Entry}
use Rattle.bus_msg.specs.declared.placed.Placed.{Placed}
use Rattle.bus_msg.specs.Places.{same_pid, lives_in, unended_at}
use Rattle.cert_sched.specs.Schedule.{placement}
use Rattle.roll_forward.specs.Deeds.{births_in}
use Rattle.cert_sched.specs.Deeds.{start_of, since}
use Rattle.roll_forward.specs.RunsOut.{RunsOut}
use Rattle.roll_forward.specs.Replay.{replayed}
use Rattle.cert_sched.specs.Rolling.{refilled}
use Rattle.cert_sched.specs.Family.{births_of}
use Rattle.cert_sched.specs.Appended.{entry_of}

-- the placement has the process among those that have not ended
abbrev pub IsUnended : System → List Entry → Pid → Type 0
IsUnended system log p = is_some (unended_at (placement system log) p) ≡ true

-- From the start of the process, with the saved letters of its record and their number, some steps make the counts and births of the record run
-- out. They do what it did since, and silent steps lead from there to where it is; in all it makes the steps that lie between.
pub record RecordLeads (system : System) (log : List Entry) (p : Pid) (kept : BackRec) (now : ProcState) : Type 0 where
  pub start : ProcState
  pub started : start_of system log p ≡ Some start
  pub saved : (refilled log p start).mail ≡ kept.saved
  pub next : (refilled log p start).next ≡ kept.next
  pub ahead : ℕ
  pub within : ahead ≤ (now.small).steps - (start.small).steps
  pub runs_out : RunsOut (refilled log p start) kept.counts kept.births ahead
  pub there : ProcState
  pub made : replayed ahead (refilled log p start) kept.births ≡ Some (there, since log p)
  pub silent : silently ((now.small).steps - (start.small).steps - ahead) there ≡ Some now

-- the entry that tells of the loss of a cluster, next in a log
abbrev pub crash_entry : System → List Entry → ClusterNo → Cause → Entry
crash_entry system log k cause = entry_of system log (record { by = Bus; what = Crash k cause })

-- A process at home in the lost cluster has a new home, which was its backup and lives after the loss; it has no backup then, and has lost the cluster.
pub record MovedHome (system : System) (log : List Entry) (k : ClusterNo) (cause : Cause) (p : Pid) (q : Placed) : Type 0 where
  pub to : ClusterNo
  pub was_backup : q.backup ≡ Some to
  pub now : unended_at (placement system (log ++ crash_entry system log k cause ∷ [])) p ≡ Some (record q { home = to; backup = None; lost = Some k })
  pub lives : lives_in (placement system (log ++ crash_entry system log k cause ∷ [])) to ≡ true

-- A child that never synchronised is placed with its parent, which has not ended: they have one home and one backup, and the child is a birth in
-- the record of the parent.
pub record IsWithParent (system : System) (log : List Entry) (parent child : Pid) : Type 0 where
  pub at_parent : Placed
  pub at_child : Placed
  pub parent_at : unended_at (placement system log) parent ≡ Some at_parent
  pub child_at : unended_at (placement system log) child ≡ Some at_child
  pub home : at_parent.home ≡ at_child.home
  pub backup : at_parent.backup ≡ at_child.backup
  pub recorded : list_any (same_pid child) (births_in (since log parent)) ≡ true

-- a log tells of this birth
abbrev pub bears : List Entry → Pid → Pid → Bool
bears log parent child = list_any (λ (b : Pid × Pid). same_pid b.0 parent && same_pid b.1 child) (births_of log)
