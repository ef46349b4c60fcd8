-- The posts of a batch leave the marks of every other process.
use Rattle.std.proofs.Common.{◌≡◌, ℕ, refl, List, false, Option}
use Rattle.t32_base.specs.declared.process.Pid.{Pid}
use Rattle.t32_base.specs.declared.process.ClusterNo.{ClusterNo}
use Rattle.sys_text.specs.declared.system.System.{System}
use Rattle.proc_state.specs.State.{ProcState}
use Rattle.bus_msg.specs.declared.entry.Entry.{Entry}
use Rattle.bus_msg.specs.Places.{same_pid}
use Rattle.cert_sched.specs.Appended.{entry_of}
use Rattle.log_laws.proofs.pages.OneEntry.{moves_none}
use Rattle.checkpoint_laws.specs.marks.Beside.{LeavesMarks}
use Rattle.checkpoint_laws.specs.batches.Underway.{page_left, sync_left}

module _ (system : System) (log : List Entry) (k : ClusterNo) (p q : Pid) (s : ProcState) where
  pub page_beside : (i : ℕ) → same_pid p q ≡ false → LeavesMarks system log (entry_of system log (page_left k p s i)) q
  page_beside i apart = record { no_cut = refl; no_birth = refl; no_exit = refl; no_page = apart; stays = moves_none system log (entry_of system log (page_left k p s i)) refl q }

  pub sync_beside : (read : List ℕ) (took : Option ℕ) → same_pid p q ≡ false → LeavesMarks system log (entry_of system log (sync_left k p s read took)) q
  sync_beside read took apart = record { no_cut = apart; no_birth = refl; no_exit = refl; no_page = refl; stays = moves_none system log (entry_of system log (sync_left k p s read took)) refl q }
