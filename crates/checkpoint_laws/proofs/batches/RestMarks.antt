-- After the rest of its batch the process has the marks of one that was just synchronised.
use Rattle.std.proofs.Common.{◌≡◌, ℕ, refl, sym, ◌∙◌, ap, subst, List, [], ◌∷◌, ◌++◌, true, false, Option}
use Rattle.std.specs.Prelude.{replicate}
use Rattle.t32_base.specs.declared.process.Pid.{Pid}
use Rattle.t32_base.specs.declared.process.ClusterNo.{ClusterNo}
use Rattle.sys_text.specs.declared.system.System.{System}
use Rattle.sys_text.specs.Valid.{is_system}
use Rattle.proc_state.specs.declared.process.Process.{Process}
use Rattle.proc_state.specs.State.{ProcState, state_of}
use Rattle.bus_msg.specs.declared.entry.Entry.{Entry}
use Rattle.cert_sched.specs.Appended.{entry_of}
use Rattle.cert_sched.specs.Account.{all_pages}
use Rattle.cert_sched.specs.Steps.{silent_upto}
use Rattle.cert_sched.specs.Legal.{IsLegalBy, Stands}
use Rattle.cert_sched.proofs.LogLaws.{IsLegal-snoc}
use Rattle.checkpoint_laws.specs.posts.Batched.{log_with}
use Rattle.checkpoint_laws.specs.posts.Cut.{CutsAt}
use Rattle.checkpoint_laws.specs.posts.Marked.{IsMarked}
use Rattle.checkpoint_laws.proofs.posts.CutMarks.{cut_marks}
use Rattle.checkpoint_laws.proofs.posts.TakeLeaves.{takes_leave}
use Rattle.checkpoint_laws.specs.batches.Underway.{BatchMay, page_left, posts_left, sync_left}
use Rattle.checkpoint_laws.proofs.batches.PageSent.{page_sent}
use Rattle.checkpoint_laws.proofs.batches.WholeAccount.{whole}
use Rattle.checkpoint_laws.proofs.batches.RestStands.{next_stands}

-- the last post cuts the process, which is then as it is after its take
pub last_cuts : (system : System) (log : List Entry) (k : ClusterNo) (p : Pid) (s : ProcState) (read : List ℕ) (took : Option ℕ) → BatchMay system log k p s read took [] → CutsAt system log (entry_of system log (sync_left k p s read took)) p s
last_cuts system log k p s read took b = record {
  read = read;
  took = took;
  before = b.before;
  says = refl;
  reached = ap (silent_upto system log p) (takes_leave took b.before s b.takes).steps ∙ (b.may).reached;
  takes = b.takes;
}

-- a process that is so, without a mark, which has read no letter and counts from where it is, has the marks that the log says
pub rest_marks : (system : System) (log : List Entry) (k : ClusterNo) (p : Pid) (s : ProcState) (read : List ℕ) (took : Option ℕ) (indices : List ℕ) (process : Process) (n : ℕ) → is_system system ≡ true → IsLegalBy Stands system log
    → BatchMay system log k p s read took indices → state_of process ≡ s → process.read ≡ [] → process.since ≡ (process.small).steps → (process.ram).dirty ≡ replicate n false
    → IsMarked system (log_with system log (posts_left k p s read took indices)) p process
rest_marks system log k p s read took [] process n valid legal b is no_read since unmarked =
    cut_marks system log (entry_of system log (sync_left k p s read took)) p process n valid (subst (CutsAt system log (entry_of system log (sync_left k p s read took)) p) (sym is) (last_cuts system log k p s read took b)) no_read since unmarked
    (whole system log k p s read took valid legal b ∙ ap (λ (t : ProcState). all_pages t.memory) (sym is))
rest_marks system log k p s read took (i ∷ js) process n valid legal b is no_read since unmarked =
    let e : Entry = entry_of system log (page_left k p s i) in
    rest_marks system (log ++ e ∷ []) k p s read took js process n valid (IsLegal-snoc Stands system log e legal (next_stands system log k p s read took i js b)) (page_sent system log k p s i read took js b) is no_read since unmarked
