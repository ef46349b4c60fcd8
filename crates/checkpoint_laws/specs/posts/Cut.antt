-- A synchronisation in the log, and the process that it tells of.
use Rattle.std.specs.Prelude.{ℕ, ◌≡◌, true, List, [], Option, Some}
use Rattle.t32_base.specs.declared.process.Pid.{Pid}
use Rattle.t32_base.specs.declared.letter.BackRec.{BackRec}
use Rattle.sys_text.specs.declared.system.System.{System}
use Rattle.write_count.specs.Counting.{counts_of}
use Rattle.proc_state.specs.State.{ProcState}
use Rattle.bus_msg.specs.declared.entry.What.TheVariants.{Sync}
use Rattle.bus_msg.specs.declared.entry.Entry.{Entry}
use Rattle.bus_msg.specs.PlacedAfter.{what}
use Rattle.cert_sched.specs.Steps.{silent_upto}
use Rattle.cert_sched.specs.Kinds.{after_take, took_is}

-- a process takes the signal that is told, if one is, and s is the process after that
pub record TakesTo (took : Option ℕ) (before s : ProcState) : Type 0 where
  pub can : took_is took before ≡ true
  pub after : after_take took before ≡ s

-- The entry is a synchronisation of the process: silent steps lead from the log to where it takes the signal that is told, if one is, and s is the process after that.
pub record CutsAt (system : System) (log : List Entry) (e : Entry) (p : Pid) (s : ProcState) : Type 0 where
  pub read : List ℕ
  pub took : Option ℕ
  pub before : ProcState
  pub says : what e ≡ Sync p s.small read took
  pub reached : silent_upto system log p (s.small).steps ≡ Some before
  pub takes : TakesTo took before s

-- the record of a process that was just cut, to which so many letters came: its state and its mailbox, and nothing that it sent or bore
abbrev pub cut_record : Pid → ProcState → ℕ → BackRec
cut_record p s came = record { pid = p; state = Some s.small; saved = s.mail; next = came; counts = counts_of []; births = [] }
