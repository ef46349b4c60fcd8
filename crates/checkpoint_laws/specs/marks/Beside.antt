-- An entry that leaves the marks of a process.
use Rattle.std.specs.Prelude.{◌≡◌, Bool, false, List}
use Rattle.t32_base.specs.declared.process.Pid.{Pid}
use Rattle.sys_text.specs.declared.system.System.{System}
use Rattle.bus_msg.specs.declared.entry.What.{What}
use Rattle.bus_msg.specs.declared.entry.What.TheVariants.{Page}
use Rattle.bus_msg.specs.declared.entry.Entry.{Entry}
use Rattle.bus_msg.specs.Places.{same_pid}
use Rattle.bus_msg.specs.PlacedAfter.{what}
use Rattle.cert_sched.specs.Deeds.{is_cut, is_birth_of}
use Rattle.cert_sched.specs.Account.{is_exit_of}
use Rattle.log_laws.specs.pages.Next.{moves_next}

-- a page of the process, of any number and as it was at any step count
abbrev pub is_some_page : Pid → What → Bool
is_some_page p (Page pid at index bytes) = same_pid pid p
is_some_page p _ = false

-- Next in the log, it is no cut, birth, exit or page of the process, and no crash that moves it.
pub record LeavesMarks (system : System) (log : List Entry) (e : Entry) (p : Pid) : Type 0 where
  pub no_cut : is_cut p (what e) ≡ false
  pub no_birth : is_birth_of p (what e) ≡ false
  pub no_exit : is_exit_of p (what e) ≡ false
  pub no_page : is_some_page p (what e) ≡ false
  pub stays : moves_next system log e p ≡ false
