-- What the looks at the words of a script add to the log of a bus.
use Rattle.std.specs.Prelude.{◌≡◌, ◌+◌, ◌≤◌, Bool, true, false, ◌&&◌, nat_le, List, ◌++◌, length}
use Rattle.std.specs.List.{list_any, list_all}
use Rattle.t32_base.specs.declared.process.ClusterNo.{ClusterNo}
use Rattle.bus_msg.specs.declared.entry.Cause.{Cause}
use Rattle.bus_msg.specs.declared.entry.Entry.{Entry}
use Rattle.bus_msg.specs.PlacedAfter.{what}
use Rattle.cert_sched.specs.declared.script.ScriptWord.{ScriptWord}
use Rattle.cert_sched.specs.declared.script.ScriptWord.TheVariants.{CrashAt, CrashStep, DiskAt, ReturnAt}
use Rattle.cert_sched.specs.Rules.{is_bus}
use Rattle.cert_sched.specs.Losses.{is_crash_of}
use Rattle.cert_sched.specs.Looked.{is_given}
use Rattle.bus_order.specs.Script.{has_unused}
use Rattle.bus_order.specs.View.{BusView}
use Rattle.script_laws.specs.Crashes.{is_loss}
use Rattle.script_laws.specs.Off.{comes_back}

-- the bus tells of a loss at a place of the log, or of a return
abbrev pub is_bus_turn : Entry → Bool
is_bus_turn e = is_bus (e.post).by && is_given (what e)

-- the bus tells of a loss at a place of the log
abbrev pub is_bus_loss : Entry → Bool
is_bus_loss e = is_bus_turn e && is_loss (what e)

-- the word loses this cluster or brings it back, and the log had reached its place
abbrev pub is_its_word : Entry → ScriptWord → Bool
is_its_word e (CrashAt k place) = is_crash_of k (what e) && nat_le place e.place
is_its_word e (CrashStep k step) = false
is_its_word e (DiskAt k call) = false
is_its_word e (ReturnAt k place) = comes_back k (what e) && nat_le place e.place

-- The log has some more entries, each a loss at a place or a return, by a word that was left. At least as many words fewer are left, which are of those that
-- were left, each word for a step or a disk call among them.
pub record AddsTurns (old new : BusView) : Type 0 where
  pub system : new.system ≡ old.system
  pub script : new.script ≡ old.script
  pub more : List Entry
  pub added : new.log ≡ old.log ++ more
  pub turns : list_all is_bus_turn more ≡ true
  pub by_words : list_all (λ e. list_any (is_its_word e) old.left) more ≡ true
  pub fewer : length new.left + length more ≤ length old.left
  pub within : (test : ScriptWord → Bool) → list_any test new.left ≡ true → list_any test old.left ≡ true
  pub unused : (k : ClusterNo) (cause : Cause) → has_unused new.left k cause ≡ has_unused old.left k cause
