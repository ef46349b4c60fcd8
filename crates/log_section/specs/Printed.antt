-- Which numbers that are printed of a run and its log are below 2^64.
use Rattle.std.specs.Prelude.{ℕ, ◌≡◌, List, [], ◌∷◌, length, Some}
use Rattle.t32_base.specs.declared.process.Pid.{Pid}
use Rattle.t32_base.specs.declared.process.Status.{Status}
use Rattle.t32_base.specs.declared.process.Status.TheVariants.{Live, Closing, Ended}
use Rattle.proc_state.specs.State.{ProcState}
use Rattle.plain_kernel.specs.Kernel.{Kernel, process_at, tty_at}
use Rattle.plain_kernel.specs.declared.item.Item.{Item}
use Rattle.plain_kernel.specs.declared.item.Item.TheVariants.{Run as Runs, Fork, Take}
use Rattle.bus_msg.specs.declared.entry.Entry.{Entry}
use Rattle.entry_lines.specs.Told.{IsSmall, EndFits, Fits, told_end, told_of}
use Rattle.report_text.specs.declared.run.Run.{Run}
use Rattle.report_text.specs.declared.run.Ended.{Ended as RunEnd}
use Rattle.report_text.specs.declared.run.Ended.TheVariants.{Finished, Lost}

abbrev pub StatusFits : Status → Type 0
StatusFits (Ended end) = EndFits (told_end end)
StatusFits (Closing end) = Unit {0}
StatusFits Live = Unit {0}

-- the counts of the terminals' bytes, the pids, and how the processes ended
pub record KernelFits (kernel : Kernel) : Type 0 where
  pub ttys : (t : ℕ) (bytes : List ℕ) → tty_at kernel t ≡ Some bytes → IsSmall (length bytes)
  pub processes : (p : Pid) (s : ProcState) → process_at kernel p ≡ Some s → IsSmall p.0 × StatusFits (s.small).status

abbrev pub ItemFits : Item → Type 0
ItemFits (Runs p n) = IsSmall p.0 × IsSmall n
ItemFits (Fork p c) = IsSmall p.0 × IsSmall c.0
ItemFits (Take p) = IsSmall p.0

abbrev pub ItemsFit : List Item → Type 0
ItemsFit [] = Unit {0}
ItemsFit (item ∷ items) = ItemFits item × ItemsFit items

abbrev pub LogFits : List Entry → Type 0
LogFits [] = Unit {0}
LogFits (e ∷ es) = Fits (told_of e) × LogFits es

abbrev pub EndedFits : RunEnd → Type 0
EndedFits Finished = Unit {0}
EndedFits (Lost cluster at) = IsSmall cluster.0 × IsSmall at

-- the numbers of the entries and of the items, and how many of each there are
pub record RunFits (run : Run) : Type 0 where
  pub log : LogFits run.log
  pub entries : IsSmall (length run.log)
  pub items : ItemsFit run.items
  pub count : IsSmall (length run.items)
  pub ended : EndedFits run.ended
  pub withheld : IsSmall run.withheld
