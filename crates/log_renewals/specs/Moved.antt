-- Which processes a loss moved that have done nothing since.
use Rattle.std.specs.Prelude.{ℕ, ◌≡◌, ◌&&◌, Bool, true, false, not, List, [], ◌∷◌, ◌++◌}
use Rattle.t32_base.specs.declared.process.Pid.{Pid}
use Rattle.sys_text.specs.declared.system.System.{System}
use Rattle.sys_text.specs.Valid.{is_system}
use Rattle.bus_msg.specs.declared.entry.What.TheVariants.{Birth}
use Rattle.bus_msg.specs.declared.entry.Entry.{Entry}
use Rattle.bus_msg.specs.PlacedAfter.{what}
use Rattle.cert_sched.specs.Kinds.{is_done_by}
use Rattle.cert_sched.specs.Moved.{any_since_moved, was_moved}
use Rattle.cert_sched.specs.Legal.{IsLegalBy, Stands}
use Rattle.log_laws.specs.pages.Next.{moves_next}

-- a loss has moved the process, and since the last one that did it has not sent, forked, ended or synchronised
abbrev pub moved_only : System → List Entry → Pid → Bool
moved_only system log p = was_moved system log p && not (any_since_moved system log p (is_done_by p))

-- So it is of no process at boot, and not of a child that is born; and of each that a loss moves.
pub record MovedOnlyBegins : Type 0 where
  pub boot : (system : System) (p : Pid) → moved_only system [] p ≡ false
  pub born : (system : System) (log : List Entry) (e : Entry) (parent : Pid) (at : ℕ) (child : Pid) (end : ℕ) → is_system system ≡ true
      → IsLegalBy Stands system log → Stands system log e → what e ≡ Birth parent at child end
      → moved_only system (log ++ e ∷ []) child ≡ false
  pub moved : (system : System) (log : List Entry) (e : Entry) (p : Pid) → moves_next system log e p ≡ true
      → moved_only system (log ++ e ∷ []) p ≡ true

-- whether it is so in a log, and then in the log with an entry that does not move the process
abbrev pub KeepsMovedOnly : Pid → Bool → Bool → Entry → Type 0
KeepsMovedOnly p old new e = (system : System) (log : List Entry) → moves_next system log e p ≡ false → old ≡ moved_only system log p
    → new ≡ moved_only system (log ++ e ∷ []) p
