-- Which lines keep the rule of new backups.
use Rattle.std.specs.Prelude.{ℕ, ◌≡◌, ◌<◌, ◌^◌, Bool, true, List, Option, Some, None, is_none, slice_get}
use Rattle.std.specs.Option.{option_map_or}
use Rattle.t32_base.specs.declared.process.Pid.{Pid}
use Rattle.sys_text.specs.declared.system.System.{System}
use Rattle.sys_text.specs.Valid.{is_system}
use Rattle.bus_msg.specs.declared.entry.Entry.{Entry}
use Rattle.bus_msg.specs.declared.placed.Placed.{Placed}
use Rattle.bus_msg.specs.NewBackup.{next_backup_at}
use Rattle.bus_msg.specs.Places.{Places}
use Rattle.bus_msg.specs.PlacedAfter.{what}
use Rattle.cert_sched.specs.Schedule.{placement}
use Rattle.cert_sched.specs.Rules.{has_awaited_backup, keeps_backups}
use Rattle.cert_sched.specs.Legal.{IsLegalBy, MayStand}
use Rattle.cert_sched.specs.Simulation.{IsUnended}
use Rattle.entry_lines.specs.declared.told.Told.{Told}
use Rattle.entry_lines.specs.declared.told.ToldWhat.{ToldWhat}
use Rattle.entry_lines.specs.declared.told.ToldWhat.TheVariants.{Mail, Birth, Exit, Page, Sync}
use Rattle.entry_lines.specs.Told.{told_of}
use Rattle.audited_process.specs.declared.audited.Audited.{Audited}
use Rattle.audited_log.specs.declared.state.AuditedLog.{AuditedLog}
use Rattle.audited_log.specs.Processes.{IsKept, kept_at}
use Rattle.audited_log.specs.State.{IsStateOf}

-- the number of the process that waits for its new backup before it does what the line says
abbrev pub waiter : ToldWhat → Option ℕ
waiter (Mail from at letter) = Some from
waiter (Birth parent at child end) = Some parent
waiter (Exit pid at end) = Some pid
waiter (Page pid at index) = Some pid
waiter (Sync pid at took) = Some pid
waiter _ = None

-- it says whether the process with this number has got the new backup that it waits for: of each log with this placement of which the
-- processes are kept, and in which it has not ended
abbrev pub HasAwaited : ℕ → Places → List (ℕ × Audited) → Bool → Type 0
HasAwaited n places processes has = (system : System) (log : List Entry) (p : Pid) → placement system log ≡ places → p.0 ≡ n → p.0 < 2 ^ 32
    → IsUnended system log p → IsKept system log p (kept_at processes p) → has ≡ has_awaited_backup system log p

-- the process at a place of the order of births is owed no backup
abbrev pub is_owed_none : Places → ℕ → Bool
is_owed_none places index = option_map_or (λ (q : Placed). is_none (next_backup_at places q.pid)) (slice_get places.placed index) true

-- it says of each legal log of which this is kept, and of each entry with the line that may stand next by all other rules, whether the
-- entry keeps the rule of new backups
abbrev pub KeepsBackups : AuditedLog → Told → Bool → Type 0
KeepsBackups state told keeps = (system : System) (log : List Entry) (e : Entry) → is_system system ≡ true → IsLegalBy MayStand system log
    → IsStateOf system log state → told_of e ≡ told → MayStand system log e → keeps ≡ keeps_backups system log (what e)
