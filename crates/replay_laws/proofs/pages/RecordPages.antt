-- The record of a process with a state has as many pages as the process, which are 1 to 256.
use Rattle.std.proofs.Common.{◌≡◌, ◌≤◌, sym, ◌∙◌, ap, arith, List, true, Some}
use Rattle.std.specs.Option.{option_map_or}
use Rattle.t32_base.specs.declared.process.Pid.{Pid}
use Rattle.t32_base.specs.declared.letter.BackRec.{BackRec}
use Rattle.t32_base.specs.Small.{SmallState}
use Rattle.sys_text.specs.declared.system.System.{System}
use Rattle.sys_text.specs.Valid.{is_system}
use Rattle.proc_state.specs.State.{ProcState}
use Rattle.bus_msg.specs.declared.entry.Entry.{Entry}
use Rattle.cert_sched.specs.Parts.{upto_last}
use Rattle.cert_sched.specs.Deeds.{starts, start_of}
use Rattle.cert_sched.specs.Record.{backup_record, has_state}
use Rattle.cert_sched.specs.Steps.{page_count}
use Rattle.cert_sched.specs.Legal.{MayStand}
use Rattle.cert_sched.specs.Legal.{IsLegalBy, Stands}
use Rattle.cert_sched.specs.Simulation.{IsUnended}
use Rattle.replay_laws.proofs.rolling.ByRule.{standing, itself}
use Rattle.replay_laws.proofs.rolling.FromStart.{stated_at_start}
use Rattle.replay_laws.proofs.rolling.Reaching.{led_there}
use Rattle.log_laws.proofs.records.Standing.{all_stand}
use Rattle.page_waits.specs.Waiting.{page_count as pages_of}
use Rattle.replay_laws.proofs.pages.PageCounts.{few_pages, start_count}

-- its record has a state of so many pages, which are 1 to 256
pub record HasPages (system : System) (log : List Entry) (p : Pid) (kept : BackRec) : Type 0 where
  pub same : pages_of kept ≡ page_count system log p
  pub some : 1 ≤ pages_of kept
  pub at_most : pages_of kept ≤ 256

pub has_pages_so : (system : System) (log : List Entry) (p : Pid) (kept : BackRec) → is_system system ≡ true → IsLegalBy Stands system log → IsUnended system log p → has_state system log p ≡ true → backup_record system log p ≡ Some kept
    → HasPages system log p kept
has_pages_so system log p kept valid legal unended stated is =
    let l = led_there Stands itself system log p valid legal unended in
    let start = (l.led).start in
    let pages : pages_of kept ≡ (start.small).pages = ap (λ o. option_map_or (λ (small : SmallState). small.pages) o 0) (stated_at_start system log p start kept stated (l.led).started is) in
    let few = few_pages system (upto_last (starts p) log) p start valid (l.led).started in
    let least = few.0 in
    let most = few.1 in
    record {
      same = pages ∙ sym (start_count system log p start legal (l.led).started);
      some = omega (arith, pages, least);
      at_most = omega (arith, pages, most);
    }

-- in a log of the entries that are built so far
pub has_pages : (system : System) (log : List Entry) (p : Pid) (kept : BackRec) → is_system system ≡ true → IsLegalBy MayStand system log → IsUnended system log p → has_state system log p ≡ true → backup_record system log p ≡ Some kept
    → HasPages system log p kept
has_pages system log p kept valid legal = has_pages_so system log p kept valid (all_stand system log legal)

-- ---- how a process starts

-- a process that has not ended has a start
pub record StartsSo (system : System) (log : List Entry) (p : Pid) : Type 0 where
  pub start : ProcState
  pub started : start_of system log p ≡ Some start

pub starts_so : (system : System) (log : List Entry) (p : Pid) → is_system system ≡ true → IsLegalBy MayStand system log → IsUnended system log p → StartsSo system log p
starts_so system log p valid legal unended =
    let there = led_there MayStand standing system log p valid legal unended in
    record { start = (there.led).start; started = (there.led).started }
