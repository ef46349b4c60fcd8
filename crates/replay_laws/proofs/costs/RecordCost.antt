-- The counts of the record of a process run out within the steps between two cuts, and by then it has read no more of the saved letters than between two cuts.
use Rattle.std.proofs.Common.{◌≡◌, ℕ, ◌≤◌, refl, sym, ◌∙◌, ap, subst, arith, List, true, length, Option, Some, None, is_some, true≢false}
use Rattle.std.proofs.lemmas.Option.{same_Some}
use Rattle.t32_base.specs.declared.process.Pid.{Pid}
use Rattle.t32_base.specs.declared.letter.BackRec.{BackRec}
use Rattle.sys_text.specs.declared.system.System.{System}
use Rattle.sys_text.specs.Valid.{is_system}
use Rattle.rv_mem.specs.Memory.{Memory}
use Rattle.proc_state.specs.State.{ProcState}
use Rattle.bus_msg.specs.declared.entry.Entry.{Entry}
use Rattle.roll_forward.specs.Deeds.{Deed}
use Rattle.roll_forward.specs.RunsOut.{RunsOut}
use Rattle.roll_forward.specs.Replay.{replayed}
use Rattle.roll_forward.specs.Rolling.{started}
use Rattle.cert_sched.specs.Schedule.{process_after}
use Rattle.cert_sched.specs.Deeds.{since, start_of}
use Rattle.cert_sched.specs.Steps.{numbers_read}
use Rattle.cert_sched.specs.Record.{backup_record}
use Rattle.cert_sched.specs.Rolling.{refilled}
use Rattle.cert_sched.specs.Legal.{IsLegalBy, MayStand}
use Rattle.cert_sched.specs.Simulation.{IsUnended, RecordLeads}
use Rattle.cert_sched.proofs.LimitLaws.{Ahead, stand_record_ahead}
use Rattle.cert_sched.proofs.OpenLaws.{unended_open}
use Rattle.cert_sched.proofs.ReplayLaws.{first_is}
use Rattle.cert_sched.proofs.RunsOutLaws.{record_leads, runs_out_once}
use Rattle.cert_sched.proofs.ThereLaws.{unended_there}
use Rattle.replay_laws.proofs.rolling.ByRule.{standing}

-- where the process is, and how its record leads there
record Found (system : System) (log : List Entry) (p : Pid) (kept : BackRec) : Type 0 where
  pub now : ProcState
  pub leads : RecordLeads system log p kept now
  pub ahead : Ahead system kept leads.there leads.ahead

found : (system : System) (log : List Entry) (p : Pid) (kept : BackRec) → is_system system ≡ true → IsLegalBy MayStand system log → IsUnended system log p → backup_record system log p ≡ Some kept → Found system log p kept
found system log p kept valid legal unended is = by_process (process_after system log p) refl (unended_there MayStand standing system log p valid legal unended)
  where
    by_process : (o : Option ProcState) → process_after system log p ≡ o → is_some o ≡ true → Found system log p kept
    by_process None there some = absurd (true≢false (sym some))
    by_process (Some now) there some =
        let goes_on = unended_open MayStand standing system log p valid legal unended now there in
        let leads = record_leads MayStand standing system log p now kept valid legal there goes_on is in
        record { now = now; leads = leads; ahead = stand_record_ahead system log p now kept valid legal there goes_on leads is }

module _ (system : System) (log : List Entry) (p : Pid) (start : ProcState) (kept : BackRec) (ram : Memory) (n : ℕ) (f : Found system log p kept) (begins : start_of system log p ≡ Some start) (bytes : ram.bytes ≡ start.memory)
    (runs : RunsOut (started start.small ram kept.saved kept.next) kept.counts kept.births n) where
  abbrev from : ProcState
  from = started start.small ram kept.saved kept.next

  same : (f.leads).start ≡ start
  same = same_Some (f.leads).start start (sym (f.leads).started ∙ begins)

  as_started : refilled log p (f.leads).start ≡ from
  as_started = λ i. record { small = (same i).small; memory = (ap (λ (s : ProcState). s.memory) same ∙ sym bytes) i; mail = (f.leads).saved i; next = (f.leads).next i }

  once : n ≡ (f.leads).ahead
  once = runs_out_once n (f.leads).ahead from kept.counts kept.births runs (subst (λ s. RunsOut s kept.counts kept.births (f.leads).ahead) as_started (f.leads).runs_out)

  steps : n ≤ system.syncsteps
  steps = let one = once in let within = (f.ahead).within in omega (arith, one, within)

  reads : (there : ProcState) (deeds : List Deed) → replayed n from kept.births ≡ Some (there, deeds) → length (numbers_read kept.saved there.mail) ≤ system.syncreads
  reads there deeds made =
      let led : ◌≡◌ {A = Option (ProcState × List Deed)} (Some ((f.leads).there, since log p)) (Some (there, deeds)) =
      sym (f.leads).made ∙ (λ i. replayed (sym once i) (as_started i) kept.births) ∙ made in
      subst (λ (s : ProcState). length (numbers_read kept.saved s.mail) ≤ system.syncreads) (first_is ((f.leads).there, since log p) there deeds led).0 (f.ahead).reads

-- in a log of what is built what the record of a process counts runs out within the steps between two cuts
pub cost_in_steps : (system : System) (log : List Entry) (p : Pid) (start : ProcState) (kept : BackRec) (ram : Memory) (n : ℕ) → is_system system ≡ true → IsLegalBy MayStand system log → IsUnended system log p
    → start_of system log p ≡ Some start → backup_record system log p ≡ Some kept → ram.bytes ≡ start.memory → RunsOut (started start.small ram kept.saved kept.next) kept.counts kept.births n → n ≤ system.syncsteps
cost_in_steps system log p start kept ram n valid legal unended begins is bytes runs = steps system log p start kept ram n (found system log p kept valid legal unended is) begins bytes runs

-- and by then the process has read no more of its saved letters than between two cuts
pub cost_in_reads : (system : System) (log : List Entry) (p : Pid) (start there : ProcState) (kept : BackRec) (ram : Memory) (n : ℕ) (deeds : List Deed) → is_system system ≡ true → IsLegalBy MayStand system log
    → IsUnended system log p → start_of system log p ≡ Some start → backup_record system log p ≡ Some kept → ram.bytes ≡ start.memory → RunsOut (started start.small ram kept.saved kept.next) kept.counts kept.births n
    → replayed n (started start.small ram kept.saved kept.next) kept.births ≡ Some (there, deeds) → length (numbers_read kept.saved there.mail) ≤ system.syncreads
cost_in_reads system log p start there kept ram n deeds valid legal unended begins is bytes runs made =
    reads system log p start kept ram n (found system log p kept valid legal unended is) begins bytes runs there deeds made
