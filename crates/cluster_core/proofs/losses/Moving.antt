-- A process whose record moves waits under its own pid.
use Rattle.std.proofs.Common.{◌≡◌, ℕ, ◌≤◌, refl, sym, ◌∙◌, ap, arith, List, length, true, false, Option, Some, None, is_some, suc, zero}
use Rattle.std.specs.Prelude.{replicate}
use Rattle.std.specs.List.{list_all}
use Rattle.std.specs.Option.{IfSome}
use Rattle.std.proofs.lemmas.Option.{same_Some}
use Rattle.t32_base.specs.declared.process.Pid.{Pid}
use Rattle.t32_base.specs.declared.letter.BackRec.{BackRec}
use Rattle.t32_base.specs.Small.{SmallState}
use Rattle.sys_text.specs.declared.system.System.{System}
use Rattle.sys_text.specs.Valid.{is_system}
use Rattle.bus_msg.specs.declared.entry.Entry.{Entry}
use Rattle.cert_sched.specs.Deeds.{starts}
use Rattle.cert_sched.specs.Legal.{IsLegalBy, MayStand}
use Rattle.cert_sched.specs.Parts.{upto_last}
use Rattle.cert_sched.specs.Record.{backup_record, has_state, record_from}
use Rattle.cert_sched.specs.Simulation.{IsUnended}
use Rattle.cert_sched.proofs.RunsOutLaws.{record_of}
use Rattle.cert_sched.proofs.StepLaws.{process_after-own}
use Rattle.log_laws.proofs.records.Counts.{next_fits}
use Rattle.replay_laws.proofs.rolling.FromStart.{record_stated, stated_at_start}
use Rattle.page_waits.specs.Waiting.{page_count}
use Rattle.replay_laws.specs.pages.Waits.{first_wait}
use Rattle.replay_laws.proofs.pages.RecordPages.{StartsSo, has_pages, starts_so}
use Rattle.cluster_core.specs.Parts.{WaitsOwn}

-- where there is a page, not all have come at first
none_come : (n : ℕ) → 1 ≤ n → list_all (is_some {T = List ℕ}) (replicate n None) ≡ false
none_come zero some = absurd (omega (arith, some))
none_come (suc n) some = refl

module _ (system : System) (valid : is_system system ≡ true) (log : List Entry) (legal : IsLegalBy MayStand system log) (p : Pid) (r : BackRec) (unended : IsUnended system log p) (kept : backup_record system log p ≡ Some r) where
  s : StartsSo system log p
  s = starts_so system log p valid legal unended

  record_is : record_from system log p s.start ≡ r
  record_is = record_of system log p s.start r s.started kept

  -- it waits under its own pid, and lacks a page where its record has a state, and no more letters came to it than the log has entries
  pub waits_own : WaitsOwn (length log) p (first_wait r)
  waits_own = record {
    pid_is = sym (ap (λ (r : BackRec). r.pid) record_is);
    state = own_state r.state refl;
    arrived = next_fits system log p r kept;
    lacks = λ some. none_come (page_count r) (has_pages system log p r valid legal unended (stated some) kept).some;
  }
    where
      stated : is_some r.state ≡ true → has_state system log p ≡ true
      stated some = sym (record_stated system log p r kept) ∙ some

      own_state : (o : Option SmallState) → r.state ≡ o → IfSome o (λ small. small.pid ≡ p)
      own_state None is = tt
      own_state (Some small) is =
          let same : Some (s.start).small ≡ Some small = sym (stated_at_start system log p s.start r (stated (ap is_some is)) s.started kept) ∙ is in
          ap (λ (small : SmallState). small.pid) (same_Some small (s.start).small (sym same)) ∙ process_after-own system (upto_last (starts p) log) p s.start s.started
