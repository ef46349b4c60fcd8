-- The record of a process that is a root or was cut has the state of its start; from its start each process rolls forward.
use Rattle.std.proofs.Common.{◌≡◌, ◌≤◌, refl, sym, ◌∙◌, ap, subst, List, Bool, true, false, cond, Option, Some, None, is_some}
use Rattle.std.specs.Prelude.{option_map}
use Rattle.std.proofs.lemmas.Option.{same_Some}
use Rattle.t32_base.specs.declared.process.Pid.{Pid}
use Rattle.t32_base.specs.declared.letter.BackRec.{BackRec}
use Rattle.sys_text.specs.declared.system.System.{System}
use Rattle.sys_text.specs.Valid.{is_system}
use Rattle.rv_mem.specs.Memory.{Memory}
use Rattle.proc_state.specs.State.{ProcState}
use Rattle.bus_msg.specs.declared.entry.Entry.{Entry}
use Rattle.roll_forward.specs.Rolling.{started, with_saved}
use Rattle.cert_sched.specs.Schedule.{done_after}
use Rattle.cert_sched.specs.Deeds.{start_of}
use Rattle.cert_sched.specs.Record.{backup_record, has_state, record_from}
use Rattle.cert_sched.specs.Legal.{IsLegalBy}
use Rattle.cert_sched.specs.Simulation.{IsUnended}
use Rattle.cert_sched.proofs.CameLaws.{IsStandingRule}
use Rattle.cert_sched.proofs.RunsOutLaws.{record_of}
use Rattle.replay_laws.specs.rolling.Behind.{RollsBehind}
use Rattle.replay_laws.proofs.rolling.Beginning.{rolls_from_kept}
use Rattle.replay_laws.proofs.rolling.Reaching.{led_there, start_behind}

-- a record has a state exactly where its process is a root or was cut
pub record_stated : (system : System) (log : List Entry) (p : Pid) (kept : BackRec) → backup_record system log p ≡ Some kept → is_some kept.state ≡ has_state system log p
unfolding backup_record
record_stated system log p kept is = by_start (start_of system log p) is
  where
    by_state : (start : ProcState) (b : Bool) → is_some (cond b (Some start.small) None) ≡ b
    by_state start true = refl
    by_state start false = refl

    by_start : (o : Option ProcState) → option_map (record_from system log p) o ≡ Some kept → is_some kept.state ≡ has_state system log p
    by_start None e = cc
    by_start (Some start) e = ap (λ (r : BackRec). is_some r.state) (sym (same_Some (record_from system log p start) kept e)) ∙ by_state start (has_state system log p)

-- then that is the state of its start
pub stated_at_start : (system : System) (log : List Entry) (p : Pid) (start : ProcState) (kept : BackRec) → has_state system log p ≡ true → start_of system log p ≡ Some start → backup_record system log p ≡ Some kept → kept.state ≡ Some start.small
stated_at_start system log p start kept stated started is = ap (λ (r : BackRec). r.state) (sym (record_of system log p start kept started is)) ∙ ap (λ b. cond b (Some start.small) None) stated

-- ---- where it goes on

-- With the saved letters of its record the process of its start rolls forward, whether the record has a state or not.
pub behind_from_kept : (May : System → List Entry → Entry → Type 0) → IsStandingRule May → (system : System) (log : List Entry) (p : Pid) (start : ProcState) (kept : BackRec) → is_system system ≡ true → IsLegalBy May system log → IsUnended system log p
    → start_of system log p ≡ Some start → backup_record system log p ≡ Some kept → RollsBehind system log p (with_saved start kept.saved kept.next) kept.counts kept.births
behind_from_kept May standing system log p start kept valid legal unended begins is =
    let l = led_there May standing system log p valid legal unended in
    let same : (l.led).start ≡ start = same_Some (l.led).start start (sym (l.led).started ∙ begins) in
    record {
      rolls = rolls_from_kept system log p start kept begins is;
      behind = subst (λ (s : ProcState). (s.small).steps ≤ done_after system log p) same (start_behind system log p l.now l.led);
    }

-- so with its state and the memory of its start
pub behind_from_start : (May : System → List Entry → Entry → Type 0) → IsStandingRule May → (system : System) (log : List Entry) (p : Pid) (start : ProcState) (kept : BackRec) (ram : Memory) → is_system system ≡ true → IsLegalBy May system log
    → IsUnended system log p → start_of system log p ≡ Some start → backup_record system log p ≡ Some kept → ram.bytes ≡ start.memory → RollsBehind system log p (started start.small ram kept.saved kept.next) kept.counts kept.births
behind_from_start May standing system log p start kept ram valid legal unended begins is bytes =
    let there : with_saved start kept.saved kept.next ≡ started start.small ram kept.saved kept.next = λ i. record { small = start.small; memory = sym bytes i; mail = kept.saved; next = kept.next } in
    subst (λ s. RollsBehind system log p s kept.counts kept.births) there (behind_from_kept May standing system log p start kept valid legal unended begins is)
