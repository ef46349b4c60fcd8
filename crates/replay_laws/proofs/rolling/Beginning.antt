-- A process as it started, with its saved letters, has to do again all that it did since.
use Rattle.std.proofs.Common.{◌≡◌, refl, sym, ◌∙◌, ap, subst, List, [], Bool, true, false, cond, Some, None}
use Rattle.std.proofs.lemmas.Option.{same_Some}
use Rattle.t32_base.specs.declared.process.Pid.{Pid}
use Rattle.t32_base.specs.declared.letter.BackRec.{BackRec}
use Rattle.t32_base.specs.Small.{SmallState}
use Rattle.sys_text.specs.declared.system.System.{System}
use Rattle.rv_mem.specs.Memory.{Memory}
use Rattle.proc_state.specs.State.{ProcState}
use Rattle.write_count.specs.Counting.{counts_of}
use Rattle.bus_msg.specs.declared.entry.Entry.{Entry}
use Rattle.roll_forward.specs.Deeds.{letters_in, births_in}
use Rattle.roll_forward.specs.Rolling.{started, with_saved}
use Rattle.cert_sched.specs.Deeds.{start_of, since}
use Rattle.cert_sched.specs.Record.{has_state, backup_record}
use Rattle.cert_sched.specs.Rolling.{refilled, RollsAs}
use Rattle.cert_sched.proofs.RunsOutLaws.{record_of}

pub rolls_from_start : (system : System) (log : List Entry) (p : Pid) (start : ProcState) → start_of system log p ≡ Some start
    → RollsAs system log p (refilled log p start) (counts_of (letters_in (since log p))) (births_in (since log p))
rolls_from_start system log p start is = record {
  start = start;
  steps = 0;
  done = [];
  rest = since log p;
  started = is;
  replays = refl;
  parts = refl;
  counts_left = refl;
  births_left = refl;
}

-- the state of a record that has one is that of the start
state_is : (stated : Bool) (x small : SmallState) → cond stated (Some x) None ≡ Some small → small ≡ x
state_is true x small e = sym (same_Some x small e)
state_is false x small e = cc

-- the small state of its record is that of the start
pub state_of_record : (system : System) (log : List Entry) (p : Pid) (start : ProcState) (kept : BackRec) (small : SmallState) → start_of system log p ≡ Some start → backup_record system log p ≡ Some kept → kept.state ≡ Some small → small ≡ start.small
state_of_record system log p start kept small is kept_is stated =
    state_is (has_state system log p) start.small small (ap (λ (r : BackRec). r.state) (record_of system log p start kept is kept_is) ∙ stated)

-- The process of its record, with the memory of its start: it has to do again what the record counts.
pub rolls_from_record : (system : System) (log : List Entry) (p : Pid) (start : ProcState) (kept : BackRec) (small : SmallState) (ram : Memory) → start_of system log p ≡ Some start → backup_record system log p ≡ Some kept
    → kept.state ≡ Some small → ram.bytes ≡ start.memory → RollsAs system log p (started small ram kept.saved kept.next) kept.counts kept.births
rolls_from_record system log p start kept small ram is kept_is stated bytes =
    let same = record_of system log p start kept is kept_is in
    let state = state_of_record system log p start kept small is kept_is stated in
    let there : refilled log p start ≡ started small ram kept.saved kept.next =
    λ i. record { small = sym state i; memory = sym bytes i; mail = (same i).saved; next = (same i).next } in
    subst (λ s. RollsAs system log p s kept.counts kept.births) there
    (subst (λ (r : BackRec). RollsAs system log p (refilled log p start) r.counts r.births) same (rolls_from_start system log p start is))

-- So has the process of its start with the saved letters of its record, whether that has a state or not.
pub rolls_from_kept : (system : System) (log : List Entry) (p : Pid) (start : ProcState) (kept : BackRec) → start_of system log p ≡ Some start → backup_record system log p ≡ Some kept
    → RollsAs system log p (with_saved start kept.saved kept.next) kept.counts kept.births
rolls_from_kept system log p start kept is kept_is =
    let same = record_of system log p start kept is kept_is in
    let there : refilled log p start ≡ with_saved start kept.saved kept.next = λ i. record start { mail = (same i).saved; next = (same i).next } in
    subst (λ s. RollsAs system log p s kept.counts kept.births) there
    (subst (λ (r : BackRec). RollsAs system log p (refilled log p start) r.counts r.births) same (rolls_from_start system log p start is))
