-- In a log in which each entry stands, a process that has not ended has read its saved letters from the fronts of its ends.
use Rattle.std.proofs.Common.{◌≡◌, ℕ, ◌-◌, sym, ◌∙◌, ap, subst, List, [], true, false, Option, Some, arith, refl}
use Rattle.std.specs.Prelude.{option_and_then}
use Rattle.std.specs.List.{AllPairs}
use Rattle.std.specs.Option.{option_map_or}
use Rattle.std.proofs.lemmas.Bool.{and_parts}
use Rattle.t32_base.specs.declared.process.Pid.{Pid}
use Rattle.sys_text.specs.declared.system.System.{System}
use Rattle.sys_text.specs.Valid.{is_system}
use Rattle.proc_state.specs.Queues.{DiffersFrom}
use Rattle.proc_state.specs.State.{ProcState, has_ended, can_take}
use Rattle.plain_kernel.specs.Kernel.{process_at}
use Rattle.bus_msg.specs.declared.entry.Entry.{Entry}
use Rattle.cert_sched.specs.Parts.{upto_last}
use Rattle.cert_sched.specs.Schedule.{done, process_after}
use Rattle.cert_sched.specs.Deeds.{starts, arrived_count, saved_letters, since, start_of}
use Rattle.cert_sched.specs.Rolling.{refilled}
use Rattle.cert_sched.specs.Steps.{saved_of, silent_upto}
use Rattle.cert_sched.specs.Legal.{IsLegalBy, Stands}
use Rattle.cert_sched.proofs.CameLaws.{IsStandingRule}
use Rattle.cert_sched.proofs.EndsLaws.{process_after-ends}
use Rattle.cert_sched.proofs.MailLaws.{silent_upto-ends}
use Rattle.cert_sched.proofs.ReplayLaws.{replays_silently}
use Rattle.cert_sched.proofs.RollLaws.{Rolls, all_roll}
use Rattle.cert_sched.proofs.StepLaws.{silent_from}
use Rattle.log_laws.specs.letters.Numbered.{are_below, are_in_order, are_numbered}
use Rattle.log_laws.specs.letters.ReadsFrom.{ReadsFrom}
use Rattle.log_laws.proofs.letters.SavedNumbers.{saved_numbered, order_differ}
use Rattle.log_laws.proofs.letters.ReplayReads.{HasRead, none_read, reads_from, replay_read, took_read}
use Rattle.sys_calls.specs.Take.{taken}
use Rattle.sys_calls.proofs.TakeLaws.{signal_there}
use Rattle.log_laws.proofs.letters.StepReads.{first}

pub itself : IsStandingRule Stands
itself system log e stands = stands

-- the saved letters are those of its start
pub saved_from : (system : System) (log : List Entry) (p : Pid) (start : ProcState) → start_of system log p ≡ Some start → saved_of system log p ≡ saved_letters log p start
saved_from system log p start started = ap (λ (o : Option ProcState). option_map_or (saved_letters log p) o []) started

module _ (system : System) (log : List Entry) (p : Pid) (now : ProcState) (rolls : Rolls system log p now) where
  saved_is : saved_of system log p ≡ saved_letters log p rolls.start
  saved_is = saved_from system log p rolls.start rolls.started

  rolled_numbered : are_numbered (arrived_count log p) (saved_of system log p) ≡ true
  rolled_numbered = (λ i. are_numbered (rolls.arrived i) (saved_is i)) ∙ saved_numbered system log p rolls.start rolls.started

  pub differ : AllPairs DiffersFrom (saved_of system log p)
  differ = order_differ (saved_of system log p) (and_parts (are_in_order (saved_of system log p)) (are_below (arrived_count log p) (saved_of system log p)) rolled_numbered).0

  rolled_read : HasRead (saved_of system log p) now.mail
  rolled_read =
      let started : HasRead (saved_of system log p) (refilled log p rolls.start).mail = subst (HasRead (saved_of system log p)) saved_is (none_read (saved_of system log p)) in
      replay_read (saved_of system log p) differ rolls.made (refilled log p rolls.start) now (since log p) rolls.replays
      (process_after-ends system (upto_last (starts p) log) p rolls.start rolls.started) started

pub rolls_there : (system : System) (log : List Entry) (p : Pid) (s : ProcState) → is_system system ≡ true → IsLegalBy Stands system log → process_after system log p ≡ Some s → has_ended (s.small).status ≡ false → Rolls system log p s
rolls_there system log p s valid legal there goes_on = (all_roll Stands itself system log valid legal).rolls p s there goes_on

pub all_saved_numbered : (system : System) (log : List Entry) (p : Pid) (s : ProcState) → is_system system ≡ true → IsLegalBy Stands system log → process_after system log p ≡ Some s → has_ended (s.small).status ≡ false
    → are_numbered (arrived_count log p) (saved_of system log p) ≡ true
all_saved_numbered system log p s valid legal there goes_on = rolled_numbered system log p s (rolls_there system log p s valid legal there goes_on)

pub process_reads : (system : System) (log : List Entry) (p : Pid) (s : ProcState) → is_system system ≡ true → IsLegalBy Stands system log → process_after system log p ≡ Some s → has_ended (s.small).status ≡ false
    → ReadsFrom (saved_of system log p) s.mail
process_reads system log p s valid legal there goes_on = reads_from (saved_of system log p) s.mail (rolled_read system log p s (rolls_there system log p s valid legal there goes_on))

-- so it has after silent steps
silent_read : (system : System) (log : List Entry) (p : Pid) (n : ℕ) (s : ProcState) → is_system system ≡ true → IsLegalBy Stands system log → silent_upto system log p n ≡ Some s → has_ended (s.small).status ≡ false
    → HasRead (saved_of system log p) s.mail × AllPairs DiffersFrom (saved_of system log p)
silent_read system log p n s valid legal silent goes_on =
    let f = silent_from system log p n s silent in
    let there : process_after system log p ≡ Some f.was = ap (option_and_then (λ k. process_at k p)) f.before ∙ f.there in
    let went_on : has_ended (f.was.small).status ≡ false = sym (silent_upto-ends system log p n f.was s there silent) ∙ goes_on in
    let rolls = rolls_there system log p f.was valid legal there went_on in
    let apart = differ system log p f.was rolls in (
      replay_read (saved_of system log p) apart (n - done f.kernel p) f.was s [] (replays_silently (n - done f.kernel p) f.was s f.silent) (process_after-ends system log p f.was there) (rolled_read system log p f.was rolls),
      apart,
    )

pub silent_reads : (system : System) (log : List Entry) (p : Pid) (n : ℕ) (s : ProcState) → is_system system ≡ true → IsLegalBy Stands system log → silent_upto system log p n ≡ Some s → has_ended (s.small).status ≡ false
    → ReadsFrom (saved_of system log p) s.mail
silent_reads system log p n s valid legal silent goes_on = reads_from (saved_of system log p) s.mail (silent_read system log p n s valid legal silent goes_on).0

-- and after the take of a signal, whose letter is the first for end 0
pub taken_reads : (system : System) (log : List Entry) (p : Pid) (n : ℕ) (s : ProcState) → is_system system ≡ true → IsLegalBy Stands system log → silent_upto system log p n ≡ Some s → has_ended (s.small).status ≡ false → can_take s ≡ true
    → ReadsFrom (saved_of system log p) (taken s).mail
taken_reads system log p n s valid legal silent goes_on can =
    let before = silent_read system log p n s valid legal silent goes_on in
    let letter = signal_there s can in
    reads_from (saved_of system log p) (taken s).mail
    (took_read (saved_of system log p) before.1 s.mail (taken s).mail (first 0 letter.0 letter.1 (omega arith) refl) before.0)
