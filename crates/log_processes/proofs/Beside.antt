-- What an entry leaves of a process by which it is not born, does not fork, is not cut and does not end.
use Rattle.std.proofs.Common.{◌≡◌, ℕ, suc, ◌+◌, refl, sym, ◌∙◌, ap, List, [], ◌∷◌, ◌++◌, length, length-append, append-nil, Bool, true, false, cond, not, ◌||◌, eq-eqb, Option, Some, None, is_some, true≢false}
use Rattle.std.specs.Prelude.{◌≢◌, option_map}
use Rattle.std.specs.Option.{option_map_or}
use Rattle.std.proofs.lemmas.Bool.{and_parts}
use Rattle.std.proofs.lemmas.Option.{same_Some}
use Rattle.t32_base.specs.declared.process.Pid.{Pid}
use Rattle.t32_base.specs.declared.letter.Letter.{Letter}
use Rattle.sys_text.specs.declared.system.System.{System}
use Rattle.sys_text.specs.Valid.{is_system}
use Rattle.proc_state.specs.State.{ProcState, has_ended}
use Rattle.sys_calls.specs.declared.steps.Emission.{Emission}
use Rattle.sys_calls.specs.declared.steps.Emission.TheVariants.{Mail as Sent, Exit as Ended}
use Rattle.sys_calls.proofs.RunLemma.{all_delivered}
use Rattle.bus_msg.specs.declared.entry.What.{What}
use Rattle.bus_msg.specs.declared.entry.What.TheVariants.{Mail, Birth, Exit, Sync, Rebackup, Done}
use Rattle.bus_msg.specs.declared.entry.Entry.{Entry}
use Rattle.bus_msg.specs.Places.{same_pid}
use Rattle.bus_msg.specs.PlacedAfter.{what}
use Rattle.cert_sched.specs.Parts.{after_last}
use Rattle.cert_sched.specs.Schedule.{items_of, process_after, run_upto, steps_in}
use Rattle.cert_sched.specs.Deeds.{is_birth_of, is_cut, letter_for, letters_to, numbered, saved_letters, start_of, starts}
use Rattle.cert_sched.specs.Steps.{after_items, saved_of, silent_upto, start_steps}
use Rattle.cert_sched.specs.Kinds.{KindHolds, after_take}
use Rattle.cert_sched.specs.Legal.{IsLegalBy, Stands, MayStand}
use Rattle.cert_sched.specs.Simulation.{IsUnended}
use Rattle.cert_sched.proofs.BirthLaws.{sync_taken}
use Rattle.cert_sched.proofs.BornLaws.{birth_applied}
use Rattle.cert_sched.proofs.CameLaws.{received-all, same_of}
use Rattle.cert_sched.proofs.EndedLaws.{letter_told, standing_runs}
use Rattle.cert_sched.proofs.LogLaws.{process_after-quiet}
use Rattle.cert_sched.proofs.MailLaws.{process_after-receiver, process_after-sender, received}
use Rattle.cert_sched.proofs.RecordLaws.{saved_letters-other, saved_letters-start, start_of-snoc}
use Rattle.cert_sched.proofs.RollLaws.{all_roll}
use Rattle.cert_sched.proofs.StepLaws.{SentTo, is_sent, process_after-beside, process_after-others}
use Rattle.cert_sched.proofs.ThereLaws.{unended_there}
use Rattle.log_processes.specs.declared.sender.Sender.{Sender}
use Rattle.log_processes.specs.Arrivals.{KeepsOn, leaves, stepped}
use Rattle.log_processes.specs.Sending.{KeepsProcess}

not_true : (b : Bool) → not b ≡ true → b ≡ false
not_true true is = absurd (true≢false (sym is))
not_true false is = refl

or_false : (b : Bool) → b ≡ false → (b || false) ≡ false
or_false true is = absurd (true≢false is)
or_false false is = refl

-- such an entry does not start the process again
quiet : (p : Pid) (w : What) → leaves p w ≡ true → (is_cut p w || is_birth_of p w) ≡ false
quiet p (Birth parent at child end) is = not_true (same_pid child p) (and_parts (not (same_pid parent p)) (not (same_pid child p)) is).1
quiet p (Sync pid small read took) is = or_false (same_pid pid p) (not_true (same_pid pid p) is)
quiet p (Rebackup to fresh recs) is = or_false (is_cut p (Rebackup to fresh recs)) (not_true (is_cut p (Rebackup to fresh recs)) is)
quiet p _ is = refl

apart_from : (q p : Pid) → same_pid q p ≡ false → p.0 ≢ q.0
apart_from q p is e = true≢false (sym (eq-eqb q.0 p.0 (sym e)) ∙ is)

record Reached (o : Option ProcState) : Type 0 where
  pub at : ProcState
  pub is : o ≡ Some at

reached : (o : Option ProcState) → is_some o ≡ true → Reached o
reached None some = absurd (true≢false (sym some))
reached (Some s) some = record { at = s; is = refl }

mapped : {B : Type 0} (f : ProcState → B) (o : Option ProcState) (b : B) → option_map f o ≡ Some b → is_some o ≡ true
mapped f None b is = cc
mapped f (Some s) b is = refl

by_standing : (system : System) (log : List Entry) (e : Entry) → MayStand system log e → Stands system log e
by_standing system log e may = may.stands

module _ (system : System) (log : List Entry) (e : Entry) (p : Pid) (valid : is_system system ≡ true) (legal : IsLegalBy MayStand system log) (may : MayStand system log e) (unended : IsUnended system log p) where
  abbrev more : List Entry
  more = log ++ e ∷ []

  runs : (s : ProcState) → process_after system log p ≡ Some s → has_ended (s.small).status ≡ false
  runs s there = standing_runs MayStand by_standing system log legal (((may.stands).placed).2) p s there unended

  -- ---- where it stands

  abbrev Arrives : What → Type 0
  Arrives w = (s : ProcState) → stepped system log w p ≡ Some s → process_after system more p ≡ Some (all_delivered s (letter_for p w))

  as_it_was : process_after system more p ≡ process_after system log p → (s : ProcState) → process_after system log p ≡ Some s → process_after system more p ≡ Some s
  as_it_was same s there = same ∙ there

  mail_arrives : (at : ℕ) (letter : Letter) → what e ≡ Mail at letter → KindHolds system log e (Mail at letter) → Arrives (Mail at letter)
  mail_arrives at letter is kind s = by_writer (same_pid letter.from p) refl
    where
      sent : SentTo system log letter.from at (Sent letter)
      sent = is_sent system log letter.from at (Sent letter) kind

      by_writer : (b : Bool) → same_pid letter.from p ≡ b → cond b (after_items system log (Mail at letter)) (process_after system log p) ≡ Some s → process_after system more p ≡ Some (all_delivered s (letter_for p (Mail at letter)))
      by_writer true own there =
          let me : letter.from ≡ p = same_of letter.from p own in
          let here : sent.after ≡ s = same_Some sent.after s (sym (ap (option_map (λ (r : Emission × ProcState). r.1)) sent.is) ∙ there) in
          let goes_on : has_ended (s.small).status ≡ false = ap (λ (t : ProcState). has_ended (t.small).status) (sym here) ∙ letter_told system log letter.from at letter sent.after sent.is in
          ap (process_after system more) (sym me) ∙ process_after-sender system log e letter.from at (Sent letter) sent.after sent.is (refl, is)
          ∙ (λ i. Some (received (Sent letter) (me i) (here i))) ∙ ap Some (received-all letter p s goes_on)
      by_writer false other there =
          process_after-receiver system log e letter.from at (Sent letter) sent.after p sent.is (refl, is) (apart_from letter.from p other)
          ∙ ap (option_map (received (Sent letter) p)) there ∙ ap Some (received-all letter p s (runs s there))

  beside : (w : What) (q : Pid) (at : ℕ) → what e ≡ w → is_some (silent_upto system log q at) ≡ true → ((k : _) → items_of k w ≡ run_upto k q at) → same_pid q p ≡ false → process_after system more p ≡ process_after system log p
  beside w q at is silent items other =
      let r = reached (silent_upto system log q at) silent in
      process_after-beside system log e q at r.at p r.is (λ k. ap (items_of k) is ∙ items k) (apart_from q p other)

  arrives : (w : What) → what e ≡ w → leaves p w ≡ true → KindHolds system log e w → Arrives w
  arrives (Mail at letter) is goes kind = mail_arrives at letter is kind
  arrives (Birth parent at child end) is goes kind =
      let both = and_parts (not (same_pid parent p)) (not (same_pid child p)) goes in
      as_it_was ((birth_applied system log e parent at child end is (may.stands).applies kind.end_is).others p (not_true (same_pid parent p) both.0) (not_true (same_pid child p) both.1))
  arrives (Exit pid at end) is goes kind =
      let sent = is_sent system log pid at (Ended end) kind.0 in
      as_it_was (process_after-others system log e pid at (Ended end) sent.after p sent.is is refl (apart_from pid p (not_true (same_pid pid p) goes)))
  arrives (Sync pid small read None) is goes kind =
      as_it_was (beside (Sync pid small read None) pid small.steps is (mapped (λ s. (after_take None s).small) (silent_upto system log pid small.steps) small kind.state)
      (λ k. append-nil (run_upto k pid small.steps)) (not_true (same_pid pid p) goes))
  arrives (Sync pid small read (Some g)) is goes kind =
      as_it_was (((sync_taken system log e pid small read g is kind).made).others p (not_true (same_pid pid p) goes))
  arrives (Rebackup to true []) is goes kind = absurd kind
  arrives (Rebackup to true (r ∷ rs)) is goes kind =
      as_it_was (beside (Rebackup to true (r ∷ rs)) r.pid (steps_in r.state) is (sym (ap (λ w. is_some (after_items system log w)) is) ∙ kind.silent) (λ k. refl) (not_true (same_pid r.pid p) goes))
  arrives (Rebackup to false recs) is goes kind = as_it_was (process_after-quiet system log e (λ k. ap (items_of k) is) p)
  arrives (Done rests) is goes kind = absurd (true≢false (sym goes))
  arrives w is goes kind = as_it_was (process_after-quiet system log e (λ k. ap (items_of k) is) p)

  -- ---- where it started

  record Started : Type 0 where
    pub start : ProcState
    pub is : start_of system log p ≡ Some start

  started : Started
  started = by_process (process_after system log p) refl (unended_there MayStand by_standing system log p valid legal unended)
    where
      by_process : (o : Option ProcState) → process_after system log p ≡ o → is_some o ≡ true → Started
      by_process None there some = absurd (true≢false (sym some))
      by_process (Some now) there some = let r = (all_roll MayStand by_standing system log valid legal).rolls p now there (runs now there) in record { start = r.start; is = r.started }

  module _ (still : starts p e ≡ false) where
    same_start : start_of system more p ≡ start_of system log p
    same_start = start_of-snoc system log e p ∙ ap (λ c. cond c (process_after system more p) (start_of system log p)) still

    pub start_stays : start_steps system more p ≡ start_steps system log p
    start_stays = ap (λ (o : Option ProcState). option_map_or (λ (s : ProcState). (s.small).steps) o 0) same_start

    count_numbered : (n : ℕ) (letters : List Letter) → length (numbered n letters) ≡ length letters
    count_numbered n [] = refl
    count_numbered n (l ∷ letters) = ap suc (count_numbered (n + 1) letters)

    pub more_saved : length (saved_of system more p) ≡ length (saved_of system log p) + length (letter_for p (what e))
    more_saved =
        let s = started in
        ap (λ (o : Option ProcState). length (option_map_or (saved_letters more p) o [])) (same_start ∙ s.is)
        ∙ ap length (saved_letters-other log e p s.start still)
        ∙ length-append (saved_letters log p s.start) (numbered ((s.start).next + length (letters_to p (after_last (starts p) log))) (letter_for p (what e)))
        ∙ ap (λ n. length (saved_letters log p s.start) + n) (count_numbered ((s.start).next + length (letters_to p (after_last (starts p) log))) (letter_for p (what e)))
        ∙ ap (λ (o : Option ProcState). length (option_map_or (saved_letters log p) o []) + length (letter_for p (what e))) (sym s.is)

    -- where it does not start again, the letters that come to it are saved, and its start is the same
    pub goes_on : (t : ProcState) (start saved : ℕ) → process_after system more p ≡ Some t → start ≡ start_steps system log p → saved ≡ length (saved_of system log p)
        → KeepsProcess p t start (saved + length (letter_for p (what e))) system more
    goes_on t start saved there begins letters =
        record { there = there; begins = begins ∙ sym start_stays; letters = ap (λ n. n + length (letter_for p (what e))) letters ∙ sym more_saved }

pub keeps_on : (e : Entry) (p : Pid) (s : ProcState) (old : Sender) (t : ProcState) (new : Sender) → t ≡ all_delivered s (letter_for p (what e)) → new.start ≡ old.start → new.saved ≡ old.saved + length (letter_for p (what e))
    → KeepsOn e p s old t new
keeps_on e p s old t new at start saved system log valid legal may unended goes before =
    let there = arrives system log e p valid legal may unended (what e) refl goes (may.stands).kind s before.there ∙ ap Some (sym at) in
    let k = goes_on system log e p valid legal may unended (quiet p (what e) goes) t old.start old.saved there before.begins before.letters in
    record { there = k.there; begins = start ∙ k.begins; letters = saved ∙ k.letters }

-- ---- where it starts again

-- it starts as it stands then, with the letters that wait
pub begins_again : (system : System) (log : List Entry) (e : Entry) (p : Pid) (t : ProcState) → starts p e ≡ true → process_after system (log ++ e ∷ []) p ≡ Some t
    → KeepsProcess p t (t.small).steps (length t.mail) system (log ++ e ∷ [])
begins_again system log e p t begins there =
    let now : start_of system (log ++ e ∷ []) p ≡ Some t = start_of-snoc system log e p ∙ ap (λ c. cond c (process_after system (log ++ e ∷ []) p) (start_of system log p)) begins ∙ there in
    record {
      there = there;
      begins = ap (λ (o : Option ProcState). option_map_or (λ (s : ProcState). (s.small).steps) o 0) (sym now);
      letters = ap length (sym (saved_letters-start log e p t begins)) ∙ ap (λ (o : Option ProcState). length (option_map_or (saved_letters (log ++ e ∷ []) p) o [])) (sym now);
    }
