-- Rolling forward: in a legal log each process that has not ended does again what it did since it started, and stands again where it is.
use Rattle.std.proofs.Common.{◌≡◌, ℕ, ◌+◌, ◌-◌, refl, sym, ◌∙◌, ap, subst, arith, List, [], ◌∷◌, ◌++◌, length, length-append, append-nil, add-zero, Bool, true, false, cond, ◌||◌, Option, Some, None, true≢false}
use Rattle.std.specs.Prelude.{option_and_then, option_map}
use Rattle.std.proofs.lemmas.Grind.{flat_map-append}
use Rattle.t32_base.specs.declared.process.Pid.{Pid}
use Rattle.t32_base.specs.declared.letter.Letter.{Letter}
use Rattle.sys_text.specs.declared.system.System.{System}
use Rattle.sys_text.specs.Valid.{is_system}
use Rattle.proc_state.specs.State.{ProcState, has_ended}
use Rattle.sys_calls.proofs.RunLemma.{all_delivered}
use Rattle.bus_msg.specs.declared.entry.What.{What}
use Rattle.bus_msg.specs.declared.entry.What.TheVariants.{Mail, Birth}
use Rattle.bus_msg.specs.declared.entry.Entry.{Entry}
use Rattle.bus_msg.specs.PlacedAfter.{what}
use Rattle.cert_sched.specs.Parts.{after_last}
use Rattle.cert_sched.specs.Schedule.{plain_after, process_after, placement}
use Rattle.roll_forward.specs.Deeds.{Deed, births_in}
use Rattle.cert_sched.specs.Deeds.{starts, is_cut, is_birth_of, start_of, since, deeds_in, letter_for, letters_to, numbered, arrived_count, saved_letters}
use Rattle.roll_forward.specs.Replay.{replayed}
use Rattle.cert_sched.specs.Rolling.{refilled, replay_from, RollsForward}
use Rattle.cert_sched.specs.Legal.{IsLegalBy, Stands}
use Rattle.cert_sched.proofs.ListLaws.{after_last-snoc}
use Rattle.cert_sched.proofs.RecordLaws.{start_of-snoc, since-snoc, saved_letters-start, saved_letters-other, arrived_count-other, letters_started}
use Rattle.cert_sched.proofs.RisingLaws.{NoTwo}
use Rattle.cert_sched.proofs.PidLaws.{placed_pids}
use Rattle.cert_sched.proofs.Induction.{legal_induction}
use Rattle.cert_sched.proofs.MailLaws.{boot_arrived}
use Rattle.cert_sched.proofs.ReplayLaws.{Replays, replays_on, replays_all_delivered, all_delivered-is, replays_counts, replays_goes_on, replays_computes}
use Rattle.cert_sched.proofs.CameLaws.{IsStandingRule, Goes, Came, went_on, was_cut, was_born, came}
use Rattle.cert_sched.proofs.FreshLaws.{Numbered, numbered_at_boot, numbered_more}

-- ---- the invariant

-- From its start, with the saved letters in its mailbox, steps and forks that do what it did since lead to where it is; and the letters that
-- had arrived where it started, with those that came since, are those that came to it.
pub record Rolls (system : System) (log : List Entry) (p : Pid) (now : ProcState) : Type 0 where
  pub start : ProcState
  pub started : start_of system log p ≡ Some start
  pub made : ℕ
  pub replays : Replays made (refilled log p start) (since log p) now
  pub arrived : arrived_count log p ≡ start.next + length (letters_to p (after_last (starts p) log))

-- as many letters have arrived as came to it
pub rolls_next : (system : System) (log : List Entry) (p : Pid) (now : ProcState) → Rolls system log p now → now.next ≡ arrived_count log p
rolls_next system log p now r = (replays_counts r.made (refilled log p r.start) now (since log p) r.replays).next

-- the steps are those between its start and where it is
pub rolls_steps : (system : System) (log : List Entry) (p : Pid) (now : ProcState) (r : Rolls system log p now) → (now.small).steps ≡ ((r.start).small).steps + r.made
rolls_steps system log p now r = (replays_counts r.made (refilled log p r.start) now (since log p) r.replays).steps

-- so it rolls forward
pub rolls-forward : (system : System) (log : List Entry) (p : Pid) (now : ProcState) → process_after system log p ≡ Some now → Rolls system log p now → RollsForward system log p
rolls-forward system log p now there r =
    let steps = rolls_steps system log p now r in
    let made : (now.small).steps - ((r.start).small).steps ≡ r.made = omega (arith, steps) in
    ap (option_and_then (λ start. option_and_then (replay_from log p start) (process_after system log p))) r.started
    ∙ ap (option_and_then (replay_from log p r.start)) there
    ∙ ap (λ n. replayed n (refilled log p r.start) (births_in (since log p))) made
    ∙ replays_computes r.made (refilled log p r.start) now (since log p) r.replays
    ∙ sym (ap (option_map (λ (now : ProcState). let pair : ProcState × List Deed = (now, since log p) in pair)) there)

-- ---- the letters since some kind of entry

letters_more : (t : Entry → Bool) (log : List Entry) (e : Entry) (p : Pid) → t e ≡ false → letters_to p (after_last t (log ++ e ∷ [])) ≡ letters_to p (after_last t log) ++ letter_for p (what e)
letters_more t log e p h =
    ap (letters_to p) (after_last-snoc t log e ∙ ap (λ b. cond b [] (after_last t log ++ e ∷ [])) h)
    ∙ flat_map-append (λ (f : Entry). letter_for p (what f)) (after_last t log) (e ∷ []) ∙ ap (λ ls. letters_to p (after_last t log) ++ ls) (append-nil (letter_for p (what e)))

-- ---- one more entry

module _ (system : System) (log : List Entry) (e : Entry) (p : Pid) where
  -- where the process starts anew it has made nothing since
  started_anew : (now : ProcState) → process_after system (log ++ e ∷ []) p ≡ Some now → starts p e ≡ true → arrived_count (log ++ e ∷ []) p ≡ now.next → Rolls system (log ++ e ∷ []) p now
  started_anew now there starting count =
      let none : letters_to p (after_last (starts p) (log ++ e ∷ [])) ≡ [] = letters_started (starts p) log e p starting in
      let mail = saved_letters-start log e p now starting in
      record {
        start = now;
        started = start_of-snoc system log e p ∙ ap (λ b. cond b (process_after system (log ++ e ∷ []) p) (start_of system log p)) starting ∙ there;
        made = 0;
        replays = (since-snoc log e p ∙ ap (λ b. cond b [] (since log p ++ deeds_in p (what e))) starting, λ i. record now { mail = sym mail i; next = sym count i });
        arrived = count ∙ sym (add-zero now.next) ∙ ap (λ (ls : List Letter). now.next + length ls) (sym none);
      }

  cut_no_letter : (w : What) → is_cut p w ≡ true → letter_for p w ≡ []
  cut_no_letter (Mail at letter) h = absurd (true≢false (sym h))
  cut_no_letter _ h = refl

  cut_no_birth : (w : What) → is_cut p w ≡ true → is_birth_of p w ≡ false
  cut_no_birth (Birth parent at child end) h = absurd (true≢false (sym h))
  cut_no_birth _ h = refl

  -- a cut: it starts from where it is
  after_cut : (was now : ProcState) → process_after system (log ++ e ∷ []) p ≡ Some now → is_cut p (what e) ≡ true → now.next ≡ was.next → Rolls system log p was → Rolls system (log ++ e ∷ []) p now
  after_cut was now there cut same r =
      let none : letter_for p (what e) ≡ [] = cut_no_letter (what e) cut in
      let count : arrived_count (log ++ e ∷ []) p ≡ arrived_count log p =
      arrived_count-other log e p (cut_no_birth (what e) cut) ∙ ap (λ (ls : List Letter). arrived_count log p + length ls) none ∙ add-zero (arrived_count log p) in
      started_anew now there (ap (λ b. b || is_birth_of p (what e)) cut) (count ∙ sym (rolls_next system log p was r) ∙ sym same)

  or_else : (b : Bool) → (b || true) ≡ true
  or_else true = refl
  or_else false = refl

  -- a birth: it starts from there, and no letter has come to it
  after_birth : (now : ProcState) → process_after system (log ++ e ∷ []) p ≡ Some now → is_birth_of p (what e) ≡ true → now.next ≡ 0 → Rolls system (log ++ e ∷ []) p now
  after_birth now there birth none =
      started_anew now there (ap (λ b. is_cut p (what e) || b) birth ∙ or_else (is_cut p (what e))) (ap length (letters_started (λ f. is_birth_of p (what f)) log e p birth) ∙ sym none)

  -- the letters of the entry are the last of those saved
  pub refilled_more : (start : ProcState) → starts p e ≡ false → is_birth_of p (what e) ≡ false → arrived_count log p ≡ start.next + length (letters_to p (after_last (starts p) log))
      → all_delivered (refilled log p start) (letter_for p (what e)) ≡ refilled (log ++ e ∷ []) p start
  refilled_more start quiet birth arrived =
      let mail : saved_letters log p start ++ numbered (arrived_count log p) (letter_for p (what e)) ≡ saved_letters (log ++ e ∷ []) p start =
      ap (λ n. saved_letters log p start ++ numbered n (letter_for p (what e))) arrived ∙ sym (saved_letters-other log e p start quiet) in
      let count : arrived_count log p + length (letter_for p (what e)) ≡ arrived_count (log ++ e ∷ []) p = sym (arrived_count-other log e p birth) in
      all_delivered-is (refilled log p start) (letter_for p (what e)) ∙ (λ i. record start { mail = mail i; next = count i })

  -- it goes on: its replay goes on by the same steps, and the letters arrive in it too
  after_more : (was now : ProcState) → starts p e ≡ false → is_birth_of p (what e) ≡ false → Goes p (what e) was now → Rolls system log p was → Rolls system (log ++ e ∷ []) p now
  after_more was now quiet birth g r =
      let letters = letter_for p (what e) in
      let made : Replays (r.made + g.made) (refilled log p r.start) (since log p ++ deeds_in p (what e)) g.to = replays_on r.made g.made (refilled log p r.start) was g.to (since log p) (deeds_in p (what e)) r.replays g.replays in
      let came : Replays (r.made + g.made) (all_delivered (refilled log p r.start) letters) (since log p ++ deeds_in p (what e)) (all_delivered g.to letters) =
      replays_all_delivered (r.made + g.made) (refilled log p r.start) g.to (since log p ++ deeds_in p (what e)) letters made in
      let deeds : since log p ++ deeds_in p (what e) ≡ since (log ++ e ∷ []) p = sym (since-snoc log e p ∙ ap (λ b. cond b [] (since log p ++ deeds_in p (what e))) quiet) in
      let more : length (letters_to p (after_last (starts p) (log ++ e ∷ []))) ≡ length (letters_to p (after_last (starts p) log)) + length letters =
      ap length (letters_more (starts p) log e p quiet) ∙ length-append (letters_to p (after_last (starts p) log)) letters in
      let before = r.arrived in
      let count = arrived_count-other log e p birth in
      record {
        start = r.start;
        started = start_of-snoc system log e p ∙ ap (λ b. cond b (process_after system (log ++ e ∷ []) p) (start_of system log p)) quiet ∙ r.started;
        made = r.made + g.made;
        replays =
            subst (λ s. Replays (r.made + g.made) s (since (log ++ e ∷ []) p) now) (refilled_more r.start quiet birth before)
            (subst (λ ds. Replays (r.made + g.made) (all_delivered (refilled log p r.start) letters) ds now) deeds
            (subst (Replays (r.made + g.made) (all_delivered (refilled log p r.start) letters) (since log p ++ deeds_in p (what e))) (sym g.arrives) came));
        arrived = omega (arith, before, more, count);
      }

  pub goes_not_ended : (w : What) (was now : ProcState) → Goes p w was now → has_ended (now.small).status ≡ false → has_ended (was.small).status ≡ false
  goes_not_ended w was now g goes_on =
      replays_goes_on g.made was g.to (deeds_in p w) g.replays
      (ap (λ (s : ProcState). has_ended (s.small).status) (sym (all_delivered-is g.to (letter_for p w))) ∙ ap (λ (s : ProcState). has_ended (s.small).status) (sym g.arrives) ∙ goes_on)

  goes_next : (w : What) (was now : ProcState) → letter_for p w ≡ [] → Goes p w was now → now.next ≡ was.next
  goes_next w was now none g =
      ap (λ (s : ProcState). s.next) (g.arrives ∙ ap (all_delivered g.to) none) ∙ (replays_counts g.made was g.to (deeds_in p w) g.replays).next

  -- it rolls forward after the entry too
  rolls_more : (now : ProcState) → process_after system (log ++ e ∷ []) p ≡ Some now → has_ended (now.small).status ≡ false → Came system log (what e) p now
      → ((was : ProcState) → process_after system log p ≡ Some was → has_ended (was.small).status ≡ false → Rolls system log p was) → Rolls system (log ++ e ∷ []) p now
  rolls_more now there goes_on (went_on was here birth g) before = by_cut (is_cut p (what e)) refl
    where
      r : Rolls system log p was
      r = before was here (goes_not_ended (what e) was now g goes_on)

      by_cut : (b : Bool) → is_cut p (what e) ≡ b → Rolls system (log ++ e ∷ []) p now
      by_cut true cut = after_cut was now there cut (goes_next (what e) was now (cut_no_letter (what e) cut) g) r
      by_cut false no_cut = after_more was now (ap (λ b. b || is_birth_of p (what e)) no_cut ∙ birth) birth g r
  rolls_more now there goes_on (was_cut was here open_still cut same) before = after_cut was now there cut same (before was here open_still)
  rolls_more now there goes_on (was_born birth none) before = after_birth now there birth none

-- ---- the start

rolls_at_boot : (system : System) (p : Pid) (now : ProcState) → process_after system [] p ≡ Some now → Rolls system [] p now
unfolding plain_after
rolls_at_boot system p now there =
    let none : now.next ≡ 0 = boot_arrived system p now there in
    record {
      start = now;
      started = there;
      made = 0;
      replays = (refl, λ i. record now { mail = sym (append-nil now.mail) i; next = none i });
      arrived = sym (add-zero now.next ∙ none);
    }

-- ---- the whole

-- the pids are apart, and each process that has not ended rolls forward
pub record AllRoll (system : System) (log : List Entry) : Type 0 where
  pub numbered : Numbered (placement system log)
  pub rolls : (p : Pid) (now : ProcState) → process_after system log p ≡ Some now → has_ended (now.small).status ≡ false → Rolls system log p now

pub all_at_boot : (system : System) → is_system system ≡ true → AllRoll system []
unfolding placement
all_at_boot system valid = record { numbered = numbered_at_boot system valid; rolls = λ p now there goes_on. rolls_at_boot system p now there }

pub two_apart : (system : System) (log : List Entry) → AllRoll system log → NoTwo (placed_pids (placement system log).placed)
two_apart system log all = (all.numbered).two

pub all_more : (system : System) (log : List Entry) (e : Entry) → AllRoll system log → Stands system log e → AllRoll system (log ++ e ∷ [])
all_more system log e all stands = record {
  numbered = numbered_more system log e stands all.numbered;
  rolls = λ p now there goes_on. rolls_more system log e p now there goes_on (came system log e stands (two_apart system log all) p now there goes_on) (all.rolls p);
}

pub all_roll : (May : System → List Entry → Entry → Type 0) → IsStandingRule May → (system : System) (log : List Entry) → is_system system ≡ true → IsLegalBy May system log → AllRoll system log
all_roll May standing system log valid legal =
    legal_induction May system (AllRoll system) (all_at_boot system valid) (λ log e all may. all_more system log e all (standing system log e may)) log legal

-- the process is not there, or has not ended
abbrev pub HasNotEnded : System → List Entry → Pid → Type 0
HasNotEnded system log p = (now : ProcState) → process_after system log p ≡ Some now → has_ended (now.small).status ≡ false

-- in a log that is legal by such a rule each process that has not ended rolls forward
pub rolls_forward-by : (May : System → List Entry → Entry → Type 0) → IsStandingRule May → (system : System) (log : List Entry) (p : Pid) → is_system system ≡ true → IsLegalBy May system log → HasNotEnded system log p
    → RollsForward system log p
rolls_forward-by May standing system log p valid legal goes_on = by_process (process_after system log p) refl
  where
    nothing : (o : Option ProcState) → option_and_then (λ (start : ProcState). option_and_then (replay_from log p start) None) o ≡ None
    nothing None = refl
    nothing (Some s) = refl

    by_process : (o : Option ProcState) → process_after system log p ≡ o → RollsForward system log p
    by_process None none = rw none (nothing (start_of system log p))
    by_process (Some now) there = rolls-forward system log p now there ((all_roll May standing system log valid legal).rolls p now there (goes_on now there))
