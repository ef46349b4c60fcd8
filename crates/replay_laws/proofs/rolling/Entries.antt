-- A process that rolls forward, where the log has an entry more: the letters of the entry arrive, and what is left stays.
use Rattle.std.proofs.Common.{◌≡◌, ◌+◌, refl, sym, ◌∙◌, ap, subst, arith, List, [], ◌∷◌, ◌++◌, length, length-append, append-nil, Bool, true, false, cond, ◌||◌, Option, Some, None, is_some, true≢false}
use Rattle.std.specs.Prelude.{fold}
use Rattle.std.proofs.lemmas.Grind.{flat_map-append}
use Rattle.std.proofs.lemmas.Option.{same_Some}
use Rattle.t32_base.specs.declared.process.Pid.{Pid}
use Rattle.t32_base.specs.declared.process.Counts.{Counts}
use Rattle.t32_base.specs.declared.letter.Letter.{Letter}
use Rattle.t32_base.proofs.Facts.{or_true}
use Rattle.sys_text.specs.declared.system.System.{System}
use Rattle.sys_text.specs.Valid.{is_system}
use Rattle.proc_state.specs.State.{ProcState, delivered}
use Rattle.sys_calls.proofs.RunLemma.{all_delivered}
use Rattle.bus_msg.specs.declared.entry.What.{What}
use Rattle.bus_msg.specs.declared.entry.What.TheVariants.{Exit}
use Rattle.bus_msg.specs.declared.entry.Entry.{Entry}
use Rattle.bus_msg.specs.Places.{unended_at}
use Rattle.bus_msg.specs.PlacedAfter.{what}
use Rattle.cert_sched.specs.Parts.{after_last}
use Rattle.cert_sched.specs.Schedule.{plain_after, process_after, placement}
use Rattle.cert_sched.specs.Account.{is_exit_of}
use Rattle.cert_sched.specs.Deeds.{starts, is_cut, is_birth_of, start_of, since, deeds_in, letter_for, letters_to, arrived_count}
use Rattle.cert_sched.specs.Rolling.{refilled, RollsAs}
use Rattle.cert_sched.specs.Legal.{IsLegalBy, Stands}
use Rattle.cert_sched.specs.Simulation.{IsUnended}
use Rattle.cert_sched.proofs.ListLaws.{after_last-snoc}
use Rattle.cert_sched.proofs.LogLaws.{placement-snoc, IsLegal-before, IsLegal-last, IsLegal-snoc}
use Rattle.cert_sched.proofs.RecordLaws.{start_of-snoc, since-snoc, arrived_count-other, letters_started}
use Rattle.cert_sched.proofs.Induction.{legal_induction}
use Rattle.cert_sched.proofs.MailLaws.{boot_arrived}
use Rattle.cert_sched.proofs.ReplayLaws.{Replays, replays_all_delivered}
use Rattle.cert_sched.proofs.CameLaws.{IsStandingRule}
use Rattle.cert_sched.proofs.StayingUnended.{stays_unended}
use Rattle.cert_sched.proofs.CutLaws.{cut_unended}
use Rattle.cert_sched.proofs.RollLaws.{Rolls, all_roll, refilled_more}
use Rattle.cert_sched.proofs.OpenLaws.{unended_open}
use Rattle.cert_sched.proofs.ThereLaws.{unended_there}
use Rattle.replay_laws.proofs.rolling.Bearing.{born_without_letters}
use Rattle.replay_laws.proofs.rolling.Replaying.{rolling_of, rolls_as}
use Rattle.replay_laws.proofs.rolling.StartedThere.{started_not_born}
use Rattle.cert_sched.proofs.LiveLaws.{none_legal}

-- ---- the letters that came to a process

-- letters that arrive, one after another
pub fold_delivered : (s : ProcState) (letters : List Letter) → fold delivered s letters ≡ all_delivered s letters
fold_delivered s [] = refl
fold_delivered s (letter ∷ letters) = fold_delivered (delivered s letter) letters

-- the letters that had arrived where it started, with those that came since, are those that came to it
abbrev pub CountsLetters : System → List Entry → Pid → Type 0
CountsLetters system log p = (start : ProcState) → start_of system log p ≡ Some start → arrived_count log p ≡ start.next + length (letters_to p (after_last (starts p) log))

-- a process that rolls forward counts them so
pub rolls_count : (system : System) (log : List Entry) (p : Pid) (now : ProcState) → Rolls system log p now → CountsLetters system log p
rolls_count system log p now r start started = subst (λ (s : ProcState). arrived_count log p ≡ s.next + length (letters_to p (after_last (starts p) log))) (same_Some r.start start (sym r.started ∙ started)) r.arrived

-- a process that has not ended counts them so, by any rule by which an entry stands
pub unended_counts : (May : System → List Entry → Entry → Type 0) → IsStandingRule May → (system : System) (log : List Entry) (p : Pid) → is_system system ≡ true → IsLegalBy May system log → IsUnended system log p → CountsLetters system log p
unended_counts May standing system log p valid legal unended start started =
    by_process (process_after system log p) refl (unended_there May standing system log p valid legal unended)
  where
    by_process : (o : Option ProcState) → process_after system log p ≡ o → is_some o ≡ true → arrived_count log p ≡ start.next + length (letters_to p (after_last (starts p) log))
    by_process None is there = absurd (true≢false (sym there))
    by_process (Some now) is there = rolls_count system log p now ((all_roll May standing system log valid legal).rolls p now is (unended_open May standing system log p valid legal unended now is)) start started

-- ---- entries that start no process

module _ (system : System) (log : List Entry) (e : Entry) (p : Pid) where
  pub quiet_of : is_cut p (what e) ≡ false → is_birth_of p (what e) ≡ false → starts p e ≡ false
  quiet_of no_cut unborn = ap (λ b. b || is_birth_of p (what e)) no_cut ∙ unborn

  pub same_start : starts p e ≡ false → start_of system (log ++ e ∷ []) p ≡ start_of system log p
  same_start quiet = start_of-snoc system log e p ∙ ap (λ b. cond b (process_after system (log ++ e ∷ []) p) (start_of system log p)) quiet

  letters_more : starts p e ≡ false → letters_to p (after_last (starts p) (log ++ e ∷ [])) ≡ letters_to p (after_last (starts p) log) ++ letter_for p (what e)
  letters_more quiet =
      ap (letters_to p) (after_last-snoc (starts p) log e ∙ ap (λ b. cond b [] (after_last (starts p) log ++ e ∷ [])) quiet)
      ∙ flat_map-append (λ (f : Entry). letter_for p (what f)) (after_last (starts p) log) (e ∷ []) ∙ ap (λ ls. letters_to p (after_last (starts p) log) ++ ls) (append-nil (letter_for p (what e)))

  -- it counts the letters of such an entry
  counts_more : is_cut p (what e) ≡ false → is_birth_of p (what e) ≡ false → CountsLetters system log p → CountsLetters system (log ++ e ∷ []) p
  counts_more no_cut unborn counts start started =
      let quiet = quiet_of no_cut unborn in
      let before = counts start (sym (same_start quiet) ∙ started) in
      let count = arrived_count-other log e p unborn in
      let more : length (letters_to p (after_last (starts p) (log ++ e ∷ []))) ≡ length (letters_to p (after_last (starts p) log)) + length (letter_for p (what e)) =
      ap length (letters_more quiet) ∙ length-append (letters_to p (after_last (starts p) log)) (letter_for p (what e)) in
      omega (arith, before, count, more)

-- a cut is no exit
cut_no_exit : (p : Pid) (w : What) → is_cut p w ≡ true → is_exit_of p w ≡ false
cut_no_exit p (Exit q at end) cut = absurd (true≢false (sym cut))
cut_no_exit p w cut = refl

counts_at_boot : (system : System) (p : Pid) → CountsLetters system [] p
unfolding plain_after
counts_at_boot system p start started = let none : start.next ≡ 0 = boot_arrived system p start started in omega (arith, none)

-- a process that an entry bears has no letters to count
counts_born : (system : System) (log : List Entry) (e : Entry) (p : Pid) → Stands system log e → is_birth_of p (what e) ≡ true → CountsLetters system (log ++ e ∷ []) p
counts_born system log e p stands birth start started =
    let starting : starts p e ≡ true = ap (λ b. is_cut p (what e) || b) birth ∙ or_true (is_cut p (what e)) in
    let there : process_after system (log ++ e ∷ []) p ≡ Some start = sym (start_of-snoc system log e p ∙ ap (λ b. cond b (process_after system (log ++ e ∷ []) p) (start_of system log p)) starting) ∙ started in
    let first : start.next ≡ 0 = born_without_letters system log e p start stands birth there in
    let none : length (letters_to p (after_last (starts p) (log ++ e ∷ []))) ≡ 0 = ap length (letters_started (starts p) log e p starting) in
    let count : arrived_count (log ++ e ∷ []) p ≡ 0 = ap length (letters_started (λ f. is_birth_of p (what f)) log e p birth) in
    omega (arith, first, none, count)

-- in a legal log each process counts them so
pub all_count : (May : System → List Entry → Entry → Type 0) → IsStandingRule May → (system : System) (log : List Entry) (p : Pid) → is_system system ≡ true → IsLegalBy May system log → CountsLetters system log p
all_count May standing system log p valid legal =
    (legal_induction May system (λ log. IsLegalBy Stands system log × CountsLetters system log p) (none_legal Stands system, counts_at_boot system p)
    (λ log e both may. (IsLegal-snoc Stands system log e both.0 (standing system log e may), more log e both.0 (standing system log e may) both.1)) log legal).1
  where
    more : (log : List Entry) (e : Entry) → IsLegalBy Stands system log → Stands system log e → CountsLetters system log p → CountsLetters system (log ++ e ∷ []) p
    more log e legal stands counts = by_kind (is_cut p (what e)) (is_birth_of p (what e)) refl refl
      where
        by_kind : (cut born : Bool) → is_cut p (what e) ≡ cut → is_birth_of p (what e) ≡ born → CountsLetters system (log ++ e ∷ []) p
        by_kind true born cut birth =
            let unended : IsUnended system (log ++ e ∷ []) p =
            ap (λ places. is_some (unended_at places p)) (placement-snoc system log e)
            ∙ stays_unended (what e) (placement system log) p (cut_no_exit p (what e) cut) (cut_unended (placement system log) (e.post).by p (what e) stands.by_right cut) in
            unended_counts Stands (λ system log e stands. stands) system (log ++ e ∷ []) p valid (IsLegal-snoc Stands system log e legal stands) unended
        by_kind false true no_cut birth = counts_born system log e p stands birth
        by_kind false false no_cut unborn = counts_more system log e p no_cut unborn counts

-- ---- one entry more

module _ (system : System) (log : List Entry) (e : Entry) (p : Pid) where
  -- an entry that tells of none of its deeds, and starts it neither again nor anew, brings it its letters and leaves what is left
  pub rolls_entry : (s : ProcState) (counts : Counts) (births : List Pid) → CountsLetters system log p → is_cut p (what e) ≡ false → is_birth_of p (what e) ≡ false → deeds_in p (what e) ≡ []
      → RollsAs system log p s counts births → RollsAs system (log ++ e ∷ []) p (all_delivered s (letter_for p (what e))) counts births
  rolls_entry s counts births letters no_cut unborn none rolls =
      let r = rolling_of system log p s counts births rolls in
      let came = letter_for p (what e) in
      let quiet = quiet_of system log e p no_cut unborn in
      let deeds : since log p ≡ since (log ++ e ∷ []) p =
      sym (append-nil (since log p)) ∙ ap (λ ds. since log p ++ ds) (sym none) ∙ sym (since-snoc log e p ∙ ap (λ b. cond b [] (since log p ++ deeds_in p (what e))) quiet) in
      let more : all_delivered (refilled log p r.start) came ≡ refilled (log ++ e ∷ []) p r.start = refilled_more system log e p r.start quiet unborn (letters r.start r.started) in
      rolls_as system (log ++ e ∷ []) p (all_delivered s came) counts births (record {
        start = r.start;
        started = same_start system log e p quiet ∙ r.started;
        rest = r.rest;
        part = record {
          steps = (r.part).steps;
          done = (r.part).done;
          replays = subst (λ x. Replays (r.part).steps x (r.part).done (all_delivered s came)) more (replays_all_delivered (r.part).steps (refilled log p r.start) s (r.part).done came (r.part).replays);
          parts = sym deeds ∙ (r.part).parts;
        };
        counts_left = r.counts_left;
        births_left = r.births_left;
      })

  -- by any rule by which an entry stands, an entry that does not cut it
  pub rolls_entry_standing : (May : System → List Entry → Entry → Type 0) → IsStandingRule May → (s : ProcState) (counts : Counts) (births : List Pid) → is_system system ≡ true → IsLegalBy May system (log ++ e ∷ []) → is_cut p (what e) ≡ false
      → deeds_in p (what e) ≡ [] → RollsAs system log p s counts births → RollsAs system (log ++ e ∷ []) p (all_delivered s (letter_for p (what e))) counts births
  rolls_entry_standing May standing s counts births valid legal no_cut none rolls =
      let before = IsLegal-before May system log e legal in
      let stands = standing system log e (IsLegal-last May system log e legal) in
      rolls_entry s counts births (all_count May standing system log p valid before) no_cut (started_not_born May standing system log e p rolls.start before stands rolls.started) none rolls

  -- a letter to it arrives, sent by another
  pub rolls_letter : (May : System → List Entry → Entry → Type 0) → IsStandingRule May → (s : ProcState) (counts : Counts) (births : List Pid) (letter : Letter) → is_system system ≡ true → IsLegalBy May system (log ++ e ∷ []) → is_cut p (what e) ≡ false
      → deeds_in p (what e) ≡ [] → letter_for p (what e) ≡ letter ∷ [] → RollsAs system log p s counts births → RollsAs system (log ++ e ∷ []) p (delivered s letter) counts births
  rolls_letter May standing s counts births letter valid legal no_cut none one rolls =
      subst (λ ls. RollsAs system (log ++ e ∷ []) p (all_delivered s ls) counts births) one (rolls_entry_standing May standing s counts births valid legal no_cut none rolls)

  -- an entry that brings it no letter, a loss among them, leaves it
  pub rolls_quiet : (May : System → List Entry → Entry → Type 0) → IsStandingRule May → (s : ProcState) (counts : Counts) (births : List Pid) → is_system system ≡ true → IsLegalBy May system (log ++ e ∷ []) → is_cut p (what e) ≡ false
      → deeds_in p (what e) ≡ [] → letter_for p (what e) ≡ [] → RollsAs system log p s counts births → RollsAs system (log ++ e ∷ []) p s counts births
  rolls_quiet May standing s counts births valid legal no_cut none no_letter rolls =
      subst (λ ls. RollsAs system (log ++ e ∷ []) p (all_delivered s ls) counts births) no_letter (rolls_entry_standing May standing s counts births valid legal no_cut none rolls)
