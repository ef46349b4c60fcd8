-- A process that rolls forward and is not beyond where it was: so it begins, and so an entry more leaves it.
use Rattle.std.proofs.Common.{◌≡◌, ◌≤◌, refl, sym, ◌∙◌, ap, subst, arith, List, [], ◌∷◌, ◌++◌, true, false, Option, Some, None, is_some, true≢false}
use Rattle.std.proofs.lemmas.Option.{same_Some}
use Rattle.t32_base.specs.declared.process.Pid.{Pid}
use Rattle.t32_base.specs.declared.process.Counts.{Counts}
use Rattle.t32_base.specs.declared.letter.BackRec.{BackRec}
use Rattle.t32_base.specs.Small.{SmallState}
use Rattle.sys_text.specs.declared.system.System.{System}
use Rattle.sys_text.specs.Valid.{is_system}
use Rattle.rv_mem.specs.Memory.{Memory}
use Rattle.proc_state.specs.State.{ProcState}
use Rattle.sys_calls.proofs.RunLemma.{all_delivered}
use Rattle.bus_msg.specs.declared.entry.Entry.{Entry}
use Rattle.bus_msg.specs.Places.{unended_at}
use Rattle.bus_msg.specs.PlacedAfter.{what}
use Rattle.roll_forward.specs.Rolling.{started}
use Rattle.cert_sched.specs.Schedule.{process_after, done_after, placement}
use Rattle.cert_sched.specs.Deeds.{is_cut, is_birth_of, start_of, deeds_in, letter_for}
use Rattle.cert_sched.specs.Record.{backup_record}
use Rattle.cert_sched.specs.Legal.{IsLegalBy}
use Rattle.cert_sched.specs.Simulation.{IsUnended}
use Rattle.cert_sched.proofs.LogLaws.{placement-snoc, IsLegal-before, IsLegal-last}
use Rattle.cert_sched.proofs.ReplayLaws.{replays_counts, all_delivered-is}
use Rattle.cert_sched.proofs.CameLaws.{IsStandingRule, Came, went_on, was_cut, was_born, came}
use Rattle.cert_sched.proofs.StayingUnended.{no_deed_no_exit, stays_unended}
use Rattle.cert_sched.proofs.RollLaws.{all_roll, two_apart}
use Rattle.cert_sched.proofs.OpenLaws.{unended_open}
use Rattle.cert_sched.proofs.ThereLaws.{unended_not_born, unended_there}
use Rattle.replay_laws.specs.rolling.Behind.{RollsBehind}
use Rattle.replay_laws.proofs.rolling.Beginning.{rolls_from_record, state_of_record}
use Rattle.replay_laws.proofs.rolling.Entries.{rolls_entry_standing}
use Rattle.replay_laws.proofs.rolling.Reaching.{Led, done_is, start_behind}

-- ---- the begin

-- the process of its record is behind the process in the kernel
pub behind_from_record : (system : System) (log : List Entry) (p : Pid) (now start : ProcState) (kept : BackRec) (small : SmallState) (ram : Memory) → Led system log p now → start_of system log p ≡ Some start → backup_record system log p ≡ Some kept
    → kept.state ≡ Some small → ram.bytes ≡ start.memory → RollsBehind system log p (started small ram kept.saved kept.next) kept.counts kept.births
behind_from_record system log p now start kept small ram led is kept_is stated bytes =
    let rolls = rolls_from_record system log p start kept small ram is kept_is stated bytes in
    let same : led.start ≡ start = same_Some led.start start (sym led.started ∙ is) in
    let state : small ≡ start.small = state_of_record system log p start kept small is kept_is stated in
    record {
      rolls = rolls;
      behind = subst (λ (x : SmallState). x.steps ≤ done_after system log p) (ap (λ (s : ProcState). s.small) same ∙ sym state) (start_behind system log p now led);
    }

-- ---- an entry more

module _ (system : System) (log : List Entry) (e : Entry) (p : Pid) where
  -- the steps of a process in the kernel do not go down
  pub steps_kept : (May : System → List Entry → Entry → Type 0) → IsStandingRule May → is_system system ≡ true → IsLegalBy May system (log ++ e ∷ []) → IsUnended system (log ++ e ∷ []) p → is_cut p (what e) ≡ false → is_birth_of p (what e) ≡ false
      → done_after system log p ≤ done_after system (log ++ e ∷ []) p
  steps_kept May standing valid legal unended no_cut unborn = by_process (process_after system (log ++ e ∷ []) p) refl (unended_there May standing system (log ++ e ∷ []) p valid legal unended)
    where
      came_from : (now : ProcState) → process_after system (log ++ e ∷ []) p ≡ Some now → Came system log (what e) p now → done_after system log p ≤ done_after system (log ++ e ∷ []) p
      came_from now there (went_on was here birth g) =
          let before = done_is system log p was here in
          let after = done_is system (log ++ e ∷ []) p now there in
          let steps = (replays_counts g.made was g.to (deeds_in p (what e)) g.replays).steps in
          let same : (now.small).steps ≡ ((g.to).small).steps = ap (λ (s : ProcState). (s.small).steps) (g.arrives ∙ all_delivered-is g.to (letter_for p (what e))) in
          omega (arith, before, after, steps, same)
      came_from now there (was_cut was here open_still cut same) = absurd (true≢false (sym cut ∙ no_cut))
      came_from now there (was_born birth none) = absurd (true≢false (sym birth ∙ unborn))

      by_process : (o : Option ProcState) → process_after system (log ++ e ∷ []) p ≡ o → is_some o ≡ true → done_after system log p ≤ done_after system (log ++ e ∷ []) p
      by_process None is there = absurd (true≢false (sym there))
      by_process (Some now) is there =
          let two = two_apart system log (all_roll May standing system log valid (IsLegal-before May system log e legal)) in
          came_from now is (came system log e (standing system log e (IsLegal-last May system log e legal)) two p now is (unended_open May standing system (log ++ e ∷ []) p valid legal unended now is))

  -- an entry that tells of none of its deeds does not end it
  pub still_unended : deeds_in p (what e) ≡ [] → IsUnended system log p → IsUnended system (log ++ e ∷ []) p
  still_unended none unended =
      ap (λ places. is_some (unended_at places p)) (placement-snoc system log e)
      ∙ stays_unended (what e) (placement system log) p (no_deed_no_exit p (what e) none) unended

  -- such an entry, where it does not cut it, brings it its letters, and leaves what is left and that it is not beyond
  pub behind_standing : (May : System → List Entry → Entry → Type 0) → IsStandingRule May → (s : ProcState) (counts : Counts) (births : List Pid) → is_system system ≡ true → IsLegalBy May system (log ++ e ∷ []) → IsUnended system log p
      → is_cut p (what e) ≡ false → deeds_in p (what e) ≡ [] → RollsBehind system log p s counts births → RollsBehind system (log ++ e ∷ []) p (all_delivered s (letter_for p (what e))) counts births
  behind_standing May standing s counts births valid legal unended no_cut none rolls =
      let stands = standing system log e (IsLegal-last May system log e legal) in
      let kept = steps_kept May standing valid legal (still_unended none unended) no_cut (unended_not_born May standing system log e p valid (IsLegal-before May system log e legal) stands unended) in
      let same : ((all_delivered s (letter_for p (what e))).small).steps ≡ (s.small).steps = ap (λ (x : ProcState). (x.small).steps) (all_delivered-is s (letter_for p (what e))) in
      let behind = rolls.behind in
      record { rolls = rolls_entry_standing system log e p May standing s counts births valid legal no_cut none rolls.rolls; behind = omega (arith, kept, same, behind) }
