-- What a synchronisation in the log changes: where its process starts again, and what is kept of it; of the others nothing.
use Rattle.std.proofs.Common.{◌≡◌, ℕ, ◌-◌, refl, ◌∙◌, ap, List, [], ◌∷◌, ◌++◌, add-zero, true, false, cond, ◌||◌, eq-eqb, Some}
use Rattle.std.specs.Prelude.{option_and_then, option_map}
use Rattle.std.specs.Option.{option_map_or}
use Rattle.t32_base.specs.declared.process.Pid.{Pid}
use Rattle.t32_base.specs.Account.{Account, committed}
use Rattle.sys_text.specs.declared.system.System.{System}
use Rattle.proc_state.specs.State.{ProcState}
use Rattle.sys_calls.specs.Next.{silently}
use Rattle.bus_msg.specs.declared.entry.What.TheVariants.{Sync}
use Rattle.bus_msg.specs.declared.entry.Entry.{Entry}
use Rattle.bus_msg.specs.Places.{same_pid}
use Rattle.bus_msg.specs.PlacedAfter.{what, placed_after, with_each, after_sync}
use Rattle.cert_sched.specs.Schedule.{placement, process_after, done_after}
use Rattle.cert_sched.specs.Deeds.{starts, is_cut, is_birth_of, deeds_in, letter_for, start_of, since, saved_letters, arrived_count}
use Rattle.cert_sched.specs.Record.{backup_record, record_with}
use Rattle.cert_sched.specs.Account.{account_after}
use Rattle.cert_sched.specs.Steps.{silent_upto, saved_of}
use Rattle.cert_sched.specs.Rules.{is_over, ends_run}
use Rattle.cert_sched.specs.Scripted.{is_done}
use Rattle.cert_sched.specs.CertAfter.{count_in}
use Rattle.cert_sched.proofs.LogLaws.{placement-snoc}
use Rattle.cert_sched.proofs.RecordLaws.{start_of-snoc, since-snoc, saved_letters-start, arrived_count-other, backup_record-other, backup_record-cut}
use Rattle.cert_sched.proofs.Induction.{is_over-snoc}
use Rattle.cert_sched.proofs.MadeLaws.{apart_from}
use Rattle.cert_sched.proofs.StepLaws.{done_after-other}
use Rattle.checkpoint_laws.specs.posts.Cut.{CutsAt, cut_record}
use Rattle.checkpoint_laws.proofs.posts.Beside.{start_stays, since_stays, saved_stay}
use Rattle.checkpoint_laws.proofs.posts.PageEntry.{account_told, account_next}
use Rattle.checkpoint_laws.proofs.posts.SyncMade.{SyncMade, sync_made}

module _ (system : System) (log : List Entry) (e : Entry) (p : Pid) (s : ProcState) (cut : CutsAt system log e p s) where
  made : SyncMade system log e p cut.took cut.before
  made = sync_made system log e p s.small cut.read cut.took cut.before cut.says cut.reached (cut.takes).can

  pub cut_goes_on : is_over system (log ++ e ∷ []) ≡ false
  cut_goes_on = is_over-snoc system log e ∙ ap (ends_run (placement system log)) cut.says

  pub cut_places : placement system (log ++ e ∷ []) ≡ with_each (placement system log) (after_sync p)
  cut_places = placement-snoc system log e ∙ ap (placed_after (placement system log)) cut.says

  pub cut_process : process_after system (log ++ e ∷ []) p ≡ Some s
  cut_process = made.own ∙ ap Some (cut.takes).after

  own : is_cut p (what e) ≡ true
  own = ap (is_cut p) cut.says ∙ eq-eqb p.0 p.0 refl

  starting : starts p e ≡ true
  starting = ap (λ b. b || is_birth_of p (what e)) own

  pub cut_start : start_of system (log ++ e ∷ []) p ≡ Some s
  cut_start = start_of-snoc system log e p ∙ ap (λ b. cond b (process_after system (log ++ e ∷ []) p) (start_of system log p)) starting ∙ cut_process

  pub cut_deeds : since (log ++ e ∷ []) p ≡ []
  cut_deeds = since-snoc log e p ∙ ap (λ b. cond b [] (since log p ++ deeds_in p (what e))) starting

  pub cut_saved : saved_of system (log ++ e ∷ []) p ≡ s.mail
  cut_saved = ap (λ o. option_map_or (saved_letters (log ++ e ∷ []) p) o []) cut_start ∙ saved_letters-start log e p s starting

  pub cut_arrived : arrived_count (log ++ e ∷ []) p ≡ arrived_count log p
  cut_arrived = arrived_count-other log e p (ap (is_birth_of p) cut.says) ∙ rw (ap (letter_for p) cut.says) (add-zero (arrived_count log p))

  pub cut_kept : backup_record system (log ++ e ∷ []) p ≡ Some (cut_record p s (arrived_count log p))
  cut_kept =
      backup_record-cut system log e p own
      ∙ ap (option_map (λ (s : ProcState). record_with p true s.mail (arrived_count (log ++ e ∷ []) p) [] s)) cut_process
      ∙ ap (λ n. Some (cut_record p s n)) cut_arrived

  pub cut_account : account_after system (log ++ e ∷ []) p ≡ committed (account_after system log p)
  cut_account = account_next system log e p (Sync p s.small cut.read cut.took) cut.says ∙ by_own (eq-eqb p.0 p.0 refl)
    where
      a : Account
      a = account_after system log p

      by_own : same_pid p p ≡ true → account_told p (placement system log) (Sync p s.small cut.read cut.took) a ≡ committed a
      by_own same = ap (λ b. cond b (committed a) a) same

  -- ---- the others

  module _ (q : Pid) (apart : same_pid p q ≡ false) where
    no_cut : is_cut q (what e) ≡ false
    no_cut = ap (is_cut q) cut.says ∙ apart

    no_birth : is_birth_of q (what e) ≡ false
    no_birth = ap (is_birth_of q) cut.says

    pub other_process : process_after system (log ++ e ∷ []) q ≡ process_after system log q
    other_process = made.others q apart

    pub other_start : start_of system (log ++ e ∷ []) q ≡ start_of system log q
    other_start = start_stays system log e q no_cut no_birth

    pub other_deeds : since (log ++ e ∷ []) q ≡ since log q
    other_deeds = since_stays system log e q no_cut no_birth (ap (deeds_in q) cut.says)

    pub other_saved : saved_of system (log ++ e ∷ []) q ≡ saved_of system log q
    other_saved = saved_stay system log e q no_cut no_birth (ap (letter_for q) cut.says)

    pub other_kept : backup_record system (log ++ e ∷ []) q ≡ backup_record system log q
    other_kept = backup_record-other system log e q no_cut no_birth (ap (deeds_in q) cut.says) (ap (letter_for q) cut.says)

    pub other_account : account_after system (log ++ e ∷ []) q ≡ account_after system log q
    other_account = account_next system log e q (Sync p s.small cut.read cut.took) cut.says ∙ by_other apart
      where
        a : Account
        a = account_after system log q

        by_other : same_pid p q ≡ false → account_told q (placement system log) (Sync p s.small cut.read cut.took) a ≡ a
        by_other apart = ap (λ b. cond b (committed a) a) apart

    pub other_silent : (n : ℕ) → silent_upto system (log ++ e ∷ []) q n ≡ silent_upto system log q n
    unfolding silent_upto
    other_silent n =
        let steps : done_after system (log ++ e ∷ []) q ≡ done_after system log q =
        done_after-other system log e p q (s.small).steps (ap is_done cut.says) made.applies (ap count_in cut.says) (apart_from p q apart) in
        λ j. option_and_then (silently (n - steps j)) (other_process j)
