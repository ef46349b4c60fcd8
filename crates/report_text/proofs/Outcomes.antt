-- What a legal log tells is what the kernel after it tells.
use Rattle.std.proofs.Common.{◌≡◌, ℕ, ◌-◌, refl, sym, ◌∙◌, ap, subst, List, [], ◌∷◌, ◌++◌, map, fold, Bool, true, false, Some, None, Option, is_some, true≢false}
use Rattle.std.specs.Prelude.{option_and_then, option_map}
use Rattle.std.specs.Ordering.{nat_cmp}
use Rattle.std.specs.FinMap.{put}
use Rattle.std.proofs.lemmas.List.Sums.{fold-append}
use Rattle.std.proofs.lemmas.Option.{same_Some}
use Rattle.t32_base.specs.declared.process.Pid.{Pid}
use Rattle.t32_base.specs.declared.process.End.{End}
use Rattle.t32_base.specs.declared.letter.Letter.{Letter}
use Rattle.sys_text.specs.declared.system.System.{System}
use Rattle.sys_text.specs.declared.system.Root.{Root}
use Rattle.sys_text.specs.Boot.{roots_of}
use Rattle.sys_text.specs.Valid.{is_system}
use Rattle.proc_state.specs.State.{ProcState, linked_to}
use Rattle.sys_calls.specs.declared.steps.Emission.TheVariants.{Mail as Sent, Exit as Ended}
use Rattle.sys_calls.specs.Next.{silently}
use Rattle.sys_calls.specs.Fork.{before_fork, fork_child, fork_parent, next_end}
use Rattle.sys_calls.proofs.Counting.{exit_status, last_sent}
use Rattle.plain_kernel.specs.Kernel.{Kernel, boot, boot_roots, empty, process_at, root_process, with_process, with_root}
use Rattle.plain_kernel.specs.Apply.{apply_all}
use Rattle.plain_kernel.proofs.AtBoot.{chans-keep, roots-rising}
use Rattle.plain_kernel.proofs.Forking.{fork_made}
use Rattle.plain_kernel.proofs.Pids.{HasPids, one_step-pids, pids_in, put_process}
use Rattle.plain_kernel.proofs.Roots.{booted_roots}
use Rattle.bus_msg.specs.declared.entry.What.{What}
use Rattle.bus_msg.specs.declared.entry.What.TheVariants.{Mail, Birth, Exit}
use Rattle.bus_msg.specs.declared.entry.Entry.{Entry}
use Rattle.bus_msg.specs.PlacedAfter.{what}
use Rattle.cert_sched.specs.Schedule.{after_entry, done, done_after, items_of, plain_after, placement, process_after, run_upto}
use Rattle.cert_sched.specs.Steps.{before_fork_at, emission_at, silent_upto}
use Rattle.cert_sched.specs.Kinds.{KindHolds}
use Rattle.cert_sched.specs.Legal.{IsLegalBy, Stands}
use Rattle.cert_sched.proofs.Induction.{legal_induction}
use Rattle.cert_sched.proofs.CameLaws.{IsStandingRule, is_silent}
use Rattle.cert_sched.proofs.EndedLaws.{letter_told}
use Rattle.cert_sched.proofs.FreshLaws.{Numbered, numbered_at_boot, numbered_more}
use Rattle.cert_sched.proofs.MailLaws.{sender_goes_on}
use Rattle.cert_sched.proofs.QuietLaws.{went_quietly}
use Rattle.cert_sched.proofs.RunAndFork.{run_and_fork}
use Rattle.cert_sched.proofs.LogLaws.{plain_after-snoc}
use Rattle.cert_sched.proofs.ReplayLaws.{fork_after}
use Rattle.cert_sched.proofs.RunItems.{forkless_keep, run_forkless}
use Rattle.cert_sched.proofs.RunsLaws.{Quietly, led-silent_upto, run_made}
use Rattle.cert_sched.proofs.StepLaws.{applied, is_sent, plain_after-rising, plain_after-sent, sent_from}
use Rattle.report_text.specs.Outcome.{Outcome, ends_of, none_told, outcome_of, told_after}
use Rattle.report_text.proofs.Told.{numbered, open_standing, put_standing, standing, told_by, told_ended, told_letter, told_open, told_quietly, told_same}
use Rattle.plain_kernel.proofs.TakePids.{take_step-pids}

-- ---- the start

roots_told : (system : System) (k : Kernel) (roots : List (Pid × Root))
    → map numbered (fold (with_root system) k roots).processes ≡ fold (λ ends (r : Pid × Root). put nat_cmp (r.0).0 None ends) (map numbered k.processes) roots
roots_told system k [] = refl
roots_told system k (r ∷ roots) =
    roots_told system (with_root system k r) roots
    ∙ ap (λ ends. fold (λ ends (r : Pid × Root). put nat_cmp (r.0).0 None ends) ends roots) (put_standing r.0 (root_process system r.0 r.1) k.processes)

-- the channels leave how each process stands
boot_told : (system : System) → told_by (boot system) ≡ none_told system
unfolding boot
boot_told system =
    (chans-keep (λ k. HasPids (pids_in (boot_roots system)) k × (told_by k ≡ none_told system)) one system (boot_roots system) system.chans (roots_have, at_roots)).1
  where
    one : (k : Kernel) (p : Pid) (s : ProcState) (peer : Pid) (far : ℕ) → process_at k p ≡ Some s → HasPids (pids_in (boot_roots system)) k × (told_by k ≡ none_told system)
        → HasPids (pids_in (boot_roots system)) (with_process k p (linked_to s peer far)) × (told_by (with_process k p (linked_to s peer far)) ≡ none_told system)
    one k p s peer far there keeps =
        (put_process (pids_in (boot_roots system)) k p s (linked_to s peer far) keeps.0 there, told_same k p s (linked_to s peer far) (keeps.0).rising there refl ∙ keeps.1)

    roots_have : HasPids (pids_in (boot_roots system)) (boot_roots system)
    roots_have = record { rising = roots-rising system; are = refl }

    at_roots : told_by (boot_roots system) ≡ none_told system
    at_roots =
        ap (λ ends. record (told_by (boot_roots system)) { ends = ends }) (roots_told system empty (roots_of system))
        ∙ ap (λ ttys. record { ttys = ttys; ends = ends_of (roots_of system) }) (ap (λ (k : Kernel). k.ttys) (booted_roots system))

-- ---- one more entry

-- an entry that tells of no emission and no birth adds nothing
silent_adds : (w : What) → is_silent w ≡ true → (o : Outcome) → told_after w o ≡ o
silent_adds (Mail at letter) quiet o = absurd (true≢false (sym quiet))
silent_adds (Birth parent at child end) quiet o = absurd (true≢false (sym quiet))
silent_adds (Exit pid at end) quiet o = absurd (true≢false (sym quiet))
silent_adds _ quiet o = refl

-- silent steps lead a process to its fork
fork_reached : (system : System) (log : List Entry) (p : Pid) (at end : ℕ) → option_map next_end (before_fork_at system log p at) ≡ Some end → is_some (silent_upto system log p (at - 1)) ≡ true
unfolding before_fork_at silent_upto
fork_reached system log p at end forks = by_process (process_after system log p) forks
  where
    n : ℕ
    n = at - 1 - done_after system log p

    by_fork : (s : ProcState) (o : Option ProcState) → before_fork n s ≡ o → option_map next_end o ≡ Some end → is_some (silently n s) ≡ true
    by_fork s None is e = cc
    by_fork s (Some q) is e = ap is_some (fork_after n s q is).silent

    by_process : (o : Option ProcState) → option_map next_end (option_and_then (before_fork n) o) ≡ Some end → is_some (option_and_then (silently n) o) ≡ true
    by_process None e = cc
    by_process (Some s) e = by_fork s (before_fork n s) refl e

module _ (system : System) (log : List Entry) (e : Entry) (k j : Kernel) (before : plain_after system log ≡ Some k) (after : plain_after system (log ++ e ∷ []) ≡ Some j) where
  has : HasPids (pids_in k) k
  has = record { rising = plain_after-rising system log k before; are = refl }

  -- a letter, with the process that sent it
  mail_told : (at : ℕ) (letter : Letter) (t : ProcState) → what e ≡ Mail at letter → emission_at system log letter.from at ≡ Some (Sent letter, t) → told_by j ≡ told_after (Mail at letter) (told_by k)
  mail_told at letter t is sends =
      let s = sent_from system log letter.from at (Sent letter) t sends in
      let there : process_at k letter.from ≡ Some s.was = ap (λ k. process_at k letter.from) (same_Some k s.kernel (sym before ∙ s.before)) ∙ s.there in
      let goes_on : standing t ≡ standing s.was = open_standing t (letter_told system log letter.from at letter t sends) ∙ sym (open_standing s.was (sender_goes_on _ s.was (Sent letter) t s.sends)) in
      let put : HasPids (pids_in k) (with_process k letter.from t) = put_process (pids_in k) k letter.from s.was t has there in
      ap told_by (same_Some j _ (sym after ∙ plain_after-sent system log e letter.from at (Sent letter) t k before sends (refl, is)))
      ∙ told_letter (with_process k letter.from t) letter letter.to put.rising
      ∙ ap (told_after (Mail at letter)) (told_same k letter.from s.was t has.rising there goes_on)

  -- an exit
  exit_told : (p : Pid) (at : ℕ) (end : End) (t : ProcState) → what e ≡ Exit p at end → emission_at system log p at ≡ Some (Ended end, t) → told_by j ≡ told_after (Exit p at end) (told_by k)
  exit_told p at end t is sends =
      let s = sent_from system log p at (Ended end) t sends in
      let last = last_sent _ s.was (Ended end) t s.sends in
      ap told_by (same_Some j _ (sym after ∙ plain_after-sent system log e p at (Ended end) t k before sends is))
      ∙ told_ended k p t end (exit_status last.before t end last.last)

  -- a birth: the steps before the fork are silent, the parent stands as before, and the child is there and has not ended
  born_told : (parent : Pid) (at : ℕ) (child : Pid) (end : ℕ) → what e ≡ Birth parent at child end → KindHolds system log e (Birth parent at child end) → told_by j ≡ told_after (Birth parent at child end) (told_by k)
  born_told parent at child end is kind =
      let r = run_and_fork (run_upto k parent (at - 1)) parent child k j (ap (λ w. apply_all (items_of k w) k) (sym is) ∙ leads) in
      let ran : HasPids (pids_in k) r.to = forkless_keep (HasPids (pids_in k)) (one_step-pids (pids_in k)) (take_step-pids (pids_in k)) (run_upto k parent (at - 1)) k r.to (run_forkless parent (at - 1 - done k parent)) has r.ran in
      let f = fork_made parent child r.to j r.forks in
      let s = run_made k k (parent, at - 1) (ap is_some (sym (led-silent_upto system log k (parent, at - 1) before)) ∙ fork_reached system log parent at end kind.end_is) refl in
      let quiet : Quietly r.to k = subst (λ i. Quietly i k) (same_Some s.to r.to (sym s.made ∙ r.ran)) s.quiet in
      ap told_by (sym f.after)
      ∙ told_open (with_process r.to parent (fork_parent f.was child)) child (fork_child f.was child) refl
      ∙ ap (told_after (Birth parent at child end)) (told_same r.to parent f.was (fork_parent f.was child) ran.rising f.there refl ∙ told_quietly (pids_in k) k r.to has quiet)
    where
      leads : apply_all (items_of k (what e)) k ≡ Some j
      leads = sym (plain_after-snoc system log e ∙ ap (λ o. after_entry o e) before) ∙ after

  entry_told : Stands system log e → Numbered (placement system log) → told_by j ≡ told_after (what e) (told_by k)
  entry_told stands numbers = by_what (what e) refl stands.kind
    where
      quietly : (w : What) → what e ≡ w → KindHolds system log e w → is_silent w ≡ true → told_by j ≡ told_after w (told_by k)
      quietly w is kind quiet =
          told_quietly (pids_in k) k j has (went_quietly system log e k j before after w is quiet kind numbers.two)
          ∙ sym (silent_adds w quiet (told_by k))

      by_silence : (w : What) (b : Bool) → is_silent w ≡ b → what e ≡ w → KindHolds system log e w → told_by j ≡ told_after w (told_by k)
      by_silence w true quiet is kind = quietly w is kind quiet
      by_silence (Mail at letter) false loud is kind = let sent = is_sent system log letter.from at (Sent letter) kind in mail_told at letter sent.after is sent.is
      by_silence (Exit p at end) false loud is kind = let sent = is_sent system log p at (Ended end) kind.0 in exit_told p at end sent.after is sent.is
      by_silence (Birth parent at child end) false loud is kind = born_told parent at child end is kind
      by_silence _ false loud is kind = absurd (true≢false loud)

      by_what : (w : What) → what e ≡ w → KindHolds system log e w → told_by j ≡ told_after w (told_by k)
      by_what w is kind = by_silence w (is_silent w) refl is kind

-- ---- a log

record Tells (system : System) (log : List Entry) : Type 0 where
  pub numbers : Numbered (placement system log)
  pub told : (k : Kernel) → plain_after system log ≡ Some k → told_by k ≡ outcome_of system log

tells_more : (system : System) (log : List Entry) (e : Entry) → Tells system log → Stands system log e → Tells system (log ++ e ∷ [])
tells_more system log e tells stands = record {
  numbers = numbered_more system log e stands tells.numbers;
  told = λ j after.
      let a = applied system log e stands.applies in
      entry_told system log e a.old j a.before after stands tells.numbers
      ∙ ap (told_after (what e)) (tells.told a.old a.before)
      ∙ sym (fold-append (λ o (e : Entry). told_after (what e) o) (none_told system) log (e ∷ []));
}

pub outcome-is : (May : System → List Entry → Entry → Type 0) → IsStandingRule May → (system : System) (log : List Entry) → is_system system ≡ true → IsLegalBy May system log → (k : Kernel) → plain_after system log ≡ Some k
    → told_by k ≡ outcome_of system log
unfolding plain_after placement
outcome-is May standing system log valid legal =
    (legal_induction May system (Tells system) at_boot (λ log e tells may. tells_more system log e tells (standing system log e may)) log legal).told
  where
    at_boot : Tells system []
    at_boot = record { numbers = numbered_at_boot system valid; told = λ k is. ap told_by (same_Some k (boot system) (sym is)) ∙ boot_told system }
