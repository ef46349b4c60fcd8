-- What a page in the log changes: the account of its process, and nothing else.
use Rattle.std.proofs.Common.{◌≡◌, ℕ, ◌-◌, ◌&&◌, ◌||◌, refl, ◌∙◌, ap, List, [], ◌∷◌, ◌++◌, append-nil, true, false, cond, eq-eqb, Option}
use Rattle.std.specs.Prelude.{option_and_then}
use Rattle.std.specs.List.{list_any}
use Rattle.std.specs.Option.{option_map_or}
use Rattle.std.proofs.lemmas.Grind.{flat_map-append}
use Rattle.t32_base.specs.declared.process.Pid.{Pid}
use Rattle.t32_base.specs.Account.{Account, no_pages, committed, reverted, with_page}
use Rattle.t32_base.proofs.Facts.{or_false}
use Rattle.sys_text.specs.declared.system.System.{System}
use Rattle.sys_calls.specs.Next.{silently}
use Rattle.plain_kernel.specs.Kernel.{Kernel}
use Rattle.bus_msg.specs.declared.entry.What.{What}
use Rattle.bus_msg.specs.declared.entry.What.TheVariants.{Page}
use Rattle.bus_msg.specs.declared.entry.Entry.{Entry}
use Rattle.bus_msg.specs.Places.{Places, same_pid}
use Rattle.bus_msg.specs.PlacedAfter.{what, placed_after}
use Rattle.cert_sched.specs.Schedule.{done, items_of, placement, process_after, done_after}
use Rattle.cert_sched.specs.Told.{cluster_lost, is_moved}
use Rattle.cert_sched.specs.Deeds.{is_cut, is_birth_of, deeds_in, letter_for, start_of, since}
use Rattle.cert_sched.specs.Record.{backup_record, has_state}
use Rattle.cert_sched.specs.Account.{account_after, is_exit_of, page_put}
use Rattle.cert_sched.specs.Family.{born, births_of, is_unsynced, has_unsynced_child}
use Rattle.cert_sched.specs.Steps.{silent_upto, saved_of}
use Rattle.cert_sched.specs.Rules.{is_over, ends_run}
use Rattle.cert_sched.proofs.LogLaws.{placement-snoc, no_items, process_after-quiet, account_after-snoc}
use Rattle.cert_sched.proofs.RecordLaws.{backup_record-other, has_state-snoc}
use Rattle.cert_sched.proofs.Induction.{is_over-snoc}
use Rattle.checkpoint_laws.proofs.posts.Beside.{start_stays, since_stays, saved_stay}

-- an account after an entry that says this, at this placement
abbrev pub account_told : Pid → Places → What → Account → Account
account_told p places w a =
    cond (is_exit_of p w) no_pages (cond (is_cut p w) (committed a) (cond (option_map_or (is_moved p places) (cluster_lost w) false) (reverted a) (record { now = page_put p w a.now; kept = a.kept })))

pub account_next : (system : System) (log : List Entry) (e : Entry) (q : Pid) (w : What) → what e ≡ w → account_after system (log ++ e ∷ []) q ≡ account_told q (placement system log) w (account_after system log q)
account_next system log e q w is = account_after-snoc system log e q ∙ ap (λ w. account_told q (placement system log) w (account_after system log q)) is

module _ (system : System) (log : List Entry) (e : Entry) (p : Pid) (at i : ℕ) (bytes : List ℕ) (is : what e ≡ Page p at i bytes) where
  pub page_items : (k : Kernel) → items_of k (what e) ≡ []
  page_items k = ap (items_of k) is

  pub page_goes_on : is_over system (log ++ e ∷ []) ≡ false
  page_goes_on = is_over-snoc system log e ∙ ap (ends_run (placement system log)) is

  pub page_places : placement system (log ++ e ∷ []) ≡ placement system log
  page_places = placement-snoc system log e ∙ ap (placed_after (placement system log)) is

  pub page_process : (q : Pid) → process_after system (log ++ e ∷ []) q ≡ process_after system log q
  page_process = process_after-quiet system log e page_items

  pub page_silent : (q : Pid) (n : ℕ) → silent_upto system (log ++ e ∷ []) q n ≡ silent_upto system log q n
  unfolding silent_upto
  page_silent q n =
      let steps : done_after system (log ++ e ∷ []) q ≡ done_after system log q = ap (λ (o : Option Kernel). option_map_or (λ k. done k q) o 0) (no_items system log e page_items) in
      λ j. option_and_then (silently (n - steps j)) (page_process q j)

  pub page_start : (q : Pid) → start_of system (log ++ e ∷ []) q ≡ start_of system log q
  page_start q = start_stays system log e q (ap (is_cut q) is) (ap (is_birth_of q) is)

  pub page_deeds : (q : Pid) → since (log ++ e ∷ []) q ≡ since log q
  page_deeds q = since_stays system log e q (ap (is_cut q) is) (ap (is_birth_of q) is) (ap (deeds_in q) is)

  pub page_saved : (q : Pid) → saved_of system (log ++ e ∷ []) q ≡ saved_of system log q
  page_saved q = saved_stay system log e q (ap (is_cut q) is) (ap (is_birth_of q) is) (ap (letter_for q) is)

  pub page_record : (q : Pid) → backup_record system (log ++ e ∷ []) q ≡ backup_record system log q
  page_record q = backup_record-other system log e q (ap (is_cut q) is) (ap (is_birth_of q) is) (ap (deeds_in q) is) (ap (letter_for q) is)

  pub page_stated : (q : Pid) → has_state system (log ++ e ∷ []) q ≡ has_state system log q
  page_stated q = has_state-snoc system log e q ∙ ap (λ w. has_state system log q || is_cut q w) is ∙ or_false (has_state system log q)

  pub page_children : (q : Pid) → has_unsynced_child system (log ++ e ∷ []) q ≡ has_unsynced_child system log q
  page_children q =
      let births : births_of (log ++ e ∷ []) ≡ births_of log = flat_map-append (λ (f : Entry). born (what f)) log (e ∷ []) ∙ ap (λ bs. births_of log ++ (bs ++ [])) (ap born is) ∙ append-nil (births_of log) in
      λ j. list_any (λ (b : Pid × Pid). same_pid b.0 q && is_unsynced (page_places j) b.1) (births j)

  pub page_account : account_after system (log ++ e ∷ []) p ≡ with_page i bytes (account_after system log p)
  page_account = account_next system log e p (Page p at i bytes) is ∙ own (eq-eqb p.0 p.0 refl)
    where
      a : Account
      a = account_after system log p

      own : same_pid p p ≡ true → account_told p (placement system log) (Page p at i bytes) a ≡ with_page i bytes a
      own same = ap (λ b. record { now = cond b ((with_page i bytes a).now) a.now; kept = a.kept }) same

  pub page_others : (q : Pid) → same_pid p q ≡ false → account_after system (log ++ e ∷ []) q ≡ account_after system log q
  page_others q apart = account_next system log e q (Page p at i bytes) is ∙ other apart
    where
      a : Account
      a = account_after system log q

      other : same_pid p q ≡ false → account_told q (placement system log) (Page p at i bytes) a ≡ a
      other apart = ap (λ b. record { now = cond b ((with_page i bytes a).now) a.now; kept = a.kept }) apart
