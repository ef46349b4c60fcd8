-- Logs that are alike say the same of each process.
use Rattle.std.proofs.Common.{◌≡◌, refl, sym, ◌∙◌, ap, ℕ, ◌-◌, Bool, ◌&&◌, List, ◌∷◌, [], ◌++◌, map, length}
use Rattle.std.specs.Prelude.{fold, option_map, option_and_then}
use Rattle.std.specs.List.{list_any}
use Rattle.std.specs.Option.{option_map_or}
use Rattle.std.proofs.lemmas.List.{length-map, map-append}
use Rattle.t32_base.specs.declared.process.Pid.{Pid}
use Rattle.t32_base.specs.declared.letter.Arrived.{Arrived}
use Rattle.t32_base.specs.declared.letter.BackRec.{BackRec}
use Rattle.sys_text.specs.declared.system.System.{System}
use Rattle.proc_state.specs.State.{ProcState}
use Rattle.sys_calls.specs.declared.steps.Emission.{Emission}
use Rattle.sys_calls.specs.Next.{silently, last_emission}
use Rattle.sys_calls.specs.Fork.{before_fork, fork_parent}
use Rattle.plain_kernel.specs.Kernel.{process_at}
use Rattle.bus_msg.specs.declared.entry.What.{What}
use Rattle.bus_msg.specs.declared.entry.What.TheVariants.{Mail, Birth, Exit, Sync, Rebackup}
use Rattle.bus_msg.specs.declared.entry.Entry.{Entry}
use Rattle.bus_msg.specs.Places.{same_pid}
use Rattle.cert_sched.specs.Schedule.{done, done_after, plain_after, placement, process_after, schedule_of, steps_in}
use Rattle.cert_sched.specs.Deeds.{saved_letters, start_of}
use Rattle.cert_sched.specs.Record.{backup_record, has_state}
use Rattle.cert_sched.specs.Account.{account_after}
use Rattle.cert_sched.specs.Moved.{any_since_moved, moved_with_state, waiting_fetches, was_moved}
use Rattle.cert_sched.specs.Family.{births_of, has_unsynced_child, is_unsynced, joins, unsynced_family}
use Rattle.cert_sched.specs.Steps.{after_items, before_fork_at, emission_at, first_record, numbers_read, page_count, reads_since, saved_of, silent_upto, steps_since}
use Rattle.cert_sched.specs.Rules.{is_over, places_since_moved}
use Rattle.cert_sched.specs.Counted.{counted}
use Rattle.line_laws.specs.Meant.{reads_rising, with_reads_rising}
use Rattle.read_orders.specs.Alike.{AreAlike}
use Rattle.read_orders.proofs.Kept.{births_kept, placement_kept, plain_kept, record_kept, saved_kept, schedule_kept, start_kept, stated_kept}
use Rattle.read_orders.proofs.Since.{account_kept, any_since_kept, counted_kept, moved_stated_kept, over_kept, places_since_kept, waiting_kept, was_moved_kept}

-- one more entry that is alike
pub alike-snoc : (log other : List Entry) (e f : Entry) → AreAlike log other → with_reads_rising e ≡ with_reads_rising f → AreAlike (log ++ e ∷ []) (other ++ f ∷ [])
alike-snoc log other e f alike same =
    map-append with_reads_rising log (e ∷ []) ∙ (λ i. alike i ++ same i ∷ []) ∙ sym (map-append with_reads_rising other (f ∷ []))

-- what says the same where these numbers are rising says the same of both
pub on_both : {A : Type 0} (f : List Entry → A) → ((log : List Entry) → f (map with_reads_rising log) ≡ f log) → (log other : List Entry) → AreAlike log other → f log ≡ f other
on_both f kept log other alike = sym (kept log) ∙ ap f alike ∙ kept other

module _ (system : System) (log other : List Entry) (alike : AreAlike log other) where
  pub same_length : length log ≡ length other
  same_length = on_both length (λ log. length-map log with_reads_rising) log other alike

  pub same_plain : plain_after system log ≡ plain_after system other
  same_plain = on_both (plain_after system) (plain_kept system) log other alike

  pub same_schedule : schedule_of system log ≡ schedule_of system other
  same_schedule = on_both (schedule_of system) (schedule_kept system) log other alike

  pub same_counted : counted system log ≡ counted system other
  same_counted = on_both (counted system) (counted_kept system) log other alike

  pub same_placement : placement system log ≡ placement system other
  same_placement = on_both (placement system) (placement_kept system) log other alike

  pub same_over : is_over system log ≡ is_over system other
  same_over = on_both (is_over system) (over_kept system) log other alike

  pub same_waiting : waiting_fetches system log ≡ waiting_fetches system other
  same_waiting = on_both (waiting_fetches system) (waiting_kept system) log other alike

  -- ---- of a process

  pub same_stated : (p : Pid) → has_state system log p ≡ has_state system other p
  same_stated p = on_both (λ log. has_state system log p) (λ log. stated_kept system log p) log other alike

  pub same_record : (p : Pid) → backup_record system log p ≡ backup_record system other p
  same_record p = on_both (λ log. backup_record system log p) (λ log. record_kept system log p) log other alike

  pub same_account : (p : Pid) → account_after system log p ≡ account_after system other p
  same_account p = on_both (λ log. account_after system log p) (λ log. account_kept system log p) log other alike

  pub same_since : (p : Pid) (test : What → Bool) → ((w : What) → test (reads_rising w) ≡ test w) → any_since_moved system log p test ≡ any_since_moved system other p test
  same_since p test same = on_both (λ log. any_since_moved system log p test) (any_since_kept system p test same) log other alike

  pub same_moved : (p : Pid) → was_moved system log p ≡ was_moved system other p
  same_moved p = on_both (λ log. was_moved system log p) (λ log. was_moved_kept system log p) log other alike

  pub same_moved_stated : (p : Pid) → moved_with_state system log p ≡ moved_with_state system other p
  same_moved_stated p = on_both (λ log. moved_with_state system log p) (λ log. moved_stated_kept system log p) log other alike

  pub same_places_since : (p : Pid) → places_since_moved system log p ≡ places_since_moved system other p
  same_places_since p = on_both (λ log. places_since_moved system log p) (λ log. places_since_kept system log p) log other alike

  same_births : births_of log ≡ births_of other
  same_births = on_both births_of births_kept log other alike

  pub same_family : (p : Pid) → unsynced_family system log p ≡ unsynced_family system other p
  same_family p = λ i. fold (joins (same_placement i)) (p ∷ []) (same_births i)

  pub same_children : (p : Pid) → has_unsynced_child system log p ≡ has_unsynced_child system other p
  same_children p = λ i. list_any (λ (b : Pid × Pid). same_pid b.0 p && is_unsynced (same_placement i) b.1) (same_births i)

  -- ---- its steps

  same_process : (p : Pid) → process_after system log p ≡ process_after system other p
  same_process p = ap (option_and_then (λ k. process_at k p)) same_plain

  pub same_done : (p : Pid) → done_after system log p ≡ done_after system other p
  same_done p = ap (λ o. option_map_or (λ k. done k p) o 0) same_plain

  pub same_silent : (p : Pid) (at : ℕ) → silent_upto system log p at ≡ silent_upto system other p at
  unfolding silent_upto
  same_silent p at = λ i. option_and_then (silently (at - same_done p i)) (same_process p i)

  pub same_emission : (p : Pid) (at : ℕ) → emission_at system log p at ≡ emission_at system other p at
  unfolding emission_at
  same_emission p at = λ i. option_and_then (last_emission (at - same_done p i)) (same_process p i)

  pub same_before_fork : (p : Pid) (at : ℕ) → before_fork_at system log p at ≡ before_fork_at system other p at
  unfolding before_fork_at
  same_before_fork p at = λ i. option_and_then (before_fork (at - 1 - same_done p i)) (same_process p i)

  pub same_after : (w : What) → after_items system log w ≡ after_items system other w
  same_after (Mail at letter) = ap (option_map (λ (r : Emission × ProcState). r.1)) (same_emission letter.from at)
  same_after (Exit pid at end) = ap (option_map (λ (r : Emission × ProcState). r.1)) (same_emission pid at)
  same_after (Birth parent at child end) = ap (option_map (λ s. fork_parent s child)) (same_before_fork parent at)
  same_after (Sync pid small read took) = same_silent pid small.steps
  same_after (Rebackup to fresh recs) = λ i. option_and_then (λ (r : BackRec). same_silent r.pid (steps_in r.state) i) (first_record recs)
  same_after _ = refl

  pub same_pages : (p : Pid) → page_count system log p ≡ page_count system other p
  same_pages p = ap (λ o. option_map_or (λ (s : ProcState). (s.small).pages) o 0) (same_process p)

  -- ---- since it started

  same_start : (p : Pid) → start_of system log p ≡ start_of system other p
  same_start p = on_both (λ log. start_of system log p) (λ log. start_kept system log p) log other alike

  same_letters : (p : Pid) (s : ProcState) → saved_letters log p s ≡ saved_letters other p s
  same_letters p s = on_both (λ log. saved_letters log p s) (λ log. saved_kept log p s) log other alike

  pub same_saved : (p : Pid) → saved_of system log p ≡ saved_of system other p
  same_saved p = λ i. option_map_or (λ (s : ProcState). same_letters p s i) (same_start p i) []

  pub same_reads : (p : Pid) (s : ProcState) → reads_since system log p s ≡ reads_since system other p s
  same_reads p s = ap (λ (saved : List Arrived). length (numbers_read saved s.mail)) (same_saved p)

  pub same_steps : (p : Pid) (s : ProcState) → steps_since system log p s ≡ steps_since system other p s
  same_steps p s = ap (λ o. (s.small).steps - option_map_or (λ (s : ProcState). (s.small).steps) o 0) (same_start p)
