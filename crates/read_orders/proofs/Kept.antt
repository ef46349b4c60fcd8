-- What a log says where the numbers that each synchronisation read are put in rising order: the same.
use Rattle.std.proofs.Common.{◌≡◌, refl, ◌∙◌, ap, ◌||◌, List, [], ◌∷◌, ◌++◌, map, length, Option, Some, None}
use Rattle.std.specs.Prelude.{option_map, option_and_then}
use Rattle.std.specs.List.{flat_map}
use Rattle.t32_base.specs.declared.process.Pid.{Pid}
use Rattle.sys_text.specs.declared.system.System.{System}
use Rattle.proc_state.specs.State.{ProcState}
use Rattle.plain_kernel.specs.Kernel.{Kernel, boot, process_at}
use Rattle.plain_kernel.specs.Apply.{apply_all}
use Rattle.bus_msg.specs.declared.entry.Entry.{Entry}
use Rattle.bus_msg.specs.Places.{Places}
use Rattle.bus_msg.specs.PlacedAfter.{what, placed_after}
use Rattle.cert_sched.specs.Parts.{after_last, upto_last}
use Rattle.cert_sched.specs.Schedule.{after_entry, plain_after, process_after, items_in, items_of, schedule_from, schedule_of, placement, places_at_boot}
use Rattle.cert_sched.specs.Deeds.{starts, start_of, since, is_cut, is_birth_of, deeds_in, letter_for, letters_to, arrived_count, saved_letters, numbered}
use Rattle.cert_sched.specs.Record.{is_root, has_state, backup_record, record_with}
use Rattle.cert_sched.specs.Family.{births_of, born}
use Rattle.line_laws.specs.Meant.{with_reads_rising}
use Rattle.read_orders.proofs.Blind.{blind, fold-same, flat_map-same, list_any-same, after_last-same, upto_last-same}

-- ---- the schedule, the kernel and the placement

after_same : (k : Option Kernel) (e : Entry) → after_entry k (with_reads_rising e) ≡ after_entry k e
after_same k e = blind (λ w. option_and_then (λ k. apply_all (items_of k w) k) k) (λ p small read took. refl) (what e)

pub plain_kept : (system : System) (log : List Entry) → plain_after system (map with_reads_rising log) ≡ plain_after system log
unfolding plain_after
plain_kept system log = fold-same with_reads_rising after_entry after_same (Some (boot system)) log

items_same : (k : Option Kernel) (e : Entry) → items_in k (with_reads_rising e) ≡ items_in k e
items_same None e = refl
items_same (Some k) e = blind (items_of k) (λ p small read took. refl) (what e)

schedule_same : (k : Option Kernel) (log : List Entry) → schedule_from k (map with_reads_rising log) ≡ schedule_from k log
schedule_same k [] = refl
schedule_same k (e ∷ log) =
    (λ i. items_same k e i ++ schedule_same (after_entry k (with_reads_rising e)) log i) ∙ ap (λ next. items_in k e ++ schedule_from next log) (after_same k e)

pub schedule_kept : (system : System) (log : List Entry) → schedule_of system (map with_reads_rising log) ≡ schedule_of system log
unfolding schedule_of
schedule_kept system log = schedule_same (Some (boot system)) log

pub placed_same : (places : Places) (e : Entry) → placed_after places (what (with_reads_rising e)) ≡ placed_after places (what e)
placed_same places e = blind (placed_after places) (λ p small read took. refl) (what e)

pub placement_kept : (system : System) (log : List Entry) → placement system (map with_reads_rising log) ≡ placement system log
unfolding placement
placement_kept system log = fold-same with_reads_rising (λ (places : Places) (e : Entry). placed_after places (what e)) placed_same (places_at_boot system) log

process_kept : (system : System) (log : List Entry) (p : Pid) → process_after system (map with_reads_rising log) p ≡ process_after system log p
process_kept system log p = ap (option_and_then (λ k. process_at k p)) (plain_kept system log)

-- ---- the record of a process

starts_same : (p : Pid) (e : Entry) → starts p (with_reads_rising e) ≡ starts p e
starts_same p e = blind (λ w. is_cut p w || is_birth_of p w) (λ p small read took. refl) (what e)

pub start_kept : (system : System) (log : List Entry) (p : Pid) → start_of system (map with_reads_rising log) p ≡ start_of system log p
start_kept system log p = ap (λ front. process_after system front p) (upto_last-same with_reads_rising (starts p) (starts_same p) log) ∙ process_kept system (upto_last (starts p) log) p

since_kept : (log : List Entry) (p : Pid) → since (map with_reads_rising log) p ≡ since log p
since_kept log p =
    ap (flat_map (λ (e : Entry). deeds_in p (what e))) (after_last-same with_reads_rising (starts p) (starts_same p) log)
    ∙ flat_map-same with_reads_rising (λ (e : Entry). deeds_in p (what e)) (λ e. blind (deeds_in p) (λ q small read took. refl) (what e)) (after_last (starts p) log)

letters_kept : (p : Pid) (log : List Entry) → letters_to p (map with_reads_rising log) ≡ letters_to p log
letters_kept p log = flat_map-same with_reads_rising (λ (e : Entry). letter_for p (what e)) (λ e. blind (letter_for p) (λ q small read took. refl) (what e)) log

arrived_kept : (log : List Entry) (p : Pid) → arrived_count (map with_reads_rising log) p ≡ arrived_count log p
arrived_kept log p =
    ap (λ rest. length (letters_to p rest)) (after_last-same with_reads_rising (λ (e : Entry). is_birth_of p (what e)) (λ e. blind (is_birth_of p) (λ q small read took. refl) (what e)) log)
    ∙ ap length (letters_kept p (after_last (λ (e : Entry). is_birth_of p (what e)) log))

pub saved_kept : (log : List Entry) (p : Pid) (s : ProcState) → saved_letters (map with_reads_rising log) p s ≡ saved_letters log p s
saved_kept log p s =
    ap (λ ls. s.mail ++ numbered s.next ls)
    (ap (letters_to p) (after_last-same with_reads_rising (starts p) (starts_same p) log) ∙ letters_kept p (after_last (starts p) log))

pub stated_kept : (system : System) (log : List Entry) (p : Pid) → has_state system (map with_reads_rising log) p ≡ has_state system log p
stated_kept system log p =
    ap (λ b. is_root system p || b) (list_any-same with_reads_rising (λ (e : Entry). is_cut p (what e)) (λ e. blind (is_cut p) (λ q small read took. refl) (what e)) log)

pub record_kept : (system : System) (log : List Entry) (p : Pid) → backup_record system (map with_reads_rising log) p ≡ backup_record system log p
unfolding backup_record
record_kept system log p =
    λ i. option_map (λ (s : ProcState). record_with p (stated_kept system log p i) (saved_kept log p s i) (arrived_kept log p i) (since_kept log p i) s) (start_kept system log p i)

-- ---- births

pub births_kept : (log : List Entry) → births_of (map with_reads_rising log) ≡ births_of log
births_kept log = flat_map-same with_reads_rising (λ (e : Entry). born (what e)) (λ e. blind born (λ q small read took. refl) (what e)) log
