-- What a log says entry by entry, each with what stood before it, where the numbers that each synchronisation read are put in rising order: the same.
use Rattle.std.proofs.Common.{◌≡◌, refl, sym, ◌∙◌, ap, ℕ, Bool, false, cond, ◌||◌, List, [], ◌∷◌, ◌++◌, map, Option, Some, None}
use Rattle.std.specs.Prelude.{fold, option_map, filter}
use Rattle.std.specs.List.{list_any, sum_by}
use Rattle.std.specs.Option.{option_map_or}
use Rattle.std.proofs.lemmas.List.{map-append}
use Rattle.t32_base.specs.declared.process.Pid.{Pid}
use Rattle.t32_base.specs.declared.process.ClusterNo.{ClusterNo}
use Rattle.sys_text.specs.declared.system.System.{System}
use Rattle.bus_msg.specs.declared.entry.What.{What}
use Rattle.bus_msg.specs.declared.entry.Entry.{Entry}
use Rattle.bus_msg.specs.declared.placed.Placed.{Placed}
use Rattle.bus_msg.specs.Places.{Places, is_moved_by}
use Rattle.bus_msg.specs.PlacedAfter.{what, placed_after}
use Rattle.cert_sched.specs.Parts.{after_last, last_of, last_that}
use Rattle.cert_sched.specs.Schedule.{places_at_boot}
use Rattle.cert_sched.specs.Told.{Told, told, told_from, cluster_lost, is_moved, moves}
use Rattle.cert_sched.specs.Record.{has_state, withheld_in}
use Rattle.cert_sched.specs.Deeds.{is_cut}
use Rattle.cert_sched.specs.Account.{Account, account_after, account_at_boot, account_step, committed, is_exit_of, no_pages, page_put, reverted}
use Rattle.cert_sched.specs.Moved.{add_wait, any_since_moved, ends_wait, fetched, is_page_is, moved_with_state, since_moved, waiting_fetches, waiting_in, was_moved}
use Rattle.cert_sched.specs.Rules.{ends_run, is_over, places_since_moved}
use Rattle.cert_sched.specs.Counted.{counted, counted_at}
use Rattle.line_laws.specs.Meant.{reads_rising, with_reads_rising}
use Rattle.read_orders.proofs.Blind.{blind, fold-same, list_any-same, map-same, sum_by-same, after_last-same, last_of-same, last_that-same}
use Rattle.read_orders.proofs.Kept.{placed_same, placement_kept, record_kept, stated_kept}

-- the entry, and those before it, with these numbers rising
abbrev pub told_rising : Told → Told
told_rising t = record { log = map with_reads_rising t.log; places = t.places; entry = with_reads_rising t.entry }

told_same : (log : List Entry) (places : Places) (rest : List Entry) → told_from (map with_reads_rising log) places (map with_reads_rising rest) ≡ map told_rising (told_from log places rest)
told_same log places [] = refl
told_same log places (e ∷ rest) =
    ap (λ (ts : List Told). record { log = map with_reads_rising log; places = places; entry = with_reads_rising e } ∷ ts)
    ((λ i. told_from (sym (map-append with_reads_rising log (e ∷ [])) i) (placed_same places e i) (map with_reads_rising rest))
    ∙ told_same (log ++ e ∷ []) (placed_after places (what e)) rest)

pub told_kept : (system : System) (log : List Entry) → told system (map with_reads_rising log) ≡ map told_rising (told system log)
unfolding told
told_kept system log = told_same [] (places_at_boot system) log

-- ---- tests of one entry with what stood before it

moves_same : (p : Pid) (t : Told) → moves p (told_rising t) ≡ moves p t
moves_same p t = blind (λ w. option_map_or (is_moved p t.places) (cluster_lost w) false) (λ q small read took. refl) (what t.entry)

account_same : (p : Pid) (a : Account) (t : Told) → account_step p a (told_rising t) ≡ account_step p a t
account_same p a t = blind after (λ q small read took. refl) (what t.entry)
  where
    after : What → Account
    after w =
        let moved = option_map_or (is_moved p t.places) (cluster_lost w) false in
        cond (is_exit_of p w) no_pages (cond (is_cut p w) (committed a) (cond moved (reverted a) (record { now = page_put p w a.now; kept = a.kept })))

pub account_kept : (system : System) (log : List Entry) (p : Pid) → account_after system (map with_reads_rising log) p ≡ account_after system log p
unfolding account_after
account_kept system log p =
    ap (fold (account_step p) (account_at_boot system p)) (told_kept system log)
    ∙ fold-same told_rising (account_step p) (account_same p) (account_at_boot system p) (told system log)

-- ---- since a crash moved a process

since_moved_kept : (system : System) (log : List Entry) (p : Pid) → since_moved system (map with_reads_rising log) p ≡ map told_rising (since_moved system log p)
since_moved_kept system log p = ap (after_last (moves p)) (told_kept system log) ∙ after_last-same told_rising (moves p) (moves_same p) (told system log)

pub any_since_kept : (system : System) (p : Pid) (test : What → Bool) → ((w : What) → test (reads_rising w) ≡ test w) → (log : List Entry)
    → any_since_moved system (map with_reads_rising log) p test ≡ any_since_moved system log p test
any_since_kept system p test same log =
    ap (list_any (λ (t : Told). test (what t.entry))) (since_moved_kept system log p)
    ∙ list_any-same told_rising (λ (t : Told). test (what t.entry)) (λ t. same (what t.entry)) (since_moved system log p)

pub was_moved_kept : (system : System) (log : List Entry) (p : Pid) → was_moved system (map with_reads_rising log) p ≡ was_moved system log p
was_moved_kept system log p = ap (list_any (moves p)) (told_kept system log) ∙ list_any-same told_rising (moves p) (moves_same p) (told system log)

pub moved_stated_kept : (system : System) (log : List Entry) (p : Pid) → moved_with_state system (map with_reads_rising log) p ≡ moved_with_state system log p
moved_stated_kept system log p =
    ap stated (ap (last_that (moves p)) (told_kept system log) ∙ last_that-same told_rising (moves p) (moves_same p) (told system log)) ∙ by_last (last_that (moves p) (told system log))
  where
    stated : Option Told → Bool
    stated o = option_map_or (λ (t : Told). has_state system t.log p) o false

    by_last : (o : Option Told) → option_map_or (λ (t : Told). has_state system t.log p) (option_map told_rising o) false ≡ option_map_or (λ (t : Told). has_state system t.log p) o false
    by_last None = refl
    by_last (Some t) = stated_kept system t.log p

pub places_since_kept : (system : System) (log : List Entry) (p : Pid) → places_since_moved system (map with_reads_rising log) p ≡ places_since_moved system log p
places_since_kept system log p =
    λ i. (ap (map (λ (t : Told). t.places)) (since_moved_kept system log p) ∙ map-same told_rising (λ (t : Told). t.places) (λ t. refl) (since_moved system log p)) i
    ++ placement_kept system log i ∷ []

-- ---- fetches that wait

ends_same : (p : Pid) (n : ℕ) (t : Told) → ends_wait p n (told_rising t) ≡ ends_wait p n t
ends_same p n t = blind (λ w. is_page_is p n w || is_exit_of p w || option_map_or (is_moved p t.places) (cluster_lost w) false) (λ q small read took. refl) (what t.entry)

add_same : (o : Option (Pid × ℕ)) (rest : List Told) (waits : List (Pid × ℕ)) → add_wait o (map told_rising rest) waits ≡ add_wait o rest waits
add_same None rest waits = refl
add_same (Some f) rest waits = ap (λ b. cond b waits (f ∷ waits)) (list_any-same told_rising (ends_wait f.0 f.1) (ends_same f.0 f.1) rest)

waiting_same : (ts : List Told) → waiting_in (map told_rising ts) ≡ waiting_in ts
waiting_same [] = refl
waiting_same (t ∷ rest) =
    (λ i. add_wait (blind fetched (λ q small read took. refl) (what t.entry) i) (map told_rising rest) (waiting_same rest i)) ∙ add_same (fetched (what t.entry)) rest (waiting_in rest)

pub waiting_kept : (system : System) (log : List Entry) → waiting_fetches system (map with_reads_rising log) ≡ waiting_fetches system log
waiting_kept system log = ap waiting_in (told_kept system log) ∙ waiting_same (told system log)

-- ---- the end, and what was counted

pub last_kept : (system : System) (log : List Entry) → last_of (told system (map with_reads_rising log)) ≡ option_map told_rising (last_of (told system log))
last_kept system log = ap last_of (told_kept system log) ∙ last_of-same told_rising (told system log)

pub over_kept : (system : System) (log : List Entry) → is_over system (map with_reads_rising log) ≡ is_over system log
unfolding is_over
over_kept system log = ap over (last_kept system log) ∙ by_last (last_of (told system log))
  where
    over : Option Told → Bool
    over o = option_map_or (λ (t : Told). ends_run t.places (what t.entry)) o false

    by_last : (o : Option Told)
        → option_map_or (λ (t : Told). ends_run t.places (what t.entry)) (option_map told_rising o) false ≡ option_map_or (λ (t : Told). ends_run t.places (what t.entry)) o false
    by_last None = refl
    by_last (Some t) = blind (ends_run t.places) (λ q small read took. refl) (what t.entry)

pub counted_kept : (system : System) (log : List Entry) → counted system (map with_reads_rising log) ≡ counted system log
counted_kept system log =
    ap (sum_by (λ (t : Told). option_map_or (counted_at system t) (cluster_lost (what t.entry)) 0)) (told_kept system log)
    ∙ sum_by-same told_rising (λ (t : Told). option_map_or (counted_at system t) (cluster_lost (what t.entry)) 0) each (told system log)
  where
    at_loss : (t : Told) (o : Option ClusterNo) → option_map_or (counted_at system (told_rising t)) o 0 ≡ option_map_or (counted_at system t) o 0
    at_loss t None = refl
    at_loss t (Some k) = λ i. sum_by (λ (q : Placed). option_map_or withheld_in (record_kept system t.log q.pid i) 0) (filter (is_moved_by k) (t.places).placed)

    each : (t : Told) → option_map_or (counted_at system (told_rising t)) (cluster_lost (what (told_rising t).entry)) 0 ≡ option_map_or (counted_at system t) (cluster_lost (what t.entry)) 0
    each t = ap (λ o. option_map_or (counted_at system (told_rising t)) o 0) (blind cluster_lost (λ q small read took. refl) (what t.entry)) ∙ at_loss t (cluster_lost (what t.entry))
