-- What one more entry does to each question that is asked of a log.
use Rattle.std.proofs.Common.{◌≡◌, refl, sym, ◌∙◌, ap, List, [], ◌∷◌, ◌++◌, append_assoc, append-nil, Option, Some, None}
use Rattle.std.specs.Prelude.{fold, option_and_then}
use Rattle.std.proofs.lemmas.List.Sums.{fold-append}
use Rattle.t32_base.specs.declared.process.Pid.{Pid}
use Rattle.sys_text.specs.declared.system.System.{System}
use Rattle.plain_kernel.specs.Kernel.{Kernel, boot, process_at}
use Rattle.plain_kernel.specs.Apply.{apply_all, plain_run}
use Rattle.bus_msg.specs.declared.entry.Entry.{Entry}
use Rattle.bus_msg.specs.Places.{Places}
use Rattle.bus_msg.specs.PlacedAfter.{what, placed_after}
use Rattle.cert_sched.specs.Schedule.{after_entry, plain_after, process_after, items_in, items_of, schedule_from, schedule_of, placement, places_at_boot}
use Rattle.cert_sched.specs.Told.{Told, told, told_from}
use Rattle.cert_sched.specs.Account.{account_step, account_after, account_at_boot}
use Rattle.cert_sched.specs.Legal.{IsLegalBy, IsLegalFrom}
use Rattle.plain_kernel.proofs.Laws.{apply_all-append}

pub plain_after-snoc : (system : System) (log : List Entry) (e : Entry) → plain_after system (log ++ e ∷ []) ≡ after_entry (plain_after system log) e
unfolding plain_after
plain_after-snoc system log e = fold-append after_entry (Some (boot system)) log (e ∷ [])

pub placement-snoc : (system : System) (log : List Entry) (e : Entry) → placement system (log ++ e ∷ []) ≡ placed_after (placement system log) (what e)
unfolding placement
placement-snoc system log e = fold-append (λ (places : Places) (e : Entry). placed_after places (what e)) (places_at_boot system) log (e ∷ [])

-- an entry without an item leaves the kernel as it is
pub no_items : (system : System) (log : List Entry) (e : Entry) → ((k : Kernel) → items_of k (what e) ≡ []) → plain_after system (log ++ e ∷ []) ≡ plain_after system log
no_items system log e none = plain_after-snoc system log e ∙ by_kernel (plain_after system log)
  where
    by_kernel : (o : Option Kernel) → after_entry o e ≡ o
    by_kernel None = refl
    by_kernel (Some k) = ap (λ is. apply_all is k) (none k)

-- and every process
pub process_after-quiet : (system : System) (log : List Entry) (e : Entry) → ((k : Kernel) → items_of k (what e) ≡ []) → (p : Pid) → process_after system (log ++ e ∷ []) p ≡ process_after system log p
process_after-quiet system log e none p = ap (option_and_then (λ k. process_at k p)) (no_items system log e none)

-- the schedule goes on by the items of the entry
schedule_from-append : (k : Option Kernel) (log more : List Entry) → schedule_from k (log ++ more) ≡ schedule_from k log ++ schedule_from (fold after_entry k log) more
schedule_from-append k [] more = refl
schedule_from-append k (e ∷ log) more = ap (λ is. items_in k e ++ is) (schedule_from-append (after_entry k e) log more) ∙ sym (append_assoc (items_in k e) _ _)

pub schedule_of-snoc : (system : System) (log : List Entry) (e : Entry) → schedule_of system (log ++ e ∷ []) ≡ schedule_of system log ++ items_in (plain_after system log) e
unfolding schedule_of plain_after
schedule_of-snoc system log e = schedule_from-append (Some (boot system)) log (e ∷ []) ∙ ap (λ is. schedule_from (Some (boot system)) log ++ is) (append-nil (items_in (fold after_entry (Some (boot system)) log) e))

-- the kernel after a log is that of its schedule
run_from : (k : Option Kernel) (log : List Entry) → option_and_then (apply_all (schedule_from k log)) k ≡ fold after_entry k log
run_from None [] = refl
run_from (Some k) [] = refl
run_from None (e ∷ log) = run_from None log
run_from (Some k) (e ∷ log) = apply_all-append (items_of k (what e)) _ k ∙ run_from (after_entry (Some k) e) log

pub plain_run-schedule_of : (system : System) (log : List Entry) → plain_run system (schedule_of system log) ≡ plain_after system log
unfolding schedule_of plain_after
plain_run-schedule_of system log = run_from (Some (boot system)) log

-- an entry with what stood before it
abbrev pub told_last : System → List Entry → Entry → Told
told_last system log e = record { log = log; places = placement system log; entry = e }

told_from-append : (log : List Entry) (places : Places) (more : List Entry) (e : Entry) →
    told_from log places (more ++ e ∷ []) ≡ told_from log places more ++ record { log = log ++ more; places = fold (λ (p : Places) (e : Entry). placed_after p (what e)) places more; entry = e } ∷ []
told_from-append log places [] e = rw (append-nil log) refl
told_from-append log places (f ∷ more) e =
    ap (λ (ts : List Told). record { log = log; places = places; entry = f } ∷ ts) (told_from-append (log ++ f ∷ []) (placed_after places (what f)) more e ∙ rw (append_assoc log (f ∷ []) more) refl)

pub told-snoc : (system : System) (log : List Entry) (e : Entry) → told system (log ++ e ∷ []) ≡ told system log ++ told_last system log e ∷ []
unfolding told placement
told-snoc system log e = told_from-append [] (places_at_boot system) log e

pub account_after-snoc : (system : System) (log : List Entry) (e : Entry) (p : Pid) →
    account_after system (log ++ e ∷ []) p ≡ account_step p (account_after system log p) (told_last system log e)
unfolding account_after
account_after-snoc system log e p = rw (told-snoc system log e) (fold-append (account_step p) (account_at_boot system p) (told system log) (told_last system log e ∷ []))

-- a legal log is a legal log with one more entry that may follow, whichever the rule
from_append : (May : System → List Entry → Entry → Type 0) (system : System) (log more : List Entry) (e : Entry) →
    IsLegalFrom May system log (more ++ e ∷ []) → IsLegalFrom May system log more × May system (log ++ more) e
from_append May system log [] e h = (tt, rw (append-nil log) h.0)
from_append May system log (f ∷ more) e h =
    let r = from_append May system (log ++ f ∷ []) more e h.1 in
    ((h.0, r.0), rw (← append_assoc log (f ∷ []) more) r.1)

pub IsLegal-before : (May : System → List Entry → Entry → Type 0) (system : System) (log : List Entry) (e : Entry) → IsLegalBy May system (log ++ e ∷ []) → IsLegalBy May system log
unfolding IsLegalBy
IsLegal-before May system log e h = (from_append May system [] log e h).0

pub IsLegal-last : (May : System → List Entry → Entry → Type 0) (system : System) (log : List Entry) (e : Entry) → IsLegalBy May system (log ++ e ∷ []) → May system log e
unfolding IsLegalBy
IsLegal-last May system log e h = (from_append May system [] log e h).1

to_append : (May : System → List Entry → Entry → Type 0) (system : System) (log more : List Entry) (e : Entry) →
    IsLegalFrom May system log more → May system (log ++ more) e → IsLegalFrom May system log (more ++ e ∷ [])
to_append May system log [] e h m = (rw (append-nil log) at m, tt)
to_append May system log (f ∷ more) e h m = (h.0, to_append May system (log ++ f ∷ []) more e h.1 (rw (append_assoc log (f ∷ []) more) m))

pub IsLegal-snoc : (May : System → List Entry → Entry → Type 0) (system : System) (log : List Entry) (e : Entry) → IsLegalBy May system log → May system log e → IsLegalBy May system (log ++ e ∷ [])
unfolding IsLegalBy
IsLegal-snoc May system log e h m = to_append May system [] log e h m
