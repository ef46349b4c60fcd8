-- Induction over a legal log, the last entry last; and when a log is over.
use Rattle.std.proofs.Common.{◌≡◌, ℕ, zero, suc, sym, ◌∙◌, ap, subst, List, [], ◌∷◌, ◌++◌, take, append_assoc, append-nil, false}
use Rattle.std.specs.Option.{option_map_or}
use Rattle.sys_text.specs.declared.system.System.{System}
use Rattle.bus_msg.specs.declared.entry.Entry.{Entry}
use Rattle.bus_msg.specs.PlacedAfter.{what}
use Rattle.cert_sched.specs.Parts.{last_of}
use Rattle.cert_sched.specs.Schedule.{placement}
use Rattle.cert_sched.specs.Told.{Told, told}
use Rattle.cert_sched.specs.Rules.{is_over, ends_run}
use Rattle.cert_sched.specs.Legal.{IsLegalBy, IsLegalFrom}
use Rattle.cert_sched.proofs.ListLaws.{last_of-snoc}
use Rattle.cert_sched.proofs.LogLaws.{told-snoc, told_last}

-- ---- induction over a legal log, the last entry last

onward : (May : System → List Entry → Entry → Type 0) (system : System) (P : List Entry → Type 0) →
    ((log : List Entry) (e : Entry) → P log → May system log e → P (log ++ e ∷ [])) →
    (before rest : List Entry) → P before → IsLegalFrom May system before rest → P (before ++ rest)
onward May system P more before [] p h = subst P (sym (append-nil before)) p
onward May system P more before (e ∷ rest) p h = subst P (append_assoc before (e ∷ []) rest) (onward May system P more (before ++ e ∷ []) rest (more before e p h.0) h.1)

pub legal_induction : (May : System → List Entry → Entry → Type 0) (system : System) (P : List Entry → Type 0) → P [] →
    ((log : List Entry) (e : Entry) → P log → May system log e → P (log ++ e ∷ [])) →
    (log : List Entry) → IsLegalBy May system log → P log
unfolding IsLegalBy
legal_induction May system P none more log h = onward May system P more [] log none h

-- ---- a beginning

beginning_from : (May : System → List Entry → Entry → Type 0) (system : System) (before log : List Entry) (n : ℕ) → IsLegalFrom May system before log → IsLegalFrom May system before (take n log)
beginning_from May system before log zero legal = tt
beginning_from May system before [] (suc n) legal = tt
beginning_from May system before (e ∷ rest) (suc n) legal = (legal.0, beginning_from May system (before ++ e ∷ []) rest n legal.1)

-- of a legal log is legal
pub legal_prefix : (May : System → List Entry → Entry → Type 0) (system : System) (log : List Entry) (n : ℕ) → IsLegalBy May system log → IsLegalBy May system (take n log)
unfolding IsLegalBy
legal_prefix May system log n legal = beginning_from May system [] log n legal

-- ---- the end

-- whether a log is over its last entry says
pub is_over-snoc : (system : System) (log : List Entry) (e : Entry) → is_over system (log ++ e ∷ []) ≡ ends_run (placement system log) (what e)
unfolding is_over
is_over-snoc system log e =
    ap (λ ts. option_map_or (λ (t : Told). ends_run t.places (what t.entry)) (last_of ts) false) (told-snoc system log e)
    ∙ ap (λ t. option_map_or (λ (t : Told). ends_run t.places (what t.entry)) t false) (last_of-snoc (told system log) (told_last system log e))
