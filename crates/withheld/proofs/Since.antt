-- What one more entry makes of the count of a process, which is never more than the log has entries.
use Rattle.std.proofs.Common.{◌≡◌, ℕ, ◌+◌, ◌≤◌, refl, ◌∙◌, ap, arith, List, [], ◌∷◌, ◌++◌, length, length-append, Bool, true, false, cond, ◌||◌}
use Rattle.t32_base.specs.declared.process.Pid.{Pid}
use Rattle.t32_base.proofs.Facts.{one_at_most}
use Rattle.sys_text.specs.declared.system.System.{System}
use Rattle.bus_msg.specs.declared.entry.What.{What}
use Rattle.bus_msg.specs.declared.entry.What.TheVariants.{Mail, Birth}
use Rattle.bus_msg.specs.declared.entry.Entry.{Entry}
use Rattle.bus_msg.specs.Places.{same_pid}
use Rattle.bus_msg.specs.PlacedAfter.{what}
use Rattle.cert_sched.specs.Deeds.{deeds_in, is_birth_of, is_cut, since, starts}
use Rattle.cert_sched.specs.Legal.{IsLegalBy, Stands}
use Rattle.cert_sched.proofs.Induction.{legal_induction}
use Rattle.cert_sched.proofs.RecordLaws.{since-snoc}
use Rattle.log_laws.proofs.records.OneRecord.{letter_out}
use Rattle.withheld.specs.Counts.{count_after, count_since, deeds_told, total_in}
use Rattle.withheld.proofs.DeedTotals.{total_more}

pub count_more : (system : System) (log : List Entry) (e : Entry) (p : Pid) → Stands system log e → count_since (log ++ e ∷ []) p ≡ count_after p (what e) (count_since log p)
count_more system log e p stands = ap total_in (since-snoc log e p) ∙ by_start (starts p e)
  where
    by_start : (b : Bool) → total_in (cond b [] (since log p ++ deeds_in p (what e))) ≡ cond b 0 (total_in (since log p) + deeds_told p (what e))
    by_start true = refl
    by_start false = total_more p (since log p) (what e) (λ at letter is. letter_out system log e at letter stands is)

-- ---- no more than the log has entries

one_deed : (p : Pid) (w : What) → deeds_told p w ≤ 1
one_deed p (Mail at letter) = one_at_most (same_pid letter.from p)
one_deed p (Birth parent at child end) = one_at_most (same_pid parent p)
one_deed p _ = omega arith

one_higher : (p : Pid) (w : What) (n : ℕ) → count_after p w n ≤ n + 1
one_higher p w n = by_start (is_cut p w || is_birth_of p w)
  where
    by_start : (b : Bool) → cond b 0 (n + deeds_told p w) ≤ n + 1
    by_start true = omega arith
    by_start false = let few = one_deed p w in omega (arith, few)

pub count_within : (system : System) (log : List Entry) (p : Pid) → IsLegalBy Stands system log → count_since log p ≤ length log
count_within system log p legal = legal_induction Stands system (λ log. count_since log p ≤ length log) (omega arith) more log legal
  where
    more : (log : List Entry) (e : Entry) → count_since log p ≤ length log → Stands system log e → count_since (log ++ e ∷ []) p ≤ length (log ++ e ∷ [])
    more log e before stands =
        let counts = count_more system log e p stands in
        let few = one_higher p (what e) (count_since log p) in
        let longer = length-append log (e ∷ []) in
        omega (arith, before, counts, few, longer)
