-- A walk over the beginning of a log, one entry further.
use Rattle.std.proofs.Common.{◌≡◌, ℕ, zero, suc, ◌+◌, ◌≤◌, ◌<◌, add-one, refl, sym, ◌∙◌, ap, subst, arith, List, [], ◌∷◌, ◌++◌, length, take, get_or, true}
use Rattle.std.proofs.Math.Seq.{take-suc}
use Rattle.t32_base.specs.declared.process.Pid.{Pid}
use Rattle.sys_text.specs.declared.system.System.{System}
use Rattle.sys_text.specs.Valid.{is_system}
use Rattle.bus_msg.specs.declared.entry.Entry.{Entry}
use Rattle.bus_msg.specs.Places.{Places}
use Rattle.bus_msg.specs.PlacedAfter.{placed_after, what}
use Rattle.channel_table.specs.Changes.{CanBeAbsorbed}
use Rattle.cert_sched.specs.Schedule.{placement, places_at_boot}
use Rattle.cert_sched.specs.Told.{told}
use Rattle.cert_sched.specs.Counted.{counted}
use Rattle.cert_sched.specs.Legal.{IsLegalBy, IsLegalFrom, Stands}
use Rattle.cert_sched.proofs.FreshLaws.{numbered}
use Rattle.cert_sched.proofs.LogLaws.{IsLegal-last, placement-snoc}
use Rattle.cert_sched.proofs.NextChildren.{stands_next}
use Rattle.log_laws.proofs.records.Standing.{itself}
use Rattle.withheld.specs.declared.walk.Walk.{Walk}
use Rattle.withheld.specs.Counts.{count_after, count_since, withheld_at}
use Rattle.withheld.specs.Walks.{HasWalked, WalksOver}
use Rattle.withheld.proofs.Since.{count_more, count_within}
use Rattle.withheld.proofs.Sums.{counted_more}

legal_from : (system : System) (before rest : List Entry) (n : ℕ) → IsLegalFrom Stands system before rest → IsLegalFrom Stands system before (take n rest)
legal_from system before rest zero legal = tt
legal_from system before [] (suc n) legal = tt
legal_from system before (e ∷ rest) (suc n) legal = (legal.0, legal_from system (before ++ e ∷ []) rest n legal.1)

-- in a beginning of such a log each entry stands
legal_beginning : (system : System) (log : List Entry) (n : ℕ) → IsLegalBy Stands system log → IsLegalBy Stands system (take n log)
unfolding IsLegalBy
legal_beginning system log n legal = legal_from system [] log n legal

length_take : (n : ℕ) (xs : List Entry) → length (take n xs) ≤ n
length_take zero xs = omega arith
length_take (suc n) [] = omega arith
length_take (suc n) (x ∷ xs) = let rest = length_take n xs in omega (arith, rest)

-- what the entry at a place asks of a walk, and makes of it
pub record OneMore (system : System) (log : List Entry) (n : ℕ) (e : Entry) : Type 0 where
  pub next : CanBeAbsorbed (placement system (take n log)) (what e)
  pub within : (p : Pid) → count_since (take n log) p ≤ n
  pub goes_on : (before after : Walk) → HasWalked system (take n log) before → WalksOver (what e) before after → HasWalked system (take (n + 1) log) after

pub one_more : (system : System) (log : List Entry) (n : ℕ) (e : Entry) → is_system system ≡ true → IsLegalBy Stands system log → n < length log → e ≡ get_or log n e → OneMore system log n e
one_more system log n e valid legal below is =
    let longer : take (n + 1) log ≡ take n log ++ e ∷ [] = ap (λ m. take m log) (add-one n) ∙ take-suc log n e below ∙ ap (λ (x : Entry). take n log ++ x ∷ []) (sym is) in
    let first : IsLegalBy Stands system (take n log) = legal_beginning system log n legal in
    let stands : Stands system (take n log) e = IsLegal-last Stands system (take n log) e (subst (IsLegalBy Stands system) longer (legal_beginning system log (n + 1) legal)) in
    record {
      next = stands_next system (take n log) e (numbered Stands itself system (take n log) valid first) stands;
      within = λ p. let few = count_within system (take n log) p first in let size = length_take n log in omega (arith, few, size);
      goes_on = λ before after has walks. subst (λ (log : List Entry). HasWalked system log after) (sym longer) (record {
        places = walks.places ∙ ap (λ (places : Places). placed_after places (what e)) has.places ∙ sym (placement-snoc system (take n log) e);
        counts = λ p. walks.counts p ∙ ap (count_after p (what e)) (has.counts p) ∙ sym (count_more system (take n log) e p stands);
        total = walks.total ∙ (λ i. has.total i + withheld_at (λ p. has.counts p i) (has.places i) (what e)) ∙ sym (counted_more system (take n log) e valid first);
      });
    }

-- before the first entry
pub placed_at_start : (system : System) → placement system [] ≡ places_at_boot system
unfolding placement
placed_at_start system = refl

pub none_at_start : (system : System) → counted system [] ≡ 0
unfolding told
none_at_start system = refl
