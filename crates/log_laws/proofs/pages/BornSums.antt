-- Sums over the processes that have not ended, where a child is born: it was none of them.
use Rattle.std.proofs.Common.{◌≡◌, ℕ, ◌+◌, ◌≤◌, refl, sym, ◌∙◌, ap, arith, List, [], ◌∷◌, Bool, true, false, cond, not, ◌||◌, eqb, Option, Some, None, is_some, true≢false}
use Rattle.std.specs.Prelude.{filter, sum_by}
use Rattle.std.specs.List.{list_any}
use Rattle.std.proofs.lemmas.List.Elements.{filter-append}
use Rattle.std.proofs.lemmas.List.Sums.{sum_by-append, sum_by-cons}
use Rattle.t32_base.specs.declared.process.Pid.{Pid}
use Rattle.sys_text.specs.declared.system.System.{System}
use Rattle.sys_text.specs.Valid.{is_system}
use Rattle.bus_msg.specs.declared.entry.What.TheVariants.{Birth}
use Rattle.bus_msg.specs.declared.entry.Entry.{Entry}
use Rattle.bus_msg.specs.declared.placed.Placed.{Placed}
use Rattle.bus_msg.specs.Places.{Places, same_pid, unended_in}
use Rattle.bus_msg.specs.PlacedAfter.{child_of, what, with_birth}
use Rattle.cert_sched.specs.Schedule.{placement}
use Rattle.cert_sched.specs.Legal.{IsLegalBy, Stands}
use Rattle.cert_sched.proofs.BornLaws.{child_absent}
use Rattle.cert_sched.proofs.CameLaws.{IsStandingRule}
use Rattle.cert_sched.proofs.PidLaws.{placed_pids}
use Rattle.cert_sched.proofs.ThereLaws.{placed_there}

-- one that is not among some is not among fewer
fewer_among : (c : Pid) (u : Placed → Bool) (qs : List Placed) → list_any (λ m. eqb m c.0) (placed_pids qs) ≡ false → list_any (λ m. eqb m c.0) (placed_pids (filter u qs)) ≡ false
fewer_among c u [] none = refl
fewer_among c u (q ∷ qs) none = by_tests (same_pid q.pid c) (u q) refl none (fewer_among c u qs)
  where
    by_tests : (b t : Bool) → same_pid q.pid c ≡ b → (b || list_any (λ m. eqb m c.0) (placed_pids qs)) ≡ false
        → (list_any (λ m. eqb m c.0) (placed_pids qs) ≡ false → list_any (λ m. eqb m c.0) (placed_pids (filter u qs)) ≡ false) → list_any (λ m. eqb m c.0) (placed_pids (cond t (q ∷ filter u qs) (filter u qs))) ≡ false
    by_tests true t is none more = absurd (true≢false none)
    by_tests false true is none more = ap (λ b. b || list_any (λ m. eqb m c.0) (placed_pids (filter u qs))) is ∙ more none
    by_tests false false is none more = more none

-- where c is none of them, and for every other no more, no more in sum
pub others_most : (f g : Placed → ℕ) (c : Pid) → ((q : Placed) → same_pid q.pid c ≡ false → f q ≤ g q) → (qs : List Placed) → list_any (λ m. eqb m c.0) (placed_pids qs) ≡ false → sum_by f qs ≤ sum_by g qs
others_most f g c others [] none = omega arith
others_most f g c others (q ∷ qs) none = by_test (same_pid q.pid c) refl none (others_most f g c others qs)
  where
    by_test : (b : Bool) → same_pid q.pid c ≡ b → (b || list_any (λ m. eqb m c.0) (placed_pids qs)) ≡ false → (list_any (λ m. eqb m c.0) (placed_pids qs) ≡ false → sum_by f qs ≤ sum_by g qs) → sum_by f (q ∷ qs) ≤ sum_by g (q ∷ qs)
    by_test true is none more = absurd (true≢false none)
    by_test false is none more = let rest = more none in omega (arith, sum_by-cons f q qs, sum_by-cons g q qs, others q is, rest)

-- a birth adds the child at most
pub born_sum : (g : Pid → ℕ) (places : Places) (child : Pid) (o : Option Placed) → sum_by (λ (q : Placed). g q.pid) (unended_in (with_birth places child o)) ≤ sum_by (λ (q : Placed). g q.pid) (unended_in places) + g child
born_sum g places child None = omega arith
born_sum g places child (Some parent) =
    let f : Placed → ℕ = λ q. g q.pid in
    let parts : sum_by f (unended_in (with_birth places child (Some parent))) ≡ sum_by f (unended_in places) + sum_by f (child_of parent child ∷ []) =
    ap (sum_by f) (filter-append (λ (q : Placed). not q.ended) places.placed (child_of parent child ∷ [])) ∙ sum_by-append f (unended_in places) (child_of parent child ∷ []) in
    omega (arith, parts, sum_by-cons f (child_of parent child) [])

-- the rule that each entry stands
pub itself : IsStandingRule Stands
itself system log e stands = stands

-- a child that is born is none of those that were placed
pub child_not_placed : (system : System) (log : List Entry) (e : Entry) (parent : Pid) (at : ℕ) (child : Pid) (end : ℕ) → is_system system ≡ true → IsLegalBy Stands system log → Stands system log e → what e ≡ Birth parent at child end
    → list_any (λ m. eqb m child.0) (placed_pids (placement system log).placed) ≡ false
child_not_placed system log e parent at child end valid legal stands is = by_test (list_any (λ m. eqb m child.0) (placed_pids (placement system log).placed)) refl
  where
    by_test : (b : Bool) → list_any (λ m. eqb m child.0) (placed_pids (placement system log).placed) ≡ b → b ≡ false
    by_test true placed = absurd (true≢false (sym (placed_there Stands itself system log child valid legal placed) ∙ ap is_some (child_absent system log e parent at child end is stands.applies)))
    by_test false other = refl

-- nor of those that have not ended
pub child_not_unended : (system : System) (log : List Entry) (e : Entry) (parent : Pid) (at : ℕ) (child : Pid) (end : ℕ) → is_system system ≡ true → IsLegalBy Stands system log → Stands system log e → what e ≡ Birth parent at child end
    → list_any (λ m. eqb m child.0) (placed_pids (unended_in (placement system log))) ≡ false
child_not_unended system log e parent at child end valid legal stands is = fewer_among child (λ (q : Placed). not q.ended) (placement system log).placed (child_not_placed system log e parent at child end valid legal stands is)
