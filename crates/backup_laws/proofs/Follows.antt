-- What one more entry makes of the wait of a process for its new backup.
use Rattle.std.proofs.Common.{◌≡◌, refl, sym, ◌∙◌, ap, List, [], ◌∷◌, ◌++◌, Bool, true, false, not, ◌&&◌, ◌||◌, Some}
use Rattle.std.specs.Option.{option_map_or}
use Rattle.t32_base.specs.declared.process.Pid.{Pid}
use Rattle.t32_base.proofs.Facts.{or_true, and_true, or_false}
use Rattle.sys_text.specs.declared.system.System.{System}
use Rattle.bus_msg.specs.declared.entry.Entry.{Entry}
use Rattle.bus_msg.specs.declared.placed.Placed.{Placed}
use Rattle.bus_msg.specs.Places.{Places, unended_at}
use Rattle.bus_msg.specs.PlacedAfter.{what}
use Rattle.cert_sched.specs.Schedule.{placement}
use Rattle.cert_sched.specs.Moved.{names, was_moved}
use Rattle.cert_sched.specs.Rules.{has_awaited_backup, is_alone, is_full}
use Rattle.log_laws.specs.pages.Next.{moves_next}
use Rattle.backup_laws.proofs.Since.{awaited_in, awaited_is, awaited-moved, awaited-on, is_full_at, was_moved-snoc}

full_is : (places : Places) (p : Pid) (q : Placed) → unended_at places p ≡ Some q → is_full_at places p ≡ is_full q.mode
full_is places p q there = ap (λ o. option_map_or (λ (q : Placed). is_full q.mode) o false) there

module _ (system : System) (log : List Entry) (e : Entry) (p : Pid) where
  abbrev after : Places
  after = placement system (log ++ e ∷ [])

  after_is : (q : Placed) → unended_at after p ≡ Some q
      → has_awaited_backup system (log ++ e ∷ []) p ≡ (not (is_full q.mode && (was_moved system log p || moves_next system log e p)) || awaited_in system (log ++ e ∷ []) p)
  after_is q there = awaited_is system (log ++ e ∷ []) p ∙ (λ i. not (full_is after p q there i && was_moved-snoc system log e p i) || awaited_in system (log ++ e ∷ []) p)

  pub begins_here : (q : Placed) → moves_next system log e p ≡ true → unended_at after p ≡ Some q → has_awaited_backup system (log ++ e ∷ []) p ≡ (not (is_full q.mode) || is_alone p after)
  begins_here q moved there =
      after_is q there
      ∙ (λ i. not (is_full q.mode && (was_moved system log p || moved i)) || awaited-moved system log e p moved i)
      ∙ ap (λ b. not b || is_alone p after) (ap (λ b. is_full q.mode && b) (or_true (was_moved system log p)) ∙ and_true (is_full q.mode))

  -- where the process stays, by whether it was a fullback that was moved
  stays_here : (was q : Placed) → moves_next system log e p ≡ false → unended_at (placement system log) p ≡ Some was → unended_at after p ≡ Some q → q.mode ≡ was.mode
      → has_awaited_backup system (log ++ e ∷ []) p ≡ (has_awaited_backup system log p || (names p (what e) || is_alone p after))
  stays_here was q stays before there same =
      after_is q there
      ∙ (λ i. not (is_full (same i) && (was_moved system log p || stays i)) || awaited-on system log e p stays i)
      ∙ ap (λ b. not (is_full was.mode && b) || (awaited_in system log p || (names p (what e) || is_alone p after))) (or_false (was_moved system log p))
      ∙ three (not (is_full was.mode && was_moved system log p)) (awaited_in system log p) (names p (what e) || is_alone p after)
      ∙ ap (λ b. b || (names p (what e) || is_alone p after)) (sym (awaited_is system log p
      ∙ ap (λ b. not (b && was_moved system log p) || awaited_in system log p) (full_is (placement system log) p was before)))
    where
      three : (a b c : Bool) → (a || (b || c)) ≡ ((a || b) || c)
      three true b c = refl
      three false b c = refl

pub wait_begins : (system : System) (log : List Entry) (e : Entry) (p : Pid) (q : Placed) → moves_next system log e p ≡ true → unended_at (placement system (log ++ e ∷ [])) p ≡ Some q
    → has_awaited_backup system (log ++ e ∷ []) p ≡ (not (is_full q.mode) || is_alone p (placement system (log ++ e ∷ [])))
wait_begins system log e p q moved there = begins_here system log e p q moved there

pub wait_goes_on : (system : System) (log : List Entry) (e : Entry) (p : Pid) (was q : Placed) → moves_next system log e p ≡ false → unended_at (placement system log) p ≡ Some was
    → unended_at (placement system (log ++ e ∷ [])) p ≡ Some q → q.mode ≡ was.mode → has_awaited_backup system log p ≡ false
    → has_awaited_backup system (log ++ e ∷ []) p ≡ (names p (what e) || is_alone p (placement system (log ++ e ∷ [])))
wait_goes_on system log e p was q stays before there same waits =
    stays_here system log e p was q stays before there same ∙ ap (λ b. b || (names p (what e) || is_alone p (placement system (log ++ e ∷ [])))) waits

pub wait_ended : (system : System) (log : List Entry) (e : Entry) (p : Pid) (was q : Placed) → moves_next system log e p ≡ false → unended_at (placement system log) p ≡ Some was
    → unended_at (placement system (log ++ e ∷ [])) p ≡ Some q → q.mode ≡ was.mode → has_awaited_backup system log p ≡ true
    → has_awaited_backup system (log ++ e ∷ []) p ≡ true
wait_ended system log e p was q stays before there same has =
    stays_here system log e p was q stays before there same ∙ ap (λ b. b || (names p (what e) || is_alone p (placement system (log ++ e ∷ [])))) has
