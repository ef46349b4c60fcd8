-- A birth leaves no more pages to ask for: no crash has moved the child.
use Rattle.std.proofs.Common.{◌≡◌, ℕ, ◌≤◌, refl, sym, ◌∙◌, ap, subst, arith, List, [], ◌∷◌, ◌++◌, length, Bool, true, false, cond, is_some, true≢false}
use Rattle.std.specs.Prelude.{count_by, sum_by}
use Rattle.std.specs.List.{range_with_len}
use Rattle.t32_base.specs.declared.process.Pid.{Pid}
use Rattle.sys_text.specs.declared.system.System.{System}
use Rattle.sys_text.specs.Valid.{is_system}
use Rattle.bus_msg.specs.declared.entry.What.TheVariants.{Birth}
use Rattle.bus_msg.specs.declared.entry.Entry.{Entry}
use Rattle.bus_msg.specs.declared.placed.Placed.{Placed}
use Rattle.bus_msg.specs.Places.{Places, placed_at, same_pid, unended_in}
use Rattle.bus_msg.specs.PlacedAfter.{placed_after, what}
use Rattle.cert_sched.specs.Schedule.{placement}
use Rattle.cert_sched.specs.Told.{cluster_lost}
use Rattle.cert_sched.specs.Deeds.{is_birth_of}
use Rattle.cert_sched.specs.Moved.{moved_with_state, waiting_fetches}
use Rattle.cert_sched.specs.Steps.{page_count}
use Rattle.cert_sched.specs.Legal.{IsLegalBy, Stands}
use Rattle.cert_sched.proofs.BornLaws.{child_absent}
use Rattle.cert_sched.proofs.LogLaws.{placement-snoc}
use Rattle.cert_sched.proofs.StatedLaws.{stated_there}
use Rattle.log_laws.specs.pages.Left.{is_unasked, left_of_pages, unasked, unasked_of}
use Rattle.log_laws.proofs.pages.BornSums.{born_sum, child_not_unended, itself, others_most}
use Rattle.log_laws.proofs.pages.Leaving.{unasked_of-most}
use Rattle.log_laws.proofs.pages.MovedStated.{moved_stated}
use Rattle.log_laws.proofs.pages.OneEntry.{after_other, moved-goes_on, moves_none, turned, waiting-snoc, waits_after}

module _ (system : System) (log : List Entry) (e : Entry) (parent : Pid) (at : ℕ) (child : Pid) (end : ℕ) (valid : is_system system ≡ true) (legal : IsLegalBy Stands system log) (stands : Stands system log e) (is : what e ≡ Birth parent at child end) where
  not_moved : moved_with_state system log child ≡ false
  not_moved = by_test (moved_with_state system log child) refl
    where
      by_test : (b : Bool) → moved_with_state system log child ≡ b → b ≡ false
      by_test true moved =
          absurd (true≢false (sym (stated_there Stands itself system log child valid legal (moved_stated system log child legal moved)) ∙ ap is_some (child_absent system log e parent at child end is stands.applies)))
      by_test false other = refl

  -- so none of its pages is to be asked for
  child_asks_none : unasked_of system (log ++ e ∷ []) child ≡ 0
  child_asks_none =
      ap (λ b. cond b (count_by (is_unasked system (log ++ e ∷ []) child) (range_with_len 0 (page_count system (log ++ e ∷ []) child))) 0)
      (moved-goes_on system log e child (moves_none system log e (ap cluster_lost is) child) ∙ not_moved)

  others : (q : Placed) → same_pid q.pid child ≡ false → unasked_of system (log ++ e ∷ []) q.pid ≤ unasked_of system log q.pid
  others q apart = unasked_of-most system log e stands q.pid (ap (is_birth_of q.pid) is ∙ turned child.0 (q.pid).0 ∙ apart) (moves_none system log e (ap cluster_lost is) q.pid)

  unasked_born : unasked system (log ++ e ∷ []) ≤ unasked system log
  unasked_born =
      let after : Pid → ℕ = unasked_of system (log ++ e ∷ []) in
      let born = born_sum after (placement system log) child (placed_at (placement system log) parent) in
      let most = others_most (λ (q : Placed). after q.pid) (λ (q : Placed). unasked_of system log q.pid) child others (unended_in (placement system log)) (child_not_unended system log e parent at child end valid legal stands is) in
      let none = child_asks_none in
      subst (λ (places : Places). sum_by (λ (q : Placed). after q.pid) (unended_in places) ≤ unasked system log) (sym (placement-snoc system log e ∙ ap (placed_after (placement system log)) is)) (omega (arith, born, most, none))

  -- no more is left
  pub left_birth : left_of_pages system (log ++ e ∷ []) ≤ left_of_pages system log
  left_birth =
      let same : length (waiting_fetches system (log ++ e ∷ [])) ≡ length (waiting_fetches system log) =
      ap length (waiting-snoc system log e ∙ ap (λ w. waits_after (placement system log) w (waiting_fetches system log)) is ∙ after_other (Birth parent at child end) refl (placement system log) (waiting_fetches system log)) in
      let asked = unasked_born in
      omega (arith, asked, same)
