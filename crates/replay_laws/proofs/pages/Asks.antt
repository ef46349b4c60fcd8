-- The lowest page that a process did not ask for may be fetched.
use Rattle.std.proofs.Common.{◌≡◌, ℕ, ◌+◌, ◌<◌, refl, sym, ◌∙◌, ap, subst, arith, List, length, Bool, true, false, cond, ◌||◌, eqb, Some, None}
use Rattle.std.specs.Prelude.{nat_lt}
use Rattle.std.proofs.lemmas.Bool.Decides.{nat_tests}
use Rattle.std.proofs.lemmas.Option.{same_Some}
use Rattle.t32_base.specs.declared.process.Pid.{Pid}
use Rattle.t32_base.proofs.Facts.{or_false}
use Rattle.sys_text.specs.declared.system.System.{System}
use Rattle.bus_msg.specs.declared.entry.Entry.{Entry}
use Rattle.cert_sched.specs.Kinds.{FetchHolds}
use Rattle.cert_sched.specs.Moved.{any_since_moved, is_fetch}
use Rattle.page_waits.specs.Waiting.{WaitingState, next_page}
use Rattle.replay_laws.specs.pages.Waits.{WaitsAs, none_queued}

below : (a b : ℕ) → nat_lt a b ≡ true → a < b
below a b is = grind (arith, nat_tests)

not_itself : (i : ℕ) → nat_lt i i ≡ false
not_itself i = grind (arith, nat_tests)

-- below the next number is what was below, and that number
one_more : (j n : ℕ) → nat_lt j (n + 1) ≡ (nat_lt j n || eqb j n)
one_more j n = by_tests (nat_lt j n) (eqb j n) refl refl
  where
    by_tests : (a b : Bool) → nat_lt j n ≡ a → eqb j n ≡ b → nat_lt j (n + 1) ≡ (a || b)
    by_tests true b less same = grind (arith, nat_tests)
    by_tests false true less same = grind (arith, nat_tests)
    by_tests false false less same = grind (arith, nat_tests)

-- it is the number of those that were asked for, and there is such a page
record IsNext (w : WaitingState) (i : ℕ) : Type 0 where
  pub same : w.asked ≡ i
  pub within : i < length w.come

is_next : (w : WaitingState) (i : ℕ) → next_page w ≡ Some i → IsNext w i
is_next w i next = by_test (nat_lt w.asked (length w.come)) refl next
  where
    by_test : (b : Bool) → nat_lt w.asked (length w.come) ≡ b → cond b (Some w.asked) None ≡ Some i → IsNext w i
    by_test true less e = let same = same_Some w.asked i e in record { same = same; within = subst (λ n. n < length w.come) same (below w.asked (length w.come) less) }
    by_test false less e = cc

module _ (system : System) (log : List Entry) (p : Pid) (w : WaitingState) (waits : WaitsAs system log p none_queued w) where
  -- what was asked for stands in the log
  pub in_log : (j : ℕ) → j < length w.come → nat_lt j w.asked ≡ any_since_moved system log p (is_fetch p j)
  in_log j within = waits.asked j within ∙ or_false (any_since_moved system log p (is_fetch p j))

  pub next_fetch : (i : ℕ) → next_page w ≡ Some i → FetchHolds system log p i
  next_fetch i next =
      let n = is_next w i next in
      record {
        within = subst (λ n. i < n) waits.pages n.within;
        moved = waits.moved;
        unasked = sym (in_log i n.within) ∙ ap (nat_lt i) n.same ∙ not_itself i;
      }

  -- with that fetch in the queue it is asked for
  pub next_asked : (i : ℕ) → next_page w ≡ Some i → WaitsAs system log p (λ j. eqb j i) (record w { asked = w.asked + 1 })
  next_asked i next =
      let n = is_next w i next in
      record {
        kept = waits.kept;
        moved = waits.moved;
        pages = waits.pages;
        some = waits.some;
        at_most = waits.at_most;
        asked = λ j within. one_more j w.asked ∙ (λ k. in_log j within k || eqb j (n.same k));
        come = waits.come;
      }
