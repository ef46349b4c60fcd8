-- A batch has no page that was sent at its step count already: none was where its mark is set, and its pages are apart.
use Rattle.std.proofs.Common.{◌≡◌, ℕ, zero, suc, ◌+◌, ◌<◌, ◌≤◌, refl, ◌∙◌, ap, subst, arith, List, [], ◌∷◌, ◌++◌, length, map, Bool, true, false, cond, not, ◌&&◌, ◌||◌, eqb, ne_eqb}
use Rattle.std.specs.Prelude.{filter}
use Rattle.std.specs.List.{range_with_len}
use Rattle.t32_base.specs.declared.process.Pid.{Pid}
use Rattle.t32_base.specs.declared.process.ClusterNo.{ClusterNo}
use Rattle.sys_text.specs.declared.system.System.{System}
use Rattle.proc_state.specs.declared.process.Process.{Process}
use Rattle.proc_state.specs.State.{state_of}
use Rattle.bus_msg.specs.declared.entry.Entry.{Entry}
use Rattle.bus_msg.specs.Places.{same_pid}
use Rattle.bus_msg.specs.PlacedAfter.{what}
use Rattle.sync_point.specs.Batch.{batch, page_post, sync_post, is_marked}
use Rattle.cert_sched.specs.Appended.{entry_of}
use Rattle.cert_sched.specs.Moved.{any_since_moved, is_page_at}
use Rattle.log_laws.proofs.pages.OneEntry.{moves_none, any_since-goes_on}
use Rattle.checkpoint_laws.specs.posts.Running.{RunsMarked}
use Rattle.checkpoint_laws.specs.posts.Batched.{AllNew}
use Rattle.checkpoint_laws.proofs.posts.MarksLead.{marks_count}
use Rattle.checkpoint_laws.proofs.posts.BatchStands.{own_pid}

module _ (system : System) (p : Pid) (process : Process) (by : ClusterNo) (own : (process.small).pid ≡ p) where
  -- page i was not sent at the present step count
  IsUnsent : List Entry → ℕ → Type 0
  IsUnsent log i = any_since_moved system log p (is_page_at p i (process.small).steps) ≡ false

  none_of : (a b : Bool) → a ≡ false → b ≡ false → (a || b) ≡ false
  none_of a b no_a no_b = rw (no_a, no_b) refl

  middle : (a b c : Bool) → b ≡ false → (a && b && c) ≡ false
  middle true b c is_not = ap (λ b. b && c) is_not
  middle false b c is_not = refl

  -- another page does not change that
  still_unsent : (log : List Entry) (i j : ℕ) → (j ≡ i → ⊥) → IsUnsent log i → IsUnsent (log ++ entry_of system log (page_post process by j) ∷ []) i
  unfolding IsUnsent
  still_unsent log i j apart unsent =
      let e : Entry = entry_of system log (page_post process by j) in
      any_since-goes_on system log e p (is_page_at p i (process.small).steps) (moves_none system log e refl p)
      ∙ none_of (any_since_moved system log p (is_page_at p i (process.small).steps)) (is_page_at p i (process.small).steps (what e)) unsent
      (middle (same_pid (process.small).pid p) (eqb j i) (eqb (process.small).steps (process.small).steps) (ne_eqb j i apart))

  -- the marked pages from number a on, and then the state
  all_new : (a k n : ℕ) (log : List Entry) → a + k ≤ n → ((i : ℕ) → a ≤ i → i < n → is_marked process i ≡ true → IsUnsent log i)
      → AllNew system log (map (page_post process by) (filter (is_marked process) (range_with_len a k)) ++ sync_post process by ∷ [])
  unfolding IsUnsent
  all_new a zero n log fits unsent = (refl, tt)
  all_new a (suc k) n log fits unsent = by_test (is_marked process a) refl (λ log unsent. all_new (a + 1) k n log (omega (arith, fits)) unsent)
    where
      by_test : (b : Bool) → is_marked process a ≡ b
          → ((log : List Entry) → ((i : ℕ) → a + 1 ≤ i → i < n → is_marked process i ≡ true → IsUnsent log i) → AllNew system log (map (page_post process by) (filter (is_marked process) (range_with_len (a + 1) k)) ++ sync_post process by ∷ []))
          → AllNew system log (map (page_post process by) (cond b (a ∷ filter (is_marked process) (range_with_len (a + 1) k)) (filter (is_marked process) (range_with_len (a + 1) k))) ++ sync_post process by ∷ [])
      by_test true is more = (
        ap (λ q. not (any_since_moved system log q (is_page_at q a (process.small).steps))) own ∙ ap not (unsent a (omega arith) (omega (arith, fits)) is),
        more (log ++ entry_of system log (page_post process by a) ∷ []) (λ i above within marked. still_unsent log i a (λ at. omega (arith, at, above)) (unsent i (omega (arith, above)) within marked)),
      )
      by_test false is more = more log (λ i above within marked. unsent i (omega (arith, above)) within marked)

pub batch_is_new : (system : System) (log : List Entry) (p : Pid) (process : Process) (by : ClusterNo) → RunsMarked system log p process → AllNew system log (batch process by)
unfolding IsUnsent
batch_is_new system log p process by runs =
    all_new system p process by (own_pid system log p (state_of process) (process.small).steps runs.reached) 0 (length (process.ram).dirty) (length (process.ram).dirty) log (omega arith)
    (λ i above within marked. (runs.marked).unsent i (subst (λ n. i < n) (marks_count system log p process runs) within) marked)
