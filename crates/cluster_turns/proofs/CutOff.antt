-- Who was cut off, and how a log ends.
use Rattle.std.proofs.Common.{◌≡◌, ℕ, drop, ◌⊎◌, inl, inr, refl, sym, ◌∙◌, ap, List, Bool, true, false, not, ◌&&◌, ◌||◌, true≢false}
use Rattle.std.proofs.lemmas.Bool.{and_parts, or_left, or_right, or_parts}
use Rattle.t32_base.specs.declared.process.ClusterNo.{ClusterNo}
use Rattle.sys_text.specs.declared.system.System.{System}
use Rattle.bus_msg.specs.declared.entry.Entry.{Entry}
use Rattle.cert_sched.specs.Losses.{was_lost_in}
use Rattle.cert_sched.specs.Rules.{is_over}
use Rattle.cert_sched.specs.Scripted.{is_closed, is_finished}
use Rattle.bus_order.proofs.OverLaws.{finished_closed}
use Rattle.cluster_turns.specs.Ends.{ends_lost, has_run_out, is_cut_off}

-- ---- a loss that is not covered stands last

pub ended_over : (system : System) (log : List Entry) → ends_lost system log ≡ true → (is_over system log ≡ true) × (is_closed log ≡ false)
ended_over system log ended =
    let parts = and_parts (is_over system log) (not (is_closed log)) ended in
    (parts.0, by_test (is_closed log) parts.1)
  where
    by_test : (b : Bool) → not b ≡ true → b ≡ false
    by_test true h = absurd (true≢false (sym h))
    by_test false h = refl

-- not where the log goes on
pub open_not_ended : (system : System) (log : List Entry) → is_over system log ≡ false → ends_lost system log ≡ false
open_not_ended system log goes_on = ap (λ b. b && not (is_closed log)) goes_on

-- nor where the end stands last
pub finished_not_ended : (system : System) (log : List Entry) → is_finished log ≡ true → ends_lost system log ≡ false
finished_not_ended system log finished = ap (λ b. is_over system log && not b) (finished_closed log finished) ∙ by_test (is_over system log)
  where
    by_test : (b : Bool) → (b && false) ≡ false
    by_test true = refl
    by_test false = refl

-- a log that is over, and not closed by a stop, has run out
pub over_run_out : (system : System) (log : List Entry) → is_over system log ≡ true → (is_closed log ≡ true → is_finished log ≡ true) → has_run_out system log ≡ true
over_run_out system log over unstopped = by_test (is_closed log) refl
  where
    by_test : (b : Bool) → is_closed log ≡ b → has_run_out system log ≡ true
    by_test true closed = or_left (is_finished log) (ends_lost system log) (unstopped closed)
    by_test false open_still = or_right (is_finished log) (ends_lost system log) (λ i. over i && not (open_still i))

-- and ended by the end or by such a loss
pub run_out_parts : (system : System) (log : List Entry) → has_run_out system log ≡ true → (is_finished log ≡ true) ⊎ (ends_lost system log ≡ true)
run_out_parts system log out = by_test (is_finished log) refl out
  where
    by_test : (b : Bool) → is_finished log ≡ b → (b || ends_lost system log) ≡ true → (is_finished log ≡ true) ⊎ (ends_lost system log ≡ true)
    by_test true finished h = inl finished
    by_test false unfinished h = inr h

-- ---- a cluster

module _ (k : ClusterNo) (system : System) (log : List Entry) (n : ℕ) where
  pub cut_lost : was_lost_in (drop n log) k ≡ true → is_cut_off k system log n ≡ true
  cut_lost lost = or_left (was_lost_in (drop n log) k) (ends_lost system log) lost

  pub cut_ended : ends_lost system log ≡ true → is_cut_off k system log n ≡ true
  cut_ended ended = or_right (was_lost_in (drop n log) k) (ends_lost system log) ended

  -- one that was cut off was lost, or lived when the run ended
  pub cut_parts : is_cut_off k system log n ≡ true → (was_lost_in (drop n log) k ≡ true) ⊎ ((was_lost_in (drop n log) k ≡ false) × (ends_lost system log ≡ true))
  cut_parts cut = by_test (was_lost_in (drop n log) k) refl cut
    where
      by_test : (b : Bool) → was_lost_in (drop n log) k ≡ b → (b || ends_lost system log) ≡ true → (was_lost_in (drop n log) k ≡ true) ⊎ ((was_lost_in (drop n log) k ≡ false) × (ends_lost system log ≡ true))
      by_test true lost h = inl lost
      by_test false lives h = inr (lives, h)

  pub cut_not : is_cut_off k system log n ≡ false → (was_lost_in (drop n log) k ≡ false) × (ends_lost system log ≡ false)
  cut_not whole = or_parts (was_lost_in (drop n log) k) (ends_lost system log) whole

  -- one that lives is not, where the run has not ended so
  pub whole_living : was_lost_in (drop n log) k ≡ false → ends_lost system log ≡ false → is_cut_off k system log n ≡ false
  whole_living lives going = λ i. lives i || going i
