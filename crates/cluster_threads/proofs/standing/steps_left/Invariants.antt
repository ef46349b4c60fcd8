use Rattle.std.proofs.Common.{◌≡◌, ℕ, take, ◌&&◌}
use Rattle.std.specs.Prelude.{◌==◌}
use Rattle.std.specs.List.{list_any}
use Rattle.bus_msg.specs.declared.entry.Cause.TheVariants.{Step}
use Rattle.bus_order.specs.Script.{has_unused}
use Rattle.cert_sched.specs.Losses.{is_step_word}
use Rattle.cluster_threads.proofs.standing.steps_left.Given as goal

-- those that the words so far name
abbrev pub invariant-loop-word : goal.invariant-loop-word
invariant-loop-word l = (n : ℕ) → list_any (λ (s : ℕ). s == n) l.steps.items ≡ (list_any (is_step_word l.number n) (take l.word-index l.script) && has_unused l.bus.left l.number (Step n))
