use Rattle.std.proofs.Common.{◌≡◌, ◌∙◌, ℕ, ◌&&◌, ap, sym, subst, List}
use Rattle.std.specs.Prelude.{◌==◌}
use Rattle.std.specs.List.{list_any}
use Rattle.std.proofs.lemmas.List.{take_all}
use Rattle.bus_msg.specs.declared.entry.Cause.TheVariants.{Step}
use Rattle.bus_order.specs.Script.{has_unused}
use Rattle.cert_sched.specs.declared.script.ScriptWord.{ScriptWord}
use Rattle.cert_sched.specs.Losses.{is_step_word}
use Rattle.cluster_threads.specs.Steps.{AreStepsLeft}
use Rattle.cluster_threads.proofs.StepsLeft.{steps_all, steps_more}
use Rattle.cluster_threads.proofs.standing.steps_left.Goals as goal

pub loop-word-preserved : goal.loop-word-preserved
loop-word-preserved c = steps_more c.args.bus.now.left c.args.script.now c.args.number c.loop-word.word-index _ _ _ c.loop-word-test.true c.loop-word.invariant c.in_ok-push_left.ensures

pub returns : goal.returns
returns c =
    let b = c.args.bus.now in
    let k = c.args.number in
    let whole = take_all c.loop-word.word-index c.args.script.now c.loop-word-test.false ∙ sym c.requires.script in
    let all : (n : ℕ) → list_any (λ (s : ℕ). s == n) c.loop-word.steps.items ≡ (list_any (is_step_word k n) b.script && has_unused b.left k (Step n)) =
    λ n. c.loop-word.invariant n ∙ ap (λ (l : List ScriptWord). list_any (is_step_word k n) l && has_unused b.left k (Step n)) whole in
    subst (λ (words : List ScriptWord). AreStepsLeft words b.log k c.loop-word.steps.items) c.requires.script (steps_all b k c.loop-word.steps.items c.requires.lawful.scripted all)
