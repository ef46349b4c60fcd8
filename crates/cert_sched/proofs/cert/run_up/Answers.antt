-- The count of a process that has one.
use Rattle.std.proofs.Common.{ap, sym, ◌∙◌, nat_cmp, is_some, unwrap_or}
use Rattle.std.specs.Prelude.{max}
use Rattle.std.specs.FinMap.{put}
use Rattle.std.specs.Map.{set_value}
use Rattle.std.proofs.lemmas.Map.Steps.{set_value_same}
use Rattle.std.proofs.lemmas.Result.{on_err_weaker, on_ok_weaker}
use Rattle.plain_kernel.specs.Maps.{at_key}
use Rattle.plain_kernel.proofs.Entries.{lookup_find, put_here}
use Rattle.cert_sched.proofs.cert.run_up.Goals as goal

pub returns-in-Some-clause-done : goal.returns-in-Some-clause-done
returns-in-Some-clause-done c =
    let k = c.args.pid.0 in
    let counts = c.args.done.now.entries in
    on_ok_weaker c.run_from.result
    (λ is.
    (c.get_mut.follows.holds c.run_from.new.steps).0
    ∙ put_here k c.run_from.new.steps counts c.get_mut.ensures.ordered (ap is_some (sym c.in-Some.ensures.value))
    ∙ ap (λ n. put nat_cmp k n counts) (is ∙ ap (max c.args.at) (ap (λ o. unwrap_or o 0) (c.in-Some.ensures.value ∙ lookup_find k counts))))
    c.run_from.ensures.steps

pub returns-in-Some-clause-done_stay : goal.returns-in-Some-clause-done_stay
returns-in-Some-clause-done_stay c =
    on_err_weaker c.run_from.result
    (λ is.
    (c.get_mut.follows.holds c.run_from.new.steps).0
    ∙ ap (λ n. set_value (at_key c.args.pid.0) c.args.done.now.entries n) is
    ∙ set_value_same (at_key c.args.pid.0) c.args.done.now.entries c.in-Some.steps.now (sym c.in-Some.ensures.value))
    c.run_from.ensures.steps_stay
