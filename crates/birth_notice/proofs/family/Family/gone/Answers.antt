-- What `retain` keeps is what its closure answers true for.
use Rattle.std.proofs.Common.{◌∙◌, ap, rules, Bool, not, filter}
use Rattle.std.proofs.lemmas.Fn.{filter_same}
use Rattle.t32_base.specs.declared.process.Pid.{Pid}
use Rattle.bus_msg.specs.Places.{same_pid}
use Rattle.birth_notice.specs.Family.{are_births}
use Rattle.birth_notice.proofs.BirthLaws.{births_kept}
use Rattle.birth_notice.proofs.family.Family.gone.Goals as goal

pub invariant_of-self : goal.invariant_of-self
invariant_of-self c =
    let stays : Pid × Pid → Bool = λ b. not (same_pid b.1 c.args.child) in
    let kept = filter_same _ stays _ (λ x b f' k. search rules) _ _ c.retain.ensures.filtered in
    ap are_births kept ∙ births_kept stays c.self.inside.births.items c.self.invariant

pub returns : goal.returns
returns c =
    let stays : Pid × Pid → Bool = λ b. not (same_pid b.1 c.args.child) in
    let kept = filter_same _ stays _ (λ x b f' k. search rules) _ _ c.retain.ensures.filtered in
    kept ∙ ap (filter stays) c.self.view_is
