use Rattle.std.proofs.Common.{◌∙◌, ap, subst}
use Rattle.residents.specs.Bearing.{ForksAt}
use Rattle.residents.specs.Changed.{with_more}
use Rattle.residents.proofs.Forked.{Borne, borne, born_beside, still_absent}
use Rattle.residents.proofs.residents.Residents.bear.Goals as goal

pub add-requires : goal.add-requires
add-requires c =
    let b : Borne c.args.parent c.args.child c.args.self.now.here c.in-Some.born c.fork.new.self.here =
    borne c.args.parent c.args.child c.args.self.now.here c.in-Some.born c.fork.new.self.here (subst (λ o. ForksAt c.args.parent c.args.child c.args.self.now.here o c.fork.new.self.here) c.in-Some.is c.in_ok-born.ensures.ok) in
    still_absent c.args.parent c.args.child c.args.self.now.here c.in-Some.born c.fork.new.self.here b c.requires.1

pub returns-in_default-add-clause-ok : goal.returns-in_default-add-clause-ok
returns-in_default-add-clause-ok c =
    let b : Borne c.args.parent c.args.child c.args.self.now.here c.in-Some.born c.fork.new.self.here =
    borne c.args.parent c.args.child c.args.self.now.here c.in-Some.born c.fork.new.self.here (subst (λ o. ForksAt c.args.parent c.args.child c.args.self.now.here o c.fork.new.self.here) c.in-Some.is c.in_ok-born.ensures.ok) in
    c.in_default-add.ensures.here ∙ ap (λ h. with_more c.args.child h c.fork.new.self.here) c.running.ensures ∙ born_beside c.args.parent c.args.child c.args.self.now.here c.in-Some.born c.fork.new.self.here b
