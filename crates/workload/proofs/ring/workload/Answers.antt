use Rattle.std.proofs.Common.{◌≡◌, sym, subst, refl, true}
use Rattle.sys_text.specs.Valid.{is_system}
use Rattle.sys_text.specs.declared.system.System.{System}
use Rattle.workload.specs.Ring.{workload}
use Rattle.workload.proofs.Rules.{keeps_rules}
use Rattle.workload.proofs.ring.workload.Goals as goal

pub returns-clause-exact : goal.returns-clause-exact
unfolding workload
returns-clause-exact c = rw (c.in_ok-images.ensures, c.in_ok-roots.ensures, c.in_ok-chans.ensures) refl

pub returns-clause-valid : goal.returns-clause-valid
returns-clause-valid c = subst (λ (s : System). is_system s ≡ true) (sym (returns-clause-exact c)) (keeps_rules c.args.size c.requires)
