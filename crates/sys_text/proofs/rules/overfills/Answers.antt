use Rattle.sys_text.proofs.rules.overfills.Goals as goal

pub returns-in-Chan : goal.returns-in-Chan
returns-in-Chan c = rw c.in-Chan.is c.is_either_full.ensures
