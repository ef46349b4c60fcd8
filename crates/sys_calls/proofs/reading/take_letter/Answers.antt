use Rattle.sys_calls.proofs.Wanting.{takes_there}
use Rattle.sys_calls.proofs.reading.take_letter.Goals as goal

pub returns : goal.returns
returns c =
    takes_there c.args.wanted c.args.p.now c.take_on.new.self c.push.new.self c.in-Some.end c.in-Some.number c.take_on.result c.in-Some.ensures c.take_on.ensures.taken c.take_on.ensures.left c.in_ok-push.ensures.ok
