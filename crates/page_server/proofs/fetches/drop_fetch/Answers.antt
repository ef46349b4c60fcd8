-- What `retain` keeps is what its closure answers true for.
use Rattle.std.proofs.Common.{ℕ, rules, not, eqb, ◌&&◌}
use Rattle.std.proofs.lemmas.Fn.{filter_same}
use Rattle.t32_base.specs.declared.process.Pid.{Pid}
use Rattle.page_server.proofs.fetches.drop_fetch.Goals as goal

pub returns : goal.returns
returns c =
    let kept = filter_same _ (λ (f : Pid × ℕ). not (eqb (f.0).0 c.args.pid.0 && eqb f.1 c.args.i)) _ (λ x b f' k. search rules) _ _ c.retain.ensures.filtered in
    cc
