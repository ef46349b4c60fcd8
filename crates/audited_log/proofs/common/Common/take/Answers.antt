use Rattle.std.proofs.Common.{sym, ◌∙◌, ◌++◌, ◌∷◌, []}
use Rattle.cert_sched.specs.Legal.{MayStand}
use Rattle.cert_sched.proofs.LogLaws.{IsLegal-snoc}
use Rattle.log_laws.proofs.records.Standing.{all_stand}
use Rattle.audited_log.proofs.common.Common.take.Goals as goal

pub returns : goal.returns
returns c = λ system log valid legal may is.
    let e = c.args.entry.now in
    record {
      front = c.in_ok-take-3.ensures system log is.front;
      limits = is.limits;
      accounts = c.in-Ok.ensures.keeps system log (sym (is.front).places ∙ sym c.places-2.ensures) is.accounts;
      fetches = c.in_ok-take.ensures system log valid (sym (is.front).places ∙ sym c.places.ensures) may.stands is.fetches;
      family = c.in_ok-follow.ensures.keeps system log valid legal may is.family;
      records = c.in_ok-take-2.ensures.ok system log valid (all_stand system (log ++ e ∷ []) (IsLegal-snoc MayStand system log e legal may)) is.records;
    }
