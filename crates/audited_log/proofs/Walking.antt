-- From entry to entry what is kept is that of some legal log.
use Rattle.std.proofs.Common.{◌≡◌, [], ◌∷◌, ◌++◌, true, Some}
use Rattle.sys_text.specs.declared.system.System.{System}
use Rattle.sys_text.specs.Valid.{is_system}
use Rattle.cert_sched.specs.Legal.{IsLegalBy, MayFollow}
use Rattle.cert_sched.proofs.LogLaws.{IsLegal-snoc}
use Rattle.cert_sched.proofs.MayLaws.{legal_may_stand, may_stand}
use Rattle.entry_lines.specs.declared.told.Told.{Told}
use Rattle.audited_log.specs.declared.answer.Answer.{Answer}
use Rattle.audited_log.specs.declared.state.AuditedLog.{AuditedLog}
use Rattle.audited_log.specs.State.{IsOfSomeLog, IsStateOf, KeepsState}
use Rattle.audited_log.specs.Answers.{FollowsTold, Leads, TakesAnswer}

pub of_start : (system : System) (state : AuditedLog) → is_system system ≡ true → IsStateOf system [] state → IsOfSomeLog state
unfolding IsLegalBy
of_start system state valid is = record { system = system; log = []; valid = valid; legal = tt; is = is }

module _ (old led new : AuditedLog) (told : Told) (a : Answer) (follows : FollowsTold old told (Some a.entry)) (leads : Leads old led a) (takes : TakesAnswer led new a) where
  pub keeps : KeepsState old new a.entry
  keeps system log valid legal is =
      let stands = legal_may_stand system log legal in
      takes system log valid stands (may_stand system log a.entry (follows system log valid legal is).1) (leads system log valid stands is)

  pub goes_on : IsOfSomeLog old → IsOfSomeLog new
  goes_on some = record {
    system = some.system;
    log = some.log ++ a.entry ∷ [];
    valid = some.valid;
    legal = IsLegal-snoc MayFollow some.system some.log a.entry some.legal (follows some.system some.log some.valid some.legal some.is).1;
    is = keeps some.system some.log some.valid some.legal some.is;
  }
