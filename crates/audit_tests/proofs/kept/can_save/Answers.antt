use Rattle.std.proofs.Common.{◌≡◌, ℕ, ◌<◌, ap, arith, eqb-true, sym, true, ◌∙◌, Some, None}
use Rattle.std.specs.Prelude.{IsTrue, nat_lt}
use Rattle.std.proofs.lemmas.Bool.Decides.{nat_tests}
use Rattle.std.proofs.lemmas.Option.{same_Some}
use Rattle.t32_base.specs.declared.process.Pid.{Pid}
use Rattle.t32_base.specs.declared.letter.To.{To}
use Rattle.t32_base.specs.declared.letter.To.TheVariants.{Proc}
use Rattle.t32_base.specs.declared.letter.BackRec.{BackRec}
use Rattle.backup_records.specs.Records.{is_receiver, record_in}
use Rattle.audit_tests.proofs.kept.can_save.Goals as goal

receiver_is : (p q : Pid) (end : ℕ) (to : To) → to ≡ Proc q end → is_receiver p to ≡ true → q ≡ p
receiver_is p q end to is for = λ i. record { 0 = eqb-true q.0 p.0 (ap (is_receiver p) (sym is) ∙ for) i }

small_below : (n : ℕ) → IsTrue (nat_lt n 9) → n < 9
small_below n h = grind (arith, nat_tests)

pub returns-in-Some : goal.returns-in-Some
returns-in-Some c = λ small p r for found.
    let same : c.in-Proc.pid ≡ p = receiver_is p c.in-Proc.pid c.in-Proc.field-1 (c.args.letter.now).to c.in-Proc.is for in
    let there : c.in-Some.record.now ≡ r = same_Some c.in-Some.record.now r (c.in-Some.ensures ∙ ap (record_in c.args.records.now) same ∙ found) in
    let next : c.next.result ≡ r.next = c.next.ensures ∙ ap (λ (r : BackRec). r.next) there in
    let below : c.next.result < 9 = small_below c.next.result small in
    omega (arith, next, below)

pub returns-in-None : goal.returns-in-None
returns-in-None c = λ small p r for found.
    let same : c.in-Proc.pid ≡ p = receiver_is p c.in-Proc.pid c.in-Proc.field-1 (c.args.letter.now).to c.in-Proc.is for in
    let none : None ≡ Some r = c.in-None.ensures ∙ ap (record_in c.args.records.now) same ∙ found in
    cc
