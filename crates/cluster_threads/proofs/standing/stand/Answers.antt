use Rattle.std.proofs.Common.{◌≡◌, ◌∙◌, ◌≤◌, ap, sym, subst, false, List}
use Rattle.bus_order.specs.Log.{open_length}
use Rattle.bus_order.specs.View.{BusView}
use Rattle.t32_base.specs.declared.process.ClusterNo.{ClusterNo}
use Rattle.cert_sched.specs.Rules.{is_over}
use Rattle.cert_sched.specs.declared.script.ScriptWord.{ScriptWord}
use Rattle.cluster_core.specs.View.{ClusterView}
use Rattle.cluster_turns.proofs.CutOff.{open_not_ended, whole_living}
use Rattle.cluster_run.proofs.AtTheEnd.{still_due}
use Rattle.cluster_run.proofs.LivesTurned.{begun_empty}
use Rattle.cluster_run.proofs.NextLife.{begun_member}
use Rattle.cluster_threads.specs.Steps.{AreStepsLeft}
use Rattle.cluster_threads.proofs.Later.{open_of, three_within}
use Rattle.cluster_threads.proofs.standing.stand.Goals as goal

pub news_of-requires : goal.news_of-requires
news_of-requires c =
    let b : BusView = c.args.bus.now in
    let v : ClusterView = c.begin_lives.new.cluster in
    let begins = c.in_ok-begin_lives.ensures.begins in
    let goes_on : is_over b.system b.log ≡ false = sym c.is_over.ensures ∙ c.if-is_over.false in
    let member = begun_member b c.args.followed.now.cluster v begins.began c.requires.member.along in
    subst (λ n. n ≤ open_length b.log) (sym c.cursor.ensures) (open_of b v.cursor c.requires.sound goes_on (three_within b v member))

pub returns-clause-member : goal.returns-clause-member
returns-clause-member c =
    let b : BusView = c.args.bus.now in
    let v : ClusterView = c.begin_lives.new.cluster in
    let begins = c.in_ok-begin_lives.ensures.begins in
    let goes_on : is_over b.system b.log ≡ false = sym c.is_over.ensures ∙ c.if-is_over.false in
    record {
      number = ap (λ (k : ClusterNo). k.0) (begins.same).number;
      along = begun_member b c.args.followed.now.cluster v begins.began c.requires.member.along;
      empty = λ on lives. begun_empty b c.args.followed.now.cluster v begins.began begins.alive (c.requires.member.empty goes_on);
    }

pub returns-clause-stands : goal.returns-clause-stands
returns-clause-stands c =
    let b : BusView = c.args.bus.now in
    let v : ClusterView = c.begin_lives.new.cluster in
    let begins = c.in_ok-begin_lives.ensures.begins in
    let goes_on : is_over b.system b.log ≡ false = sym c.is_over.ensures ∙ c.if-is_over.false in
    let whole = whole_living v.number b.system b.log v.cursor begins.alive (open_not_ended b.system b.log goes_on) in
    let news = c.in_ok-news_of.ensures in
    let steps = c.in_ok-steps_left.ensures in (
      still_due b v whole (begun_member b c.args.followed.now.cluster v begins.began c.requires.member.along),
      begun_empty b c.args.followed.now.cluster v begins.began begins.alive (c.requires.member.empty goes_on),
      news.number ∙ c.number-number.ensures ∙ sym (begins.same).number,
      news.from ∙ c.cursor.ensures,
      (
        news.news,
        subst (λ (words : List ScriptWord). AreStepsLeft words b.log c.in_ok-news_of.field-0.number c.in_ok-steps_left.field-0.items) (sym c.requires.script) (subst (λ (k : ClusterNo). AreStepsLeft c.args.script.now b.log k c.in_ok-steps_left.field-0.items) (sym news.number) steps),
      ),
    )
