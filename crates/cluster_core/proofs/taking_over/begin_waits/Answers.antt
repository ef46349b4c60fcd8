use Rattle.std.proofs.Common.{rules, ◌≡◌, ◌∙◌, ap, refl, subst, sym, true, [], ◌∷◌}
use Rattle.std.specs.List.{list_any}
use Rattle.t32_base.specs.declared.process.Pid.{Pid}
use Rattle.bus_msg.specs.Places.{same_pid}
use Rattle.backup_records.specs.Records.{are_rising}
use Rattle.replay_laws.specs.pages.Waits.{first_wait}
use Rattle.residents.specs.Changed.{with_more}
use Rattle.cluster_core.specs.Recovered.{CanWait, with_all_waiting}
use Rattle.residents.specs.Held.{Held, Waits}
use Rattle.cluster_core.proofs.losses.BeginWaits.{first_waits, others_rise, others_wait}
use Rattle.cluster_core.proofs.taking_over.begin_waits.Goals as goal

pub records-init : goal.records-init
records-init c =
    let items : c.from_vec-left.result.items ≡ c.args.moved = c.from_vec-left.ensures.items ∙ c.into_vec.ensures in
    record {
      rising = ap are_rising items ∙ c.requires.rising;
      can = subst (λ rs. CanWait rs c.args.here.now.here) (sym items) c.requires.can;
      duty = refl;
      all = ap (λ rs. with_all_waiting rs c.args.here.now.here) items;
    }

pub waiting_of-requires-clause-some : goal.waiting_of-requires-clause-some
waiting_of-requires-clause-some c =
    let can : CanWait (c.in-Some.kept ∷ c.pop_front.new.self.items) c.records.here.here = subst (λ rs. CanWait rs c.records.here.here) c.in-Some.ensures.items c.records.invariant.can in
    (first_waits c.in-Some.kept c.pop_front.new.self.items c.records.here.here can).0

pub waiting_of-requires-clause-at_most : goal.waiting_of-requires-clause-at_most
waiting_of-requires-clause-at_most c =
    let can : CanWait (c.in-Some.kept ∷ c.pop_front.new.self.items) c.records.here.here = subst (λ rs. CanWait rs c.records.here.here) c.in-Some.ensures.items c.records.invariant.can in
    (first_waits c.in-Some.kept c.pop_front.new.self.items c.records.here.here can).1

pub add-requires : goal.add-requires
add-requires c =
    let can : CanWait (c.in-Some.kept ∷ c.pop_front.new.self.items) c.records.here.here = subst (λ rs. CanWait rs c.records.here.here) c.in-Some.ensures.items c.records.invariant.can in
    ap (λ (q : Pid). list_any (λ (e : Pid × Held). same_pid e.0 q) c.records.here.here) c.pid-pid.ensures ∙ (first_waits c.in-Some.kept c.pop_front.new.self.items c.records.here.here can).2

pub records-preserved : goal.records-preserved
records-preserved c =
    let r = c.in-Some.kept in
    let rest = c.pop_front.new.self.items in
    let here = c.records.here.here in
    let inv = c.records.invariant in
    let order : are_rising (r ∷ rest) ≡ true = ap are_rising (sym c.in-Some.ensures.items) ∙ inv.rising in
    let can : CanWait (r ∷ rest) here = subst (λ rs. CanWait rs here) c.in-Some.ensures.items inv.can in
    let added : c.add.new.self.here ≡ with_more r.pid (Waits (first_wait r)) here =
    c.in_ok-add.ensures.here ∙ (λ i. with_more (c.pid-pid.ensures i) (c.waiting.ensures i) here) ∙ ap (λ w. with_more r.pid (Waits w) here) c.in_ok-waiting.ensures in
    record {
      rising = others_rise r rest order;
      can = subst (λ hs. CanWait rest hs) (sym added) (others_wait r rest here (Waits (first_wait r)) order can);
      duty = c.in_ok-add.ensures.duty ∙ inv.duty;
      all = ap (with_all_waiting rest) added ∙ ap (λ rs. with_all_waiting rs here) (sym c.in-Some.ensures.items) ∙ inv.all;
    }

pub returns-clause-here : goal.returns-clause-here
returns-clause-here c =
    let empty : c.records.left.items ≡ [] = search rules in
    sym (ap (λ rs. with_all_waiting rs c.records.here.here) empty) ∙ c.records.invariant.all
