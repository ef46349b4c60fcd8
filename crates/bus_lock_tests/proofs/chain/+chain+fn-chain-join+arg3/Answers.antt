use Rattle.std.proofs.Common.{rules, ◌≡◌, ℕ, suc, ◌∷◌, [], length, map, ap, sym, subst, ◌∙◌, vec_len}
use Rattle.bus_lock.specs.Seats.{own, added}
use Rattle.bus_lock_tests.specs.Written.{HasAll, note, written_by}
use Rattle.bus_lock_tests.proofs.Each.{on_ok}
use Rattle.bus_lock_tests.proofs.Written.{written_all}
use Rattle.bus_lock_tests.proofs.Joining.{first_one, one_more, last_fresh}
use Rattle.bus_lock_tests.proofs.chain.+chain+fn-chain-join+arg3.Goals as goal

pub returns-then-is_empty-clause-all : goal.returns-then-is_empty-clause-all
returns-then-is_empty-clause-all g t c = λ h.
    let a = c.append-seat.ensures in
    let last = last_fresh c.args.lock.now _ _ _ _ _ c.pop.ensures.items c.unwrap-last.ensures c.requires.fresh.1 in
    let zero : length c.pop.new.self.items ≡ 0 = search rules in
    let one : vec_len c.args.seats ≡ 1 = search rules in
    let done = on_ok c.append-seat.result.1 ((own c.append-seat.result.0 ≡ map (note 0) c.args.values.now) × (added c.append-seat.result.0 ≡ length c.args.values.now)) (sym c.is_ok.ensures.value ∙ h) a.added in
    first_one c.args.lock.now c.args.values.now _ c.append-seat.result.0 one a.of a.out (a.same.1 ∙ (last.alone ∙ ap (λ (k : ℕ). k ∷ []) zero)) (a.stands ∙ (ap (written_by 0) done.0 ∙ written_all 0 c.args.values.now)) done.1

pub returns-clause-all : goal.returns-clause-all
returns-clause-all g t c = λ h.
    let a = c.join-seat.ensures.first in
    let b = c.join-seat.ensures.second in
    let last = last_fresh c.args.lock.now _ _ _ _ _ c.pop.ensures.items c.unwrap-last.ensures c.requires.fresh.1 in
    let here : length c.pop.new.self.items ≡ c.len.result = search rules in
    let same : vec_len c.pop.new.self ≡ c.len.result = search rules in
    let next : suc (vec_len c.pop.new.self) ≡ vec_len c.args.seats = search rules in
    let done = on_ok c.join-seat.result.0.1 ((own c.join-seat.result.0.0 ≡ map (note c.len.result) c.args.values.now) × (added c.join-seat.result.0.0 ≡ length c.args.values.now)) (sym c.if-not-is_ok.ensures.value) a.3 in
    let all = subst (λ (n : ℕ). HasAll c.args.lock.now c.args.values.now n c.join-seat.result.1.0) same (b.2 h) in
    one_more c.args.lock.now c.args.values.now _ c.len.result c.join-seat.result.1.0 c.join.new.seat c.join-seat.result.0.0 all (a.2 ∙ (last.alone ∙ ap (λ (k : ℕ). k ∷ []) here))
    (a.4 ∙ (ap (written_by c.len.result) done.0 ∙ written_all c.len.result c.args.values.now)) done.1 (ap suc (sym same) ∙ next) c.join.ensures.of c.join.ensures.joined
