use Rattle.std.proofs.Common.{◌≡◌, ◌∙◌, ◌++◌, ap, sym, subst, ℕ, true}
use Rattle.std.proofs.lemmas.List.{append-nil}
use Rattle.std.specs.Prelude.{List}
use Rattle.residents.specs.Owing.{owing_in}
use Rattle.residents.specs.Residents.{ResidentsView, are_rising, pids_in}
use Rattle.residents.proofs.Kept.{pids_stand, rising_here}
use Rattle.residents.proofs.Placing.{found_more, found_not}
use Rattle.residents.proofs.residents.Residents.owing.Goals as goal

pub loop-pid-init : goal.loop-pid-init
loop-pid-init c =
    let r = c.self.inside in
    let stand = pids_stand r.duty r.residents r.ready.keys r.asking.keys r.keys.entries (c.self.invariant.0).each in
    let same = c.into_iter-pid-iterator.ensures.into_iter_gives ∙ c.keys-pid-items.ensures.rest ∙ sym stand ∙ ap (λ (v : ResidentsView). pids_in v.here) c.self.view_is in
    λ i. c.new-owing.ensures.empty i ++ owing_in c.args.places.now (same i)

pub loop-pid-preserved-in_ok-insert : goal.loop-pid-preserved-in_ok-insert
loop-pid-preserved-in_ok-insert c =
    let r = c.self.inside in
    let places = c.args.places.now in
    let owing = c.loop-pid.owing.entries in
    let rise = subst (λ (v : ResidentsView). are_rising (pids_in v.here) ≡ true) c.self.view_is (rising_here r.duty r.residents r.keys.entries r.ready.keys r.asking.keys c.self.invariant.0) in
    let found = sym (ap (λ (left : List ℕ). owing ++ owing_in places left) c.in-Some.ensures.steps) ∙ c.loop-pid.invariant in
    let gets = sym c.next_backup.ensures ∙ c.in-Some-next_backup.is in
    ap (λ es. es ++ owing_in places c.next.new.self) c.in_ok-insert.ensures.entries
    ∙ found_more places (pids_in c.args.self.now.here) c.in-Some.pid.now c.next.new.self owing found c.in-Some-next_backup.to gets rise

pub loop-pid-preserved : goal.loop-pid-preserved
loop-pid-preserved c =
    let places = c.args.places.now in
    let owing = c.loop-pid.owing.entries in
    let found = sym (ap (λ (left : List ℕ). owing ++ owing_in places left) c.in-Some.ensures.steps) ∙ c.loop-pid.invariant in
    found_not places (pids_in c.args.self.now.here) c.in-Some.pid.now c.next.new.self owing found (sym c.next_backup.ensures ∙ c.in_default.is)

pub returns : goal.returns
returns c =
    let owing = c.loop-pid.owing.entries in
    sym (append-nil owing) ∙ sym (ap (λ (left : List ℕ). owing ++ owing_in c.args.places.now left) c.in-None.ensures.steps.0) ∙ c.loop-pid.invariant
