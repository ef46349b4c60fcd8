use Rattle.std.proofs.Common.{◌≡◌, ◌+◌, ◌-◌, ◌<◌, ◌++◌, sym, ◌∙◌, ap, arith, [], ◌∷◌, length, refl, Some}
use Rattle.std.specs.Prelude.{option_to_list}
use Rattle.bus_msg.specs.declared.entry.Post.{Post}
use Rattle.bus_msg.specs.PlacedAfter.{what}
use Rattle.cluster_core.specs.Queue.{left_queued}
use Rattle.cluster_core.proofs.absorbing.Fallen.{left_by_last, left_of_last}
use Rattle.cluster_core.proofs.falling.drop_fallen.Goals as goal

pub returns-then-falls : goal.returns-then-falls
returns-then-falls c =
    let queue = c.args.queue.now in
    let last : Post = c.in-Some.last.now in
    let some : 0 < queue.len = c.in-Some.ensures.variant.0 refl in
    let popped : c.pop_back.result ≡ Some last = c.pop_back.ensures.value last some ∙ ap Some (sym c.in-Some.ensures.lookup) in
    let parts : queue.items ≡ c.pop_back.new.self.items ++ last ∷ [] = c.pop_back.ensures.items ∙ ap (λ o. c.pop_back.new.self.items ++ option_to_list o) popped in
    sym (ap (left_queued c.args.before.now (what c.args.entry.now)) parts ∙ left_of_last c.args.before.now (what c.args.entry.now) c.pop_back.new.self.items last (sym c.falls.ensures ∙ c.if-falls.true))

pub returns-else-falls : goal.returns-else-falls
returns-else-falls c =
    let queue = c.args.queue.now in
    let last : Post = c.in-Some.last.now in
    let some : 0 < queue.len = c.in-Some.ensures.variant.0 refl in
    let long : length queue.items ≡ (queue.len - 1) + 1 = let is = queue.ok.0 in omega (arith, is, some) in
    sym (left_by_last c.args.before.now (what c.args.entry.now) queue.items (queue.len - 1) last long c.in-Some.ensures.lookup (sym c.falls.ensures ∙ c.if-falls.false))
