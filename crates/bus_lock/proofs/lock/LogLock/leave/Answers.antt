use Rattle.std.proofs.Common.{rules, ◌≡◌, ◌∷◌, [], Some, refl}
use Rattle.bus_lock.specs.Views.{grown}
use Rattle.bus_lock.proofs.Raises.{raises_at, after_exchange, after_raise}
use Rattle.bus_lock.proofs.Gives.{gives_at}
use Rattle.bus_lock.proofs.lock.LogLock.leave.Goals as goal

pub swap-before-requires : goal.swap-before-requires
swap-before-requires g c =
    let old = c.args.seat.now in
    let is : c.exchange.new.seat.me ≡ (old.seat.me.0, (0, Some c.args.value) ∷ []) =
    after_exchange old.seat.me c.exchange.new.seat.me c.exchange.new.seat.me c.args.value (old.inside c.requires.entered) c.exchange.ensures.3 in
    (search rules, search rules, raises_at _ _ _ _ _ _ _ _ old.seat.me.0 c.args.value _ is old.live c.requires.entered c.requires.longer c.requires.added (c.length-length.ensures c.requires.fits))

pub swap-turn-requires : goal.swap-turn-requires
swap-turn-requires g c =
    let old = c.args.seat.now in
    let is : c.exchange.new.seat.me ≡ (old.seat.me.0, (0, Some c.args.value) ∷ []) =
    after_exchange old.seat.me c.exchange.new.seat.me c.exchange.new.seat.me c.args.value (old.inside c.requires.entered) c.exchange.ensures.3 in
    let raised : c.swap-before.new.seat.me ≡ (grown old.seat.me.0 (g.V.LogValue.entries c.args.value), (0, Some c.args.value) ∷ []) =
    after_raise old.seat.me c.exchange.new.seat.me c.swap-before.new.seat.me c.args.value g.V.LogValue.entries is c.swap-before.ensures.2 in
    (search rules, search rules, gives_at _ _ _ _ _ _ _ _ (grown old.seat.me.0 (g.V.LogValue.entries c.args.value)) c.args.value raised old.live c.requires.entered refl c.requires.origin)
