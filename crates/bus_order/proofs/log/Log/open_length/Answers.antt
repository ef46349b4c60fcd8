use Rattle.std.proofs.Common.{◌≡◌, ◌-◌, ◌∙◌, ap, refl, Bool, true, false, cond}
use mir.Val.{bool_byte}
use Rattle.bus_order.proofs.log.Log.open_length.Goals as goal

byte_is : (b : Bool) → bool_byte b ≡ cond b 1 0
byte_is true = refl
byte_is false = refl

pub returns : goal.returns
returns c = λ i. c.len.ensures i - (c.from.ensures ∙ byte_is c.is_closed.result ∙ ap (λ b. cond b 1 0) c.is_closed.ensures) i
