use Rattle.std.proofs.Common.{sym, ap, ◌∙◌}
use Rattle.sys_text.specs.declared.system.Image.{Image}
use Rattle.sys_text.proofs.ImagePlaces.{place_more}
use Rattle.sys_text.proofs.adding.close_image.Goals as goal

pub returns-clause-known : goal.returns-clause-known
returns-clause-known c =
    let reader = c.args.reader.now in
    let image = c.in_ok-image.image in
    let own = c.name.ensures ∙ ap (λ (image : Image). image.name) (sym c.in_ok-image.ensures) in
    record { places = rw c.in_ok-push.ensures.ok (place_more reader.places c.define.new.self reader.state.system.images image c.name.result.now c.len-place.result own c.len-place.ensures c.requires.known.places c.in_ok-define.ensures) }
