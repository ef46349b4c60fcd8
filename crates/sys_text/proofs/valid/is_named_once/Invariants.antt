use Rattle.std.proofs.Common.{◌≡◌, ◌≤◌, take}
use Rattle.std.specs.Prelude.{count_by}
use Rattle.std.specs.Str.{bytes_eq}
use Rattle.sys_text.specs.declared.system.Image.{Image}
use Rattle.sys_text.proofs.valid.is_named_once.Given as goal

abbrev pub invariant-loop-image : goal.invariant-loop-image
invariant-loop-image l = (l.count ≡ count_by (λ (image : Image). bytes_eq image.name l.name) (take l.image-index l.images)) × (l.count ≤ l.image-index)
