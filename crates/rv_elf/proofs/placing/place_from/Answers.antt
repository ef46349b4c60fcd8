use Rattle.std.proofs.Common.{◌+◌, not, ap, ◌∙◌, drop}
use Rattle.std.specs.List.{list_any}
use Rattle.rv_elf.specs.Rules.{overlap, share}
use Rattle.rv_elf.proofs.Sharing.{or_last}
use Rattle.rv_elf.proofs.placing.place_from.Goals as goal

pub returns : goal.returns
returns c =
    let h = c.header_of.result in
    let behind = drop (c.args.i + 1) c.args.headers.now in
    let parts = c.header_of.ensures.first in
    record {
      size = c.place.ensures.size;
      each = c.place.ensures.each;
      apart = ap overlap parts ∙ or_last (list_any (share h) behind) (overlap behind) (not c.place.result) (c.place.ensures.shared behind c.requires.marks) c.requires.apart;
      marks = λ free. rw parts (c.place.ensures.marks free behind c.requires.marks);
      holds = λ free. rw parts (c.place.ensures.holds free behind c.requires.holds);
    }
