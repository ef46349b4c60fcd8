use Rattle.std.proofs.Common.{◌≡◌, ◌*◌, length, take_at, ◌∙◌, arith}
use Rattle.rv_elf.proofs.Filling.{filled}
use Rattle.rv_elf.proofs.loading.memory.Goals as goal

pub returns-then-place_all-clause-bytes : goal.returns-then-place_all-clause-bytes
returns-then-place_all-clause-bytes c =
    let long : length c.place_all.new.bytes ≡ c.in_ok-bytes.bytes.len = omega (arith, c.place_all.ensures.size, c.deref_mut.ensures.len) in
    let size : length c.place_all.new.bytes ≡ 256 * c.args.pages = omega (arith, long, c.in_ok-bytes.ensures.len, c.from-size.ensures) in
    take_at c.place_all.new.bytes _ c.in_ok-bytes.bytes.len long
    ∙ filled c.args.file.now c.place_all.new.bytes c.args.headers.now (256 * c.args.pages) size (c.place_all.ensures.holds c.if-place_all.true)
