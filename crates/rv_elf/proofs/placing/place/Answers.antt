use Rattle.std.proofs.Common.{◌<◌, arith, sym, ◌∙◌}
use Rattle.rv_elf.proofs.Sharing.{no_memory, no_segment, shares_by_marks}
use Rattle.rv_elf.proofs.placing.place.Goals as goal
use Rattle.rv_elf.proofs.placing.place.Goals.{then-not-is_segment-via-then-not-is_segment, then-not-is_segment-via-else-not-is_segment+then-header-eq0}

pub returns-then-not-is_segment-clause-shared : goal.returns-then-not-is_segment-clause-shared
returns-then-not-is_segment-clause-shared c = λ behind marks.
    elim c.then-not-is_segment.branch [
      | then-not-is_segment-via-then-not-is_segment w ↦ no_segment c.args.header behind (sym c.is_segment.ensures ∙ w.if-not-is_segment.true)
      | then-not-is_segment-via-else-not-is_segment+then-header-eq0 w ↦ no_memory c.args.header behind w.if-header-eq0.true
    ]

pub returns-clause-shared : goal.returns-clause-shared
returns-clause-shared c = λ behind marks.
    let segment = sym c.is_segment.ensures ∙ c.if-not-is_segment.false in
    let sound = c.requires.sound segment in
    let some : 0 < c.args.header.memory_size = omega (arith, c.if-header-eq0.false) in
    let low = sound.from some in
    shares_by_marks c.args.header c.args.taken.now behind c.place_segment.result segment low (omega (arith, low, sound.upto some, c.requires.each)) marks c.place_segment.ensures.found
    c.place_segment.ensures.free
