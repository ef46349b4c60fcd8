use Rattle.std.proofs.Common.{◌≡◌, ◌∷◌, [], length, Some, List, sym, ap, ◌∙◌}
use Rattle.std.specs.List.{find}
use Rattle.rv_elf.specs.declared.headers.Header.{Header}
use Rattle.rv_elf.specs.declared.refusal.Rule.TheVariants.{Overlap, Entry}
use Rattle.rv_elf.specs.Rules.{break_as, breaks, header_rules, late_rules}
use Rattle.rv_elf.proofs.Imaging.{refuses_same, sound_headers}
use Rattle.rv_elf.proofs.Lowest.{found_in_front}
use Rattle.rv_elf.proofs.loading.load_segments.Goals as goal

pub returns-in-Some : goal.returns-in-Some
returns-in-Some c =
    let found : find (breaks c.args.file.now c.args.pages) header_rules ≡ Some c.in-Some.rule =
    ap (λ (hs : List Header). find (break_as (length c.args.file.now) c.args.pages hs) header_rules) (sym c.requires.all) ∙ sym c.broken_by_headers.ensures ∙ c.in-Some.is in
    let both = found_in_front (breaks c.args.file.now c.args.pages) header_rules (Overlap ∷ Entry ∷ []) c.in-Some.rule found in
    refuses_same c.refused.result (Some c.in-Some.rule) (find (breaks c.args.file.now c.args.pages) late_rules) (sym both) c.refused.ensures

pub memory-requires-clause-sound : goal.memory-requires-clause-sound
memory-requires-clause-sound c = sound_headers (length c.args.file.now) c.args.pages c.args.headers.now (sym c.broken_by_headers.ensures ∙ c.in_default.is)
