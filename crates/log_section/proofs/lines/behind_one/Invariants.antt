use Rattle.std.proofs.Common.{◌≡◌, map, drop}
use Rattle.log_section.specs.Lines.{behind_one}
use Rattle.log_section.proofs.lines.behind_one.Given as goal

abbrev pub invariant-loop-shape : goal.invariant-loop-shape
invariant-loop-shape l = behind_one (map (λ s. s.now) (drop l.shape-index l.shapes)) l.text ≡ behind_one (map (λ s. s.now) l.shapes) l.text
