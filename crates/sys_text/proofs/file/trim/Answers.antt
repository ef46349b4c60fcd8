use Rattle.std.proofs.Common.{◌≡◌, ◌-◌, ℕ, List, length, take, sym, ap, ◌∙◌}
use Rattle.sys_text.specs.Files.{trimmed}
use Rattle.sys_text.proofs.file.trim.Goals as goal

pub loop-words-preserved : goal.loop-words-preserved
loop-words-preserved c =
    let is = c.deref.ensures.value in
    let rest : c.pop.new.self.items ≡ take (length c.loop-words.words.items - 1) c.loop-words.words.items =
    c.pop.ensures.rest ∙ ap (λ (n : ℕ). take (n - 1) c.loop-words.words.items) (sym c.deref.ensures.len ∙ ap length is) in
    ap trimmed rest ∙ ap (λ (words : List ℕ). trimmed (take (length words - 1) words)) (sym is) ∙ c.ends_in_zero.ensures.dropped c.loop-words-test.true ∙ ap trimmed is ∙ c.loop-words.invariant
