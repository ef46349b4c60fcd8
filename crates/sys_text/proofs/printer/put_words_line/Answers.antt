use Rattle.std.proofs.Common.{ap, ◌∙◌, ◌++◌, ◌∷◌, append_assoc}
use Rattle.std.specs.Prelude.{codes}
use Rattle.std.specs.List.{flat_map}
use Rattle.sys_text.specs.Text.{word_text}
use Rattle.sys_text.proofs.Lines.{words_line_text}
use Rattle.sys_text.proofs.printer.put_words_line.Goals as goal

pub returns : goal.returns
returns c =
    let fields = flat_map (λ w. 32 ∷ word_text w) c.args.words.now in
    words_line_text _ c.args.text.now c.args.words.now _ (c.in_ok-put_fields.ensures ∙ ap (λ t. t ++ fields) c.in_ok-extend.ensures.ok ∙ append_assoc c.args.text.now (codes "words") fields) c.in_ok-extend-2.ensures.ok
