use Rattle.std.proofs.Common.{◌≡◌, ◌∙◌, sym, rules}
use Rattle.workload.specs.declared.programs.TheConstants.{LINK}
use Rattle.workload.proofs.Assembled.{link_words_are}
use Rattle.workload.proofs.programs.link_words.Goals as goal

pub returns : goal.returns
returns c =
    let copied : c.in_ok-to_vec.field-0.items ≡ LINK = search rules in
    c.from_vec.ensures ∙ copied ∙ sym link_words_are
