use Rattle.std.proofs.Common.{◌≡◌, ap, ◌∙◌}
use Rattle.sys_text.specs.Files.{words_of_bytes, trimmed}
use Rattle.sys_text.proofs.FileRules.{loader_kept, loader_entry, loader_words, loader_refused}
use Rattle.sys_text.proofs.file.load_words.Goals as goal

pub returns-clause-words : goal.returns-clause-words
returns-clause-words c =
    let is = c.deref.ensures.value ∙ c.in_ok-file.ensures in
    let all : c.trim.new.words.items ≡ trimmed (words_of_bytes c.in-Ok.loaded.bytes) = c.trim.ensures ∙ ap trimmed (c.in_ok-words-in-Ok.ensures ∙ ap words_of_bytes c.as_slice.ensures) in
    loader_words c.args.size c.args.words.now c.deref.result.now c.args.pages c.in-Ok.loaded c.from_vec.result is c.in-Ok.ensures.exact (c.from_vec.ensures ∙ all)

pub returns-clause-entry : goal.returns-clause-entry
returns-clause-entry c = loader_entry c.args.size c.args.words.now c.deref.result.now c.args.pages c.in-Ok.loaded (c.deref.ensures.value ∙ c.in_ok-file.ensures) c.in-Ok.ensures.exact

pub returns-clause-kept : goal.returns-clause-kept
returns-clause-kept c = loader_kept c.args.size c.args.words.now c.deref.result.now c.args.pages c.in-Ok.loaded (c.deref.ensures.value ∙ c.in_ok-file.ensures) c.in-Ok.ensures.exact

pub returns-in-Err-clause-refused : goal.returns-in-Err-clause-refused
returns-in-Err-clause-refused c = loader_refused c.args.size c.args.words.now c.deref.result.now c.args.pages c.in-Err.refused (c.deref.ensures.value ∙ c.in_ok-file.ensures) c.in-Err.ensures.exact
