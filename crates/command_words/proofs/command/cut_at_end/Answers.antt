use Rattle.std.proofs.Common.{◌∙◌, ◌+◌, ap}
use Rattle.std.specs.List.{list_all, list_any}
use Rattle.std.specs.Str.{is_utf8}
use Rattle.clap.specs.Walk.{texts}
use Rattle.command_words.specs.Options.{is_end}
use Rattle.command_words.proofs.Ends.{all_before, all_before_none, all_taken, before_found, behind_found, none_before, none_behind, none_left, rest_all}
use Rattle.command_words.proofs.command.cut_at_end.Goals as goal

pub returns-in-Some-clause-before : goal.returns-in-Some-clause-before
returns-in-Some-clause-before c = before_found is_end c.args.words.now c.in-Some.end c.in-Some.ensures

pub returns-in-Some-clause-behind : goal.returns-in-Some-clause-behind
returns-in-Some-clause-behind c = ap texts (rest_all (c.in-Some.end + 1) c.args.words.now) ∙ behind_found is_end c.args.words.now c.in-Some.end c.in-Some.ensures

pub returns-in-Some-clause-text : goal.returns-in-Some-clause-text
returns-in-Some-clause-text c =
    ap (list_all is_utf8) (before_found is_end c.args.words.now c.in-Some.end c.in-Some.ensures) ∙ all_before is_utf8 _ (texts c.args.words.now) c.requires

pub returns-in-Some-clause-no_end : goal.returns-in-Some-clause-no_end
returns-in-Some-clause-no_end c =
    ap (list_any is_end) (before_found is_end c.args.words.now c.in-Some.end c.in-Some.ensures) ∙ none_before is_end (texts c.args.words.now)

pub returns-in-None-clause-before : goal.returns-in-None-clause-before
returns-in-None-clause-before c =
    ap texts (c.split_at.ensures.front ∙ all_taken c.args.words.now) ∙ all_before_none is_end c.args.words.now c.in-None.ensures

pub returns-in-None-clause-behind : goal.returns-in-None-clause-behind
returns-in-None-clause-behind c =
    ap texts (c.split_at.ensures.back ∙ none_left c.args.words.now) ∙ none_behind is_end c.args.words.now c.in-None.ensures

pub returns-in-None-clause-no_end : goal.returns-in-None-clause-no_end
returns-in-None-clause-no_end c =
    ap (λ ws. list_any is_end (texts ws)) (c.split_at.ensures.front ∙ all_taken c.args.words.now)
    ∙ ap (list_any is_end) (all_before_none is_end c.args.words.now c.in-None.ensures) ∙ none_before is_end (texts c.args.words.now)
