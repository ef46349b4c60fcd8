-- The grammar of a command's words, as `clap` is given it.
use Rattle.std.specs.Prelude.{Bool, true, codes, Some, if◌then◌else◌}
use Rattle.clap.specs.Words.{App, Rule, new_app, new_rule, with_rule}
use Rattle.clap.specs.Simple.{on_top}
use Rattle.clap.specs.declared.builder.action.ArgAction.TheVariants as action
use Rattle.command_words.specs.declared.options.Form.{Form}
use Rattle.command_words.specs.Options.{Text, flag_of, takes_pick}

abbrev pub flag_argument : Text → Rule
flag_argument flag = record (new_rule (codes "flag")) { long = Some flag; action = Some action.SetTrue }

abbrev pub pick_argument : Rule
pick_argument = record (new_rule (codes "pick")) { long = Some (codes "pick"); action = Some action.Set }

abbrev pub words_argument : Rule
words_argument = record (new_rule (codes "words")) { action = Some action.Append }

-- no program name stands before the words, and no word asks for help
abbrev pub without_help : App → App
without_help = on_top (λ s. record s { no_binary_name = true; disable_help_flag = true })

abbrev pub pick_added : Bool → App → App
pick_added picks app = if picks then with_rule app pick_argument else app

abbrev pub app_with : Text → Bool → App
app_with flag picks = with_rule (pick_added picks (with_rule (without_help (new_app (codes "t32"))) (flag_argument flag))) words_argument

abbrev pub app_for : Form → App
app_for form = app_with (flag_of form) (takes_pick form)
