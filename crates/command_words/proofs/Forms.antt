-- The command of a form, by what its words give.
use Rattle.std.proofs.Common.{◌≡◌, ◌∙◌, sym, ap, List, Option, Some, None, option_map}
use Rattle.std.specs.Option.{option_and_then}
use Rattle.command_words.specs.declared.command.Command.{Command}
use Rattle.command_words.specs.declared.options.Form.{Form}
use Rattle.command_words.specs.declared.options.Parts.{Parts}
use Rattle.command_words.specs.Command.{before_end, behind_end}
use Rattle.command_words.specs.Options.{Text, Given, given_of}
use Rattle.command_words.specs.Parts.{given_by}

module _ (made : List Text → Given → Option Command) (form : Form) (words before behind : List Text) (o : Option Parts)
    (gives : option_map given_by o ≡ given_of form before) (front : before ≡ before_end words) (back : behind ≡ behind_end words) where
  -- nothing is given, and nothing made
  pub nothing_made : o ≡ None → None ≡ option_and_then (made (behind_end words)) (given_of form (before_end words))
  nothing_made none = ap (λ (p : Option Parts). option_and_then (made (behind_end words)) (option_map given_by p)) (sym none) ∙ ap (option_and_then (made (behind_end words))) (gives ∙ ap (given_of form) front)

  pub made_of : (parts : Parts) (command : Option Command) → o ≡ Some parts → command ≡ made behind (given_by parts)
      → command ≡ option_and_then (made (behind_end words)) (given_of form (before_end words))
  made_of parts command some is =
      is ∙ ap (λ ws. made ws (given_by parts)) back
      ∙ ap (λ (p : Option Parts). option_and_then (made (behind_end words)) (option_map given_by p)) (sym some) ∙ ap (option_and_then (made (behind_end words))) (gives ∙ ap (given_of form) front)
