-- The command that words are has its numbers within their limits.
use Rattle.std.proofs.Common.{◌≡◌, refl, sym, subst, ℕ, true, List, Option, Some, None}
use Rattle.command_words.specs.declared.command.Command.{Command}
use Rattle.command_words.specs.declared.command.Command.TheVariants as commands
use Rattle.command_words.specs.Command.{command_of}
use Rattle.command_words.proofs.Limits.{IsWithinLimits, within_limits}
use Rattle.targon_cli.specs.Commands.{is_ready}

ready_of : (found : Option Command) → IsWithinLimits found → is_ready found ≡ true
ready_of None p = refl
ready_of (Some commands.Plain) p = refl
ready_of (Some commands.Check) p = refl
ready_of (Some commands.Asm) p = refl
ready_of (Some (commands.Sim pick log script)) p = p
ready_of (Some (commands.Run log script)) p = refl
ready_of (Some (commands.Load size text script)) p = p

-- the command that words are is ready
pub words_ready : (words : List (List ℕ)) (found : Option Command) → found ≡ command_of words → is_ready found ≡ true
words_ready words found is = ready_of found (subst IsWithinLimits (sym is) (within_limits words))
