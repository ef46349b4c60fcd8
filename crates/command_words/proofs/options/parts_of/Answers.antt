use Rattle.std.proofs.Common.{◌≡◌, ◌∙◌, sym, ap, subst, Option, Some, None}
use Rattle.clap.specs.Walk.{texts}
use Rattle.clap.specs.declared.parser.matches.ArgMatches.{ArgMatches}
use Rattle.command_words.specs.declared.options.Parts.{Parts}
use Rattle.command_words.specs.Options.{Given, flag_of, given_of, nothing_given, takes_pick}
use Rattle.command_words.specs.Parsed.{IsParsedAs, Tells}
use Rattle.command_words.specs.Parts.{given_by}
use Rattle.command_words.proofs.Fine.{hyphen_gives_none, words_fine}
use Rattle.command_words.proofs.options.parts_of.Goals as goal

-- what the matches tell is what is given
told_given : (o : Option Given) (m : ArgMatches) (p : Parts) → IsParsedAs o (Some m) → ((g : Given) → Tells m g → given_by p ≡ g) → Some (given_by p) ≡ o
told_given None m p as_none tells = absurd as_none
told_given (Some g) m p told tells = ap Some (tells g told)

pub returns-then-has_hyphen : goal.returns-then-has_hyphen
returns-then-has_hyphen c =
    sym (hyphen_gives_none (flag_of c.args.form) (takes_pick c.args.form) c.args.words.now (sym c.has_hyphen.ensures ∙ c.if-has_hyphen.true) nothing_given)

pub parsed-requires : goal.parsed-requires
parsed-requires c = words_fine c.args.words.now c.requires.text c.requires.no_end (sym c.has_hyphen.ensures ∙ c.if-has_hyphen.false)

pub returns : goal.returns
returns c =
    let family : Option ArgMatches → Type 0 = λ r. IsParsedAs (given_of c.args.form (texts c.args.words.now)) r in
    told_given (given_of c.args.form (texts c.args.words.now)) c.in-Some.matches c.in_ok-told.field-0 (subst family c.in-Some.is c.in_ok-matches.ensures) c.in_ok-told.ensures
