use Rattle.std.proofs.Common.{◌≡◌, ◌∙◌, sym, ap, subst}
use Rattle.clap.specs.Walk.{texts}
use Rattle.clap.specs.Words.{App, HasKind, fault_of, is_simple, is_simple_and_free, kind_of, matches_of}
use Rattle.clap.specs.contracts.error.kind.ErrorKind.{the_type}
use Rattle.clap.specs.declared.error.kind.ErrorKind.TheVariants.{OutOfMemory}
use denote.Enum.Bare.{same_false}
use Rattle.command_words.proofs.Parses.{free_app, parsed_err, parsed_ok, simple_app}
use Rattle.command_words.proofs.options.parsed.Goals as goal

pub returns-in-Ok : goal.returns-in-Ok
returns-in-Ok c =
    let app = c.in_ok-grammar.ensures in
    let words = texts c.args.words.now in
    let fault = c.in-Ok.ensures.kinds (ap is_simple_and_free app ∙ free_app c.args.form) in
    let rows = (c.in-Ok.ensures.matches (ap is_simple app ∙ simple_app c.args.form)).0 in
    parsed_ok c.args.form words c.in-Ok.matches c.requires (sym (ap (λ a. fault_of a words) app) ∙ fault) (rows ∙ ap (λ a. matches_of a words) app)

pub returns-else-eq : goal.returns-else-eq
returns-else-eq c =
    let app = c.in_ok-grammar.ensures in
    let words = texts c.args.words.now in
    let kinds = c.in-Err.ensures.kinds (ap is_simple_and_free app ∙ free_app c.args.form) in
    let other : kind_of c.in-Err.error ≡ OutOfMemory → ⊥ = λ h. same_false the_type c.kind.result OutOfMemory (sym c.eq.ensures ∙ c.if-eq.false) (c.kind.ensures ∙ h) in
    parsed_err c.args.form words c.in-Err.error c.requires (subst (λ (a : App). HasKind (fault_of a words) c.in-Err.error) app kinds) other
