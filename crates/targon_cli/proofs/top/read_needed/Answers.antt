use Rattle.std.proofs.Common.{◌≡◌, ◌∙◌, sym, true, false, Some}
use Rattle.targon_cli.specs.Commands.{reads_input}
use Rattle.targon_cli.proofs.Handing.{reads_needed, unread_needed, takes_nothing}
use Rattle.targon_cli.proofs.top.read_needed.Goals as goal

pub returns-then-reads_input-clause-read : goal.returns-then-reads_input-clause-read
returns-then-reads_input-clause-read g c =
    let reads : reads_input (Some c.args.command.now) ≡ true = sym c.reads_input.ensures ∙ c.if-reads_input.true in
    reads_needed c.args.command.now c.read_whole.result _ _ _ reads c.read_whole.ensures.read

pub returns-then-reads_input-clause-unread : goal.returns-then-reads_input-clause-unread
returns-then-reads_input-clause-unread g c =
    let reads : reads_input (Some c.args.command.now) ≡ true = sym c.reads_input.ensures ∙ c.if-reads_input.true in
    unread_needed c.args.command.now c.read_whole.result _ _ _ _ _ reads c.read_whole.ensures.unread

pub returns-else-reads_input-clause-read : goal.returns-else-reads_input-clause-read
returns-else-reads_input-clause-read g c =
    let unread : reads_input (Some c.args.command.now) ≡ false = sym c.reads_input.ensures ∙ c.if-reads_input.false in
    takes_nothing c.args.command.now _ _ _ unread
