use Rattle.std.proofs.Common.{None}
use Rattle.targon_cli.proofs.Replies.{load_explains, load_noted, print_makes}
use Rattle.targon_cli.proofs.reply.carry_out.Goals as goal

pub returns-in_ok-print_load-in-Load-clause-makes : goal.returns-in_ok-print_load-in-Load-clause-makes
returns-in_ok-print_load-in-Load-clause-makes c =
    let reply = c.in_ok-print_load-in-Load.field-0 in
    print_makes c.args.command c.in-Load.size _ c.in-Load.script c.args.bytes.now reply.status reply.text c.in-Load.is c.requires.alone c.in_ok-print_load-in-Load.ensures.makes

pub returns-in_ok-print_load-in-Load-clause-why : goal.returns-in_ok-print_load-in-Load-clause-why
returns-in_ok-print_load-in-Load-clause-why c =
    let reply = c.in_ok-print_load-in-Load.field-0 in
    load_explains c.args.command c.in-Load.size _ c.in-Load.script c.args.bytes.now reply.status reply.why c.in-Load.is c.in_ok-print_load-in-Load.ensures.why

pub returns-in_ok-print_load-in-Load-clause-notes : goal.returns-in_ok-print_load-in-Load-clause-notes
returns-in_ok-print_load-in-Load-clause-notes c =
    let reply = c.in_ok-print_load-in-Load.field-0 in
    load_noted c.args.command c.in-Load.size _ c.in-Load.script c.args.bytes.now None reply.notes c.in-Load.is (λ system is. c.in_ok-print_load-in-Load.ensures.notes)
