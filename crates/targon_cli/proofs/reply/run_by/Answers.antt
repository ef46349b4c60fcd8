use Rattle.std.proofs.Common.{◌<◌, length, sym, subst}
use Rattle.text_parts.specs.Lines.{lines_of}
use Rattle.targon_cli.specs.Reply.{Follows, FollowsSection}
use Rattle.targon_cli.specs.Noted.{NotesItems, NotesSection}
use Rattle.targon_cli.specs.Explained.{ExplainsItems, ExplainsSection}
use Rattle.targon_cli.proofs.Endings.{section_explains, section_noted}
use Rattle.targon_cli.proofs.Parts.{lines_some, runs_section, some_of}
use Rattle.targon_cli.proofs.reply.run_by.Goals as goal

pub returns-in_ok-follow-in-Ok-clause-makes : goal.returns-in_ok-follow-in-Ok-clause-makes
returns-in_ok-follow-in-Ok-clause-makes c =
    let some : 0 < length c.args.section.now = some_of c.args.section.now c.is_empty.result c.is_empty.ensures c.if-is_empty.false in
    let reply = c.in_ok-follow-in-Ok.field-0 in
    let follows = subst (λ items. Follows c.args.system.now items reply.status reply.text) c.as_slice.ensures c.in_ok-follow-in-Ok.ensures.makes in
    runs_section c.args.system.now (lines_of c.args.section.now) reply.status reply.text (lines_some c.args.section.now some)
    (subst (λ reading. FollowsSection c.args.system.now reading reply.status reply.text) (sym c.in-Ok.ensures.exact) follows)

pub returns-in_ok-refused_section-in-Err-BadItem-clause-makes : goal.returns-in_ok-refused_section-in-Err-BadItem-clause-makes
returns-in_ok-refused_section-in-Err-BadItem-clause-makes c =
    let some : 0 < length c.args.section.now = some_of c.args.section.now c.is_empty.result c.is_empty.ensures c.if-is_empty.false in
    let reply = c.in_ok-refused_section-in-Err-BadItem.field-0 in
    let exact = rw c.in-Err-BadItem.field-0-is at c.in-Err-BadItem.ensures.exact in
    runs_section c.args.system.now (lines_of c.args.section.now) reply.status reply.text (lines_some c.args.section.now some)
    (subst (λ reading. FollowsSection c.args.system.now reading reply.status reply.text) (sym exact) c.in_ok-refused_section-in-Err-BadItem.ensures.makes)

pub returns-in_ok-follow-in-Ok-clause-why : goal.returns-in_ok-follow-in-Ok-clause-why
returns-in_ok-follow-in-Ok-clause-why c =
    let some : 0 < length c.args.section.now = some_of c.args.section.now c.is_empty.result c.is_empty.ensures c.if-is_empty.false in
    let reply = c.in_ok-follow-in-Ok.field-0 in
    let follows = subst (λ items. ExplainsItems c.args.system.now (lines_of c.args.section.now) items reply.status reply.why) c.as_slice.ensures c.in_ok-follow-in-Ok.ensures.why in
    section_explains c.args.system.now (lines_of c.args.text.now) (lines_of c.args.section.now) reply.status reply.why (lines_some c.args.section.now some)
    (subst (λ reading. ExplainsSection c.args.system.now (lines_of c.args.text.now) (lines_of c.args.section.now) reading reply.status reply.why) (sym c.in-Ok.ensures.exact) follows)

pub returns-in_ok-refused_section-in-Err-BadItem-clause-why : goal.returns-in_ok-refused_section-in-Err-BadItem-clause-why
returns-in_ok-refused_section-in-Err-BadItem-clause-why c =
    let some : 0 < length c.args.section.now = some_of c.args.section.now c.is_empty.result c.is_empty.ensures c.if-is_empty.false in
    let reply = c.in_ok-refused_section-in-Err-BadItem.field-0 in
    let exact = rw c.in-Err-BadItem.field-0-is at c.in-Err-BadItem.ensures.exact in
    section_explains c.args.system.now (lines_of c.args.text.now) (lines_of c.args.section.now) reply.status reply.why (lines_some c.args.section.now some)
    (subst (λ reading. ExplainsSection c.args.system.now (lines_of c.args.text.now) (lines_of c.args.section.now) reading reply.status reply.why) (sym exact) c.in_ok-refused_section-in-Err-BadItem.ensures.why)

pub returns-in_ok-follow-in-Ok-clause-notes : goal.returns-in_ok-follow-in-Ok-clause-notes
returns-in_ok-follow-in-Ok-clause-notes c =
    let some : 0 < length c.args.section.now = some_of c.args.section.now c.is_empty.result c.is_empty.ensures c.if-is_empty.false in
    let reply = c.in_ok-follow-in-Ok.field-0 in
    let notes = subst (λ items. NotesItems (lines_of c.args.text.now) c.args.system.now items reply.notes) c.as_slice.ensures c.in_ok-follow-in-Ok.ensures.notes in
    section_noted (lines_of c.args.text.now) c.args.system.now (lines_of c.args.section.now) reply.notes (lines_some c.args.section.now some)
    (subst (λ reading. NotesSection (lines_of c.args.text.now) c.args.system.now reading reply.notes) (sym c.in-Ok.ensures.exact) notes)

pub returns-in_ok-refused_section-in-Err-BadItem-clause-notes : goal.returns-in_ok-refused_section-in-Err-BadItem-clause-notes
returns-in_ok-refused_section-in-Err-BadItem-clause-notes c =
    let some : 0 < length c.args.section.now = some_of c.args.section.now c.is_empty.result c.is_empty.ensures c.if-is_empty.false in
    let reply = c.in_ok-refused_section-in-Err-BadItem.field-0 in
    let exact = rw c.in-Err-BadItem.field-0-is at c.in-Err-BadItem.ensures.exact in
    section_noted (lines_of c.args.text.now) c.args.system.now (lines_of c.args.section.now) reply.notes (lines_some c.args.section.now some)
    (subst (λ reading. NotesSection (lines_of c.args.text.now) c.args.system.now reading reply.notes) (sym exact) c.in_ok-refused_section-in-Err-BadItem.ensures.notes)
