use Rattle.std.proofs.Common.{◌∙◌}
use Rattle.text_parts.proofs.NameTables.{lookup_entries}
use Rattle.text_parts.proofs.names.Names.value.Goals as goal

pub returns : goal.returns
returns g c = rw (← c.self.view_is) (c.copied.ensures ∙ c.get.ensures.value ∙ rw c.end_of.ensures (lookup_entries c.self.inside.values.entries c.args.name.now))
