use Rattle.std.proofs.Common.{◌≡◌, ℕ, List, Some, None, sym, ◌∙◌, rules}
use Rattle.text_parts.specs.Table.{lookup, rows_in}
use Rattle.text_parts.proofs.NameTables.{lookup_entries, lookups_after, defined_again, defined_now}
use denote.Ref.{Bor}
use Rattle.text_parts.proofs.names.Names.define.Goals as goal

pub returns-in_ok-insert : goal.returns-in_ok-insert
returns-in_ok-insert g c =
    let old = c.self.inside.values.entries in
    let key : ℕ × Bor (List ℕ) = (c.end_of-end.result, c.args.name) in
    let there : lookup (rows_in old) c.args.name.now ≡ Some c.in-Some.first = sym (lookup_entries old c.args.name.now) ∙ rw (← c.end_of-end.ensures) (sym c.in_ok-first.ensures.old) ∙ c.in-Some.is in
    rw (← c.self.view_is) (defined_again (rows_in old) (rows_in c.insert.new.self.entries) (rows_in c.insert-in-Some.new.self.entries) c.args.name.now c.args.value c.in-Some.first there
    (lookups_after old c.insert.new.self.entries key c.args.value c.end_of-end.ensures c.in_ok-first.ensures.updates.0)
    (lookups_after c.insert.new.self.entries c.insert-in-Some.new.self.entries key c.in-Some.first c.end_of-end.ensures c.in_ok-insert.ensures.updates.0))

pub returns-in_default : goal.returns-in_default
returns-in_default g c =
    let old = c.self.inside.values.entries in
    let absent : lookup (rows_in old) c.args.name.now ≡ None = sym (lookup_entries old c.args.name.now) ∙ rw (← c.end_of-end.ensures) (search (rules, c.in_default.not-Some, c.in_ok-first.ensures.old)) in
    rw (← c.self.view_is) (defined_now (rows_in old) (rows_in c.insert.new.self.entries) c.args.name.now c.args.value absent
    (lookups_after old c.insert.new.self.entries (c.end_of-end.result, c.args.name) c.args.value c.end_of-end.ensures c.in_ok-first.ensures.updates.0))
