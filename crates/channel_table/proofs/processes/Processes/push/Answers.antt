use Rattle.std.proofs.Common.{◌≡◌, ◌∙◌, sym, ap, subst, find, None, nat_eq, ◌++◌, ◌∷◌, []}
use Rattle.std.specs.Map.{lookup, values_of}
use Rattle.indexmap.proofs.CallerLemmas.{insert_entry-new}
use Rattle.bus_msg.specs.Places.{same_pid}
use Rattle.channel_table.specs.Keys.{IsKeyed, number_of}
use Rattle.channel_table.proofs.KeyLaws.{lookup-keyed, values-push, keyed-push}
use Rattle.channel_table.proofs.processes.Processes.push.Goals as goal

pub invariant_of-self-2 : goal.invariant_of-self-2
invariant_of-self-2 c =
    let es = c.self.inside.map.entries in
    let none : lookup (nat_eq c.args.placed.pid.0) es ≡ None =
    lookup-keyed c.args.placed.pid.0 es c.self.invariant.keyed ∙ ap (find (λ q. same_pid q.pid c.args.placed.pid)) c.self.view_is ∙ c.requires in
    let new : c.insert.new.self.entries ≡ es ++ (number_of c.args.placed, c.args.placed) ∷ [] =
    c.in_ok-insert.ensures.entries ∙ insert_entry-new nat_eq c.self.inside.map c.args.placed.pid.0 c.args.placed none in
    record { keyed = subst IsKeyed (sym new) (keyed-push es c.args.placed c.self.invariant.keyed); distinct = c.in_ok-insert.ensures.unique }

pub returns-clause-ok : goal.returns-clause-ok
returns-clause-ok c =
    let es = c.self.inside.map.entries in
    let none : lookup (nat_eq c.args.placed.pid.0) es ≡ None =
    lookup-keyed c.args.placed.pid.0 es c.self.invariant.keyed ∙ ap (find (λ q. same_pid q.pid c.args.placed.pid)) c.self.view_is ∙ c.requires in
    let new : c.insert.new.self.entries ≡ es ++ (number_of c.args.placed, c.args.placed) ∷ [] =
    c.in_ok-insert.ensures.entries ∙ insert_entry-new nat_eq c.self.inside.map c.args.placed.pid.0 c.args.placed none in
    ap values_of new ∙ values-push es (number_of c.args.placed, c.args.placed) ∙ ap (λ qs. qs ++ c.args.placed ∷ []) c.self.view_is
