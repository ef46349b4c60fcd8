-- A page of which a fetch waits already is noted as one that may have more.
use Rattle.std.proofs.Common.{Some, cond, sym, ap, ◌∙◌, subst}
use Rattle.std.specs.BTreeMap.{get, is_at}
use Rattle.page_server.specs.Fetches.{Noted, page_cmp}
use Rattle.page_server.proofs.FetchLaws.{noted_came, noted_not_come}
use Rattle.page_server.proofs.fetches.Fetches.push.Goals as goal

pub invariant_of-self-2 : goal.invariant_of-self-2
invariant_of-self-2 c =
    subst (Noted c.insert.new.self) (sym c.in_ok-push_back.ensures.items)
    (noted_came c.self.inside.notes c.insert.new.self c.args.pid c.args.i c.self.inside.waiting.items
    (λ q. c.in_ok-insert.ensures.updates.0 q ∙ ap (λ b. cond (is_at (page_cmp (c.args.pid.0, c.args.i)) q) (Some b) (get page_cmp c.self.inside.notes q)) c.contains_key-again.ensures) c.self.invariant)

pub invariant_of-self-in_err-push_back : goal.invariant_of-self-in_err-push_back
invariant_of-self-in_err-push_back c =
    subst (Noted c.insert.new.self) (sym c.in_err-push_back.ensures.items)
    (noted_not_come c.self.inside.notes c.insert.new.self c.args.pid.0 c.args.i c.self.inside.waiting.items
    (λ q. c.in_ok-insert.ensures.updates.0 q ∙ ap (λ b. cond (is_at (page_cmp (c.args.pid.0, c.args.i)) q) (Some b) (get page_cmp c.self.inside.notes q)) c.contains_key-again.ensures) c.self.invariant)
