use Rattle.std.proofs.Common.{ℕ, ◌∙◌, List, Option, Some, subst, sym}
use Rattle.t32_base.specs.declared.process.Pid.{Pid}
use Rattle.bus_msg.specs.declared.entry.Entry.{Entry}
use Rattle.log_ends.specs.Ends.{AnswersDone, Rests}
use Rattle.log_ends.proofs.Ending.{done_follows, done_unrested}
use Rattle.log_ends.proofs.ends.next_done.Goals as goal

pub returns-in-Some : goal.returns-in-Some
returns-in-Some c =
    subst (λ (e : Entry). AnswersDone c.args.front.now c.args.place c.args.by c.args.processes.now.entries (Some e)) (sym c.entry_at.ensures)
    (done_follows c.args.front.now c.args.place c.args.by c.args.processes.now.entries c.in-Some.rests (sym c.stop_may.ensures ∙ c.if-not-stop_may.false) c.in_ok-rests.ensures.ordered
    (subst (λ (o : Option (List (Pid × ℕ))). Rests c.args.processes.now.entries o) c.in-Some.is c.in_ok-rests.ensures.rests))

pub returns-in-None : goal.returns-in-None
returns-in-None c =
    done_unrested c.args.front.now c.args.place c.args.by c.args.processes.now.entries c.in_ok-rests.ensures.ordered
    (subst (λ (o : Option (List (Pid × ℕ))). Rests c.args.processes.now.entries o) c.in-None.is c.in_ok-rests.ensures.rests)
