use Rattle.std.proofs.Common.{◌≡◌, ◌+◌, refl, sym, ◌∙◌, ap, arith, [], ◌∷◌, length, option_to_list}
use Rattle.std.specs.Option.{option_copied}
use Rattle.t32_base.specs.declared.letter.Letter.{Letter}
use Rattle.proc_state.specs.State.{state_of}
use Rattle.sys_calls.proofs.RunLemma.{all_delivered}
use Rattle.bus_msg.specs.PlacedAfter.{what}
use Rattle.cert_sched.specs.Deeds.{letter_for}
use Rattle.log_processes.proofs.Beside.{keeps_on}
use Rattle.log_processes.proofs.arrivals.take.Goals as goal

pub returns-in_default-clause-keeps : goal.returns-in_default-clause-keeps
returns-in_default-clause-keeps c =
    let none : [] ≡ letter_for c.args.pid (what c.args.entry.now) = ap (λ o. option_to_list (option_copied o)) (sym c.in_default.is) ∙ c.arriving.ensures in
    let count : 0 ≡ length (letter_for c.args.pid (what c.args.entry.now)) = ap length none in
    keeps_on c.args.entry.now c.args.pid (state_of c.args.process.now) c.args.kept.now (state_of c.args.process.now) c.args.kept.now (ap (all_delivered (state_of c.args.process.now)) none) refl (omega (arith, count))

pub returns-clause-keeps : goal.returns-clause-keeps
returns-clause-keeps c =
    let one : c.in-Some.letter.now ∷ [] ≡ letter_for c.args.pid (what c.args.entry.now) = ap (λ o. option_to_list (option_copied o)) (sym c.in-Some.is) ∙ c.arriving.ensures in
    let count : 1 ≡ length (letter_for c.args.pid (what c.args.entry.now)) = ap length one in
    keeps_on c.args.entry.now c.args.pid (state_of c.args.process.now) c.args.kept.now (state_of c.deliver.new.self) (record (c.args.kept.now) { saved = c.args.kept.now.saved + 1 })
    (c.in_ok-deliver.ensures.ok ∙ ap (λ (l : Letter). all_delivered (state_of c.args.process.now) (l ∷ [])) c.in_ok-letter.ensures ∙ ap (all_delivered (state_of c.args.process.now)) one) refl (omega (arith, count))
