use Rattle.std.proofs.Common.{ℕ, ◌≡◌, false, arith, eqb, sym, ◌∙◌}
use Rattle.std.proofs.lemmas.Bool.Decides.{nat_tests}
use Rattle.rv_cpu.specs.Exec.{reg}
use Rattle.proc_state.specs.State.{state_of, with_small}
use Rattle.sys_calls.specs.Small.{spent}
use Rattle.sys_calls.specs.Calls.{call_of}
use Rattle.sys_calls.proofs.ForkLaws.{forks_number, other_call}
use Rattle.sys_calls.proofs.calls.would_fork.Goals as goal

pub returns-then-read-ne-FORK : goal.returns-then-read-ne-FORK
returns-then-read-ne-FORK c =
    let n : ℕ = reg c.args.p.now.small.regs 17 in
    let other : eqb n 5 ≡ false = grind (arith, nat_tests) in
    sym (other_call (with_small (state_of c.args.p.now) (spent c.args.p.now.small)) (call_of n) (forks_number n ∙ other))
