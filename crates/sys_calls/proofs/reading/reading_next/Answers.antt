use Rattle.std.proofs.Common.{ℕ, ◌≡◌, false, arith, eqb, sym}
use Rattle.std.proofs.lemmas.Bool.Decides.{nat_tests}
use Rattle.rv_cpu.specs.Exec.{reg}
use Rattle.proc_state.specs.State.{state_of}
use Rattle.sys_calls.proofs.ReadNumbers.{other_reads_none}
use Rattle.sys_calls.proofs.reading.reading_next.Goals as goal

pub returns-in_default-clause-checked : goal.returns-in_default-clause-checked
returns-in_default-clause-checked c =
    let n : ℕ = reg c.args.p.now.small.regs 17 in
    let three : eqb n 3 ≡ false = grind (arith, nat_tests) in
    let four : eqb n 4 ≡ false = grind (arith, nat_tests) in
    sym (other_reads_none (state_of c.args.p.now) n three four)
