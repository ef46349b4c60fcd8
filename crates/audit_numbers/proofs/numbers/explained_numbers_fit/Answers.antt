use Rattle.audit_numbers.proofs.Explaining.{kernel_small, run_small}
use Rattle.audit_numbers.proofs.numbers.explained_numbers_fit.Goals as goal

pub returns-clause-kernel : goal.returns-clause-kernel
returns-clause-kernel c = kernel_small

pub returns-clause-run : goal.returns-clause-run
returns-clause-run c = run_small
