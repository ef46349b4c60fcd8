-- Silent steps of a process, with the marks of its pages and what it has read.
use Rattle.std.proofs.Common.{◌≡◌, ℕ, ◌+◌, length, Some, refl, ap, ◌∙◌, sym}
use Rattle.proc_state.specs.declared.process.Process.{Process}
use Rattle.proc_state.specs.Mail.{MailState}
use Rattle.proc_state.specs.State.{state_of}
use Rattle.sys_calls.specs.Calls.{Silent}
use Rattle.sys_calls.specs.Next.{letter_taken, next_step, silently_marked, step_marks}
use Rattle.sys_calls.specs.Steps.{marked, SameCount, Took}
use Rattle.sys_calls.proofs.Ahead.{more}
use Rattle.sys_calls.proofs.Running.{silently-marked}
use Rattle.roll_forward.specs.declared.rolled.Rolled.TheVariants.{Silent as WasSilent}
use Rattle.roll_forward.specs.Advancing.{going}
use Rattle.roll_forward.proofs.RollLaws.{gone_of, one_rolled, rolled_on-append, rolled_silently}
use Rattle.quanta.specs.Quantum.{RunsOn}
use Rattle.quanta.proofs.Silence.{one_more_silent}

-- instructions are silent steps, and leave the mailbox, what was read and the point of last synchronisation
pub instructions_on : (n : ℕ) (p q : Process) → silently_marked n (marked p) ≡ Some (marked q) → q.mail ≡ p.mail → SameCount p q → RunsOn n p q
instructions_on n p q silent mail count =
    record {
      silent = silently-marked n (marked p) (marked q) silent;
      ran = λ counts births.
          rolled_silently n (marked p) (marked q) p.read counts births silent (ap (λ (m : MailState). length m.letters) mail)
          ∙ (λ i. Some (record { state = state_of q; marks = (q.ram).dirty; read = sym count.read i; counts = counts; births = births }));
      since = count.since;
    }

-- one silent step more
pub one_more_on : (n : ℕ) (p q r : Process) → RunsOn n p q → next_step (state_of q) ≡ Silent (state_of r) → (r.ram).dirty ≡ step_marks (state_of q) (q.ram).dirty → Took (letter_taken (state_of q)) q r → RunsOn (n + 1) p r
one_more_on n p q r before is marks took =
    record {
      silent = one_more_silent n (state_of p) (state_of q) (state_of r) before.silent is;
      ran = λ counts births.
          rolled_on-append n 1 (going p counts births) (going q counts births) (going r counts births) (before.ran counts births)
          (one_rolled (going q counts births) (going r counts births) (gone_of (going q counts births) (state_of r) (r.ram).dirty r.read counts births WasSilent refl is marks took.read refl refl));
      since = took.since ∙ before.since;
    }

-- silent steps and more of them
pub run_on_more : (m n : ℕ) (p q r : Process) → RunsOn m p q → RunsOn n q r → RunsOn (m + n) p r
run_on_more m n p q r first then = record {
  silent = more m n (state_of p) (state_of q) (state_of r) first.silent then.silent;
  ran = λ counts births. rolled_on-append m n (going p counts births) (going q counts births) (going r counts births) (first.ran counts births) (then.ran counts births);
  since = then.since ∙ first.since;
}
