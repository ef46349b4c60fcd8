-- Only a read waits.
use Rattle.std.proofs.Common.{◌≡◌, ℕ, Bool, true, false, cond, eqb, ltb, not, Option, Some, None, is_none, refl, sym, ap, ◌∙◌}
use Rattle.std.proofs.lemmas.Option.{same_Some}
use Rattle.t32_base.specs.declared.letter.Arrived.{Arrived}
use Rattle.t32_base.specs.declared.letter.To.{To}
use Rattle.t32_base.specs.declared.letter.To.TheVariants.{Proc, Tty}
use Rattle.rv_mem.specs.Memory.{is_inside}
use Rattle.t32_base.specs.Registers.{Registers}
use Rattle.rv_cpu.specs.Exec.{Executed, Steps, Calls, Traps, exec, is_call, reg}
use Rattle.proc_state.specs.Ends.{free_end, leads_at}
use Rattle.proc_state.specs.State.{ProcState, with_small}
use Rattle.sys_calls.specs.Small.{spent}
use Rattle.sys_calls.specs.declared.reading.Reading.{Reading}
use Rattle.sys_calls.specs.declared.reading.Reading.TheVariants.{Refused, AtEnd, Wants}
use Rattle.sys_calls.specs.Calls.{Next, Call, ExitCall, Write, Read, ReadAny, ForkCall, GetPid, Handler, Kill, SigReturn, Close, Unknown, arg, call_of, called, close_to, first_wanted, read_any_checked, read_call, read_checked, read_found, reading_of, write_to, handled_at, is_aligned, is_signal_number, signalled, sigreturn_call}
use Rattle.sys_calls.specs.Next.{after_exec, is_blocked, live_step}

-- whether an instruction was spent makes no difference to whether a read waits
alike : (p : ProcState) (reading : Reading) → is_blocked (read_call p reading) ≡ is_blocked (read_call (with_small p (spent p.small)) reading)
alike p (Refused error) = refl
alike p AtEnd = refl
alike p (Wants wanted ptr room) = found (first_wanted p wanted)
  where
    found : (o : Option Arrived) → is_blocked (read_found p wanted ptr room o) ≡ is_blocked (read_found (with_small p (spent p.small)) wanted ptr room o)
    found None = refl
    found (Some a) = refl

calls : (x : Executed) → is_call x ≡ true → x ≡ Calls
calls (Steps regs bytes) e = cc
calls Calls e = refl
calls (Traps code) e = cc

-- ---- the other calls

either : (b : Bool) (x y : Next) → is_blocked x ≡ false → is_blocked y ≡ false → is_blocked (cond b x y) ≡ false
either true x y f g = f
either false x y f g = g

writes : (p : ProcState) (e ptr len : ℕ) (o : Option To) → is_blocked (write_to p e ptr len o) ≡ false
writes p e ptr len None = refl
writes p e ptr len (Some to) =
    either (ltb 256 len) _ _ refl (either (not (is_inside p.memory ptr len)) _ _ refl (either (eqb len 0) _ _ refl refl))

closes : (p : ProcState) (e : ℕ) (o : Option To) → is_blocked (close_to p e o) ≡ false
closes p e None = refl
closes p e (Some (Tty t)) = refl
closes p e (Some (Proc peer far)) = refl

handles : (p : ProcState) (ok : Bool) → is_blocked (handled_at ok p (arg p 0)) ≡ false
handles p true = refl
handles p false = refl

signals : (p : ProcState) (ok : Bool) → is_blocked (signalled ok p (arg p 0) (arg p 1)) ≡ false
signals p true = refl
signals p false = refl

returns : (p : ProcState) (o : Option Registers) → is_blocked (sigreturn_call p o) ≡ false
returns p None = refl
returns p (Some regs) = refl

-- a call that is no read does not wait
no_read : (p : ProcState) (c : Call) → reading_of c p ≡ None → is_blocked (called c (with_small p (spent p.small))) ≡ false
no_read p ExitCall e = refl
no_read p Write e = writes (with_small p (spent p.small)) (arg p 0) (arg p 1) (arg p 2) (leads_at (p.small).ends (arg p 0))
no_read p Read e = cc
no_read p ReadAny e = cc
no_read p ForkCall e = either (eqb (p.small).births 0) _ _ refl (either (is_none (free_end (p.small).ends)) _ _ refl refl)
no_read p GetPid e = refl
no_read p Handler e = let q = with_small p (spent p.small) in handles q (is_aligned (arg q 0))
no_read p Kill e = let q = with_small p (spent p.small) in signals q (is_signal_number (arg q 1))
no_read p SigReturn e = let q = with_small p (spent p.small) in returns q (q.small).frame
no_read p Close e = closes (with_small p (spent p.small)) (arg p 0) (leads_at (p.small).ends (arg p 0))
no_read p Unknown e = refl

-- a read waits where it does after its checks
a_read : (p : ProcState) (c : Call) (reading : Reading) → reading_of c p ≡ Some reading → is_blocked (read_call p reading) ≡ is_blocked (called c (with_small p (spent p.small)))
a_read p ExitCall reading e = cc
a_read p Write reading e = cc
a_read p Read reading e = ap (λ r. is_blocked (read_call p r)) (sym (same_Some (read_checked p) reading e)) ∙ alike p (read_checked p)
a_read p ReadAny reading e = ap (λ r. is_blocked (read_call p r)) (sym (same_Some (read_any_checked p) reading e)) ∙ alike p (read_any_checked p)
a_read p ForkCall reading e = cc
a_read p GetPid reading e = cc
a_read p Handler reading e = cc
a_read p Kill reading e = cc
a_read p SigReturn reading e = cc
a_read p Close reading e = cc
a_read p Unknown reading e = cc

-- ---- the next instruction of a live process

executes : (p : ProcState) (x : Executed) → reading_of (call_of (reg (p.small).regs 17)) p ≡ None → is_blocked (after_exec x (with_small p (spent p.small))) ≡ false
executes p (Steps regs bytes) e = refl
executes p Calls e = no_read p (call_of (reg (p.small).regs 17)) e
executes p (Traps code) e = refl

-- no read is in a7
pub unread : (p : ProcState) (b : Bool) → reading_of (call_of (reg (p.small).regs 17)) p ≡ None → is_blocked (live_step b p) ≡ false
unread p true e = refl
unread p false e = executes p (exec (p.small).regs p.memory) e

uncalled_by : (p : ProcState) (x : Executed) → is_call x ≡ false → is_blocked (after_exec x p) ≡ false
uncalled_by p (Steps regs bytes) e = refl
uncalled_by p Calls e = cc
uncalled_by p (Traps code) e = refl

-- the instruction is no system call
pub uncalled : (p : ProcState) (b : Bool) → is_call (exec (p.small).regs p.memory) ≡ false → is_blocked (live_step b p) ≡ false
uncalled p true e = refl
uncalled p false e = uncalled_by (with_small p (spent p.small)) (exec (p.small).regs p.memory) e

-- it is a read
pub reads : (p : ProcState) (reading : Reading) → eqb (p.small).left 0 ≡ false → is_call (exec (p.small).regs p.memory) ≡ true → reading_of (call_of (reg (p.small).regs 17)) p ≡ Some reading
    → is_blocked (read_call p reading) ≡ is_blocked (live_step (eqb (p.small).left 0) p)
reads p reading some is read =
    a_read p (call_of (reg (p.small).regs 17)) reading read
    ∙ sym (ap (λ b. is_blocked (live_step b p)) some ∙ ap (λ x. is_blocked (after_exec x (with_small p (spent p.small)))) (calls (exec (p.small).regs p.memory) is))

-- a read is made as after its checks
pub reads_called : (p : ProcState) (c : Call) (reading : Reading) → reading_of c p ≡ Some reading → called c (with_small p (spent p.small)) ≡ read_call (with_small p (spent p.small)) reading
reads_called p ExitCall reading e = cc
reads_called p Write reading e = cc
reads_called p Read reading e = ap (λ r. read_call (with_small p (spent p.small)) r) (same_Some (read_checked p) reading e)
reads_called p ReadAny reading e = ap (λ r. read_call (with_small p (spent p.small)) r) (same_Some (read_any_checked p) reading e)
reads_called p ForkCall reading e = cc
reads_called p GetPid reading e = cc
reads_called p Handler reading e = cc
reads_called p Kill reading e = cc
reads_called p SigReturn reading e = cc
reads_called p Close reading e = cc
reads_called p Unknown reading e = cc
