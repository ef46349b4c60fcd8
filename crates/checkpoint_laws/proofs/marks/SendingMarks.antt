-- A process that is marked is so after a step that sends something.
use Rattle.std.proofs.Common.{◌≡◌, ◌<◌, sym, ◌∙◌, ap, subst, arith, List, Bool, false, slice_get, Some}
use Rattle.std.specs.Option.{option_map_or}
use Rattle.t32_base.specs.declared.process.Pid.{Pid}
use Rattle.sys_text.specs.declared.system.System.{System}
use Rattle.rv_mem.specs.Memory.{page_at}
use Rattle.proc_state.specs.declared.process.Process.{Process}
use Rattle.proc_state.specs.State.{state_of}
use Rattle.sys_calls.specs.declared.steps.Emission.{Emission}
use Rattle.sys_calls.specs.Calls.{Emits}
use Rattle.sys_calls.specs.Next.{next_step}
use Rattle.sys_calls.proofs.Counting.{emits_counts}
use Rattle.bus_msg.specs.declared.entry.Entry.{Entry}
use Rattle.cert_sched.specs.Parts.{rising}
use Rattle.cert_sched.specs.Steps.{numbers_read, saved_of}
use Rattle.log_laws.proofs.pages.StepSizes.{SameSize, Keeps, next_keeps}
use Rattle.checkpoint_laws.specs.posts.Marked.{IsMarked, arrived_below}
use Rattle.checkpoint_laws.specs.marks.Sent.{SentUpto}
use Rattle.checkpoint_laws.proofs.marks.SentPages.{never_at, sent_later}

pub sending_sent : (system : System) (log : List Entry) (p : Pid) (old new : Process) (e : Emission) → next_step (state_of old) ≡ Emits e (state_of new) → SentUpto system log p (old.small).steps → SentUpto system log p (new.small).steps
sending_sent system log p old new e is upto =
    let count = (emits_counts (state_of old) (state_of new) e is).steps in
    sent_later system log p (old.small).steps (new.small).steps (omega (arith, count)) upto

pub sending_marked : (system : System) (log : List Entry) (p : Pid) (old new : Process) (e : Emission) → next_step (state_of old) ≡ Emits e (state_of new) → new ≡ record old { small = new.small }
    → IsMarked system log p old → SentUpto system log p (old.small).steps → IsMarked system log p new
sending_marked system log p old new e is touches marked upto =
    let count = (emits_counts (state_of old) (state_of new) e is).steps in
    let sizes : SameSize (state_of old) (state_of new) = subst (Keeps (state_of old)) is (next_keeps (state_of old)) in
    record {
      since_start = ap (λ (q : Process). q.since) touches ∙ marked.since_start;
      read =
          ap (λ (q : Process). rising q.read) touches
          ∙ marked.read
          ∙ sym (ap (λ (q : Process). numbers_read (arrived_below (q.mail).next (saved_of system log p)) (q.mail).letters) touches);
      clean = λ i within unmarked.
          marked.clean i (subst (λ n. i < n) sizes.pages within) (ap (λ (q : Process). option_map_or (λ (b : Bool). b) (slice_get (q.ram).dirty i) false) (sym touches) ∙ unmarked)
          ∙ ap (λ (q : Process). Some (page_at (q.ram).bytes i)) (sym touches);
      unsent = λ i within is. never_at system log p (old.small).steps (new.small).steps i (omega (arith, count)) upto;
    }
