-- Where the next entry leads a process that is kept.
use Rattle.std.proofs.Common.{◌≡◌, refl, sym, ◌∙◌, ap, subst, List, [], ◌∷◌, ◌++◌, Bool, true, false, cond, ◌||◌, Some}
use Rattle.std.proofs.lemmas.Bool.{or_parts}
use Rattle.t32_base.specs.declared.process.Pid.{Pid}
use Rattle.sys_text.specs.declared.system.System.{System}
use Rattle.proc_state.specs.State.{state_of}
use Rattle.bus_msg.specs.declared.entry.Entry.{Entry}
use Rattle.bus_msg.specs.PlacedAfter.{what}
use Rattle.cert_sched.specs.Schedule.{process_after}
use Rattle.cert_sched.specs.Deeds.{is_cut}
use Rattle.cert_sched.specs.Steps.{after_items}
use Rattle.log_processes.specs.Arrivals.{is_writer, stepped}
use Rattle.audited_process.specs.declared.begun.Begun.{Begun}
use Rattle.audited_process.specs.declared.since_moved.SinceMoved.{SinceMoved}
use Rattle.audited_process.specs.declared.audited.Audited.{Audited}
use Rattle.audited_process.specs.Concerns.{forks, steps_by}
use Rattle.audited_process.specs.Begun.{IsBegunOf, led}
use Rattle.audited_process.specs.SinceMoved.{IsSinceMovedOf}
use Rattle.audited_process.specs.Audited.{IsAuditedOf, IsLedBy}
use Rattle.audited_process.specs.Leading.{LeadsOn, SameBeside}
use Rattle.audited_process.proofs.ByKind.{writer_stays}

module _ (system : System) (log : List Entry) (e : Entry) (p : Pid) where
  led_so : (b : Bool) → (forks p (what e) || is_cut p (what e)) ≡ b → led system log e p ≡ cond b (process_after system (log ++ e ∷ []) p) (stepped system log (what e) p)
  led_so b is = ap (λ b. cond b (process_after system (log ++ e ∷ []) p) (stepped system log (what e) p)) is

  stepped_so : (b : Bool) → is_writer p (what e) ≡ b → stepped system log (what e) p ≡ cond b (after_items system log (what e)) (process_after system log p)
  stepped_so b is = ap (λ b. cond b (after_items system log (what e)) (process_after system log p)) is

  -- what is kept beside is the same
  pub leads : (a new : Audited) → IsAuditedOf system log p a → SameBeside a new → led system log e p ≡ Some (state_of new.process) → IsLedBy e system log p new
  leads a new is same there = record {
    there = there;
    begun = subst (λ (b : Begun). IsBegunOf system log p b) (sym same.0) is.begun;
    since_moved = subst (λ (m : SinceMoved). IsSinceMovedOf system log p m) (sym same.1) is.since_moved;
  }

  -- one that does not step by the entry stands where it stood
  pub unled : steps_by p (what e) ≡ false → led system log e p ≡ process_after system log p
  unled none =
      let parts = or_parts (is_writer p (what e) || forks p (what e)) (is_cut p (what e)) none in
      let first = or_parts (is_writer p (what e)) (forks p (what e)) parts.0 in
      led_so false (λ i. first.1 i || parts.1 i) ∙ stepped_so false first.0

pub leads_on : LeadsOn
leads_on = record {
  others = λ system log e p a none is. leads system log e p a a is (refl, refl) (unled system log e p none ∙ is.there);
  sends = λ system log e p a new writes is same there. leads system log e p a new is same (led_so system log e p false (writer_stays p (what e) writes) ∙ stepped_so system log e p true writes
      ∙ there);
  stands = λ system log e p a new does is same there. leads system log e p a new is same (led_so system log e p true does ∙ there);
}
