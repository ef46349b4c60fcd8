use Rattle.std.proofs.Common.{◌≡◌, ℕ, sym, ◌∙◌, ap, subst, List, [], ◌∷◌, ◌++◌, map, append_assoc, Some}
use Rattle.std.specs.List.Sorted.{IsStrictlySortedBy}
use Rattle.std.specs.Ordering.{nat_cmp}
use Rattle.t32_base.specs.declared.letter.BackRec.{BackRec}
use Rattle.proc_state.specs.State.{ProcState}
use Rattle.plain_kernel.specs.Maps.{pid_of}
use Rattle.backup_records.specs.Records.{with_record}
use Rattle.log_laws.specs.records.Kept.{record_at_boot}
use Rattle.cluster_core.specs.Booting.{AreFirstRecords}
use Rattle.cluster_core.proofs.boot.FirstRecords.{more_recorded, none_recorded, seen}
use Rattle.cluster_core.proofs.booting.first_records.Goals as goal
use Rattle.page_accounts.proofs.Booted.{seen_last}

pub loop-pid-preserved-in-Continue-1 : goal.loop-pid-preserved-in-Continue-1
loop-pid-preserved-in-Continue-1 c =
    let e : ℕ × ProcState = (c.in-Some.pid.now, c.in-Some.start.now) in
    let before : List (ℕ × ProcState) = seen c.loop-pid.yielded in
    let last : seen (c.loop-pid.yielded ++ (c.in-Some.pid, c.in-Some.start) ∷ []) ≡ before ++ e ∷ [] = seen_last c.loop-pid.yielded (c.in-Some.pid, c.in-Some.start) in
    let ordered : IsStrictlySortedBy nat_cmp (map (λ (d : ℕ × ProcState). d.0) (before ++ e ∷ c.next.new.self)) = rw c.in-Some.ensures.steps at c.loop-pid.invariant.ordered in
    let one : c.new.result ≡ record_at_boot (pid_of e.0, e.1) = c.new.ensures ∙ ap (λ small. record { pid = pid_of e.0; state = Some small; saved = []; next = 0; counts = _; births = [] }) (c.copy-state.ensures ∙ c.small.ensures) in
    let added : c.add.new.self ≡ with_record (record_at_boot (pid_of e.0, e.1)) c.loop-pid.records = c.in_ok-add.ensures.ok ∙ ap (λ (r : BackRec). with_record r c.loop-pid.records) one in
    record {
      all = ap (λ es. es ++ c.next.new.self) last ∙ append_assoc before (e ∷ []) c.next.new.self ∙ rw c.in-Some.ensures.steps at c.loop-pid.invariant.all;
      ordered = subst (λ es. IsStrictlySortedBy nat_cmp (map (λ (d : ℕ × ProcState). d.0) es)) (sym (ap (λ es. es ++ c.next.new.self) last ∙ append_assoc before (e ∷ []) c.next.new.self)) ordered;
      are = subst (λ es. AreFirstRecords c.args.places.now c.args.number es c.add.new.self) (sym last)
          (subst (AreFirstRecords c.args.places.now c.args.number (before ++ e ∷ [])) (sym added)
          (more_recorded c.args.places.now c.args.number before e c.next.new.self c.loop-pid.records ordered c.loop-pid.invariant.are (sym c.has_backup.ensures ∙ c.if-has_backup.true)));
    }

pub loop-pid-preserved : goal.loop-pid-preserved
loop-pid-preserved c =
    let e : ℕ × ProcState = (c.in-Some.pid.now, c.in-Some.start.now) in
    let before : List (ℕ × ProcState) = seen c.loop-pid.yielded in
    let last : seen (c.loop-pid.yielded ++ (c.in-Some.pid, c.in-Some.start) ∷ []) ≡ before ++ e ∷ [] = seen_last c.loop-pid.yielded (c.in-Some.pid, c.in-Some.start) in
    let ordered : IsStrictlySortedBy nat_cmp (map (λ (d : ℕ × ProcState). d.0) (before ++ e ∷ c.next.new.self)) = rw c.in-Some.ensures.steps at c.loop-pid.invariant.ordered in
    record {
      all = ap (λ es. es ++ c.next.new.self) last ∙ append_assoc before (e ∷ []) c.next.new.self ∙ rw c.in-Some.ensures.steps at c.loop-pid.invariant.all;
      ordered = subst (λ es. IsStrictlySortedBy nat_cmp (map (λ (d : ℕ × ProcState). d.0) es)) (sym (ap (λ es. es ++ c.next.new.self) last ∙ append_assoc before (e ∷ []) c.next.new.self)) ordered;
      are = subst (λ es. AreFirstRecords c.args.places.now c.args.number es c.loop-pid.records) (sym last)
          (none_recorded c.args.places.now c.args.number before e c.next.new.self c.loop-pid.records ordered c.loop-pid.invariant.are (sym c.has_backup.ensures ∙ c.if-has_backup.false));
    }
