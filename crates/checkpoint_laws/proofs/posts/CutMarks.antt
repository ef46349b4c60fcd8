-- The marks of a process that was just synchronised.
use Rattle.std.proofs.Common.{◌≡◌, ℕ, ◌≤◌, refl, sym, ◌∙◌, ap, subst, arith, List, [], ◌∷◌, ◌++◌, length, map, Bool, true, false, cond, not, eqb, slice_get, Option, Some, true≢false}
use Rattle.std.specs.Prelude.{filter, replicate, nat_lt}
use Rattle.std.specs.List.{list_any}
use Rattle.std.specs.Option.{option_map_or}
use Rattle.t32_base.specs.declared.process.Pid.{Pid}
use Rattle.t32_base.specs.declared.letter.Arrived.{Arrived}
use Rattle.t32_base.specs.Account.{Account, page_in}
use Rattle.sys_text.specs.declared.system.System.{System}
use Rattle.sys_text.specs.Valid.{is_system}
use Rattle.proc_state.specs.declared.process.Process.{Process}
use Rattle.proc_state.specs.State.{ProcState, state_of}
use Rattle.bus_msg.specs.declared.entry.Entry.{Entry}
use Rattle.sync_point.specs.Batch.{cut_of, synced}
use Rattle.sync_point.proofs.Cuts.{cut_keeps}
use Rattle.cert_sched.specs.Parts.{rising}
use Rattle.cert_sched.specs.Account.{account_after, all_pages}
use Rattle.cert_sched.specs.Deeds.{start_of}
use Rattle.cert_sched.specs.Schedule.{process_after}
use Rattle.cert_sched.specs.Steps.{numbers_read, saved_of}
use Rattle.cert_sched.proofs.ReadLaws.{reads_none}
use Rattle.checkpoint_laws.proofs.posts.WholePages.{page_found}
use Rattle.log_laws.proofs.pages.SizesStay.{process_sized}
use Rattle.checkpoint_laws.specs.posts.Cut.{CutsAt}
use Rattle.checkpoint_laws.specs.posts.Marked.{IsMarked, arrived_below}
use Rattle.checkpoint_laws.proofs.posts.CutEntry.{cut_process, cut_start, cut_saved, cut_account}
use Rattle.checkpoint_laws.proofs.marks.BootMarks.{no_mark}

-- ---- the letters read

-- of fewer letters fewer were read
fewer_read : (next : ℕ) (saved mail : List Arrived) → length (numbers_read (arrived_below next saved) mail) ≤ length (numbers_read saved mail)
fewer_read next [] mail = omega arith
fewer_read next (a ∷ saved) mail = by_tests (nat_lt a.number next) (not (list_any (λ (b : Arrived). eqb b.number a.number) mail)) refl (fewer_read next saved mail)
  where
    test : Arrived → Bool
    test a = not (list_any (λ (b : Arrived). eqb b.number a.number) mail)

    number : Arrived → ℕ
    number a = a.number

    by_tests : (x y : Bool) → test a ≡ y → length (numbers_read (arrived_below next saved) mail) ≤ length (numbers_read saved mail)
        → length (numbers_read (cond x (a ∷ arrived_below next saved) (arrived_below next saved)) mail) ≤ length (map number (cond y (a ∷ filter test saved) (filter test saved)))
    by_tests true true passes less = rw (passes) (omega (arith, less))
    by_tests true false passes less = rw (passes) less
    by_tests false true passes less = omega (arith, less)
    by_tests false false passes less = less

none_left : (xs : List ℕ) → length xs ≤ 0 → xs ≡ []
none_left [] few = refl
none_left (x ∷ xs) few = absurd (omega (arith, few))

-- of the letters of the mailbox none was read
none_of_mail : (next : ℕ) (mail : List Arrived) → numbers_read (arrived_below next mail) mail ≡ []
none_of_mail next mail =
    let few = fewer_read next mail mail in
    let none = reads_none mail in
    none_left (numbers_read (arrived_below next mail) mail) (omega (arith, few, none))

-- ---- the marks

-- where none of so many marks is set, no page is marked
pub unmarked : (marks : List Bool) (n i : ℕ) → marks ≡ replicate n false → option_map_or (λ (b : Bool). b) (slice_get marks i) false ≡ false
unmarked marks n i none = ap (λ marks. option_map_or (λ (b : Bool). b) (slice_get marks i) false) none ∙ no_mark n i

-- a process that is as it starts again, with its saved letters and the pages that came, without a mark and with no letter read, is marked as the log says
pub starts_marked : (system : System) (log : List Entry) (p : Pid) (process : Process) (n : ℕ) → is_system system ≡ true → process_after system log p ≡ Some (state_of process) → start_of system log p ≡ Some (state_of process)
    → saved_of system log p ≡ (process.mail).letters → process.read ≡ [] → process.since ≡ (process.small).steps → (process.ram).dirty ≡ replicate n false → (account_after system log p).now ≡ all_pages (process.ram).bytes
    → IsMarked system log p process
starts_marked system log p process n valid there started saved no_read since none account =
    let sized = process_sized system log p (state_of process) valid there in
    record {
      since_start = since ∙ sym (ap (λ (o : Option ProcState). option_map_or (λ (s : ProcState). (s.small).steps) o 0) started);
      read = ap rising no_read ∙ sym (ap (λ saved. numbers_read (arrived_below (process.mail).next saved) (process.mail).letters) saved ∙ none_of_mail (process.mail).next (process.mail).letters);
      clean = λ i within other. ap (λ pages. page_in pages i) account ∙ page_found (process.ram).bytes (process.small).pages i sized within;
      unsent = λ i within marked. absurd (true≢false (sym marked ∙ unmarked (process.ram).dirty n i none));
    }

-- a process as the cut left it, without a mark and with no letter read since, is marked as the log says
pub cut_marks : (system : System) (log : List Entry) (e : Entry) (p : Pid) (process : Process) (n : ℕ) → is_system system ≡ true → CutsAt system log e p (state_of process) → process.read ≡ [] → process.since ≡ (process.small).steps
    → (process.ram).dirty ≡ replicate n false → (account_after system log p).now ≡ all_pages (process.ram).bytes → IsMarked system (log ++ e ∷ []) p process
cut_marks system log e p process n valid cut no_read since none account =
    let s : ProcState = state_of process in
    starts_marked system (log ++ e ∷ []) p process n valid (cut_process system log e p s cut) (cut_start system log e p s cut) (cut_saved system log e p s cut) no_read since none
    (ap (λ (a : Account). a.now) (cut_account system log e p s cut) ∙ account)

-- so is the process that was synchronised
pub synced_marks : (system : System) (log : List Entry) (e : Entry) (p : Pid) (process : Process) → is_system system ≡ true → CutsAt system log e p (state_of (cut_of process)) → (account_after system log p).now ≡ all_pages (process.ram).bytes
    → IsMarked system (log ++ e ∷ []) p (synced process)
synced_marks system log e p process valid cut account =
    let kept = cut_keeps process in
    let same : state_of (cut_of process) ≡ state_of (synced process) = λ i. record (state_of (cut_of process)) { memory = ((kept.ram) i).bytes } in
    cut_marks system log e p (synced process) (length (process.ram).dirty) valid (subst (CutsAt system log e p) same cut) refl (sym kept.steps) refl account
