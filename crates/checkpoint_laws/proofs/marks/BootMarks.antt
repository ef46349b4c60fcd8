-- A root at its start has the marks of the empty log: it has read nothing, and its account has its whole memory.
use Rattle.std.proofs.Common.{◌≡◌, ℕ, zero, suc, refl, sym, ◌∙◌, ap, List, [], ◌∷◌, append-nil, Bool, true, false, cond, ◌||◌, eqb, eq-eqb, slice_get, Option, Some, true≢false}
use Rattle.std.specs.Prelude.{replicate, nat_lt}
use Rattle.std.specs.Option.{option_map_or}
use Rattle.t32_base.specs.declared.process.Pid.{Pid}
use Rattle.t32_base.specs.declared.letter.Arrived.{Arrived}
use Rattle.t32_base.specs.Account.{page_in, no_pages}
use Rattle.sys_text.specs.declared.system.System.{System}
use Rattle.sys_text.specs.Valid.{is_system}
use Rattle.proc_state.specs.declared.process.Process.{Process}
use Rattle.proc_state.specs.State.{ProcState, state_of}
use Rattle.cert_sched.specs.Parts.{rising}
use Rattle.cert_sched.specs.Schedule.{plain_after, process_after}
use Rattle.cert_sched.specs.Told.{told}
use Rattle.cert_sched.specs.Deeds.{saved_letters}
use Rattle.cert_sched.specs.Account.{account_after, all_pages, image_pages}
use Rattle.cert_sched.specs.Steps.{numbers_read, saved_of}
use Rattle.cert_sched.proofs.ReadLaws.{is_in}
use Rattle.log_laws.proofs.pages.SizesStay.{process_sized}
use Rattle.checkpoint_laws.specs.posts.Marked.{IsMarked, arrived_below, is_dirty}
use Rattle.checkpoint_laws.proofs.posts.WholePages.{page_found}

-- ---- of the letters of the mailbox none was read

pub none_read : (next : ℕ) (mail letters : List Arrived) → ((a : Arrived) → is_in letters a ≡ true → is_in mail a ≡ true) → numbers_read (arrived_below next letters) mail ≡ []
none_read next mail [] there = refl
none_read next mail (a ∷ letters) there =
    by_test (nat_lt a.number next) (there a (ap (λ b. b || is_in letters a) (eq-eqb a.number a.number refl))) (none_read next mail letters (λ b here. there b (ap (λ x. eqb a.number b.number || x) here ∙ or_true (eqb a.number b.number))))
  where
    or_true : (b : Bool) → (b || true) ≡ true
    or_true true = refl
    or_true false = refl

    by_test : (b : Bool) → is_in mail a ≡ true → numbers_read (arrived_below next letters) mail ≡ [] → numbers_read (cond b (a ∷ arrived_below next letters) (arrived_below next letters)) mail ≡ []
    by_test true is none = rw is none
    by_test false is none = none

-- ---- no page is marked

pub no_mark : (n i : ℕ) → option_map_or (λ (b : Bool). b) (slice_get (replicate n false) i) false ≡ false
no_mark zero i = refl
no_mark (suc n) zero = refl
no_mark (suc n) (suc i) = no_mark n i

-- ---- the empty log

account_there : (system : System) (p : Pid) (s : ProcState) → process_after system [] p ≡ Some s → (account_after system [] p).now ≡ all_pages s.memory
unfolding account_after plain_after told
account_there system p s there = ap (λ (o : Option ProcState). (option_map_or image_pages o no_pages).now) there

pub boot_marks : (system : System) (p : Pid) (process : Process) (n : ℕ) → is_system system ≡ true → process_after system [] p ≡ Some (state_of process) → process.read ≡ [] → process.since ≡ (process.small).steps
    → (process.ram).dirty ≡ replicate n false → IsMarked system [] p process
boot_marks system p process n valid there no_read since unmarked =
    let s : ProcState = state_of process in
    let saved : saved_of system [] p ≡ (process.mail).letters = ap (λ (o : Option ProcState). option_map_or (saved_letters [] p) o []) there ∙ append-nil (process.mail).letters in
    let clean : (i : ℕ) → is_dirty process i ≡ false = λ i. ap (λ marks. option_map_or (λ (b : Bool). b) (slice_get marks i) false) unmarked ∙ no_mark n i in
    record {
      since_start = since ∙ sym (ap (λ (o : Option ProcState). option_map_or (λ (s : ProcState). (s.small).steps) o 0) there);
      read = ap rising no_read
          ∙ sym (ap (λ letters. numbers_read (arrived_below (process.mail).next letters) (process.mail).letters) saved ∙ none_read (process.mail).next (process.mail).letters (process.mail).letters (λ a is. is));
      clean = λ i within is.
          ap (λ pages. page_in pages i) (account_there system p s there)
          ∙ page_found (process.ram).bytes (process.small).pages i (process_sized system [] p s valid there) within;
      unsent = λ i within is. absurd (true≢false (sym is ∙ clean i));
    }
