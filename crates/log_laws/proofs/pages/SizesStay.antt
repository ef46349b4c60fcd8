-- Each process has as much memory as its pages have, at boot and after each log, whatever is born.
use Rattle.std.proofs.Common.{◌≡◌, ℕ, ◌*◌, ◌-◌, ◌≤◌, refl, sym, ◌∙◌, ap, subst, arith, List, [], ◌∷◌, ◌++◌, length, true, Bool, false, cond, Option, Some, None, slice_get}
use Rattle.std.specs.Prelude.{replicate, unwrap_or, option_map, option_and_then}
use Rattle.std.specs.List.{list_any}
use Rattle.std.specs.Option.{option_map_or}
use Rattle.std.specs.declared.cmp.Ordering.{Ordering}
use Rattle.std.specs.declared.cmp.Ordering.TheVariants.{Less, Equal, Greater}
use Rattle.std.specs.Ordering.{is_eq}
use Rattle.std.proofs.lemmas.List.{length-append, length-replicate}
use Rattle.std.proofs.lemmas.Option.{same_Some}
use Rattle.t32_base.specs.declared.process.Pid.{Pid}
use Rattle.sys_text.specs.declared.system.System.{System}
use Rattle.sys_text.specs.declared.system.Image.{Image}
use Rattle.sys_text.specs.declared.system.Root.{Root}
use Rattle.sys_text.specs.Valid.{is_system}
use Rattle.sys_text.specs.Boot.{bytes_of_words}
use Rattle.sys_text.proofs.Bounds.{image_bounds}
use Rattle.proc_state.specs.State.{ProcState, delivered, has_ended}
use Rattle.sys_calls.specs.declared.steps.Emission.{Emission}
use Rattle.sys_calls.specs.declared.steps.Emission.TheVariants.{Mail, Exit}
use Rattle.sys_calls.specs.Calls.{Next, Silent, Blocked, Forks, Emits, Over}
use Rattle.sys_calls.specs.Next.{next_step}
use Rattle.sys_calls.specs.Fork.{fork_child, fork_parent}
use Rattle.plain_kernel.specs.Kernel.{Kernel, pid_cmp, process_at, with_process, boot, emitted, no_image, root_process}
use Rattle.plain_kernel.specs.Apply.{after_step, fork_step, one_step, take_step}
use Rattle.plain_kernel.proofs.AtBoot.{boot-each}
use Rattle.plain_kernel.proofs.Forking.{fork_made}
use Rattle.plain_kernel.proofs.Laws.{process_at-with_process}
use Rattle.bus_msg.specs.declared.entry.Entry.{Entry}
use Rattle.cert_sched.specs.Parts.{after_last, upto_last}
use Rattle.cert_sched.specs.Schedule.{plain_after, process_after}
use Rattle.cert_sched.specs.Deeds.{starts, start_of, is_end_of}
use Rattle.cert_sched.specs.Steps.{page_count}
use Rattle.cert_sched.proofs.MailLaws.{received, process_at-emitted}
use Rattle.cert_sched.proofs.StepLaws.{log_keeps_all}
use Rattle.log_laws.proofs.pages.StepSizes.{SameSize, Keeps, next_keeps}
use Rattle.log_laws.proofs.pages.PagesStay.{pages_over}
use Rattle.plain_kernel.proofs.Taking.{take_made}
use Rattle.sys_calls.specs.Take.{taken}
use Rattle.sys_calls.proofs.TakeLaws.{taken_strikes}

-- the memory has its pages, of 256 bytes each
abbrev pub IsSized : ProcState → Type 0
IsSized s = length s.memory ≡ 256 * (s.small).pages

-- ---- at boot

four_each : (words : List ℕ) → length (bytes_of_words words) ≡ 4 * length words
four_each [] = refl
four_each (w ∷ words) = omega (arith, four_each words)

-- an image that fits is filled up
filled : (image : Image) → 4 * length image.words ≤ 256 * image.pages → length (bytes_of_words image.words ++ replicate (256 * image.pages - length (bytes_of_words image.words)) 0) ≡ 256 * image.pages
filled image fits =
    let more = 256 * image.pages - length (bytes_of_words image.words) in
    omega (arith, length-append (bytes_of_words image.words) (replicate more 0), length-replicate {A = ℕ} more 0, four_each image.words, fits)

root_size : (system : System) → is_system system ≡ true → (p : Pid) (r : Root) → IsSized (root_process system p r)
root_size system valid p r = by_image (slice_get system.images r.image) refl
  where
    by_image : (o : Option Image) → slice_get system.images r.image ≡ o
        → length (bytes_of_words (unwrap_or o no_image).words ++ replicate (256 * (unwrap_or o no_image).pages - length (bytes_of_words (unwrap_or o no_image).words)) 0) ≡ 256 * (unwrap_or o no_image).pages
    by_image None is = refl
    by_image (Some image) is = filled image (image_bounds system r.image image valid is).fits

-- ---- in a kernel

-- each process of a kernel is so
AllSized : Kernel → Type 0
AllSized k = (p : Pid) (s : ProcState) → process_at k p ≡ Some s → IsSized s

boot_sized : (system : System) → is_system system ≡ true → AllSized (boot system)
unfolding AllSized
boot_sized system valid = boot-each (λ p s. IsSized s) system (root_size system valid) (λ p s peer far has. has)

put_sized : (k : Kernel) (p : Pid) (t : ProcState) → AllSized k → IsSized t → AllSized (with_process k p t)
unfolding AllSized
put_sized k p t all sized q s there = by_order (pid_cmp q p) (sym (process_at-with_process k p t q) ∙ there)
  where
    by_order : (o : Ordering) → cond (is_eq o) (Some t) (process_at k q) ≡ Some s → IsSized s
    by_order Less e = all q s e
    by_order Equal e = subst (λ (x : ProcState). IsSized x) (same_Some t s e) sized
    by_order Greater e = all q s e

received_sized : (m : Emission) (q : Pid) (s : ProcState) → IsSized s → IsSized (received m q s)
received_sized (Exit end) q s sized = sized
received_sized (Mail letter) q s sized = by_tests (has_ended (s.small).status) (is_end_of q letter.to)
  where
    by_tests : (b c : Bool) → IsSized (cond b s (cond c (delivered s letter) s))
    by_tests true c = sized
    by_tests false true = sized
    by_tests false false = sized

emitted_sized : (k : Kernel) (m : Emission) → AllSized k → AllSized (emitted k m)
unfolding AllSized
emitted_sized k m all q s there = by_process (process_at k q) refl (sym (process_at-emitted k m q) ∙ there)
  where
    by_process : (o : Option ProcState) → process_at k q ≡ o → option_map (received m q) o ≡ Some s → IsSized s
    by_process None here e = cc
    by_process (Some was) here e = subst (λ (x : ProcState). IsSized x) (same_Some (received m q was) s e) (received_sized m q was (all q was here))

one_step-sized : (p : Pid) (k j : Kernel) → AllSized k → one_step p k ≡ Some j → AllSized j
unfolding one_step AllSized
one_step-sized p k j all made = by_process (process_at k p) refl made
  where
    grown : (s t : ProcState) → SameSize s t → IsSized s → IsSized t
    grown s t same sized = same.bytes ∙ sized ∙ ap (λ n. 256 * n) (sym same.pages)

    by_next : (s : ProcState) (next : Next) → process_at k p ≡ Some s → Keeps s next → after_step k p next ≡ Some j → AllSized j
    by_next s (Silent t) there same e = subst AllSized (same_Some (with_process k p t) j e) (put_sized k p t all (grown s t same (all p s there)))
    by_next s (Emits m t) there same e = subst AllSized (same_Some (emitted (with_process k p t) m) j e) (emitted_sized (with_process k p t) m (put_sized k p t all (grown s t same (all p s there))))
    by_next s Blocked there same e = cc
    by_next s Forks there same e = cc
    by_next s Over there same e = cc

    by_process : (o : Option ProcState) → process_at k p ≡ o → option_and_then (λ s. after_step k p (next_step s)) o ≡ Some j → AllSized j
    by_process None there e = cc
    by_process (Some s) there e = by_next s (next_step s) there (next_keeps s) e

-- a child has the memory of its parent
fork_step-sized : (p c : Pid) (k j : Kernel) → AllSized k → fork_step p c k ≡ Some j → AllSized j
unfolding AllSized
fork_step-sized p c k j all made =
    let f = fork_made p c k j made in
    let sized : IsSized f.was = all p f.was f.there in
    subst AllSized f.after (put_sized (with_process k p (fork_parent f.was c)) c (fork_child f.was c) (put_sized k p (fork_parent f.was c) all sized) sized)

-- a take leaves the memory
take_step-sized : (p : Pid) (k j : Kernel) → AllSized k → take_step p k ≡ Some j → AllSized j
unfolding AllSized
take_step-sized p k j all made =
    let t = take_made p k j made in
    let sized : IsSized t.was = all p t.was t.there in
    subst AllSized (sym t.after) (put_sized k p (taken t.was) all (sized ∙ ap (λ n. 256 * n) (sym (taken_strikes t.was t.can).pages)))

-- ---- after a log

-- a process with the kernel where it is
record InKernel (system : System) (log : List Entry) (p : Pid) (s : ProcState) : Type 0 where
  pub kernel : Kernel
  pub is : plain_after system log ≡ Some kernel
  pub there : process_at kernel p ≡ Some s

in_kernel : (system : System) (log : List Entry) (p : Pid) (s : ProcState) → process_after system log p ≡ Some s → InKernel system log p s
in_kernel system log p s there = by_kernel (plain_after system log) refl there
  where
    by_kernel : (o : Option Kernel) → plain_after system log ≡ o → option_and_then (λ k. process_at k p) o ≡ Some s → InKernel system log p s
    by_kernel None is e = cc
    by_kernel (Some k) is e = record { kernel = k; is = is; there = e }

pub process_sized : (system : System) (log : List Entry) (p : Pid) (s : ProcState) → is_system system ≡ true → process_after system log p ≡ Some s → IsSized s
unfolding AllSized
process_sized system log p s valid there =
    let k = in_kernel system log p s there in
    log_keeps_all AllSized one_step-sized fork_step-sized take_step-sized system log k.kernel (boot_sized system valid) k.is p s k.there

-- a log is what stands up to the last entry that passes, and what stands after it
parts : {X : Type 0} (t : X → Bool) (xs : List X) → upto_last t xs ++ after_last t xs ≡ xs
parts t [] = refl
parts t (x ∷ xs) = by_tests (list_any t xs) (t x) (parts t xs)
  where
    by_tests : (a b : Bool) → upto_last t xs ++ after_last t xs ≡ xs → cond a (x ∷ upto_last t xs) (cond b (x ∷ []) []) ++ cond a (after_last t xs) (cond b xs (x ∷ xs)) ≡ x ∷ xs
    by_tests true b more = ap (λ ys. x ∷ ys) more
    by_tests false true more = refl
    by_tests false false more = refl

-- with as many pages as the process has after the log, its start has the memory of so many
pub start_sized : (system : System) (log : List Entry) (p : Pid) (start now : ProcState) → is_system system ≡ true → process_after system log p ≡ Some now → start_of system log p ≡ Some start → length start.memory ≡ 256 * page_count system log p
start_sized system log p start now valid there started =
    let same : (now.small).pages ≡ (start.small).pages = pages_over system (upto_last (starts p) log) (after_last (starts p) log) p start now started (ap (λ l. process_after system l p) (parts (starts p) log) ∙ there) in
    process_sized system (upto_last (starts p) log) p start valid started
    ∙ ap (λ n. 256 * n) (sym same ∙ sym (ap (λ o. option_map_or (λ (s : ProcState). (s.small).pages) o 0) there))
