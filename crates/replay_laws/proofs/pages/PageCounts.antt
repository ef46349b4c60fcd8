-- The number of pages of a process: 1 to 256, as many at its start and after each log, and a child has as many as its parent.
use Rattle.std.proofs.Common.{◌≡◌, ℕ, ◌≤◌, refl, sym, ◌∙◌, ap, subst, arith, List, [], ◌∷◌, ◌++◌, Bool, true, false, cond, Option, Some, None, is_some, slice_get, true≢false}
use Rattle.std.specs.Prelude.{option_and_then, option_map, unwrap_or}
use Rattle.std.specs.Option.{option_map_or}
use Rattle.std.specs.declared.cmp.Ordering.{Ordering}
use Rattle.std.specs.declared.cmp.Ordering.TheVariants.{Less, Equal, Greater}
use Rattle.std.specs.Ordering.{is_eq}
use Rattle.std.proofs.lemmas.Option.{same_Some}
use Rattle.t32_base.specs.declared.process.Pid.{Pid}
use Rattle.t32_base.specs.Small.{SmallState}
use Rattle.sys_text.specs.declared.system.System.{System}
use Rattle.sys_text.specs.declared.system.Image.{Image}
use Rattle.sys_text.specs.declared.system.Root.{Root}
use Rattle.sys_text.specs.Valid.{is_system}
use Rattle.sys_text.proofs.Bounds.{image_bounds}
use Rattle.proc_state.specs.State.{ProcState}
use Rattle.sys_calls.specs.declared.steps.Emission.{Emission}
use Rattle.sys_calls.specs.Calls.{Next, Silent, Blocked, Forks, Emits, Over}
use Rattle.sys_calls.specs.Next.{next_step}
use Rattle.sys_calls.specs.Fork.{fork_child, fork_parent}
use Rattle.plain_kernel.specs.Kernel.{Kernel, boot, no_image, pid_cmp, process_at, root_process, with_process, emitted}
use Rattle.plain_kernel.specs.Apply.{after_step, one_step, fork_step, take_step}
use Rattle.plain_kernel.proofs.AtBoot.{boot-each}
use Rattle.plain_kernel.proofs.Laws.{process_at-with_process}
use Rattle.plain_kernel.proofs.Others.{small_at, small_at-emitted, items_keep}
use Rattle.plain_kernel.proofs.Pids.{tied_pids}
use Rattle.plain_kernel.proofs.Forking.{fork_made}
use Rattle.bus_msg.specs.declared.entry.Entry.{Entry}
use Rattle.bus_msg.specs.PlacedAfter.{what}
use Rattle.cert_sched.specs.Schedule.{items_of, plain_after, process_after}
use Rattle.cert_sched.specs.Deeds.{starts, start_of}
use Rattle.cert_sched.specs.Steps.{page_count}
use Rattle.cert_sched.specs.Legal.{IsLegalBy, Stands}
use Rattle.cert_sched.proofs.Induction.{legal_induction}
use Rattle.cert_sched.proofs.RecordLaws.{start_of-snoc}
use Rattle.cert_sched.proofs.StepLaws.{applied, log_keeps_all}
use Rattle.log_laws.proofs.pages.StepSizes.{Keeps, next_keeps}
use Rattle.plain_kernel.proofs.Taking.{take_made}
use Rattle.sys_calls.specs.Take.{taken}
use Rattle.sys_calls.proofs.TakeLaws.{taken_strikes}

-- ---- how many a process has in a kernel

abbrev pages_in : Option SmallState → Option ℕ
pages_in o = option_map (λ (s : SmallState). s.pages) o

-- a process that is there has so many pages
abbrev HasCount : Pid → ℕ → Kernel → Type 0
HasCount p n k = pages_in (small_at k p) ≡ Some n

-- so it has where a process with as many is put in its place
put_count : (p q : Pid) (n : ℕ) (k : Kernel) (s t : ProcState) → process_at k q ≡ Some s → (t.small).pages ≡ (s.small).pages → HasCount p n k → HasCount p n (with_process k q t)
put_count p q n k s t there same has = ap (λ o. pages_in (option_map (λ (s : ProcState). s.small) o)) (process_at-with_process k q t p) ∙ by_order (pid_cmp p q) refl
  where
    by_order : (o : Ordering) → pid_cmp p q ≡ o → pages_in (option_map (λ (s : ProcState). s.small) (cond (is_eq o) (Some t) (process_at k p))) ≡ Some n
    by_order Less tied = has
    by_order Equal tied = ap Some same ∙ sym (ap (λ o. pages_in (option_map (λ (s : ProcState). s.small) o)) there) ∙ ap (λ r. pages_in (small_at k r)) (sym (tied_pids p q tied)) ∙ has
    by_order Greater tied = has

-- and where one is put that was not there
new_count : (p q : Pid) (n : ℕ) (k : Kernel) (t : ProcState) → process_at k q ≡ None → HasCount p n k → HasCount p n (with_process k q t)
new_count p q n k t absent has = ap (λ o. pages_in (option_map (λ (s : ProcState). s.small) o)) (process_at-with_process k q t p) ∙ by_order (pid_cmp p q) refl
  where
    nothing : pid_cmp p q ≡ Equal → pages_in (small_at k p) ≡ None
    nothing tied = ap (λ r. pages_in (small_at k r)) (tied_pids p q tied) ∙ ap (λ o. pages_in (option_map (λ (s : ProcState). s.small) o)) absent

    by_order : (o : Ordering) → pid_cmp p q ≡ o → pages_in (option_map (λ (s : ProcState). s.small) (cond (is_eq o) (Some t) (process_at k p))) ≡ Some n
    by_order Less tied = has
    by_order Equal tied = absurd (true≢false (ap is_some (sym has ∙ nothing tied)))
    by_order Greater tied = has

emitted_count : (p : Pid) (n : ℕ) (k : Kernel) (m : Emission) → HasCount p n k → HasCount p n (emitted k m)
emitted_count p n k m has = ap pages_in (small_at-emitted k m p) ∙ has

step_count : (p : Pid) (n : ℕ) (q : Pid) (k j : Kernel) → HasCount p n k → one_step q k ≡ Some j → HasCount p n j
unfolding one_step
step_count p n q k j has made = by_process (process_at k q) refl made
  where
    by_next : (s : ProcState) (next : Next) → process_at k q ≡ Some s → Keeps s next → after_step k q next ≡ Some j → HasCount p n j
    by_next s (Silent t) there same e = subst (HasCount p n) (same_Some (with_process k q t) j e) (put_count p q n k s t there same.pages has)
    by_next s (Emits m t) there same e = subst (HasCount p n) (same_Some (emitted (with_process k q t) m) j e) (emitted_count p n (with_process k q t) m (put_count p q n k s t there same.pages has))
    by_next s Blocked there same e = cc
    by_next s Forks there same e = cc
    by_next s Over there same e = cc

    by_process : (o : Option ProcState) → process_at k q ≡ o → option_and_then (λ s. after_step k q (next_step s)) o ≡ Some j → HasCount p n j
    by_process None there e = cc
    by_process (Some s) there e = by_next s (next_step s) there (next_keeps s) e

-- a child that is put beside its parent, which was put
absent_still : (q c : Pid) (k : Kernel) (s t : ProcState) → process_at k q ≡ Some s → process_at k c ≡ None → process_at (with_process k q t) c ≡ None
absent_still q c k s t there absent = process_at-with_process k q t c ∙ by_order (pid_cmp c q) refl
  where
    by_order : (o : Ordering) → pid_cmp c q ≡ o → cond (is_eq o) (Some t) (process_at k c) ≡ None
    by_order Less tied = absent
    by_order Equal tied = absurd (true≢false (ap is_some (sym there ∙ ap (process_at k) (sym (tied_pids c q tied)) ∙ absent)))
    by_order Greater tied = absent

fork_count : (p : Pid) (n : ℕ) (q c : Pid) (k j : Kernel) → HasCount p n k → fork_step q c k ≡ Some j → HasCount p n j
fork_count p n q c k j has made =
    let f = fork_made q c k j made in
    let beside = absent_still q c k f.was (fork_parent f.was c) f.there f.absent in
    subst (HasCount p n) f.after (new_count p c n (with_process k q (fork_parent f.was c)) (fork_child f.was c) beside (put_count p q n k f.was (fork_parent f.was c) f.there refl has))

-- ---- each has 1 to 256

abbrev HasFewPages : ProcState → Type 0
HasFewPages s = (1 ≤ (s.small).pages) × ((s.small).pages ≤ 256)

AllFew : Kernel → Type 0
AllFew k = (p : Pid) (s : ProcState) → process_at k p ≡ Some s → HasFewPages s

root_pages : (system : System) → is_system system ≡ true → (p : Pid) (r : Root) → HasFewPages (root_process system p r)
root_pages system valid p r = by_image (slice_get system.images r.image) refl
  where
    by_image : (o : Option Image) → slice_get system.images r.image ≡ o → (1 ≤ (unwrap_or o no_image).pages) × ((unwrap_or o no_image).pages ≤ 256)
    by_image None is = (omega arith, omega arith)
    by_image (Some image) is = let bounds = image_bounds system r.image image valid is in (bounds.least, bounds.pages)

few_at_boot : (system : System) → is_system system ≡ true → AllFew (boot system)
unfolding AllFew
few_at_boot system valid = boot-each (λ p s. HasFewPages s) system (root_pages system valid) (λ p s peer far has. has)

put_few : (q : Pid) (k : Kernel) (t : ProcState) → AllFew k → HasFewPages t → AllFew (with_process k q t)
unfolding AllFew
put_few q k t all few p s there = by_order (pid_cmp p q) (sym (process_at-with_process k q t p) ∙ there)
  where
    by_order : (o : Ordering) → cond (is_eq o) (Some t) (process_at k p) ≡ Some s → HasFewPages s
    by_order Less e = all p s e
    by_order Equal e = subst HasFewPages (same_Some t s e) few
    by_order Greater e = all p s e

emitted_few : (k : Kernel) (m : Emission) → AllFew k → AllFew (emitted k m)
unfolding AllFew
emitted_few k m all p s there = by_process (process_at k p) refl (sym (ap (option_map (λ (s : ProcState). s.small)) there) ∙ small_at-emitted k m p)
  where
    by_process : (o : Option ProcState) → process_at k p ≡ o → Some s.small ≡ option_map (λ (s : ProcState). s.small) o → HasFewPages s
    by_process None is e = cc
    by_process (Some t) is e = subst (λ (x : SmallState). (1 ≤ x.pages) × (x.pages ≤ 256)) (sym (same_Some s.small t.small e)) (all p t is)

few_as : (s t : ProcState) → (t.small).pages ≡ (s.small).pages → HasFewPages s → HasFewPages t
few_as s t same few = subst (λ n. (1 ≤ n) × (n ≤ 256)) (sym same) few

take_count : (p : Pid) (n : ℕ) (q : Pid) (k j : Kernel) → HasCount p n k → take_step q k ≡ Some j → HasCount p n j
take_count p n q k j has made =
    let t = take_made q k j made in
    subst (HasCount p n) (sym t.after) (put_count p q n k t.was (taken t.was) t.there (taken_strikes t.was t.can).pages has)

step_few : (q : Pid) (k j : Kernel) → AllFew k → one_step q k ≡ Some j → AllFew j
unfolding one_step AllFew
step_few q k j all made = by_process (process_at k q) refl made
  where
    by_next : (s : ProcState) (next : Next) → process_at k q ≡ Some s → Keeps s next → after_step k q next ≡ Some j → AllFew j
    by_next s (Silent t) there same e = subst AllFew (same_Some (with_process k q t) j e) (put_few q k t all (few_as s t same.pages (all q s there)))
    by_next s (Emits m t) there same e = subst AllFew (same_Some (emitted (with_process k q t) m) j e) (emitted_few (with_process k q t) m (put_few q k t all (few_as s t same.pages (all q s there))))
    by_next s Blocked there same e = cc
    by_next s Forks there same e = cc
    by_next s Over there same e = cc

    by_process : (o : Option ProcState) → process_at k q ≡ o → option_and_then (λ s. after_step k q (next_step s)) o ≡ Some j → AllFew j
    by_process None there e = cc
    by_process (Some s) there e = by_next s (next_step s) there (next_keeps s) e

fork_few : (q c : Pid) (k j : Kernel) → AllFew k → fork_step q c k ≡ Some j → AllFew j
unfolding AllFew
fork_few q c k j all made =
    let f = fork_made q c k j made in
    let few = all q f.was f.there in
    subst AllFew f.after (put_few c (with_process k q (fork_parent f.was c)) (fork_child f.was c) (put_few q k (fork_parent f.was c) all few) few)

take_few : (q : Pid) (k j : Kernel) → AllFew k → take_step q k ≡ Some j → AllFew j
unfolding AllFew
take_few q k j all made =
    let t = take_made q k j made in
    subst AllFew (sym t.after) (put_few q k (taken t.was) all (few_as t.was (taken t.was) (taken_strikes t.was t.can).pages (all q t.was t.there)))

-- ---- in a log

-- each process of the kernel after a log has 1 to 256
pub few_pages : (system : System) (log : List Entry) (p : Pid) (s : ProcState) → is_system system ≡ true → process_after system log p ≡ Some s → (1 ≤ (s.small).pages) × ((s.small).pages ≤ 256)
unfolding AllFew
few_pages system log p s valid there = by_kernel (plain_after system log) refl there
  where
    by_kernel : (o : Option Kernel) → plain_after system log ≡ o → option_and_then (λ k. process_at k p) o ≡ Some s → HasFewPages s
    by_kernel None is e = cc
    by_kernel (Some k) is e = log_keeps_all AllFew step_few fork_few take_few system log k (few_at_boot system valid) is p s e

abbrev pages_after : System → List Entry → Pid → Option ℕ
pages_after system log p = option_map (λ (s : ProcState). (s.small).pages) (process_after system log p)

of_small : (o : Option ProcState) → option_map (λ (s : ProcState). (s.small).pages) o ≡ pages_in (option_map (λ (s : ProcState). s.small) o)
of_small None = refl
of_small (Some s) = refl

-- an entry that can be applied leaves the number of pages of a process that is there
count_kept : (system : System) (log : List Entry) (e : Entry) (p : Pid) (n : ℕ) → is_some (plain_after system (log ++ e ∷ [])) ≡ true → pages_after system log p ≡ Some n → pages_after system (log ++ e ∷ []) p ≡ Some n
count_kept system log e p n applies has =
    let a = applied system log e applies in
    ap (λ o. option_map (λ (s : ProcState). (s.small).pages) (option_and_then (λ k. process_at k p) o)) a.after ∙ of_small (process_at a.new p)
    ∙ items_keep (HasCount p n) (step_count p n) (fork_count p n) (take_count p n) (items_of a.old (what e)) a.old a.new
    (sym (ap (λ o. option_map (λ (s : ProcState). (s.small).pages) (option_and_then (λ k. process_at k p) o)) a.before ∙ of_small (process_at a.old p)) ∙ has) a.made

counted : (o : Option ProcState) (n : ℕ) → option_map (λ (s : ProcState). (s.small).pages) o ≡ Some n → option_map_or (λ (s : ProcState). (s.small).pages) o 0 ≡ n
counted None n is = cc
counted (Some s) n is = same_Some (s.small).pages n is

pub count_stays : (system : System) (log : List Entry) (e : Entry) (p : Pid) → is_some (plain_after system (log ++ e ∷ [])) ≡ true → is_some (process_after system log p) ≡ true → page_count system (log ++ e ∷ []) p ≡ page_count system log p
count_stays system log e p applies there = by_process (process_after system log p) refl there
  where
    by_process : (o : Option ProcState) → process_after system log p ≡ o → is_some o ≡ true → page_count system (log ++ e ∷ []) p ≡ page_count system log p
    by_process None is some = absurd (true≢false (sym some))
    by_process (Some s) is some =
        counted (process_after system (log ++ e ∷ []) p) (s.small).pages (count_kept system log e p (s.small).pages applies (ap (option_map (λ (s : ProcState). (s.small).pages)) is))
        ∙ sym (ap (λ o. option_map_or (λ (s : ProcState). (s.small).pages) o 0) is)

-- a process has as many as it had where it started
pub start_count : (system : System) (log : List Entry) (p : Pid) (start : ProcState) → IsLegalBy Stands system log → start_of system log p ≡ Some start → page_count system log p ≡ (start.small).pages
start_count system log p start legal started =
    counted (process_after system log p) (start.small).pages
    (legal_induction Stands system (λ log. (start : ProcState) → start_of system log p ≡ Some start → pages_after system log p ≡ Some (start.small).pages) (λ start started. ap (option_map (λ (s : ProcState). (s.small).pages)) started) more log legal start started)
  where
    more : (log : List Entry) (e : Entry) → ((start : ProcState) → start_of system log p ≡ Some start → pages_after system log p ≡ Some (start.small).pages) → Stands system log e → (start : ProcState) → start_of system (log ++ e ∷ []) p ≡ Some start → pages_after system (log ++ e ∷ []) p ≡ Some (start.small).pages
    more log e before stands start started = by_start (starts p e) (sym (start_of-snoc system log e p) ∙ started)
      where
        by_start : (b : Bool) → cond b (process_after system (log ++ e ∷ []) p) (start_of system log p) ≡ Some start → pages_after system (log ++ e ∷ []) p ≡ Some (start.small).pages
        by_start true there = ap (option_map (λ (s : ProcState). (s.small).pages)) there
        by_start false is = count_kept system log e p (start.small).pages stands.applies (before start is)
