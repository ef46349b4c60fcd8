-- The number of pages of a process stays: no step changes it, and a child has as many as its parent.
use Rattle.std.proofs.Common.{◌≡◌, ℕ, ◌-◌, ◌<◌, ◌≤◌, refl, sym, ◌∙◌, ap, subst, arith, List, [], ◌∷◌, ◌++◌, Bool, true, false, cond, eqb-true, Option, Some, None, is_some, true≢false}
use Rattle.std.specs.Prelude.{fold, option_map, option_and_then, IfSome}
use Rattle.std.specs.Option.{option_map_or}
use Rattle.std.specs.declared.cmp.Ordering.{Ordering}
use Rattle.std.specs.declared.cmp.Ordering.TheVariants.{Less, Equal, Greater}
use Rattle.std.specs.Ordering.{is_eq}
use Rattle.std.proofs.lemmas.List.Sums.{fold-append}
use Rattle.std.proofs.lemmas.Option.{same_Some}
use Rattle.t32_base.specs.declared.process.Pid.{Pid}
use Rattle.t32_base.specs.Small.{SmallState}
use Rattle.sys_text.specs.declared.system.System.{System}
use Rattle.proc_state.specs.State.{ProcState}
use Rattle.sys_calls.specs.Calls.{Next, Silent, Blocked, Forks, Emits, Over}
use Rattle.sys_calls.specs.Next.{next_step}
use Rattle.plain_kernel.specs.Kernel.{Kernel, pid_cmp, process_at, with_process, boot, emitted}
use Rattle.plain_kernel.specs.Apply.{after_step, apply_all, fork_step, one_step, take_step}
use Rattle.plain_kernel.proofs.Forking.{fork_made, fork-child, fork-parent, fork-small}
use Rattle.plain_kernel.proofs.Laws.{process_at-with_process}
use Rattle.plain_kernel.proofs.Others.{items_keep, small_at, small_at-emitted}
use Rattle.plain_kernel.proofs.Pids.{tied_pids}
use Rattle.bus_msg.specs.declared.entry.What.{What}
use Rattle.bus_msg.specs.declared.entry.What.TheVariants.{Birth}
use Rattle.bus_msg.specs.declared.entry.Entry.{Entry}
use Rattle.bus_msg.specs.Places.{same_pid}
use Rattle.bus_msg.specs.PlacedAfter.{what}
use Rattle.cert_sched.specs.Deeds.{is_birth_of}
use Rattle.cert_sched.specs.Schedule.{after_entry, done, items_of, plain_after, process_after, run_upto}
use Rattle.cert_sched.specs.Steps.{page_count}
use Rattle.cert_sched.proofs.BornLaws.{there_not_born}
use Rattle.cert_sched.proofs.MadeLaws.{apart_from}
use Rattle.cert_sched.proofs.RunAndFork.{run_and_fork}
use Rattle.cert_sched.proofs.RunItems.{forkless_keep, items_forkless, run_forkless}
use Rattle.cert_sched.proofs.StepLaws.{Applied, applied, log_keeps_all}
use Rattle.log_laws.proofs.pages.StepSizes.{Keeps, next_keeps}
use Rattle.plain_kernel.proofs.Taking.{take_made}
use Rattle.sys_calls.specs.Take.{taken}
use Rattle.sys_calls.proofs.TakeLaws.{taken_strikes}

-- ---- in a kernel

-- how many pages a process has that is there
abbrev pub pages_at : Kernel → Pid → Option ℕ
pages_at k p = option_map (λ (s : SmallState). s.pages) (small_at k p)

abbrev pages_in : Option ProcState → Option ℕ
pages_in o = option_map (λ (s : SmallState). s.pages) (option_map (λ (s : ProcState). s.small) o)

HasPages : (Pid → Option ℕ) → Kernel → Type 0
HasPages f k = (p : Pid) → pages_at k p ≡ f p

put_pages : (f : Pid → Option ℕ) (k : Kernel) (p : Pid) (s t : ProcState) → HasPages f k → process_at k p ≡ Some s → (t.small).pages ≡ (s.small).pages → HasPages f (with_process k p t)
unfolding HasPages
put_pages f k p s t has there same q = ap pages_in (process_at-with_process k p t q) ∙ by_order (pid_cmp q p) refl
  where
    by_order : (o : Ordering) → pid_cmp q p ≡ o → pages_in (cond (is_eq o) (Some t) (process_at k q)) ≡ f q
    by_order Less tied = has q
    by_order Equal tied = ap Some same ∙ sym (ap pages_in there) ∙ has p ∙ sym (ap f (tied_pids q p tied))
    by_order Greater tied = has q

step_pages : (f : Pid → Option ℕ) (p : Pid) (k j : Kernel) → HasPages f k → one_step p k ≡ Some j → HasPages f j
unfolding one_step HasPages
step_pages f p k j has made = by_process (process_at k p) refl made
  where
    by_next : (s : ProcState) (next : Next) → process_at k p ≡ Some s → Keeps s next → after_step k p next ≡ Some j → HasPages f j
    by_next s (Silent t) there same e = subst (HasPages f) (same_Some (with_process k p t) j e) (put_pages f k p s t has there same.pages)
    by_next s (Emits m t) there same e =
        subst (HasPages f) (same_Some (emitted (with_process k p t) m) j e)
        (λ q. ap (option_map (λ (s : SmallState). s.pages)) (small_at-emitted (with_process k p t) m q) ∙ put_pages f k p s t has there same.pages q)
    by_next s Blocked there same e = cc
    by_next s Forks there same e = cc
    by_next s Over there same e = cc

    by_process : (o : Option ProcState) → process_at k p ≡ o → option_and_then (λ s. after_step k p (next_step s)) o ≡ Some j → HasPages f j
    by_process None there e = cc
    by_process (Some s) there e = by_next s (next_step s) there (next_keeps s) e

-- a step changes the number of no process
pub one_step-pages : (q p : Pid) (k j : Kernel) → one_step q k ≡ Some j → pages_at j p ≡ pages_at k p
unfolding HasPages
one_step-pages q p k j made = step_pages (pages_at k) q k j (λ r. refl) made p

-- nor does a take
pub take_step-pages : (q p : Pid) (k j : Kernel) → take_step q k ≡ Some j → pages_at j p ≡ pages_at k p
unfolding HasPages
take_step-pages q p k j made =
    let t = take_made q k j made in
    ap (λ i. pages_at i p) t.after ∙ put_pages (pages_at k) k q t.was (taken t.was) (λ r. refl) t.there (taken_strikes t.was t.can).pages p

-- a fork that of no process but the child
pub fork_step-pages : (q c p : Pid) (k j : Kernel) → fork_step q c k ≡ Some j → same_pid c p ≡ false → pages_at j p ≡ pages_at k p
fork_step-pages q c p k j made other = by_pid (same_pid q p) refl
  where
    parent : pages_at j q ≡ pages_at k q
    parent = let f = fork_made q c k j made in ap pages_in (fork-parent q c k j f) ∙ sym (ap pages_in f.there)

    by_pid : (b : Bool) → same_pid q p ≡ b → pages_at j p ≡ pages_at k p
    by_pid true is =
        let here : q ≡ p = λ i. record { 0 = eqb-true q.0 p.0 is i } in
        subst (λ r. pages_at j r ≡ pages_at k r) here parent
    by_pid false is = ap (option_map (λ (s : SmallState). s.pages)) (fork-small q c k j (fork_made q c k j made) p (apart_from q p is) (apart_from c p other))

-- which has as many as its parent
pub fork_step-pages_child : (q c : Pid) (k j : Kernel) → fork_step q c k ≡ Some j → pages_at j c ≡ pages_at k q
fork_step-pages_child q c k j made = let f = fork_made q c k j made in ap pages_in (fork-child q c k j f) ∙ sym (ap pages_in f.there)

-- so a process that is there keeps its number, whatever forks
fork_keeps : (p : Pid) (n : ℕ) (q c : Pid) (k j : Kernel) → pages_at k p ≡ Some n → fork_step q c k ≡ Some j → pages_at j p ≡ Some n
fork_keeps p n q c k j has made = by_pid (same_pid c p) refl
  where
    by_pid : (b : Bool) → same_pid c p ≡ b → pages_at j p ≡ Some n
    by_pid true is =
        let here : c ≡ p = λ i. record { 0 = eqb-true c.0 p.0 is i } in
        absurd (true≢false (ap is_some (sym has ∙ ap (pages_at k) (sym here) ∙ ap pages_in (fork_made q c k j made).absent)))
    by_pid false is = fork_step-pages q c p k j made is ∙ has

step_keeps : (p : Pid) (n : ℕ) (q : Pid) (k j : Kernel) → pages_at k p ≡ Some n → one_step q k ≡ Some j → pages_at j p ≡ Some n
step_keeps p n q k j has made = one_step-pages q p k j made ∙ has

take_keeps : (p : Pid) (n : ℕ) (q : Pid) (k j : Kernel) → pages_at k p ≡ Some n → take_step q k ≡ Some j → pages_at j p ≡ Some n
take_keeps p n q k j has made = take_step-pages q p k j made ∙ has

-- ---- what holds of the number of each process

-- each process of a kernel has a number of pages of this kind
abbrev pub EachPages : (ℕ → Type 0) → Kernel → Type 0
EachPages Q k = (p : Pid) (n : ℕ) → pages_at k p ≡ Some n → Q n

fork_each : (Q : ℕ → Type 0) (q c : Pid) (k j : Kernel) → EachPages Q k → fork_step q c k ≡ Some j → EachPages Q j
fork_each Q q c k j each made p n is = by_pid (same_pid c p) refl
  where
    by_pid : (b : Bool) → same_pid c p ≡ b → Q n
    by_pid true same =
        let here : c ≡ p = λ i. record { 0 = eqb-true c.0 p.0 same i } in
        each q n (sym (fork_step-pages_child q c k j made) ∙ ap (pages_at j) here ∙ is)
    by_pid false other = each p n (sym (fork_step-pages q c p k j made other) ∙ is)

-- what holds of each at boot holds of each after a log
pub each_pages : (Q : ℕ → Type 0) (system : System) (log : List Entry) (k : Kernel) → EachPages Q (boot system) → plain_after system log ≡ Some k → EachPages Q k
each_pages Q system log k start is = log_keeps_all (EachPages Q) (λ q k j each made p n at. each p n (sym (one_step-pages q p k j made) ∙ at)) (fork_each Q) (λ q k j each made p n at. each p n (sym (take_step-pages q p k j made) ∙ at)) system log k start is

-- ---- after a log

counted : (o : Option ProcState) → option_map_or (λ (s : ProcState). (s.small).pages) o 0 ≡ option_map_or (λ (n : ℕ). n) (pages_in o) 0
counted None = refl
counted (Some s) = refl

pub page_count-kernel : (system : System) (log : List Entry) (k : Kernel) (p : Pid) → plain_after system log ≡ Some k → page_count system log p ≡ option_map_or (λ (n : ℕ). n) (pages_at k p) 0
page_count-kernel system log k p is = ap (λ o. option_map_or (λ (s : ProcState). (s.small).pages) (option_and_then (λ k. process_at k p) o) 0) is ∙ counted (process_at k p)

-- no process has more than the most of those at boot
pub page_count-most : (system : System) (log : List Entry) (p : Pid) (most : ℕ) → EachPages (λ n. n ≤ most) (boot system) → page_count system log p ≤ most
page_count-most system log p most each = by_kernel (plain_after system log) refl
  where
    by_pages : (o : Option ℕ) → ((n : ℕ) → o ≡ Some n → n ≤ most) → option_map_or (λ (n : ℕ). n) o 0 ≤ most
    by_pages None within = omega arith
    by_pages (Some n) within = within n refl

    by_kernel : (o : Option Kernel) → plain_after system log ≡ o → page_count system log p ≤ most
    by_kernel None is =
        let none : page_count system log p ≡ 0 = ap (λ o. option_map_or (λ (s : ProcState). (s.small).pages) (option_and_then (λ k. process_at k p) o) 0) is in
        omega (arith, none)
    by_kernel (Some k) is = subst (λ n. n ≤ most) (sym (page_count-kernel system log k p is)) (by_pages (pages_at k p) (each_pages (λ n. n ≤ most) system log k each is p))

-- ---- one more entry

-- its items leave the number of each process that is not born by it
entry_pages : (system : System) (log : List Entry) (e : Entry) (a : Applied system log e) (p : Pid) → is_birth_of p (what e) ≡ false → pages_at a.new p ≡ pages_at a.old p
entry_pages system log e a p other = by_what (what e) a.made other
  where
    kept : (q : Pid) (k j : Kernel) → pages_at k p ≡ pages_at a.old p → one_step q k ≡ Some j → pages_at j p ≡ pages_at a.old p
    kept q k j has made = one_step-pages q p k j made ∙ has

    taken_kept : (q : Pid) (k j : Kernel) → pages_at k p ≡ pages_at a.old p → take_step q k ≡ Some j → pages_at j p ≡ pages_at a.old p
    taken_kept q k j has made = take_step-pages q p k j made ∙ has

    by_what : (w : What) → apply_all (items_of a.old w) a.old ≡ Some a.new → is_birth_of p w ≡ false → pages_at a.new p ≡ pages_at a.old p
    by_what (Birth parent at child end) made other =
        let r = run_and_fork (run_upto a.old parent (at - 1)) parent child a.old a.new made in
        fork_step-pages parent child p r.to a.new r.forks other
        ∙ forkless_keep (λ k. pages_at k p ≡ pages_at a.old p) kept taken_kept (run_upto a.old parent (at - 1)) a.old r.to (run_forkless parent (at - 1 - done a.old parent)) refl r.ran
    by_what w made other = forkless_keep (λ k. pages_at k p ≡ pages_at a.old p) kept taken_kept (items_of a.old w) a.old a.new (items_forkless a.old w refl) refl made

-- after an entry that can be applied each process that it does not bear has as many pages as before it
pub page_count-snoc : (system : System) (log : List Entry) (e : Entry) (p : Pid) → is_birth_of p (what e) ≡ false → is_some (plain_after system (log ++ e ∷ [])) ≡ true → page_count system (log ++ e ∷ []) p ≡ page_count system log p
page_count-snoc system log e p other applies =
    let a = applied system log e applies in
    page_count-kernel system (log ++ e ∷ []) a.new p a.after ∙ ap (λ o. option_map_or (λ (n : ℕ). n) o 0) (entry_pages system log e a p other) ∙ sym (page_count-kernel system log a.old p a.before)

-- a process that was there is not born by it
pub page_count-stays : (system : System) (log : List Entry) (e : Entry) (p : Pid) → is_some (process_after system log p) ≡ true → is_some (plain_after system (log ++ e ∷ [])) ≡ true → page_count system (log ++ e ∷ []) p ≡ page_count system log p
page_count-stays system log e p there applies = by_process (process_after system log p) refl there
  where
    by_process : (o : Option ProcState) → process_after system log p ≡ o → is_some o ≡ true → page_count system (log ++ e ∷ []) p ≡ page_count system log p
    by_process None here some = absurd (true≢false (sym some))
    by_process (Some was) here some = page_count-snoc system log e p (there_not_born system log e p was applies here) applies

-- one that has a page is there
pub paged_there : (system : System) (log : List Entry) (p : Pid) (i : ℕ) → i < page_count system log p → is_some (process_after system log p) ≡ true
paged_there system log p i within = by_process (process_after system log p) within
  where
    by_process : (o : Option ProcState) → i < option_map_or (λ (s : ProcState). (s.small).pages) o 0 → is_some o ≡ true
    by_process None below = absurd (omega (arith, below))
    by_process (Some s) below = refl

-- so a page of a process is one of it still
pub page_count-within : (system : System) (log : List Entry) (e : Entry) (p : Pid) (i : ℕ) → i < page_count system log p → is_some (plain_after system (log ++ e ∷ [])) ≡ true → i < page_count system (log ++ e ∷ []) p
page_count-within system log e p i within applies = subst (λ n. i < n) (sym (page_count-stays system log e p (paged_there system log p i within) applies)) within

-- no entry makes the number less
pub page_count-rises : (system : System) (log : List Entry) (e : Entry) (p : Pid) → is_some (plain_after system (log ++ e ∷ [])) ≡ true → page_count system log p ≤ page_count system (log ++ e ∷ []) p
page_count-rises system log e p applies = by_process (process_after system log p) refl
  where
    by_process : (o : Option ProcState) → process_after system log p ≡ o → page_count system log p ≤ page_count system (log ++ e ∷ []) p
    by_process None here = let none : page_count system log p ≡ 0 = ap (λ o. option_map_or (λ (s : ProcState). (s.small).pages) o 0) here in omega (arith, none)
    by_process (Some was) here = let same = page_count-stays system log e p (ap is_some here) applies in omega (arith, same)

same_there : (o : Option ProcState) → is_some o ≡ is_some (pages_in o)
same_there None = refl
same_there (Some s) = refl

-- a process that was there is there still
pub there_stays : (system : System) (log : List Entry) (e : Entry) (p : Pid) → is_some (process_after system log p) ≡ true → is_some (plain_after system (log ++ e ∷ [])) ≡ true → is_some (process_after system (log ++ e ∷ []) p) ≡ true
there_stays system log e p there applies = by_process (process_after system log p) refl there
  where
    a : Applied system log e
    a = applied system log e applies

    by_process : (o : Option ProcState) → process_after system log p ≡ o → is_some o ≡ true → is_some (process_after system (log ++ e ∷ []) p) ≡ true
    by_process None here some = absurd (true≢false (sym some))
    by_process (Some was) here some =
        ap (λ o. is_some (option_and_then (λ k. process_at k p) o)) a.after ∙ same_there (process_at a.new p)
        ∙ ap is_some (entry_pages system log e a p (there_not_born system log e p was applies here))
        ∙ sym (same_there (process_at a.old p)) ∙ sym (ap (λ o. is_some (option_and_then (λ k. process_at k p) o)) a.before) ∙ there

-- a child has as many pages as its parent
pub page_count-child : (system : System) (log : List Entry) (e : Entry) (parent : Pid) (at : ℕ) (child : Pid) (end : ℕ) → what e ≡ Birth parent at child end → is_some (plain_after system (log ++ e ∷ [])) ≡ true
    → page_count system (log ++ e ∷ []) child ≡ page_count system log parent
page_count-child system log e parent at child end is applies =
    let a = applied system log e applies in
    let run = run_upto a.old parent (at - 1) in
    let r = run_and_fork run parent child a.old a.new (ap (λ w. apply_all (items_of a.old w) a.old) (sym is) ∙ a.made) in
    let ran : pages_at r.to parent ≡ pages_at a.old parent = forkless_keep (λ k. pages_at k parent ≡ pages_at a.old parent) (λ q k j has made. one_step-pages q parent k j made ∙ has) (λ q k j has made. take_step-pages q parent k j made ∙ has) run a.old r.to (run_forkless parent (at - 1 - done a.old parent)) refl r.ran in
    page_count-kernel system (log ++ e ∷ []) a.new child a.after ∙ ap (λ o. option_map_or (λ (n : ℕ). n) o 0) (fork_step-pages_child parent child r.to a.new r.forks ∙ ran) ∙ sym (page_count-kernel system log a.old parent a.before)

-- ---- several more

rest_keeps : (p : Pid) (n : ℕ) (o : Option Kernel) (rest : List Entry) → IfSome o (λ (k : Kernel). pages_at k p ≡ Some n) → IfSome (fold after_entry o rest) (λ (k : Kernel). pages_at k p ≡ Some n)
rest_keeps p n o [] has = has
rest_keeps p n o (e ∷ rest) has = rest_keeps p n (after_entry o e) rest (one_more o has)
  where
    by_items : (k : Kernel) (r : Option Kernel) → apply_all (items_of k (what e)) k ≡ r → pages_at k p ≡ Some n → IfSome r (λ (k : Kernel). pages_at k p ≡ Some n)
    by_items k None is has = tt
    by_items k (Some j) is has = items_keep (λ k. pages_at k p ≡ Some n) (step_keeps p n) (fork_keeps p n) (take_keeps p n) (items_of k (what e)) k j has is

    one_more : (o : Option Kernel) → IfSome o (λ (k : Kernel). pages_at k p ≡ Some n) → IfSome (after_entry o e) (λ (k : Kernel). pages_at k p ≡ Some n)
    one_more None has = tt
    one_more (Some k) has = by_items k (apply_all (items_of k (what e)) k) refl has

-- a process that is there has as many pages where the log goes on
pub pages_over : (system : System) (log rest : List Entry) (p : Pid) (s t : ProcState) → process_after system log p ≡ Some s → process_after system (log ++ rest) p ≡ Some t → (t.small).pages ≡ (s.small).pages
unfolding plain_after
pages_over system log rest p s t first last =
    by_last (fold after_entry (Some (boot system)) (log ++ rest)) last
    (subst (λ o. IfSome o (λ (k : Kernel). pages_at k p ≡ Some (s.small).pages)) (sym (fold-append after_entry (Some (boot system)) log rest)) (rest_keeps p (s.small).pages (fold after_entry (Some (boot system)) log) rest (by_first (fold after_entry (Some (boot system)) log) first)))
  where
    by_first : (o : Option Kernel) → option_and_then (λ k. process_at k p) o ≡ Some s → IfSome o (λ (k : Kernel). pages_at k p ≡ Some (s.small).pages)
    by_first None is = tt
    by_first (Some k) is = ap pages_in is

    by_last : (o : Option Kernel) → option_and_then (λ k. process_at k p) o ≡ Some t → IfSome o (λ (k : Kernel). pages_at k p ≡ Some (s.small).pages) → (t.small).pages ≡ (s.small).pages
    by_last None is has = cc
    by_last (Some k) is has = same_Some (t.small).pages (s.small).pages (sym (ap pages_in is) ∙ has)
