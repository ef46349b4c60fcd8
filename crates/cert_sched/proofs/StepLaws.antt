-- What one more entry does to the count of each process, and what a step that sends something leaves.
use Rattle.std.proofs.Common.{◌≡◌, ℕ, ◌+◌, ◌-◌, ◌<◌, refl, sym, ◌∙◌, ap, subst, arith, List, [], ◌∷◌, ◌++◌, Bool, true, false, cond, eqb, Option, Some, None, is_some, true≢false, append-nil, ne_eqb, eqb-true, eq-eqb}
use Rattle.std.specs.Prelude.{max, ◌≢◌, fold, IfSome, option_and_then, option_map}
use Rattle.std.specs.Option.{option_map_or}
use Rattle.std.proofs.lemmas.Option.{same_Some}
use Rattle.t32_base.specs.declared.process.Pid.{Pid}
use Rattle.t32_base.specs.declared.letter.Letter.{Letter}
use Rattle.sys_text.specs.declared.system.System.{System}
use Rattle.proc_state.specs.State.{ProcState}
use Rattle.sys_calls.specs.declared.steps.Emission.{Emission}
use Rattle.sys_calls.specs.declared.steps.Emission.TheVariants.{Mail as Sent, Exit as Ended}
use Rattle.sys_calls.specs.Next.{silently, last_emission}
use Rattle.sys_calls.proofs.Counting.{last_letter_is_own}
use Rattle.plain_kernel.specs.declared.item.Item.{Item}
use Rattle.plain_kernel.specs.declared.item.Item.TheVariants.{Run, Fork, Take}
use Rattle.plain_kernel.specs.Kernel.{Kernel, boot, process_at, with_process, emitted}
use Rattle.plain_kernel.specs.Apply.{one_step, steps, fork_step, apply_all, take_step}
use Rattle.plain_kernel.proofs.Laws.{apply_all-append, process_at-same}
use Rattle.plain_kernel.proofs.Forking.{fork_made, fork-steps_parent}
use Rattle.plain_kernel.proofs.ForkPids.{fork_step-own, fork_step-rising}
use Rattle.plain_kernel.proofs.AtBoot.{boot-own, boot-pids, boot-steps}
use Rattle.plain_kernel.proofs.Others.{small_at, steps-here, steps-other, steps-small, steps-sent, is_outward, process_at-outward, process_at-other, items_keep, silently-made, silently-here, silently-other}
use Rattle.plain_kernel.proofs.Pids.{HasOwnPids, IsRising, one_step-own, one_step-pids, pids_in}
use Rattle.bus_msg.specs.declared.entry.What.{What}
use Rattle.bus_msg.specs.declared.entry.What.TheVariants.{Mail, Birth, Exit, Sync, Rebackup, Done}
use Rattle.bus_msg.specs.declared.entry.Entry.{Entry}
use Rattle.bus_msg.specs.Places.{same_pid}
use Rattle.bus_msg.specs.PlacedAfter.{what}
use Rattle.cert_sched.specs.Schedule.{done, run_of, run_upto, steps_in, items_of, after_entry, plain_after, process_after, done_after}
use Rattle.cert_sched.specs.Steps.{silent_upto, emission_at}
use Rattle.cert_sched.specs.Kinds.{IsSent, KindHolds}
use Rattle.cert_sched.specs.Scripted.{is_done}
use Rattle.cert_sched.specs.CertAfter.{count_in, raised_at}
use Rattle.cert_sched.proofs.LogLaws.{plain_after-snoc}
use Rattle.cert_sched.proofs.RunAndFork.{fork_beside, run_and_fork}
use Rattle.plain_kernel.proofs.Taking.{TakesAt, take_made}
use Rattle.plain_kernel.proofs.TakePids.{take_step-own, take_step-rising}
use Rattle.sys_calls.specs.Take.{taken}
use Rattle.sys_calls.proofs.TakeLaws.{taken_strikes}

-- ---- the run of one process

-- a run is so many steps, none where it is no item
pub apply_run : (p : Pid) (n : ℕ) (k : Kernel) → apply_all (run_of p n) k ≡ steps n p k
unfolding steps
apply_run p n k = by_test (eqb n 0) refl
  where
    whole : (o : Option Kernel) → option_and_then (λ j. Some j) o ≡ o
    whole None = refl
    whole (Some j) = refl

    by_test : (b : Bool) → eqb n 0 ≡ b → apply_all (cond b [] (Run p n ∷ [])) k ≡ steps n p k
    by_test true is = ap (λ m. steps m p k) (sym (eqb-true n 0 is))
    by_test false is = ap (λ b. option_and_then (λ j. Some j) (cond b None (steps n p k))) is ∙ whole (steps n p k)

run_made : (p : Pid) (at : ℕ) (k j : Kernel) → apply_all (run_upto k p at) k ≡ Some j → steps (at - done k p) p k ≡ Some j
run_made p at k j made = sym (apply_run p (at - done k p) k) ∙ made

-- after the run of a process up to a step count it has that count, or the greater one that it had
pub run_upto-here : (p : Pid) (at : ℕ) (k j : Kernel) → apply_all (run_upto k p at) k ≡ Some j → done j p ≡ max at (done k p)
run_upto-here p at k j made = let more : done j p ≡ done k p + (at - done k p) = steps-here (at - done k p) p k j (run_made p at k j made) in omega (arith, more)

-- every other process has its count, and is the same but for its mailbox
pub run_upto-other : (p : Pid) (at : ℕ) (k j : Kernel) (q : Pid) → apply_all (run_upto k p at) k ≡ Some j → q.0 ≢ p.0 → done j q ≡ done k q
run_upto-other p at k j q made apart = steps-other (at - done k p) p k j q (run_made p at k j made) apart

pub run_upto-small : (p : Pid) (at : ℕ) (k j : Kernel) (q : Pid) → apply_all (run_upto k p at) k ≡ Some j → q.0 ≢ p.0 → small_at j q ≡ small_at k q
run_upto-small p at k j q made apart = steps-small (at - done k p) p k j q (run_made p at k j made) apart

-- the counts after such a run
run_upto-counts : (p : Pid) (at : ℕ) (k j : Kernel) (q : Pid) → apply_all (run_upto k p at) k ≡ Some j → done j q ≡ raised_at (Some (p, at)) (done k) q
run_upto-counts p at k j q made = by_pid (same_pid q p) refl
  where
    same : q.0 ≡ p.0 → q ≡ p
    same e i = record { 0 = e i }

    by_pid : (b : Bool) → same_pid q p ≡ b → done j q ≡ cond b (max at (done k p)) (done k q)
    by_pid true is = ap (done j) (same (eqb-true q.0 p.0 is)) ∙ run_upto-here p at k j made
    by_pid false is = run_upto-other p at k j q made (λ e. true≢false (sym (eq-eqb q.0 p.0 e) ∙ is))

-- ---- one more entry

-- an entry whose items can be applied, with the kernels before and after it
pub record Applied (system : System) (log : List Entry) (e : Entry) : Type 0 where
  pub old : Kernel
  pub new : Kernel
  pub before : plain_after system log ≡ Some old
  pub after : plain_after system (log ++ e ∷ []) ≡ Some new
  pub made : apply_all (items_of old (what e)) old ≡ Some new

pub applied : (system : System) (log : List Entry) (e : Entry) → is_some (plain_after system (log ++ e ∷ [])) ≡ true → Applied system log e
applied system log e can = by_old (plain_after system log) refl (ap is_some (sym (plain_after-snoc system log e)) ∙ can)
  where
    by_new : (k : Kernel) (o : Option Kernel) → plain_after system log ≡ Some k → apply_all (items_of k (what e)) k ≡ o → is_some o ≡ true → Applied system log e
    by_new k None old new there = absurd (true≢false (sym there))
    by_new k (Some j) old new there = record { old = k; new = j; before = old; after = plain_after-snoc system log e ∙ ap (λ o. after_entry o e) old ∙ new; made = new }

    by_old : (o : Option Kernel) → plain_after system log ≡ o → is_some (after_entry o e) ≡ true → Applied system log e
    by_old None old there = absurd (true≢false (sym there))
    by_old (Some k) old there = by_new k (apply_all (items_of k (what e)) k) old refl there

-- the counts are those of the kernel
pub done_kernel : (system : System) (log : List Entry) (k : Kernel) (p : Pid) → plain_after system log ≡ Some k → done_after system log p ≡ done k p
done_kernel system log k p is = ap (λ o. option_map_or (λ k. done k p) o 0) is

-- a run, and then a take
record RunAndTake (run : List Item) (p : Pid) (k j : Kernel) : Type 0 where
  pub to : Kernel
  pub ran : apply_all run k ≡ Some to
  pub takes : take_step p to ≡ Some j

run_and_take : (run : List Item) (p : Pid) (k j : Kernel) → apply_all (run ++ Take p ∷ []) k ≡ Some j → RunAndTake run p k j
run_and_take run p k j made = by_run (apply_all run k) refl (sym (apply_all-append run (Take p ∷ []) k) ∙ made)
  where
    whole : (o : Option Kernel) → option_and_then (λ j. Some j) o ≡ o
    whole None = refl
    whole (Some j) = refl

    by_run : (o : Option Kernel) → apply_all run k ≡ o → option_and_then (apply_all (Take p ∷ [])) o ≡ Some j → RunAndTake run p k j
    by_run None is e = cc
    by_run (Some i) is e = record { to = i; ran = is; takes = sym (whole (take_step p i)) ∙ e }

-- a take is no step: each process has the count that it had
take_here : (p : Pid) (k j : Kernel) → TakesAt p k j → done j p ≡ done k p
take_here p k j t =
    ap (λ i. done i p) t.after ∙ ap (λ o. option_map_or (λ (s : ProcState). (s.small).steps) o 0) (process_at-same k p (taken t.was)) ∙ (taken_strikes t.was t.can).steps
    ∙ sym (ap (λ o. option_map_or (λ (s : ProcState). (s.small).steps) o 0) t.there)

pub take_counts : (p : Pid) (k j : Kernel) (q : Pid) → take_step p k ≡ Some j → done j q ≡ done k q
take_counts p k j q made = by_pid (same_pid q p) refl
  where
    t : TakesAt p k j
    t = take_made p k j made

    by_pid : (b : Bool) → same_pid q p ≡ b → done j q ≡ done k q
    by_pid true is = let same : q ≡ p = λ i. record { 0 = eqb-true q.0 p.0 is i } in ap (done j) same ∙ take_here p k j t ∙ sym (ap (done k) same)
    by_pid false is =
        ap (λ i. done i q) t.after ∙ ap (λ o. option_map_or (λ (s : ProcState). (s.small).steps) o 0) (process_at-other k p (taken t.was) q (λ e. true≢false (sym (eq-eqb q.0 p.0 e) ∙ is)))

-- a birth tells of a step that its parent has not made; of every other kind nothing is asked
abbrev pub IsLater : (Pid → ℕ) → What → Type 0
IsLater counts (Birth parent at child end) = counts parent < at
IsLater counts _ = Unit {0}

-- after a run and a fork the parent has the count of the fork, where it had a lower one, and every other process its own
birth_here : (parent : Pid) (at : ℕ) (child : Pid) (k j : Kernel) → done k parent < at → apply_all (run_upto k parent (at - 1) ++ Fork parent child ∷ []) k ≡ Some j → done j parent ≡ max at (done k parent)
birth_here parent at child k j later made =
    let r = run_and_fork (run_upto k parent (at - 1)) parent child k j made in
    let ran : done r.to parent ≡ max (at - 1) (done k parent) = run_upto-here parent (at - 1) k r.to r.ran in
    let forked : done j parent ≡ done r.to parent + 1 = fork-steps_parent parent child r.to j (fork_made parent child r.to j r.forks) in
    omega (arith, later, ran, forked)

birth_other : (parent : Pid) (at : ℕ) (child : Pid) (k j : Kernel) (q : Pid) → q.0 ≢ parent.0 → apply_all (run_upto k parent (at - 1) ++ Fork parent child ∷ []) k ≡ Some j → done j q ≡ done k q
birth_other parent at child k j q apart made =
    let r = run_and_fork (run_upto k parent (at - 1)) parent child k j made in
    fork_beside parent child r.to j q r.forks apart ∙ run_upto-other parent (at - 1) k r.to q r.ran apart

birth_counts : (parent : Pid) (at : ℕ) (child : Pid) (k j : Kernel) (q : Pid) → done k parent < at → apply_all (run_upto k parent (at - 1) ++ Fork parent child ∷ []) k ≡ Some j → done j q ≡ raised_at (Some (parent, at)) (done k) q
birth_counts parent at child k j q later made = by_pid (same_pid q parent) refl
  where
    by_pid : (b : Bool) → same_pid q parent ≡ b → done j q ≡ cond b (max at (done k parent)) (done k q)
    by_pid true is = let same : q ≡ parent = λ i. record { 0 = eqb-true q.0 parent.0 is i } in ap (done j) same ∙ birth_here parent at child k j later made
    by_pid false is = birth_other parent at child k j q (λ e. true≢false (sym (eq-eqb q.0 parent.0 e) ∙ is)) made

-- the counts after the items of an entry, of every kind but Done
counts_after : (w : What) (k j : Kernel) (q : Pid) → is_done w ≡ false → IsLater (done k) w → apply_all (items_of k w) k ≡ Some j → done j q ≡ raised_at (count_in w) (done k) q
counts_after (Mail at letter) k j q other later made = run_upto-counts letter.from at k j q made
counts_after (Birth parent at child end) k j q other later made = birth_counts parent at child k j q later made
counts_after (Exit pid at end) k j q other later made = run_upto-counts pid at k j q made
counts_after (Sync pid small read None) k j q other later made = run_upto-counts pid small.steps k j q (ap (λ is. apply_all is k) (sym (append-nil (run_upto k pid small.steps))) ∙ made)
counts_after (Sync pid small read (Some g)) k j q other later made =
    let r = run_and_take (run_upto k pid small.steps) pid k j made in
    take_counts pid r.to j q r.takes ∙ run_upto-counts pid small.steps k r.to q r.ran
counts_after (Rebackup to true []) k j q other later made = ap (λ i. done i q) (sym (same_Some k j made))
counts_after (Rebackup to true (r ∷ rs)) k j q other later made = run_upto-counts r.pid (steps_in r.state) k j q made
counts_after (Done rests) k j q other later made = absurd (true≢false other)
counts_after _ k j q other later made = ap (λ i. done i q) (sym (same_Some k j made))

pub raised_same : (o : Option (Pid × ℕ)) (f g : Pid → ℕ) (q : Pid) → ((p : Pid) → f p ≡ g p) → raised_at o f q ≡ raised_at o g q
raised_same o f g q same = ap (λ h. raised_at o h q) (λ i p. same p i)

-- where an entry stands it is later so
pub kind_later : (system : System) (log : List Entry) (e : Entry) (w : What) → KindHolds system log e w → IsLater (done_after system log) w
kind_later system log e (Birth parent at child end) kind = kind.later
kind_later system log e _ kind = tt

-- the count of a process after an entry of every kind but Done, where a birth is later than the steps of its parent: the process that the entry tells of has the greater of that count and its old one, and every other its old one
pub done_after-raised : (system : System) (log : List Entry) (e : Entry) (q : Pid) → is_done (what e) ≡ false → IsLater (done_after system log) (what e) → is_some (plain_after system (log ++ e ∷ [])) ≡ true
    → done_after system (log ++ e ∷ []) q ≡ raised_at (count_in (what e)) (done_after system log) q
done_after-raised system log e q other later can =
    let a = applied system log e can in
    let counts : done_after system log ≡ done a.old = λ i p. done_kernel system log a.old p a.before i in
    done_kernel system (log ++ e ∷ []) a.new q a.after ∙ counts_after (what e) a.old a.new q other (subst (λ f. IsLater f (what e)) counts later) a.made
    ∙ raised_same (count_in (what e)) (done a.old) (done_after system log) q (λ p. sym (done_kernel system log a.old p a.before))

same_here : (p : Pid) (x y : ℕ) → cond (same_pid p p) x y ≡ x
same_here p x y = ap (λ b. cond b x y) (eq-eqb p.0 p.0 refl)

other_there : (p q : Pid) (x y : ℕ) → q.0 ≢ p.0 → cond (same_pid q p) x y ≡ y
other_there p q x y apart = ap (λ b. cond b x y) (ne_eqb q.0 p.0 apart)

-- the same, for an entry that raises the count of p
pub done_after-here : (system : System) (log : List Entry) (e : Entry) (p : Pid) (at : ℕ) → is_done (what e) ≡ false → IsLater (done_after system log) (what e) → is_some (plain_after system (log ++ e ∷ [])) ≡ true → count_in (what e) ≡ Some (p, at)
    → done_after system (log ++ e ∷ []) p ≡ max at (done_after system log p)
done_after-here system log e p at other later can is =
    done_after-raised system log e p other later can ∙ ap (λ o. raised_at o (done_after system log) p) is ∙ same_here p (max at (done_after system log p)) (done_after system log p)

-- and for each other process, also over a birth that is not later
counts_other : (w : What) (k j : Kernel) (p q : Pid) (at : ℕ) → is_done w ≡ false → apply_all (items_of k w) k ≡ Some j → count_in w ≡ Some (p, at) → q.0 ≢ p.0 → done j q ≡ done k q
counts_other (Birth parent n child end) k j p q at other made is apart =
    let same : parent ≡ p = ap (λ (r : Pid × ℕ). r.0) (same_Some (parent, n) (p, at) is) in
    birth_other parent n child k j q (λ e. apart (e ∙ ap (λ (r : Pid). r.0) same)) made
counts_other w k j p q at other made is apart = counts_after w k j q other tt made ∙ ap (λ o. raised_at o (done k) q) is ∙ other_there p q (max at (done k p)) (done k q) apart

pub done_after-other : (system : System) (log : List Entry) (e : Entry) (p q : Pid) (at : ℕ) → is_done (what e) ≡ false → is_some (plain_after system (log ++ e ∷ [])) ≡ true → count_in (what e) ≡ Some (p, at)
    → q.0 ≢ p.0 → done_after system (log ++ e ∷ []) q ≡ done_after system log q
done_after-other system log e p q at other can is apart =
    let a = applied system log e can in
    done_kernel system (log ++ e ∷ []) a.new q a.after ∙ counts_other (what e) a.old a.new p q at other a.made is apart ∙ sym (done_kernel system log a.old q a.before)

-- and for one that raises none
counts_quiet : (w : What) (k j : Kernel) (q : Pid) → is_done w ≡ false → apply_all (items_of k w) k ≡ Some j → count_in w ≡ None → done j q ≡ done k q
counts_quiet (Birth parent n child end) k j q other made is = cc
counts_quiet w k j q other made is = counts_after w k j q other tt made ∙ ap (λ o. raised_at o (done k) q) is

pub done_after-quiet : (system : System) (log : List Entry) (e : Entry) (q : Pid) → is_done (what e) ≡ false → is_some (plain_after system (log ++ e ∷ [])) ≡ true → count_in (what e) ≡ None → done_after system (log ++ e ∷ []) q ≡ done_after system log q
done_after-quiet system log e q other can is =
    let a = applied system log e can in
    done_kernel system (log ++ e ∷ []) a.new q a.after ∙ counts_quiet (what e) a.old a.new q other a.made is ∙ sym (done_kernel system log a.old q a.before)

-- ---- the start, and the pids

-- no process has made a step before the first entry
pub done_after-none : (system : System) (p : Pid) → done_after system [] p ≡ 0
unfolding plain_after
done_after-none system p = boot-steps system p

-- what holds at the start and is kept by each step, each fork and each take
module _ (P : Kernel → Type 0) (one : (p : Pid) (k j : Kernel) → P k → one_step p k ≡ Some j → P j) (fork : (p c : Pid) (k j : Kernel) → P k → fork_step p c k ≡ Some j → P j)
    (take : (p : Pid) (k j : Kernel) → P k → take_step p k ≡ Some j → P j) where
  entry_keeps : (o : Option Kernel) (e : Entry) → IfSome o P → IfSome (after_entry o e) P
  entry_keeps None e has = tt
  entry_keeps (Some k) e has = by_case (apply_all (items_of k (what e)) k) refl
    where
      by_case : (r : Option Kernel) → apply_all (items_of k (what e)) k ≡ r → IfSome r P
      by_case None is = tt
      by_case (Some j) is = items_keep P one fork take (items_of k (what e)) k j has is

  -- over several entries, from any kernel
  pub log_keeps : (o : Option Kernel) (log : List Entry) → IfSome o P → IfSome (fold after_entry o log) P
  log_keeps o [] has = has
  log_keeps o (e ∷ log) has = log_keeps (after_entry o e) log (entry_keeps o e has)

  -- holds after a log
  pub log_keeps_all : (system : System) (log : List Entry) (k : Kernel) → P (boot system) → plain_after system log ≡ Some k → P k
  unfolding plain_after
  log_keeps_all system log k start is = subst (λ o. IfSome o P) is (log_keeps (Some (boot system)) log start)

-- so the processes rise, whatever forks
pub plain_after-rising : (system : System) (log : List Entry) (k : Kernel) → plain_after system log ≡ Some k → IsRising k
plain_after-rising system log k is =
    log_keeps_all IsRising (λ p k j rising made. (one_step-pids (pids_in k) p k j (record { rising = rising; are = refl }) made).rising) fork_step-rising take_step-rising system log k (boot-pids system).rising is

-- and each has the pid under which it stands
pub process_after-own : (system : System) (log : List Entry) (p : Pid) (s : ProcState) → process_after system log p ≡ Some s → (s.small).pid ≡ p
process_after-own system log p s there = by_kernel (plain_after system log) refl there
  where
    by_kernel : (o : Option Kernel) → plain_after system log ≡ o → option_and_then (λ k. process_at k p) o ≡ Some s → (s.small).pid ≡ p
    by_kernel None is e = cc
    by_kernel (Some k) is e = log_keeps_all HasOwnPids one_step-own fork_step-own take_step-own system log k (boot-own system) is p s.small (ap (option_map (λ (s : ProcState). s.small)) e)

-- ---- a step that sends something

-- what is sent, with the process before it and its kernel
pub record SentFrom (system : System) (log : List Entry) (p : Pid) (at : ℕ) (e : Emission) (t : ProcState) : Type 0 where
  pub kernel : Kernel
  pub was : ProcState
  pub before : plain_after system log ≡ Some kernel
  pub there : process_at kernel p ≡ Some was
  pub sends : last_emission (at - done kernel p) was ≡ Some (e, t)

pub sent_from : (system : System) (log : List Entry) (p : Pid) (at : ℕ) (e : Emission) (t : ProcState) → emission_at system log p at ≡ Some (e, t) → SentFrom system log p at e t
unfolding emission_at
sent_from system log p at e t is = by_kernel (plain_after system log) refl is
  where
    by_process : (k : Kernel) (o : Option ProcState) → plain_after system log ≡ Some k → process_at k p ≡ o → option_and_then (last_emission (at - done k p)) o ≡ Some (e, t) → SentFrom system log p at e t
    by_process k None before there sends = cc
    by_process k (Some s) before there sends = record { kernel = k; was = s; before = before; there = there; sends = sends }

    by_kernel : (o : Option Kernel) → plain_after system log ≡ o → option_and_then (last_emission (at - option_map_or (λ k. done k p) o 0)) (option_and_then (λ k. process_at k p) o) ≡ Some (e, t) → SentFrom system log p at e t
    by_kernel None before sends = cc
    by_kernel (Some k) before sends = by_process k (process_at k p) before refl sends

-- the run up to that step puts the process, and what it sent is delivered
pub run_upto-sent : (system : System) (log : List Entry) (p : Pid) (at : ℕ) (e : Emission) (t : ProcState) (k : Kernel) → plain_after system log ≡ Some k → emission_at system log p at ≡ Some (e, t)
    → apply_all (run_upto k p at) k ≡ Some (emitted (with_process k p t) e)
run_upto-sent system log p at e t k before is =
    let s = sent_from system log p at e t is in
    let same : s.kernel ≡ k = same_Some s.kernel k (sym s.before ∙ before) in
    ap (λ k. apply_all (run_upto k p at) k) (sym same)
    ∙ apply_run p (at - done s.kernel p) s.kernel
    ∙ steps-sent (at - done s.kernel p) s.kernel p s.was t e s.there s.sends
    ∙ ap (λ k. Some (emitted (with_process k p t) e)) same

-- the entry that tells of what is sent: a letter of the process, or its exit
abbrev pub Tells : Pid → ℕ → Emission → What → Type 0
Tells p at (Sent letter) w = (letter.from ≡ p) × (w ≡ Mail at letter)
Tells p at (Ended end) w = w ≡ Exit p at end

items_told : (k : Kernel) (p : Pid) (at : ℕ) (e : Emission) (w : What) → Tells p at e w → items_of k w ≡ run_upto k p at
items_told k p at (Sent letter) w tells = ap (items_of k) tells.1 ∙ ap (λ q. run_upto k q at) tells.0
items_told k p at (Ended end) w tells = ap (items_of k) tells

-- the kernel after such an entry is that with the process put and what it sent delivered
pub plain_after-sent : (system : System) (log : List Entry) (entry : Entry) (p : Pid) (at : ℕ) (e : Emission) (t : ProcState) (k : Kernel) → plain_after system log ≡ Some k → emission_at system log p at ≡ Some (e, t)
    → Tells p at e (what entry) → plain_after system (log ++ entry ∷ []) ≡ Some (emitted (with_process k p t) e)
plain_after-sent system log entry p at e t k before is tells =
    plain_after-snoc system log entry ∙ ap (λ o. after_entry o entry) before ∙ ap (λ items. apply_all items k) (items_told k p at e (what entry) tells)
    ∙ run_upto-sent system log p at e t k before is

-- so its items can be applied
pub sent_applies : (system : System) (log : List Entry) (entry : Entry) (p : Pid) (at : ℕ) (e : Emission) (t : ProcState) → emission_at system log p at ≡ Some (e, t) → Tells p at e (what entry)
    → is_some (plain_after system (log ++ entry ∷ [])) ≡ true
sent_applies system log entry p at e t is tells =
    let s = sent_from system log p at e t is in
    ap is_some (plain_after-sent system log entry p at e t s.kernel s.before is tells)

-- where it is sent to no process, the process is as the step left it
pub process_after-sent : (system : System) (log : List Entry) (entry : Entry) (p : Pid) (at : ℕ) (e : Emission) (t : ProcState) → emission_at system log p at ≡ Some (e, t) → Tells p at e (what entry) → is_outward e ≡ true
    → process_after system (log ++ entry ∷ []) p ≡ Some t
process_after-sent system log entry p at e t is tells out =
    let s = sent_from system log p at e t is in
    ap (option_and_then (λ k. process_at k p)) (plain_after-sent system log entry p at e t s.kernel s.before is tells)
    ∙ process_at-outward (with_process s.kernel p t) e p out ∙ process_at-same s.kernel p t

-- and every other process is unchanged
pub process_after-others : (system : System) (log : List Entry) (entry : Entry) (p : Pid) (at : ℕ) (e : Emission) (t : ProcState) (q : Pid) → emission_at system log p at ≡ Some (e, t) → Tells p at e (what entry) → is_outward e ≡ true
    → q.0 ≢ p.0 → process_after system (log ++ entry ∷ []) q ≡ process_after system log q
process_after-others system log entry p at e t q is tells out apart =
    let s = sent_from system log p at e t is in
    ap (option_and_then (λ k. process_at k q)) (plain_after-sent system log entry p at e t s.kernel s.before is tells)
    ∙ process_at-outward (with_process s.kernel p t) e q out ∙ process_at-other s.kernel p t q apart
    ∙ sym (ap (option_and_then (λ k. process_at k q)) s.before)

-- what an entry tells of is what its process sends, with the process after it
pub record SentTo (system : System) (log : List Entry) (p : Pid) (at : ℕ) (e : Emission) : Type 0 where
  pub after : ProcState
  pub is : emission_at system log p at ≡ Some (e, after)

pub is_sent : (system : System) (log : List Entry) (p : Pid) (at : ℕ) (e : Emission) → IsSent system log p at e → SentTo system log p at e
is_sent system log p at e h = by_case (emission_at system log p at) refl h
  where
    by_case : (o : Option (Emission × ProcState)) → emission_at system log p at ≡ o → option_map (λ (r : Emission × ProcState). r.0) o ≡ Some e → SentTo system log p at e
    by_case None is f = cc
    by_case (Some r) is f = let same : r.0 ≡ e = same_Some r.0 e f in record { after = r.1; is = is ∙ ap (λ x. Some (x, r.1)) same }

-- a letter that a process sends is from that process
pub sent_is_own : (system : System) (log : List Entry) (p : Pid) (at : ℕ) (letter : Letter) (t : ProcState) → emission_at system log p at ≡ Some (Sent letter, t) → letter.from ≡ p
sent_is_own system log p at letter t is =
    let s = sent_from system log p at (Sent letter) t is in
    last_letter_is_own (at - done s.kernel p) s.was letter t s.sends
    ∙ process_after-own system log p s.was (ap (option_and_then (λ k. process_at k p)) s.before ∙ s.there)

-- ---- silent steps

-- a process that silent steps up to a count lead to, with the process and the kernel before
pub record SilentFrom (system : System) (log : List Entry) (p : Pid) (at : ℕ) (t : ProcState) : Type 0 where
  pub kernel : Kernel
  pub was : ProcState
  pub before : plain_after system log ≡ Some kernel
  pub there : process_at kernel p ≡ Some was
  pub silent : silently (at - done kernel p) was ≡ Some t

pub silent_from : (system : System) (log : List Entry) (p : Pid) (at : ℕ) (t : ProcState) → silent_upto system log p at ≡ Some t → SilentFrom system log p at t
unfolding silent_upto
silent_from system log p at t is = by_kernel (plain_after system log) refl is
  where
    by_process : (k : Kernel) (o : Option ProcState) → plain_after system log ≡ Some k → process_at k p ≡ o → option_and_then (silently (at - done k p)) o ≡ Some t → SilentFrom system log p at t
    by_process k None before there silent = cc
    by_process k (Some s) before there silent = record { kernel = k; was = s; before = before; there = there; silent = silent }

    by_kernel : (o : Option Kernel) → plain_after system log ≡ o → option_and_then (silently (at - option_map_or (λ k. done k p) o 0)) (option_and_then (λ k. process_at k p) o) ≡ Some t → SilentFrom system log p at t
    by_kernel None before silent = cc
    by_kernel (Some k) before silent = by_process k (process_at k p) before refl silent

-- an entry whose items are the run of a process up to that count can be applied
pub silent_applies : (system : System) (log : List Entry) (e : Entry) (p : Pid) (at : ℕ) (t : ProcState) → silent_upto system log p at ≡ Some t → ((k : Kernel) → items_of k (what e) ≡ run_upto k p at) → is_some (plain_after system (log ++ e ∷ [])) ≡ true
silent_applies system log e p at t is items =
    let s = silent_from system log p at t is in
    ap is_some (plain_after-snoc system log e ∙ ap (λ o. after_entry o e) s.before ∙ ap (λ is. apply_all is s.kernel) (items s.kernel) ∙ apply_run p (at - done s.kernel p) s.kernel)
    ∙ silently-made (at - done s.kernel p) s.kernel p s.was t s.there s.silent

silent_made : (system : System) (log : List Entry) (e : Entry) (p : Pid) (at : ℕ) (t : ProcState) (s : SilentFrom system log p at t) (a : Applied system log e) → ((k : Kernel) → items_of k (what e) ≡ run_upto k p at) → steps (at - done s.kernel p) p s.kernel ≡ Some a.new
silent_made system log e p at t s a items =
    let same : a.old ≡ s.kernel = same_Some a.old s.kernel (sym a.before ∙ s.before) in
    run_made p at s.kernel a.new (sym (ap (λ is. apply_all is s.kernel) (items s.kernel)) ∙ ap (λ k. apply_all (items_of k (what e)) k) (sym same) ∙ a.made)

-- after it the process is as those steps left it
pub process_after-silent : (system : System) (log : List Entry) (e : Entry) (p : Pid) (at : ℕ) (t : ProcState) → silent_upto system log p at ≡ Some t → ((k : Kernel) → items_of k (what e) ≡ run_upto k p at) → process_after system (log ++ e ∷ []) p ≡ Some t
process_after-silent system log e p at t is items =
    let s = silent_from system log p at t is in
    let a = applied system log e (silent_applies system log e p at t is items) in
    ap (option_and_then (λ k. process_at k p)) a.after ∙ silently-here (at - done s.kernel p) s.kernel a.new p s.was t s.there s.silent (silent_made system log e p at t s a items)

-- and every other process is unchanged
pub process_after-beside : (system : System) (log : List Entry) (e : Entry) (p : Pid) (at : ℕ) (t : ProcState) (q : Pid) → silent_upto system log p at ≡ Some t → ((k : Kernel) → items_of k (what e) ≡ run_upto k p at) → q.0 ≢ p.0
    → process_after system (log ++ e ∷ []) q ≡ process_after system log q
process_after-beside system log e p at t q is items apart =
    let s = silent_from system log p at t is in
    let a = applied system log e (silent_applies system log e p at t is items) in
    ap (option_and_then (λ k. process_at k q)) a.after
    ∙ silently-other (at - done s.kernel p) s.kernel a.new p s.was t q s.there s.silent (silent_made system log e p at t s a items) apart
    ∙ sym (ap (option_and_then (λ k. process_at k q)) s.before)
