-- The counts of the end of a run are those at which each process is idle, so there is one list of them.
use Rattle.std.proofs.Common.{◌≡◌, ℕ, ◌+◌, ◌-◌, ◌≤◌, inl, inr, refl, sym, ◌∙◌, ap, subst, arith, List, [], ◌∷◌, ◌++◌, Bool, true, false, cond, not, ◌&&◌, ◌||◌, eqb, eqb-true, eq-eqb, Option, Some, None, is_some, true≢false}
use Rattle.std.specs.Prelude.{nat_le, option_map, option_and_then}
use Rattle.std.specs.List.{list_any, list_all}
use Rattle.std.specs.Option.{option_map_or}
use Rattle.std.specs.declared.cmp.Ordering.{Ordering}
use Rattle.std.specs.declared.cmp.Ordering.TheVariants.{Less, Equal, Greater}
use Rattle.std.specs.Ordering.{is_eq}
use Rattle.std.specs.FinMap.{find}
use Rattle.std.proofs.lemmas.Bool.{cases_lt, and_parts, or_parts}
use Rattle.std.proofs.lemmas.Bool.Decides.{nat_tests}
use Rattle.std.proofs.lemmas.Option.{same_Some}
use Rattle.t32_base.specs.declared.process.Pid.{Pid}
use Rattle.sys_text.specs.declared.system.System.{System}
use Rattle.sys_text.specs.Valid.{is_system}
use Rattle.proc_state.specs.State.{ProcState, can_take}
use Rattle.sys_calls.specs.Calls.{Next, Silent, Blocked, Forks, Emits, Over}
use Rattle.sys_calls.specs.Next.{next_step, has_step, silent_of, silently}
use Rattle.sys_calls.proofs.Untaken.{joined}
use Rattle.plain_kernel.specs.Kernel.{Kernel, pid_cmp, process_at}
use Rattle.plain_kernel.specs.Apply.{apply_all}
use Rattle.plain_kernel.specs.Still.{can_act, is_still}
use Rattle.bus_msg.specs.declared.entry.What.TheVariants.{Done}
use Rattle.bus_msg.specs.declared.entry.Entry.{Entry}
use Rattle.bus_msg.specs.declared.placed.Placed.{Placed}
use Rattle.bus_msg.specs.Places.{same_pid, unended_in}
use Rattle.bus_msg.specs.PlacedAfter.{what}
use Rattle.cert_sched.specs.Schedule.{plain_after, process_after, done_after, after_entry, items_of, placement}
use Rattle.cert_sched.specs.Steps.{silent_upto}
use Rattle.cert_sched.specs.Kinds.{DoneHolds, is_silent_rest}
use Rattle.cert_sched.specs.Rests.{is_idle, is_idle_at}
use Rattle.cert_sched.specs.Legal.{IsLegalBy, Stands}
use Rattle.cert_sched.proofs.ListLaws.{list_all-weaker}
use Rattle.cert_sched.proofs.LogLaws.{plain_after-snoc}
use Rattle.cert_sched.proofs.RisingLaws.{NoTwo, rising-apart}
use Rattle.cert_sched.proofs.PidLaws.{placed_pids, apart_fewer}
use Rattle.cert_sched.proofs.FreshLaws.{numbered}
use Rattle.cert_sched.proofs.RunsLaws.{rest_pids, led, led-silent_upto, after_runs, RunsTo, runs_made}
use Rattle.cert_sched.proofs.StillLaws.{acts}
use Rattle.cert_sched.proofs.ThereLaws.{plain_there}

-- ---- one process is idle at one count alone

-- what is idle makes no silent step
no_step : (n : Next) (b : Bool) → not (has_step n || b) ≡ true → silent_of n ≡ None
no_step (Silent q) b idle = absurd (true≢false (sym idle))
no_step Blocked b idle = refl
no_step Forks b idle = refl
no_step (Emits e q) b idle = refl
no_step Over b idle = refl

none_from : (d : ℕ) (s : ProcState) → is_idle s ≡ true → silently (1 + d) s ≡ None
unfolding silently
none_from d s idle = joined 1 d s ∙ ap (option_and_then (silently d)) (no_step (next_step s) (can_take s) idle)

-- silent steps lead no further than to where it is idle
no_further : (a b : ℕ) (was s t : ProcState) → silently a was ≡ Some s → is_idle s ≡ true → silently b was ≡ Some t → b ≤ a
no_further a b was s t made idle further = elim (cases_lt a b) [
  | inl below ↦
      let on : a + (1 + (b - (1 + a))) ≡ b = omega (arith, below) in
      let both : Some t ≡ None =
      sym further ∙ ap (λ (n : ℕ). silently n was) (sym on) ∙ joined a (1 + (b - (1 + a))) was ∙ ap (option_and_then (silently (1 + (b - (1 + a))))) made ∙ none_from (b - (1 + a)) s idle in
      cc
  | inr above ↦ omega (arith, above)
]

record IdleFrom (d n : ℕ) (o : Option ProcState) : Type 0 where
  pub was : ProcState
  pub to : ProcState
  pub there : o ≡ Some was
  pub silent : silently (n - d) was ≡ Some to
  pub late : d ≤ n
  pub idle : is_idle to ≡ true

not_above : (d n : ℕ) → nat_le d n ≡ true → d ≤ n
not_above d n h = grind (arith, nat_tests)

idle_parts : (d n : ℕ) (o : Option ProcState) → ((nat_le d n && is_some (option_and_then (silently (n - d)) o)) && option_map_or is_idle (option_and_then (silently (n - d)) o) false) ≡ true
    → IdleFrom d n o
idle_parts d n None h = absurd (true≢false (sym (and_parts _ _ h).1))
idle_parts d n (Some was) h = by_end (silently (n - d) was) refl h
  where
    by_end : (q : Option ProcState) → silently (n - d) was ≡ q → ((nat_le d n && is_some q) && option_map_or is_idle q false) ≡ true → IdleFrom d n (Some was)
    by_end None is h = absurd (true≢false (sym (and_parts _ _ h).1))
    by_end (Some s) is h =
        let parts = and_parts _ _ h in
        record { was = was; to = s; there = refl; silent = is; late = not_above d n (and_parts _ _ parts.0).0; idle = parts.1 }

idle_from : (system : System) (log : List Entry) (p : Pid) (n : ℕ) → is_idle_at system log (p, n) ≡ true → IdleFrom (done_after system log p) n (process_after system log p)
unfolding silent_upto
idle_from system log p n h = idle_parts (done_after system log p) n (process_after system log p) h

one_count : (d n m : ℕ) (o : Option ProcState) → IdleFrom d n o → IdleFrom d m o → n ≡ m
one_count d n m o i j =
    let same : i.was ≡ j.was = same_Some i.was j.was (sym i.there ∙ j.there) in
    let here : silently (m - d) i.was ≡ Some j.to = ap (silently (m - d)) same ∙ j.silent in
    let back : silently (n - d) j.was ≡ Some i.to = ap (silently (n - d)) (sym same) ∙ i.silent in
    let under = no_further (n - d) (m - d) i.was i.to j.to i.silent i.idle here in
    let over = no_further (m - d) (n - d) j.was j.to i.to j.silent j.idle back in
    let late = i.late in
    let later = j.late in
    omega (arith, under, over, late, later)

-- so the counts of the same processes at which each is idle are the same
pub same_rests : (system : System) (log : List Entry) (rs ts : List (Pid × ℕ)) → rest_pids rs ≡ rest_pids ts → list_all (is_idle_at system log) rs ≡ true
    → list_all (is_idle_at system log) ts ≡ true → rs ≡ ts
same_rests system log [] [] named idle quiet = refl
same_rests system log [] (t ∷ ts) named idle quiet = cc
same_rests system log (r ∷ rs) [] named idle quiet = cc
same_rests system log (r ∷ rs) (t ∷ ts) named idle quiet =
    let number : (r.0).0 ≡ (t.0).0 = cc in
    let others : rest_pids rs ≡ rest_pids ts = cc in
    let pid : r.0 ≡ t.0 = λ i. record { 0 = number i } in
    let here = and_parts (is_idle_at system log r) (list_all (is_idle_at system log) rs) idle in
    let there = and_parts (is_idle_at system log t) (list_all (is_idle_at system log) ts) quiet in
    let count : r.1 ≡ t.1 = one_count (done_after system log r.0) r.1 t.1 (process_after system log r.0) (idle_from system log r.0 r.1 here.0)
    (idle_from system log r.0 t.1 (ap (λ p. is_idle_at system log (p, t.1)) pid ∙ there.0)) in
    let more = same_rests system log rs ts others here.1 there.1 in
    λ i. (pid i, count i) ∷ more i

-- ---- where nothing can move each of them is idle

none_acts : (es : List (Pid × ProcState)) (p : Pid) (s : ProcState) → list_any can_act es ≡ false → find pid_cmp p es ≡ Some s → acts s ≡ false
none_acts [] p s none there = cc
none_acts (e ∷ es) p s none there = by_order (pid_cmp p e.0) there (none_acts es p s parts.1)
  where
    parts : (can_act e ≡ false) × (list_any can_act es ≡ false)
    parts = or_parts (can_act e) (list_any can_act es) none

    by_order : (o : Ordering) → cond (is_eq o) (Some e.1) (find pid_cmp p es) ≡ Some s → (find pid_cmp p es ≡ Some s → acts s ≡ false) → acts s ≡ false
    by_order Equal there more = ap acts (sym (same_Some e.1 s there)) ∙ parts.0
    by_order Less there more = more there
    by_order Greater there more = more there

not_true : (b : Bool) → not b ≡ true → b ≡ false
not_true true e = absurd (true≢false (sym e))
not_true false e = refl

or_true : (b c : Bool) → c ≡ true → (b || c) ≡ true
or_true true c is = refl
or_true false c is = is

abbrev among : Pid → List (Pid × ℕ) → Bool
among q rs = list_any (λ m. eqb m q.0) (rest_pids rs)

-- each of the processes is where its run leads
each_idle : (to k : Kernel) (rs : List (Pid × ℕ)) → NoTwo (rest_pids rs) → list_all (λ r. is_some (led k r)) rs ≡ true
    → ((q : Pid) → among q rs ≡ true → process_at to q ≡ after_runs k rs (process_at k q) q)
    → ((q : Pid) (s : ProcState) → process_at to q ≡ Some s → acts s ≡ false)
    → list_all (λ r. option_map_or is_idle (led k r) false) rs ≡ true
each_idle to k [] two some are none = refl
each_idle to k (r ∷ rs) two some are none =
    let parts = and_parts (is_some (led k r)) (list_all (λ r. is_some (led k r)) rs) some in
    let own : same_pid r.0 r.0 ≡ true = eq-eqb (r.0).0 (r.0).0 refl in
    let here : process_at to r.0 ≡ led k r = are r.0 (ap (λ b. b || among r.0 rs) own) ∙ ap (λ b. cond b (led k r) (after_runs k rs (process_at k r.0) r.0)) own in
    ap (λ b. b && list_all (λ r. option_map_or is_idle (led k r) false) rs) (first (led k r) here parts.0) ∙ each_idle to k rs two.1 parts.1 later none
  where
    first : (o : Option ProcState) → process_at to r.0 ≡ o → is_some o ≡ true → option_map_or is_idle o false ≡ true
    first None here some = absurd (true≢false (sym some))
    first (Some s) here some = ap not (none r.0 s here)

    later : (q : Pid) → among q rs ≡ true → process_at to q ≡ after_runs k rs (process_at k q) q
    later q more = are q (or_true (same_pid r.0 q) (among q rs) more) ∙ by_test (same_pid r.0 q) refl
      where
        by_test : (b : Bool) → same_pid r.0 q ≡ b → cond b (led k r) (after_runs k rs (process_at k q) q) ≡ after_runs k rs (process_at k q) q
        by_test true is =
            let number : (r.0).0 ≡ q.0 = eqb-true (r.0).0 q.0 is in
            absurd (true≢false (sym more ∙ ap (λ n. list_any (λ m. eqb m n) (rest_pids rs)) (sym number) ∙ two.0))
        by_test false is = refl

both : (f g : Pid × ℕ → Bool) (rs : List (Pid × ℕ)) → list_all f rs ≡ true → list_all g rs ≡ true → list_all (λ r. f r && g r) rs ≡ true
both f g [] all each = refl
both f g (r ∷ rs) all each =
    let some = and_parts (f r) (list_all f rs) all in
    let more = and_parts (g r) (list_all g rs) each in
    let here : (f r && g r) ≡ true = ap (λ b. b && g r) some.0 ∙ more.0 in
    ap (λ b. b && list_all (λ r. f r && g r) rs) here ∙ both f g rs some.1 more.1

module _ (system : System) (log : List Entry) (e : Entry) (rests : List (Pid × ℕ)) (valid : is_system system ≡ true) (legal : IsLegalBy Stands system log) (is : what e ≡ Done rests)
    (h : DoneHolds system log e rests) where
  two : NoTwo (rest_pids rests)
  two = subst NoTwo (sym h.named)
      (rising-apart (placed_pids (unended_in (placement system log))) (apart_fewer (λ (q : Placed). not q.ended) (placement system log).placed (numbered Stands (λ system log e stands. stands) system log valid legal).two))

  pub each_rests : list_all (is_idle_at system log) rests ≡ true
  each_rests = by_kernel (plain_after system log) refl (plain_there Stands (λ system log e stands. stands) system log legal)
    where
      by_kernel : (o : Option Kernel) → plain_after system log ≡ o → is_some o ≡ true → list_all (is_idle_at system log) rests ≡ true
      by_kernel None before there = absurd (true≢false (sym there))
      by_kernel (Some k) before there =
          let some : list_all (λ r. is_some (led k r)) rests ≡ true = list_all-weaker (is_silent_rest system log) (λ r. is_some (led k r))
          (λ r silent. sym (ap is_some (led-silent_upto system log k r before)) ∙ (and_parts _ (is_some (silent_upto system log r.0 r.1)) silent).1) rests h.silent in
          let runs : RunsTo k k rests = runs_made k rests two some in
          let after : plain_after system (log ++ e ∷ []) ≡ Some runs.to = plain_after-snoc system log e ∙ ap (λ o. after_entry o e) before ∙ ap (λ w. apply_all (items_of k w) k) is ∙ runs.made in
          let still : is_still runs.to ≡ true = same_Some (is_still runs.to) true (sym (ap (option_map is_still) after) ∙ h.still) in
          let idle = each_idle runs.to k rests two some (λ q there. runs.are q) (λ q s there. none_acts (runs.to).processes q s (not_true (list_any can_act (runs.to).processes) still) there) in
          both (is_silent_rest system log) (λ r. option_map_or is_idle (silent_upto system log r.0 r.1) false) rests h.silent
          (list_all-weaker (λ r. option_map_or is_idle (led k r) false) (λ r. option_map_or is_idle (silent_upto system log r.0 r.1) false)
          (λ r at_rest. ap (λ o. option_map_or is_idle o false) (led-silent_upto system log k r before) ∙ at_rest) rests idle)
