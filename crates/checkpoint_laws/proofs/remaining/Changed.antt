-- A changed page that is new leaves one pair of a page and a step count less.
use Rattle.std.proofs.Common.{◌≡◌, ℕ, ◌+◌, ◌*◌, ◌-◌, ◌≤◌, refl, sym, ◌∙◌, ap, subst, arith, List, [], ◌∷◌, ◌++◌, Bool, true, false, not, ◌&&◌, ◌||◌, eq-eqb, eqb-true, ltb, Option, Some, None}
use Rattle.std.specs.Prelude.{option_map, sum_by}
use Rattle.std.specs.Option.{option_map_or}
use Rattle.t32_base.specs.declared.process.Pid.{Pid}
use Rattle.t32_base.proofs.Facts.{or_false}
use Rattle.sys_text.specs.declared.system.System.{System}
use Rattle.sys_text.specs.Valid.{is_system}
use Rattle.rv_mem.specs.Memory.{page_at}
use Rattle.proc_state.specs.State.{ProcState}
use Rattle.sys_calls.proofs.Weighing.{silently_leaves}
use Rattle.bus_msg.specs.declared.entry.What.TheVariants.{Page}
use Rattle.bus_msg.specs.declared.entry.Entry.{Entry}
use Rattle.bus_msg.specs.declared.placed.Placed.{Placed}
use Rattle.bus_msg.specs.Places.{same_pid, unended_in}
use Rattle.bus_msg.specs.PlacedAfter.{what}
use Rattle.cert_sched.specs.Schedule.{done, items_of, plain_after, placement, done_after}
use Rattle.cert_sched.specs.Told.{cluster_lost}
use Rattle.cert_sched.specs.Deeds.{is_cut, is_birth_of, start_of}
use Rattle.cert_sched.specs.Record.{has_state}
use Rattle.cert_sched.specs.Moved.{any_since_moved, is_page_at}
use Rattle.cert_sched.specs.Steps.{page_count, silent_upto, start_steps}
use Rattle.cert_sched.specs.Rules.{is_by_home, is_by_right, is_new_page}
use Rattle.cert_sched.specs.Kinds.{KindHolds, PageHolds}
use Rattle.cert_sched.specs.Legal.{IsLegalBy, Stands}
use Rattle.cert_sched.proofs.BirthKind.{is_birth}
use Rattle.cert_sched.proofs.LogLaws.{no_items}
use Rattle.cert_sched.proofs.RecordLaws.{has_state-snoc}
use Rattle.cert_sched.proofs.StepLaws.{silent_from, done_kernel}
use Rattle.log_laws.proofs.pages.OneEntry.{any_since-goes_on, moves_none}
use Rattle.log_laws.proofs.pages.Leaving.{one_if}
use Rattle.checkpoint_laws.proofs.posts.Beside.{start_stays}
use Rattle.checkpoint_laws.specs.remaining.Load.{kernel_load, log_births, log_load}
use Rattle.checkpoint_laws.specs.remaining.Left.{is_unsent, left_of_process, left_of_syncs, may_sync, most_of, most_steps}
use Rattle.checkpoint_laws.proofs.remaining.Pairs.{pairs-less}
use Rattle.checkpoint_laws.proofs.remaining.OneStep.{most_in}
use Rattle.checkpoint_laws.proofs.remaining.OneEntry.{left_then, most_kernel, one_less, sender_among, stays_most, stepped_stays, there, unsent_after, unsent_still}

-- silent steps up to a count that is not before the present one end within the most steps
within_most : (system : System) (log : List Entry) (p : Pid) (at : ℕ) (t : ProcState) → done_after system log p ≤ at → silent_upto system log p at ≡ Some t → at ≤ most_steps system log p
within_most system log p at t not_before reached =
    let s = silent_from system log p at t reached in
    let less = silently_leaves (at - done s.kernel p) s.was t s.silent in
    let count : done_after system log p ≡ done s.kernel p = done_kernel system log s.kernel p s.before in
    let steps : done s.kernel p ≡ ((s.was).small).steps = ap (λ (o : Option ProcState). option_map_or (λ (s : ProcState). (s.small).steps) o 0) s.there in
    let most : most_steps system log p ≡ most_of s.was = most_kernel system log s.kernel p s.before ∙ ap (λ o. option_map_or most_of o 0) s.there in
    omega (arith, less, count, steps, most, not_before)

some_state : (o : Option ProcState) (bytes : List ℕ) (i : ℕ) → option_map (λ (s : ProcState). page_at s.memory i) o ≡ Some bytes → (t : ProcState) × (o ≡ Some t)
some_state None bytes i is = cc
some_state (Some t) bytes i is = (t, refl)

module _ (system : System) (log : List Entry) (e : Entry) (stands : Stands system log e) (p : Pid) (at i : ℕ) (bytes : List ℕ) (is : what e ≡ Page p at i bytes) where
  holds : PageHolds system log p at i bytes
  holds = subst (KindHolds system log e) is stands.kind

  no_loss : cluster_lost (what e) ≡ None
  no_loss = ap cluster_lost is

  no_birth : (r : Pid) → is_birth_of r (what e) ≡ false
  no_birth r = ap (is_birth_of r) is

  stated_same : has_state system (log ++ e ∷ []) p ≡ has_state system log p
  stated_same = has_state-snoc system log e p ∙ ap (λ b. has_state system log p || b) (ap (is_cut p) is) ∙ or_false (has_state system log p)

  start_same : (r : Pid) → start_of system (log ++ e ∷ []) r ≡ start_of system log r
  start_same r = start_stays system log e r (ap (is_cut r) is) (no_birth r)

  -- the kernel is as it was
  kernel_same : plain_after system (log ++ e ∷ []) ≡ plain_after system log
  kernel_same = no_items system log e (λ k. ap (items_of k) is)

  pub page_load : log_load system (log ++ e ∷ []) ≡ log_load system log
  page_load = ap (λ o. option_map_or kernel_load o 0) kernel_same

  seen : is_page_at p i at (what e) ≡ true
  seen = ap (is_page_at p i at) is ∙ (λ k. eq-eqb p.0 p.0 refl k && eq-eqb i i refl k && eq-eqb at at refl k)

  sent_now : is_unsent system (log ++ e ∷ []) p i at ≡ false
  sent_now =
      ap not (any_since-goes_on system log e p (is_page_at p i at) (moves_none system log e no_loss p) ∙ ap (λ b. any_since_moved system log p (is_page_at p i at) || b) seen ∙ or_true (any_since_moved system log p (is_page_at p i at)))
    where
      or_true : (b : Bool) → (b || true) ≡ true
      or_true true = refl
      or_true false = refl

  within : at ≤ most_in (there system log e stands).new p
  within =
      let t = some_state (silent_upto system log p at) bytes i holds.page in
      let most = within_most system log p at t.0 holds.not_before t.1 in
      let after : plain_after system log ≡ Some (there system log e stands).new = sym kernel_same ∙ (there system log e stands).after in
      let same = most_kernel system log (there system log e stands).new p after in
      omega (arith, most, same)

  pair_less : is_unsent system log p i at ≡ true → left_of_process system (log ++ e ∷ []) p + 1 ≤ left_then system log e stands p
  pair_less new =
      let after = unsent_after system log e stands no_loss p (no_birth p) in
      let stepped : one_if (may_sync system (log ++ e ∷ []) p) ≡ one_if (ltb (start_steps system log p) (done (there system log e stands).new p) || not (has_state system log p)) =
      λ k. one_if (stepped_stays system log e stands no_loss p (start_same p) k || not (stated_same k)) in
      let less = pairs-less (is_unsent system (log ++ e ∷ []) p) (is_unsent system log p) (unsent_still system log e stands no_loss p) (page_count system log p) (most_in (there system log e stands).new p) i at holds.within within new sent_now in
      omega (arith, after, stepped, less)

  -- what is left of the processes falls, and the steps that are left stay
  pub page_less : is_system system ≡ true → IsLegalBy Stands system log → is_new_page system log (what e) ≡ true
      → sum_by (λ (q : Placed). left_of_process system (log ++ e ∷ []) q.pid) (unended_in (placement system log)) + log_births system (log ++ e ∷ []) + 2 * log_load system (log ++ e ∷ []) + 1 ≤ left_of_syncs system log + 2 * log_load system log
  page_less valid legal new =
      one_less system log e stands no_loss valid legal (ap is_birth is) p (sender_among (placement system log) (e.post).by p right) (λ q. stays_most system log e stands no_loss q.pid (no_birth q.pid) (start_same q.pid)) at_sender
    where
      right : is_by_home (placement system log) (e.post).by (Some p) ≡ true
      right = sym (ap (is_by_right (placement system log) (e.post).by) is) ∙ stands.by_right

      is_new : is_unsent system log p i at ≡ true
      is_new = sym (ap (is_new_page system log) is) ∙ new

      at_sender : (q : Placed) → same_pid q.pid p ≡ true → left_of_process system (log ++ e ∷ []) q.pid + 1 ≤ left_then system log e stands q.pid
      at_sender q same =
          let here : p ≡ q.pid = λ k. record { 0 = sym (eqb-true (q.pid).0 p.0 same) k } in
          subst (λ r. left_of_process system (log ++ e ∷ []) r + 1 ≤ left_then system log e stands r) here (pair_less is_new)
