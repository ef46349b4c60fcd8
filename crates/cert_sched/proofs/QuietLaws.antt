-- An entry that tells of no emission leads the kernel on by silent steps alone.
use Rattle.std.proofs.Common.{option_and_then, ◌≡◌, ℕ, refl, sym, ◌∙◌, ap, subst, List, [], ◌∷◌, ◌++◌, true, not, Option, Some, None, is_some, true≢false, append-nil}
use Rattle.std.specs.Prelude.{option_map}
use Rattle.std.proofs.lemmas.Bool.{and_parts}
use Rattle.std.proofs.lemmas.Option.{same_Some}
use Rattle.t32_base.specs.declared.process.Pid.{Pid}
use Rattle.t32_base.specs.Small.{SmallState}
use Rattle.sys_text.specs.declared.system.System.{System}
use Rattle.proc_state.specs.State.{ProcState}
use Rattle.plain_kernel.specs.Kernel.{Kernel, process_at, with_process}
use Rattle.plain_kernel.specs.Apply.{apply_all, take_step}
use Rattle.bus_msg.specs.declared.entry.What.{What}
use Rattle.bus_msg.specs.declared.entry.What.TheVariants.{Mail, Birth, Exit, Sync, Rebackup, Done}
use Rattle.bus_msg.specs.declared.entry.Entry.{Entry}
use Rattle.bus_msg.specs.declared.placed.Placed.{Placed}
use Rattle.bus_msg.specs.Places.{unended_in}
use Rattle.bus_msg.specs.PlacedAfter.{what}
use Rattle.cert_sched.specs.Schedule.{after_entry, items_of, plain_after, placement, run_upto, steps_in}
use Rattle.cert_sched.specs.Steps.{after_items, silent_upto}
use Rattle.cert_sched.specs.Kinds.{DoneHolds, KindHolds, after_take, is_silent_rest}
use Rattle.cert_sched.proofs.ListLaws.{list_all-weaker}
use Rattle.cert_sched.proofs.RisingLaws.{NoTwo, rising-apart}
use Rattle.cert_sched.proofs.PidLaws.{placed_pids, apart_fewer}
use Rattle.cert_sched.proofs.LogLaws.{plain_after-snoc}
use Rattle.cert_sched.proofs.RunsLaws.{Quietly, Same, led, led-silent_upto, rest_pids, run_made, runs_made, Struck, quietly_on}
use Rattle.cert_sched.proofs.CameLaws.{is_silent}
use Rattle.cert_sched.proofs.LogLaws.{no_items}
use Rattle.cert_sched.proofs.BirthLaws.{kernel_taken, sync_taken}
use Rattle.plain_kernel.proofs.Taking.{takes}
use Rattle.sys_calls.specs.Take.{taken}

module _ (system : System) (log : List Entry) (e : Entry) (k j : Kernel) (before : plain_after system log ≡ Some k) (after : plain_after system (log ++ e ∷ []) ≡ Some j) where
  leads : apply_all (items_of k (what e)) k ≡ Some j
  leads = sym (plain_after-snoc system log e ∙ ap (λ o. after_entry o e) before) ∙ after

  -- an entry that has no items
  nothing : ((i : Kernel) → items_of i (what e) ≡ []) → Quietly j k
  nothing none = Same k (same_Some k j (sym before ∙ sym (no_items system log e none) ∙ after))

  -- one whose items are a silent run of one process
  one_run : (q : Pid) (at : ℕ) → is_some (silent_upto system log q at) ≡ true → items_of k (what e) ≡ run_upto k q at → Quietly j k
  one_run q at some items =
      let r = run_made k k (q, at) (sym (ap is_some (led-silent_upto system log k (q, at) before)) ∙ some) refl in
      subst (λ x. Quietly x k) (same_Some r.to j (sym r.made ∙ sym (ap (λ is. apply_all is k) items) ∙ leads)) r.quiet

  some_mapped : {A : Type 0} (f : ProcState → A) (o : Option ProcState) (x : A) → option_map f o ≡ Some x → is_some o ≡ true
  some_mapped f None x is = cc
  some_mapped f (Some s) x is = refl

  cut_quietly : (q : Pid) (small : SmallState) (read : List ℕ) (took : Option ℕ) → what e ≡ Sync q small read took → KindHolds system log e (Sync q small read took) → Quietly j k
  cut_quietly q small read (Some g) is kind =
      let t = sync_taken system log e q small read g is kind in
      let r = run_made k k (q, small.steps) (sym (ap is_some (led-silent_upto system log k (q, small.steps) before)) ∙ ap is_some t.reached) refl in
      let here : process_at r.to q ≡ Some (t.made).before = r.here ∙ sym (led-silent_upto system log k (q, small.steps) before) ∙ t.reached in
      let to : with_process r.to q (taken (t.made).before) ≡ j =
      same_Some (with_process r.to q (taken (t.made).before)) j
      (sym (takes q r.to (t.made).before here (t.made).can)
      ∙ sym (kernel_taken system log e q small read g k is before ∙ ap (option_and_then (take_step q)) r.made) ∙ after) in
      quietly_on j r.to k r.quiet (Struck r.to q (t.made).before here (t.made).can (Same (with_process r.to q (taken (t.made).before)) to))
  cut_quietly q small read None is kind =
      one_run q small.steps (some_mapped (λ s. (after_take None s).small) (silent_upto system log q small.steps) small kind.state) (ap (items_of k) is ∙ append-nil (run_upto k q small.steps))

  -- the runs of all, at the end
  end_quietly : (rests : List (Pid × ℕ)) → what e ≡ Done rests → DoneHolds system log e rests → NoTwo (placed_pids (placement system log).placed) → Quietly j k
  end_quietly rests is holds two =
      let named : NoTwo (rest_pids rests) = subst NoTwo (sym holds.named) (rising-apart (placed_pids (unended_in (placement system log))) (apart_fewer (λ (q : Placed). not q.ended) (placement system log).placed two)) in
      let runs = runs_made k rests named (list_all-weaker (is_silent_rest system log) (λ r. is_some (led k r)) (λ r rest. sym (ap is_some (led-silent_upto system log k r before)) ∙ (and_parts _ (is_some (silent_upto system log r.0 r.1)) rest).1) rests holds.silent) in
      subst (λ x. Quietly x k) (same_Some runs.to j (sym runs.made ∙ sym (ap (λ w. apply_all (items_of k w) k) is) ∙ leads)) runs.quiet

  pub went_quietly : (w : What) → what e ≡ w → is_silent w ≡ true → KindHolds system log e w → NoTwo (placed_pids (placement system log).placed) → Quietly j k
  went_quietly (Mail at letter) is quiet kind two = absurd (true≢false (sym quiet))
  went_quietly (Birth parent at child end) is quiet kind two = absurd (true≢false (sym quiet))
  went_quietly (Exit q at end) is quiet kind two = absurd (true≢false (sym quiet))
  went_quietly (Sync q small read took) is quiet kind two = cut_quietly q small read took is kind
  went_quietly (Rebackup to true []) is quiet kind two = absurd kind
  went_quietly (Rebackup to true (r ∷ rs)) is quiet kind two =
      one_run r.pid (steps_in r.state) (ap (λ w. is_some (after_items system log w)) (sym is) ∙ kind.silent) (ap (items_of k) is)
  went_quietly (Done rests) is quiet kind two = end_quietly rests is kind two
  went_quietly _ is quiet kind two = nothing (λ i. ap (items_of i) is)
