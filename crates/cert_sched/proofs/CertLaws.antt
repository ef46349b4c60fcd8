-- A cert of a log, with one more entry, is one of the log with that entry.
use Rattle.std.proofs.Common.{◌≡◌, ℕ, refl, sym, ◌∙◌, ap, subst, Result, Ok, Err, List, [], ◌∷◌, ◌++◌, Bool, true, false, cond, Option, Some, None, unwrap_or}
use Rattle.std.specs.Prelude.{max, OnOk}
use Rattle.std.specs.Ordering.{nat_cmp}
use Rattle.std.specs.Cmp.{nat_cmp_total, unsigned_tied}
use Rattle.std.specs.FinMap.{find}
use Rattle.std.specs.FinMap.Entries.{find-put}
use Rattle.t32_base.specs.declared.process.Pid.{Pid}
use Rattle.plain_kernel.specs.Kernel.{Kernel}
use Rattle.bus_msg.specs.declared.entry.What.{What}
use Rattle.bus_msg.specs.declared.entry.What.TheVariants.{Rebackup, Done}
use Rattle.bus_msg.specs.declared.entry.Entry.{Entry}
use Rattle.bus_msg.specs.Places.{Places, same_pid}
use Rattle.bus_msg.specs.PlacedAfter.{what}
use Rattle.cert_sched.specs.Schedule.{done, items_of, items_in, schedule_of, done_after, placement}
use Rattle.cert_sched.specs.Scripted.{is_done}
use Rattle.cert_sched.specs.Rules.{ends_run}
use Rattle.cert_sched.specs.CertAfter.{CertView, StartsSchedule, KeepsSchedule, steps_of, added, count_in, raised, raised_at, cert_after}
use Rattle.cert_sched.proofs.LogLaws.{schedule_of-snoc}
use Rattle.cert_sched.proofs.StepLaws.{applied, done_kernel, done_after-raised, done_after-none, kind_later, raised_same}
use Rattle.cert_sched.proofs.Induction.{is_over-snoc}

-- ---- the items

-- by the counts of a kernel an entry adds its items there
added_is : (k : Kernel) (w : What) → added (done k) w ≡ items_of k w
added_is k (Rebackup to true []) = refl
added_is k (Rebackup to true (r ∷ rs)) = refl
added_is k _ = refl

same_added : (f g : Pid → ℕ) (w : What) → ((p : Pid) → f p ≡ g p) → added f w ≡ added g w
same_added f g w same = ap (λ h. added h w) (λ i p. same p i)

-- ---- the counts

-- a count that is raised, as a function
raised_done : (o : Option (Pid × ℕ)) (counts : List (ℕ × ℕ)) (q : Pid) → steps_of (raised o counts) q ≡ raised_at o (steps_of counts) q
raised_done None counts q = refl
raised_done (Some r) counts q =
    ap (λ o. unwrap_or o 0) (find-put nat_cmp nat_cmp_total q.0 (r.0).0 (max r.1 (steps_of counts r.0)) counts)
    ∙ ap (λ b. unwrap_or (cond b (Some (max r.1 (steps_of counts r.0))) (find nat_cmp q.0 counts)) 0) (unsigned_tied q.0 (r.0).0)
    ∙ by_test (same_pid q r.0)
  where
    by_test : (b : Bool) → unwrap_or (cond b (Some (max r.1 (steps_of counts r.0))) (find nat_cmp q.0 counts)) 0 ≡ cond b (max r.1 (steps_of counts r.0)) (steps_of counts q)
    by_test true = refl
    by_test false = refl

-- ---- the end

ends_by_done : (places : Places) (w : What) → ends_run places w ≡ false → is_done w ≡ false
ends_by_done places (Done rests) runs = runs
ends_by_done places _ runs = refl

-- ---- the whole

-- the cert before the first entry
pub none_starts : StartsSchedule (record { items = []; done = [] })
unfolding schedule_of
none_starts system = record { items = refl; steps = λ over p. sym (done_after-none system p) }

-- the cert with one more entry, where that stands
pub after_keeps : (c : CertView) (e : Entry) → KeepsSchedule c (cert_after c (what e)) e
after_keeps c e system log is stands =
    let a = applied system log e stands.applies in
    let counts : (p : Pid) → steps_of c.done p ≡ done_after system log p = is.steps stands.placed.2 in
    let kernel : (p : Pid) → steps_of c.done p ≡ done a.old p = λ p. counts p ∙ done_kernel system log a.old p a.before in
    record {
      items =
          ap (λ items. items ++ added (steps_of c.done) (what e)) is.items
          ∙ ap (λ items. schedule_of system log ++ items) (same_added (steps_of c.done) (done a.old) (what e) kernel ∙ added_is a.old (what e) ∙ ap (λ k. items_in k e) (sym a.before))
          ∙ sym (schedule_of-snoc system log e);
      steps = λ over p.
          raised_done (count_in (what e)) c.done p ∙ raised_same (count_in (what e)) (steps_of c.done) (done_after system log) p counts
          ∙ sym (done_after-raised system log e p (ends_by_done (placement system log) (what e) (sym (is_over-snoc system log e) ∙ over)) (kind_later system log e (what e) stands.kind) stands.applies);
    }

-- a call that leaves the items and the counts of the cert with one more entry
pub kept : {E : Type 0} (r : Result (Unit {0}) E) (old inside new : CertView) (e : Entry) → inside ≡ old → OnOk r (new.items ≡ inside.items ++ added (steps_of inside.done) (what e)) → OnOk r (new.done ≡ raised (count_in (what e)) inside.done)
    → OnOk r (KeepsSchedule old new e)
kept (Ok done) old inside new e same items counts =
    let is : new ≡ cert_after old (what e) = (λ i. record { items = items i; done = counts i }) ∙ ap (λ c. cert_after c (what e)) same in
    subst (λ c. KeepsSchedule old c e) (sym is) (after_keeps old e)
kept (Err refused) old inside new e same items counts = tt
