use Rattle.std.proofs.Common.{◌≡◌, ℕ, subst, sym, ap, ◌∙◌, List, [], Option, Some, None, refl}
use Rattle.std.specs.Option.{IfSome}
use Rattle.std.specs.List.{list_all}
use Rattle.std.specs.Arc.{arc_value}
use Rattle.t32_base.specs.declared.process.Pid.{Pid}
use Rattle.sys_text.specs.declared.system.System.{System}
use Rattle.bus_msg.specs.declared.entry.Post.{Post}
use Rattle.cluster_core.specs.Sent.{is_sent}
use Rattle.cert_sched.specs.Losses.{is_from}
use Rattle.cert_sched.specs.Schedule.{places_at_boot}
use Rattle.log_laws.specs.records.Kept.{KeepsRecords}
use Rattle.cluster_core.specs.View.{ClusterView, limits_of}
use Rattle.residents.specs.Owing.{duty_in}
use Rattle.residents.specs.Held.{Held}
use Rattle.cluster_core.specs.Booting.{AreBooted}
use Rattle.cluster_core.specs.Follows.{Follows}
use Rattle.cluster_core.specs.Parts.{AllOwn}
use Rattle.cluster_core.specs.Serving.{BeginsToServe, IsFailing}
use Rattle.cluster_core.proofs.boot.Booted.{boot_view, boot_follows, boot_own, placed_at_boot}
use Rattle.cluster_core.proofs.cluster.Cluster.boot.Goals as goal

pub parts_at_boot-requires-clause-places : goal.parts_at_boot-requires-clause-places
parts_at_boot-requires-clause-places g c = c.in_ok-places.ensures ∙ ap places_at_boot (c.deref.ensures ∙ sym c.deref-2.ensures) ∙ placed_at_boot c.deref-2.result.now

pub returns-clause-follows : goal.returns-clause-follows
returns-clause-follows g c unfailed ahead =
    let system : System = arc_value c.args.system.now in
    let here = c.in_ok-parts.parts.here.here in
    let recs = c.in_ok-parts.parts.records in
    let places : c.in_ok-places.places ≡ places_at_boot system = c.in_ok-places.ensures ∙ ap places_at_boot c.deref.ensures in
    let shared : arc_value c.in_ok-clone.field-0 ≡ system = c.in_ok-clone.ensures.cases in
    let booted : AreBooted system c.args.number here = subst (λ s. AreBooted s c.args.number here) c.deref-2.ensures (c.in_ok-parts.ensures.here unfailed) in
    let kept : KeepsRecords system [] c.args.number recs = subst (λ s. KeepsRecords s [] c.args.number recs) c.deref-2.ensures (c.in_ok-parts.ensures.records unfailed) in
    let server = c.in_ok-parts.parts.server in
    let failed = c.in_ok-parts.parts.failed in
    let begins : BeginsToServe system server = subst (λ s. BeginsToServe s server) c.deref-2.ensures (c.in_ok-parts.ensures.server unfailed) in
    let sound = c.in_ok-parts.ensures.ahead unfailed ahead in
    let old : ClusterView = record (boot_view system c.args.number here recs server failed) { system = arc_value c.in_ok-clone.field-0; places = c.in_ok-places.places; family = c.none.result; owed = c.none-2.result; queue = c.new.result.items } in
    let same : old ≡ boot_view system c.args.number here recs server failed = λ i. record (boot_view system c.args.number here recs server failed) { system = shared i; places = places i; family = c.none.ensures i; owed = c.none-2.ensures i; queue = c.new.ensures.items i } in
    subst (Follows system []) (sym same) (boot_follows system c.args.number here recs server failed c.requires.valid booted kept (c.in_ok-parts.ensures.there ∙ c.requires.disk) begins (unfailed, sound))

pub invariant_of-result : goal.invariant_of-result
invariant_of-result g c =
    let system : System = arc_value c.args.system.now in
    let shared : arc_value c.in_ok-clone.field-0 ≡ system = c.in_ok-clone.ensures.cases in
    record {
      valid = rw shared c.requires.valid;
      has = rw shared c.requires.has;
      duty_are = c.in_ok-parts.ensures.duty ∙ ap (λ (s : System). duty_in (limits_of s) c.in_ok-places.places here) (c.deref-2.ensures ∙ sym shared);
      residents = by_failed c.in_ok-parts.parts.failed refl;
      own = ap (list_all (λ (post : Post). is_from c.args.number post.by)) c.new.ensures.items;
      of_kind = ap (list_all (λ (post : Post). is_sent post.what)) c.new.ensures.items;
    }
  where
    here : List (Pid × Held)
    here = c.in_ok-parts.parts.here.here

    by_failed : (o : Option ℕ) → c.in_ok-parts.parts.failed ≡ o → AllOwn 0 here
    by_failed None unfailed = boot_own (arc_value c.args.system.now) c.args.number here (subst (λ s. AreBooted s c.args.number here) c.deref-2.ensures (c.in_ok-parts.ensures.here unfailed))
    by_failed (Some call) failed = subst (AllOwn 0) (sym (subst (λ (o : Option ℕ). IfSome o (λ call. here ≡ [])) failed c.in_ok-parts.ensures.none)) tt

pub returns-clause-fails : goal.returns-clause-fails
returns-clause-fails g c = by_failed c.in_ok-parts.parts.failed c.in_ok-parts.ensures.none c.in_ok-parts.ensures.fails
  where
    by_failed : (o : Option ℕ) → IfSome o (λ call. c.in_ok-parts.parts.here.here ≡ []) → IfSome o (IsFailing c.in_ok-parts.parts.server) → IfSome o (λ call. IsFailing c.in_ok-parts.parts.server call × (c.in_ok-parts.parts.here.here ≡ []))
    by_failed None none fails = tt
    by_failed (Some call) none fails = (fails, none)

pub returns-clause-begins : goal.returns-clause-begins
returns-clause-begins g c =
    let system : System = arc_value c.args.system.now in
    record {
      system_is = c.in_ok-clone.ensures.cases;
      number_is = refl;
      cursor = refl;
      places = c.in_ok-places.ensures ∙ ap places_at_boot c.deref.ensures ∙ placed_at_boot system;
      family = c.none.ensures;
      queue = c.new.ensures.items;
      tried = refl;
      steps = refl;
    }
