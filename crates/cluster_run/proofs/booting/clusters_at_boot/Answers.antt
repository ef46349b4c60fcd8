use Rattle.std.proofs.Common.{◌≡◌, ℕ, ◌⊎◌, inl, inr, refl, ap, subst, sym, ◌∙◌, List, [], ◌∷◌, take, Bool, true, false, cond, not, ◌&&◌, Option, Some, None, is_some, arith}
use Rattle.std.specs.Prelude.{◌<◌, ◌^◌, nat_le, option_map}
use Rattle.std.specs.List.{list_all}
use Rattle.std.specs.Option.{IfSome}
use Rattle.std.specs.Arc.{arc_value}
use Rattle.std.proofs.lemmas.Bool.{and_from}
use Rattle.std.proofs.lemmas.Bool.Decides.{nat_tests}
use Rattle.t32_base.specs.declared.process.ClusterNo.{ClusterNo}
use Rattle.sys_text.specs.declared.system.System.{System}
use Rattle.cert_sched.specs.Losses.{was_lost_in}
use Rattle.cert_sched.specs.Scripted.{is_server}
use Rattle.page_server.specs.declared.mem_disk.MemDisk.{MemDisk}
use Rattle.cluster_core.specs.Calls.{IsFirst}
use Rattle.cluster_core.specs.Follows.{Follows}
use Rattle.cluster_core.specs.Serving.{IsFailing}
use Rattle.cluster_core.specs.View.{ClusterView, failing_in}
use Rattle.cluster_turns.specs.Disks.{HasFailed, IsDiskOf, calls_for}
use Rattle.cluster_turns.proofs.DiskCalls.{disk_named}
use Rattle.cluster_run.proofs.Together.{one_started}
use Rattle.cluster_run.proofs.booting.clusters_at_boot.Goals as goal

-- a disk in memory tells which calls fail
told : (disk : Option MemDisk) (server : Bool) (calls : List ℕ) → is_some disk ≡ server → IfSome disk (λ d. d.failing ≡ calls) → option_map (λ (d : MemDisk). Some d.failing) disk ≡ cond server (Some (Some calls)) None
told None server calls there failing = ap (λ t. cond t (Some (Some calls)) None) there
told (Some d) server calls there failing = ap (λ f. Some (Some f)) failing ∙ ap (λ t. cond t (Some (Some calls)) None) there

-- no call was made yet
all_to_come : (calls : List ℕ) → list_all (λ n. nat_le 0 n) calls ≡ true
all_to_come [] = refl
all_to_come (n ∷ calls) = and_from (nat_le 0 n) (list_all (λ n. nat_le 0 n) calls) (let l : nat_le 0 n ≡ true = grind (arith, nat_tests) in l) (all_to_come calls)

ahead : (disk : Option MemDisk) → IfSome disk (λ d. d.made ≡ 0) → IfSome disk (λ d. (d.made < 2 ^ 64) × (list_all (λ n. nat_le d.made n) d.failing ≡ true))
ahead None unused = tt
ahead (Some d) unused = (omega (arith, unused), ap (λ (m : ℕ). list_all (λ n. nat_le m n) d.failing) unused ∙ all_to_come d.failing)

pub loop-number-preserved : goal.loop-number-preserved
loop-number-preserved c =
    one_started system c.args.script.now c.loop-number.number c.loop-number.clusters.items c.push.new.self.items v c.loop-number.invariant
    (record {
      number_is = ap (λ (k : ClusterNo). k.0) begins.number_is;
      first = subst (λ k. IsFirst system k v) (sym begins.number_is) begins;
      disk = disk;
      stands = by_failed v.failed refl c.in_ok-cluster.ensures.fails;
    })
    c.in_ok-push.ensures.items
  where
    system : System
    system = arc_value c.args.system.now

    v : ClusterView
    v = c.in_ok-cluster.cluster

    k : ClusterNo
    k = record { 0 = c.loop-number.number }

    begins : IsFirst system k v
    begins = c.in_ok-cluster.ensures.begins

    none_lost : was_lost_in (take v.cursor []) v.number ≡ false
    none_lost = ap (λ n. was_lost_in (take n []) v.number) begins.cursor

    whole : (a b : Bool) → b ≡ false → (a && not b) ≡ a
    whole true b none = ap not none
    whole false b none = refl

    at_boot : failing_in v.server ≡ cond (is_server v.system v.number) (Some (Some (calls_for v.number c.args.script.now))) None
    at_boot =
        c.in_ok-cluster.ensures.disk ∙ told c.in_ok-disk.disk (is_server system k) (calls_for k c.args.script.now) (c.in_ok-disk.ensures.there ∙ ap (λ (s : System). is_server s k) c.deref-in-loop-number.ensures) c.in_ok-disk.ensures.failing
        ∙ sym (λ i. cond (is_server (begins.system_is i) (begins.number_is i)) (Some (Some (calls_for (begins.number_is i) c.args.script.now))) None)

    disk : IsDiskOf c.args.script.now [] v
    disk = at_boot ∙ sym (λ i. cond (whole (is_server v.system v.number) (was_lost_in (take v.cursor []) v.number) none_lost i) (Some (Some (calls_for v.number c.args.script.now))) None)

    by_failed : (o : Option ℕ) → v.failed ≡ o → IfSome o (λ call. IsFailing v.server call × (v.here ≡ [])) → ((v.failed ≡ None) × Follows system [] v) ⊎ HasFailed c.args.script.now v
    by_failed None unfailed fails = inl (unfailed, c.in_ok-cluster.ensures.follows unfailed (ahead c.in_ok-disk.disk c.in_ok-disk.ensures.unused))
    by_failed (Some call) failed fails =
        let named = disk_named c.args.script.now [] v call disk fails.0 in
        inr (record { call = call; failed = failed; named = named.0; fits = named.1; none = fails.1 })
