-- A birth that a cluster takes in may be made there: its parent, where it is here, can fork, and the child is not here.
use Rattle.std.proofs.Common.{◌≡◌, sym, ◌∙◌, ap, subst, true, false, Some, None, true≢false, inl, inr}
use Rattle.std.specs.List.{list_any}
use Rattle.t32_base.specs.declared.process.Pid.{Pid}
use Rattle.sys_text.specs.Valid.{is_system}
use Rattle.proc_state.specs.State.{state_of}
use Rattle.sys_calls.proofs.ForkLaws.{forks_can}
use Rattle.bus_msg.specs.declared.entry.What.TheVariants.{Birth}
use Rattle.bus_msg.specs.declared.entry.Entry.{Entry}
use Rattle.bus_msg.specs.Places.{same_pid}
use Rattle.bus_msg.specs.PlacedAfter.{what}
use Rattle.cluster_core.specs.View.{ClusterView, after_sent}
use Rattle.residents.specs.Held.{Held, Runs, held_of}
use Rattle.cluster_core.specs.Absorbing.{CanBeBorn}
use Rattle.cluster_core.specs.Parts.{AllOwn}
use Rattle.cluster_core.specs.Bearing.{BearsChild}
use Rattle.cluster_core.proofs.absorbing.Fallen.{handed_is}
use Rattle.residents.specs.Bearing.{CanBear, CanForkNow}
use Rattle.cluster_core.specs.Calls.{IsReady, ReadyFor}
use Rattle.cluster_core.specs.Follows.{Follows, StandsBetween, QueuedIn}
use Rattle.cluster_core.specs.Queue.{is_lone, is_rebackup}
use Rattle.cluster_core.proofs.syncs.Batching.{batch_head}
use Rattle.cluster_core.proofs.births.BirthQueued.{birth_head, birth_is}
use Rattle.cluster_core.proofs.births.Births.{parent_not_here}
use Rattle.cluster_core.proofs.births.BirthTaken.{absent}
use Rattle.cluster_core.proofs.absorbing.ByKind.{IsBirth, OneOf, by_kind, by_page, by_sync, is_of_sync}
use Rattle.cluster_core.proofs.absorbing.Following.{left_of}
use Rattle.cluster_core.proofs.renewing.RenewalPosts.{is_of_renewal, renewal_head}
use Rattle.cluster_core.proofs.losses.OwningWaits.{one_of}

module _ (c : ClusterView) (e : Entry) (valid : is_system c.system ≡ true) (mine : AllOwn c.cursor c.here) (r : ReadyFor e c) where
  -- the parent of a birth of another cluster is not here
  foreign : (b : IsBirth (what e)) → held_of c.here b.parent ≡ None → CanBear b.parent b.child c.here
  foreign b none = (
    (λ h there. let both : Some h ≡ None = sym there ∙ none in cc),
    (λ h there. let both : Some h ≡ None = sym there ∙ none in cc),
  )

  -- that of its own birth stands before its fork
  own : (b : IsBirth (what e)) (s : StandsBetween Follows c.system r.log e c) → BearsChild c.system r.log s.before → CanBear b.parent b.child c.here
  own b s x = (λ h there. subst CanForkNow (sym (held_is h there)) (forks_can (state_of x.process) x.stands), λ h there. fresh)
    where
      both : Birth b.parent b.at b.child b.end ≡ what e
      both = sym b.same

      parent_is : b.parent ≡ x.pid
      parent_is = let same = both ∙ birth_is c.system r.log e s.before x s.head in cc

      child_is : b.child ≡ x.child
      child_is = let same = both ∙ birth_is c.system r.log e s.before x s.head in cc

      here_is : c.here ≡ (s.before).here
      here_is = ap (λ (d : ClusterView). d.here) (s.sent ∙ ap (after_sent s.before) x.posts)

      held_is : (h : Held) → held_of c.here b.parent ≡ Some h → h ≡ Runs x.process
      held_is h there =
          let same : Some h ≡ Some (Runs x.process) = sym there ∙ (λ i. held_of (here_is i) (parent_is i)) ∙ x.there in
          cc

      fresh : list_any (λ (d : Pid × Held). same_pid d.0 b.child) c.here ≡ false
      fresh =
          (λ i. list_any (λ (d : Pid × Held). same_pid d.0 (child_is i)) (here_is i))
          ∙ absent c.system valid r.log s.before s.followed s.tried (subst (λ (d : ClusterView). AllOwn d.cursor d.here) (s.sent ∙ ap (after_sent s.before) x.posts) mine) x e (birth_head c.system r.log e s.before x s.head) r.open_log r.open_next

  by_queue : (b : IsBirth (what e)) (s : StandsBetween Follows c.system r.log e c) → QueuedIn c.system r.log s.before → CanBear b.parent b.child c.here
  by_queue b s (inl alone) = absurd (true≢false (sym (left_of c r.log e s alone).lone ∙ ap is_lone b.same))
  by_queue b s (inr (inl y)) = absurd (true≢false (sym (batch_head c.system r.log e s.before y s.head) ∙ ap is_of_sync b.same))
  by_queue b s (inr (inr (inl x))) = own b s x
  by_queue b s (inr (inr (inr (inr y)))) = absurd (true≢false (sym (renewal_head c.system r.log e s.before y s.head) ∙ ap is_of_renewal b.same))
  by_queue b s (inr (inr (inr (inl h)))) = absurd (true≢false (sym (ap is_rebackup (handed_is c.system r.log e s.before h s.head)) ∙ ap is_rebackup b.same))

  by_ready : (b : IsBirth (what e)) → IsReady r.log e c → CanBear b.parent b.child c.here
  by_ready b (inl f) = foreign b (parent_not_here c.system valid r.log e b.parent b.at b.child b.end b.same r.open_log r.open_next c.number f.1 c.here ((f.0).processes).each_once)
  by_ready b (inr s) = by_queue b s (s.followed).queued

  pub may_be_born : CanBeBorn (what e) c.here
  may_be_born = by_kind_of (one_of c.system r.log e r.open_next)
    where
      by_kind_of : OneOf (what e) → CanBeBorn (what e) c.here
      by_kind_of (inl tells) = by_kind (λ w. CanBeBorn w c.here) (λ at letter. tt) (λ pid at end. tt) (λ rests. tt) tt (what e) tells
      by_kind_of (inr (inl of)) = by_page (λ w. CanBeBorn w c.here) (λ pid index. tt) (λ pid index bytes. tt) (what e) of
      by_kind_of (inr (inr (inl l))) = subst (λ w. CanBeBorn w c.here) (sym l.same) tt
      by_kind_of (inr (inr (inr (inl of)))) = by_sync (λ w. CanBeBorn w c.here) (λ pid at index bytes. tt) (λ pid small read took. tt) (what e) of
      by_kind_of (inr (inr (inr (inr (inl b))))) = subst (λ w. CanBeBorn w c.here) (sym b.same) (by_ready b r.ready)
      by_kind_of (inr (inr (inr (inr (inr (inl y)))))) = subst (λ w. CanBeBorn w c.here) (sym y.same) tt
      by_kind_of (inr (inr (inr (inr (inr (inr y)))))) = subst (λ w. CanBeBorn w c.here) (sym y.same) tt
