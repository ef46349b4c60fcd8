-- A cluster goes on to follow a log where one process made steps again, and forks among them.
use Rattle.std.proofs.Common.{◌≡◌, ℕ, List, [], inl, inr, subst, sym, true}
use Rattle.t32_base.specs.declared.process.Pid.{Pid}
use Rattle.sys_text.specs.Valid.{is_system}
use Rattle.bus_msg.specs.declared.entry.Entry.{Entry}
use Rattle.cert_sched.specs.Legal.{MayStand}
use Rattle.cluster_core.specs.Follows.{Follows, IsOpen}
use Rattle.residents.specs.ForkingAgain.{NoPart, Part, RollsAgain, RollsPart}
use Rattle.cluster_core.specs.View.{ClusterView}
use Rattle.residents.specs.Held.{Held}
use Rattle.cluster_core.proofs.forks.ForkedOn.{forks_again_follows}
use Rattle.cluster_core.proofs.rolling.RollsAgain.{rolls_again_follows}

module _ (c : ClusterView) (log : List Entry) (p : Pid) (valid : is_system c.system ≡ true) (empty : c.queue ≡ []) (go : IsOpen MayStand c.system log) where
  abbrev FollowsWith : List (Pid × Held) → Type 0
  FollowsWith here = Follows c.system log (record c { here = here })

  part_follows : (n : ℕ) (old new : List (Pid × Held)) → FollowsWith old → RollsPart p n old new → FollowsWith new
  part_follows n old new f (inl steps) = subst FollowsWith (sym steps.here) (rolls_again_follows (record c { here = old }) log p n steps.was steps.now valid empty go f steps.there steps.some steps.rolls)
  part_follows n old new f (inr fork) = let k = fork.1 in subst FollowsWith (sym k.here) (forks_again_follows (record c { here = old }) log p k.process k.counts k.child k.births valid empty go f k.there k.forks)

  pub again_follows : (n : ℕ) (old new : List (Pid × Held)) → RollsAgain p n old new → FollowsWith old → FollowsWith new
  again_follows _ _ _ NoPart f = f
  again_follows _ _ _ (Part {m} {old} {mid} before k new part) f = part_follows k mid new (again_follows m old mid before f) part
