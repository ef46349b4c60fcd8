-- Who had a part of a turn is here and could act before it.
use Rattle.std.proofs.Common.{◌≡◌, ℕ, zero, suc, ◌∙◌, ap, sym, refl, subst, arith, Bool, List, Some, true}
use Rattle.t32_base.specs.declared.process.ClusterNo.{ClusterNo}
use Rattle.t32_base.specs.declared.process.Pid.{Pid}
use Rattle.bus_msg.specs.declared.entry.Post.{Post}
use Rattle.quanta.specs.declared.limits.Limits.{Limits}
use Rattle.residents.specs.declared.quantum.Forking.{Forking}
use Rattle.residents.specs.declared.quantum.Quantum.TheVariants.{Moved, Sent, Synced, Forks}
use Rattle.residents.specs.declared.quantum.Sending.{Sending}
use Rattle.residents.specs.ForkingAgain.{RollsAgain}
use Rattle.residents.specs.Quantum.{Moves}
use Rattle.residents.specs.Residents.{RunsOne}
use Rattle.residents.specs.Held.{Held, Rolls, can_act, held_of}
use Rattle.residents.proofs.Quanta.{fork_can, moves_can, sends_can, syncs_can}
use Rattle.residents.proofs.RollingParts.{again_rolls, none_again}

-- the process with a pid is here and can act
pub record ActsThere (limits : Limits) (p : Pid) (here : List (Pid × Held)) : Type 0 where
  pub held : Held
  pub there : held_of here p ≡ Some held
  pub acts : can_act limits held ≡ true

-- who made steps again rolled forward before them; another is as it was
acts_before : (limits : Limits) (p : Pid) (made : ℕ) (old mid : List (Pid × Held)) (was : Held) → RollsAgain p made old mid → held_of mid p ≡ Some was → (made ≡ 0 → can_act limits was ≡ true) → ActsThere limits p old
acts_before limits p zero old mid was again there can = record { held = was; there = ap (λ hs. held_of hs p) (sym (none_again p 0 old mid again refl)) ∙ there; acts = can refl }
acts_before limits p (suc n) old mid was again there can = let r = again_rolls p (suc n) old mid again (omega arith) in record { held = Rolls r.process r.counts r.births; there = r.there; acts = refl }

module _ (limits : Limits) (by : ClusterNo) (childless : Bool) (p : Pid) (old new : List (Pid × Held)) where
  pub moved_acts : RunsOne limits by childless p old Moved new → ActsThere limits p old
  moved_acts r = acts_before limits p r.made old r.mid r.was r.again r.there (λ none. moves_can limits 64 r.was r.now (subst (λ k. Moves limits 64 k r.was r.now) none r.ran))

  pub sent_acts : (sending : Sending) → RunsOne limits by childless p old (Sent sending) new → ActsThere limits p old
  sent_acts sending r = acts_before limits p r.made old r.mid r.was r.again r.there (λ none. sends_can limits 64 r.made r.was sending r.now (r.ran).0)

  pub synced_acts : (posts : List Post) → RunsOne limits by childless p old (Synced posts) new → ActsThere limits p old
  synced_acts posts r = acts_before limits p r.made old r.mid r.was r.again r.there (λ none. syncs_can limits by r.was posts r.now (r.ran).1)

  pub fork_acts : (forking : Forking) → RunsOne limits by childless p old (Forks forking) new → ActsThere limits p old
  fork_acts forking r = acts_before limits p r.made old r.mid r.was r.again r.there (λ none. fork_can limits 64 r.made r.was forking r.now r.ran)
