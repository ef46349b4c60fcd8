-- Which processes had not ended before an entry that may bear one.
use Rattle.std.proofs.Common.{◌≡◌, refl, sym, ◌∙◌, ap, [], ◌∷◌, Bool, true, false, cond, not, ◌&&◌, Option, Some, None, is_some}
use Rattle.std.specs.Option.{option_or}
use Rattle.std.proofs.lemmas.List.Folds.{find-append}
use Rattle.t32_base.specs.declared.process.Pid.{Pid}
use Rattle.bus_msg.specs.declared.entry.What.{What}
use Rattle.bus_msg.specs.declared.entry.What.TheVariants.{Birth}
use Rattle.bus_msg.specs.declared.placed.Placed.{Placed}
use Rattle.bus_msg.specs.Places.{Places, same_pid, placed_at, unended_at}
use Rattle.bus_msg.specs.PlacedAfter.{placed_after, with_birth, child_of}
use Rattle.cert_sched.specs.Deeds.{is_birth_of}
use Rattle.cert_sched.specs.Account.{is_exit_of}
use Rattle.cert_sched.proofs.StayingUnended.{unended_before}

-- the birth of another leaves where a process is found
pub birth_beside : (p child : Pid) (places : Places) (o : Option Placed) → same_pid child p ≡ false → unended_at (with_birth places child o) p ≡ unended_at places p
birth_beside p child places None apart = refl
birth_beside p child places (Some q) apart =
    find-append (λ (q : Placed). same_pid q.pid p && not q.ended) places.placed (child_of q child ∷ [])
    ∙ ap (λ (b : Bool). option_or (unended_at places p) (cond (b && true) (Some (child_of q child)) None)) apart ∙ or_none (unended_at places p)
  where
    or_none : (o : Option Placed) → option_or o None ≡ o
    or_none None = refl
    or_none (Some r) = refl

-- who has not ended after an entry that does not bear it had not ended before, and the entry is not its exit
pub before_unended : (w : What) (places : Places) (p : Pid) → is_birth_of p w ≡ false → is_some (unended_at (placed_after places w) p) ≡ true → (is_exit_of p w ≡ false) × (is_some (unended_at places p) ≡ true)
before_unended (Birth parent at child end) places p unborn there = (refl, sym (ap is_some (birth_beside p child places (placed_at places parent) unborn)) ∙ there)
before_unended w places p unborn there = unended_before w refl places p there
