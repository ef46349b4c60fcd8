-- What a turn makes of a cluster and of its bus.
use Rattle.std.specs.Prelude.{◌≡◌, ◌+◌, ◌≤◌, ◌<◌, ◌⊎◌, ℕ, Bool, true, false, List, [], ◌∷◌, ◌++◌, length, Some, is_some, ⊤, drop}
use Rattle.std.specs.List.{list_all}
use Rattle.t32_base.specs.declared.process.ClusterNo.{ClusterNo}
use Rattle.bus_msg.specs.declared.entry.Post.{Post}
use Rattle.bus_msg.specs.declared.entry.Entry.{Entry}
use Rattle.cert_sched.specs.Losses.{was_lost_in}
use Rattle.cert_sched.specs.Rules.{is_over}
use Rattle.cert_sched.specs.Appended.{entry_of}
use Rattle.cert_sched.specs.Legal.{IsLegalBy, MayStand}
use Rattle.cluster_core.specs.View.{ClusterView, head_of}
use Rattle.bus_order.specs.Script.{is_unpassed}
use Rattle.bus_order.specs.View.{BusView}
use Rattle.cluster_turns.specs.declared.turn.Turn.{Turn}
use Rattle.cluster_turns.specs.declared.turn.Turn.TheVariants.{Moved, Waits, Rests, Over, Lost}
use Rattle.cluster_turns.specs.declared.turn.Tried.{Tried}
use Rattle.cluster_turns.specs.declared.turn.Tried.TheVariants.{On as GoesOn, Over as IsOverThere, Lost as IsLostThere}
use Rattle.cluster_turns.specs.Along.{IsBeside, IsOwned, IsPosting, IsShown, IsStopped, is_done_with, upto}
use Rattle.cluster_turns.specs.declared.offers.Offered.{Offered}
use Rattle.cluster_turns.specs.Disks.{IsDiskOf}
use Rattle.cluster_turns.specs.Offers.{Adds, IsLeft, IsTold, OfferIs, Visits}
use Rattle.cluster_turns.specs.Progress.{GetsOn, IsAtMost, IsOver, Rests as RestsThere, left_of_posts, remaining_of}

-- the cluster has told so at the bus that its port shows
abbrev pub HasTold : Bool → ClusterView → BusView → Type 0
HasTold alone c b = (left : BusView) × IsLeft alone left b × IsTold c left

-- How a turn ended. The cluster has nothing to send, and where it rests it told so; or it has followed the log to its end, or to its own loss.
abbrev pub EndsAs : Bool → Turn → BusView → ClusterView → Type 0
EndsAs alone Moved b c = c.queue ≡ []
EndsAs alone Waits b c = c.queue ≡ []
EndsAs alone Rests b c = (c.queue ≡ []) × HasTold alone c b
EndsAs alone Over b c = (c.cursor ≡ upto c.number b.system b.log c.cursor) × (is_done_with c.number b.system b.log c.cursor ≡ true)
EndsAs alone Lost b c = ⊤

-- where it stands then: along the bus that its port shows; or it was cut off, and has stopped
abbrev pub StandsAs : Type 0 → ℕ → Turn → BusView → ClusterView → Type 0
StandsAs Shows from Moved b c = IsShown Shows from b c
StandsAs Shows from Waits b c = IsShown Shows from b c
StandsAs Shows from Rests b c = IsShown Shows from b c
StandsAs Shows from Over b c = IsShown Shows from b c
StandsAs Shows from Lost b c = IsStopped b c

-- How the one post of a cluster was tried. It goes on posting, on a longer log; or it has followed the log to its end or to its own loss; or it was lost at a step.
abbrev pub TriesAs : Bool → Type 0 → ℕ → Tried → BusView → BusView → ClusterView → Type 0
TriesAs alone Shows from GoesOn b after c = IsPosting Shows from after c × (length b.log < length after.log)
TriesAs alone Shows from IsOverThere b after c = IsShown Shows from after c × EndsAs alone Over after c
TriesAs alone Shows from IsLostThere b after c = IsStopped after c

-- a bus that no other has, whose log goes on
abbrev pub GoesOwn : BusView → Type 0
GoesOwn b = IsOwned b × (is_over b.system b.log ≡ false)

-- so many words as before are left, and each entry that was added leaves a post less to send, at least; or fewer words are left
abbrev pub Spends : BusView → BusView → Type 0
Spends b after = (length after.left < length b.left) ⊎ ((length after.left ≡ length b.left) × (left_of_posts after.system after.log + length after.log ≤ left_of_posts b.system b.log + length b.log))

-- posts of a cluster were sent to it, and words that were due were carried out
pub record SendsOwn (k : ClusterNo) (b after : BusView) : Type 0 where
  pub goes_on : GoesOwn after
  pub adds : Adds k b after
  pub spends : Spends b after

-- a cluster that lived and had come up to a place was lost behind that by a word that was left, or the run has ended by one
pub record LosesOwn (k : ClusterNo) (cursor : ℕ) (b after : BusView) : Type 0 where
  pub owned : IsOwned after
  pub adds : Adds k b after
  pub ends : (was_lost_in (drop cursor after.log) k ≡ true) ⊎ IsOver after
  pub fewer : length after.left < length b.left

-- the head of a cluster was tried: it was sent, or the cluster had not seen all, or it was lost by a word, or the run has ended by one
abbrev pub TriesOwn : ClusterNo → (cursor : ℕ) → Tried → BusView → BusView → Type 0
TriesOwn k cursor GoesOn b after = SendsOwn k b after
TriesOwn k cursor IsOverThere b after = LosesOwn k cursor b after
TriesOwn k cursor IsLostThere b after = LosesOwn k cursor b after

-- all posts of a cluster were sent, or it was lost, or the log is over; where it had one, fewer words are left or the log is longer
pub record SendsAll (b after : BusView) (c new : ClusterView) : Type 0 where
  pub owned : IsOwned after
  pub adds : Adds c.number b after
  pub spends : Spends b after
  pub empty : is_over after.system after.log ≡ false → was_lost_in (drop new.cursor after.log) new.number ≡ false → new.queue ≡ []
  pub some : is_some (head_of c.queue) ≡ true → (length after.left < length b.left) ⊎ (length b.log < length after.log)

-- the cluster has its mark there, and the log is as it was; or it is over; or fewer words are left
abbrev pub HasRested : ClusterNo → BusView → BusView → Type 0
HasRested k b after = IsOver after ⊎ (length after.left < length b.left) ⊎ ((length after.left ≡ length b.left) × RestsThere b after k.0 (k.0 + 1))

-- a cluster in which nothing can move told so
pub record TellsOwn (k : ClusterNo) (b after : BusView) : Type 0 where
  pub owned : IsOwned after
  pub adds : Adds k b after
  pub rests : HasRested k b after

-- the log is over, or fewer words are left, or fewer posts are left to send, or the log is as it was
abbrev pub HasSpent : BusView → BusView → Type 0
HasSpent b after = IsOver after ⊎ (length after.left < length b.left) ⊎ ((length after.left ≡ length b.left) × ((left_of_posts after.system after.log < left_of_posts b.system b.log) ⊎ (after.log ≡ b.log)))

-- What the turn of a cluster makes of it. The cluster has nothing to send, or it was lost, or the log is over. Where it added to the log, fewer words are left, or fewer posts
-- are left to send.
pub record TurnsOwn (b after : BusView) (c new : ClusterView) : Type 0 where
  pub owned : IsOwned after
  pub adds : Adds c.number b after
  pub empty : is_over after.system after.log ≡ false → was_lost_in (drop new.cursor after.log) new.number ≡ false → new.queue ≡ []
  pub spends : HasSpent b after
  pub lasts : IsOver after ⊎ IsAtMost (remaining_of b c) (remaining_of after new)
  pub gets_on : GetsOn b after (remaining_of b c) (remaining_of after new) (c.number).0 ((c.number).0 + 1)

-- a cluster that had seen all of a log that goes on sent its head, and the bus has no entry behind it
pub record IsSent (log : List Entry) (c : ClusterView) (post : Post) (after : BusView) : Type 0 where
  pub beside : IsBeside log c
  pub passed : list_all (is_unpassed c.number log c.steps) after.script ≡ true
  pub disk : IsDiskOf after.script log c
  pub seen : c.cursor ≡ length log
  pub goes_on : is_over c.system log ≡ false
  pub head : head_of c.queue ≡ Some post
  pub tried : c.tried ≡ true
  pub legal : IsLegalBy MayStand c.system log
  pub system : c.system ≡ after.system
  pub longer : after.log ≡ log ++ entry_of c.system log post ∷ []

-- the bus has the entry that the head of a cluster became
abbrev pub HasSent : BusView → ClusterView → Type 0
HasSent after c = (log : List Entry) × (post : Post) × IsSent log c post after

-- the head of a cluster was offered
abbrev pub OffersHead : Bool → ClusterView → BusView → BusView → Offered → Type 0
OffersHead alone c old new offered = (post : Post) × (head_of c.queue ≡ Some post) × Visits alone c.number old new (OfferIs c.number c.cursor post offered)
