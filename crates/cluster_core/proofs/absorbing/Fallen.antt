-- What an entry leaves of a queue: a page that comes falls at the loss that moves its process, and nothing else that is queued so far falls.
use Rattle.std.proofs.Common.{◌≡◌, ℕ, zero, suc, ◌+◌, arith, length, refl, sym, ◌∙◌, ap, List, [], ◌∷◌, ◌++◌, Bool, true, false, cond, not, ◌&&◌, Option, Some, None, true≢false, ◌⊎◌, inl, inr}
use Rattle.std.specs.Prelude.{option_map, slice_index_or}
use Rattle.std.specs.List.{list_all}
use Rattle.std.specs.Option.{option_map_or}
use Rattle.std.proofs.lemmas.Bool.{and_from, and_parts, not-true}
use Rattle.std.proofs.lemmas.Option.{same_Some}
use Rattle.t32_base.specs.declared.process.Pid.{Pid}
use Rattle.t32_base.specs.declared.process.ClusterNo.{ClusterNo}
use Rattle.sys_text.specs.declared.system.System.{System}
use Rattle.proc_state.specs.State.{ProcState, state_of}
use Rattle.bus_msg.specs.declared.entry.What.{What}
use Rattle.bus_msg.specs.declared.entry.What.TheVariants.{PageIs, Crash, Rebackup}
use Rattle.bus_msg.specs.declared.entry.Post.{Post}
use Rattle.bus_msg.specs.declared.entry.Entry.{Entry}
use Rattle.bus_msg.specs.Places.{Places}
use Rattle.bus_msg.specs.PlacedAfter.{what}
use Rattle.cert_sched.specs.Appended.{entry_of}
use Rattle.cluster_core.specs.Sent.{SentMayStand, is_sent}
use Rattle.cert_sched.specs.Told.{cluster_lost}
use Rattle.checkpoint_laws.specs.batches.Underway.{page_left, posts_left}
use Rattle.cluster_core.specs.Follows.{Follows, StandsBetween}
use Rattle.cluster_core.specs.Queue.{AreTogether, IsQueued, IsQueueLegal, Nothing, One, Queued, falls, is_lone, is_moved_from, is_rebackup, left_queued, posts_of, are_plain}
use Rattle.cluster_core.specs.Bearing.{BearsChild}
use Rattle.cluster_core.specs.HandingOn.{HandsOver}
use Rattle.cluster_core.specs.Syncing.{Synchronises}
use Rattle.cluster_core.specs.View.{ClusterView, after_sent, head_of}
use Rattle.cluster_core.proofs.absorbing.ByKind.{by_page, is_of_page}

-- the one post of a queue, if it is one, does not fall
abbrev pub NoneFalls : Places → What → List Post → Type 0
NoneFalls before w queue = (post : Post) → queue ≡ post ∷ [] → falls before w post.what ≡ false

pub empty_falls_none : (before : Places) (w : What) → NoneFalls before w []
empty_falls_none before w post is = cc

-- so it is where the whole queue is left
pub left_falls_none : (before : Places) (w : What) (queue : List Post) → left_queued before w queue ≡ queue → NoneFalls before w queue
left_falls_none before w queue left post is = by_test (falls before w post.what) (sym (ap (left_queued before w) is) ∙ left ∙ is)
  where
    by_test : (b : Bool) → cond b [] (post ∷ []) ≡ post ∷ [] → b ≡ false
    by_test true h = let none : ◌≡◌ {A = List Post} [] (post ∷ []) = h in cc
    by_test false h = refl

-- the last post alone may go
pub left_of_last : (before : Places) (w : What) (front : List Post) (last : Post) → falls before w last.what ≡ true → left_queued before w (front ++ last ∷ []) ≡ front
left_of_last before w [] last is = ap (λ b. cond b [] (last ∷ [])) is
left_of_last before w (post ∷ []) last is = ap (λ ps. post ∷ ps) (left_of_last before w [] last is)
left_of_last before w (post ∷ next ∷ front) last is = ap (λ ps. post ∷ ps) (left_of_last before w (next ∷ front) last is)

pub left_by_last : (before : Places) (w : What) (queue : List Post) (n : ℕ) (last : Post) → length queue ≡ n + 1 → last ≡ slice_index_or queue n last → falls before w last.what ≡ false → left_queued before w queue ≡ queue
left_by_last before w [] n last long is stays = absurd (omega (arith, long))
left_by_last before w (post ∷ []) zero last long is stays = ap (λ b. cond b [] (post ∷ [])) (ap (λ (p : Post). falls before w p.what) (sym is) ∙ stays)
left_by_last before w (post ∷ []) (suc n) last long is stays = absurd (omega (arith, long))
left_by_last before w (post ∷ next ∷ rest) zero last long is stays = absurd (omega (arith, long))
left_by_last before w (post ∷ next ∷ rest) (suc n) last long is stays = ap (λ ps. post ∷ ps) (left_by_last before w (next ∷ rest) n last (omega (arith, long)) is stays)

-- what holds of each post holds of each that is left
pub left_all : (t : Post → Bool) (before : Places) (w : What) (queue : List Post) → list_all t queue ≡ true → list_all t (left_queued before w queue) ≡ true
left_all t before w [] all = refl
left_all t before w (post ∷ []) all = by_test (falls before w post.what)
  where
    by_test : (b : Bool) → list_all t (cond b [] (post ∷ [])) ≡ true
    by_test true = refl
    by_test false = all
left_all t before w (post ∷ next ∷ rest) all =
    let parts = and_parts (t post) (list_all t (next ∷ rest)) all in
    and_from (t post) (list_all t (left_queued before w (next ∷ rest))) parts.0 (left_all t before w (next ∷ rest) parts.1)

-- ---- an entry that loses no cluster

-- no page that is asked for or comes falls
pub page_stays_queued : (before : Places) (w queued : What) → is_of_page queued ≡ true → cluster_lost w ≡ None → falls before w queued ≡ false
page_stays_queued before w queued of none = by_page (λ x. falls before w x ≡ false) (λ pid index. refl) (λ pid index bytes. ap (λ o. option_map_or (is_moved_from before pid) o false) none) queued of

plain_stays : (before : Places) (w queued : What) → is_rebackup queued ≡ false → cluster_lost w ≡ None → falls before w queued ≡ false
plain_stays before w (Rebackup to fresh recs) plain none = absurd (true≢false plain)
plain_stays before w (PageIs pid index bytes) plain none = ap (λ o. option_map_or (is_moved_from before pid) o false) none
plain_stays before w _ plain none = refl

-- nor anything else that is no new backup
pub plain_left : (before : Places) (w : What) (queue : List Post) → cluster_lost w ≡ None → are_plain queue ≡ true → left_queued before w queue ≡ queue
plain_left before w [] none plain = refl
plain_left before w (post ∷ []) none plain =
    ap (λ b. cond b [] (post ∷ [])) (plain_stays before w post.what (not-true (is_rebackup post.what) (and_parts (not (is_rebackup post.what)) true plain).0) none)
plain_left before w (post ∷ next ∷ rest) none plain =
    ap (λ ps. post ∷ ps) (plain_left before w (next ∷ rest) none (and_parts (not (is_rebackup post.what)) (are_plain (next ∷ rest)) plain).1)

-- ---- a batch

pub batch_left : (before : Places) (w : What) (k : ClusterNo) (p : Pid) (s : ProcState) (read : List ℕ) (took : Option ℕ) (indices : List ℕ) → left_queued before w (posts_left k p s read took indices) ≡ posts_left k p s read took indices
batch_left before w k p s read took [] = refl
batch_left before w k p s read took (i ∷ []) = refl
batch_left before w k p s read took (i ∷ j ∷ indices) = ap (λ ps. page_left k p s i ∷ ps) (batch_left before w k p s read took (j ∷ indices))

-- ---- what is queued together

lone_plain : (w : What) → is_lone w ≡ true → not (is_rebackup w) ≡ true
lone_plain (Rebackup to fresh recs) lone = absurd (true≢false (sym lone))
lone_plain _ lone = refl

batch_plain : (k : ClusterNo) (p : Pid) (s : ProcState) (read : List ℕ) (took : Option ℕ) (indices : List ℕ) → are_plain (posts_left k p s read took indices) ≡ true
batch_plain k p s read took [] = refl
batch_plain k p s read took (i ∷ indices) = batch_plain k p s read took indices

-- but for the new backup of a family that was moved it is plain
pub form_plain : (system : System) (log : List Entry) (c : ClusterView) → IsQueued c.queue ⊎ Synchronises system log c ⊎ BearsChild system log c → are_plain c.queue ≡ true
form_plain system log c (inl alone) = by_queue alone.queued alone.posts alone.together
  where
    by_queue : (q : Queued) → c.queue ≡ posts_of q → AreTogether q → are_plain c.queue ≡ true
    by_queue Nothing is together = ap are_plain is
    by_queue (One post) is together = ap are_plain is ∙ ap (λ b. b && true) (lone_plain post.what together)
form_plain system log c (inr (inl y)) = ap are_plain y.posts ∙ batch_plain c.number y.pid (state_of y.process) y.read y.took y.indices
form_plain system log c (inr (inr b)) = ap are_plain b.posts

-- the entry that such a post became
pub handed_is : (system : System) (log : List Entry) (e : Entry) (c : ClusterView) (h : HandsOver c) → option_map (entry_of system log) (head_of c.queue) ≡ Some e → what e ≡ Rebackup h.to false h.recs
handed_is system log e c h head =
    ap what (sym (same_Some (entry_of system log h.post) e (ap (λ ps. option_map (entry_of system log) (head_of ps)) (sym h.posts) ∙ head))) ∙ h.standing

-- ---- after the head was sent

pub sent_loses_none : (w : What) → is_sent w ≡ true → cluster_lost w ≡ None
sent_loses_none (Crash k cause) sent = absurd (true≢false (sym sent))
sent_loses_none _ sent = refl

abbrev pub rest_of : List Post → List Post
rest_of [] = []
rest_of (post ∷ rest) = rest

pub plain_rest : (queue : List Post) → are_plain queue ≡ true → are_plain (rest_of queue) ≡ true
plain_rest [] plain = refl
plain_rest (post ∷ rest) plain = (and_parts (not (is_rebackup post.what)) (are_plain rest) plain).1

-- of a family that was handed over nothing is left then
pub handed_rest : (c : ClusterView) (h : HandsOver c) → are_plain (rest_of c.queue) ≡ true
handed_rest c h = ap (λ ps. are_plain (rest_of ps)) h.posts

-- at the entry that the head became nothing falls of the rest, where that has no new backup
pub own_left : (c : ClusterView) (log : List Entry) (e : Entry) (s : StandsBetween Follows c.system log e c) → are_plain (rest_of (s.before).queue) ≡ true → left_queued c.places (what e) c.queue ≡ c.queue
own_left c log e s plain = by_queue (s.before).queue ((s.followed).queue).legal s.head plain (ap (λ (d : ClusterView). d.queue) s.sent)
  where
    by_queue : (queue : List Post) → IsQueueLegal SentMayStand c.system log queue → option_map (entry_of c.system log) (head_of queue) ≡ Some e → are_plain (rest_of queue) ≡ true → c.queue ≡ (after_sent s.before queue).queue
        → left_queued c.places (what e) c.queue ≡ c.queue
    by_queue [] legal head plain is = let none : ◌≡◌ {A = Option Entry} None (Some e) = head in cc
    by_queue (post ∷ rest) legal head plain is =
        let whole : entry_of c.system log post ≡ e = same_Some (entry_of c.system log post) e head in
        let none : cluster_lost (what e) ≡ None = ap (λ (x : Entry). cluster_lost (what x)) (sym whole) ∙ sent_loses_none post.what (legal.0).of_kind in
        ap (left_queued c.places (what e)) (is ∙ sent_queue post rest) ∙ plain_left c.places (what e) rest none plain ∙ sym (is ∙ sent_queue post rest)
      where
        sent_queue : (post : Post) (rest : List Post) → (after_sent s.before (post ∷ rest)).queue ≡ rest
        sent_queue post rest = refl

-- ---- what falls

-- a page that comes
pub record IsComing (w : What) : Type 0 where
  pub pid : Pid
  pub index : ℕ
  pub bytes : List ℕ
  pub same : w ≡ PageIs pid index bytes

-- what falls of the posts that are sent alone is such a one
pub fallen_comes : (before : Places) (w queued : What) → is_lone queued ≡ true → falls before w queued ≡ true → IsComing queued
fallen_comes before w (PageIs pid index bytes) lone is = record { pid = pid; index = index; bytes = bytes; same = refl }
fallen_comes before w (Rebackup to fresh recs) lone is = absurd (true≢false (sym lone))
fallen_comes before w _ lone is = absurd (true≢false (sym is))
