-- A cluster goes on posting, by what became of its head.
use Rattle.std.proofs.Common.{◌≡◌, ℕ, ◌+◌, ◌≤◌, ◌<◌, cond, Some, None, sym, ◌∙◌, ap, subst, arith, List, [], ◌∷◌, length, take, drop, length-append, refl, ◌++◌, false, inl, inr, is_some, true, not, ◌&&◌}
use Rattle.std.specs.List.{list_all, list_any}
use Rattle.t32_base.specs.declared.process.ClusterNo.{ClusterNo}
use Rattle.sys_text.specs.declared.system.System.{System}
use Rattle.bus_msg.specs.declared.entry.Post.{Post}
use Rattle.bus_msg.specs.declared.entry.Entry.{Entry}
use Rattle.cert_sched.specs.Appended.{entry_of}
use Rattle.cert_sched.specs.Rules.{is_over}
use Rattle.cert_sched.specs.Legal.{IsLegalBy, MayStand}
use Rattle.cert_sched.specs.Losses.{was_lost_in}
use Rattle.cert_sched.specs.Scripted.{is_server}
use Rattle.cluster_core.specs.declared.worked.Worked.{Worked}
use Rattle.cluster_core.specs.declared.worked.Worked.TheVariants.{Moved, Queued, Waits, Rests}
use Rattle.cluster_core.specs.Follows.{Follows}
use Rattle.cluster_core.specs.Calls.{FollowsSome, GoesOn, KeepsPlace, WorkIs}
use Rattle.cluster_core.specs.View.{ClusterView, after_sent, failing_in, head_of, tried_once}
use Rattle.bus_order.specs.Script.{is_unpassed, off_at}
use Rattle.bus_order.specs.View.{BusView}
use Rattle.cluster_turns.specs.Disks.{calls_for}
use Rattle.cluster_turns.specs.Gone.{is_told_by}
use Rattle.cluster_turns.specs.Along.{HasTaken, IsAlong, IsPosting, IsReadyAt, IsShown, IsSound, IsUnnamed, TakesNext}
use Rattle.cluster_turns.specs.Turns.{IsSent}
use Rattle.cluster_turns.proofs.Staying.{same_lost}
use Rattle.cluster_turns.proofs.OwnLosses.{passed_next}
use Rattle.cert_sched.proofs.Induction.{legal_prefix}
use Rattle.cluster_turns.proofs.Offering.{along_tried}
use Rattle.cluster_turns.proofs.TakingIn.{upto_all}
use Rattle.cluster_turns.proofs.Sending.{clears, ready_sent, sent_along, sent_goes_on, sent_seen}

-- its head is tried
pub tried_posting : (Shows : Type 0) (from : ℕ) (b : BusView) (c t : ClusterView) → t ≡ tried_once c → IsUnnamed b c → IsPosting Shows from b c → IsPosting Shows from b t
tried_posting Shows from b c t is unnamed p = subst (IsPosting Shows from b) (sym is) (record {
  shown = record { shows = (p.shown).shows; from_there = (p.shown).from_there; sound = (p.shown).sound; along = along_tried b c unnamed (p.shown).along };
  seen = p.seen;
  goes_on = p.goes_on;
})

module _ (log : List Entry) (t left : ClusterView) (post : Post) (after : BusView) (s : IsSent log t post after) (left_is : left ≡ after_sent t t.queue) where
  pub left_cursor : left.cursor ≡ t.cursor
  left_cursor = ap (λ (v : ClusterView). v.cursor) (left_is ∙ clears log t post after s)

  pub left_ready : IsSound after → IsReadyAt after.log left
  left_ready sound = subst (IsReadyAt after.log) (sym left_is) (ready_sent log t post after s sound)

  -- its entry was taken in
  pub sent_posting : (Shows : Type 0) (from : ℕ) (new : ClusterView) → Shows → from ≤ t.cursor → IsSound after → IsUnnamed after left → TakesNext after.log left new → IsPosting Shows from after new
  sent_posting Shows from new shows low sound unnamed next =
      let seen = sent_seen log t post after s left new left_is next in
      let long : length after.log ≡ length log + 1 = ap length s.longer ∙ length-append log (entry_of t.system log post ∷ []) in
      record {
        shown = record { shows = shows; from_there = omega (arith, seen, low, long, s.seen); sound = sound; along = sent_along log t post after s left new left_is next unnamed };
        seen = seen;
        goes_on = sent_goes_on log t post after s;
      }

-- it was behind, and has taken in what is new
pub behind_posting : (Shows : Type 0) (from : ℕ) (after : BusView) (t new : ClusterView) → is_over after.system after.log ≡ false → was_lost_in (drop t.cursor after.log) t.number ≡ false → HasTaken Shows from after t new → IsPosting Shows from after new
behind_posting Shows from after t new goes lives takes =
    let taken = takes.taken in
    record {
      shown = takes.shown;
      seen = takes.caught ∙ upto_all after new.number new.cursor goes ((taken.along).beside).within (same_lost after.log t new (taken.same).number taken.stays ∙ lives);
      goes_on = goes;
    }

-- ---- it works

-- a cluster that has taken in all of a log that goes on follows it
pub follows_some : (b : BusView) (c : ClusterView) → IsSound b → IsAlong b c → FollowsSome c
follows_some b c sound along = record {
  log = take c.cursor b.log;
  open_log = (subst (λ s. IsLegalBy MayStand s (take c.cursor b.log)) (sym along.system) (legal_prefix MayStand b.system b.log c.cursor sound.legal), (along.beside).goes_on);
  follows = (along.beside).follows;
}

pub worked_along : (b : BusView) (c new : ClusterView) → IsSound b → IsAlong b c → IsUnnamed b c → GoesOn c new → KeepsPlace c new → new.failed ≡ c.failed → failing_in new.server ≡ failing_in c.server → IsAlong b new
unfolding follows_some
worked_along b c new sound along unnamed goes keeps failed failing =
    let some = follows_some b c sound along in
    record {
      system = keeps.system ∙ along.system;
      beside = record {
        has = subst (λ (s : System). (new.number).0 < s.clusters) (sym keeps.system) (subst (λ (k : ClusterNo). k.0 < (c.system).clusters) (sym keeps.number) (along.beside).has);
        within = subst (λ n. n ≤ length b.log) (sym keeps.cursor) (along.beside).within;
        goes_on = (λ i. is_over (keeps.system i) (take (keeps.cursor i) b.log)) ∙ (along.beside).goes_on;
        lives = (λ i. off_at (take (keeps.cursor i) b.log) (keeps.number i)) ∙ (along.beside).lives;
        follows = subst (λ s. Follows s (take new.cursor b.log) new) (sym keeps.system)
            (subst (λ n. Follows c.system (take n b.log) new) (sym keeps.cursor) (goes (take c.cursor b.log) some.open_log some.follows));
        told_before = (λ i. list_any (is_told_by (keeps.number i)) (drop (keeps.cursor i) b.log)) ∙ (along.beside).told_before;
        unfailed = failed ∙ (along.beside).unfailed;
      };
      passed = (λ i. list_all (is_unpassed (keeps.number i) b.log (keeps.steps i)) b.script) ∙ passed_next b c unnamed along.passed;
      disk = failing ∙ along.disk ∙ sym (λ i. cond (is_server (keeps.system i) (keeps.number i) && not (was_lost_in (take (keeps.cursor i) b.log) (keeps.number i))) (Some (Some (calls_for (keeps.number i) b.script))) None);
    }

unfailed_by : (w : Worked) (c new : ClusterView) → WorkIs c w new → new.failed ≡ c.failed
unfailed_by Moved c new is = ap (λ (v : ClusterView). v.failed) (is.2).rest
unfailed_by Queued c new (inl stands) = ap (λ (v : ClusterView). v.failed) stands.rest
unfailed_by Queued c new (inr (inl (backed, answer))) = ap (λ (v : ClusterView). v.failed) answer.rest
unfailed_by Queued c new (inr (inr (inl (backed, owes, fetch)))) = ap (λ (v : ClusterView). v.failed) fetch.rest
unfailed_by Queued c new (inr (inr (inr (owes, rests, inl sent)))) = ap (λ (v : ClusterView). v.failed) sent.rest
unfailed_by Queued c new (inr (inr (inr (owes, rests, inr (inl synced))))) = ap (λ (v : ClusterView). v.failed) synced.rest
unfailed_by Queued c new (inr (inr (inr (owes, rests, inr (inr (inl bears)))))) = ap (λ (v : ClusterView). v.failed) bears.rest
unfailed_by Queued c new (inr (inr (inr (owes, rests, inr (inr (inr fresh)))))) = ap (λ (v : ClusterView). v.failed) fresh.rest
unfailed_by Waits c new is = ap (λ (v : ClusterView). v.failed) is.4
unfailed_by Rests c new is = ap (λ (v : ClusterView). v.failed) is.3

-- and which calls of its disk fail stays
failing_by : (w : Worked) (c new : ClusterView) → WorkIs c w new → failing_in new.server ≡ failing_in c.server
failing_by Moved c new is = ap (λ (v : ClusterView). failing_in v.server) (is.2).rest
failing_by Queued c new (inl stands) = ap (λ (v : ClusterView). failing_in v.server) stands.rest
failing_by Queued c new (inr (inl (backed, answer))) =
    let a = answer.answers in
    ap failing_in a.new_is ∙ ap (λ o. Some o) (a.called).failing ∙ sym (ap failing_in a.old_is)
failing_by Queued c new (inr (inr (inl (backed, owes, fetch)))) = ap (λ (v : ClusterView). failing_in v.server) fetch.rest
failing_by Queued c new (inr (inr (inr (owes, rests, inl sent)))) = ap (λ (v : ClusterView). failing_in v.server) sent.rest
failing_by Queued c new (inr (inr (inr (owes, rests, inr (inl synced))))) = ap (λ (v : ClusterView). failing_in v.server) synced.rest
failing_by Queued c new (inr (inr (inr (owes, rests, inr (inr (inl bears)))))) = ap (λ (v : ClusterView). failing_in v.server) bears.rest
failing_by Queued c new (inr (inr (inr (owes, rests, inr (inr (inr fresh)))))) = ap (λ (v : ClusterView). failing_in v.server) fresh.rest
failing_by Waits c new is = ap (λ (v : ClusterView). failing_in v.server) is.4
failing_by Rests c new is = ap (λ (v : ClusterView). failing_in v.server) is.3

-- the posts of a batch are never none
batch_head : (posts : List Post) (last : Post) → is_some (head_of (posts ++ last ∷ [])) ≡ true
batch_head [] last = refl
batch_head (post ∷ posts) last = refl

-- what queued something left a head
pub queued_head : (c new : ClusterView) → WorkIs c Queued new → is_some (head_of new.queue) ≡ true
queued_head c new (inl stands) = ap (λ (v : ClusterView). is_some (head_of v.queue)) stands.rest
queued_head c new (inr (inl (backed, answer))) = ap (λ (v : ClusterView). is_some (head_of v.queue)) answer.rest
queued_head c new (inr (inr (inl (backed, owes, fetch)))) = ap (λ (v : ClusterView). is_some (head_of v.queue)) fetch.rest
queued_head c new (inr (inr (inr (owes, rests, inl sent)))) = ap (λ (v : ClusterView). is_some (head_of v.queue)) sent.rest
queued_head c new (inr (inr (inr (owes, rests, inr (inl synced))))) = ap (λ (v : ClusterView). is_some (head_of v.queue)) synced.rest ∙ batch_head _ _
queued_head c new (inr (inr (inr (owes, rests, inr (inr (inl bears)))))) = ap (λ (v : ClusterView). is_some (head_of v.queue)) bears.rest
queued_head c new (inr (inr (inr (owes, rests, inr (inr (inr fresh)))))) = ap (λ (v : ClusterView). is_some (head_of v.queue)) fresh.rest ∙ batch_head _ _

pub worked_shown : (Shows : Type 0) (from : ℕ) (b : BusView) (c new : ClusterView) (w : Worked) → IsShown Shows from b c → IsUnnamed b c → GoesOn c new → KeepsPlace c new → WorkIs c w new → IsShown Shows from b new
worked_shown Shows from b c new w shown unnamed goes keeps is = record {
  shows = shown.shows;
  from_there = subst (λ n. from ≤ n) (sym keeps.cursor) shown.from_there;
  sound = shown.sound;
  along = worked_along b c new shown.sound shown.along unnamed goes keeps (unfailed_by w c new is) (failing_by w c new is);
}

-- and goes on posting
pub worked_posting : (Shows : Type 0) (from : ℕ) (b : BusView) (c new : ClusterView) → IsShown Shows from b c → IsUnnamed b c → c.cursor ≡ length b.log → is_over b.system b.log ≡ false → GoesOn c new → KeepsPlace c new → WorkIs c Queued new → IsPosting Shows from b new
worked_posting Shows from b c new shown unnamed seen goes_on goes keeps is = record {
  shown = worked_shown Shows from b c new Queued shown unnamed goes keeps is;
  seen = keeps.cursor ∙ seen;
  goes_on = goes_on;
}
