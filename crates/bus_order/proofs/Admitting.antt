-- What a caller that has seen all of the log knows after the looks that were due.
use Rattle.std.proofs.Common.{◌≡◌, ℕ, ◌<◌, ◌≤◌, sym, ◌∙◌, ap, subst, arith, length, false}
use Rattle.t32_base.specs.declared.process.ClusterNo.{ClusterNo}
use Rattle.bus_msg.specs.declared.entry.Post.{Post}
use Rattle.cert_sched.specs.Rules.{is_over}
use Rattle.cert_sched.specs.Appended.{entry_of}
use Rattle.cert_sched.specs.Legal.{MayFollow}
use Rattle.bus_order.specs.declared.marks.Mark.{Mark}
use Rattle.bus_order.specs.View.{BusView, IsMarkOf, MayIdle, MayTransmit, after_words}
use Rattle.bus_order.proofs.Looking.{Grown, grown, same_log}

pub grown_after : (old mid : BusView) → mid ≡ after_words old → Grown old mid
grown_after old mid same = subst (Grown old) (sym same) (grown (length old.left) old)

module _ (old mid : BusView) (cursor : ℕ) (same : mid ≡ after_words old) (seen : cursor ≤ length old.log) (goes_on : is_over mid.system mid.log ≡ false) (all : length mid.log ≤ cursor) where
  g : Grown old mid
  g = grown_after old mid same

  log : mid.log ≡ old.log
  log = same_log old mid cursor g seen all

  -- the old log goes on, and the caller has seen all of it
  open_before : is_over old.system old.log ≡ false
  open_before = sym (λ i. is_over (g.system i) (log i)) ∙ goes_on

  seen_before : cursor ≡ length old.log
  seen_before = let long = ap length log in omega (arith, seen, all, long)

  pub mark_after : (by : ClusterNo) (m : Mark) → MayIdle old by cursor m → IsMarkOf mid.system mid.script mid.log by m
  mark_after by m may =
      subst (λ s. IsMarkOf s mid.script mid.log by m) (sym g.system)
      (subst (λ ws. IsMarkOf old.system ws mid.log by m) (sym g.script)
      (subst (λ l. IsMarkOf old.system old.script l by m) (sym log) (may.may open_before seen_before)))

  pub post_after : (by : ClusterNo) (post : Post) → MayTransmit old by cursor post → MayFollow mid.system mid.log (entry_of mid.system mid.log post)
  post_after by post may =
      subst (λ s. MayFollow s mid.log (entry_of s mid.log post)) (sym g.system)
      (subst (λ l. MayFollow old.system l (entry_of old.system l post)) (sym log) (may.may open_before seen_before))

  pub has_after : (by : ClusterNo) (m : Mark) → MayIdle old by cursor m → by.0 < (mid.system).clusters
  has_after by m may = subst (λ s. by.0 < s.clusters) (sym g.system) may.has
