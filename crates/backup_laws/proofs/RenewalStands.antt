-- The pages of a process that gets a new backup, and what is sent behind them, may stand post by post.
use Rattle.std.proofs.Common.{◌≡◌, refl, ◌∙◌, ap, ℕ, List, [], ◌∷◌, ◌++◌, map, true, false, not, Some}
use Rattle.std.specs.Option.{option_map_or}
use Rattle.std.specs.List.{list_all}
use Rattle.std.proofs.lemmas.Bool.{and_parts}
use Rattle.t32_base.specs.declared.process.Pid.{Pid}
use Rattle.t32_base.specs.declared.process.ClusterNo.{ClusterNo}
use Rattle.sys_text.specs.declared.system.System.{System}
use Rattle.sys_text.specs.Valid.{is_system}
use Rattle.rv_mem.specs.Memory.{page_at}
use Rattle.proc_state.specs.State.{ProcState}
use Rattle.bus_msg.specs.declared.entry.Post.{Post}
use Rattle.bus_msg.specs.declared.entry.Entry.{Entry}
use Rattle.bus_msg.specs.NewBackup.{next_backup_at}
use Rattle.cert_sched.specs.Appended.{entry_of}
use Rattle.cert_sched.specs.Schedule.{placement}
use Rattle.cert_sched.specs.Moved.{any_since_moved, is_page_at}
use Rattle.cert_sched.specs.Rules.{keeps_limits}
use Rattle.cert_sched.specs.Legal.{IsLegalBy, Stands}
use Rattle.cert_sched.proofs.LogLaws.{IsLegal-snoc}
use Rattle.checkpoint_laws.specs.posts.Batched.{AllNew, AllStand}
use Rattle.checkpoint_laws.specs.limits.Within.{AllKeepLimits}
use Rattle.checkpoint_laws.specs.batches.Underway.{PagesMay, page_left}
use Rattle.checkpoint_laws.proofs.posts.PageEntry.{page_places}
use Rattle.checkpoint_laws.proofs.batches.PageSent.{pages_sent}
use Rattle.checkpoint_laws.proofs.batches.RestStands.{page_may_stand}
use Rattle.checkpoint_laws.proofs.batches.WholeAccount.{whole_left}
use Rattle.checkpoint_laws.proofs.limits.RestLimits.{page_keeps}
use Rattle.backup_mode.specs.Posts.{fresh_post}
use Rattle.backup_laws.specs.Posts.{renewal_left}
use Rattle.backup_laws.proofs.FreshStands.{fresh_stands}

module _ (system : System) (k : ClusterNo) (p : Pid) (s : ProcState) where
  abbrev page_of : ℕ → Post
  page_of = page_left k p s

  abbrev after : List Entry → ℕ → List Entry
  after log i = log ++ entry_of system log (page_of i) ∷ []

  -- ---- the pages alone

  pub pages_stand : (log : List Entry) (indices : List ℕ) → PagesMay system log k p s indices → AllStand system log (map page_of indices)
  pages_stand log [] m = tt
  pages_stand log (i ∷ js) m = (page_may_stand system log k p s i js m, pages_stand (after log i) js (pages_sent system log k p s i js m))

  pub pages_are_new : (log : List Entry) (indices : List ℕ) → PagesMay system log k p s indices → AllNew system log (map page_of indices)
  pages_are_new log [] m = tt
  pages_are_new log (i ∷ js) m =
      let fresh = and_parts (not (any_since_moved system log p (is_page_at p i (s.small).steps))) (list_all (λ j. not (any_since_moved system log p (is_page_at p j (s.small).steps))) js) (m.left).unsent in
      (fresh.0, pages_are_new (after log i) js (pages_sent system log k p s i js m))

  pub pages_keep_limits : (log : List Entry) (indices : List ℕ) → AllKeepLimits system log (map page_of indices)
  pages_keep_limits log [] = tt
  pages_keep_limits log (i ∷ js) = (refl, pages_keep_limits (after log i) js)

  -- ---- the new backup behind them

  module _ (to : ClusterNo) where
    abbrev last : Post
    last = fresh_post k to p s

    pub renewal_stands : (log : List Entry) (indices : List ℕ) → is_system system ≡ true → IsLegalBy Stands system log → PagesMay system log k p s indices → next_backup_at (placement system log) p ≡ Some to
        → AllStand system log (renewal_left k to p s indices)
    renewal_stands log [] valid legal m backup =
        (fresh_stands system log k to p s valid legal m.may (record { backup = backup; children = m.children; account = whole_left system log k p s valid legal m.may m.left }), tt)
    renewal_stands log (i ∷ js) valid legal m backup =
        let next = page_may_stand system log k p s i js m in (
          next,
          renewal_stands (after log i) js valid (IsLegal-snoc Stands system log (entry_of system log (page_of i)) legal next) (pages_sent system log k p s i js m)
              (ap (λ places. next_backup_at places p) (page_places system log (entry_of system log (page_of i)) p (s.small).steps i (page_at s.memory i) refl) ∙ backup),
        )

    pub renewal_is_new : (log : List Entry) (indices : List ℕ) → PagesMay system log k p s indices → AllNew system log (renewal_left k to p s indices)
    renewal_is_new log [] m = (refl, tt)
    renewal_is_new log (i ∷ js) m =
        let fresh = and_parts (not (any_since_moved system log p (is_page_at p i (s.small).steps))) (list_all (λ j. not (any_since_moved system log p (is_page_at p j (s.small).steps))) js) (m.left).unsent in
        (fresh.0, renewal_is_new (after log i) js (pages_sent system log k p s i js m))

    pub renewal_keeps_limits : (log : List Entry) (indices : List ℕ) → PagesMay system log k p s indices → keeps_limits system log p s ≡ true → AllKeepLimits system log (renewal_left k to p s indices)
    renewal_keeps_limits log [] m within = (ap (λ o. option_map_or (keeps_limits system log p) o false) (m.may).reached ∙ within, tt)
    renewal_keeps_limits log (i ∷ js) m within = (refl, renewal_keeps_limits (after log i) js (pages_sent system log k p s i js m) (page_keeps system log k p s i ∙ within))
