-- A cluster that asks for the lowest page that the lowest process there lacks.
use Rattle.std.proofs.Common.{◌≡◌, ℕ, ◌+◌, refl, sym, ◌∙◌, ap, subst, List, [], ◌∷◌, Bool, true, false, cond, ◌&&◌, ◌||◌, eqb, eq-eqb, Some, is_some, inl, inr, true≢false}
use Rattle.t32_base.specs.declared.process.Pid.{Pid}
use Rattle.t32_base.specs.declared.process.ClusterNo.{ClusterNo}
use Rattle.t32_base.proofs.Facts.{eqb_turned}
use Rattle.sys_text.specs.Valid.{is_system}
use Rattle.bus_msg.specs.declared.entry.Entry.{Entry}
use Rattle.bus_msg.specs.Places.{same_pid}
use Rattle.cert_sched.specs.Appended.{entry_of}
use Rattle.cert_sched.specs.Legal.{MayStand}
use Rattle.cluster_core.specs.Sent.{SentMayStand}
use Rattle.cert_sched.specs.Losses.{is_from, least_steps}
use Rattle.cert_sched.specs.Parts.{rising}
use Rattle.cert_sched.specs.Schedule.{placement}
use Rattle.cert_sched.proofs.LogLaws.{no_items}
use Rattle.cert_sched.proofs.ThereLaws.{plain_there}
use Rattle.page_waits.specs.Waiting.{WaitingState, next_page}
use Rattle.replay_laws.specs.pages.Waits.{WaitsAs, none_queued}
use Rattle.replay_laws.proofs.pages.Asks.{next_asked, next_fetch}
use Rattle.cluster_core.specs.declared.worked.Worked.TheVariants.{Queued}
use Rattle.cluster_core.specs.View.{ClusterView, held_at, next_count}
use Rattle.residents.specs.Held.{Held, Waits, asked_held, page_lacked}
use Rattle.cluster_core.specs.Holds.{IsHeldAs, is_fetch_queued}
use Rattle.cluster_core.specs.Follows.{Follows, IsOpen}
use Rattle.cluster_core.specs.Queue.{One}
use Rattle.cluster_core.specs.Calls.{GoesOn, WorkIs}
use Rattle.residents.specs.Changed.{with_changed}
use Rattle.residents.specs.Asking.{AsksNext}
use Rattle.cluster_core.specs.Work.{fetch_post, owes_answer}
use Rattle.cluster_core.proofs.forks.ForksAgain.{asked_forks, forks_changed}
use Rattle.residents.proofs.Changing.{pids_changed, same_itself}
use Rattle.cluster_core.proofs.losses.Homes.{home_lives}
use Rattle.cluster_core.proofs.absorbing.Served.{accounts_queued}
use Rattle.replay_laws.proofs.forks.EitherWait.{lacks_pages, so_alike}
use Rattle.cluster_core.proofs.awaiting.Awaited.{none_owed}
use Rattle.cluster_core.proofs.working.Working.{backups_beside, held_beside, home_by, home_of_it, limits_beside, more_counted, pages_beside, turned, marks_beside, marks_queued}

-- ---- the fetch

-- who lacks a page waits
pub record LacksAt (h : Held) (index : ℕ) : Type 0 where
  pub waiting : WaitingState
  pub is : h ≡ Waits waiting
  pub next : next_page waiting ≡ Some index

pub who_lacks : (h : Held) (index : ℕ) → page_lacked h ≡ Some index → LacksAt h index
who_lacks (Waits waiting) index lacks = record { waiting = waiting; is = refl; next = lacks }
who_lacks _ index lacks = cc

-- it is the cluster's own
pub fetch_own : (k : ClusterNo) (p : Pid) (index : ℕ) → (is_from k (fetch_post k p index).by && true) ≡ true
fetch_own k p index = ap (λ b. b && true) (eq-eqb k.0 k.0 refl)

-- it asks for that page alone
fetch_queued : (k : ClusterNo) (p : Pid) (index i : ℕ) → eqb i index ≡ is_fetch_queued p (fetch_post k p index ∷ []) i
fetch_queued k p index i = eqb_turned i index ∙ sym (by_tests (same_pid p p) (eqb index i) (same_itself p))
  where
    by_tests : (b c : Bool) → b ≡ true → ((b && c) || false) ≡ c
    by_tests true true own = refl
    by_tests true false own = refl
    by_tests false c own = absurd (true≢false (sym own))

-- and of no other process
fetch_elsewhere : (k : ClusterNo) (p q : Pid) (index i : ℕ) → same_pid p q ≡ false → is_fetch_queued q (fetch_post k p index ∷ []) i ≡ false
fetch_elsewhere k p q index i other = ap (λ b. (b && eqb index i) || false) other

-- ---- the cluster

module _ (c : ClusterView) (p : Pid) (index : ℕ) (waiting : WaitingState) (empty : c.queue ≡ []) (there : held_at c p ≡ Some (Waits waiting)) (next : next_page waiting ≡ Some index) (backed : c.owed ≡ []) where
  abbrev asked : Held
  asked = asked_held (Waits waiting)

  -- each process is held as before
  others : (log : List Entry) (q : Pid) (h : Held) → same_pid q p ≡ false → IsHeldAs c.system log c.queue q h → IsHeldAs c.system log (fetch_post c.number p index ∷ []) q h
  others log q h other held = by_held h (subst (λ queue. IsHeldAs c.system log queue q h) empty held)
    where
      by_held : (h : Held) → IsHeldAs c.system log [] q h → IsHeldAs c.system log (fetch_post c.number p index ∷ []) q h
      by_held (Waits w) held =
          (refl, so_alike c.system log q none_queued (is_fetch_queued q (fetch_post c.number p index ∷ [])) w (λ i. sym (fetch_elsewhere c.number p q index i (turned p q other))) held.1)
      by_held _ held = held

  module _ (valid : is_system c.system ≡ true) (log : List Entry) (go : IsOpen MayStand c.system log) (f : Follows c.system log c) where
    -- it waits as the log says
    waits : WaitsAs c.system log p none_queued waiting
    waits = lacks_pages c.system log p none_queued waiting index (subst (λ queue. IsHeldAs c.system log queue p (Waits waiting)) empty ((f.processes).held p (Waits waiting) there)).1 next

    -- and still does, with the fetch in the queue
    held_asked : IsHeldAs c.system log (fetch_post c.number p index ∷ []) p asked
    held_asked =
        (refl, so_alike c.system log p (λ i. eqb i index) (is_fetch_queued p (fetch_post c.number p index ∷ [])) (record waiting { asked = waiting.asked + 1 }) (fetch_queued c.number p index) (inl (next_asked c.system log p waiting waits index next)))

    fetch_follows : SentMayStand c.system log (entry_of c.system log (fetch_post c.number p index))
    fetch_follows = record {
      stands = record {
        placed = (refl, refl, go.1);
        by_right =
            home_by (placement c.system log) c.number p
            (home_lives c.system log p c.number valid go.0 go.1 (home_of_it c p (Waits waiting) empty there valid log go f)) (home_of_it c p (Waits waiting) empty there valid log go f);
        applies = ap is_some (no_items c.system log (entry_of c.system log (fetch_post c.number p index)) (λ k. refl)) ∙ plain_there MayStand (λ system log e may. may.stands) c.system log go.0;
        kind = next_fetch c.system log p waiting waits index next;
      };
      of_kind = refl;
      limits = refl;
      new_page = refl;
      pages = refl;
    }

    asked_follows : Follows c.system log (record c { here = with_changed p asked c.here; queue = fetch_post c.number p index ∷ []; steps = next_count c.steps })
    asked_follows = record {
      log = record { cursor = (f.log).cursor; places = (f.log).places };
      processes = record {
        held = held_beside c log p asked (fetch_post c.number p index ∷ []) f held_asked (others log);
        each_once = ap rising (pids_changed p asked c.here) ∙ (f.processes).each_once;
      };
      queue = record { own = fetch_own c.number p index; legal = (fetch_follows, tt) };
      queued = inl (record { queued = One (fetch_post c.number p index); posts = refl; together = refl });
      steps = record { counted = λ kept. more_counted (least_steps log log c.number + cond c.tried 1 0) c.steps ((f.steps).counted kept) };
      limits = limits_beside c p asked f.limits tt;
      pages = pages_beside c log p asked f.pages (λ some. absurd (true≢false (sym some)));
      marks = marks_beside c log p asked (fetch_post c.number p index ∷ []) f tt
          (λ q h other at. marks_queued c log (fetch_post c.number p index) valid empty go f refl (eq-eqb (c.number).0 (c.number).0 refl) fetch_follows q h at (others log q h other ((f.processes).held q h at)));
      records = f.records;
      family = f.family;
      owed = f.owed;
      backups = backups_beside c log p asked f.backups (λ begun. none_owed c.system log c.number c.owed p backed f.owed (home_of_it c p (Waits waiting) empty there valid log go f));
      forks = forks_changed c.family p (Waits waiting) asked c.here there (asked_forks (Waits waiting)) f.forks;
      accounts = accounts_queued c.system log c (record c { here = with_changed p asked c.here; queue = fetch_post c.number p index ∷ []; steps = next_count c.steps }) (fetch_post c.number p index) refl refl empty refl refl f.accounts;
      disk = f.disk;
    }

-- the cluster with those that are here after it
abbrev pub asked_view : ClusterView → List (Pid × Held) → Pid → ℕ → ClusterView
asked_view c here p index = record c { here = here; queue = fetch_post c.number p index ∷ []; steps = next_count c.steps }

pub asked_goes_on : (c : ClusterView) (here : List (Pid × Held)) (p : Pid) (index : ℕ) → is_system c.system ≡ true → c.queue ≡ [] → c.owed ≡ [] → AsksNext c.here here p index → GoesOn c (asked_view c here p index)
asked_goes_on c here p index valid empty backed asks log go f =
    let l = who_lacks asks.was index asks.lacks in
    let there : held_at c p ≡ Some (Waits l.waiting) = asks.there ∙ ap Some l.is in
    let same : with_changed p (asked_held (Waits l.waiting)) c.here ≡ here = ap (λ (h : Held). with_changed p (asked_held h) c.here) (sym l.is) ∙ sym asks.new_is in
    subst (λ hs. Follows c.system log (asked_view c hs p index)) same (asked_follows c p index l.waiting empty there l.next backed valid log go f)

pub asked_work : (c : ClusterView) (here : List (Pid × Held)) (p : Pid) (index : ℕ) → c.owed ≡ [] → owes_answer c.places c.number c.server ≡ false → AsksNext c.here here p index → WorkIs c Queued (asked_view c here p index)
asked_work c here p index backed unowed asks = inr (inr (inl (backed, unowed, record { pid = p; index = index; asks = asks; rest = refl })))
