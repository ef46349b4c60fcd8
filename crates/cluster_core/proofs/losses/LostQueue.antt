-- What a cluster has queued when another is lost: its posts may still be sent, and none is of a process that the loss moves here.
use Rattle.std.proofs.Common.{◌≡◌, ◌⊎◌, ℕ, refl, sym, ◌∙◌, ap, subst, List, [], ◌∷◌, ◌++◌, Bool, true, false, cond, ◌&&◌, ◌||◌, eqb, eqb-true, eq-eqb, Option, Some, None, inl, inr, true≢false}
use Rattle.std.specs.Prelude.{option_map}
use Rattle.std.specs.List.{list_all}
use Rattle.std.proofs.lemmas.Bool.{and_parts}
use Rattle.std.proofs.lemmas.Option.{same_Some}
use Rattle.t32_base.specs.declared.process.Pid.{Pid}
use Rattle.t32_base.specs.declared.process.ClusterNo.{ClusterNo}
use Rattle.sys_text.specs.declared.system.System.{System}
use Rattle.sys_text.specs.Valid.{is_system}
use Rattle.plain_kernel.specs.Kernel.{Kernel}
use Rattle.bus_msg.specs.declared.entry.What.{What}
use Rattle.bus_msg.specs.declared.entry.What.TheVariants.{Crash}
use Rattle.bus_msg.specs.declared.entry.Cause.{Cause}
use Rattle.bus_msg.specs.declared.entry.By.{By}
use Rattle.bus_msg.specs.declared.entry.By.TheVariants.{Cluster, Bus}
use Rattle.bus_msg.specs.declared.entry.Post.{Post}
use Rattle.bus_msg.specs.declared.entry.Entry.{Entry}
use Rattle.bus_msg.specs.declared.placed.Placed.{Placed}
use Rattle.bus_msg.specs.Places.{Places, lives_in, same_cluster, same_pid, unended_at}
use Rattle.bus_msg.specs.PlacedAfter.{after_loss, what, placed_after}
use Rattle.cluster_core.specs.Sent.{TellingMayStand}
use Rattle.cluster_core.specs.Sent.{SentMayStand}
use Rattle.cert_sched.specs.Legal.{IsLegalBy, MayStand}
use Rattle.cert_sched.specs.Losses.{is_by_cluster, is_from, is_crash_of}
use Rattle.cert_sched.specs.Appended.{entry_of}
use Rattle.cert_sched.specs.Rules.{is_over, is_by, is_living, is_by_home, home_at, is_by_right, keeps_limits, tells_or_closes}
use Rattle.cert_sched.specs.Schedule.{items_of, placement}
use Rattle.cert_sched.proofs.CoverLaws.{lives_on}
use Rattle.cert_sched.proofs.LogLaws.{IsLegal-last, placement-snoc}
use Rattle.cert_sched.proofs.UnendedLaws.{loss_keeps, unended_map}
use Rattle.cluster_core.specs.Queue.{is_lone, AreTogether, Queued, Nothing, One, posts_of, IsQueueLegal, falls, is_move_of, move_of}
use Rattle.cluster_core.proofs.absorbing.ByKind.{by_kind, by_page, is_of_page, lone_is, may_told, told_may}
use Rattle.residents.proofs.Changing.{pid_same}
use Rattle.cluster_core.proofs.losses.Homes.{pids_apart}
use Rattle.cluster_core.proofs.losses.HomesMoved.{stays_home}
use Rattle.cluster_core.proofs.absorbing.Telling.{Telling, telling}
use Rattle.cluster_core.proofs.absorbing.Unmoved.{emission_same, page_moves_none}
use Rattle.cluster_core.proofs.absorbing.Following.{by_home_of, may_end_still, post_may}
use Rattle.cluster_core.proofs.absorbing.Posted.{moves_it, no_end}
use Rattle.cert_sched.specs.Moved.{is_fetch}
use Rattle.cluster_core.specs.Holds.{is_fetch_queued}
use Rattle.cluster_core.proofs.paging.PagePosts.{page_post_stays}
use Rattle.cluster_core.proofs.absorbing.Fallen.{NoneFalls}
use Rattle.cluster_core.proofs.paging.HasPages.{waits_after}
use Rattle.cert_sched.specs.Deeds.{deeds_in, is_birth_of, is_cut, letter_for}
use Rattle.sys_calls.proofs.RunLemma.{all_delivered}
use Rattle.log_laws.proofs.records.Standing.{all_stand}
use Rattle.cert_sched.proofs.CutLaws.{by_home_there}
use Rattle.cluster_core.proofs.working.KeptLimits.{told_within}
use Rattle.checkpoint_laws.proofs.limits.StayingLimits.{sent_stays}

-- the home of a process sends the fetches of its pages
fetched_home : (places : Places) (by : By) (p : Pid) (i : ℕ) (w : What) → (tells_or_closes w ≡ true) ⊎ (is_of_page w ≡ true) → is_fetch p i w ≡ true → is_by_right places by w ≡ true → is_by by (home_at places p) ≡ true
fetched_home places by p i w (inl tells) =
    by_kind (λ w. is_fetch p i w ≡ true → is_by_right places by w ≡ true → is_by by (home_at places p) ≡ true)
    (λ at letter is right. absurd (true≢false (sym is))) (λ pid at end is right. absurd (true≢false (sym is))) (λ rests is right. absurd (true≢false (sym is))) (λ is right. absurd (true≢false (sym is))) w tells
fetched_home places by p i w (inr of) =
    by_page (λ w. is_fetch p i w ≡ true → is_by_right places by w ≡ true → is_by by (home_at places p) ≡ true)
    (λ pid index is right. ap (λ q. is_by by (home_at places q)) (sym (pid_same pid p (eqb-true pid.0 p.0 (and_parts (same_pid pid p) (eqb index i) is).0))) ∙ by_home_of places by pid right)
    (λ pid index bytes is right. absurd (true≢false (sym is))) w of

-- ---- the entry

-- a log, and the loss of a cluster that stands next
pub record NextLoss (system : System) (log : List Entry) (e : Entry) (lost : ClusterNo) (cause : Cause) : Type 0 where
  pub legal : IsLegalBy MayStand system log
  pub more : IsLegalBy MayStand system (log ++ e ∷ [])
  pub before : is_over system log ≡ false
  pub goes_on : is_over system (log ++ e ∷ []) ≡ false
  pub same : what e ≡ Crash lost cause

module _ (system : System) (valid : is_system system ≡ true) (log : List Entry) (e : Entry) (lost : ClusterNo) (cause : Cause) (n : NextLoss system log e lost cause) (k : ClusterNo) (apart : same_cluster lost k ≡ false) where
  abbrev later : List Entry
  later = log ++ e ∷ []

  abbrev places : Places
  places = placement system log

  none : (kernel : Kernel) → items_of kernel (what e) ≡ []
  none kernel = ap (items_of kernel) n.same

  -- ---- where processes are

  pub places_after : placement system later ≡ placed_after places (Crash lost cause)
  places_after = placement-snoc system log e ∙ ap (placed_after places) n.same

  pub found_after : (p : Pid) → unended_at (placement system later) p ≡ option_map (after_loss lost) (unended_at places p)
  found_after p = ap (λ places. unended_at places p) places_after ∙ unended_map (after_loss lost) (loss_keeps lost) places (placed_after places (Crash lost cause)) refl p

  turned : same_cluster k lost ≡ false
  turned = by_test (same_cluster k lost) refl
    where
      by_test : (b : Bool) → same_cluster k lost ≡ b → b ≡ false
      by_test true is = absurd (true≢false (sym (eq-eqb lost.0 k.0 (sym (eqb-true k.0 lost.0 is))) ∙ apart))
      by_test false is = refl

  -- a process that is at home here stays here
  pub home_stays : (p : Pid) → home_at places p ≡ Some k → home_at (placement system later) p ≡ Some k
  home_stays p at = ap (option_map (λ (q : Placed). q.home)) (found_after p) ∙ by_found (unended_at places p) at
    where
      by_found : (o : Option Placed) → option_map (λ (q : Placed). q.home) o ≡ Some k → option_map (λ (q : Placed). q.home) (option_map (after_loss lost) o) ≡ Some k
      by_found None is = cc
      by_found (Some q) is =
          let home : q.home ≡ k = cc in
          ap Some (stays_home lost q (ap (λ h. same_cluster h lost) home ∙ turned) ∙ home)

  -- it does not lose this cluster
  pub not_here_lost : is_crash_of k (what e) ≡ false
  not_here_lost = ap (is_crash_of k) n.same ∙ apart

  -- ---- posts

  -- a process of which a post of the cluster tells, or asks for a page, is at home here
  sent_home : (post : Post) (p : Pid) → is_from k post.by ≡ true → is_by post.by (home_at places p) ≡ true → home_at places p ≡ Some k
  sent_home post p from by_it = by_home (home_at places p) post.by from by_it
    where
      by_home : (o : Option ClusterNo) (b : By) → is_from k b ≡ true → is_by b o ≡ true → o ≡ Some k
      by_home None (Cluster j) from at = absurd (true≢false (sym at))
      by_home (Some h) (Cluster j) from at = λ i. Some (record { 0 = (sym (eqb-true j.0 h.0 at) ∙ eqb-true j.0 k.0 from) i })
      by_home o Bus from at = absurd (true≢false (sym from))

  -- a post of a cluster that lives on and tells of steps may follow after the loss
  told_stays : (post : Post) → is_from k post.by ≡ true → TellingMayStand system log (entry_of system log post) → TellingMayStand system later (entry_of system later post)
  told_stays post own may =
      post_may system later post u.pid u.at u.emission u.after n.more n.goes_on may.of_kind u.tells (emission_same system log e none u.pid u.at ∙ u.is) at_home keeps
      (waits_after system log e k post valid n.legal (IsLegal-last MayStand system log e n.more).stands (pids_apart system log valid n.legal) not_here_lost may.of_kind (ap (is_by_home places post.by) u.process ∙ u.by_home) own may.pages)
      (may_end_still system log e (entry_of system log post) u.pid u.at u.emission post.what valid (all_stand system log n.legal) (IsLegal-last MayStand system log e n.more).stands (ap (deeds_in u.pid) n.same) u.tells (may.stands).kind)
    where
      u : Telling system log (entry_of system log post)
      u = telling system log (entry_of system log post) may (no_end k places post.by post.what may.of_kind own (may.stands).by_right)

      no_letter : all_delivered u.after (letter_for u.pid (what e)) ≡ u.after
      no_letter = ap (λ w. all_delivered u.after (letter_for u.pid w)) n.same

      keeps : keeps_limits system later u.pid u.after ≡ true
      keeps =
          subst (λ s. keeps_limits system later u.pid s ≡ true) no_letter
          (sent_stays system log e u.pid u.at u.emission u.after valid (all_stand system log n.legal) (by_home_there (placement system log) post.by u.pid u.by_home)
          (ap (λ w. is_cut u.pid w || is_birth_of u.pid w) n.same) u.is (told_within system log u.pid u.at u.emission u.after u.is post.what u.tells may.limits))

      halves : (is_living places post.by ≡ true) × (is_by post.by (home_at places u.pid) ≡ true)
      halves = and_parts (is_living places post.by) (is_by post.by (home_at places u.pid)) u.by_home

      by_is : (b : By) → is_from k b ≡ true → b ≡ Cluster k
      by_is (Cluster j) from = λ i. Cluster (record { 0 = eqb-true j.0 k.0 from i })
      by_is Bus from = absurd (true≢false (sym from))

      by_k : post.by ≡ Cluster k
      by_k = by_is post.by own

      home : home_at places u.pid ≡ Some k
      home = sent_home post u.pid own halves.1

      lives : is_living (placement system later) (Cluster k) ≡ true
      lives = ap (λ places. lives_in places k) places_after ∙ lives_on places lost k cause turned (ap (is_living places) (sym by_k) ∙ halves.0)

      at_home : is_by_home (placement system later) post.by (Some u.pid) ≡ true
      at_home =
          ap (λ b. is_living (placement system later) b && is_by b (home_at (placement system later) u.pid)) by_k
          ∙ (λ i. lives i && is_by (Cluster k) (home_stays u.pid home i)) ∙ eq-eqb k.0 k.0 refl

  -- so may one of a page that does not fall
  post_stays : (post : Post) → is_lone post.what ≡ true → is_from k post.by ≡ true → is_by_cluster k e ≡ false → falls places (what e) post.what ≡ false → SentMayStand system log (entry_of system log post) → SentMayStand system later (entry_of system later post)
  post_stays post lone own foreign unfallen may = by_what (lone_is post.what lone)
    where
      by_what : (tells_or_closes post.what ≡ true) ⊎ (is_of_page post.what ≡ true) → SentMayStand system later (entry_of system later post)
      by_what (inl tells) = may_told system later (entry_of system later post) (told_stays post own (told_may system log (entry_of system log post) may tells))
      by_what (inr of) = page_post_stays system valid log e k post (n.legal, n.before) (n.more, n.goes_on) foreign not_here_lost own of unfallen may

  pub queue_stays : (q : Queued) → AreTogether q → list_all (λ (post : Post). is_from k post.by) (posts_of q) ≡ true → is_by_cluster k e ≡ false → NoneFalls places (what e) (posts_of q) → IsQueueLegal SentMayStand system log (posts_of q)
      → IsQueueLegal SentMayStand system later (posts_of q)
  queue_stays Nothing together own foreign unfallen legal = tt
  queue_stays (One post) together own foreign unfallen legal = (post_stays post together (and_parts (is_from k post.by) true own).0 foreign (unfallen post refl) legal.0, tt)

  -- nothing is queued for a process that is at home elsewhere: no move of it,
  pub no_move_queued : (q : Queued) (p : Pid) → AreTogether q → list_all (λ (post : Post). is_from k post.by) (posts_of q) ≡ true → IsQueueLegal SentMayStand system log (posts_of q) → (home_at places p ≡ Some k → ⊥) → move_of p (posts_of q) ≡ None
  no_move_queued Nothing p together own legal away = refl
  no_move_queued (One post) p together own legal away = ap (λ b. option_map (λ (post : Post). post.what) (cond b (Some post) None)) (by_what (lone_is post.what together))
    where
      from : is_from k post.by ≡ true
      from = (and_parts (is_from k post.by) true own).0

      by_move : (b : Bool) → is_move_of p post ≡ b → tells_or_closes post.what ≡ true → b ≡ false
      by_move false is tells = refl
      by_move true is tells = absurd (away (sent_home post p from by_it))
        where
          may : TellingMayStand system log (entry_of system log post)
          may = told_may system log (entry_of system log post) legal.0 tells

          u : Telling system log (entry_of system log post)
          u = telling system log (entry_of system log post) may (no_end k places post.by post.what may.of_kind from (may.stands).by_right)

          of : u.pid ≡ p
          of = same_Some u.pid p (sym u.process ∙ moves_it p (post ∷ []) post.what (ap (λ b. option_map (λ (post : Post). post.what) (cond b (Some post) None)) is))

          by_it : is_by post.by (home_at places p) ≡ true
          by_it = ap (λ p. is_by post.by (home_at places p)) (sym of) ∙ by_home_of places post.by u.pid u.by_home

      by_what : (tells_or_closes post.what ≡ true) ⊎ (is_of_page post.what ≡ true) → is_move_of p post ≡ false
      by_what (inl tells) = by_move (is_move_of p post) refl tells
      by_what (inr of) = page_moves_none p post of

  -- and no fetch of its pages
  pub no_fetch_queued : (q : Queued) (p : Pid) (i : ℕ) → AreTogether q → list_all (λ (post : Post). is_from k post.by) (posts_of q) ≡ true → IsQueueLegal SentMayStand system log (posts_of q) → (home_at places p ≡ Some k → ⊥) → is_fetch_queued p (posts_of q) i ≡ false
  no_fetch_queued Nothing p i together own legal away = refl
  no_fetch_queued (One post) p i together own legal away = ap (λ b. b || false) (by_fetch (is_fetch p i post.what) refl)
    where
      by_fetch : (b : Bool) → is_fetch p i post.what ≡ b → b ≡ false
      by_fetch false is = refl
      by_fetch true is = absurd (away (sent_home post p (and_parts (is_from k post.by) true own).0 (fetched_home places post.by p i post.what (lone_is post.what together) is ((legal.0).stands).by_right)))
