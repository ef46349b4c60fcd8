-- The post that hands on the family of the first process here that waits for its new backup.
use Rattle.std.proofs.Common.{◌≡◌, ℕ, refl, sym, ◌∙◌, ap, subst, List, [], ◌∷◌, map, Bool, true, false, Some, eqb-true, ◌≤◌, true≢false}
use Rattle.std.specs.Prelude.{drop, nat_lt, not, unwrap_or}
use Rattle.std.specs.Option.{option_map_or}
use Rattle.std.proofs.lemmas.Bool.{and_parts, not-true, or_parts}
use Rattle.t32_base.specs.declared.process.Pid.{Pid}
use Rattle.t32_base.specs.declared.letter.BackRec.{BackRec}
use Rattle.sys_text.specs.Valid.{is_system}
use Rattle.bus_msg.specs.declared.entry.By.TheVariants.{Cluster}
use Rattle.bus_msg.specs.declared.entry.Entry.{Entry}
use Rattle.bus_msg.specs.declared.entry.Post.{Post}
use Rattle.bus_msg.specs.declared.placed.Placed.{Placed}
use Rattle.bus_msg.specs.Places.{Places, lives_in, same_cluster, unended_at}
use Rattle.bus_msg.specs.NewBackup.{next_backup_at}
use Rattle.birth_notice.specs.Joined.{others_of}
use Rattle.backup_mode.specs.Posts.{standing_post}
use Rattle.backup_mode.specs.Renewal.{number_of}
use Rattle.cert_sched.specs.Appended.{entry_of}
use Rattle.cert_sched.specs.Parts.{first_of, rising}
use Rattle.cert_sched.specs.Schedule.{placement}
use Rattle.cert_sched.specs.Family.{unsynced_family}
use Rattle.cert_sched.specs.Record.{backup_record, has_state}
use Rattle.cert_sched.specs.Kinds.{is_done_by}
use Rattle.cert_sched.specs.Moved.{any_since_moved, is_fetch}
use Rattle.cert_sched.specs.Rules.{has_awaited_backup, is_by_home, is_over}
use Rattle.cert_sched.specs.Legal.{IsLegal, IsLegalBy, MayFollow, Stands, MayStand}
use Rattle.cert_sched.proofs.FamilyLaws.{families}
use Rattle.cert_sched.proofs.LiveLaws.{homes_live}
use Rattle.log_laws.proofs.letters.LogReads.{itself}
use Rattle.backup_laws.specs.Posts.{MayHandOn}
use Rattle.backup_laws.proofs.StandingStands.{standing_follows, standing_stands}
use Rattle.page_waits.specs.Waiting.{WaitingState}
use Rattle.replay_laws.specs.pages.Waits.{WaitsAs}
use Rattle.replay_laws.proofs.forks.EitherWait.{for_pages}
use Rattle.residents.specs.Held.{Waits}
use Rattle.residents.specs.Records.{record_at}
use Rattle.standing_backups.specs.Standing.{CanBeNext, HandsOn, IsNextStanding}
use Rattle.cluster_core.specs.View.{ClusterView}
use Rattle.cluster_core.specs.Follows.{Follows, IsOpen}
use Rattle.cluster_core.specs.Holds.{is_fetch_queued}
use Rattle.cluster_core.specs.Sent.{SentMayStand}
use Rattle.cluster_core.specs.Standing.{HoldsBackups}
use Rattle.cluster_core.proofs.losses.Homes.{HomeHere}
use Rattle.cluster_core.proofs.handing.Apart.{in_order}
use Rattle.cluster_core.proofs.handing.Quiet.{unasked_quiet}
use Rattle.cluster_core.proofs.handing.Waits.{First, can_be_next, first_is, recorded}
use Rattle.cluster_core.proofs.working.Working.{home_by}
use Rattle.cluster_core.specs.Parts.{AllOwn}
use Rattle.log_laws.proofs.records.Standing.{all_stand, legal_stands}

module _ (c : ClusterView) (log : List Entry) (valid : is_system c.system ≡ true) (legal : IsLegalBy Stands c.system log) (goes_on : is_over c.system log ≡ false)
    (f : Follows c.system log c) (begun : HoldsBackups c.system log c) (p : Pid) (one : First c log valid legal f begun f.owed p) where
  abbrev here : Places
  here = placement c.system log

  home : HomeHere here p c.number
  home = (one.there).home

  -- its home, which lives, is this cluster
  by_home : is_by_home here (Cluster c.number) (Some p) ≡ true
  by_home =
      let same : (home.placed).home ≡ c.number = λ i. record { 0 = eqb-true ((home.placed).home).0 (c.number).0 home.home i } in
      let lives = ap (lives_in here) (sym same) ∙ homes_live Stands itself c.system log valid legal goes_on p home.placed home.found in
      home_by here c.number p lives home

  waits : has_awaited_backup c.system log p ≡ false
  waits = not-true (has_awaited_backup c.system log p) (and_parts (option_map_or (λ (q : Placed). same_cluster q.home c.number) (unended_at here p) false) (not (has_awaited_backup c.system log p)) one.waits).1

  -- it has asked for no page, so it has done nothing since it was moved
  quiet : IsLegalBy MayStand c.system log → any_since_moved c.system log p (is_done_by p) ≡ false
  quiet stands =
      unasked_quiet c.system log p valid stands waits_for.moved (subst (λ n. 1 ≤ n) waits_for.pages waits_for.some)
      (or_parts (any_since_moved c.system log p (is_fetch p 0)) (is_fetch_queued p c.queue 0) (sym (waits_for.asked 0 waits_for.some) ∙ unasked (nat_lt 0 w.asked) refl)).0
    where
      w : WaitingState
      w = (one.there).waiting

      waits_for : WaitsAs c.system log p (is_fetch_queued p c.queue) w
      waits_for = for_pages c.system log p (is_fetch_queued p c.queue) w ((f.processes).held p (Waits w) (one.there).there).1 one.stated

      unasked : (b : Bool) → nat_lt 0 w.asked ≡ b → b ≡ false
      unasked false is = refl
      unasked true is = absurd (true≢false (sym (begun p (Waits w) (one.there).there is) ∙ waits))

  -- ---- a post that hands its family on

  module _ (post : Post) (h : HandsOn c.number c.places c.family c.here p post) where
    -- the records are those of the log
    each_recorded : (recs : List BackRec) → map Some recs ≡ map (λ (r : BackRec). record_at c.here r.pid) recs → map Some recs ≡ map (λ (r : BackRec). backup_record c.system log r.pid) recs
    each_recorded [] is = refl
    each_recorded (r ∷ recs) is =
        let first : Some r ≡ record_at c.here r.pid = ap (λ os. unwrap_or (first_of os) (Some r)) is in
        let rest : map Some recs ≡ map (λ (r : BackRec). record_at c.here r.pid) recs = ap (drop 1) is in
        λ i. sym (recorded c log valid legal f begun r.pid r (sym first)) i ∷ each_recorded recs rest i

    numbers_are : rising (map number_of h.recs) ≡ rising (map (λ (q : Pid). q.0) (unsynced_family c.system log p))
    numbers_are =
        ap rising (h.family ∙ ap (λ births. p.0 ∷ others_of births p) f.family)
        ∙ in_order c.system log (families Stands itself c.system log valid legal) p one.stated

    own_first_record : (first : BackRec) (rest : List BackRec) → h.recs ≡ first ∷ rest → first.pid ≡ p
    own_first_record first rest is = λ i. record { 0 = first_number i }
      where
        first_number : (first.pid).0 ≡ p.0
        first_number = ap (λ ns. unwrap_or (first_of ns) p.0) (ap (map number_of) (sym is) ∙ h.family)

    hands_on : (first : BackRec) (rest : List BackRec) → h.recs ≡ first ∷ rest → MayHandOn c.system log c.number h.to first rest
    hands_on first rest is =
        let own = own_first_record first rest is in
        record {
          goes_on = goes_on;
          by_home = ap (λ q. is_by_home here (Cluster c.number) (Some q)) own ∙ by_home;
          waits = ap (has_awaited_backup c.system log) own ∙ waits;
          stated = ap (has_state c.system log) own ∙ one.stated;
          backup = ap (next_backup_at here) own ∙ ap (λ places. next_backup_at places p) (sym (f.log).places) ∙ h.backup;
          family = ap (λ recs. rising (map number_of recs)) (sym is) ∙ numbers_are ∙ ap (λ q. rising (map (λ (q : Pid). q.0) (unsynced_family c.system log q))) (sym own);
          records = subst (λ recs. map Some recs ≡ map (λ (r : BackRec). backup_record c.system log r.pid) recs) is (each_recorded h.recs h.records);
        }

    by_first : (P : Post → Type 0) → ((first : BackRec) (rest : List BackRec) → h.recs ≡ first ∷ rest → P (standing_post c.number h.to (first ∷ rest))) → P post
    by_first P each = by_recs h.recs refl
      where
        by_recs : (recs : List BackRec) → h.recs ≡ recs → P post
        by_recs [] none = let never : ◌≡◌ {A = List ℕ} [] (p.0 ∷ others_of c.family p) = ap (map number_of) (sym none) ∙ h.family in cc
        by_recs (first ∷ rest) is = subst P (sym (h.post_is ∙ ap (standing_post c.number h.to) is)) (each first rest is)

    -- so in a legal log the post may follow,
    pub hand_follows : IsLegal c.system log → MayFollow c.system log (entry_of c.system log post)
    hand_follows all_legal =
        by_first (λ (x : Post). MayFollow c.system log (entry_of c.system log x))
        (λ first rest is. standing_follows c.system log c.number h.to first rest valid all_legal (hands_on first rest is))

    -- and in one by the rule that is in force
    pub hand_may : IsLegalBy MayStand c.system log → SentMayStand c.system log (entry_of c.system log post)
    hand_may stands =
        by_first (λ (x : Post). SentMayStand c.system log (entry_of c.system log x)) (λ first rest is. record {
          stands = standing_stands c.system log c.number h.to first rest legal (hands_on first rest is)
              (ap (λ q. any_since_moved c.system log q (is_done_by q)) (own_first_record first rest is) ∙ quiet stands);
          of_kind = refl;
          limits = refl;
          new_page = refl;
          pages = refl;
        })

-- the next standing post may follow
pub next_follows : (c : ClusterView) (log : List Entry) → is_system c.system ≡ true → IsLegal c.system log → is_over c.system log ≡ false → Follows c.system log c
    → (post : Post) → IsNextStanding c.number c.places c.family c.here c.owed (Some post) → MayFollow c.system log (entry_of c.system log post)
next_follows c log valid legal goes_on f post next =
    let stands = legal_stands MayFollow (λ system log e may. may.stands) c.system log legal in
    hand_follows c log valid stands goes_on f f.backups next.0 (first_is c log valid stands f f.backups f.owed next.0 next.1) post next.2 legal

pub next_may : (c : ClusterView) (log : List Entry) → is_system c.system ≡ true → IsOpen MayStand c.system log → Follows c.system log c
    → (post : Post) → IsNextStanding c.number c.places c.family c.here c.owed (Some post) → SentMayStand c.system log (entry_of c.system log post)
next_may c log valid go f post next =
    let stands = all_stand c.system log go.0 in
    hand_may c log valid stands go.1 f f.backups next.0 (first_is c log valid stands f f.backups f.owed next.0 next.1) post next.2 go.0

-- and there can be one
pub next_can : (c : ClusterView) (log : List Entry) → is_system c.system ≡ true → IsLegalBy Stands c.system log → Follows c.system log c → AllOwn c.cursor c.here
    → CanBeNext c.places c.family c.here c.owed
next_can c log valid legal f own = can_be_next c log valid legal f f.backups f.owed own
