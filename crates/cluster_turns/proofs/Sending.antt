-- A cluster takes in the entry that it sent.
use Rattle.std.proofs.Common.{true≢false, Bool, refl, true, ◌≡◌, ◌+◌, ◌≤◌, ◌<◌, take, sym, ◌∙◌, ap, subst, arith, List, [], ◌∷◌, ◌++◌, length, drop, length-append, false, true, cond, ◌||◌, None, Some, slice_get, inr, inl, add-one}
use Rattle.std.specs.Prelude.{option_map}
use Rattle.std.specs.List.{list_any, list_all}
use Rattle.std.proofs.lemmas.List.{drop-append-le, take-append-le, take_all}
use Rattle.std.proofs.lemmas.Bool.{and_parts}
use Rattle.sys_text.specs.declared.system.System.{System}
use Rattle.sys_text.specs.Valid.{is_system}
use Rattle.bus_msg.specs.declared.entry.Post.{Post}
use Rattle.bus_msg.specs.declared.entry.Entry.{Entry}
use Rattle.bus_msg.specs.declared.entry.What.{What}
use Rattle.bus_msg.specs.declared.entry.What.TheVariants.{Birth, Exit, Fetch, Mail, Page, PageIs, Rebackup, Sync}
use Rattle.t32_base.specs.declared.process.ClusterNo.{ClusterNo}
use Rattle.t32_base.specs.declared.letter.BackRec.{BackRec}
use Rattle.bus_msg.specs.PlacedAfter.{what}
use Rattle.cert_sched.specs.Schedule.{placement}
use Rattle.cert_sched.specs.Appended.{entry_of}
use Rattle.cert_sched.specs.Rules.{is_over}
use Rattle.cert_sched.specs.Told.{cluster_lost}
use Rattle.cert_sched.specs.Legal.{IsLegalBy, Stands, MayStand}
use Rattle.cert_sched.specs.Scripted.{closes}
use Rattle.cert_sched.specs.Losses.{is_by_cluster, is_crash_of, is_from, was_lost_in}
use Rattle.cert_sched.proofs.Induction.{is_over-snoc}
use Rattle.cert_sched.proofs.LogLaws.{IsLegal-snoc}
use Rattle.log_laws.proofs.records.Standing.{all_stand}
use Rattle.checkpoint_laws.specs.remaining.Left.{is_from_cluster}
use Rattle.checkpoint_laws.proofs.remaining.Falling.{to_send_falls}
use Rattle.checkpoint_laws.proofs.remaining.Renewing.{to_send_renewed}
use Rattle.backup_laws.proofs.Fewer.{backups_less, backups_most}
use Rattle.cluster_core.specs.Sent.{SentMayStand}
use Rattle.cluster_core.specs.View.{ClusterView, after_sent, renewed_by_head, with_server}
use Rattle.cluster_core.specs.Queue.{IsQueueLegal}
use Rattle.cluster_core.specs.Follows.{Follows, IsOpen, StandsBetween}
use Rattle.cluster_core.specs.Calls.{Absorbs, IsReady, ReadyFor, absorbed}
use Rattle.bus_order.specs.Script.{is_unpassed, off_at, place_of_loss}
use Rattle.bus_order.proofs.OffLaws.{off_at-snoc}
use Rattle.bus_order.specs.View.{BusView}
use Rattle.script_laws.proofs.PassedWords.{all_longer}
use Rattle.cluster_turns.specs.Gone.{IsBeforeStep, is_own_loss, is_told_by}
use Rattle.cluster_turns.specs.Along.{IsAlong, IsReadyAt, IsSound, IsUnnamed, TakesNext, upto}
use Rattle.cluster_turns.specs.Turns.{IsSent}
use Rattle.cluster_turns.proofs.Heads.{head_first, tail_of}
use Rattle.cluster_turns.proofs.Prefixes.{drop_whole, get_last}
use Rattle.cluster_turns.proofs.OwnLosses.{own_living, passed_next}
use Rattle.cluster_turns.specs.Progress.{left_of_posts}
use Rattle.cluster_turns.proofs.SentKinds.{by_sent, closes_not, ends_closed, may_sent, no_loss, no_turn}
use Rattle.cluster_turns.proofs.TakingIn.{disk_kept, open_where, upto_all}
use Rattle.cluster_turns.proofs.Upto.{lost_next}

-- a cluster whose head was sent
abbrev pub cleared : ClusterView → ClusterView
cleared c = record c { here = renewed_by_head c.queue c.here; queue = tail_of c.queue; tried = false }

module _ (log : List Entry) (c : ClusterView) (post : Post) (after : BusView) (s : IsSent log c post after) where
  abbrev pub next : Entry
  next = entry_of c.system log post

  pub follows : Follows c.system log c
  follows = subst (λ l. Follows c.system l c) (take_all c.cursor log (omega (arith, s.seen))) (s.beside).follows

  queue_is : c.queue ≡ post ∷ tail_of c.queue
  queue_is = head_first c.queue post s.head

  may : SentMayStand c.system log next
  may = let queue = subst (λ q. IsQueueLegal SentMayStand c.system log q) queue_is (follows.queue).legal in queue.0

  pub own : is_from c.number post.by ≡ true
  own =
      let all = sym (ap (λ q. list_all (λ (p : Post). is_from c.number p.by) q) queue_is) ∙ (follows.queue).own in
      (and_parts (is_from c.number post.by) (list_all (λ (p : Post). is_from c.number p.by) (tail_of c.queue)) all).0

  pub clears : after_sent c c.queue ≡ cleared c
  clears = ap (after_sent c) queue_is ∙ sym (ap (λ q. record c { here = renewed_by_head q c.here; queue = tail_of q; tried = false }) queue_is)

  legal_next : IsLegalBy MayStand c.system (log ++ next ∷ [])
  legal_next = IsLegal-snoc MayStand c.system log next s.legal (may_sent c.system log next may)

  pub lives_log : off_at log c.number ≡ None
  lives_log = ap (λ l. off_at l c.number) (sym (take_all c.cursor log (omega (arith, s.seen)))) ∙ (s.beside).lives

  -- the cluster is not off then
  pub sent_lives : off_at after.log c.number ≡ None
  sent_lives = ap (λ l. off_at l c.number) s.longer ∙ off_at-snoc log next c.number ∙ ap (λ t. cond t (place_of_loss c.number (Some next)) (off_at log c.number)) (no_turn c.number (what next) may.of_kind) ∙ lives_log

  -- and was not lost by what it sent
  sent_no_loss : is_crash_of c.number (what next) ≡ false
  sent_no_loss = no_loss c.number (what next) may.of_kind

  pub sent_unlost : was_lost_in (drop c.cursor after.log) c.number ≡ false
  sent_unlost =
      (λ i. was_lost_in (drop (s.seen i) (s.longer i)) c.number)
      ∙ ap (λ l. was_lost_in l c.number) (drop-append-le (length log) log (next ∷ []) (omega arith) ∙ ap (λ l. l ++ next ∷ []) (drop_whole log)) ∙ ap (λ t. t || false) sent_no_loss

  open_still : closes post.what ≡ false
  open_still = closes_not c.number (placement c.system log) post.by post.what may.of_kind own (may.stands).by_right

  goes_on_next : is_over c.system (log ++ next ∷ []) ≡ false
  goes_on_next = is_over-snoc c.system log next ∙ ends_closed (placement c.system log) (what next) may.of_kind ∙ open_still

  pub sent_goes_on : is_over after.system after.log ≡ false
  sent_goes_on = (λ i. is_over (sym s.system i) (s.longer i)) ∙ goes_on_next

  valid_system : IsSound after → is_system c.system ≡ true
  valid_system sound = ap is_system s.system ∙ sound.valid

  stands_next : IsLegalBy Stands c.system (log ++ next ∷ [])
  stands_next = all_stand c.system (log ++ next ∷ []) legal_next

  -- what a process sends, or is sent for its pages, leaves one such post less, and no more backups to be made
  tells_less : (w : What) → is_from_cluster w ≡ true → cluster_lost w ≡ None → what next ≡ w → IsSound after → left_of_posts c.system (log ++ next ∷ []) < left_of_posts c.system log
  tells_less w tells keeps is sound =
      let less = to_send_falls c.system log next (valid_system sound) (all_stand c.system log s.legal) may.stands may.new_page (ap is_from_cluster is ∙ tells) in
      let most = backups_most c.system log next (valid_system sound) stands_next (ap cluster_lost is ∙ keeps) in
      omega (arith, less, most)

  -- a new backup leaves one less to be made, and no more such posts
  renews_less : (to : ClusterNo) (fresh : Bool) (recs : List BackRec) → what next ≡ Rebackup to fresh recs → IsSound after → left_of_posts c.system (log ++ next ∷ []) < left_of_posts c.system log
  renews_less to fresh recs is sound =
      let most = to_send_renewed c.system log next to fresh recs (valid_system sound) (all_stand c.system log s.legal) may.stands is in
      let less = backups_less c.system log next to fresh recs (valid_system sound) stands_next is in
      omega (arith, less, most)

  sends_less : IsSound after → left_of_posts c.system (log ++ next ∷ []) < left_of_posts c.system log
  sends_less sound =
      by_sent (λ w. what next ≡ w → closes w ≡ false → IsSound after → left_of_posts c.system (log ++ next ∷ []) < left_of_posts c.system log)
      (λ at letter is still. tells_less (Mail at letter) refl refl is) (λ parent at child end is still. tells_less (Birth parent at child end) refl refl is) (λ pid at end is still. tells_less (Exit pid at end) refl refl is)
      (λ pid index is still. tells_less (Fetch pid index) refl refl is) (λ pid index bytes is still. tells_less (PageIs pid index bytes) refl refl is) (λ pid at index bytes is still. tells_less (Page pid at index bytes) refl refl is)
      (λ pid small read took is still. tells_less (Sync pid small read took) refl refl is) (λ to fresh recs is still. renews_less to fresh recs is) (λ rests is still. absurd (true≢false still)) (λ is still. absurd (true≢false still))
      post.what may.of_kind refl open_still sound

  -- it leaves a post less to send, at least
  pub sent_spends : IsSound after → left_of_posts after.system after.log + length after.log ≤ left_of_posts c.system log + length log
  sent_spends sound =
      let less = sends_less sound in
      let left_is : left_of_posts after.system after.log ≡ left_of_posts c.system (log ++ next ∷ []) = λ i. left_of_posts (sym s.system i) (s.longer i) in
      let grown : length after.log ≡ length log + 1 = ap length s.longer ∙ length-append log (next ∷ []) in
      omega (arith, less, left_is, grown)

  pub long : length after.log ≡ c.cursor + 1
  long = ap length s.longer ∙ length-append log (next ∷ []) ∙ ap (λ n. n + 1) (sym s.seen)

  at_cursor : slice_get after.log c.cursor ≡ Some next
  at_cursor = (λ i. slice_get (s.longer i) (s.seen i)) ∙ get_last log next

  open_first : IsOpen MayStand c.system log
  open_first = (s.legal, s.goes_on)

  open_next : IsOpen MayStand c.system (log ++ next ∷ [])
  open_next = (legal_next, goes_on_next)

  stands_between : StandsBetween Follows c.system log next (cleared c)
  stands_between = record {
    before = c;
    followed = follows;
    head = ap (option_map (entry_of c.system log)) s.head;
    tried = s.tried;
    sent = sym clears;
  }

  between : IsReady log next (cleared c)
  between = inr stands_between

  pub ready_sent : IsSound after → IsReadyAt after.log (after_sent c c.queue)
  ready_sent sound = subst (IsReadyAt after.log) (sym clears) (record {
    within = subst (λ y. c.cursor < upto c.number y after.log c.cursor) (sym s.system) (omega (arith, long, upto_all after c.number c.cursor sent_goes_on (omega (arith, long)) sent_unlost));
    open_there = open_where after.system after.log c.number c.cursor sound.legal (omega (arith, long, upto_all after c.number c.cursor sent_goes_on (omega (arith, long)) sent_unlost));
    ready = λ e at.
        let is : next ≡ e = let both_are : Some next ≡ Some e = sym at_cursor ∙ at in cc in
        let P : Entry → Type 0 = λ e. ReadyFor e (cleared c) in
        subst P is (record { log = log; open_log = open_first; open_next = open_next; ready = between });
  })

  -- it has told no loss of its own since
  pub sent_kept : list_any (λ (e : Entry). is_own_loss c.number (what e)) (drop c.cursor after.log) ≡ false
  sent_kept =
      (λ i. list_any (λ (e : Entry). is_own_loss c.number (what e)) (drop (s.seen i) (s.longer i)))
      ∙ ap (list_any (λ (e : Entry). is_own_loss c.number (what e))) (drop-append-le (length log) log (next ∷ []) (omega arith) ∙ ap (λ l. l ++ next ∷ []) (drop_whole log))
      ∙ ap (λ t. t || false) (own_living c.number (what next) sent_no_loss)

  -- it has passed no word for a step
  pub passed_then : list_all (is_unpassed c.number after.log c.steps) after.script ≡ true
  passed_then = ap (λ l. list_all (is_unpassed c.number l c.steps) after.script) s.longer ∙ all_longer c.number log (next ∷ []) c.steps after.script s.passed

  module _ (left new : ClusterView) (left_is : left ≡ after_sent c c.queue) (t' : TakesNext after.log left new) where
    is_left : left ≡ cleared c
    is_left = left_is ∙ clears

    t : TakesNext after.log (cleared c) new
    t = subst (λ v. TakesNext after.log v new) is_left t'

    taken : new ≡ with_server new.server (absorbed (cleared c) next)
    taken = let is : t.entry ≡ next = let both_are : Some t.entry ≡ Some next = sym t.there ∙ at_cursor in cc in t.taken ∙ ap (λ e. with_server new.server (absorbed (cleared c) e)) is

    absorbs : Absorbs next (cleared c) new
    absorbs = let is : t.entry ≡ next = let both_are : Some t.entry ≡ Some next = sym t.there ∙ at_cursor in cc in subst (λ e. Absorbs e (cleared c) new) is t.follows

    pub sent_seen : new.cursor ≡ length after.log
    sent_seen = ap (λ (v : ClusterView). v.cursor) taken ∙ sym long

    pub sent_system : new.system ≡ c.system
    sent_system = ap (λ (v : ClusterView). v.system) taken

    pub sent_number : new.number ≡ c.number
    sent_number = ap (λ (v : ClusterView). v.number) taken

    pub sent_along : IsUnnamed after left → IsAlong after new
    sent_along unnamed =
        let all : length after.log ≡ c.cursor + 1 = long in
        let before : take c.cursor after.log ≡ take c.cursor log = ap (take c.cursor) s.longer ∙ take-append-le c.cursor log (next ∷ []) (omega (arith, s.seen)) in
        let unlost : was_lost_in (take (c.cursor + 1) after.log) c.number ≡ was_lost_in (take c.cursor log) c.number =
        ap (λ n. was_lost_in (take n after.log) c.number) (add-one c.cursor) ∙ lost_next after.log c.cursor next c.number at_cursor sent_no_loss ∙ ap (λ l. was_lost_in l c.number) before in
        let P : ClusterView → Type 0 = λ v. Follows c.system (log ++ next ∷ []) v → IsAlong after v in
        subst P (sym taken) (λ f. record {
          system = s.system;
          beside = record {
            has = (s.beside).has;
            within = omega (arith, all);
            goes_on = (λ i. is_over (s.system i) (take_all (c.cursor + 1) after.log (omega (arith, all)) i)) ∙ sent_goes_on;
            lives = ap (λ l. off_at l c.number) (take_all (c.cursor + 1) after.log (omega (arith, all))) ∙ sent_lives;
            follows = subst (λ l. Follows c.system l (with_server new.server (absorbed (cleared c) next))) (sym (take_all (c.cursor + 1) after.log (omega (arith, all)) ∙ s.longer)) f;
            told_before = ap (λ n. list_any (is_told_by c.number) (drop n after.log)) (sym all) ∙ ap (list_any (is_told_by c.number)) (drop_whole after.log);
            unfailed = (s.beside).unfailed;
          };
          passed = passed_next after (cleared c) (subst (IsUnnamed after) is_left unnamed) passed_then;
          disk = t.disk ∙ s.disk ∙ disk_kept after.script c (take c.cursor log) (take (c.cursor + 1) after.log) unlost;
        }) (absorbs log open_first open_next between)

  -- before it takes the entry in, it stands between that and the log before
  pub before_sent : IsLegalBy MayStand after.system after.log → (left : ClusterView) → left ≡ after_sent c c.queue → IsBeforeStep after left
  before_sent legal left left_is = subst (IsBeforeStep after) (sym (left_is ∙ clears)) (record {
    system = s.system;
    has = subst (λ (y : System). (c.number).0 < y.clusters) s.system (s.beside).has;
    within = omega (arith, long);
    goes_on = (λ i. is_over (sym s.system i) (front i)) ∙ s.goes_on;
    lives = ap (λ l. off_at l c.number) front ∙ lives_log;
    stands = inl (
      (s.beside).unfailed,
      inr (record {
        entry = next;
        there = at_cursor;
        between = subst (λ y. StandsBetween Follows y (take c.cursor after.log) next (cleared c)) s.system (subst (λ l. StandsBetween Follows c.system l next (cleared c)) (sym front) stands_between);
        sent_before = ap (λ n. list_any (is_by_cluster c.number) (drop n after.log)) (sym long) ∙ ap (list_any (is_by_cluster c.number)) (drop_whole after.log);
      }),
    );
    kept = sent_kept;
    passed = passed_then;
  })
    where
      front : take c.cursor after.log ≡ log
      front = ap (take c.cursor) s.longer ∙ take-append-le c.cursor log (next ∷ []) (omega (arith, s.seen)) ∙ take_all c.cursor log (omega (arith, s.seen))
