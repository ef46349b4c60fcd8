-- What the bus answers to a cluster that follows its log, and what a bus came from.
use Rattle.std.proofs.Common.{◌≡◌, ℕ, ◌+◌, ◌<◌, ◌≤◌, refl, sym, ◌∙◌, ap, subst, arith, inl, inr, [], ◌∷◌, length, drop, Bool, true, false, cond, Option, Some, Result, Ok, Err, true≢false, eqb-true}
use Rattle.std.specs.List.{list_all}
use Rattle.std.proofs.lemmas.Bool.{and_parts}
use Rattle.std.proofs.lemmas.List.{take_all}
use Rattle.std.proofs.lemmas.List.Elements.{All-nil, All-cons}
use Rattle.t32_base.specs.declared.process.ClusterNo.{ClusterNo}
use Rattle.sys_text.specs.declared.system.System.{System}
use Rattle.bus_msg.specs.declared.entry.By.{By}
use Rattle.bus_msg.specs.declared.entry.By.TheVariants.{Cluster, Bus}
use Rattle.bus_msg.specs.declared.entry.What.TheVariants.{Done}
use Rattle.bus_msg.specs.declared.entry.Post.{Post}
use Rattle.cert_sched.specs.Appended.{entry_of}
use Rattle.cluster_core.proofs.working.Heads.{head_follows}
use Rattle.cert_sched.specs.Legal.{IsLegalBy, MayStand, MayFollow}
use Rattle.cert_sched.specs.Losses.{is_from, least_calls, least_steps, capped, was_lost_in}
use Rattle.cert_sched.specs.Rests.{IsRestOf}
use Rattle.cert_sched.specs.Rules.{is_over}
use Rattle.cert_sched.specs.Schedule.{placement}
use Rattle.cluster_core.specs.View.{ClusterView, disk_calls, head_of}
use Rattle.cluster_core.specs.Follows.{Follows, IsOpen}
use Rattle.cluster_core.specs.Calls.{OwesNoAnswer, WaitsForPages}
use Rattle.cluster_turns.specs.Progress.{AwaitsPage, HasAnswered}
use Rattle.cert_sched.specs.Moved.{waiting_fetches}
use Rattle.cert_sched.specs.Parts.{first_of}
use Rattle.bus_msg.specs.Places.{servers_in}
use Rattle.bus_msg.specs.declared.entry.Entry.{Entry}
use Rattle.std.specs.Prelude.{List, ◌≢◌}
use Rattle.cluster_core.specs.Queue.{with_queue}
use Rattle.cert_sched.specs.Scripted.{is_server}
use Rattle.bus_lock.specs.Lists.{MayAdd}
use Rattle.bus_order.specs.Log.{author, author_of}
use Rattle.bus_order.specs.declared.marks.Mark.{Mark}
use Rattle.bus_order.specs.declared.marks.Idled.{Idled}
use Rattle.bus_order.specs.declared.marks.Idled.TheVariants.{Marked, Done as WasDone}
use Rattle.bus_order.specs.declared.refused.Refused.{Refused}
use Rattle.bus_order.specs.declared.refused.Refused.TheVariants.{Over, Off, Behind, NoMemory}
use Rattle.bus_order.specs.declared.shared.Origin.{Origin}
use Rattle.bus_order.specs.Script.{is_uncalled, is_unpassed, off_at}
use Rattle.bus_order.specs.View.{Admits, BusView, Ends, Idles, MayIdle, MayTransmit, Transmits, after_words, is_awaited, with_mark, with_post}
use Rattle.cluster_turns.specs.declared.offers.Offered.TheVariants.{Sent}
use Rattle.cluster_turns.specs.Along.{IsAlong, IsSound}
use Rattle.cluster_turns.specs.Offers.{Adds, GoesOnFor, IsToldBy, OfferAnswers, OfferIs, TellAnswers, TellIs}
use Rattle.cluster_turns.proofs.DiskCalls.{disk_uncalled}
use Rattle.cluster_turns.proofs.Heads.{head_first, tail_of}
use Rattle.cluster_turns.proofs.Offering.{adds_worded, along_worded}
use Rattle.cluster_turns.proofs.Owning.{adds_more}
use Rattle.cluster_turns.proofs.TakingIn.{seen_lives}
use Rattle.cluster_turns.proofs.Upto.{lost_since}
use Rattle.cluster_turns.proofs.Worded.{after_worded, looked_worded}
use Rattle.sys_text.specs.Valid.{is_system}

-- ---- what the calls ask

-- a post from a cluster is its own
own_post : (k : ClusterNo) (by : By) → is_from k by ≡ true → by ≡ Cluster k
own_post k Bus from = absurd (true≢false (sym from))
own_post k (Cluster j) from = λ i. Cluster (record { 0 = eqb-true j.0 k.0 from i })

-- one that has seen all follows the whole log
follows_all : (b : BusView) (c : ClusterView) → IsAlong b c → c.cursor ≡ length b.log → Follows c.system b.log c
follows_all b c along seen = subst (λ log. Follows c.system log c) (take_all c.cursor b.log (omega (arith, seen))) (along.beside).follows

-- what holds in each log that it follows holds in that of the bus
in_its_log : (P : System → List Entry → Type 0) (b : BusView) (c : ClusterView) → IsSound b → IsAlong b c → c.cursor ≡ length b.log → is_over b.system b.log ≡ false → ((log : List Entry) → IsOpen MayStand c.system log → Follows c.system log c → P c.system log) → P b.system b.log
in_its_log P b c sound along seen goes holds =
    subst (λ s. P s b.log) along.system
    (holds b.log (subst (λ s. IsLegalBy MayStand s b.log) (sym along.system) sound.legal, ap (λ s. is_over s b.log) along.system ∙ goes) (follows_all b c along seen))

pub along_awaits : (b : BusView) (c : ClusterView) → IsSound b → IsAlong b c → c.cursor ≡ length b.log → is_over b.system b.log ≡ false → WaitsForPages c → AwaitsPage b
along_awaits b c sound along seen goes waits = in_its_log (λ system log. waiting_fetches system log ≢ []) b c sound along seen goes waits

pub along_answered : (b : BusView) (c : ClusterView) → IsSound b → IsAlong b c → c.cursor ≡ length b.log → is_over b.system b.log ≡ false → OwesNoAnswer c → HasAnswered b (c.number).0
along_answered b c sound along seen goes owes = in_its_log (λ system log. first_of (servers_in (placement system log)) ≡ Some c.number → waiting_fetches system log ≡ []) b c sound along seen goes owes

-- so is the head of a cluster
pub own_of : (b : BusView) (c : ClusterView) (post : Post) (k : ClusterNo) → IsAlong b c → head_of c.queue ≡ Some post → k ≡ c.number → post.by ≡ Cluster k
own_of b c post k along head k_is =
    let all = sym (ap (λ q. list_all (λ (p : Post). is_from c.number p.by) q) (head_first c.queue post head)) ∙ (((along.beside).follows).queue).own in
    own_post c.number post.by (and_parts (is_from c.number post.by) (list_all (λ (p : Post). is_from c.number p.by) (tail_of c.queue)) all).0 ∙ ap Cluster (sym k_is)

pub may_be_sent : (b : BusView) (c : ClusterView) (post : Post) (k : ClusterNo) (n : ℕ) → IsSound b → IsAlong b c → head_of c.queue ≡ Some post → k ≡ c.number → n ≡ c.cursor → MayTransmit b k n post
may_be_sent b c post k n sound along head k_is n_is =
    let At : ClusterNo → Type 0 = λ k. MayTransmit b k n post in
    let From : ℕ → Type 0 = λ n. MayTransmit b c.number n post in
    subst At (sym k_is) (subst From (sym n_is) (record {
      seen = (along.beside).within;
      own =
          let all = sym (ap (λ q. list_all (λ (p : Post). is_from c.number p.by) q) (head_first c.queue post head)) ∙ (((along.beside).follows).queue).own in
          own_post c.number post.by (and_parts (is_from c.number post.by) (list_all (λ (p : Post). is_from c.number p.by) (tail_of c.queue)) all).0;
      may = λ goes_on seen.
          let follows = follows_all b c along seen in
          let open_log : IsOpen MayStand c.system b.log = (subst (λ s. IsLegalBy MayStand s b.log) (sym along.system) sound.legal, ap (λ s. is_over s b.log) along.system ∙ goes_on) in
          subst (λ s. MayFollow s b.log (entry_of s b.log post)) along.system (head_follows c b.log post (ap is_system along.system ∙ sound.valid) open_log follows head);
    }))

pub may_be_told : (b : BusView) (c : ClusterView) (m : Mark) (k : ClusterNo) (n : ℕ) → IsSound b → IsAlong b c → IsToldBy c m → k ≡ c.number → n ≡ c.cursor → MayIdle b k n m
may_be_told b c m k n sound along told k_is n_is =
    let At : ClusterNo → Type 0 = λ k. MayIdle b k n m in
    let From : ℕ → Type 0 = λ n. MayIdle b c.number n m in
    let same = along.system in
    subst At (sym k_is) (subst From (sym n_is) (record {
      has = subst (λ (s : System). (c.number).0 < s.clusters) same (along.beside).has;
      seen = (along.beside).within;
      may = λ goes_on seen.
          let follows = follows_all b c along seen in
          record {
            rests = subst (λ s. IsRestOf s b.log c.number m.rests) same (told.rests told.empty b.log (subst (λ s. IsLegalBy MayStand s b.log) (sym same) sound.legal, ap (λ s. is_over s b.log) same ∙ goes_on) follows);
            counted = λ kept.
                let enough = less (least_steps b.log b.log c.number) c.steps c.tried ((follows.steps).counted kept) in
                subst (λ s. capped (least_steps b.log b.log c.number) ≤ s) (sym told.steps) enough;
            passed = ap (λ n. list_all (is_unpassed c.number b.log n) b.script) told.steps ∙ along.passed;
            called = λ kept serves.
                let calls = (follows.accounts).calls kept (ap (λ s. is_server s c.number) same ∙ serves) in
                let shown = subst (λ ps. capped (least_calls c.system b.log (with_queue c.system b.log ps) c.number) ≤ disk_calls c) told.empty calls in
                subst (λ s. capped (least_calls s b.log b.log c.number) ≤ m.calls) same (subst (λ n. capped (least_calls c.system b.log b.log c.number) ≤ n) (sym told.calls) shown);
            uncalled = ap (λ n. list_all (is_uncalled c.number n) b.script) told.calls ∙ disk_uncalled b.script b.log c along.disk (follows.disk).1;
          };
    }))
  where
    less : (n s : ℕ) (b : Bool) → capped (n + cond b 1 0) ≤ s → capped n ≤ s
    less n s true h = omega (arith, h)
    less n s false h = omega (arith, h)

-- ---- what they add

adds_post : (k : ClusterNo) (b : BusView) (post : Post) → post.by ≡ Cluster k → Adds k b (with_post b post)
adds_post k b post own = record {
  system = refl;
  script = refl;
  more = entry_of b.system b.log post ∷ [];
  log = refl;
  may = All-cons (MayAdd author_of k.0) (entry_of b.system b.log post) [] (inr (ap (λ by. author by post.what) own)) (All-nil (MayAdd author_of k.0));
}

adds_words : (k : ClusterNo) (old new : BusView) → new ≡ after_words old → Adds k old new
adds_words k old new is = subst (Adds k old) (sym is) (adds_worded k old (after_words old) (after_worded old))

pub adds_sent : (old new : BusView) (k : ClusterNo) (n : ℕ) (post : Post) (r : Result ℕ Refused) → post.by ≡ Cluster k → Transmits old k n post r new → Adds k old new
adds_sent old new k n post (Ok at) own t = subst (Adds k old) (sym t.2) (adds_more k old (after_words old) (with_post (after_words old) post) (adds_worded k old (after_words old) (after_worded old)) (adds_post k (after_words old) post own))
adds_sent old new k n post (Err (Over at)) own t = adds_words k old new t.1
adds_sent old new k n post (Err (Off at)) own t = adds_words k old new t.1
adds_sent old new k n post (Err (Behind m)) own t = adds_words k old new t.1
adds_sent old new k n post (Err NoMemory) own t = adds_worded k old new (looked_worded old new t)

pub adds_told : (old new : BusView) (k : ClusterNo) (n : ℕ) (m : Mark) (r : Result Idled Refused) → Idles old k n m r new → Adds k old new
adds_told old new k n m (Ok Marked) t =
    subst (Adds k old) (sym t.2) (let words = adds_worded k old (after_words old) (after_worded old) in record { system = words.system; script = words.script; more = words.more; log = words.log; may = words.may })
adds_told old new k n m (Ok (WasDone at)) t =
    let ends = t.2 in
    let words : BusView = after_words old in
    subst (Adds k old) (sym ends.ended) (adds_more k old words _ (adds_worded k old words (after_worded old)) (record {
      system = refl;
      script = refl;
      more = entry_of words.system words.log (record { by = Bus; what = Done ends.rests }) ∷ [];
      log = refl;
      may = All-cons (MayAdd author_of k.0) (entry_of words.system words.log (record { by = Bus; what = Done ends.rests })) [] (inl refl) (All-nil (MayAdd author_of k.0));
    }))
adds_told old new k n m (Err (Over at)) t = adds_words k old new t.1
adds_told old new k n m (Err (Off at)) t = adds_words k old new t.1
adds_told old new k n m (Err (Behind l)) t = adds_words k old new t.1
adds_told old new k n m (Err NoMemory) t = adds_worded k old new (looked_worded old new t)

-- ---- what they answer

module _ (old new : BusView) (c : ClusterView) (k : ClusterNo) (n : ℕ) (along : IsAlong old c) (k_is : k ≡ c.number) (n_is : n ≡ c.cursor) where
  abbrev words : BusView
  words = after_words old

  words_along : IsAlong words c
  words_along = along_worded old words c (after_worded old) along

  all_seen : length words.log ≤ n → c.cursor ≡ length words.log
  all_seen past = omega (arith, past, n_is, (words_along.beside).within)

  goes_on_seen : is_over words.system words.log ≡ false → length words.log ≤ n → GoesOnFor c.number words
  goes_on_seen goes_on past = record { goes_on = goes_on; lives = seen_lives words c words_along (all_seen past) }

  pub is_sent : (post : Post) (at : ℕ) → Transmits old k n post (Ok at) new → OfferIs c.number c.cursor post Sent old new
  is_sent post at t = (goes_on_seen (t.0).0 (t.0).2, all_seen (t.0).2, t.2)

  pub is_behind : (l : ℕ) → Admits words k n (Err (Behind l)) → new ≡ words → (is_over new.system new.log ≡ false) × (c.cursor < length new.log)
  is_behind l a is =
      let P : BusView → Type 0 = λ (b : BusView). (is_over b.system b.log ≡ false) × (c.cursor < length b.log) in
      let less : c.cursor < length words.log = omega (arith, a.2, a.3, n_is) in
      subst P (sym is) (a.0, less)

  -- it was lost in what it has not taken in
  pub is_off : (at : ℕ) → Admits words k n (Err (Off at)) → new ≡ words → was_lost_in (drop c.cursor new.log) c.number ≡ true
  is_off at a is =
      let lost : was_lost_in (drop c.cursor words.log) c.number ≡ true = lost_since words.log c.number c.cursor at (words_along.beside).lives (ap (off_at words.log) (sym k_is) ∙ a.1) in
      let P : BusView → Type 0 = λ (b : BusView). was_lost_in (drop c.cursor b.log) c.number ≡ true in
      subst P (sym is) lost

  pub was_over_then : (at : ℕ) → Admits words k n (Err (Over at)) → new ≡ words → is_over new.system new.log ≡ true
  was_over_then at a is = ap (λ (b : BusView). is_over b.system b.log) is ∙ a.0

  pub is_marked : (m : Mark) (idled : Idled) → Idles old k n m (Ok idled) new → TellIs c.number c.cursor m (Some idled) old new
  is_marked m Marked t = (
    goes_on_seen (t.0).0 (t.0).2,
    all_seen (t.0).2,
    ap (λ s. is_awaited (placement s words.log) new.marks) (after_worded old).system ∙ t.1,
    t.2 ∙ ap (λ j. with_mark words j m) k_is,
  )
  is_marked m (WasDone at) t = (goes_on_seen (t.0).0 (t.0).2, all_seen (t.0).2, t.1, subst (λ j. Ends (with_mark words j m) new) k_is t.2)

  pub offer_answers : (post : Post) (r : Result ℕ Refused) → Transmits old k n post r new → OfferAnswers c.number c.cursor post r old new
  offer_answers post (Ok at) t = is_sent post at t
  offer_answers post (Err (Over at)) t = (was_over_then at t.0 t.1, t.1)
  offer_answers post (Err (Off at)) t = (is_off at t.0 t.1, t.1)
  offer_answers post (Err (Behind l)) t = let behind = is_behind l t.0 t.1 in (behind.0, behind.1, t.1)
  offer_answers post (Err NoMemory) t = tt

  pub tell_answers : (m : Mark) (r : Result Idled Refused) → Idles old k n m r new → TellAnswers c.number c.cursor m r old new
  tell_answers m (Ok idled) t = is_marked m idled t
  tell_answers m (Err (Over at)) t = (inl (was_over_then at t.0 t.1), t.1)
  tell_answers m (Err (Off at)) t = (inr (inl (is_off at t.0 t.1)), t.1)
  tell_answers m (Err (Behind l)) t = let behind = is_behind l t.0 t.1 in (inr (inr behind.1), t.1)
  tell_answers m (Err NoMemory) t = tt

-- ---- what it came from

pub same_from : (a b : Origin) (o : Option Origin) → o ≡ Some a → o ≡ Some b → a ≡ b
same_from a b o one two = let both_are : Some a ≡ Some b = sym one ∙ two in cc
