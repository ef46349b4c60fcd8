-- What a cluster keeps as a page server stays what the log says: after an entry, and where a post is queued.
use Rattle.std.proofs.Common.{◌≡◌, ℕ, ◌+◌, ◌≤◌, refl, sym, ◌∙◌, ap, subst, arith, List, [], ◌∷◌, ◌++◌, Bool, true, false, cond, ◌&&◌, eq-eqb, Option, Some, None, is_some, true≢false}
use Rattle.std.specs.Prelude.{Ok, ⊤}
use Rattle.std.specs.Option.{option_map_or}
use Rattle.page_server.specs.Account.{PagerState}
use Rattle.page_server.specs.Disk.{Counts}
use Rattle.page_accounts.specs.Booting.{IsAhead}
use Rattle.page_accounts.specs.Noting.{CountsAfterNote}
use Rattle.page_accounts.specs.Keeps.{KeepsAccounts}
use Rattle.sys_text.specs.declared.system.System.{System}
use Rattle.t32_base.specs.Streams.{one_more}
use Rattle.t32_base.specs.declared.process.ClusterNo.{ClusterNo}
use Rattle.t32_base.proofs.Facts.{and_false}
use Rattle.bus_msg.specs.declared.entry.What.{What}
use Rattle.bus_msg.specs.declared.entry.What.TheVariants.{Page, Rebackup}
use Rattle.bus_msg.specs.declared.entry.Post.{Post}
use Rattle.bus_msg.specs.declared.entry.Entry.{Entry}
use Rattle.bus_msg.specs.Places.{Places}
use Rattle.bus_msg.specs.PlacedAfter.{what}
use Rattle.cert_sched.specs.Appended.{entry_of}
use Rattle.cert_sched.specs.Losses.{capped, is_by_cluster, is_from, is_page_entry, is_page_is_entry, least_calls, was_lost_in}
use Rattle.cert_sched.specs.Schedule.{placement}
use Rattle.cert_sched.specs.Scripted.{is_server}
use Rattle.cluster_core.specs.Holds.{HoldsAccounts, KeepsIfThere}
use Rattle.cluster_core.specs.Queue.{AreTogether, Queued, Nothing, One, is_lone, posts_of, is_rebackup, with_queue}
use Rattle.cluster_core.specs.Serving.{BeginsToServe, IsAheadThere, Serves}
use Rattle.cluster_core.specs.View.{ClusterView}
use Rattle.cluster_core.specs.Work.{AnswersNext}
use Rattle.page_accounts.proofs.Counts.{ahead_passed}
use Rattle.cluster_core.proofs.absorbing.Counted.{count_by-snoc, lost_before}

-- ---- what a cluster has answered

-- an answer of the cluster
abbrev pub answers : ClusterNo → Entry → Bool
answers k e = is_page_is_entry (what e) && is_by_cluster k e

-- what another sent is none
pub foreign_no_answer : (k : ClusterNo) (e : Entry) → is_by_cluster k e ≡ false → answers k e ≡ false
foreign_no_answer k e foreign = ap (λ b. is_page_is_entry (what e) && b) foreign ∙ and_false (is_page_is_entry (what e))

-- ---- an entry more

-- one where an entry brings a page
abbrev pub brought : Entry → ℕ
brought e = cond (is_page_entry (what e)) 1 0

-- the least calls rise by it where it brings a page, and where it is an answer
least_more : (system : System) (log : List Entry) (e : Entry) (k : ClusterNo) → least_calls system (log ++ e ∷ []) (log ++ e ∷ []) k ≡ least_calls system log log k + cond (answers k e) 1 0 + brought e
least_more system log e k =
    let pages = count_by-snoc (λ (e : Entry). is_page_entry (what e)) log e in
    let answered = count_by-snoc (answers k) log e in
    omega (arith, pages, answered)

-- ---- a post more

-- a post adds one call where it is an answer of the cluster
abbrev pub owed : ClusterNo → Queued → ℕ
owed k Nothing = 0
owed k (One post) = cond (is_page_is_entry post.what && is_from k post.by) 1 0

-- what stands in a log as it is queued
abbrev pub IsPlain : Queued → Type 0
IsPlain Nothing = ⊤
IsPlain (One post) = is_rebackup post.what ≡ false

pub plain_kind : (w : What) → is_lone w ≡ true → is_rebackup w ≡ false
plain_kind (Rebackup to fresh recs) lone = absurd (true≢false (sym lone))
plain_kind _ lone = refl

plain_post : (q : Queued) → AreTogether q → IsPlain q
plain_post Nothing together = tt
plain_post (One post) together = plain_kind post.what together

-- the least calls of a log with at most one post
pub least_queued : (system : System) (log : List Entry) (q : Queued) (k : ClusterNo) → IsPlain q → least_calls system log (with_queue system log (posts_of q)) k ≡ least_calls system log log k + owed k q
least_queued system log Nothing k plain = omega arith
least_queued system log (One post) k plain =
    let stands : with_queue system log (post ∷ []) ≡ log ++ entry_of system log post ∷ [] = ap (λ b. cond b log (log ++ entry_of system log post ∷ [])) plain in
    let same = ap (λ sent. least_calls system log sent k) stands in
    let answered = count_by-snoc (answers k) log (entry_of system log post) in
    omega (arith, same, answered)

-- ---- one more entry

-- what it serves
keeps_on : (system : System) (log : List Entry) (e : Entry) (old new : Option PagerState) → Serves (placement system log) e old new → KeepsIfThere system log old → KeepsIfThere system (log ++ e ∷ []) new
keeps_on system log e None new serves keeps = subst (KeepsIfThere system (log ++ e ∷ [])) (sym serves) tt
keeps_on system log e (Some old) None serves keeps = absurd serves
keeps_on system log e (Some old) (Some new) serves keeps = serves.keeps system log refl keeps

still_there : (before : Places) (e : Entry) (old new : Option PagerState) → Serves before e old new → is_some old ≡ true → is_some new ≡ true
still_there before e None new serves there = absurd (true≢false (sym there))
still_there before e (Some old) None serves there = absurd serves
still_there before e (Some old) (Some new) serves there = refl

abbrev calls_of : Option PagerState → ℕ
calls_of o = option_map_or (λ (s : PagerState). (s.counts).calls) o 0

-- an entry that brings a page calls the disk once, and no other does
note_calls : (w : What) (old new : Counts) → CountsAfterNote w old new (Ok tt) → new.calls ≡ cond (is_page_entry w) (one_more old.calls) old.calls
note_calls (Page pid at index bytes) old new after = after.calls
note_calls _ old new after = ap (λ (c : Counts). c.calls) after

-- so a least number of them rises with them
least_called : (n before after : ℕ) (b : Bool) → after ≡ cond b (one_more before) before → capped n ≤ before → capped (n + cond b 1 0) ≤ after
least_called n before after true is least = omega (arith, is, least)
least_called n before after false is least = omega (arith, is, least)

served_calls : (before : Places) (e : Entry) (old new : Option PagerState) (n : ℕ) → is_some old ≡ true → Serves before e old new → capped n ≤ calls_of old → capped (n + brought e) ≤ calls_of new
served_calls before e None new n there serves least = absurd (true≢false (sym there))
served_calls before e (Some old) None n there serves least = absurd serves
served_calls before e (Some old) (Some new) n there serves least = least_called n (old.counts).calls (new.counts).calls (is_page_entry (what e)) (note_calls (what e) old.counts new.counts serves.counts) least

-- A cluster that takes in an entry, where but for a page that it brings the least calls stay with what was queued before and what is queued after.
pub accounts_on : (system : System) (log : List Entry) (e : Entry) (c d : ClusterView) → Serves (placement system log) e c.server d.server → d.number ≡ c.number
    → least_calls system (log ++ e ∷ []) (with_queue system (log ++ e ∷ []) d.queue) c.number ≡ least_calls system log (with_queue system log c.queue) c.number + brought e → HoldsAccounts system log c → HoldsAccounts system (log ++ e ∷ []) d
accounts_on system log e c d serves number least f = record {
  keeps = keeps_on system log e c.server d.server serves f.keeps;
  there = λ kept server. still_there (placement system log) e c.server d.server serves (f.there (before kept) (is_one server));
  calls = λ kept server.
      let was : capped (least_calls system log (with_queue system log c.queue) c.number) ≤ calls_of c.server = f.calls (before kept) (is_one server) in
      let same : least_calls system (log ++ e ∷ []) (with_queue system (log ++ e ∷ []) d.queue) d.number ≡ least_calls system log (with_queue system log c.queue) c.number + brought e = ap (least_calls system (log ++ e ∷ []) (with_queue system (log ++ e ∷ []) d.queue)) number ∙ least in
      subst (λ n. capped n ≤ calls_of d.server) (sym same) (served_calls (placement system log) e c.server d.server (least_calls system log (with_queue system log c.queue) c.number) (f.there (before kept) (is_one server)) serves was);
}
  where
    before : was_lost_in (log ++ e ∷ []) d.number ≡ false → was_lost_in log c.number ≡ false
    before kept = lost_before log e c.number (ap (was_lost_in (log ++ e ∷ [])) (sym number) ∙ kept)

    is_one : is_server system d.number ≡ true → is_server system c.number ≡ true
    is_one server = ap (is_server system) (sym number) ∙ server

-- so it is where the entry is no answer of its own, and at most one post is queued before and after
pub accounts_next : (system : System) (log : List Entry) (e : Entry) (c d : ClusterView) (q : Queued) → answers c.number e ≡ false → Serves (placement system log) e c.server d.server → d.number ≡ c.number
    → c.queue ≡ posts_of q → d.queue ≡ posts_of q → AreTogether q → HoldsAccounts system log c → HoldsAccounts system (log ++ e ∷ []) d
accounts_next system log e c d q none serves number was now together f = accounts_on system log e c d serves number least f
  where
    plain : IsPlain q
    plain = plain_post q together

    least : least_calls system (log ++ e ∷ []) (with_queue system (log ++ e ∷ []) d.queue) c.number ≡ least_calls system log (with_queue system log c.queue) c.number + brought e
    least =
        let now_is = ap (λ ps. least_calls system (log ++ e ∷ []) (with_queue system (log ++ e ∷ []) ps) c.number) now in
        let now_least = least_queued system (log ++ e ∷ []) q c.number plain in
        let more = least_more system log e c.number in
        let nothing : ◌≡◌ {A = ℕ} (cond (answers c.number e) 1 0) 0 = ap (λ (b : Bool). cond b 1 0) none in
        let was_is = ap (λ ps. least_calls system log (with_queue system log ps) c.number) was in
        let was_least = least_queued system log q c.number plain in
        omega (arith, now_is, now_least, more, nothing, was_is, was_least)

-- and where it was the only post of the cluster
pub accounts_sent : (system : System) (log : List Entry) (e : Entry) (c d : ClusterView) → is_rebackup (what e) ≡ false → Serves (placement system log) e c.server d.server → d.number ≡ c.number → c.queue ≡ e.post ∷ [] → d.queue ≡ []
    → HoldsAccounts system log c → HoldsAccounts system (log ++ e ∷ []) d
accounts_sent system log e c d plain serves number was now f = accounts_on system log e c d serves number least f
  where
    least : least_calls system (log ++ e ∷ []) (with_queue system (log ++ e ∷ []) d.queue) c.number ≡ least_calls system log (with_queue system log c.queue) c.number + brought e
    least =
        let now_is = ap (λ ps. least_calls system (log ++ e ∷ []) (with_queue system (log ++ e ∷ []) ps) c.number) now in
        let more = least_more system log e c.number in
        let was_is = ap (λ ps. least_calls system log (with_queue system log ps) c.number) was in
        let was_least = least_queued system log (One e.post) c.number plain in
        omega (arith, now_is, more, was_is, was_least)

-- ---- where a post is queued

-- one that is no answer, in an empty queue
pub accounts_queued : (system : System) (log : List Entry) (c d : ClusterView) (post : Post) → d.server ≡ c.server → d.number ≡ c.number → c.queue ≡ [] → d.queue ≡ post ∷ [] → is_page_is_entry post.what ≡ false
    → HoldsAccounts system log c → HoldsAccounts system log d
accounts_queued system log c d post server number empty queue other f = record {
  keeps = subst (KeepsIfThere system log) (sym server) f.keeps;
  there = λ kept serves. ap is_some server ∙ f.there (ap (was_lost_in log) (sym number) ∙ kept) (ap (is_server system) (sym number) ∙ serves);
  calls = λ kept serves.
      let was : capped (least_calls system log (with_queue system log c.queue) c.number) ≤ calls_of c.server = f.calls (ap (was_lost_in log) (sym number) ∙ kept) (ap (is_server system) (sym number) ∙ serves) in
      let calls = ap calls_of server in
      let same : least_calls system log (with_queue system log d.queue) d.number ≡ least_calls system log (with_queue system log c.queue) c.number =
      (λ i. least_calls system log (with_queue system log (queue i)) (number i)) ∙ least ∙ sym (ap (λ ps. least_calls system log (with_queue system log ps) c.number) empty) in
      omega (arith, was, same, calls);
}
  where
    least : least_calls system log (with_queue system log (post ∷ [])) c.number ≡ least_calls system log log c.number
    least = by_kind_of (is_rebackup post.what)
      where
        by_kind_of : (b : Bool) → least_calls system log (cond b log (log ++ entry_of system log post ∷ [])) c.number ≡ least_calls system log log c.number
        by_kind_of true = refl
        by_kind_of false =
            let answered = count_by-snoc (answers c.number) log (entry_of system log post) in
            let none : ◌≡◌ {A = ℕ} (cond (answers c.number (entry_of system log post)) 1 0) 0 = ap (λ (b : Bool). cond (b && is_from c.number post.by) 1 0) other in
            omega (arith, answered, none)

-- and the answer that is owed, for which the disk was called once
pub accounts_answered : (system : System) (log : List Entry) (c d : ClusterView) (post : Post) → AnswersNext c.number c.server d.server post → d.number ≡ c.number → c.queue ≡ [] → d.queue ≡ post ∷ [] → HoldsAccounts system log c → HoldsAccounts system log d
accounts_answered system log c d post a number empty queue f = record {
  keeps = subst (KeepsIfThere system log) (sym a.new_is) (record {
    accounts = λ p. (a.same).accounts p ∙ kept_before.accounts p;
    waits = (a.same).fetches ∙ kept_before.waits;
  });
  there = λ kept serves. ap is_some a.new_is;
  calls = λ kept serves.
      let was : capped (least_calls system log (with_queue system log c.queue) c.number) ≤ calls_of c.server = f.calls (ap (was_lost_in log) (sym number) ∙ kept) (ap (is_server system) (sym number) ∙ serves) in
      let before = ap (λ ps. least_calls system log (with_queue system log ps) c.number) empty in
      let old = ap calls_of a.old_is in
      let new : calls_of d.server ≡ one_more ((a.was).counts).calls = ap calls_of a.new_is ∙ (a.called).calls in
      let now : least_calls system log (with_queue system log d.queue) d.number ≡ least_calls system log log c.number + 1 = (λ i. least_calls system log (with_queue system log (queue i)) (number i)) ∙ least in
      omega (arith, was, before, old, new, now);
}
  where
    kept_before : KeepsAccounts system log a.was
    kept_before = subst (KeepsIfThere system log) a.old_is f.keeps

    answer : ◌≡◌ {A = ℕ} (owed c.number (One post)) 1
    answer = ap (λ (p : Post). owed c.number (One p)) a.post_is ∙ ap (λ (b : Bool). cond b 1 0) (eq-eqb (c.number).0 (c.number).0 refl)

    least : least_calls system log (with_queue system log (post ∷ [])) c.number ≡ least_calls system log log c.number + 1
    least = least_queued system log (One post) c.number (ap (λ (p : Post). is_rebackup p.what) a.post_is) ∙ ap (λ n. least_calls system log log c.number + n) answer

-- ---- the disk

-- by the calls of an entry that was noted those that fail are still to come, and are the same
after_note : (w : What) (old new : Counts) → CountsAfterNote w old new (Ok tt) → (IsAhead old → IsAhead new) × (new.failing ≡ old.failing)
after_note (Page pid at index bytes) old new after = (ahead_passed old new after, after.failing)
after_note _ old new after = (subst IsAhead (sym after), ap (λ (c : Counts). c.failing) after)

-- an entry that was taken in leaves the calls that fail to come
pub ahead_after : (before : Places) (e : Entry) (old new : Option PagerState) → Serves before e old new → IsAheadThere old → IsAheadThere new
ahead_after before e None new serves ahead = subst IsAheadThere (sym serves) tt
ahead_after before e (Some old) None serves ahead = absurd serves
ahead_after before e (Some old) (Some new) serves ahead = (after_note (what e) old.counts new.counts serves.counts).0 ahead

-- the call of an answer did not fail
pub ahead_answered : (k : ClusterNo) (old new : Option PagerState) (post : Post) → AnswersNext k old new post → IsAheadThere old → IsAheadThere new
ahead_answered k old new post a ahead = subst IsAheadThere (sym a.new_is) (ahead_passed (a.was).counts (a.now).counts a.called (subst IsAheadThere a.old_is ahead))

-- ---- the start

pub accounts_begin : (system : System) (c : ClusterView) → c.queue ≡ [] → is_some c.server ≡ is_server system c.number → BeginsToServe system c.server → HoldsAccounts system [] c
accounts_begin system c empty there begins = record {
  keeps = by_server c.server begins;
  there = λ kept server. there ∙ server;
  calls = λ kept server. subst (λ queue. capped (least_calls system [] (with_queue system [] queue) c.number) ≤ calls_of c.server) (sym empty) (called c.server begins (there ∙ server));
}
  where
    by_server : (o : Option PagerState) → BeginsToServe system o → KeepsIfThere system [] o
    by_server None begins = tt
    by_server (Some s) begins = begins.0

    called : (o : Option PagerState) → BeginsToServe system o → is_some o ≡ true → capped (least_calls system [] [] c.number) ≤ calls_of o
    called None begins there = absurd (true≢false (sym there))
    called (Some s) begins there = let made = begins.1 in omega (arith, made)
