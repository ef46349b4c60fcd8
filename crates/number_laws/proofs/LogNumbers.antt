-- The printed numbers of an entry of a legal log are below 2^64.
use Rattle.std.proofs.Common.{◌≡◌, ℕ, ◌^◌, ◌<◌, ◌≤◌, refl, sym, ◌∙◌, ap, subst, arith, List, [], ◌∷◌, ◌++◌, length, map, slice_get, Bool, true, false, cond, not, ◌&&◌, ◌||◌, eqb, eqb-true, ltb, Option, Some, None, is_some, true≢false}
use Rattle.std.specs.Prelude.{find, fold, option_and_then, option_map, unwrap_or}
use Rattle.std.specs.List.{list_any}
use Rattle.std.specs.Option.{option_map_or}
use Rattle.std.proofs.lemmas.Bool.{and_parts}
use Rattle.std.proofs.lemmas.Option.{same_Some, slice_get_within}
use Rattle.hex.specs.Hex.{IsBytes}
use Rattle.t32_base.specs.declared.process.Pid.{Pid}
use Rattle.t32_base.specs.declared.process.ClusterNo.{ClusterNo}
use Rattle.t32_base.specs.declared.process.End.{End}
use Rattle.t32_base.specs.declared.process.End.TheVariants.{Exit as Exited, Trap, Killed, Limit}
use Rattle.t32_base.specs.declared.process.Mode.{Mode}
use Rattle.t32_base.specs.declared.process.Mode.TheVariants.{Quarter, Half, Full}
use Rattle.t32_base.specs.declared.letter.Letter.{Letter}
use Rattle.t32_base.specs.declared.letter.BackRec.{BackRec}
use Rattle.t32_base.specs.declared.letter.Body.{Body}
use Rattle.t32_base.specs.declared.letter.Body.TheVariants.{Said, EndOf, Signal}
use Rattle.t32_base.specs.declared.letter.To.{To}
use Rattle.t32_base.specs.declared.letter.To.TheVariants.{Proc, Tty}
use Rattle.sys_text.specs.declared.system.System.{System}
use Rattle.sys_text.specs.Valid.{is_system}
use Rattle.rv_mem.specs.Memory.{page_at}
use Rattle.proc_state.specs.Mail.{first_signal}
use Rattle.proc_state.specs.State.{ProcState, can_take}
use Rattle.sys_calls.specs.declared.steps.Emission.TheVariants.{Mail as Sent, Exit as Ended}
use Rattle.sys_calls.specs.Fork.{next_end}
use Rattle.bus_msg.specs.declared.entry.What.{What}
use Rattle.bus_msg.specs.declared.entry.What.TheVariants.{Mail, Birth, Exit, Page, Sync, Fetch, PageIs, Crash, Return, Rebackup, Done, Stop}
use Rattle.bus_msg.specs.declared.entry.By.{By}
use Rattle.bus_msg.specs.declared.entry.By.TheVariants.{Cluster, Bus}
use Rattle.bus_msg.specs.declared.entry.Cause.{Cause}
use Rattle.bus_msg.specs.declared.entry.Entry.{Entry}
use Rattle.bus_msg.specs.declared.placed.Placed.{Placed}
use Rattle.bus_msg.specs.Places.{ClusterPlace, Places, all_clusters, lives_in, never_lost, same_cluster, unended_at}
use Rattle.bus_msg.specs.PlacedAfter.{what}
use Rattle.bus_msg.specs.NewBackup.{backup_by_mode, lost_alive, next_backup, next_backup_at}
use Rattle.bus_msg.specs.Text.{bytes_said}
use Rattle.cert_sched.specs.Parts.{first_of, put_rising, rising}
use Rattle.cert_sched.specs.Schedule.{placement, steps_in}
use Rattle.cert_sched.specs.Told.{Told, told}
use Rattle.cert_sched.specs.Moved.{add_wait, ends_wait, fetched, waiting_fetches, waiting_in}
use Rattle.cert_sched.specs.Family.{births_of, is_unsynced, joins, unsynced_family}
use Rattle.cert_sched.specs.Steps.{after_items, before_fork_at, first_record, silent_upto}
use Rattle.cert_sched.specs.Rules.{home_at, is_by, is_by_home, is_by_right}
use Rattle.cert_sched.specs.Kinds.{BirthHolds, KindHolds, after_take, took_is}
use Rattle.cert_sched.specs.Legal.{IsLegalBy, MayStand}
use Rattle.cert_sched.specs.Simulation.{IsUnended}
use Rattle.cert_sched.proofs.FreshLaws.{born_rightly, numbered}
use Rattle.cert_sched.proofs.StepLaws.{is_sent}
use Rattle.entry_lines.specs.Told.{AllSmall, ByFits, CauseFits, EndFits, Fits, IsSmall, LetterFits, TookFits, WhatFits, pids_of, told_by, told_end, told_letter, told_of, told_what}
use Rattle.state_numbers.specs.Fits.{AreBytes, BodyFits, EndFits as SmallEnd, IsWord, LetterFits as SmallLetter, ToFits}
use Rattle.state_numbers.proofs.Below.{below_index}
use Rattle.state_numbers.proofs.Parts.{first_word}
use Rattle.state_numbers.proofs.Stepping.{fork_word}
use Rattle.number_laws.proofs.Ahead.{forks, page_word, reached, sends}
use Rattle.number_laws.proofs.LogPids.{lives_within, unended_fits}
use Rattle.number_laws.proofs.NextPids.{pid_fits}

-- ---- letters and ends

are_bytes : (xs : List ℕ) → AreBytes xs → IsBytes xs
are_bytes xs all i = below_index 256 xs i (omega arith) all

pub word_small : (n : ℕ) → IsWord n → IsSmall n
word_small n less = omega (arith, less)

body_bytes : (l : Letter) (body : Body) → l.body ≡ body → SmallLetter l → IsBytes (bytes_said body)
body_bytes l (Said bytes) is fits = are_bytes bytes (subst BodyFits is fits.body)
body_bytes l EndOf is fits = are_bytes [] tt
body_bytes l (Signal g) is fits = are_bytes [] tt

letter_fits : (l : Letter) → SmallLetter l → LetterFits (told_letter l l.to)
letter_fits l fits = by_to l.to fits.to
  where
    by_body : (p : Pid) (e : ℕ) (body : Body) → IsWord p.0 → IsWord e → BodyFits body → LetterFits (told_letter (record l { body = body }) (Proc p e))
    by_body p e (Said bytes) pid end says = (word_small l.out fits.out, word_small p.0 pid, word_small e end, are_bytes bytes says)
    by_body p e EndOf pid end says = (word_small l.out fits.out, word_small p.0 pid, word_small e end)
    by_body p e (Signal g) pid end says = (word_small p.0 pid, word_small g says)

    by_to : (to : To) → ToFits to → LetterFits (told_letter l to)
    by_to (Tty t) goes = (word_small l.out fits.out, word_small t goes, body_bytes l l.body refl fits)
    by_to (Proc p e) goes = by_body p e l.body goes.0 goes.1 fits.body

pub end_fits : (end : End) → SmallEnd end → EndFits (told_end end)
end_fits (Exited s) fits = word_small s fits
end_fits (Trap c) fits = word_small c fits
end_fits (Killed g) fits = word_small g fits
end_fits Limit fits = tt

-- ---- clusters

known_within : (places : Places) (k : ClusterNo) (f : ClusterPlace → Bool) → option_map_or f (slice_get places.clusters k.0) false ≡ true → k.0 < length places.clusters
known_within places k f is = by_place (slice_get places.clusters k.0) refl is
  where
    by_place : (o : Option ClusterPlace) → slice_get places.clusters k.0 ≡ o → option_map_or f o false ≡ true → k.0 < length places.clusters
    by_place None there h = absurd (true≢false (sym h))
    by_place (Some c) there h = slice_get_within places.clusters k.0 c there

first_within : (places : Places) (a b k : ClusterNo) (x y : Bool) → never_lost places a ≡ x → never_lost places b ≡ y → is_by (Cluster k) (first_of (cond x (a ∷ cond y (b ∷ []) []) (cond y (b ∷ []) []))) ≡ true → k.0 < length places.clusters
first_within places a b k true y one two is = subst (λ n. n < length places.clusters) (sym (eqb-true k.0 a.0 is)) (known_within places a (λ (c : ClusterPlace). not c.was_lost) one)
first_within places a b k false true one two is = subst (λ n. n < length places.clusters) (sym (eqb-true k.0 b.0 is)) (known_within places b (λ (c : ClusterPlace). not c.was_lost) two)
first_within places a b k false false one two is = absurd (true≢false (sym is))

module _ (places : Places) (few : length places.clusters ≤ 16) where
  small_within : (k : ClusterNo) → k.0 < length places.clusters → IsSmall k.0
  small_within k less = omega (arith, less, few)

  home_within : (k : ClusterNo) (p : Option Pid) → is_by_home places (Cluster k) p ≡ true → IsSmall k.0
  home_within k p right = small_within k (lives_within places k (and_parts (lives_in places k) (is_by (Cluster k) (option_and_then (home_at places) p)) right).0)

  by_fits : (by : By) (w : What) → is_by_right places by w ≡ true → ByFits (told_by by)
  by_fits Bus w right = tt
  by_fits (Cluster k) (PageIs pid index bytes) right = small_within k (first_within places (places.pager).0 (places.pager).1 k (never_lost places (places.pager).0) (never_lost places (places.pager).1) refl refl right)
  by_fits (Cluster k) (Mail at letter) right = home_within k (Some letter.from) right
  by_fits (Cluster k) (Birth parent at child end) right = home_within k (Some parent) right
  by_fits (Cluster k) (Exit pid at end) right = home_within k (Some pid) right
  by_fits (Cluster k) (Page pid at index bytes) right = home_within k (Some pid) right
  by_fits (Cluster k) (Sync pid small read took) right = home_within k (Some pid) right
  by_fits (Cluster k) (Fetch pid index) right = home_within k (Some pid) right
  by_fits (Cluster k) (Rebackup to fresh recs) right = home_within k (option_map (λ (r : BackRec). r.pid) (first_record recs)) right
  by_fits (Cluster k) (Crash j cause) right = absurd (true≢false (sym right))
  by_fits (Cluster k) (Return j) right = absurd (true≢false (sym right))
  by_fits (Cluster k) (Done rests) right = absurd (true≢false (sym right))
  by_fits (Cluster k) Stop right = absurd (true≢false (sym right))

  -- the cluster of a new backup
  found_lives : (test : ClusterNo → Bool) (ks : List ClusterNo) (k : ClusterNo) → find (λ j. lives_in places j && test j) ks ≡ Some k → IsSmall k.0
  found_lives test [] k is = cc
  found_lives test (j ∷ ks) k is = by_test (lives_in places j && test j) refl is (found_lives test ks k)
    where
      by_test : (b : Bool) → (lives_in places j && test j) ≡ b → cond b (Some j) (find (λ j. lives_in places j && test j) ks) ≡ Some k → (find (λ j. lives_in places j && test j) ks ≡ Some k → IsSmall k.0) → IsSmall k.0
      by_test true here e more = subst (λ (x : ClusterNo). IsSmall x.0) (same_Some j k e) (small_within j (lives_within places j (and_parts (lives_in places j) (test j) here).0))
      by_test false here e more = more e

  lost_lives : (o : Option ClusterNo) (k : ClusterNo) → lost_alive places o ≡ Some k → IsSmall k.0
  lost_lives None k is = cc
  lost_lives (Some j) k is = by_test (lives_in places j) refl is
    where
      by_test : (b : Bool) → lives_in places j ≡ b → cond b (Some j) None ≡ Some k → IsSmall k.0
      by_test true here e = subst (λ (x : ClusterNo). IsSmall x.0) (same_Some j k e) (small_within j (lives_within places j here))
      by_test false here e = cc

  backup_fits : (p : Pid) (k : ClusterNo) → next_backup_at places p ≡ Some k → IsSmall k.0
  backup_fits p k is = by_place (unended_at places p) is
    where
      by_mode : (q : Placed) (mode : Mode) → backup_by_mode places q mode ≡ Some k → IsSmall k.0
      by_mode q Quarter e = cc
      by_mode q Half e = lost_lives q.lost k e
      by_mode q Full e = found_lives (λ j. not (same_cluster j q.home)) (all_clusters places) k e

      by_test : (q : Placed) (b : Bool) → cond b None (backup_by_mode places q q.mode) ≡ Some k → IsSmall k.0
      by_test q true e = cc
      by_test q false e = by_mode q q.mode e

      by_place : (o : Option Placed) → option_map_or (next_backup places) o None ≡ Some k → IsSmall k.0
      by_place None e = cc
      by_place (Some q) e = by_test q (q.ended || is_some q.backup) e

-- ---- fetches that wait

abbrev pub FetchFits : Option (Pid × ℕ) → Type 0
FetchFits None = Unit {0}
FetchFits (Some f) = IsWord (f.0).0 × IsWord f.1

abbrev pub FetchesFit : List Told → Type 0
FetchesFit [] = Unit {0}
FetchesFit (t ∷ ts) = FetchFits (fetched (what t.entry)) × FetchesFit ts

abbrev WaitsFit : List (Pid × ℕ) → Type 0
WaitsFit [] = Unit {0}
WaitsFit (f ∷ fs) = FetchFits (Some f) × WaitsFit fs

waits_fit : (ts : List Told) → FetchesFit ts → WaitsFit (waiting_in ts)
waits_fit [] fit = tt
waits_fit (t ∷ ts) fit = by_fetched (fetched (what t.entry)) fit.0 (waits_fit ts fit.1)
  where
    by_fetched : (o : Option (Pid × ℕ)) → FetchFits o → WaitsFit (waiting_in ts) → WaitsFit (add_wait o ts (waiting_in ts))
    by_fetched None fits waits = waits
    by_fetched (Some f) fits waits = by_test (list_any (ends_wait f.0 f.1) ts)
      where
        by_test : (b : Bool) → WaitsFit (cond b (waiting_in ts) (f ∷ waiting_in ts))
        by_test true = waits
        by_test false = (fits, waits)

first_fits : (fs : List (Pid × ℕ)) (p : Pid) (i : ℕ) → WaitsFit fs → option_map (λ (f : Pid × ℕ). eqb (f.0).0 p.0 && eqb f.1 i) (first_of fs) ≡ Some true → IsSmall p.0 × IsSmall i
first_fits [] p i fit is = cc
first_fits (f ∷ fs) p i fit is =
    let both = and_parts (eqb (f.0).0 p.0) (eqb f.1 i) (same_Some (eqb (f.0).0 p.0 && eqb f.1 i) true is) in
    (subst IsSmall (eqb-true (f.0).0 p.0 both.0) (word_small (f.0).0 fit.0.0), subst IsSmall (eqb-true f.1 i both.1) (word_small f.1 fit.0.1))

-- ---- new backups

small_put : (n : ℕ) (ns : List ℕ) → IsSmall n → AllSmall ns → AllSmall (put_rising n ns)
small_put n [] one all = (one, tt)
small_put n (m ∷ ns) one all = by_test (ltb n m) (small_put n ns one all.1)
  where
    by_test : (b : Bool) → AllSmall (put_rising n ns) → AllSmall (cond b (n ∷ m ∷ ns) (m ∷ put_rising n ns))
    by_test true more = (one, all)
    by_test false more = (all.0, more)

small_rising : (ns : List ℕ) → AllSmall ns → AllSmall (rising ns)
small_rising [] all = tt
small_rising (n ∷ ns) all = small_put n (rising ns) all.0 (small_rising ns all.1)

put_small : (n : ℕ) (ns : List ℕ) → AllSmall (put_rising n ns) → IsSmall n × AllSmall ns
put_small n [] all = (all.0, tt)
put_small n (m ∷ ns) all = by_test (ltb n m) all (put_small n ns)
  where
    by_test : (b : Bool) → AllSmall (cond b (n ∷ m ∷ ns) (m ∷ put_rising n ns)) → (AllSmall (put_rising n ns) → IsSmall n × AllSmall ns) → IsSmall n × AllSmall (m ∷ ns)
    by_test true all more = (all.0, all.1)
    by_test false all more = let rest = more all.1 in (rest.0, (all.0, rest.1))

rising_small : (ns : List ℕ) → AllSmall (rising ns) → AllSmall ns
rising_small [] all = tt
rising_small (n ∷ ns) all = let both = put_small n (rising ns) all in (both.0, rising_small ns both.1)

module _ (system : System) (log : List Entry) (valid : is_system system ≡ true) (legal : IsLegalBy MayStand system log) where
  abbrev PidsSmall : List Pid → Type 0
  PidsSmall ps = AllSmall (map (λ (q : Pid). q.0) ps)

  one_last : (ps : List Pid) (q : Pid) → IsSmall q.0 → PidsSmall ps → PidsSmall (ps ++ q ∷ [])
  one_last [] q one all = (one, tt)
  one_last (p ∷ ps) q one all = (all.0, one_last ps q one all.1)

  unsynced_small : (q : Pid) → is_unsynced (placement system log) q ≡ true → IsSmall q.0
  unsynced_small q is = word_small q.0 (unended_fits system log q valid legal (by_place (unended_at (placement system log) q) is))
    where
      by_place : (o : Option Placed) → option_map_or (λ (r : Placed). not r.synced) o false ≡ true → is_some o ≡ true
      by_place None h = absurd (true≢false (sym h))
      by_place (Some r) h = refl

  family_small : (births : List (Pid × Pid)) (ps : List Pid) → PidsSmall ps → PidsSmall (fold (joins (placement system log)) ps births)
  family_small [] ps all = all
  family_small (b ∷ births) ps all = family_small births (joins (placement system log) ps b) (by_test (list_any (λ q. eqb (b.0).0 q.0) ps && is_unsynced (placement system log) b.1) refl)
    where
      by_test : (c : Bool) → (list_any (λ q. eqb (b.0).0 q.0) ps && is_unsynced (placement system log) b.1) ≡ c → PidsSmall (cond c (ps ++ b.1 ∷ []) ps)
      by_test true is = one_last ps b.1 (unsynced_small b.1 (and_parts (list_any (λ q. eqb (b.0).0 q.0) ps) (is_unsynced (placement system log) b.1) is).1) all
      by_test false is = all

  few : length (placement system log).clusters ≤ 16
  few = (numbered MayStand (λ system log e may. may.stands) system log valid legal).few

  -- a process at whose home an entry is sent
  home_unended : (by : By) (p : Pid) → is_by_home (placement system log) by (Some p) ≡ true → IsUnended system log p
  home_unended Bus p right = absurd (true≢false (sym right))
  home_unended (Cluster k) p right = by_place (unended_at (placement system log) p) (and_parts (lives_in (placement system log) k) (is_by (Cluster k) (home_at (placement system log) p)) right).1
    where
      by_place : (o : Option Placed) → is_by (Cluster k) (option_map (λ (q : Placed). q.home) o) ≡ true → is_some o ≡ true
      by_place None h = absurd (true≢false (sym h))
      by_place (Some q) h = refl

  home_small : (by : By) (p : Pid) → is_by_home (placement system log) by (Some p) ≡ true → IsSmall p.0
  home_small by p right = word_small p.0 (unended_fits system log p valid legal (home_unended by p right))

  count_small : (n : ℕ) → n ≤ 100069 → IsSmall n
  count_small n few = omega (arith, few)

  record There (o : Option ProcState) : Type 0 where
    pub at : ProcState
    pub is : o ≡ Some at

  there : {X : Type 0} (f : ProcState → X) (o : Option ProcState) (x : X) → option_map f o ≡ Some x → There o
  there f None x is = cc
  there f (Some s) x is = record { at = s; is = refl }

  some_there : (o : Option ProcState) → is_some o ≡ true → There o
  some_there None some = absurd (true≢false (sym some))
  some_there (Some s) some = record { at = s; is = refl }

  took_small : (took : Option ℕ) (s : ProcState) → IsWord (unwrap_or (first_signal s.mail) 0) → took_is took s ≡ true → TookFits took
  took_small None s word is = tt
  took_small (Some g) s word is = by_signal (first_signal s.mail) word (and_parts (can_take s) (option_map_or (λ h. eqb h g) (first_signal s.mail) false) is).1
    where
      by_signal : (o : Option ℕ) → IsWord (unwrap_or o 0) → option_map_or (λ h. eqb h g) o false ≡ true → IsSmall g
      by_signal None less same = absurd (true≢false (sym same))
      by_signal (Some h) less same = subst IsSmall (eqb-true h g same) (word_small h less)

  end_small : (o : Option ProcState) (q : ProcState) (end : ℕ) → o ≡ Some q → IsWord (next_end q) → option_map next_end o ≡ Some end → IsSmall end
  end_small o q end at word is = subst IsSmall (same_Some (next_end q) end (sym (ap (option_map next_end) at) ∙ is)) (word_small (next_end q) word)

  recs_small : (r : BackRec) (rs : List BackRec) (o : Option BackRec) → map Some (r ∷ rs) ≡ o ∷ [] → IsSmall (r.pid).0 → AllSmall (pids_of (r ∷ rs))
  recs_small r [] o is one = (one, tt)
  recs_small r (q ∷ rs) o is one = cc

  what_fits : (e : Entry) (w : What) → ((k : ClusterNo) (cause : Cause) → w ≡ Crash k cause → CauseFits cause) → FetchesFit (told system log) → KindHolds system log e w → what e ≡ w → is_by_right (placement system log) (e.post).by w ≡ true
      → WhatFits (told_what w)
  what_fits e (Mail at letter) cause waits kind is right =
      let m = is_sent system log letter.from at (Sent letter) kind in
      let s = sends system log valid legal letter.from at (Sent letter) m.after m.is in
      (word_small (letter.from).0 s.pid, count_small at s.count, letter_fits letter s.fits)
  what_fits e (Birth parent at child end) cause waits kind is right =
      let m = there next_end (before_fork_at system log parent at) end kind.end_is in
      let f = forks system log valid legal parent at m.at m.is in
      let word : IsWord (next_end m.at) = fork_word (m.at).small (record { fit = (f.fits).ends; few = (f.fits).few }) in
      let born = child_small e parent at child end kind right in
      (home_small (e.post).by parent right, count_small at (let c = f.count in omega (arith, c)), born, end_small (before_fork_at system log parent at) m.at end m.is word kind.end_is)
    where
      child_small : (e : Entry) (parent : Pid) (at : ℕ) (child : Pid) (end : ℕ) → BirthHolds system log parent at child end → is_by_home (placement system log) (e.post).by (Some parent) ≡ true → IsSmall child.0
      child_small e parent at child end kind right =
          let b = born_rightly (placement system log) (e.post).by parent child right kind.child_is in
          let within = lives_within (placement system log) (b.at).home b.lives in
          let all = few in
          word_small child.0 (subst (λ (p : Pid). p.0 < 2 ^ 32) b.child_is (pid_fits system log (b.at).home valid legal (omega (arith, all, within))))
  what_fits e (Exit pid at end) cause waits kind is right =
      let m = is_sent system log pid at (Ended end) kind.0 in
      let s = sends system log valid legal pid at (Ended end) m.after m.is in
      (word_small pid.0 s.pid, count_small at s.count, end_fits end s.fits)
  what_fits e (Page pid at index bytes) cause waits kind is right =
      let t = there (λ (s : ProcState). page_at s.memory index) (silent_upto system log pid at) bytes kind.page in
      let r = reached system log valid legal pid at t.at t.is in
      (word_small pid.0 r.pid, count_small at (let c = r.count in omega (arith, c)), word_small index (page_word system log valid legal pid index kind.within))
  what_fits e (Sync pid small read took) cause waits kind is right =
      let t = there (λ s. (after_take took s).small) (silent_upto system log pid small.steps) small kind.state in
      let r = reached system log valid legal pid small.steps t.at t.is in
      let first : took_is took t.at ≡ true = same_Some (took_is took t.at) true (sym (ap (option_map (took_is took)) t.is) ∙ kind.took_first) in
      (word_small pid.0 r.pid, count_small small.steps (let c = r.count in omega (arith, c)), took_small took t.at (first_word (t.at).mail (r.fits).mail) first)
  what_fits e (Fetch pid index) cause waits kind is right = (home_small (e.post).by pid right, word_small index (page_word system log valid legal pid index kind.within))
  what_fits e (PageIs pid index bytes) cause waits kind is right = first_fits (waiting_fetches system log) pid index (waits_fit (told system log) waits) kind.asked
  what_fits e (Crash k c) cause waits kind is right = (small_within (placement system log) few k (lives_within (placement system log) k kind), cause k c refl)
  what_fits e (Return k) cause waits kind is right = small_within (placement system log) few k (known_within (placement system log) k (λ (c : ClusterPlace). not c.lives) kind)
  what_fits e (Rebackup to true []) cause waits kind is right = absurd kind
  what_fits e (Rebackup to false []) cause waits kind is right = absurd kind
  what_fits e (Rebackup to true (r ∷ rs)) cause waits kind is right =
      let t = some_there (silent_upto system log r.pid (steps_in r.state)) (sym (ap (λ w. is_some (after_items system log w)) is) ∙ kind.silent) in
      let a = reached system log valid legal r.pid (steps_in r.state) t.at t.is in
      (recs_small r rs _ kind.records (home_small (e.post).by r.pid right), count_small (steps_in r.state) (let c = a.count in omega (arith, c)), backup_fits (placement system log) few r.pid to kind.backup)
  what_fits e (Rebackup to false (r ∷ rs)) cause waits kind is right =
      let family = family_small (births_of log) (r.pid ∷ []) (home_small (e.post).by r.pid right, tt) in
      (rising_small (pids_of (r ∷ rs)) (subst AllSmall (sym kind.family) (small_rising (map (λ (q : Pid). q.0) (unsynced_family system log r.pid)) family)), backup_fits (placement system log) few r.pid to kind.backup)
  what_fits e (Done rests) cause waits kind is right = tt
  what_fits e Stop cause waits kind is right = tt

  -- an entry whose place and cause are small
  pub entry_fits : (e : Entry) → MayStand system log e → IsSmall e.place → ((k : ClusterNo) (cause : Cause) → what e ≡ Crash k cause → CauseFits cause) → FetchesFit (told system log) → Fits (told_of e)
  entry_fits e may place cause waits = (
    place,
    by_fits (placement system log) few (e.post).by (what e) (may.stands).by_right,
    what_fits e (what e) cause waits (may.stands).kind refl (may.stands).by_right,
  )

  -- what it asks for
  pub fetch_fits : (e : Entry) → MayStand system log e → FetchFits (fetched (what e))
  fetch_fits e may = by_what (what e) (may.stands).kind (may.stands).by_right
    where
      by_what : (w : What) → KindHolds system log e w → is_by_right (placement system log) (e.post).by w ≡ true → FetchFits (fetched w)
      by_what (Fetch pid index) kind right = (unended_fits system log pid valid legal (home_unended (e.post).by pid right), page_word system log valid legal pid index kind.within)
      by_what _ kind right = tt
