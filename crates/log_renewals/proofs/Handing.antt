-- When the new backup of a process that waits, with its family, may stand next.
use Rattle.std.proofs.Common.{◌≡◌, ℕ, ◌^◌, ◌<◌, refl, sym, ◌∙◌, ap, subst, arith, List, [], ◌∷◌, map, Bool, true, false, cond, not, ◌&&◌, ◌||◌, eqb, eqb-true, eq-eqb, ltb, Option, Some, None, is_some, true≢false}
use Rattle.std.specs.Prelude.{is_none, option_map}
use Rattle.std.specs.List.{list_any}
use Rattle.std.specs.Option.{option_map_or}
use Rattle.std.proofs.lemmas.Bool.{and_parts, or_left, or_right}
use Rattle.std.proofs.lemmas.Bool.Decides.{nat_tests}
use Rattle.std.proofs.lemmas.Option.{same_Some}
use Rattle.std.proofs.lemmas.Slice.Eq.{bytes_eq-Decides}
use Rattle.t32_base.specs.declared.process.Pid.{Pid}
use Rattle.t32_base.specs.declared.process.ClusterNo.{ClusterNo}
use Rattle.t32_base.specs.declared.process.Mode.TheVariants.{Full}
use Rattle.t32_base.specs.declared.letter.BackRec.{BackRec}
use Rattle.t32_base.proofs.Facts.{and_true}
use Rattle.sys_text.specs.declared.system.System.{System}
use Rattle.sys_text.specs.Valid.{is_system}
use Rattle.proc_state.specs.State.{ProcState}
use Rattle.bus_msg.specs.declared.entry.What.{What}
use Rattle.bus_msg.specs.declared.entry.What.TheVariants.{Rebackup}
use Rattle.bus_msg.specs.declared.entry.By.TheVariants.{Cluster}
use Rattle.bus_msg.specs.declared.entry.Entry.{Entry}
use Rattle.bus_msg.specs.declared.placed.Placed.{Placed}
use Rattle.bus_msg.specs.Places.{Places, same_pid, unended_at}
use Rattle.bus_msg.specs.NewBackup.{next_backup_at}
use Rattle.bus_msg.specs.PlacedAfter.{what}
use Rattle.birth_notice.specs.Joined.{others_of}
use Rattle.backup_records.specs.Records.{record_in}
use Rattle.backup_records.proofs.BirthLaws.{found_own}
use Rattle.cert_sched.specs.Deeds.{start_of}
use Rattle.cert_sched.specs.Kinds.{KindHolds, StandingHolds, is_done_by}
use Rattle.cert_sched.specs.Legal.{IsLegalBy, MayStand}
use Rattle.cert_sched.specs.Moved.{any_since_moved, was_moved}
use Rattle.cert_sched.specs.Parts.{rising}
use Rattle.cert_sched.specs.Record.{backup_record, has_state, record_from}
use Rattle.cert_sched.specs.Rules.{is_by_home, is_by_right, is_full}
use Rattle.cert_sched.specs.Schedule.{placement}
use Rattle.cert_sched.specs.Simulation.{IsUnended}
use Rattle.cert_sched.proofs.CameLaws.{same_of}
use Rattle.cert_sched.proofs.FamilyLaws.{Families, families, standing_named}
use Rattle.entry_lines.specs.declared.told.ToldWhat.TheVariants.{Standing as ToldStanding}
use Rattle.entry_lines.specs.declared.told.Told.{Told}
use Rattle.entry_lines.specs.Told.{pids_of, told_of, told_what}
use Rattle.line_laws.specs.Meant.{pid_no}
use Rattle.log_audit.specs.Fetches.{home_told}
use Rattle.log_audit.specs.Front.{FrontState, is_next}
use Rattle.log_audit.proofs.Losing.{applies, next_passes, next_placed}
use Rattle.log_processes.specs.declared.sender.Head.{Head}
use Rattle.log_processes.specs.declared.sender.Sender.{Sender}
use Rattle.log_processes.specs.Sending.{home_may}
use Rattle.log_processes.proofs.Sent.{MaySendFrom, home_there, may_send}
use Rattle.log_cuts.proofs.Cutting.{by_home_unended}
use Rattle.number_laws.proofs.LogPids.{unended_fits}
use Rattle.log_records.specs.Records.{AreRecordsOf}
use Rattle.log_renewals.specs.declared.standing.StandingHead.{StandingHead}
use Rattle.log_renewals.specs.Standing.{AnswersStanding, KeepsStanding, backup_told, home_next, is_family, is_stated, may_wait, named_cluster, record_told, standing_entry}
use Rattle.log_renewals.proofs.Families.{family_unended, in_order}

not_true : (b : Bool) → not b ≡ true → b ≡ false
not_true true is = absurd (true≢false (sym is))
not_true false is = refl

-- ---- the cluster that a line names

pub named_is : (n : ℕ) (o : Option ClusterNo) (to : ClusterNo) → named_cluster n o ≡ Some to → (o ≡ Some to) × (to.0 ≡ n)
named_is n None to is = cc
named_is n (Some k) to is = by_test (eqb k.0 n) refl is
  where
    by_test : (b : Bool) → eqb k.0 n ≡ b → cond b (Some k) None ≡ Some to → (Some k ≡ Some to) × (to.0 ≡ n)
    by_test true same is = let one : k ≡ to = same_Some k to is in (ap Some one, ap (λ (c : ClusterNo). c.0) (sym one) ∙ eqb-true k.0 n same)
    by_test false other is = cc

pub named_there : (n : ℕ) (o : Option ClusterNo) (to : ClusterNo) → o ≡ Some to → to.0 ≡ n → named_cluster n o ≡ Some to
named_there n o to is same = ap (named_cluster n) is ∙ ap (λ b. cond b (Some to) None) (eq-eqb to.0 n same)

-- ---- records by their numbers

small_pid : (n : ℕ) → n < 2 ^ 32 → ltb n (2 ^ 32) ≡ true
small_pid n small = grind (arith, nat_tests)

told_found : (recs : List BackRec) (n : ℕ) (r : BackRec) → record_told recs n ≡ Some r → record_in recs (pid_no n) ≡ Some r
told_found recs n r = by_test (ltb n (2 ^ 32))
  where
    by_test : (b : Bool) → cond b (record_in recs (pid_no n)) None ≡ Some r → record_in recs (pid_no n) ≡ Some r
    by_test true is = is
    by_test false is = cc

told_pid : (recs : List BackRec) (n : ℕ) (r : BackRec) → record_told recs n ≡ Some r → r.pid ≡ pid_no n
told_pid recs n r is = same_of r.pid (pid_no n) (found_own recs (pid_no n) r (told_found recs n r is))

pids_told : (recs : List BackRec) (ns : List ℕ) (more : List BackRec) → map Some more ≡ map (record_told recs) ns → pids_of more ≡ ns
pids_told recs [] [] is = refl
pids_told recs [] (r ∷ more) is = cc
pids_told recs (n ∷ ns) [] is = cc
pids_told recs (n ∷ ns) (r ∷ more) is =
    let here : record_told recs n ≡ Some r = cc in
    let rest : map Some more ≡ map (record_told recs) ns = cc in
    λ i. ap (λ (q : Pid). q.0) (told_pid recs n r here) i ∷ pids_told recs ns more rest i

-- ---- records of a log

-- a record has a state where the log gives it one
record_stated : (system : System) (log : List Entry) (p : Pid) (r : BackRec) → backup_record system log p ≡ Some r → is_some r.state ≡ has_state system log p
unfolding backup_record
record_stated system log p r is = by_start (start_of system log p) is
  where
    by_state : (start : ProcState) (b : Bool) → is_some (cond b (Some start.small) None) ≡ b
    by_state start true = refl
    by_state start false = refl

    by_start : (o : Option ProcState) → option_map (record_from system log p) o ≡ Some r → is_some r.state ≡ has_state system log p
    by_start None is = cc
    by_start (Some start) is = ap (λ (r : BackRec). is_some r.state) (sym (same_Some (record_from system log p start) r is))
        ∙ by_state start (has_state system log p)

module _ (system : System) (log : List Entry) (recs : List BackRec) (are : AreRecordsOf system log recs) where
  log_has : (p : Pid) (r : BackRec) → record_in recs p ≡ Some r → backup_record system log p ≡ Some r
  log_has p r found = by_test (is_some (unended_at (placement system log) p)) (sym (are p) ∙ found)
    where
      by_test : (b : Bool) → cond b (backup_record system log p) None ≡ Some r → backup_record system log p ≡ Some r
      by_test true is = is
      by_test false is = cc

  has_too : (p : Pid) → IsUnended system log p → record_in recs p ≡ backup_record system log p
  has_too p unended = are p ∙ ap (λ b. cond b (backup_record system log p) None) unended

  log_has_all : (ns : List ℕ) (more : List BackRec) → map Some more ≡ map (record_told recs) ns
      → map Some more ≡ map (λ (r : BackRec). backup_record system log r.pid) more
  log_has_all [] [] is = refl
  log_has_all [] (r ∷ more) is = cc
  log_has_all (n ∷ ns) [] is = cc
  log_has_all (n ∷ ns) (r ∷ more) is =
      let here : record_told recs n ≡ Some r = cc in
      let rest : map Some more ≡ map (record_told recs) ns = cc in
      let own : backup_record system log r.pid ≡ Some r = ap (backup_record system log) (told_pid recs n r here)
      ∙ log_has (pid_no n) r (told_found recs n r here) in
      λ i. sym own i ∷ log_has_all ns more rest i

-- ---- a line

module _ (front : FrontState) (head : StandingHead) (others : List ℕ) (moved : Bool) (births : List (Pid × Pid)) (recs : List BackRec) where
  abbrev p : Pid
  p = head.pid

  abbrev names : List ℕ
  names = p.0 ∷ others

  -- as of a process that needs no pages
  abbrev as_head : Head
  as_head = record { place = head.place; by = head.by; pid = head.pid; at = 0 }

  abbrev whole : Sender
  whole = record { start = 0; saved = 0; whole = true; parent = false }

  as_may : home_may front as_head whole ≡ home_next front head
  as_may = ap (λ b. cond b (home_told front.places head.by head.pid) None) (and_true (is_next front head.place))

  may_from : (home : ClusterNo) → home_next front head ≡ Some home → MaySendFrom front as_head whole home
  may_from home found = may_send front as_head whole home (as_may ∙ found)

  abbrev full_at : Places → Bool
  full_at places = option_map_or (λ (q : Placed). is_full q.mode) (unended_at places p) false

  -- ---- it may stand next

  module _ (home to : ClusterNo) (first : BackRec) (rest : List BackRec) (found : home_next front head ≡ Some home)
      (waits : may_wait front.places p moved ≡ true) (owed : backup_told front.places p head.to ≡ Some to)
      (family : is_family births p others ≡ true) (taken : map Some (first ∷ rest) ≡ map (record_told recs) names) (stated : is_some first.state ≡ true) where
    abbrev w : What
    w = Rebackup to false (first ∷ rest)

    abbrev e : Entry
    e = standing_entry front head home to (first ∷ rest)

    first_told : record_told recs p.0 ≡ Some first
    first_told = cc

    own : first.pid ≡ p
    own = told_pid recs p.0 first first_told

    named : pids_of (first ∷ rest) ≡ names
    named = pids_told recs names (first ∷ rest) taken

    cluster_is : (next_backup_at front.places p ≡ Some to) × (to.0 ≡ head.to)
    cluster_is = named_is head.to (next_backup_at front.places p) to owed

    module _ (system : System) (log : List Entry) (valid : is_system system ≡ true) (legal : IsLegalBy MayStand system log)
        (keeps : KeepsStanding front p moved births recs system log) where
      here : front.places ≡ placement system log
      here = (keeps.before).places

      has : has_state system log p ≡ true
      has = sym (record_stated system log p first (log_has system log recs keeps.records p first (told_found recs p.0 first first_told))) ∙ stated

      all : Families system log
      all = families MayStand (λ system log e may. may.stands) system log valid legal

      only : (was_moved system log p ≡ true) × (not (any_since_moved system log p (is_done_by p)) ≡ true)
      only = and_parts (was_moved system log p) (not (any_since_moved system log p (is_done_by p))) (sym keeps.moved_is
          ∙ (and_parts moved (full_at front.places) waits).0)

      holds : StandingHolds system log p to (first ∷ rest)
      holds = record {
        backup = ap (λ (places : Places). next_backup_at places p) (sym here) ∙ cluster_is.0;
        fullback = λ i. (ap full_at (sym here) ∙ (and_parts moved (full_at front.places) waits).1) i && only.0 i;
        waits = not_true (any_since_moved system log p (is_done_by p)) only.1;
        stated = has;
        family = ap rising named ∙ (bytes_eq-Decides (rising names) (rising (p.0 ∷ others_of births p))).0 family
            ∙ ap (λ (bs : List (Pid × Pid)). rising (p.0 ∷ others_of bs p)) keeps.family
            ∙ in_order system log all p has;
        records = log_has_all system log recs keeps.records names (first ∷ rest) taken;
      }

      stands_next : MayStand system log e
      stands_next = record {
        stands = record {
          placed = next_placed front head.place (may_from home found).next system log w keeps.before;
          by_right = ap (λ (places : Places). is_by_home places (Cluster home) (Some first.pid)) (sym here)
              ∙ ap (λ (q : Pid). is_by_home front.places (Cluster home) (Some q)) own ∙ ((may_from home found).home_is).right;
          applies = applies system log e legal (λ k. refl);
          kind = subst (λ (q : Pid). StandingHolds system log q to (first ∷ rest)) (sym own) holds;
        };
        limits = refl;
        new_page = refl;
        pages = refl;
      }

    follows_named : AnswersStanding front head others moved births recs (Some e)
    follows_named system log valid legal keeps = (
      λ i. record { place = head.place; by = sym ((may_from home found).home_is).told i; what = ToldStanding (named i) (cluster_is.1 i) },
      stands_next system log valid legal keeps,
    )

  pub standing_follows : (home to : ClusterNo) (more : List BackRec) (entry : Entry) → home_next front head ≡ Some home → may_wait front.places p moved ≡ true
      → backup_told front.places p head.to ≡ Some to
      → is_family births p others ≡ true → map Some more ≡ map (record_told recs) names → is_stated more ≡ true → entry ≡ standing_entry front head home to more
      → AnswersStanding front head others moved births recs (Some entry)
  standing_follows home to [] entry found waits owed family taken stated is = cc
  standing_follows home to (first ∷ rest) entry found waits owed family taken stated is =
      subst (λ (e : Entry). AnswersStanding front head others moved births recs (Some e)) (sym is)
      (follows_named home to first rest found waits owed family taken stated)

  -- ---- where it stands next the tests pass

  record StandingSaid (w : What) : Type 0 where
    pub to : ClusterNo
    pub first : BackRec
    pub rest : List BackRec
    pub is : w ≡ Rebackup to false (first ∷ rest)
    pub named : pids_of (first ∷ rest) ≡ names
    pub number : to.0 ≡ head.to

  standing_said : (w : What) → told_what w ≡ ToldStanding names head.to → StandingSaid w
  standing_said (Rebackup to false []) line = cc
  standing_said (Rebackup to false (first ∷ rest)) line = let all : pids_of (first ∷ rest) ≡ names = cc in let n : to.0 ≡ head.to =
      cc in record { to = to; first = first; rest = rest; is = refl; named = all; number = n }
  standing_said (Rebackup to true more) line = cc
  standing_said _ line = cc

  record Passes : Type 0 where
    pub home : is_some (home_next front head) ≡ true
    pub waits : may_wait front.places p moved ≡ true
    pub owed : is_some (backup_told front.places p head.to) ≡ true
    pub family : is_family births p others ≡ true
    pub records : list_any (λ n. is_none (record_told recs n)) names ≡ false
    pub stated : (first : BackRec) → record_told recs p.0 ≡ Some first → is_some first.state ≡ true

  module _ (system : System) (log : List Entry) (e : Entry) (valid : is_system system ≡ true) (legal : IsLegalBy MayStand system log)
      (keeps : KeepsStanding front p moved births recs system log)
      (line : told_of e ≡ record { place = head.place; by = head.by; what = ToldStanding names head.to }) (may : MayStand system log e) where
    said : StandingSaid (what e)
    said = standing_said (what e) (ap (λ (t : Told). t.what) line)

    first_is : (said.first).pid ≡ p
    first_is = let same : ((said.first).pid).0 ≡ p.0 = (let all = said.named in cc) in λ i. record { 0 = same i }

    now_here : front.places ≡ placement system log
    now_here = (keeps.before).places

    standing : StandingHolds system log p said.to (said.first ∷ said.rest)
    standing = subst (λ (q : Pid). StandingHolds system log q said.to (said.first ∷ said.rest)) first_is
        (subst (KindHolds system log e) said.is (may.stands).kind)

    by_home : is_by_home (placement system log) (e.post).by (Some p) ≡ true
    by_home = ap (λ (q : Pid). is_by_home (placement system log) (e.post).by (Some q)) (sym first_is)
        ∙ sym (ap (is_by_right (placement system log) (e.post).by) said.is) ∙ (may.stands).by_right

    unended : IsUnended system log p
    unended = by_home_unended (placement system log) (e.post).by p by_home

    all_families : Families system log
    all_families = families MayStand (λ system log e may. may.stands) system log valid legal

    -- each process that is named has not ended
    named_unended : (q : Pid) → list_any (λ (r : BackRec). same_pid r.pid q) (said.first ∷ said.rest) ≡ true → IsUnended system log q
    named_unended q there =
        let blank : Placed = record { pid = q; home = said.to; backup = None; mode = Full; lost = None; ended = false; synced = false } in
        family_unended system log p unended q (sym (standing_named system log p said.to (said.first ∷ said.rest) standing blank) ∙ there)

    -- so each has its record
    each_recorded : (more : List BackRec) → ((q : Pid) → list_any (λ (r : BackRec). same_pid r.pid q) more ≡ true → IsUnended system log q)
        → map Some more ≡ map (λ (r : BackRec). backup_record system log r.pid) more → list_any (λ n. is_none (record_told recs n)) (pids_of more) ≡ false
    each_recorded [] unended is = refl
    each_recorded (r ∷ more) unended is =
        let own : IsUnended system log r.pid = unended r.pid
        (or_left (same_pid r.pid r.pid) (list_any (λ (s : BackRec). same_pid s.pid r.pid) more) (eq-eqb (r.pid).0 (r.pid).0 refl)) in
        let here : backup_record system log r.pid ≡ Some r = cc in
        let rest : map Some more ≡ map (λ (r : BackRec). backup_record system log r.pid) more = cc in
        let there : record_told recs (r.pid).0 ≡ Some r =
        ap (λ b. cond b (record_in recs r.pid) None) (small_pid (r.pid).0 (unended_fits system log r.pid valid legal own))
        ∙ has_too system log recs keeps.records r.pid own ∙ here in
        λ i. is_none (there i) || each_recorded more
        (λ q there. unended q (or_right (same_pid r.pid q) (list_any (λ (s : BackRec). same_pid s.pid q) more) there)) rest i

    passes : Passes
    passes = record {
      home = ap is_some (sym as_may)
          ∙ home_there front as_head whole (e.post).by
          (next_passes system log front e head.place keeps.before (ap (λ (t : Told). t.place) line) may.stands) refl (ap (λ (t : Told). t.by) line)
          (ap (λ (places : Places). is_by_home places (e.post).by (Some p)) now_here ∙ by_home);
      waits = λ i. (keeps.moved_is
          ∙ (λ j. (and_parts (full_at (placement system log)) (was_moved system log p) standing.fullback).1 j && not (standing.waits j))) i
          && (ap full_at now_here ∙ (and_parts (full_at (placement system log)) (was_moved system log p) standing.fullback).0) i;
      owed = ap is_some (named_there head.to (next_backup_at front.places p) said.to (ap (λ (places : Places). next_backup_at places p) now_here
          ∙ standing.backup) said.number);
      family = (bytes_eq-Decides (rising names) (rising (p.0 ∷ others_of births p))).1
          (ap rising (sym said.named) ∙ standing.family
          ∙ sym (ap (λ (bs : List (Pid × Pid)). rising (p.0 ∷ others_of bs p)) keeps.family ∙ in_order system log all_families p standing.stated));
      records = ap (list_any (λ n. is_none (record_told recs n))) (sym said.named) ∙ each_recorded (said.first ∷ said.rest) named_unended standing.records;
      stated = λ first is. record_stated system log p first (log_has system log recs keeps.records p first (told_found recs p.0 first is)) ∙ standing.stated;
    }

  refuse : (Passes → ⊥) → AnswersStanding front head others moved births recs None
  refuse never system log e valid legal keeps line may = never (passes system log e valid legal keeps line may)

  pub standing_unsent : home_next front head ≡ None → AnswersStanding front head others moved births recs None
  standing_unsent none = refuse (λ r. true≢false (sym r.home ∙ ap is_some none))

  pub standing_acted : may_wait front.places p moved ≡ false → AnswersStanding front head others moved births recs None
  standing_acted acted = refuse (λ r. true≢false (sym r.waits ∙ acted))

  pub standing_unowed : backup_told front.places p head.to ≡ None → AnswersStanding front head others moved births recs None
  standing_unowed none = refuse (λ r. true≢false (sym r.owed ∙ ap is_some none))

  pub standing_unlike : is_family births p others ≡ false → AnswersStanding front head others moved births recs None
  standing_unlike other = refuse (λ r. true≢false (sym r.family ∙ other))

  pub standing_unrecorded : list_any (λ n. is_none (record_told recs n)) names ≡ true → AnswersStanding front head others moved births recs None
  standing_unrecorded none = refuse (λ r. true≢false (sym none ∙ r.records))

  pub standing_unstated : (more : List BackRec) → map Some more ≡ map (record_told recs) names → is_stated more ≡ false
      → AnswersStanding front head others moved births recs None
  standing_unstated [] taken none = cc
  standing_unstated (first ∷ rest) taken none =
      let here : record_told recs p.0 ≡ Some first = cc in
      refuse (λ r. true≢false (sym (r.stated first here) ∙ none))
