-- When a birth may stand next, and what it leaves.
use Rattle.std.proofs.Common.{◌≡◌, ℕ, ◌+◌, ◌-◌, ◌<◌, ◌^◌, refl, sym, ◌∙◌, ap, subst, arith, add-zero, List, [], ◌∷◌, ◌++◌, length, Bool, true, false, cond, ◌&&◌, leb, eqb, eqb-true, eq-eqb, Option, Some, None, is_some, Result, Ok, Err, true≢false}
use Rattle.std.specs.Prelude.{IfOk, nat_lt, option_and_then, option_map}
use Rattle.std.specs.Option.{option_map_or}
use Rattle.std.proofs.lemmas.Bool.{and_parts}
use Rattle.std.proofs.lemmas.Bool.Decides.{nat_tests}
use Rattle.std.proofs.lemmas.Option.{same_Some}
use Rattle.t32_base.specs.declared.process.Pid.{Pid}
use Rattle.t32_base.specs.declared.process.ClusterNo.{ClusterNo}
use Rattle.sys_text.specs.declared.system.System.{System}
use Rattle.sys_text.specs.Valid.{is_system}
use Rattle.sys_text.specs.Boot.{pid_of}
use Rattle.t32_base.specs.declared.streams.NoMemory.{NoMemory}
use Rattle.proc_state.specs.declared.process.Process.{Process}
use Rattle.proc_state.specs.State.{ProcState, has_ended, state_of}
use Rattle.sys_calls.specs.Calls.{Forks}
use Rattle.sys_calls.specs.Next.{next_step, silently}
use Rattle.counted_steps.specs.Counted.{ComesToFork}
use Rattle.sys_calls.specs.Fork.{CanFork, before_fork, fork_child, fork_parent, next_end}
use Rattle.sys_calls.proofs.Counting.{silently_counts}
use Rattle.sys_calls.proofs.ForkLaws.{forks_can}
use Rattle.bus_msg.specs.declared.entry.What.{What}
use Rattle.bus_msg.specs.declared.entry.What.TheVariants.{Birth, Rebackup}
use Rattle.bus_msg.specs.declared.entry.By.TheVariants.{Cluster}
use Rattle.bus_msg.specs.declared.entry.Entry.{Entry}
use Rattle.bus_msg.specs.declared.placed.Placed.{Placed}
use Rattle.bus_msg.specs.Places.{Places, lives_in, next_serial_in, unended_at}
use Rattle.bus_msg.specs.PlacedAfter.{what}
use Rattle.bus_msg.specs.Route.{to_all}
use Rattle.cert_sched.specs.Schedule.{done_after, placement, process_after}
use Rattle.cert_sched.specs.Steps.{before_fork_at, process_of, reads_since, saved_of, silent_upto}
use Rattle.cert_sched.specs.Rules.{awaits_pages, has_its_pages, holds_of, home_at, is_by, is_by_home, is_by_right, is_within_limits, keeps_limits}
use Rattle.cert_sched.specs.Kinds.{BirthHolds, KindHolds, next_child_at}
use Rattle.cert_sched.specs.Legal.{IsLegalBy, Stands, KeepsLimits, MayStand}
use Rattle.cert_sched.proofs.BirthPlaces.{parent_unended}
use Rattle.cert_sched.proofs.BornLaws.{birth_from}
use Rattle.cert_sched.proofs.FreshLaws.{numbered}
use Rattle.cert_sched.proofs.ReplayLaws.{fork_after}
use Rattle.log_laws.proofs.letters.LogReads.{silent_reads}
use Rattle.log_laws.proofs.records.Standing.{all_stand}
use Rattle.checkpoint_laws.proofs.posts.BirthStands.{birth_stands}
use Rattle.number_laws.proofs.Counts.{done_is}
use Rattle.number_laws.proofs.NextPids.{pid_fits}
use Rattle.entry_lines.specs.declared.told.ToldWhat.TheVariants.{Birth as ToldBirth}
use Rattle.entry_lines.specs.declared.told.Told.{Told}
use Rattle.entry_lines.specs.Told.{told_of, told_what}
use Rattle.line_laws.specs.Meant.{pid_no}
use Rattle.log_audit.specs.Front.{FrontState}
use Rattle.log_audit.proofs.Losing.{below as inside, next_passes, next_placed}
use Rattle.log_processes.specs.declared.sender.Head.{Head}
use Rattle.log_processes.specs.declared.sender.Limits.{Limits}
use Rattle.log_processes.specs.declared.sender.Sender.{Sender}
use Rattle.log_processes.specs.Sending.{KeepsProcess, KeepsSender, home_may, is_within}
use Rattle.log_processes.proofs.Beside.{begins_again, goes_on}
use Rattle.log_processes.proofs.ReadCounts.{reads_left}
use Rattle.log_processes.proofs.Sent.{home_there, may_send}
use Rattle.log_births.specs.declared.births.Born.{Born}
use Rattle.log_births.specs.declared.births.ToldChild.{ToldChild}
use Rattle.log_births.specs.Births.{AnswersBirth, Bears, BearsChild, ForksBy, birth_entry, birth_may, child_may}

-- ---- the child

-- the next child of a process that is at home there
child_named : (places : Places) (home : ClusterNo) (p : Pid) → is_by_home places (Cluster home) (Some p) ≡ true → option_map (next_child_at places) (unended_at places p) ≡ Some (pid_of home.0 (next_serial_in places home))
child_named places home p right = by_place (unended_at places p) (and_parts (lives_in places home) (is_by (Cluster home) (home_at places p)) right).1
  where
    by_place : (o : Option Placed) → is_by (Cluster home) (option_map (λ (q : Placed). q.home) o) ≡ true → option_map (next_child_at places) o ≡ Some (pid_of home.0 (next_serial_in places home))
    by_place None is = absurd (true≢false (sym is))
    by_place (Some q) is =
        let same : home ≡ q.home = λ i. record { 0 = eqb-true home.0 (q.home).0 is i } in
        ap (λ (h : ClusterNo). Some (pid_of h.0 (next_serial_in places h))) (sym same)

if_some : (b : Bool) (p q : Pid) → cond b (Some p) None ≡ Some q → (b ≡ true) × (p ≡ q)
if_some true p q is = let same : p ≡ q = cc in (refl, same)
if_some false p q is = cc

record ChildMay (places : Places) (home : ClusterNo) (n : ℕ) (child : Pid) : Type 0 where
  pub next : pid_of home.0 (next_serial_in places home) ≡ child
  pub named : child.0 ≡ n

child_parts : (places : Places) (home : ClusterNo) (n : ℕ) (child : Pid) → child_may places home n ≡ Some child → ChildMay places home n child
child_parts places home n child is =
    let both = if_some (eqb (pid_of home.0 (next_serial_in places home)).0 n && nat_lt n (2 ^ 32)) (pid_no n) child is in
    let tests = and_parts (eqb (pid_of home.0 (next_serial_in places home)).0 n) (nat_lt n (2 ^ 32)) both.0 in
    let number : (pid_of home.0 (next_serial_in places home)).0 ≡ n = eqb-true (pid_of home.0 (next_serial_in places home)).0 n tests.0 in
    record { next = (λ i. record { 0 = number i }) ∙ both.1; named = ap (λ (p : Pid). p.0) (sym both.1) }

below : (a b : ℕ) → a < b → nat_lt a b ≡ true
below a b is = grind (arith, nat_tests)

-- ---- the fork, after a log

forks_then : (system : System) (log : List Entry) (p : Pid) (s : ProcState) (at : ℕ) → process_after system log p ≡ Some s → before_fork_at system log p at ≡ before_fork (at - 1 - (s.small).steps) s
unfolding before_fork_at
forks_then system log p s at there =
    let steps : done_after system log p ≡ (s.small).steps = done_is system log p s there in
    λ i. option_and_then (before_fork (at - 1 - steps i)) (there i)

-- silent steps lead to where it stands before the fork
record Before (system : System) (log : List Entry) (p : Pid) (at : ℕ) (q : ProcState) : Type 0 where
  pub count : (q.small).steps + 1 ≡ at
  pub reached : silent_upto system log p (q.small).steps ≡ Some q
  pub forks : next_step q ≡ Forks
  pub runs : has_ended (q.small).status ≡ false

stands_before : (system : System) (log : List Entry) (p : Pid) (s : ProcState) (at : ℕ) (q : ProcState) → process_after system log p ≡ Some s → (s.small).steps < at → before_fork (at - 1 - (s.small).steps) s ≡ Some q → Before system log p at q
unfolding silent_upto
stands_before system log p s at q there later forks =
    let f = fork_after (at - 1 - (s.small).steps) s q forks in
    let made = (silently_counts (at - 1 - (s.small).steps) s q f.silent).steps in
    let steps : done_after system log p ≡ (s.small).steps = done_is system log p s there in
    let count : (q.small).steps - done_after system log p ≡ at - 1 - (s.small).steps = omega (arith, made, steps, later) in
    record {
      count = omega (arith, made, later);
      reached = (λ i. option_and_then (silently (count i)) (there i)) ∙ f.silent;
      forks = f.forks;
      runs = ap has_ended (forks_can q f.forks).live;
    }

-- behind the fork its own counts say whether it is within its limits
limits_behind : (system : System) (log : List Entry) (front : FrontState) (limits : Limits) (p : Pid) (s : ProcState) (kept : Sender) (at : ℕ) (q : ProcState) (child : Pid) → is_system system ≡ true → IsLegalBy MayStand system log
    → KeepsSender front limits p s kept system log → Before system log p at q → keeps_limits system log p (fork_parent q child) ≡ is_within limits kept (fork_parent q child)
limits_behind system log front limits p s kept at q child valid legal keeps b =
    let from = silent_reads system log p (q.small).steps q valid (all_stand system log legal) b.reached b.runs in
    let reads : reads_since system log p (fork_parent q child) ≡ length (saved_of system log p) - length q.mail = reads_left (saved_of system log p) q.mail from in
    λ i. leb (((fork_parent q child).small).steps - sym (keeps.process).begins i) (sym (keeps.limited).steps i)
    && leb ((reads ∙ ap (λ n. n - length q.mail) (sym (keeps.process).letters)) i) (sym (keeps.limited).reads i)

module _ (front : FrontState) (limits : Limits) (head : Head) (kept : Sender) (s : ProcState) (told : ToldChild) where
  -- ---- it may stand next

  module _ (home : ClusterNo) (child : Pid) (q : ProcState) (found : home_may front head kept ≡ Some home) (named : child_may front.places home told.pid ≡ Some child) (later : (s.small).steps < head.at)
      (forks : before_fork (head.at - 1 - (s.small).steps) s ≡ Some q) (may : birth_may limits kept q child told.end ≡ true) where
    abbrev e : Entry
    e = birth_entry front home head child (next_end q)

    module _ (system : System) (log : List Entry) (valid : is_system system ≡ true) (legal : IsLegalBy MayStand system log) (keeps : KeepsSender front limits head.pid s kept system log) where
      there : before_fork_at system log head.pid head.at ≡ Some q
      there = forks_then system log head.pid s head.at (keeps.process).there ∙ forks

      before : Before system log head.pid head.at q
      before = stands_before system log head.pid s head.at q (keeps.process).there later forks

      by_home : is_by_home (placement system log) (Cluster home) (Some head.pid) ≡ true
      by_home = ap (λ (r : Places). is_by_home r (Cluster home) (Some head.pid)) (sym (keeps.before).places) ∙ ((may_send front head kept home found).home_is).right

      child_is : option_map (next_child_at (placement system log)) (unended_at (placement system log) head.pid) ≡ Some child
      child_is =
          child_named (placement system log) home head.pid by_home
          ∙ ap (λ (r : Places). Some (pid_of home.0 (next_serial_in r home))) (sym (keeps.before).places) ∙ ap Some (child_parts front.places home told.pid child named).next

      stands : Stands system log e
      stands =
          let placed = next_placed front head.place (may_send front head kept home found).next system log (Birth head.pid head.at child (next_end q)) keeps.before in
          subst (Stands system log)
          (λ i. record {
            place = sym placed.0 i;
            post = record { by = Cluster home; what = Birth head.pid (before.count i) child (next_end q) };
            dests = to_all (sym (keeps.before).places i);
          })
          (birth_stands system log (Cluster home) head.pid q child valid (all_stand system log legal) (record { goes_on = placed.2; by_home = by_home; reached = before.reached }) before.forks child_is)

      follows_log : MayStand system log e
      follows_log = record {
        stands = stands;
        limits =
            ap (λ (o : Option ProcState). option_map_or (keeps_limits system log head.pid) (option_map (λ (t : ProcState). fork_parent t child) o) false) there
            ∙ limits_behind system log front limits head.pid s kept head.at q child valid legal keeps before ∙ (and_parts (eqb (next_end q) told.end) (is_within limits kept (fork_parent q child)) may).1;
        new_page = refl;
        pages = sym keeps.whole ∙ (may_send front head kept home found).whole;
      }

    pub birth_follows : AnswersBirth front limits head kept s told (Some e)
    birth_follows system log valid legal keeps =
        let sender = ((may_send front head kept home found).home_is).told in
        let number : child.0 ≡ told.pid = (child_parts front.places home told.pid child named).named in
        let end : next_end q ≡ told.end = eqb-true (next_end q) told.end (and_parts (eqb (next_end q) told.end) (is_within limits kept (fork_parent q child)) may).0 in
        (λ i. record { place = head.place; by = sym sender i; what = ToldBirth (head.pid).0 head.at (number i) (end i) }, follows_log system log valid legal keeps)

    -- ---- what it leaves

    pub birth_bears : (born : Born) → born.entry ≡ e → state_of born.child ≡ fork_child q child → BearsChild front limits head.pid kept s born (fork_parent q child)
    birth_bears born entry state system log valid legal keeps =
        let made = birth_from system log e head.pid head.at child (next_end q) refl (stands system log valid legal keeps).applies q (there system log valid legal keeps) in
        let m = made.0 in
        let unended = parent_unended (placement system log) head.pid child (child_is system log valid legal keeps) in
        let parent =
        goes_on system log e head.pid valid legal (follows_log system log valid legal keeps) unended m.apart (fork_parent q child) kept.start kept.saved (m.parent_is ∙ ap (λ (t : ProcState). Some (fork_parent t child)) made.1)
        (keeps.process).begins (keeps.process).letters in
        let own = begins_again system log e child (fork_child q child) (eq-eqb child.0 child.0 refl) (m.child_is ∙ ap (λ (t : ProcState). Some (fork_child t child)) made.1) in
        let pid : ((born.child).small).pid ≡ child = ap (λ (t : ProcState). (t.small).pid) state in
        subst (λ (b : Entry). KeepsProcess head.pid (fork_parent q child) kept.start kept.saved system (log ++ b ∷ []) × KeepsProcess ((born.child).small).pid (state_of born.child) 0 0 system (log ++ b ∷ [])) (sym entry) (
          record { there = parent.there; begins = parent.begins; letters = sym (add-zero kept.saved) ∙ parent.letters },
          subst (λ (c : Pid). KeepsProcess c (state_of born.child) 0 0 system (log ++ e ∷ [])) (sym pid) (subst (λ (t : ProcState). KeepsProcess child t 0 0 system (log ++ e ∷ [])) (sym state) own),
        )

  -- ---- where it stands next the tests pass

  record BirthSaid (w : What) : Type 0 where
    pub is : w ≡ Birth head.pid head.at (pid_no told.pid) told.end

  birth_said : (w : What) → told_what w ≡ ToldBirth (head.pid).0 head.at told.pid told.end → BirthSaid w
  birth_said (Birth parent at child end) line =
      let p : parent.0 ≡ (head.pid).0 = cc in
      let n : at ≡ head.at = cc in
      let c : child.0 ≡ told.pid = cc in
      let k : end ≡ told.end = cc in
      record { is = λ i. Birth (record { 0 = p i }) (n i) (record { 0 = c i }) (k i) }
  birth_said (Rebackup to true recs) line = cc
  birth_said (Rebackup to false recs) line = cc
  birth_said _ line = cc

  record Passes : Type 0 where
    pub home : is_some (home_may front head kept) ≡ true
    pub child : (home : ClusterNo) → home_may front head kept ≡ Some home → child_may front.places home told.pid ≡ Some (pid_no told.pid)
    pub before : ProcState
    pub later : (s.small).steps < head.at
    pub forks : before_fork (head.at - 1 - (s.small).steps) s ≡ Some before
    pub may : birth_may limits kept before (pid_no told.pid) told.end ≡ true

  record Mapped (o : Option ProcState) (n : ℕ) : Type 0 where
    pub at : ProcState
    pub is : o ≡ Some at
    pub end : next_end at ≡ n

  mapped : (o : Option ProcState) (n : ℕ) → option_map next_end o ≡ Some n → Mapped o n
  mapped None n is = cc
  mapped (Some q) n is = record { at = q; is = refl; end = same_Some (next_end q) n is }

  passes : (system : System) (log : List Entry) (e : Entry) → is_system system ≡ true → IsLegalBy MayStand system log → KeepsSender front limits head.pid s kept system log
      → told_of e ≡ record { place = head.place; by = head.by; what = ToldBirth (head.pid).0 head.at told.pid told.end } → MayStand system log e → Passes
  passes system log e valid legal keeps line may =
      let said = birth_said (what e) (ap (λ (t : Told). t.what) line) in
      let front_is = keeps.before in
      let stands = may.stands in
      let holds : BirthHolds system log head.pid head.at (pid_no told.pid) told.end = subst (KindHolds system log e) said.is stands.kind in
      let next = next_passes system log front e head.place front_is (ap (λ (t : Told). t.place) line) stands in
      let placed_right : is_by_home (placement system log) (e.post).by (Some head.pid) ≡ true = sym (ap (is_by_right (placement system log) (e.post).by) said.is) ∙ stands.by_right in
      let right : is_by_home front.places (e.post).by (Some head.pid) ≡ true = ap (λ (r : Places). is_by_home r (e.post).by (Some head.pid)) front_is.places ∙ placed_right in
      let whole : kept.whole ≡ true = keeps.whole ∙ subst (λ (w : What). holds_of (awaits_pages w) (process_of w) (has_its_pages system log) ≡ true) said.is may.pages in
      let limited : is_within_limits system log (Birth head.pid head.at (pid_no told.pid) told.end) head.pid ≡ true = subst (KeepsLimits system log) said.is may.limits in
      let steps : done_after system log head.pid ≡ (s.small).steps = done_is system log head.pid s (keeps.process).there in
      let later : (s.small).steps < head.at = subst (λ n. n < head.at) steps holds.later in
      let m = mapped (before_fork_at system log head.pid head.at) told.end holds.end_is in
      let forks : before_fork (head.at - 1 - (s.small).steps) s ≡ Some m.at = sym (forks_then system log head.pid s head.at (keeps.process).there) ∙ m.is in
      let b = stands_before system log head.pid s head.at m.at (keeps.process).there later forks in
      let within : is_within limits kept (fork_parent m.at (pid_no told.pid)) ≡ true =
      sym (limits_behind system log front limits head.pid s kept head.at m.at (pid_no told.pid) valid legal keeps b)
      ∙ sym (ap (λ (o : Option ProcState). option_map_or (keeps_limits system log head.pid) (option_map (λ (t : ProcState). fork_parent t (pid_no told.pid)) o) false) m.is) ∙ limited in
      record {
        home = home_there front head kept (e.post).by next whole (ap (λ (t : Told). t.by) line) right;
        child = λ home found.
            let own : is_by_home (placement system log) (Cluster home) (Some head.pid) ≡ true =
            ap (λ (r : Places). is_by_home r (Cluster home) (Some head.pid)) (sym front_is.places) ∙ ((may_send front head kept home found).home_is).right in
            let same : pid_of home.0 (next_serial_in (placement system log) home) ≡ pid_no told.pid =
            same_Some (pid_of home.0 (next_serial_in (placement system log) home)) (pid_no told.pid) (sym (child_named (placement system log) home head.pid own) ∙ holds.child_is) in
            let number : (pid_of home.0 (next_serial_in front.places home)).0 ≡ told.pid =
            ap (λ (r : Places). (pid_of home.0 (next_serial_in r home)).0) front_is.places ∙ ap (λ (p : Pid). p.0) same in
            let few = (numbered MayStand (λ system log e may. may.stands) system log valid legal).few in
            let within = inside (placement system log).clusters home.0 (and_parts (lives_in (placement system log) home) (is_by (Cluster home) (home_at (placement system log) head.pid)) own).0 in
            let fits = pid_fits system log home valid legal (omega (arith, few, within)) in
            let small : told.pid < 2 ^ 32 = subst (λ (p : Pid). p.0 < 2 ^ 32) same fits in
            λ i. cond (eq-eqb (pid_of home.0 (next_serial_in front.places home)).0 told.pid number i && below told.pid (2 ^ 32) small i) (Some (pid_no told.pid)) None;
        before = m.at;
        later = later;
        forks = forks;
        may = λ i. eq-eqb (next_end m.at) told.end m.end i && within i;
      }

  refuse : (Passes → ⊥) → AnswersBirth front limits head kept s told None
  refuse never system log e valid legal keeps line may = never (passes system log e valid legal keeps line may)

  pub birth_unsent : home_may front head kept ≡ None → AnswersBirth front limits head kept s told None
  birth_unsent none = refuse (λ p. true≢false (sym p.home ∙ ap is_some none))

  pub birth_unnamed : (home : ClusterNo) → home_may front head kept ≡ Some home → child_may front.places home told.pid ≡ None → AnswersBirth front limits head kept s told None
  birth_unnamed home found none = refuse (λ p. true≢false (ap is_some (sym (p.child home found) ∙ none)))

  pub birth_unmade : (t : ProcState) → ForksBy head.at s false t → AnswersBirth front limits head kept s told None
  birth_unmade t none = refuse (λ p. none p.before p.later p.forks)

  pub birth_refused : (home : ClusterNo) (child : Pid) (q : ProcState) → home_may front head kept ≡ Some home → child_may front.places home told.pid ≡ Some child → before_fork (head.at - 1 - (s.small).steps) s ≡ Some q → birth_may limits kept q child told.end ≡ false
      → AnswersBirth front limits head kept s told None
  birth_refused home child q found named forks refused = refuse by_parts
    where
      by_parts : Passes → ⊥
      by_parts p =
          let same : q ≡ p.before = same_Some q p.before (sym forks ∙ p.forks) in
          let child_same : child ≡ pid_no told.pid = same_Some child (pid_no told.pid) (sym named ∙ p.child home found) in
          true≢false (sym p.may ∙ (λ i. birth_may limits kept (sym same i) (sym child_same i) told.end) ∙ refused)

  -- ---- as the calls answer

  module _ (home : ClusterNo) (child : Pid) (q : ProcState) (found : home_may front head kept ≡ Some home) (named : child_may front.places home told.pid ≡ Some child) (forks : ForksBy head.at s true q) where
    pub birth_answered : (end : ℕ) (born : Process) (t : ProcState) → Bears limits kept child told.end q (Some (end, born)) t → AnswersBirth front limits head kept s told (Some (birth_entry front home head child end))
    birth_answered end born t bears =
        subst (λ (n : ℕ). AnswersBirth front limits head kept s told (Some (birth_entry front home head child n))) (sym bears.1) (birth_follows home child q found named forks.0 forks.1 bears.0)

    pub birth_borne : (end : ℕ) (born : Process) (t : ProcState) (e : Entry) → Bears limits kept child told.end q (Some (end, born)) t → e ≡ birth_entry front home head child end
        → BearsChild front limits head.pid kept s (record { entry = e; child = born }) t
    birth_borne end born t e bears is =
        subst (BearsChild front limits head.pid kept s (record { entry = e; child = born })) (sym bears.3)
        (birth_bears home child q found named forks.0 forks.1 bears.0 (record { entry = e; child = born }) (is ∙ ap (birth_entry front home head child) bears.1) bears.2)

    pub birth_unborne : (t : ProcState) → Bears limits kept child told.end q None t → AnswersBirth front limits head kept s told None
    birth_unborne t bears = birth_refused home child q found named forks.1 bears

-- a process before its fork can fork
pub can_fork : (n : ℕ) (s q : ProcState) → before_fork n s ≡ Some q → CanFork q
can_fork n s q forks = forks_can q (fork_after n s q forks).forks

pub can_fork_where : (n : ℕ) (old new : Process) (r : Result Bool NoMemory) → IfOk r (λ forks. ComesToFork n old forks new) → IfOk r (λ forks. forks ≡ true → CanFork (state_of new))
can_fork_where n old new (Ok true) comes = λ is. can_fork n (state_of old) (state_of new) comes
can_fork_where n old new (Ok false) comes = λ is. absurd (true≢false (sym is))
can_fork_where n old new (Err e) comes = tt
