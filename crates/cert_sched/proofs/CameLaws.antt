-- What one more entry of a legal log does to each process: how the process came to where it is.
use Rattle.std.proofs.Common.{◌≡◌, ℕ, ◌+◌, ◌-◌, refl, sym, ◌∙◌, ap, subst, List, [], ◌∷◌, ◌++◌, Bool, true, false, cond, not, eqb-true, eq-eqb, append-nil, Option, Some, None, is_some, true≢false}
use Rattle.std.specs.Prelude.{option_and_then, option_map}
use Rattle.std.proofs.lemmas.Bool.{and_parts}
use Rattle.std.proofs.lemmas.Option.{same_Some}
use Rattle.t32_base.specs.declared.process.Pid.{Pid}
use Rattle.t32_base.specs.declared.process.ClusterNo.{ClusterNo}
use Rattle.t32_base.specs.declared.process.End.{End}
use Rattle.t32_base.specs.declared.letter.Letter.{Letter}
use Rattle.t32_base.specs.declared.letter.BackRec.{BackRec}
use Rattle.t32_base.specs.declared.letter.To.{To}
use Rattle.t32_base.specs.declared.letter.To.TheVariants.{Proc, Tty}
use Rattle.t32_base.specs.Small.{SmallState}
use Rattle.sys_text.specs.declared.system.System.{System}
use Rattle.proc_state.specs.State.{ProcState, delivered, has_ended}
use Rattle.sys_calls.specs.declared.steps.Emission.TheVariants.{Mail as Sent, Exit as Ended}
use Rattle.sys_calls.specs.Next.{silently}
use Rattle.sys_calls.specs.Fork.{fork_parent, fork_child}
use Rattle.sys_calls.specs.Take.{taken}
use Rattle.sys_calls.proofs.Counting.{last_sent, letter_goes_on, silently_counts}
use Rattle.sys_calls.proofs.RunLemma.{all_delivered}
use Rattle.plain_kernel.specs.Kernel.{Kernel, process_at}
use Rattle.plain_kernel.specs.Apply.{apply_all}
use Rattle.bus_msg.specs.declared.entry.What.{What}
use Rattle.bus_msg.specs.declared.entry.What.TheVariants.{Mail, Birth, Exit, Sync, Crash, Return, Rebackup, Done}
use Rattle.bus_msg.specs.declared.entry.Entry.{Entry}
use Rattle.bus_msg.specs.declared.placed.Placed.{Placed}
use Rattle.bus_msg.specs.Places.{same_pid, unended_in}
use Rattle.bus_msg.specs.PlacedAfter.{what}
use Rattle.cert_sched.specs.Schedule.{done, items_of, run_upto, steps_in, plain_after, process_after, placement}
use Rattle.roll_forward.specs.Deeds.{Sends, Bears}
use Rattle.cert_sched.specs.Deeds.{deeds_in, letter_for, to_process, is_end_of, is_birth_of, is_cut}
use Rattle.cert_sched.specs.Steps.{silent_upto, emission_at, after_items}
use Rattle.cert_sched.specs.Kinds.{KindHolds, DoneHolds, SyncHolds, FreshHolds, is_silent_rest, after_take}
use Rattle.cert_sched.specs.Legal.{Stands}
use Rattle.cert_sched.proofs.ListLaws.{list_all-weaker}
use Rattle.cert_sched.proofs.LogLaws.{process_after-quiet}
use Rattle.cert_sched.proofs.RisingLaws.{NoTwo, rising-apart}
use Rattle.cert_sched.proofs.PidLaws.{placed_pids, apart_fewer}
use Rattle.cert_sched.proofs.RunsLaws.{rest_pids, led, led-silent_upto, after_runs, runs_made}
use Rattle.cert_sched.proofs.StepLaws.{applied, is_sent, sent_from, silent_from, process_after-silent, process_after-beside}
use Rattle.cert_sched.proofs.MailLaws.{received, received-ended, received-goes_on, process_after-sender, process_after-receiver, silently_ends}
use Rattle.cert_sched.proofs.BirthKind.{is_birth}
use Rattle.cert_sched.proofs.MadeLaws.{BirthMade, TakeMade, apart_from}
use Rattle.cert_sched.proofs.BornLaws.{birth_applied}
use Rattle.cert_sched.proofs.ReplayLaws.{Replays, replays_last, replays_silently, replays_forked}
use Rattle.cert_sched.proofs.BirthLaws.{sync_taken}
use Rattle.sys_calls.proofs.TakeLaws.{taken_strikes}

-- ---- rules by which an entry stands

-- by this rule an entry stands
abbrev pub IsStandingRule : (System → List Entry → Entry → Type 0) → Type 0
IsStandingRule May = (system : System) (log : List Entry) (e : Entry) → May system log e → Stands system log e

-- ---- how a process came to where it is

-- it made steps, which do what the entry tells of it, and then the letters of the entry to it arrived
pub record Goes (p : Pid) (w : What) (was now : ProcState) : Type 0 where
  pub made : ℕ
  pub to : ProcState
  pub replays : Replays made was (deeds_in p w) to
  pub arrives : now ≡ all_delivered to (letter_for p w)

-- So it went on; or the entry is its cut, and no letter arrived; or the entry is its birth, and no letter has arrived.
pub data Came (system : System) (log : List Entry) (w : What) (p : Pid) (now : ProcState) : Type 0 where
  went_on : (was : ProcState) → process_after system log p ≡ Some was → is_birth_of p w ≡ false → Goes p w was now → Came system log w p now
  was_cut : (was : ProcState) → process_after system log p ≡ Some was → has_ended (was.small).status ≡ false → is_cut p w ≡ true → now.next ≡ was.next → Came system log w p now
  was_born : is_birth_of p w ≡ true → now.next ≡ 0 → Came system log w p now

-- ---- a letter, and an exit

-- a letter that is delivered to a process that has not ended arrives there, or it goes elsewhere
pub received-all : (letter : Letter) (p : Pid) (s : ProcState) → has_ended (s.small).status ≡ false → received (Sent letter) p s ≡ all_delivered s (to_process p letter letter.to)
received-all letter p s goes_on = received-goes_on (Sent letter) p s goes_on ∙ by_to letter.to
  where
    by_test : (b : Bool) → cond b (delivered s letter) s ≡ all_delivered s (cond b (letter ∷ []) [])
    by_test true = refl
    by_test false = refl

    by_to : (to : To) → cond (is_end_of p to) (delivered s letter) s ≡ all_delivered s (to_process p letter to)
    by_to (Tty t) = refl
    by_to (Proc q e) = by_test (same_pid q p)

pub same_of : (p q : Pid) → same_pid p q ≡ true → p ≡ q
same_of p q is i = record { 0 = eqb-true p.0 q.0 is i }

-- an entry that tells of no emission and no birth
abbrev pub is_silent : What → Bool
is_silent (Mail at letter) = false
is_silent (Birth parent at child end) = false
is_silent (Exit pid at end) = false
is_silent _ = true

-- a synchronisation that takes a signal
abbrev pub takes_signal : What → Bool
takes_signal (Sync pid small read (Some g)) = true
takes_signal _ = false

module _ (system : System) (log : List Entry) (e : Entry) where
  Here : What → Pid → Type 0
  Here w p = (now : ProcState) → process_after system (log ++ e ∷ []) p ≡ Some now → has_ended (now.small).status ≡ false → Came system log w p now

  mail_here : (at : ℕ) (letter : Letter) (t : ProcState) → emission_at system log letter.from at ≡ Some (Sent letter, t) → what e ≡ Mail at letter → Here (Mail at letter) letter.from
  unfolding Here
  mail_here at letter t is told now there goes_on =
      let f = sent_from system log letter.from at (Sent letter) t is in
      let l = last_sent (at - done f.kernel letter.from) f.was (Sent letter) t f.sends in
      let open_still : has_ended (t.small).status ≡ false = letter_goes_on l.before t letter l.last in
      let itself : same_pid letter.from letter.from ≡ true = eq-eqb (letter.from).0 (letter.from).0 refl in
      let deeds : Sends (Sent letter) ∷ [] ≡ deeds_in letter.from (Mail at letter) = ap (λ b. cond b (Sends (Sent letter) ∷ []) []) (sym itself) in
      went_on f.was (ap (option_and_then (λ k. process_at k letter.from)) f.before ∙ f.there) refl (record {
        made = at - done f.kernel letter.from;
        to = t;
        replays = subst (λ ds. Replays (at - done f.kernel letter.from) f.was ds t) deeds (replays_last (at - done f.kernel letter.from) f.was t (Sent letter) f.sends);
        arrives = same_Some now (received (Sent letter) letter.from t) (sym there ∙ process_after-sender system log e letter.from at (Sent letter) t is (refl, told)) ∙ received-all letter letter.from t open_still;
      })

  mail_there : (at : ℕ) (letter : Letter) (t : ProcState) (p : Pid) → emission_at system log letter.from at ≡ Some (Sent letter, t) → what e ≡ Mail at letter → same_pid letter.from p ≡ false → Here (Mail at letter) p
  unfolding Here
  mail_there at letter t p is told apart now there goes_on =
      by_process (process_after system log p) refl (sym (process_after-receiver system log e letter.from at (Sent letter) t p is (refl, told) (apart_from letter.from p apart)) ∙ there)
    where
      by_status : (was : ProcState) → received (Sent letter) p was ≡ now → (b : Bool) → has_ended (was.small).status ≡ b → b ≡ false
      by_status was same true ended = sym (sym (ap (λ (s : ProcState). has_ended (s.small).status) (sym (received-ended (Sent letter) p was ended) ∙ same)) ∙ ended) ∙ goes_on
      by_status was same false open_still = refl

      by_process : (o : Option ProcState) → process_after system log p ≡ o → option_map (received (Sent letter) p) o ≡ Some now → Came system log (Mail at letter) p now
      by_process None here same = cc
      by_process (Some was) here same =
          let to : received (Sent letter) p was ≡ now = same_Some (received (Sent letter) p was) now same in
          let open_still : has_ended (was.small).status ≡ false = by_status was to (has_ended (was.small).status) refl in
          went_on was here refl (record {
            made = 0;
            to = was;
            replays = (ap (λ b. cond b (Sends (Sent letter) ∷ []) []) apart, refl);
            arrives = sym to ∙ received-all letter p was open_still;
          })

  mail_came : (at : ℕ) (letter : Letter) (t : ProcState) (p : Pid) → emission_at system log letter.from at ≡ Some (Sent letter, t) → what e ≡ Mail at letter → Here (Mail at letter) p
  mail_came at letter t p is told = by_pid (same_pid letter.from p) refl
    where
      by_pid : (b : Bool) → same_pid letter.from p ≡ b → Here (Mail at letter) p
      by_pid true same = subst (Here (Mail at letter)) (same_of letter.from p same) (mail_here at letter t is told)
      by_pid false apart = mail_there at letter t p is told apart

  exit_here : (p : Pid) (at : ℕ) (end : End) (t : ProcState) → emission_at system log p at ≡ Some (Ended end, t) → what e ≡ Exit p at end → Here (Exit p at end) p
  unfolding Here
  exit_here p at end t is told now there goes_on =
      let f = sent_from system log p at (Ended end) t is in
      let deeds : Sends (Ended end) ∷ [] ≡ deeds_in p (Exit p at end) = ap (λ b. cond b (Sends (Ended end) ∷ []) []) (sym (eq-eqb p.0 p.0 refl)) in
      went_on f.was (ap (option_and_then (λ k. process_at k p)) f.before ∙ f.there) refl (record {
        made = at - done f.kernel p;
        to = t;
        replays = subst (λ ds. Replays (at - done f.kernel p) f.was ds t) deeds (replays_last (at - done f.kernel p) f.was t (Ended end) f.sends);
        arrives = same_Some now t (sym there ∙ process_after-sender system log e p at (Ended end) t is told);
      })

  exit_there : (q : Pid) (at : ℕ) (end : End) (t : ProcState) (p : Pid) → emission_at system log q at ≡ Some (Ended end, t) → what e ≡ Exit q at end → same_pid q p ≡ false → Here (Exit q at end) p
  unfolding Here
  exit_there q at end t p is told apart now there goes_on =
      by_process (process_after system log p) refl (sym (process_after-receiver system log e q at (Ended end) t p is told (apart_from q p apart)) ∙ there)
    where
      by_process : (o : Option ProcState) → process_after system log p ≡ o → option_map (received (Ended end) p) o ≡ Some now → Came system log (Exit q at end) p now
      by_process None here same = cc
      by_process (Some was) here same =
          went_on was here refl (record {
            made = 0;
            to = was;
            replays = (ap (λ b. cond b (Sends (Ended end) ∷ []) []) apart, refl);
            arrives = same_Some now was (sym same);
          })

  exit_came : (q : Pid) (at : ℕ) (end : End) (t : ProcState) (p : Pid) → emission_at system log q at ≡ Some (Ended end, t) → what e ≡ Exit q at end → Here (Exit q at end) p
  exit_came q at end t p is told = by_pid (same_pid q p) refl
    where
      by_pid : (b : Bool) → same_pid q p ≡ b → Here (Exit q at end) p
      by_pid true same =
          let pid : q ≡ p = same_of q p same in
          subst (λ r. Here (Exit q at end) r) pid (exit_here q at end t is told)
      by_pid false apart = exit_there q at end t p is told apart

  -- ---- entries of silent steps

  pub record Silently (p : Pid) (now : ProcState) : Type 0 where
    pub was : ProcState
    pub there : process_after system log p ≡ Some was
    pub made : ℕ
    pub silent : silently made was ≡ Some now

  none_made : (s : ProcState) → silently 0 s ≡ Some s
  unfolding silently
  none_made s = refl

  silent_came : (w : What) (p : Pid) (now : ProcState) → deeds_in p w ≡ [] → letter_for p w ≡ [] → is_birth_of p w ≡ false → Silently p now → Came system log w p now
  silent_came w p now deeds letters birth s =
      went_on s.was s.there birth (record {
        made = s.made;
        to = now;
        replays = subst (λ ds. Replays s.made s.was ds now) (sym deeds) (replays_silently s.made s.was now s.silent);
        arrives = sym (ap (all_delivered now) letters);
      })

  -- where the items are the run of q up to a count that silent steps reach
  run_came : (q : Pid) (at : ℕ) (t : ProcState) → silent_upto system log q at ≡ Some t → ((k : Kernel) → items_of k (what e) ≡ run_upto k q at) → (p : Pid) (now : ProcState) → process_after system (log ++ e ∷ []) p ≡ Some now → Silently p now
  run_came q at t is items p now there = by_pid (same_pid q p) refl
    where
      here : (r : Pid) → q ≡ r → process_after system (log ++ e ∷ []) r ≡ Some now → Silently r now
      here r same after =
          let f = silent_from system log q at t is in
          let to : t ≡ now = same_Some t now (sym (process_after-silent system log e q at t is items) ∙ ap (process_after system (log ++ e ∷ [])) same ∙ after) in
          record {
            was = f.was;
            there = ap (process_after system log) (sym same) ∙ ap (option_and_then (λ k. process_at k q)) f.before ∙ f.there;
            made = at - done f.kernel q;
            silent = f.silent ∙ ap Some to;
          }

      by_pid : (b : Bool) → same_pid q p ≡ b → Silently p now
      by_pid true same = here p (same_of q p same) there
      by_pid false apart = record {
        was = now;
        there = sym (process_after-beside system log e q at t p is items (apart_from q p apart)) ∙ there;
        made = 0;
        silent = none_made now;
      }

  -- where they are the runs of several
  led_from : (k : Kernel) (r : Pid × ℕ) (p : Pid) (now : ProcState) → plain_after system log ≡ Some k → r.0 ≡ p → led k r ≡ Some now → Silently p now
  led_from k r p now before same is = by_process (process_at k r.0) refl is
    where
      by_process : (o : Option ProcState) → process_at k r.0 ≡ o → option_and_then (silently (r.1 - done k r.0)) o ≡ Some now → Silently p now
      by_process None there h = cc
      by_process (Some was) there h = record {
        was = was;
        there = ap (option_and_then (λ k. process_at k p)) before ∙ ap (process_at k) (sym same) ∙ there;
        made = r.1 - done k r.0;
        silent = h;
      }

  runs_from : (k : Kernel) (rs : List (Pid × ℕ)) (p : Pid) (now : ProcState) → plain_after system log ≡ Some k → after_runs k rs (process_at k p) p ≡ Some now → Silently p now
  runs_from k [] p now before is = record { was = now; there = ap (option_and_then (λ k. process_at k p)) before ∙ is; made = 0; silent = none_made now }
  runs_from k (r ∷ rs) p now before is = by_test (same_pid r.0 p) refl is (runs_from k rs p now before)
    where
      by_test : (b : Bool) → same_pid r.0 p ≡ b → cond b (led k r) (after_runs k rs (process_at k p) p) ≡ Some now → (after_runs k rs (process_at k p) p ≡ Some now → Silently p now) → Silently p now
      by_test true same h more = led_from k r p now before (same_of r.0 p same) h
      by_test false apart h more = more h

  done_came : (rests : List (Pid × ℕ)) → what e ≡ Done rests → is_some (plain_after system (log ++ e ∷ [])) ≡ true → DoneHolds system log e rests → NoTwo (placed_pids (placement system log).placed)
      → (p : Pid) (now : ProcState) → process_after system (log ++ e ∷ []) p ≡ Some now → Silently p now
  done_came rests is applies holds two p now there =
      let a = applied system log e applies in
      let named : NoTwo (rest_pids rests) = subst NoTwo (sym holds.named) (rising-apart (placed_pids (unended_in (placement system log))) (apart_fewer (λ (q : Placed). not q.ended) (placement system log).placed two)) in
      let runs = runs_made a.old rests named (list_all-weaker (is_silent_rest system log) (λ r. is_some (led a.old r)) (λ r rest. sym (ap is_some (led-silent_upto system log a.old r a.before)) ∙ (and_parts _ (is_some (silent_upto system log r.0 r.1)) rest).1) rests holds.silent) in
      let same : runs.to ≡ a.new = same_Some runs.to a.new (sym runs.made ∙ sym (ap (λ w. apply_all (items_of a.old w) a.old) is) ∙ a.made) in
      runs_from a.old rests p now a.before (sym (runs.are p) ∙ ap (λ k. process_at k p) same ∙ sym (ap (option_and_then (λ k. process_at k p)) a.after) ∙ there)

  -- ---- synchronisations and new backups

  record Reached (q : Pid) (at : ℕ) : Type 0 where
    pub to : ProcState
    pub is : silent_upto system log q at ≡ Some to

  reached : (q : Pid) (at : ℕ) → is_some (silent_upto system log q at) ≡ true → Reached q at
  reached q at there = by_case (silent_upto system log q at) refl there
    where
      by_case : (o : Option ProcState) → silent_upto system log q at ≡ o → is_some o ≡ true → Reached q at
      by_case None is some = absurd (true≢false (sym some))
      by_case (Some t) is some = record { to = t; is = is }

  some_mapped : {A : Type 0} (f : ProcState → A) (o : Option ProcState) (x : A) → option_map f o ≡ Some x → is_some o ≡ true
  some_mapped f None x is = cc
  some_mapped f (Some s) x is = refl

  -- ---- each kind

  still : (w : What) (p : Pid) (now : ProcState) → what e ≡ w → ((k : Kernel) → items_of k w ≡ []) → process_after system (log ++ e ∷ []) p ≡ Some now → Silently p now
  still w p now is none there = record { was = now; there = sym (process_after-quiet system log e (λ k. ap (items_of k) is ∙ none k) p) ∙ there; made = 0; silent = none_made now }

  sync_silently : (q : Pid) (small : SmallState) (read : List ℕ) → what e ≡ Sync q small read None → SyncHolds system log q small read None
      → (p : Pid) (now : ProcState) → process_after system (log ++ e ∷ []) p ≡ Some now → Silently p now
  sync_silently q small read is holds p now there =
      let r = reached q small.steps (some_mapped (λ s. (after_take None s).small) (silent_upto system log q small.steps) small holds.state) in
      run_came q small.steps r.to r.is (λ k. ap (items_of k) is ∙ append-nil (run_upto k q small.steps)) p now there

  fresh_silently : (to : ClusterNo) (r : BackRec) (rs : List BackRec) → what e ≡ Rebackup to true (r ∷ rs) → FreshHolds system log e r.pid to (r ∷ rs) → (p : Pid) (now : ProcState) → process_after system (log ++ e ∷ []) p ≡ Some now → Silently p now
  fresh_silently to r rs is holds p now there =
      let h = reached r.pid (steps_in r.state) (ap (λ w. is_some (after_items system log w)) (sym is) ∙ holds.silent) in
      run_came r.pid (steps_in r.state) h.to h.is (λ k. ap (items_of k) is) p now there

  -- it leaves each process after silent steps, where it takes no signal
  pub went_silently : (w : What) → what e ≡ w → is_silent w ≡ true → takes_signal w ≡ false → is_some (plain_after system (log ++ e ∷ [])) ≡ true → KindHolds system log e w → NoTwo (placed_pids (placement system log).placed)
      → (p : Pid) (now : ProcState) → process_after system (log ++ e ∷ []) p ≡ Some now → Silently p now
  went_silently (Mail at letter) is quiet untaken applies kind two p now there = absurd (true≢false (sym quiet))
  went_silently (Birth parent at child end) is quiet untaken applies kind two p now there = absurd (true≢false (sym quiet))
  went_silently (Exit q at end) is quiet untaken applies kind two p now there = absurd (true≢false (sym quiet))
  went_silently (Sync q small read (Some g)) is quiet untaken applies kind two p now there = absurd (true≢false untaken)
  went_silently (Sync q small read None) is quiet untaken applies kind two p now there = sync_silently q small read is kind p now there
  went_silently (Crash k cause) is quiet untaken applies kind two p now there = still (Crash k cause) p now is (λ k. refl) there
  went_silently (Return k) is quiet untaken applies kind two p now there = still (Return k) p now is (λ k. refl) there
  went_silently (Rebackup to true []) is quiet untaken applies kind two p now there = absurd kind
  went_silently (Rebackup to true (r ∷ rs)) is quiet untaken applies kind two p now there = fresh_silently to r rs is kind p now there
  went_silently (Done rests) is quiet untaken applies kind two p now there = done_came rests is applies kind two p now there
  went_silently w is quiet untaken applies kind two p now there = still w p now is (λ k. refl) there

  -- silent steps lead each process to where such an entry leaves it, or to where it takes a signal
  pub record Settles (p : Pid) (now : ProcState) : Type 0 where
    pub was : ProcState
    pub there : process_after system log p ≡ Some was
    pub made : ℕ
    pub to : ProcState
    pub silent : silently made was ≡ Some to
    pub next : now.next ≡ to.next
    pub ended : has_ended (now.small).status ≡ has_ended (to.small).status

  settles_as : (p : Pid) (now : ProcState) → Silently p now → Settles p now
  settles_as p now s = record { was = s.was; there = s.there; made = s.made; to = now; silent = s.silent; next = refl; ended = refl }

  settles_taken : (q : Pid) → TakeMade system log e q → (p : Pid) (now : ProcState) → process_after system (log ++ e ∷ []) p ≡ Some now → Settles p now
  settles_taken q t p now there = by_pid (same_pid q p) refl
    where
      by_pid : (b : Bool) → same_pid q p ≡ b → Settles p now
      by_pid true is =
          let same : q ≡ p = same_of q p is in
          let to : taken t.before ≡ now = same_Some (taken t.before) now (sym t.after ∙ ap (process_after system (log ++ e ∷ [])) same ∙ there) in
          record {
            was = t.was;
            there = ap (process_after system log) (sym same) ∙ t.there;
            made = t.made;
            to = t.before;
            silent = t.silent;
            next = ap (λ (s : ProcState). s.next) (sym to);
            ended = ap (λ (s : ProcState). has_ended (s.small).status) (sym to) ∙ (taken_strikes t.before t.can).open_still ∙ sym t.open_still;
          }
      by_pid false is = record { was = now; there = sym (t.others p is) ∙ there; made = 0; to = now; silent = none_made now; next = refl; ended = refl }

  pub went_settled : (w : What) → what e ≡ w → is_silent w ≡ true → is_some (plain_after system (log ++ e ∷ [])) ≡ true → KindHolds system log e w → NoTwo (placed_pids (placement system log).placed)
      → (p : Pid) (now : ProcState) → process_after system (log ++ e ∷ []) p ≡ Some now → Settles p now
  went_settled (Sync q small read (Some g)) is quiet applies kind two p now there = settles_taken q (sync_taken system log e q small read g is kind).made p now there
  went_settled (Sync q small read None) is quiet applies kind two p now there = settles_as p now (sync_silently q small read is kind p now there)
  went_settled (Mail at letter) is quiet applies kind two p now there = absurd (true≢false (sym quiet))
  went_settled (Birth parent at child end) is quiet applies kind two p now there = absurd (true≢false (sym quiet))
  went_settled (Exit q at end) is quiet applies kind two p now there = absurd (true≢false (sym quiet))
  went_settled w is quiet applies kind two p now there = settles_as p now (went_silently w is refl refl applies kind two p now there)

  silent_no_deed : (w : What) (p : Pid) → is_silent w ≡ true → is_birth w ≡ false → (deeds_in p w ≡ []) × (letter_for p w ≡ []) × (is_birth_of p w ≡ false)
  silent_no_deed (Mail at letter) p quiet other = absurd (true≢false (sym quiet))
  silent_no_deed (Birth parent at child end) p quiet other = absurd (true≢false other)
  silent_no_deed (Exit q at end) p quiet other = absurd (true≢false (sym quiet))
  silent_no_deed _ p quiet other = (refl, refl, refl)

  came_silently : (w : What) → what e ≡ w → is_silent w ≡ true → is_birth w ≡ false → takes_signal w ≡ false → is_some (plain_after system (log ++ e ∷ [])) ≡ true → KindHolds system log e w → NoTwo (placed_pids (placement system log).placed) → (p : Pid) → Here w p
  unfolding Here
  came_silently w is quiet other untaken applies kind two p now there goes_on =
      let none = silent_no_deed w p quiet other in
      silent_came w p now none.0 none.1 none.2 (went_silently w is quiet untaken applies kind two p now there)

  -- ---- births and takes, where a kernel makes them

  stays : (w : What) (p : Pid) (now : ProcState) → process_after system (log ++ e ∷ []) p ≡ process_after system log p → process_after system (log ++ e ∷ []) p ≡ Some now → deeds_in p w ≡ [] → letter_for p w ≡ [] → is_birth_of p w ≡ false → Came system log w p now
  stays w p now same there deeds letters birth = silent_came w p now deeds letters birth (record { was = now; there = sym same ∙ there; made = 0; silent = none_made now })

  -- then the parent goes on by its fork, which bears the child, and the child is born there, with no letter
  pub birth_came : (parent : Pid) (at : ℕ) (child : Pid) (end : ℕ) → BirthMade system log e parent child → (p : Pid) (now : ProcState) → process_after system (log ++ e ∷ []) p ≡ Some now → Came system log (Birth parent at child end) p now
  birth_came parent at child end b p now there = by_parent (same_pid parent p) refl
    where
      forked : (p : Pid) → parent ≡ p → process_after system (log ++ e ∷ []) p ≡ Some now → Came system log (Birth parent at child end) p now
      forked p same after =
          let deeds : Bears child ∷ [] ≡ deeds_in p (Birth parent at child end) = ap (λ (x : Bool). cond x (Bears child ∷ []) []) (sym (eq-eqb parent.0 p.0 (λ i. (same i).0))) in
          went_on b.was (ap (process_after system log) (sym same) ∙ b.there) (ap (same_pid child) (sym same) ∙ b.apart) (record {
            made = b.made + 1;
            to = fork_parent b.before child;
            replays = subst (λ ds. Replays (b.made + 1) b.was ds (fork_parent b.before child)) deeds (replays_forked b.made b.was b.before child b.forks);
            arrives = same_Some now (fork_parent b.before child) (sym after ∙ ap (process_after system (log ++ e ∷ [])) (sym same) ∙ b.parent_is);
          })

      by_child : same_pid parent p ≡ false → (c : Bool) → same_pid child p ≡ c → Came system log (Birth parent at child end) p now
      by_child other true is =
          let same : child ≡ p = same_of child p is in
          let born : fork_child b.before child ≡ now = same_Some (fork_child b.before child) now (sym b.child_is ∙ ap (process_after system (log ++ e ∷ [])) same ∙ there) in
          was_born is (ap (λ (s : ProcState). s.next) (sym born))
      by_child other false is = stays (Birth parent at child end) p now (b.others p other is) there (ap (λ (x : Bool). cond x (Bears child ∷ []) []) other) refl is

      by_parent : (c : Bool) → same_pid parent p ≡ c → Came system log (Birth parent at child end) p now
      by_parent true is = forked p (same_of parent p is) there
      by_parent false is = by_child is (same_pid child p) refl

  -- then the process is cut there, and no letter arrived
  pub take_came : (q : Pid) (small : SmallState) (read : List ℕ) (g : ℕ) → TakeMade system log e q → (p : Pid) (now : ProcState) → process_after system (log ++ e ∷ []) p ≡ Some now → Came system log (Sync q small read (Some g)) p now
  take_came q small read g t p now there = by_pid (same_pid q p) refl
    where
      cut : (p : Pid) → q ≡ p → process_after system (log ++ e ∷ []) p ≡ Some now → Came system log (Sync q small read (Some g)) p now
      cut p same after =
          let to : taken t.before ≡ now = same_Some (taken t.before) now (sym t.after ∙ ap (process_after system (log ++ e ∷ [])) same ∙ after) in
          was_cut t.was (ap (process_after system log) (sym same) ∙ t.there) (sym (silently_ends t.made t.was t.before t.silent) ∙ t.open_still) (eq-eqb q.0 p.0 (λ i. (same i).0))
          (ap (λ (s : ProcState). s.next) (sym to) ∙ (silently_counts t.made t.was t.before t.silent).next)

      by_pid : (b : Bool) → same_pid q p ≡ b → Came system log (Sync q small read (Some g)) p now
      by_pid true is = cut p (same_of q p is) there
      by_pid false is = stays (Sync q small read (Some g)) p now (t.others p is) there refl refl refl

  -- ---- every kind

  came_by : (w : What) → what e ≡ w → is_some (plain_after system (log ++ e ∷ [])) ≡ true → KindHolds system log e w → NoTwo (placed_pids (placement system log).placed) → (p : Pid) → Here w p
  unfolding Here
  came_by (Mail at letter) is applies kind two p = let sent = is_sent system log letter.from at (Sent letter) kind in mail_came at letter sent.after p sent.is is
  came_by (Birth parent at child end) is applies kind two p = λ now there goes_on. birth_came parent at child end (birth_applied system log e parent at child end is applies kind.end_is) p now there
  came_by (Exit q at end) is applies kind two p = let sent = is_sent system log q at (Ended end) kind.0 in exit_came q at end sent.after p sent.is is
  came_by (Sync q small read (Some g)) is applies kind two p = λ now there goes_on. take_came q small read g (sync_taken system log e q small read g is kind).made p now there
  came_by w is applies kind two p = came_silently w is refl refl refl applies kind two p

-- each process that has not ended after an entry that stands came there so
pub came : (system : System) (log : List Entry) (e : Entry) → Stands system log e → NoTwo (placed_pids (placement system log).placed)
    → (p : Pid) (now : ProcState) → process_after system (log ++ e ∷ []) p ≡ Some now → has_ended (now.small).status ≡ false → Came system log (what e) p now
unfolding Here
came system log e stands two p = came_by system log e (what e) refl stands.applies stands.kind two p
