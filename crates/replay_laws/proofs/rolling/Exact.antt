-- In a log that is not over the last step of a process in the kernel is its last deed since it started, or it is at its start: no silent step lies behind.
use Rattle.std.proofs.Common.{◌≡◌, ℕ, zero, suc, ◌+◌, ◌-◌, refl, sym, ◌∙◌, ap, subst, arith, List, [], ◌∷◌, ◌++◌, append-nil, Bool, true, false, cond, ◌||◌, eq-eqb, Option, Some, None, is_some, true≢false}
use Rattle.std.specs.Prelude.{option_and_then, option_map}
use Rattle.std.proofs.lemmas.Option.{same_Some}
use Rattle.t32_base.specs.declared.process.Pid.{Pid}
use Rattle.t32_base.specs.declared.process.End.{End}
use Rattle.t32_base.specs.declared.letter.Letter.{Letter}
use Rattle.sys_text.specs.declared.system.System.{System}
use Rattle.sys_text.specs.Valid.{is_system}
use Rattle.proc_state.specs.State.{ProcState, has_ended}
use Rattle.sys_calls.specs.declared.steps.Emission.TheVariants.{Mail as Sent, Exit as Ended}
use Rattle.sys_calls.specs.Fork.{fork_parent}
use Rattle.sys_calls.proofs.Counting.{last_sent, exit_ends}
use Rattle.sys_calls.proofs.RunLemma.{all_delivered}
use Rattle.plain_kernel.specs.Kernel.{Kernel, process_at}
use Rattle.bus_msg.specs.declared.entry.What.{What}
use Rattle.bus_msg.specs.declared.entry.What.TheVariants.{Mail, Birth, Exit, Sync, Crash, Return, Rebackup, Done, Stop}
use Rattle.bus_msg.specs.declared.entry.Entry.{Entry}
use Rattle.bus_msg.specs.Places.{same_pid}
use Rattle.bus_msg.specs.PlacedAfter.{what}
use Rattle.roll_forward.specs.Deeds.{Deed, Sends, Bears}
use Rattle.cert_sched.specs.Schedule.{done, items_of, run_upto, steps_in, plain_after, process_after, placement}
use Rattle.cert_sched.specs.Deeds.{starts, is_cut, is_birth_of, start_of, since, deeds_in, letter_for}
use Rattle.cert_sched.specs.Steps.{silent_upto, after_items}
use Rattle.cert_sched.specs.Kinds.{KindHolds, after_take}
use Rattle.cert_sched.specs.Rules.{is_over, ends_run}
use Rattle.cert_sched.specs.Rolling.{refilled}
use Rattle.cert_sched.specs.Legal.{IsLegalBy, Stands}
use Rattle.cert_sched.specs.Simulation.{IsUnended}
use Rattle.cert_sched.proofs.LogLaws.{process_after-quiet}
use Rattle.cert_sched.proofs.RecordLaws.{start_of-snoc, since-snoc}
use Rattle.cert_sched.proofs.Induction.{legal_induction, is_over-snoc}
use Rattle.cert_sched.proofs.StepLaws.{is_sent, sent_from, process_after-beside}
use Rattle.cert_sched.proofs.MailLaws.{sender_goes_on, received, received-ended, process_after-sender, process_after-receiver, boot_arrived}
use Rattle.cert_sched.proofs.EndedLaws.{letter_told}
use Rattle.cert_sched.proofs.ReplayLaws.{Replays, Sharp, replays_forked, replays_goes_on, sharp_replays, sharp_on, sharp_last, sharp_forked, sharp_all_delivered}
use Rattle.cert_sched.proofs.MadeLaws.{BirthMade, apart_from}
use Rattle.cert_sched.proofs.CameLaws.{IsStandingRule, received-all, same_of}
use Rattle.cert_sched.proofs.OpenLaws.{unended_open}
use Rattle.cert_sched.proofs.RollLaws.{Rolls, AllRoll, all_at_boot, all_more, rolls_steps, refilled_more}
use Rattle.replay_laws.proofs.rolling.Bearing.{stands_made}
use Rattle.replay_laws.proofs.rolling.Entries.{CountsLetters, rolls_count, quiet_of, same_start}
use Rattle.cert_sched.proofs.BirthLaws.{sync_taken}

-- ---- what an entry makes of a process

-- The process did the deeds of the entry by some steps, of which the last does the last deed, and then the letters of the entry arrived.
record Did (system : System) (log : List Entry) (w : What) (p : Pid) (now : ProcState) : Type 0 where
  pub was : ProcState
  pub there : process_after system log p ≡ Some was
  pub open_still : has_ended (was.small).status ≡ false
  pub made : ℕ
  pub to : ProcState
  pub sharp : Sharp made was (deeds_in p w) to
  pub arrives : now ≡ all_delivered to (letter_for p w)

module _ (system : System) (log : List Entry) (e : Entry) where
  abbrev Here : What → Pid → Type 0
  Here w p = (now : ProcState) → process_after system (log ++ e ∷ []) p ≡ Some now → has_ended (now.small).status ≡ false → Did system log w p now

  mail_did : (at : ℕ) (letter : Letter) → what e ≡ Mail at letter → KindHolds system log e (Mail at letter) → (p : Pid) → Here (Mail at letter) p
  mail_did at letter is kind p = by_pid (same_pid letter.from p) refl
    where
      sent : Here (Mail at letter) letter.from
      sent now there goes_on =
          let s = is_sent system log letter.from at (Sent letter) kind in
          let f = sent_from system log letter.from at (Sent letter) s.after s.is in
          record {
            was = f.was;
            there = ap (option_and_then (λ k. process_at k letter.from)) f.before ∙ f.there;
            open_still = sender_goes_on (at - done f.kernel letter.from) f.was (Sent letter) s.after f.sends;
            made = at - done f.kernel letter.from;
            to = s.after;
            sharp = subst (λ ds. Sharp (at - done f.kernel letter.from) f.was ds s.after) (sym (ap (λ (b : Bool). cond b (Sends (Sent letter) ∷ []) []) (eq-eqb (letter.from).0 (letter.from).0 refl)))
                (sharp_last (at - done f.kernel letter.from) f.was s.after (Sent letter) f.sends);
            arrives = same_Some now (received (Sent letter) letter.from s.after) (sym there ∙ process_after-sender system log e letter.from at (Sent letter) s.after s.is (refl, is))
                ∙ received-all letter letter.from s.after (letter_told system log letter.from at letter s.after s.is);
          }

      other : same_pid letter.from p ≡ false → Here (Mail at letter) p
      other apart now there goes_on =
          let s = is_sent system log letter.from at (Sent letter) kind in
          by_process (process_after system log p) refl (sym (process_after-receiver system log e letter.from at (Sent letter) s.after p s.is (refl, is) (apart_from letter.from p apart)) ∙ there)
        where
          by_status : (was : ProcState) → received (Sent letter) p was ≡ now → (b : Bool) → has_ended (was.small).status ≡ b → b ≡ false
          by_status was same true ended = sym (sym (ap (λ (s : ProcState). has_ended (s.small).status) (sym (received-ended (Sent letter) p was ended) ∙ same)) ∙ ended) ∙ goes_on
          by_status was same false open_still = refl

          by_process : (o : Option ProcState) → process_after system log p ≡ o → option_map (received (Sent letter) p) o ≡ Some now → Did system log (Mail at letter) p now
          by_process None here same = cc
          by_process (Some was) here same =
              let to : received (Sent letter) p was ≡ now = same_Some (received (Sent letter) p was) now same in
              let open_still : has_ended (was.small).status ≡ false = by_status was to (has_ended (was.small).status) refl in
              record {
                was = was;
                there = here;
                open_still = open_still;
                made = 0;
                to = was;
                sharp = (ap (λ b. cond b (Sends (Sent letter) ∷ []) []) apart, refl);
                arrives = sym to ∙ received-all letter p was open_still;
              }

      by_pid : (b : Bool) → same_pid letter.from p ≡ b → Here (Mail at letter) p
      by_pid true same = subst (Here (Mail at letter)) (same_of letter.from p same) sent
      by_pid false apart = other apart

  exit_did : (q : Pid) (at : ℕ) (end : End) → what e ≡ Exit q at end → KindHolds system log e (Exit q at end) → (p : Pid) → Here (Exit q at end) p
  exit_did q at end is kind p = by_pid (same_pid q p) refl
    where
      sent : Here (Exit q at end) q
      sent now there goes_on =
          let s = is_sent system log q at (Ended end) kind.0 in
          let f = sent_from system log q at (Ended end) s.after s.is in
          let l = last_sent (at - done f.kernel q) f.was (Ended end) s.after f.sends in
          let same : s.after ≡ now = same_Some s.after now (sym (process_after-sender system log e q at (Ended end) s.after s.is is) ∙ there) in
          absurd (true≢false (sym (exit_ends l.before s.after end l.last) ∙ ap (λ (x : ProcState). has_ended (x.small).status) same ∙ goes_on))

      other : same_pid q p ≡ false → Here (Exit q at end) p
      other apart now there goes_on =
          let s = is_sent system log q at (Ended end) kind.0 in
          by_process (process_after system log p) refl (sym (process_after-receiver system log e q at (Ended end) s.after p s.is is (apart_from q p apart)) ∙ there)
        where
          by_process : (o : Option ProcState) → process_after system log p ≡ o → option_map (received (Ended end) p) o ≡ Some now → Did system log (Exit q at end) p now
          by_process None here same = cc
          by_process (Some was) here same =
              let to : was ≡ now = same_Some was now same in
              record {
                was = was;
                there = here;
                open_still = ap (λ (x : ProcState). has_ended (x.small).status) to ∙ goes_on;
                made = 0;
                to = was;
                sharp = (ap (λ b. cond b (Sends (Ended end) ∷ []) []) apart, refl);
                arrives = sym to;
              }

      by_pid : (b : Bool) → same_pid q p ≡ b → Here (Exit q at end) p
      by_pid true same =
          let pid : q ≡ p = same_of q p same in
          subst (Here (Exit q at end)) pid sent
      by_pid false apart = other apart

  -- an entry that leaves the process where it was, and is of a kind that brings no letter and tells of no deed
  left_did : (w : What) (p : Pid) → process_after system (log ++ e ∷ []) p ≡ process_after system log p → deeds_in p w ≡ [] → letter_for p w ≡ [] → Here w p
  left_did w p same no_deed no_letter now there goes_on = record {
    was = now;
    there = sym same ∙ there;
    open_still = goes_on;
    made = 0;
    to = now;
    sharp = (no_deed, refl);
    arrives = sym (ap (all_delivered now) no_letter);
  }

  -- one without an item
  quiet_did : (w : What) (p : Pid) → what e ≡ w → ((k : Kernel) → items_of k w ≡ []) → deeds_in p w ≡ [] → letter_for p w ≡ [] → Here w p
  quiet_did w p is none = left_did w p (process_after-quiet system log e (λ k. ap (items_of k) is ∙ none k) p)

  -- one whose items are the silent steps of another
  beside_did : (w : What) (q : Pid) (at : ℕ) (p : Pid) → what e ≡ w → ((k : Kernel) → items_of k w ≡ run_upto k q at) → is_some (silent_upto system log q at) ≡ true → same_pid q p ≡ false → deeds_in p w ≡ [] → letter_for p w ≡ [] → Here w p
  beside_did w q at p is items there apart = by_silent (silent_upto system log q at) refl there
    where
      by_silent : (o : Option ProcState) → silent_upto system log q at ≡ o → is_some o ≡ true → deeds_in p w ≡ [] → letter_for p w ≡ [] → Here w p
      by_silent None silent some = absurd (true≢false (sym some))
      by_silent (Some t) silent some = left_did w p (process_after-beside system log e q at t p silent (λ k. ap (items_of k) is ∙ items k) (apart_from q p apart))

  -- a birth: the parent made its fork by the last step, and every other that was there stays as it was
  birth_did : (parent : Pid) (at : ℕ) (child : Pid) (end : ℕ) → BirthMade system log e parent child → (p : Pid) → same_pid child p ≡ false → Here (Birth parent at child end) p
  birth_did parent at child end b p apart = by_pid (same_pid parent p) refl
    where
      forks : Here (Birth parent at child end) parent
      forks now there goes_on =
          let to : now ≡ fork_parent b.before child = same_Some now (fork_parent b.before child) (sym there ∙ b.parent_is) in
          let open_still : has_ended ((fork_parent b.before child).small).status ≡ false = ap (λ (s : ProcState). has_ended (s.small).status) (sym to) ∙ goes_on in
          record {
            was = b.was;
            there = b.there;
            open_still = replays_goes_on (b.made + 1) b.was (fork_parent b.before child) (Bears child ∷ []) (replays_forked b.made b.was b.before child b.forks) open_still;
            made = b.made + 1;
            to = fork_parent b.before child;
            sharp = subst (λ ds. Sharp (b.made + 1) b.was ds (fork_parent b.before child)) (sym (ap (λ (x : Bool). cond x (Bears child ∷ []) []) (eq-eqb parent.0 parent.0 refl))) (sharp_forked b.made b.was b.before child b.forks);
            arrives = to;
          }

      by_pid : (x : Bool) → same_pid parent p ≡ x → Here (Birth parent at child end) p
      by_pid true same = subst (Here (Birth parent at child end)) (same_of parent p same) forks
      by_pid false other = left_did (Birth parent at child end) p (b.others p other apart) (ap (λ (x : Bool). cond x (Bears child ∷ []) []) other) refl

  mapped_some : {A : Type 0} (f : ProcState → A) (o : Option ProcState) (x : A) → option_map f o ≡ Some x → is_some o ≡ true
  mapped_some f None x is = cc
  mapped_some f (Some s) x is = refl

  -- an entry that neither cuts nor bears the process
  did : (w : What) → what e ≡ w → Stands system log e → KindHolds system log e w → ends_run (placement system log) w ≡ false → (p : Pid) → is_cut p w ≡ false → is_birth_of p w ≡ false → Here w p
  did (Mail at letter) is stands kind goes_on p no_cut unborn = mail_did at letter is kind p
  did (Birth parent at child end) is stands kind goes_on p no_cut unborn = birth_did parent at child end (stands_made system log e parent at child end stands is) p unborn
  did (Exit q at end) is stands kind goes_on p no_cut unborn = exit_did q at end is kind p
  did (Sync q small read None) is stands kind goes_on p no_cut unborn =
      beside_did (Sync q small read None) q small.steps p is (λ k. append-nil (run_upto k q small.steps)) (mapped_some (λ s. (after_take None s).small) (silent_upto system log q small.steps) small kind.state) no_cut refl refl
  did (Sync q small read (Some g)) is stands kind goes_on p no_cut unborn = left_did (Sync q small read (Some g)) p ((sync_taken system log e q small read g is kind).made.others p no_cut) refl refl
  did (Crash k cause) is stands kind goes_on p no_cut unborn = quiet_did (Crash k cause) p is (λ n. refl) refl refl
  did (Return k) is stands kind goes_on p no_cut unborn = quiet_did (Return k) p is (λ n. refl) refl refl
  did (Rebackup to true []) is stands kind goes_on p no_cut unborn = absurd kind
  did (Rebackup to true (r ∷ rs)) is stands kind goes_on p no_cut unborn =
      beside_did (Rebackup to true (r ∷ rs)) r.pid (steps_in r.state) p is (λ k. refl) (ap (λ w. is_some (after_items system log w)) (sym is) ∙ kind.silent) no_cut refl refl
  did (Done rests) is stands kind goes_on p no_cut unborn = absurd (true≢false goes_on)
  did Stop is stands kind goes_on p no_cut unborn = absurd (true≢false goes_on)
  did w is stands kind goes_on p no_cut unborn = quiet_did w p is (λ k. refl) refl refl

-- ---- the invariant

-- From its start, with the saved letters, so many steps do what it did since, the last of them the last deed, and lead to where it is.
pub record IsExact (system : System) (log : List Entry) (p : Pid) (now : ProcState) : Type 0 where
  pub start : ProcState
  pub started : start_of system log p ≡ Some start
  pub made : ℕ
  pub sharp : Sharp made (refilled log p start) (since log p) now

-- steps up to a last deed, and then some up to another
record Joined (s : ProcState) (ds : List Deed) (t : ProcState) : Type 0 where
  pub made : ℕ
  pub sharp : Sharp made s ds t

joined : (n m : ℕ) (s t u : ProcState) (ds es : List Deed) → Sharp n s ds t → Sharp m t es u → Joined s (ds ++ es) u
joined n zero s t u ds es first rest =
    let none : ds ≡ ds ++ es = sym (append-nil ds) ∙ ap (λ xs. ds ++ xs) (sym rest.0) in
    record { made = n; sharp = subst (λ xs. Sharp n s xs u) none (subst (λ x. Sharp n s ds x) (sym rest.1) first) }
joined n (suc m) s t u ds [] first rest = absurd rest.0
joined n (suc m) s t u ds (d ∷ es) first rest = record { made = n + suc m; sharp = sharp_on n (suc m) s t u ds d es (sharp_replays n s t ds first) rest }

exact_more : (system : System) (log : List Entry) (e : Entry) (p : Pid) (now : ProcState) → is_cut p (what e) ≡ false → is_birth_of p (what e) ≡ false → CountsLetters system log p → (d : Did system log (what e) p now) → IsExact system log p d.was
    → IsExact system (log ++ e ∷ []) p now
exact_more system log e p now no_cut unborn letters d x =
    let quiet = quiet_of system log e p no_cut unborn in
    let came = letter_for p (what e) in
    let both = joined x.made d.made (refilled log p x.start) d.was d.to (since log p) (deeds_in p (what e)) x.sharp d.sharp in
    let deeds : since log p ++ deeds_in p (what e) ≡ since (log ++ e ∷ []) p = sym (since-snoc log e p ∙ ap (λ b. cond b [] (since log p ++ deeds_in p (what e))) quiet) in
    let more : all_delivered (refilled log p x.start) came ≡ refilled (log ++ e ∷ []) p x.start = refilled_more system log e p x.start quiet unborn (letters x.start x.started) in
    record {
      start = x.start;
      started = same_start system log e p quiet ∙ x.started;
      made = both.made;
      sharp =
          subst (λ s. Sharp both.made s (since (log ++ e ∷ []) p) now) more
          (subst (λ ds. Sharp both.made (all_delivered (refilled log p x.start) came) ds now) deeds
          (subst (Sharp both.made (all_delivered (refilled log p x.start) came) (since log p ++ deeds_in p (what e))) (sym d.arrives)
          (sharp_all_delivered both.made (refilled log p x.start) d.to (since log p ++ deeds_in p (what e)) came both.sharp)));
    }

-- Where an entry starts it, it is at its start, and has done nothing since.
exact_started : (system : System) (log : List Entry) (e : Entry) (p : Pid) (now : ProcState) → process_after system (log ++ e ∷ []) p ≡ Some now → starts p e ≡ true → Rolls system (log ++ e ∷ []) p now → IsExact system (log ++ e ∷ []) p now
exact_started system log e p now there starting r = by_made r.made none r.replays
  where
    same : now ≡ r.start
    same = same_Some now r.start (sym there ∙ sym (start_of-snoc system log e p ∙ ap (λ b. cond b (process_after system (log ++ e ∷ []) p) (start_of system log p)) starting) ∙ r.started)

    none : r.made ≡ 0
    none =
        let steps = rolls_steps system (log ++ e ∷ []) p now r in
        let same_steps : (now.small).steps ≡ ((r.start).small).steps = ap (λ (s : ProcState). (s.small).steps) same in
        omega (arith, steps, same_steps)

    by_made : (n : ℕ) → n ≡ 0 → Replays n (refilled (log ++ e ∷ []) p r.start) (since (log ++ e ∷ []) p) now → IsExact system (log ++ e ∷ []) p now
    by_made zero is replays = record { start = r.start; started = r.started; made = 0; sharp = replays }
    by_made (suc n) is replays = absurd (omega (arith, is))

-- ---- the whole

AllExact : System → List Entry → Type 0
AllExact system log = is_over system log ≡ false → (p : Pid) (now : ProcState) → process_after system log p ≡ Some now → has_ended (now.small).status ≡ false → IsExact system log p now

record Both (system : System) (log : List Entry) : Type 0 where
  pub all : AllRoll system log
  pub exact : AllExact system log

exact_at_boot : (system : System) → AllExact system []
unfolding plain_after AllExact
exact_at_boot system goes_on p now there open_still =
    let arrived : now.next ≡ 0 = boot_arrived system p now there in
    record { start = now; started = there; made = 0; sharp = (refl, λ i. record now { mail = sym (append-nil now.mail) i; next = arrived i }) }

both_more : (system : System) (log : List Entry) (e : Entry) → Both system log → Stands system log e → Both system (log ++ e ∷ [])
unfolding AllExact
both_more system log e both stands = record { all = all; exact = λ goes_on p now there open_still. by_kind p now there open_still goes_on (is_cut p (what e)) (is_birth_of p (what e)) refl refl }
  where
    all : AllRoll system (log ++ e ∷ [])
    all = all_more system log e both.all stands

    by_kind : (p : Pid) (now : ProcState) → process_after system (log ++ e ∷ []) p ≡ Some now → has_ended (now.small).status ≡ false → is_over system (log ++ e ∷ []) ≡ false → (cut born : Bool) → is_cut p (what e) ≡ cut → is_birth_of p (what e) ≡ born
        → IsExact system (log ++ e ∷ []) p now
    by_kind p now there open_still goes_on true born cut birth = exact_started system log e p now there (ap (λ b. b || is_birth_of p (what e)) cut) (all.rolls p now there open_still)
    by_kind p now there open_still goes_on false true no_cut birth = exact_started system log e p now there (ap (λ b. b || is_birth_of p (what e)) no_cut ∙ birth) (all.rolls p now there open_still)
    by_kind p now there open_still goes_on false false no_cut unborn =
        let d = did system log e (what e) refl stands stands.kind (sym (is_over-snoc system log e) ∙ goes_on) p no_cut unborn now there open_still in
        exact_more system log e p now no_cut unborn (rolls_count system log p d.was (both.all.rolls p d.was d.there d.open_still)) d (both.exact (stands.placed).2 p d.was d.there d.open_still)

-- In a legal log that is not over, each process that has not ended is just where its last deed led it, or at its start.
pub exact_open : (May : System → List Entry → Entry → Type 0) → IsStandingRule May → (system : System) (log : List Entry) (p : Pid) (now : ProcState) → is_system system ≡ true → IsLegalBy May system log → is_over system log ≡ false
    → process_after system log p ≡ Some now → has_ended (now.small).status ≡ false → IsExact system log p now
unfolding AllExact
exact_open May standing system log p now valid legal goes_on there open_still =
    (legal_induction May system (Both system) (record { all = all_at_boot system valid; exact = exact_at_boot system }) (λ log e both may. both_more system log e both (standing system log e may)) log legal).exact goes_on p now there open_still

pub exact_unended : (May : System → List Entry → Entry → Type 0) → IsStandingRule May → (system : System) (log : List Entry) (p : Pid) (now : ProcState) → is_system system ≡ true → IsLegalBy May system log → is_over system log ≡ false
    → IsUnended system log p → process_after system log p ≡ Some now → IsExact system log p now
exact_unended May standing system log p now valid legal goes_on unended there =
    exact_open May standing system log p now valid legal goes_on there (unended_open May standing system log p valid legal unended now there)
