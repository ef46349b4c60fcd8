-- The limits between two cuts: what a process did since it started, it did within so many steps.
use Rattle.std.proofs.Common.{◌≡◌, ℕ, ◌+◌, ◌-◌, ◌≤◌, refl, sym, ◌∙◌, ap, subst, arith, inl, inr, ◌⊎◌, List, [], ◌∷◌, ◌++◌, append-nil, Bool, true, false, cond, ◌||◌, leb, eq-eqb, eqb-true, Option, Some, None, is_some}
use Rattle.std.specs.Prelude.{option_and_then, option_map}
use Rattle.std.specs.Option.{option_map_or}
use Rattle.std.proofs.lemmas.Bool.{and_parts}
use Rattle.std.proofs.lemmas.Bool.Decides.{nat_tests}
use Rattle.std.proofs.lemmas.Option.{same_Some}
use Rattle.t32_base.specs.declared.process.Pid.{Pid}
use Rattle.t32_base.specs.declared.process.End.{End}
use Rattle.t32_base.specs.declared.letter.Letter.{Letter}
use Rattle.t32_base.specs.declared.letter.Arrived.{Arrived}
use Rattle.t32_base.specs.declared.letter.BackRec.{BackRec}
use Rattle.sys_text.specs.declared.system.System.{System}
use Rattle.sys_text.specs.Valid.{is_system}
use Rattle.proc_state.specs.State.{ProcState, has_ended}
use Rattle.sys_calls.specs.declared.steps.Emission.{Emission}
use Rattle.sys_calls.specs.declared.steps.Emission.TheVariants.{Mail as Sent, Exit as Ended}
use Rattle.sys_calls.proofs.RunLemma.{all_delivered}
use Rattle.plain_kernel.specs.Kernel.{process_at}
use Rattle.bus_msg.specs.declared.entry.What.{What}
use Rattle.bus_msg.specs.declared.entry.What.TheVariants.{Mail, Birth, Exit}
use Rattle.bus_msg.specs.declared.entry.Entry.{Entry}
use Rattle.bus_msg.specs.Places.{same_pid}
use Rattle.bus_msg.specs.PlacedAfter.{what}
use Rattle.cert_sched.specs.Schedule.{done, plain_after, process_after}
use Rattle.sys_calls.specs.Fork.{fork_parent, next_end}
use Rattle.roll_forward.specs.Deeds.{Deed, Sends, Bears}
use Rattle.cert_sched.specs.Deeds.{starts, is_cut, is_birth_of, start_of, since, deeds_in, letter_for, numbered, arrived_count, saved_letters}
use Rattle.roll_forward.specs.Replay.{replayed}
use Rattle.roll_forward.specs.RunsOut.{RunsOut}
use Rattle.cert_sched.specs.Rolling.{refilled}
use Rattle.cert_sched.specs.Record.{backup_record}
use Rattle.cert_sched.specs.Steps.{before_fork_at, after_items, steps_since, reads_since, start_steps, saved_of}
use Rattle.cert_sched.specs.Rules.{is_within_limits, keeps_limits}
use Rattle.cert_sched.specs.Kinds.{KindHolds}
use Rattle.cert_sched.specs.Legal.{Stands, IsLegalBy, IsLegal, MayFollow, MayStand, KeepsLimits}
use Rattle.cert_sched.specs.Simulation.{RecordLeads}
use Rattle.cert_sched.proofs.LogLaws.{IsLegal-snoc}
use Rattle.cert_sched.proofs.RecordLaws.{start_of-snoc, since-snoc, saved_letters-start}
use Rattle.cert_sched.proofs.Induction.{legal_induction}
use Rattle.cert_sched.proofs.StepLaws.{is_sent, sent_from}
use Rattle.cert_sched.proofs.MailLaws.{received, process_after-sender, boot_arrived}
use Rattle.cert_sched.proofs.EndedLaws.{letter_told}
use Rattle.cert_sched.proofs.ReplayLaws.{Replays, Sharp, replays_on, replays_none, replays_all_delivered, replays_goes_on, replays_counts, replays_computes, sharp_replays, sharp_on, sharp_last, sharp_forked, sharp_all_delivered, all_delivered-is, first_is}
use Rattle.cert_sched.proofs.ReadLaws.{read_count, reads_more, reads_none}
use Rattle.cert_sched.proofs.BornLaws.{birth_from}
use Rattle.cert_sched.proofs.CameLaws.{IsStandingRule, Goes, Came, went_on, was_cut, was_born, came, received-all}
use Rattle.cert_sched.proofs.RollLaws.{Rolls, rolls_next, all_roll, two_apart, refilled_more, goes_not_ended}
use Rattle.cert_sched.proofs.RunsOutLaws.{replays_fine, sharp_runs_out, runs_out_once, record_of, start_ends}

-- ---- the limit of an entry

-- The process did the deed of an entry by the last of some steps, which leave it within the limits, and then the letters of the entry arrived.
record WithinLimits (system : System) (log : List Entry) (w : What) (p : Pid) (now : ProcState) : Type 0 where
  pub was : ProcState
  pub there : process_after system log p ≡ Some was
  pub made : ℕ
  pub to : ProcState
  pub deed : Deed
  pub deeds_are : deeds_in p w ≡ deed ∷ []
  pub sharp : Sharp made was (deed ∷ []) to
  pub arrives : now ≡ all_delivered to (letter_for p w)
  pub keeps : keeps_limits system log p to ≡ true

module _ (system : System) (log : List Entry) (e : Entry) where
  -- an entry tells of no deed of the process, or leaves it within the limits
  abbrev Limit : What → Pid → Type 0
  Limit w p = (now : ProcState) → process_after system (log ++ e ∷ []) p ≡ Some now → (deeds_in p w ≡ []) ⊎ WithinLimits system log w p now

  keeps_of : (w : What) (q : Pid) (t : ProcState) → after_items system log w ≡ Some t → is_within_limits system log w q ≡ true → keeps_limits system log q t ≡ true
  keeps_of w q t after limits = ap (λ o. option_map_or (keeps_limits system log q) o false) (sym after) ∙ limits

  mail_limit : (at : ℕ) (letter : Letter) → what e ≡ Mail at letter → KindHolds system log e (Mail at letter) → is_within_limits system log (Mail at letter) letter.from ≡ true → (p : Pid) → Limit (Mail at letter) p
  mail_limit at letter is kind limits p = by_pid (same_pid letter.from p) refl
    where
      sent : Limit (Mail at letter) letter.from
      sent now there =
          let s = is_sent system log letter.from at (Sent letter) kind in
          let f = sent_from system log letter.from at (Sent letter) s.after s.is in
          inr (record {
            was = f.was;
            there = ap (option_and_then (λ k. process_at k letter.from)) f.before ∙ f.there;
            made = at - done f.kernel letter.from;
            to = s.after;
            deed = Sends (Sent letter);
            deeds_are = ap (λ (b : Bool). cond b (Sends (Sent letter) ∷ []) []) (eq-eqb (letter.from).0 (letter.from).0 refl);
            sharp = sharp_last (at - done f.kernel letter.from) f.was s.after (Sent letter) f.sends;
            arrives = same_Some now (received (Sent letter) letter.from s.after) (sym there ∙ process_after-sender system log e letter.from at (Sent letter) s.after s.is (refl, is))
                ∙ received-all letter letter.from s.after (letter_told system log letter.from at letter s.after s.is);
            keeps = keeps_of (Mail at letter) letter.from s.after (ap (option_map (λ (r : Emission × ProcState). r.1)) s.is) limits;
          })

      by_pid : (b : Bool) → same_pid letter.from p ≡ b → Limit (Mail at letter) p
      by_pid true same = subst (Limit (Mail at letter)) (λ i. record { 0 = eqb-true (letter.from).0 p.0 same i }) sent
      by_pid false apart = λ now there. inl (ap (λ b. cond b (Sends (Sent letter) ∷ []) []) apart)

  exit_limit : (q : Pid) (at : ℕ) (end : End) → what e ≡ Exit q at end → KindHolds system log e (Exit q at end) → is_within_limits system log (Exit q at end) q ≡ true → (p : Pid) → Limit (Exit q at end) p
  exit_limit q at end is kind limits p = by_pid (same_pid q p) refl
    where
      sent : Limit (Exit q at end) q
      sent now there =
          let s = is_sent system log q at (Ended end) kind.0 in
          let f = sent_from system log q at (Ended end) s.after s.is in
          inr (record {
            was = f.was;
            there = ap (option_and_then (λ k. process_at k q)) f.before ∙ f.there;
            made = at - done f.kernel q;
            to = s.after;
            deed = Sends (Ended end);
            deeds_are = ap (λ (b : Bool). cond b (Sends (Ended end) ∷ []) []) (eq-eqb q.0 q.0 refl);
            sharp = sharp_last (at - done f.kernel q) f.was s.after (Ended end) f.sends;
            arrives = same_Some now s.after (sym there ∙ process_after-sender system log e q at (Ended end) s.after s.is is);
            keeps = keeps_of (Exit q at end) q s.after (ap (option_map (λ (r : Emission × ProcState). r.1)) s.is) limits;
          })

      by_pid : (b : Bool) → same_pid q p ≡ b → Limit (Exit q at end) p
      by_pid true same =
          let pid : q ≡ p = λ i. record { 0 = eqb-true q.0 p.0 same i } in
          subst (Limit (Exit q at end)) pid sent
      by_pid false apart = λ now there. inl (ap (λ b. cond b (Sends (Ended end) ∷ []) []) apart)

  birth_limit : (parent : Pid) (at : ℕ) (child : Pid) (end : ℕ) → what e ≡ Birth parent at child end → is_some (plain_after system (log ++ e ∷ [])) ≡ true → KindHolds system log e (Birth parent at child end)
      → is_within_limits system log (Birth parent at child end) parent ≡ true → (p : Pid) → Limit (Birth parent at child end) p
  birth_limit parent at child end is applies kind limits p = by_pid (same_pid parent p) refl
    where
      forked : (q : ProcState) → before_fork_at system log parent at ≡ Some q → Limit (Birth parent at child end) parent
      forked q before now there =
          let from = birth_from system log e parent at child end is applies q before in
          let b = from.0 in
          inr (record {
            was = b.was;
            there = b.there;
            made = b.made + 1;
            to = fork_parent b.before child;
            deed = Bears child;
            deeds_are = ap (λ (b : Bool). cond b (Bears child ∷ []) []) (eq-eqb parent.0 parent.0 refl);
            sharp = sharp_forked b.made b.was b.before child b.forks;
            arrives = same_Some now (fork_parent b.before child) (sym there ∙ b.parent_is);
            keeps = keeps_of (Birth parent at child end) parent (fork_parent b.before child) (ap (option_map (λ s. fork_parent s child)) (before ∙ ap Some (sym from.1))) limits;
          })

      by_fork : (o : Option ProcState) → before_fork_at system log parent at ≡ o → option_map next_end o ≡ Some end → Limit (Birth parent at child end) parent
      by_fork None before ends = cc
      by_fork (Some q) before ends = forked q before

      by_pid : (b : Bool) → same_pid parent p ≡ b → Limit (Birth parent at child end) p
      by_pid true same =
          let pid : parent ≡ p = λ i. record { 0 = eqb-true parent.0 p.0 same i } in
          subst (Limit (Birth parent at child end)) pid (by_fork (before_fork_at system log parent at) refl kind.end_is)
      by_pid false apart = λ now there. inl (ap (λ b. cond b (Bears child ∷ []) []) apart)

  limit_by : (w : What) → what e ≡ w → is_some (plain_after system (log ++ e ∷ [])) ≡ true → KindHolds system log e w → KeepsLimits system log w → (p : Pid) → Limit w p
  limit_by (Mail at letter) is applies kind limits p = mail_limit at letter is kind limits p
  limit_by (Birth parent at child end) is applies kind limits p = birth_limit parent at child end is applies kind limits p
  limit_by (Exit q at end) is applies kind limits p = exit_limit q at end is kind limits p
  limit_by _ is applies kind limits p = λ now there. inl refl

-- ---- the invariant

-- Its last deed since it started is so many steps after the start, which are within the limit, as are the letters that it has read by then; what
-- it made after that is silent.
pub record Limited (system : System) (log : List Entry) (p : Pid) (now : ProcState) : Type 0 where
  pub start : ProcState
  pub started : start_of system log p ≡ Some start
  pub first : ℕ
  pub rest : ℕ
  pub there : ProcState
  pub sharp : Sharp first (refilled log p start) (since log p) there
  pub silent : Replays rest there [] now
  pub within : first ≤ system.syncsteps
  pub reads : read_count (saved_letters log p start) there.mail ≤ system.syncreads

-- the steps and the reads of a state that keeps the limits
pub record Bounds (system : System) (log : List Entry) (p : Pid) (start s : ProcState) : Type 0 where
  pub steps : (s.small).steps ≤ (start.small).steps + system.syncsteps
  pub reads : read_count (saved_letters log p start) s.mail ≤ system.syncreads

pub bounds_of : (system : System) (log : List Entry) (p : Pid) (start s : ProcState) → start_of system log p ≡ Some start → keeps_limits system log p s ≡ true → Bounds system log p start s
bounds_of system log p start s started keeps =
    let both = and_parts (leb (steps_since system log p s) system.syncsteps) (leb (reads_since system log p s) system.syncreads) keeps in
    let at : start_steps system log p ≡ (start.small).steps = ap (λ o. option_map_or (λ (s : ProcState). (s.small).steps) o 0) started in
    let saved : saved_of system log p ≡ saved_letters log p start = ap (λ o. option_map_or (saved_letters log p) o []) started in
    let steps : (s.small).steps ≤ start_steps system log p + system.syncsteps = step_bound (s.small).steps (start_steps system log p) system.syncsteps both.0 in
    let reads : reads_since system log p s ≤ system.syncreads = read_bound (reads_since system log p s) system.syncreads both.1 in
    record { steps = omega (arith, steps, at); reads = subst (λ ls. read_count ls s.mail ≤ system.syncreads) saved reads }
  where
    step_bound : (n m k : ℕ) → leb (n - m) k ≡ true → n ≤ m + k
    step_bound n m k h = grind (arith, nat_tests)

    read_bound : (n k : ℕ) → leb n k ≡ true → n ≤ k
    read_bound n k h = grind (arith, nat_tests)

module _ (system : System) (log : List Entry) (e : Entry) (p : Pid) where
  -- it has done nothing since it started, and has read nothing
  anew : (now : ProcState) → starts p e ≡ true → process_after system (log ++ e ∷ []) p ≡ Some now → arrived_count (log ++ e ∷ []) p ≡ now.next → Limited system (log ++ e ∷ []) p now
  anew now starting there count =
      let mail = saved_letters-start log e p now starting in
      let none = reads_none now.mail in
      record {
        start = now;
        started = start_of-snoc system log e p ∙ ap (λ b. cond b (process_after system (log ++ e ∷ []) p) (start_of system log p)) starting ∙ there;
        first = 0;
        rest = 0;
        there = now;
        sharp = (since-snoc log e p ∙ ap (λ b. cond b [] (since log p ++ deeds_in p (what e))) starting, λ i. record now { mail = sym mail i; next = sym count i });
        silent = replays_none now;
        within = omega arith;
        reads = subst (λ ls. read_count ls now.mail ≤ system.syncreads) (sym mail) (omega (arith, none));
      }

  -- an entry that starts it not anew leaves where it started
  pub started_same : (start : ProcState) → starts p e ≡ false → start_of system log p ≡ Some start → start_of system (log ++ e ∷ []) p ≡ Some start
  started_same start quiet started = start_of-snoc system log e p ∙ ap (λ b. cond b (process_after system (log ++ e ∷ []) p) (start_of system log p)) quiet ∙ started

  -- the letters of the entry are read by none
  pub reads_on : (start s : ProcState) → all_delivered (refilled log p start) (letter_for p (what e)) ≡ refilled (log ++ e ∷ []) p start → s.next ≡ arrived_count log p → read_count (saved_letters log p start) s.mail ≤ system.syncreads
      → read_count (saved_letters (log ++ e ∷ []) p start) (all_delivered s (letter_for p (what e))).mail ≤ system.syncreads
  reads_on start s more next within =
      let letters = letter_for p (what e) in
      let new : List Arrived = numbered (arrived_count log p) letters in
      let saved : saved_letters log p start ++ new ≡ saved_letters (log ++ e ∷ []) p start = ap (λ (q : ProcState). q.mail) (sym (all_delivered-is (refilled log p start) letters) ∙ more) in
      let mail : s.mail ++ new ≡ (all_delivered s letters).mail = ap (λ n. s.mail ++ numbered n letters) (sym next) ∙ ap (λ (q : ProcState). q.mail) (sym (all_delivered-is s letters)) in
      let less = reads_more (saved_letters log p start) s.mail new in
      let both : read_count (saved_letters log p start ++ new) (s.mail ++ new) ≤ system.syncreads = omega (arith, less, within) in
      subst (λ ls. read_count (saved_letters (log ++ e ∷ []) p start) ls ≤ system.syncreads) mail (subst (λ ls. read_count ls (s.mail ++ new) ≤ system.syncreads) saved both)

  -- the entry tells of none of its deeds
  no_deed_more : (was now : ProcState) → starts p e ≡ false → is_birth_of p (what e) ≡ false → Goes p (what e) was now → deeds_in p (what e) ≡ [] → Rolls system log p was → Limited system log p was → Limited system (log ++ e ∷ []) p now
  no_deed_more was now quiet birth g none r l =
      let letters = letter_for p (what e) in
      let same : r.start ≡ l.start = same_Some r.start l.start (sym r.started ∙ l.started) in
      let deeds : since log p ≡ since (log ++ e ∷ []) p = sym (append-nil (since log p)) ∙ ap (λ ds. since log p ++ ds) (sym none) ∙ sym (since-snoc log e p ∙ ap (λ b. cond b [] (since log p ++ deeds_in p (what e))) quiet) in
      let more : all_delivered (refilled log p l.start) letters ≡ refilled (log ++ e ∷ []) p l.start = subst (λ s. all_delivered (refilled log p s) letters ≡ refilled (log ++ e ∷ []) p s) same (refilled_more system log e p r.start quiet birth r.arrived) in
      let on : Replays (l.rest + g.made) l.there [] g.to = replays_on l.rest g.made l.there was g.to [] [] l.silent (subst (λ ds. Replays g.made was ds g.to) none g.replays) in
      record {
        start = l.start;
        started = started_same l.start quiet l.started;
        first = l.first;
        rest = l.rest + g.made;
        there = all_delivered l.there letters;
        sharp =
            subst (λ s. Sharp l.first s (since (log ++ e ∷ []) p) (all_delivered l.there letters)) more
            (subst (λ ds. Sharp l.first (all_delivered (refilled log p l.start) letters) ds (all_delivered l.there letters)) deeds
            (sharp_all_delivered l.first (refilled log p l.start) l.there (since log p) letters l.sharp));
        silent = subst (Replays (l.rest + g.made) (all_delivered l.there letters) []) (sym g.arrives) (replays_all_delivered (l.rest + g.made) l.there g.to [] letters on);
        within = l.within;
        reads = reads_on l.start l.there more (replays_counts l.first (refilled log p l.start) l.there (since log p) (sharp_replays l.first (refilled log p l.start) l.there (since log p) l.sharp)).next l.reads;
      }

  -- the entry tells of one
  deed_more : (now : ProcState) → starts p e ≡ false → is_birth_of p (what e) ≡ false → (w : WithinLimits system log (what e) p now) → Rolls system log p w.was → Limited system (log ++ e ∷ []) p now
  deed_more now quiet birth w r =
      let letters = letter_for p (what e) in
      let bounds = bounds_of system log p r.start w.to r.started w.keeps in
      let deeds : since log p ++ w.deed ∷ [] ≡ since (log ++ e ∷ []) p = ap (λ ds. since log p ++ ds) (sym w.deeds_are) ∙ sym (since-snoc log e p ∙ ap (λ b. cond b [] (since log p ++ deeds_in p (what e))) quiet) in
      let more : all_delivered (refilled log p r.start) letters ≡ refilled (log ++ e ∷ []) p r.start = refilled_more system log e p r.start quiet birth r.arrived in
      let made : Sharp (r.made + w.made) (refilled log p r.start) (since log p ++ w.deed ∷ []) w.to = sharp_on r.made w.made (refilled log p r.start) w.was w.to (since log p) w.deed [] r.replays w.sharp in
      let counts = replays_counts (r.made + w.made) (refilled log p r.start) w.to (since log p ++ w.deed ∷ []) (sharp_replays (r.made + w.made) (refilled log p r.start) w.to (since log p ++ w.deed ∷ []) made) in
      let steps = counts.steps in
      let within = bounds.steps in
      record {
        start = r.start;
        started = started_same r.start quiet r.started;
        first = r.made + w.made;
        rest = 0;
        there = now;
        sharp =
            subst (λ s. Sharp (r.made + w.made) s (since (log ++ e ∷ []) p) now) more
            (subst (λ ds. Sharp (r.made + w.made) (all_delivered (refilled log p r.start) letters) ds now) deeds
            (subst (Sharp (r.made + w.made) (all_delivered (refilled log p r.start) letters) (since log p ++ w.deed ∷ [])) (sym w.arrives)
            (sharp_all_delivered (r.made + w.made) (refilled log p r.start) w.to (since log p ++ w.deed ∷ []) letters made)));
        silent = replays_none now;
        within = omega (arith, steps, within);
        reads = subst (λ (s : ProcState). read_count (saved_letters (log ++ e ∷ []) p r.start) s.mail ≤ system.syncreads) (sym w.arrives) (reads_on r.start w.to more counts.next bounds.reads);
      }

  or_else : (b : Bool) → (b || true) ≡ true
  or_else true = refl
  or_else false = refl

  limited_more : (now : ProcState) → process_after system (log ++ e ∷ []) p ≡ Some now → has_ended (now.small).status ≡ false → Came system log (what e) p now → (deeds_in p (what e) ≡ []) ⊎ WithinLimits system log (what e) p now
      → Rolls system (log ++ e ∷ []) p now → ((was : ProcState) → process_after system log p ≡ Some was → has_ended (was.small).status ≡ false → Rolls system log p was)
      → ((was : ProcState) → process_after system log p ≡ Some was → has_ended (was.small).status ≡ false → Limited system log p was) → Limited system (log ++ e ∷ []) p now
  limited_more now there goes_on (went_on was here birth g) limit rolls rolled before = by_cut (is_cut p (what e)) refl
    where
      open_still : has_ended (was.small).status ≡ false
      open_still = goes_not_ended system log e p (what e) was now g goes_on

      by_limit : starts p e ≡ false → (deeds_in p (what e) ≡ []) ⊎ WithinLimits system log (what e) p now → Limited system (log ++ e ∷ []) p now
      by_limit quiet (inl none) = no_deed_more was now quiet birth g none (rolled was here open_still) (before was here open_still)
      by_limit quiet (inr w) =
          let same : was ≡ w.was = same_Some was w.was (sym here ∙ w.there) in
          deed_more now quiet birth w (subst (Rolls system log p) same (rolled was here open_still))

      by_cut : (b : Bool) → is_cut p (what e) ≡ b → Limited system (log ++ e ∷ []) p now
      by_cut true cut = anew now (ap (λ b. b || is_birth_of p (what e)) cut) there (sym (rolls_next system (log ++ e ∷ []) p now rolls))
      by_cut false no_cut = by_limit (ap (λ b. b || is_birth_of p (what e)) no_cut ∙ birth) limit
  limited_more now there goes_on (was_cut was here open_still cut same) limit rolls rolled before = anew now (ap (λ b. b || is_birth_of p (what e)) cut) there (sym (rolls_next system (log ++ e ∷ []) p now rolls))
  limited_more now there goes_on (was_born birth none) limit rolls rolled before = anew now (ap (λ b. is_cut p (what e) || b) birth ∙ or_else (is_cut p (what e))) there (sym (rolls_next system (log ++ e ∷ []) p now rolls))

-- ---- the whole

-- in a log each process that has not ended is within the limits of its last cut
abbrev pub AllLimited : System → List Entry → Type 0
AllLimited system log = (p : Pid) (now : ProcState) → process_after system log p ≡ Some now → has_ended (now.small).status ≡ false → Limited system log p now

-- by this rule an entry stands, and keeps the limits between two cuts
abbrev pub IsLimitingRule : (System → List Entry → Entry → Type 0) → Type 0
IsLimitingRule May = (system : System) (log : List Entry) (e : Entry) → May system log e → Stands system log e × KeepsLimits system log (what e)

at_boot : (system : System) → AllLimited system []
unfolding plain_after
at_boot system p now there goes_on =
    let arrived : now.next ≡ 0 = boot_arrived system p now there in
    let none = reads_none now.mail in
    record {
      start = now;
      started = there;
      first = 0;
      rest = 0;
      there = now;
      sharp = (refl, λ i. record now { mail = sym (append-nil now.mail) i; next = arrived i });
      silent = replays_none now;
      within = omega arith;
      reads = subst (λ ls. read_count ls now.mail ≤ system.syncreads) (sym (append-nil now.mail)) (omega (arith, none));
    }

module _ (May : System → List Entry → Entry → Type 0) (limiting : IsLimitingRule May) where
  record Both (system : System) (log : List Entry) : Type 0 where
    pub legal : IsLegalBy May system log
    pub limited : AllLimited system log

  none_both : (system : System) → Both system []
  unfolding IsLegalBy
  none_both system = record { legal = tt; limited = at_boot system }

  both_more : (system : System) → is_system system ≡ true → (log : List Entry) (e : Entry) → Both system log → May system log e → Both system (log ++ e ∷ [])
  both_more system valid log e both may = record {
    legal = legal;
    limited = λ p now there goes_on.
        let before = all_roll May standing system log valid both.legal in
        let after = all_roll May standing system (log ++ e ∷ []) valid legal in
        limited_more system log e p now there goes_on (came system log e keeps.0 (two_apart system log before) p now there goes_on)
        (limit_by system log e (what e) refl (keeps.0).applies (keeps.0).kind keeps.1 p now there) (after.rolls p now there goes_on) (before.rolls p) (both.limited p);
  }
    where
      standing : IsStandingRule May
      standing system log e may = (limiting system log e may).0

      keeps : Stands system log e × KeepsLimits system log (what e)
      keeps = limiting system log e may

      legal : IsLegalBy May system (log ++ e ∷ [])
      legal = IsLegal-snoc May system log e both.legal may

-- By a rule that keeps the limits each process that has not ended is within those of its last cut.
pub all_limited_by : (May : System → List Entry → Entry → Type 0) → IsLimitingRule May → (system : System) (log : List Entry) → is_system system ≡ true → IsLegalBy May system log → AllLimited system log
all_limited_by May limiting system log valid legal =
    (legal_induction May system (Both May limiting system) (none_both May limiting system) (both_more May limiting system valid) log legal).limited

-- by the rules of a legal log each entry keeps the limits
pub legal_limits : IsLimitingRule MayFollow
legal_limits system log e may = (may.stands, may.limits)

-- and by those of what is built
pub stand_limits : IsLimitingRule MayStand
stand_limits system log e may = (may.stands, may.limits)

-- and in a log of what is built
pub stand_limited : (system : System) (log : List Entry) → is_system system ≡ true → IsLegalBy MayStand system log → AllLimited system log
stand_limited = all_limited_by MayStand stand_limits

-- ---- its record

-- The record of a process leads to its last deed: the counts and births of the record run out within the steps between two cuts, and on the way
-- the process reads no more letters than between two cuts.
pub record Ahead (system : System) (r : BackRec) (leads_there : ProcState) (ahead : ℕ) : Type 0 where
  pub within : ahead ≤ system.syncsteps
  pub reads : read_count r.saved leads_there.mail ≤ system.syncreads

-- where a process is within the limits of its last cut, its record leads so
pub ahead_of : (system : System) (log : List Entry) (p : Pid) (now : ProcState) (r : BackRec) → Limited system log p now → has_ended (now.small).status ≡ false → (leads : RecordLeads system log p r now) → backup_record system log p ≡ Some r
    → Ahead system r leads.there leads.ahead
ahead_of system log p now r l goes_on leads is =
    let same : l.start ≡ leads.start = same_Some l.start leads.start (sym l.started ∙ leads.started) in
    let record_is = record_of system log p l.start r l.started is in
    let s = refilled log p l.start in
    let replays = sharp_replays l.first s l.there (since log p) l.sharp in
    let fine = replays_fine l.first s l.there (since log p) (replays_goes_on l.rest l.there now [] l.silent goes_on) (start_ends system log p l.start l.started) replays in
    let out : RunsOut s r.counts r.births l.first = subst (λ (b : BackRec). RunsOut s b.counts b.births l.first) record_is (sharp_runs_out l.first s l.there (since log p) fine l.sharp) in
    let here : RunsOut (refilled log p leads.start) r.counts r.births l.first = subst (λ x. RunsOut (refilled log p x) r.counts r.births l.first) same out in
    let one : leads.ahead ≡ l.first = runs_out_once leads.ahead l.first (refilled log p leads.start) r.counts r.births leads.runs_out here in
    let made : ◌≡◌ {A = Option (ProcState × List Deed)} (Some (leads.there, since log p)) (Some (l.there, since log p)) =
    sym leads.made ∙ ap (λ n. replayed n (refilled log p leads.start) r.births) one ∙ ap (λ x. replayed l.first (refilled log p x) r.births) (sym same)
    ∙ ap (λ (b : BackRec). replayed l.first s b.births) (sym record_is) ∙ replays_computes l.first s l.there (since log p) replays in
    let to : leads.there ≡ l.there = (first_is (leads.there, since log p) l.there (since log p) made).0 in
    let within = l.within in
    record {
      within = omega (arith, one, within);
      reads =
          subst (λ ls. read_count ls (leads.there).mail ≤ system.syncreads) leads.saved
          (subst (λ (x : ProcState). read_count (saved_letters log p leads.start) x.mail ≤ system.syncreads) (sym to) (subst (λ x. read_count (saved_letters log p x) (l.there).mail ≤ system.syncreads) same l.reads));
    }

-- so it is by a rule that keeps the limits
pub record_ahead_by : (May : System → List Entry → Entry → Type 0) → IsLimitingRule May → (system : System) (log : List Entry) (p : Pid) (now : ProcState) (r : BackRec) → is_system system ≡ true → IsLegalBy May system log
    → process_after system log p ≡ Some now → has_ended (now.small).status ≡ false → (leads : RecordLeads system log p r now) → backup_record system log p ≡ Some r → Ahead system r leads.there leads.ahead
record_ahead_by May limiting system log p now r valid legal there goes_on = ahead_of system log p now r (all_limited_by May limiting system log valid legal p now there goes_on) goes_on

-- in a legal log
pub record_ahead : (system : System) (log : List Entry) (p : Pid) (now : ProcState) (r : BackRec) → is_system system ≡ true → IsLegal system log → process_after system log p ≡ Some now → has_ended (now.small).status ≡ false
    → (leads : RecordLeads system log p r now) → backup_record system log p ≡ Some r → Ahead system r leads.there leads.ahead
record_ahead = record_ahead_by MayFollow legal_limits

-- and in a log of what is built
pub stand_record_ahead : (system : System) (log : List Entry) (p : Pid) (now : ProcState) (r : BackRec) → is_system system ≡ true → IsLegalBy MayStand system log → process_after system log p ≡ Some now
    → has_ended (now.small).status ≡ false → (leads : RecordLeads system log p r now) → backup_record system log p ≡ Some r → Ahead system r leads.there leads.ahead
stand_record_ahead = record_ahead_by MayStand stand_limits
