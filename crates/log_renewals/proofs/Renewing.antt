-- When the new backup of a process that has run may stand next.
use Rattle.std.proofs.Common.{◌≡◌, ℕ, suc, refl, sym, ◌∙◌, ap, subst, arith, List, [], ◌∷◌, ◌++◌, length, Bool, true, false, not, ◌&&◌, eqb, eqb-true, eq-eqb, Option, Some, None, is_some, true≢false}
use Rattle.std.specs.Prelude.{option_map}
use Rattle.std.specs.Option.{option_map_or}
use Rattle.std.proofs.lemmas.Bool.{and_parts}
use Rattle.std.proofs.lemmas.Option.{same_Some}
use Rattle.t32_base.specs.declared.process.Pid.{Pid}
use Rattle.t32_base.specs.declared.process.ClusterNo.{ClusterNo}
use Rattle.t32_base.specs.declared.letter.BackRec.{BackRec}
use Rattle.sys_text.specs.declared.system.System.{System}
use Rattle.sys_text.specs.Valid.{is_system}
use Rattle.proc_state.specs.State.{ProcState}
use Rattle.bus_msg.specs.declared.entry.What.{What}
use Rattle.bus_msg.specs.declared.entry.What.TheVariants.{Rebackup}
use Rattle.bus_msg.specs.declared.entry.By.TheVariants.{Cluster}
use Rattle.bus_msg.specs.declared.entry.Entry.{Entry}
use Rattle.bus_msg.specs.Places.{Places, same_pid}
use Rattle.bus_msg.specs.NewBackup.{next_backup_at}
use Rattle.bus_msg.specs.PlacedAfter.{what}
use Rattle.bus_msg.specs.Text.{first_steps}
use Rattle.backup_mode.specs.Posts.{fresh_post, renewed_record}
use Rattle.backup_laws.specs.Posts.{MayRenew}
use Rattle.backup_laws.proofs.FreshStands.{fresh_stands}
use Rattle.cert_sched.specs.Account.{account_after, all_pages}
use Rattle.cert_sched.specs.Appended.{entry_of}
use Rattle.cert_sched.specs.Deeds.{arrived_count, is_cut}
use Rattle.cert_sched.specs.Kinds.{FreshHolds, KindHolds}
use Rattle.cert_sched.specs.Legal.{IsLegalBy, Stands, KeepsLimits, MayStand}
use Rattle.cert_sched.specs.Record.{backup_record, record_with}
use Rattle.cert_sched.specs.Rules.{awaits_pages, has_its_pages, holds_of, is_by_home, is_by_right, is_over, is_within_limits, keeps_limits}
use Rattle.cert_sched.specs.Schedule.{items_of, placement, process_after, run_upto, steps_in}
use Rattle.cert_sched.specs.Simulation.{IsUnended}
use Rattle.cert_sched.specs.Steps.{after_items, process_of, silent_upto}
use Rattle.cert_sched.proofs.FamilyLaws.{one_record}
use Rattle.cert_sched.proofs.RecordLaws.{backup_record-cut}
use Rattle.cert_sched.proofs.StepLaws.{process_after-silent}
use Rattle.entry_lines.specs.declared.told.ToldWhat.TheVariants.{Fresh as ToldFresh}
use Rattle.entry_lines.specs.declared.told.Told.{Told}
use Rattle.entry_lines.specs.Told.{pids_of, told_of, told_what}
use Rattle.page_server.specs.Account.{PagerState, account}
use Rattle.log_audit.specs.Front.{FrontState, IsFrontOf}
use Rattle.log_audit.proofs.Losing.{next_passes, next_placed}
use Rattle.log_laws.proofs.records.Standing.{all_stand}
use Rattle.checkpoint_laws.specs.posts.Sending.{MaySend}
use Rattle.log_processes.specs.declared.sender.Head.{Head}
use Rattle.log_processes.specs.declared.sender.Limits.{Limits}
use Rattle.log_processes.specs.declared.sender.Sender.{Sender}
use Rattle.log_processes.specs.Sending.{home_may, is_within}
use Rattle.log_processes.proofs.Sent.{home_there, may_send}
use Rattle.log_cuts.specs.Ahead.{upto}
use Rattle.log_cuts.specs.Memory.{is_memory}
use Rattle.log_cuts.proofs.Cutting.{by_home_unended, is_at_home}
use Rattle.log_cuts.proofs.Led.{IsLed, is_led}
use Rattle.log_cuts.proofs.Reaching.{silent_then}
use Rattle.log_renewals.specs.Fresh.{AnswersFresh, KeepsFresh, LeadsToRenewal, fresh_entry, renewal_may}
use Rattle.log_renewals.specs.Standing.{backup_told}
use Rattle.log_renewals.proofs.Handing.{named_is, named_there}

-- no element
pub none_in : {X : Type 0} (xs : List X) → eqb (length xs) 0 ≡ true → xs ≡ []
none_in [] is = refl
none_in (x ∷ xs) is =
    let none : suc (length xs) ≡ 0 = eqb-true (suc (length xs)) 0 is in
    absurd (omega (arith, none))

not_true : (b : Bool) → not b ≡ true → b ≡ false
not_true true is = absurd (true≢false (sym is))
not_true false is = refl

module _ (front : FrontState) (limits : Limits) (head : Head) (others : List ℕ) (told : ℕ) (kept : Sender) (pager : PagerState) (s : ProcState) where
  abbrev at : ℕ
  at = head.at

  abbrev p : Pid
  p = head.pid

  abbrev now : List (ℕ × List ℕ)
  now = (account pager head.pid).now

  abbrev Answers : Option Entry → Type 0
  Answers result = AnswersFresh front limits head others told kept pager s result

  -- ---- it may stand next

  record MayRenewHere (t : ProcState) : Type 0 where
    pub synced : kept.parent ≡ false
    pub count : (t.small).steps ≡ at
    pub within : is_within limits kept t ≡ true

  renewal_parts : (t : ProcState) → renewal_may limits at kept t ≡ true → MayRenewHere t
  renewal_parts t may =
      let both = and_parts (not kept.parent && eqb (t.small).steps at) (is_within limits kept t) may in
      let first = and_parts (not kept.parent) (eqb (t.small).steps at) both.0 in
      record { synced = not_true kept.parent first.0; count = eqb-true (t.small).steps at first.1; within = both.1 }

  module _ (home to : ClusterNo) (t : ProcState) (alone : others ≡ []) (found : home_may front head kept ≡ Some home)
      (owed : backup_told front.places p told ≡ Some to) (led : upto at s ≡ Some t)
      (may : renewal_may limits at kept t ≡ true) (whole : is_memory now t.memory ≡ true) where
    abbrev w : What
    w = Rebackup to true (renewed_record p t ∷ [])

    abbrev e : Entry
    e = fresh_entry front head home to t

    here : MayRenewHere t
    here = renewal_parts t may

    cluster_is : (next_backup_at front.places p ≡ Some to) × (to.0 ≡ told)
    cluster_is = named_is told (next_backup_at front.places p) to owed

    pub renewal_follows : Answers (Some e)
    renewal_follows system log valid legal keeps =
        let m = may_send front head kept home found in
        let before = (keeps.sender).before in
        let placed = next_placed front head.place m.next system log w before in
        let goes_on : is_over system log ≡ false = placed.2 in
        let by_home : is_by_home (placement system log) (Cluster home) (Some p) ≡ true = ap (λ (q : Places). is_by_home q (Cluster home) (Some p))
        (sym before.places) ∙ (m.home_is).right in
        let unended : IsUnended system log p = is_at_home (placement system log) home p by_home in
        let l : IsLed limits p kept pager system log at s t =
        is_led front limits p s kept pager system log valid legal keeps.sender keeps.accounts goes_on unended at t led in
        let reached : silent_upto system log p (t.small).steps ≡ Some t = ap (silent_upto system log p) here.count ∙ l.reached in
        let sends : MaySend system log (Cluster home) p t = record { goes_on = goes_on; by_home = by_home; reached = reached } in
        let renews : MayRenew system log p t to = record {
          backup = ap (λ (q : Places). next_backup_at q p) (sym before.places) ∙ cluster_is.0;
          children = sym (keeps.sender).parent ∙ here.synced;
          account = l.account_is whole;
        } in
        let same : entry_of system log
        (fresh_post home to p t) ≡ e = λ j. record { place = sym placed.0 j; post = record { by = Cluster home; what = w }; dests = sym placed.1 j } in
        let within : is_within_limits system log w p ≡ true = ap (λ (o : Option ProcState). option_map_or (keeps_limits system log p) o false) reached
        ∙ l.limited ∙ here.within in (
          λ j. record { place = head.place; by = sym (m.home_is).told j; what = ToldFresh (p.0 ∷ sym alone j) (here.count j) (cluster_is.1 j) },
          record {
            stands = subst (Stands system log) same (fresh_stands system log home to p t valid (all_stand system log legal) sends renews);
            limits = within;
            new_page = refl;
            pages = sym (keeps.sender).whole ∙ m.whole;
          },
        )

    -- and the process stands so after it
    pub renewal_leads : LeadsToRenewal front limits p kept pager s e t
    renewal_leads system log keeps =
        let reached : silent_upto system log p (t.small).steps ≡ Some t = ap (silent_upto system log p) here.count
        ∙ silent_then system log p s ((keeps.sender).process).there at ∙ led in
        process_after-silent system log e p (t.small).steps t reached (λ k. refl)

  -- ---- where it stands next the tests pass

  record FreshSaid (w : What) : Type 0 where
    pub to : ClusterNo
    pub first : BackRec
    pub rest : List BackRec
    pub is : w ≡ Rebackup to true (first ∷ rest)
    pub own : first.pid ≡ p
    pub more : pids_of rest ≡ others
    pub count : first_steps (first ∷ rest) ≡ at
    pub number : to.0 ≡ told

  fresh_said : (w : What) → told_what w ≡ ToldFresh (p.0 ∷ others) at told → FreshSaid w
  fresh_said (Rebackup to true []) line = cc
  fresh_said (Rebackup to true (first ∷ rest)) line =
      let q : (first.pid).0 ≡ p.0 = cc in
      let more : pids_of rest ≡ others = cc in
      let n : first_steps (first ∷ rest) ≡ at = cc in
      let k : to.0 ≡ told = cc in
      record { to = to; first = first; rest = rest; is = refl; own = λ j. record { 0 = q j }; more = more; count = n; number = k }
  fresh_said (Rebackup to false more) line = cc
  fresh_said _ line = cc

  record Passes : Type 0 where
    pub alone : others ≡ []
    pub home : is_some (home_may front head kept) ≡ true
    pub owed : is_some (backup_told front.places p told) ≡ true
    pub to : ProcState
    pub led : upto at s ≡ Some to
    pub may : renewal_may limits at kept to ≡ true
    pub whole : is_memory now to.memory ≡ true

  record Made (o : Option ProcState) : Type 0 where
    pub to : ProcState
    pub is : o ≡ Some to

  made : (o : Option ProcState) → is_some o ≡ true → Made o
  made None is = absurd (true≢false (sym is))
  made (Some t) is = record { to = t; is = refl }

  module _ (system : System) (log : List Entry) (e : Entry) (valid : is_system system ≡ true) (legal : IsLegalBy MayStand system log)
      (keeps : KeepsFresh front limits p s kept pager system log)
      (line : told_of e ≡ record { place = head.place; by = head.by; what = ToldFresh (p.0 ∷ others) at told }) (may : MayStand system log e) where
    said : FreshSaid (what e)
    said = fresh_said (what e) (ap (λ (t : Told). t.what) line)

    before : IsFrontOf system log front
    before = (keeps.sender).before

    by_own : {A : Type 0} (f : Pid → A) → f (said.first).pid ≡ f p
    by_own f = ap f said.own

    holds : FreshHolds system log e p said.to (said.first ∷ said.rest)
    holds = subst (λ (q : Pid). FreshHolds system log e q said.to (said.first ∷ said.rest)) said.own (subst (KindHolds system log e) said.is (may.stands).kind)

    none_more : said.rest ≡ []
    none_more = one_record said.first said.rest (backup_record system (log ++ e ∷ []) p) holds.records

    -- where its steps lead it
    steps_of : after_items system log (what e) ≡ silent_upto system log p at
    steps_of = ap (after_items system log) said.is ∙ (λ j. silent_upto system log (said.own j) (said.count j))

    there : Made (silent_upto system log p at)
    there = made (silent_upto system log p at) (ap is_some (sym steps_of) ∙ holds.silent)

    abbrev t : ProcState
    t = there.to

    led_here : upto at s ≡ Some t
    led_here = sym (silent_then system log p s ((keeps.sender).process).there at) ∙ there.is

    -- its record has it as it is there
    stood_after : process_after system (log ++ e ∷ []) p ≡ Some t
    stood_after = process_after-silent system log e p at t there.is (λ k. ap (λ (w : What). items_of k w) said.is
        ∙ (λ j. run_upto k (said.own j) (said.count j)))

    cut_by : is_cut p (what e) ≡ true
    cut_by = ap (is_cut p) said.is ∙ ap (λ (q : Pid). same_pid q p) said.own ∙ eq-eqb p.0 p.0 refl

    first_is : said.first ≡ record_with p true t.mail (arrived_count (log ++ e ∷ []) p) [] t
    first_is =
        let own : Some said.first ≡ backup_record system (log ++ e ∷ []) p = (let all = holds.records in cc) in
        same_Some said.first (record_with p true t.mail (arrived_count (log ++ e ∷ []) p) [] t)
        (own ∙ backup_record-cut system log e p cut_by
        ∙ ap (option_map (λ (s : ProcState). record_with p true s.mail (arrived_count (log ++ e ∷ []) p) [] s)) stood_after)

    count : (t.small).steps ≡ at
    count = sym (ap (λ (r : BackRec). steps_in r.state) first_is) ∙ said.count

    by_home : is_by_home (placement system log) (e.post).by (Some p) ≡ true
    by_home = sym (ap (is_by_right (placement system log) (e.post).by) said.is
        ∙ ap (λ (q : Pid). is_by_home (placement system log) (e.post).by (Some q)) said.own) ∙ (may.stands).by_right

    whole_is : kept.whole ≡ true
    whole_is = (keeps.sender).whole ∙ sym (ap (has_its_pages system log) said.own)
        ∙ subst (λ (w : What). holds_of (awaits_pages w) (process_of w) (has_its_pages system log) ≡ true) said.is may.pages

    l : IsLed limits p kept pager system log at s t
    l = is_led front limits p s kept pager system log valid legal keeps.sender keeps.accounts ((may.stands).placed).2
        (by_home_unended (placement system log) (e.post).by p by_home) at t led_here

    limited : is_within limits kept t ≡ true
    limited =
        sym l.limited ∙ sym (ap (λ (o : Option ProcState). option_map_or (keeps_limits system log p) o false) (steps_of ∙ there.is))
        ∙ sym (ap (λ (q : Pid). is_within_limits system log (what e) q) said.own) ∙ ap (λ (w : What). is_within_limits system log w (said.first).pid) said.is
        ∙ subst (KeepsLimits system log) said.is may.limits

    passes : Passes
    passes = record {
      alone = sym said.more ∙ ap pids_of none_more;
      home = home_there front head kept (e.post).by (next_passes system log front e head.place before (ap (λ (t : Told). t.place) line) may.stands) whole_is
          (ap (λ (t : Told). t.by) line)
          (ap (λ (q : Places). is_by_home q (e.post).by (Some p)) before.places ∙ by_home);
      owed = ap is_some (named_there told (next_backup_at front.places p) said.to (ap (λ (q : Places). next_backup_at q p) before.places
          ∙ holds.backup) said.number);
      to = t;
      led = led_here;
      may = λ j. (not (((keeps.sender).parent ∙ holds.children) j) && eq-eqb (t.small).steps at count j) && limited j;
      whole = l.is_account (same_Some (account_after system log p).now (all_pages t.memory) (holds.account
          ∙ ap (option_map (λ (s : ProcState). all_pages s.memory)) (steps_of ∙ there.is)));
    }

  refuse : (Passes → ⊥) → Answers None
  refuse never system log e valid legal keeps line may = never (passes system log e valid legal keeps line may)

  pub renewal_shared : (others ≡ [] → ⊥) → Answers None
  renewal_shared more = refuse (λ r. more r.alone)

  pub renewal_unsent : home_may front head kept ≡ None → Answers None
  renewal_unsent none = refuse (λ r. true≢false (sym r.home ∙ ap is_some none))

  pub renewal_unowed : backup_told front.places p told ≡ None → Answers None
  renewal_unowed none = refuse (λ r. true≢false (sym r.owed ∙ ap is_some none))

  pub renewal_unled : ((u : ProcState) → upto at s ≡ Some u → renewal_may limits at kept u ≡ false) → Answers None
  renewal_unled never = refuse (λ r. true≢false (sym r.may ∙ never r.to r.led))

  pub renewal_unwritten : (t : ProcState) → upto at s ≡ Some t → is_memory now t.memory ≡ false → Answers None
  renewal_unwritten t led other = refuse (λ r. true≢false (sym r.whole
      ∙ ap (λ (t : ProcState). is_memory now t.memory) (sym (same_Some t r.to (sym led ∙ r.led))) ∙ other))
