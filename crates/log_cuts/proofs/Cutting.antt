-- When a synchronisation may stand next.
use Rattle.std.proofs.Common.{◌≡◌, ℕ, ◌+◌, refl, sym, ◌∙◌, ap, subst, List, ◌++◌, length, Bool, true, false, not, ◌&&◌, ◌||◌, eqb, eqb-true, eq-eqb, Option, Some, None, is_some, true≢false}
use Rattle.std.specs.Prelude.{nat_le, option_map}
use Rattle.std.specs.Option.{IfSome, option_map_or}
use Rattle.std.proofs.lemmas.Bool.{and_parts}
use Rattle.std.proofs.lemmas.Option.{same_Some}
use Rattle.t32_base.specs.declared.process.Pid.{Pid}
use Rattle.t32_base.specs.declared.process.ClusterNo.{ClusterNo}
use Rattle.t32_base.specs.Small.{SmallState}
use Rattle.sys_text.specs.declared.system.System.{System}
use Rattle.sys_text.specs.Valid.{is_system}
use Rattle.proc_state.specs.State.{ProcState, can_take}
use Rattle.bus_msg.specs.declared.entry.What.{What}
use Rattle.bus_msg.specs.declared.entry.What.TheVariants.{Sync, Rebackup}
use Rattle.bus_msg.specs.declared.entry.By.TheVariants.{Cluster, Bus}
use Rattle.bus_msg.specs.declared.entry.By.{By}
use Rattle.bus_msg.specs.declared.placed.Placed.{Placed}
use Rattle.bus_msg.specs.declared.entry.Entry.{Entry}
use Rattle.bus_msg.specs.Places.{Places, lives_in, unended_at}
use Rattle.bus_msg.specs.PlacedAfter.{what}
use Rattle.cert_sched.specs.Parts.{after_last, rising}
use Rattle.cert_sched.specs.Schedule.{placement, process_after}
use Rattle.cert_sched.specs.Account.{account_after, all_pages}
use Rattle.cert_sched.specs.Deeds.{arrived_count, letters_to, starts}
use Rattle.cert_sched.specs.Steps.{numbers_read, process_of, saved_of, silent_upto}
use Rattle.cert_sched.specs.Rules.{awaits_pages, has_its_pages, holds_of, is_by, is_by_home, is_by_right, is_over, is_within_limits, keeps_limits}
use Rattle.cert_sched.specs.Kinds.{KindHolds, SyncHolds, after_take, is_due as due_now, took_is}
use Rattle.cert_sched.specs.Legal.{IsLegalBy, Stands, KeepsLimits, MayStand}
use Rattle.cert_sched.specs.Appended.{entry_of}
use Rattle.cert_sched.specs.Simulation.{IsUnended}
use Rattle.cert_sched.proofs.RollLaws.{Rolls}
use Rattle.entry_lines.specs.declared.told.ToldWhat.TheVariants.{Sync as ToldSync}
use Rattle.entry_lines.specs.declared.told.Told.{Told}
use Rattle.entry_lines.specs.Told.{told_of, told_what}
use Rattle.page_server.specs.Account.{PagerState, account}
use Rattle.log_audit.specs.Front.{FrontState}
use Rattle.log_audit.proofs.Losing.{next_passes, next_placed}
use Rattle.log_laws.specs.letters.Numbered.{are_below, are_in_order}
use Rattle.log_laws.specs.letters.ReadsFrom.{ReadsFrom}
use Rattle.log_laws.proofs.letters.LogReads.{all_saved_numbered, rolls_there, saved_from, silent_reads, taken_reads}
use Rattle.log_laws.proofs.letters.RollingReads.{silent_next}
use Rattle.log_laws.proofs.records.Standing.{all_stand}
use Rattle.checkpoint_laws.specs.posts.Sending.{MaySend, MaySync}
use Rattle.checkpoint_laws.proofs.posts.Standing.{sync_stands}
use Rattle.checkpoint_laws.proofs.posts.SyncMade.{sync_made}
use Rattle.checkpoint_laws.proofs.posts.TakeLeaves.{take_leaves}
use Rattle.log_processes.specs.declared.sender.Head.{Head}
use Rattle.log_processes.specs.declared.sender.Limits.{Limits}
use Rattle.log_processes.specs.declared.sender.Sender.{Sender}
use Rattle.log_processes.specs.Sending.{KeepsSender, home_may, is_within, sent_entry}
use Rattle.log_processes.proofs.Sent.{home_there, may_send}
use Rattle.log_cuts.specs.declared.start.Start.{Start}
use Rattle.log_cuts.specs.Ahead.{upto}
use Rattle.log_cuts.specs.Memory.{is_memory}
use Rattle.log_cuts.specs.Numbers.{numbers_from, numbers_of, without}
use Rattle.log_cuts.specs.Start.{StartsAt, read_numbers}
use Rattle.log_cuts.specs.Syncs.{AnswersSync, Cuts, KeepsCut, LeadsToCut, cut_may, is_due, sync_of}
use Rattle.log_cuts.proofs.Led.{IsLed, is_led}
use Rattle.log_cuts.proofs.Reaching.{silent_then, told_there}
use Rattle.log_cuts.proofs.Reading.{numbers_saved, read_left, read_rises}

pub is_at_home : (places : Places) (home : ClusterNo) (p : Pid) → is_by_home places (Cluster home) (Some p) ≡ true → is_some (unended_at places p) ≡ true
is_at_home places home p right = by_place (unended_at places p) (and_parts (lives_in places home) _ right).1
  where
    by_place : (o : Option Placed) → is_by (Cluster home) (option_map (λ (q : Placed). q.home) o) ≡ true → is_some o ≡ true
    by_place None is = absurd (true≢false (sym is))
    by_place (Some q) is = refl

pub by_home_unended : (places : Places) (by : By) (p : Pid) → is_by_home places by (Some p) ≡ true → is_some (unended_at places p) ≡ true
by_home_unended places (Cluster home) p right = is_at_home places home p right
by_home_unended places Bus p right = absurd (true≢false (sym right))

not_true : (b : Bool) → not b ≡ true → b ≡ false
not_true true is = absurd (true≢false (sym is))
not_true false is = refl

module _ (front : FrontState) (limits : Limits) (head : Head) (kept : Sender) (start : Start) (pager : PagerState) (s : ProcState) (took : Option ℕ) where
  abbrev pub at : ℕ
  at = head.at

  abbrev pub p : Pid
  p = head.pid

  abbrev pub now : List (ℕ × List ℕ)
  now = (account pager head.pid).now

  -- ---- a log of which this is kept, in which the process has not ended

  module _ (system : System) (log : List Entry) (valid : is_system system ≡ true) (legal : IsLegalBy MayStand system log) (keeps : KeepsCut front limits p s kept start pager system log) (goes_on : is_over system log ≡ false) (unended : IsUnended system log p)
      (t : ProcState) (led : upto at s ≡ Some t) where
    sender : KeepsSender front limits p s kept system log
    sender = keeps.sender

    there : process_after system log p ≡ Some s
    there = (sender.process).there

    stood : IsLegalBy Stands system log
    stood = all_stand system log legal

    led_is : IsLed limits p kept pager system log at s t
    led_is = is_led front limits p s kept pager system log valid legal keeps.sender keeps.accounts goes_on unended at t led

    due : due_now system log p took t ≡ is_due limits kept start.stated took t
    due = λ j.
        nat_le (sym (sender.limited).reads j) (led_is.reads j) || nat_le (sym (sender.limited).steps j) (led_is.steps j) || is_some took || not (sym (keeps.begun).stated j)

    -- the letters that it has read

    pub read_is : (u : ProcState) → took_is took t ≡ true → after_take took t ≡ u → rising (read_numbers start u) ≡ numbers_read (saved_of system log p) u.mail
    read_is u can after = ap rising same ∙ read_rises (saved_of system log p) u.mail in_order
      where
        from : ReadsFrom (saved_of system log p) u.mail
        from = subst (λ (u : ProcState). ReadsFrom (saved_of system log p) u.mail) after (by_take took can)
          where
            by_take : (o : Option ℕ) → took_is o t ≡ true → ReadsFrom (saved_of system log p) (after_take o t).mail
            by_take None can = silent_reads system log p at t valid stood led_is.reached led_is.runs
            by_take (Some g) can = taken_reads system log p at t valid stood led_is.reached led_is.runs (and_parts (can_take t) _ can).0

        in_order : are_in_order (saved_of system log p) ≡ true
        in_order = (and_parts (are_in_order (saved_of system log p)) (are_below (arrived_count log p) (saved_of system log p)) (all_saved_numbered system log p s valid stood there led_is.ran)).0

        rolls : Rolls system log p s
        rolls = rolls_there system log p s valid stood there led_is.ran

        begun : StartsAt rolls.start start
        begun = (keeps.begun).at rolls.start rolls.started

        next : u.next ≡ (rolls.start).next + length (letters_to p (after_last (starts p) log))
        next = ap (λ (u : ProcState). u.next) (sym after) ∙ (take_leaves took t can).next ∙ silent_next system log p at t valid stood led_is.reached led_is.runs ∙ rolls.arrived

        saved : start.waiting ++ numbers_from start.came u.next ≡ numbers_of (saved_of system log p)
        saved =
            (λ j. begun.0 j ++ numbers_from (begun.1 j) u.next) ∙ sym (numbers_saved (rolls.start).mail (rolls.start).next u.next (letters_to p (after_last (starts p) log)) next)
            ∙ ap numbers_of (sym (saved_from system log p rolls.start rolls.started))

        same : read_numbers start u ≡ numbers_read (saved_of system log p) u.mail
        same = ap (λ ns. without ns (numbers_of u.mail)) saved ∙ read_left (saved_of system log p) u.mail from in_order

  -- ---- it may stand next

  record MayCut (t : ProcState) : Type 0 where
    pub synced : kept.parent ≡ false
    pub count : (t.small).steps ≡ at
    pub within : is_within limits kept t ≡ true
    pub due : is_due limits kept start.stated took t ≡ true

  cut_parts : (t : ProcState) → cut_may limits at kept start.stated took t ≡ true → MayCut t
  cut_parts t may =
      let all = and_parts ((not kept.parent && eqb (t.small).steps at) && is_within limits kept t) (is_due limits kept start.stated took t) may in
      let most = and_parts (not kept.parent && eqb (t.small).steps at) (is_within limits kept t) all.0 in
      let first = and_parts (not kept.parent) (eqb (t.small).steps at) most.0 in
      record { synced = not_true kept.parent first.0; count = eqb-true (t.small).steps at first.1; within = most.1; due = all.1 }

  module _ (home : ClusterNo) (t u : ProcState) (found : home_may front head kept ≡ Some home) (led : upto at s ≡ Some t) (may : cut_may limits at kept start.stated took t ≡ true)
      (whole : is_memory now t.memory ≡ true) (can : took_is took t ≡ true) (after : after_take took t ≡ u) where
    abbrev pub w : What
    w = sync_of p start took u

    abbrev pub e : Entry
    e = sent_entry front head home w

    pub cut_follows : AnswersSync front limits head kept start pager s took (Some e)
    cut_follows system log valid legal keeps =
        let m = may_send front head kept home found in
        let parts = cut_parts t may in
        let before = (keeps.sender).before in
        let placed = next_placed front head.place m.next system log w before in
        let goes_on : is_over system log ≡ false = placed.2 in
        let by_home : is_by_home (placement system log) (Cluster home) (Some p) ≡ true = ap (λ (q : Places). is_by_home q (Cluster home) (Some p)) (sym before.places) ∙ (m.home_is).right in
        let unended : IsUnended system log p = is_at_home (placement system log) home p by_home in
        let reached : silent_upto system log p at ≡ Some t = silent_then system log p s ((keeps.sender).process).there at ∙ led in
        let count : (u.small).steps ≡ at = ap (λ (u : ProcState). (u.small).steps) (sym after) ∙ (take_leaves took t can).steps ∙ parts.count in
        let sends : MaySend system log (Cluster home) p t = record { goes_on = goes_on; by_home = by_home; reached = ap (silent_upto system log p) parts.count ∙ reached } in
        let syncs : MaySync system log p t (read_numbers start u) took = record {
          takes = can;
          reads = read_is system log valid legal keeps goes_on unended t led u can after ∙ ap (λ (u : ProcState). numbers_read (saved_of system log p) u.mail) (sym after);
          children = sym (keeps.sender).parent ∙ parts.synced;
          account = (led_is system log valid legal keeps goes_on unended t led).account_is whole;
          due = due system log valid legal keeps goes_on unended t led ∙ parts.due;
        } in
        let same : entry_of system log (record { by = Cluster home; what = Sync p (after_take took t).small (read_numbers start u) took }) ≡ e =
        λ j. record { place = sym placed.0 j; post = record { by = Cluster home; what = Sync p (after j).small (read_numbers start u) took }; dests = sym placed.1 j } in
        let within : is_within_limits system log w p ≡ true =
        ap (λ n. option_map_or (keeps_limits system log p) (silent_upto system log p n) false) count ∙ ap (λ (o : Option ProcState). option_map_or (keeps_limits system log p) o false) reached
        ∙ (led_is system log valid legal keeps goes_on unended t led).limited ∙ parts.within in (
          λ j. record { place = head.place; by = sym (m.home_is).told j; what = ToldSync p.0 (count j) took },
          record {
            stands = subst (Stands system log) same (sync_stands system log (Cluster home) p t (read_numbers start u) took sends syncs);
            limits = within;
            new_page = refl;
            pages = sym (keeps.sender).whole ∙ m.whole;
          },
        )

    -- and the process stands so after it
    pub cut_leads : LeadsToCut front limits p kept start pager s e u
    cut_leads system log keeps =
        let parts = cut_parts t may in
        let count : (u.small).steps ≡ at = ap (λ (u : ProcState). (u.small).steps) (sym after) ∙ (take_leaves took t can).steps ∙ parts.count in
        let reached : silent_upto system log p at ≡ Some t = silent_then system log p s ((keeps.sender).process).there at ∙ led in
        (sync_made system log e p u.small (read_numbers start u) took t refl (ap (silent_upto system log p) count ∙ reached) can).own ∙ ap Some after

  -- ---- where it stands next the tests pass

  record SyncSaid (w : What) : Type 0 where
    pub small : SmallState
    pub read : List ℕ
    pub is : w ≡ Sync p small read took
    pub count : small.steps ≡ at

  sync_said : (w : What) → told_what w ≡ ToldSync p.0 at took → SyncSaid w
  sync_said (Sync pid small read g) line =
      let q : pid.0 ≡ p.0 = cc in
      let n : small.steps ≡ at = cc in
      let h : g ≡ took = cc in
      record { small = small; read = read; is = λ j. Sync (record { 0 = q j }) small read (h j); count = n }
  sync_said (Rebackup to true recs) line = cc
  sync_said (Rebackup to false recs) line = cc
  sync_said _ line = cc

  record Passes : Type 0 where
    pub home : is_some (home_may front head kept) ≡ true
    pub to : ProcState
    pub led : upto at s ≡ Some to
    pub may : cut_may limits at kept start.stated took to ≡ true
    pub whole : is_memory now to.memory ≡ true
    pub can : took_is took to ≡ true

  passes : (system : System) (log : List Entry) (e : Entry) → is_system system ≡ true → IsLegalBy MayStand system log → KeepsCut front limits p s kept start pager system log
      → told_of e ≡ record { place = head.place; by = head.by; what = ToldSync p.0 at took } → MayStand system log e → Passes
  passes system log e valid legal keeps line may =
      let said = sync_said (what e) (ap (λ (t : Told). t.what) line) in
      let before = (keeps.sender).before in
      let stands = may.stands in
      let goes_on : is_over system log ≡ false = (stands.placed).2 in
      let holds : SyncHolds system log p said.small said.read took = subst (KindHolds system log e) said.is stands.kind in
      let next = next_passes system log front e head.place before (ap (λ (t : Told). t.place) line) stands in
      let by_home : is_by_home (placement system log) (e.post).by (Some p) ≡ true = sym (ap (is_by_right (placement system log) (e.post).by) said.is) ∙ stands.by_right in
      let right : is_by_home front.places (e.post).by (Some p) ≡ true = ap (λ (q : Places). is_by_home q (e.post).by (Some p)) before.places ∙ by_home in
      let unended : IsUnended system log p = by_home_unended (placement system log) (e.post).by p by_home in
      let whole : kept.whole ≡ true = (keeps.sender).whole ∙ subst (λ (w : What). holds_of (awaits_pages w) (process_of w) (has_its_pages system log) ≡ true) said.is may.pages in
      let there = told_there (λ s. (after_take took s).small) (silent_upto system log p said.small.steps) said.small holds.state in
      let t = there.to in
      let reached : silent_upto system log p at ≡ Some t = ap (silent_upto system log p) (sym said.count) ∙ there.is in
      let led : upto at s ≡ Some t = sym (silent_then system log p s ((keeps.sender).process).there at) ∙ reached in
      let can : took_is took t ≡ true = same_Some (took_is took t) true (sym (ap (option_map (took_is took)) there.is) ∙ holds.took_first) in
      let state : (after_take took t).small ≡ said.small = same_Some (after_take took t).small said.small (sym (ap (option_map (λ (s : ProcState). (after_take took s).small)) there.is) ∙ holds.state) in
      let count : (t.small).steps ≡ at = sym (take_leaves took t can).steps ∙ ap (λ (s : SmallState). s.steps) state ∙ said.count in
      let account : (account_after system log p).now ≡ all_pages t.memory =
      same_Some (account_after system log p).now (all_pages t.memory) (holds.account ∙ ap (option_map (λ (s : ProcState). all_pages s.memory)) there.is) in
      let due_is : is_due limits kept start.stated took t ≡ true =
      sym (due system log valid legal keeps goes_on unended t led) ∙ same_Some (due_now system log p took t) true (sym (ap (option_map (due_now system log p took)) there.is) ∙ holds.due) in
      let limited_is : is_within limits kept t ≡ true =
      sym ((led_is system log valid legal keeps goes_on unended t led).limited) ∙ sym (ap (λ (o : Option ProcState). option_map_or (keeps_limits system log p) o false) there.is)
      ∙ subst (λ (w : What). KeepsLimits system log w) said.is may.limits in
      let synced : kept.parent ≡ false = (keeps.sender).parent ∙ holds.children in
      record {
        home = home_there front head kept (e.post).by next whole (ap (λ (t : Told). t.by) line) right;
        to = t;
        led = led;
        may = λ j. ((not (synced j) && eq-eqb (t.small).steps at count j) && limited_is j) && due_is j;
        whole = (led_is system log valid legal keeps goes_on unended t led).is_account account;
        can = can;
      }

  refuse : (Passes → ⊥) → AnswersSync front limits head kept start pager s took None
  refuse never system log e valid legal keeps line may = never (passes system log e valid legal keeps line may)

  pub cut_unsent : home_may front head kept ≡ None → AnswersSync front limits head kept start pager s took None
  cut_unsent none = refuse (λ r. true≢false (sym r.home ∙ ap is_some none))

  pub cut_unled : ((u : ProcState) → upto at s ≡ Some u → cut_may limits at kept start.stated took u ≡ false) → AnswersSync front limits head kept start pager s took None
  cut_unled never = refuse (λ r. true≢false (sym r.may ∙ never r.to r.led))

  -- where it is led
  led_to : (t : ProcState) → upto at s ≡ Some t → (r : Passes) → t ≡ r.to
  led_to t led r = same_Some t r.to (sym led ∙ r.led)

  pub cut_unwritten : (t : ProcState) → upto at s ≡ Some t → is_memory now t.memory ≡ false → AnswersSync front limits head kept start pager s took None
  cut_unwritten t led other = refuse (λ r. true≢false (sym r.whole ∙ ap (λ (t : ProcState). is_memory now t.memory) (sym (led_to t led r)) ∙ other))

  pub cut_untaken : (t : ProcState) → upto at s ≡ Some t → took_is took t ≡ false → AnswersSync front limits head kept start pager s took None
  cut_untaken t led cannot = refuse (λ r. true≢false (sym r.can ∙ ap (took_is took) (sym (led_to t led r)) ∙ cannot))

  -- ---- by what it is cut to

  pub cut_answers : (home : ClusterNo) (t u : ProcState) (o : Option Entry) → home_may front head kept ≡ Some home → upto at s ≡ Some t → cut_may limits at kept start.stated took t ≡ true → is_memory now t.memory ≡ true
      → Cuts front head home start took t o u → AnswersSync front limits head kept start pager s took o
  cut_answers home t u None found led may whole cuts = cut_untaken t led cuts
  cut_answers home t u (Some e) found led may whole cuts =
      subst (λ (e : Entry). AnswersSync front limits head kept start pager s took (Some e)) (sym cuts.2) (cut_follows home t u found led may whole cuts.0 cuts.1)

  pub cut_stands : (home : ClusterNo) (t u : ProcState) (o : Option Entry) → home_may front head kept ≡ Some home → upto at s ≡ Some t → cut_may limits at kept start.stated took t ≡ true → is_memory now t.memory ≡ true
      → Cuts front head home start took t o u → IfSome o (λ (e : Entry). LeadsToCut front limits p kept start pager s e u)
  cut_stands home t u None found led may whole cuts = tt
  cut_stands home t u (Some e) found led may whole cuts =
      subst (λ (e : Entry). LeadsToCut front limits p kept start pager s e u) (sym cuts.2) (cut_leads home t u found led may whole cuts.0 cuts.1)
