-- What a legal log asks of a kind of entry, logs that are alike ask of it alike.
use Rattle.std.proofs.Common.{◌≡◌, refl, sym, ◌∙◌, ap, subst, ℕ, ◌<◌, ◌≤◌, Bool, true, false, ◌&&◌, ◌||◌, List, [], ◌∷◌, ◌++◌, map, Option, Some, None, is_some, eqb}
use Rattle.std.specs.Prelude.{option_map, nat_le, not}
use Rattle.std.specs.List.{list_all}
use Rattle.std.specs.Option.{option_map_or}
use Rattle.t32_base.specs.declared.process.Pid.{Pid}
use Rattle.t32_base.specs.declared.process.ClusterNo.{ClusterNo}
use Rattle.t32_base.specs.declared.letter.BackRec.{BackRec}
use Rattle.t32_base.specs.Small.{SmallState}
use Rattle.sys_text.specs.declared.system.System.{System}
use Rattle.rv_mem.specs.Memory.{page_at}
use Rattle.proc_state.specs.State.{ProcState}
use Rattle.sys_calls.specs.declared.steps.Emission.{Emission}
use Rattle.sys_calls.specs.declared.steps.Emission.TheVariants.{Mail as Sent, Exit as Ended}
use Rattle.sys_calls.specs.Fork.{next_end}
use Rattle.plain_kernel.specs.Still.{is_still}
use Rattle.bus_msg.specs.declared.entry.What.{What}
use Rattle.bus_msg.specs.declared.entry.What.TheVariants.{Mail, Birth, Exit, Page, Sync, Fetch, PageIs, Crash, Return, Rebackup, Done, Stop}
use Rattle.bus_msg.specs.declared.entry.Entry.{Entry}
use Rattle.bus_msg.specs.declared.placed.Placed.{Placed}
use Rattle.bus_msg.specs.Places.{Places, same_pid, lives_in, is_lost_in, unended_at, unended_in}
use Rattle.bus_msg.specs.PlacedAfter.{what}
use Rattle.bus_msg.specs.NewBackup.{next_backup_at}
use Rattle.cert_sched.specs.Parts.{first_of, rising}
use Rattle.cert_sched.specs.Account.{Account, all_pages, page_in}
use Rattle.cert_sched.specs.Moved.{is_fetch}
use Rattle.cert_sched.specs.Schedule.{plain_after}
use Rattle.cert_sched.specs.Steps.{first_record, numbers_read}
use Rattle.cert_sched.specs.Rules.{is_full, is_moved_fullback}
use Rattle.cert_sched.specs.Kinds.{AccountIs, BirthHolds, ChildrenSynced, DoneHolds, FetchHolds, FreshHolds, IsSent, KindHolds, PageHolds, PageIsHolds, RebackupHolds, StandingHolds, SyncHolds, after_take, is_done_by, is_due, next_child_at, took_is}
use Rattle.read_orders.specs.Alike.{AreAlike}
use Rattle.read_orders.proofs.Blind.{blind}
use Rattle.read_orders.proofs.Same.{alike-snoc, same_account, same_after, same_before_fork, same_children, same_done, same_emission, same_family, same_moved, same_moved_stated, same_pages, same_placement, same_plain, same_reads, same_record, same_saved, same_silent, same_since, same_stated, same_steps, same_waiting}

module _ (system : System) (log other : List Entry) (alike : AreAlike log other) where
  -- ---- rules of several kinds

  sent : (p : Pid) (at : ℕ) (e : Emission) → IsSent system log p at e → IsSent system other p at e
  sent p at e h = sym (ap (option_map (λ (r : Emission × ProcState). r.0)) (same_emission system log other alike p at)) ∙ h

  children : (p : Pid) → ChildrenSynced system log p → ChildrenSynced system other p
  children p h = sym (same_children system log other alike p) ∙ h

  account_is : (p : Pid) (s t : Option ProcState) → s ≡ t → AccountIs system log p s → AccountIs system other p t
  account_is p s t same h = sym (ap (λ (a : Account). Some a.now) (same_account system log other alike p)) ∙ h ∙ ap (option_map (λ (s : ProcState). all_pages s.memory)) same

  pub same_fullback : (p : Pid) → is_moved_fullback system log p ≡ is_moved_fullback system other p
  same_fullback p = λ i. option_map_or (λ (q : Placed). is_full q.mode) (unended_at (same_placement system log other alike i) p) false && same_moved system log other alike p i

  -- ---- each kind

  birth : (parent : Pid) (at : ℕ) (child : Pid) (end : ℕ) → BirthHolds system log parent at child end → BirthHolds system other parent at child end
  birth parent at child end h = record {
    later = subst (λ (n : ℕ). n < at) (same_done system log other alike parent) h.later;
    end_is = sym (ap (option_map next_end) (same_before_fork system log other alike parent at)) ∙ h.end_is;
    child_is = sym (ap (λ (places : Places). option_map (next_child_at places) (unended_at places parent)) (same_placement system log other alike)) ∙ h.child_is;
  }

  page : (p : Pid) (at index : ℕ) (bytes : List ℕ) → PageHolds system log p at index bytes → PageHolds system other p at index bytes
  page p at index bytes h = record {
    within = subst (λ (n : ℕ). index < n) (same_pages system log other alike p) h.within;
    not_before = subst (λ (n : ℕ). n ≤ at) (same_done system log other alike p) h.not_before;
    page = sym (ap (option_map (λ (s : ProcState). page_at s.memory index)) (same_silent system log other alike p at)) ∙ h.page;
  }

  same_due : (p : Pid) (took : Option ℕ) (s : ProcState) → is_due system log p took s ≡ is_due system other p took s
  same_due p took s = λ i.
      nat_le system.syncreads (same_reads system log other alike p s i) || nat_le system.syncsteps (same_steps system log other alike p s i)
      || is_some took || not (same_stated system log other alike p i)

  sync : (p : Pid) (small : SmallState) (read : List ℕ) (took : Option ℕ) → SyncHolds system log p small read took → SyncHolds system other p small read took
  sync p small read took h =
      let silent = same_silent system log other alike p small.steps in
      record {
        state = sym (ap (option_map (λ (s : ProcState). (after_take took s).small)) silent) ∙ h.state;
        took_first = sym (ap (option_map (took_is took)) silent) ∙ h.took_first;
        reads = sym (λ i. option_map (λ (s : ProcState). numbers_read (same_saved system log other alike p i) (after_take took s).mail) (silent i)) ∙ h.reads;
        children = children p h.children;
        account = account_is p _ _ silent h.account;
        due = sym (λ i. option_map (λ (s : ProcState). same_due p took s i) (silent i)) ∙ h.due;
      }

  fetch : (p : Pid) (index : ℕ) → FetchHolds system log p index → FetchHolds system other p index
  fetch p index h = record {
    within = subst (λ (n : ℕ). index < n) (same_pages system log other alike p) h.within;
    moved = sym (same_moved_stated system log other alike p) ∙ h.moved;
    unasked = sym (same_since system log other alike p (is_fetch p index) (λ w. blind (is_fetch p index) (λ q small read took. refl) w)) ∙ h.unasked;
  }

  page_is : (p : Pid) (index : ℕ) (bytes : List ℕ) → PageIsHolds system log p index bytes → PageIsHolds system other p index bytes
  page_is p index bytes h = record {
    asked = sym (ap (λ (waits : List (Pid × ℕ)). option_map (λ (f : Pid × ℕ). same_pid f.0 p && eqb f.1 index) (first_of waits)) (same_waiting system log other alike)) ∙ h.asked;
    page = sym (ap (λ (a : Account). page_in a.kept index) (same_account system log other alike p)) ∙ h.page;
  }

  standing : (p : Pid) (to : ClusterNo) (recs : List BackRec) → StandingHolds system log p to recs → StandingHolds system other p to recs
  standing p to recs h = record {
    backup = sym (ap (λ (places : Places). next_backup_at places p) (same_placement system log other alike)) ∙ h.backup;
    fullback = sym (same_fullback p) ∙ h.fullback;
    waits = sym (same_since system log other alike p (is_done_by p) (λ w. blind (is_done_by p) (λ q small read took. refl) w)) ∙ h.waits;
    stated = sym (same_stated system log other alike p) ∙ h.stated;
    family = h.family ∙ ap (λ (family : List Pid). rising (map (λ (q : Pid). q.0) family)) (same_family system log other alike p);
    records = h.records ∙ (λ i. map (λ (r : BackRec). same_record system log other alike r.pid i) recs);
  }

  module _ (e : Entry) where
    longer : AreAlike (log ++ e ∷ []) (other ++ e ∷ [])
    longer = alike-snoc log other e e alike refl

    pub same_next : plain_after system (log ++ e ∷ []) ≡ plain_after system (other ++ e ∷ [])
    same_next = same_plain system (log ++ e ∷ []) (other ++ e ∷ []) longer

    fresh : (p : Pid) (to : ClusterNo) (recs : List BackRec) → FreshHolds system log e p to recs → FreshHolds system other e p to recs
    fresh p to recs h = record {
      backup = sym (ap (λ (places : Places). next_backup_at places p) (same_placement system log other alike)) ∙ h.backup;
      silent = sym (ap is_some (same_after system log other alike (what e))) ∙ h.silent;
      records = h.records ∙ ap (λ (o : Option BackRec). o ∷ []) (same_record system (log ++ e ∷ []) (other ++ e ∷ []) longer p);
      children = children p h.children;
      account = account_is p _ _ (same_after system log other alike (what e)) h.account;
    }

    rebackup : (to : ClusterNo) (is_fresh : Bool) (recs : List BackRec) (first : Option BackRec) → RebackupHolds system log e to is_fresh recs first
        → RebackupHolds system other e to is_fresh recs first
    rebackup to true recs None h = absurd h
    rebackup to false recs None h = absurd h
    rebackup to true recs (Some r) h = fresh r.pid to recs h
    rebackup to false recs (Some r) h = standing r.pid to recs h

    done : (rests : List (Pid × ℕ)) → DoneHolds system log e rests → DoneHolds system other e rests
    done rests h = record {
      named = h.named ∙ ap (λ (places : Places). rising (map (λ (q : Placed). (q.pid).0) (unended_in places))) (same_placement system log other alike);
      silent = sym (λ i. list_all (λ (r : Pid × ℕ). nat_le (same_done system log other alike r.0 i) r.1 && is_some (same_silent system log other alike r.0 r.1 i)) rests) ∙ h.silent;
      still = sym (ap (option_map is_still) same_next) ∙ h.still;
    }

    pub kind_alike : (w : What) → KindHolds system log e w → KindHolds system other e w
    kind_alike (Mail at letter) h = sent letter.from at (Sent letter) h
    kind_alike (Birth parent at child end) h = birth parent at child end h
    kind_alike (Exit pid at end) h = (sent pid at (Ended end) h.0, children pid h.1)
    kind_alike (Page pid at index bytes) h = page pid at index bytes h
    kind_alike (Sync pid small read took) h = sync pid small read took h
    kind_alike (Fetch pid index) h = fetch pid index h
    kind_alike (PageIs pid index bytes) h = page_is pid index bytes h
    kind_alike (Crash k cause) h = sym (ap (λ (places : Places). lives_in places k) (same_placement system log other alike)) ∙ h
    kind_alike (Return k) h = sym (ap (λ (places : Places). is_lost_in places k) (same_placement system log other alike)) ∙ h
    kind_alike (Rebackup to is_fresh recs) h = rebackup to is_fresh recs (first_record recs) h
    kind_alike (Done rests) h = done rests h
    kind_alike Stop h = tt
