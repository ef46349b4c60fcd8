-- The families here that wait for their new backup.
use Rattle.std.proofs.Common.{◌≡◌, ℕ, refl, sym, ◌∙◌, ap, subst, List, [], ◌∷◌, Bool, true, false, cond, not, ◌&&◌, ◌||◌, eqb, eqb-true, eq-eqb, Option, Some, None, is_some, true≢false}
use Rattle.std.specs.Prelude.{◌≢◌, find, option_and_then, option_map}
use Rattle.std.specs.List.{list_any}
use Rattle.std.specs.Option.{option_map_or}
use Rattle.std.proofs.lemmas.Bool.{and_parts, not-true}
use Rattle.std.proofs.lemmas.Option.{same_Some}
use Rattle.t32_base.specs.declared.process.Pid.{Pid}
use Rattle.t32_base.specs.declared.letter.BackRec.{BackRec}
use Rattle.sys_text.specs.Valid.{is_system}
use Rattle.bus_msg.specs.declared.entry.Entry.{Entry}
use Rattle.bus_msg.specs.declared.placed.Placed.{Placed}
use Rattle.bus_msg.specs.Places.{Places, same_cluster, same_pid, unended_at}
use Rattle.birth_notice.specs.Joined.{others_of}
use Rattle.birth_notice.proofs.JoinedLaws.{any_others}
use Rattle.page_waits.specs.Waiting.{WaitingState}
use Rattle.plain_kernel.specs.Maps.{at_key, pid_of}
use Rattle.cert_sched.specs.Schedule.{placement}
use Rattle.cert_sched.specs.Family.{births_of, is_unsynced, unsynced_family}
use Rattle.cert_sched.specs.Record.{backup_record, has_state}
use Rattle.cert_sched.specs.Rules.{has_awaited_backup}
use Rattle.cert_sched.specs.Legal.{IsLegalBy, Stands}
use Rattle.cert_sched.specs.Simulation.{bears}
use Rattle.cert_sched.proofs.FamilyLaws.{Families, Member, Pair, Together, all_family, among, families}
use Rattle.log_laws.specs.births.Unsynced.{unsynced_births}
use Rattle.log_laws.proofs.births.Filters.{Passes, any_kept, one_passes, passes_any}
use Rattle.log_laws.proofs.letters.LogReads.{itself}
use Rattle.replay_laws.proofs.forks.StatedAbove.{stated_above}
use Rattle.replay_laws.proofs.forks.EitherWait.{kept_so}
use Rattle.replay_laws.proofs.rolling.FromStart.{record_stated}
use Rattle.backup_laws.proofs.AwaitedFamilies.{child_awaited}
use Rattle.backup_laws.proofs.Given.{waiting_owed}
use Rattle.residents.specs.Held.{Held, Waits, is_waiting}
use Rattle.residents.specs.Records.{record_at, record_told}
use Rattle.residents.proofs.Slots.{at_key_is}
use Rattle.standing_backups.specs.Standing.{CanBeNext, CanHandOn, first_stated, is_stated_at}
use Rattle.cluster_core.specs.View.{ClusterView, held_at}
use Rattle.cluster_core.specs.Follows.{Follows}
use Rattle.cluster_core.specs.Holds.{is_fetch_queued}
use Rattle.cluster_core.specs.Owed.{is_owed}
use Rattle.cluster_core.specs.Standing.{HoldsBackups}
use Rattle.cluster_core.specs.Parts.{AllOwn}
use Rattle.cluster_core.proofs.awaiting.Joined.{joined}
use Rattle.cluster_core.proofs.here.Owning.{own_at}
use Rattle.cluster_core.proofs.losses.HeldAtHome.{held_at_home}
use Rattle.cluster_core.proofs.losses.Homes.{HomeHere}

-- ---- words on lists

first_passes : (t : ℕ → Bool) (ns : List ℕ) (n : ℕ) → find t ns ≡ Some n → (t n ≡ true) × (list_any (at_key n) ns ≡ true)
first_passes t [] n is = cc
first_passes t (m ∷ ns) n is = by_test (t m) refl is (first_passes t ns n)
  where
    right : (a b : Bool) → b ≡ true → (a || b) ≡ true
    right true b h = refl
    right false b h = h

    by_test : (b : Bool) → t m ≡ b → cond b (Some m) (find t ns) ≡ Some n → (find t ns ≡ Some n → (t n ≡ true) × (list_any (at_key n) ns ≡ true)) → (t n ≡ true) × ((at_key n m || list_any (at_key n) ns) ≡ true)
    by_test true passes found more =
        let same : m ≡ n = same_Some m n found in
        (ap t (sym same) ∙ passes, ap (λ b. b || list_any (at_key n) ns) (at_key_is n m ∙ eq-eqb m n same))
    by_test false passes found more = let both = more found in (both.0, right (at_key n m) (list_any (at_key n) ns) both.1)

some_passes : (t : ℕ → Bool) (ns : List ℕ) (n : ℕ) → list_any (at_key n) ns ≡ true → t n ≡ true → is_some (find t ns) ≡ true
some_passes t [] n there passes = absurd (true≢false (sym there))
some_passes t (m ∷ ns) n there passes = by_test (t m) refl (some_passes t ns n)
  where
    by_test : (b : Bool) → t m ≡ b → (list_any (at_key n) ns ≡ true → t n ≡ true → is_some (find t ns) ≡ true) → is_some (cond b (Some m) (find t ns)) ≡ true
    by_test true is more = refl
    by_test false is more = more (later (eqb m n) refl) passes
      where
        later : (b : Bool) → eqb m n ≡ b → list_any (at_key n) ns ≡ true
        later true same = absurd (true≢false (sym passes ∙ ap t (sym (eqb-true m n same)) ∙ is))
        later false other = sym (ap (λ b. b || list_any (at_key n) ns) (at_key_is n m ∙ other)) ∙ there

-- ---- who waits here

module _ (c : ClusterView) (log : List Entry) (valid : is_system c.system ≡ true) (legal : IsLegalBy Stands c.system log) (f : Follows c.system log c) (begun : HoldsBackups c.system log c) where
  abbrev here : Places
  here = placement c.system log

  -- a process at home here waits
  pub record WaitsHere (p : Pid) : Type 0 where
    pub home : HomeHere here p c.number
    pub waiting : WaitingState
    pub there : held_at c p ≡ Some (Waits waiting)

  all : Families c.system log
  all = families Stands itself c.system log valid legal

  -- whoever is at home here is held
  held_home : (p : Pid) → HomeHere here p c.number → (h : Held) × (held_at c p ≡ Some h)
  held_home p home = held_at_home here c.number c.here p (f.processes).each_once home

  waits_so : (p : Pid) → HomeHere here p c.number → (h : Held) → held_at c p ≡ Some h → is_waiting h ≡ true → WaitsHere p
  waits_so p home (Waits w) there is = record { home = home; waiting = w; there = there }
  waits_so p home _ there is = absurd (true≢false (sym is))

  -- one that waits for its new backup has not begun
  pub owed_waits : (p : Pid) → is_owed c.system log c.number p ≡ true → WaitsHere p
  owed_waits p owed = by_found (unended_at here p) refl parts.0
    where
      parts : (option_map_or (λ (q : Placed). same_cluster q.home c.number) (unended_at here p) false ≡ true) × (not (has_awaited_backup c.system log p) ≡ true)
      parts = and_parts (option_map_or (λ (q : Placed). same_cluster q.home c.number) (unended_at here p) false) (not (has_awaited_backup c.system log p)) owed

      waits : has_awaited_backup c.system log p ≡ false
      waits = not-true (has_awaited_backup c.system log p) parts.1

      not_begun : (h : Held) → held_at c p ≡ Some h → is_waiting h ≡ true
      not_begun (Waits w) there = refl
      not_begun h there = absurd (true≢false (sym (begun p h there refl) ∙ waits))

      by_found : (o : Option Placed) → unended_at here p ≡ o → option_map_or (λ (q : Placed). same_cluster q.home c.number) o false ≡ true → WaitsHere p
      by_found None found home = absurd (true≢false (sym home))
      by_found (Some q) found home =
          let at : HomeHere here p c.number = record { placed = q; found = found; home = home } in
          let h = held_home p at in
          waits_so p at h.0 h.1 (not_begun h.0 h.1)

  -- nor has a child of one that waits that never synchronised
  child_waits : (b : Pair) → Member b (births_of log) → is_unsynced here b.1 ≡ true → WaitsHere b.0 → WaitsHere b.1
  child_waits b m unsynced parent =
      let t = all.together b m unsynced in
      let same : (parent.home).placed ≡ t.parent = same_Some ((parent.home).placed) t.parent (sym (parent.home).found ∙ t.parent_at) in
      let home : HomeHere here b.1 c.number = record {
        placed = t.child;
        found = t.child_at;
        home = ap (λ h. same_cluster h c.number) (sym t.home ∙ ap (λ (q : Placed). q.home) (sym same)) ∙ (parent.home).home;
      } in
      let h = held_home b.1 home in
      waits_so b.1 home h.0 h.1 (f.forks b.0 b.1 (Waits parent.waiting) h.0 parent.there h.1 born)
    where
      is_it : Pair → Bool
      is_it x = same_pid x.0 b.0 && same_pid x.1 b.1

      born : list_any is_it c.family ≡ true
      born =
          ap (list_any is_it) f.family ∙ sym (any_kept is_it (λ (x : Pair). is_unsynced here x.1) (births_of log))
          ∙ passes_any (λ (x : Pair). is_it x && is_unsynced here x.1) (births_of log) b m
          (λ i. (eq-eqb (b.0).0 (b.0).0 refl i && eq-eqb (b.1).0 (b.1).0 refl i) && unsynced i)

  -- so its whole family waits
  pub family_waits : (p : Pid) → WaitsHere p → (q : Pid) → among q (unsynced_family c.system log p) ≡ true → WaitsHere q
  family_waits p own q there = all_family here WaitsHere (births_of log) (p ∷ []) first (λ b m unsynced parent. child_waits b m unsynced parent) q there
    where
      first : (r : Pid) → among r (p ∷ []) ≡ true → WaitsHere r
      first r is = by_test (same_pid r p) refl is
        where
          by_test : (t : Bool) → same_pid r p ≡ t → (t || false) ≡ true → WaitsHere r
          by_test true same h = subst WaitsHere (λ i. record { 0 = sym (eqb-true r.0 p.0 same) i }) own
          by_test false other h = absurd (true≢false (sym h))

  -- a record here is that of the log
  pub recorded : (p : Pid) (r : BackRec) → record_at c.here p ≡ Some r → backup_record c.system log p ≡ Some r
  recorded p r at = by_held (held_at c p) refl at
    where
      by_held : (o : Option Held) → held_at c p ≡ o → option_and_then record_told o ≡ Some r → backup_record c.system log p ≡ Some r
      by_held (Some (Waits w)) there is = kept_so c.system log p (is_fetch_queued p c.queue) w ((f.processes).held p (Waits w) there).1 ∙ is
      by_held _ there is = cc

  record_there : (p : Pid) (w : WaitsHere p) → record_at c.here p ≡ Some (w.waiting).kept
  record_there p w = ap (option_and_then record_told) w.there

  -- it has a state exactly where the process has one in the log
  stated_there : (p : Pid) (w : WaitsHere p) → is_stated_at c.here p.0 ≡ has_state c.system log p
  stated_there p w =
      ap (λ o. option_map_or (λ (r : BackRec). is_some r.state) o false) (record_there p w)
      ∙ record_stated c.system log p (w.waiting).kept (recorded p (w.waiting).kept (record_there p w))

  -- ---- the first of those that have a state

  module _ (owed : (p : Pid) → list_any (at_key p.0) c.owed ≡ is_owed c.system log c.number p) where
    -- a parent of one that waits for its new backup does too
    with_child : (parent child : Pid) → bears log parent child ≡ true → is_unsynced here child ≡ true → is_owed c.system log c.number child ≡ true → is_owed c.system log c.number parent ≡ true
    with_child parent child born unsynced is = by_wait (has_awaited_backup c.system log parent) refl
      where
        one : Passes (λ (b : Pair). same_pid b.0 parent && same_pid b.1 child) (births_of log)
        one = one_passes (λ (b : Pair). same_pid b.0 parent && same_pid b.1 child) (births_of log) born

        both : (same_pid (one.pair).0 parent ≡ true) × (same_pid (one.pair).1 child ≡ true)
        both = and_parts (same_pid (one.pair).0 parent) (same_pid (one.pair).1 child) one.passes

        the_parent : (one.pair).0 ≡ parent
        the_parent = λ i. record { 0 = eqb-true ((one.pair).0).0 parent.0 both.0 i }

        the_child : (one.pair).1 ≡ child
        the_child = λ i. record { 0 = eqb-true ((one.pair).1).0 child.0 both.1 i }

        t : Together here one.pair
        t = all.together one.pair one.member (ap (is_unsynced here) the_child ∙ unsynced)

        at : Option Placed → Bool
        at o = option_map_or (λ (q : Placed). same_cluster q.home c.number) o false

        parts : (at (unended_at here child) ≡ true) × (not (has_awaited_backup c.system log child) ≡ true)
        parts = and_parts (at (unended_at here child)) (not (has_awaited_backup c.system log child)) is

        home : at (unended_at here parent) ≡ true
        home =
            ap (λ p. at (unended_at here p)) (sym the_parent) ∙ ap at t.parent_at ∙ ap (λ h. same_cluster h c.number) t.home
            ∙ sym (ap at t.child_at) ∙ ap (λ p. at (unended_at here p)) the_child ∙ parts.0

        by_wait : (b : Bool) → has_awaited_backup c.system log parent ≡ b → is_owed c.system log c.number parent ≡ true
        by_wait false waits = λ i. home i && not (waits i)
        by_wait true has = absurd (true≢false (sym (child_awaited c.system log parent child valid legal born unsynced has) ∙ not-true (has_awaited_backup c.system log child) parts.1))

    first_of_stated : (p : Pid) → is_owed c.system log c.number p ≡ true → has_state c.system log p ≡ true → is_some (first_stated c.here c.owed) ≡ true
    first_of_stated p is stated =
        some_map (find (is_stated_at c.here) c.owed)
        ∙ some_passes (is_stated_at c.here) c.owed p.0 (owed p ∙ is) (stated_there p (owed_waits p is) ∙ stated)
      where
        some_map : (o : Option ℕ) → is_some (option_map pid_of o) ≡ is_some o
        some_map None = refl
        some_map (Some n) = refl

    -- where one waits for its new backup, one that does has a state
    pub some_stated : c.owed ≢ [] → is_some (first_stated c.here c.owed) ≡ true
    some_stated some = by_list c.owed refl
      where
        by_list : (ns : List ℕ) → c.owed ≡ ns → is_some (first_stated c.here c.owed) ≡ true
        by_list [] none = absurd (some none)
        by_list (n ∷ ns) is = by_state (has_state c.system log (pid_of n)) refl
          where
            waits : is_owed c.system log c.number (pid_of n) ≡ true
            waits = sym (owed (pid_of n)) ∙ ap (list_any (at_key n)) is ∙ ap (λ b. b || list_any (at_key n) ns) (at_key_is n n ∙ eq-eqb n n refl)

            by_state : (b : Bool) → has_state c.system log (pid_of n) ≡ b → is_some (first_stated c.here c.owed) ≡ true
            by_state true stated = first_of_stated (pid_of n) waits stated
            by_state false stateless =
                let w = owed_waits (pid_of n) waits in
                let one = stated_above c.system log (is_owed c.system log c.number) valid legal with_child (pid_of n) (ap is_some (w.home).found) stateless waits in
                first_of_stated one.pid one.passes one.stated

    -- who it is
    pub record First (p : Pid) : Type 0 where
      pub waits : is_owed c.system log c.number p ≡ true
      pub there : WaitsHere p
      pub stated : has_state c.system log p ≡ true

    pub first_is : (p : Pid) → first_stated c.here c.owed ≡ Some p → First p
    first_is p is = by_found (find (is_stated_at c.here) c.owed) refl is
      where
        by_found : (o : Option ℕ) → find (is_stated_at c.here) c.owed ≡ o → option_map pid_of o ≡ Some p → First p
        by_found None found none = cc
        by_found (Some n) found one =
            let same : pid_of n ≡ p = same_Some (pid_of n) p one in
            let both = first_passes (is_stated_at c.here) c.owed n found in
            let waits : is_owed c.system log c.number (pid_of n) ≡ true = sym (owed (pid_of n)) ∙ both.1 in
            subst First same (record { waits = waits; there = owed_waits (pid_of n) waits; stated = sym (stated_there (pid_of n) (owed_waits (pid_of n) waits)) ∙ both.0 })

    -- it can hand on
    can_hand_on : (p : Pid) → First p → CanHandOn here c.family c.here p
    can_hand_on p first = record {
      stated = stated_there p first.there ∙ first.stated;
      backup = waiting_owed c.system log p valid legal (ap is_some ((first.there).home).found) (not-true (has_awaited_backup c.system log p) (waiting first.waits));
      family = λ n there. is_some_record (pid_of n) (family_waits p first.there (pid_of n) (among_family n there));
    }
      where
        waiting : is_owed c.system log c.number p ≡ true → not (has_awaited_backup c.system log p) ≡ true
        waiting is = (and_parts (option_map_or (λ (q : Placed). same_cluster q.home c.number) (unended_at here p) false) (not (has_awaited_backup c.system log p)) is).1

        is_some_record : (q : Pid) → WaitsHere q → is_some (record_at c.here q) ≡ true
        is_some_record q w = ap is_some (record_there q w)

        right : (a b : Bool) → b ≡ true → (a || b) ≡ true
        right true b h = refl
        right false b h = h

        among_family : (n : ℕ) → list_any (at_key n) (others_of c.family p) ≡ true → among (pid_of n) (unsynced_family c.system log p) ≡ true
        among_family n there =
            ap (among (pid_of n)) (sym (joined c.system log p))
            ∙ any_others (unsynced_births c.system log) p (pid_of n)
            ∙ right (same_pid (pid_of n) p) (list_any (at_key n) (others_of (unsynced_births c.system log) p)) (ap (λ births. list_any (at_key n) (others_of births p)) (sym f.family) ∙ there)

    pub can_be_next : AllOwn c.cursor c.here → CanBeNext c.places c.family c.here c.owed
    can_be_next own = record {
      named = named;
      some = some_stated;
      can = λ p is. subst (λ places. CanHandOn places c.family c.here p) (sym (f.log).places) (can_hand_on p (first_is p is));
    }
      where
        named : (p : Pid) (r : BackRec) → record_at c.here p ≡ Some r → r.pid ≡ p
        named p r at = by_held (held_at c p) refl at
          where
            by_held : (o : Option Held) → held_at c p ≡ o → option_and_then record_told o ≡ Some r → r.pid ≡ p
            by_held (Some (Waits w)) there is = ap (λ (r : BackRec). r.pid) (sym (same_Some w.kept r is)) ∙ (own_at c.cursor c.here p (Waits w) own there).pid_is
            by_held _ there is = cc
