-- A child that never synchronised is in its parent's record; and from child to parent one comes to a process with a state in its record.
use Rattle.std.proofs.Common.{◌≡◌, refl, sym, ◌∙◌, ap, eq-eqb, inl, inr, List, [], ◌∷◌, Bool, true, false, ◌&&◌, ◌||◌, Option, Some, None, true≢false}
use Rattle.std.specs.Prelude.{option_map}
use Rattle.std.specs.List.{list_any}
use Rattle.std.proofs.lemmas.Bool.{and_parts, or_parts}
use Rattle.std.proofs.lemmas.Option.{same_Some}
use Rattle.t32_base.specs.declared.process.Pid.{Pid}
use Rattle.t32_base.specs.declared.letter.BackRec.{BackRec}
use Rattle.sys_text.specs.declared.system.System.{System}
use Rattle.sys_text.specs.Valid.{is_system}
use Rattle.proc_state.specs.State.{ProcState}
use Rattle.bus_msg.specs.declared.entry.Entry.{Entry}
use Rattle.bus_msg.specs.Places.{same_pid}
use Rattle.birth_notice.specs.Family.{are_births, stands_in}
use Rattle.birth_notice.proofs.BirthLaws.{three}
use Rattle.roll_forward.specs.Deeds.{births_in}
use Rattle.cert_sched.specs.Schedule.{placement}
use Rattle.cert_sched.specs.Deeds.{start_of, since}
use Rattle.cert_sched.specs.Family.{is_unsynced, births_of}
use Rattle.cert_sched.specs.Legal.{IsLegalBy, Stands}
use Rattle.cert_sched.specs.Record.{backup_record, has_state, record_from}
use Rattle.cert_sched.specs.Simulation.{IsUnended, bears}
use Rattle.cert_sched.proofs.CameLaws.{same_of}
use Rattle.cert_sched.proofs.ChildLaws.{child_with_parent}
use Rattle.cert_sched.proofs.FamilyLaws.{Pair, Member}
use Rattle.log_laws.specs.births.Unsynced.{unsynced_births}
use Rattle.log_laws.proofs.births.FamilyKept.{births_may_stand}
use Rattle.log_laws.proofs.births.Filters.{any_kept, kept_passes, one_passes, passes_any}
use Rattle.log_laws.proofs.births.UnsyncedChild.{parent_unended}
use Rattle.replay_laws.proofs.rolling.ByRule.{itself}
use Rattle.replay_laws.proofs.rolling.Stateless.{stateless_born, stateless_unsynced}
use Rattle.replay_laws.specs.forks.ForkWaits.{HasStatedOne}

-- ---- the record of a parent

-- the births of a record are those since its process started
births_kept : (system : System) (log : List Entry) (p : Pid) (kept : BackRec) → backup_record system log p ≡ Some kept → kept.births ≡ births_in (since log p)
unfolding backup_record
births_kept system log p kept is = by_start (start_of system log p) is
  where
    by_start : (o : Option ProcState) → option_map (record_from system log p) o ≡ Some kept → kept.births ≡ births_in (since log p)
    by_start None e = cc
    by_start (Some start) e = sym (ap (λ (r : BackRec). r.births) (same_Some (record_from system log p start) kept e))

pub in_the_record : (system : System) (log : List Entry) (parent child : Pid) (kept : BackRec) → is_system system ≡ true → IsLegalBy Stands system log → bears log parent child ≡ true → is_unsynced (placement system log) child ≡ true → backup_record system log parent ≡ Some kept
    → list_any (same_pid child) kept.births ≡ true
in_the_record system log parent child kept valid legal born unsynced is =
    ap (list_any (same_pid child)) (births_kept system log parent kept is) ∙ (child_with_parent Stands itself system log parent child valid legal born unsynced).recorded

-- ---- from child to parent

abbrev is_child : Pid → Pair → Bool
is_child p b = same_pid b.1 p

-- a parent in one of some births, who is no child in them and passes a test
record Head (test : Pid → Bool) (bs : List Pair) : Type 0 where
  pub birth : Pair
  pub member : Member birth bs
  pub no_child : list_any (is_child birth.0) bs ≡ false
  pub passes : test birth.0 ≡ true

-- each parent passes it whose child does
abbrev GoesUp : (Pid → Bool) → List Pair → Type 0
GoesUp test bs = (b : Pair) → Member b bs → test b.1 ≡ true → test b.0 ≡ true

-- the parent of the first birth is no child
first_head : (test : Pid → Bool) (b : Pair) (bs : List Pair) → are_births (b ∷ bs) ≡ true → GoesUp test (b ∷ bs) → test b.1 ≡ true → Head test (b ∷ bs)
first_head test b bs ok up passes =
    let parts = three (same_pid b.1 b.0) (list_any (λ (x : Pair). stands_in x.1 b) bs) (are_births bs) ok in
    record {
      birth = b;
      member = inl refl;
      no_child = λ i. parts.0 i || later bs parts.1 i;
      passes = up b (inl refl) passes;
    }
  where
    later : (cs : List Pair) → list_any (λ (x : Pair). stands_in x.1 b) cs ≡ false → list_any (is_child b.0) cs ≡ false
    later [] none = refl
    later (c ∷ cs) none =
        let both = or_parts (stands_in c.1 b) (list_any (λ (x : Pair). stands_in x.1 b) cs) none in
        let apart = or_parts (same_pid c.1 b.0) (same_pid c.1 b.1) both.0 in
        λ i. apart.0 i || later cs both.1 i

head_above : (test : Pid → Bool) (bs : List Pair) (p : Pid) → are_births bs ≡ true → GoesUp test bs → list_any (is_child p) bs ≡ true → test p ≡ true → Head test bs
head_above test [] p ok up among passes = absurd (true≢false (sym among))
head_above test (b ∷ bs) p ok up among passes =
    by_first (same_pid b.1 p) refl among
    (λ h. head_above test bs p (three (same_pid b.1 b.0) (list_any (λ (x : Pair). stands_in x.1 b) bs) (are_births bs) ok).2 (λ c m. up c (inr m)) h passes)
  where
    above : Head test bs → Head test (b ∷ bs)
    above h = by_child (same_pid b.1 (h.birth).0) refl
      where
        by_child : (t : Bool) → same_pid b.1 (h.birth).0 ≡ t → Head test (b ∷ bs)
        by_child true same = first_head test b bs ok up (ap test (same_of b.1 (h.birth).0 same) ∙ h.passes)
        by_child false other = record { birth = h.birth; member = inr h.member; no_child = λ i. other i || h.no_child i; passes = h.passes }

    by_first : (t : Bool) → same_pid b.1 p ≡ t → (t || list_any (is_child p) bs) ≡ true → (list_any (is_child p) bs ≡ true → Head test bs) → Head test (b ∷ bs)
    by_first true same h more = first_head test b bs ok up (ap test (same_of b.1 p same) ∙ passes)
    by_first false other h more = above (more h)

module _ (system : System) (log : List Entry) (test : Pid → Bool) (valid : is_system system ≡ true) (legal : IsLegalBy Stands system log) where
  -- a process without a state is the child in one of these births
  child_there : (p : Pid) → IsUnended system log p → has_state system log p ≡ false → list_any (is_child p) (unsynced_births system log) ≡ true
  child_there p unended stateless =
      let parent = stateless_born Stands system log p legal unended stateless in
      let unsynced = stateless_unsynced Stands itself system log p valid legal unended stateless in
      let one = one_passes (λ (b : Pair). same_pid b.0 parent.parent && same_pid b.1 p) (births_of log) parent.born in
      let both = and_parts (same_pid (one.pair).0 parent.parent) (same_pid (one.pair).1 p) one.passes in
      sym (any_kept (is_child p) (λ b. is_unsynced (placement system log) b.1) (births_of log))
      ∙ passes_any (λ (b : Pair). is_child p b && is_unsynced (placement system log) b.1) (births_of log) one.pair one.member
      (λ i. both.1 i && (ap (is_unsynced (placement system log)) (same_of (one.pair).1 p both.1) ∙ unsynced) i)

  -- these births are such as the test goes up by
  goes_up : ((parent child : Pid) → bears log parent child ≡ true → is_unsynced (placement system log) child ≡ true → test child ≡ true → test parent ≡ true) → GoesUp test (unsynced_births system log)
  goes_up up b m passes =
      let there = kept_passes (λ b. is_unsynced (placement system log) b.1) (births_of log) b m in
      let itself : (same_pid b.0 b.0 && same_pid b.1 b.1) ≡ true = λ i. eq-eqb (b.0).0 (b.0).0 refl i && eq-eqb (b.1).0 (b.1).0 refl i in
      up b.0 b.1 (passes_any (λ (c : Pair). same_pid c.0 b.0 && same_pid c.1 b.1) (births_of log) b there.0 itself) there.1 passes

  pub stated_above : ((parent child : Pid) → bears log parent child ≡ true → is_unsynced (placement system log) child ≡ true → test child ≡ true → test parent ≡ true) → (p : Pid) → IsUnended system log p → has_state system log p ≡ false → test p ≡ true
      → HasStatedOne system log test
  stated_above up p unended stateless passes =
      let h = head_above test (unsynced_births system log) p (births_may_stand system log valid legal) (goes_up up) (child_there p unended stateless) passes in
      let itself : (same_pid (h.birth).0 (h.birth).0 && same_pid (h.birth).1 (h.birth).1) ≡ true = λ i. eq-eqb ((h.birth).0).0 ((h.birth).0).0 refl i && eq-eqb ((h.birth).1).0 ((h.birth).1).0 refl i in
      let there : IsUnended system log (h.birth).0 =
      parent_unended system log (h.birth).0 (h.birth).1 valid legal (passes_any (λ (c : Pair). same_pid c.0 (h.birth).0 && same_pid c.1 (h.birth).1) (unsynced_births system log) h.birth h.member itself) in
      record { pid = (h.birth).0; unended = there; stated = by_state (h.birth).0 there h.no_child (has_state system log (h.birth).0) refl; passes = h.passes }
    where
      by_state : (q : Pid) → IsUnended system log q → list_any (is_child q) (unsynced_births system log) ≡ false → (b : Bool) → has_state system log q ≡ b → b ≡ true
      by_state q there none true is = refl
      by_state q there none false is = absurd (true≢false (sym (child_there q there is) ∙ none))
