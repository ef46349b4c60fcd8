-- A child that never synchronised is a birth in the record of its parent.
use Rattle.std.proofs.Common.{◌≡◌, ℕ, refl, sym, ◌∙◌, ap, subst, inl, inr, ◌⊎◌, List, [], ◌∷◌, ◌++◌, map, Bool, true, false, cond, not, ◌&&◌, ◌||◌, eqb-true, eq-eqb, is_some, true≢false}
use Rattle.std.specs.List.{list_any}
use Rattle.std.specs.Option.{option_map_or}
use Rattle.std.proofs.lemmas.Bool.{and_from, and_parts, or_left}
use Rattle.std.proofs.lemmas.Grind.{flat_map-append}
use Rattle.std.proofs.lemmas.List.Folds.{list_any-append}
use Rattle.t32_base.specs.declared.process.Pid.{Pid}
use Rattle.t32_base.specs.declared.process.End.{End}
use Rattle.sys_text.specs.declared.system.System.{System}
use Rattle.sys_text.specs.Valid.{is_system}
use Rattle.bus_msg.specs.declared.entry.What.{What}
use Rattle.bus_msg.specs.declared.entry.What.TheVariants.{Birth, Exit, Sync, Crash, Rebackup}
use Rattle.bus_msg.specs.declared.entry.Entry.{Entry}
use Rattle.bus_msg.specs.declared.placed.Placed.{Placed}
use Rattle.bus_msg.specs.Places.{same_pid, unended_at}
use Rattle.bus_msg.specs.PlacedAfter.{what, placed_after, after_sync, after_loss, after_rebackup}
use Rattle.cert_sched.specs.Schedule.{placement}
use Rattle.roll_forward.specs.Deeds.{Deed, Bears, births_in, child_in}
use Rattle.cert_sched.specs.Deeds.{is_cut, is_birth_of, since, deeds_in}
use Rattle.cert_sched.specs.Family.{is_unsynced, born, births_of, has_unsynced_child}
use Rattle.cert_sched.specs.Rules.{is_by_right}
use Rattle.cert_sched.specs.Kinds.{KindHolds, ChildrenSynced}
use Rattle.cert_sched.specs.Legal.{IsLegalBy, Stands}
use Rattle.cert_sched.specs.Simulation.{IsWithParent, bears}
use Rattle.cert_sched.proofs.LogLaws.{placement-snoc}
use Rattle.cert_sched.proofs.RecordLaws.{since-snoc}
use Rattle.cert_sched.proofs.Induction.{legal_induction}
use Rattle.cert_sched.proofs.CameLaws.{IsStandingRule}
use Rattle.cert_sched.proofs.ThereLaws.{found_among}
use Rattle.cert_sched.proofs.FreshLaws.{BornRightly, born_rightly, child_new}
use Rattle.cert_sched.proofs.FamilyLaws.{Pair, Member, none_of, among, In, not_in, Families, families, families_at_boot, families_more, births_more, was_unsynced, StaysSynced, sync_synced, loss_synced, backup_synced, exit_there, exit_elsewhere, found_born, or_right}
use Rattle.cert_sched.proofs.UnendedLaws.{Keeps, unended_map, sync_keeps, loss_keeps, backup_keeps}

module _ (system : System) (log : List Entry) (e : Entry) (stands : Stands system log e) (all : Families system log) where
  by_change : (f : Placed → Placed) → Keeps f → StaysSynced f → (w : What) → (placed_after (placement system log) w).placed ≡ map f (placement system log).placed → (p : Pid) → is_unsynced (placed_after (placement system log) w) p ≡ true → is_unsynced (placement system log) p ≡ true
  by_change f keeps stays w placed p h =
      was_unsynced f stays (unended_at (placement system log) p)
      (sym (ap (λ o. option_map_or (λ (q : Placed). not q.synced) o false) (unended_map f keeps (placement system log) (placed_after (placement system log) w) placed p)) ∙ h)

  by_exit : (r : Pid) (at : ℕ) (end : End) (p : Pid) → is_unsynced (placed_after (placement system log) (Exit r at end)) p ≡ true → (x : Bool) → same_pid p r ≡ x → is_unsynced (placement system log) p ≡ true
  by_exit r at end p h true same = absurd (true≢false (sym h ∙ ap (λ o. option_map_or (λ (q : Placed). not q.synced) o false) (exit_there (placement system log) r p at end same)))
  by_exit r at end p h false apart = sym (ap (λ o. option_map_or (λ (q : Placed). not q.synced) o false) (exit_elsewhere (placement system log) r p at end apart)) ∙ h

  -- a process that was placed and is unsynced was unsynced
  pub unsynced_by : (w : What) → what e ≡ w → KindHolds system log e w → is_by_right (placement system log) (e.post).by w ≡ true → (p : Pid) → In p.0 (placement system log) → is_unsynced (placed_after (placement system log) w) p ≡ true → is_unsynced (placement system log) p ≡ true
  unsynced_by (Birth parent at child end) is kind right p there h =
      let born = born_rightly (placement system log) (e.post).by parent child right kind.child_is in
      let old = found_born system log e stands all parent at child end is born p (not_in p.0 child (placement system log) (child_new (placement system log) parent child all.numbered born) there) in
      sym (ap (λ o. option_map_or (λ (q : Placed). not q.synced) o false) old) ∙ ap (λ places. is_unsynced places p) (placement-snoc system log e ∙ ap (placed_after (placement system log)) is) ∙ h
  unsynced_by (Exit r at end) is kind right p there h = by_exit r at end p h (same_pid p r) refl
  unsynced_by (Sync q small read took) is kind right p there h = by_change (after_sync q) (sync_keeps q) (sync_synced q) (Sync q small read took) refl p h
  unsynced_by (Crash k cause) is kind right p there h = by_change (after_loss k) (loss_keeps k) (λ q s. sym (loss_synced k q) ∙ s) (Crash k cause) refl p h
  unsynced_by (Rebackup to fresh recs) is kind right p there h = by_change (after_rebackup to fresh recs) (backup_keeps to fresh recs) (backup_synced system log e all to fresh recs) (Rebackup to fresh recs) refl p h
  unsynced_by _ is kind right p there h = h

  -- a process is cut only where its children have synchronised
  cut_children : (w : What) → KindHolds system log e w → (p : Pid) → is_cut p w ≡ true → ChildrenSynced system log p
  cut_children (Sync q small read took) kind p cut = ap (has_unsynced_child system log) (λ i. record { 0 = sym (eqb-true q.0 p.0 cut) i }) ∙ kind.children
  cut_children (Rebackup to true []) kind p cut = absurd kind
  cut_children (Rebackup to true (r ∷ rs)) kind p cut = ap (has_unsynced_child system log) (λ i. record { 0 = sym (eqb-true (r.pid).0 p.0 cut) i }) ∙ kind.children
  cut_children _ kind p cut = absurd (true≢false (sym cut))

  -- no process that is placed is born
  pub no_birth_of : (w : What) → KindHolds system log e w → is_by_right (placement system log) (e.post).by w ≡ true → (p : Pid) → In p.0 (placement system log) → is_birth_of p w ≡ false
  no_birth_of (Birth parent at child end) kind right p there =
      not_in p.0 child (placement system log) (child_new (placement system log) parent child all.numbered (born_rightly (placement system log) (e.post).by parent child right kind.child_is)) there
  no_birth_of _ kind right p there = refl

-- each child that never synchronised is a birth since its parent started
abbrev pub Recorded : System → List Entry → Type 0
Recorded system log = (b : Pair) → Member b (births_of log) → is_unsynced (placement system log) b.1 ≡ true → among b.1 (births_in (since log b.0)) ≡ true

births_more_in : (x y : List Deed) → births_in (x ++ y) ≡ births_in x ++ births_in y
births_more_in x y = flat_map-append child_in x y

module _ (system : System) (log : List Entry) (e : Entry) (stands : Stands system log e) (all : Families system log) (before : Recorded system log) where
  unsynced_before : (p : Pid) → In p.0 (placement system log) → is_unsynced (placement system (log ++ e ∷ [])) p ≡ true → is_unsynced (placement system log) p ≡ true
  unsynced_before p there h = unsynced_by system log e stands all (what e) refl stands.kind stands.by_right p there (sym (ap (λ places. is_unsynced places p) (placement-snoc system log e)) ∙ h)

  -- a parent that is placed goes on
  goes_on : (p : Pid) → is_cut p (what e) ≡ false → is_birth_of p (what e) ≡ false → since (log ++ e ∷ []) p ≡ since log p ++ deeds_in p (what e)
  goes_on p no_cut no_birth = since-snoc log e p ∙ (λ i. cond (no_cut i || no_birth i) [] (since log p ++ deeds_in p (what e)))

  old_pair : (b : Pair) → Member b (births_of log) → is_unsynced (placement system (log ++ e ∷ [])) b.1 ≡ true → among b.1 (births_in (since (log ++ e ∷ []) b.0)) ≡ true
  old_pair b m h = by_cut (is_cut b.0 (what e)) refl
    where
      there : In (b.0).0 (placement system log) × In (b.1).0 (placement system log)
      there = all.pairs_in b m

      unsynced : is_unsynced (placement system log) b.1 ≡ true
      unsynced = unsynced_before b.1 there.1 h

      by_cut : (x : Bool) → is_cut b.0 (what e) ≡ x → among b.1 (births_in (since (log ++ e ∷ []) b.0)) ≡ true
      by_cut true cut =
          absurd (true≢false (sym (and_from (same_pid b.0 b.0) (is_unsynced (placement system log) b.1) (eq-eqb (b.0).0 (b.0).0 refl) unsynced)
          ∙ none_of (λ (c : Pair). same_pid c.0 b.0 && is_unsynced (placement system log) c.1) (births_of log) (cut_children system log e stands all (what e) stands.kind b.0 cut) b m))
      by_cut false no_cut =
          ap (λ ds. among b.1 (births_in ds)) (goes_on b.0 no_cut (no_birth_of system log e stands all (what e) stands.kind stands.by_right b.0 there.0))
          ∙ ap (among b.1) (births_more_in (since log b.0) (deeds_in b.0 (what e))) ∙ list_any-append (same_pid b.1) (births_in (since log b.0)) (births_in (deeds_in b.0 (what e)))
          ∙ or_left (among b.1 (births_in (since log b.0))) (among b.1 (births_in (deeds_in b.0 (what e)))) (before b m unsynced)

  new_pair : (parent : Pid) (at : ℕ) (child : Pid) (end : ℕ) → what e ≡ Birth parent at child end → BornRightly (placement system log) parent child → among child (births_in (since (log ++ e ∷ []) parent)) ≡ true
  new_pair parent at child end is born =
      let new = child_new (placement system log) parent child all.numbered born in
      let parent_in = found_among parent (placement system log).placed (ap is_some born.found) in
      let deeds : deeds_in parent (what e) ≡ Bears child ∷ [] = ap (deeds_in parent) is ∙ ap (λ (b : Bool). cond b (Bears child ∷ []) []) (eq-eqb parent.0 parent.0 refl) in
      ap (λ ds. among child (births_in ds)) (goes_on parent (ap (is_cut parent) is) (ap (is_birth_of parent) is ∙ not_in parent.0 child (placement system log) new parent_in) ∙ ap (λ ds. since log parent ++ ds) deeds)
      ∙ ap (among child) (births_more_in (since log parent) (Bears child ∷ [])) ∙ list_any-append (same_pid child) (births_in (since log parent)) (child ∷ [])
      ∙ or_right (among child (births_in (since log parent))) (same_pid child child) (eq-eqb child.0 child.0 refl)

  by_kind : (w : What) → what e ≡ w → KindHolds system log e w → is_by_right (placement system log) (e.post).by w ≡ true → (b : Pair) → Member b (births_of log) ⊎ Member b (born w) → is_unsynced (placement system (log ++ e ∷ [])) b.1 ≡ true → among b.1 (births_in (since (log ++ e ∷ []) b.0)) ≡ true
  by_kind w is kind right b (inl m) h = old_pair b m h
  by_kind (Birth parent at child end) is kind right b (inr (inl same)) h =
      subst (λ (c : Pair). among c.1 (births_in (since (log ++ e ∷ []) c.0)) ≡ true) (sym same) (new_pair parent at child end is (born_rightly (placement system log) (e.post).by parent child right kind.child_is))
  by_kind (Birth parent at child end) is kind right b (inr (inr none)) h = absurd none
  by_kind _ is kind right b (inr m) h = absurd m

pub member_either : (b : Pair) (xs ys : List Pair) → Member b (xs ++ ys) → Member b xs ⊎ Member b ys
member_either b [] ys m = inr m
member_either b (x ∷ xs) ys (inl same) = inl (inl same)
member_either b (x ∷ xs) ys (inr later) = by_part (member_either b xs ys later)
  where
    by_part : Member b xs ⊎ Member b ys → Member b (x ∷ xs) ⊎ Member b ys
    by_part (inl m) = inl (inr m)
    by_part (inr m) = inr m

record Both (system : System) (log : List Entry) : Type 0 where
  pub all : Families system log
  pub recorded : Recorded system log

-- in a legal log each child that never synchronised is a birth in the record of its parent
pub recorded : (May : System → List Entry → Entry → Type 0) → IsStandingRule May → (system : System) (log : List Entry) → is_system system ≡ true → IsLegalBy May system log → Recorded system log
recorded May standing system log valid legal =
    (legal_induction May system (Both system) (record { all = families_at_boot system valid; recorded = λ b m h. absurd m })
    (λ log e both may. let h = standing system log e may in record {
      all = families_more system log e h both.all;
      recorded = λ b m u. by_kind system log e h both.all both.recorded (what e) refl h.kind h.by_right b (member_either b (births_of log) (born (what e)) (subst (Member b) (births_more system log e h both.all) m)) u;
    }) log legal).recorded

-- ---- with its parent

-- a pair that passes
pub record Passes (t : Pair → Bool) (bs : List Pair) : Type 0 where
  pub pair : Pair
  pub member : Member pair bs
  pub passes : t pair ≡ true

pub one_passes : (t : Pair → Bool) (bs : List Pair) → list_any t bs ≡ true → Passes t bs
one_passes t [] any = absurd (true≢false (sym any))
one_passes t (b ∷ bs) any = by_test (t b) refl any (one_passes t bs)
  where
    by_test : (x : Bool) → t b ≡ x → (x || list_any t bs) ≡ true → (list_any t bs ≡ true → Passes t bs) → Passes t (b ∷ bs)
    by_test true is h more = record { pair = b; member = inl refl; passes = is }
    by_test false is h more = let p = more h in record { pair = p.pair; member = inr p.member; passes = p.passes }

-- in a legal log a child that never synchronised is placed with its parent, and is a birth in its record
pub child_with_parent : (May : System → List Entry → Entry → Type 0) → IsStandingRule May → (system : System) (log : List Entry) (parent child : Pid) → is_system system ≡ true → IsLegalBy May system log
    → bears log parent child ≡ true → is_unsynced (placement system log) child ≡ true → IsWithParent system log parent child
child_with_parent May standing system log parent child valid legal born unsynced =
    let p = one_passes (λ (b : Pair). same_pid b.0 parent && same_pid b.1 child) (births_of log) born in
    let both = and_parts (same_pid (p.pair).0 parent) (same_pid (p.pair).1 child) p.passes in
    let parent_is : (p.pair).0 ≡ parent = λ i. record { 0 = eqb-true ((p.pair).0).0 parent.0 both.0 i } in
    let child_is : (p.pair).1 ≡ child = λ i. record { 0 = eqb-true ((p.pair).1).0 child.0 both.1 i } in
    let open_still = ap (is_unsynced (placement system log)) child_is ∙ unsynced in
    let t = (families May standing system log valid legal).together p.pair p.member open_still in
    record {
      at_parent = t.parent;
      at_child = t.child;
      parent_at = ap (unended_at (placement system log)) (sym parent_is) ∙ t.parent_at;
      child_at = ap (unended_at (placement system log)) (sym child_is) ∙ t.child_at;
      home = t.home;
      backup = t.backup;
      recorded = ap (λ q. among q (births_in (since log parent))) (sym child_is) ∙ ap (λ q. among (p.pair).1 (births_in (since log q))) (sym parent_is) ∙ recorded May standing system log valid legal p.pair p.member open_still;
    }
