-- A process that was never cut in a legal log never synchronised; and one that has not ended and is no root was born there.
use Rattle.std.proofs.Common.{◌≡◌, ℕ, refl, sym, ◌∙◌, ap, subst, List, [], ◌∷◌, ◌++◌, append-nil, map, Bool, true, false, cond, not, ◌&&◌, ◌||◌, eqb, eq-eqb, ne_eqb, Option, Some, None, is_some, true≢false}
use Rattle.std.specs.Prelude.{find, option_map}
use Rattle.std.specs.List.{list_any}
use Rattle.std.specs.Option.{option_map_or, option_or}
use Rattle.std.proofs.lemmas.Grind.{flat_map-append}
use Rattle.std.proofs.lemmas.List.Folds.{find-append, list_any-append}
use Rattle.std.proofs.lemmas.Option.{same_Some}
use Rattle.std.proofs.lemmas.Bool.{or_parts}
use Rattle.t32_base.specs.declared.process.Pid.{Pid}
use Rattle.t32_base.specs.declared.process.ClusterNo.{ClusterNo}
use Rattle.t32_base.specs.declared.letter.BackRec.{BackRec}
use Rattle.sys_text.specs.declared.system.System.{System}
use Rattle.sys_text.specs.declared.system.Root.{Root}
use Rattle.sys_text.specs.Valid.{is_system}
use Rattle.sys_text.specs.Boot.{roots_of}
use Rattle.bus_msg.specs.declared.entry.What.{What}
use Rattle.bus_msg.specs.declared.entry.What.TheVariants.{Birth, Exit, Sync, Crash, Rebackup}
use Rattle.bus_msg.specs.declared.entry.Entry.{Entry}
use Rattle.bus_msg.specs.declared.placed.Placed.{Placed}
use Rattle.bus_msg.specs.Places.{Places, same_pid, placed_at, unended_at}
use Rattle.bus_msg.specs.PlacedAfter.{what, placed_after, with_birth, child_of, after_sync, after_loss, after_rebackup, is_named}
use Rattle.cert_sched.specs.Schedule.{placement, placed_root}
use Rattle.cert_sched.specs.Deeds.{is_cut, is_birth_of}
use Rattle.cert_sched.specs.Family.{is_unsynced, born, births_of}
use Rattle.cert_sched.specs.Record.{backup_record, has_state, is_root}
use Rattle.cert_sched.specs.Rules.{is_by_right}
use Rattle.cert_sched.specs.Kinds.{KindHolds, FreshHolds}
use Rattle.cert_sched.specs.Legal.{IsLegalBy, Stands}
use Rattle.cert_sched.specs.Simulation.{IsUnended, bears}
use Rattle.cert_sched.proofs.LogLaws.{placement-snoc}
use Rattle.cert_sched.proofs.Induction.{legal_induction}
use Rattle.cert_sched.proofs.PidLaws.{placed_pids}
use Rattle.cert_sched.proofs.CameLaws.{IsStandingRule, same_of}
use Rattle.cert_sched.proofs.ThereLaws.{found_among}
use Rattle.cert_sched.proofs.UnendedLaws.{Keeps, unended_map, unended_pid, sync_keeps, loss_keeps, backup_keeps}
use Rattle.cert_sched.proofs.FreshLaws.{Numbered, numbered_at_boot, numbered_more, born_rightly, child_new}
use Rattle.cert_sched.proofs.FamilyLaws.{was_cut_in, loss_synced, exit_there, exit_elsewhere}
use Rattle.replay_laws.specs.rolling.Parents.{HasParent}
use Rattle.replay_laws.proofs.rolling.Bearing.{birth_is}
use Rattle.replay_laws.proofs.rolling.UnendedBefore.{before_unended, birth_beside}

-- ---- who was never cut never synchronised

-- what is found has not synchronised
abbrev IsFresh : Option Placed → Type 0
IsFresh o = (q : Placed) → o ≡ Some q → q.synced ≡ false

turned : (a b : Pid) → same_pid a b ≡ false → same_pid b a ≡ false
turned a b h = ne_eqb b.0 a.0 (λ e. true≢false (sym (eq-eqb a.0 b.0 (sym e)) ∙ h))

-- a change that leaves what is found of this process
mapped_fresh : (f : Placed → Placed) → Keeps f → (places after : Places) → after.placed ≡ map f places.placed → (p : Pid) → IsFresh (unended_at places p) → ((q : Placed) → q.pid ≡ p → q.synced ≡ false → (f q).synced ≡ false) → IsFresh (unended_at after p)
mapped_fresh f keeps places after is p fresh stays q found = by_found (unended_at places p) refl fresh (sym (unended_map f keeps places after is p) ∙ found)
  where
    by_found : (o : Option Placed) → unended_at places p ≡ o → IsFresh o → option_map f o ≡ Some q → q.synced ≡ false
    by_found None there was e = cc
    by_found (Some x) there was e = ap (λ (r : Placed). r.synced) (sym (same_Some (f x) q e)) ∙ stays x (unended_pid places p x there) (was x refl)

module _ (system : System) (log : List Entry) (e : Entry) (stands : Stands system log e) (numbered : Numbered (placement system log)) (p : Pid) (fresh : IsFresh (unended_at (placement system log) p)) where
  sync_fresh : (q : Placed) (r : Pid) → q.pid ≡ p → same_pid r p ≡ false → q.synced ≡ false → (after_sync r q).synced ≡ false
  sync_fresh q r pid other was = ap (λ (b : Bool). (cond b (record q { synced = true }) q).synced) (ap (λ x. same_pid x r) pid ∙ turned r p other) ∙ was

  exit_fresh : (r : Pid) (w : What) → (same_pid p r ≡ true → unended_at (placed_after (placement system log) w) p ≡ None) → (same_pid p r ≡ false → unended_at (placed_after (placement system log) w) p ≡ unended_at (placement system log) p) → IsFresh (unended_at (placed_after (placement system log) w) p)
  exit_fresh r w there elsewhere q found = by_pid (same_pid p r) refl
    where
      by_pid : (b : Bool) → same_pid p r ≡ b → q.synced ≡ false
      by_pid true is = absurd (true≢false (ap is_some (sym found ∙ there is)))
      by_pid false is = fresh q (sym (elsewhere is) ∙ found)

  -- the child itself, which was not placed before
  child_fresh : (child : Pid) → list_any (λ m. eqb m child.0) (placed_pids (placement system log).placed) ≡ false → (o : Option Placed) → IsFresh (unended_at (with_birth (placement system log) child o) child)
  child_fresh child new None q found = absurd (true≢false (sym (found_among child (placement system log).placed (ap is_some found)) ∙ new))
  child_fresh child new (Some r) q found =
      by_found (unended_at (placement system log) child) refl (sym (find-append (λ (q : Placed). same_pid q.pid child && not q.ended) (placement system log).placed (child_of r child ∷ [])) ∙ found)
    where
      by_test : (b : Bool) → cond (b && true) (Some (child_of r child)) None ≡ Some q → q.synced ≡ false
      by_test true e = ap (λ (x : Placed). x.synced) (sym (same_Some (child_of r child) q e))
      by_test false e = cc

      by_found : (o : Option Placed) → unended_at (placement system log) child ≡ o → option_or o (find (λ (q : Placed). same_pid q.pid child && not q.ended) (child_of r child ∷ [])) ≡ Some q → q.synced ≡ false
      by_found None there e = by_test (same_pid child child) e
      by_found (Some x) there e = absurd (true≢false (sym (found_among child (placement system log).placed (ap is_some there)) ∙ new))

  birth_fresh : (parent : Pid) (at : ℕ) (child : Pid) (end : ℕ) → what e ≡ Birth parent at child end → IsFresh (unended_at (placed_after (placement system log) (Birth parent at child end)) p)
  birth_fresh parent at child end is = by_pid (same_pid child p) refl
    where
      rightly : list_any (λ m. eqb m child.0) (placed_pids (placement system log).placed) ≡ false
      rightly =
          child_new (placement system log) parent child numbered
          (born_rightly (placement system log) (e.post).by parent child (subst (λ w. is_by_right (placement system log) (e.post).by w ≡ true) is stands.by_right) (subst (KindHolds system log e) is stands.kind).child_is)

      by_pid : (b : Bool) → same_pid child p ≡ b → IsFresh (unended_at (placed_after (placement system log) (Birth parent at child end)) p)
      by_pid true same = subst (λ r. IsFresh (unended_at (with_birth (placement system log) child (placed_at (placement system log) parent)) r)) (same_of child p same) (child_fresh child rightly (placed_at (placement system log) parent))
      by_pid false other = λ q found. fresh q (sym (birth_beside p child (placement system log) (placed_at (placement system log) parent) other) ∙ found)

  -- a new backup
  named_alone : (r : BackRec) (rs : List BackRec) (q : Placed) (o : Option BackRec) → map Some (r ∷ rs) ≡ o ∷ [] → is_named (r ∷ rs) q ≡ same_pid r.pid q.pid
  named_alone r [] q o is = or_nothing (same_pid r.pid q.pid)
    where
      or_nothing : (b : Bool) → (b || false) ≡ b
      or_nothing true = refl
      or_nothing false = refl
  named_alone r (s ∷ rs) q o is = cc

  backup_fresh : (to : ClusterNo) (anew : Bool) (recs : List BackRec) (q : Placed) → what e ≡ Rebackup to anew recs → is_cut p (Rebackup to anew recs) ≡ false → q.pid ≡ p → q.synced ≡ false → (after_rebackup to anew recs q).synced ≡ false
  backup_fresh to false recs q is no_cut pid was = by_named (is_named recs q)
    where
      by_named : (b : Bool) → (cond b (record q { backup = Some to; synced = q.synced || false }) q).synced ≡ false
      by_named true = ap (λ b. b || false) was
      by_named false = was
  backup_fresh to true [] q is no_cut pid was = was
  backup_fresh to true (r ∷ rs) q is no_cut pid was =
      let holds : FreshHolds system log e r.pid to (r ∷ rs) = subst (KindHolds system log e) is stands.kind in
      ap (λ (b : Bool). (cond b (record q { backup = Some to; synced = q.synced || true }) q).synced)
      (named_alone r rs q (backup_record system (log ++ e ∷ []) r.pid) holds.records ∙ ap (same_pid r.pid) pid ∙ no_cut)
      ∙ was

  fresh_by : (w : What) → what e ≡ w → is_cut p w ≡ false → IsFresh (unended_at (placed_after (placement system log) w) p)
  fresh_by (Birth parent at child end) is no_cut = birth_fresh parent at child end is
  fresh_by (Exit r at end) is no_cut = exit_fresh r (Exit r at end) (exit_there (placement system log) r p at end) (exit_elsewhere (placement system log) r p at end)
  fresh_by (Sync r small read took) is no_cut = mapped_fresh (after_sync r) (sync_keeps r) (placement system log) (placed_after (placement system log) (Sync r small read took)) refl p fresh (λ q pid was. sync_fresh q r pid no_cut was)
  fresh_by (Crash k cause) is no_cut = mapped_fresh (after_loss k) (loss_keeps k) (placement system log) (placed_after (placement system log) (Crash k cause)) refl p fresh (λ q pid was. loss_synced k q ∙ was)
  fresh_by (Rebackup to anew recs) is no_cut =
      mapped_fresh (after_rebackup to anew recs) (backup_keeps to anew recs) (placement system log) (placed_after (placement system log) (Rebackup to anew recs)) refl p fresh (λ q pid was. backup_fresh to anew recs q is no_cut pid was)
  fresh_by _ is no_cut = fresh

record Cut (log : List Entry) (e : Entry) (p : Pid) : Type 0 where
  pub before : was_cut_in log p ≡ false
  pub now : is_cut p (what e) ≡ false

cut_parts : (log : List Entry) (e : Entry) (p : Pid) → was_cut_in (log ++ e ∷ []) p ≡ false → Cut log e p
cut_parts log e p none =
    let both = or_parts (was_cut_in log p) (is_cut p (what e) || false) (sym (list_any-append (λ (f : Entry). is_cut p (what f)) log (e ∷ [])) ∙ none) in
    record { before = both.0; now = (or_parts (is_cut p (what e)) false both.1).0 }

record AllFresh (system : System) (log : List Entry) : Type 0 where
  pub numbered : Numbered (placement system log)
  pub each : (p : Pid) → was_cut_in log p ≡ false → IsFresh (unended_at (placement system log) p)

root_fresh : (t : Placed → Bool) (roots : List (Pid × Root)) (q : Placed) → find t (map placed_root roots) ≡ Some q → q.synced ≡ false
root_fresh t [] q e = cc
root_fresh t (r ∷ roots) q e = by_test (t (placed_root r)) e (root_fresh t roots q)
  where
    by_test : (b : Bool) → cond b (Some (placed_root r)) (find t (map placed_root roots)) ≡ Some q → (find t (map placed_root roots) ≡ Some q → q.synced ≡ false) → q.synced ≡ false
    by_test true e more = ap (λ (x : Placed). x.synced) (sym (same_Some (placed_root r) q e))
    by_test false e more = more e

fresh_at_boot : (system : System) → is_system system ≡ true → AllFresh system []
unfolding placement
fresh_at_boot system valid = record { numbered = numbered_at_boot system valid; each = λ p none. root_fresh (λ (q : Placed). same_pid q.pid p && not q.ended) (roots_of system) }

fresh_more : (system : System) (log : List Entry) (e : Entry) → AllFresh system log → Stands system log e → AllFresh system (log ++ e ∷ [])
fresh_more system log e fresh stands = record {
  numbered = numbered_more system log e stands fresh.numbered;
  each = λ p none.
      let cut = cut_parts log e p none in
      subst (λ places. IsFresh (unended_at places p)) (sym (placement-snoc system log e)) (fresh_by system log e stands fresh.numbered p (fresh.each p cut.before) (what e) refl cut.now);
}

-- a process that has not ended and has no state in its record never synchronised
pub stateless_unsynced : (May : System → List Entry → Entry → Type 0) → IsStandingRule May → (system : System) (log : List Entry) (p : Pid) → is_system system ≡ true → IsLegalBy May system log → IsUnended system log p → has_state system log p ≡ false
    → is_unsynced (placement system log) p ≡ true
stateless_unsynced May standing system log p valid legal unended stateless = by_found (unended_at (placement system log) p) refl unended
  where
    uncut : was_cut_in log p ≡ false
    uncut = (or_parts (is_root system p) (was_cut_in log p) stateless).1

    all : AllFresh system log
    all = legal_induction May system (AllFresh system) (fresh_at_boot system valid) (λ log e fresh may. fresh_more system log e fresh (standing system log e may)) log legal

    by_found : (o : Option Placed) → unended_at (placement system log) p ≡ o → is_some o ≡ true → is_unsynced (placement system log) p ≡ true
    by_found None is there = absurd (true≢false (sym there))
    by_found (Some q) is there = ap (λ o. option_map_or (λ (q : Placed). not q.synced) o false) is ∙ ap not (all.each p uncut q is)

-- ---- who is no root was born

among_roots : (p : Pid) (roots : List (Pid × Root)) → list_any (λ m. eqb m p.0) (placed_pids (map placed_root roots)) ≡ list_any (λ (r : Pid × Root). same_pid r.0 p) roots
among_roots p [] = refl
among_roots p (r ∷ roots) = ap (λ b. eqb (r.0).0 p.0 || b) (among_roots p roots)

unended_root : (system : System) (p : Pid) → IsUnended system [] p → is_root system p ≡ true
unfolding placement
unended_root system p unended = sym (among_roots p (roots_of system)) ∙ found_among p (placement system []).placed unended

births_more : (log : List Entry) (e : Entry) → births_of (log ++ e ∷ []) ≡ births_of log ++ born (what e)
births_more log e = flat_map-append (λ (f : Entry). born (what f)) log (e ∷ []) ∙ ap (λ bs. births_of log ++ bs) (append-nil (born (what e)))

bears_more : (log : List Entry) (e : Entry) (parent p : Pid) → bears (log ++ e ∷ []) parent p ≡ (bears log parent p || list_any (λ (b : Pid × Pid). same_pid b.0 parent && same_pid b.1 p) (born (what e)))
bears_more log e parent p =
    ap (list_any (λ (b : Pid × Pid). same_pid b.0 parent && same_pid b.1 p)) (births_more log e) ∙ list_any-append (λ (b : Pid × Pid). same_pid b.0 parent && same_pid b.1 p) (births_of log) (born (what e))

pub parent_of : (May : System → List Entry → Entry → Type 0) (system : System) (log : List Entry) (p : Pid) → IsLegalBy May system log → IsUnended system log p → is_root system p ≡ false → HasParent log p
parent_of May system log p legal unended no_root =
    legal_induction May system (λ log. IsUnended system log p → HasParent log p) (λ unended. absurd (true≢false (sym (unended_root system p unended) ∙ no_root))) (λ log e before may. more log e before) log legal unended
  where
    or_true : (b : Bool) → (b || true) ≡ true
    or_true true = refl
    or_true false = refl

    more : (log : List Entry) (e : Entry) → (IsUnended system log p → HasParent log p) → IsUnended system (log ++ e ∷ []) p → HasParent (log ++ e ∷ []) p
    more log e before unended = by_birth (is_birth_of p (what e)) refl
      where
        by_birth : (b : Bool) → is_birth_of p (what e) ≡ b → HasParent (log ++ e ∷ []) p
        by_birth true birth =
            let b = birth_is (what e) p birth in
            let here : list_any (λ (c : Pid × Pid). same_pid c.0 b.parent && same_pid c.1 p) (born (what e)) ≡ true =
            ap (λ w. list_any (λ (c : Pid × Pid). same_pid c.0 b.parent && same_pid c.1 p) (born w)) b.is ∙ (λ i. (eq-eqb (b.parent).0 (b.parent).0 refl i && eq-eqb p.0 p.0 refl i) || false) in
            record { parent = b.parent; born = bears_more log e b.parent p ∙ ap (λ x. bears log b.parent p || x) here ∙ or_true (bears log b.parent p) }
        by_birth false unborn =
            let was = before_unended (what e) (placement system log) p unborn (sym (ap (λ places. is_some (unended_at places p)) (placement-snoc system log e)) ∙ unended) in
            let h = before was.1 in
            record { parent = h.parent; born = bears_more log e h.parent p ∙ ap (λ x. x || list_any (λ (c : Pid × Pid). same_pid c.0 h.parent && same_pid c.1 p) (born (what e))) h.born }

-- so a process that has not ended and has no state in its record has a parent
pub stateless_born : (May : System → List Entry → Entry → Type 0) (system : System) (log : List Entry) (p : Pid) → IsLegalBy May system log → IsUnended system log p → has_state system log p ≡ false → HasParent log p
stateless_born May system log p legal unended stateless = parent_of May system log p legal unended (or_parts (is_root system p) (was_cut_in log p) stateless).0
