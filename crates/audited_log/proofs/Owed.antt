-- No process is owed a backup, asked of one after the other.
use Rattle.std.proofs.Common.{◌≡◌, ℕ, zero, suc, ◌+◌, refl, sym, ◌∙◌, ap, subst, arith, List, [], ◌∷◌, length, Bool, true, false, cond, not, ◌&&◌, ◌||◌, slice_get, Some, None, true≢false}
use Rattle.std.specs.Prelude.{find, is_none, is_some}
use Rattle.std.specs.List.{list_all, list_any, range_with_len}
use Rattle.std.specs.Option.{option_map_or}
use Rattle.std.proofs.lemmas.Bool.{and_parts, not-true, or_parts}
use Rattle.std.proofs.lemmas.Option.{same_Some}
use Rattle.t32_base.specs.declared.process.Pid.{Pid}
use Rattle.t32_base.proofs.Facts.{eqb_turned}
use Rattle.bus_msg.specs.declared.placed.Placed.{Placed}
use Rattle.bus_msg.specs.NewBackup.{backup_by_mode, next_backup, next_backup_at}
use Rattle.bus_msg.specs.Places.{Places, same_pid}
use Rattle.channel_table.specs.Changes.{pids_differ}
use Rattle.cert_sched.specs.Rules.{owes_no_backup}
use Rattle.audited_log.specs.Backups.{is_owed_none}
use Rattle.audited_log.proofs.Telling.{itself}

-- ---- each is found by its pid

abbrev is_there : Pid → Placed → Bool
is_there p r = same_pid r.pid p && not r.ended

none_found : (p : Pid) (qs : List Placed) → list_any (λ (r : Placed). same_pid r.pid p) qs ≡ false → find (is_there p) qs ≡ None
none_found p [] none = refl
none_found p (r ∷ rs) none = by_test (same_pid r.pid p) none (none_found p rs)
  where
    by_test : (b : Bool) → (b || list_any (λ (r : Placed). same_pid r.pid p) rs) ≡ false
        → (list_any (λ (r : Placed). same_pid r.pid p) rs ≡ false → find (is_there p) rs ≡ None)
        → cond (b && not r.ended) (Some r) (find (is_there p) rs) ≡ None
    by_test true other more = absurd (true≢false other)
    by_test false other more = more other

other_pid : (p : Pid) (qs : List Placed) (i : ℕ) (q : Placed) → slice_get qs i ≡ Some q → list_any (λ (r : Placed). same_pid r.pid p) qs ≡ false → same_pid q.pid p ≡ false
other_pid p [] i q at none = cc
other_pid p (r ∷ rs) zero q at none =
    let same : r ≡ q = same_Some r q at in
    sym (ap (λ (r : Placed). same_pid r.pid p) same) ∙ (or_parts (same_pid r.pid p) (list_any (λ (r : Placed). same_pid r.pid p) rs) none).0
other_pid p (r ∷ rs) (suc i) q at none = other_pid p rs i q at (or_parts (same_pid r.pid p) (list_any (λ (r : Placed). same_pid r.pid p) rs) none).1

found_at : (qs : List Placed) (i : ℕ) (q : Placed) → pids_differ qs ≡ true → slice_get qs i ≡ Some q → find (is_there q.pid) qs ≡ cond q.ended None (Some q)
found_at [] i q differ at = cc
found_at (r ∷ rs) zero q differ at =
    let same : r ≡ q = same_Some r q at in
    subst (λ (q : Placed). find (is_there q.pid) (r ∷ rs) ≡ cond q.ended None (Some q)) same
    (ap (λ b. cond (b && not r.ended) (Some r) (find (is_there r.pid) rs)) (itself (r.pid).0) ∙ by_ended r.ended (none_found r.pid rs others))
  where
    others : list_any (λ (p : Placed). same_pid p.pid r.pid) rs ≡ false
    others = not-true (list_any (λ (p : Placed). same_pid p.pid r.pid) rs) (and_parts (not (list_any (λ (p : Placed). same_pid p.pid r.pid) rs)) (pids_differ rs) differ).0

    by_ended : (b : Bool) → find (is_there r.pid) rs ≡ None → cond (true && not b) (Some r) (find (is_there r.pid) rs) ≡ cond b None (Some r)
    by_ended true none = none
    by_ended false none = refl
found_at (r ∷ rs) (suc i) q differ at =
    let parts = and_parts (not (list_any (λ (p : Placed). same_pid p.pid r.pid) rs)) (pids_differ rs) differ in
    let none : list_any (λ (p : Placed). same_pid p.pid r.pid) rs ≡ false = not-true (list_any (λ (p : Placed). same_pid p.pid r.pid) rs) parts.0 in
    let other : same_pid r.pid q.pid ≡ false = eqb_turned (r.pid).0 (q.pid).0 ∙ other_pid r.pid rs i q at none in
    ap (λ b. cond (b && not r.ended) (Some r) (find (is_there q.pid) rs)) other ∙ found_at rs i q parts.1 at

-- so it is owed a backup where that with its pid is
owed_at : (places : Places) (i : ℕ) (q : Placed) → pids_differ places.placed ≡ true → slice_get places.placed i ≡ Some q → is_none (next_backup_at places q.pid) ≡ is_none (next_backup places q)
owed_at places i q differ at =
    ap (λ o. is_none (option_map_or (next_backup places) o None)) (found_at places.placed i q differ at) ∙ by_ended q.ended refl
  where
    by_ended : (b : Bool) → q.ended ≡ b → is_none (option_map_or (next_backup places) (cond b None (Some q)) None) ≡ is_none (next_backup places q)
    by_ended true is = sym (ap (λ b. is_none (cond (b || is_some q.backup) None (backup_by_mode places q q.mode))) is)
    by_ended false is = refl

-- ---- all of them

each_at : (t : ℕ → Bool) (u : Placed → Bool) (a : ℕ) (qs : List Placed) → ((i : ℕ) (q : Placed) → slice_get qs i ≡ Some q → t (a + i) ≡ u q)
    → list_all t (range_with_len a (length qs)) ≡ list_all u qs
each_at t u a [] same = refl
each_at t u a (q ∷ qs) same =
    let here : a ≡ a + zero = omega arith in
    let first : t a ≡ u q = ap t here ∙ same zero q refl in
    let more : list_all t (range_with_len (a + 1) (length qs)) ≡ list_all u qs = each_at t u (a + 1) qs (λ i r at. let next : (a + 1) + i ≡ a + suc i = omega arith in ap t next ∙ same (suc i) r at) in
    λ j. first j && more j

pub owed_none : (places : Places) → pids_differ places.placed ≡ true → list_all (is_owed_none places) (range_with_len 0 (length places.placed)) ≡ owes_no_backup places
owed_none places differ = each_at (is_owed_none places) (λ (q : Placed). is_none (next_backup places q)) 0 places.placed (λ i q at.
    let number : zero + i ≡ i = omega arith in
    ap (is_owed_none places) number ∙ ap (λ o. option_map_or (λ (q : Placed). is_none (next_backup_at places q.pid)) o true) at ∙ owed_at places i q differ at)
