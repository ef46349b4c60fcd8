-- The processes that a crash moves go back to their last cut, one after another.
use Rattle.std.proofs.Common.{◌≡◌, ℕ, Bool, true, false, ◌&&◌, ◌||◌, not, cond, ◌+◌, ◌<◌, List, [], ◌∷◌, ◌++◌, length, take, get_or, refl, sym, ◌∙◌, ap, subst, arith, Some, None, slice_get}
use Rattle.std.specs.Prelude.{filter}
use Rattle.std.proofs.lemmas.List.{take_more}
use Rattle.std.proofs.lemmas.List.Folds.{list_any-append}
use Rattle.std.proofs.lemmas.Option.{slice_get-get_or, same_Some}
use Rattle.t32_base.specs.declared.process.Pid.{Pid}
use Rattle.t32_base.specs.declared.process.ClusterNo.{ClusterNo}
use Rattle.bus_msg.specs.declared.placed.Placed.{Placed}
use Rattle.bus_msg.specs.Places.{is_moved_by, same_pid}
use Rattle.cert_sched.specs.Account.{Account, reverted}
use Rattle.page_server.specs.Account.{PagerState, account}
use Rattle.page_accounts.specs.Noting.{Reverts, is_moved_among}

kept_all : (fs : List (Pid × ℕ)) → filter (λ (f : Pid × ℕ). true) fs ≡ fs
kept_all [] = refl
kept_all (f ∷ fs) = ap (λ rest. f ∷ rest) (kept_all fs)

-- none of none
pub reverts_none : (k : ClusterNo) (s : PagerState) → Reverts [] k s s
reverts_none k s = record { accounts = λ p. refl; fetches = sym (kept_all s.fetches); counts = refl }

-- ---- some, and then others

both : (a b : Bool) (x : Account) → cond b (reverted (cond a (reverted x) x)) (cond a (reverted x) x) ≡ cond (a || b) (reverted x) x
both true true x = refl
both true false x = refl
both false true x = refl
both false false x = refl

both_kept : (a b : Pid × ℕ → Bool) (fs : List (Pid × ℕ)) → filter (λ f. not (b f)) (filter (λ f. not (a f)) fs) ≡ filter (λ f. not (a f || b f)) fs
both_kept a b [] = refl
both_kept a b (f ∷ fs) = by_tests (a f) (b f) refl (both_kept a b fs)
  where
    by_tests : (x y : Bool) → b f ≡ y → filter (λ f. not (b f)) (filter (λ f. not (a f)) fs) ≡ filter (λ f. not (a f || b f)) fs
        → filter (λ f. not (b f)) (cond (not x) (f ∷ filter (λ f. not (a f)) fs) (filter (λ f. not (a f)) fs)) ≡ cond (not (x || b f)) (f ∷ filter (λ f. not (a f || b f)) fs) (filter (λ f. not (a f || b f)) fs)
    by_tests true y is more = more
    by_tests false y is more = ap (λ rest. cond (not (b f)) (f ∷ rest) rest) more

pub reverts_more : (some others : List Placed) (k : ClusterNo) (x y z : PagerState) → Reverts some k x y → Reverts others k y z → Reverts (some ++ others) k x z
reverts_more some others k x y z first after = record {
  accounts = λ p.
      after.accounts p ∙ ap (λ a. cond (is_moved_among others k p) (reverted a) a) (first.accounts p) ∙ both (is_moved_among some k p) (is_moved_among others k p) (account x p)
      ∙ ap (λ b. cond b (reverted (account x p)) (account x p)) (sym (among p));
  fetches =
      after.fetches ∙ ap (filter (λ (f : Pid × ℕ). not (is_moved_among others k f.0))) first.fetches
      ∙ both_kept (λ f. is_moved_among some k f.0) (λ f. is_moved_among others k f.0) x.fetches
      ∙ (λ i. filter (λ (f : Pid × ℕ). not (sym (among f.0) i)) x.fetches);
  counts = after.counts ∙ first.counts;
}
  where
    among : (p : Pid) → is_moved_among (some ++ others) k p ≡ (is_moved_among some k p || is_moved_among others k p)
    among p = list_any-append (λ (q : Placed). same_pid q.pid p && is_moved_by k q) some others

-- ---- one

never : (a b : Bool) → b ≡ false → ((a && b) || false) ≡ false
never true b is = ap (λ c. c || false) is
never false b is = refl

-- the crash does not
pub reverts_not : (q : Placed) (k : ClusterNo) (x : PagerState) → is_moved_by k q ≡ false → Reverts (q ∷ []) k x x
reverts_not q k x stays = record {
  accounts = λ p. sym (ap (λ b. cond b (reverted (account x p)) (account x p)) (never (same_pid q.pid p) (is_moved_by k q) stays));
  fetches = sym (kept_all x.fetches) ∙ (λ i. filter (λ (f : Pid × ℕ). not (sym (never (same_pid q.pid f.0) (is_moved_by k q) stays) i)) x.fetches);
  counts = refl;
}

-- ---- the process at a place

pub reverts_next : (placed : List Placed) (k : ClusterNo) (i : ℕ) (q : Placed) (x y z : PagerState) → i < length placed → Some q ≡ slice_get placed i → Reverts (take i placed) k x y → Reverts (q ∷ []) k y z → Reverts (take (i + 1) placed) k x z
reverts_next placed k i q x y z within at before one =
    let same : q ≡ get_or placed i q = same_Some q (get_or placed i q) (at ∙ slice_get-get_or placed i q within) in
    subst (λ qs. Reverts qs k x z) (sym (take_more placed i q within ∙ ap (λ r. take i placed ++ r ∷ []) (sym same))) (reverts_more (take i placed) (q ∷ []) k x y z before one)

-- a place of the list has a process
pub none_beyond : (placed : List Placed) (i : ℕ) → i < length placed → None ≡ slice_get placed i → ⊥
none_beyond [] i within at = omega (arith, within)
none_beyond (q ∷ placed) i within at = let there = at ∙ slice_get-get_or (q ∷ placed) i q within in cc
