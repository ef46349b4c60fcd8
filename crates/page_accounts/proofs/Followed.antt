-- A page server that takes in an entry as `Makes` says keeps the accounts and the fetches of the log with it.
use Rattle.std.proofs.Common.{◌≡◌, ℕ, Bool, true, false, ◌&&◌, ◌||◌, not, cond, eqb, List, [], ◌∷◌, ◌++◌, refl, sym, ◌∙◌, ap, subst, append-nil, None}
use Rattle.std.specs.Prelude.{filter, OnOk, Result, Ok, Err}
use Rattle.std.specs.FinMap.{put}
use Rattle.std.specs.Option.{option_map_or, option_to_list}
use Rattle.std.specs.Ordering.{nat_cmp}
use Rattle.t32_base.specs.declared.process.Pid.{Pid}
use Rattle.t32_base.proofs.Facts.{eqb_turned, or_false}
use Rattle.sys_text.specs.declared.system.System.{System}
use Rattle.bus_msg.specs.declared.entry.What.{What}
use Rattle.bus_msg.specs.declared.entry.What.TheVariants.{Exit, Page, Sync, Fetch, PageIs, Crash, Rebackup}
use Rattle.bus_msg.specs.declared.entry.Entry.{Entry}
use Rattle.bus_msg.specs.Places.{Places, same_pid}
use Rattle.bus_msg.specs.PlacedAfter.{what}
use Rattle.cert_sched.specs.Schedule.{placement}
use Rattle.cert_sched.specs.Told.{cluster_lost, is_moved}
use Rattle.cert_sched.specs.Account.{Account, no_pages, committed, reverted, is_exit_of, page_put}
use Rattle.cert_sched.specs.Deeds.{is_cut}
use Rattle.cert_sched.specs.Moved.{fetched, is_page_is}
use Rattle.cert_sched.proofs.LogLaws.{account_after-snoc}
use Rattle.page_server.specs.declared.disk.DiskRefused.{DiskRefused}
use Rattle.page_server.specs.Account.{PagerState, account, Changes, SameAccounts, with_page}
use Rattle.page_accounts.specs.Keeps.{KeepsAccounts, SamePages}
use Rattle.page_accounts.specs.Noting.{Makes}
use Rattle.page_accounts.proofs.Waits.{waiting_fetches-snoc}

-- ---- the two questions, by what the entry says and where the processes are placed

abbrev pub moved_by : Places → What → Pid → Bool
moved_by places w p = option_map_or (is_moved p places) (cluster_lost w) false

abbrev pub account_next : Places → What → Pid → Account → Account
account_next places w p a =
    cond (is_exit_of p w) no_pages (cond (is_cut p w) (committed a) (cond (moved_by places w p) (reverted a) (record { now = page_put p w a.now; kept = a.kept })))

abbrev pub goes_on : Places → What → Pid × ℕ → Bool
goes_on places w f = not (is_page_is f.0 f.1 w || is_exit_of f.0 w || moved_by places w f.0)

abbrev pub fetches_next : Places → What → List (Pid × ℕ) → List (Pid × ℕ)
fetches_next places w waits = filter (goes_on places w) waits ++ option_to_list (fetched w)

-- what an entry makes of the accounts and the fetches of a page server
pub record Follows (places : Places) (w : What) (old new : PagerState) : Type 0 where
  pub accounts : (p : Pid) → account new p ≡ account_next places w p (account old p)
  pub fetches : new.fetches ≡ fetches_next places w old.fetches

pub follows_keeps : (system : System) (log : List Entry) (e : Entry) (old new : PagerState) → Follows (placement system log) (what e) old new → KeepsAccounts system log old → KeepsAccounts system (log ++ e ∷ []) new
follows_keeps system log e old new f keeps = record {
  accounts = λ p. f.accounts p ∙ ap (account_next (placement system log) (what e) p) (keeps.accounts p) ∙ sym (account_after-snoc system log e p);
  waits = f.fetches ∙ ap (fetches_next (placement system log) (what e)) keeps.waits ∙ sym (waiting_fetches-snoc system log e);
}

-- ---- tests

kept_all : (fs : List (Pid × ℕ)) → filter (λ (f : Pid × ℕ). true) fs ++ [] ≡ fs
kept_all [] = refl
kept_all (f ∷ fs) = ap (λ rest. f ∷ rest) (kept_all fs)

-- ---- an entry that changes no account and no fetch

nothing_changes : (places : Places) (w : What) (old new : PagerState) → ((p : Pid) (a : Account) → account_next places w p a ≡ a) → ((f : Pid × ℕ) → goes_on places w f ≡ true) → fetched w ≡ None → SamePages old new → Follows places w old new
nothing_changes places w old new accounts fetches none same = record {
  accounts = λ p. same.accounts p ∙ sym (accounts p (account old p));
  fetches = same.fetches ∙ sym (kept_all old.fetches) ∙ sym (λ i. filter (λ (f : Pid × ℕ). fetches f i) old.fetches ++ option_to_list (none i));
}

-- ---- each kind

-- the uncommitted account with a page, or as it is
abbrev put_if : ℕ → List ℕ → Account → Bool → Account
put_if index bytes a b = record { now = cond b (put nat_cmp index bytes a.now) a.now; kept = a.kept }

page_if : (index : ℕ) (bytes : List ℕ) (a : Account) (b : Bool) → cond b (with_page index bytes a) a ≡ put_if index bytes a b
page_if index bytes a true = refl
page_if index bytes a false = refl

page_comes : (places : Places) (pid : Pid) (at index : ℕ) (bytes : List ℕ) (old new : PagerState) → Changes old new pid (with_page index bytes) → new.fetches ≡ old.fetches → Follows places (Page pid at index bytes) old new
page_comes places pid at index bytes old new changes fetches = record {
  accounts = λ p. changes p ∙ page_if index bytes (account old p) (eqb p.0 pid.0) ∙ ap (put_if index bytes (account old p)) (eqb_turned p.0 pid.0);
  fetches = fetches ∙ sym (kept_all old.fetches);
}

cut_comes : (places : Places) (w : What) (old new : PagerState) → ((p : Pid) → account new p ≡ cond (is_cut p w) (committed (account old p)) (account old p)) → new.fetches ≡ old.fetches
    → ((p : Pid) → is_exit_of p w ≡ false) → ((p : Pid) → moved_by places w p ≡ false) → ((p : Pid) (pages : List (ℕ × List ℕ)) → page_put p w pages ≡ pages) → ((f : Pid × ℕ) → goes_on places w f ≡ true) → fetched w ≡ None → Follows places w old new
cut_comes places w old new changes fetches no_exit no_move no_page on none = record {
  accounts = λ p. changes p ∙ sym (λ i. cond (no_exit p i) no_pages (cond (is_cut p w) (committed (account old p)) (cond (no_move p i) (reverted (account old p)) (record { now = no_page p (account old p).now i; kept = (account old p).kept }))));
  fetches = fetches ∙ sym (kept_all old.fetches) ∙ sym (λ i. filter (λ (f : Pid × ℕ). on f i) old.fetches ++ option_to_list (none i));
}

sync_comes : (places : Places) (w : What) (pid : Pid) (old new : PagerState) → Changes old new pid committed → new.fetches ≡ old.fetches → ((p : Pid) → is_cut p w ≡ same_pid pid p)
    → ((p : Pid) → account new p ≡ cond (is_cut p w) (committed (account old p)) (account old p))
sync_comes places w pid old new changes fetches cut p = changes p ∙ ap (λ b. cond b (committed (account old p)) (account old p)) (eqb_turned p.0 pid.0 ∙ sym (cut p))

exit_comes : (places : Places) (w : What) (pid : Pid) (old new : PagerState) → Changes old new pid (λ _. no_pages) → new.fetches ≡ filter (λ (f : Pid × ℕ). not (eqb (f.0).0 pid.0)) old.fetches
    → ((p : Pid) (a : Account) → account_next places w p a ≡ cond (same_pid pid p) no_pages a) → ((f : Pid × ℕ) → goes_on places w f ≡ not (same_pid pid f.0 || false)) → fetched w ≡ None → Follows places w old new
exit_comes places w pid old new changes fetches accounts on none = record {
  accounts = λ p. changes p ∙ ap (λ b. cond b no_pages (account old p)) (eqb_turned p.0 pid.0) ∙ sym (accounts p (account old p));
  fetches =
      fetches ∙ (λ i. filter (λ (f : Pid × ℕ). not ((eqb_turned (f.0).0 pid.0 ∙ sym (or_false (eqb pid.0 (f.0).0))) i)) old.fetches) ∙ sym (append-nil _)
      ∙ sym (λ i. filter (λ (f : Pid × ℕ). on f i) old.fetches ++ option_to_list (none i));
}

answer_comes : (places : Places) (pid : Pid) (index : ℕ) (bytes : List ℕ) (old new : PagerState) → SameAccounts old new → new.fetches ≡ filter (λ (f : Pid × ℕ). not (eqb (f.0).0 pid.0 && eqb f.1 index)) old.fetches → Follows places (PageIs pid index bytes) old new
answer_comes places pid index bytes old new accounts fetches = record {
  accounts = λ p. accounts p;
  fetches =
      fetches ∙ (λ i. filter (λ (f : Pid × ℕ). not (((λ j. eqb_turned (f.0).0 pid.0 j && eqb_turned f.1 index j) ∙ sym (or_false (eqb pid.0 (f.0).0 && eqb index f.1)) ∙ sym (or_false ((eqb pid.0 (f.0).0 && eqb index f.1) || false))) i)) old.fetches) ∙ sym (append-nil _);
}

-- the whole table
pub makes_follows : (places : Places) (w : What) (old new : PagerState) → Makes places w old new → Follows places w old new
makes_follows places (Page pid at index bytes) old new m = page_comes places pid at index bytes old new m.0 m.1
makes_follows places (Sync pid small read took) old new m =
    cut_comes places (Sync pid small read took) old new (sync_comes places (Sync pid small read took) pid old new m.0 m.1 (λ p. refl)) m.1 (λ p. refl) (λ p. refl) (λ p pages. refl) (λ f. refl) refl
makes_follows places (Rebackup to fresh recs) old new m =
    cut_comes places (Rebackup to fresh recs) old new m.0 m.1 (λ p. refl) (λ p. refl) (λ p pages. refl) (λ f. refl) refl
makes_follows places (Fetch pid index) old new m = record {
  accounts = λ p. m.0 p;
  fetches = m.1 ∙ ap (λ fs. fs ++ (pid, index) ∷ []) (sym (kept_all old.fetches) ∙ append-nil _);
}
makes_follows places (PageIs pid index bytes) old new m = answer_comes places pid index bytes old new m.0 m.1
makes_follows places (Exit pid at end) old new m = exit_comes places (Exit pid at end) pid old new m.0 m.1 (λ p a. refl) (λ f. refl) refl
makes_follows places (Crash k cause) old new m = record {
  accounts = λ p. m.accounts p;
  fetches = m.fetches ∙ sym (append-nil _);
}
makes_follows places w old new m = nothing_changes places w old new (λ p a. refl) (λ f. refl) refl m

-- ---- the whole

pub makes_keeps : (system : System) (log : List Entry) (places : Places) (e : Entry) (old new : PagerState) → placement system log ≡ places → Makes places (what e) old new → KeepsAccounts system log old → KeepsAccounts system (log ++ e ∷ []) new
makes_keeps system log places e old new is makes keeps = follows_keeps system log e old new (makes_follows (placement system log) (what e) old new (subst (λ ps. Makes ps (what e) old new) (sym is) makes)) keeps

pub ok_keeps : (result : Result (Unit {0}) DiskRefused) (places : Places) (e : Entry) (old new : PagerState) → OnOk result (Makes places (what e) old new)
    → OnOk result ((system : System) (log : List Entry) → placement system log ≡ places → KeepsAccounts system log old → KeepsAccounts system (log ++ e ∷ []) new)
ok_keeps (Ok done) places e old new makes = λ system log is keeps. makes_keeps system log places e old new is makes keeps
ok_keeps (Err refused) places e old new makes = tt
