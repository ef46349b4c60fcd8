-- Once its next page was sent, the rest of a batch is under way: the page is that of the account, and no other of them was sent.
use Rattle.std.proofs.Common.{◌≡◌, ℕ, ◌-◌, ◌<◌, refl, sym, ◌∙◌, ap, subst, arith, List, [], ◌∷◌, ◌++◌, length, Bool, true, false, cond, not, ◌&&◌, ◌||◌, eqb, eqb-true, ltb, Option, Some, is_some}
use Rattle.std.specs.Prelude.{nat_le}
use Rattle.std.specs.List.{list_all}
use Rattle.std.specs.Option.{option_map_or}
use Rattle.std.specs.Cmp.{nat_cmp_total, unsigned_tied}
use Rattle.std.specs.FinMap.Entries.{find-put}
use Rattle.std.specs.Ordering.{nat_cmp}
use Rattle.std.proofs.lemmas.Bool.{and_parts, and_from}
use Rattle.std.proofs.lemmas.Bool.Decides.{nat_tests}
use Rattle.t32_base.specs.declared.process.Pid.{Pid}
use Rattle.t32_base.specs.declared.process.ClusterNo.{ClusterNo}
use Rattle.t32_base.specs.Account.{Account, page_in}
use Rattle.sys_text.specs.declared.system.System.{System}
use Rattle.rv_mem.specs.Memory.{page_at}
use Rattle.proc_state.specs.State.{ProcState}
use Rattle.bus_msg.specs.declared.entry.By.TheVariants.{Cluster}
use Rattle.bus_msg.specs.declared.entry.Entry.{Entry}
use Rattle.bus_msg.specs.Places.{same_pid}
use Rattle.bus_msg.specs.PlacedAfter.{what}
use Rattle.cert_sched.specs.Appended.{entry_of}
use Rattle.cert_sched.specs.Account.{account_after}
use Rattle.cert_sched.specs.Moved.{any_since_moved, is_page_at}
use Rattle.cert_sched.specs.Steps.{numbers_read, page_count}
use Rattle.cert_sched.specs.Rules.{is_by_home}
use Rattle.cert_sched.specs.Kinds.{ChildrenSynced}
use Rattle.log_laws.proofs.pages.OneEntry.{moves_none, any_since-goes_on}
use Rattle.checkpoint_laws.specs.posts.Sending.{MaySend, is_due_at}
use Rattle.checkpoint_laws.proofs.posts.PageEntry.{page_goes_on, page_places, page_process, page_silent, page_start, page_saved, page_stated, page_children, page_account}
use Rattle.checkpoint_laws.specs.batches.Underway.{BatchMay, PagesLeft, PagesMay, is_left, page_left}

-- ---- words on tests

less_apart : (i j : ℕ) → ltb i j ≡ true → eqb i j ≡ false
less_apart i j less = grind (arith, nat_tests)

none_of : (a b : Bool) → a ≡ false → b ≡ false → (a || b) ≡ false
none_of a b no_a no_b = rw (no_a, no_b) refl

middle : (a b c : Bool) → b ≡ false → (a && b && c) ≡ false
middle true b c is_not = ap (λ b. b && c) is_not
middle false b c is_not = refl

pub not_true : (b : Bool) → not b ≡ true → b ≡ false
not_true true is = sym is
not_true false is = refl

-- ---- the page

module _ (system : System) (log : List Entry) (k : ClusterNo) (p : Pid) (s : ProcState) (i : ℕ) where
  abbrev page_entry : Entry
  page_entry = entry_of system log (page_left k p s i)

  abbrev bytes : List ℕ
  bytes = page_at s.memory i

  -- it has as many pages as before
  same_count : page_count system (log ++ page_entry ∷ []) p ≡ page_count system log p
  same_count = ap (λ (o : Option ProcState). option_map_or (λ (s : ProcState). (s.small).pages) o 0) (page_process system log page_entry p (s.small).steps i bytes refl p)

  -- one with a higher number was not sent
  still_unsent : (j : ℕ) → ltb i j ≡ true → any_since_moved system log p (is_page_at p j (s.small).steps) ≡ false → any_since_moved system (log ++ page_entry ∷ []) p (is_page_at p j (s.small).steps) ≡ false
  still_unsent j less unsent =
      any_since-goes_on system log page_entry p (is_page_at p j (s.small).steps) (moves_none system log page_entry refl p)
      ∙ none_of (any_since_moved system log p (is_page_at p j (s.small).steps)) (is_page_at p j (s.small).steps (what page_entry)) unsent
      (middle (same_pid p p) (eqb i j) (eqb (s.small).steps (s.small).steps) (less_apart i j less))

  all_unsent : (js : List ℕ) → list_all (ltb i) js ≡ true → list_all (λ j. not (any_since_moved system log p (is_page_at p j (s.small).steps))) js ≡ true
      → list_all (λ j. not (any_since_moved system (log ++ page_entry ∷ []) p (is_page_at p j (s.small).steps))) js ≡ true
  all_unsent [] above unsent = refl
  all_unsent (j ∷ js) above unsent =
      let a = and_parts (ltb i j) (list_all (ltb i) js) above in
      let u = and_parts (not (any_since_moved system log p (is_page_at p j (s.small).steps))) (list_all (λ j. not (any_since_moved system log p (is_page_at p j (s.small).steps))) js) unsent in
      and_from _ _ (ap not (still_unsent j a.0 (not_true (any_since_moved system log p (is_page_at p j (s.small).steps)) u.0))) (all_unsent js a.1 u.1)

  -- it is that of the account, and any other page is there as it was
  page_now : (js : List ℕ) (q : ℕ) → (is_left (i ∷ js) q ≡ false → page_in (account_after system log p).now q ≡ Some (page_at s.memory q)) → is_left js q ≡ false
      → page_in (account_after system (log ++ page_entry ∷ []) p).now q ≡ Some (page_at s.memory q)
  page_now js q before other =
      ap (λ (a : Account). page_in a.now q) (page_account system log page_entry p (s.small).steps i bytes refl)
      ∙ find-put nat_cmp nat_cmp_total q i bytes (account_after system log p).now
      ∙ ap (λ b. cond b (Some bytes) (page_in (account_after system log p).now q)) (unsigned_tied q i)
      ∙ by_test (eqb q i) refl
    where
      by_test : (b : Bool) → eqb q i ≡ b → cond b (Some bytes) (page_in (account_after system log p).now q) ≡ Some (page_at s.memory q)
      by_test true at = ap (λ j. Some (page_at s.memory j)) (sym (eqb-true q i at))
      by_test false at = before (ap (λ b. b || is_left js q) at ∙ other)

  -- ---- the rest

  -- those with higher numbers are left
  pub rest_left : (js : List ℕ) → PagesLeft system log p (s.small).steps s.memory (i ∷ js) → PagesLeft system (log ++ page_entry ∷ []) p (s.small).steps s.memory js
  rest_left js l =
      let order = and_parts (list_all (ltb i) js) _ l.in_order in
      let below = and_parts (ltb i (page_count system log p)) (list_all (λ j. ltb j (page_count system log p)) js) l.within in
      let fresh = and_parts (not (any_since_moved system log p (is_page_at p i (s.small).steps))) (list_all (λ j. not (any_since_moved system log p (is_page_at p j (s.small).steps))) js) l.unsent in
      record {
        in_order = order.1;
        within = ap (λ n. list_all (λ j. ltb j n) js) same_count ∙ below.1;
        unsent = all_unsent js order.0 fresh.1;
        account = λ q within other. page_now js q (l.account q (subst (λ n. q < n) same_count within)) other;
      }

  -- the process may be sent as it was before
  may_still : (t : ProcState) → MaySend system log (Cluster k) p t → MaySend system (log ++ page_entry ∷ []) (Cluster k) p t
  may_still t may = record {
    goes_on = page_goes_on system log page_entry p (s.small).steps i bytes refl;
    by_home = ap (λ places. is_by_home places (Cluster k) (Some p)) (page_places system log page_entry p (s.small).steps i bytes refl) ∙ may.by_home;
    reached = page_silent system log page_entry p (s.small).steps i bytes refl p (t.small).steps ∙ may.reached;
  }

  children_still : ChildrenSynced system log p → ChildrenSynced system (log ++ page_entry ∷ []) p
  children_still synced = page_children system log page_entry p (s.small).steps i bytes refl p ∙ synced

  pub pages_sent : (js : List ℕ) → PagesMay system log k p s (i ∷ js) → PagesMay system (log ++ page_entry ∷ []) k p s js
  pages_sent js m = record { may = may_still s m.may; runs = m.runs; left = rest_left js m.left; children = children_still m.children }

  pub page_sent : (read : List ℕ) (took : Option ℕ) (js : List ℕ) → BatchMay system log k p s read took (i ∷ js) → BatchMay system (log ++ page_entry ∷ []) k p s read took js
  page_sent read took js b = record {
    before = b.before;
    takes = b.takes;
    may = may_still b.before b.may;
    runs = b.runs;
    left = rest_left js b.left;
    reads = b.reads ∙ sym (ap (λ saved. numbers_read saved s.mail) (page_saved system log page_entry p (s.small).steps i bytes refl p));
    children = children_still b.children;
    due = same_due ∙ b.due;
  }
    where
      same_due : is_due_at system (log ++ page_entry ∷ []) p took b.before ≡ is_due_at system log p took b.before
      same_due =
          λ j. nat_le system.syncreads (length (numbers_read (page_saved system log page_entry p (s.small).steps i bytes refl p j) (b.before).mail))
          || nat_le system.syncsteps (((b.before).small).steps - option_map_or (λ (s : ProcState). (s.small).steps) (page_start system log page_entry p (s.small).steps i bytes refl p j) 0)
          || is_some took || not (page_stated system log page_entry p (s.small).steps i bytes refl p j)
