-- What one more entry does to what stands since a crash moved a process, and to the fetches that wait.
use Rattle.std.proofs.Common.{◌≡◌, ℕ, refl, sym, ◌∙◌, ap, List, [], ◌∷◌, ◌++◌, append-nil, Bool, true, false, cond, not, ◌&&◌, ◌||◌, eqb, eqb-true, eq-eqb, ne_eqb, Option, Some, None, true≢false}
use Rattle.std.specs.Prelude.{filter}
use Rattle.std.specs.List.{list_any}
use Rattle.std.specs.Option.{option_map_or}
use Rattle.std.proofs.lemmas.List.Folds.{list_any-append}
use Rattle.std.proofs.lemmas.Bool.{and_parts}
use Rattle.t32_base.specs.declared.process.Pid.{Pid}
use Rattle.sys_text.specs.declared.system.System.{System}
use Rattle.bus_msg.specs.declared.entry.What.{What}
use Rattle.bus_msg.specs.declared.entry.What.TheVariants.{Exit, Fetch, PageIs, Crash}
use Rattle.bus_msg.specs.declared.entry.Cause.{Cause}
use Rattle.bus_msg.specs.declared.entry.Entry.{Entry}
use Rattle.bus_msg.specs.Places.{Places, same_pid}
use Rattle.bus_msg.specs.PlacedAfter.{what}
use Rattle.t32_base.specs.declared.process.ClusterNo.{ClusterNo}
use Rattle.t32_base.specs.declared.process.End.{End}
use Rattle.t32_base.proofs.Facts.{or_false}
use Rattle.cert_sched.specs.Parts.{after_last, last_that}
use Rattle.cert_sched.specs.Schedule.{placement}
use Rattle.cert_sched.specs.Told.{Told, told, moves, is_moved, cluster_lost}
use Rattle.cert_sched.specs.Record.{has_state}
use Rattle.cert_sched.specs.Account.{is_exit_of}
use Rattle.cert_sched.specs.Moved.{any_since_moved, moved_with_state, ends_wait, fetched, add_wait, waiting_in, waiting_fetches, is_page_is, is_fetch}
use Rattle.cert_sched.proofs.ListLaws.{after_last-snoc}
use Rattle.cert_sched.proofs.LogLaws.{told-snoc}
use Rattle.log_laws.specs.pages.Next.{next_told, moves_next, ends_wait_next, leaves_waits}
use Rattle.log_laws.specs.pages.Waited.{is_wait_for, is_waited}

-- ---- words on lists

or_last : (a b : Bool) → (a || (b || false)) ≡ (a || b)
or_last true b = refl
or_last false b = or_false b

pub list_any-last : {X : Type 0} (t : X → Bool) (xs : List X) (x : X) → list_any t (xs ++ x ∷ []) ≡ (list_any t xs || t x)
list_any-last t xs x = list_any-append t xs (x ∷ []) ∙ or_last (list_any t xs) (t x)

last_that-snoc : {X : Type 0} (t : X → Bool) (xs : List X) (x : X) → last_that t (xs ++ x ∷ []) ≡ cond (t x) (Some x) (last_that t xs)
last_that-snoc t [] x = refl
last_that-snoc t (y ∷ ys) x = rw (list_any-last t ys x, last_that-snoc t ys x) (by_cases (t x) (list_any t ys) (t y))
  where
    by_cases : (last any here : Bool) → cond (any || last) (cond last (Some x) (last_that t ys)) (cond here (Some y) None) ≡ cond last (Some x) (cond any (last_that t ys) (cond here (Some y) None))
    by_cases true true here = refl
    by_cases true false here = refl
    by_cases false true here = refl
    by_cases false false here = refl

pub filter-all : {X : Type 0} (t : X → Bool) (xs : List X) → ((x : X) → t x ≡ true) → filter t xs ≡ xs
filter-all t [] passes = refl
filter-all t (x ∷ xs) passes = ap (λ b. cond b (x ∷ filter t xs) (filter t xs)) (passes x) ∙ ap (λ ys. x ∷ ys) (filter-all t xs passes)

pub turned : (m n : ℕ) → eqb m n ≡ eqb n m
turned m n = by_test (eqb n m) refl
  where
    by_test : (b : Bool) → eqb n m ≡ b → eqb m n ≡ b
    by_test true is = eq-eqb m n (sym (eqb-true n m is))
    by_test false is = ne_eqb m n (λ e. true≢false (sym (eq-eqb n m (sym e)) ∙ is))

-- ---- since a crash moved the process

-- an entry that loses no cluster moves no process
pub moves_none : (system : System) (log : List Entry) (e : Entry) → cluster_lost (what e) ≡ None → (p : Pid) → moves_next system log e p ≡ false
moves_none system log e none p = ap (λ o. option_map_or (is_moved p (placement system log)) o false) none

module _ (system : System) (log : List Entry) (e : Entry) (p : Pid) where
  -- a crash that moves it leaves nothing; any other entry is one more
  pub any_since-snoc : (test : What → Bool) → any_since_moved system (log ++ e ∷ []) p test ≡ cond (moves_next system log e p) false (any_since_moved system log p test || test (what e))
  any_since-snoc test =
      ap (λ ts. list_any u (after_last (moves p) ts)) (told-snoc system log e)
      ∙ ap (list_any u) (after_last-snoc (moves p) (told system log) (next_told system log e))
      ∙ by_test (moves p (next_told system log e))
    where
      u : Told → Bool
      u t = test (what t.entry)

      by_test : (b : Bool) → list_any u (cond b [] (after_last (moves p) (told system log) ++ next_told system log e ∷ [])) ≡ cond b false (list_any u (after_last (moves p) (told system log)) || u (next_told system log e))
      by_test true = refl
      by_test false = list_any-last u (after_last (moves p) (told system log)) (next_told system log e)

  pub moved_with_state-snoc : moved_with_state system (log ++ e ∷ []) p ≡ cond (moves_next system log e p) (has_state system log p) (moved_with_state system log p)
  moved_with_state-snoc =
      ap (λ ts. option_map_or stated (last_that (moves p) ts) false) (told-snoc system log e)
      ∙ ap (λ o. option_map_or stated o false) (last_that-snoc (moves p) (told system log) (next_told system log e))
      ∙ by_test (moves p (next_told system log e))
    where
      stated : Told → Bool
      stated t = has_state system t.log p

      by_test : (b : Bool) → option_map_or stated (cond b (Some (next_told system log e)) (last_that (moves p) (told system log))) false ≡ cond b (has_state system log p) (option_map_or stated (last_that (moves p) (told system log)) false)
      by_test true = refl
      by_test false = refl

  -- the same, where it does not move the process
  pub any_since-goes_on : (test : What → Bool) → moves_next system log e p ≡ false → any_since_moved system (log ++ e ∷ []) p test ≡ (any_since_moved system log p test || test (what e))
  any_since-goes_on test stays = any_since-snoc test ∙ ap (λ b. cond b false (any_since_moved system log p test || test (what e))) stays

  pub moved-goes_on : moves_next system log e p ≡ false → moved_with_state system (log ++ e ∷ []) p ≡ moved_with_state system log p
  moved-goes_on stays = moved_with_state-snoc ∙ ap (λ b. cond b (has_state system log p) (moved_with_state system log p)) stays

  -- what was seen since then is seen still
  pub any_since-kept : (test : What → Bool) → moves_next system log e p ≡ false → any_since_moved system log p test ≡ true → any_since_moved system (log ++ e ∷ []) p test ≡ true
  any_since-kept test stays is = any_since-goes_on test stays ∙ ap (λ b. b || test (what e)) is

-- ---- the fetches that wait

abbrev pub added : Option (Pid × ℕ) → List (Pid × ℕ)
added None = []
added (Some f) = f ∷ []

-- the entry does not end the wait
abbrev pub goes_on : Told → Pid × ℕ → Bool
goes_on t f = not (ends_wait f.0 f.1 t)

waiting_in-snoc : (t : Told) (ts : List Told) → waiting_in (ts ++ t ∷ []) ≡ filter (goes_on t) (waiting_in ts) ++ added (fetched (what t.entry))
waiting_in-snoc t [] = by_option (fetched (what t.entry))
  where
    by_option : (o : Option (Pid × ℕ)) → add_wait o [] [] ≡ added o
    by_option None = refl
    by_option (Some f) = refl
waiting_in-snoc t (x ∷ ts) = by_option (fetched (what x.entry)) (waiting_in-snoc t ts)
  where
    by_tests : (f : Pid × ℕ) (b c : Bool) → ends_wait f.0 f.1 t ≡ b
        → cond (c || b) (filter (goes_on t) (waiting_in ts) ++ added (fetched (what t.entry))) (f ∷ (filter (goes_on t) (waiting_in ts) ++ added (fetched (what t.entry))))
        ≡ filter (goes_on t) (cond c (waiting_in ts) (f ∷ waiting_in ts)) ++ added (fetched (what t.entry))
    by_tests f true true is = refl
    by_tests f false true is = refl
    by_tests f true false is = ap (λ b. cond (not b) (f ∷ filter (goes_on t) (waiting_in ts)) (filter (goes_on t) (waiting_in ts)) ++ added (fetched (what t.entry))) (sym is)
    by_tests f false false is = ap (λ b. cond (not b) (f ∷ filter (goes_on t) (waiting_in ts)) (filter (goes_on t) (waiting_in ts)) ++ added (fetched (what t.entry))) (sym is)

    by_option : (o : Option (Pid × ℕ)) → waiting_in (ts ++ t ∷ []) ≡ filter (goes_on t) (waiting_in ts) ++ added (fetched (what t.entry))
        → add_wait o (ts ++ t ∷ []) (waiting_in (ts ++ t ∷ [])) ≡ filter (goes_on t) (add_wait o ts (waiting_in ts)) ++ added (fetched (what t.entry))
    by_option None more = more
    by_option (Some f) more =
        (λ i. cond (list_any-last (ends_wait f.0 f.1) ts t i) (more i) (f ∷ more i)) ∙ by_tests f (ends_wait f.0 f.1 t) (list_any (ends_wait f.0 f.1) ts) refl

-- an entry that tells this, at this placement, leaves these waits
abbrev pub waits_after : Places → What → List (Pid × ℕ) → List (Pid × ℕ)
waits_after places w waits =
    filter (λ (f : Pid × ℕ). not (is_page_is f.0 f.1 w || is_exit_of f.0 w || option_map_or (is_moved f.0 places) (cluster_lost w) false)) waits ++ added (fetched w)

-- those go on whose wait the entry does not end, and a fetch is added last
pub waiting-snoc : (system : System) (log : List Entry) (e : Entry) → waiting_fetches system (log ++ e ∷ []) ≡ waits_after (placement system log) (what e) (waiting_fetches system log)
waiting-snoc system log e = ap waiting_in (told-snoc system log e) ∙ waiting_in-snoc (next_told system log e) (told system log)

-- ---- by the kind of the entry

all_go_on : (waits : List (Pid × ℕ)) → filter (λ (f : Pid × ℕ). true) waits ≡ waits
all_go_on waits = filter-all (λ (f : Pid × ℕ). true) waits (λ f. refl)

pub after_fetch : (places : Places) (p : Pid) (i : ℕ) (waits : List (Pid × ℕ)) → waits_after places (Fetch p i) waits ≡ waits ++ (p, i) ∷ []
after_fetch places p i waits = ap (λ ws. ws ++ (p, i) ∷ []) (all_go_on waits)

pub after_page_is : (places : Places) (p : Pid) (i : ℕ) (bytes : List ℕ) (waits : List (Pid × ℕ)) → waits_after places (PageIs p i bytes) waits ≡ filter (λ (f : Pid × ℕ). not (is_wait_for p i f)) waits
after_page_is places p i bytes waits = append-nil _ ∙ (λ j. filter (λ (f : Pid × ℕ). not (same f j)) waits)
  where
    none_more : (b : Bool) → (b || false || false) ≡ b
    none_more true = refl
    none_more false = refl

    same : (f : Pid × ℕ) → ((same_pid p f.0 && eqb i f.1) || false || false) ≡ (same_pid f.0 p && eqb f.1 i)
    same f = none_more (same_pid p f.0 && eqb i f.1) ∙ (λ j. turned p.0 (f.0).0 j && turned i f.1 j)

pub after_exit_of : (places : Places) (p : Pid) (at : ℕ) (end : End) (waits : List (Pid × ℕ)) → waits_after places (Exit p at end) waits ≡ filter (λ (f : Pid × ℕ). not (same_pid f.0 p)) waits
after_exit_of places p at end waits = append-nil _ ∙ (λ j. filter (λ (f : Pid × ℕ). not (same f j)) waits)
  where
    same : (f : Pid × ℕ) → (same_pid p f.0 || false) ≡ same_pid f.0 p
    same f = or_false (same_pid p f.0) ∙ turned p.0 (f.0).0

pub after_crash : (places : Places) (k : ClusterNo) (cause : Cause) (waits : List (Pid × ℕ)) → waits_after places (Crash k cause) waits ≡ filter (λ (f : Pid × ℕ). not (is_moved f.0 places k)) waits
after_crash places k cause waits = append-nil _

pub after_other : (w : What) → leaves_waits w ≡ true → (places : Places) (waits : List (Pid × ℕ)) → waits_after places w waits ≡ waits
after_other (Exit pid at end) other places waits = absurd (true≢false (sym other))
after_other (Fetch pid index) other places waits = absurd (true≢false (sym other))
after_other (PageIs pid index bytes) other places waits = absurd (true≢false (sym other))
after_other (Crash k cause) other places waits = absurd (true≢false (sym other))
after_other _ other places waits = append-nil _ ∙ all_go_on waits

-- ---- one page of one process

-- what passes this test is the one fetch that does
pub wait_is : (p : Pid) (i : ℕ) (f : Pid × ℕ) → is_wait_for p i f ≡ true → f ≡ (p, i)
wait_is p i f is =
    let both = and_parts (same_pid f.0 p) (eqb f.1 i) is in
    λ j. (record { 0 = eqb-true (f.0).0 p.0 both.0 j }, eqb-true f.1 i both.1 j)

any_filter : (p : Pid) (i : ℕ) (t : Pid × ℕ → Bool) (fs : List (Pid × ℕ)) → list_any (is_wait_for p i) (filter t fs) ≡ (list_any (is_wait_for p i) fs && t (p, i))
any_filter p i t [] = refl
any_filter p i t (f ∷ fs) = by_tests (is_wait_for p i f) (t f) refl refl (any_filter p i t fs)
  where
    and_false : (b : Bool) → (b && false) ≡ false
    and_false true = refl
    and_false false = refl

    by_tests : (u b : Bool) → is_wait_for p i f ≡ u → t f ≡ b → list_any (is_wait_for p i) (filter t fs) ≡ (list_any (is_wait_for p i) fs && t (p, i))
        → list_any (is_wait_for p i) (cond b (f ∷ filter t fs) (filter t fs)) ≡ ((u || list_any (is_wait_for p i) fs) && t (p, i))
    by_tests true true is passes more = ap (λ u. u || list_any (is_wait_for p i) (filter t fs)) is ∙ sym (sym (ap t (wait_is p i f is)) ∙ passes)
    by_tests true false is passes more =
        let none : t (p, i) ≡ false = sym (ap t (wait_is p i f is)) ∙ passes in
        more ∙ ap (λ b. list_any (is_wait_for p i) fs && b) none ∙ and_false (list_any (is_wait_for p i) fs) ∙ sym none
    by_tests false true is passes more = ap (λ u. u || list_any (is_wait_for p i) (filter t fs)) is ∙ more
    by_tests false false is passes more = more

any_added : (p : Pid) (i : ℕ) (w : What) → list_any (is_wait_for p i) (added (fetched w)) ≡ is_fetch p i w
any_added p i (Fetch pid index) = or_false (same_pid pid p && eqb index i)
any_added p i _ = refl

-- a page is waited for after an entry where it was and the entry does not end the wait, or the entry asks for it
pub is_waited-snoc : (system : System) (log : List Entry) (e : Entry) (p : Pid) (i : ℕ) → is_waited system (log ++ e ∷ []) p i ≡ ((is_waited system log p i && not (ends_wait_next system log e p i)) || is_fetch p i (what e))
is_waited-snoc system log e p i =
    ap (list_any (is_wait_for p i)) (waiting-snoc system log e)
    ∙ list_any-append (is_wait_for p i) (filter (goes_on (next_told system log e)) (waiting_fetches system log)) (added (fetched (what e)))
    ∙ (λ j. any_filter p i (goes_on (next_told system log e)) (waiting_fetches system log) j || any_added p i (what e) j)
