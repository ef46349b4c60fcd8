-- Of the pages of processes that a loss moved no more are left to ask for and to come than so many as the system says.
use Rattle.std.proofs.Common.{◌≡◌, ℕ, ◌+◌, ◌*◌, ◌^◌, ◌≤◌, ◌<◌, refl, ap, arith, List, [], ◌∷◌, ◌++◌, length, Bool, true, false, cond, not, Option, Some, None}
use Rattle.std.specs.Prelude.{All, count_by, option_map}
use Rattle.std.specs.List.{list_any, range_with_len, sum_by}
use Rattle.std.specs.Option.{option_map_or}
use Rattle.std.specs.Ordering.{is_eq}
use Rattle.std.specs.FinMap.{find}
use Rattle.std.proofs.lemmas.List.Elements.{All-nil, All-cons}
use Rattle.std.proofs.lemmas.List.FromFn.{length-range_with_len}
use Rattle.std.proofs.lemmas.List.Sums.{sum_by-cons, sum_by-le, length-filter, count_by-le-length}
use Rattle.std.proofs.lemmas.Nat.{mul-le}
use Rattle.t32_base.specs.declared.process.Pid.{Pid}
use Rattle.t32_base.specs.Small.{SmallState}
use Rattle.sys_text.specs.declared.system.System.{System}
use Rattle.sys_text.specs.Valid.{is_system}
use Rattle.proc_state.specs.State.{ProcState}
use Rattle.plain_kernel.specs.Kernel.{boot, pid_cmp, process_at}
use Rattle.bus_msg.specs.declared.entry.Entry.{Entry}
use Rattle.bus_msg.specs.declared.placed.Placed.{Placed}
use Rattle.bus_msg.specs.Places.{Places, unended_in}
use Rattle.bus_msg.specs.PlacedAfter.{placed_after, what}
use Rattle.cert_sched.specs.Schedule.{placement, places_at_boot}
use Rattle.cert_sched.specs.Told.{Told, told, told_from}
use Rattle.cert_sched.specs.Moved.{add_wait, ends_wait, fetched, moved_with_state, waiting_fetches, waiting_in}
use Rattle.cert_sched.specs.Steps.{page_count}
use Rattle.cert_sched.specs.Legal.{MayStand}
use Rattle.cert_sched.specs.Legal.{IsLegalBy}
use Rattle.cert_sched.proofs.KernelSums.{sum_of}
use Rattle.log_laws.proofs.records.Standing.{all_stand}
use Rattle.log_laws.specs.pages.Left.{is_unasked, left_of_pages, unasked, unasked_of}
use Rattle.log_laws.proofs.pages.PagesStay.{EachPages, page_count-most}
use Rattle.checkpoint_laws.proofs.remaining.PlacedSums.{of_family, placed_few}

-- ---- how many processes stand there

-- the most processes that a system places: those of its boot, and the children that they may fork
abbrev pub placed_count : System → ℕ
placed_count system = sum_of (of_family (λ (s : SmallState). 1)) (boot system)

pub few_placed : (system : System) (log : List Entry) → is_system system ≡ true → IsLegalBy MayStand system log → length (placement system log).placed ≤ placed_count system
few_placed system log valid legal = placed_few system log valid (all_stand system log legal)

-- ---- how many pages each has

abbrev pages_of : Pid × ProcState → ℕ
pages_of e = ((e.1).small).pages

-- the pages of all processes at boot
abbrev pub boot_sizes : System → ℕ
boot_sizes system = sum_by pages_of (boot system).processes

-- a process has no more than all
one_within : (p : Pid) (es : List (Pid × ProcState)) → option_map_or (λ (s : ProcState). (s.small).pages) (find pid_cmp p es) 0 ≤ sum_by pages_of es
one_within p [] = omega arith
one_within p (e ∷ es) = by_test (is_eq (pid_cmp p e.0)) (one_within p es)
  where
    by_test : (b : Bool) → option_map_or (λ (s : ProcState). (s.small).pages) (find pid_cmp p es) 0 ≤ sum_by pages_of es → option_map_or (λ (s : ProcState). (s.small).pages) (cond b (Some e.1) (find pid_cmp p es)) 0 ≤ sum_by pages_of (e ∷ es)
    by_test true more = omega (arith, sum_by-cons pages_of e es)
    by_test false more = omega (arith, sum_by-cons pages_of e es, more)

each_at_boot : (system : System) → EachPages (λ n. n ≤ boot_sizes system) (boot system)
each_at_boot system p n is = omega (arith, counted (process_at (boot system) p) is, one_within p (boot system).processes)
  where
    counted : (o : Option ProcState) → option_map (λ (s : SmallState). s.pages) (option_map (λ (s : ProcState). s.small) o) ≡ Some n → option_map_or (λ (s : ProcState). (s.small).pages) o 0 ≡ n
    counted None h = cc
    counted (Some s) h = ap (λ o. option_map_or (λ (m : ℕ). m) o n) h

-- so many it has after each log
count_within : (system : System) (log : List Entry) (p : Pid) → page_count system log p ≤ boot_sizes system
count_within system log p = page_count-most system log p (boot_sizes system) (each_at_boot system)

-- ---- pages to ask for

unasked_within : (system : System) (log : List Entry) (p : Pid) → unasked_of system log p ≤ boot_sizes system
unasked_within system log p = by_moved (moved_with_state system log p)
  where
    by_moved : (b : Bool) → cond b (count_by (is_unasked system log p) (range_with_len 0 (page_count system log p))) 0 ≤ boot_sizes system
    by_moved true = omega (arith, count_by-le-length (is_unasked system log p) (range_with_len 0 (page_count system log p)), length-range_with_len 0 (page_count system log p), count_within system log p)
    by_moved false = omega arith

each_one : {X : Type 0} (P : X → Type 0) → ((x : X) → P x) → (xs : List X) → All P xs
each_one P each [] = All-nil P
each_one P each (x ∷ xs) = All-cons P x xs (each x) (each_one P each xs)

all_within : (system : System) (log : List Entry) → is_system system ≡ true → IsLegalBy MayStand system log → unasked system log ≤ placed_count system * boot_sizes system
all_within system log valid legal =
    let there : List Placed = unended_in (placement system log) in
    let sum : unasked system log ≤ length there * boot_sizes system =
    sum_by-le (λ (q : Placed). unasked_of system log q.pid) (boot_sizes system) there (each_one (λ (q : Placed). unasked_of system log q.pid ≤ boot_sizes system) (λ q. unasked_within system log q.pid) there) in
    let few : length there ≤ placed_count system =
    omega (arith, length-filter (λ (q : Placed). not q.ended) (placement system log).placed, count_by-le-length (λ (q : Placed). not q.ended) (placement system log).placed, few_placed system log valid legal) in
    omega (arith, sum, mul-le (length there) (boot_sizes system) (placed_count system) (boot_sizes system) few (omega arith))

-- ---- fetches that wait

-- no more wait than there are entries
added_within : (o : Option (Pid × ℕ)) (rest : List Told) (waits : List (Pid × ℕ)) → length (add_wait o rest waits) ≤ length waits + 1
added_within None rest waits = omega arith
added_within (Some f) rest waits = by_test (list_any (ends_wait f.0 f.1) rest)
  where
    by_test : (b : Bool) → length (cond b waits (f ∷ waits)) ≤ length waits + 1
    by_test true = omega arith
    by_test false = omega arith

waits_within : (ts : List Told) → length (waiting_in ts) ≤ length ts
waits_within [] = omega arith
waits_within (t ∷ rest) = omega (arith, added_within (fetched (what t.entry)) rest (waiting_in rest), waits_within rest)

told_long : (before : List Entry) (places : Places) (log : List Entry) → length (told_from before places log) ≡ length log
told_long before places [] = refl
told_long before places (e ∷ log) = omega (arith, told_long (before ++ e ∷ []) (placed_after places (what e)) log)

fetches_within : (system : System) (log : List Entry) → length (waiting_fetches system log) ≤ length log
unfolding told
fetches_within system log = omega (arith, waits_within (told_from [] (places_at_boot system) log), told_long [] (places_at_boot system) log)

-- ---- the whole

-- the most that may be left to ask for and to come, of a log whose length a u64 holds
abbrev pub most_pages : System → ℕ
most_pages system = 2 * (placed_count system * boot_sizes system) + 2 ^ 64

pub pages_within : (system : System) (log : List Entry) → is_system system ≡ true → IsLegalBy MayStand system log → length log < 2 ^ 64 → left_of_pages system log ≤ most_pages system
pages_within system log valid legal fits = both (unasked system log) (length (waiting_fetches system log)) (length log) (placed_count system * boot_sizes system) (all_within system log valid legal) (fetches_within system log) fits
  where
    both : (asked waits long most : ℕ) → asked ≤ most → waits ≤ long → long < 2 ^ 64 → 2 * asked + waits ≤ 2 * most + 2 ^ 64
    both asked waits long most first second last = omega (arith, first, second, last)
