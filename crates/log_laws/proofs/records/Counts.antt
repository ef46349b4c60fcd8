-- How many letters a record has saved and counted.
use Rattle.std.proofs.Common.{◌≡◌, ℕ, zero, suc, ◌+◌, ◌<◌, ◌≤◌, refl, sym, ◌∙◌, ap, subst, arith, List, [], ◌∷◌, ◌++◌, length, length-append, zero-add, Bool, true, false, cond, eq-eqb, ◌||◌, Option, Some, None}
use Rattle.std.specs.Prelude.{option_map, count_by}
use Rattle.std.specs.List.{list_any}
use Rattle.std.proofs.lemmas.List.FromFn.{get_or-map-range_with_len}
use Rattle.std.proofs.lemmas.List.Sums.{count_by-le-length}
use Rattle.t32_base.specs.declared.process.Pid.{Pid}
use Rattle.t32_base.specs.declared.letter.Letter.{Letter}
use Rattle.t32_base.specs.declared.letter.To.{To}
use Rattle.t32_base.specs.declared.letter.To.TheVariants.{Proc, Tty}
use Rattle.t32_base.specs.declared.letter.Body.{Body}
use Rattle.t32_base.specs.declared.letter.Body.TheVariants.{Said, EndOf, Signal}
use Rattle.t32_base.specs.declared.letter.BackRec.{BackRec}
use Rattle.sys_text.specs.declared.system.System.{System}
use Rattle.write_count.specs.Counting.{counts_of, count_at, count_for, leaves_from, is_signal}
use Rattle.proc_state.specs.State.{ProcState}
use Rattle.sys_calls.specs.declared.steps.Emission.TheVariants.{Mail as Sent, Exit as Ended}
use Rattle.sys_calls.specs.Calls.{Next, Silent, Blocked, Forks, Emits, Over}
use Rattle.sys_calls.specs.Next.{next_step}
use Rattle.sys_calls.specs.Fork.{fork_parent}
use Rattle.bus_msg.specs.declared.entry.What.{What}
use Rattle.bus_msg.specs.declared.entry.What.TheVariants.{Mail}
use Rattle.bus_msg.specs.declared.entry.Entry.{Entry}
use Rattle.bus_msg.specs.Places.{same_pid}
use Rattle.bus_msg.specs.PlacedAfter.{what}
use Rattle.roll_forward.specs.Deeds.{Deed, Sends, Bears, letter_in, letters_in}
use Rattle.cert_sched.specs.Parts.{after_last}
use Rattle.cert_sched.specs.Deeds.{is_cut, is_birth_of, start_of, since, deeds_in, to_process, letter_for, letters_to, arrived_count}
use Rattle.cert_sched.specs.Record.{backup_record, record_from}
use Rattle.cert_sched.proofs.RecordLaws.{since-snoc}
use Rattle.cert_sched.proofs.ReplayLaws.{Replays, ReplaysBy}

-- ---- deeds, letters and steps

step_fits : (n : ℕ) (s t : ProcState) (next : Next) (ds : List Deed) → ReplaysBy s (λ x r. Replays n x r t) next ds → ((x : ProcState) (r : List Deed) → Replays n x r t → length r ≤ n) → length ds ≤ suc n
step_fits n s t (Silent x) ds h fits = let less = fits x ds h in omega (arith, less)
step_fits n s t Blocked ds h fits = absurd h
step_fits n s t Forks [] h fits = absurd h
step_fits n s t Forks (Sends e ∷ rest) h fits = absurd h
step_fits n s t Forks (Bears child ∷ rest) h fits = let less = fits (fork_parent s child) rest h in omega (arith, less)
step_fits n s t (Emits e x) [] h fits = absurd h
step_fits n s t (Emits e x) (Sends m ∷ rest) h fits = let less = fits x rest h.1 in omega (arith, less)
step_fits n s t (Emits e x) (Bears child ∷ rest) h fits = absurd h
step_fits n s t Over ds h fits = absurd h

-- each step does one deed at most
pub deeds_fit : (n : ℕ) (s t : ProcState) (ds : List Deed) → Replays n s ds t → length ds ≤ n
deeds_fit zero s t ds h = let none : length ds ≡ 0 = ap length h.0 in omega (arith, none)
deeds_fit (suc n) s t ds h = step_fits n s t (next_step s) ds h (λ x r g. deeds_fit n x t r g)

one_letter : (d : Deed) → length (letter_in d) ≤ 1
one_letter (Sends (Sent letter)) = omega arith
one_letter (Sends (Ended end)) = omega arith
one_letter (Bears child) = omega arith

-- each deed is one letter at most
pub letters_fit : (ds : List Deed) → length (letters_in ds) ≤ length ds
letters_fit [] = omega arith
letters_fit (d ∷ ds) =
    let both : length (letter_in d ++ letters_in ds) ≡ length (letter_in d) + length (letters_in ds) = length-append (letter_in d) (letters_in ds) in
    let one = one_letter d in
    let rest = letters_fit ds in
    omega (arith, both, one, rest)

-- a count is that of some letters
count_fits_at : (letters : List Letter) (out : ℕ) (body : Body) → out < 32 → count_at (counts_of letters) out body ≤ length letters
count_fits_at letters out (Said bytes) within =
    subst (λ n. n ≤ length letters) (sym (get_or-map-range_with_len (λ end. count_by (λ (l : Letter). leaves_from end l.out l.body) letters) 0 32 out out 0 within (zero-add out))) (count_by-le-length (λ (l : Letter). leaves_from out l.out l.body) letters)
count_fits_at letters out EndOf within =
    subst (λ n. n ≤ length letters) (sym (get_or-map-range_with_len (λ end. count_by (λ (l : Letter). leaves_from end l.out l.body) letters) 0 32 out out 0 within (zero-add out))) (count_by-le-length (λ (l : Letter). leaves_from out l.out l.body) letters)
count_fits_at letters out (Signal signal) within = count_by-le-length (λ (l : Letter). is_signal l.body) letters

pub count_fits : (letters : List Letter) (letter : Letter) → letter.out < 32 → count_for (counts_of letters) letter ≤ length letters
count_fits letters letter within = count_fits_at letters letter.out letter.body within

-- ---- letters that arrive

one_arrives_at : (p : Pid) (letter : Letter) (to : To) → length (to_process p letter to) ≤ 1
one_arrives_at p letter (Proc q end) = by_test (same_pid q p)
  where
    by_test : (b : Bool) → length (cond b (letter ∷ []) []) ≤ 1
    by_test true = omega arith
    by_test false = omega arith
one_arrives_at p letter (Tty t) = omega arith

one_arrives : (p : Pid) (w : What) → length (letter_for p w) ≤ 1
one_arrives p (Mail at letter) = one_arrives_at p letter letter.to
one_arrives p _ = omega arith

letters_to_fit : (p : Pid) (log : List Entry) → length (letters_to p log) ≤ length log
letters_to_fit p [] = omega arith
letters_to_fit p (e ∷ log) =
    let both : length (letter_for p (what e) ++ letters_to p log) ≡ length (letter_for p (what e)) + length (letters_to p log) = length-append (letter_for p (what e)) (letters_to p log) in
    let one = one_arrives p (what e) in
    let rest = letters_to_fit p log in
    omega (arith, both, one, rest)

after_last_fits : (t : Entry → Bool) (log : List Entry) → length (after_last t log) ≤ length log
after_last_fits t [] = omega arith
after_last_fits t (e ∷ log) = by_tests (list_any t log) (t e) (after_last_fits t log)
  where
    by_tests : (any here : Bool) → length (after_last t log) ≤ length log → length (cond any (after_last t log) (cond here log (e ∷ log))) ≤ suc (length log)
    by_tests true here rest = omega (arith, rest)
    by_tests false true rest = omega arith
    by_tests false false rest = omega arith

-- no more letters arrive than there are entries
pub arrived_fit : (log : List Entry) (p : Pid) → arrived_count log p ≤ length log
arrived_fit log p =
    let part : List Entry = after_last (λ e. is_birth_of p (what e)) log in
    let letters = letters_to_fit p part in
    let whole = after_last_fits (λ e. is_birth_of p (what e)) log in
    omega (arith, letters, whole)

-- ---- the record

-- the start from which a record is
pub record StartsFrom (system : System) (log : List Entry) (p : Pid) (kept : BackRec) : Type 0 where
  pub start : ProcState
  pub started : start_of system log p ≡ Some start
  pub is : record_from system log p start ≡ kept

pub starts_from : (system : System) (log : List Entry) (p : Pid) (kept : BackRec) → backup_record system log p ≡ Some kept → StartsFrom system log p kept
unfolding backup_record
starts_from system log p kept is = by_start (start_of system log p) refl is
  where
    by_start : (o : Option ProcState) → start_of system log p ≡ o → option_map (record_from system log p) o ≡ Some kept → StartsFrom system log p kept
    by_start None started is = cc
    by_start (Some s) started is = record { start = s; started = started; is = cc }

pub next_fits : (system : System) (log : List Entry) (p : Pid) (kept : BackRec) → backup_record system log p ≡ Some kept → kept.next ≤ length log
next_fits system log p kept is =
    let from = starts_from system log p kept is in
    subst (λ n. n ≤ length log) (ap (λ (r : BackRec). r.next) from.is) (arrived_fit log p)

-- the count of a letter is below so many steps, where these do what the process did since, with the letter last
pub count_below : (system : System) (log : List Entry) (e : Entry) (at : ℕ) (letter : Letter) (kept : BackRec) (n : ℕ) (s t : ProcState) → what e ≡ Mail at letter → letter.out < 32 → backup_record system log letter.from ≡ Some kept
    → Replays n s (since (log ++ e ∷ []) letter.from) t → count_for kept.counts letter < n
count_below system log e at letter kept n s t is out kept_is replays =
    let p : Pid = letter.from in
    let from = starts_from system log p kept kept_is in
    let counts : count_for (counts_of (letters_in (since log p))) letter ≡ count_for kept.counts letter = ap (λ (r : BackRec). count_for r.counts letter) from.is in
    let deeds : since (log ++ e ∷ []) p ≡ since log p ++ Sends (Sent letter) ∷ [] =
    since-snoc log e p
    ∙ ap (λ w. cond (starting w) [] (since log p ++ deeds_in p w)) is
    ∙ ap (λ b. since log p ++ cond b (Sends (Sent letter) ∷ []) []) (eq-eqb p.0 p.0 refl)
    in
    let all : length (since (log ++ e ∷ []) p) ≡ length (since log p) + 1 = ap length deeds ∙ length-append (since log p) (Sends (Sent letter) ∷ []) in
    let fit = deeds_fit n s t (since (log ++ e ∷ []) p) replays in
    let some = count_fits (letters_in (since log p)) letter out in
    let less = letters_fit (since log p) in
    omega (arith, counts, all, fit, some, less)
  where
    starting : What → Bool
    starting w = is_cut letter.from w || is_birth_of letter.from w
