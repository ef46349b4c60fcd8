-- Each step of a process leaves it fewer steps.
use Rattle.std.proofs.Common.{◌≡◌, ℕ, zero, suc, ◌+◌, ◌≤◌, refl, sym, ◌∙◌, ap, subst, arith, List, [], ◌∷◌, Bool, true, false, cond, eqb, ltb, not, Option, Some, None, is_none, option_and_then, unwrap_or}
use Rattle.std.specs.Prelude.{slice_get, slice_set}
use Rattle.std.specs.List.{count_by}
use Rattle.std.specs.Option.{option_map_or}
use Rattle.std.proofs.lemmas.List.Sums.{sum_by-cons}
use Rattle.std.proofs.lemmas.Bool.Decides.{nat_tests}
use Rattle.t32_base.specs.declared.process.End.{End}
use Rattle.t32_base.specs.declared.process.Status.{Status}
use Rattle.t32_base.specs.declared.process.Status.TheVariants.{Live, Closing, Ended}
use Rattle.t32_base.specs.declared.process.EndState.{EndState}
use Rattle.t32_base.specs.declared.process.EndState.TheVariants.{Never, Tty as OnTty, Linked, Shut}
use Rattle.t32_base.specs.declared.letter.Body.{Body}
use Rattle.t32_base.specs.declared.letter.Body.TheVariants.{Said, EndOf, Signal}
use Rattle.t32_base.specs.declared.letter.Arrived.{Arrived}
use Rattle.t32_base.specs.declared.letter.To.{To}
use Rattle.t32_base.specs.declared.letter.To.TheVariants.{Proc, Tty}
use Rattle.t32_base.specs.Small.{is_unshut, stages}
use Rattle.rv_mem.specs.Memory.{is_inside, bytes_at}
use Rattle.t32_base.specs.Registers.{Registers}
use Rattle.rv_cpu.specs.Exec.{Executed, Steps, Calls, Traps, exec, reg}
use Rattle.proc_state.specs.Ends.{finished_at, finished_end, free_end, leads_at}
use Rattle.proc_state.specs.Mail.{end_of}
use Rattle.proc_state.specs.State.{ProcState, with_small}
use Rattle.sys_calls.specs.Small.{linked_from, lowest_linked, spent, weight}
use Rattle.sys_calls.specs.declared.steps.Emission.{Emission}
use Rattle.sys_calls.specs.declared.steps.Emission.TheVariants.{Mail}
use Rattle.sys_calls.specs.declared.reading.Reading.{Reading}
use Rattle.sys_calls.specs.declared.reading.Reading.TheVariants.{Refused, AtEnd, Wants}
use Rattle.sys_calls.specs.declared.reading.Wanted.{Wanted}
use Rattle.sys_calls.specs.declared.reading.Wanted.TheVariants.{On, AnyLinked}
use Rattle.sys_calls.specs.Calls.{Next, Silent, Blocked, Forks, Emits, Over, Call, ExitCall, Write, Read, ReadAny, ForkCall, GetPid, Handler, Kill, SigReturn, Close, Unknown, answers, arg, call_of, called, close_to, ends_after, first_wanted, letter_to, read_any_checked, read_call, read_checked, read_found, refused, write_to, handled_at, is_signal_number, signalled, sigreturn_call, is_aligned}
use Rattle.sys_calls.specs.Next.{after_exec, closing_step, live_step, next_step, silent_of, silently, step_by}

-- ---- the ends that are not shut

abbrev pub unshut : List EndState → ℕ
unshut ends = count_by is_unshut ends

abbrev counts_one : EndState → ℕ
counts_one end = cond (is_unshut end) 1 0

-- no more where one is shut
shut_no_more : (ends : List EndState) (e : ℕ) → unshut (slice_set ends e Shut) ≤ unshut ends
shut_no_more [] e = omega arith
shut_no_more (end ∷ ends) zero = omega (arith, sum_by-cons counts_one end ends, sum_by-cons counts_one Shut ends)
shut_no_more (end ∷ ends) (suc e) = omega (arith, sum_by-cons counts_one end ends, sum_by-cons counts_one end (slice_set ends e Shut), shut_no_more ends e)

-- one less where the lowest that is linked is shut
abbrev ShutOne : ℕ → List EndState → ℕ → Type 0
ShutOne first ends e = (i : ℕ) × (e ≡ first + i) × (unshut (slice_set ends i Shut) + 1 ≤ unshut ends)

shut_first : (first : ℕ) (ends : List EndState) (e : ℕ) (to : To) → linked_from first ends ≡ Some (e, to) → ShutOne first ends e
shut_first first [] e to is = cc
shut_first first (Linked peer far finished ∷ ends) e to is =
    let same : first ≡ e = ap (λ (o : Option (ℕ × To)). option_map_or (λ (f : ℕ × To). f.0) o 0) is in
    (0, omega (arith, same), omega (arith, sum_by-cons counts_one (Linked peer far finished) ends, sum_by-cons counts_one Shut ends))
shut_first first (Never ∷ ends) e to is =
    let later = shut_first (first + 1) ends e to is in
    (suc later.0, omega (arith, later.1), omega (arith, later.2, sum_by-cons counts_one Never ends, sum_by-cons counts_one Never (slice_set ends later.0 Shut)))
shut_first first (OnTty t ∷ ends) e to is =
    let later = shut_first (first + 1) ends e to is in
    (suc later.0, omega (arith, later.1), omega (arith, later.2, sum_by-cons counts_one (OnTty t) ends, sum_by-cons counts_one (OnTty t) (slice_set ends later.0 Shut)))
shut_first first (Shut ∷ ends) e to is =
    let later = shut_first (first + 1) ends e to is in
    (suc later.0, omega (arith, later.1), omega (arith, later.2, sum_by-cons counts_one Shut ends, sum_by-cons counts_one Shut (slice_set ends later.0 Shut)))

shut_lowest : (ends : List EndState) (e : ℕ) (to : To) → lowest_linked ends ≡ Some (e, to) → unshut (slice_set ends e Shut) + 1 ≤ unshut ends
shut_lowest ends e to is =
    let one = shut_first 0 ends e to is in
    let at : one.0 ≡ e = omega (arith, one.1) in
    subst (λ n. unshut (slice_set ends n Shut) + 1 ≤ unshut ends) at one.2

-- as many where an end letter was read
finished_same : (ends : List EndState) (e : ℕ) → unshut (finished_at ends e) ≡ unshut ends
finished_same [] e = refl
finished_same (end ∷ ends) zero = sum_by-cons counts_one (finished_end end) ends ∙ ap (λ n. n + unshut ends) (alike end) ∙ sym (sum_by-cons counts_one end ends)
  where
    alike : (end : EndState) → counts_one (finished_end end) ≡ counts_one end
    alike Never = refl
    alike (OnTty t) = refl
    alike (Linked peer far finished) = refl
    alike Shut = refl
finished_same (end ∷ ends) (suc e) = by_end (slice_get ends e) (finished_same ends e)
  where
    by_end : (o : Option EndState) → unshut (option_map_or (λ x. slice_set ends e (finished_end x)) o ends) ≡ unshut ends
        → unshut (option_map_or (λ x. slice_set (end ∷ ends) (suc e) (finished_end x)) o (end ∷ ends)) ≡ unshut (end ∷ ends)
    by_end None more = refl
    by_end (Some x) more = sum_by-cons counts_one end (slice_set ends e (finished_end x)) ∙ ap (λ n. counts_one end + n) more ∙ sym (sum_by-cons counts_one end ends)

read_same : (body : Body) (e : ℕ) (ends : List EndState) → unshut (ends_after body e ends) ≡ unshut ends
read_same (Said bytes) e ends = refl
read_same EndOf e ends = finished_same ends e
read_same (Signal g) e ends = refl

-- ---- one step

-- what each kind of step leaves
abbrev pub Leaves : ProcState → Next → Type 0
Leaves s (Silent t) = weight t.small + 1 ≤ weight s.small
Leaves s Blocked = Unit {0}
Leaves s Forks = Unit {0}
Leaves s (Emits e t) = weight t.small + 1 ≤ weight s.small
Leaves s Over = Unit {0}

-- p is the process s after its instruction was spent
module _ (s p : ProcState) (one : weight p.small + 1 ≤ weight s.small) (lives : (p.small).status ≡ Live) where
  written_some : (e ptr len : ℕ) (to : To) (none : Bool)
      → Leaves s (cond none (Silent (answers p 0)) (Emits (Mail (letter_to p e to (Said (bytes_at p.memory ptr len)))) (answers p len)))
  written_some e ptr len to true = one
  written_some e ptr len to false = one

  written_inside : (e ptr len : ℕ) (to : To) (outside none : Bool)
      → Leaves s (cond outside (refused p 14) (cond none (Silent (answers p 0)) (Emits (Mail (letter_to p e to (Said (bytes_at p.memory ptr len)))) (answers p len))))
  written_inside e ptr len to true none = one
  written_inside e ptr len to false none = written_some e ptr len to none

  written_short : (e ptr len : ℕ) (to : To) (long outside none : Bool)
      → Leaves s (cond long (refused p 22) (cond outside (refused p 14) (cond none (Silent (answers p 0)) (Emits (Mail (letter_to p e to (Said (bytes_at p.memory ptr len)))) (answers p len)))))
  written_short e ptr len to true outside none = one
  written_short e ptr len to false outside none = written_inside e ptr len to outside none

  written : (e ptr len : ℕ) (to : Option To) → Leaves s (write_to p e ptr len to)
  written e ptr len None = one
  written e ptr len (Some to) = written_short e ptr len to (ltb 256 len) (not (is_inside p.memory ptr len)) (eqb len 0)

  closed_to : (e : ℕ) (to : Option To) → Leaves s (close_to p e to)
  closed_to e None = one
  closed_to e (Some (Tty t)) = omega (arith, one, shut_no_more (p.small).ends e)
  closed_to e (Some (Proc peer far)) = omega (arith, one, shut_no_more (p.small).ends e)

  found : (wanted : Wanted) (ptr room : ℕ) (o : Option Arrived) → Leaves s (read_found p wanted ptr room o)
  found wanted ptr room None = tt
  found (On e) ptr room (Some a) = omega (arith, one, read_same (a.letter).body (end_of (a.letter).to) (p.small).ends)
  found AnyLinked ptr room (Some a) = omega (arith, one, read_same (a.letter).body (end_of (a.letter).to) (p.small).ends)

  read : (reading : Reading) → Leaves s (read_call p reading)
  read (Refused error) = one
  read AtEnd = one
  read (Wants wanted ptr room) = found wanted ptr room (first_wanted p wanted)

  forked : (none full : Bool) → Leaves s (cond none (refused p 11) (cond full (refused p 24) Forks))
  forked true full = one
  forked false true = one
  forked false false = tt

  handles : (ok : Bool) → Leaves s (handled_at ok p (arg p 0))
  handles true = one
  handles false = one

  signals : (ok : Bool) → Leaves s (signalled ok p (arg p 0) (arg p 1))
  signals true = one
  signals false = one

  returns : (o : Option Registers) → Leaves s (sigreturn_call p o)
  returns None = one
  returns (Some regs) = one

  call_leaves : (c : Call) → Leaves s (called c p)
  call_leaves ExitCall = omega (arith, one, ap stages lives)
  call_leaves Write = written (arg p 0) (arg p 1) (arg p 2) (leads_at (p.small).ends (arg p 0))
  call_leaves Read = read (read_checked p)
  call_leaves ReadAny = read (read_any_checked p)
  call_leaves ForkCall = forked (eqb (p.small).births 0) (is_none (free_end (p.small).ends))
  call_leaves Close = closed_to (arg p 0) (leads_at (p.small).ends (arg p 0))
  call_leaves GetPid = one
  call_leaves Handler = handles (is_aligned (arg p 0))
  call_leaves Kill = signals (is_signal_number (arg p 1))
  call_leaves SigReturn = returns (p.small).frame
  call_leaves Unknown = one

spent_one : (s : ProcState) → eqb (s.small).left 0 ≡ false → weight (spent s.small) + 1 ≤ weight s.small
spent_one s some = grind (arith, nat_tests)

executed : (s : ProcState) → (s.small).status ≡ Live → eqb (s.small).left 0 ≡ false → (x : Executed) → Leaves s (after_exec x (with_small s (spent s.small)))
executed s lives some (Steps regs bytes) = spent_one s some
executed s lives some (Traps code) = omega (arith, spent_one s some, ap stages lives)
executed s lives some Calls = call_leaves s (with_small s (spent s.small)) (spent_one s some) lives (call_of (reg (s.small).regs 17))

lived : (s : ProcState) → (s.small).status ≡ Live → (b : Bool) → eqb (s.small).left 0 ≡ b → Leaves s (live_step b s)
lived s lives true none = omega (arith, ap stages lives)
lived s lives false some = executed s lives some (exec (s.small).regs s.memory)

closed : (s : ProcState) (end : End) → (s.small).status ≡ Closing end → (lowest : Option (ℕ × To)) → lowest_linked (s.small).ends ≡ lowest → Leaves s (closing_step lowest end s)
closed s end closes None is = omega (arith, ap stages closes)
closed s end closes (Some f) is = omega (arith, shut_lowest (s.small).ends f.0 f.1 is)

by_status : (s : ProcState) (status : Status) → (s.small).status ≡ status → Leaves s (step_by status s)
by_status s Live is = lived s is (eqb (s.small).left 0) refl
by_status s (Closing end) is = closed s end is (lowest_linked (s.small).ends) refl
by_status s (Ended end) is = tt

-- the next step of a process leaves it fewer, whatever it is
pub next_leaves : (s : ProcState) → Leaves s (next_step s)
next_leaves s = by_status s (s.small).status refl

pub emits_leaves : (s t : ProcState) (e : Emission) → next_step s ≡ Emits e t → weight t.small + 1 ≤ weight s.small
emits_leaves s t e is = subst (Leaves s) is (next_leaves s)

-- ---- several silent steps

-- n silent steps leave n fewer
pub silently_leaves : (n : ℕ) (s t : ProcState) → silently n s ≡ Some t → weight t.small + n ≤ weight s.small
unfolding silently
silently_leaves zero s t is = let same : s ≡ t = ap (λ o. unwrap_or o s) is in omega (arith, ap (λ (p : ProcState). weight p.small) same)
silently_leaves (suc n) s t is = by_case (silently n s) refl is (λ q. silently_leaves n s q)
  where
    last : (q : ProcState) (next : Next) → next_step q ≡ next → silent_of next ≡ Some t → weight t.small + 1 ≤ weight q.small
    last q (Silent u) is e =
        let same : u ≡ t = ap (λ o. unwrap_or o u) e in
        subst (λ (p : ProcState). weight p.small + 1 ≤ weight q.small) same (subst (Leaves q) is (next_leaves q))
    last q Blocked is e = cc
    last q Forks is e = cc
    last q (Emits what u) is e = cc
    last q Over is e = cc

    by_case : (o : Option ProcState) → silently n s ≡ o → option_and_then (λ q. silent_of (next_step q)) o ≡ Some t → ((q : ProcState) → silently n s ≡ Some q → weight q.small + n ≤ weight s.small) → weight t.small + suc n ≤ weight s.small
    by_case None from e more = cc
    by_case (Some q) from e more = omega (arith, more q from, last q (next_step q) refl e)
