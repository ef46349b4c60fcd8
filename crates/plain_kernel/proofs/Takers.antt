-- The processes that can take a signal.
use Rattle.std.proofs.Common.{◌≡◌, ℕ, ◌≤◌, Bool, true, false, true≢false, ◌&&◌, ◌<◌, ◌^◌, cond, eqb, List, [], find, refl, sym, ap, ◌∙◌, arith, Option, Some, None, is_none, is_some, option_and_then, option_map, unwrap_or}
use Rattle.std.specs.Prelude.{Result, Ok, Err}
use Rattle.std.specs.Option.{option_map_or}
use Rattle.std.specs.Ordering.{nat_cmp}
use Rattle.std.specs.List.Sorted.{IsStrictlySortedBy}
use Rattle.std.specs.Map.{lookup}
use Rattle.std.proofs.lemmas.Bool.Decides.{nat_tests}
use Rattle.std.proofs.lemmas.Option.{same_Some}
use Rattle.t32_base.specs.declared.process.Pid.{Pid}
use Rattle.t32_base.specs.declared.letter.Arrived.{Arrived}
use Rattle.t32_base.specs.declared.streams.NoMemory.{NoMemory}
use Rattle.proc_state.specs.declared.process.Process.{Process}
use Rattle.proc_state.specs.Mail.{first_signal}
use Rattle.proc_state.specs.State.{ProcState, can_take, is_live, state_of}
use Rattle.sys_calls.proofs.TakeLaws.{taken_strikes}
use Rattle.sys_calls.specs.Steps.{StaysUntaken}
use Rattle.sys_calls.specs.Small.{weight_with_children}
use Rattle.sys_calls.specs.Take.{struck, taken}
use Rattle.plain_kernel.specs.Apply.{steps, take_step}
use Rattle.plain_kernel.specs.Kernel.{Kernel, with_process}
use Rattle.plain_kernel.specs.Still.{lowest_taker}
use Rattle.plain_kernel.specs.Maps.{at_key, kernel_of, load, pid_of, takes_at, total_load, AreFresh, Changes, NoneTakes, NoneTakesBut, RunsAt, SameBut, TakesSignal, TakesWhere, TookAt}
use Rattle.plain_kernel.specs.Answers.{Applies, take_answer}
use Rattle.plain_kernel.specs.declared.item.Item.TheVariants.{Take}
use Rattle.plain_kernel.proofs.Entries.{changed_back, found_after, found_fresh, keys, load_after, lookup_state, others_stay, put_after, state_before}
use Rattle.plain_kernel.proofs.First.{first_able, first_states, found_at, none_found}
use Rattle.plain_kernel.proofs.Taking.{takes}

abbrev taking : Process → Bool
taking p = can_take (state_of p)

same_key : (k q : ℕ) → at_key k q ≡ true → k ≡ q
same_key k q same = grind (arith, nat_tests)

-- ---- what no process can take

-- of a process that is there
pub takes_there : (es : List (ℕ × Process)) (pid : ℕ) (p : Process) → lookup (at_key pid) es ≡ Some p → takes_at es pid ≡ can_take (state_of p)
takes_there es pid p found = ap (λ o. option_map_or taking o false) found

-- the others are as they were
pub none_but : (touched : ℕ → Bool) (old new : List (ℕ × Process)) → SameBut touched old new → NoneTakes old → NoneTakesBut touched new
none_but touched old new same none = λ q other. ap (λ o. option_map_or taking o false) (same q other) ∙ none q

-- nor after one of them took one
pub none_still : (old new : List (ℕ × Process)) (pid : ℕ) → TookAt old new pid → NoneTakesBut (at_key pid) old → NoneTakesBut (at_key pid) new
none_still old new pid t others = λ q other. ap (λ o. option_map_or taking o false) (others_stay old new pid t.was t.now t.changes q other) ∙ others q other

-- the one that remains can take none either
pub none_at : (pid : ℕ) (es : List (ℕ × Process)) → NoneTakesBut (at_key pid) es → takes_at es pid ≡ false → NoneTakes es
none_at pid es others here = λ q. by_test q (at_key pid q) refl
  where
    by_test : (q : ℕ) (b : Bool) → at_key pid q ≡ b → takes_at es q ≡ false
    by_test q true is = ap (takes_at es) (sym (same_key pid q is)) ∙ here
    by_test q false is = others q is

-- one was changed, which can take none now
pub none_changed : (old new : List (ℕ × Process)) (pid : ℕ) (was now : Process) → Changes old new pid was now → NoneTakes old → can_take (state_of now) ≡ false → NoneTakes new
none_changed old new pid was now c none free = none_at pid new (none_but (at_key pid) old new (others_stay old new pid was now c) none) (takes_there new pid now (found_after old new pid was now c) ∙ free)

-- one made silent steps, after none of which it can take one
pub none_ran : (ps qs : List (ℕ × Process)) (pid n : ℕ) (r : RunsAt ps qs pid n) → StaysUntaken n (state_of r.was) → NoneTakes ps → NoneTakes qs
none_ran ps qs pid n r free none =
    none_changed ps qs pid r.was r.now r.changes none (free (sym (takes_there ps pid r.was (r.changes).found) ∙ none pid) n (state_of r.now) (omega arith) r.silent)

-- an empty mailbox has no signal
pub none_empty : (s : ProcState) → s.mail ≡ [] → can_take s ≡ false
none_empty s empty = ap (λ (m : List Arrived). is_live (s.small).status && is_none (s.small).frame && is_some (first_signal m)) empty ∙ never (is_live (s.small).status) (is_none (s.small).frame)
  where
    never : (b c : Bool) → (b && c && false) ≡ false
    never true true = refl
    never true false = refl
    never false c = refl

-- at its start a process was sent nothing
pub none_fresh : (es : List (ℕ × Process)) → AreFresh es → NoneTakes es
none_fresh es fresh = λ q. by_process q (lookup (at_key q) es) refl
  where
    by_process : (q : ℕ) (o : Option Process) → lookup (at_key q) es ≡ o → option_map_or taking o false ≡ false
    by_process q None is = refl
    by_process q (Some p) is = none_empty (state_of p) (found_fresh es q p fresh is).letters

-- ---- the lowest that can take one

first_taker : List (ℕ × Process) → Option (ℕ × Process)
first_taker es = find (λ (e : ℕ × Process). can_take (state_of e.1)) es

none_first : (es : List (ℕ × Process)) → IsStrictlySortedBy nat_cmp (keys es) → NoneTakes es → first_taker es ≡ None
unfolding first_taker
none_first es ordered none = by_case (first_taker es) refl
  where
    by_case : (o : Option (ℕ × Process)) → first_taker es ≡ o → first_taker es ≡ None
    by_case None is = is
    by_case (Some e) is =
        let here : takes_at es e.0 ≡ true = takes_there es e.0 e.1 (found_at (λ (e : ℕ × Process). taking e.1) es e ordered is) ∙ first_able (λ (e : ℕ × Process). taking e.1) es e is in
        absurd (true≢false (sym here ∙ none e.0))

pub no_taker : (es : List (ℕ × Process)) (ts : List (ℕ × List ℕ)) → IsStrictlySortedBy nat_cmp (keys es) → NoneTakes es → lowest_taker (kernel_of es ts) ≡ None
unfolding first_taker
no_taker es ts ordered none = first_states can_take es ∙ ap (option_map (λ (e : ℕ × Process). (pid_of e.0, state_of e.1))) (none_first es ordered none)

-- it is the only one
only_first : (es : List (ℕ × Process)) (pid : ℕ) (p : Process) → IsStrictlySortedBy nat_cmp (keys es) → lookup (at_key pid) es ≡ Some p → can_take (state_of p) ≡ true → NoneTakesBut (at_key pid) es → first_taker es ≡ Some (pid, p)
unfolding first_taker
only_first es pid p ordered found can others = by_case (first_taker es) refl
  where
    by_key : (e : ℕ × Process) → lookup (at_key e.0) es ≡ Some e.1 → taking e.1 ≡ true → (b : Bool) → at_key pid e.0 ≡ b → e ≡ (pid, p)
    by_key e there able true is =
        let same : pid ≡ e.0 = same_key pid e.0 is in
        let value : e.1 ≡ p = same_Some e.1 p (sym there ∙ ap (λ n. lookup (at_key n) es) (sym same) ∙ found) in
        λ i. (sym same i, value i)
    by_key e there able false is = absurd (true≢false (sym (takes_there es e.0 e.1 there ∙ able) ∙ others e.0 is))

    by_case : (o : Option (ℕ × Process)) → first_taker es ≡ o → first_taker es ≡ Some (pid, p)
    by_case None is = absurd (true≢false (sym can ∙ none_found taking pid p es is found))
    by_case (Some e) is = is ∙ ap Some (by_key e (found_at (λ (e : ℕ × Process). taking e.1) es e ordered is) (first_able (λ (e : ℕ × Process). taking e.1) es e is) (at_key pid e.0) refl)

pub only_taker : (es : List (ℕ × Process)) (ts : List (ℕ × List ℕ)) (pid : ℕ) (p : Process) → IsStrictlySortedBy nat_cmp (keys es) → lookup (at_key pid) es ≡ Some p → can_take (state_of p) ≡ true → NoneTakesBut (at_key pid) es
    → lowest_taker (kernel_of es ts) ≡ Some (pid_of pid, state_of p)
unfolding first_taker
only_taker es ts pid p ordered found can others = first_states can_take es ∙ ap (option_map (λ (e : ℕ × Process). (pid_of e.0, state_of e.1))) (only_first es pid p ordered found can others)

-- ---- the take

-- it is one of the kernel
pub take_made_at : (ps qs : List (ℕ × Process)) (ts : List (ℕ × List ℕ)) (pid : ℕ) → TookAt ps qs pid → take_step (pid_of pid) (kernel_of ps ts) ≡ Some (kernel_of qs ts)
take_made_at ps qs ts pid t =
    takes (pid_of pid) (kernel_of ps ts) (state_of t.was) (state_before ps qs pid t.was t.now t.changes) (t.took).can
    ∙ ap (λ s. Some (with_process (kernel_of ps ts) (pid_of pid) s)) (sym (t.took).after)
    ∙ ap (λ l. Some (record { processes = l; ttys = ts })) (sym (put_after ps qs pid t.was t.now t.changes))

-- no more is to come after it
pub take_load : (ps qs : List (ℕ × Process)) (pid : ℕ) → TookAt ps qs pid → total_load qs ≤ total_load ps
take_load ps qs pid t =
    let strikes = taken_strikes (state_of t.was) (t.took).can in
    let small : (t.now).small ≡ (taken (state_of t.was)).small = ap (λ (s : ProcState). s.small) (t.took).after in
    let next : ((t.now).mail).next ≡ ((t.was).mail).next = ap (λ (s : ProcState). s.next) (t.took).after in
    let lighter : load t.now ≤ load t.was = omega (arith, strikes.weight_children, ap weight_with_children small, next) in
    omega (arith, load_after ps qs pid t.was t.now t.changes, lighter)

-- where the process is not there or can take none, there is no take
no_take : (es : List (ℕ × Process)) (ts : List (ℕ × List ℕ)) (pid : ℕ) → takes_at es pid ≡ false → take_step (pid_of pid) (kernel_of es ts) ≡ None
unfolding take_step
no_take es ts pid none = rw (lookup_state pid es) (by_process (lookup (at_key pid) es) none)
  where
    by_process : (o : Option Process) → option_map_or taking o false ≡ false
        → option_and_then (λ s. cond (can_take s) (Some (with_process (kernel_of es ts) (pid_of pid) (taken s))) None) (option_map state_of o) ≡ None
    by_process None e = refl
    by_process (Some p) e = ap (λ b. cond b (Some (with_process (kernel_of es ts) (pid_of pid) (taken (state_of p)))) None) e

pub no_steps : (p : Pid) (k : Kernel) → steps 0 p k ≡ Some k
unfolding steps
no_steps p k = refl

-- what the call answers
pub taken_at : (r : Result Bool NoMemory) (old new : List (ℕ × Process)) (pid : ℕ) (was now : Process) → Changes old new pid was now → TakesWhere r was now → TakesSignal r old new pid
taken_at (Ok true) old new pid was now c t = record { was = was; now = now; changes = c; took = t }
taken_at (Ok false) old new pid was now c t = (takes_there old pid was c.found ∙ t.0, changed_back old new pid was now c t.1)
taken_at (Err e) old new pid was now c t = changed_back old new pid was now c t

-- the item is applied, or it cannot be, or nothing has changed
pub applies_take : (r : Result Bool NoMemory) (ps qs : List (ℕ × Process)) (ts : List (ℕ × List ℕ)) (pid : ℕ) → TakesSignal r ps qs pid → Applies (Take (pid_of pid)) (take_answer r) (kernel_of ps ts) (kernel_of qs ts)
applies_take (Ok true) ps qs ts pid t = take_made_at ps qs ts pid t
applies_take (Ok false) ps qs ts pid t = (no_take ps ts pid t.0, no_steps (pid_of pid) (kernel_of ps ts) ∙ ap (λ es. Some (kernel_of es ts)) (sym t.1), refl)
applies_take (Err e) ps qs ts pid t = (no_steps (pid_of pid) (kernel_of ps ts) ∙ ap (λ es. Some (kernel_of es ts)) (sym t), refl)

-- there is room as before
pub take_room : (r : Result Bool NoMemory) (ps qs : List (ℕ × Process)) (pid : ℕ) → TakesSignal r ps qs pid → total_load ps < 2 ^ 64 → total_load qs < 2 ^ 64
take_room (Ok true) ps qs pid t room = omega (arith, take_load ps qs pid t, room)
take_room (Ok false) ps qs pid t room = omega (arith, ap total_load t.1, room)
take_room (Err e) ps qs pid t room = omega (arith, ap total_load t, room)

-- a process that took one can take no other: it closes, or its handler runs
pub taken_once : (s : ProcState) → can_take (taken s) ≡ false
taken_once s = by_handler (eqb (s.small).handler 0)
  where
    by_handler : (b : Bool) → can_take (record (taken s) { small = struck b (unwrap_or (first_signal s.mail) 0) s.small }) ≡ false
    by_handler true = refl
    by_handler false = never (is_live (s.small).status)
      where
        never : (b : Bool) → (b && false && is_some (first_signal (taken s).mail)) ≡ false
        never true = refl
        never false = refl
