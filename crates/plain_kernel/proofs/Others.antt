-- What the steps of one process leave of the others, and what each counts.
use Rattle.std.proofs.Common.{◌≡◌, ℕ, zero, suc, ◌+◌, refl, sym, ap, subst, ◌∙◌, arith, Bool, true, false, eqb, cond, List, [], ◌∷◌, Option, Some, None, ne_eqb, true≢false, is_some, add-zero}
use Rattle.std.specs.Prelude.{◌≢◌, option_and_then, option_map}
use Rattle.std.specs.Option.{option_map_or}
use Rattle.std.specs.declared.cmp.Ordering.TheVariants.{Less, Equal, Greater}
use Rattle.std.specs.Ordering.{is_eq, eq_by_cmp}
use Rattle.std.specs.Cmp.{unsigned_tied}
use Rattle.std.specs.FinMap.{find, put}
use Rattle.std.specs.FinMap.Entries.{find-put, find_tied}
use Rattle.std.proofs.lemmas.Option.{same_Some}
use Rattle.t32_base.specs.declared.process.Pid.{Pid}
use Rattle.t32_base.specs.declared.letter.Letter.{Letter}
use Rattle.t32_base.specs.declared.letter.To.{To}
use Rattle.t32_base.specs.declared.letter.To.TheVariants.{Proc, Tty}
use Rattle.t32_base.specs.Small.{SmallState}
use Rattle.proc_state.specs.State.{ProcState, delivered, has_ended}
use Rattle.sys_calls.specs.declared.steps.Emission.{Emission}
use Rattle.sys_calls.specs.declared.steps.Emission.TheVariants.{Mail, Exit}
use Rattle.sys_calls.specs.Calls.{Next, Silent, Blocked, Forks, Emits, Over}
use Rattle.sys_calls.specs.Next.{next_step, silently, last_emission}
use Rattle.sys_calls.proofs.Counting.{CountsOne, silent_counts, emits_counts, last_sent}
use Rattle.plain_kernel.specs.Kernel.{Kernel, pid_cmp, process_at, with_process, letter_put, letter_to, deliver, emitted}
use Rattle.plain_kernel.specs.Apply.{after_step, one_step, steps, fork_step, apply, apply_all, take_step}
use Rattle.plain_kernel.specs.declared.item.Item.{Item}
use Rattle.plain_kernel.specs.declared.item.Item.TheVariants.{Run, Fork, Take}
use Rattle.plain_kernel.proofs.Laws.{pid_cmp_total, process_at-with_process, process_at-same, with_process-twice, last_silent, no_silent, one_silent}

-- ---- one process is put

-- a process with another pid is not found
pub pids_apart : (q p : Pid) → q.0 ≢ p.0 → eq_by_cmp pid_cmp q p ≡ false
pids_apart q p apart = unsigned_tied q.0 p.0 ∙ ne_eqb q.0 p.0 apart

-- a process that is put leaves every other process
pub process_at-other : (k : Kernel) (p : Pid) (s : ProcState) (q : Pid) → q.0 ≢ p.0 → process_at (with_process k p s) q ≡ process_at k q
process_at-other k p s q apart = process_at-with_process k p s q ∙ ap (λ b. cond b (Some s) (process_at k q)) (pids_apart q p apart)

-- the state of a process but for its memory and its mailbox, and its steps
abbrev pub small_at : Kernel → Pid → Option SmallState
small_at k p = option_map (λ (s : ProcState). s.small) (process_at k p)

abbrev pub steps_at : Kernel → Pid → ℕ
steps_at k p = option_map_or (λ (s : ProcState). (s.small).steps) (process_at k p) 0

pub small_at-other : (k : Kernel) (p : Pid) (s : ProcState) (q : Pid) → q.0 ≢ p.0 → small_at (with_process k p s) q ≡ small_at k q
small_at-other k p s q apart = ap (option_map (λ (s : ProcState). s.small)) (process_at-other k p s q apart)

-- the steps are those of the small state
steps_small : (o : Option ProcState) → option_map_or (λ (s : ProcState). (s.small).steps) o 0 ≡ option_map_or (λ (s : SmallState). s.steps) (option_map (λ (s : ProcState). s.small) o) 0
steps_small None = refl
steps_small (Some s) = refl

pub steps_at-same : (k j : Kernel) (p : Pid) → small_at k p ≡ small_at j p → steps_at k p ≡ steps_at j p
steps_at-same k j p same = steps_small (process_at k p) ∙ ap (λ o. option_map_or (λ (s : SmallState). s.steps) o 0) same ∙ sym (steps_small (process_at j p))

-- ---- a letter is delivered

smalls : List (Pid × ProcState) → Pid → Option SmallState
smalls ps q = option_map (λ (s : ProcState). s.small) (find pid_cmp q ps)

put_small : (ps : List (Pid × ProcState)) (p q : Pid) (s t : ProcState) → find pid_cmp p ps ≡ Some s → t.small ≡ s.small → smalls (put pid_cmp p t ps) q ≡ smalls ps q
unfolding smalls
put_small ps p q s t there same =
    ap (option_map (λ (s : ProcState). s.small)) (find-put pid_cmp pid_cmp_total q p t ps)
    ∙ elim (pid_cmp q p) as (λ o. pid_cmp q p ≡ o → option_map (λ (s : ProcState). s.small) (cond (is_eq o) (Some t) (find pid_cmp q ps)) ≡ option_map (λ (s : ProcState). s.small) (find pid_cmp q ps)) [
      | Less ↦ λ _. refl
      | Equal ↦ λ tied. ap Some same ∙ ap (option_map (λ (s : ProcState). s.small)) (sym there ∙ find_tied pid_cmp pid_cmp_total q p tied ps)
      | Greater ↦ λ _. refl
    ] refl

letter_put_small : (letter : Letter) (p q : Pid) (o : Option ProcState) (ps : List (Pid × ProcState)) → find pid_cmp p ps ≡ o → smalls (letter_put letter p o ps) q ≡ smalls ps q
letter_put_small letter p q None ps there = refl
letter_put_small letter p q (Some s) ps there = by_status (has_ended (s.small).status)
  where
    by_status : (b : Bool) → smalls (cond b ps (put pid_cmp p (delivered s letter) ps)) q ≡ smalls ps q
    by_status true = refl
    by_status false = put_small ps p q s (delivered s letter) there refl

letter_to_small : (k : Kernel) (letter : Letter) (to : To) (q : Pid) → small_at (letter_to k letter to) q ≡ small_at k q
unfolding smalls
letter_to_small k letter (Tty t) q = refl
letter_to_small k letter (Proc p e) q = letter_put_small letter p q (process_at k p) k.processes refl

-- a letter that is delivered changes a mailbox alone
pub small_at-deliver : (k : Kernel) (letter : Letter) (q : Pid) → small_at (deliver k letter) q ≡ small_at k q
small_at-deliver k letter q = letter_to_small k letter letter.to q

pub small_at-emitted : (k : Kernel) (e : Emission) (q : Pid) → small_at (emitted k e) q ≡ small_at k q
small_at-emitted k (Mail letter) q = small_at-deliver k letter q
small_at-emitted k (Exit end) q = refl

-- what is sent to no process: a letter to a terminal, and an exit
abbrev pub is_outward_to : To → Bool
is_outward_to (Proc p e) = false
is_outward_to (Tty t) = true

abbrev pub is_outward : Emission → Bool
is_outward (Mail letter) = is_outward_to letter.to
is_outward (Exit end) = true

outward_letter : (k : Kernel) (letter : Letter) (to : To) → is_outward_to to ≡ true → (letter_to k letter to).processes ≡ k.processes
outward_letter k letter (Proc p e) out = absurd (true≢false (sym out))
outward_letter k letter (Tty t) out = refl

-- it leaves every process
pub processes-outward : (k : Kernel) (e : Emission) → is_outward e ≡ true → (emitted k e).processes ≡ k.processes
processes-outward k (Mail letter) out = outward_letter k letter letter.to out
processes-outward k (Exit end) out = refl

pub process_at-outward : (k : Kernel) (e : Emission) (q : Pid) → is_outward e ≡ true → process_at (emitted k e) q ≡ process_at k q
process_at-outward k e q out = ap (find pid_cmp q) (processes-outward k e out)

-- ---- one step

-- a process made its next step, and what it sent was delivered
pub record StepMade (p : Pid) (k j : Kernel) : Type 0 where
  pub was : ProcState
  pub now : ProcState
  pub there : process_at k p ≡ Some was
  pub counts : CountsOne was now
  pub smalls_are : (q : Pid) → small_at j q ≡ small_at (with_process k p now) q

pub step_made : (p : Pid) (k j : Kernel) → one_step p k ≡ Some j → StepMade p k j
unfolding one_step
step_made p k j made = by_process (process_at k p) refl made
  where
    by_next : (s : ProcState) (next : Next) → process_at k p ≡ Some s → next_step s ≡ next → after_step k p next ≡ Some j → StepMade p k j
    by_next s (Silent t) there is e = record { was = s; now = t; there = there; counts = silent_counts s t is; smalls_are = λ q. ap (λ i. small_at i q) (sym (same_Some (with_process k p t) j e)) }
    by_next s (Emits what t) there is e = record {
      was = s;
      now = t;
      there = there;
      counts = emits_counts s t what is;
      smalls_are = λ q. ap (λ i. small_at i q) (sym (same_Some (emitted (with_process k p t) what) j e)) ∙ small_at-emitted (with_process k p t) what q;
    }
    by_next s Blocked there is e = cc
    by_next s Forks there is e = cc
    by_next s Over there is e = cc

    by_process : (o : Option ProcState) → process_at k p ≡ o → option_and_then (λ s. after_step k p (next_step s)) o ≡ Some j → StepMade p k j
    by_process None there e = cc
    by_process (Some s) there e = by_next s (next_step s) there refl e

-- the process that made the step has one step more
pub one_step-here : (p : Pid) (k j : Kernel) → one_step p k ≡ Some j → steps_at j p ≡ steps_at k p + 1
one_step-here p k j made =
    let m = step_made p k j made in
    let now : steps_at j p ≡ ((m.now).small).steps = steps_at-same j (with_process k p m.now) p (m.smalls_are p) ∙ ap (λ o. option_map_or (λ (s : ProcState). (s.small).steps) o 0) (process_at-same k p m.now) in
    let was : steps_at k p ≡ ((m.was).small).steps = ap (λ o. option_map_or (λ (s : ProcState). (s.small).steps) o 0) m.there in
    now ∙ (m.counts).steps ∙ ap (λ n. n + 1) (sym was)

-- every other process is the same but for its mailbox
pub one_step-small : (p : Pid) (k j : Kernel) (q : Pid) → one_step p k ≡ Some j → q.0 ≢ p.0 → small_at j q ≡ small_at k q
one_step-small p k j q made apart = let m = step_made p k j made in m.smalls_are q ∙ small_at-other k p m.now q apart

pub one_step-other : (p : Pid) (k j : Kernel) (q : Pid) → one_step p k ≡ Some j → q.0 ≢ p.0 → steps_at j q ≡ steps_at k q
one_step-other p k j q made apart = steps_at-same j k q (one_step-small p k j q made apart)

-- ---- several steps

-- the kernel before the last of some steps
pub record LastStep (n : ℕ) (p : Pid) (k j : Kernel) : Type 0 where
  pub before : Kernel
  pub earlier : steps n p k ≡ Some before
  pub last : one_step p before ≡ Some j

pub last_step : (n : ℕ) (p : Pid) (k j : Kernel) → steps (suc n) p k ≡ Some j → LastStep n p k j
unfolding steps
last_step n p k j made = by_case (steps n p k) refl made
  where
    by_case : (o : Option Kernel) → steps n p k ≡ o → option_and_then (one_step p) o ≡ Some j → LastStep n p k j
    by_case None is e = cc
    by_case (Some i) is e = record { before = i; earlier = is; last = e }

pub no_step : (p : Pid) (k j : Kernel) → steps 0 p k ≡ Some j → k ≡ j
unfolding steps
no_step p k j made = same_Some k j made

-- the process that made n steps has n more
pub steps-here : (n : ℕ) (p : Pid) (k j : Kernel) → steps n p k ≡ Some j → steps_at j p ≡ steps_at k p + n
steps-here zero p k j made = ap (λ i. steps_at i p) (sym (no_step p k j made)) ∙ sym (add-zero (steps_at k p))
steps-here (suc n) p k j made =
    let l = last_step n p k j made in
    let before : steps_at l.before p ≡ steps_at k p + n = steps-here n p k l.before l.earlier in
    let after : steps_at j p ≡ steps_at l.before p + 1 = one_step-here p l.before j l.last in
    omega (arith, before, after)

-- every other process is the same but for its mailbox
pub steps-small : (n : ℕ) (p : Pid) (k j : Kernel) (q : Pid) → steps n p k ≡ Some j → q.0 ≢ p.0 → small_at j q ≡ small_at k q
steps-small zero p k j q made apart = ap (λ i. small_at i q) (sym (no_step p k j made))
steps-small (suc n) p k j q made apart = let l = last_step n p k j made in one_step-small p l.before j q l.last apart ∙ steps-small n p k l.before q l.earlier apart

pub steps-other : (n : ℕ) (p : Pid) (k j : Kernel) (q : Pid) → steps n p k ≡ Some j → q.0 ≢ p.0 → steps_at j q ≡ steps_at k q
steps-other n p k j q made apart = steps_at-same j k q (steps-small n p k j q made apart)

-- ---- silent steps, and one that sends something

-- one silent step or more put the process as it is then
pub silent_more : (n : ℕ) (k : Kernel) (p : Pid) (s t : ProcState) → process_at k p ≡ Some s → silently (suc n) s ≡ Some t → steps (suc n) p k ≡ Some (with_process k p t)
unfolding steps one_step
silent_more zero k p s t there silent =
    let l = last_silent 0 s t silent in
    let first : next_step s ≡ Silent t = ap next_step (no_silent s l.before l.made) ∙ l.last in
    ap (option_and_then (λ s. after_step k p (next_step s))) there ∙ ap (after_step k p) first
silent_more (suc n) k p s t there silent =
    let l = last_silent (suc n) s t silent in
    ap (option_and_then (one_step p)) (silent_more n k p s l.before there l.made) ∙ one_silent k p l.before t l.last

-- silent steps leave every other process
pub silently-other : (n : ℕ) (k j : Kernel) (p : Pid) (s t : ProcState) (q : Pid) → process_at k p ≡ Some s → silently n s ≡ Some t → steps n p k ≡ Some j → q.0 ≢ p.0 → process_at j q ≡ process_at k q
silently-other zero k j p s t q there silent made apart = ap (λ i. process_at i q) (sym (no_step p k j made))
silently-other (suc n) k j p s t q there silent made apart =
    ap (λ i. process_at i q) (same_Some j (with_process k p t) (sym made ∙ silent_more n k p s t there silent)) ∙ process_at-other k p t q apart

-- and the process is there as they leave it
pub silently-here : (n : ℕ) (k j : Kernel) (p : Pid) (s t : ProcState) → process_at k p ≡ Some s → silently n s ≡ Some t → steps n p k ≡ Some j → process_at j p ≡ Some t
silently-here zero k j p s t there silent made = ap (λ i. process_at i p) (sym (no_step p k j made)) ∙ there ∙ ap Some (no_silent s t silent)
silently-here (suc n) k j p s t there silent made =
    ap (λ i. process_at i p) (same_Some j (with_process k p t) (sym made ∙ silent_more n k p s t there silent)) ∙ process_at-same k p t

-- silent steps can be made
pub silently-made : (n : ℕ) (k : Kernel) (p : Pid) (s t : ProcState) → process_at k p ≡ Some s → silently n s ≡ Some t → is_some (steps n p k) ≡ true
unfolding steps
silently-made zero k p s t there silent = refl
silently-made (suc n) k p s t there silent = ap is_some (silent_more n k p s t there silent)

one_emits : (k : Kernel) (p : Pid) (s t : ProcState) (e : Emission) → process_at k p ≡ Some s → next_step s ≡ Emits e t → one_step p k ≡ Some (emitted (with_process k p t) e)
unfolding one_step
one_emits k p s t e there is = ap (option_and_then (λ s. after_step k p (next_step s))) there ∙ ap (after_step k p) is

sent_last : (n : ℕ) (k : Kernel) (p : Pid) (s b t : ProcState) (e : Emission) → process_at k p ≡ Some s → silently n s ≡ Some b → next_step b ≡ Emits e t → steps (suc n) p k ≡ Some (emitted (with_process k p t) e)
unfolding steps
sent_last zero k p s b t e there silent is = one_emits k p s t e there (ap next_step (no_silent s b silent) ∙ is)
sent_last (suc n) k p s b t e there silent is =
    ap (option_and_then (one_step p)) (silent_more n k p s b there silent)
    ∙ one_emits (with_process k p b) p b t e (process_at-same k p b) is
    ∙ ap (λ i. Some (emitted i e)) (with_process-twice k p t b)

-- silent steps and a last one that sends something put the process, and what it sent is delivered
pub steps-sent : (n : ℕ) (k : Kernel) (p : Pid) (s t : ProcState) (e : Emission) → process_at k p ≡ Some s → last_emission n s ≡ Some (e, t) → steps n p k ≡ Some (emitted (with_process k p t) e)
steps-sent n k p s t e there sends =
    let l = last_sent n s e t sends in
    ap (λ m. steps m p k) l.count ∙ sent_last l.earlier k p s l.before t e there l.silent l.last

-- ---- what each step keeps

-- what one step of any process keeps, several keep
pub steps-keep : (P : Kernel → Type 0) → ((p : Pid) (k j : Kernel) → P k → one_step p k ≡ Some j → P j) → (n : ℕ) (p : Pid) (k j : Kernel) → P k → steps n p k ≡ Some j → P j
steps-keep P one zero p k j has made = subst P (no_step p k j made) has
steps-keep P one (suc n) p k j has made = let l = last_step n p k j made in one p l.before j (steps-keep P one n p k l.before has l.earlier) l.last

-- what a step, a fork and a take of any process keep
module _ (P : Kernel → Type 0) (one : (p : Pid) (k j : Kernel) → P k → one_step p k ≡ Some j → P j) (fork : (p c : Pid) (k j : Kernel) → P k → fork_step p c k ≡ Some j → P j)
    (take : (p : Pid) (k j : Kernel) → P k → take_step p k ≡ Some j → P j) where
  item_keeps : (i : Item) (k j : Kernel) → P k → apply k i ≡ Some j → P j
  item_keeps (Run p n) k j has made = by_count (eqb n 0) made
    where
      by_count : (b : Bool) → cond b None (steps n p k) ≡ Some j → P j
      by_count true e = cc
      by_count false e = steps-keep P one n p k j has e
  item_keeps (Fork p c) k j has made = fork p c k j has made
  item_keeps (Take p) k j has made = take p k j has made

  -- items that are applied keep as well
  pub items_keep : (is : List Item) (k j : Kernel) → P k → apply_all is k ≡ Some j → P j
  items_keep [] k j has made = subst P (same_Some k j made) has
  items_keep (i ∷ is) k j has made = by_case (apply k i) refl made (λ l. items_keep is l j)
    where
      by_case : (o : Option Kernel) → apply k i ≡ o → option_and_then (apply_all is) o ≡ Some j → ((l : Kernel) → P l → apply_all is l ≡ Some j → P j) → P j
      by_case None is_o e ih = cc
      by_case (Some l) is_o e ih = ih l (item_keeps i k l has is_o) e
