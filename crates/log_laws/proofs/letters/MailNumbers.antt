-- The letters in the mailbox of a process stand by rising number, each below the next one.
use Rattle.std.proofs.Common.{◌≡◌, ℕ, ◌+◌, refl, sym, ◌∙◌, subst, arith, List, [], ◌∷◌, ◌++◌, Bool, true, false, cond, not, eqb, ltb, Option, Some, None, is_none}
use Rattle.std.specs.Prelude.{nat_lt, option_map, option_and_then}
use Rattle.std.specs.List.{list_all}
use Rattle.std.specs.Ordering.{is_eq}
use Rattle.std.specs.declared.cmp.Ordering.{Ordering}
use Rattle.std.specs.declared.cmp.Ordering.TheVariants.{Less, Equal, Greater}
use Rattle.std.proofs.lemmas.Bool.{and_parts, and_from, lt-ltb}
use Rattle.std.proofs.lemmas.Bool.Decides.{nat_tests}
use Rattle.std.proofs.lemmas.Option.{same_Some}
use Rattle.t32_base.specs.declared.process.Pid.{Pid}
use Rattle.t32_base.specs.declared.process.End.{End}
use Rattle.t32_base.specs.declared.process.Status.{Status}
use Rattle.t32_base.specs.declared.process.Status.TheVariants.{Live, Closing, Ended}
use Rattle.t32_base.specs.declared.letter.Arrived.{Arrived}
use Rattle.t32_base.specs.declared.letter.Letter.{Letter}
use Rattle.t32_base.specs.declared.letter.Body.TheVariants.{Said}
use Rattle.t32_base.specs.declared.letter.To.{To}
use Rattle.t32_base.specs.declared.letter.To.TheVariants.{Proc, Tty}
use Rattle.sys_text.specs.declared.system.System.{System}
use Rattle.rv_mem.specs.Memory.{is_inside, bytes_at}
use Rattle.t32_base.specs.Registers.{Registers}
use Rattle.rv_cpu.specs.Exec.{Executed, Steps, Calls, Traps, exec, reg}
use Rattle.proc_state.specs.Ends.{free_end, leads_at}
use Rattle.proc_state.specs.Mail.{without_first, is_on}
use Rattle.proc_state.specs.State.{ProcState, with_small, delivered, has_ended}
use Rattle.sys_calls.specs.Small.{spent, lowest_linked}
use Rattle.sys_calls.specs.declared.steps.Emission.{Emission}
use Rattle.sys_calls.specs.declared.steps.Emission.TheVariants.{Mail, Exit}
use Rattle.sys_calls.specs.Calls.{Next, Silent, Blocked, Forks, Emits, Over, Call, ExitCall, Write, Read, ReadAny, ForkCall, GetPid, Handler, Kill, SigReturn, Close, Unknown, arg, answers, refused, letter_to, called, call_of, close_to, first_wanted, is_wanted, read_any_checked, read_call, read_checked, read_found, write_to, handled_at, is_aligned, is_signal_number, signalled, sigreturn_call}
use Rattle.sys_calls.specs.declared.reading.Reading.{Reading}
use Rattle.sys_calls.specs.declared.reading.Reading.TheVariants.{Refused, AtEnd, Wants}
use Rattle.sys_calls.specs.declared.reading.Wanted.{Wanted}
use Rattle.sys_calls.specs.Fork.{fork_child, fork_parent}
use Rattle.sys_calls.specs.Next.{next_step, step_by, live_step, after_exec, closing_step}
use Rattle.plain_kernel.specs.Kernel.{Kernel, pid_cmp, process_at, with_process, boot, emitted}
use Rattle.plain_kernel.specs.Apply.{after_step, fork_step, one_step, take_step}
use Rattle.plain_kernel.proofs.AtBoot.{boot-each}
use Rattle.plain_kernel.proofs.Forking.{fork_made}
use Rattle.plain_kernel.proofs.Laws.{process_at-with_process}
use Rattle.bus_msg.specs.declared.entry.Entry.{Entry}
use Rattle.cert_sched.specs.Schedule.{plain_after, process_after}
use Rattle.cert_sched.specs.Deeds.{is_end_of}
use Rattle.cert_sched.proofs.MailLaws.{received, process_at-emitted}
use Rattle.cert_sched.proofs.StepLaws.{log_keeps_all}
use Rattle.log_laws.specs.letters.Numbered.{are_above, are_below, are_in_order, are_numbered}
use Rattle.plain_kernel.proofs.Taking.{take_made}
use Rattle.sys_calls.specs.Take.{taken}

abbrev pub IsNumbered : ProcState → Type 0
IsNumbered s = are_numbered s.next s.mail ≡ true

-- what each kind of step leaves is so
abbrev pub KeepsNumbers : Next → Type 0
KeepsNumbers (Silent t) = IsNumbered t
KeepsNumbers Blocked = Unit {0}
KeepsNumbers Forks = Unit {0}
KeepsNumbers (Emits e t) = IsNumbered t
KeepsNumbers Over = Unit {0}

-- ---- lists

-- a letter that goes leaves the others as they were
without_all : (test wanted : Arrived → Bool) (letters : List Arrived) → list_all test letters ≡ true → list_all test (without_first wanted letters) ≡ true
without_all test wanted [] all = refl
without_all test wanted (a ∷ letters) all = by_test (wanted a) (and_parts (test a) (list_all test letters) all) (without_all test wanted letters)
  where
    by_test : (b : Bool) → (test a ≡ true) × (list_all test letters ≡ true) → (list_all test letters ≡ true → list_all test (without_first wanted letters) ≡ true)
        → list_all test (cond b letters (a ∷ without_first wanted letters)) ≡ true
    by_test true parts more = parts.1
    by_test false parts more = and_from (test a) (list_all test (without_first wanted letters)) parts.0 (more parts.1)

pub without_in_order : (wanted : Arrived → Bool) (letters : List Arrived) → are_in_order letters ≡ true → are_in_order (without_first wanted letters) ≡ true
without_in_order wanted [] rises = refl
without_in_order wanted (a ∷ letters) rises = by_test (wanted a) (and_parts (are_above a.number letters) (are_in_order letters) rises) (without_in_order wanted letters)
  where
    by_test : (b : Bool) → (are_above a.number letters ≡ true) × (are_in_order letters ≡ true) → (are_in_order letters ≡ true → are_in_order (without_first wanted letters) ≡ true)
        → are_in_order (cond b letters (a ∷ without_first wanted letters)) ≡ true
    by_test true parts more = parts.1
    by_test false parts more =
        and_from (are_above a.number (without_first wanted letters)) (are_in_order (without_first wanted letters)) (without_all (λ (b : Arrived). ltb a.number b.number) wanted letters parts.0) (more parts.1)

without_numbered : (n : ℕ) (wanted : Arrived → Bool) (letters : List Arrived) → are_numbered n letters ≡ true → are_numbered n (without_first wanted letters) ≡ true
without_numbered n wanted letters numbered =
    let parts = and_parts (are_in_order letters) (are_below n letters) numbered in
    and_from (are_in_order (without_first wanted letters)) (are_below n (without_first wanted letters)) (without_in_order wanted letters parts.0) (without_all (λ (a : Arrived). ltb a.number n) wanted letters parts.1)

-- a letter that comes has the next number
less_next : (m n : ℕ) → ltb m n ≡ true → ltb m (n + 1) ≡ true
less_next m n less = grind (arith, nat_tests)

abbrev pub last_with : ℕ → Letter → List Arrived → List Arrived
last_with n letter letters = letters ++ record { number = n; letter = letter } ∷ []

last_below : (n : ℕ) (letter : Letter) (letters : List Arrived) → are_below n letters ≡ true → are_below (n + 1) (last_with n letter letters) ≡ true
last_below n letter [] below = and_from (nat_lt n (n + 1)) true (lt-ltb n (n + 1) (omega arith)) refl
last_below n letter (a ∷ letters) below =
    let parts = and_parts (nat_lt a.number n) (are_below n letters) below in
    and_from (nat_lt a.number (n + 1)) (are_below (n + 1) (last_with n letter letters)) (less_next a.number n parts.0) (last_below n letter letters parts.1)

last_above : (m n : ℕ) (letter : Letter) (letters : List Arrived) → nat_lt m n ≡ true → are_above m letters ≡ true → are_above m (last_with n letter letters) ≡ true
last_above m n letter [] less above = and_from (nat_lt m n) true less refl
last_above m n letter (a ∷ letters) less above =
    let parts = and_parts (nat_lt m a.number) (are_above m letters) above in
    and_from (nat_lt m a.number) (are_above m (last_with n letter letters)) parts.0 (last_above m n letter letters less parts.1)

last_in_order : (n : ℕ) (letter : Letter) (letters : List Arrived) → are_in_order letters ≡ true → are_below n letters ≡ true → are_in_order (last_with n letter letters) ≡ true
last_in_order n letter [] rises below = refl
last_in_order n letter (a ∷ letters) rises below =
    let parts = and_parts (are_above a.number letters) (are_in_order letters) rises in
    let low = and_parts (nat_lt a.number n) (are_below n letters) below in
    and_from (are_above a.number (last_with n letter letters)) (are_in_order (last_with n letter letters)) (last_above a.number n letter letters low.0 parts.0) (last_in_order n letter letters parts.1 low.1)

pub last_numbered : (n : ℕ) (letter : Letter) (letters : List Arrived) → are_numbered n letters ≡ true → are_numbered (n + 1) (last_with n letter letters) ≡ true
last_numbered n letter letters numbered =
    let parts = and_parts (are_in_order letters) (are_below n letters) numbered in
    and_from (are_in_order (last_with n letter letters)) (are_below (n + 1) (last_with n letter letters)) (last_in_order n letter letters parts.0 parts.1) (last_below n letter letters parts.1)

-- ---- a step

module _ (p : ProcState) (numbered : IsNumbered p) where
  written_some : (e ptr len : ℕ) (to : To) (none : Bool) → KeepsNumbers (cond none (Silent (answers p 0)) (Emits (Mail (letter_to p e to (Said (bytes_at p.memory ptr len)))) (answers p len)))
  written_some e ptr len to true = numbered
  written_some e ptr len to false = numbered

  written_inside : (e ptr len : ℕ) (to : To) (outside none : Bool)
      → KeepsNumbers (cond outside (refused p 14) (cond none (Silent (answers p 0)) (Emits (Mail (letter_to p e to (Said (bytes_at p.memory ptr len)))) (answers p len))))
  written_inside e ptr len to true none = numbered
  written_inside e ptr len to false none = written_some e ptr len to none

  written_short : (e ptr len : ℕ) (to : To) (long outside none : Bool)
      → KeepsNumbers (cond long (refused p 22) (cond outside (refused p 14) (cond none (Silent (answers p 0)) (Emits (Mail (letter_to p e to (Said (bytes_at p.memory ptr len)))) (answers p len)))))
  written_short e ptr len to true outside none = numbered
  written_short e ptr len to false outside none = written_inside e ptr len to outside none

  written : (e ptr len : ℕ) (to : Option To) → KeepsNumbers (write_to p e ptr len to)
  written e ptr len None = numbered
  written e ptr len (Some to) = written_short e ptr len to (ltb 256 len) (not (is_inside p.memory ptr len)) (eqb len 0)

  closed_to : (e : ℕ) (to : Option To) → KeepsNumbers (close_to p e to)
  closed_to e None = numbered
  closed_to e (Some (Tty t)) = numbered
  closed_to e (Some (Proc peer far)) = numbered

  found : (wanted : Wanted) (ptr room : ℕ) (o : Option Arrived) → KeepsNumbers (read_found p wanted ptr room o)
  found wanted ptr room None = tt
  found wanted ptr room (Some a) = without_numbered p.next (is_wanted (p.small).ends wanted) p.mail numbered

  read : (reading : Reading) → KeepsNumbers (read_call p reading)
  read (Refused error) = numbered
  read AtEnd = numbered
  read (Wants wanted ptr room) = found wanted ptr room (first_wanted p wanted)

  forked : (none full : Bool) → KeepsNumbers (cond none (refused p 11) (cond full (refused p 24) Forks))
  forked true full = numbered
  forked false true = numbered
  forked false false = tt

  handles : (ok : Bool) → KeepsNumbers (handled_at ok p (arg p 0))
  handles true = numbered
  handles false = numbered

  signals : (ok : Bool) → KeepsNumbers (signalled ok p (arg p 0) (arg p 1))
  signals true = numbered
  signals false = numbered

  returns : (o : Option Registers) → KeepsNumbers (sigreturn_call p o)
  returns None = numbered
  returns (Some regs) = numbered

  called_numbered : (c : Call) → KeepsNumbers (called c p)
  called_numbered ExitCall = numbered
  called_numbered Write = written (arg p 0) (arg p 1) (arg p 2) (leads_at (p.small).ends (arg p 0))
  called_numbered Read = read (read_checked p)
  called_numbered ReadAny = read (read_any_checked p)
  called_numbered ForkCall = forked (eqb (p.small).births 0) (is_none (free_end (p.small).ends))
  called_numbered Close = closed_to (arg p 0) (leads_at (p.small).ends (arg p 0))
  called_numbered GetPid = numbered
  called_numbered Handler = handles (is_aligned (arg p 0))
  called_numbered Kill = signals (is_signal_number (arg p 1))
  called_numbered SigReturn = returns (p.small).frame
  called_numbered Unknown = numbered

executed : (s : ProcState) (x : Executed) → IsNumbered s → KeepsNumbers (after_exec x (with_small s (spent s.small)))
executed s (Steps regs bytes) numbered = numbered
executed s (Traps code) numbered = numbered
executed s Calls numbered = called_numbered (with_small s (spent s.small)) numbered (call_of (reg (s.small).regs 17))

lived : (s : ProcState) (b : Bool) → IsNumbered s → KeepsNumbers (live_step b s)
lived s true numbered = numbered
lived s false numbered = executed s (exec (s.small).regs s.memory) numbered

closed : (s : ProcState) (end : End) (found : Option (ℕ × To)) → IsNumbered s → KeepsNumbers (closing_step found end s)
closed s end None numbered = numbered
closed s end (Some f) numbered = numbered

by_status : (s : ProcState) (status : Status) → IsNumbered s → KeepsNumbers (step_by status s)
by_status s Live numbered = lived s (eqb (s.small).left 0) numbered
by_status s (Closing end) numbered = closed s end (lowest_linked (s.small).ends) numbered
by_status s (Ended end) numbered = tt

next_numbered : (s : ProcState) → IsNumbered s → KeepsNumbers (next_step s)
next_numbered s numbered = by_status s (s.small).status numbered

-- ---- in a kernel

-- each process of a kernel is so
AllNumbered : Kernel → Type 0
AllNumbered k = (p : Pid) (s : ProcState) → process_at k p ≡ Some s → IsNumbered s

boot_numbered : (system : System) → AllNumbered (boot system)
unfolding AllNumbered
boot_numbered system = boot-each (λ p s. IsNumbered s) system (λ p r. refl) (λ p s peer far has. has)

put_numbered : (k : Kernel) (p : Pid) (t : ProcState) → AllNumbered k → IsNumbered t → AllNumbered (with_process k p t)
unfolding AllNumbered
put_numbered k p t all numbered q s there = by_order (pid_cmp q p) (sym (process_at-with_process k p t q) ∙ there)
  where
    by_order : (o : Ordering) → cond (is_eq o) (Some t) (process_at k q) ≡ Some s → IsNumbered s
    by_order Less e = all q s e
    by_order Equal e = subst (λ (x : ProcState). IsNumbered x) (same_Some t s e) numbered
    by_order Greater e = all q s e

received_numbered : (m : Emission) (q : Pid) (s : ProcState) → IsNumbered s → IsNumbered (received m q s)
received_numbered (Exit end) q s numbered = numbered
received_numbered (Mail letter) q s numbered = by_tests (has_ended (s.small).status) (is_end_of q letter.to)
  where
    by_tests : (b c : Bool) → IsNumbered (cond b s (cond c (delivered s letter) s))
    by_tests true c = numbered
    by_tests false true = last_numbered s.next letter s.mail numbered
    by_tests false false = numbered

emitted_numbered : (k : Kernel) (m : Emission) → AllNumbered k → AllNumbered (emitted k m)
unfolding AllNumbered
emitted_numbered k m all q s there = by_process (process_at k q) refl (sym (process_at-emitted k m q) ∙ there)
  where
    by_process : (o : Option ProcState) → process_at k q ≡ o → option_map (received m q) o ≡ Some s → IsNumbered s
    by_process None here e = cc
    by_process (Some was) here e = subst (λ (x : ProcState). IsNumbered x) (same_Some (received m q was) s e) (received_numbered m q was (all q was here))

one_step-numbered : (p : Pid) (k j : Kernel) → AllNumbered k → one_step p k ≡ Some j → AllNumbered j
unfolding one_step AllNumbered
one_step-numbered p k j all made = by_process (process_at k p) refl made
  where
    by_next : (next : Next) → KeepsNumbers next → after_step k p next ≡ Some j → AllNumbered j
    by_next (Silent t) numbered e = subst AllNumbered (same_Some (with_process k p t) j e) (put_numbered k p t all numbered)
    by_next (Emits m t) numbered e = subst AllNumbered (same_Some (emitted (with_process k p t) m) j e) (emitted_numbered (with_process k p t) m (put_numbered k p t all numbered))
    by_next Blocked numbered e = cc
    by_next Forks numbered e = cc
    by_next Over numbered e = cc

    by_process : (o : Option ProcState) → process_at k p ≡ o → option_and_then (λ s. after_step k p (next_step s)) o ≡ Some j → AllNumbered j
    by_process None there e = cc
    by_process (Some s) there e = by_next (next_step s) (next_numbered s (all p s there)) e

-- a fork leaves the mailbox of the parent, and that of the child is empty
fork_step-numbered : (p c : Pid) (k j : Kernel) → AllNumbered k → fork_step p c k ≡ Some j → AllNumbered j
unfolding AllNumbered
fork_step-numbered p c k j all made =
    let f = fork_made p c k j made in
    subst AllNumbered f.after (put_numbered (with_process k p (fork_parent f.was c)) c (fork_child f.was c) (put_numbered k p (fork_parent f.was c) all (all p f.was f.there)) refl)

-- a take takes one letter out
take_step-numbered : (p : Pid) (k j : Kernel) → AllNumbered k → take_step p k ≡ Some j → AllNumbered j
unfolding AllNumbered
take_step-numbered p k j all made =
    let t = take_made p k j made in
    subst AllNumbered (sym t.after) (put_numbered k p (taken t.was) all (without_numbered (t.was).next (is_on 0) (t.was).mail (all p t.was t.there)))

-- ---- after a log

pub process_numbered : (system : System) (log : List Entry) (p : Pid) (s : ProcState) → process_after system log p ≡ Some s → IsNumbered s
unfolding AllNumbered
process_numbered system log p s there = by_kernel (plain_after system log) refl there
  where
    by_kernel : (o : Option Kernel) → plain_after system log ≡ o → option_and_then (λ k. process_at k p) o ≡ Some s → IsNumbered s
    by_kernel None is e = cc
    by_kernel (Some k) is e = log_keeps_all AllNumbered one_step-numbered fork_step-numbered take_step-numbered system log k (boot_numbered system) is p s e
