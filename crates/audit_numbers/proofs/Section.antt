-- A section has a line for each entry and each item, and the bytes of each terminal; so there are not more of them than it has bytes.
use Rattle.std.proofs.Common.{◌≡◌, ℕ, zero, suc, ◌+◌, ◌<◌, ◌≤◌, refl, sym, ◌∙◌, subst, arith, List, [], ◌∷◌, ◌++◌, length, length-append, map, codes, Bool, true, false, cond, eqb, eqb-true, Option, Some, None}
use Rattle.std.specs.Prelude.{fold, option_and_then}
use Rattle.std.specs.List.{flat_map, range_with_len}
use Rattle.std.specs.Fmt.{decimal}
use Rattle.std.specs.FinMap.{find as find_in, put}
use Rattle.std.specs.FinMap.Entries.{find-put}
use Rattle.std.specs.Ordering.{eq_by_cmp, nat_cmp}
use Rattle.std.proofs.lemmas.Bool.Decides.{nat_tests}
use Rattle.std.proofs.lemmas.Cmp.{nat_cmp_total}
use Rattle.std.proofs.lemmas.Option.{same_Some}
use Rattle.t32_base.specs.declared.process.Pid.{Pid}
use Rattle.t32_base.specs.declared.letter.To.{To}
use Rattle.t32_base.specs.declared.letter.To.TheVariants.{Proc, Tty}
use Rattle.sys_text.specs.declared.system.System.{System}
use Rattle.sys_text.specs.declared.system.Root.{Root}
use Rattle.sys_text.specs.Boot.{roots_of}
use Rattle.sys_text.specs.Valid.{is_system}
use Rattle.proc_state.specs.State.{ProcState}
use Rattle.sys_calls.specs.declared.steps.Emission.{Emission}
use Rattle.sys_calls.specs.declared.steps.Emission.TheVariants.{Mail as Sent, Exit as Exits}
use Rattle.sys_calls.specs.Calls.{Next, Silent, Blocked, Forks, Emits, Over}
use Rattle.sys_calls.specs.Next.{next_step}
use Rattle.plain_kernel.specs.Kernel.{Kernel, boot, bytes_said, emitted, empty, letter_to, process_at, text_put, tty_at, with_process, with_root}
use Rattle.plain_kernel.specs.Apply.{after_step, fork_step, one_step, take_step}
use Rattle.plain_kernel.proofs.Forking.{fork_made}
use Rattle.plain_kernel.proofs.Taking.{take_made}
use Rattle.bus_msg.specs.declared.entry.Entry.{Entry}
use Rattle.bus_msg.specs.Text.{line_of}
use Rattle.cert_sched.specs.Printing.{ended, first_line_of, item_line, item_lines, items_text_of}
use Rattle.cert_sched.specs.Schedule.{plain_after}
use Rattle.cert_sched.proofs.StepLaws.{log_keeps_all}
use Rattle.report_text.specs.declared.run.Run.{Run}
use Rattle.report_text.specs.Report.{newline, pids_report, plain_report, tty_part, ttys_report}
use Rattle.report_text.specs.RunReport.{log_lines, log_text_of, report_of, run_part}
use Rattle.number_laws.proofs.KernelNumbers.{RootsFit, roots_fit}

-- ---- parts of a text

both : (xs ys : List ℕ) (n : ℕ) → n ≤ length xs → n ≤ length (xs ++ ys)
both xs ys n less = let all = length-append xs ys in omega (arith, all, less)

behind : (xs ys : List ℕ) (n : ℕ) → n ≤ length ys → n ≤ length (xs ++ ys)
behind xs ys n less = let all = length-append xs ys in omega (arith, all, less)

one_more : {X : Type 0} (f : X → List ℕ) (xs : List X) → ((x : X) → 1 ≤ length (f x)) → length xs ≤ length (flat_map f xs)
one_more f [] some = omega arith
one_more f (x ∷ xs) some =
    let all = length-append (f x) (flat_map f xs) in
    let rest = one_more f xs some in
    let here = some x in
    omega (arith, all, rest, here)

ended_some : (line : List ℕ) → 1 ≤ length (line ++ 10 ∷ [])
ended_some line = let all = length-append line (10 ∷ []) in omega (arith, all)

module _ (k : Kernel) (r : Run) where
  pub entries_fit : length r.log ≤ length (report_of k r ++ log_text_of r.log)
  entries_fit =
      behind (report_of k r) (log_text_of r.log) (length r.log)
      (behind (codes "log " ++ (decimal (length r.log) ++ newline)) (log_lines r.log) (length r.log) (one_more (λ (e : Entry). line_of e ++ newline) r.log (λ e. ended_some (line_of e))))

  pub items_count : length r.items ≤ length (report_of k r ++ log_text_of r.log)
  items_count =
      both (report_of k r) (log_text_of r.log) (length r.items)
      (behind (plain_report k) (run_part r) (length r.items)
      (behind _ (items_text_of r.items) (length r.items)
      (behind (ended (first_line_of (length r.items))) (item_lines r.items) (length r.items) (one_more (λ item. ended (item_line item)) r.items (λ item. ended_some (item_line item))))))

-- ---- the terminals

in_range : (f : ℕ → List ℕ) (a len t : ℕ) → a ≤ t → t < a + len → length (f t) ≤ length (flat_map f (range_with_len a len))
in_range f a zero t low high = absurd (omega (arith, low, high))
in_range f a (suc len) t low high = by_test (eqb a t) refl (in_range f (a + 1) len t)
  where
    above : (a t : ℕ) → eqb a t ≡ false → a ≤ t → a + 1 ≤ t
    above a t apart low = grind (arith, nat_tests)

    by_test : (b : Bool) → eqb a t ≡ b → (a + 1 ≤ t → t < a + 1 + len → length (f t) ≤ length (flat_map f (range_with_len (a + 1) len))) → length (f t) ≤ length (f a ++ flat_map f (range_with_len (a + 1) len))
    by_test true is more = both (f a) (flat_map f (range_with_len (a + 1) len)) (length (f t)) (subst (λ n. length (f t) ≤ length (f n)) (sym (eqb-true a t is)) (omega arith))
    by_test false is more = behind (f a) (flat_map f (range_with_len (a + 1) len)) (length (f t)) (more (above a t is low) (omega (arith, high)))

tty_bytes : (t : ℕ) (o : Option (List ℕ)) (bytes : List ℕ) → o ≡ Some bytes → length bytes ≤ length (tty_part t o)
tty_bytes t None bytes is = cc
tty_bytes t (Some old) bytes is =
    let same : old ≡ bytes = same_Some old bytes is in
    subst (λ xs. length xs ≤ length (tty_part t (Some old))) same (both (codes "tty " ++ decimal t ++ codes " " ++ decimal (length old) ++ newline ++ old) newline (length old) (behind (codes "tty " ++ decimal t ++ codes " " ++ decimal (length old) ++ newline) old (length old) (omega arith)))

pub tty_fits : (k : Kernel) (r : Run) (t : ℕ) (bytes : List ℕ) → t ≤ 15 → tty_at k t ≡ Some bytes → length bytes ≤ length (report_of k r ++ log_text_of r.log)
tty_fits k r t bytes low is =
    let part = tty_bytes t (tty_at k t) bytes is in
    let all = in_range (λ t. tty_part t (tty_at k t)) 0 16 t (omega arith) (omega (arith, low)) in
    both (report_of k r) (log_text_of r.log) (length bytes)
    (both (plain_report k) (run_part r) (length bytes) (both (ttys_report k (range_with_len 0 16)) (pids_report k (map (λ (e : Pid × ProcState). e.0) k.processes)) (length bytes) (omega (arith, part, all))))

abbrev TtysFit : Kernel → Type 0
TtysFit k = (t : ℕ) (bytes : List ℕ) → tty_at k t ≡ Some bytes → t ≤ 15

put_tty : (ttys : List (ℕ × List ℕ)) (t : ℕ) (bytes : List ℕ) → t ≤ 15 → ((x : ℕ) (ys : List ℕ) → find_in nat_cmp x ttys ≡ Some ys → x ≤ 15) → (x : ℕ) (ys : List ℕ) → find_in nat_cmp x (put nat_cmp t bytes ttys) ≡ Some ys → x ≤ 15
put_tty ttys t bytes low fit x ys there = by_test (eq_by_cmp nat_cmp x t) refl (sym (find-put nat_cmp nat_cmp_total x t bytes ttys) ∙ there)
  where
    by_test : (b : Bool) → eq_by_cmp nat_cmp x t ≡ b → cond b (Some bytes) (find_in nat_cmp x ttys) ≡ Some ys → x ≤ 15
    by_test true is e = same_low x t is low
      where
        same_low : (x t : ℕ) → eq_by_cmp nat_cmp x t ≡ true → t ≤ 15 → x ≤ 15
        same_low x t is low = grind (arith, nat_tests)
    by_test false is e = fit x ys e

sent_ttys : (k : Kernel) (e : Emission) → TtysFit k → TtysFit (emitted k e)
sent_ttys k (Exits end) fit = fit
sent_ttys k (Sent letter) fit = by_to letter.to
  where
    by_text : (t : ℕ) (o : Option (List ℕ)) → tty_at k t ≡ o → TtysFit (record k { ttys = text_put t (bytes_said letter.body) o k.ttys })
    by_text t None is = fit
    by_text t (Some old) is = put_tty k.ttys t (old ++ bytes_said letter.body) (fit t old is) fit

    by_to : (to : To) → TtysFit (letter_to k letter to)
    by_to (Tty t) = by_text t (tty_at k t) refl
    by_to (Proc p e) = fit

one_ttys : (p : Pid) (k j : Kernel) → TtysFit k → one_step p k ≡ Some j → TtysFit j
unfolding one_step
one_ttys p k j fit made = by_process (process_at k p) made
  where
    by_next : (next : Next) → after_step k p next ≡ Some j → TtysFit j
    by_next (Silent t) e = subst TtysFit (same_Some (with_process k p t) j e) fit
    by_next (Emits sent t) e = subst TtysFit (same_Some (emitted (with_process k p t) sent) j e) (sent_ttys (with_process k p t) sent fit)
    by_next Blocked e = cc
    by_next Forks e = cc
    by_next Over e = cc

    by_process : (o : Option ProcState) → option_and_then (λ s. after_step k p (next_step s)) o ≡ Some j → TtysFit j
    by_process None e = cc
    by_process (Some s) e = by_next (next_step s) e

fork_ttys : (p c : Pid) (k j : Kernel) → TtysFit k → fork_step p c k ≡ Some j → TtysFit j
fork_ttys p c k j fit made = subst TtysFit (fork_made p c k j made).after fit

take_ttys : (p : Pid) (k j : Kernel) → TtysFit k → take_step p k ≡ Some j → TtysFit j
take_ttys p k j fit made = subst TtysFit (sym (take_made p k j made).after) fit

roots_ttys : (system : System) (k : Kernel) (roots : List (Pid × Root)) → RootsFit roots → TtysFit k → TtysFit (fold (with_root system) k roots)
roots_ttys system k [] fit ttys = ttys
roots_ttys system k (r ∷ roots) fit ttys = roots_ttys system (with_root system k r) roots fit.1 (put_tty k.ttys (r.1).tty [] fit.0.1 ttys)

boot_ttys : (system : System) → is_system system ≡ true → TtysFit (boot system)
unfolding boot
boot_ttys system valid = roots_ttys system empty (roots_of system) (roots_fit system valid) (λ t bytes is. cc)

pub ttys_fit : (system : System) (log : List Entry) (k : Kernel) → is_system system ≡ true → plain_after system log ≡ Some k → TtysFit k
ttys_fit system log k valid is = log_keeps_all TtysFit one_ttys fork_ttys take_ttys system log k (boot_ttys system valid) is
