-- The parts of a printed report are passed.
use Rattle.std.proofs.Common.{◌≡◌, ℕ, zero, suc, ◌+◌, ◌<◌, ◌^◌, Bool, true, false, List, [], ◌∷◌, ◌++◌, length, map, drop, ◌||◌, codes, Option, Some, None, refl, ap, ◌∙◌, arith, append_assoc}
use Rattle.std.specs.List.{range_with_len}
use Rattle.std.specs.Option.{option_map_or, option_and_then}
use Rattle.std.specs.Fmt.{decimal}
use Rattle.std.proofs.Math.Seq.{drop-append_seam}
use Rattle.t32_base.specs.declared.process.Pid.{Pid}
use Rattle.t32_base.specs.declared.process.End.TheVariants.{Exit as Exited, Trap, Killed, Limit}
use Rattle.t32_base.specs.declared.process.Status.{Status}
use Rattle.t32_base.specs.declared.process.Status.TheVariants.{Live, Closing, Ended}
use Rattle.proc_state.specs.State.{ProcState, can_take}
use Rattle.sys_calls.specs.Next.{next_step, has_step}
use Rattle.plain_kernel.specs.Kernel.{Kernel, process_at, tty_at}
use Rattle.entry_lines.specs.Told.{IsSmall, AllSmall}
use Rattle.report_text.specs.Report.{newline, pid_part, pids_report, status_text, tty_part, ttys_report}
use Rattle.log_section.specs.Lines.{Left, past, behind_one}
use Rattle.log_section.specs.Form.{process_shapes, behind_feed, behind_tty}
use Rattle.log_section.specs.Printed.{StatusFits, KernelFits}
use Rattle.log_section.proofs.Passing.{number_past}
use Rattle.log_section.proofs.Reaching.{Reaches, of_part, reach_here, reach_more}

-- ---- a terminal

-- a line of two numbers, which bytes follow, as it is printed and as it is read
tty_first : (xs ys bytes rest : List ℕ) → (((((xs ++ codes " ") ++ ys) ++ newline) ++ bytes) ++ newline) ++ rest ≡ (xs ++ 32 ∷ []) ++ ((((ys ++ newline) ++ bytes) ++ newline) ++ rest)
tty_first [] ys bytes rest = refl
tty_first (x ∷ xs) ys bytes rest = ap (λ (t : List ℕ). x ∷ t) (tty_first xs ys bytes rest)

tty_second : (ys bytes rest : List ℕ) → (((ys ++ newline) ++ bytes) ++ newline) ++ rest ≡ (ys ++ 10 ∷ []) ++ (bytes ++ 10 ∷ rest)
tty_second [] bytes rest = ap (λ (t : List ℕ). 10 ∷ t) (append_assoc bytes newline rest)
tty_second (y ∷ ys) bytes rest = ap (λ (t : List ℕ). y ∷ t) (tty_second ys bytes rest)

-- what stands behind the word `tty` and its space
tty_line : (t : ℕ) (bytes rest : List ℕ) → IsSmall t → IsSmall (length bytes)
    → past (codes "# #\n") (0, (((((decimal t ++ codes " ") ++ decimal (length bytes)) ++ newline) ++ bytes) ++ newline) ++ rest) ≡ Some (length bytes, bytes ++ 10 ∷ rest)
tty_line t bytes rest small few =
    let count = decimal (length bytes) in
    ap (λ (text : List ℕ). past (codes "# #\n") (0, text)) (tty_first (decimal t) count bytes rest)
    ∙ number_past (codes " #\n") 0 t 32 [] ((((count ++ newline) ++ bytes) ++ newline) ++ rest) small refl
    ∙ ap (λ (text : List ℕ). past (codes "#\n") (t, text)) (tty_second count bytes rest)
    ∙ number_past (codes "\n") t (length bytes) 10 [] (bytes ++ 10 ∷ rest) few refl

pub tty_passed : (t : ℕ) (bytes rest : List ℕ) → IsSmall t → IsSmall (length bytes) → behind_tty (tty_part t (Some bytes) ++ rest) ≡ Some rest
tty_passed t bytes rest small few =
    ap (option_and_then (λ (left : Left). behind_feed (drop left.0 left.1))) (tty_line t bytes rest small few)
    ∙ ap behind_feed (drop-append_seam bytes (10 ∷ rest))

tty_reach : (t : ℕ) (bytes more rest : List ℕ) → IsSmall t → IsSmall (length bytes) → Reaches behind_tty more rest → Reaches behind_tty (tty_part t (Some bytes) ++ more) rest
tty_reach t bytes more rest small few h = reach_more behind_tty 116 (drop 1 (tty_part t (Some bytes))) more rest (tty_passed t bytes more small few) h

pub ttys_passed : (k : Kernel) (ts rest : List ℕ) → KernelFits k → AllSmall ts → behind_tty rest ≡ None → Reaches behind_tty (ttys_report k ts ++ rest) rest
ttys_passed k [] rest fits small stops = reach_here behind_tty rest stops
ttys_passed k (t ∷ ts) rest fits small stops = by_tty (ttys_passed k ts rest fits small.1 stops) (tty_at k t) refl
  where
    by_tty : Reaches behind_tty (ttys_report k ts ++ rest) rest → (o : Option (List ℕ)) → tty_at k t ≡ o → Reaches behind_tty ((tty_part t o ++ ttys_report k ts) ++ rest) rest
    by_tty more None e = more
    by_tty more (Some bytes) e =
        of_part (λ (text : List ℕ). Reaches behind_tty text rest) (tty_part t (Some bytes)) (tty_part t (Some bytes)) (ttys_report k ts) rest refl
        (tty_reach t bytes (ttys_report k ts ++ rest) rest small.0 (fits.ttys t bytes e) more)

pub small_range : (a n : ℕ) → a + n < 2 ^ 64 → AllSmall (range_with_len a n)
small_range a zero lt = tt
small_range a (suc n) lt = (omega (arith, lt), small_range (a + 1) n (omega (arith, lt)))

-- ---- a process

-- what may stand behind the pid
abbrev process_tails : List (List ℕ)
process_tails = codes " exit #\n" ∷ codes " trap #\n" ∷ codes " killed #\n" ∷ codes " limit\n" ∷ codes " waiting\n" ∷ codes " running\n" ∷ []

-- the text behind the first of these shapes that is passed
abbrev first_of : List (List ℕ) → Left → Option (List ℕ)
first_of [] left = None
first_of (shape ∷ shapes) left = option_map_or (λ (l : Left). Some l.1) (past shape left) (first_of shapes left)

pids_first : (shapes : List (List ℕ)) (p : ℕ) (more : List ℕ) → IsSmall p
    → behind_one (map (λ (shape : List ℕ). codes "pid #" ++ shape) shapes) (codes "pid " ++ ((decimal p ++ 32 ∷ []) ++ more)) ≡ first_of shapes (p, 32 ∷ more)
pids_first [] p more small = refl
pids_first (shape ∷ shapes) p more small =
    ap (λ (o : Option Left). option_map_or (λ (l : Left). Some l.1) o (behind_one (map (λ (s : List ℕ). codes "pid #" ++ s) shapes) (codes "pid " ++ ((decimal p ++ 32 ∷ []) ++ more))))
    (number_past shape 0 p 32 [] more small refl)
    ∙ ap (λ (o : Option (List ℕ)). option_map_or (λ (l : Left). Some l.1) (past shape (p, 32 ∷ more)) o) (pids_first shapes p more small)

first_taken : (shape : List ℕ) (shapes : List (List ℕ)) (left next : Left) → past shape left ≡ Some next → first_of (shape ∷ shapes) left ≡ Some next.1
first_taken shape shapes left next e = ap (λ (o : Option Left). option_map_or (λ (l : Left). Some l.1) o (first_of shapes left)) e

end_passed : (p : ℕ) (status : Status) (b : Bool) (rest : List ℕ) → StatusFits status → first_of process_tails (p, 32 ∷ ((status_text status b ++ newline) ++ rest)) ≡ Some rest
end_passed p (Ended (Exited s)) b rest h =
    first_taken (codes " exit #\n") (drop 1 process_tails) (p, 32 ∷ (((codes "exit " ++ decimal s) ++ newline) ++ rest)) (s, rest) (number_past (codes "\n") p s 10 [] rest h refl)
end_passed p (Ended (Trap c)) b rest h =
    first_taken (codes " trap #\n") (drop 2 process_tails) (p, 32 ∷ (((codes "trap " ++ decimal c) ++ newline) ++ rest)) (c, rest) (number_past (codes "\n") p c 10 [] rest h refl)
end_passed p (Ended (Killed g)) b rest h =
    first_taken (codes " killed #\n") (drop 3 process_tails) (p, 32 ∷ (((codes "killed " ++ decimal g) ++ newline) ++ rest)) (g, rest) (number_past (codes "\n") p g 10 [] rest h refl)
end_passed p (Ended Limit) b rest h = refl
end_passed p (Closing end) true rest h = refl
end_passed p (Closing end) false rest h = refl
end_passed p Live true rest h = refl
end_passed p Live false rest h = refl

pid_line : (xs st rest : List ℕ) → (((xs ++ codes " ") ++ st) ++ newline) ++ rest ≡ (xs ++ 32 ∷ []) ++ ((st ++ newline) ++ rest)
pid_line [] st rest = refl
pid_line (x ∷ xs) st rest = ap (λ (t : List ℕ). x ∷ t) (pid_line xs st rest)

abbrev acts : ProcState → Bool
acts s = has_step (next_step s) || can_take s

pub process_passed : (p : Pid) (s : ProcState) (rest : List ℕ) → IsSmall p.0 → StatusFits (s.small).status → behind_one process_shapes (pid_part p (Some s) ++ rest) ≡ Some rest
process_passed p s rest small fits =
    let st = status_text (s.small).status (acts s) in
    ap (λ (text : List ℕ). behind_one process_shapes (codes "pid " ++ text)) (pid_line (decimal p.0) st rest)
    ∙ pids_first process_tails p.0 ((st ++ newline) ++ rest) small
    ∙ end_passed p.0 (s.small).status (acts s) rest fits

process_reach : (p : Pid) (s : ProcState) (more rest : List ℕ) → IsSmall p.0 → StatusFits (s.small).status → Reaches (behind_one process_shapes) more rest
    → Reaches (behind_one process_shapes) (pid_part p (Some s) ++ more) rest
process_reach p s more rest small fits h = reach_more (behind_one process_shapes) 112 (drop 1 (pid_part p (Some s))) more rest (process_passed p s more small fits) h

pub processes_passed : (k : Kernel) (ps : List Pid) (rest : List ℕ) → KernelFits k → behind_one process_shapes rest ≡ None → Reaches (behind_one process_shapes) (pids_report k ps ++ rest) rest
processes_passed k [] rest fits stops = reach_here (behind_one process_shapes) rest stops
processes_passed k (p ∷ ps) rest fits stops = by_process (processes_passed k ps rest fits stops) (process_at k p) refl
  where
    by_process : Reaches (behind_one process_shapes) (pids_report k ps ++ rest) rest → (o : Option ProcState) → process_at k p ≡ o
        → Reaches (behind_one process_shapes) ((pid_part p o ++ pids_report k ps) ++ rest) rest
    by_process more None e = more
    by_process more (Some s) e =
        let fit = fits.processes p s e in
        of_part (λ (text : List ℕ). Reaches (behind_one process_shapes) text rest) (pid_part p (Some s)) (pid_part p (Some s)) (pids_report k ps) rest refl
        (process_reach p s (pids_report k ps ++ rest) rest fit.0 fit.1 more)

-- behind the terminals a process stands, or what stands behind the processes
pub no_tty : (k : Kernel) (ps : List Pid) (rest : List ℕ) → behind_tty rest ≡ None → behind_tty (pids_report k ps ++ rest) ≡ None
no_tty k [] rest stops = stops
no_tty k (p ∷ ps) rest stops = by_process (no_tty k ps rest stops) (process_at k p)
  where
    by_process : behind_tty (pids_report k ps ++ rest) ≡ None → (o : Option ProcState) → behind_tty ((pid_part p o ++ pids_report k ps) ++ rest) ≡ None
    by_process more None = more
    by_process more (Some s) = refl
