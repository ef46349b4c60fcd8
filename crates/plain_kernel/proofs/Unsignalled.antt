-- A letter that is no signal lets no process take one.
use Rattle.std.proofs.Common.{◌≡◌, ℕ, refl, sym, ap, ◌∙◌, List, [], ◌∷◌, ◌&&◌, Bool, true, false, cond, Option, Some, None, is_none, is_some, option_and_then, option_map}
use Rattle.std.specs.Prelude.{find as first_of}
use Rattle.std.specs.Option.{option_map_or, option_or}
use Rattle.std.specs.declared.cmp.Ordering.TheVariants.{Less, Equal, Greater}
use Rattle.std.specs.Ordering.{is_eq}
use Rattle.std.specs.FinMap.{find, put}
use Rattle.std.specs.FinMap.Entries.{find-put, find_tied}
use Rattle.std.specs.Map.{lookup}
use Rattle.std.proofs.lemmas.List.Folds.{find-append}
use Rattle.t32_base.specs.declared.process.Pid.{Pid}
use Rattle.t32_base.specs.declared.letter.Arrived.{Arrived}
use Rattle.t32_base.specs.declared.letter.Body.{Body}
use Rattle.t32_base.specs.declared.letter.Body.TheVariants.{Said, EndOf, Signal}
use Rattle.t32_base.specs.declared.letter.Letter.{Letter}
use Rattle.t32_base.specs.declared.letter.To.{To}
use Rattle.t32_base.specs.declared.letter.To.TheVariants.{Proc, Tty}
use Rattle.proc_state.specs.declared.process.Process.{Process}
use Rattle.proc_state.specs.Mail.{carries_signal, is_on, signal_of}
use Rattle.proc_state.specs.State.{ProcState, can_take, delivered, has_ended, is_live, state_of}
use Rattle.plain_kernel.specs.Kernel.{Kernel, deliver, letter_put, letter_to, pid_cmp, process_at}
use Rattle.plain_kernel.specs.Maps.{at_key, kernel_of, pid_of, processes_of, takes_at, NoneTakes}
use Rattle.plain_kernel.proofs.Entries.{lookup_state}
use Rattle.plain_kernel.proofs.Laws.{pid_cmp_total}

no_number : (body : Body) → carries_signal body ≡ false → signal_of body ≡ None
no_number (Said bytes) other = refl
no_number EndOf other = refl
no_number (Signal g) other = cc

-- the process that it reaches can take a signal where it could before
delivered_same : (s : ProcState) (letter : Letter) → carries_signal letter.body ≡ false → can_take (delivered s letter) ≡ can_take s
delivered_same s letter other =
    ap (λ b. is_live (s.small).status && is_none (s.small).frame && b)
    (ap (λ o. is_some (option_and_then (λ (a : Arrived). signal_of (a.letter).body) o)) (find-append (is_on 0) s.mail (arrived ∷ [])) ∙ by_first (first_of (is_on 0) s.mail))
  where
    arrived : Arrived
    arrived = record { number = s.next; letter = letter }

    by_test : (b : Bool) → is_some (option_and_then (λ (a : Arrived). signal_of (a.letter).body) (cond b (Some arrived) None)) ≡ false
    by_test true = ap is_some (no_number letter.body other)
    by_test false = refl

    by_first : (o : Option Arrived) → is_some (option_and_then (λ (a : Arrived). signal_of (a.letter).body) (option_or o (first_of (is_on 0) (arrived ∷ [])))) ≡ is_some (option_and_then (λ (a : Arrived). signal_of (a.letter).body) o)
    by_first (Some a) = refl
    by_first None = by_test (is_on 0 arrived)

-- ---- in a kernel

abbrev taker_at : List (Pid × ProcState) → Pid → Bool
taker_at ps q = option_map_or can_take (find pid_cmp q ps) false

put_taker : (ps : List (Pid × ProcState)) (p q : Pid) (s t : ProcState) → find pid_cmp p ps ≡ Some s → can_take t ≡ can_take s → taker_at (put pid_cmp p t ps) q ≡ taker_at ps q
put_taker ps p q s t there same =
    ap (λ o. option_map_or can_take o false) (find-put pid_cmp pid_cmp_total q p t ps)
    ∙ elim (pid_cmp q p) as (λ o. pid_cmp q p ≡ o → option_map_or can_take (cond (is_eq o) (Some t) (find pid_cmp q ps)) false ≡ option_map_or can_take (find pid_cmp q ps) false) [
      | Less ↦ λ _. refl
      | Equal ↦ λ tied. same ∙ ap (λ o. option_map_or can_take o false) (sym there ∙ find_tied pid_cmp pid_cmp_total q p tied ps)
      | Greater ↦ λ _. refl
    ] refl

letter_put_taker : (letter : Letter) (p q : Pid) (o : Option ProcState) (ps : List (Pid × ProcState)) → carries_signal letter.body ≡ false → find pid_cmp p ps ≡ o → taker_at (letter_put letter p o ps) q ≡ taker_at ps q
letter_put_taker letter p q None ps other there = refl
letter_put_taker letter p q (Some s) ps other there = by_status (has_ended (s.small).status)
  where
    by_status : (b : Bool) → taker_at (cond b ps (put pid_cmp p (delivered s letter) ps)) q ≡ taker_at ps q
    by_status true = refl
    by_status false = put_taker ps p q s (delivered s letter) there (delivered_same s letter other)

letter_to_taker : (k : Kernel) (letter : Letter) (to : To) (q : Pid) → carries_signal letter.body ≡ false → taker_at (letter_to k letter to).processes q ≡ taker_at k.processes q
letter_to_taker k letter (Tty t) q other = refl
letter_to_taker k letter (Proc p e) q other = letter_put_taker letter p q (process_at k p) k.processes other refl

taker_seen : (es : List (ℕ × Process)) (q : ℕ) → taker_at (processes_of es) (pid_of q) ≡ takes_at es q
taker_seen es q = ap (λ o. option_map_or can_take o false) (lookup_state q es) ∙ seen (lookup (at_key q) es)
  where
    seen : (o : Option Process) → option_map_or can_take (option_map state_of o) false ≡ option_map_or (λ (p : Process). can_take (state_of p)) o false
    seen None = refl
    seen (Some p) = refl

pub none_unsignalled : (qs rs : List (ℕ × Process)) (ts us : List (ℕ × List ℕ)) (letter : Letter) → kernel_of rs us ≡ deliver (kernel_of qs ts) letter → carries_signal letter.body ≡ false → NoneTakes qs → NoneTakes rs
none_unsignalled qs rs ts us letter sent other none = λ q.
    sym (taker_seen rs q) ∙ ap (λ (k : Kernel). taker_at k.processes (pid_of q)) sent ∙ letter_to_taker (kernel_of qs ts) letter letter.to (pid_of q) other ∙ taker_seen qs q ∙ none q
