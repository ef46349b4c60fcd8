-- The children that a process forks on its way: those that a replay makes again are those that were born, whatever letters have arrived in the meantime.
use Rattle.std.proofs.Common.{◌≡◌, ℕ, zero, suc, ◌+◌, refl, sym, ◌∙◌, ap, arith, List, [], ◌∷◌, ◌++◌, Some, zero-add}
use Rattle.t32_base.specs.declared.process.Pid.{Pid}
use Rattle.t32_base.specs.declared.letter.Letter.{Letter}
use Rattle.proc_state.specs.State.{ProcState, delivered}
use Rattle.sys_calls.specs.Calls.{Next, Silent, Blocked, Forks, Emits, Over}
use Rattle.sys_calls.specs.Next.{next_step}
use Rattle.sys_calls.specs.Fork.{fork_parent, fork_child, before_fork}
use Rattle.sys_calls.proofs.RunLemma.{with_after, next_step-delivered, all_delivered}
use Rattle.roll_forward.specs.Deeds.{Deed, Sends, Bears}
use Rattle.cert_sched.proofs.ReplayLaws.{Replays, ReplaysBy, replays_delivered, replays_silently, fork_after, not_blocked}

-- what a step and those after it fork
abbrev pub forked_by : ProcState → (ProcState → List Deed → List ProcState) → Next → List Deed → List ProcState
forked_by s after (Silent t) deeds = after t deeds
forked_by s after Blocked deeds = []
forked_by s after Forks [] = []
forked_by s after Forks (Sends e ∷ rest) = []
forked_by s after Forks (Bears child ∷ rest) = fork_child s child ∷ after (fork_parent s child) rest
forked_by s after (Emits e t) [] = []
forked_by s after (Emits e t) (d ∷ rest) = after t rest
forked_by s after Over deeds = []

-- the children as n steps from s that do these deeds fork them, in order
abbrev pub forked : ℕ → ProcState → List Deed → List ProcState
forked zero s deeds = []
forked (suc n) s deeds = forked_by s (λ t rest. forked n t rest) (next_step s) deeds

-- ---- one part after another

step_on : (s : ProcState) (After : ProcState → List Deed → Type 0) (f g : ProcState → List Deed → List ProcState) (es : List Deed) (more : List ProcState) (next : Next) (ds : List Deed) → ReplaysBy s After next ds
    → ((x : ProcState) (r : List Deed) → After x r → g x (r ++ es) ≡ f x r ++ more) → forked_by s g next (ds ++ es) ≡ forked_by s f next ds ++ more
step_on s After f g es more (Silent t) ds h on = on t ds h
step_on s After f g es more Blocked ds h on = absurd h
step_on s After f g es more Forks [] h on = absurd h
step_on s After f g es more Forks (Sends e ∷ rest) h on = absurd h
step_on s After f g es more Forks (Bears child ∷ rest) h on = ap (λ cs. fork_child s child ∷ cs) (on (fork_parent s child) rest h)
step_on s After f g es more (Emits e t) [] h on = absurd h
step_on s After f g es more (Emits e t) (Sends m ∷ rest) h on = on t rest h.1
step_on s After f g es more (Emits e t) (Bears child ∷ rest) h on = absurd h
step_on s After f g es more Over ds h on = absurd h

-- those of the first part, and then those of the second
pub forked_on : (n m : ℕ) (s t : ProcState) (ds es : List Deed) → Replays n s ds t → forked (n + m) s (ds ++ es) ≡ forked n s ds ++ forked m t es
forked_on zero m s t ds es first =
    ap (λ k. forked k s (ds ++ es)) (zero-add m) ∙ ap (λ xs. forked m s (xs ++ es)) first.0 ∙ ap (λ x. forked m x es) (sym first.1)
forked_on (suc n) m s t ds es first =
    let same : suc n + m ≡ suc (n + m) = omega arith in
    ap (λ k. forked k s (ds ++ es)) same
    ∙ step_on s (λ x r. Replays n x r t) (λ x r. forked n x r) (λ x r. forked (n + m) x r) es (forked m t es) (next_step s) ds first (λ x r h. forked_on n m x t r es h)

-- ---- letters that arrive

step_delivered : (s : ProcState) (l : Letter) (After : ProcState → List Deed → Type 0) (f : ProcState → List Deed → List ProcState) (next : Next) (ds : List Deed) → ReplaysBy s After next ds
    → ((x : ProcState) (r : List Deed) → After x r → f (delivered x l) r ≡ f x r) → forked_by (delivered s l) f (with_after (λ t. delivered t l) next) ds ≡ forked_by s f next ds
step_delivered s l After f (Silent t) ds h on = on t ds h
step_delivered s l After f Blocked ds h on = absurd h
step_delivered s l After f Forks [] h on = absurd h
step_delivered s l After f Forks (Sends e ∷ rest) h on = absurd h
step_delivered s l After f Forks (Bears child ∷ rest) h on = ap (λ cs. fork_child s child ∷ cs) (on (fork_parent s child) rest h)
step_delivered s l After f (Emits e t) [] h on = absurd h
step_delivered s l After f (Emits e t) (Sends m ∷ rest) h on = on t rest h.1
step_delivered s l After f (Emits e t) (Bears child ∷ rest) h on = absurd h
step_delivered s l After f Over ds h on = absurd h

-- a letter that has arrived changes no child
pub forked_delivered : (n : ℕ) (s t : ProcState) (ds : List Deed) (l : Letter) → Replays n s ds t → forked n (delivered s l) ds ≡ forked n s ds
forked_delivered zero s t ds l h = refl
forked_delivered (suc n) s t ds l h =
    ap (λ next. forked_by (delivered s l) (λ x r. forked n x r) next ds) (next_step-delivered s l (not_blocked s (λ x r. Replays n x r t) (next_step s) ds h))
    ∙ step_delivered s l (λ x r. Replays n x r t) (λ x r. forked n x r) (next_step s) ds h (λ x r g. forked_delivered n x t r l g)

pub forked_all_delivered : (n : ℕ) (s t : ProcState) (ds : List Deed) (letters : List Letter) → Replays n s ds t → forked n (all_delivered s letters) ds ≡ forked n s ds
forked_all_delivered n s t ds [] h = refl
forked_all_delivered n s t ds (l ∷ letters) h = forked_all_delivered n (delivered s l) (delivered t l) ds letters (replays_delivered n s t ds l h) ∙ forked_delivered n s t ds l h

-- ---- the parts

-- silent steps fork none
pub forked_none : (n : ℕ) (s t : ProcState) → Replays n s [] t → forked n s [] ≡ []
forked_none zero s t h = refl
forked_none (suc n) s t h = by_next (next_step s) h (λ x g. forked_none n x t g)
  where
    by_next : (next : Next) → ReplaysBy s (λ x r. Replays n x r t) next [] → ((x : ProcState) → Replays n x [] t → forked n x [] ≡ []) → forked_by s (λ x r. forked n x r) next [] ≡ []
    by_next (Silent x) h none = none x h
    by_next Blocked h none = absurd h
    by_next Forks h none = absurd h
    by_next (Emits e x) h none = absurd h
    by_next Over h none = absurd h

-- silent steps and a fork fork the one child
pub forked_once : (n : ℕ) (s q : ProcState) (child : Pid) → before_fork n s ≡ Some q → forked (n + 1) s (Bears child ∷ []) ≡ fork_child q child ∷ []
forked_once n s q child is =
    let f = fork_after n s q is in
    let silent = replays_silently n s q f.silent in
    forked_on n 1 s q [] (Bears child ∷ []) silent ∙ ap (λ cs. cs ++ forked 1 q (Bears child ∷ [])) (forked_none n s q silent)
    ∙ ap (λ next. forked_by q (λ t rest. forked 0 t rest) next (Bears child ∷ [])) f.forks
