-- Laws of steps that are made again: one part after another, with letters that arrive, and what they count.
use Rattle.std.proofs.Common.{◌≡◌, ℕ, zero, suc, ◌+◌, refl, sym, ◌∙◌, ap, subst, arith, List, [], ◌∷◌, ◌++◌, length, Bool, true, false, Option, Some, None, append_assoc, append-nil, zero-add, add-zero, add-one}
use Rattle.std.specs.Prelude.{option_map, option_and_then}
use Rattle.std.specs.Option.{option_map_or}
use Rattle.std.proofs.lemmas.Option.{same_Some}
use Rattle.t32_base.specs.declared.process.Pid.{Pid}
use Rattle.t32_base.specs.declared.letter.Letter.{Letter}
use Rattle.proc_state.specs.State.{ProcState, delivered, has_ended}
use Rattle.sys_calls.specs.declared.steps.Emission.{Emission}
use Rattle.sys_calls.specs.Calls.{Next, Silent, Blocked, Forks, Emits, Over}
use Rattle.sys_calls.specs.Next.{next_step, silently, last_emission, is_blocked}
use Rattle.sys_calls.specs.Fork.{fork_parent, before_fork, if_forks}
use Rattle.sys_calls.proofs.Counting.{silent_counts, emits_counts, ended_is_over, last_sent}
use Rattle.sys_calls.proofs.RunLemma.{with_after, next_step-delivered, all_delivered}
use Rattle.plain_kernel.proofs.Laws.{last_silent, no_silent}
use Rattle.roll_forward.specs.Deeds.{Deed, Sends, Bears, births_in}
use Rattle.cert_sched.specs.Deeds.{numbered}
use Rattle.roll_forward.specs.Replay.{replayed, replay_step, put_first}

-- ---- the relation

-- what is asked of a step that is made again, where these deeds are to be done, and of what comes after it
abbrev pub ReplaysBy : ProcState → (ProcState → List Deed → Type 0) → Next → List Deed → Type 0
ReplaysBy s After (Silent t) deeds = After t deeds
ReplaysBy s After Blocked deeds = ⊥
ReplaysBy s After Forks [] = ⊥
ReplaysBy s After Forks (Sends e ∷ rest) = ⊥
ReplaysBy s After Forks (Bears child ∷ rest) = After (fork_parent s child) rest
ReplaysBy s After (Emits e t) [] = ⊥
ReplaysBy s After (Emits e t) (Sends m ∷ rest) = (m ≡ e) × After t rest
ReplaysBy s After (Emits e t) (Bears child ∷ rest) = ⊥
ReplaysBy s After Over deeds = ⊥

-- from s, n steps and forks do these deeds, in order and no others, and lead to t; each fork bears the child of its deed
abbrev pub Replays : ℕ → ProcState → List Deed → ProcState → Type 0
Replays zero s deeds t = (deeds ≡ []) × (t ≡ s)
Replays (suc n) s deeds t = ReplaysBy s (λ u rest. Replays n u rest t) (next_step s) deeds

-- ---- one part after another

step_on : (s : ProcState) (After More : ProcState → List Deed → Type 0) (es : List Deed) (next : Next) (ds : List Deed) → ReplaysBy s After next ds
    → ((x : ProcState) (rest : List Deed) → After x rest → More x (rest ++ es)) → ReplaysBy s More next (ds ++ es)
step_on s After More es (Silent t) ds h on = on t ds h
step_on s After More es Blocked ds h on = absurd h
step_on s After More es Forks [] h on = absurd h
step_on s After More es Forks (Sends e ∷ rest) h on = absurd h
step_on s After More es Forks (Bears child ∷ rest) h on = on (fork_parent s child) rest h
step_on s After More es (Emits e t) [] h on = absurd h
step_on s After More es (Emits e t) (Sends m ∷ rest) h on = (h.0, on t rest h.1)
step_on s After More es (Emits e t) (Bears child ∷ rest) h on = absurd h
step_on s After More es Over ds h on = absurd h

pub replays_on : (n m : ℕ) (s t u : ProcState) (ds es : List Deed) → Replays n s ds t → Replays m t es u → Replays (n + m) s (ds ++ es) u
replays_on zero m s t u ds es first rest =
    subst (λ k. Replays k s (ds ++ es) u) (sym (zero-add m))
    (subst (λ xs. Replays m s (xs ++ es) u) (sym first.0) (subst (λ x. Replays m x es u) first.1 rest))
replays_on (suc n) m s t u ds es first rest =
    let same : suc (n + m) ≡ suc n + m = omega arith in
    subst (λ k. Replays k s (ds ++ es) u) same
    (step_on s (λ x r. Replays n x r t) (λ x r. Replays (n + m) x r u) es (next_step s) ds first (λ x r h. replays_on n m x t u r es h rest))

-- no step
pub replays_none : (s : ProcState) → Replays 0 s [] s
replays_none s = (refl, refl)

-- one step of each kind
pub replays_silent : (s t : ProcState) → next_step s ≡ Silent t → Replays 1 s [] t
replays_silent s t is = subst (λ next. ReplaysBy s (λ u rest. Replays 0 u rest t) next []) (sym is) (refl, refl)

pub replays_sent : (s t : ProcState) (e : Emission) → next_step s ≡ Emits e t → Replays 1 s (Sends e ∷ []) t
replays_sent s t e is = subst (λ next. ReplaysBy s (λ u rest. Replays 0 u rest t) next (Sends e ∷ [])) (sym is) (refl, (refl, refl))

pub replays_fork : (s : ProcState) (child : Pid) → next_step s ≡ Forks → Replays 1 s (Bears child ∷ []) (fork_parent s child)
replays_fork s child is = subst (λ next. ReplaysBy s (λ u rest. Replays 0 u rest (fork_parent s child)) next (Bears child ∷ [])) (sym is) (refl, refl)

-- silent steps
pub replays_silently : (n : ℕ) (s t : ProcState) → silently n s ≡ Some t → Replays n s [] t
replays_silently zero s t is = (refl, sym (no_silent s t is))
replays_silently (suc n) s t is =
    let l = last_silent n s t is in
    subst (λ k. Replays k s [] t) (add-one n) (replays_on n 1 s l.before t [] [] (replays_silently n s l.before l.made) (replays_silent l.before t l.last))

-- silent steps and a last one that sends something
pub replays_last : (n : ℕ) (s t : ProcState) (e : Emission) → last_emission n s ≡ Some (e, t) → Replays n s (Sends e ∷ []) t
replays_last n s t e is =
    let l = last_sent n s e t is in
    subst (λ k. Replays k s (Sends e ∷ []) t) (add-one l.earlier ∙ sym l.count)
    (replays_on l.earlier 1 s l.before t [] (Sends e ∷ []) (replays_silently l.earlier s l.before l.silent) (replays_sent l.before t e l.last))

-- silent steps and a fork
pub replays_forked : (n : ℕ) (s q : ProcState) (child : Pid) → before_fork n s ≡ Some q → Replays (n + 1) s (Bears child ∷ []) (fork_parent q child)
replays_forked n s q child is = by_case (silently n s) refl is
  where
    by_next : (r : ProcState) (next : Next) → silently n s ≡ Some r → next_step r ≡ next → if_forks r next ≡ Some q → Replays (n + 1) s (Bears child ∷ []) (fork_parent q child)
    by_next r (Silent t) there step e = cc
    by_next r Blocked there step e = cc
    by_next r Forks there step e =
        let same : r ≡ q = same_Some r q e in
        replays_on n 1 s q (fork_parent q child) [] (Bears child ∷ []) (replays_silently n s q (there ∙ ap Some same)) (replays_fork q child (sym (ap next_step same) ∙ step))
    by_next r (Emits m t) there step e = cc
    by_next r Over there step e = cc

    by_case : (o : Option ProcState) → silently n s ≡ o → option_and_then (λ q. if_forks q (next_step q)) o ≡ Some q → Replays (n + 1) s (Bears child ∷ []) (fork_parent q child)
    by_case None there e = cc
    by_case (Some r) there e = by_next r (next_step r) there refl e

-- ---- letters that arrive

pub not_blocked : (s : ProcState) (After : ProcState → List Deed → Type 0) (next : Next) (ds : List Deed) → ReplaysBy s After next ds → is_blocked next ≡ false
not_blocked s After (Silent t) ds h = refl
not_blocked s After Blocked ds h = absurd h
not_blocked s After Forks ds h = refl
not_blocked s After (Emits e t) ds h = refl
not_blocked s After Over ds h = refl

step_delivered : (s : ProcState) (l : Letter) (After More : ProcState → List Deed → Type 0) (next : Next) (ds : List Deed) → ReplaysBy s After next ds
    → ((x : ProcState) (rest : List Deed) → After x rest → More (delivered x l) rest) → ReplaysBy (delivered s l) More (with_after (λ t. delivered t l) next) ds
step_delivered s l After More (Silent t) ds h on = on t ds h
step_delivered s l After More Blocked ds h on = absurd h
step_delivered s l After More Forks [] h on = absurd h
step_delivered s l After More Forks (Sends e ∷ rest) h on = absurd h
step_delivered s l After More Forks (Bears child ∷ rest) h on = on (fork_parent s child) rest h
step_delivered s l After More (Emits e t) [] h on = absurd h
step_delivered s l After More (Emits e t) (Sends m ∷ rest) h on = (h.0, on t rest h.1)
step_delivered s l After More (Emits e t) (Bears child ∷ rest) h on = absurd h
step_delivered s l After More Over ds h on = absurd h

-- steps that can be made are made again with one more letter in the mailbox, and the letter is there after them
pub replays_delivered : (n : ℕ) (s t : ProcState) (ds : List Deed) (l : Letter) → Replays n s ds t → Replays n (delivered s l) ds (delivered t l)
replays_delivered zero s t ds l h = (h.0, ap (λ x. delivered x l) h.1)
replays_delivered (suc n) s t ds l h =
    subst (λ next. ReplaysBy (delivered s l) (λ x r. Replays n x r (delivered t l)) next ds)
    (sym (next_step-delivered s l (not_blocked s (λ x r. Replays n x r t) (next_step s) ds h)))
    (step_delivered s l (λ x r. Replays n x r t) (λ x r. Replays n x r (delivered t l)) (next_step s) ds h (λ x r g. replays_delivered n x t r l g))

pub replays_all_delivered : (n : ℕ) (s t : ProcState) (ds : List Deed) (letters : List Letter) → Replays n s ds t → Replays n (all_delivered s letters) ds (all_delivered t letters)
replays_all_delivered n s t ds [] h = h
replays_all_delivered n s t ds (l ∷ letters) h = replays_all_delivered n (delivered s l) (delivered t l) ds letters (replays_delivered n s t ds l h)

-- letters that arrive are last in the mailbox, with the next numbers
pub all_delivered-is : (s : ProcState) (letters : List Letter) → all_delivered s letters ≡ record s { mail = s.mail ++ numbered s.next letters; next = s.next + length letters }
all_delivered-is s [] = λ i. record s { mail = sym (append-nil s.mail) i; next = sym (add-zero s.next) i }
all_delivered-is s (l ∷ letters) =
    let count : s.next + 1 + length letters ≡ s.next + suc (length letters) = omega arith in
    all_delivered-is (delivered s l) letters
    ∙ (λ i. record s { mail = append_assoc s.mail (record { number = s.next; letter = l } ∷ []) (numbered (s.next + 1) letters) i; next = count i })

-- ---- what they count

pub record Counted (n : ℕ) (s t : ProcState) : Type 0 where
  pub steps : (t.small).steps ≡ (s.small).steps + n
  pub pid : (t.small).pid ≡ (s.small).pid
  pub next : t.next ≡ s.next

one_more : (n : ℕ) (s x t : ProcState) → (x.small).steps ≡ (s.small).steps + 1 → (x.small).pid ≡ (s.small).pid → x.next ≡ s.next → Counted n x t → Counted (suc n) s t
one_more n s x t steps pid next c = record { steps = omega (arith, steps, c.steps); pid = c.pid ∙ pid; next = c.next ∙ next }

step_counts : (n : ℕ) (s t : ProcState) (next : Next) (ds : List Deed) → next_step s ≡ next → ReplaysBy s (λ x r. Replays n x r t) next ds → ((x : ProcState) (r : List Deed) → Replays n x r t → Counted n x t) → Counted (suc n) s t
step_counts n s t (Silent x) ds is h counts = let one = silent_counts s x is in one_more n s x t one.steps one.pid one.next (counts x ds h)
step_counts n s t Blocked ds is h counts = absurd h
step_counts n s t Forks [] is h counts = absurd h
step_counts n s t Forks (Sends e ∷ rest) is h counts = absurd h
step_counts n s t Forks (Bears child ∷ rest) is h counts = one_more n s (fork_parent s child) t refl refl refl (counts (fork_parent s child) rest h)
step_counts n s t (Emits e x) [] is h counts = absurd h
step_counts n s t (Emits e x) (Sends m ∷ rest) is h counts = let one = emits_counts s x e is in one_more n s x t one.steps one.pid one.next (counts x rest h.1)
step_counts n s t (Emits e x) (Bears child ∷ rest) is h counts = absurd h
step_counts n s t Over ds is h counts = absurd h

-- n steps are counted n times, the process is the same, and no letter has arrived
pub replays_counts : (n : ℕ) (s t : ProcState) (ds : List Deed) → Replays n s ds t → Counted n s t
replays_counts zero s t ds h = record { steps = ap (λ (p : ProcState). (p.small).steps) h.1 ∙ sym (add-zero (s.small).steps); pid = ap (λ (p : ProcState). (p.small).pid) h.1; next = ap (λ (p : ProcState). p.next) h.1 }
replays_counts (suc n) s t ds h = step_counts n s t (next_step s) ds refl h (λ x r g. replays_counts n x t r g)

-- ---- the end of a process

over_none : (s : ProcState) (After : ProcState → List Deed → Type 0) (ds : List Deed) → has_ended (s.small).status ≡ true → ReplaysBy s After (next_step s) ds → ⊥
over_none s After ds ended h = subst (λ next. ReplaysBy s After next ds) (ended_is_over s ended) h

-- a process that has not ended had not ended
pub replays_goes_on : (n : ℕ) (s t : ProcState) (ds : List Deed) → Replays n s ds t → has_ended (t.small).status ≡ false → has_ended (s.small).status ≡ false
replays_goes_on zero s t ds h is = ap (λ (p : ProcState). has_ended (p.small).status) (sym h.1) ∙ is
replays_goes_on (suc n) s t ds h is = by_status (has_ended (s.small).status) refl
  where
    by_status : (b : Bool) → has_ended (s.small).status ≡ b → b ≡ false
    by_status true ended = absurd (over_none s (λ x r. Replays n x r t) ds ended h)
    by_status false ended = refl

-- ---- as a computation

step_computes : (n : ℕ) (s t : ProcState) (next : Next) (ds : List Deed) → ReplaysBy s (λ x r. Replays n x r t) next ds
    → ((x : ProcState) (r : List Deed) → Replays n x r t → replayed n x (births_in r) ≡ Some (t, r)) → replay_step s (λ x rest. replayed n x rest) next (births_in ds) ≡ Some (t, ds)
step_computes n s t (Silent x) ds h is = is x ds h
step_computes n s t Blocked ds h is = absurd h
step_computes n s t Forks [] h is = absurd h
step_computes n s t Forks (Sends e ∷ rest) h is = absurd h
step_computes n s t Forks (Bears child ∷ rest) h is = ap (option_map (put_first (Bears child))) (is (fork_parent s child) rest h)
step_computes n s t (Emits e x) [] h is = absurd h
step_computes n s t (Emits e x) (Sends m ∷ rest) h is = ap (option_map (put_first (Sends e))) (is x rest h.1) ∙ ap (λ k. Some (t, Sends k ∷ rest)) (sym h.0)
step_computes n s t (Emits e x) (Bears child ∷ rest) h is = absurd h
step_computes n s t Over ds h is = absurd h

-- so many steps with the children of the deeds lead there, and do these deeds
pub replays_computes : (n : ℕ) (s t : ProcState) (ds : List Deed) → Replays n s ds t → replayed n s (births_in ds) ≡ Some (t, ds)
replays_computes zero s t ds h = λ i. Some (sym h.1 i, sym h.0 i)
replays_computes (suc n) s t ds h = step_computes n s t (next_step s) ds h (λ x r g. replays_computes n x t r g)

-- ---- and back

pub first_is : (r : ProcState × List Deed) (t : ProcState) (ds : List Deed) → Some r ≡ Some (t, ds) → (r.0 ≡ t) × (r.1 ≡ ds)
first_is r t ds e = (ap (λ (o : Option (ProcState × List Deed)). option_map_or (λ (q : ProcState × List Deed). q.0) o t) e, ap (λ (o : Option (ProcState × List Deed)). option_map_or (λ (q : ProcState × List Deed). q.1) o ds) e)

-- ---- up to the last deed

abbrev pub IsSome : List Deed → Type 0
IsSome [] = ⊥
IsSome (d ∷ ds) = Unit {0}

-- the same, where a deed is still to be done before each step: the last step does the last deed
abbrev pub Sharp : ℕ → ProcState → List Deed → ProcState → Type 0
Sharp zero s deeds t = (deeds ≡ []) × (t ≡ s)
Sharp (suc n) s deeds t = IsSome deeds × ReplaysBy s (λ u rest. Sharp n u rest t) (next_step s) deeds

-- what is asked of a step for what comes after it may be asked for less
pub step_weaker : (s : ProcState) (A B : ProcState → List Deed → Type 0) (next : Next) (ds : List Deed) → ReplaysBy s A next ds → ((x : ProcState) (rest : List Deed) → A x rest → B x rest) → ReplaysBy s B next ds
step_weaker s A B (Silent t) ds h on = on t ds h
step_weaker s A B Blocked ds h on = absurd h
step_weaker s A B Forks [] h on = absurd h
step_weaker s A B Forks (Sends e ∷ rest) h on = absurd h
step_weaker s A B Forks (Bears child ∷ rest) h on = on (fork_parent s child) rest h
step_weaker s A B (Emits e t) [] h on = absurd h
step_weaker s A B (Emits e t) (Sends m ∷ rest) h on = (h.0, on t rest h.1)
step_weaker s A B (Emits e t) (Bears child ∷ rest) h on = absurd h
step_weaker s A B Over ds h on = absurd h

pub sharp_replays : (n : ℕ) (s t : ProcState) (ds : List Deed) → Sharp n s ds t → Replays n s ds t
sharp_replays zero s t ds h = h
sharp_replays (suc n) s t ds h = step_weaker s (λ u rest. Sharp n u rest t) (λ u rest. Replays n u rest t) (next_step s) ds h.1 (λ x r g. sharp_replays n x t r g)

some_more : (ds : List Deed) (d : Deed) (es : List Deed) → IsSome (ds ++ d ∷ es)
some_more [] d es = tt
some_more (x ∷ ds) d es = tt

-- steps, and then some up to a last deed
pub sharp_on : (n m : ℕ) (s t u : ProcState) (ds : List Deed) (d : Deed) (es : List Deed) → Replays n s ds t → Sharp m t (d ∷ es) u → Sharp (n + m) s (ds ++ d ∷ es) u
sharp_on zero m s t u ds d es first rest =
    subst (λ k. Sharp k s (ds ++ d ∷ es) u) (sym (zero-add m))
    (subst (λ xs. Sharp m s (xs ++ d ∷ es) u) (sym first.0) (subst (λ x. Sharp m x (d ∷ es) u) first.1 rest))
sharp_on (suc n) m s t u ds d es first rest =
    let same : suc (n + m) ≡ suc n + m = omega arith in
    let more : Sharp (suc (n + m)) s (ds ++ d ∷ es) u =
    (some_more ds d es, step_on s (λ x r. Replays n x r t) (λ x r. Sharp (n + m) x r u) (d ∷ es) (next_step s) ds first (λ x r h. sharp_on n m x t u r d es h rest)) in
    subst (λ k. Sharp k s (ds ++ d ∷ es) u) same more

sharp_sent : (s t : ProcState) (e : Emission) → next_step s ≡ Emits e t → Sharp 1 s (Sends e ∷ []) t
sharp_sent s t e is = (tt, subst (λ next. ReplaysBy s (λ u rest. Sharp 0 u rest t) next (Sends e ∷ [])) (sym is) (refl, (refl, refl)))

-- silent steps and a last one that sends something are such
pub sharp_last : (n : ℕ) (s t : ProcState) (e : Emission) → last_emission n s ≡ Some (e, t) → Sharp n s (Sends e ∷ []) t
sharp_last n s t e is =
    let l = last_sent n s e t is in
    subst (λ k. Sharp k s (Sends e ∷ []) t) (add-one l.earlier ∙ sym l.count)
    (sharp_on l.earlier 1 s l.before t [] (Sends e) [] (replays_silently l.earlier s l.before l.silent) (sharp_sent l.before t e l.last))

-- with one more letter in the mailbox they are too
pub sharp_delivered : (n : ℕ) (s t : ProcState) (ds : List Deed) (l : Letter) → Sharp n s ds t → Sharp n (delivered s l) ds (delivered t l)
sharp_delivered zero s t ds l h = (h.0, ap (λ x. delivered x l) h.1)
sharp_delivered (suc n) s t ds l h = (
  h.0,
  subst (λ next. ReplaysBy (delivered s l) (λ x r. Sharp n x r (delivered t l)) next ds)
      (sym (next_step-delivered s l (not_blocked s (λ x r. Sharp n x r t) (next_step s) ds h.1)))
      (step_delivered s l (λ x r. Sharp n x r t) (λ x r. Sharp n x r (delivered t l)) (next_step s) ds h.1 (λ x r g. sharp_delivered n x t r l g)),
)

pub sharp_all_delivered : (n : ℕ) (s t : ProcState) (ds : List Deed) (letters : List Letter) → Sharp n s ds t → Sharp n (all_delivered s letters) ds (all_delivered t letters)
sharp_all_delivered n s t ds [] h = h
sharp_all_delivered n s t ds (l ∷ letters) h = sharp_all_delivered n (delivered s l) (delivered t l) ds letters (sharp_delivered n s t ds l h)

sharp_fork : (s : ProcState) (child : Pid) → next_step s ≡ Forks → Sharp 1 s (Bears child ∷ []) (fork_parent s child)
sharp_fork s child is = (tt, subst (λ next. ReplaysBy s (λ u rest. Sharp 0 u rest (fork_parent s child)) next (Bears child ∷ [])) (sym is) (refl, refl))

-- the silent steps before a fork
pub record ForkAfter (n : ℕ) (s q : ProcState) : Type 0 where
  pub silent : silently n s ≡ Some q
  pub forks : next_step q ≡ Forks

pub fork_after : (n : ℕ) (s q : ProcState) → before_fork n s ≡ Some q → ForkAfter n s q
fork_after n s q is = by_case (silently n s) refl is
  where
    by_next : (r : ProcState) (next : Next) → silently n s ≡ Some r → next_step r ≡ next → if_forks r next ≡ Some q → ForkAfter n s q
    by_next r (Silent t) there step e = cc
    by_next r Blocked there step e = cc
    by_next r Forks there step e = let same : r ≡ q = same_Some r q e in record { silent = there ∙ ap Some same; forks = sym (ap next_step same) ∙ step }
    by_next r (Emits m t) there step e = cc
    by_next r Over there step e = cc

    by_case : (o : Option ProcState) → silently n s ≡ o → option_and_then (λ q. if_forks q (next_step q)) o ≡ Some q → ForkAfter n s q
    by_case None there e = cc
    by_case (Some r) there e = by_next r (next_step r) there refl e

-- silent steps and a fork are such too
pub sharp_forked : (n : ℕ) (s q : ProcState) (child : Pid) → before_fork n s ≡ Some q → Sharp (n + 1) s (Bears child ∷ []) (fork_parent q child)
sharp_forked n s q child is =
    let f = fork_after n s q is in
    sharp_on n 1 s q (fork_parent q child) [] (Bears child) [] (replays_silently n s q f.silent) (sharp_fork q child f.forks)
