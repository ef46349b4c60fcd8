-- Steps that are made again, of which a part is made: the rest of the deeds is done by the rest of the steps.
use Rattle.std.proofs.Common.{◌≡◌, ℕ, zero, suc, ◌+◌, refl, sym, ◌∙◌, ap, subst, arith, List, [], ◌∷◌, ◌++◌, Option, Some, None, zero-add}
use Rattle.std.specs.Prelude.{option_map}
use Rattle.std.proofs.lemmas.Grind.{flat_map-append}
use Rattle.t32_base.specs.declared.process.Pid.{Pid}
use Rattle.t32_base.specs.declared.process.Counts.{Counts}
use Rattle.sys_text.specs.declared.system.System.{System}
use Rattle.proc_state.specs.State.{ProcState}
use Rattle.sys_calls.specs.Calls.{Next, Silent, Blocked, Forks, Emits, Over}
use Rattle.sys_calls.specs.Next.{next_step}
use Rattle.sys_calls.specs.Fork.{fork_parent}
use Rattle.write_count.specs.Counting.{counts_of}
use Rattle.bus_msg.specs.declared.entry.Entry.{Entry}
use Rattle.roll_forward.specs.Deeds.{Deed, Sends, Bears, child_in, letters_in, births_in}
use Rattle.roll_forward.specs.Replay.{replayed, replay_step, put_first}
use Rattle.cert_sched.specs.Deeds.{start_of, since}
use Rattle.cert_sched.specs.Rolling.{refilled, RollsAs}
use Rattle.cert_sched.proofs.ReplayLaws.{ReplaysBy, Replays, Sharp, first_is}

-- ---- with children of later deeds behind those that are born

step_computes : (n : ℕ) (s t : ProcState) (more : List Pid) (next : Next) (ds : List Deed) → ReplaysBy s (λ x r. Replays n x r t) next ds
    → ((x : ProcState) (r : List Deed) → Replays n x r t → replayed n x (births_in r ++ more) ≡ Some (t, r)) → replay_step s (λ x rest. replayed n x rest) next (births_in ds ++ more) ≡ Some (t, ds)
step_computes n s t more (Silent x) ds h is = is x ds h
step_computes n s t more Blocked ds h is = absurd h
step_computes n s t more Forks [] h is = absurd h
step_computes n s t more Forks (Sends e ∷ rest) h is = absurd h
step_computes n s t more Forks (Bears child ∷ rest) h is = ap (option_map (put_first (Bears child))) (is (fork_parent s child) rest h)
step_computes n s t more (Emits e x) [] h is = absurd h
step_computes n s t more (Emits e x) (Sends m ∷ rest) h is = ap (option_map (put_first (Sends e))) (is x rest h.1) ∙ ap (λ k. Some (t, Sends k ∷ rest)) (sym h.0)
step_computes n s t more (Emits e x) (Bears child ∷ rest) h is = absurd h
step_computes n s t more Over ds h is = absurd h

-- so many steps lead there, and do these deeds, where further children wait behind those of the deeds
pub computes_before : (n : ℕ) (s t : ProcState) (more : List Pid) (ds : List Deed) → Replays n s ds t → replayed n s (births_in ds ++ more) ≡ Some (t, ds)
computes_before zero s t more ds h = λ i. Some (sym h.1 i, sym h.0 i)
computes_before (suc n) s t more ds h = step_computes n s t more (next_step s) ds h (λ x r g. computes_before n x t more r g)

-- what was put first, and the rest
record Put (d : Deed) (t : ProcState) (ds : List Deed) (o : Option (ProcState × List Deed)) : Type 0 where
  pub rest : List Deed
  pub is : o ≡ Some (t, rest)
  pub deeds : ds ≡ d ∷ rest

put_is : (d : Deed) (t : ProcState) (ds : List Deed) (o : Option (ProcState × List Deed)) → option_map (put_first d) o ≡ Some (t, ds) → Put d t ds o
put_is d t ds None e = cc
put_is d t ds (Some r) e =
    let same = first_is (r.0, d ∷ r.1) t ds e in
    record { rest = r.1; is = ap (λ x. Some (x, r.1)) same.0; deeds = sym same.1 }

rest_births : (child c : Pid) (rest more : List Pid) → (child ∷ rest) ≡ (c ∷ more) → rest ≡ more
rest_births child c rest more e = ap (λ (xs : List Pid). tail_of xs) e
  where
    tail_of : List Pid → List Pid
    tail_of [] = []
    tail_of (x ∷ xs) = xs

step_back : (n : ℕ) (s t : ProcState) (more : List Pid) (next : Next) (births : List Pid) (ds : List Deed) → replay_step s (λ x rest. replayed n x rest) next births ≡ Some (t, ds) → births ≡ births_in ds ++ more
    → ((x : ProcState) (rest : List Pid) (r : List Deed) → replayed n x rest ≡ Some (t, r) → rest ≡ births_in r ++ more → Replays n x r t) → ReplaysBy s (λ x r. Replays n x r t) next ds
step_back n s t more (Silent x) births ds e born back = back x births ds e born
step_back n s t more Blocked births ds e born back = cc
step_back n s t more Forks [] ds e born back = cc
step_back n s t more Forks (child ∷ rest) ds e born back =
    let put = put_is (Bears child) t ds (replayed n (fork_parent s child) rest) e in
    let same = rest_births child child rest (births_in put.rest ++ more) (born ∙ ap (λ ds. births_in ds ++ more) put.deeds) in
    subst (ReplaysBy s (λ x r. Replays n x r t) Forks) (sym put.deeds) (back (fork_parent s child) rest put.rest put.is same)
step_back n s t more (Emits m x) births ds e born back =
    let put = put_is (Sends m) t ds (replayed n x births) e in
    let after : Replays n x put.rest t = back x births put.rest put.is (born ∙ ap (λ ds. births_in ds ++ more) put.deeds) in
    let both : ReplaysBy s (λ x r. Replays n x r t) (Emits m x) (Sends m ∷ put.rest) = (refl, after) in
    subst (ReplaysBy s (λ x r. Replays n x r t) (Emits m x)) (sym put.deeds) both
step_back n s t more Over births ds e born back = cc

-- and the other way round
pub replays_before : (n : ℕ) (s t : ProcState) (more births : List Pid) (ds : List Deed) → replayed n s births ≡ Some (t, ds) → births ≡ births_in ds ++ more → Replays n s ds t
replays_before zero s t more births ds e born = let same = first_is (s, []) t ds e in (sym same.1, sym same.0)
replays_before (suc n) s t more births ds e born = step_back n s t more (next_step s) births ds e born (λ x rest r f g. replays_before n x t more rest r f g)

-- ---- a part of what is made again

-- From `from`, so many steps do a part of these deeds and lead to s; the rest of the deeds is left.
pub record Part (from : ProcState) (all : List Deed) (s : ProcState) (rest : List Deed) : Type 0 where
  pub steps : ℕ
  pub done : List Deed
  pub replays : Replays steps from done s
  pub parts : all ≡ done ++ rest

-- what a process that rolls forward has done again, and what it has to withhold
pub record Rolling (system : System) (log : List Entry) (p : Pid) (s : ProcState) (counts : Counts) (births : List Pid) : Type 0 where
  pub start : ProcState
  pub started : start_of system log p ≡ Some start
  pub rest : List Deed
  pub part : Part (refilled log p start) (since log p) s rest
  pub counts_left : counts ≡ counts_of (letters_in rest)
  pub births_left : births ≡ births_in rest

children_of : (done rest : List Deed) → births_in (done ++ rest) ≡ births_in done ++ births_in rest
children_of done rest = flat_map-append child_in done rest

pub rolling_of : (system : System) (log : List Entry) (p : Pid) (s : ProcState) (counts : Counts) (births : List Pid) → RollsAs system log p s counts births → Rolling system log p s counts births
rolling_of system log p s counts births r = record {
  start = r.start;
  started = r.started;
  rest = r.rest;
  part = record {
    steps = r.steps;
    done = r.done;
    replays = replays_before r.steps (refilled log p r.start) s (births_in r.rest) (births_in (since log p)) r.done r.replays (ap births_in r.parts ∙ children_of r.done r.rest);
    parts = r.parts;
  };
  counts_left = r.counts_left;
  births_left = r.births_left;
}

pub rolls_as : (system : System) (log : List Entry) (p : Pid) (s : ProcState) (counts : Counts) (births : List Pid) → Rolling system log p s counts births → RollsAs system log p s counts births
rolls_as system log p s counts births r = record {
  start = r.start;
  steps = (r.part).steps;
  done = (r.part).done;
  rest = r.rest;
  started = r.started;
  replays =
      ap (λ bs. replayed (r.part).steps (refilled log p r.start) bs) (ap births_in (r.part).parts ∙ children_of (r.part).done r.rest)
      ∙ computes_before (r.part).steps (refilled log p r.start) s (births_in r.rest) (r.part).done (r.part).replays;
  parts = (r.part).parts;
  counts_left = r.counts_left;
  births_left = r.births_left;
}

-- ---- the part and the whole

cons_none : (d : Deed) (ds : List Deed) → (d ∷ ds) ≡ [] → ⊥
cons_none d ds e = cc

-- what a step asks for a part, and what it asks for the whole, are asked of one step
step_both : (s : ProcState) (A B : ProcState → List Deed → Type 0) (C : Type 0) (rest : List Deed) (next : Next) (ds : List Deed) → ReplaysBy s A next ds → ReplaysBy s B next (ds ++ rest)
    → ((x : ProcState) (r : List Deed) → A x r → B x (r ++ rest) → C) → C
step_both s A B C rest (Silent x) ds h g on = on x ds h g
step_both s A B C rest Blocked ds h g on = absurd h
step_both s A B C rest Forks [] h g on = absurd h
step_both s A B C rest Forks (Sends e ∷ more) h g on = absurd h
step_both s A B C rest Forks (Bears child ∷ more) h g on = on (fork_parent s child) more h g
step_both s A B C rest (Emits e x) [] h g on = absurd h
step_both s A B C rest (Emits e x) (Sends d ∷ more) h g on = on x more h.1 g.1
step_both s A B C rest (Emits e x) (Bears child ∷ more) h g on = absurd h
step_both s A B C rest Over ds h g on = absurd h

-- a part leads on to where the whole leads, by the rest of the steps, which do the rest of the deeds
pub replays_split : (n m : ℕ) (s t u : ProcState) (ds rest : List Deed) → Replays n s ds t → Replays (n + m) s (ds ++ rest) u → Replays m t rest u
replays_split zero m s t u ds rest first all =
    subst (λ x. Replays m x rest u) (sym first.1) (subst (λ xs. Replays m s (xs ++ rest) u) first.0 (subst (λ k. Replays k s (ds ++ rest) u) (zero-add m) all))
replays_split (suc n) m s t u ds rest first all =
    let same : suc n + m ≡ suc (n + m) = omega arith in
    let whole : Replays (suc (n + m)) s (ds ++ rest) u = subst (λ k. Replays k s (ds ++ rest) u) same all in
    step_both s (λ x r. Replays n x r t) (λ x r. Replays (n + m) x r u) (Replays m t rest u) rest (next_step s) ds first whole (λ x r h g. replays_split n m x t u r rest h g)

-- the same up to the last deed
pub sharp_split : (n m : ℕ) (s t u : ProcState) (ds rest : List Deed) → Replays n s ds t → Sharp (n + m) s (ds ++ rest) u → Sharp m t rest u
sharp_split zero m s t u ds rest first all =
    subst (λ x. Sharp m x rest u) (sym first.1) (subst (λ xs. Sharp m s (xs ++ rest) u) first.0 (subst (λ k. Sharp k s (ds ++ rest) u) (zero-add m) all))
sharp_split (suc n) m s t u ds rest first all =
    let same : suc n + m ≡ suc (n + m) = omega arith in
    let whole : Sharp (suc (n + m)) s (ds ++ rest) u = subst (λ k. Sharp k s (ds ++ rest) u) same all in
    step_both s (λ x r. Replays n x r t) (λ x r. Sharp (n + m) x r u) (Sharp m t rest u) rest (next_step s) ds first whole.1 (λ x r h g. sharp_split n m x t u r rest h g)

-- the steps that were made beyond the whole are silent, and nothing is left
pub record Beyond (k : ℕ) (u : ProcState) (rest : List Deed) (t : ProcState) : Type 0 where
  pub none_left : rest ≡ []
  pub silent : Replays k u [] t

both_none : (xs ys : List Deed) → xs ++ ys ≡ [] → (xs ≡ []) × (ys ≡ [])
both_none [] ys e = (refl, e)
both_none (x ∷ xs) ys e = absurd (cons_none x (xs ++ ys) e)

pub replays_beyond : (n k : ℕ) (s t u : ProcState) (ds rest : List Deed) → Replays (n + k) s ds t → Replays n s (ds ++ rest) u → Beyond k u rest t
replays_beyond zero k s t u ds rest made all =
    let none = both_none ds rest all.0 in
    record {
      none_left = none.1;
      silent = subst (λ x. Replays k x [] t) (sym all.1) (subst (λ xs. Replays k s xs t) none.0 (subst (λ n. Replays n s ds t) (zero-add k) made));
    }
replays_beyond (suc n) k s t u ds rest made all =
    let same : suc n + k ≡ suc (n + k) = omega arith in
    let longer : Replays (suc (n + k)) s ds t = subst (λ m. Replays m s ds t) same made in
    step_both s (λ x r. Replays (n + k) x r t) (λ x r. Replays n x r u) (Beyond k u rest t) rest (next_step s) ds longer all (λ x r h g. replays_beyond n k x t u r rest h g)
