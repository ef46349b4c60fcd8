-- The children that a replay forks have the pids of its births.
use Rattle.std.proofs.Common.{◌≡◌, ℕ, zero, suc, refl, sym, ◌∙◌, ap, List, [], ◌∷◌, map}
use Rattle.proc_state.specs.State.{ProcState}
use Rattle.sys_calls.specs.Calls.{Next, Silent, Blocked, Forks, Emits, Over}
use Rattle.sys_calls.specs.Next.{next_step}
use Rattle.sys_calls.specs.Fork.{fork_parent}
use Rattle.roll_forward.specs.Deeds.{Deed, Sends, Bears, births_in}
use Rattle.cert_sched.proofs.ReplayLaws.{Replays, ReplaysBy}
use Rattle.cert_sched.proofs.ForkLaws.{forked, forked_by}

pub forked_pids : (n : ℕ) (s t : ProcState) (ds : List Deed) → Replays n s ds t → map (λ (c : ProcState). (c.small).pid) (forked n s ds) ≡ births_in ds
forked_pids zero s t ds h = sym (ap births_in h.0)
forked_pids (suc n) s t ds h = by_next (next_step s) ds h (λ x r g. forked_pids n x t r g)
  where
    by_next : (next : Next) (ds : List Deed) → ReplaysBy s (λ x r. Replays n x r t) next ds → ((x : ProcState) (r : List Deed) → Replays n x r t → map (λ (c : ProcState). (c.small).pid) (forked n x r) ≡ births_in r)
        → map (λ (c : ProcState). (c.small).pid) (forked_by s (λ x r. forked n x r) next ds) ≡ births_in ds
    by_next (Silent x) ds h same = same x ds h
    by_next Blocked ds h same = absurd h
    by_next Forks [] h same = absurd h
    by_next Forks (Sends e ∷ rest) h same = absurd h
    by_next Forks (Bears child ∷ rest) h same = ap (λ ps. child ∷ ps) (same (fork_parent s child) rest h)
    by_next (Emits e x) [] h same = absurd h
    by_next (Emits e x) (Sends m ∷ rest) h same = same x rest h.1
    by_next (Emits e x) (Bears child ∷ rest) h same = absurd h
    by_next Over ds h same = absurd h

-- so one without births forks none
pub forked_unborn : (n : ℕ) (s t : ProcState) (ds : List Deed) → Replays n s ds t → births_in ds ≡ [] → forked n s ds ≡ []
forked_unborn n s t ds h none = nothing (forked n s ds) (forked_pids n s t ds h ∙ none)
  where
    nothing : (cs : List ProcState) → map (λ (c : ProcState). (c.small).pid) cs ≡ [] → cs ≡ []
    nothing [] e = refl
    nothing (c ∷ cs) e = cc
