-- One step of a process, and the delivery of its letter.
use Rattle.std.proofs.Common.{◌≡◌, ℕ, ◌+◌, ◌≤◌, Bool, true, false, cond, ◌||◌, List, map, refl, sym, ap, ◌∙◌, subst, arith, Some, None, IsSome, Result, Ok, Err, option_map}
use Rattle.std.specs.Prelude.{OnOk, OnErr}
use Rattle.std.specs.Map.{lookup}
use Rattle.std.specs.FinMap.{find, put}
use Rattle.std.proofs.lemmas.Option.{same_Some}
use Rattle.t32_base.specs.Small.{SmallState}
use Rattle.t32_base.specs.declared.letter.Letter.{Letter}
use Rattle.t32_base.specs.declared.process.End.{End}
use Rattle.t32_base.specs.declared.streams.NoMemory.{NoMemory}
use Rattle.proc_state.specs.declared.process.Process.{Process}
use Rattle.proc_state.specs.State.{state_of, delivered, has_ended}
use Rattle.sys_calls.specs.declared.steps.Emission.TheVariants.{Mail, Exit}
use Rattle.sys_calls.specs.declared.steps.Step.{Step}
use Rattle.sys_calls.specs.declared.steps.Step.TheVariants.{Silent as WasSilent, Blocked as WasBlocked, Forks as WouldFork, Emit, Over as WasOver}
use Rattle.sys_calls.specs.Calls.{Next, Blocked, Forks, Over}
use Rattle.sys_calls.specs.Next.{next_step}
use Rattle.sys_calls.specs.Steps.{Makes}
use Rattle.sys_calls.proofs.Bearing.{emits_lightens, silent_lightens}
use Rattle.sys_calls.proofs.Counting.{silent_counts, emits_counts}
use Rattle.plain_kernel.specs.Kernel.{pid_cmp, deliver, letter_put, with_process}
use Rattle.plain_kernel.specs.Apply.{after_step, one_step}
use Rattle.plain_kernel.specs.Maps.{at_key, pid_of, processes_of, kernel_of, load, total_load, Changes, ChangesSmall, StepsAt, Restores, Advances, Lighter, Receives, SameBut}
use Rattle.plain_kernel.proofs.Entries.{written_same, put_state, lookup_state, there_before, there_after, found_after, put_after, state_before, load_after, changes_again, changed_back, same_keys, others_stay}

-- ---- a letter to a process

pub any_err : {A E : Type 0} (r : Result A E) (P : Type 0) → P → OnErr r P
any_err (Ok x) P p = tt
any_err (Err e) P p = p

put_same : (old new : List (ℕ × Process)) (pid : ℕ) (was now : Process) → Changes old new pid was now → put pid_cmp (pid_of pid) (state_of was) (processes_of old) ≡ processes_of old
put_same old new pid was now c = sym (put_state pid was old c.ordered (there_before old new pid was now c)) ∙ ap processes_of (written_same (at_key pid) old was c.found)

pub received : (r : Result (Unit {0}) NoMemory) (letter : Letter) (old new : List (ℕ × Process)) (pid : ℕ) (was now : Process) → Changes old new pid was now → Receives r letter was now
    → OnOk r (processes_of new ≡ letter_put letter (pid_of pid) (find pid_cmp (pid_of pid) (processes_of old)) (processes_of old))
received (Ok done) letter old new pid was now c taken =
    rw (state_before old new pid was now c) (put_after old new pid was now c ∙ ap (λ s. put pid_cmp (pid_of pid) s (processes_of old)) taken.0 ∙ by_status (has_ended (was.small).status))
  where
    by_status : (b : Bool) → put pid_cmp (pid_of pid) (cond b (state_of was) (delivered (state_of was) letter)) (processes_of old) ≡ cond b (processes_of old) (put pid_cmp (pid_of pid) (delivered (state_of was) letter) (processes_of old))
    by_status true = put_same old new pid was now c
    by_status false = refl
received (Err e) letter old new pid was now c taken = tt

pub received_load : (r : Result (Unit {0}) NoMemory) (letter : Letter) (old new : List (ℕ × Process)) (pid : ℕ) (was now : Process) → Changes old new pid was now → Receives r letter was now
    → total_load new ≤ total_load old + 1
received_load (Ok done) letter old new pid was now c taken = omega (arith, load_after old new pid was now c, taken.1)
received_load (Err e) letter old new pid was now c taken = omega (arith, load_after old new pid was now c, ap load taken)

pub not_received : (r : Result (Unit {0}) NoMemory) (letter : Letter) (old new : List (ℕ × Process)) (pid : ℕ) (was now : Process) → Changes old new pid was now → Receives r letter was now → OnErr r (new ≡ old)
not_received (Ok done) letter old new pid was now c taken = tt
not_received (Err e) letter old new pid was now c taken = changed_back old new pid was now c taken

pub nobody : (letter : Letter) (old : List (ℕ × Process)) (pid : ℕ) → lookup (at_key pid) old ≡ None → processes_of old ≡ letter_put letter (pid_of pid) (find pid_cmp (pid_of pid) (processes_of old)) (processes_of old)
nobody letter old pid none = rw (lookup_state pid old, none) refl

-- ---- a step

-- a step that was made leaves less to come
pub lighter_by : (r : Result Step NoMemory) (was now : Process) → Makes (next_step (state_of was)) r (state_of was) (state_of now) → Lighter r was now
lighter_by (Ok WasSilent) was now makes = omega (arith, silent_lightens (state_of was) (state_of now) makes, (silent_counts (state_of was) (state_of now) makes).next)
lighter_by (Ok (Emit e)) was now makes = omega (arith, emits_lightens (state_of was) (state_of now) e makes, (emits_counts (state_of was) (state_of now) e makes).next)
lighter_by (Ok WasBlocked) was now makes = tt
lighter_by (Ok WouldFork) was now makes = tt
lighter_by (Ok WasOver) was now makes = tt
lighter_by (Err e) was now makes = tt

by_next : (ps qs : List (ℕ × Process)) (ts : List (ℕ × List ℕ)) (pid : ℕ) (was now : Process) (next : Next) → Changes ps qs pid was now → next_step (state_of was) ≡ next
    → one_step (pid_of pid) (kernel_of ps ts) ≡ after_step (kernel_of ps ts) (pid_of pid) next
unfolding one_step
by_next ps qs ts pid was now next c is = rw (state_before ps qs pid was now c) (ap (after_step (kernel_of ps ts) (pid_of pid)) is)

put_kernel : (ps qs : List (ℕ × Process)) (ts : List (ℕ × List ℕ)) (pid : ℕ) (was now : Process) → Changes ps qs pid was now → with_process (kernel_of ps ts) (pid_of pid) (state_of now) ≡ kernel_of qs ts
put_kernel ps qs ts pid was now c = ap (λ l. record { processes = l; ttys = ts }) (sym (put_after ps qs pid was now c))

keys_stay : (ps qs : List (ℕ × Process)) (pid : ℕ) (was now : Process) → Changes ps qs pid was now → map (λ (e : ℕ × Process). e.0) qs ≡ map (λ (e : ℕ × Process). e.0) ps
keys_stay ps qs pid was now c = ap (map (λ (e : ℕ × Process). e.0)) c.entries ∙ same_keys (at_key pid) ps now

pub stepped_silent : (ps qs : List (ℕ × Process)) (ts : List (ℕ × List ℕ)) (pid : ℕ) → StepsAt ps qs pid (Ok WasSilent) → Advances pid ps qs ts ts × SameBut (at_key pid) ps qs
stepped_silent ps qs ts pid s = (
  record {
    one = by_next ps qs ts pid s.was s.now _ s.changes s.makes ∙ ap Some (put_kernel ps qs ts pid s.was s.now s.changes);
    lighter = omega (arith, load_after ps qs pid s.was s.now s.changes, s.lighter);
    keys = keys_stay ps qs pid s.was s.now s.changes;
  },
  others_stay ps qs pid s.was s.now s.changes,
)

pub stepped_exit : (ps qs : List (ℕ × Process)) (ts : List (ℕ × List ℕ)) (pid : ℕ) (end : End) → StepsAt ps qs pid (Ok (Emit (Exit end))) → Advances pid ps qs ts ts × SameBut (at_key pid) ps qs
stepped_exit ps qs ts pid end s = (
  record {
    one = by_next ps qs ts pid s.was s.now _ s.changes s.makes ∙ ap Some (put_kernel ps qs ts pid s.was s.now s.changes);
    lighter = omega (arith, load_after ps qs pid s.was s.now s.changes, s.lighter);
    keys = keys_stay ps qs pid s.was s.now s.changes;
  },
  others_stay ps qs pid s.was s.now s.changes,
)

pub stepped_mail : (ps qs rs : List (ℕ × Process)) (ts us : List (ℕ × List ℕ)) (pid : ℕ) (letter : Letter) → StepsAt ps qs pid (Ok (Emit (Mail letter)))
    → kernel_of rs us ≡ deliver (kernel_of qs ts) letter → total_load rs ≤ total_load qs + 1 → map (λ (e : ℕ × Process). e.0) rs ≡ map (λ (e : ℕ × Process). e.0) qs → Advances pid ps rs ts us
stepped_mail ps qs rs ts us pid letter s sent more keys = record {
  one = by_next ps qs ts pid s.was s.now _ s.changes s.makes ∙ ap (λ k. Some (deliver k letter)) (put_kernel ps qs ts pid s.was s.now s.changes) ∙ ap Some (sym sent);
  lighter = omega (arith, load_after ps qs pid s.was s.now s.changes, s.lighter, more);
  keys = keys ∙ keys_stay ps qs pid s.was s.now s.changes;
}

-- no other process changed
pub stepped_alone : (ps qs rs : List (ℕ × Process)) (pid : ℕ) (r : Result Step NoMemory) → StepsAt ps qs pid r → rs ≡ qs → SameBut (at_key pid) ps rs
stepped_alone ps qs rs pid r s same = subst (SameBut (at_key pid) ps) (sym same) (others_stay ps qs pid s.was s.now s.changes)

-- nor did any but that to which the letter went
pub stepped_two : (ps qs rs : List (ℕ × Process)) (pid to : ℕ) (r : Result Step NoMemory) → StepsAt ps qs pid r → SameBut (at_key to) qs rs → SameBut (λ q. at_key pid q || at_key to q) ps rs
stepped_two ps qs rs pid to r s sent = λ q other.
    let parts = neither (at_key pid q) (at_key to q) other in
    sent q parts.1 ∙ others_stay ps qs pid s.was s.now s.changes q parts.0
  where
    neither : (b c : Bool) → (b || c) ≡ false → (b ≡ false) × (c ≡ false)
    neither true c none = cc
    neither false c none = (refl, none)

pub less_to_send : (ps qs : List (ℕ × Process)) (pid : ℕ) (letter : Letter) → StepsAt ps qs pid (Ok (Emit (Mail letter))) → total_load qs + 2 ≤ total_load ps
less_to_send ps qs pid letter s = omega (arith, load_after ps qs pid s.was s.now s.changes, s.lighter)

-- where the letter was not delivered, nothing else has changed
pub not_sent : (ps qs rs : List (ℕ × Process)) (pid : ℕ) (letter : Letter) → StepsAt ps qs pid (Ok (Emit (Mail letter))) → rs ≡ qs → ChangesSmall ps rs pid
not_sent ps qs rs pid letter s same = subst (λ es. ChangesSmall ps es pid) (sym same) (record { was = s.was; now = s.now; changes = s.changes; rest = s.touches })

-- nor has it where the step was not made
pub not_made : (ps qs : List (ℕ × Process)) (pid : ℕ) (e : NoMemory) → StepsAt ps qs pid (Err e) → ChangesSmall ps qs pid
not_made ps qs pid e s = record { was = s.was; now = s.now; changes = s.changes; rest = s.touches ∙ ap (λ b. record (s.was) { small = b }) (ap (λ (p : Process). p.small) (sym s.touches)) }

pub there_small : (ps qs : List (ℕ × Process)) (pid : ℕ) → ChangesSmall ps qs pid → IsSome (lookup (at_key pid) qs)
there_small ps qs pid s = there_after ps qs pid s.was s.now s.changes

-- the small state before was put back, so all is as it was
pub undone : (ps qs os : List (ℕ × Process)) (pid : ℕ) (before : SmallState) → ChangesSmall ps qs pid → option_map (λ (p : Process). p.small) (lookup (at_key pid) ps) ≡ Some before
    → Restores qs os pid before → os ≡ ps
undone ps qs os pid before s saved back =
    let small : (s.was).small ≡ before = same_Some _ before (ap (option_map (λ (p : Process). p.small)) (sym s.changes.found) ∙ saved) in
    let stood : back.was ≡ s.now = same_Some _ _ (sym back.changes.found ∙ found_after ps qs pid s.was s.now s.changes) in
    let put_back : record (back.was) { small = before } ≡ s.was =
    ap (λ (p : Process). record p { small = before }) (stood ∙ s.rest) ∙ ap (λ b. record (s.was) { small = b }) (sym small) in
    changed_back ps os pid s.was _ (changes_again ps qs os pid s.was s.now _ s.changes back.was back.changes) put_back

stuck : (ps qs : List (ℕ × Process)) (ts : List (ℕ × List ℕ)) (pid : ℕ) (was now : Process) (next : Next) → Changes ps qs pid was now → next_step (state_of was) ≡ next → now ≡ was → after_step (kernel_of ps ts) (pid_of pid) next ≡ None
    → (one_step (pid_of pid) (kernel_of ps ts) ≡ None) × (qs ≡ ps) × (ts ≡ ts)
stuck ps qs ts pid was now next c is same none = (by_next ps qs ts pid was now next c is ∙ none, changed_back ps qs pid was now c same, refl)

pub stuck_over : (ps qs : List (ℕ × Process)) (ts : List (ℕ × List ℕ)) (pid : ℕ) → StepsAt ps qs pid (Ok WasOver) → (one_step (pid_of pid) (kernel_of ps ts) ≡ None) × (qs ≡ ps) × (ts ≡ ts)
stuck_over ps qs ts pid s = stuck ps qs ts pid s.was s.now Over s.changes s.makes.0 s.touches refl

pub stuck_blocked : (ps qs : List (ℕ × Process)) (ts : List (ℕ × List ℕ)) (pid : ℕ) → StepsAt ps qs pid (Ok WasBlocked) → (one_step (pid_of pid) (kernel_of ps ts) ≡ None) × (qs ≡ ps) × (ts ≡ ts)
stuck_blocked ps qs ts pid s = stuck ps qs ts pid s.was s.now Blocked s.changes s.makes.0 s.touches refl

pub stuck_forks : (ps qs : List (ℕ × Process)) (ts : List (ℕ × List ℕ)) (pid : ℕ) → StepsAt ps qs pid (Ok WouldFork) → (one_step (pid_of pid) (kernel_of ps ts) ≡ None) × (qs ≡ ps) × (ts ≡ ts)
stuck_forks ps qs ts pid s = stuck ps qs ts pid s.was s.now Forks s.changes s.makes.0 s.touches refl
