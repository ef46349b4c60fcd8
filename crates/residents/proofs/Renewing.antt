-- A process that runs here sends what brings it its new backup.
use Rattle.std.proofs.Common.{◌≡◌, ℕ, refl, sym, ◌∙◌, ap, subst, true, true≢false, Bool, false, ◌||◌, ◌&&◌, arith, List, Some, None, Ok, Err, is_some}
use Rattle.std.specs.Prelude.{Result, IfOk, OnErr}
use Rattle.std.specs.Map.{lookup}
use Rattle.slab.specs.Slab.{Slab, get, Updates}
use Rattle.t32_base.specs.declared.process.Pid.{Pid}
use Rattle.t32_base.specs.declared.process.ClusterNo.{ClusterNo}
use Rattle.t32_base.specs.declared.streams.NoMemory.{NoMemory}
use Rattle.bus_msg.specs.declared.entry.Post.{Post}
use Rattle.plain_kernel.specs.Maps.{at_key, pid_of}
use Rattle.residents.specs.Changed.{with_changed}
use Rattle.std.proofs.lemmas.Bool.{or_right}
use Rattle.std.proofs.lemmas.Bool.Decides.{nat_tests}
use Rattle.proc_state.specs.State.{can_take, state_of}
use Rattle.sys_calls.specs.Next.{has_step, next_step}
use Rattle.sync_point.specs.Due.{is_due_by}
use Rattle.quanta.specs.Limited.{is_due}
use Rattle.residents.specs.Duty.{DutyView, backup_owed, is_able}
use Rattle.residents.specs.Held.{Held, Runs, page_lacked, renewed, renewed_held, with_renewed}
use Rattle.residents.specs.Quantum.{RenewsNow}
use Rattle.residents.specs.Residents.{RenewsAt}
use Rattle.residents.specs.Slots.{stands_in, IsKept}
use Rattle.residents.proofs.Slots.{no_entry, nobody_changed, one_key, process_there, written}

-- it lacks no page
pub renews_lacks : (to by : ClusterNo) (was now : Held) (r : Result (List Post) NoMemory) → IfOk r (λ posts. RenewsNow to by was posts now) → OnErr r (now ≡ was) → is_some (page_lacked now) ≡ true → is_some (page_lacked was) ≡ true
renews_lacks to by was now (Ok posts) s err some = absurd (true≢false (sym some ∙ ap (λ (h : Held). is_some (page_lacked h)) s.new_is))
renews_lacks to by was now (Err fault) s err some = ap (λ (h : Held). is_some (page_lacked h)) (sym err) ∙ some

-- among those that are here
pub renews_at : (duty : DutyView) (by to : ClusterNo) (slots new : Slab Held) (n key : ℕ) (keys : List (ℕ × ℕ)) (ready asking : List ℕ) (was now : Held) (old : List (Pid × Held)) → IsKept duty slots keys ready asking → lookup (at_key n) keys ≡ Some key → get slots key ≡ Some was
    → Updates slots new key (Some now) → stands_in slots keys ≡ old → (r : Result (List Post) NoMemory) → IfOk r (λ posts. RenewsNow to by was posts now) → IfOk r (λ posts. RenewsAt by to (pid_of n) old posts (stands_in new keys))
renews_at duty by to slots new n key keys ready asking was now old kept found there updates same (Ok posts) s =
    subst (λ old. RenewsAt by to (pid_of n) old posts (stands_in new keys)) same
    (record {
      process = s.process;
      there = process_there slots n key was keys found there ∙ ap Some s.old_is;
      posts_are = s.posts_are;
      here = written slots new n key was now (λ e. (pid_of n, now)) keys (one_key n key keys kept.ordered kept.apart found) there updates refl ∙ ap (λ (h : Held). with_changed (pid_of n) h (stands_in slots keys)) s.new_is;
    })
renews_at duty by to slots new n key keys ready asking was now old kept found there updates same (Err fault) s = tt

-- ---- it was sent

-- one that could have no turn has none then
pub renewed_able : (duty : DutyView) (p : Pid) (h : Held) → is_able duty (p, renewed_held h) ≡ true → is_able duty (p, h) ≡ true
renewed_able duty p (Runs process) able = by_owed (is_some (backup_owed duty p) && true) (has_step (next_step (state_of process))) able
  where
    takes : (a b t : Bool) → (b ≡ true → a ≡ true) → (b || t) ≡ true → (a || t) ≡ true
    takes a true t sooner due = ap (λ b. b || t) (sooner refl)
    takes a false t sooner due = or_right a t due

    by_owed : (b s : Bool) → (b || (s || is_due duty.limits (renewed process))) ≡ true → (b || (s || is_due duty.limits process)) ≡ true
    by_owed true s able = refl
    by_owed false true able = refl
    by_owed false false able = takes (is_due_by process (duty.limits).reads (duty.limits).steps) (is_due_by (renewed process) (duty.limits).reads (duty.limits).steps) (can_take (state_of process)) later able
      where
        later : is_due_by (renewed process) (duty.limits).reads (duty.limits).steps ≡ true → is_due_by process (duty.limits).reads (duty.limits).steps ≡ true
        later due = grind (arith, nat_tests)
renewed_able duty p _ able = able

pub renewed_lacks : (h : Held) → is_some (page_lacked (renewed_held h)) ≡ true → is_some (page_lacked h) ≡ true
renewed_lacks (Runs process) some = some
renewed_lacks _ some = some

pub renewed_there : (duty : DutyView) (slots new : Slab Held) (n key : ℕ) (was now : Held) (keys : List (ℕ × ℕ)) (ready asking : List ℕ) (old : List (Pid × Held)) → IsKept duty slots keys ready asking → lookup (at_key n) keys ≡ Some key → get slots key ≡ Some was
    → Updates slots new key (Some now) → stands_in slots keys ≡ old → now ≡ renewed_held was → stands_in new keys ≡ with_renewed (pid_of n) old
renewed_there duty slots new n key was now keys ready asking old kept found there updates same is =
    written slots new n key was now (λ e. (e.0, renewed_held e.1)) keys (one_key n key keys kept.ordered kept.apart found) there updates (ap (λ h. (pid_of n, h)) (sym is)) ∙ ap (with_renewed (pid_of n)) same

pub none_renewed : (slots : Slab Held) (n : ℕ) (keys : List (ℕ × ℕ)) (old : List (Pid × Held)) → lookup (at_key n) keys ≡ None → stands_in slots keys ≡ old → old ≡ with_renewed (pid_of n) old
none_renewed slots n keys old none same = sym same ∙ sym (nobody_changed slots n (λ e. (e.0, renewed_held e.1)) keys (no_entry n keys none)) ∙ ap (with_renewed (pid_of n)) same
