-- A process that rolls forward has read its saved letters from the fronts of its ends, and as many letters arrived as came to it.
use Rattle.std.proofs.Common.{◌≡◌, ℕ, zero, suc, ◌-◌, refl, sym, ◌∙◌, ap, subst, List, [], ◌∷◌, length, true, false, Option, Some, None, is_some, true≢false}
use Rattle.std.specs.Prelude.{option_and_then, option_map}
use Rattle.std.specs.List.{AllPairs}
use Rattle.std.specs.Option.{IfSome}
use Rattle.t32_base.specs.declared.process.Pid.{Pid}
use Rattle.t32_base.specs.declared.process.Counts.{Counts}
use Rattle.t32_base.specs.declared.letter.Arrived.{Arrived}
use Rattle.sys_text.specs.declared.system.System.{System}
use Rattle.sys_text.specs.Valid.{is_system}
use Rattle.proc_state.specs.Queues.{DiffersFrom}
use Rattle.proc_state.specs.State.{ProcState, has_ended}
use Rattle.sys_calls.specs.Calls.{Next, Silent, Blocked, Forks, Emits, Over}
use Rattle.sys_calls.specs.Next.{next_step}
use Rattle.sys_calls.specs.Fork.{fork_parent}
use Rattle.sys_calls.proofs.Counting.{silently_counts}
use Rattle.sys_calls.proofs.Leaving.{silent_ends, emits_ends, fork_ends}
use Rattle.plain_kernel.specs.Kernel.{process_at}
use Rattle.bus_msg.specs.declared.entry.Entry.{Entry}
use Rattle.roll_forward.specs.Deeds.{Deed, Sends, Bears, births_in}
use Rattle.roll_forward.specs.Replay.{put_first, replay_step, replayed}
use Rattle.cert_sched.specs.Parts.{upto_last}
use Rattle.cert_sched.specs.Schedule.{done, process_after}
use Rattle.cert_sched.specs.Deeds.{starts, arrived_count, saved_letters, since}
use Rattle.cert_sched.specs.Rolling.{refilled, RollsAs}
use Rattle.cert_sched.specs.Steps.{saved_of, silent_upto}
use Rattle.cert_sched.specs.Legal.{IsLegalBy, Stands}
use Rattle.cert_sched.specs.Simulation.{IsUnended}
use Rattle.cert_sched.proofs.EndsLaws.{process_after-ends}
use Rattle.cert_sched.proofs.MailLaws.{silent_upto-ends}
use Rattle.cert_sched.proofs.OpenLaws.{unended_open}
use Rattle.cert_sched.proofs.RollLaws.{rolls_next}
use Rattle.cert_sched.proofs.StepLaws.{silent_from}
use Rattle.cert_sched.proofs.ThereLaws.{unended_there}
use Rattle.log_laws.specs.letters.ReadsFrom.{ReadsFrom}
use Rattle.log_laws.proofs.letters.LogReads.{itself, differ, rolls_there, saved_from}
use Rattle.log_laws.proofs.letters.ReplayReads.{HasRead, none_read, reads_from, took_read}
use Rattle.log_laws.proofs.letters.StepReads.{Took, silent_takes, sent_leaves}

-- ---- steps and forks that are done again

module _ (saved : List Arrived) (apart : AllPairs DiffersFrom saved) where
  -- where they can be done, it has read so after them
  abbrev HasReadAfter : Option (ProcState × List Deed) → Type 0
  HasReadAfter o = IfSome o (λ (r : ProcState × List Deed). HasRead saved (r.0).mail)

  put : (d : Deed) (o : Option (ProcState × List Deed)) → HasReadAfter o → HasReadAfter (option_map (put_first d) o)
  put d None h = tt
  put d (Some r) h = h

  one_again : (n : ℕ) (s : ProcState) (next : Next) (births : List Pid) → next_step s ≡ next → length (s.small).ends ≡ 32 → HasRead saved s.mail
      → ((x : ProcState) (rest : List Pid) → length (x.small).ends ≡ 32 → HasRead saved x.mail → HasReadAfter (replayed n x rest)) → HasReadAfter (replay_step s (λ x rest. replayed n x rest) next births)
  one_again n s (Silent x) births is ends h on = on x births (silent_ends s x is ∙ ends) (took_read saved apart s.mail x.mail (subst (λ n. Took n s.mail x.mail) ends (silent_takes s x is)) h)
  one_again n s Blocked births is ends h on = tt
  one_again n s Forks [] is ends h on = tt
  one_again n s Forks (child ∷ rest) is ends h on = put (Bears child) (replayed n (fork_parent s child) rest) (on (fork_parent s child) rest (fork_ends s child ∙ ends) h)
  one_again n s (Emits e x) births is ends h on = put (Sends e) (replayed n x births) (on x births (emits_ends s x e is ∙ ends) (subst (HasRead saved) (sym (sent_leaves s x e is)) h))
  one_again n s Over births is ends h on = tt

  read_again : (n : ℕ) (s : ProcState) (births : List Pid) → length (s.small).ends ≡ 32 → HasRead saved s.mail → HasReadAfter (replayed n s births)
  read_again zero s births ends h = h
  read_again (suc n) s births ends h = one_again n s (next_step s) births refl ends h (λ x rest ends h. read_again n x rest ends h)

-- ---- beside the log

pub rolling_reads : (system : System) (log : List Entry) (p : Pid) (s : ProcState) (counts : Counts) (births : List Pid) → is_system system ≡ true → IsLegalBy Stands system log → IsUnended system log p
    → RollsAs system log p s counts births → ReadsFrom (saved_of system log p) s.mail
rolling_reads system log p s counts births valid legal unended r = by_process (process_after system log p) refl (unended_there Stands itself system log p valid legal unended)
  where
    by_process : (o : Option ProcState) → process_after system log p ≡ o → is_some o ≡ true → ReadsFrom (saved_of system log p) s.mail
    by_process None there some = absurd (true≢false (sym some))
    by_process (Some now) there some =
        let saved = saved_of system log p in
        let rolls = rolls_there system log p now valid legal there (unended_open Stands itself system log p valid legal unended now there) in
        let from : HasRead saved (saved_letters log p r.start) = subst (HasRead saved) (saved_from system log p r.start r.started) (none_read saved) in
        let ends = process_after-ends system (upto_last (starts p) log) p r.start r.started in
        let after = read_again saved (differ system log p now rolls) r.steps (refilled log p r.start) (births_in (since log p)) ends from in
        reads_from saved s.mail (subst (λ (o : Option (ProcState × List Deed)). IfSome o (λ (q : ProcState × List Deed). HasRead saved (q.0).mail)) r.replays after)

-- silent steps bring it no letter
pub silent_next : (system : System) (log : List Entry) (p : Pid) (n : ℕ) (s : ProcState) → is_system system ≡ true → IsLegalBy Stands system log → silent_upto system log p n ≡ Some s → has_ended (s.small).status ≡ false → s.next ≡ arrived_count log p
silent_next system log p n s valid legal silent goes_on =
    let f = silent_from system log p n s silent in
    let there : process_after system log p ≡ Some f.was = ap (option_and_then (λ k. process_at k p)) f.before ∙ f.there in
    let went_on : has_ended (f.was.small).status ≡ false = sym (silent_upto-ends system log p n f.was s there silent) ∙ goes_on in
    (silently_counts (n - done f.kernel p) f.was s f.silent).next ∙ rolls_next system log p f.was (rolls_there system log p f.was valid legal there went_on)
