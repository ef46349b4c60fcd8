-- An entry that another than the home of a process sends tells of none of its deeds and does not cut it; and what a process that rolls forward has of its own.
use Rattle.std.proofs.Common.{◌≡◌, refl, sym, ◌∙◌, ap, List, [], ◌∷◌, Bool, true, false, cond, Some, true≢false}
use Rattle.std.specs.Prelude.{option_map}
use Rattle.std.proofs.lemmas.Bool.{and_parts}
use Rattle.t32_base.specs.declared.process.Pid.{Pid}
use Rattle.t32_base.specs.declared.process.Counts.{Counts}
use Rattle.sys_text.specs.declared.system.System.{System}
use Rattle.proc_state.specs.State.{ProcState}
use Rattle.sys_calls.specs.declared.steps.Emission.TheVariants.{Mail as Sent, Exit as Ended}
use Rattle.bus_msg.specs.declared.entry.What.{What}
use Rattle.bus_msg.specs.declared.entry.What.TheVariants.{Mail, Birth, Exit}
use Rattle.bus_msg.specs.declared.entry.By.{By}
use Rattle.bus_msg.specs.declared.entry.By.TheVariants.{Cluster, Bus}
use Rattle.bus_msg.specs.declared.entry.Entry.{Entry}
use Rattle.bus_msg.specs.declared.placed.Placed.{Placed}
use Rattle.bus_msg.specs.Places.{Places, same_pid, unended_at}
use Rattle.bus_msg.specs.PlacedAfter.{what}
use Rattle.roll_forward.specs.Deeds.{Deed, Sends, Bears}
use Rattle.cert_sched.specs.Parts.{upto_last}
use Rattle.cert_sched.specs.Schedule.{placement}
use Rattle.cert_sched.specs.Deeds.{starts, is_cut, deeds_in, arrived_count}
use Rattle.cert_sched.specs.Losses.{is_from}
use Rattle.cert_sched.specs.Rules.{is_by, is_living, is_by_home, is_by_right}
use Rattle.cert_sched.specs.Rolling.{refilled, RollsAs}
use Rattle.cert_sched.specs.Legal.{Stands}
use Rattle.cert_sched.proofs.StepLaws.{process_after-own}
use Rattle.cert_sched.proofs.CameLaws.{same_of}
use Rattle.cert_sched.proofs.CutLaws.{cut_by_home}
use Rattle.cert_sched.proofs.ReplayLaws.{replays_counts}
use Rattle.replay_laws.proofs.rolling.Replaying.{rolling_of}

-- ---- entries of others

-- who sends as the home of a process is its home
by_home : (places : Places) (by : By) (p : Pid) (q : Placed) → unended_at places p ≡ Some q → is_by_home places by (Some p) ≡ true → is_from q.home by ≡ true
by_home places by p q there right =
    of_home by (ap (λ o. is_by by (option_map (λ (q : Placed). q.home) o)) (sym there) ∙ (and_parts (is_living places by) (is_by by (option_map (λ (q : Placed). q.home) (unended_at places p))) right).1)
  where
    of_home : (by : By) → is_by by (Some q.home) ≡ true → is_from q.home by ≡ true
    of_home (Cluster k) is = is
    of_home Bus is = is

-- a deed that another tells of is not its own
not_its_own : (places : Places) (by : By) (p r : Pid) (q : Placed) (d : Deed) → unended_at places p ≡ Some q → is_from q.home by ≡ false → is_by_home places by (Some r) ≡ true → cond (same_pid r p) (d ∷ []) [] ≡ []
not_its_own places by p r q d there other right = by_pid (same_pid r p) refl
  where
    by_pid : (b : Bool) → same_pid r p ≡ b → cond b (d ∷ []) [] ≡ []
    by_pid true is =
        let same : r ≡ p = same_of r p is in
        absurd (true≢false (sym (by_home places by p q there (ap (λ x. is_by_home places by (Some x)) (sym same) ∙ right)) ∙ other))
    by_pid false is = refl

others_by : (places : Places) (by : By) (p : Pid) (q : Placed) (w : What) → is_by_right places by w ≡ true → unended_at places p ≡ Some q → is_from q.home by ≡ false → deeds_in p w ≡ []
others_by places by p q (Mail at letter) right there other = not_its_own places by p letter.from q (Sends (Sent letter)) there other right
others_by places by p q (Birth parent at child end) right there other = not_its_own places by p parent q (Bears child) there other right
others_by places by p q (Exit r at end) right there other = not_its_own places by p r q (Sends (Ended end)) there other right
others_by places by p q _ right there other = refl

pub others_tell_none : (system : System) (log : List Entry) (e : Entry) (p : Pid) (q : Placed) → Stands system log e → unended_at (placement system log) p ≡ Some q → is_from q.home (e.post).by ≡ false → deeds_in p (what e) ≡ []
others_tell_none system log e p q stands = others_by (placement system log) (e.post).by p q (what e) stands.by_right

-- nor does such an entry cut it
pub others_cut_none : (system : System) (log : List Entry) (e : Entry) (p : Pid) (q : Placed) → Stands system log e → unended_at (placement system log) p ≡ Some q → is_from q.home (e.post).by ≡ false → is_cut p (what e) ≡ false
others_cut_none system log e p q stands there other = by_cut (is_cut p (what e)) refl
  where
    by_cut : (b : Bool) → is_cut p (what e) ≡ b → b ≡ false
    by_cut true cut = absurd (true≢false (sym (by_home (placement system log) (e.post).by p q there (cut_by_home (placement system log) (e.post).by p (what e) stands.by_right cut)) ∙ other))
    by_cut false cut = refl

-- ---- its own

-- as many letters have arrived as came to it
pub rolls_next : (system : System) (log : List Entry) (p : Pid) (s : ProcState) (counts : Counts) (births : List Pid) → RollsAs system log p s counts births → s.next ≡ arrived_count log p
rolls_next system log p s counts births rolls =
    let r = rolling_of system log p s counts births rolls in
    (replays_counts (r.part).steps (refilled log p r.start) s (r.part).done (r.part).replays).next

-- it has its pid
pub rolls_pid : (system : System) (log : List Entry) (p : Pid) (s : ProcState) (counts : Counts) (births : List Pid) → RollsAs system log p s counts births → (s.small).pid ≡ p
rolls_pid system log p s counts births rolls =
    let r = rolling_of system log p s counts births rolls in
    (replays_counts (r.part).steps (refilled log p r.start) s (r.part).done (r.part).replays).pid
    ∙ process_after-own system (upto_last (starts p) log) p r.start r.started
