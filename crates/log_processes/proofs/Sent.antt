-- A process of a log, what it sends by a later step, and its limits there.
use Rattle.std.proofs.Common.{◌≡◌, ℕ, ◌+◌, ◌-◌, refl, sym, ◌∙◌, ap, arith, List, length, Bool, true, false, cond, ◌&&◌, leb, Option, Some, None, is_some, true≢false}
use Rattle.std.specs.Prelude.{option_and_then, option_map}
use Rattle.std.specs.Option.{option_map_or}
use Rattle.std.proofs.lemmas.Bool.{and_parts}
use Rattle.t32_base.specs.declared.process.Pid.{Pid}
use Rattle.t32_base.specs.declared.process.ClusterNo.{ClusterNo}
use Rattle.sys_text.specs.declared.system.System.{System}
use Rattle.sys_text.specs.Valid.{is_system}
use Rattle.proc_state.specs.State.{ProcState, has_ended}
use Rattle.sys_calls.specs.declared.steps.Emission.{Emission}
use Rattle.sys_calls.specs.Next.{last_emission, silently}
use Rattle.sys_calls.proofs.Counting.{last_sent}
use Rattle.plain_kernel.specs.Kernel.{Kernel, process_at}
use Rattle.bus_msg.specs.declared.entry.By.{By}
use Rattle.bus_msg.specs.declared.entry.By.TheVariants.{Cluster, Bus}
use Rattle.bus_msg.specs.declared.entry.Entry.{Entry}
use Rattle.bus_msg.specs.Places.{Places, lives_in}
use Rattle.cert_sched.specs.Schedule.{done, done_after, plain_after, process_after}
use Rattle.cert_sched.specs.Steps.{emission_at, numbers_read, reads_since, saved_of, silent_upto}
use Rattle.cert_sched.specs.Rules.{home_at, is_by, is_by_home, keeps_limits}
use Rattle.cert_sched.specs.Legal.{IsLegalBy, MayStand}
use Rattle.cert_sched.proofs.MailLaws.{sender_goes_on, silently_ends}
use Rattle.cert_sched.proofs.StepLaws.{done_kernel, sent_from}
use Rattle.log_laws.proofs.letters.LogReads.{silent_reads}
use Rattle.log_laws.proofs.letters.StepReads.{sent_leaves}
use Rattle.log_laws.proofs.records.Standing.{all_stand}
use Rattle.entry_lines.specs.declared.told.ToldBy.{ToldBy}
use Rattle.entry_lines.specs.declared.told.ToldBy.TheVariants.{Cluster as ByCluster, Bus as ByBus}
use Rattle.entry_lines.specs.Told.{told_by}
use Rattle.line_laws.specs.Meant.{cluster_no}
use Rattle.log_audit.specs.Fetches.{home_told}
use Rattle.log_audit.specs.Front.{FrontState, is_next}
use Rattle.log_processes.specs.declared.sender.Head.{Head}
use Rattle.log_processes.specs.declared.sender.Limits.{Limits}
use Rattle.log_processes.specs.declared.sender.Sender.{Sender}
use Rattle.log_processes.specs.Sending.{KeepsSender, home_may, is_within}
use Rattle.log_processes.proofs.ReadCounts.{reads_left}

-- ---- who sends

pub record ToldHome (places : Places) (by : ToldBy) (p : Pid) (home : ClusterNo) : Type 0 where
  pub told : by ≡ ByCluster home.0
  pub right : is_by_home places (Cluster home) (Some p) ≡ true

if_some : (b : Bool) (o : Option ClusterNo) (home : ClusterNo) → cond b o None ≡ Some home → (b ≡ true) × (o ≡ Some home)
if_some true o home is = (refl, is)
if_some false o home is = cc

home_is : (places : Places) (by : ToldBy) (p : Pid) (home : ClusterNo) → home_told places by p ≡ Some home → ToldHome places by p home
home_is places (ByCluster k) p home is =
    let both = if_some (lives_in places (cluster_no k) && is_by (Cluster (cluster_no k)) (home_at places p)) (Some (cluster_no k)) home is in
    let same : cluster_no k ≡ home = cc in
    record {
      told = ap (λ (h : ClusterNo). ByCluster h.0) same;
      right = ap (λ (h : ClusterNo). lives_in places h && is_by (Cluster h) (home_at places p)) (sym same) ∙ both.0;
    }
home_is places ByBus p home is = cc

by_home_told : (places : Places) (by : By) (p : Pid) → is_by_home places by (Some p) ≡ true → is_some (home_told places (told_by by) p) ≡ true
by_home_told places (Cluster k) p right = ap (λ b. is_some (cond b (Some k) None)) right
by_home_told places Bus p right = absurd (true≢false (sym right))

-- the home from which it may send
pub record MaySendFrom (front : FrontState) (head : Head) (kept : Sender) (home : ClusterNo) : Type 0 where
  pub next : is_next front head.place ≡ true
  pub whole : kept.whole ≡ true
  pub home_is : ToldHome front.places head.by head.pid home

pub may_send : (front : FrontState) (head : Head) (kept : Sender) (home : ClusterNo) → home_may front head kept ≡ Some home → MaySendFrom front head kept home
may_send front head kept home is =
    let both = if_some (is_next front head.place && kept.whole) (home_told front.places head.by head.pid) home is in
    let tests = and_parts (is_next front head.place) kept.whole both.0 in
    record { next = tests.0; whole = tests.1; home_is = home_is front.places head.by head.pid home both.1 }

pub home_there : (front : FrontState) (head : Head) (kept : Sender) (by : By) → is_next front head.place ≡ true → kept.whole ≡ true → told_by by ≡ head.by → is_by_home front.places by (Some head.pid) ≡ true
    → is_some (home_may front head kept) ≡ true
home_there front head kept by next whole told right =
    (λ i. is_some (cond (next i && kept.whole) (home_told front.places head.by head.pid) None))
    ∙ (λ i. is_some (cond (whole i) (home_told front.places head.by head.pid) None))
    ∙ ap (λ (b : ToldBy). is_some (home_told front.places b head.pid)) (sym told) ∙ by_home_told front.places by head.pid right

-- ---- what it sends

pub steps_there : (p : Pid) (s : ProcState) (o : Option Kernel) → option_and_then (λ k. process_at k p) o ≡ Some s → option_map_or (λ k. done k p) o 0 ≡ (s.small).steps
steps_there p s None is = cc
steps_there p s (Some k) is = ap (λ (o : Option ProcState). option_map_or (λ (s : ProcState). (s.small).steps) o 0) is

pub sent_then : (system : System) (log : List Entry) (p : Pid) (s : ProcState) (at : ℕ) → process_after system log p ≡ Some s → emission_at system log p at ≡ last_emission (at - (s.small).steps) s
unfolding emission_at
sent_then system log p s at there =
    let steps : done_after system log p ≡ (s.small).steps = steps_there p s (plain_after system log) there in
    λ i. option_and_then (last_emission (at - steps i)) (there i)

-- ---- its limits there

-- it has read those of its saved letters that wait no more
reads_then : (system : System) (log : List Entry) (p : Pid) (at : ℕ) (m : Emission) (t : ProcState) → is_system system ≡ true → IsLegalBy MayStand system log → emission_at system log p at ≡ Some (m, t)
    → reads_since system log p t ≡ length (saved_of system log p) - length t.mail
unfolding silent_upto
reads_then system log p at m t valid legal sends =
    let f = sent_from system log p at m t sends in
    let l = last_sent (at - done f.kernel p) f.was m t f.sends in
    let there : process_after system log p ≡ Some f.was = ap (option_and_then (λ k. process_at k p)) f.before ∙ f.there in
    let steps : done_after system log p ≡ done f.kernel p = done_kernel system log f.kernel p f.before in
    let count : done f.kernel p + l.earlier - done_after system log p ≡ l.earlier = omega (arith, steps) in
    let silent : silent_upto system log p (done f.kernel p + l.earlier) ≡ Some l.before = (λ i. option_and_then (silently (count i)) (there i)) ∙ l.silent in
    let goes_on : has_ended ((l.before).small).status ≡ false = silently_ends l.earlier f.was l.before l.silent ∙ sender_goes_on (at - done f.kernel p) f.was m t f.sends in
    let same : t.mail ≡ (l.before).mail = sent_leaves l.before t m l.last in
    let from = silent_reads system log p (done f.kernel p + l.earlier) l.before valid (all_stand system log legal) silent goes_on in
    ap (λ mail. length (numbers_read (saved_of system log p) mail)) same ∙ reads_left (saved_of system log p) (l.before).mail from ∙ ap (λ mail. length (saved_of system log p) - length mail) (sym same)

-- so its own counts say whether it is within its limits
pub limits_then : (system : System) (log : List Entry) (front : FrontState) (limits : Limits) (p : Pid) (s : ProcState) (kept : Sender) (at : ℕ) (m : Emission) (t : ProcState) → is_system system ≡ true → IsLegalBy MayStand system log
    → KeepsSender front limits p s kept system log → emission_at system log p at ≡ Some (m, t) → keeps_limits system log p t ≡ is_within limits kept t
limits_then system log front limits p s kept at m t valid legal keeps sends =
    let reads = reads_then system log p at m t valid legal sends in
    λ i. leb ((t.small).steps - sym (keeps.process).begins i) (sym (keeps.limited).steps i)
    && leb ((reads ∙ ap (λ n. n - length t.mail) (sym (keeps.process).letters)) i) (sym (keeps.limited).reads i)

-- and the limits of an entry that tells of it
pub told_limits : (system : System) (log : List Entry) (p : Pid) (at : ℕ) (m : Emission) (t : ProcState) → emission_at system log p at ≡ Some (m, t)
    → option_map_or (keeps_limits system log p) (option_map (λ (r : Emission × ProcState). r.1) (emission_at system log p at)) false ≡ keeps_limits system log p t
told_limits system log p at m t sends = ap (λ (o : Option (Emission × ProcState)). option_map_or (keeps_limits system log p) (option_map (λ (r : Emission × ProcState). r.1) o) false) sends
