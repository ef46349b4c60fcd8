-- What is left of a batch keeps the limits, where its synchronisation does, and entries of others leave it so.
use Rattle.std.proofs.Common.{◌≡◌, ℕ, ◌-◌, refl, sym, ◌∙◌, ap, List, [], ◌∷◌, ◌++◌, length, false, ◌&&◌, leb, Option, Some}
use Rattle.std.specs.Option.{option_map_or}
use Rattle.t32_base.specs.declared.process.Pid.{Pid}
use Rattle.t32_base.specs.declared.process.ClusterNo.{ClusterNo}
use Rattle.t32_base.specs.Small.{SmallState}
use Rattle.sys_text.specs.declared.system.System.{System}
use Rattle.rv_mem.specs.Memory.{page_at}
use Rattle.proc_state.specs.State.{ProcState, has_ended}
use Rattle.bus_msg.specs.declared.entry.By.TheVariants.{Cluster}
use Rattle.bus_msg.specs.declared.entry.What.TheVariants.{Sync}
use Rattle.bus_msg.specs.declared.entry.Entry.{Entry}
use Rattle.bus_msg.specs.PlacedAfter.{what}
use Rattle.cert_sched.specs.Appended.{entry_of}
use Rattle.cert_sched.specs.Schedule.{placement}
use Rattle.cert_sched.specs.Deeds.{letter_for}
use Rattle.cert_sched.specs.Steps.{numbers_read, silent_upto}
use Rattle.cert_sched.specs.Rules.{is_within_limits, keeps_limits}
use Rattle.cert_sched.proofs.CutLaws.{by_home_there}
use Rattle.log_laws.proofs.letters.RollingReads.{silent_next}
use Rattle.checkpoint_laws.proofs.posts.PageEntry.{page_saved, page_silent, page_start}
use Rattle.checkpoint_laws.proofs.posts.TakeLeaves.{runs_before, takes_leave}
use Rattle.checkpoint_laws.specs.batches.Between.{ComesBetween}
use Rattle.checkpoint_laws.specs.batches.Underway.{BatchMay, page_left, posts_left}
use Rattle.checkpoint_laws.proofs.batches.EntryBetween.{as_delivered, batch_reached}
use Rattle.checkpoint_laws.specs.limits.Within.{AllKeepLimits, KeepsLimits}
use Rattle.checkpoint_laws.proofs.limits.StayingLimits.{left_keeps}

-- a page of the process changes neither its start nor the letters that it has read
pub page_keeps : (system : System) (log : List Entry) (k : ClusterNo) (p : Pid) (s : ProcState) (i : ℕ) → keeps_limits system (log ++ entry_of system log (page_left k p s i) ∷ []) p s ≡ keeps_limits system log p s
page_keeps system log k p s i =
    let page = entry_of system log (page_left k p s i) in
    let start = page_start system log page p (s.small).steps i (page_at s.memory i) refl p in
    let saved = page_saved system log page p (s.small).steps i (page_at s.memory i) refl p in
    λ j. leb ((s.small).steps - option_map_or (λ (q : ProcState). (q.small).steps) (start j) 0) system.syncsteps && leb (length (numbers_read (saved j) s.mail)) system.syncreads

-- nor where silent steps lead, so its synchronisation keeps the limits as before
pub page_leaves_sync : (system : System) (log : List Entry) (k : ClusterNo) (p : Pid) (s : ProcState) (i : ℕ) (small : SmallState) (read : List ℕ) (took : Option ℕ)
    → is_within_limits system (log ++ entry_of system log (page_left k p s i) ∷ []) (Sync p small read took) p ≡ is_within_limits system log (Sync p small read took) p
page_leaves_sync system log k p s i small read took =
    let page = entry_of system log (page_left k p s i) in
    let start = page_start system log page p (s.small).steps i (page_at s.memory i) refl p in
    let saved = page_saved system log page p (s.small).steps i (page_at s.memory i) refl p in
    let silent = page_silent system log page p (s.small).steps i (page_at s.memory i) refl p small.steps in
    λ j. option_map_or
    (λ (t : ProcState). leb ((t.small).steps - option_map_or (λ (q : ProcState). (q.small).steps) (start j) 0) system.syncsteps && leb (length (numbers_read (saved j) t.mail)) system.syncreads)
    (silent j) false

-- the posts that are left of a batch keep the limits, post by post, where its synchronisation does
pub rest_keeps_limits : (system : System) (log : List Entry) (k : ClusterNo) (p : Pid) (s : ProcState) (read : List ℕ) (took : Option ℕ) (indices : List ℕ) → KeepsLimits system log (Sync p s.small read took)
    → AllKeepLimits system log (posts_left k p s read took indices)
rest_keeps_limits system log k p s read took [] keeps = (keeps, tt)
rest_keeps_limits system log k p s read took (i ∷ js) keeps =
    (refl, rest_keeps_limits system (log ++ entry_of system log (page_left k p s i) ∷ []) k p s read took js (page_leaves_sync system log k p s i s.small read took ∙ keeps))

-- an entry that comes between the posts of a batch leaves it so
pub between_keeps : (system : System) (log : List Entry) (e : Entry) (k : ClusterNo) (p : Pid) (s : ProcState) (read : List ℕ) (took : Option ℕ) (indices : List ℕ) → ComesBetween system log e k p → BatchMay system log k p s read took indices
    → KeepsLimits system log (Sync p s.small read took) → KeepsLimits system (log ++ e ∷ []) (Sync p s.small read took)
between_keeps system log e k p s read took indices comes b keeps =
    let letters = letter_for p (what e) in
    let at : silent_upto system log p (s.small).steps ≡ Some b.before = ap (silent_upto system log p) (takes_leave took b.before s b.takes).steps ∙ (b.may).reached in
    let runs : has_ended ((b.before).small).status ≡ false = runs_before took b.before s b.takes b.runs in
    ap (λ o. option_map_or (keeps_limits system (log ++ e ∷ []) p) o false) (batch_reached system log e k p s read took indices comes b b.before at)
    ∙ ap (keeps_limits system (log ++ e ∷ []) p) (as_delivered b.before letters)
    ∙ left_keeps system log e p b.before comes.valid comes.legal (by_home_there (placement system log) (Cluster k) p (b.may).by_home) comes.leaves
    (silent_next system log p ((b.before).small).steps b.before comes.valid comes.legal (b.may).reached runs)
    (sym (ap (λ o. option_map_or (keeps_limits system log p) o false) at) ∙ keeps)
