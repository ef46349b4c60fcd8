-- What each entry that bears no child does to the births of children that never synchronised.
use Rattle.std.proofs.Common.{◌≡◌, ℕ, refl, sym, ◌∙◌, ap, append-nil, List, [], ◌∷◌, ◌++◌, Bool, true, false, cond, not, ◌&&◌, ◌||◌, Option, Some, None, true≢false}
use Rattle.std.specs.Prelude.{filter, option_map}
use Rattle.std.specs.Option.{option_map_or}
use Rattle.t32_base.specs.declared.process.Pid.{Pid}
use Rattle.t32_base.specs.declared.process.End.{End}
use Rattle.t32_base.specs.declared.process.ClusterNo.{ClusterNo}
use Rattle.t32_base.specs.declared.letter.BackRec.{BackRec}
use Rattle.t32_base.proofs.Facts.{or_false}
use Rattle.t32_base.specs.Small.{SmallState}
use Rattle.sys_text.specs.declared.system.System.{System}
use Rattle.bus_msg.specs.declared.entry.What.{What}
use Rattle.bus_msg.specs.declared.entry.What.TheVariants.{Birth, Exit, Sync, Crash, Rebackup}
use Rattle.bus_msg.specs.declared.entry.Cause.{Cause}
use Rattle.bus_msg.specs.declared.entry.Entry.{Entry}
use Rattle.bus_msg.specs.declared.placed.Placed.{Placed}
use Rattle.bus_msg.specs.Places.{Places, same_pid, unended_at}
use Rattle.bus_msg.specs.PlacedAfter.{what, placed_after, after_sync, after_loss, after_rebackup, is_named}
use Rattle.cert_sched.specs.Schedule.{placement}
use Rattle.cert_sched.specs.Family.{is_unsynced, born, births_of}
use Rattle.cert_sched.proofs.LogLaws.{placement-snoc}
use Rattle.cert_sched.proofs.PidsBorn.{births_of-snoc}
use Rattle.cert_sched.proofs.UnendedLaws.{unended_map, unended_pid, backup_keeps, sync_keeps, loss_keeps}
use Rattle.cert_sched.proofs.FamilyLaws.{Pair, loss_synced, exit_there, exit_elsewhere}
use Rattle.log_laws.specs.births.Unsynced.{unsynced_births, changes_unsynced}
use Rattle.log_laws.proofs.births.Filters.{and_true, and_false, filter_alike, filter_both}

-- whether a process that is placed, if it is, never synchronised
abbrev pub never_synced : Option Placed → Bool
never_synced o = option_map_or (λ (q : Placed). not q.synced) o false

-- ---- one process

-- after a synchronisation those never synchronised that had not, but for this one
pub unsynced_after_sync : (places : Places) (r : Pid) (small : SmallState) (read : List ℕ) (took : Option ℕ) (p : Pid) → is_unsynced (placed_after places (Sync r small read took)) p ≡ (is_unsynced places p && not (same_pid p r))
unsynced_after_sync places r small read took p =
    ap never_synced (unended_map (after_sync r) (sync_keeps r) places (placed_after places (Sync r small read took)) refl p) ∙ by_found (unended_at places p) refl
  where
    by_test : (q : Placed) (x : Bool) → not (cond x (record q { synced = true }) q).synced ≡ (not q.synced && not x)
    by_test q true = sym (and_false (not q.synced))
    by_test q false = sym (and_true (not q.synced))

    by_found : (o : Option Placed) → unended_at places p ≡ o → never_synced (option_map (after_sync r) o) ≡ (never_synced o && not (same_pid p r))
    by_found None found = refl
    by_found (Some q) found = by_test q (same_pid q.pid r) ∙ ap (λ s. not q.synced && not (same_pid s r)) (unended_pid places p q found)

-- after an exit likewise
pub unsynced_after_exit : (places : Places) (r : Pid) (at : ℕ) (end : End) (p : Pid) → is_unsynced (placed_after places (Exit r at end)) p ≡ (is_unsynced places p && not (same_pid p r))
unsynced_after_exit places r at end p = by_pid (same_pid p r) refl
  where
    by_pid : (x : Bool) → same_pid p r ≡ x → is_unsynced (placed_after places (Exit r at end)) p ≡ (is_unsynced places p && not x)
    by_pid true same = ap never_synced (exit_there places r p at end same) ∙ sym (and_false (is_unsynced places p))
    by_pid false apart = ap never_synced (exit_elsewhere places r p at end apart) ∙ sym (and_true (is_unsynced places p))

-- a loss leaves who never synchronised
pub unsynced_after_loss : (places : Places) (k : ClusterNo) (cause : Cause) (p : Pid) → is_unsynced (placed_after places (Crash k cause)) p ≡ is_unsynced places p
unsynced_after_loss places k cause p =
    ap never_synced (unended_map (after_loss k) (loss_keeps k) places (placed_after places (Crash k cause)) refl p) ∙ by_found (unended_at places p)
  where
    by_found : (o : Option Placed) → never_synced (option_map (after_loss k) o) ≡ never_synced o
    by_found None = refl
    by_found (Some q) = ap not (loss_synced k q)

-- a family that was moved goes on as it was
pub unsynced_after_standing : (places : Places) (to : ClusterNo) (recs : List BackRec) (p : Pid) → is_unsynced (placed_after places (Rebackup to false recs)) p ≡ is_unsynced places p
unsynced_after_standing places to recs p =
    ap never_synced (unended_map (after_rebackup to false recs) (backup_keeps to false recs) places (placed_after places (Rebackup to false recs)) refl p) ∙ by_found (unended_at places p)
  where
    by_name : (q : Placed) (x : Bool) → not (cond x (record q { backup = Some to; synced = q.synced || false }) q).synced ≡ not q.synced
    by_name q true = ap not (or_false q.synced)
    by_name q false = refl

    by_found : (o : Option Placed) → never_synced (option_map (after_rebackup to false recs) o) ≡ never_synced o
    by_found None = refl
    by_found (Some q) = by_name q (is_named recs q)

-- ---- the births

-- after an entry the same question is asked of the placement after it, and of the birth that it tells too
pub births_after : (system : System) (log : List Entry) (e : Entry) (w : What) → what e ≡ w
    → unsynced_births system (log ++ e ∷ []) ≡ filter (λ (b : Pair). is_unsynced (placed_after (placement system log) w) b.1) (births_of log ++ born w)
births_after system log e w is =
    let places = placement-snoc system log e ∙ ap (placed_after (placement system log)) is in
    let births = births_of-snoc log e ∙ ap (λ w. births_of log ++ born w) is in
    λ i. filter (λ (b : Pair). is_unsynced (places i) b.1) (births i)

-- an entry that bears no child, and leaves who never synchronised but for one process
pub without_one : (system : System) (log : List Entry) (e : Entry) (w : What) (r : Pid) → what e ≡ w → born w ≡ [] → ((p : Pid) → is_unsynced (placed_after (placement system log) w) p ≡ (is_unsynced (placement system log) p && not (same_pid p r)))
    → unsynced_births system (log ++ e ∷ []) ≡ filter (λ (b : Pair). not (same_pid b.1 r)) (unsynced_births system log)
without_one system log e w r is none change =
    births_after system log e w is
    ∙ ap (filter (λ (b : Pair). is_unsynced (placed_after (placement system log) w) b.1)) (ap (λ bs. births_of log ++ bs) none ∙ append-nil (births_of log))
    ∙ filter_both (λ b. is_unsynced (placed_after (placement system log) w) b.1) (λ b. is_unsynced (placement system log) b.1) (λ b. not (same_pid b.1 r)) (λ b. change b.1) (births_of log)

pub synced_goes : (system : System) (log : List Entry) (e : Entry) (pid : Pid) (small : SmallState) (read : List ℕ) (took : Option ℕ) → what e ≡ Sync pid small read took
    → unsynced_births system (log ++ e ∷ []) ≡ filter (λ (b : Pair). not (same_pid b.1 pid)) (unsynced_births system log)
synced_goes system log e pid small read took is = without_one system log e (Sync pid small read took) pid is refl (unsynced_after_sync (placement system log) pid small read took)

pub ended_goes : (system : System) (log : List Entry) (e : Entry) (pid : Pid) (at : ℕ) (end : End) → what e ≡ Exit pid at end
    → unsynced_births system (log ++ e ∷ []) ≡ filter (λ (b : Pair). not (same_pid b.1 pid)) (unsynced_births system log)
ended_goes system log e pid at end is = without_one system log e (Exit pid at end) pid is refl (unsynced_after_exit (placement system log) pid at end)

-- an entry that bears no child, and leaves who never synchronised
pub births_stay : (system : System) (log : List Entry) (e : Entry) (w : What) → what e ≡ w → born w ≡ [] → ((p : Pid) → is_unsynced (placed_after (placement system log) w) p ≡ is_unsynced (placement system log) p)
    → unsynced_births system (log ++ e ∷ []) ≡ unsynced_births system log
births_stay system log e w is none same =
    births_after system log e w is
    ∙ ap (filter (λ (b : Pair). is_unsynced (placed_after (placement system log) w) b.1)) (ap (λ bs. births_of log ++ bs) none ∙ append-nil (births_of log))
    ∙ filter_alike (λ b. is_unsynced (placed_after (placement system log) w) b.1) (λ b. is_unsynced (placement system log) b.1) (births_of log) (λ b m. same b.1)

pub others_leave : (system : System) (log : List Entry) (e : Entry) → changes_unsynced (what e) ≡ false → unsynced_births system (log ++ e ∷ []) ≡ unsynced_births system log
others_leave system log e = by_what (what e) refl
  where
    by_what : (w : What) → what e ≡ w → changes_unsynced w ≡ false → unsynced_births system (log ++ e ∷ []) ≡ unsynced_births system log
    by_what (Birth parent at child end) is other = absurd (true≢false other)
    by_what (Exit pid at end) is other = absurd (true≢false other)
    by_what (Sync pid small read took) is other = absurd (true≢false other)
    by_what (Crash k cause) is other = births_stay system log e (Crash k cause) is refl (unsynced_after_loss (placement system log) k cause)
    by_what (Rebackup to true recs) is other = absurd (true≢false other)
    by_what (Rebackup to false recs) is other = births_stay system log e (Rebackup to false recs) is refl (unsynced_after_standing (placement system log) to recs)
    by_what w is other = births_stay system log e w is refl (λ p. refl)
