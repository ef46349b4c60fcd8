-- A process whose living children have synchronised is so after an entry by which it bears none: another's birth adds no child of it, and a child that has synchronised or
-- ended stays so.
use Rattle.std.proofs.Common.{◌≡◌, refl, sym, ◌∙◌, ap, inl, inr, List, [], ◌∷◌, ◌++◌, map, Bool, true, false, cond, not, ◌&&◌, ◌||◌, Option, Some, None, is_some, true≢false}
use Rattle.std.specs.List.{list_any}
use Rattle.std.specs.Option.{option_map_or, option_or}
use Rattle.std.proofs.lemmas.Bool.{and_from, and_parts}
use Rattle.std.proofs.lemmas.List.Folds.{find-append, list_any-append}
use Rattle.t32_base.specs.declared.process.ClusterNo.{ClusterNo}
use Rattle.t32_base.specs.declared.process.Pid.{Pid}
use Rattle.t32_base.specs.declared.letter.BackRec.{BackRec}
use Rattle.sys_text.specs.declared.system.System.{System}
use Rattle.sys_text.specs.Valid.{is_system}
use Rattle.proc_state.specs.State.{ProcState}
use Rattle.bus_msg.specs.declared.entry.What.{What}
use Rattle.bus_msg.specs.declared.entry.What.TheVariants.{Birth, Exit, Sync, Crash, Rebackup}
use Rattle.bus_msg.specs.declared.entry.Entry.{Entry}
use Rattle.bus_msg.specs.declared.placed.Placed.{Placed}
use Rattle.bus_msg.specs.Places.{Places, placed_at, same_pid, unended_at}
use Rattle.bus_msg.specs.PlacedAfter.{what, after_loss, after_rebackup, after_sync, child_of, is_named, placed_after, with_birth}
use Rattle.roll_forward.specs.Deeds.{Deed, Bears}
use Rattle.cert_sched.specs.Schedule.{placement, process_after}
use Rattle.cert_sched.specs.Deeds.{deeds_in, is_birth_of}
use Rattle.cert_sched.specs.Family.{born, births_of, is_unsynced}
use Rattle.cert_sched.specs.Kinds.{ChildrenSynced}
use Rattle.cert_sched.specs.Legal.{IsLegalBy, Stands}
use Rattle.cert_sched.proofs.BornLaws.{there_not_born}
use Rattle.cert_sched.proofs.FamilyLaws.{Pair, Member, In, Families, families, births_more, StaysSynced, was_unsynced, sync_synced, loss_synced, exit_there, exit_elsewhere}
use Rattle.cert_sched.proofs.LogLaws.{placement-snoc}
use Rattle.cert_sched.proofs.ThereLaws.{placed_there}
use Rattle.cert_sched.proofs.UnendedLaws.{Keeps, unended_map, sync_keeps, loss_keeps, backup_keeps}
use Rattle.log_laws.proofs.letters.LogReads.{itself}

-- ---- who never synchronised

-- a process that never synchronised after a change of each process, by which none is unsynced that was not, had not synchronised before it
by_change : (f : Placed → Placed) → Keeps f → StaysSynced f → (places after : Places) → after.placed ≡ map f places.placed → (p : Pid) → is_unsynced after p ≡ true → is_unsynced places p ≡ true
by_change f keeps stays places after placed p h =
    was_unsynced f stays (unended_at places p) (sym (ap (λ o. option_map_or (λ (q : Placed). not q.synced) o false) (unended_map f keeps places after placed p)) ∙ h)

backup_synced : (to : ClusterNo) (fresh : Bool) (recs : List BackRec) (q : Placed) → (after_rebackup to fresh recs q).synced ≡ false → q.synced ≡ false
backup_synced to fresh recs q = by_test (is_named recs q)
  where
    first : (a b : Bool) → (a || b) ≡ false → a ≡ false
    first true b none = absurd (true≢false none)
    first false b none = refl

    by_test : (b : Bool) → (cond b (record q { backup = Some to; synced = q.synced || fresh }) q).synced ≡ false → q.synced ≡ false
    by_test true none = first q.synced fresh none
    by_test false none = none

-- nor is one that another process has borne
beside_birth : (p child : Pid) (places : Places) (o : Option Placed) → same_pid child p ≡ false → is_unsynced (with_birth places child o) p ≡ is_unsynced places p
beside_birth p child places None other = refl
beside_birth p child places (Some q) other =
    ap (λ o. option_map_or (λ (q : Placed). not q.synced) o false)
    (find-append (λ (q : Placed). same_pid q.pid p && not q.ended) places.placed (child_of q child ∷ [])
    ∙ ap (λ b. option_or (unended_at places p) (cond (b && true) (Some (child_of q child)) None)) other
    ∙ or_none (unended_at places p))
  where
    or_none : (o : Option Placed) → option_or o None ≡ o
    or_none None = refl
    or_none (Some q) = refl

-- so who is not born by an entry, and never synchronised after it, had not before it
pub unsynced_before : (w : What) (places : Places) (p : Pid) → is_birth_of p w ≡ false → is_unsynced (placed_after places w) p ≡ true → is_unsynced places p ≡ true
unsynced_before (Birth parent at child end) places p other h = sym (beside_birth p child places (placed_at places parent) other) ∙ h
unsynced_before (Exit r at end) places p other h = by_pid (same_pid p r) refl
  where
    by_pid : (b : Bool) → same_pid p r ≡ b → is_unsynced places p ≡ true
    by_pid true same = absurd (true≢false (sym h ∙ ap (λ o. option_map_or (λ (q : Placed). not q.synced) o false) (exit_there places r p at end same)))
    by_pid false apart = sym (ap (λ o. option_map_or (λ (q : Placed). not q.synced) o false) (exit_elsewhere places r p at end apart)) ∙ h
unsynced_before (Sync q small read took) places p other h = by_change (after_sync q) (sync_keeps q) (sync_synced q) places (placed_after places (Sync q small read took)) refl p h
unsynced_before (Crash k cause) places p other h = by_change (after_loss k) (loss_keeps k) (λ q none. sym (loss_synced k q) ∙ none) places (placed_after places (Crash k cause)) refl p h
unsynced_before (Rebackup to fresh recs) places p other h = by_change (after_rebackup to fresh recs) (backup_keeps to fresh recs) (backup_synced to fresh recs) places (placed_after places (Rebackup to fresh recs)) refl p h
unsynced_before _ places p other h = h

-- ---- the children of a process

-- where each pair that passes passed another test, which none passes, none passes
none_still : (t u : Pair → Bool) (bs : List Pair) → ((b : Pair) → Member b bs → t b ≡ true → u b ≡ true) → list_any u bs ≡ false → list_any t bs ≡ false
none_still t u [] leads none = refl
none_still t u (b ∷ bs) leads none = by_tests (t b) refl (u b) refl none (none_still t u bs (λ c m. leads c (inr m)))
  where
    by_tests : (x : Bool) → t b ≡ x → (y : Bool) → u b ≡ y → (y || list_any u bs) ≡ false → (list_any u bs ≡ false → list_any t bs ≡ false) → (x || list_any t bs) ≡ false
    by_tests x is true other none more = absurd (true≢false none)
    by_tests true is false other none more = absurd (true≢false (sym (leads b (inl refl) is) ∙ other))
    by_tests false is false other none more = more none

-- a deed of no process but another
pub no_deed : (q p : Pid) (d : Deed) → cond (same_pid q p) (d ∷ []) [] ≡ [] → same_pid q p ≡ false
no_deed q p d none = by_test (same_pid q p) none
  where
    by_test : (b : Bool) → cond b (d ∷ []) [] ≡ [] → b ≡ false
    by_test true none = cc
    by_test false none = refl

-- an entry that tells no deed of the process tells of no child of it
none_more : (p : Pid) (t : Pid → Bool) (w : What) → deeds_in p w ≡ [] → list_any (λ (b : Pair). same_pid b.0 p && t b.1) (born w) ≡ false
none_more p t (Birth parent at child end) none = ap (λ b. (b && t child) || false) (no_deed parent p (Bears child) none)
none_more p t _ none = refl

-- who is placed is not born
placed_not_born : (system : System) (log : List Entry) (e : Entry) (p : Pid) → is_system system ≡ true → IsLegalBy Stands system log → Stands system log e → In p.0 (placement system log) → is_birth_of p (what e) ≡ false
placed_not_born system log e p valid legal stands placed = by_process (process_after system log p) refl (placed_there Stands itself system log p valid legal placed)
  where
    by_process : (o : Option ProcState) → process_after system log p ≡ o → is_some o ≡ true → is_birth_of p (what e) ≡ false
    by_process None here there = absurd (true≢false (sym there))
    by_process (Some was) here there = there_not_born system log e p was stands.applies here

pub children_stay : (system : System) (log : List Entry) (e : Entry) (p : Pid) → is_system system ≡ true → IsLegalBy Stands system log → Stands system log e → deeds_in p (what e) ≡ [] → ChildrenSynced system log p → ChildrenSynced system (log ++ e ∷ []) p
children_stay system log e p valid legal stands no_deeds synced =
    ap (list_any later) (births_more system log e stands all)
    ∙ list_any-append later (births_of log) (born (what e))
    ∙ (λ i. none_still later before (births_of log) leads synced i || none_more p (is_unsynced (placement system (log ++ e ∷ []))) (what e) no_deeds i)
  where
    all : Families system log
    all = families Stands itself system log valid legal

    before : Pair → Bool
    before b = same_pid b.0 p && is_unsynced (placement system log) b.1

    later : Pair → Bool
    later b = same_pid b.0 p && is_unsynced (placement system (log ++ e ∷ [])) b.1

    leads : (b : Pair) → Member b (births_of log) → later b ≡ true → before b ≡ true
    leads b m is =
        let parts = and_parts (same_pid b.0 p) (is_unsynced (placement system (log ++ e ∷ [])) b.1) is in
        let other = placed_not_born system log e b.1 valid legal stands (all.pairs_in b m).1 in
        and_from (same_pid b.0 p) (is_unsynced (placement system log) b.1) parts.0
        (unsynced_before (what e) (placement system log) b.1 other (ap (λ places. is_unsynced places b.1) (sym (placement-snoc system log e)) ∙ parts.1))
