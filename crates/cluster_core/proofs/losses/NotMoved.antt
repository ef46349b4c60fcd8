-- An entry that moves no process: it loses no cluster, or another than the home of the process.
use Rattle.std.proofs.Common.{◌≡◌, ℕ, refl, sym, ◌∙◌, ap, subst, List, [], ◌∷◌, Bool, true, false, cond, not, ◌&&◌, ◌||◌, eqb, eqb-true, Option, Some, None, is_some, inl, inr}
use Rattle.std.specs.Prelude.{find}
use Rattle.std.specs.List.{list_any}
use Rattle.std.specs.Option.{option_map_or}
use Rattle.std.proofs.lemmas.Bool.{and_parts, not-true, or_parts}
use Rattle.t32_base.specs.declared.process.Pid.{Pid}
use Rattle.t32_base.specs.declared.process.ClusterNo.{ClusterNo}
use Rattle.t32_base.specs.declared.process.End.{End}
use Rattle.t32_base.specs.declared.letter.Letter.{Letter}
use Rattle.t32_base.specs.declared.letter.BackRec.{BackRec}
use Rattle.t32_base.specs.Small.{SmallState}
use Rattle.sys_text.specs.declared.system.System.{System}
use Rattle.bus_msg.specs.declared.entry.What.{What}
use Rattle.bus_msg.specs.declared.entry.What.TheVariants.{Mail, Birth, Exit, Page, Sync, Fetch, PageIs, Crash, Return, Rebackup, Done, Stop}
use Rattle.bus_msg.specs.declared.entry.Cause.{Cause}
use Rattle.bus_msg.specs.declared.entry.Entry.{Entry}
use Rattle.bus_msg.specs.declared.placed.Placed.{Placed}
use Rattle.bus_msg.specs.Places.{Places, is_moved_by, placed_at, same_cluster, same_pid, unended_at}
use Rattle.bus_msg.specs.PlacedAfter.{what}
use Rattle.channel_table.specs.Changes.{pids_differ}
use Rattle.cert_sched.specs.Losses.{is_crash_of}
use Rattle.cert_sched.specs.Schedule.{placement}
use Rattle.cert_sched.specs.Told.{cluster_lost, is_moved}
use Rattle.cert_sched.proofs.FreshLaws.{only_one}
use Rattle.cert_sched.proofs.PidLaws.{apart_of}
use Rattle.log_laws.specs.pages.Next.{moves_next}
use Rattle.log_laws.proofs.pages.OneEntry.{turned}
use Rattle.cluster_core.proofs.absorbing.ByKind.{OneOf, by_kind, by_page, by_sync, kind_is}
use Rattle.cluster_core.specs.Queue.{is_moved_from}
use Rattle.cluster_core.proofs.losses.Homes.{HomeHere}

-- ---- one process

-- where no other has the pid of one, none of them with that pid passes a test
none_other : (t : Placed → Bool) (p : Pid) (q : Placed) (qs : List Placed) → same_pid q.pid p ≡ true → list_any (λ (r : Placed). same_pid r.pid q.pid) qs ≡ false → list_any (λ (r : Placed). same_pid r.pid p && t r) qs ≡ false
none_other t p q [] is none = refl
none_other t p q (r ∷ qs) is none =
    let parts = or_parts (same_pid r.pid q.pid) (list_any (λ (r : Placed). same_pid r.pid q.pid) qs) none in
    let other : same_pid r.pid p ≡ false = ap (λ n. eqb (r.pid).0 n) (sym (eqb-true (q.pid).0 p.0 is)) ∙ parts.0 in
    λ i. (other i && t r) || none_other t p q qs is parts.1 i

-- where none has the pid, none with the pid passes
none_has : (t : Placed → Bool) (p : Pid) (qs : List Placed) → find (λ (q : Placed). same_pid q.pid p) qs ≡ None → list_any (λ (r : Placed). same_pid r.pid p && t r) qs ≡ false
none_has t p [] none = refl
none_has t p (r ∷ qs) none = by_pid (same_pid r.pid p) none (none_has t p qs)
  where
    by_pid : (b : Bool) → cond b (Some r) (find (λ (q : Placed). same_pid q.pid p) qs) ≡ None → (find (λ (q : Placed). same_pid q.pid p) qs ≡ None → list_any (λ (r : Placed). same_pid r.pid p && t r) qs ≡ false)
        → ((b && t r) || list_any (λ (r : Placed). same_pid r.pid p && t r) qs) ≡ false
    by_pid true none more = let some : Some r ≡ None = none in cc
    by_pid false none more = more none

-- where the one with the pid does not pass, none with the pid does
none_passes : (t : Placed → Bool) (p : Pid) (qs : List Placed) (q : Placed) → pids_differ qs ≡ true → find (λ (q : Placed). same_pid q.pid p) qs ≡ Some q → t q ≡ false → list_any (λ (r : Placed). same_pid r.pid p && t r) qs ≡ false
none_passes t p [] q differ found fails = refl
none_passes t p (r ∷ qs) q differ found fails = by_pid (same_pid r.pid p) refl found (λ found. none_passes t p qs q parts.1 found fails)
  where
    parts : (not (list_any (λ (s : Placed). same_pid s.pid r.pid) qs) ≡ true) × (pids_differ qs ≡ true)
    parts = and_parts (not (list_any (λ (s : Placed). same_pid s.pid r.pid) qs)) (pids_differ qs) differ

    by_pid : (b : Bool) → same_pid r.pid p ≡ b → cond b (Some r) (find (λ (q : Placed). same_pid q.pid p) qs) ≡ Some q
        → (find (λ (q : Placed). same_pid q.pid p) qs ≡ Some q → list_any (λ (r : Placed). same_pid r.pid p && t r) qs ≡ false) → ((b && t r) || list_any (λ (r : Placed). same_pid r.pid p && t r) qs) ≡ false
    by_pid true is found more =
        let same : r ≡ q = cc in
        λ i. (ap t same ∙ fails) i || none_other t p r qs is (not-true (list_any (λ (s : Placed). same_pid s.pid r.pid) qs) parts.0) i
    by_pid false is found more = more found

-- so the loss of a cluster moves no process where it does not move the one that is placed under its pid,
pub placed_not_moved : (places : Places) (p : Pid) (k : ClusterNo) → pids_differ places.placed ≡ true → is_moved_from places p k ≡ false → is_moved p places k ≡ false
placed_not_moved places p k differ stays = by_placed (placed_at places p) refl stays
  where
    by_placed : (o : Option Placed) → placed_at places p ≡ o → option_map_or (is_moved_by k) o false ≡ false → is_moved p places k ≡ false
    by_placed None found fails = none_has (is_moved_by k) p places.placed found
    by_placed (Some q) found fails = none_passes (is_moved_by k) p places.placed q differ found fails

-- or the one that is found there and has not ended
pub found_not_moved : (places : Places) (p : Pid) (k : ClusterNo) (q : Placed) → pids_differ places.placed ≡ true → unended_at places p ≡ Some q → is_moved_by k q ≡ false → is_moved p places k ≡ false
found_not_moved places p k q differ found stays = none_passes (is_moved_by k) p places.placed q differ (only_one p places.placed q (apart_of places.placed differ) found) stays

-- ---- a process at home in a cluster

-- it is at home in no other
away_from : (lost k : ClusterNo) (q : Placed) → same_cluster q.home k ≡ true → same_cluster lost k ≡ false → is_moved_by lost q ≡ false
away_from lost k q home apart =
    let away : same_cluster q.home lost ≡ false = ap (λ n. eqb n lost.0) (eqb-true (q.home).0 k.0 home) ∙ turned k.0 lost.0 ∙ apart in
    λ i. (away i && not q.ended) && is_some q.backup

-- an entry that does not lose that cluster does not move it
pub home_not_moved : (system : System) (log : List Entry) (e : Entry) (p : Pid) (k : ClusterNo) → pids_differ (placement system log).placed ≡ true → HomeHere (placement system log) p k → is_crash_of k (what e) ≡ false → moves_next system log e p ≡ false
home_not_moved system log e p k differ here away = by_loss (cluster_lost (what e)) away
  where
    by_loss : (o : Option ClusterNo) → option_map_or (λ j. same_cluster j k) o false ≡ false → option_map_or (is_moved p (placement system log)) o false ≡ false
    by_loss None away = refl
    by_loss (Some lost) away = found_not_moved (placement system log) p lost here.placed differ here.found (away_from lost k here.placed here.home away)

-- ---- each kind

pub by_each : (P : What → Type 0) → ((at : ℕ) (letter : Letter) → P (Mail at letter)) → ((parent : Pid) (at : ℕ) (child : Pid) (end : ℕ) → P (Birth parent at child end)) → ((pid : Pid) (at : ℕ) (end : End) → P (Exit pid at end)) → ((pid : Pid) (index : ℕ) → P (Fetch pid index))
    → ((pid : Pid) (index : ℕ) (bytes : List ℕ) → P (PageIs pid index bytes)) → ((lost : ClusterNo) (cause : Cause) → P (Crash lost cause)) → ((pid : Pid) (at index : ℕ) (bytes : List ℕ) → P (Page pid at index bytes))
    → ((pid : Pid) (small : SmallState) (read : List ℕ) (took : Option ℕ) → P (Sync pid small read took)) → ((to : ClusterNo) (fresh : Bool) (recs : List BackRec) → P (Rebackup to fresh recs)) → ((k : ClusterNo) → P (Return k)) → ((rests : List (Pid × ℕ)) → P (Done rests)) → P Stop
    → (w : What) → P w
by_each P mail birth exit fetch page crash changed cut renewed back done stop w = by_one (kind_is w)
  where
    by_one : OneOf w → P w
    by_one (inl tells) = by_kind P mail exit done stop w tells
    by_one (inr (inl of)) = by_page P fetch page w of
    by_one (inr (inr (inl loss))) = subst P (sym loss.same) (crash loss.lost loss.cause)
    by_one (inr (inr (inr (inl of)))) = by_sync P changed cut w of
    by_one (inr (inr (inr (inr (inl b))))) = subst P (sym b.same) (birth b.parent b.at b.child b.end)
    by_one (inr (inr (inr (inr (inr (inl r)))))) = subst P (sym r.same) (renewed r.to r.fresh r.recs)
    by_one (inr (inr (inr (inr (inr (inr r)))))) = subst P (sym r.same) (back r.back)
