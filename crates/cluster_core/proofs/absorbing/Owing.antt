-- Who is to get a new backup stays at an entry that does not change that.
use Rattle.std.proofs.Common.{◌≡◌, refl, sym, ap, List, [], ◌∷◌, map, find, Bool, true, false, cond, not, ◌&&◌, Option, Some, None, true≢false}
use Rattle.std.specs.Option.{option_map_or}
use Rattle.t32_base.specs.declared.process.Pid.{Pid}
use Rattle.t32_base.specs.declared.process.ClusterNo.{ClusterNo}
use Rattle.t32_base.specs.declared.letter.BackRec.{BackRec}
use Rattle.bus_msg.specs.declared.entry.What.{What}
use Rattle.bus_msg.specs.declared.entry.What.TheVariants.{Mail, Birth, Exit, Page, Sync, Fetch, PageIs, Crash, Return, Rebackup, Done, Stop}
use Rattle.bus_msg.specs.declared.placed.Placed.{Placed}
use Rattle.bus_msg.specs.Places.{Places, same_pid}
use Rattle.bus_msg.specs.PlacedAfter.{after_sync, placed_after, with_each}
use Rattle.bus_msg.specs.NewBackup.{next_backup, next_backup_at}
use Rattle.plain_kernel.specs.Maps.{pid_of}
use Rattle.quanta.specs.declared.limits.Limits.{Limits}
use Rattle.cert_sched.specs.Deeds.{is_end_of}
use Rattle.residents.specs.Held.{Held, arrived_held, page_held}
use Rattle.residents.specs.Owing.{duty_in, owing_in}
use Rattle.residents.proofs.OwingLaws.{owing_same}
use Rattle.residents.specs.Residents.{pids_in}
use Rattle.cluster_core.specs.Absorbing.{changes_owing}
use Rattle.cluster_core.specs.Calls.{here_after}
use Rattle.cluster_core.specs.Recovered.{moved_by, with_all_waiting}
use Rattle.cluster_core.proofs.absorbing.Following.{letter_pids}

-- a synchronisation changes no new backup
synced_next : (places : Places) (pid p : Pid) → next_backup_at (with_each places (after_sync pid)) p ≡ next_backup_at places p
synced_next places pid p = each places.placed
  where
    test : Placed → Bool
    test q = same_pid q.pid p && not q.ended

    next : Placed → Option ClusterNo
    next q = next_backup places q

    by_found : (t : Bool) (q r : Placed) (some more : Option Placed) → next r ≡ next q → option_map_or next some None ≡ option_map_or next more None → option_map_or next (cond t (Some r) some) None ≡ option_map_or next (cond t (Some q) more) None
    by_found true q r some more same rest = same
    by_found false q r some more same rest = rest

    by_pid : (b : Bool) (q : Placed) (left : List Placed) → option_map_or next (find (λ (q : Placed). same_pid q.pid p && not q.ended) (map (after_sync pid) left)) None ≡ option_map_or next (find (λ (q : Placed). same_pid q.pid p && not q.ended) left) None
        → option_map_or next (find (λ (q : Placed). same_pid q.pid p && not q.ended) (cond b (record q { synced = true }) q ∷ map (after_sync pid) left)) None ≡ option_map_or next (find (λ (q : Placed). same_pid q.pid p && not q.ended) (q ∷ left)) None
    by_pid true q left more = by_found (test q) q (record q { synced = true }) _ _ refl more
    by_pid false q left more = by_found (test q) q q _ _ refl more

    each : (placed : List Placed) → option_map_or next (find (λ (q : Placed). same_pid q.pid p && not q.ended) (map (after_sync pid) placed)) None ≡ option_map_or next (find (λ (q : Placed). same_pid q.pid p && not q.ended) placed) None
    each [] = refl
    each (q ∷ placed) = by_pid (same_pid q.pid pid) q placed (each placed)

-- Where an entry does not change that, those here with it are to get what those here were to get.
pub owing_stays : (limits : Limits) (places : Places) (k : ClusterNo) (w : What) (recs : List BackRec) (here : List (Pid × Held)) → changes_owing w ≡ false → duty_in limits places here ≡ duty_in limits (placed_after places w) (with_all_waiting (moved_by places k w recs) (here_after w here))
owing_stays limits places k (Mail at letter) recs here stays =
    ap (λ pids. record { limits = limits; owing = owing_in places pids }) (sym (letter_pids (λ q. is_end_of q letter.to) (λ h. arrived_held h letter) here))
owing_stays limits places k (PageIs pid index bytes) recs here stays =
    ap (λ pids. record { limits = limits; owing = owing_in places pids }) (sym (letter_pids (λ q. same_pid q pid) (λ h. page_held index bytes h) here))
owing_stays limits places k (Sync pid small read took) recs here stays =
    ap (λ owing. record { limits = limits; owing = owing }) (sym (owing_same places (with_each places (after_sync pid)) (pids_in here) (λ n. synced_next places pid (pid_of n))))
owing_stays limits places k (Page pid at index bytes) recs here stays = refl
owing_stays limits places k (Fetch pid index) recs here stays = refl
owing_stays limits places k (Done rests) recs here stays = refl
owing_stays limits places k Stop recs here stays = refl
owing_stays limits places k (Birth parent at child end) recs here stays = absurd (true≢false stays)
owing_stays limits places k (Exit pid at end) recs here stays = absurd (true≢false stays)
owing_stays limits places k (Crash j cause) recs here stays = absurd (true≢false stays)
owing_stays limits places k (Return j) recs here stays = absurd (true≢false stays)
owing_stays limits places k (Rebackup to fresh recs') recs here stays = absurd (true≢false stays)
