-- A cluster has had no more children than the log has births, so that the pid of its next one fits 32 bits.
use Rattle.std.proofs.Common.{◌≡◌, ℕ, suc, ◌+◌, ◌^◌, ◌≤◌, ◌<◌, refl, sym, ◌∙◌, ap, arith, List, [], ◌∷◌, ◌++◌, append-nil, length, length-append, map, Bool, true, false, eqb, eqb-true, eq-eqb, Option, Some, None, slice_get, true≢false}
use Rattle.std.specs.Option.{option_map_or}
use Rattle.std.specs.List.{count_by}
use Rattle.std.proofs.lemmas.Grind.{flat_map-append}
use Rattle.std.proofs.lemmas.List.{length-map}
use Rattle.std.proofs.lemmas.List.FromFn.{length-map-range_with_len, get_or-map-range_with_len}
use Rattle.std.proofs.lemmas.List.Sums.{count_by-le-length}
use Rattle.std.proofs.lemmas.Option.{slice_get-get_or, slice_get_within}
use Rattle.t32_base.specs.declared.process.Pid.{Pid}
use Rattle.t32_base.specs.declared.process.ClusterNo.{ClusterNo}
use Rattle.sys_text.specs.declared.system.System.{System}
use Rattle.sys_text.specs.declared.system.Root.{Root}
use Rattle.sys_text.specs.Boot.{pid_of, roots_of, with_pids}
use Rattle.sys_text.specs.Valid.{is_system}
use Rattle.bus_msg.specs.declared.entry.What.{What}
use Rattle.bus_msg.specs.declared.entry.What.TheVariants.{Birth}
use Rattle.bus_msg.specs.declared.entry.Entry.{Entry}
use Rattle.bus_msg.specs.declared.placed.Placed.{Placed}
use Rattle.bus_msg.specs.Places.{ClusterPlace, Places, boot_cluster, next_serial_in, placed_at}
use Rattle.bus_msg.specs.PlacedAfter.{placed_after, raised_serial, what, with_birth}
use Rattle.cert_sched.proofs.BirthKind.{is_birth}
use Rattle.cert_sched.specs.Family.{born, births_of}
use Rattle.cert_sched.specs.Legal.{IsLegalBy, MayStand}
use Rattle.cert_sched.specs.Schedule.{placed_root, placement, places_at_boot}
use Rattle.cert_sched.proofs.BirthsFew.{few_births}
use Rattle.cert_sched.proofs.FreshLaws.{Was, was_changed, same_serials}
use Rattle.cert_sched.proofs.Induction.{legal_induction}
use Rattle.cert_sched.proofs.LogLaws.{placement-snoc}
use Rattle.cert_sched.proofs.ThereLaws.{plain_there}

abbrev serial_of : Option ClusterPlace → ℕ
serial_of o = option_map_or (λ (c : ClusterPlace). c.next_serial) o 0

-- an entry that is no birth leaves it
serial_kept : (w : What) → is_birth w ≡ false → (places : Places) (k : ClusterNo) → next_serial_in (placed_after places w) k ≤ next_serial_in places k
serial_kept w other places k = by_place (slice_get (placed_after places w).clusters k.0) refl
  where
    by_place : (o : Option ClusterPlace) → slice_get (placed_after places w).clusters k.0 ≡ o → serial_of o ≤ next_serial_in places k
    by_place None there = omega arith
    by_place (Some c) there =
        let s = same_serials w other places k.0 c there in
        omega (arith, s.serial, ap serial_of s.there)

-- a birth raises it by one at most
serial_born : (places : Places) (child : Pid) (k : ClusterNo) (o : Option Placed) → next_serial_in (with_birth places child o) k ≤ next_serial_in places k + 1
serial_born places child k None = omega arith
serial_born places child k (Some q) = by_place (slice_get (with_birth places child (Some q)).clusters k.0) refl
  where
    by_place : (o : Option ClusterPlace) → slice_get (with_birth places child (Some q)).clusters k.0 ≡ o → serial_of o ≤ next_serial_in places k + 1
    by_place None there = omega arith
    by_place (Some c) there = by_test (eqb k.0 (q.home).0) refl
      where
        was : Was (q.home).0 raised_serial places.clusters k.0 c
        was = was_changed (q.home).0 raised_serial places.clusters k.0 c there

        by_test : (b : Bool) → eqb k.0 (q.home).0 ≡ b → c.next_serial ≤ next_serial_in places k + 1
        by_test true same = omega (arith, ap (λ (c : ClusterPlace). c.next_serial) (was.here (eqb-true k.0 (q.home).0 same)), ap serial_of was.there)
        by_test false apart = omega (arith, ap (λ (c : ClusterPlace). c.next_serial) (was.elsewhere (λ e. true≢false (sym (eq-eqb k.0 (q.home).0 e) ∙ apart))), ap serial_of was.there)

serial_more : (w : What) (places : Places) (k : ClusterNo) → next_serial_in (placed_after places w) k ≤ next_serial_in places k + length (born w)
serial_more (Birth parent at child end) places k = omega (arith, serial_born places child k (placed_at places parent))
serial_more w places k = omega (arith, serial_kept w refl places k)

numbered_length : (earlier roots : List Root) → length (with_pids earlier roots) ≡ length roots
numbered_length earlier [] = refl
numbered_length earlier (r ∷ roots) = ap suc (numbered_length (earlier ++ r ∷ []) roots)

-- at boot it is one more than the roots at home there
serial_at_boot : (system : System) (k : ClusterNo) → next_serial_in (places_at_boot system) k ≤ 1 + length system.roots
serial_at_boot system k = by_place (slice_get (places_at_boot system).clusters k.0) refl
  where
    roots : List Placed
    roots = map placed_root (roots_of system)

    by_place : (o : Option ClusterPlace) → slice_get (places_at_boot system).clusters k.0 ≡ o → serial_of o ≤ 1 + length system.roots
    by_place None there = omega arith
    by_place (Some c) there =
        let inside : k.0 < length (places_at_boot system).clusters = slice_get_within _ k.0 c there in
        let long : length (places_at_boot system).clusters ≡ system.clusters = length-map-range_with_len (boot_cluster roots) 0 system.clusters in
        let at : slice_get (places_at_boot system).clusters k.0 ≡ Some (boot_cluster roots k.0) =
        slice_get-get_or _ k.0 (boot_cluster roots k.0) inside
        ∙ ap Some (get_or-map-range_with_len (boot_cluster roots) 0 system.clusters k.0 k.0 (boot_cluster roots k.0) (omega (arith, inside, long)) (omega arith)) in
        let serial : 1 + count_by (λ (q : Placed). eqb (q.home).0 k.0) roots ≡ c.next_serial = ap serial_of (sym at ∙ there) in
        let few : count_by (λ (q : Placed). eqb (q.home).0 k.0) roots ≤ length roots = count_by-le-length (λ (q : Placed). eqb (q.home).0 k.0) roots in
        let all : length roots ≡ length system.roots = length-map (roots_of system) placed_root ∙ numbered_length [] system.roots in
        omega (arith, serial, few, all)

placement_none : (system : System) → placement system [] ≡ places_at_boot system
unfolding placement
placement_none system = refl

serial_few : (system : System) (log : List Entry) (k : ClusterNo) → IsLegalBy MayStand system log → next_serial_in (placement system log) k ≤ 1 + length system.roots + length (births_of log)
serial_few system log k =
    legal_induction MayStand system (λ log. next_serial_in (placement system log) k ≤ 1 + length system.roots + length (births_of log)) (omega (arith, serial_at_boot system k, ap (λ places. next_serial_in places k) (placement_none system)))
    (λ log e few may. omega (
      arith,
      few,
      ap (λ places. next_serial_in places k) (placement-snoc system log e),
      serial_more (what e) (placement system log) k,
      ap length (flat_map-append (λ (f : Entry). born (what f)) log (e ∷ [])),
      length-append (births_of log) (born (what e) ++ []),
      ap length (append-nil (born (what e))),
    )) log

-- so the pid of the next child has 32 bits
pub pid_fits : (system : System) (log : List Entry) (k : ClusterNo) → is_system system ≡ true → IsLegalBy MayStand system log → k.0 < 16 → (pid_of k.0 (next_serial_in (placement system log) k)).0 < 2 ^ 32
pid_fits system log k valid legal inside =
    let serial = serial_few system log k legal in
    let births = few_births system log valid (plain_there MayStand (λ system log e may. may.stands) system log legal) in
    omega (arith, serial, births, inside)
