-- What a cluster has at boot is what it holds of the empty log.
use Rattle.std.proofs.Common.{◌≡◌, ℕ, ◌+◌, ◌*◌, ◌<◌, Bool, true, false, not, ◌&&◌, cond, eqb, List, [], ◌∷◌, ◌++◌, length, map, refl, sym, ap, subst, ◌∙◌, arith, Some, None, eqb-true, eq-eqb, true≢false, Option, is_some, inl}
use Rattle.std.specs.Prelude.{◌%◌, filter, find, option_map}
use Rattle.std.specs.List.{count_by, list_any}
use Rattle.std.specs.FinMap as finmap
use Rattle.t32_base.specs.declared.process.Pid.{Pid}
use Rattle.t32_base.specs.declared.process.ClusterNo.{ClusterNo}
use Rattle.t32_base.specs.declared.letter.BackRec.{BackRec}
use Rattle.sys_text.specs.declared.system.System.{System}
use Rattle.sys_text.specs.declared.system.Root.{Root}
use Rattle.sys_text.specs.Valid.{is_system}
use Rattle.sys_text.specs.Boot.{roots_of, with_pids}
use Rattle.sys_text.proofs.Bounds.{root_tests, system_bounds, tests}
use Rattle.proc_state.specs.declared.process.Process.{Process}
use Rattle.proc_state.specs.State.{IsFresh, ProcState, state_of, has_ended}
use Rattle.plain_kernel.specs.Kernel.{Kernel, boot, pid_cmp, process_at}
use Rattle.plain_kernel.specs.Maps.{booted_ttys, linked_processes}
use Rattle.plain_kernel.proofs.Entries.{found_fresh, lookup_state}
use Rattle.plain_kernel.proofs.Roots.{booted}
use Rattle.bus_msg.specs.declared.placed.Placed.{Placed}
use Rattle.bus_msg.specs.Places.{same_cluster, same_pid, is_at_home, unended_at}
use Rattle.cert_sched.specs.Parts.{rising}
use Rattle.cert_sched.specs.Rests.{home_pids}
use Rattle.cert_sched.specs.Rules.{has_awaited_backup, has_its_pages}
use Rattle.cert_sched.specs.Moved.{was_moved}
use Rattle.backup_laws.proofs.Given.{waiting_says}
use Rattle.t32_base.proofs.Facts.{and_false}
use Rattle.cluster_core.specs.Owed.{AreOwed, is_owed}
use Rattle.std.specs.Option.{option_map_or}
use Rattle.cert_sched.specs.Told.{told}
use Rattle.cert_sched.specs.Schedule.{next_pid, placed_root, places_at_boot, placement, plain_after, process_after}
use Rattle.cert_sched.specs.Steps.{silent_upto}
use Rattle.cert_sched.proofs.BootPids.{boot_apart, boot_numbers, root_pids, state_pids}
use Rattle.cert_sched.proofs.MailLaws.{boot_arrived}
use Rattle.cert_sched.proofs.RisingLaws.{NoTwo, rising-same}
use Rattle.cert_sched.proofs.RootPids.{HomesFit, homes_fit}
use Rattle.cert_sched.proofs.StepLaws.{process_after-own}
use Rattle.log_laws.specs.records.Kept.{KeepsRecords}
use Rattle.cluster_core.specs.Booting.{AreBooted, belongs_to}
use Rattle.page_server.specs.Account.{PagerState}
use Rattle.cert_sched.specs.Scripted.{is_server}
use Rattle.cluster_core.specs.Serving.{BeginsToServe, IsAheadThere}
use Rattle.cluster_core.proofs.absorbing.Served.{accounts_begin}
use Rattle.cluster_core.specs.Follows.{Follows}
use Rattle.cluster_core.specs.Holds.{IsHeldAs, CarriesMarks, MarkedIfThere, unended_process}
use Rattle.cluster_core.specs.Parts.{AllOwn, IsHeldOwn, IsOwn}
use Rattle.cluster_core.specs.Queue.{Nothing}
use Rattle.residents.specs.Residents.{pids_in}
use Rattle.log_laws.specs.births.Unsynced.{unsynced_births}
use Rattle.cluster_core.specs.View.{ClusterView, held_at, limits_of}
use Rattle.residents.specs.Held.{Held, Runs, held_of, IsHeldWithin}
use Rattle.cluster_core.proofs.here.Here.{is_among}
use Rattle.cluster_core.proofs.boot.Passing.{found_passing, passing, passing_apart, pids_pass, pids_under, process_is}
use Rattle.cluster_core.proofs.absorbing.Telling.{at_once}
use Rattle.checkpoint_laws.proofs.marks.BootMarks.{boot_marks}
use Rattle.checkpoint_laws.proofs.marks.SentPages.{sent_none}
use Rattle.std.proofs.lemmas.List.{length-replicate}
use Rattle.cluster_core.proofs.here.Within.{start_within}
use Rattle.cluster_core.proofs.awaiting.Awaited.{awaited_at_start}

-- ---- the kernel at boot

pub boot_has : (system : System) → (boot system).processes ≡ linked_processes system
boot_has system = ap (λ (k : Kernel). k.processes) (sym (booted system (linked_processes system) (booted_ttys system.roots) refl refl))

-- what is here at boot is a process of the kernel at its start, which runs
pub record IsBooted (system : System) (p : Pid) (h : Held) : Type 0 where
  pub process : Process
  pub at : process_at (boot system) p ≡ Some (state_of process)
  pub fresh : IsFresh process
  pub is : h ≡ Runs process

pub here_booted : (system : System) (number : ClusterNo) (here : List (Pid × Held)) → AreBooted system number here → (p : Pid) (h : Held) → held_of here p ≡ Some h → IsBooted system p h
here_booted system number here is p h there =
    let one = process_is is.all p h (ap (λ l. held_of l p) (sym is.own) ∙ there) in
    let among : finmap.find pid_cmp p (passing (belongs_to number) (linked_processes system)) ≡ Some (state_of one.process) = ap (finmap.find pid_cmp p) (sym is.states) ∙ lookup_state p.0 is.all ∙ ap (option_map state_of) one.found in
    record {
      process = one.process;
      at = ap (finmap.find pid_cmp p) (boot_has system) ∙ found_passing (belongs_to number) (linked_processes system) p (state_of one.process) among;
      fresh = found_fresh is.all p.0 one.process is.fresh one.found;
      is = one.is;
    }

-- no steps lead to a process of the kernel at boot
steps_now : (system : System) (p : Pid) (s : ProcState) → process_at (boot system) p ≡ Some s → silent_upto system [] p (s.small).steps ≡ Some s
unfolding plain_after
steps_now system p s there = at_once system [] p s there

-- ---- each process

-- the pids here are those of the kernel that belong to the cluster
pids_here : (system : System) (number : ClusterNo) (here : List (Pid × Held)) → AreBooted system number here → pids_in here ≡ filter (belongs_to number) (state_pids (linked_processes system))
pids_here system number here is = ap pids_in is.own ∙ pids_under is.all ∙ ap state_pids is.states ∙ pids_pass (belongs_to number) (linked_processes system)

here_apart : (system : System) (number : ClusterNo) (here : List (Pid × Held)) → AreBooted system number here → NoTwo (pids_in here)
here_apart system number here is = subst NoTwo (sym (pids_here system number here is)) (passing_apart (belongs_to number) (state_pids (linked_processes system)) (subst (λ ps. NoTwo (state_pids ps)) (boot_has system) (boot_apart system)))

-- what holds of each process by its pid holds of all, where no pid stands twice
all_own : (cursor : ℕ) (rs : List (Pid × Held)) → NoTwo (pids_in rs) → ((p : Pid) (h : Held) → held_of rs p ≡ Some h → IsHeldOwn cursor p h) → AllOwn cursor rs
all_own cursor [] two each = tt
all_own cursor (e ∷ rs) two each = (
  each e.0 e.1 (ap (λ b. option_map (λ (x : Pid × Held). x.1) (cond b (Some e) (find (λ (x : Pid × Held). same_pid x.0 e.0) rs))) (eq-eqb (e.0).0 (e.0).0 refl)),
  all_own cursor rs two.1 (λ p q there. each p q (beside p q there (same_pid e.0 p) refl)),
)
  where
    beside : (p : Pid) (h : Held) → held_of rs p ≡ Some h → (b : Bool) → same_pid e.0 p ≡ b → held_of (e ∷ rs) p ≡ Some h
    beside p q there true is = absurd (true≢false (sym (ap (λ n. list_any (λ m. eqb m n) (pids_in rs)) (eqb-true (e.0).0 p.0 is) ∙ is_among rs p q there) ∙ two.0))
    beside p q there false is = ap (λ b. option_map (λ (x : Pid × Held). x.1) (cond b (Some e) (find (λ (x : Pid × Held). same_pid x.0 p) rs))) is ∙ there

-- each process that is here at boot is its own
pub boot_own : (system : System) (number : ClusterNo) (here : List (Pid × Held)) → AreBooted system number here → AllOwn 0 here
unfolding plain_after
boot_own system number here is = all_own 0 here (here_apart system number here is) each
  where
    own : (p : Pid) (q : Process) → process_at (boot system) p ≡ Some (state_of q) → IsOwn 0 p q
    own p q at =
        let none = boot_arrived system p (state_of q) at in
        record {
          pid_is = process_after-own system [] p (state_of q) at;
          arrived = omega (arith, none);
        }

    each : (p : Pid) (h : Held) → held_of here p ≡ Some h → IsHeldOwn 0 p h
    each p h there =
        let one = here_booted system number here is p h there in
        subst (λ (h : Held). IsHeldOwn 0 p h) (sym one.is) (own p one.process one.at)

-- ---- the pids at home

home_of : (home serial : ℕ) → home < 16 → (home + 16 * serial) % 16 ≡ home
home_of home serial below = omega arith

-- a pid belongs to the home of its root
pass_at_home : (number : ClusterNo) (earlier roots : List Root) → HomesFit roots
    → filter (belongs_to number) (root_pids (with_pids earlier roots)) ≡ map (λ (q : Placed). (q.pid).0) (filter (is_at_home number) (map placed_root (with_pids earlier roots)))
pass_at_home number earlier [] fit = refl
pass_at_home number earlier (r ∷ roots) fit =
    by_test (eqb (r.home).0 number.0) (belongs_to number (next_pid earlier r).0) (filter (belongs_to number) (root_pids (with_pids (earlier ++ r ∷ []) roots)))
    (filter (is_at_home number) (map placed_root (with_pids (earlier ++ r ∷ []) roots))) (ap (λ n. eqb n number.0) (home_of (r.home).0 (1 + count_by (λ (q : Root). eqb (q.home).0 (r.home).0) earlier) fit.0)) (pass_at_home number (earlier ++ r ∷ []) roots fit.1)
  where
    by_test : (b c : Bool) (ns : List ℕ) (qs : List Placed) → c ≡ b → ns ≡ map (λ (q : Placed). (q.pid).0) qs
        → cond c ((next_pid earlier r).0 ∷ ns) ns ≡ map (λ (q : Placed). (q.pid).0) (cond (b && true) (placed_root (next_pid earlier r, r) ∷ qs) qs)
    by_test true true ns qs same more = ap (λ ns. (next_pid earlier r).0 ∷ ns) more
    by_test false false ns qs same more = more
    by_test true false ns qs same more = absurd (true≢false (sym same))
    by_test false true ns qs same more = absurd (true≢false same)

homes_of : (system : System) → is_system system ≡ true → HomesFit system.roots
homes_of system valid =
    let b = system_bounds system valid in
    let t = root_tests system.clusters (length system.images) system.roots (tests system valid).roots in
    homes_fit system b.clusters system.roots t.each

-- each process at home is here once
once : (system : System) (number : ClusterNo) (here : List (Pid × Held)) → is_system system ≡ true → AreBooted system number here → rising (pids_in here) ≡ rising (home_pids system [] number)
unfolding placement
once system number here valid is =
    ap rising (pids_here system number here is)
    ∙ rising-same (belongs_to number) (state_pids (linked_processes system)) (root_pids (roots_of system)) (ap (λ ps. rising (state_pids ps)) (sym (boot_has system)) ∙ boot_numbers system valid)
    ∙ ap rising (pass_at_home number [] system.roots (homes_of system valid))

-- ---- the cluster

-- a cluster at boot
abbrev pub boot_view : System → ClusterNo → List (Pid × Held) → List BackRec → Option PagerState → Option ℕ → ClusterView
boot_view system number here recs server failed = record {
  system = system;
  number = number;
  cursor = 0;
  places = places_at_boot system;
  here = here;
  records = recs;
  family = [];
  owed = [];
  server = server;
  queue = [];
  tried = false;
  steps = 0;
  failed = failed;
}

pub placed_at_boot : (system : System) → places_at_boot system ≡ placement system []
unfolding placement
placed_at_boot system = refl

held_as : (system : System) (number : ClusterNo) (here : List (Pid × Held)) → AreBooted system number here → (p : Pid) (h : Held) → held_at (boot_view system number here [] None None) p ≡ Some h → IsHeldAs system [] [] p h
held_as system number here is p h at =
    let one = here_booted system number here is p h at in
    subst (λ (h : Held). IsHeldAs system [] [] p h) (sym one.is) (steps_now system p (state_of one.process) one.at)

-- no crash has moved a process
pages_at_boot : (system : System) (p : Pid) → has_its_pages system [] p ≡ true
unfolding told
pages_at_boot system p = refl

in_kernel : (system : System) (p : Pid) (s : ProcState) → process_at (boot system) p ≡ Some s → process_after system [] p ≡ Some s
unfolding plain_after
in_kernel system p s there = there

-- each process has the marks of its start
marks_at_boot : (system : System) (number : ClusterNo) (here : List (Pid × Held)) → AreBooted system number here → is_system system ≡ true → (p : Pid) (h : Held) → held_of here p ≡ Some h → MarkedIfThere CarriesMarks system [] p (unended_process h)
marks_at_boot system number here is valid p h at =
    let one = here_booted system number here is p h at in
    subst (λ (h : Held). MarkedIfThere CarriesMarks system [] p (unended_process h)) (sym one.is) (by_status one.process one.at one.fresh (has_ended ((one.process).small).status))
  where
    by_status : (s : Process) → process_at (boot system) p ≡ Some (state_of s) → IsFresh s → (b : Bool) → MarkedIfThere CarriesMarks system [] p (cond b None (Some s))
    by_status s there fresh true = tt
    by_status s there fresh false = record {
      marked = boot_marks system p s (s.small).pages valid (in_kernel system p (state_of s) there) fresh.unread (fresh.synced ∙ sym fresh.steps) fresh.clean;
      pages = sym (ap length fresh.clean ∙ length-replicate (s.small).pages false);
      sent = sent_none system p (s.small).steps;
    }

-- and is within its limits
limits_at_boot : (system : System) (number : ClusterNo) (here : List (Pid × Held)) → AreBooted system number here → (p : Pid) (h : Held) → held_of here p ≡ Some h → IsHeldWithin (limits_of system) h
limits_at_boot system number here is p h at =
    let one = here_booted system number here is p h at in
    let fresh = one.fresh in
    subst (IsHeldWithin (limits_of system)) (sym one.is) (start_within (limits_of system) one.process fresh.unread (fresh.synced ∙ sym fresh.steps))

-- no child yet
none_yet : (system : System) → [] ≡ unsynced_births system []
none_yet system = refl

none_moved : (system : System) (p : Pid) → was_moved system [] p ≡ false
unfolding told
none_moved system p = refl

-- and nobody waits for a new backup
none_waits : (system : System) (number : ClusterNo) → AreOwed system [] number []
none_waits system number p = sym (by_wait (has_awaited_backup system [] p) refl)
  where
    at_home : Bool
    at_home = option_map_or (λ (q : Placed). same_cluster q.home number) (unended_at (placement system []) p) false

    by_wait : (b : Bool) → has_awaited_backup system [] p ≡ b → is_owed system [] number p ≡ false
    by_wait true has = ap (λ b. at_home && not b) has ∙ and_false at_home
    by_wait false waits = absurd (true≢false (sym (waiting_says system [] p waits).moved ∙ none_moved system p))

-- a cluster at boot follows the empty log, where no call of its disk failed
pub boot_follows : (system : System) (number : ClusterNo) (here : List (Pid × Held)) (recs : List BackRec) (server : Option PagerState) (failed : Option ℕ) → is_system system ≡ true → AreBooted system number here → KeepsRecords system [] number recs
    → is_some server ≡ is_server system number → BeginsToServe system server → (failed ≡ None) × IsAheadThere server → Follows system [] (boot_view system number here recs server failed)
boot_follows system number here recs server failed valid is kept there begins sound = record {
  log = record { cursor = refl; places = placed_at_boot system };
  processes = record { held = held_as system number here is; each_once = once system number here valid is };
  queue = record { own = refl; legal = tt };
  queued = inl (record { queued = Nothing; posts = refl; together = tt });
  steps = record { counted = λ lost. omega arith };
  limits = limits_at_boot system number here is;
  pages = λ p h at some. pages_at_boot system p;
  marks = marks_at_boot system number here is valid;
  records = kept;
  family = none_yet system;
  owed = none_waits system number;
  backups = λ p h at begun. awaited_at_start system p;
  forks = λ parent child q h at_parent at_child born. absurd (true≢false (sym born));
  accounts = accounts_begin system (boot_view system number here recs server failed) refl there begins;
  disk = sound;
}
