-- The pids of the roots of a system, no two of which are equal.
use Rattle.std.proofs.Common.{◌≡◌, ℕ, suc, ◌+◌, ◌*◌, ◌<◌, ◌≤◌, Bool, true, false, not, ◌&&◌, ◌||◌, cond, eqb, List, [], ◌∷◌, ◌++◌, length, take, map, get_or, refl, sym, ap, ◌∙◌, arith, append_assoc, append-nil, eq-eqb, ne_eqb}
use Rattle.std.specs.Prelude.{◌≢◌}
use Rattle.std.specs.List.{count_by, list_any, list_all}
use Rattle.std.proofs.lemmas.List.{take_more, map-append, length-map}
use Rattle.std.proofs.lemmas.List.Sums.{sum_by_push}
use Rattle.t32_base.specs.declared.process.Pid.{Pid}
use Rattle.sys_text.specs.declared.system.System.{System}
use Rattle.sys_text.specs.declared.system.Root.{Root}
use Rattle.sys_text.specs.Valid.{is_system, is_root}
use Rattle.sys_text.specs.Boot.{pid_of, with_pids, roots_of}
use Rattle.sys_text.proofs.Bounds.{first_of_two, second_of_two, root_fits, root_tests, system_bounds, tests}
use Rattle.bus_msg.specs.declared.placed.Placed.{Placed}
use Rattle.bus_msg.specs.Places.{same_pid}
use Rattle.channel_table.specs.Changes.{pids_differ}
use Rattle.cert_sched.specs.Schedule.{placed_root, next_pid}

abbrev pub has_home : ℕ → Root → Bool
has_home home q = eqb (q.home).0 home

-- ---- homes

-- each home is below 16
abbrev pub HomesFit : List Root → Type 0
HomesFit [] = Unit {0}
HomesFit (r ∷ roots) = ((r.home).0 < 16) × HomesFit roots

pub homes_fit : (s : System) → s.clusters ≤ 16 → (roots : List Root) → list_all (is_root s.clusters (length s.images)) roots ≡ true → HomesFit roots
homes_fit s few [] all = tt
homes_fit s few (r ∷ roots) all =
    let b = root_fits s r few (first_of_two _ (list_all (is_root s.clusters (length s.images)) roots) all) in
    (omega (arith, b.home), homes_fit s few roots (second_of_two (is_root s.clusters (length s.images) r) _ all))

-- ---- pids

-- two pids of one number have one home and one serial
pub same_parts : (h k m n : ℕ) → h < 16 → k < 16 → h + 16 * m ≡ k + 16 * n → (h ≡ k) × (m ≡ n)
same_parts h k m n p q e = (omega arith, omega arith)

more_of : (home : ℕ) (earlier : List Root) (r : Root) → count_by (has_home home) (earlier ++ r ∷ []) ≡ count_by (has_home home) earlier + cond (has_home home r) 1 0
more_of home earlier r = sum_by_push (λ (q : Root). cond (has_home home q) 1 0) earlier r

not_less : (home : ℕ) (earlier : List Root) (r : Root) → count_by (has_home home) earlier ≤ count_by (has_home home) (earlier ++ r ∷ [])
not_less home earlier r = omega (arith, more_of home earlier r)

one_more : (earlier : List Root) (r : Root) → count_by (has_home (r.home).0) (earlier ++ r ∷ []) ≡ count_by (has_home (r.home).0) earlier + 1
one_more earlier r = more_of (r.home).0 earlier r ∙ ap (λ b. count_by (has_home (r.home).0) earlier + cond b 1 0) (eq-eqb (r.home).0 (r.home).0 refl)

-- a pid whose serial is not above the count of the earlier roots with its home is none of a later root
pub later_apart : (home serial : ℕ) (earlier roots : List Root) → home < 16 → HomesFit roots → serial ≤ count_by (has_home home) earlier
    → list_any (λ (p : Placed). same_pid p.pid (pid_of home serial)) (map placed_root (with_pids earlier roots)) ≡ false
later_apart home serial earlier [] below fit past = refl
later_apart home serial earlier (r ∷ roots) below fit past =
    let apart : (r.home).0 + 16 * (1 + count_by (has_home (r.home).0) earlier) ≢ home + 16 * serial = λ e.
    let parts = same_parts (r.home).0 home (1 + count_by (has_home (r.home).0) earlier) serial fit.0 below e in
    omega (arith, parts.1, ap (λ h. count_by (has_home h) earlier) parts.0) in
    ap (λ b. b || list_any (λ (p : Placed). same_pid p.pid (pid_of home serial)) (map placed_root (with_pids (earlier ++ r ∷ []) roots))) (ne_eqb _ _ apart)
    ∙ later_apart home serial (earlier ++ r ∷ []) roots below fit.1 (omega (arith, not_less home earlier r))

differ_from : (earlier roots : List Root) → HomesFit roots → pids_differ (map placed_root (with_pids earlier roots)) ≡ true
differ_from earlier [] fit = refl
differ_from earlier (r ∷ roots) fit =
    let apart = later_apart (r.home).0 (1 + count_by (has_home (r.home).0) earlier) (earlier ++ r ∷ []) roots fit.0 fit.1 (omega (arith, one_more earlier r)) in
    let rest = differ_from (earlier ++ r ∷ []) roots fit.1 in
    λ i. not (apart i) && rest i

-- no two roots of a system have one pid
pub root_pids_differ : (system : System) → is_system system ≡ true → pids_differ (map placed_root (roots_of system)) ≡ true
root_pids_differ system valid =
    let b = system_bounds system valid in
    let t = root_tests system.clusters (length system.images) system.roots (tests system valid).roots in
    differ_from [] system.roots (homes_fit system b.clusters system.roots t.each)

-- ---- one root more

pub pids-snoc : (earlier roots : List Root) (r : Root) → with_pids earlier (roots ++ r ∷ []) ≡ with_pids earlier roots ++ (next_pid (earlier ++ roots) r, r) ∷ []
pids-snoc earlier [] r = rw (append-nil earlier) refl
pids-snoc earlier (q ∷ roots) r =
    ap (λ rest. (next_pid earlier q, q) ∷ rest)
    (pids-snoc (earlier ++ q ∷ []) roots r ∙ ap (λ l. with_pids (earlier ++ q ∷ []) roots ++ (next_pid l r, r) ∷ []) (append_assoc earlier (q ∷ []) roots))

-- the roots that were placed so far
pub placed_more : (roots : List Root) (n : ℕ) (d root : Root) (pid : Pid) (old new : List Placed) (q : Placed) → n < length roots → root ≡ get_or roots n d → pid ≡ next_pid (take n roots) root
    → old ≡ map placed_root (with_pids [] (take n roots)) → q ≡ placed_root (pid, root) → new ≡ old ++ q ∷ [] → new ≡ map placed_root (with_pids [] (take (n + 1) roots))
placed_more roots n d root pid old new q within is pid_is before q_is pushed =
    let more : with_pids [] (take (n + 1) roots) ≡ with_pids [] (take n roots) ++ (next_pid (take n roots) root, root) ∷ [] =
    ap (with_pids []) (take_more roots n d within ∙ ap (λ r. take n roots ++ r ∷ []) (sym is)) ∙ pids-snoc [] (take n roots) root in
    pushed ∙ ap (λ l. l ++ q ∷ []) before ∙ ap (λ p. map placed_root (with_pids [] (take n roots)) ++ p ∷ []) (q_is ∙ ap (λ p. placed_root (p, root)) pid_is)
    ∙ sym (ap (map placed_root) more ∙ map-append placed_root (with_pids [] (take n roots)) ((next_pid (take n roots) root, root) ∷ []))

pub roots_of-length : (system : System) → length (map placed_root (roots_of system)) ≡ length system.roots
roots_of-length system = length-map (roots_of system) placed_root ∙ as_long [] system.roots
  where
    as_long : (earlier roots : List Root) → length (with_pids earlier roots) ≡ length roots
    as_long earlier [] = refl
    as_long earlier (r ∷ roots) = ap suc (as_long (earlier ++ r ∷ []) roots)
