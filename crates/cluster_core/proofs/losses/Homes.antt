-- The processes at home in a cluster.
use Rattle.std.proofs.Common.{◌≡◌, ℕ, refl, sym, ◌∙◌, ap, List, [], ◌∷◌, map, Bool, true, false, cond, not, ◌&&◌, ◌||◌, eqb, eqb-true, Option, Some, true≢false}
use Rattle.std.specs.Prelude.{filter, find}
use Rattle.std.specs.List.{list_any}
use Rattle.std.proofs.lemmas.Bool.{and_parts}
use Rattle.t32_base.specs.declared.process.Pid.{Pid}
use Rattle.t32_base.specs.declared.process.ClusterNo.{ClusterNo}
use Rattle.bus_msg.specs.declared.placed.Placed.{Placed}
use Rattle.bus_msg.specs.Places.{Places, lives_in, same_pid, same_cluster, is_at_home, unended_at}
use Rattle.bus_msg.specs.PlacedAfter.{after_exit}
use Rattle.channel_table.specs.Changes.{pids_differ}
use Rattle.cert_sched.specs.Parts.{rising}
use Rattle.sys_text.specs.declared.system.System.{System}
use Rattle.sys_text.specs.Valid.{is_system}
use Rattle.bus_msg.specs.declared.entry.Entry.{Entry}
use Rattle.cert_sched.specs.Legal.{MayStand}
use Rattle.cert_sched.specs.Legal.{IsLegalBy}
use Rattle.cert_sched.specs.Rules.{is_over}
use Rattle.cert_sched.specs.Schedule.{placement}
use Rattle.cert_sched.proofs.LiveLaws.{homes_live}
use Rattle.cert_sched.proofs.PidLaws.{placed_pids}
use Rattle.cert_sched.proofs.RisingLaws.{NoTwo, rising-any}
use Rattle.cert_sched.proofs.RollLaws.{all_roll, two_apart}

-- ---- the pids at home

abbrev pub pids_home : ClusterNo → List Placed → List ℕ
pids_home k qs = map (λ (q : Placed). (q.pid).0) (filter (is_at_home k) qs)

-- one more process
pub home_more : (k : ClusterNo) (q : Placed) (qs : List Placed) → pids_home k (q ∷ qs) ≡ cond (is_at_home k q) ((q.pid).0 ∷ pids_home k qs) (pids_home k qs)
home_more k q qs = by_test (is_at_home k q)
  where
    by_test : (b : Bool) → map (λ (q : Placed). (q.pid).0) (cond b (q ∷ filter (is_at_home k) qs) (filter (is_at_home k) qs)) ≡ cond b ((q.pid).0 ∷ pids_home k qs) (pids_home k qs)
    by_test true = refl
    by_test false = refl

-- a pid at home is one of those that are placed
among : (k : ClusterNo) (qs : List Placed) (r : Pid) → list_any (λ n. eqb n r.0) (pids_home k qs) ≡ true → list_any (λ (q : Placed). same_pid q.pid r) qs ≡ true
among k [] r h = absurd (true≢false (sym h))
among k (q ∷ qs) r h = by_test (is_at_home k q) (same_pid q.pid r) refl (sym (ap (list_any (λ n. eqb n r.0)) (home_more k q qs)) ∙ h) (among k qs r)
  where
    by_test : (b c : Bool) → same_pid q.pid r ≡ c → list_any (λ n. eqb n r.0) (cond b ((q.pid).0 ∷ pids_home k qs) (pids_home k qs)) ≡ true
        → (list_any (λ n. eqb n r.0) (pids_home k qs) ≡ true → list_any (λ (q : Placed). same_pid q.pid r) qs ≡ true) → (c || list_any (λ (q : Placed). same_pid q.pid r) qs) ≡ true
    by_test b true is e more = refl
    by_test true false is e more = more (sym (ap (λ c. c || list_any (λ n. eqb n r.0) (pids_home k qs)) is) ∙ e)
    by_test false false is e more = more e

-- where a process is placed that is at home in a cluster
pub record HomeHere (places : Places) (p : Pid) (k : ClusterNo) : Type 0 where
  pub placed : Placed
  pub found : unended_at places p ≡ Some placed
  pub home : same_cluster placed.home k ≡ true

abbrev pub FoundAt : List Placed → Pid → ClusterNo → Type 0
FoundAt qs p k = (q : Placed) × (find (λ (q : Placed). same_pid q.pid p && not q.ended) qs ≡ Some q) × (same_cluster q.home k ≡ true)

-- a process with a pid at home is found there, since no other has its pid
found_here : (k : ClusterNo) (qs : List Placed) (p : Pid) → pids_differ qs ≡ true → list_any (λ n. eqb n p.0) (pids_home k qs) ≡ true → FoundAt qs p k
found_here k [] p differ h = absurd (true≢false (sym h))
found_here k (q ∷ qs) p differ h = by_home (is_at_home k q) (same_pid q.pid p) refl refl (sym (ap (list_any (λ n. eqb n p.0)) (home_more k q qs)) ∙ h) (found_here k qs p parts.1)
  where
    parts : (not (list_any (λ (r : Placed). same_pid r.pid q.pid) qs) ≡ true) × (pids_differ qs ≡ true)
    parts = and_parts (not (list_any (λ (r : Placed). same_pid r.pid q.pid) qs)) (pids_differ qs) differ

    unlike : (b : Bool) → b ≡ false → (f : Option Placed) → cond (b && not q.ended) (Some q) f ≡ f
    unlike true e f = absurd (true≢false e)
    unlike false e f = refl

    alike : (b c : Bool) → b ≡ true → c ≡ true → (f : Option Placed) → cond (b && c) (Some q) f ≡ Some q
    alike true true e g f = refl
    alike true false e g f = absurd (true≢false (sym g))
    alike false c e g f = absurd (true≢false (sym e))

    later : same_pid q.pid p ≡ false → FoundAt qs p k → FoundAt (q ∷ qs) p k
    later is rest = (rest.0, unlike (same_pid q.pid p) is _ ∙ rest.1, rest.2)

    by_home : (b c : Bool) → is_at_home k q ≡ b → same_pid q.pid p ≡ c → list_any (λ n. eqb n p.0) (cond b ((q.pid).0 ∷ pids_home k qs) (pids_home k qs)) ≡ true
        → (list_any (λ n. eqb n p.0) (pids_home k qs) ≡ true → FoundAt qs p k) → FoundAt (q ∷ qs) p k
    by_home true true at is e more =
        let halves = and_parts (same_cluster q.home k) (not q.ended) at in
        (q, alike (same_pid q.pid p) (not q.ended) is halves.1 _, halves.0)
    by_home true false at is e more = later is (more (sym (ap (λ c. c || list_any (λ n. eqb n p.0) (pids_home k qs)) is) ∙ e))
    by_home false false at is e more = later is (more e)
    by_home false true at is e more =
        let twice : list_any (λ (r : Placed). same_pid r.pid q.pid) qs ≡ true = among k qs q.pid (ap (λ n. list_any (λ m. eqb m n) (pids_home k qs)) (eqb-true (q.pid).0 p.0 is) ∙ e) in
        absurd (true≢false (sym parts.0 ∙ ap not twice))

-- where the pids here are those at home, each process that is here is found at home
pub home_here : (places : Places) (k : ClusterNo) (ns : List ℕ) (p : Pid) → pids_differ places.placed ≡ true → rising ns ≡ rising (pids_home k places.placed) → list_any (λ n. eqb n p.0) ns ≡ true → HomeHere places p k
home_here places k ns p differ same here =
    let at_home : list_any (λ n. eqb n p.0) (pids_home k places.placed) ≡ true =
    sym (rising-any (λ n. eqb n p.0) (pids_home k places.placed)) ∙ ap (list_any (λ n. eqb n p.0)) (sym same) ∙ rising-any (λ n. eqb n p.0) ns ∙ here in
    let f = found_here k places.placed p differ at_home in
    record { placed = f.0; found = f.1; home = f.2 }

-- ---- that no pid stands twice

pub differ_of : (qs : List Placed) → NoTwo (placed_pids qs) → pids_differ qs ≡ true
differ_of [] two = refl
differ_of (q ∷ qs) two = λ i. not ((any_placed qs ∙ two.0) i) && differ_of qs two.1 i
  where
    any_placed : (rs : List Placed) → list_any (λ (r : Placed). same_pid r.pid q.pid) rs ≡ list_any (λ m. eqb m (q.pid).0) (placed_pids rs)
    any_placed [] = refl
    any_placed (r ∷ rs) = ap (λ b. same_pid r.pid q.pid || b) (any_placed rs)

-- so it is in each log that may stand
pub pids_apart : (system : System) (log : List Entry) → is_system system ≡ true → IsLegalBy MayStand system log → pids_differ (placement system log).placed ≡ true
pids_apart system log valid legal = differ_of (placement system log).placed (two_apart system log (all_roll MayStand (λ system log e may. may.stands) system log valid legal))

-- ---- who is at home lives

-- a cluster lives in which a process is at home, while the log goes on
pub home_lives : (system : System) (log : List Entry) (p : Pid) (k : ClusterNo) → is_system system ≡ true → IsLegalBy MayStand system log → is_over system log ≡ false → HomeHere (placement system log) p k → lives_in (placement system log) k ≡ true
home_lives system log p k valid legal goes_on here =
    let same : (here.placed).home ≡ k = λ i. record { 0 = eqb-true ((here.placed).home).0 k.0 here.home i } in
    ap (lives_in (placement system log)) (sym same) ∙ homes_live MayStand (λ system log e may. may.stands) system log valid legal goes_on p here.placed here.found

-- ---- an exit

-- one process: it is at home no more where it is the one that exits
abbrev home_one : ClusterNo → Bool → Placed → List ℕ → List ℕ
home_one k b q rest = cond (is_at_home k (cond b (record q { ended = true }) q)) (((cond b (record q { ended = true }) q).pid).0 ∷ rest) rest

abbrev pub without : ℕ → List ℕ → List ℕ
without n ns = filter (λ m. not (eqb m n)) ns

gone : (k : ClusterNo) (q : Placed) (rest : List ℕ) → home_one k true q rest ≡ rest
gone k q rest = by_test (same_cluster q.home k)
  where
    by_test : (b : Bool) → cond (b && false) ((q.pid).0 ∷ rest) rest ≡ rest
    by_test true = refl
    by_test false = refl

dropped : (n m : ℕ) (ns : List ℕ) → eqb m n ≡ true → without n (m ∷ ns) ≡ without n ns
dropped n m ns is = ap (λ b. cond (not b) (m ∷ without n ns) (without n ns)) is

stays : (n m : ℕ) (ns : List ℕ) → eqb m n ≡ false → without n (m ∷ ns) ≡ m ∷ without n ns
stays n m ns is = ap (λ b. cond (not b) (m ∷ without n ns) (without n ns)) is

one_exit : (k : ClusterNo) (p : Pid) (q : Placed) (rest : List ℕ) (b c : Bool) → same_pid q.pid p ≡ b → is_at_home k q ≡ c → home_one k b q (without p.0 rest) ≡ without p.0 (cond c ((q.pid).0 ∷ rest) rest)
one_exit k p q rest true true is at = gone k q (without p.0 rest) ∙ sym (dropped p.0 (q.pid).0 rest is)
one_exit k p q rest true false is at = gone k q (without p.0 rest)
one_exit k p q rest false true is at = ap (λ d. cond d ((q.pid).0 ∷ without p.0 rest) (without p.0 rest)) at ∙ sym (stays p.0 (q.pid).0 rest is)
one_exit k p q rest false false is at = ap (λ d. cond d ((q.pid).0 ∷ without p.0 rest) (without p.0 rest)) at

-- the pids at home after the exit of a process
pub home_exit : (k : ClusterNo) (p : Pid) (qs : List Placed) → pids_home k (map (after_exit p) qs) ≡ without p.0 (pids_home k qs)
home_exit k p [] = refl
home_exit k p (q ∷ qs) =
    home_more k (after_exit p q) (map (after_exit p) qs)
    ∙ ap (home_one k (same_pid q.pid p) q) (home_exit k p qs)
    ∙ one_exit k p q (pids_home k qs) (same_pid q.pid p) (is_at_home k q) refl refl
    ∙ ap (without p.0) (sym (home_more k q qs))
