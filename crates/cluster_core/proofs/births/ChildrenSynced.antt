-- What a cluster keeps of children that never synchronised is what the log says: who has synchronised them, who may be cut, and which of them are here.
use Rattle.std.proofs.Common.{◌≡◌, ℕ, refl, sym, ◌∙◌, ap, List, [], ◌∷◌, Bool, cond, not, ◌&&◌, ◌||◌, eqb, Option, Some, None, is_some, true, false, true≢false}
use Rattle.std.specs.Prelude.{find, option_map}
use Rattle.std.specs.List.{list_any}
use Rattle.std.proofs.lemmas.Bool.{and_from, or_left, or_right}
use Rattle.t32_base.specs.declared.process.Pid.{Pid}
use Rattle.t32_base.specs.declared.process.ClusterNo.{ClusterNo}
use Rattle.sys_text.specs.Valid.{is_system}
use Rattle.proc_state.specs.declared.process.Process.{Process}
use Rattle.bus_msg.specs.declared.entry.Entry.{Entry}
use Rattle.bus_msg.specs.declared.placed.Placed.{Placed}
use Rattle.bus_msg.specs.Places.{is_at_home, same_cluster, same_pid, unended_at}
use Rattle.birth_notice.specs.Family.{first_unsynced}
use Rattle.cert_sched.specs.Kinds.{ChildrenSynced}
use Rattle.cert_sched.specs.Legal.{IsLegalBy, Stands, MayStand}
use Rattle.cert_sched.specs.Parts.{rising}
use Rattle.cert_sched.specs.Record.{has_state}
use Rattle.cert_sched.specs.Rules.{home_at}
use Rattle.cert_sched.specs.Schedule.{placement}
use Rattle.cert_sched.proofs.RisingLaws.{rising-any}
use Rattle.log_laws.specs.births.Unsynced.{unsynced_births}
use Rattle.log_laws.proofs.births.FirstChild.{first_has_none, first_kept, none_first}
use Rattle.log_laws.proofs.births.UnsyncedChild.{first_lives_there, stateless}
use Rattle.log_laws.proofs.records.Standing.{all_stand}
use Rattle.sync_point.specs.Batch.{took_by}
use Rattle.sync_point.specs.Due.{is_due_by}
use Rattle.cluster_core.specs.View.{ClusterView, held_at}
use Rattle.residents.specs.Held.{Held, held_of}
use Rattle.residents.specs.Residents.{pids_in}
use Rattle.cluster_core.specs.Follows.{Follows, IsOpen}
use Rattle.cluster_core.proofs.syncs.BeginSync.{MayCut}
use Rattle.cluster_core.proofs.here.Here.{is_among}
use Rattle.cluster_core.proofs.losses.Homes.{HomeHere, pids_apart, home_here, home_more, pids_home}

-- ---- who is here

-- a pid that stands here is held
held_among : (here : List (Pid × Held)) (p : Pid) → list_any (λ n. eqb n p.0) (pids_in here) ≡ true → is_some (held_of here p) ≡ true
held_among [] p any = absurd (true≢false (sym any))
held_among (e ∷ here) p any = by_test (same_pid e.0 p) any (held_among here p)
  where
    by_test : (b : Bool) → (b || list_any (λ n. eqb n p.0) (pids_in here)) ≡ true → (list_any (λ n. eqb n p.0) (pids_in here) ≡ true → is_some (held_of here p) ≡ true)
        → is_some (option_map (λ (e : Pid × Held). e.1) (cond b (Some e) (find (λ (e : Pid × Held). same_pid e.0 p) here))) ≡ true
    by_test true any more = refl
    by_test false any more = more any

-- one that has not ended and is placed at home in a cluster is one of the pids at home there
home_among : (k : ClusterNo) (p : Pid) (q : Placed) (qs : List Placed) → find (λ (q : Placed). same_pid q.pid p && not q.ended) qs ≡ Some q → same_cluster q.home k ≡ true → list_any (λ n. eqb n p.0) (pids_home k qs) ≡ true
home_among k p q [] found home = cc
home_among k p q (r ∷ qs) found home = by_tests (same_pid r.pid p) r.ended refl refl found (λ found. home_among k p q qs found home)
  where
    later : (b : Bool) → list_any (λ n. eqb n p.0) (pids_home k qs) ≡ true → list_any (λ n. eqb n p.0) (cond b ((r.pid).0 ∷ pids_home k qs) (pids_home k qs)) ≡ true
    later true any = or_right (eqb (r.pid).0 p.0) (list_any (λ n. eqb n p.0) (pids_home k qs)) any
    later false any = any

    first : (b : Bool) → b ≡ true → same_pid r.pid p ≡ true → list_any (λ n. eqb n p.0) (cond b ((r.pid).0 ∷ pids_home k qs) (pids_home k qs)) ≡ true
    first true is same = or_left (eqb (r.pid).0 p.0) (list_any (λ n. eqb n p.0) (pids_home k qs)) same
    first false is same = absurd (true≢false (sym is))

    at_home : r.ended ≡ false → r ≡ q → is_at_home k r ≡ true
    at_home lives same = and_from (same_cluster r.home k) (not r.ended) (ap (λ (x : Placed). same_cluster x.home k) same ∙ home) (ap not lives)

    by_tests : (b c : Bool) → same_pid r.pid p ≡ b → r.ended ≡ c → cond (b && not c) (Some r) (find (λ (q : Placed). same_pid q.pid p && not q.ended) qs) ≡ Some q
        → (find (λ (q : Placed). same_pid q.pid p && not q.ended) qs ≡ Some q → list_any (λ n. eqb n p.0) (pids_home k qs) ≡ true) → list_any (λ n. eqb n p.0) (pids_home k (r ∷ qs)) ≡ true
    by_tests true false is lives found more =
        let same : r ≡ q = cc in
        ap (list_any (λ n. eqb n p.0)) (home_more k r qs) ∙ first (is_at_home k r) (at_home lives same) is
    by_tests true true is lives found more = ap (list_any (λ n. eqb n p.0)) (home_more k r qs) ∙ later (is_at_home k r) (more found)
    by_tests false c is lives found more = ap (list_any (λ n. eqb n p.0)) (home_more k r qs) ∙ later (is_at_home k r) (more found)

-- ---- beside a log

module _ (c : ClusterView) (log : List Entry) (f : Follows c.system log c) where
  module _ (valid : is_system c.system ≡ true) (go : IsOpen MayStand c.system log) (p child : Pid) (first : first_unsynced c.family p ≡ Some child) where
    legal : IsLegalBy Stands c.system log
    legal = all_stand c.system log go.0

    first_there : first_unsynced (unsynced_births c.system log) p ≡ Some child
    first_there = ap (λ bs. first_unsynced bs p) (sym f.family) ∙ first

    childs : ChildrenSynced c.system log child
    childs = first_has_none c.system log p child valid legal first_there

    -- and so have those of the one that is
    pub first_childless : first_unsynced c.family child ≡ None
    first_childless = ap (λ bs. first_unsynced bs child) f.family ∙ (none_first c.system log child).1 childs

    -- which may be cut, since it never was
    pub first_may : (process : Process) → MayCut c.system log child process
    first_may process = record {
      children = childs;
      due = or_right (is_due_by process (c.system).syncreads (c.system).syncsteps || is_some (took_by process)) (not (has_state c.system log child)) (ap not (stateless c.system log child valid legal (first_kept c.system log p child first_there)));
    }

    -- it is here where the process is
    pub first_here : (h : Held) → held_at c p ≡ Some h → is_some (held_at c child) ≡ true
    first_here h there = held_among c.here child (by_place (unended_at (placement c.system log) child) refl (sym home_of))
      where
        home : HomeHere (placement c.system log) p c.number
        home = home_here (placement c.system log) c.number (pids_in c.here) p (pids_apart c.system log valid go.0) (f.processes).each_once (is_among c.here p h there)

        home_of : home_at (placement c.system log) child ≡ Some (home.placed).home
        home_of = first_lives_there c.system log p child valid legal first_there ∙ ap (option_map (λ (q : Placed). q.home)) home.found

        placed_here : (ns ms : List ℕ) → rising ns ≡ rising ms → list_any (λ n. eqb n child.0) ms ≡ true → list_any (λ n. eqb n child.0) ns ≡ true
        placed_here ns ms same any = sym (rising-any (λ n. eqb n child.0) ns) ∙ ap (list_any (λ n. eqb n child.0)) same ∙ rising-any (λ n. eqb n child.0) ms ∙ any

        by_place : (o : Option Placed) → unended_at (placement c.system log) child ≡ o → Some (home.placed).home ≡ option_map (λ (q : Placed). q.home) o → list_any (λ n. eqb n child.0) (pids_in c.here) ≡ true
        by_place None at is = cc
        by_place (Some q) at is =
            let same : (home.placed).home ≡ q.home = cc in
            placed_here (pids_in c.here) (pids_home c.number (placement c.system log).placed) (f.processes).each_once
            (home_among c.number child q (placement c.system log).placed at (ap (λ (k : ClusterNo). same_cluster k c.number) (sym same) ∙ home.home))
