-- A turn that ends before a fork: with the birth of the child queued a cluster goes on to follow each log that it followed.
use Rattle.std.proofs.Common.{◌≡◌, ℕ, ◌∙◌, ap, sym, [], ◌∷◌, true, Some, eqb-true}
use Rattle.std.specs.Prelude.{option_map}
use Rattle.t32_base.specs.declared.process.Pid.{Pid}
use Rattle.t32_base.specs.declared.process.ClusterNo.{ClusterNo}
use Rattle.sys_text.specs.Valid.{is_system}
use Rattle.sys_text.specs.Boot.{pid_of}
use Rattle.proc_state.specs.State.{state_of}
use Rattle.bus_msg.specs.Places.{Places, next_serial_in, unended_at}
use Rattle.cert_sched.specs.Kinds.{next_child_at}
use Rattle.cert_sched.specs.Schedule.{placement}
use Rattle.residents.specs.declared.quantum.Forking.{Forking}
use Rattle.cluster_core.specs.View.{ClusterView, held_at, limits_of, next_count}
use Rattle.residents.specs.Held.{Held, Runs}
use Rattle.residents.specs.Residents.{pids_in}
use Rattle.residents.specs.Changed.{with_changed}
use Rattle.cluster_core.specs.Bearing.{birth_post}
use Rattle.cluster_core.specs.Work.{child_of}
use Rattle.cluster_core.specs.Calls.{GoesOn}
use Rattle.residents.specs.Quantum.{ComesToFork}
use Rattle.cluster_core.proofs.births.BeginBirth.{bearing, birth_begins, birth_beside}
use Rattle.cluster_core.proofs.births.BirthQueued.{with_birth}
use Rattle.cluster_core.proofs.here.Here.{is_among}
use Rattle.cluster_core.proofs.losses.Homes.{HomeHere, pids_apart, home_here}

-- the next child of a process that is at home in a cluster is the cluster's next
next_here : (places : Places) (p : Pid) (k : ClusterNo) → HomeHere places p k → option_map (next_child_at places) (unended_at places p) ≡ Some (child_of k places)
next_here places p k here =
    let home : (here.placed).home ≡ k = λ i. record { 0 = eqb-true ((here.placed).home).0 k.0 here.home i } in
    ap (option_map (next_child_at places)) here.found ∙ ap (λ (h : ClusterNo). Some (pid_of h.0 (next_serial_in places h))) home

pub birth_goes_on : (c : ClusterView) (p : Pid) (made : ℕ) (was : Held) (forking : Forking) (new : Held) (k : ComesToFork (limits_of c.system) 64 made was forking new) → is_system c.system ≡ true → c.queue ≡ [] → held_at c p ≡ Some was
    → GoesOn c (record c { here = with_changed p (Runs k.now) c.here; queue = birth_post c.number p (state_of k.now) (child_of c.number c.places) ∷ []; steps = next_count c.steps })
birth_goes_on c p made was forking new k valid empty there log go f =
    let child = child_of c.number c.places in
    let home = home_here (placement c.system log) c.number (pids_in c.here) p (pids_apart c.system log valid go.0) (f.processes).each_once (is_among c.here p was there) in
    let next = next_here (placement c.system log) p c.number home ∙ ap (λ (ps : Places). Some (child_of c.number ps)) (sym (f.log).places) in
    with_birth c.system log (bearing c p made was forking new k child valid empty there log go f) (birth_begins c p made was forking new k child valid empty there log go f next) valid go
    (birth_beside c p made was forking new k child valid empty there log go f)
