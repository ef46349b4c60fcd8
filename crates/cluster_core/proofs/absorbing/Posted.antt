-- A post of a cluster, and the process that it tells of.
use Rattle.std.proofs.Common.{◌≡◌, sym, ◌∙◌, ap, List, [], ◌∷◌, Bool, true, false, cond, eqb-true, Option, Some, None, true≢false, refl}
use Rattle.std.specs.Prelude.{find, option_map}
use Rattle.std.specs.Option.{option_map_or}
use Rattle.t32_base.specs.declared.process.Pid.{Pid}
use Rattle.t32_base.specs.declared.process.ClusterNo.{ClusterNo}
use Rattle.bus_msg.specs.declared.entry.What.{What}
use Rattle.bus_msg.specs.declared.entry.By.{By}
use Rattle.bus_msg.specs.declared.entry.By.TheVariants.{Cluster, Bus}
use Rattle.bus_msg.specs.declared.entry.Post.{Post}
use Rattle.bus_msg.specs.Places.{Places, same_pid}
use Rattle.cert_sched.specs.Losses.{is_from}
use Rattle.cert_sched.specs.Rules.{is_bus, is_by_right, tells_or_closes}
use Rattle.cert_sched.specs.Scripted.{closes}
use Rattle.cert_sched.specs.Steps.{process_of}
use Rattle.cluster_core.specs.Queue.{is_move_of, move_of, tells_steps}
use Rattle.cluster_core.proofs.absorbing.ByKind.{by_kind}
use Rattle.residents.proofs.Changing.{pid_same}

-- the post of a queue that moves a process tells of it
pub moves_it : (p : Pid) (queue : List Post) (w : What) → move_of p queue ≡ Some w → process_of w ≡ Some p
moves_it p [] w h = cc
moves_it p (post ∷ rest) w h = by_test (is_move_of p post) refl h (moves_it p rest w)
  where
    of_process : (o : Option Pid) → option_map_or (λ q. same_pid q p) o false ≡ true → o ≡ Some p
    of_process None h = absurd (true≢false (sym h))
    of_process (Some q) h = ap Some (pid_same q p (eqb-true q.0 p.0 h))

    of_post : (b : Bool) → cond b (option_map_or (λ q. same_pid q p) (process_of post.what) false) false ≡ true → process_of post.what ≡ Some p
    of_post true h = of_process (process_of post.what) h
    of_post false h = absurd (true≢false (sym h))

    by_test : (b : Bool) → is_move_of p post ≡ b → option_map (λ (post : Post). post.what) (cond b (Some post) (find (is_move_of p) rest)) ≡ Some w → (move_of p rest ≡ Some w → process_of w ≡ Some p) → process_of w ≡ Some p
    by_test true is h more = let same : post.what ≡ w = cc in ap process_of (sym same) ∙ of_post (tells_steps post.what) is
    by_test false is h more = more h

-- no cluster is the bus
not_bus : (k : ClusterNo) (by : By) → is_from k by ≡ true → is_bus by ≡ true → ⊥
not_bus k (Cluster j) from bus = true≢false (sym bus)
not_bus k Bus from bus = true≢false (sym from)

-- what a post of a cluster tells, which is never the end and never a stop
pub no_end : (k : ClusterNo) (places : Places) (by : By) (w : What) → tells_or_closes w ≡ true → is_from k by ≡ true → is_by_right places by w ≡ true → closes w ≡ false
no_end k places by =
    by_kind (λ w. is_from k by ≡ true → is_by_right places by w ≡ true → closes w ≡ false)
    (λ at letter from right. refl) (λ pid at end from right. refl) (λ rests from right. absurd (not_bus k by from right)) (λ from right. absurd (not_bus k by from right))
