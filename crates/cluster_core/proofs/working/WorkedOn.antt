-- What a cluster does where it owes no answer and asks for no page: the turn of a process.
use Rattle.std.proofs.Common.{◌≡◌, sym, ◌∙◌, ap, subst, List, Ok, Err, inl, inr, Option}
use Rattle.std.specs.Prelude.{Result}
use Rattle.t32_base.specs.declared.process.ClusterNo.{ClusterNo}
use Rattle.t32_base.specs.declared.process.Pid.{Pid}
use Rattle.t32_base.specs.declared.streams.NoMemory.{NoMemory}
use Rattle.plain_kernel.specs.Maps.{pid_of}
use Rattle.bus_msg.specs.declared.entry.Post.{Post}
use Rattle.bus_msg.specs.Places.{Places}
use Rattle.page_server.specs.Account.{PagerState}
use Rattle.residents.specs.declared.quantum.Quantum.{Quantum}
use Rattle.residents.specs.declared.quantum.Quantum.TheVariants.{Moved as QuantumMoved, Sent, Synced, Renewed, Stuck, Forks}
use Rattle.cluster_core.specs.declared.worked.Worked.{Worked}
use Rattle.cluster_core.specs.declared.worked.Worked.TheVariants.{Moved, Queued, Waits as IsWaiting, Rests}
use Rattle.residents.specs.Residents.{ChosenTurn, HasTurn, ResidentsView, TurnIs, next_ready, none_has_turn, pids_able}
use Rattle.cluster_core.specs.Work.{NoPages, RunsNext, WorksUnowed}
use Rattle.residents.specs.Asking.{any_waits}

module _ (k : ClusterNo) (family : List (Pid × Pid)) (a b new : ResidentsView) (duty : a.duty ≡ b.duty) (here : a.here ≡ b.here) (last : a.last ≡ b.last) where
  chosen_from : (quantum : Quantum) → ChosenTurn k family a quantum new → ChosenTurn k family b quantum new
  chosen_from quantum t = record {
    chosen = (λ i. next_ready (pids_able (sym duty i) family (sym here i)) (sym last i)) ∙ t.chosen;
    takes = subst (λ hs. HasTurn b.duty k family (pid_of new.last) hs quantum new.here) here (subst (λ d. HasTurn d k family (pid_of new.last) a.here quantum new.here) duty t.takes);
  }

  -- a turn is one of the processes that are here, whatever else is kept of them
  turn_from : (r : Result Quantum NoMemory) → TurnIs k family a r new → TurnIs k family b r new
  turn_from (Ok QuantumMoved) t = chosen_from QuantumMoved t
  turn_from (Ok (Sent sending)) t = chosen_from (Sent sending) t
  turn_from (Ok (Synced posts)) t = chosen_from (Synced posts) t
  turn_from (Ok (Renewed posts)) t = chosen_from (Renewed posts) t
  turn_from (Ok (Forks forking)) t = chosen_from (Forks forking) t
  turn_from (Ok Stuck) t = ((λ i. none_has_turn (sym duty i) family (sym here i)) ∙ t.0, t.1 ∙ here, t.2 ∙ last)
  turn_from (Err fault) t = t ∙ here

  next_from : (places : Places) (worked : Worked) (queue : List Post) → RunsNext k places family a worked new queue → RunsNext k places family b worked new queue
  next_from places Moved queue t = (turn_from (Ok QuantumMoved) t.0, t.1)
  next_from places Queued queue (inl t) = inl (t.0, turn_from (Ok (Sent t.0)) t.1, t.2)
  next_from places Queued queue (inr (inl t)) = inr (inl (t.0, turn_from (Ok (Synced t.0)) t.1, t.2))
  next_from places Queued queue (inr (inr (inl t))) = inr (inr (inl (t.0, turn_from (Ok (Forks t.0)) t.1, t.2)))
  next_from places Queued queue (inr (inr (inr t))) = inr (inr (inr (t.0, turn_from (Ok (Renewed t.0)) t.1, t.2)))
  next_from places IsWaiting queue t = (turn_from (Ok Stuck) t.0, ap any_waits (sym here) ∙ t.1, t.2)
  next_from places Rests queue t = (turn_from (Ok Stuck) t.0, ap any_waits (sym here) ∙ t.1, t.2)

  pub works_next : (places : Places) (old served : Option PagerState) (worked : Worked) (queue : List Post) → NoPages k places b old served → RunsNext k places family a worked new queue → WorksUnowed k places family b old worked new served queue
  works_next places old served Moved queue none t = (none, next_from places Moved queue t)
  works_next places old served Queued queue none t = inr (inr (none, next_from places Queued queue t))
  works_next places old served IsWaiting queue none t = (none, next_from places IsWaiting queue t)
  works_next places old served Rests queue none t = (none, next_from places Rests queue t)
