-- The processes that the loss of another cluster moves here are the cluster's own while they wait, as the others.
use Rattle.std.proofs.Common.{◌≡◌, ℕ, ◌+◌, ◌≤◌, refl, sym, ◌∙◌, ap, subst, arith, List, [], ◌∷◌, ◌++◌, length, Bool, true, false, cond, ltb, Some, is_some, inl, inr, true≢false}
use Rattle.std.specs.Prelude.{filter}
use Rattle.std.specs.List.{AllByRecursion}
use Rattle.t32_base.specs.declared.process.Pid.{Pid}
use Rattle.t32_base.specs.declared.letter.BackRec.{BackRec}
use Rattle.sys_text.specs.declared.system.System.{System}
use Rattle.sys_text.specs.Valid.{is_system}
use Rattle.bus_msg.specs.declared.entry.What.{What}
use Rattle.bus_msg.specs.declared.entry.Entry.{Entry}
use Rattle.bus_msg.specs.Places.{same_cluster}
use Rattle.bus_msg.specs.PlacedAfter.{what}
use Rattle.crash_notice.specs.Splitting.{moves_here}
use Rattle.cert_sched.specs.Legal.{MayStand}
use Rattle.cert_sched.specs.Rules.{tells_or_closes}
use Rattle.cluster_core.specs.Sent.{is_sent}
use Rattle.cert_sched.specs.Losses.{is_crash_of}
use Rattle.cert_sched.specs.Schedule.{placement}
use Rattle.backup_records.specs.Records.{are_rising, record_in, records_after}
use Rattle.page_waits.specs.Waiting.{WaitingState}
use Rattle.replay_laws.specs.pages.Waits.{first_wait}
use Rattle.cluster_core.specs.View.{ClusterView}
use Rattle.residents.specs.Held.{Held, Waits}
use Rattle.residents.specs.Changed.{with_more}
use Rattle.cluster_core.specs.Parts.{AllOwn, IsHeldOwn, WaitsOwn}
use Rattle.cluster_core.specs.Recovered.{moved_by, with_all_waiting, with_waiting}
use Rattle.cluster_core.specs.Follows.{Follows, IsOpen, StandsBetween}
use Rattle.cluster_core.specs.Calls.{IsReady, ReadyFor}
use Rattle.cluster_core.proofs.absorbing.ByKind.{IsLoss, OneOf, by_kind, by_page, by_sync, is_of_page, kind_is}
use Rattle.cluster_core.proofs.absorbing.Following.{own_sent}
use Rattle.cluster_core.proofs.losses.LostQueue.{NextLoss}
use Rattle.cluster_core.proofs.losses.Losing.{Moves, moving}
use Rattle.cluster_core.proofs.losses.MovedRecords.{all_recorded}
use Rattle.cluster_core.proofs.losses.Moving.{waits_own}

-- ---- the next entry

-- it tells of steps, is of a page, is a loss, is one by which a process synchronises, or is a birth
pub one_of : (system : System) (log : List Entry) (e : Entry) → IsOpen MayStand system (log ++ e ∷ []) → OneOf (what e)
one_of system log e later = kind_is (what e)

pub loss_of : (system : System) (log : List Entry) (e : Entry) (l : IsLoss (what e)) → IsOpen MayStand system log → IsOpen MayStand system (log ++ e ∷ []) → NextLoss system log e l.lost l.cause
loss_of system log e l now later = record { legal = now.0; more = later.0; before = now.1; goes_on = later.1; same = l.same }

-- the loss is of another cluster
pub other_lost : (c : ClusterView) (e : Entry) (l : IsLoss (what e)) → is_crash_of c.number (what e) ≡ false → same_cluster l.lost c.number ≡ false
other_lost c e l other = sym (ap (is_crash_of c.number) l.same) ∙ other

-- no loss is a post of the cluster's own
pub own_no_loss : (c : ClusterView) (log : List Entry) (e : Entry) → IsLoss (what e) → StandsBetween Follows c.system log e c → ⊥
own_no_loss c log e l s = true≢false (sym (own_sent c log e s) ∙ ap is_sent l.same)

-- ---- one more is here

pub own_more : (cursor : ℕ) (q : Pid) (x : Held) (here : List (Pid × Held)) → IsHeldOwn cursor q x → AllOwn cursor here → AllOwn cursor (with_more q x here)
own_more cursor q x [] mine own = (mine, tt)
own_more cursor q x (e ∷ here) mine own = by_order (ltb q.0 (e.0).0) (own_more cursor q x here mine own.1)
  where
    by_order : (b : Bool) → AllOwn cursor (with_more q x here) → AllOwn cursor (cond b ((q, x) ∷ e ∷ here) (e ∷ with_more q x here))
    by_order true more = (mine, own)
    by_order false more = (own.0, more)

-- the processes of records, each of which waits as its own
pub own_waiting : (cursor : ℕ) (moved : List BackRec) (here : List (Pid × Held)) → AllByRecursion (λ (r : BackRec). WaitsOwn cursor r.pid (first_wait r)) moved → AllOwn cursor here → AllOwn cursor (with_all_waiting moved here)
own_waiting cursor [] here each own = own
own_waiting cursor (r ∷ rest) here each own = own_waiting cursor rest (with_waiting here r) each.1 (own_more cursor r.pid (Waits (first_wait r)) here each.0 own)

-- as many entries or more were taken in
pub own_longer : (n m : ℕ) (p : Pid) (w : WaitingState) → n ≤ m → WaitsOwn n p w → WaitsOwn m p w
own_longer n m p w fewer own = record { pid_is = own.pid_is; state = own.state; arrived = omega (arith, fewer, own.arrived); lacks = own.lacks }

-- ---- the whole

-- the processes that a loss moves here are the cluster's own
pub owns_waiting : (c : ClusterView) (e : Entry) → is_system c.system ≡ true → ReadyFor e c → are_rising (moved_by c.places c.number (what e) (records_after c.number (what e) c.records)) ≡ true → (here : List (Pid × Held)) → AllOwn (c.cursor + 1) here
    → AllOwn (c.cursor + 1) (with_all_waiting (moved_by c.places c.number (what e) (records_after c.number (what e) c.records)) here)
owns_waiting c e valid r order here own = by_loss (one_of c.system r.log e r.open_next)
  where
    moved : List BackRec
    moved = moved_by c.places c.number (what e) (records_after c.number (what e) c.records)

    lost : (l : IsLoss (what e)) → IsReady r.log e c → AllOwn (c.cursor + 1) (with_all_waiting moved here)
    lost l (inr s) = absurd (own_no_loss c r.log e l s)
    lost l (inl f) = own_waiting (c.cursor + 1) moved here (all_recorded (λ (kept : BackRec). WaitsOwn (c.cursor + 1) kept.pid (first_wait kept)) moved order each) own
      where
        moved_is : moved ≡ filter (moves_here (placement c.system r.log) l.lost c.number) c.records
        moved_is = ap (λ w. moved_by c.places c.number w (records_after c.number w c.records)) l.same ∙ ap (λ places. filter (moves_here places l.lost c.number) c.records) (((f.0).log).places)

        each : (kept : BackRec) → record_in moved kept.pid ≡ Some kept → WaitsOwn (c.cursor + 1) kept.pid (first_wait kept)
        each kept at =
            let count = ((f.0).log).cursor in
            own_longer (length r.log) (c.cursor + 1) kept.pid (first_wait kept) (omega (arith, count)) (waits_own c.system valid r.log (r.open_log).0 kept.pid kept (ap is_some m.found) m.kept)
          where
            n : NextLoss c.system r.log e l.lost l.cause
            n = loss_of c.system r.log e l r.open_log r.open_next

            m : Moves c.system valid r.log e l.lost l.cause n c.number (other_lost c e l f.2) c.records kept.pid kept
            m = moving c.system valid r.log e l.lost l.cause n c.number (other_lost c e l f.2) c.records kept.pid kept (f.0).records (ap (λ recs. record_in recs kept.pid) (sym moved_is) ∙ at)

    nobody : moved ≡ [] → AllOwn (c.cursor + 1) (with_all_waiting moved here)
    nobody none = subst (λ recs. AllOwn (c.cursor + 1) (with_all_waiting recs here)) (sym none) own

    none : (w : What) → tells_or_closes w ≡ true → moved_by c.places c.number w (records_after c.number w c.records) ≡ []
    none = by_kind (λ w. moved_by c.places c.number w (records_after c.number w c.records) ≡ []) (λ at letter. refl) (λ pid at end. refl) (λ rests. refl) refl

    none_by_page : (w : What) → is_of_page w ≡ true → moved_by c.places c.number w (records_after c.number w c.records) ≡ []
    none_by_page = by_page (λ w. moved_by c.places c.number w (records_after c.number w c.records) ≡ []) (λ pid index. refl) (λ pid index bytes. refl)

    by_loss : OneOf (what e) → AllOwn (c.cursor + 1) (with_all_waiting moved here)
    by_loss (inl tells) = nobody (none (what e) tells)
    by_loss (inr (inl of)) = nobody (none_by_page (what e) of)
    by_loss (inr (inr (inl l))) = lost l r.ready
    by_loss (inr (inr (inr (inl of)))) = nobody (by_sync (λ w. moved_by c.places c.number w (records_after c.number w c.records) ≡ []) (λ pid at index bytes. refl) (λ pid small read took. refl) (what e) of)
    by_loss (inr (inr (inr (inr (inl b))))) = nobody (ap (λ w. moved_by c.places c.number w (records_after c.number w c.records)) b.same)
    by_loss (inr (inr (inr (inr (inr (inl y)))))) = nobody (ap (λ w. moved_by c.places c.number w (records_after c.number w c.records)) y.same)
    by_loss (inr (inr (inr (inr (inr (inr y)))))) = nobody (ap (λ w. moved_by c.places c.number w (records_after c.number w c.records)) y.same)
