-- The processes of records wait for their pages one after another.
use Rattle.std.proofs.Common.{◌≡◌, ◌≤◌, sym, ◌∙◌, ap, List, [], ◌∷◌, Bool, true, false, cond, ltb, ◌||◌, Some, is_some}
use Rattle.std.specs.Prelude.{nat_lt}
use Rattle.std.specs.List.{list_all, list_any}
use Rattle.std.proofs.lemmas.Bool.{and_parts, or_parts}
use Rattle.t32_base.specs.declared.process.Pid.{Pid}
use Rattle.t32_base.specs.declared.letter.BackRec.{BackRec}
use Rattle.bus_msg.specs.Places.{same_pid}
use Rattle.backup_records.specs.Records.{are_rising, record_in}
use Rattle.page_waits.specs.Waiting.{page_count}
use Rattle.residents.specs.Held.{Held}
use Rattle.residents.specs.Changed.{with_more}
use Rattle.cluster_core.specs.Recovered.{CanWait}
use Rattle.residents.proofs.Changing.{same_itself}
use Rattle.cluster_core.proofs.losses.MovedRecords.{above_found, apart, record_pid}

-- a process that is not here is not here beside one more of another pid
pub none_beside : (q : Pid) (x : Held) (here : List (Pid × Held)) (p : Pid) → same_pid q p ≡ false → list_any (λ (e : Pid × Held). same_pid e.0 p) here ≡ false → list_any (λ (e : Pid × Held). same_pid e.0 p) (with_more q x here) ≡ false
none_beside q x [] p other none = λ i. other i || false
none_beside q x (e ∷ here) p other none =
    let parts = or_parts (same_pid e.0 p) (list_any (λ (e : Pid × Held). same_pid e.0 p) here) none in
    by_order (ltb q.0 (e.0).0) parts.0 (none_beside q x here p other parts.1)
  where
    by_order : (b : Bool) → same_pid e.0 p ≡ false → list_any (λ (e : Pid × Held). same_pid e.0 p) (with_more q x here) ≡ false → list_any (λ (e : Pid × Held). same_pid e.0 p) (cond b ((q, x) ∷ e ∷ here) (e ∷ with_more q x here)) ≡ false
    by_order true first more = λ i. other i || none i
    by_order false first more = λ i. first i || more i

-- the first of the records can wait
pub first_waits : (r : BackRec) (rest : List BackRec) (here : List (Pid × Held)) → CanWait (r ∷ rest) here → (is_some r.state ≡ true → 1 ≤ page_count r) × (page_count r ≤ 256) × (list_any (λ (e : Pid × Held). same_pid e.0 r.pid) here ≡ false)
first_waits r rest here can = can r.pid r (ap (λ b. cond b (Some r) (record_in rest r.pid)) (same_itself r.pid))

-- the others rise
pub others_rise : (r : BackRec) (rest : List BackRec) → are_rising (r ∷ rest) ≡ true → are_rising rest ≡ true
others_rise r rest order = (and_parts (list_all (λ (s : BackRec). nat_lt (r.pid).0 (s.pid).0) rest) (are_rising rest) order).1

-- and can wait beside it
pub others_wait : (r : BackRec) (rest : List BackRec) (here : List (Pid × Held)) (x : Held) → are_rising (r ∷ rest) ≡ true → CanWait (r ∷ rest) here → CanWait rest (with_more r.pid x here)
others_wait r rest here x order can p s at =
    let parts = and_parts (list_all (λ (s : BackRec). nat_lt (r.pid).0 (s.pid).0) rest) (are_rising rest) order in
    let pids : s.pid ≡ p = record_pid rest p s at in
    let other : same_pid r.pid p ≡ false = ap (same_pid r.pid) (sym pids) ∙ apart (r.pid).0 (s.pid).0 (above_found (r.pid).0 rest p s parts.0 at) in
    let was = can p s (ap (λ b. cond b (Some r) (record_in rest p)) other ∙ at) in
    (was.0, was.1, none_beside r.pid x here p other was.2)
