-- Laws of what changes a placement.
use Rattle.std.proofs.Common.{◌≡◌, ℕ, zero, suc, ◌+◌, ◌<◌, ◌-◌, ◌*◌, ◌^◌, Bool, true, false, ◌||◌, cond, List, [], ◌∷◌, ◌++◌, map, Option, None, Some, refl, sym, ◌∙◌, ap, subst, arith, slice_get}
use Rattle.std.specs.Prelude.{find}
use Rattle.std.specs.Option.{IfSome, option_or}
use Rattle.std.proofs.lemmas.Bool.Decides.{nat_tests}
use Rattle.std.proofs.lemmas.List.Folds.{list_any-append, find-append}
use Rattle.t32_base.specs.declared.process.Pid.{Pid}
use Rattle.t32_base.specs.declared.process.ClusterNo.{ClusterNo}
use Rattle.t32_base.specs.declared.letter.BackRec.{BackRec}
use Rattle.bus_msg.specs.declared.placed.Placed.{Placed}
use Rattle.bus_msg.specs.Places.{ClusterPlace, Places, same_pid, same_cluster, is_cluster, placed_at, next_serial_in}
use Rattle.bus_msg.specs.PlacedAfter.{is_named, after_rebackup, after_loss, moved_to, changed_at, raised_serial, child_of, with_birth}
use Rattle.channel_table.specs.Keys.{number_of}
use Rattle.channel_table.specs.Changes.{with_backup, lowered_serial, CanBeBorn, IsNextChild}

-- two changes of every process are one
pub map-then : (f h g : Placed → Placed) → ((q : Placed) → h (f q) ≡ g q) → (qs : List Placed) → map h (map f qs) ≡ map g qs
map-then f h g then [] = refl
map-then f h g then (q ∷ qs) = let rest = map-then f h g then qs in λ i. then q i ∷ rest i

pub map-same : (f : Placed → Placed) → ((q : Placed) → f q ≡ q) → (qs : List Placed) → qs ≡ map f qs
map-same f same [] = refl
map-same f same (q ∷ qs) = let rest = map-same f same qs in λ i. sym (same q) i ∷ rest i

same_flips : (p q : Pid) → same_pid p q ≡ same_pid q p
same_flips p q = grind (arith, nat_tests)

again : (b c : Bool) → ((b || c) || c) ≡ (b || c)
again true c = refl
again false true = refl
again false false = refl

-- one more record, at the two tests
rebackup_by : (to : ClusterNo) (fresh : Bool) (q : Placed) (b c : Bool)
    → cond (b || c) (record q { backup = Some to; synced = q.synced || fresh }) q
    ≡ cond c (record (cond b (record q { backup = Some to; synced = q.synced || fresh }) q) { backup = Some to; synced = (cond b (record q { backup = Some to; synced = q.synced || fresh }) q).synced || fresh })
    (cond b (record q { backup = Some to; synced = q.synced || fresh }) q)
rebackup_by to fresh q true true = λ i. record q { backup = Some to; synced = sym (again q.synced fresh) i }
rebackup_by to fresh q true false = refl
rebackup_by to fresh q false true = refl
rebackup_by to fresh q false false = refl

pid_by : (to : ClusterNo) (fresh : Bool) (q : Placed) (b : Bool) → (cond b (record q { backup = Some to; synced = q.synced || fresh }) q).pid ≡ q.pid
pid_by to fresh q true = refl
pid_by to fresh q false = refl

-- the records of a new backup, and one more
pub after_rebackup-push : (to : ClusterNo) (fresh : Bool) (recs : List BackRec) (r : BackRec) (q : Placed)
    → with_backup to fresh r.pid (after_rebackup to fresh recs q) ≡ after_rebackup to fresh (recs ++ r ∷ []) q
after_rebackup-push to fresh recs r q =
    let is : BackRec → Bool = λ x. same_pid x.pid q.pid in
    let changed : Placed = record q { backup = Some to; synced = q.synced || fresh } in
    let now : Placed = after_rebackup to fresh recs q in
    let test : same_pid now.pid r.pid ≡ same_pid r.pid q.pid = ap (λ p. same_pid p r.pid) (pid_by to fresh q (is_named recs q)) ∙ same_flips q.pid r.pid in
    let named : is_named (recs ++ r ∷ []) q ≡ (is_named recs q || same_pid r.pid q.pid) = list_any-append is recs (r ∷ []) ∙ ap (λ b. is_named recs q || b) (last (same_pid r.pid q.pid)) in
    ap (λ b. cond b (record now { backup = Some to; synced = now.synced || fresh }) now) test
    ∙ sym (rebackup_by to fresh q (is_named recs q) (same_pid r.pid q.pid))
    ∙ ap (λ b. cond b changed q) (sym named)
  where
    last : (b : Bool) → (b || false) ≡ b
    last true = refl
    last false = refl

-- no change moves a process to another number
loss_by : (k : ClusterNo) (q : Placed) (b c d : Bool) (backup : Option ClusterNo)
    → number_of (cond b q (cond c (moved_to q k backup) (cond d (record q { backup = None; lost = Some k }) q))) ≡ number_of q
loss_by k q true c d backup = refl
loss_by k q false true d None = refl
loss_by k q false true d (Some b) = refl
loss_by k q false false true backup = refl
loss_by k q false false false backup = refl

pub number_of-after_loss : (k : ClusterNo) (q : Placed) → number_of (after_loss k q) ≡ number_of q
number_of-after_loss k q = loss_by k q q.ended (same_cluster q.home k) (is_cluster q.backup k) q.backup

-- ---- births

-- a placed parent's home has a serial left
pub room_at_home : (places : Places) (parent child : Pid) (q : Placed) → CanBeBorn places parent child → Some q ≡ placed_at places parent → next_serial_in places q.home < 2 ^ 32 - 1
room_at_home places parent child q can found = subst (λ o. IfSome o (λ (r : Placed). next_serial_in places r.home < 2 ^ 32 - 1)) (sym found) can.1

-- the home of the next child has a serial left, as a pid has 32 bits
pub next_can_be_born : (places : Places) (parent child : Pid) → child.0 < 2 ^ 32 → IsNextChild places parent child → CanBeBorn places parent child
next_can_be_born places parent child fits next = (next.0, by_parent (placed_at places parent) next.1)
  where
    by_parent : (o : Option Placed) → IfSome o (λ (q : Placed). child.0 ≡ (q.home).0 + 16 * next_serial_in places q.home) → IfSome o (λ (q : Placed). next_serial_in places q.home < 2 ^ 32 - 1)
    by_parent None is = tt
    by_parent (Some q) is = let number : child.0 ≡ (q.home).0 + 16 * next_serial_in places q.home = is in omega (arith, number, fits)

-- the parts of the placement after a birth
pub born : (places : Places) (parent child : Pid) (q : Placed) (clusters : List ClusterPlace) (placed : List Placed) → Some q ≡ placed_at places parent
    → clusters ≡ changed_at (q.home).0 raised_serial (slice_get places.clusters (q.home).0) places.clusters → placed ≡ places.placed ++ child_of q child ∷ []
    → record places { clusters = clusters; placed = placed } ≡ with_birth places child (placed_at places parent)
born places parent child q clusters placed found changed more =
    (λ i. record places { clusters = changed i; placed = more i }) ∙ ap (with_birth places child) found

-- ---- births taken back

changed_later : (k : ℕ) (f : ClusterPlace → ClusterPlace) (o : Option ClusterPlace) (c : ClusterPlace) (cs : List ClusterPlace) → changed_at (suc k) f o (c ∷ cs) ≡ c ∷ changed_at k f o cs
changed_later k f None c cs = refl
changed_later k f (Some d) c cs = refl

-- the serial of a cluster, raised and lowered
serial_back : (k : ℕ) (cs : List ClusterPlace) → changed_at k lowered_serial (slice_get (changed_at k raised_serial (slice_get cs k) cs) k) (changed_at k raised_serial (slice_get cs k) cs) ≡ cs
serial_back k [] = refl
serial_back zero (c ∷ cs) = let same : c.next_serial + 1 - 1 ≡ c.next_serial = omega arith in λ i. record c { next_serial = same i } ∷ cs
serial_back (suc k) (c ∷ cs) =
    let raised : List ClusterPlace = changed_at k raised_serial (slice_get cs k) cs in
    ap (λ (l : List ClusterPlace). changed_at (suc k) lowered_serial (slice_get l (suc k)) l) (changed_later k raised_serial (slice_get cs k) c cs)
    ∙ changed_later k lowered_serial (slice_get raised k) c raised
    ∙ ap (λ l. c ∷ l) (serial_back k cs)

-- a birth leaves its parent placed as it was
parent_stays : (before : Places) (parent child : Pid) (o : Option Placed) → placed_at before parent ≡ o → placed_at (with_birth before child o) parent ≡ o
parent_stays before parent child None is = is
parent_stays before parent child (Some q) is =
    find-append (λ (r : Placed). same_pid r.pid parent) before.placed (child_of q child ∷ []) ∙ ap (λ o. option_or o (find (λ (r : Placed). same_pid r.pid parent) (child_of q child ∷ []))) is

pub parent_as_before : (before old : Places) (parent child : Pid) → old ≡ with_birth before child (placed_at before parent) → placed_at old parent ≡ placed_at before parent
parent_as_before before old parent child is = ap (λ (p : Places). placed_at p parent) is ∙ parent_stays before parent child (placed_at before parent) refl

-- where the parent is not placed nothing was born
pub none_born : (before old : Places) (parent child : Pid) → placed_at old parent ≡ None → old ≡ with_birth before child (placed_at before parent) → old ≡ before
none_born before old parent child none is = is ∙ ap (with_birth before child) (sym (parent_as_before before old parent child is) ∙ none)

-- the parts of the placement after a birth, taken back
pub born_back : (before old : Places) (parent child : Pid) (q : Placed) (clusters : List ClusterPlace) (placed : List Placed) → Some q ≡ placed_at old parent
    → old ≡ with_birth before child (placed_at before parent)
    → clusters ≡ changed_at (q.home).0 lowered_serial (slice_get old.clusters (q.home).0) old.clusters → ((front : List Placed) (last : Placed) → old.placed ≡ front ++ last ∷ [] → placed ≡ front)
    → record old { clusters = clusters; placed = placed } ≡ before
born_back before old parent child q clusters placed found is lowered popped =
    let k = (q.home).0 in
    let born : old ≡ with_birth before child (Some q) = is ∙ ap (with_birth before child) (sym (parent_as_before before old parent child is) ∙ sym found) in
    let front : placed ≡ before.placed = popped before.placed (child_of q child) (ap (λ (p : Places). p.placed) born) in
    let serials : clusters ≡ before.clusters = lowered ∙ ap (λ (p : Places). changed_at k lowered_serial (slice_get p.clusters k) p.clusters) born ∙ serial_back k before.clusters in
    λ i. record { clusters = serials i; pager = (born i).pager; placed = front i }
