-- No crash moves a process of a legal log that is not placed after it, as a child is before its birth.
use Rattle.std.proofs.Common.{◌≡◌, refl, sym, ◌∙◌, ap, List, [], ◌∷◌, ◌++◌, Bool, true, false, ◌&&◌, ◌||◌, eqb, Option, Some, None, true≢false}
use Rattle.std.specs.List.{list_any}
use Rattle.std.specs.Option.{option_map_or}
use Rattle.std.proofs.lemmas.List.{map-append}
use Rattle.std.proofs.lemmas.List.Folds.{list_any-append}
use Rattle.std.proofs.lemmas.Bool.{or_left}
use Rattle.t32_base.specs.declared.process.Pid.{Pid}
use Rattle.t32_base.specs.declared.process.ClusterNo.{ClusterNo}
use Rattle.sys_text.specs.declared.system.System.{System}
use Rattle.bus_msg.specs.declared.entry.What.{What}
use Rattle.bus_msg.specs.declared.entry.What.TheVariants.{Birth}
use Rattle.bus_msg.specs.declared.entry.Entry.{Entry}
use Rattle.bus_msg.specs.declared.placed.Placed.{Placed}
use Rattle.bus_msg.specs.Places.{Places, same_pid, is_moved_by, placed_at}
use Rattle.bus_msg.specs.PlacedAfter.{what, placed_after, with_birth, child_of}
use Rattle.cert_sched.specs.Schedule.{placement}
use Rattle.cert_sched.specs.Told.{told, cluster_lost, is_moved, moves}
use Rattle.cert_sched.specs.Moved.{was_moved}
use Rattle.cert_sched.specs.Legal.{IsLegalBy}
use Rattle.cert_sched.proofs.LogLaws.{placement-snoc, told-snoc, told_last}
use Rattle.cert_sched.proofs.PidLaws.{placed_pids}
use Rattle.cert_sched.proofs.Induction.{legal_induction}
use Rattle.cert_sched.proofs.FreshLaws.{same_pids}

-- the process is among those that are placed
abbrev pub is_among : Places → Pid → Bool
is_among places p = list_any (λ m. eqb m p.0) (placed_pids places.placed)

-- ---- who is placed stays

born_among : (places : Places) (child p : Pid) (o : Option Placed) → is_among places p ≡ true → is_among (with_birth places child o) p ≡ true
born_among places child p None among = among
born_among places child p (Some q) among =
    ap (list_any (λ m. eqb m p.0)) (map-append (λ (q : Placed). (q.pid).0) places.placed (child_of q child ∷ []))
    ∙ list_any-append (λ m. eqb m p.0) (placed_pids places.placed) (child.0 ∷ []) ∙ or_left (is_among places p) (eqb child.0 p.0 || false) among

pub stays_among : (w : What) (places : Places) (p : Pid) → is_among places p ≡ true → is_among (placed_after places w) p ≡ true
stays_among (Birth parent at child end) places p among = born_among places child p (placed_at places parent) among
stays_among w places p among = ap (list_any (λ m. eqb m p.0)) (same_pids w refl places) ∙ among

-- who is not placed after an entry was not before it
pub was_not_among : (system : System) (log : List Entry) (e : Entry) (p : Pid) → is_among (placement system (log ++ e ∷ [])) p ≡ false → is_among (placement system log) p ≡ false
was_not_among system log e p none = by_test (is_among (placement system log) p) refl
  where
    by_test : (b : Bool) → is_among (placement system log) p ≡ b → b ≡ false
    by_test true among = absurd (true≢false (sym (stays_among (what e) (placement system log) p among) ∙ sym (ap (λ places. is_among places p) (placement-snoc system log e)) ∙ none))
    by_test false is = refl

-- ---- crashes

moved_among : (p : Pid) (k : ClusterNo) (qs : List Placed) → list_any (λ m. eqb m p.0) (placed_pids qs) ≡ false → list_any (λ (q : Placed). same_pid q.pid p && is_moved_by k q) qs ≡ false
moved_among p k [] none = refl
moved_among p k (q ∷ qs) none = by_pid (same_pid q.pid p) none (moved_among p k qs)
  where
    by_pid : (b : Bool) → (b || list_any (λ m. eqb m p.0) (placed_pids qs)) ≡ false → (list_any (λ m. eqb m p.0) (placed_pids qs) ≡ false → list_any (λ (q : Placed). same_pid q.pid p && is_moved_by k q) qs ≡ false)
        → ((b && is_moved_by k q) || list_any (λ (q : Placed). same_pid q.pid p && is_moved_by k q) qs) ≡ false
    by_pid true h more = absurd (true≢false h)
    by_pid false h more = more h

-- no crash moved a process that is not placed
pub never_moved : (May : System → List Entry → Entry → Type 0) → (system : System) (log : List Entry) (p : Pid) → IsLegalBy May system log → is_among (placement system log) p ≡ false → was_moved system log p ≡ false
unfolding told
never_moved May system log p legal =
    legal_induction May system (λ log. is_among (placement system log) p ≡ false → was_moved system log p ≡ false) (λ none. refl)
    (λ log e before may none.
    let was = was_not_among system log e p none in
    ap (list_any (moves p)) (told-snoc system log e) ∙ list_any-append (moves p) (told system log) (told_last system log e ∷ []) ∙ (λ i. before was i || (unmoved log e was (cluster_lost (what e)) i || false))) log legal
  where
    unmoved : (log : List Entry) (e : Entry) → is_among (placement system log) p ≡ false → (o : Option ClusterNo) → option_map_or (is_moved p (placement system log)) o false ≡ false
    unmoved log e none None = refl
    unmoved log e none (Some k) = moved_among p k (placement system log).placed none
