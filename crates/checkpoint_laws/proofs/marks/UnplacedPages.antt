-- A process that is not placed has sent no page.
use Rattle.std.proofs.Common.{◌≡◌, ℕ, sym, ◌∙◌, ap, List, [], ◌∷◌, ◌++◌, Bool, true, false, cond, ◌||◌, eqb, refl, Option, Some, None, true≢false}
use Rattle.std.specs.List.{list_any}
use Rattle.std.proofs.lemmas.List.{map-append}
use Rattle.std.proofs.lemmas.List.Folds.{list_any-append}
use Rattle.std.proofs.lemmas.Bool.{false_from_ne_true, or_left}
use Rattle.t32_base.specs.declared.process.Pid.{Pid}
use Rattle.sys_text.specs.declared.system.System.{System}
use Rattle.bus_msg.specs.declared.entry.What.{What}
use Rattle.bus_msg.specs.declared.entry.What.TheVariants.{Birth, Page}
use Rattle.bus_msg.specs.declared.entry.By.{By}
use Rattle.bus_msg.specs.declared.entry.Entry.{Entry}
use Rattle.bus_msg.specs.declared.placed.Placed.{Placed}
use Rattle.bus_msg.specs.Places.{Places, placed_at}
use Rattle.bus_msg.specs.PlacedAfter.{what, child_of, placed_after, with_birth}
use Rattle.cert_sched.specs.Schedule.{placement}
use Rattle.cert_sched.specs.Told.{told}
use Rattle.cert_sched.specs.Moved.{any_since_moved}
use Rattle.cert_sched.specs.Rules.{is_by_right}
use Rattle.cert_sched.specs.Legal.{IsLegalBy, Stands}
use Rattle.cert_sched.proofs.CutLaws.{by_home_there}
use Rattle.cert_sched.proofs.CameLaws.{same_of}
use Rattle.cert_sched.proofs.FamilyLaws.{In}
use Rattle.cert_sched.proofs.FreshLaws.{same_pids}
use Rattle.cert_sched.proofs.Induction.{legal_induction}
use Rattle.cert_sched.proofs.LogLaws.{placement-snoc}
use Rattle.cert_sched.proofs.PidLaws.{placed_pids}
use Rattle.cert_sched.proofs.ThereLaws.{found_among}
use Rattle.log_laws.specs.pages.Next.{moves_next}
use Rattle.log_laws.proofs.pages.OneEntry.{any_since-snoc}
use Rattle.checkpoint_laws.specs.marks.Beside.{is_some_page}

-- who is placed stays so, whatever the entry says
born_stays : (n : ℕ) (places : Places) (child : Pid) (o : Option Placed) → In n places → In n (with_birth places child o)
born_stays n places child None there = there
born_stays n places child (Some q) there =
    ap (list_any (λ m. eqb m n)) (map-append (λ (q : Placed). (q.pid).0) places.placed (child_of q child ∷ []))
    ∙ list_any-append (λ m. eqb m n) (placed_pids places.placed) (child.0 ∷ [])
    ∙ or_left (list_any (λ m. eqb m n) (placed_pids places.placed)) (eqb child.0 n || false) there

stays_placed : (n : ℕ) (w : What) (places : Places) → In n places → In n (placed_after places w)
stays_placed n (Birth parent at child end) places there = born_stays n places child (placed_at places parent) there
stays_placed n w places there = ap (list_any (λ m. eqb m n)) (same_pids w refl places) ∙ there

-- who sends a page is placed
sender_placed : (places : Places) (by : By) (p : Pid) (w : What) → is_by_right places by w ≡ true → is_some_page p w ≡ true → In p.0 places
sender_placed places by p (Page q at index bytes) right is = ap (λ (r : Pid). list_any (λ m. eqb m r.0) (placed_pids places.placed)) (sym (same_of q p is)) ∙ found_among q places.placed (by_home_there places by q right)
sender_placed places by p _ right is = absurd (true≢false (sym is))

-- no page of it was sent, since a crash moved it or ever
Unsent : System → List Entry → Type 0
Unsent system log = (p : Pid) → list_any (λ m. eqb m p.0) (placed_pids (placement system log).placed) ≡ false → any_since_moved system log p (is_some_page p) ≡ false

unsent_more : (system : System) (log : List Entry) (e : Entry) → Unsent system log → Stands system log e → Unsent system (log ++ e ∷ [])
unfolding Unsent
unsent_more system log e before stands p none =
    any_since-snoc system log e p (is_some_page p)
    ∙ (λ i. cond (moves_next system log e p) false (before p not_there i || no_page i))
    ∙ either (moves_next system log e p)
  where
    not_there : list_any (λ m. eqb m p.0) (placed_pids (placement system log).placed) ≡ false
    not_there = false_from_ne_true (list_any (λ m. eqb m p.0) (placed_pids (placement system log).placed))
        (λ there. true≢false (sym (ap (λ (places : Places). list_any (λ m. eqb m p.0) (placed_pids places.placed)) (placement-snoc system log e) ∙ stays_placed p.0 (what e) (placement system log) there) ∙ none))

    no_page : is_some_page p (what e) ≡ false
    no_page = false_from_ne_true (is_some_page p (what e)) (λ is. true≢false (sym (sender_placed (placement system log) (e.post).by p (what e) stands.by_right is) ∙ not_there))

    either : (b : Bool) → cond b false false ≡ false
    either true = refl
    either false = refl

none_unsent : (system : System) → Unsent system []
unfolding Unsent told
none_unsent system p none = refl

pub unplaced_unsent : (system : System) (log : List Entry) (p : Pid) → IsLegalBy Stands system log → list_any (λ m. eqb m p.0) (placed_pids (placement system log).placed) ≡ false → any_since_moved system log p (is_some_page p) ≡ false
unfolding Unsent
unplaced_unsent system log p legal none = legal_induction Stands system (Unsent system) (none_unsent system) (λ log e before stands. unsent_more system log e before stands) log legal p none
