-- A child of which a log tells has one parent: the one that has its fork to make again.
use Rattle.std.proofs.Common.{◌≡◌, refl, sym, ◌∙◌, ap, List, [], ◌∷◌, ◌++◌, Bool, true, false, cond, ◌&&◌, ◌||◌, eqb-true, eq-eqb, true≢false}
use Rattle.std.specs.Prelude.{flat_map}
use Rattle.std.specs.List.{list_any}
use Rattle.std.proofs.lemmas.Bool.{and_parts}
use Rattle.std.proofs.lemmas.Grind.{flat_map-append}
use Rattle.std.proofs.lemmas.List.Folds.{list_any-append}
use Rattle.t32_base.specs.declared.process.Pid.{Pid}
use Rattle.t32_base.specs.declared.process.Counts.{Counts}
use Rattle.sys_text.specs.declared.system.System.{System}
use Rattle.proc_state.specs.State.{ProcState}
use Rattle.sys_calls.specs.declared.steps.Emission.{Emission}
use Rattle.sys_calls.specs.declared.steps.Emission.TheVariants.{Mail as Sent, Exit as Ended}
use Rattle.bus_msg.specs.declared.entry.What.{What}
use Rattle.bus_msg.specs.declared.entry.What.TheVariants.{Mail, Birth, Exit}
use Rattle.bus_msg.specs.declared.entry.Entry.{Entry}
use Rattle.bus_msg.specs.Places.{same_pid}
use Rattle.bus_msg.specs.PlacedAfter.{what}
use Rattle.birth_notice.specs.Family.{are_births, stands_in}
use Rattle.birth_notice.proofs.BirthLaws.{three}
use Rattle.roll_forward.specs.Deeds.{Sends, Bears, births_in, child_in}
use Rattle.cert_sched.specs.Deeds.{deeds_in, since, starts}
use Rattle.cert_sched.specs.Family.{births_of, born}
use Rattle.cert_sched.specs.Parts.{after_last}
use Rattle.cert_sched.specs.Rolling.{RollsAs}
use Rattle.cert_sched.specs.Simulation.{bears}
use Rattle.cert_sched.proofs.FamilyLaws.{Pair}
use Rattle.log_laws.proofs.births.Filters.{one_passes, passes_any}
use Rattle.cluster_core.proofs.forks.ForksAgain.{bears_by}
use Rattle.residents.proofs.Changing.{pid_same, same_itself}

or_true : (a : Bool) → (a || true) ≡ true
or_true true = refl
or_true false = refl

-- ---- some births in which each child is new

-- a later birth has no child that stands in an earlier one
stands_later : (b : Pair) (bs : List Pair) (parent child : Pid) → same_pid b.1 child ≡ true → list_any (bears_by parent child) bs ≡ true → list_any (λ (x : Pair). stands_in x.1 b) bs ≡ true
stands_later b bs parent child own any =
    let one = one_passes (bears_by parent child) bs any in
    let both = and_parts (same_pid (one.pair).0 parent) (same_pid (one.pair).1 child) one.passes in
    let same : (one.pair).1 ≡ b.1 = pid_same (one.pair).1 b.1 (eqb-true ((one.pair).1).0 child.0 both.1 ∙ sym (eqb-true (b.1).0 child.0 own)) in
    passes_any (λ (x : Pair). stands_in x.1 b) bs one.pair one.member (ap (λ q. stands_in q b) same ∙ (λ i. same_pid b.1 b.0 || same_itself b.1 i) ∙ or_true (same_pid b.1 b.0))

pub one_parent : (bs : List Pair) (p q child : Pid) → are_births bs ≡ true → list_any (bears_by p child) bs ≡ true → list_any (bears_by q child) bs ≡ true → same_pid q p ≡ true
one_parent [] p q child ok by_p by_q = absurd (true≢false (sym by_p))
one_parent (b ∷ bs) p q child ok by_p by_q = by_tests (bears_by p child b) (bears_by q child b) refl refl by_p by_q (one_parent bs p q child parts.2)
  where
    parts : (same_pid b.1 b.0 ≡ false) × (list_any (λ (x : Pair). stands_in x.1 b) bs ≡ false) × (are_births bs ≡ true)
    parts = three (same_pid b.1 b.0) (list_any (λ (x : Pair). stands_in x.1 b) bs) (are_births bs) ok

    by_tests : (x y : Bool) → bears_by p child b ≡ x → bears_by q child b ≡ y → (x || list_any (bears_by p child) bs) ≡ true → (y || list_any (bears_by q child) bs) ≡ true
        → (list_any (bears_by p child) bs ≡ true → list_any (bears_by q child) bs ≡ true → same_pid q p ≡ true) → same_pid q p ≡ true
    by_tests true true is_p is_q any_p any_q later =
        let one = and_parts (same_pid b.0 p) (same_pid b.1 child) is_p in
        let two = and_parts (same_pid b.0 q) (same_pid b.1 child) is_q in
        eq-eqb q.0 p.0 (sym (eqb-true (b.0).0 q.0 two.0) ∙ eqb-true (b.0).0 p.0 one.0)
    by_tests true false is_p is_q any_p any_q later = absurd (true≢false (sym (stands_later b bs q child (and_parts (same_pid b.0 p) (same_pid b.1 child) is_p).1 any_q) ∙ parts.1))
    by_tests false true is_p is_q any_p any_q later = absurd (true≢false (sym (stands_later b bs p child (and_parts (same_pid b.0 q) (same_pid b.1 child) is_q).1 any_p) ∙ parts.1))
    by_tests false false is_p is_q any_p any_q later = later any_p any_q

-- ---- what a process forked since it started

-- the log tells of each birth among some deeds
module _ (p child : Pid) where
  -- what is sent is no birth
  sent_none : (e : Emission) (more b : Bool) → (list_any (same_pid child) (births_in (cond b (Sends e ∷ []) [])) || more) ≡ true → more ≡ true
  sent_none e more true is = is
  sent_none e more false is = is

  told_by : (w : What) (more all : Bool) → (list_any (same_pid child) (births_in (deeds_in p w)) || more) ≡ true → (more ≡ true → all ≡ true) → (list_any (bears_by p child) (born w) || all) ≡ true
  told_by (Mail at letter) more all any later = later (sent_none (Sent letter) more (same_pid letter.from p) any)
  told_by (Exit pid at end) more all any later = later (sent_none (Ended end) more (same_pid pid p) any)
  told_by (Birth parent at c end) more all any later = by_own (same_pid parent p) any
    where
      by_child : (b : Bool) → same_pid child c ≡ b → ((b || false) || more) ≡ true → (((true && same_pid c child) || false) || all) ≡ true
      by_child true is any = (λ i. ((true && eq-eqb c.0 child.0 (sym (eqb-true child.0 c.0 is)) i) || false) || all)
      by_child false is any = by_all (same_pid c child) (later any)
        where
          by_all : (b : Bool) → all ≡ true → (((true && b) || false) || all) ≡ true
          by_all true is = refl
          by_all false is = is

      by_own : (b : Bool) → (list_any (same_pid child) (births_in (cond b (Bears c ∷ []) [])) || more) ≡ true → (((b && same_pid c child) || false) || all) ≡ true
      by_own true any = by_child (same_pid child c) refl any
      by_own false any = later any
  told_by w more all any later = later any

  told : (es : List Entry) → list_any (same_pid child) (births_in (flat_map (λ e. deeds_in p (what e)) es)) ≡ true → list_any (bears_by p child) (births_of es) ≡ true
  told [] any = absurd (true≢false (sym any))
  told (e ∷ es) any =
      let first = ap (list_any (same_pid child)) (flat_map-append child_in (deeds_in p (what e)) (flat_map (λ e. deeds_in p (what e)) es))
      ∙ list_any-append (same_pid child) (births_in (deeds_in p (what e))) (births_in (flat_map (λ e. deeds_in p (what e)) es)) in
      list_any-append (bears_by p child) (born (what e)) (births_of es)
      ∙ told_by (what e) (list_any (same_pid child) (births_in (flat_map (λ e. deeds_in p (what e)) es))) (list_any (bears_by p child) (births_of es)) (sym first ∙ any) (told es)

  -- what a part of a log tells the log does
  after_told : (test : Entry → Bool) (es : List Entry) → list_any (bears_by p child) (births_of (after_last test es)) ≡ true → list_any (bears_by p child) (births_of es) ≡ true
  after_told test [] any = any
  after_told test (e ∷ es) any = by_tests (list_any test es) (test e) any (after_told test es)
    where
      more : list_any (bears_by p child) (births_of es) ≡ true → list_any (bears_by p child) (births_of (e ∷ es)) ≡ true
      more is = list_any-append (bears_by p child) (born (what e)) (births_of es) ∙ (λ i. list_any (bears_by p child) (born (what e)) || is i) ∙ or_true (list_any (bears_by p child) (born (what e)))

      by_tests : (x y : Bool) → list_any (bears_by p child) (births_of (cond x (after_last test es) (cond y es (e ∷ es)))) ≡ true → (list_any (bears_by p child) (births_of (after_last test es)) ≡ true → list_any (bears_by p child) (births_of es) ≡ true)
          → list_any (bears_by p child) (births_of (e ∷ es)) ≡ true
      by_tests true y any before = more (before any)
      by_tests false true any before = more any
      by_tests false false any before = any

-- the log tells of the child whose fork a process has to make again next
pub next_is_born : (system : System) (log : List Entry) (p : Pid) (s : ProcState) (counts : Counts) (child : Pid) (births : List Pid) → RollsAs system log p s counts (child ∷ births) → bears log p child ≡ true
next_is_born system log p s counts child births rolls = after_told p child (starts p) log (told p child (after_last (starts p) log) among)
  where
    among : list_any (same_pid child) (births_in (since log p)) ≡ true
    among =
        ap (list_any (same_pid child)) (ap births_in rolls.parts ∙ flat_map-append child_in rolls.done rolls.rest ∙ ap (λ bs. births_in rolls.done ++ bs) (sym rolls.births_left))
        ∙ list_any-append (same_pid child) (births_in rolls.done) (child ∷ births) ∙ (λ i. list_any (same_pid child) (births_in rolls.done) || (same_itself child i || list_any (same_pid child) births))
        ∙ or_true (list_any (same_pid child) (births_in rolls.done))
