-- The pids that may have a step, among which are those of all processes that have one.
use Rattle.std.proofs.lemmas.Bool.{false≢true}
use Rattle.std.proofs.lemmas.Bool.Decides.{nat_tests}
use Rattle.std.proofs.Common.{◌≡◌, ℕ, Bool, true, false, true≢false, cond, ◌||◌, List, [], ◌∷◌, map, refl, sym, ap, ◌∙◌, subst, arith, Option, Some, None, option_map}
use Rattle.std.specs.Option.{option_map_or}
use Rattle.std.specs.Ordering.{nat_cmp, is_gt}
use Rattle.std.specs.declared.cmp.Ordering.TheVariants.{Less}
use Rattle.std.specs.List.{AllByRecursion, list_any}
use Rattle.std.specs.List.Sorted.{IsStrictlySortedBy}
use Rattle.std.specs.Map.{lookup}
use Rattle.proc_state.specs.declared.process.Process.{Process}
use Rattle.proc_state.specs.State.{state_of}
use Rattle.sys_calls.specs.Next.{has_step, next_step}
use Rattle.plain_kernel.specs.Maps.{at_key, lowest_of, Covers, IsFirst, IsTurn, RunsAt, SameBut}
use Rattle.plain_kernel.specs.Candidates.{HasOneMore}
use Rattle.plain_kernel.proofs.Entries.{found_after, others_stay, tied}
use Rattle.plain_kernel.proofs.First.{found_at, first_able}
use Rattle.plain_kernel.proofs.Turns.{has_turn}

abbrev keys : {X : Type 0} → List (ℕ × X) → List ℕ
keys es = map (λ e. e.0) es

abbrev able : Process → Bool
able p = has_step (next_step (state_of p))

-- ---- what is kept where processes change

same_key : (k q : ℕ) → at_key k q ≡ true → k ≡ q
same_key k q same = grind (arith, nat_tests)

listed_at : (k q : ℕ) (ready : List ℕ) → at_key k q ≡ true → list_any (at_key k) ready ≡ true → list_any (at_key q) ready ≡ true
listed_at k q ready same listed = subst (λ n. list_any (at_key n) ready ≡ true) (same_key k q same) listed

-- processes changed that are among them
covers_but : (touched : ℕ → Bool) (old new : List (ℕ × Process)) (ready : List ℕ) → SameBut touched old new → ((q : ℕ) → touched q ≡ true → list_any (at_key q) ready ≡ true) → Covers old ready → Covers new ready
covers_but touched old new ready same listed covers = λ q p found steps. by_test q p found steps (touched q) refl
  where
    by_test : (q : ℕ) (p : Process) → lookup (at_key q) new ≡ Some p → able p ≡ true → (b : Bool) → touched q ≡ b → list_any (at_key q) ready ≡ true
    by_test q p found steps true is = listed q is
    by_test q p found steps false is = covers q p (sym (same q is) ∙ found) steps

pub covers_one : (pid : ℕ) (old new : List (ℕ × Process)) (ready : List ℕ) → SameBut (at_key pid) old new → list_any (at_key pid) ready ≡ true → Covers old ready → Covers new ready
covers_one pid old new ready same listed = covers_but (at_key pid) old new ready same (λ q is. listed_at pid q ready is listed)

covers_two : (pid to : ℕ) (old new : List (ℕ × Process)) (ready : List ℕ) → SameBut (λ q. at_key pid q || at_key to q) old new → list_any (at_key pid) ready ≡ true → list_any (at_key to) ready ≡ true → Covers old ready → Covers new ready
covers_two pid to old new ready same listed receiver = covers_but (λ q. at_key pid q || at_key to q) old new ready same (λ q is. by_test q (at_key pid q) refl is)
  where
    by_test : (q : ℕ) (b : Bool) → at_key pid q ≡ b → (b || at_key to q) ≡ true → list_any (at_key q) ready ≡ true
    by_test q true is either = listed_at pid q ready is listed
    by_test q false is either = listed_at to q ready either receiver

-- ---- one more, and one less

listed_more : (n : ℕ) (ready more : List ℕ) → HasOneMore n ready more → (q : ℕ) → list_any (at_key q) ready ≡ true → list_any (at_key q) more ≡ true
listed_more n ready more puts q listed = puts q ∙ either (at_key n q) (list_any (at_key q) ready) listed
  where
    either : (b c : Bool) → c ≡ true → cond b true c ≡ true
    either true c is = refl
    either false c is = is

-- it is in it itself
pub receiver_in : (n : ℕ) (ready more : List ℕ) → HasOneMore n ready more → list_any (at_key n) more ≡ true
receiver_in n ready more puts = puts n ∙ rw (tied n) refl

covers_more : (es : List (ℕ × Process)) (n : ℕ) (ready more : List ℕ) → HasOneMore n ready more → Covers es ready → Covers es more
covers_more es n ready more puts covers = λ q p found steps. listed_more n ready more puts q (covers q p found steps)

-- one that has no step is taken out
pub covers_less : (es : List (ℕ × Process)) (pid : ℕ) (ready less : List ℕ) → option_map_or able (lookup (at_key pid) es) false ≡ false → ((q : ℕ) → at_key pid q ≡ false → list_any (at_key q) less ≡ list_any (at_key q) ready)
    → Covers es ready → Covers es less
covers_less es pid ready less asked keeps covers = λ q p found steps. by_test q p found steps (at_key pid q) refl
  where
    by_test : (q : ℕ) (p : Process) → lookup (at_key q) es ≡ Some p → able p ≡ true → (b : Bool) → at_key pid q ≡ b → list_any (at_key q) less ≡ true
    by_test q p found steps true is =
        let here : lookup (at_key pid) es ≡ Some p = ap (λ n. lookup (at_key n) es) (same_key pid q is) ∙ found in
        absurd (true≢false (sym steps ∙ sym (ap (λ o. option_map_or able o false) here) ∙ asked))
    by_test q p found steps false is = keeps q is ∙ covers q p found steps

-- ---- a turn

turn_listed : (pid : ℕ) (es : List (ℕ × Process)) (ready : List ℕ) → IsStrictlySortedBy nat_cmp (keys es) → IsTurn (Some pid) es → Covers es ready → list_any (at_key pid) ready ≡ true
turn_listed pid es ready ordered turn covers =
    let h = has_turn pid es turn in
    covers pid h.process (found_at (λ (e : ℕ × Process). able e.1) es (pid, h.process) ordered h.first) (first_able (λ (e : ℕ × Process). able e.1) es (pid, h.process) h.first)

-- the process that has the turn changed no other
pub covers_went : (ps qs rs : List (ℕ × Process)) (ready : List ℕ) (pid n : ℕ) → IsStrictlySortedBy nat_cmp (keys ps) → IsTurn (Some pid) ps → RunsAt ps qs pid n → SameBut (at_key pid) qs rs → Covers ps ready → Covers rs ready
covers_went ps qs rs ready pid n ordered turn r same covers =
    let listed = turn_listed pid ps ready ordered turn covers in
    covers_one pid qs rs ready same listed (covers_one pid ps qs ready (others_stay ps qs pid r.was r.now r.changes) listed covers)

-- it sent a letter to one that was put among them
pub covers_sent : (ps qs rs : List (ℕ × Process)) (ready more : List ℕ) (pid to n : ℕ) → IsStrictlySortedBy nat_cmp (keys ps) → IsTurn (Some pid) ps → RunsAt ps qs pid n → SameBut (λ q. at_key pid q || at_key to q) qs rs
    → HasOneMore to ready more → list_any (at_key to) more ≡ true → Covers ps ready → Covers rs more
covers_sent ps qs rs ready more pid to n ordered turn r same puts receiver covers =
    let listed = turn_listed pid ps ready ordered turn covers in
    covers_two pid to qs rs more same (listed_more to ready more puts pid listed) receiver
    (covers_more qs to ready more puts (covers_one pid ps qs ready (others_stay ps qs pid r.was r.now r.changes) listed covers))

-- ---- the lowest of them that has a step

record AtMost (pid : ℕ) (o : Option (ℕ × Process)) : Type 0 where
  entry : ℕ × Process
  is : o ≡ Some entry
  at_most : is_gt (nat_cmp entry.0 pid) ≡ false

same_not_above : (k x : ℕ) → at_key k x ≡ true → is_gt (nat_cmp x k) ≡ false
same_not_above k x same = grind (arith, nat_tests)

same_number : (x y : ℕ) → is_gt (nat_cmp x y) ≡ false → is_gt (nat_cmp y x) ≡ false → x ≡ y
same_number x y p q = grind (arith, nat_tests)

able_above : (x pid : ℕ) (es : List (ℕ × Process)) → AllByRecursion (λ y. nat_cmp x y ≡ Less) (keys es) → option_map_or able (lookup (at_key pid) es) false ≡ true → nat_cmp x pid ≡ Less
able_above x pid [] later asked = absurd (false≢true asked)
able_above x pid (e ∷ es) later asked = by_test (at_key pid e.0) refl asked (λ asked. able_above x pid es later.1 asked)
  where
    by_test : (b : Bool) → at_key pid e.0 ≡ b → option_map_or able (cond b (Some e.1) (lookup (at_key pid) es)) false ≡ true → (option_map_or able (lookup (at_key pid) es) false ≡ true → nat_cmp x pid ≡ Less) → nat_cmp x pid ≡ Less
    by_test true is asked more = ap (nat_cmp x) (same_key pid e.0 is) ∙ later.0
    by_test false is asked more = more asked

-- where a process has a step, the first that has one is not above it
first_at_most : (pid : ℕ) (es : List (ℕ × Process)) → IsStrictlySortedBy nat_cmp (keys es) → option_map_or able (lookup (at_key pid) es) false ≡ true → AtMost pid (lowest_of es)
unfolding IsStrictlySortedBy
first_at_most pid [] ordered asked = absurd (false≢true asked)
first_at_most pid (e ∷ es) ordered asked = by_tests (at_key pid e.0) refl (able e.1) refl asked (λ asked. first_at_most pid es ordered.1 asked)
  where
    by_tests : (b : Bool) → at_key pid e.0 ≡ b → (c : Bool) → able e.1 ≡ c → option_map_or able (cond b (Some e.1) (lookup (at_key pid) es)) false ≡ true → (option_map_or able (lookup (at_key pid) es) false ≡ true → AtMost pid (lowest_of es))
        → AtMost pid (cond c (Some e) (lowest_of es))
    by_tests true is true steps asked more = record { entry = e; is = refl; at_most = same_not_above pid e.0 is }
    by_tests true is false steps asked more = absurd (true≢false (sym asked ∙ steps))
    by_tests false is true steps asked more = record { entry = e; is = refl; at_most = ap is_gt (able_above e.0 pid es ordered.0 asked) }
    by_tests false is false steps asked more = more asked

pub lowest_listed : (es : List (ℕ × Process)) (pid : ℕ) (ready : List ℕ) → IsStrictlySortedBy nat_cmp (keys es) → Covers es ready → ((q : ℕ) → list_any (at_key q) ready ≡ true → is_gt (nat_cmp pid q) ≡ false)
    → option_map_or able (lookup (at_key pid) es) false ≡ true → IsTurn (Some pid) es
lowest_listed es pid ready ordered covers least asked =
    let first = first_at_most pid es ordered asked in
    let listed = covers (first.entry).0 (first.entry).1 (found_at (λ (e : ℕ × Process). able e.1) es first.entry ordered first.is) (first_able (λ (e : ℕ × Process). able e.1) es first.entry first.is) in
    ap Some (same_number pid (first.entry).0 (least (first.entry).0 listed) first.at_most) ∙ ap (option_map (λ (e : ℕ × Process). e.0)) (sym first.is)

-- the first of them had the turn, where it had a step
pub turn_of : (ps qs : List (ℕ × Process)) (ready : List ℕ) (pid n : ℕ) → IsStrictlySortedBy nat_cmp (keys ps) → IsFirst pid ready → Covers ps ready → (r : RunsAt ps qs pid n) → able r.was ≡ true → IsTurn (Some pid) ps
turn_of ps qs ready pid n ordered first covers r steps = lowest_listed ps pid ready ordered covers first.1 (ap (λ o. option_map_or able o false) (r.changes).found ∙ steps)

-- it was stuck, and is taken out
pub covers_stuck : (ps qs rs : List (ℕ × Process)) (ready less : List ℕ) (pid n : ℕ) → IsFirst pid ready → (r : RunsAt ps qs pid n) → able r.now ≡ false → rs ≡ qs
    → ((q : ℕ) → at_key pid q ≡ false → list_any (at_key q) less ≡ list_any (at_key q) ready) → Covers ps ready → Covers rs less
covers_stuck ps qs rs ready less pid n first r stuck same keeps covers =
    let here : lookup (at_key pid) qs ≡ Some r.now = found_after ps qs pid r.was r.now r.changes in
    subst (λ es. Covers es less) (sym same)
    (covers_less qs pid ready less (ap (λ o. option_map_or able o false) here ∙ stuck) keeps (covers_one pid ps qs ready (others_stay ps qs pid r.was r.now r.changes) first.0 covers))

-- one that is not there is taken out
pub covers_nobody : (ps rs : List (ℕ × Process)) (ready less : List ℕ) (pid : ℕ) → lookup (at_key pid) ps ≡ None → rs ≡ ps → ((q : ℕ) → at_key pid q ≡ false → list_any (at_key q) less ≡ list_any (at_key q) ready) → Covers ps ready → Covers rs less
covers_nobody ps rs ready less pid none same keeps covers =
    subst (λ es. Covers es less) (sym same) (covers_less ps pid ready less (ap (λ o. option_map_or able o false) none) keeps covers)

-- where none is left, none has a step
pub none_listed : (es : List (ℕ × Process)) (ready : List ℕ) → IsStrictlySortedBy nat_cmp (keys es) → Covers es ready → ready ≡ [] → IsTurn None es
none_listed es ready ordered covers none = by_case (lowest_of es) refl
  where
    by_case : (o : Option (ℕ × Process)) → lowest_of es ≡ o → IsTurn None es
    by_case None is = ap (option_map (λ (e : ℕ × Process). e.0)) (sym is)
    by_case (Some e) is =
        absurd (false≢true (sym (ap (list_any (at_key e.0)) none) ∙ covers e.0 e.1 (found_at (λ (e : ℕ × Process). able e.1) es e ordered is) (first_able (λ (e : ℕ × Process). able e.1) es e is)))

-- ---- every pid

any_key : (q : ℕ) (p : Process) (es : List (ℕ × Process)) → lookup (at_key q) es ≡ Some p → list_any (at_key q) (keys es) ≡ true
any_key q p [] found = cc
any_key q p (e ∷ es) found = by_test (at_key q e.0) found (λ found. any_key q p es found)
  where
    by_test : (b : Bool) → cond b (Some e.1) (lookup (at_key q) es) ≡ Some p → (lookup (at_key q) es ≡ Some p → list_any (at_key q) (keys es) ≡ true) → (b || list_any (at_key q) (keys es)) ≡ true
    by_test true found more = refl
    by_test false found more = more found

-- every pid is among those that were put in and those that are left
abbrev pub AreAll : List ℕ → List ℕ → List ℕ → Type 0
AreAll ready left all = (q : ℕ) → (list_any (at_key q) ready || list_any (at_key q) left) ≡ list_any (at_key q) all

pub put_next : (n : ℕ) (ready more left rest all : List ℕ) → HasOneMore n ready more → left ≡ n ∷ rest → AreAll ready left all → AreAll more rest all
put_next n ready more left rest all puts next before = λ q.
    ap (λ b. b || list_any (at_key q) rest) (puts q ∙ ap (λ b. cond b true (list_any (at_key q) ready)) (flipped n q))
    ∙ moved (at_key q n) (list_any (at_key q) ready) (list_any (at_key q) rest)
    ∙ ap (λ l. list_any (at_key q) ready || list_any (at_key q) l) (sym next)
    ∙ before q
  where
    flipped : (k q : ℕ) → at_key k q ≡ at_key q k
    flipped k q = grind (arith, nat_tests)

    moved : (a b c : Bool) → (cond a true b || c) ≡ (b || (a || c))
    moved true true c = refl
    moved true false c = refl
    moved false b c = refl

pub covers_all : (es : List (ℕ × Process)) (ready left : List ℕ) → left ≡ [] → AreAll ready left (keys es) → Covers es ready
covers_all es ready left none before = λ q p found steps. alone (list_any (at_key q) ready) ∙ ap (λ l. list_any (at_key q) ready || list_any (at_key q) l) (sym none) ∙ before q ∙ any_key q p es found
  where
    alone : (b : Bool) → b ≡ (b || false)
    alone true = refl
    alone false = refl
