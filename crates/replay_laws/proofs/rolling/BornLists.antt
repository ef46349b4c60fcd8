-- Laws of lists of children: which states stand behind which pids, and that none is alike another.
use Rattle.std.proofs.Common.{◌≡◌, refl, sym, ◌∙◌, ap, arith, List, [], ◌∷◌, ◌++◌, map, length, Bool, true, false, not, ◌||◌, eq-eqb, ne_eqb, Option, Some, is_some, true≢false}
use Rattle.std.specs.List.{list_any}
use Rattle.std.proofs.lemmas.List.Folds.{list_any-append}
use Rattle.std.proofs.lemmas.Bool.{or_parts}
use Rattle.t32_base.specs.declared.process.Pid.{Pid}
use Rattle.proc_state.specs.State.{ProcState}
use Rattle.bus_msg.specs.Places.{same_pid}
use Rattle.cert_sched.proofs.CameLaws.{same_of}

-- ---- lists that are alike

pub record SameParts {X : Type 0} (x y : X) (xs ys : List X) : Type 0 where
  pub first : x ≡ y
  pub rest : xs ≡ ys

pub same_parts : {X : Type 0} (x y : X) (xs ys : List X) → (x ∷ xs) ≡ (y ∷ ys) → SameParts x y xs ys
same_parts {X} x y xs ys e = record { first = ap (λ l. head_or l x) e; rest = ap tail_of e }
  where
    head_or : List X → X → X
    head_or [] d = d
    head_or (z ∷ zs) d = z

    tail_of : List X → List X
    tail_of [] = []
    tail_of (z ∷ zs) = zs

-- ---- the states of some pids

-- what leaves the state of each leaves all
pub same_states : (f g : Pid → Option ProcState) (xs : List ProcState) (bs : List Pid) → map Some xs ≡ map f bs → ((c : Pid) (x : ProcState) → f c ≡ Some x → g c ≡ f c) → map g bs ≡ map f bs
same_states f g xs [] are same = refl
same_states f g [] (b ∷ bs) are same = cc
same_states f g (x ∷ xs) (b ∷ bs) are same =
    let parts = same_parts (Some x) (f b) (map Some xs) (map f bs) are in
    λ i. same b x (sym parts.first) i ∷ same_states f g xs bs parts.rest same i

-- each of them has one
pub state_there : (f : Pid → Option ProcState) (xs : List ProcState) (bs : List Pid) (c : Pid) → map Some xs ≡ map f bs → list_any (same_pid c) bs ≡ true → is_some (f c) ≡ true
state_there f xs [] c are among = absurd (true≢false (sym among))
state_there f [] (b ∷ bs) c are among = cc
state_there f (x ∷ xs) (b ∷ bs) c are among =
    let parts = same_parts (Some x) (f b) (map Some xs) (map f bs) are in
    by_pid parts.first (same_pid c b) refl among (state_there f xs bs c parts.rest)
  where
    by_pid : Some x ≡ f b → (t : Bool) → same_pid c b ≡ t → (t || list_any (same_pid c) bs) ≡ true → (list_any (same_pid c) bs ≡ true → is_some (f c) ≡ true) → is_some (f c) ≡ true
    by_pid first true same h more = ap (λ q. is_some (f q)) (same_of c b same) ∙ ap is_some (sym first)
    by_pid first false other h more = more h

-- the one behind as many others
pub state_behind : (f : Pid → Option ProcState) (xs ys : List ProcState) (x : ProcState) (bs cs : List Pid) (c : Pid) → length xs ≡ length bs → map Some (xs ++ x ∷ ys) ≡ map f (bs ++ c ∷ cs) → f c ≡ Some x
state_behind f [] ys x [] cs c many are = sym (same_parts (Some x) (f c) (map Some ys) (map f cs) are).first
state_behind f [] ys x (b ∷ bs) cs c many are = absurd (omega (arith, many))
state_behind f (z ∷ xs) ys x [] cs c many are = absurd (omega (arith, many))
state_behind f (z ∷ xs) ys x (b ∷ bs) cs c many are =
    state_behind f xs ys x bs cs c (omega (arith, many)) (same_parts (Some z) (f b) (map Some (xs ++ x ∷ ys)) (map f (bs ++ c ∷ cs)) are).rest

-- ---- pids that are all apart

abbrev pub AllApart : List Pid → Type 0
AllApart [] = Unit {0}
AllApart (c ∷ cs) = (list_any (same_pid c) cs ≡ false) × AllApart cs

turned : (a b : Pid) → same_pid a b ≡ false → same_pid b a ≡ false
turned a b h = ne_eqb b.0 a.0 (λ e. true≢false (sym (eq-eqb a.0 b.0 (sym e)) ∙ h))

pub apart_more : (bs : List Pid) (c : Pid) → AllApart bs → list_any (same_pid c) bs ≡ false → AllApart (bs ++ c ∷ [])
apart_more [] c apart none = (refl, tt)
apart_more (b ∷ bs) c apart none =
    let parts = or_parts (same_pid c b) (list_any (same_pid c) bs) none in
    (list_any-append (same_pid b) bs (c ∷ []) ∙ (λ i. apart.0 i || (turned c b parts.0 i || false)), apart_more bs c apart.1 parts.1)

-- those of a second part are none of the first
pub apart_parts : (xs bs : List Pid) (c : Pid) → AllApart (xs ++ bs) → list_any (same_pid c) xs ≡ true → list_any (same_pid c) bs ≡ false
apart_parts [] bs c apart among = absurd (true≢false (sym among))
apart_parts (x ∷ xs) bs c apart among = by_pid (same_pid c x) refl among (apart_parts xs bs c apart.1)
  where
    by_pid : (t : Bool) → same_pid c x ≡ t → (t || list_any (same_pid c) xs) ≡ true → (list_any (same_pid c) xs ≡ true → list_any (same_pid c) bs ≡ false) → list_any (same_pid c) bs ≡ false
    by_pid true same h more =
        ap (λ q. list_any (same_pid q) bs) (same_of c x same)
        ∙ (or_parts (list_any (same_pid x) xs) (list_any (same_pid x) bs) (sym (list_any-append (same_pid x) xs bs) ∙ apart.0)).1
    by_pid false other h more = more h

-- and are apart
pub apart_rest : (xs bs : List Pid) → AllApart (xs ++ bs) → AllApart bs
apart_rest [] bs apart = apart
apart_rest (x ∷ xs) bs apart = apart_rest xs bs apart.1

-- so who is in both parts together is in one of them
pub in_one_part : (xs bs : List Pid) (c : Pid) → AllApart (xs ++ bs) → list_any (same_pid c) (xs ++ bs) ≡ true → list_any (same_pid c) xs ≡ not (list_any (same_pid c) bs)
in_one_part xs bs c apart among = by_first (list_any (same_pid c) xs) refl (sym (list_any-append (same_pid c) xs bs) ∙ among)
  where
    by_first : (t : Bool) → list_any (same_pid c) xs ≡ t → (t || list_any (same_pid c) bs) ≡ true → t ≡ not (list_any (same_pid c) bs)
    by_first true there h = sym (ap not (apart_parts xs bs c apart there))
    by_first false none h = sym (ap not h)
