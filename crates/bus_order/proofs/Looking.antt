-- The looks at the words of a script: what they change, and that after enough of them none is due.
use Rattle.std.proofs.Common.{◌≡◌, ℕ, zero, suc, ◌<◌, ◌≤◌, refl, sym, ◌∙◌, ap, subst, arith, List, [], ◌∷◌, length, length-append, Bool, true, false, cond, ◌⊎◌, inl, inr, Option, Some, None, Result, Ok, Err, true≢false}
use Rattle.std.specs.Prelude.{OnErr}
use Rattle.std.specs.List.{list_any}
use Rattle.bus_msg.specs.declared.entry.What.{What}
use Rattle.bus_msg.specs.declared.entry.By.TheVariants.{Bus}
use Rattle.cert_sched.specs.Appended.{entry_of}
use Rattle.cert_sched.specs.declared.script.ScriptWord.{ScriptWord}
use Rattle.cert_sched.specs.Schedule.{placement}
use Rattle.cert_sched.specs.Looked.{first_reached, given_by, is_reached, without_reached}
use Rattle.cert_sched.specs.Rules.{is_over}
use Rattle.bus_order.specs.View.{BusView, after_words, look_once, looks, with_given, with_look}
use Rattle.bus_order.proofs.WordsLaws.{length-without, none-found}

-- ---- one look

pub look_over : (b : BusView) → is_over b.system b.log ≡ true → look_once b ≡ b
look_over b over = ap (λ c. cond c b (with_look b (first_reached b.log b.left))) over

pub look_some : (b : BusView) (o : Option ScriptWord) → is_over b.system b.log ≡ false → first_reached b.log b.left ≡ o → look_once b ≡ with_look b o
look_some b o goes_on first = ap (λ c. cond c b (with_look b (first_reached b.log b.left))) goes_on ∙ ap (with_look b) first

-- ---- many

pub settled_stays : (n : ℕ) (b : BusView) → look_once b ≡ b → looks n b ≡ b
settled_stays zero b same = refl
settled_stays (suc n) b same = ap (looks n) same ∙ settled_stays n b same

-- one look more, the last one last
pub looks_more : (n : ℕ) (b : BusView) → looks (suc n) b ≡ look_once (looks n b)
looks_more zero b = refl
looks_more (suc n) b = looks_more n (look_once b)

-- where a look changes nothing, no later one does
pub stays_to : (n m : ℕ) (b : BusView) → n ≤ m → look_once (looks n b) ≡ looks n b → looks m b ≡ looks n b
stays_to zero m b within same = settled_stays m b same
stays_to (suc n) zero b within same = absurd (omega (arith, within))
stays_to (suc n) (suc m) b within same = stays_to n m (look_once b) (omega (arith, within)) same

-- ---- none is due any more

abbrev pub IsSettled : BusView → Type 0
IsSettled b = is_over b.system b.log ≡ false → list_any (is_reached (length b.log)) b.left ≡ false

none_in : {X : Type 0} (t : X → Bool) (xs : List X) → length xs ≤ 0 → list_any t xs ≡ false
none_in t [] none = refl
none_in t (x ∷ xs) none = absurd (omega (arith, none))

settled_within : (n : ℕ) (b : BusView) → length b.left ≤ n → IsSettled (looks n b)
settled_within zero b few = λ goes_on. none_in (is_reached (length b.log)) b.left few
settled_within (suc n) b few = by_end (is_over b.system b.log) refl (settled_within n (look_once b))
  where
    by_first : (o : Option ScriptWord) → is_over b.system b.log ≡ false → first_reached b.log b.left ≡ o → (length (look_once b).left ≤ n → IsSettled (looks n (look_once b))) → IsSettled (looks n (look_once b))
    by_first None goes_on first more =
        subst IsSettled (sym (settled_stays (suc n) b (look_some b None goes_on first))) (λ goes_on. none-found (is_reached (length b.log)) b.left first)
    by_first (Some w) goes_on first more =
        let fewer = length-without (is_reached (length b.log)) b.left w first in
        let left : (look_once b).left ≡ without_reached b.log b.left = ap (λ (b : BusView). b.left) (look_some b (Some w) goes_on first) in
        let long : length (look_once b).left ≡ length (without_reached b.log b.left) = ap length left in
        more (omega (arith, few, fewer, long))

    by_end : (c : Bool) → is_over b.system b.log ≡ c → (length (look_once b).left ≤ n → IsSettled (looks n (look_once b))) → IsSettled (looks n (look_once b))
    by_end true over more = subst IsSettled (sym (settled_stays (suc n) b (look_over b over))) (λ goes_on. absurd (true≢false (sym over ∙ goes_on)))
    by_end false goes_on more = by_first (first_reached b.log b.left) goes_on refl more

pub settled_after : (b : BusView) → IsSettled (after_words b)
settled_after b = settled_within (length b.left) b (omega arith)

-- ---- what they leave

-- the system and the script stay, and the log stays or is longer
pub record Grown (old new : BusView) : Type 0 where
  pub system : new.system ≡ old.system
  pub script : new.script ≡ old.script
  pub log : (new.log ≡ old.log) ⊎ (length old.log < length new.log)

grown_same : (b : BusView) → Grown b b
grown_same b = record { system = refl; script = refl; log = inl refl }

grown_given : (b : BusView) (o : Option What) (left : List ScriptWord) → Grown b (record (with_given b o) { left = left })
grown_given b None left = record { system = refl; script = refl; log = inl refl }
grown_given b (Some w) left = record { system = refl; script = refl; log = inr (omega (arith, length-append b.log (entry_of b.system b.log (record { by = Bus; what = w }) ∷ []))) }

grown_look : (b : BusView) (o : Option ScriptWord) → Grown b (with_look b o)
grown_look b None = grown_same b
grown_look b (Some w) = grown_given b (given_by (placement b.system b.log) w) (without_reached b.log b.left)

grown_once : (b : BusView) → Grown b (look_once b)
grown_once b = by_end (is_over b.system b.log)
  where
    by_end : (c : Bool) → Grown b (cond c b (with_look b (first_reached b.log b.left)))
    by_end true = grown_same b
    by_end false = grown_look b (first_reached b.log b.left)

grown_on : (a b c : BusView) → Grown a b → Grown b c → Grown a c
grown_on a b c first next = record { system = next.system ∙ first.system; script = next.script ∙ first.script; log = by_both first.log next.log }
  where
    by_both : (b.log ≡ a.log) ⊎ (length a.log < length b.log) → (c.log ≡ b.log) ⊎ (length b.log < length c.log) → (c.log ≡ a.log) ⊎ (length a.log < length c.log)
    by_both (inl x) (inl y) = inl (y ∙ x)
    by_both (inl x) (inr y) = inr (let e = ap length x in omega (arith, y, e))
    by_both (inr x) (inl y) = inr (let e = ap length y in omega (arith, x, e))
    by_both (inr x) (inr y) = inr (omega (arith, x, y))

pub grown : (n : ℕ) (b : BusView) → Grown b (looks n b)
grown zero b = grown_same b
grown (suc n) b = grown_on b (look_once b) (looks n (look_once b)) (grown_once b) (grown n (look_once b))

-- a log that is no longer than what was seen of the old one is the old one
pub same_log : (old new : BusView) (cursor : ℕ) → Grown old new → cursor ≤ length old.log → length new.log ≤ cursor → new.log ≡ old.log
same_log old new cursor grown seen all = by_log grown.log
  where
    by_log : (new.log ≡ old.log) ⊎ (length old.log < length new.log) → new.log ≡ old.log
    by_log (inl same) = same
    by_log (inr longer) = absurd (omega (arith, longer, seen, all))

-- ---- answers

pub on_err : {T E : Type 0} (r : Result T E) {P : Type 0} → P → OnErr r P
on_err (Ok x) p = tt
on_err (Err e) p = p
