-- What is known of the words that are left tells where none is due, and where none is for a step or a disk call.
use Rattle.std.proofs.Common.{◌≡◌, ℕ, refl, sym, ◌∙◌, ap, arith, List, [], ◌∷◌, Bool, true, false, not, ◌||◌, Option, Some, None, true≢false}
use Rattle.std.specs.Prelude.{find, fold, min, nat_le}
use Rattle.std.specs.List.{list_any}
use Rattle.std.proofs.lemmas.Bool.{leb-true, leb-false, le-leb, lt-leb}
use Rattle.t32_base.specs.declared.process.ClusterNo.{ClusterNo}
use Rattle.bus_msg.specs.declared.entry.Cause.{Cause}
use Rattle.bus_msg.specs.declared.entry.Cause.TheVariants.{Place, Step, Disk}
use Rattle.cert_sched.specs.declared.script.ScriptWord.{ScriptWord}
use Rattle.cert_sched.specs.declared.script.ScriptWord.TheVariants.{CrashAt, CrashStep, DiskAt, ReturnAt}
use Rattle.cert_sched.specs.Looked.{is_bus_word, is_reached}
use Rattle.bus_order.specs.Left.{has_counted, is_counted_word, is_due, least_place, lesser_place, place_named}
use Rattle.bus_order.specs.Script.{has_unused, is_word_for}
use Rattle.bus_order.proofs.WordsLaws.{any-weaker, find-none}

or-false : (b : Bool) → (b || false) ≡ b
or-false true = refl
or-false false = refl

or-assoc : (a b c : Bool) → ((a || b) || c) ≡ (a || (b || c))
or-assoc true b c = refl
or-assoc false b c = refl

-- ---- the least place

-- the lesser of two places was reached where one of them was
lesser_due : (n : ℕ) (a b : Option ℕ) → is_due n (lesser_place a b) ≡ (is_due n a || is_due n b)
lesser_due n None b = refl
lesser_due n (Some a) None = sym (or-false (nat_le a n))
lesser_due n (Some a) (Some b) = by_tests (nat_le a n) (nat_le b n) refl refl
  where
    by_tests : (p q : Bool) → nat_le a n ≡ p → nat_le b n ≡ q → nat_le (min a b) n ≡ (p || q)
    by_tests true q this that = let within = leb-true a n this in le-leb (min a b) n (omega (arith, within))
    by_tests false true this that = let within = leb-true b n that in le-leb (min a b) n (omega (arith, within))
    by_tests false false this that = let over = leb-false a n this in let too = leb-false b n that in lt-leb (min a b) n (omega (arith, over, too))

word_due : (n : ℕ) (w : ScriptWord) → is_due n (place_named w) ≡ is_reached n w
word_due n (CrashAt k place) = refl
word_due n (CrashStep k step) = refl
word_due n (DiskAt k call) = refl
word_due n (ReturnAt k place) = refl

-- so it is beside any least place of words before them
due_from : (n : ℕ) (words : List ScriptWord) (least : Option ℕ) → is_due n (fold (λ least w. lesser_place least (place_named w)) least words) ≡ (is_due n least || list_any (is_reached n) words)
due_from n [] least = sym (or-false (is_due n least))
due_from n (w ∷ words) least =
    due_from n words (lesser_place least (place_named w))
    ∙ ap (λ c. c || list_any (is_reached n) words) (lesser_due n least (place_named w) ∙ ap (λ c. is_due n least || c) (word_due n w))
    ∙ or-assoc (is_due n least) (is_reached n w) (list_any (is_reached n) words)

-- a word was reached exactly where the least place was
pub least_reached : (n : ℕ) (words : List ScriptWord) → is_due n (least_place words) ≡ list_any (is_reached n) words
least_reached n words = due_from n words None

-- where it was not, the words have no first that was
pub none_due : (n : ℕ) (words : List ScriptWord) → is_due n (least_place words) ≡ false → find (is_reached n) words ≡ None
none_due n words none = find-none (is_reached n) words (sym (least_reached n words) ∙ none)

-- ---- words for a step or a disk call

pub word_not_bus : (k : ClusterNo) (cause : Cause) (w : ScriptWord) → is_word_for k cause w ≡ true → is_bus_word w ≡ false
word_not_bus k Place w h = absurd (true≢false (sym h))
word_not_bus k (Step n) (CrashAt j place) h = absurd (true≢false (sym h))
word_not_bus k (Step n) (CrashStep j step) h = refl
word_not_bus k (Step n) (DiskAt j call) h = refl
word_not_bus k (Step n) (ReturnAt j place) h = absurd (true≢false (sym h))
word_not_bus k (Disk n) (CrashAt j place) h = absurd (true≢false (sym h))
word_not_bus k (Disk n) (CrashStep j step) h = refl
word_not_bus k (Disk n) (DiskAt j call) h = refl
word_not_bus k (Disk n) (ReturnAt j place) h = absurd (true≢false (sym h))

-- where none is left, none for this loss is
pub none_counted : (k : ClusterNo) (cause : Cause) (words : List ScriptWord) → has_counted words ≡ false → has_unused words k cause ≡ false
none_counted k cause words none = any-weaker (is_word_for k cause) is_counted_word (λ w is. ap not (word_not_bus k cause w is)) words none
