-- What the words that are due leave of a bus: itself, or fewer words; and a log that they do not close.
use Rattle.std.proofs.Common.{◌≡◌, ℕ, zero, suc, ◌+◌, ◌<◌, ◌⊎◌, inl, inr, refl, sym, ◌∙◌, ap, subst, arith, List, [], ◌∷◌, length, Bool, true, false, cond, Option, Some, None}
use Rattle.std.specs.Prelude.{find}
use Rattle.std.proofs.lemmas.List.{length-map}
use Rattle.bus_msg.specs.declared.entry.By.TheVariants.{Bus}
use Rattle.bus_msg.specs.declared.entry.Cause.TheVariants.{Place}
use Rattle.bus_msg.specs.declared.entry.What.{What}
use Rattle.bus_msg.specs.declared.entry.What.TheVariants.{Crash, Return}
use Rattle.bus_msg.specs.Places.{Places, lives_in, is_lost_in}
use Rattle.proc_state.specs.Mail.{without_first}
use Rattle.cert_sched.specs.declared.script.ScriptWord.{ScriptWord}
use Rattle.cert_sched.specs.declared.script.ScriptWord.TheVariants.{CrashAt, CrashStep, DiskAt, ReturnAt}
use Rattle.cert_sched.specs.Appended.{entry_of}
use Rattle.cert_sched.specs.Looked.{first_reached, given_by, is_reached}
use Rattle.cert_sched.specs.Rules.{is_over}
use Rattle.cert_sched.specs.Schedule.{placement}
use Rattle.cert_sched.specs.Scripted.{closes, is_closed}
use Rattle.bus_order.specs.declared.marks.Mark.{Mark}
use Rattle.bus_order.specs.View.{BusView, after_words, look_once, looks, with_given, with_look}
use Rattle.bus_order.proofs.Looking.{look_over, look_some}
use Rattle.bus_order.proofs.OverLaws.{closed-snoc}

-- ---- one look

-- the first that passes is taken out
one_out : (t : ScriptWord → Bool) (ws : List ScriptWord) (w : ScriptWord) → find t ws ≡ Some w → length (without_first t ws) + 1 ≡ length ws
one_out t [] w found = cc
one_out t (x ∷ ws) w found = by_test (t x) found (one_out t ws w)
  where
    by_test : (b : Bool) → cond b (Some x) (find t ws) ≡ Some w → (find t ws ≡ Some w → length (without_first t ws) + 1 ≡ length ws) → length (cond b ws (x ∷ without_first t ws)) + 1 ≡ length (x ∷ ws)
    by_test true found more = omega arith
    by_test false found more = omega (arith, more found)

-- the bus is as it was, or has fewer words left
abbrev pub IsSameOrFewer : BusView → BusView → Type 0
IsSameOrFewer old new = (new ≡ old) ⊎ (length new.left < length old.left)

with_fewer : (b : BusView) (o : Option ScriptWord) → first_reached b.log b.left ≡ o → IsSameOrFewer b (with_look b o)
with_fewer b None first = inl refl
with_fewer b (Some w) first = inr (omega (arith, one_out (is_reached (length b.log)) b.left w first))

look_fewer : (b : BusView) → IsSameOrFewer b (look_once b)
look_fewer b = by_end (is_over b.system b.log) refl
  where
    by_end : (t : Bool) → is_over b.system b.log ≡ t → IsSameOrFewer b (look_once b)
    by_end true over = inl (look_over b over)
    by_end false goes_on = subst (IsSameOrFewer b) (sym (look_some b (first_reached b.log b.left) goes_on refl)) (with_fewer b (first_reached b.log b.left) refl)

then_fewer : (a b c : BusView) → IsSameOrFewer a b → IsSameOrFewer b c → IsSameOrFewer a c
then_fewer a b c (inl one) two = subst (λ x. IsSameOrFewer x c) one two
then_fewer a b c (inr one) (inl two) = inr (subst (λ (x : BusView). length x.left < length a.left) (sym two) one)
then_fewer a b c (inr one) (inr two) = inr (omega (arith, one, two))

looks_fewer : (n : ℕ) (b : BusView) → IsSameOrFewer b (looks n b)
looks_fewer zero b = inl refl
looks_fewer (suc n) b = then_fewer b (look_once b) (looks n (look_once b)) (look_fewer b) (looks_fewer n (look_once b))

pub words_fewer : (b : BusView) → IsSameOrFewer b (after_words b)
words_fewer b = looks_fewer (length b.left) b

-- ---- the log stays open

-- what a word gives closes no log
gives_open : (places : Places) (word : ScriptWord) (w : What) → given_by places word ≡ Some w → closes w ≡ false
gives_open places (CrashAt k place) w is = by_test (lives_in places k) is
  where
    by_test : (b : Bool) → cond b (Some (Crash k Place)) None ≡ Some w → closes w ≡ false
    by_test true is = let same : Crash k Place ≡ w = cc in ap closes (sym same)
    by_test false is = cc
gives_open places (CrashStep k step) w is = cc
gives_open places (DiskAt k call) w is = cc
gives_open places (ReturnAt k place) w is = by_test (is_lost_in places k) is
  where
    by_test : (b : Bool) → cond b (Some (Return k)) None ≡ Some w → closes w ≡ false
    by_test true is = let same : Return k ≡ w = cc in ap closes (sym same)
    by_test false is = cc

given_open : (b : BusView) (o : Option What) → ((w : What) → o ≡ Some w → closes w ≡ false) → is_closed b.log ≡ false → is_closed (with_given b o).log ≡ false
given_open b None none is = is
given_open b (Some w) none is = closed-snoc b.log (entry_of b.system b.log (record { by = Bus; what = w })) ∙ none w refl

look_open : (b : BusView) → is_closed b.log ≡ false → is_closed (look_once b).log ≡ false
look_open b is = by_end (is_over b.system b.log) refl
  where
    by_word : (o : Option ScriptWord) → is_closed (with_look b o).log ≡ false
    by_word None = is
    by_word (Some w) = given_open b (given_by (placement b.system b.log) w) (gives_open (placement b.system b.log) w) is

    by_end : (t : Bool) → is_over b.system b.log ≡ t → is_closed (look_once b).log ≡ false
    by_end true over = ap (λ (x : BusView). is_closed x.log) (look_over b over) ∙ is
    by_end false goes_on = ap (λ (x : BusView). is_closed x.log) (look_some b (first_reached b.log b.left) goes_on refl) ∙ by_word (first_reached b.log b.left)

looks_open : (n : ℕ) (b : BusView) → is_closed b.log ≡ false → is_closed (looks n b).log ≡ false
looks_open zero b is = is
looks_open (suc n) b is = looks_open n (look_once b) (look_open b is)

pub words_open : (b : BusView) → is_closed b.log ≡ false → is_closed (after_words b).log ≡ false
words_open b = looks_open (length b.left) b

-- ---- a place for each mark stays

look_marks : (b : BusView) → length (look_once b).marks ≡ length b.marks
look_marks b = by_end (is_over b.system b.log) refl
  where
    by_given : (o : Option What) → length (with_given b o).marks ≡ length b.marks
    by_given None = refl
    by_given (Some w) = length-map b.marks (λ (m : Option Mark). None)

    by_word : (o : Option ScriptWord) → length (with_look b o).marks ≡ length b.marks
    by_word None = refl
    by_word (Some w) = by_given (given_by (placement b.system b.log) w)

    by_end : (t : Bool) → is_over b.system b.log ≡ t → length (look_once b).marks ≡ length b.marks
    by_end true over = ap (λ (x : BusView). length x.marks) (look_over b over)
    by_end false goes_on = ap (λ (x : BusView). length x.marks) (look_some b (first_reached b.log b.left) goes_on refl) ∙ by_word (first_reached b.log b.left)

looks_marks : (n : ℕ) (b : BusView) → length (looks n b).marks ≡ length b.marks
looks_marks zero b = refl
looks_marks (suc n) b = looks_marks n (look_once b) ∙ look_marks b

pub words_marks : (b : BusView) → length (after_words b).marks ≡ length b.marks
words_marks b = looks_marks (length b.left) b
