-- The looks at the words of a script add losses and returns alone, and leave the log legal and one of the script.
use Rattle.std.proofs.Common.{◌≡◌, ℕ, zero, suc, refl, sym, ◌∙◌, ap, subst, arith, List, [], ◌∷◌, ◌++◌, append_assoc, append-nil, length, length-append, Bool, true, false, cond, ◌||◌, ◌⊎◌, inl, inr, eq-eqb, nat_le, Option, Some, None, unwrap_or, true≢false}
use Rattle.std.specs.Prelude.{find}
use Rattle.std.specs.List.{list_any, list_all}
use Rattle.std.proofs.lemmas.Bool.{and_from, and_parts, or_parts}
use Rattle.std.proofs.lemmas.List.Folds.{list_all-append}
use Rattle.t32_base.specs.declared.process.ClusterNo.{ClusterNo}
use Rattle.proc_state.specs.Mail.{without_first}
use Rattle.bus_msg.specs.declared.entry.What.{What}
use Rattle.bus_msg.specs.declared.entry.What.TheVariants.{Crash, Return}
use Rattle.bus_msg.specs.declared.entry.Cause.TheVariants.{Place}
use Rattle.bus_msg.specs.declared.entry.Entry.{Entry}
use Rattle.bus_msg.specs.Places.{is_lost_in, lives_in, same_cluster}
use Rattle.bus_msg.specs.PlacedAfter.{what}
use Rattle.cert_sched.specs.declared.script.ScriptWord.{ScriptWord}
use Rattle.cert_sched.specs.declared.script.ScriptWord.TheVariants.{CrashAt, CrashStep, DiskAt, ReturnAt}
use Rattle.cert_sched.specs.Schedule.{placement}
use Rattle.cert_sched.specs.Rules.{is_bus, is_over}
use Rattle.cert_sched.specs.Legal.{IsLegalBy, MayStand}
use Rattle.cert_sched.specs.Looked.{first_reached, given_by, is_given, is_reached, without_reached}
use Rattle.cert_sched.specs.Losses.{is_crash_of, is_loss_word}
use Rattle.cert_sched.specs.Simulation.{crash_entry}
use Rattle.cert_sched.proofs.ListLaws.{list_all-weaker}
use Rattle.cert_sched.proofs.LogLaws.{IsLegal-snoc}
use Rattle.bus_order.specs.Script.{is_word_for}
use Rattle.bus_order.specs.View.{BusView, KeepsScript, after_words, look_once, looks, no_marks, return_entry, with_given}
use Rattle.bus_order.proofs.WordsLaws.{all-without, found_passes, length-without}
use Rattle.bus_order.proofs.Looking.{look_over, look_some, settled_stays}
use Rattle.bus_order.proofs.Keeping.{IsMore, reached_no_word, scripted_more, scripted_passed}
use Rattle.bus_order.proofs.Losing.{given_loses, loss_more}
use Rattle.bus_order.proofs.Returning.{given_returns, return_more}
use Rattle.script_laws.specs.Added.{AddsTurns, is_bus_loss, is_bus_turn, is_its_word}
use Rattle.script_laws.specs.Crashes.{is_loss}
use Rattle.cert_sched.proofs.MayLaws.{may_stand}

-- ---- lists

-- where one passes that is found, one passes
pub found_any : {X : Type 0} (t u : X → Bool) (xs : List X) (x : X) → find t xs ≡ Some x → u x ≡ true → list_any u xs ≡ true
found_any t u [] x found is = cc
found_any t u (y ∷ xs) x found is = by_test (t y) found (found_any t u xs x)
  where
    or_right : (a b : Bool) → b ≡ true → (a || b) ≡ true
    or_right true b h = refl
    or_right false b h = h

    by_test : (b : Bool) → cond b (Some y) (find t xs) ≡ Some x → (find t xs ≡ Some x → u x ≡ true → list_any u xs ≡ true) → (u y || list_any u xs) ≡ true
    by_test true e more = let same : y ≡ x = ap (λ o. unwrap_or o y) e in ap (λ b. b || list_any u xs) (ap u same ∙ is)
    by_test false e more = or_right (u y) (list_any u xs) (more e is)

-- what passes without one of them passes with it
pub any-within : {X : Type 0} (t u : X → Bool) (xs : List X) → list_any u (without_first t xs) ≡ true → list_any u xs ≡ true
any-within t u [] some = some
any-within t u (x ∷ xs) some = by_test (t x) (u x) some (any-within t u xs)
  where
    by_test : (a b : Bool) → list_any u (cond a xs (x ∷ without_first t xs)) ≡ true → (list_any u (without_first t xs) ≡ true → list_any u xs ≡ true) → (u x || list_any u xs) ≡ true
    by_test true b some more = by_here (u x)
      where
        by_here : (c : Bool) → (c || list_any u xs) ≡ true
        by_here true = refl
        by_here false = some
    by_test false b some more = by_here (u x) some
      where
        by_here : (c : Bool) → (c || list_any u (without_first t xs)) ≡ true → (c || list_any u xs) ≡ true
        by_here true h = refl
        by_here false h = more h

-- one that does not pass changes nothing
any-without : {X : Type 0} (t u : X → Bool) → ((x : X) → t x ≡ true → u x ≡ false) → (xs : List X) → list_any u (without_first t xs) ≡ list_any u xs
any-without t u apart [] = refl
any-without t u apart (x ∷ xs) = by_test (t x) refl (any-without t u apart xs)
  where
    by_test : (a : Bool) → t x ≡ a → list_any u (without_first t xs) ≡ list_any u xs → list_any u (cond a xs (x ∷ without_first t xs)) ≡ (u x || list_any u xs)
    by_test true is more = sym (ap (λ b. b || list_any u xs) (apart x is))
    by_test false is more = ap (λ b. u x || b) more

none_first : {X : Type 0} (t : X → Bool) (xs : List X) → list_any t xs ≡ false → find t xs ≡ None
none_first t [] none = refl
none_first t (x ∷ xs) none =
    let parts = or_parts (t x) (list_any t xs) none in
    ap (λ b. cond b (Some x) (find t xs)) parts.0 ∙ none_first t xs parts.1

-- ---- what is added

adds_nothing : (b : BusView) → AddsTurns b b
adds_nothing b = record {
  system = refl;
  script = refl;
  more = [];
  added = sym (append-nil b.log);
  turns = refl;
  by_words = refl;
  fewer = omega arith;
  within = λ test some. some;
  unused = λ k cause. refl;
}

adds_on : (a b c : BusView) → AddsTurns a b → AddsTurns b c → AddsTurns a c
adds_on a b c first next = record {
  system = next.system ∙ first.system;
  script = next.script ∙ first.script;
  more = first.more ++ next.more;
  added = next.added ∙ ap (λ l. l ++ next.more) first.added ∙ append_assoc a.log first.more next.more;
  turns = list_all-append is_bus_turn first.more next.more ∙ and_from (list_all is_bus_turn first.more) (list_all is_bus_turn next.more) first.turns next.turns;
  by_words =
      list_all-append (λ e. list_any (is_its_word e) a.left) first.more next.more
      ∙ and_from (list_all (λ e. list_any (is_its_word e) a.left) first.more) (list_all (λ e. list_any (is_its_word e) a.left) next.more) first.by_words
      (list_all-weaker (λ e. list_any (is_its_word e) b.left) (λ e. list_any (is_its_word e) a.left) (λ e some. first.within (is_its_word e) some) next.more next.by_words);
  fewer = let x = first.fewer in let y = next.fewer in let long = length-append first.more next.more in omega (arith, x, y, long);
  within = λ test some. first.within test (next.within test some);
  unused = λ k cause. next.unused k cause ∙ first.unused k cause;
}

-- a word that gives nothing
adds_passed : (b : BusView) (w : ScriptWord) → first_reached b.log b.left ≡ Some w → AddsTurns b (record b { left = without_reached b.log b.left })
adds_passed b w first = record {
  system = refl;
  script = refl;
  more = [];
  added = sym (append-nil b.log);
  turns = refl;
  by_words = refl;
  fewer = let one = length-without (is_reached (length b.log)) b.left w first in omega (arith, one);
  within = λ test some. any-within (is_reached (length b.log)) test b.left some;
  unused = λ k cause. any-without (is_reached (length b.log)) (is_word_for k cause) (reached_no_word (length b.log) k cause) b.left;
}

-- the bus that has looked at a word that gave this
abbrev looked_at : BusView → Option What → BusView
looked_at b o = record (with_given b o) { left = without_reached b.log b.left }

-- a word that gives a loss
adds_loss : (b : BusView) (j : ClusterNo) (place : ℕ) → first_reached b.log b.left ≡ Some (CrashAt j place) → nat_le place (length b.log) ≡ true → AddsTurns b (looked_at b (Some (Crash j Place)))
adds_loss b j place first reached = record {
  system = refl;
  script = refl;
  more = crash_entry b.system b.log j Place ∷ [];
  added = refl;
  turns = refl;
  by_words =
      and_from (list_any (is_its_word (crash_entry b.system b.log j Place)) b.left) true
      (found_any (is_reached (length b.log)) (is_its_word (crash_entry b.system b.log j Place)) b.left (CrashAt j place) first (and_from (same_cluster j j) (nat_le place (length b.log)) (eq-eqb j.0 j.0 refl) reached)) refl;
  fewer = let one = length-without (is_reached (length b.log)) b.left (CrashAt j place) first in omega (arith, one);
  within = λ test some. any-within (is_reached (length b.log)) test b.left some;
  unused = λ k cause. any-without (is_reached (length b.log)) (is_word_for k cause) (reached_no_word (length b.log) k cause) b.left;
}

-- a word that gives a return
adds_return : (b : BusView) (j : ClusterNo) (place : ℕ) → first_reached b.log b.left ≡ Some (ReturnAt j place) → nat_le place (length b.log) ≡ true → AddsTurns b (looked_at b (Some (Return j)))
adds_return b j place first reached = record {
  system = refl;
  script = refl;
  more = return_entry b.system b.log j ∷ [];
  added = refl;
  turns = refl;
  by_words =
      and_from (list_any (is_its_word (return_entry b.system b.log j)) b.left) true
      (found_any (is_reached (length b.log)) (is_its_word (return_entry b.system b.log j)) b.left (ReturnAt j place) first (and_from (same_cluster j j) (nat_le place (length b.log)) (eq-eqb j.0 j.0 refl) reached)) refl;
  fewer = let one = length-without (is_reached (length b.log)) b.left (ReturnAt j place) first in omega (arith, one);
  within = λ test some. any-within (is_reached (length b.log)) test b.left some;
  unused = λ k cause. any-without (is_reached (length b.log)) (is_word_for k cause) (reached_no_word (length b.log) k cause) b.left;
}

-- ---- one look

-- what a word gives is a loss at a place, or a return
given_turn : (P : BusView → Type 0) (b : BusView) (w : ScriptWord) (v : What) → given_by (placement b.system b.log) w ≡ Some v
    → ((j : ClusterNo) (place : ℕ) → w ≡ CrashAt j place → v ≡ Crash j Place → P (looked_at b (Some (Crash j Place))))
    → ((j : ClusterNo) (place : ℕ) → w ≡ ReturnAt j place → v ≡ Return j → P (looked_at b (Some (Return j)))) → P (looked_at b (Some v))
given_turn P b (CrashAt j place) v given lost back = by_test (lives_in (placement b.system b.log) j) given
  where
    by_test : (c : Bool) → cond c (Some (Crash j Place)) None ≡ Some v → P (looked_at b (Some v))
    by_test true e = let same : Crash j Place ≡ v = ap (λ o. unwrap_or o v) e in subst (λ v. P (looked_at b (Some v))) same (lost j place refl (sym same))
    by_test false e = cc
given_turn P b (CrashStep j step) v given lost back = cc
given_turn P b (DiskAt j call) v given lost back = cc
given_turn P b (ReturnAt j place) v given lost back = by_test (is_lost_in (placement b.system b.log) j) given
  where
    by_test : (c : Bool) → cond c (Some (Return j)) None ≡ Some v → P (looked_at b (Some v))
    by_test true e = let same : Return j ≡ v = ap (λ o. unwrap_or o v) e in subst (λ v. P (looked_at b (Some v))) same (back j place refl (sym same))
    by_test false e = cc

-- a look changes nothing, passes a word that gives nothing, or adds a loss or a return
by_look : (P : BusView → Type 0) (b : BusView) → P b
    → ((w : ScriptWord) → first_reached b.log b.left ≡ Some w → given_by (placement b.system b.log) w ≡ None → P (looked_at b None))
    → ((j : ClusterNo) (place : ℕ) → is_over b.system b.log ≡ false → first_reached b.log b.left ≡ Some (CrashAt j place) → given_by (placement b.system b.log) (CrashAt j place) ≡ Some (Crash j Place) → P (looked_at b (Some (Crash j Place))))
    → ((j : ClusterNo) (place : ℕ) → is_over b.system b.log ≡ false → first_reached b.log b.left ≡ Some (ReturnAt j place) → given_by (placement b.system b.log) (ReturnAt j place) ≡ Some (Return j) → P (looked_at b (Some (Return j))))
    → P (look_once b)
by_look P b same passed lost back = by_end (is_over b.system b.log) refl
  where
    by_given : (w : ScriptWord) (o : Option What) → is_over b.system b.log ≡ false → first_reached b.log b.left ≡ Some w → given_by (placement b.system b.log) w ≡ o → P (looked_at b o)
    by_given w None goes_on first given = passed w first given
    by_given w (Some v) goes_on first given =
        given_turn P b w v given
        (λ j place word is. lost j place goes_on (first ∙ ap Some word) (ap (given_by (placement b.system b.log)) (sym word) ∙ given ∙ ap Some is))
        (λ j place word is. back j place goes_on (first ∙ ap Some word) (ap (given_by (placement b.system b.log)) (sym word) ∙ given ∙ ap Some is))

    by_first : (o : Option ScriptWord) → is_over b.system b.log ≡ false → first_reached b.log b.left ≡ o → P (look_once b)
    by_first None goes_on first = subst P (sym (look_some b None goes_on first)) same
    by_first (Some w) goes_on first = subst P (sym (look_some b (Some w) goes_on first)) (by_given w (given_by (placement b.system b.log) w) goes_on first refl)

    by_end : (c : Bool) → is_over b.system b.log ≡ c → P (look_once b)
    by_end true over = subst P (sym (look_over b over)) same
    by_end false goes_on = by_first (first_reached b.log b.left) goes_on refl

all_once : (test : ScriptWord → Bool) (b : BusView) → list_all test b.left ≡ true → list_all test (look_once b).left ≡ true
all_once test b all =
    by_look (λ new. list_all test new.left ≡ true) b all
    (λ w first given. all-without (is_reached (length b.log)) test b.left all)
    (λ j place goes_on first given. all-without (is_reached (length b.log)) test b.left all)
    (λ j place goes_on first given. all-without (is_reached (length b.log)) test b.left all)

adds_once : (b : BusView) → AddsTurns b (look_once b)
adds_once b =
    by_look (AddsTurns b) b (adds_nothing b) (λ w first given. adds_passed b w first)
    (λ j place goes_on first given. adds_loss b j place first (found_passes (is_reached (length b.log)) b.left (CrashAt j place) first))
    (λ j place goes_on first given. adds_return b j place first (found_passes (is_reached (length b.log)) b.left (ReturnAt j place) first))

-- ---- many

pub adds_turns : (n : ℕ) (b : BusView) → AddsTurns b (looks n b)
adds_turns zero b = adds_nothing b
adds_turns (suc n) b = adds_on b (look_once b) (looks n (look_once b)) (adds_once b) (adds_turns n (look_once b))

pub adds_after : (b : BusView) → AddsTurns b (after_words b)
adds_after b = adds_turns (length b.left) b

-- by words that are built they are losses
no_return : (e : Entry) (j : ClusterNo) (ws : List ScriptWord) → list_all is_loss_word ws ≡ true → what e ≡ Return j → list_any (is_its_word e) ws ≡ true → ⊥
no_return e j [] built is some = absurd (true≢false (sym some))
no_return e j (w ∷ ws) built is some = by_word w (and_parts (is_loss_word w) (list_all is_loss_word ws) built).0 (or_parts_of (is_its_word e w) some) (no_return e j ws (and_parts (is_loss_word w) (list_all is_loss_word ws) built).1 is)
  where
    or_parts_of : (a : Bool) → (a || list_any (is_its_word e) ws) ≡ true → (a ≡ true) ⊎ (list_any (is_its_word e) ws ≡ true)
    or_parts_of true h = inl refl
    or_parts_of false h = inr h

    by_word : (w : ScriptWord) → is_loss_word w ≡ true → (is_its_word e w ≡ true) ⊎ (list_any (is_its_word e) ws ≡ true) → (list_any (is_its_word e) ws ≡ true → ⊥) → ⊥
    by_word w built (inr later) none = none later
    by_word (CrashAt k place) built (inl here) none = true≢false (sym (and_parts (is_crash_of k (what e)) (nat_le place e.place) here).0 ∙ ap (is_crash_of k) is)
    by_word (CrashStep k step) built (inl here) none = true≢false (sym here)
    by_word (DiskAt k call) built (inl here) none = true≢false (sym here)
    by_word (ReturnAt k place) built (inl here) none = true≢false (sym built)

pub adds_losses : (old new : BusView) → list_all is_loss_word old.left ≡ true → (adds : AddsTurns old new) → list_all is_bus_loss adds.more ≡ true
adds_losses old new built adds = all_losses adds.more adds.turns adds.by_words
  where
    by_what : (e : Entry) (w : What) → what e ≡ w → is_given w ≡ true → list_any (is_its_word e) old.left ≡ true → is_loss w ≡ true
    by_what e (Crash k cause) is given word = refl
    by_what e (Return j) is given word = absurd (no_return e j old.left built is word)
    by_what e _ is given word = absurd (true≢false (sym given))

    all_losses : (more : List Entry) → list_all is_bus_turn more ≡ true → list_all (λ e. list_any (is_its_word e) old.left) more ≡ true → list_all is_bus_loss more ≡ true
    all_losses [] turns words = refl
    all_losses (e ∷ more) turns words =
        let here = and_parts (is_bus_turn e) (list_all is_bus_turn more) turns in
        let word = and_parts (list_any (is_its_word e) old.left) (list_all (λ e. list_any (is_its_word e) old.left) more) words in
        let given = (and_parts (is_bus (e.post).by) (is_given (what e)) here.0).1 in
        and_from (is_bus_loss e) (list_all is_bus_loss more) (and_from (is_bus_turn e) (is_loss (what e)) here.0 (by_what e (what e) refl given word.0)) (all_losses more here.1 word.1)

-- where no word was reached they change nothing
pub none_is_reached : (n : ℕ) (b : BusView) → list_any (is_reached (length b.log)) b.left ≡ false → looks n b ≡ b
none_is_reached n b none = settled_stays n b (by_end (is_over b.system b.log) refl)
  where
    by_end : (c : Bool) → is_over b.system b.log ≡ c → look_once b ≡ b
    by_end true over = look_over b over
    by_end false goes_on = look_some b None goes_on (none_first (is_reached (length b.log)) b.left none)

-- ---- what stays

record Stays (b : BusView) : Type 0 where
  pub legal : IsLegalBy MayStand b.system b.log
  pub scripted : KeepsScript b

stays_once : (b : BusView) → Stays b → Stays (look_once b)
stays_once b stays =
    by_look Stays b stays
    (λ w first given. record {
      legal = stays.legal;
      scripted = scripted_passed b w stays.scripted first given;
    })
    (λ j place goes_on first given.
    let may = given_loses b (CrashAt j place) j stays.scripted goes_on first given in
    let more : IsMore b (crash_entry b.system b.log j Place) (without_reached b.log b.left) = loss_more b j Place (without_reached b.log b.left) stays.legal may in
    record {
      legal = IsLegal-snoc MayStand b.system b.log (crash_entry b.system b.log j Place) stays.legal (may_stand b.system b.log (crash_entry b.system b.log j Place) more.may);
      scripted = scripted_more b (crash_entry b.system b.log j Place) (without_reached b.log b.left) (no_marks b.marks) stays.scripted more;
    })
    (λ j place goes_on first given.
    let may = given_returns b (ReturnAt j place) j stays.scripted goes_on first given in
    let more : IsMore b (return_entry b.system b.log j) (without_reached b.log b.left) = return_more b j (without_reached b.log b.left) stays.legal may in
    record {
      legal = IsLegal-snoc MayStand b.system b.log (return_entry b.system b.log j) stays.legal (may_stand b.system b.log (return_entry b.system b.log j) more.may);
      scripted = scripted_more b (return_entry b.system b.log j) (without_reached b.log b.left) (no_marks b.marks) stays.scripted more;
    })

all_stays : (n : ℕ) (b : BusView) → Stays b → Stays (looks n b)
all_stays zero b stays = stays
all_stays (suc n) b stays = all_stays n (look_once b) (stays_once b stays)

pub looks_legal : (n : ℕ) (b : BusView) → IsLegalBy MayStand b.system b.log → KeepsScript b → IsLegalBy MayStand (looks n b).system (looks n b).log
looks_legal n b legal keeps = (all_stays n b (record { legal = legal; scripted = keeps })).legal

pub looks_all : (test : ScriptWord → Bool) (n : ℕ) (b : BusView) → list_all test b.left ≡ true → list_all test (looks n b).left ≡ true
looks_all test zero b all = all
looks_all test (suc n) b all = looks_all test n (look_once b) (all_once test b all)

pub looks_scripted : (n : ℕ) (b : BusView) → IsLegalBy MayStand b.system b.log → KeepsScript b → KeepsScript (looks n b)
looks_scripted n b legal keeps = (all_stays n b (record { legal = legal; scripted = keeps })).scripted
