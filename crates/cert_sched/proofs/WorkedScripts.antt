-- Scripts beside logs, by computation: two words for one place, a word for a step, one for a disk call, and what each rule refuses.
use Rattle.std.proofs.Common.{◌≡◌, refl, sym, ◌∙◌, ap, List, [], ◌∷◌, ◌++◌, length, Bool, true, false, cond, Some, None, true≢false, inl, inr, ◌⊎◌}
use Rattle.std.specs.List.{list_any}
use Rattle.bus_msg.specs.declared.entry.What.{What}
use Rattle.bus_msg.specs.declared.entry.What.TheVariants.{Crash, Return}
use Rattle.bus_msg.specs.declared.entry.Cause.TheVariants.{Place, Step, Disk}
use Rattle.bus_msg.specs.declared.entry.By.TheVariants.{Bus}
use Rattle.bus_msg.specs.declared.entry.Entry.{Entry}
use Rattle.bus_msg.specs.Places.{Places, lives_in, is_lost_in}
use Rattle.bus_msg.specs.PlacedAfter.{what}
use Rattle.cert_sched.specs.declared.script.ScriptWord.{ScriptWord}
use Rattle.cert_sched.specs.declared.script.ScriptWord.TheVariants.{CrashAt, CrashStep, DiskAt, ReturnAt}
use Rattle.cert_sched.specs.Schedule.{placement}
use Rattle.cert_sched.specs.Told.{told}
use Rattle.cert_sched.specs.Looked.{Looked, at_start, gives_nothing, gives, goes_on, none_reached, is_reached, first_reached, given_by, without_reached, waits_for_no_word, waits_for_words}
use Rattle.cert_sched.specs.Losses.{is_scripted_loss}
use Rattle.cert_sched.specs.Scripted.{IsScripted, is_unused_rightly}
use Rattle.cert_sched.proofs.Systems.{cluster, hi_system, two_system}
use Rattle.cert_sched.proofs.WorkedLogs.{entry, hi_0, hi_1, hi_2, hi_log, later_0, later_1}

-- ---- words for a place

-- a loss and a return of one cluster at one place, in both orders
abbrev lost_then_back : List ScriptWord
lost_then_back = CrashAt (cluster 0) 1 ∷ ReturnAt (cluster 0) 1 ∷ []

abbrev back_then_lost : List ScriptWord
back_then_lost = ReturnAt (cluster 0) 1 ∷ CrashAt (cluster 0) 1 ∷ []

abbrev back_2 : Entry
back_2 = entry 2 Bus 3 None (Return (cluster 0))

-- both are reached when the letter stands: the loss is looked at first, and then the return, which has its effect
both_in_order : Looked two_system lost_then_back (later_0 ∷ later_1 ∷ back_2 ∷ []) []
unfolding placement
both_in_order = gives (gives (none_reached at_start later_0 refl refl) (CrashAt (cluster 0) 1) later_1 refl refl) (ReturnAt (cluster 0) 1) back_2 refl refl

-- the return is looked at first, while the cluster lives, and so has no effect
return_of_the_living : Looked two_system back_then_lost (later_0 ∷ later_1 ∷ []) []
unfolding placement
return_of_the_living = gives (gives_nothing (none_reached at_start later_0 refl refl) (ReturnAt (cluster 0) 1) refl refl) (CrashAt (cluster 0) 1) later_1 refl refl

-- ---- a letter at a place at which a word was not looked at

abbrev at_once : List ScriptWord
at_once = CrashAt (cluster 0) 0 ∷ []

not_empty : (log : List Entry) (e : Entry) → log ++ e ∷ [] ≡ [] → ⊥
not_empty [] e is = cc
not_empty (x ∷ log) e is = cc

record EndAlike (log before : List Entry) (e last : Entry) : Type 0 where
  pub before_is : log ≡ before
  pub last_is : e ≡ last

end_alike : (log before : List Entry) (e last : Entry) → log ++ e ∷ [] ≡ before ++ last ∷ [] → EndAlike log before e last
end_alike [] [] e last is = record { before_is = refl; last_is = cc }
end_alike [] (y ∷ before) e last is = absurd (not_empty before last (let rest : before ++ last ∷ [] ≡ [] = cc in rest))
end_alike (x ∷ log) [] e last is = absurd (not_empty log e (let rest : log ++ e ∷ [] ≡ [] = cc in rest))
end_alike (x ∷ log) (y ∷ before) e last is =
    let first : x ≡ y = cc in
    let rest = end_alike log before e last (let rest : log ++ e ∷ [] ≡ before ++ last ∷ [] = cc in rest) in
    record { before_is = λ i. first i ∷ rest.before_is i; last_is = rest.last_is }

-- its look gives the loss
not_nothing : (log : List Entry) (left : List ScriptWord) (w : ScriptWord) → log ≡ [] → left ≡ at_once → first_reached log left ≡ Some w → given_by (placement two_system log) w ≡ None → ⊥
unfolding placement
not_nothing log left w none all first nothing =
    let word : Some (CrashAt (cluster 0) 0) ≡ Some w = sym (λ i. first_reached (none i) (all i)) ∙ first in
    let same : CrashAt (cluster 0) 0 ≡ w = cc in
    let given : Some (Crash (cluster 0) Place) ≡ None = (λ i. given_by (placement two_system (sym none i)) (same i)) ∙ nothing in
    cc

-- before the first entry it is still to be looked at
still_left : {log : List Entry} {left : List ScriptWord} → Looked two_system at_once log left → log ≡ [] → left ≡ at_once
still_left at_start none = refl
still_left (gives_nothing {log = l} {left = s} h w first nothing) none = absurd (not_nothing l s w none (still_left h none) first nothing)
still_left (gives {log = l} h w e first gave) none = absurd (not_empty l e none)
still_left (goes_on {log = l} h e no_word) none = absurd (not_empty l e none)
still_left (none_reached {log = l} h e words passed) none = absurd (not_empty l e none)

no_word_gives_a_letter : (places : Places) (w : ScriptWord) → given_by places w ≡ Some (what later_0) → ⊥
no_word_gives_a_letter places (CrashAt k place) is = by_test (lives_in places k) is
  where
    by_test : (b : Bool) → cond b (Some (Crash k Place)) None ≡ Some (what later_0) → ⊥
    by_test true is = cc
    by_test false is = cc
no_word_gives_a_letter places (CrashStep k step) is = cc
no_word_gives_a_letter places (DiskAt k call) is = cc
no_word_gives_a_letter places (ReturnAt k place) is = by_test (is_lost_in places k) is
  where
    by_test : (b : Bool) → cond b (Some (Return k)) None ≡ Some (what later_0) → ⊥
    by_test true is = cc
    by_test false is = cc

word_passed_over : {log : List Entry} {left : List ScriptWord} → Looked two_system at_once log left → log ≡ later_0 ∷ [] → ⊥
word_passed_over at_start is = cc
word_passed_over (gives_nothing h w first nothing) is = word_passed_over h is
word_passed_over (gives {log = l} h w e first gave) is =
    no_word_gives_a_letter (placement two_system l) w (gave ∙ ap (λ e. Some (what e)) (end_alike l [] e later_0 is).last_is)
word_passed_over (goes_on {log = l} h e no_word) is = true≢false (sym no_word ∙ ap (λ e. waits_for_no_word (what e)) (end_alike l [] e later_0 is).last_is)
word_passed_over (none_reached {log = l} {left = s} h e words passed) is =
    let one = end_alike l [] e later_0 is in
    true≢false ((λ i. list_any (is_reached (length (sym one.before_is i))) (sym (still_left h one.before_is) i)) ∙ passed)

-- ---- a return that comes first in the script and last in the log

-- a cluster that lives does not return, nor one that the system lacks
no_return_of_the_living : given_by (placement two_system []) (ReturnAt (cluster 0) 0) ≡ None
unfolding placement
no_return_of_the_living = refl

no_return_from_outside : given_by (placement two_system []) (ReturnAt (cluster 9) 0) ≡ None
unfolding placement
no_return_from_outside = refl

-- before the first entry none was looked at
all_left : {log : List Entry} {left : List ScriptWord} → Looked two_system back_then_lost log left → log ≡ [] → left ≡ back_then_lost
all_left at_start none = refl
all_left (gives_nothing {log = l} {left = s} h w first nothing) none =
    absurd (let found : None ≡ Some w = sym (λ i. first_reached (none i) (all_left h none i)) ∙ first in cc)
all_left (gives {log = l} h w e first gave) none = absurd (not_empty l e none)
all_left (goes_on {log = l} h e no_word) none = absurd (not_empty l e none)
all_left (none_reached {log = l} h e words passed) none = absurd (not_empty l e none)

-- what the two words give where the letter stands last
not_given : (log : List Entry) (left : List ScriptWord) (w : ScriptWord) → log ≡ later_0 ∷ [] → left ≡ CrashAt (cluster 0) 1 ∷ [] → first_reached log left ≡ Some w → given_by (placement two_system log) w ≡ None → ⊥
unfolding placement
not_given log left w here one first nothing =
    let word : Some (CrashAt (cluster 0) 1) ≡ Some w = sym (λ i. first_reached (here i) (one i)) ∙ first in
    let same : CrashAt (cluster 0) 1 ≡ w = cc in
    let given : Some (Crash (cluster 0) Place) ≡ None = (λ i. given_by (placement two_system (sym here i)) (same i)) ∙ nothing in
    cc

gives_none : (log : List Entry) (left : List ScriptWord) (w : ScriptWord) (v : What) → log ≡ later_0 ∷ [] → left ≡ back_then_lost → first_reached log left ≡ Some w → given_by (placement two_system log) w ≡ Some v → ⊥
unfolding placement
gives_none log left w v here both first gave =
    let word : Some (ReturnAt (cluster 0) 1) ≡ Some w = sym (λ i. first_reached (here i) (both i)) ∙ first in
    let same : ReturnAt (cluster 0) 1 ≡ w = cc in
    let given : None ≡ Some v = (λ i. given_by (placement two_system (sym here i)) (same i)) ∙ gave in
    cc

-- behind the letter both are left, or the loss alone
after_letter : {log : List Entry} {left : List ScriptWord} → Looked two_system back_then_lost log left → log ≡ later_0 ∷ [] → (left ≡ back_then_lost) ⊎ (left ≡ CrashAt (cluster 0) 1 ∷ [])
after_letter at_start is = cc
after_letter (gives_nothing {log = l} {left = s} h w first nothing) is = elim (after_letter h is) [
  | inl both ↦ inr (λ i. without_reached (is i) (both i))
  | inr one ↦ absurd (not_given l s w is one first nothing)
]
after_letter (gives {log = l} h w e first gave) is =
    absurd (no_word_gives_a_letter (placement two_system l) w (gave ∙ ap (λ e. Some (what e)) (end_alike l [] e later_0 is).last_is))
after_letter (goes_on {log = l} h e no_word) is = absurd (true≢false (sym no_word ∙ ap (λ e. waits_for_no_word (what e)) (end_alike l [] e later_0 is).last_is))
after_letter (none_reached {log = l} h e words passed) is = inl (all_left h (end_alike l [] e later_0 is).before_is)

-- behind the loss none is left
after_loss : {log : List Entry} {left : List ScriptWord} → Looked two_system back_then_lost log left → log ≡ later_0 ∷ later_1 ∷ [] → left ≡ []
after_loss at_start is = cc
after_loss (gives_nothing {log = l} h w first nothing) is = absurd (let found : None ≡ Some w = sym (ap (first_reached l) (after_loss h is)) ∙ first in cc)
after_loss (gives {log = l} {left = s} h w e first gave) is =
    let alike = end_alike l (later_0 ∷ []) e later_1 is in
    elim (after_letter h alike.before_is) [
      | inl both ↦ absurd (gives_none l s w (what e) alike.before_is both first gave)
      | inr one ↦ λ i. without_reached (alike.before_is i) (one i)
    ]
after_loss (goes_on {log = l} h e no_word) is = absurd (true≢false (sym no_word ∙ ap (λ e. waits_for_no_word (what e)) (end_alike l (later_0 ∷ []) e later_1 is).last_is))
after_loss (none_reached {log = l} h e words passed) is = absurd (true≢false (sym words ∙ ap (λ e. waits_for_words (what e)) (end_alike l (later_0 ∷ []) e later_1 is).last_is))

return_out_of_order : {log : List Entry} {left : List ScriptWord} → Looked two_system back_then_lost log left → log ≡ later_0 ∷ later_1 ∷ back_2 ∷ [] → ⊥
return_out_of_order at_start is = cc
return_out_of_order (gives_nothing h w first nothing) is = return_out_of_order h is
return_out_of_order (gives {log = l} h w e first gave) is =
    let found : None ≡ Some w = sym (ap (first_reached l) (after_loss h (end_alike l (later_0 ∷ later_1 ∷ []) e back_2 is).before_is)) ∙ first in
    cc
return_out_of_order (goes_on {log = l} h e no_word) is = true≢false (sym no_word ∙ ap (λ e. waits_for_no_word (what e)) (end_alike l (later_0 ∷ later_1 ∷ []) e back_2 is).last_is)
return_out_of_order (none_reached {log = l} h e words passed) is = true≢false (sym words ∙ ap (λ e. waits_for_words (what e)) (end_alike l (later_0 ∷ later_1 ∷ []) e back_2 is).last_is)

-- ---- a word for a step, and one for a disk call

-- after its letter, a cluster may be lost at step 2, by a word for that step, once
step_lost : is_scripted_loss hi_system (CrashStep (cluster 0) 2 ∷ []) (hi_0 ∷ []) (Crash (cluster 0) (Step 2)) ≡ true
step_lost = refl

step_without_its_word : is_scripted_loss hi_system (CrashStep (cluster 0) 2 ∷ []) (hi_0 ∷ []) (Crash (cluster 0) (Step 3)) ≡ false
step_without_its_word = refl

step_a_second_time : is_scripted_loss hi_system (CrashStep (cluster 0) 2 ∷ []) (hi_0 ∷ entry 1 Bus 3 None (Crash (cluster 0) (Step 2)) ∷ []) (Crash (cluster 0) (Step 2)) ≡ false
step_a_second_time = refl

-- but not before it made the step by which the letter was sent
step_before_the_letter : is_scripted_loss hi_system (CrashStep (cluster 0) 0 ∷ []) (hi_0 ∷ []) (Crash (cluster 0) (Step 0)) ≡ false
step_before_the_letter = refl

-- the call 0 of a disk puts the page of the root: at it a cluster may be lost that has sent nothing, and no other
disk_lost : is_scripted_loss hi_system (DiskAt (cluster 1) 0 ∷ []) (hi_0 ∷ []) (Crash (cluster 1) (Disk 0)) ≡ true
disk_lost = refl

disk_lost_too_late : is_scripted_loss hi_system (DiskAt (cluster 0) 0 ∷ []) (hi_0 ∷ []) (Crash (cluster 0) (Disk 0)) ≡ false
disk_lost_too_late = refl

-- ---- words that were not reached, by clusters that made 7 and 5 steps and one disk call each

step_not_reached : is_unused_rightly hi_log (7 ∷ 5 ∷ []) (1 ∷ 1 ∷ []) (CrashStep (cluster 0) 7) ≡ true
step_not_reached = refl

step_reached : is_unused_rightly hi_log (7 ∷ 5 ∷ []) (1 ∷ 1 ∷ []) (CrashStep (cluster 0) 6) ≡ false
step_reached = refl

call_not_reached : is_unused_rightly hi_log (7 ∷ 5 ∷ []) (1 ∷ 1 ∷ []) (DiskAt (cluster 1) 1) ≡ true
call_not_reached = refl

call_reached : is_unused_rightly hi_log (7 ∷ 5 ∷ []) (1 ∷ 1 ∷ []) (DiskAt (cluster 1) 0) ≡ false
call_reached = refl

-- ---- a whole script

-- a word for a step that was not reached, with the steps and the disk calls of both clusters
hi_scripted : IsScripted hi_system hi_log (CrashStep (cluster 0) 7 ∷ []) (7 ∷ 5 ∷ []) (1 ∷ 1 ∷ [])
unfolding placement told
hi_scripted = record {
  each = (refl, refl);
  left = [];
  looked = none_reached (none_reached (none_reached at_start hi_0 refl refl) hi_1 refl refl) hi_2 refl refl;
  losses = refl;
  unused = λ finished. refl;
  counted = λ finished. refl;
}

-- counts that are not told of each cluster
counts_left_out : IsScripted hi_system hi_log (CrashStep (cluster 1) 6 ∷ []) (7 ∷ []) (1 ∷ []) → ⊥
counts_left_out h = let each = h.each.0 in cc
