-- What the words that are due add to a bus, and what is known of a bus whose script is spread.
use Rattle.std.proofs.Common.{◌≡◌, ℕ, zero, suc, refl, sym, ◌∙◌, ap, subst, inl, List, [], ◌∷◌, ◌++◌, length, append-nil, append_assoc, Bool, true, false, cond, ◌||◌, Option, Some, None}
use Rattle.std.specs.Prelude.{All}
use Rattle.std.specs.List.{list_any}
use Rattle.std.proofs.lemmas.List.Elements.{All-nil, All-cons, All-append}
use Rattle.std.proofs.lemmas.List.Folds.{list_any-append}
use Rattle.t32_base.specs.declared.process.ClusterNo.{ClusterNo}
use Rattle.sys_text.specs.Valid.{is_system}
use Rattle.bus_msg.specs.declared.entry.By.TheVariants.{Bus}
use Rattle.bus_msg.specs.declared.entry.Cause.TheVariants.{Place}
use Rattle.bus_msg.specs.declared.entry.What.{What}
use Rattle.bus_msg.specs.declared.entry.What.TheVariants.{Crash, Return}
use Rattle.bus_msg.specs.declared.entry.Entry.{Entry}
use Rattle.bus_msg.specs.Places.{Places, lives_in, is_lost_in}
use Rattle.cert_sched.specs.declared.script.ScriptWord.{ScriptWord}
use Rattle.cert_sched.specs.declared.script.ScriptWord.TheVariants.{CrashAt, CrashStep, DiskAt, ReturnAt}
use Rattle.cert_sched.specs.Appended.{entry_of}
use Rattle.cert_sched.specs.Looked.{first_reached, given_by}
use Rattle.cert_sched.specs.Rules.{is_over}
use Rattle.cert_sched.specs.Schedule.{placement}
use Rattle.cert_sched.specs.Scripted.{is_closed, is_spread}
use Rattle.bus_lock.specs.Lists.{MayAdd, is_author}
use Rattle.bus_order.proofs.Lawful.{lawful_stands}
use Rattle.bus_order.specs.Log.{author, author_of}
use Rattle.bus_order.specs.View.{BusView, HasLooked, IsLawful, after_words, look_once, looks, with_given, with_look}
use Rattle.bus_order.proofs.Looking.{look_over, look_some}
use Rattle.script_laws.proofs.OffLosses.{all_stand}
use Rattle.script_laws.proofs.SpreadLosses.{spread_log_closes}
use Rattle.script_laws.proofs.WordLosses.{all_worded}
use Rattle.script_laws.proofs.WordReturns.{none_returned}
use Rattle.cluster_turns.specs.Gone.{is_told_by}
use Rattle.cluster_turns.specs.Along.{IsSound}

-- ---- what words add

-- a bus has grown, by entries of which no cluster is the author
pub record Worded (old new : BusView) : Type 0 where
  pub system : new.system ≡ old.system
  pub script : new.script ≡ old.script
  pub more : List Entry
  pub log : new.log ≡ old.log ++ more
  pub none : All (λ (e : Entry). author_of e ≡ None) more
  pub others : (k : ClusterNo) → list_any (is_told_by k) more ≡ false

worded_none : (b : BusView) → Worded b b
worded_none b = record { system = refl; script = refl; more = []; log = sym (append-nil b.log); none = All-nil (λ (e : Entry). author_of e ≡ None); others = λ k. refl }

worded_more : (a b c : BusView) → Worded a b → Worded b c → Worded a c
worded_more a b c one two = record {
  system = two.system ∙ one.system;
  script = two.script ∙ one.script;
  more = one.more ++ two.more;
  log = two.log ∙ ap (λ l. l ++ two.more) one.log ∙ append_assoc a.log one.more two.more;
  none = All-append (λ (e : Entry). author_of e ≡ None) one.more two.more one.none two.none;
  others = λ k. list_any-append (is_told_by k) one.more two.more ∙ (λ i. one.others k i || two.others k i);
}

-- what a word gives has no author
no_author : (places : Places) (word : ScriptWord) (w : What) → given_by places word ≡ Some w → author Bus w ≡ None
no_author places (CrashAt k place) w is = by_test (lives_in places k) is
  where
    by_test : (b : Bool) → cond b (Some (Crash k Place)) None ≡ Some w → author Bus w ≡ None
    by_test true is = let same : Crash k Place ≡ w = cc in ap (author Bus) (sym same)
    by_test false is = cc
no_author places (CrashStep k step) w is = cc
no_author places (DiskAt k call) w is = cc
no_author places (ReturnAt k place) w is = by_test (is_lost_in places k) is
  where
    by_test : (b : Bool) → cond b (Some (Return k)) None ≡ Some w → author Bus w ≡ None
    by_test true is = let same : Return k ≡ w = cc in ap (author Bus) (sym same)
    by_test false is = cc

given_worded : (b : BusView) (o : Option What) → ((w : What) → o ≡ Some w → author Bus w ≡ None) → Worded b (with_given b o)
given_worded b None none = worded_none b
given_worded b (Some w) none = record {
  system = refl;
  script = refl;
  more = entry_of b.system b.log (record { by = Bus; what = w }) ∷ [];
  log = refl;
  none = All-cons (λ (e : Entry). author_of e ≡ None) (entry_of b.system b.log (record { by = Bus; what = w })) [] (none w refl) (All-nil (λ (e : Entry). author_of e ≡ None));
  others = λ k. ap (λ o. is_author k.0 o || false) (none w refl);
}

look_worded : (b : BusView) (o : Option ScriptWord) → Worded b (with_look b o)
look_worded b None = worded_none b
look_worded b (Some word) =
    let w = given_worded b (given_by (placement b.system b.log) word) (λ w is. no_author (placement b.system b.log) word w is) in
    record { system = w.system; script = w.script; more = w.more; log = w.log; none = w.none; others = w.others }

one_worded : (b : BusView) → Worded b (look_once b)
one_worded b = by_end (is_over b.system b.log) refl
  where
    by_end : (t : Bool) → is_over b.system b.log ≡ t → Worded b (look_once b)
    by_end true over = subst (Worded b) (sym (look_over b over)) (worded_none b)
    by_end false goes_on = subst (Worded b) (sym (look_some b (first_reached b.log b.left) goes_on refl)) (look_worded b (first_reached b.log b.left))

looks_worded : (n : ℕ) (b : BusView) → Worded b (looks n b)
looks_worded zero b = worded_none b
looks_worded (suc n) b = worded_more b (look_once b) (looks n (look_once b)) (one_worded b) (looks_worded n (look_once b))

pub after_worded : (b : BusView) → Worded b (after_words b)
after_worded b = looks_worded (length b.left) b

pub looked_worded : (old new : BusView) → HasLooked old new → Worded old new
looked_worded old new looked = subst (Worded old) (sym looked.1) (looks_worded looked.0 old)

-- a cluster may add what has no author
pub may_add : (k : ClusterNo) (more : List Entry) → All (λ (e : Entry). author_of e ≡ None) more → All (MayAdd author_of k.0) more
may_add k more none i d low = inl (none i d low)

-- ---- spread words

-- a bus of a valid system is sound
pub sound_of : (b : BusView) → is_system b.system ≡ true → IsLawful b → IsSound b
sound_of b valid lawful = record { valid = valid; legal = lawful_stands lawful; unreturned = λ words k. none_returned b k lawful.scripted words; fits = lawful.fits }

pub sound_again : (old new : BusView) → IsSound old → new.system ≡ old.system → IsLawful new → IsSound new
sound_again old new sound system lawful = sound_of new (ap is_system system ∙ sound.valid) lawful

-- where its script is spread its losses are covered, so its log is over only where it is closed
pub spread_closes : (b : BusView) → is_system b.system ≡ true → IsLawful b → is_spread b.system b.script ≡ true → is_over b.system b.log ≡ true → is_closed b.log ≡ true
spread_closes b valid lawful spread over = spread_log_closes b.system b.script b.log valid spread (all_stand b.system b.log (lawful_stands lawful)) (all_worded b lawful.scripted) over
