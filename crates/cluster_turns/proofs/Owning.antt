-- What a cluster makes of a bus that no other has.
use Rattle.std.proofs.Common.{◌≡◌, ℕ, ◌+◌, ◌-◌, ◌≤◌, ◌<◌, ◌⊎◌, inl, inr, refl, sym, ◌∙◌, ap, subst, arith, List, [], ◌∷◌, ◌++◌, ◌||◌, cond, length, drop, append_assoc, Bool, true, false, Option, Some, None, IfOk, OnOk, Result, Ok, Err, true≢false}
use Rattle.std.specs.List.{list_any}
use Rattle.proc_state.specs.Mail.{without_first}
use Rattle.std.proofs.lemmas.List.{length-map, length-set}
use Rattle.std.proofs.lemmas.List.Elements.{All-append}
use Rattle.t32_base.specs.declared.process.ClusterNo.{ClusterNo}
use Rattle.sys_text.specs.declared.system.System.{System}
use Rattle.bus_msg.specs.declared.entry.By.TheVariants.{Bus}
use Rattle.bus_msg.specs.declared.entry.What.TheVariants.{Crash, Done}
use Rattle.bus_msg.specs.declared.entry.Post.{Post}
use Rattle.cert_sched.specs.Appended.{entry_of}
use Rattle.cert_sched.specs.Rules.{is_over}
use Rattle.cert_sched.specs.declared.script.ScriptWord.{ScriptWord}
use Rattle.cert_sched.specs.Losses.{was_lost_in}
use Rattle.cert_sched.specs.Scripted.{is_closed, is_finished}
use Rattle.cluster_core.specs.View.{ClusterView, counted_once, load}
use Rattle.bus_lock.specs.Lists.{MayAdd}
use Rattle.bus_order.specs.declared.marks.Mark.{Mark}
use Rattle.bus_order.specs.declared.marks.Idled.{Idled}
use Rattle.bus_order.specs.declared.marks.Idled.TheVariants.{Marked, Done as WasDone}
use Rattle.bus_order.specs.Log.{author_of}
use Rattle.bus_order.specs.Script.{has_unused, is_word_for}
use Rattle.bus_order.specs.View.{BusView, Loses, after_words, with_loss, with_post}
use Rattle.bus_order.proofs.OverLaws.{closed-snoc, finished-snoc, open_not_closed}
use Rattle.cluster_turns.specs.declared.offers.Offered.TheVariants.{Sent, Behind, Over, Off}
use Rattle.cluster_turns.specs.Gone.{own_cause}
use Rattle.cluster_turns.specs.Along.{IsAlong, IsOwned, IsSound, TakesIn}
use Rattle.cluster_turns.specs.Offers.{Adds, Later, OfferIs, TakesMark, TellIs, Visits}
use Rattle.cluster_turns.specs.Progress.{Falls, GetsOn, IsAtMost, IsOver, left_of_posts, remaining_of, AwaitsPage, HasAnswered, Rests}
use Rattle.cluster_turns.specs.Turns.{GoesOwn, HasRested, HasSpent, IsSent, LosesOwn, SendsAll, SendsOwn, Spends, TellsOwn, TurnsOwn}
use Rattle.cluster_turns.proofs.Offering.{adds_none, alone_later, alone_left}
use Rattle.cluster_turns.proofs.Progressing.{at_most_then, then_falls, told_rest, waiting_rests}
use Rattle.cluster_turns.proofs.Sending.{sent_goes_on, sent_spends}
use Rattle.cluster_turns.proofs.StepLosses.{lost_adds}
use Rattle.cluster_turns.proofs.TakingIn.{seen_unlost}
use Rattle.cluster_turns.proofs.Worded.{after_worded}
use Rattle.cluster_turns.proofs.WordsLeft.{IsSameOrFewer, words_fewer, words_marks, words_open}

pub adds_more : (k : ClusterNo) (a b c : BusView) → Adds k a b → Adds k b c → Adds k a c
adds_more k a b c one two = record {
  system = two.system ∙ one.system;
  script = two.script ∙ one.script;
  more = one.more ++ two.more;
  log = two.log ∙ ap (λ l. l ++ two.more) one.log ∙ append_assoc a.log one.more two.more;
  may = All-append (MayAdd author_of k.0) one.more two.more one.may two.may;
}

pub sends_none : (k : ClusterNo) (b : BusView) → GoesOwn b → SendsOwn k b b
sends_none k b own = record { goes_on = own; adds = adds_none k b; spends = inr (refl, omega arith) }

spends_more : (a b c : BusView) → Spends a b → Spends b c → Spends a c
spends_more a b c (inl fewer) (inl more) = inl (omega (arith, fewer, more))
spends_more a b c (inl fewer) (inr more) = inl (omega (arith, fewer, more.0))
spends_more a b c (inr less) (inl fewer) = inl (omega (arith, less.0, fewer))
spends_more a b c (inr less) (inr more) = inr (more.0 ∙ less.0, omega (arith, less.1, more.1))

-- no more words are left than before
words_spent : (a b : BusView) → Spends a b → length b.left ≤ length a.left
words_spent a b (inl fewer) = omega (arith, fewer)
words_spent a b (inr less) = omega (arith, less.0)

pub sends_more : (k : ClusterNo) (a b c : BusView) → SendsOwn k a b → SendsOwn k b c → SendsOwn k a c
sends_more k a b c one two = record { goes_on = two.goes_on; adds = adds_more k a b c one.adds two.adds; spends = spends_more a b c one.spends two.spends }

-- a cluster that was lost, or a log that is over, does not go on
ended_not : {X : Type 0} (after : BusView) (k j : ClusterNo) (n : ℕ) → j ≡ k → (was_lost_in (drop n after.log) k ≡ true) ⊎ IsOver after → is_over after.system after.log ≡ false → was_lost_in (drop n after.log) j ≡ false → X
ended_not after k j n same (inl lost) goes lives = absurd (true≢false (sym lost ∙ ap (was_lost_in (drop n after.log)) (sym same) ∙ lives))
ended_not after k j n same (inr over) goes lives = absurd (true≢false (sym over ∙ goes))

-- the post after others lost the cluster, or ended the run
pub sends_lost : (a b c : BusView) (first last : ClusterView) → last.number ≡ first.number → SendsOwn first.number a b → LosesOwn first.number last.cursor b c → SendsAll a c first last
sends_lost a b c first last same one two =
    let fewer = two.fewer in
    record {
      owned = two.owned;
      adds = adds_more first.number a b c one.adds two.adds;
      spends = inl (omega (arith, fewer, words_spent a b one.spends));
      empty = λ goes lives. ended_not c first.number last.number last.cursor same two.ends goes lives;
      some = λ there. inl (omega (arith, fewer, words_spent a b one.spends));
    }

-- the cluster was lost after posts of it were sent, or the run has ended
pub loses_more : (k : ClusterNo) (n : ℕ) (a b c : BusView) → SendsOwn k a b → LosesOwn k n b c → LosesOwn k n a c
loses_more k n a b c one two = record {
  owned = two.owned;
  adds = adds_more k a b c one.adds two.adds;
  ends = two.ends;
  fewer = let fewer = two.fewer in omega (arith, fewer, words_spent a b one.spends);
}

-- ---- the words that are due

-- the words that were due do not close it
words_not_closed : (b after : BusView) → GoesOwn b → after ≡ after_words b → is_closed after.log ≡ false
words_not_closed b after own is = ap (λ (x : BusView). is_closed x.log) is ∙ words_open b (open_not_closed b.system b.log ((own.0).sound).legal own.1)

-- what is left of a bus then has a place for each mark
words_owned : (b after : BusView) → GoesOwn b → IsSound after → after ≡ after_words b → IsOwned after
words_owned b after own sound is = record {
  sound = sound;
  marks = ap (λ (x : BusView). length x.marks) is ∙ words_marks b ∙ (own.0).marks ∙ ap (λ (s : System). s.clusters) (sym (ap (λ (x : BusView). x.system) is ∙ (after_worded b).system));
  unstopped = λ closed. absurd (true≢false (sym closed ∙ words_not_closed b after own is));
}

-- where they changed it, fewer are left
fewer_left : (b after : BusView) → after ≡ after_words b → (after ≡ b → ⊥) → length after.left < length b.left
fewer_left b after is other = by_case (words_fewer b)
  where
    by_case : IsSameOrFewer b (after_words b) → length after.left < length b.left
    by_case (inl same) = absurd (other (is ∙ same))
    by_case (inr fewer) = subst (λ (x : BusView). length x.left < length b.left) (sym is) fewer

-- ---- a post

module _ (a : Bool) (alone : a ≡ true) (b after : BusView) (c : ClusterView) (post : Post) (own : GoesOwn b) where
  words_there : (found : BusView) → Later a c.number b found → after_words found ≡ after_words b
  words_there found later = ap after_words (alone_later a c.number b found alone later)

  pub sent_own : IsSound after → (v : Visits a c.number b after (OfferIs c.number c.cursor post Sent)) → IsSent (after_words v.found).log c post after → Adds c.number b after → SendsOwn c.number b after
  sent_own sound v s adds =
      let is : after ≡ with_post (after_words b) post = alone_left a v.left after alone v.is_left ∙ (v.done).2 ∙ ap (λ x. with_post x post) (words_there v.found v.later) in
      record {
        goes_on = (
          record {
            sound = sound;
            marks = ap (λ (x : BusView). length x.marks) is ∙ length-map (after_words b).marks (λ m. None) ∙ words_marks b ∙ (own.0).marks ∙ ap (λ (s : System). s.clusters) (sym adds.system);
            unstopped = λ closed. absurd (true≢false (sym closed ∙ open_not_closed after.system after.log sound.legal (sent_goes_on (after_words v.found).log c post after s)));
          },
          sent_goes_on (after_words v.found).log c post after s,
        );
        adds = adds;
        spends = by_case is (words_fewer b);
      }
    where
      by_case : after ≡ with_post (after_words b) post → IsSameOrFewer b (after_words b) → Spends b after
      by_case is (inr fewer) = inl (subst (λ (x : BusView). length x.left < length b.left) (sym is) fewer)
      by_case is (inl same) =
          let found : after_words v.found ≡ b = words_there v.found v.later ∙ same in
          let left_is : left_of_posts c.system (after_words v.found).log ≡ left_of_posts b.system b.log = λ i. left_of_posts ((s.system ∙ adds.system) i) (found i).log in
          let long : length (after_words v.found).log ≡ length b.log = ap (λ (x : BusView). length x.log) found in
          inr (
            ap (λ (x : BusView). length x.left) is ∙ ap (λ (x : BusView). length x.left) same,
            omega (arith, sent_spends (after_words v.found).log c post after s sound, left_is, long),
          )

  -- one that had seen all of the log is behind only where words were due
  pub behind_own : IsSound after → c.cursor ≡ length b.log → Visits a c.number b after (OfferIs c.number c.cursor post Behind) → Adds c.number b after → SendsOwn c.number b after
  behind_own sound seen v adds =
      let left_is : after ≡ v.left = alone_left a v.left after alone v.is_left in
      let is : after ≡ after_words b = left_is ∙ (v.done).3 ∙ words_there v.found v.later in
      let goes : is_over after.system after.log ≡ false = ap (λ (x : BusView). is_over x.system x.log) left_is ∙ (v.done).0 in
      let less : c.cursor < length after.log = subst (λ (x : BusView). c.cursor < length x.log) (sym (alone_left a v.left after alone v.is_left)) (v.done).2 in
      record {
        goes_on = (words_owned b after own sound is, goes);
        adds = adds;
        spends = inl (fewer_left b after is (λ same. let long : length after.log ≡ length b.log = ap (λ (x : BusView). length x.log) same in omega (arith, seen, less, long)));
      }

  -- the run is ended by a word that was due
  pub over_own : IsSound after → (n : ℕ) → Visits a c.number b after (OfferIs c.number c.cursor post Over) → Adds c.number b after → LosesOwn c.number n b after
  over_own sound n v adds =
      let left_is : after ≡ v.left = alone_left a v.left after alone v.is_left in
      let is : after ≡ after_words b = left_is ∙ (v.done).1 ∙ words_there v.found v.later in
      let over : is_over after.system after.log ≡ true = ap (λ (x : BusView). is_over x.system x.log) left_is ∙ (v.done).0 in
      record {
        owned = words_owned b after own sound is;
        adds = adds;
        ends = inr over;
        fewer = fewer_left b after is (λ same. true≢false (sym over ∙ ap (λ (x : BusView). is_over x.system x.log) same ∙ own.1));
      }

  -- one that lived is lost by a word that was due
  pub off_own : IsSound after → was_lost_in (drop c.cursor b.log) c.number ≡ false → Visits a c.number b after (OfferIs c.number c.cursor post Off) → Adds c.number b after → LosesOwn c.number c.cursor b after
  off_own sound lives v adds =
      let left_is : after ≡ v.left = alone_left a v.left after alone v.is_left in
      let is : after ≡ after_words b = left_is ∙ (v.done).1 ∙ words_there v.found v.later in
      let lost : was_lost_in (drop c.cursor after.log) c.number ≡ true = ap (λ (x : BusView). was_lost_in (drop c.cursor x.log) c.number) left_is ∙ (v.done).0 in
      let fewer = fewer_left b after is (λ same. true≢false (sym lost ∙ ap (λ (x : BusView). was_lost_in (drop c.cursor x.log) c.number) same ∙ lives)) in
      record { owned = words_owned b after own sound is; adds = adds; ends = inl lost; fewer = fewer }

-- a loss that stands behind its cursor stands behind where it has come to
pub lost_later : (k : ClusterNo) (b after mid : BusView) (n m : ℕ) → mid ≡ after → ((was_lost_in (drop n after.log) k ≡ true) ⊎ IsOver after → (was_lost_in (drop m mid.log) k ≡ true) ⊎ IsOver mid) → LosesOwn k n b after → LosesOwn k m b mid
lost_later k b after mid n m same ends loses =
    let there : LosesOwn k n b mid = subst (LosesOwn k n b) (sym same) loses in
    record { owned = there.owned; adds = there.adds; ends = ends loses.ends; fewer = there.fewer }

-- ---- a rest

module _ (b after : BusView) (k : ClusterNo) (cursor : ℕ) (m : Mark) (own : GoesOwn b) (sound : IsSound after) (seen : cursor ≡ length b.log) (lives : was_lost_in (drop cursor b.log) k ≡ false) (has : k.0 < (b.system).clusters) (answered : HasAnswered b k.0) where
  words_system : (after_words b).system ≡ b.system
  words_system = (after_worded b).system

  marks_there : length (after_words b).marks ≡ (b.system).clusters
  marks_there = words_marks b ∙ (own.0).marks

  -- the bus took the mark, where no word was due or some were
  rests_or : (idled : Idled) → TakesMark (after_words b) k cursor m idled after → after.left ≡ (after_words b).left → IsSameOrFewer b (after_words b) → HasRested k b after
  rests_or idled took left (inr fewer) = inr (inl (subst (λ (l : List ScriptWord). length l < length b.left) (sym left) fewer))
  rests_or idled took left (inl same) =
      elim (told_rest b after k cursor m idled (subst (λ x. TakesMark x k cursor m idled after) same took) (omega (arith, has, (own.0).marks)) answered) [
        | inl over ↦ inl over
        | inr rest ↦ inr (inr (ap length left ∙ ap (λ (x : BusView). length x.left) same, rest))
      ]

  told_owned : (t : Option Idled) → TellIs k cursor m t b after → IsOwned after × HasRested k b after
  told_owned (Some Marked) told = (
    record {
      sound = sound;
      marks = ap (λ (x : BusView). length x.marks) told.3 ∙ length-set (after_words b).marks k.0 (Some m) ∙ marks_there ∙ ap (λ (s : System). s.clusters) (sym (ap (λ (x : BusView). x.system) told.3 ∙ words_system));
      unstopped = λ closed. absurd (true≢false (sym closed ∙ open_not_closed after.system after.log sound.legal (ap (λ (x : BusView). is_over x.system x.log) told.3 ∙ (told.0).goes_on)));
    },
    rests_or Marked told (ap (λ (x : BusView). x.left) told.3) (words_fewer b),
  )
  told_owned (Some (WasDone at)) told =
      let ends = told.3 in (
        record {
          sound = sound;
          marks = ap (λ (x : BusView). length x.marks) ends.ended ∙ length-set (after_words b).marks k.0 (Some m) ∙ marks_there ∙ ap (λ (s : System). s.clusters) (sym (ap (λ (x : BusView). x.system) ends.ended ∙ words_system));
          unstopped = λ closed. ap (λ (x : BusView). is_finished x.log) ends.ended ∙ finished-snoc (after_words b).log (entry_of (after_words b).system (after_words b).log (record { by = Bus; what = Done ends.rests }));
        },
        rests_or (WasDone at) told (ap (λ (x : BusView). x.left) ends.ended) (words_fewer b),
      )
  told_owned None told = (words_owned b after own sound told.1, inr (inl (fewer_left b after told.1 (never told.0))))
    where
      never : (is_over after.system after.log ≡ true) ⊎ (was_lost_in (drop cursor after.log) k ≡ true) ⊎ (cursor < length after.log) → after ≡ b → ⊥
      never (inl over) same = true≢false (sym over ∙ ap (λ (x : BusView). is_over x.system x.log) same ∙ own.1)
      never (inr (inl lost)) same = true≢false (sym lost ∙ ap (λ (x : BusView). was_lost_in (drop cursor x.log) k) same ∙ lives)
      never (inr (inr behind)) same = let less : cursor < length b.log = subst (λ (x : BusView). cursor < length x.log) same behind in omega (arith, seen, less)

pub told_own : (a : Bool) → a ≡ true → (b after : BusView) (c : ClusterView) (m : Mark) (t : Option Idled) → GoesOwn b → IsSound after → IsAlong b c → c.cursor ≡ length b.log → HasAnswered b (c.number).0 → Adds c.number b after → Visits a c.number b after (TellIs c.number c.cursor m t) → TellsOwn c.number b after
told_own a alone b after c m t own sound along seen answered adds v =
    let is : TellIs c.number c.cursor m t b after =
    subst (λ x. TellIs c.number c.cursor m t b x) (sym (alone_left a v.left after alone v.is_left)) (subst (λ x. TellIs c.number c.cursor m t x v.left) (alone_later a c.number b v.found alone v.later) v.done) in
    let has : (c.number).0 < (b.system).clusters = subst (λ (s : System). (c.number).0 < s.clusters) along.system (along.beside).has in
    let done = told_owned b after c.number c.cursor m own sound seen (seen_unlost b.log c.number c.cursor seen) has answered t is in
    record { owned = done.0; adds = adds; rests = done.1 }

-- ---- turns

-- a cluster took in what was new, and nothing else changed
pub taken_most : (b : BusView) (c caught : ClusterView) → TakesIn b c caught → IsAtMost (remaining_of b c) (remaining_of b caught)
taken_most b c caught takes = by_taken takes.some
  where
    by_taken : (c.cursor < caught.cursor) ⊎ (caught ≡ c) → IsAtMost (remaining_of b c) (remaining_of b caught)
    by_taken (inl more) = let within = ((takes.along).beside).within in inl (inr (refl, inr (inl (refl, omega (arith, more, within)))))
    by_taken (inr is) = inr (refl, refl, ap (λ (v : ClusterView). length b.log - v.cursor) is, ap load is)

-- no more was left to a cluster when the rest of its turn began
pub turn_then : (b after : BusView) (c caught new : ClusterView) → caught.number ≡ c.number → IsAtMost (remaining_of b c) (remaining_of b caught) → TurnsOwn b after caught new → TurnsOwn b after c new
turn_then b after c caught new number most rest = record {
  owned = rest.owned;
  adds = subst (λ k. Adds k b after) number rest.adds;
  empty = rest.empty;
  spends = rest.spends;
  lasts = elim rest.lasts [ inl over ↦ inl over | inr less ↦ inr (at_most_then (remaining_of b c) (remaining_of b caught) (remaining_of after new) most less) ];
  gets_on = subst (λ (k : ClusterNo). GetsOn b after (remaining_of b c) (remaining_of after new) k.0 (k.0 + 1)) number (by_way rest.gets_on);
}
  where
    by_way : GetsOn b after (remaining_of b caught) (remaining_of after new) (caught.number).0 ((caught.number).0 + 1) → GetsOn b after (remaining_of b c) (remaining_of after new) (caught.number).0 ((caught.number).0 + 1)
    by_way (inl falls) = inl (then_falls (remaining_of b c) (remaining_of b caught) (remaining_of after new) most falls)
    by_way (inr more) = inr more

-- as where it took in what was new
pub turn_after : (b mid after : BusView) (c caught new : ClusterView) → mid ≡ b → TakesIn mid c caught → TurnsOwn mid after caught new → TurnsOwn b after c new
turn_after b mid after c caught new same taken turn =
    let takes : TakesIn b c caught = subst (λ x. TakesIn x c caught) same taken in
    turn_then b after c caught new (takes.same).number (taken_most b c caught takes) (subst (λ x. TurnsOwn x after caught new) same turn)

-- a cluster that lived was lost in its turn, or the run has ended in that
pub gone_turn : (b after : BusView) (c new : ClusterView) → new.number ≡ c.number → LosesOwn c.number new.cursor b after → TurnsOwn b after c new
gone_turn b after c new same loses = record {
  owned = loses.owned;
  adds = loses.adds;
  empty = λ goes lives. ended_not after c.number new.number new.cursor same loses.ends goes lives;
  spends = inr (inl loses.fewer);
  lasts = inr (inl (inl loses.fewer));
  gets_on = inl (inl loses.fewer);
}

-- what its own loss makes of the bus
one_fewer : {X : Type 0} (t : X → Bool) (xs : List X) → list_any t xs ≡ true → length (without_first t xs) < length xs
one_fewer t [] some = absurd (true≢false (sym some))
one_fewer t (x ∷ xs) some = by_test (t x) some (one_fewer t xs)
  where
    by_test : (b : Bool) → (b || list_any t xs) ≡ true → (list_any t xs ≡ true → length (without_first t xs) < length xs) → length (cond b xs (x ∷ without_first t xs)) < length (x ∷ xs)
    by_test true some more = omega arith
    by_test false some more = let less = more some in omega (arith, less)

pub loses_own : (b after : BusView) (k : ClusterNo) (c : ClusterView) (at : ℕ) → GoesOwn b → IsSound after → was_lost_in (drop c.cursor after.log) k ≡ true → has_unused b.left k (own_cause c) ≡ true → Loses b k (own_cause c) (Ok at) after → LosesOwn k c.cursor b after
loses_own b after k c at own sound lost unused loses =
    let left : List ScriptWord = without_first (is_word_for k (own_cause c)) b.left in
    let is : after ≡ with_loss b k (own_cause c) left = loses.3 in
    let open_still : is_closed after.log ≡ false = ap (λ (x : BusView). is_closed x.log) is ∙ closed-snoc b.log (entry_of b.system b.log (record { by = Bus; what = Crash k (own_cause c) })) in
    let fewer : length after.left < length b.left = subst (λ (x : BusView). length x.left < length b.left) (sym is) (one_fewer (is_word_for k (own_cause c)) b.left unused) in
    record {
      owned = record {
        sound = sound;
        marks = ap (λ (x : BusView). length x.marks) is ∙ length-map b.marks (λ (m : Option Mark). None) ∙ (own.0).marks ∙ ap (λ (s : System). s.clusters) (sym (ap (λ (x : BusView). x.system) is));
        unstopped = λ closed. absurd (true≢false (sym closed ∙ open_still));
      };
      adds = lost_adds b after k c (Ok at) loses;
      ends = inl lost;
      fewer = fewer;
    }

-- a process of the cluster moved, and sent nothing
pub moves_turn : (b mid : BusView) (c caught worked : ClusterView) → mid ≡ b → GoesOwn b → TakesIn mid c caught → load worked + 1 ≤ load caught → worked.cursor ≡ caught.cursor → worked.queue ≡ [] → TurnsOwn b mid c worked
moves_turn b mid c caught worked same own taken less cursor empty =
    let takes : TakesIn b c caught = subst (λ x. TakesIn x c caught) same taken in
    let falls = by_taken takes takes.some in
    subst (λ x. TurnsOwn b x c worked) (sym same) (record {
      owned = own.0;
      adds = adds_none c.number b;
      empty = λ goes lives. empty;
      spends = inr (inr (refl, inr refl));
      lasts = inr (inl falls);
      gets_on = inl falls;
    })
  where
    by_taken : TakesIn b c caught → (c.cursor < caught.cursor) ⊎ (caught ≡ c) → Falls (remaining_of b c) (remaining_of b worked)
    by_taken takes (inl more) = let within = ((takes.along).beside).within in inr (refl, inr (inl (refl, omega (arith, more, within, cursor))))
    by_taken takes (inr is) = inr (refl, inr (inr (refl, ap (λ n. length b.log - n) (cursor ∙ ap (λ (v : ClusterView). v.cursor) is), (let heavy : load caught ≡ load c = ap load is in omega (arith, less, heavy)))))

-- the cluster worked and then told so: its turn is over
pub tells_turn : (b mid after : BusView) (c caught new : ClusterView) → mid ≡ b → TakesIn mid c caught → new ≡ counted_once caught → c.queue ≡ [] → TellsOwn new.number mid after → TurnsOwn b after c new
tells_turn b mid after c caught new same taken is empty tells =
    let takes : TakesIn b c caught = subst (λ x. TakesIn x c caught) same taken in
    let number : new.number ≡ c.number = ap (λ (v : ClusterView). v.number) is ∙ (takes.same).number in
    let t : TellsOwn c.number b after = subst (λ x. TellsOwn c.number x after) same (subst (λ k. TellsOwn k mid after) number tells) in
    record {
      owned = t.owned;
      adds = t.adds;
      empty = λ goes lives. ap (λ (v : ClusterView). v.queue) is ∙ takes.queue empty;
      spends = spent t.rests;
      lasts = lasting takes (t.adds).system t.rests;
      gets_on = getting t.rests;
    }
  where
    spent : HasRested c.number b after → HasSpent b after
    spent (inl over) = inl over
    spent (inr (inl fewer)) = inr (inl fewer)
    spent (inr (inr rest)) = inr (inr (rest.0, inr (rest.1).log))

    getting : HasRested c.number b after → GetsOn b after (remaining_of b c) (remaining_of after new) (c.number).0 ((c.number).0 + 1)
    getting (inl over) = inr (inl over)
    getting (inr (inl fewer)) = inl (inl fewer)
    getting (inr (inr rest)) = inr (inr rest.1)

    at_most : length after.left ≡ length b.left → TakesIn b c caught → after.system ≡ b.system → after.log ≡ b.log → (c.cursor < caught.cursor) ⊎ (caught ≡ c) → IsAtMost (remaining_of b c) (remaining_of after new)
    at_most words takes system log (inl more) =
        let within = ((takes.along).beside).within in
        let cursor : new.cursor ≡ caught.cursor = ap (λ (v : ClusterView). v.cursor) is in
        let long : length after.log ≡ length b.log = ap length log in
        inl (inr (words, inr (inl ((λ i. left_of_posts (system i) (log i)), omega (arith, more, within, cursor, long)))))
    at_most words takes system log (inr none) = inr (words, (λ i. left_of_posts (system i) (log i)), (λ i. length (log i) - ((ap (λ (v : ClusterView). v.cursor) is ∙ ap (λ (v : ClusterView). v.cursor) none) i)), ap load is ∙ ap load none)

    lasting : TakesIn b c caught → after.system ≡ b.system → HasRested c.number b after → IsOver after ⊎ IsAtMost (remaining_of b c) (remaining_of after new)
    lasting takes system (inl over) = inl over
    lasting takes system (inr (inl fewer)) = inr (inl (inl fewer))
    lasting takes system (inr (inr rest)) = inr (at_most rest.0 takes system (rest.1).log takes.some)

-- the cluster waits for a page, and left the bus as it is
pub waits_turn : (b mid : BusView) (c caught new : ClusterView) → mid ≡ b → GoesOwn b → TakesIn mid c caught → new ≡ counted_once caught → c.queue ≡ [] → AwaitsPage mid → HasAnswered mid (caught.number).0 → TurnsOwn b mid c new
waits_turn b mid c caught new same own taken is empty waits answered =
    let takes : TakesIn b c caught = subst (λ x. TakesIn x c caught) same taken in
    let number : caught.number ≡ c.number = (takes.same).number in
    let rest : Rests b b (c.number).0 ((c.number).0 + 1) =
    waiting_rests b c.number (subst AwaitsPage same waits) (subst (λ x. HasAnswered x (c.number).0) same (subst (λ (k : ClusterNo). HasAnswered mid k.0) number answered)) in
    subst (λ x. TurnsOwn b x c new) (sym same) (record {
      owned = own.0;
      adds = adds_none c.number b;
      empty = λ goes lives. ap (λ (v : ClusterView). v.queue) is ∙ takes.queue empty;
      spends = inr (inr (refl, inr refl));
      lasts = inr (subst (λ x. IsAtMost (remaining_of b c) (remaining_of b x)) (sym is) (taken_most b c caught takes));
      gets_on = inr (inr rest);
    })

-- the cluster worked and then sent its posts, or was lost
pub sends_turn : (b mid after : BusView) (c caught worked new : ClusterView) → mid ≡ b → TakesIn mid c caught → worked.number ≡ caught.number → (length after.left < length mid.left) ⊎ (length mid.log < length after.log) → SendsAll mid after worked new
    → TurnsOwn b after c new
sends_turn b mid after c caught worked new same taken number_is more sends =
    let number : worked.number ≡ c.number = number_is ∙ (taken.same).number in
    let adds : Adds c.number b after = subst (λ x. Adds c.number x after) same (subst (λ k. Adds k mid after) number sends.adds) in
    let spends : Spends b after = subst (λ x. Spends x after) same sends.spends in
    let did = by_more (subst (λ (x : BusView). (length after.left < length x.left) ⊎ (length x.log < length after.log)) same more) spends in
    record {
      owned = sends.owned;
      adds = adds;
      empty = sends.empty;
      spends = elim did [ inl fewer ↦ inr (inl fewer) | inr less ↦ inr (inr (less.0, inl less.1)) ];
      lasts = inr (inl (falls did));
      gets_on = inl (falls did);
    }
  where
    by_more : (length after.left < length b.left) ⊎ (length b.log < length after.log) → Spends b after → (length after.left < length b.left) ⊎ ((length after.left ≡ length b.left) × (left_of_posts after.system after.log < left_of_posts b.system b.log))
    by_more more (inl fewer) = inl fewer
    by_more (inl fewer) (inr less) = inl fewer
    by_more (inr grown) (inr less) = inr (less.0, omega (arith, grown, less.1))

    falls : (length after.left < length b.left) ⊎ ((length after.left ≡ length b.left) × (left_of_posts after.system after.log < left_of_posts b.system b.log)) → Falls (remaining_of b c) (remaining_of after new)
    falls (inl fewer) = inl fewer
    falls (inr less) = inr (less.0, inl less.1)

pub where_ok : {A E : Type 0} (r : Result A E) (P Q : Type 0) → (P → Q) → OnOk r P → OnOk r Q
where_ok (Ok a) P Q then holds = then holds
where_ok (Err e) P Q then holds = tt

pub where_both : {A E : Type 0} (r : Result A E) (P Q R : Type 0) → (P → Q → R) → OnOk r P → OnOk r Q → OnOk r R
where_both (Ok a) P Q R then one two = then one two
where_both (Err e) P Q R then one two = tt

pub where_each : {A E : Type 0} (r : Result A E) (P Q : A → Type 0) → ((a : A) → P a → Q a) → IfOk r P → IfOk r Q
where_each (Ok a) P Q then holds = then a holds
where_each (Err e) P Q then holds = tt
