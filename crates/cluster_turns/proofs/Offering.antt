-- A cluster at a bus that it has for a moment.
use Rattle.std.proofs.Common.{◌≡◌, ℕ, ◌+◌, ◌<◌, refl, sym, ◌∙◌, ap, subst, arith, inl, inr, List, [], ◌∷◌, ◌++◌, length, take, drop, length-append, append-nil, Bool, false, true, cond, not, ◌&&◌, ◌||◌, Option, Some, None, true≢false}
use Rattle.std.specs.List.{list_all, list_any}
use Rattle.std.proofs.lemmas.List.{take-append-le, drop-append-le, take_all}
use Rattle.std.proofs.lemmas.List.Elements.{All-nil}
use Rattle.std.proofs.lemmas.List.Folds.{list_any-append}
use Rattle.t32_base.specs.declared.process.ClusterNo.{ClusterNo}
use Rattle.bus_msg.specs.declared.entry.By.TheVariants.{Bus}
use Rattle.bus_msg.specs.declared.entry.What.TheVariants.{Done}
use Rattle.bus_msg.specs.declared.entry.Post.{Post}
use Rattle.bus_msg.specs.declared.entry.Entry.{Entry}
use Rattle.cert_sched.specs.Appended.{entry_of}
use Rattle.cert_sched.specs.Rules.{is_over}
use Rattle.cert_sched.specs.Legal.{IsLegalBy, MayStand}
use Rattle.cert_sched.specs.declared.script.ScriptWord.{ScriptWord}
use Rattle.cert_sched.specs.Losses.{was_lost_in}
use Rattle.cert_sched.specs.Scripted.{is_server}
use Rattle.cert_sched.proofs.Induction.{is_over-snoc, legal_prefix}
use Rattle.cluster_core.specs.View.{ClusterView, head_of, tried_once}
use Rattle.cluster_core.specs.Follows.{Follows}
use Rattle.cluster_core.proofs.working.Working.{follows_tried}
use Rattle.bus_lock.specs.Lists.{MayAdd}
use Rattle.bus_order.specs.declared.marks.Mark.{Mark}
use Rattle.bus_order.specs.declared.marks.Idled.{Idled}
use Rattle.bus_order.specs.declared.marks.Idled.TheVariants.{Marked, Done as WasDone}
use Rattle.bus_order.specs.Log.{author_of}
use Rattle.bus_order.specs.Script.{is_unpassed, off_at}
use Rattle.bus_order.specs.View.{BusView, after_words}
use Rattle.script_laws.proofs.PassedWords.{all_longer}
use Rattle.cluster_turns.specs.declared.offers.Offered.TheVariants.{Sent, Behind, Over, Off}
use Rattle.cluster_turns.specs.Disks.{IsDiskOf, calls_for}
use Rattle.cluster_turns.specs.Gone.{is_told_by}
use Rattle.cluster_turns.specs.Along.{IsAlong, IsBeside, IsSound, IsUnnamed}
use Rattle.cluster_turns.specs.Turns.{IsSent}
use Rattle.cluster_turns.specs.Offers.{Adds, GrowsFor, IsLeft, IsLonger, IsTold, IsToldBy, Later, OfferIs, TellIs, Visits}
use Rattle.cluster_turns.proofs.OwnLosses.{passed_next}
use Rattle.cluster_turns.proofs.Worded.{Worded, after_worded, may_add}

-- ---- the log grows

-- who stands beside a log stands beside a longer one, if none of what is new is its own
pub beside_longer : (log more after : List Entry) (c : ClusterView) → IsBeside log c → after ≡ log ++ more → list_any (is_told_by c.number) more ≡ false → IsBeside after c
beside_longer log more after c beside longer others =
    let front : take c.cursor after ≡ take c.cursor log = ap (take c.cursor) longer ∙ take-append-le c.cursor log more beside.within in
    let back : drop c.cursor after ≡ drop c.cursor log ++ more = ap (drop c.cursor) longer ∙ drop-append-le c.cursor log more beside.within in
    let long : length after ≡ length log + length more = ap length longer ∙ length-append log more in
    record {
      has = beside.has;
      within = omega (arith, long, beside.within);
      goes_on = ap (is_over c.system) front ∙ beside.goes_on;
      lives = ap (λ l. off_at l c.number) front ∙ beside.lives;
      follows = subst (λ log. Follows c.system log c) (sym front) beside.follows;
      told_before = ap (list_any (is_told_by c.number)) back ∙ list_any-append (is_told_by c.number) (drop c.cursor log) more ∙ (λ i. beside.told_before i || others i);
      unfailed = beside.unfailed;
    }

-- and has the disk that it had
pub disk_longer : (script words : List ScriptWord) (log after : List Entry) (c : ClusterView) → words ≡ script → take c.cursor after ≡ take c.cursor log → IsDiskOf script log c → IsDiskOf words after c
disk_longer script words log after c same front disk = disk ∙ sym (λ i. cond (is_server c.system c.number && not (was_lost_in (front i) c.number)) (Some (Some (calls_for c.number (same i)))) None)

pub along_longer : (b after : BusView) (c : ClusterView) → IsAlong b c → IsLonger c.number b after → IsAlong after c
along_longer b after c along grows = record {
  system = along.system ∙ sym grows.0;
  beside = beside_longer b.log (grows.2).more after.log c along.beside (grows.2).longer (grows.2).others;
  passed = (λ i. list_all (is_unpassed c.number ((grows.2).longer i) c.steps) (grows.1 i)) ∙ all_longer c.number b.log (grows.2).more c.steps b.script along.passed;
  disk = disk_longer b.script after.script b.log after.log c grows.1 (ap (take c.cursor) (grows.2).longer ∙ take-append-le c.cursor b.log (grows.2).more (along.beside).within) along.disk;
}

pub grows_none : (k : ClusterNo) (log : List Entry) → GrowsFor k log log
grows_none k log = record { more = []; longer = sym (append-nil log); others = refl }

pub adds_none : (k : ClusterNo) (b : BusView) → Adds k b b
adds_none k b = record { system = refl; script = refl; more = []; log = sym (append-nil b.log); may = All-nil (MayAdd author_of k.0) }

-- words that were due lose others, or this cluster, which follows the log up to there
pub along_worded : (b after : BusView) (c : ClusterView) → Worded b after → IsAlong b c → IsAlong after c
along_worded b after c words along = along_longer b after c along (words.system, words.script, record { more = words.more; longer = words.log; others = words.others c.number })

pub adds_worded : (k : ClusterNo) (b after : BusView) → Worded b after → Adds k b after
adds_worded k b after words = record { system = words.system; script = words.script; more = words.more; log = words.log; may = may_add k words.more words.none }

-- ---- others may have had the bus

pub later_grows : (a : Bool) (k : ClusterNo) (old new : BusView) → Later a k old new → IsLonger k old new
later_grows true k old new later =
    let P : BusView → Type 0 = λ (b : BusView). IsLonger k old b in
    subst P (sym later) (refl, refl, grows_none k old.log)
later_grows false k old new later = later

pub left_same : (a : Bool) (left new : BusView) → IsLeft a left new → (new.system ≡ left.system) × (new.script ≡ left.script) × (new.log ≡ left.log)
left_same true left new is = (ap (λ (b : BusView). b.system) is, ap (λ (b : BusView). b.script) is, ap (λ (b : BusView). b.log) is)
left_same false left new is = is

-- a bus with the same log is one that has not grown
pub same_longer : (k : ClusterNo) (old new : BusView) → (new.system ≡ old.system) × (new.script ≡ old.script) × (new.log ≡ old.log) → IsLonger k old new
same_longer k old new same = (same.0, same.1, subst (GrowsFor k old.log) (sym same.2) (grows_none k old.log))

pub alone_later : (a : Bool) (k : ClusterNo) (old new : BusView) → a ≡ true → Later a k old new → new ≡ old
alone_later true k old new alone later = later
alone_later false k old new alone later = absurd (true≢false (sym alone))

pub alone_left : (a : Bool) (left new : BusView) → a ≡ true → IsLeft a left new → new ≡ left
alone_left true left new alone is = is
alone_left false left new alone is = absurd (true≢false (sym alone))

-- ---- the head is tried

pub along_tried : (b : BusView) (c : ClusterView) → IsUnnamed b c → IsAlong b c → IsAlong b (tried_once c)
along_tried b c unnamed along = record {
  system = along.system;
  beside = record {
    has = (along.beside).has;
    within = (along.beside).within;
    goes_on = (along.beside).goes_on;
    lives = (along.beside).lives;
    follows = follows_tried c (take c.cursor b.log) (along.beside).follows;
    told_before = (along.beside).told_before;
    unfailed = (along.beside).unfailed;
  };
  passed = passed_next b c unnamed along.passed;
  disk = along.disk;
}

-- ---- a post was offered

module _ (a : Bool) (b after : BusView) (c : ClusterView) (post : Post) (along : IsAlong b c) where
  found_along : (found : BusView) → Later a c.number b found → IsAlong found c
  found_along found later = along_longer b found c along (later_grows a c.number b found later)

  -- once the words that were due were carried out
  words_along : (found : BusView) → Later a c.number b found → IsAlong (after_words found) c
  words_along found later = along_worded found (after_words found) c (after_worded found) (found_along found later)

  -- what was left is there still
  pub stays : (found left : BusView) → Later a c.number b found → IsLeft a left after → left ≡ after_words found → IsAlong after c × (after.system ≡ left.system) × (after.log ≡ left.log)
  stays found left later is_left is =
      let same = left_same a left after is_left in
      let there : IsAlong left c = subst (λ x. IsAlong x c) (sym is) (words_along found later) in
      (along_longer left after c there (same_longer c.number left after same), same.0, same.2)

  pub was_behind : (v : Visits a c.number b after (OfferIs c.number c.cursor post Behind)) → IsAlong after c × (is_over after.system after.log ≡ false) × (was_lost_in (drop c.cursor after.log) c.number ≡ false) × (c.cursor < length after.log)
  was_behind v =
      let there = stays v.found v.left v.later v.is_left (v.done).3 in (
        there.0,
        (λ i. is_over (there.1 i) (there.2 i)) ∙ (v.done).0,
        ap (λ l. was_lost_in (drop c.cursor l) c.number) there.2 ∙ (v.done).1,
        subst (λ l. c.cursor < length l) (sym there.2) (v.done).2,
      )

  pub was_over : (v : Visits a c.number b after (OfferIs c.number c.cursor post Over)) → IsAlong after c
  was_over v = (stays v.found v.left v.later v.is_left (v.done).1).0

  pub was_ended : (v : Visits a c.number b after (OfferIs c.number c.cursor post Over)) → is_over after.system after.log ≡ true
  was_ended v = let there = stays v.found v.left v.later v.is_left (v.done).1 in (λ i. is_over (there.1 i) (there.2 i)) ∙ (v.done).0

  pub was_off : (v : Visits a c.number b after (OfferIs c.number c.cursor post Off)) → IsAlong after c × (was_lost_in (drop c.cursor after.log) c.number ≡ true)
  was_off v =
      let there = stays v.found v.left v.later v.is_left (v.done).1 in
      (there.0, ap (λ l. was_lost_in (drop c.cursor l) c.number) there.2 ∙ (v.done).0)

  pub was_sent : IsSound after → head_of c.queue ≡ Some post → c.tried ≡ true → (v : Visits a c.number b after (OfferIs c.number c.cursor post Sent)) → IsSent (after_words v.found).log c post after
  was_sent sound head tried v =
      let found : BusView = after_words v.found in
      let here = words_along v.found v.later in
      let same = left_same a v.left after v.is_left in
      let system : c.system ≡ after.system = here.system ∙ sym (same.0 ∙ ap (λ (b : BusView). b.system) (v.done).2) in
      let longer : after.log ≡ found.log ++ entry_of c.system found.log post ∷ [] =
      same.2 ∙ ap (λ (b : BusView). b.log) (v.done).2 ∙ ap (λ s. found.log ++ entry_of s found.log post ∷ []) (sym here.system) in
      let script : after.script ≡ found.script = same.1 ∙ ap (λ (b : BusView). b.script) (v.done).2 in
      let part : take (length found.log) after.log ≡ found.log =
      ap (take (length found.log)) longer ∙ take-append-le (length found.log) found.log (entry_of c.system found.log post ∷ []) (omega arith) ∙ take_all (length found.log) found.log (omega arith) in
      record {
        beside = here.beside;
        passed = ap (list_all (is_unpassed c.number found.log c.steps)) script ∙ here.passed;
        disk = disk_longer found.script after.script found.log found.log c script refl here.disk;
        seen = (v.done).1;
        goes_on = ap (λ s. is_over s found.log) here.system ∙ ((v.done).0).goes_on;
        head = head;
        tried = tried;
        legal = subst (IsLegalBy MayStand c.system) part (subst (λ s. IsLegalBy MayStand s (take (length found.log) after.log)) (sym system) (legal_prefix MayStand after.system after.log (length found.log) sound.legal));
        system = system;
        longer = longer;
      }

  -- the log of a cluster that had seen all of it is longer then
  pub sent_longer : (v : Visits a c.number b after (OfferIs c.number c.cursor post Sent)) → c.cursor < length after.log
  sent_longer v =
      let found : BusView = after_words v.found in
      let same = left_same a v.left after v.is_left in
      let longer : after.log ≡ found.log ++ entry_of found.system found.log post ∷ [] = same.2 ∙ ap (λ (b : BusView). b.log) (v.done).2 in
      let long : length after.log ≡ length found.log + 1 = ap length longer ∙ length-append found.log (entry_of found.system found.log post ∷ []) in
      let seen : c.cursor ≡ length found.log = (v.done).1 in
      omega (arith, long, seen)

-- ---- a rest was told

-- what the bus made of it, for a cluster along the bus
pub left_grows : (k : ClusterNo) (cursor : ℕ) (m : Mark) (t : Option Idled) (found left : BusView) → TellIs k cursor m t found left → IsLonger k (after_words found) left
left_grows k cursor m None found left is = subst (IsLonger k (after_words found)) (sym is.1) (refl, refl, grows_none k (after_words found).log)
left_grows k cursor m (Some Marked) found left is = subst (IsLonger k (after_words found)) (sym is.3) (refl, refl, grows_none k (after_words found).log)
left_grows k cursor m (Some (WasDone at)) found left is =
    let ends = is.3 in
    let words : BusView = after_words found in
    subst (IsLonger k words) (sym ends.ended) (refl, refl, record { more = entry_of words.system words.log (record { by = Bus; what = Done ends.rests }) ∷ []; longer = refl; others = refl })

pub told_along : (a : Bool) (b after : BusView) (c : ClusterView) (m : Mark) (t : Option Idled) → IsAlong b c → Visits a c.number b after (TellIs c.number c.cursor m t) → IsAlong after c
told_along a b after c m t along v =
    let found = along_longer b v.found c along (later_grows a c.number b v.found v.later) in
    let words = along_worded v.found (after_words v.found) c (after_worded v.found) found in
    let left = along_longer (after_words v.found) v.left c words (left_grows c.number c.cursor m t v.found v.left v.done) in
    let same = left_same a v.left after v.is_left in
    along_longer v.left after c left (same_longer c.number v.left after same)

pub was_told : (c : ClusterView) (m : Mark) (t : Option Idled) (found left : BusView) → IsToldBy c m → TellIs c.number c.cursor m t found left → IsTold c left
was_told c m (Some Marked) found left told is = inl (after_words found, m, told, is.3)
was_told c m (Some (WasDone at)) found left told is =
    let ends = is.3 in
    let words : BusView = after_words found in
    inr (inl (let P : BusView → Type 0 = λ (b : BusView). is_over b.system b.log ≡ true in subst P (sym ends.ended) (is_over-snoc words.system words.log (entry_of words.system words.log (record { by = Bus; what = Done ends.rests })))))
was_told c m None found left told is = inr is.0
