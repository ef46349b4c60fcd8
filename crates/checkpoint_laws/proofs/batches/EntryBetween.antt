-- An entry that comes between the posts of a batch: the process is where it was, with the letters that the entry brings it, and what is left may still be sent.
use Rattle.std.proofs.Common.{◌≡◌, ℕ, zero, suc, ◌+◌, ◌-◌, ◌<◌, refl, sym, ◌∙◌, ap, subst, arith, List, [], ◌∷◌, ◌++◌, length, true, false, not, ◌||◌, ltb, Option, Some, None, is_some, true≢false}
use Rattle.std.specs.Prelude.{nat_le, option_and_then}
use Rattle.std.specs.List.{list_all}
use Rattle.std.specs.Option.{option_map_or}
use Rattle.std.proofs.lemmas.Bool.{and_parts}
use Rattle.std.proofs.lemmas.Option.{same_Some}
use Rattle.t32_base.specs.declared.process.Pid.{Pid}
use Rattle.t32_base.specs.declared.process.ClusterNo.{ClusterNo}
use Rattle.t32_base.specs.declared.letter.Arrived.{Arrived}
use Rattle.t32_base.specs.declared.letter.Letter.{Letter}
use Rattle.t32_base.specs.Account.{Account, page_in}
use Rattle.t32_base.proofs.Facts.{or_false}
use Rattle.sys_text.specs.declared.system.System.{System}
use Rattle.proc_state.specs.State.{ProcState, delivered, has_ended}
use Rattle.sys_calls.specs.declared.steps.Emission.TheVariants.{Mail as Sent, Exit as Ended}
use Rattle.sys_calls.specs.Next.{silently}
use Rattle.sys_calls.proofs.Counting.{silently_counts}
use Rattle.sys_calls.proofs.RunLemma.{all_delivered, silently-all_delivered}
use Rattle.plain_kernel.specs.Kernel.{Kernel, process_at}
use Rattle.bus_msg.specs.declared.entry.What.{What}
use Rattle.bus_msg.specs.declared.entry.What.TheVariants.{Mail, Birth, Exit, Sync, Rebackup, Done}
use Rattle.bus_msg.specs.declared.entry.By.TheVariants.{Cluster}
use Rattle.bus_msg.specs.declared.entry.Entry.{Entry}
use Rattle.bus_msg.specs.Places.{Places, same_pid}
use Rattle.bus_msg.specs.PlacedAfter.{what}
use Rattle.roll_forward.specs.Deeds.{Sends, Bears}
use Rattle.cert_sched.specs.CertAfter.{count_in}
use Rattle.cert_sched.specs.Schedule.{done, done_after, placement, plain_after, process_after, steps_in}
use Rattle.cert_sched.specs.Deeds.{deeds_in, is_birth_of, is_cut, letter_for, numbered, saved_letters, starts, arrived_count}
use Rattle.cert_sched.specs.Record.{has_state}
use Rattle.cert_sched.specs.Scripted.{is_done}
use Rattle.cert_sched.specs.Simulation.{IsUnended}
use Rattle.cert_sched.specs.Steps.{numbers_read, page_count, saved_of, silent_upto}
use Rattle.cert_sched.specs.Kinds.{ChildrenSynced, after_take}
use Rattle.cert_sched.specs.Rules.{ends_run}
use Rattle.cert_sched.specs.Legal.{IsLegalBy, Stands}
use Rattle.cert_sched.proofs.CutLaws.{by_home_there}
use Rattle.cert_sched.proofs.CameLaws.{Came, went_on, was_cut, was_born, came}
use Rattle.cert_sched.proofs.Induction.{is_over-snoc}
use Rattle.cert_sched.proofs.LogLaws.{IsLegal-snoc}
use Rattle.cert_sched.proofs.MailLaws.{silent_upto-ends}
use Rattle.cert_sched.proofs.OpenLaws.{unended_open}
use Rattle.cert_sched.proofs.RecordLaws.{has_state-snoc, saved_letters-other}
use Rattle.cert_sched.proofs.ReplayLaws.{Replays, all_delivered-is, replays_counts}
use Rattle.cert_sched.proofs.RollLaws.{AllRoll, Rolls, all_roll, rolls_next, two_apart}
use Rattle.cert_sched.proofs.MadeLaws.{apart_from}
use Rattle.cert_sched.proofs.StepLaws.{SilentFrom, done_after-other, done_after-quiet, done_kernel, silent_from}
use Rattle.cert_sched.proofs.ThereLaws.{unended_there}
use Rattle.log_laws.proofs.pages.PagesStay.{page_count-snoc}
use Rattle.log_laws.specs.letters.Numbered.{are_below, are_in_order}
use Rattle.log_laws.proofs.letters.LogReads.{itself, all_saved_numbered}
use Rattle.checkpoint_laws.specs.posts.Cut.{TakesTo}
use Rattle.checkpoint_laws.specs.posts.Sending.{MaySend, is_due_at}
use Rattle.checkpoint_laws.proofs.posts.TakeLeaves.{LeavesSame, runs_before, takes_leave}
use Rattle.checkpoint_laws.proofs.posts.Beside.{start_stays}
use Rattle.checkpoint_laws.proofs.marks.EntryMarks.{account_stays, sent_stay, steps_stay}
use Rattle.checkpoint_laws.specs.batches.Between.{ComesBetween}
use Rattle.checkpoint_laws.specs.batches.Underway.{BatchMay, PagesLeft, PagesMay, posts_left, with_letters}
use Rattle.checkpoint_laws.proofs.batches.ChildrenStay.{children_stay, no_deed}
use Rattle.checkpoint_laws.proofs.batches.LettersRead.{same_read}
use Rattle.checkpoint_laws.proofs.batches.TakenLetters.{letters_come}

-- ---- the count of a process after an entry that tells nothing that it did

-- it raises the count of another, where it raises one
raises_other : (p : Pid) (w : What) → is_cut p w ≡ false → deeds_in p w ≡ [] → (r : Pid × ℕ) → count_in w ≡ Some r → same_pid r.0 p ≡ false
raises_other p w no_cut none r raises = by_what w no_cut none raises
  where
    of : (q : Pid) (n : ℕ) → Some (q, n) ≡ Some r → same_pid q p ≡ false → same_pid r.0 p ≡ false
    of q n same apart = ap (λ (o : Option (Pid × ℕ)). option_map_or (λ (x : Pid × ℕ). same_pid x.0 p) o false) (sym same) ∙ apart

    by_what : (w : What) → is_cut p w ≡ false → deeds_in p w ≡ [] → count_in w ≡ Some r → same_pid r.0 p ≡ false
    by_what (Mail at letter) no_cut none same = of letter.from at same (no_deed letter.from p (Sends (Sent letter)) none)
    by_what (Birth parent at child end) no_cut none same = of parent at same (no_deed parent p (Bears child) none)
    by_what (Exit q at end) no_cut none same = of q at same (no_deed q p (Sends (Ended end)) none)
    by_what (Sync q small read took) no_cut none same = of q small.steps same no_cut
    by_what (Rebackup to true []) no_cut none same = cc
    by_what (Rebackup to true (s ∷ rs)) no_cut none same = of s.pid (steps_in s.state) same no_cut
    by_what _ no_cut none same = cc

count_stays : (system : System) (log : List Entry) (e : Entry) (p : Pid) → is_done (what e) ≡ false → is_some (plain_after system (log ++ e ∷ [])) ≡ true → is_cut p (what e) ≡ false → deeds_in p (what e) ≡ []
    → done_after system (log ++ e ∷ []) p ≡ done_after system log p
count_stays system log e p goes_on applies no_cut none = by_count (count_in (what e)) refl
  where
    by_count : (o : Option (Pid × ℕ)) → count_in (what e) ≡ o → done_after system (log ++ e ∷ []) p ≡ done_after system log p
    by_count None is = done_after-quiet system log e p goes_on applies is
    by_count (Some r) is = done_after-other system log e r.0 p r.1 goes_on applies is (apart_from r.0 p (raises_other p (what e) no_cut none r is))

not_done : (places : Places) (w : What) → ends_run places w ≡ false → is_done w ≡ false
not_done places (Done rests) goes_on = goes_on
not_done places _ goes_on = refl

-- letters that come, in one step
pub as_delivered : (s : ProcState) (letters : List Letter) → with_letters s letters ≡ all_delivered s letters
as_delivered s [] = refl
as_delivered s (l ∷ letters) = as_delivered (delivered s l) letters

-- no steps lead where it is
no_steps : (n : ℕ) (s t : ProcState) → n ≡ 0 → Replays n s [] t → t ≡ s
no_steps zero s t none made = made.1
no_steps (suc n) s t none made = absurd (omega (arith, none))

-- ---- a process that may be sent

module _ (system : System) (log : List Entry) (e : Entry) (k : ClusterNo) (p : Pid) (before : ProcState) (comes : ComesBetween system log e k p) (may : MaySend system log (Cluster k) p before)
    (runs : has_ended (before.small).status ≡ false) where
  abbrev letters : List Letter
  letters = letter_for p (what e)

  -- ---- where the process was after the log

  from : SilentFrom system log p (before.small).steps before
  from = silent_from system log p (before.small).steps before may.reached

  abbrev was : ProcState
  was = from.was

  there : process_after system log p ≡ Some was
  there = ap (option_and_then (λ k. process_at k p)) from.before ∙ from.there

  open_still : has_ended (was.small).status ≡ false
  open_still = sym (silent_upto-ends system log p (before.small).steps was before there may.reached) ∙ runs

  all : AllRoll system log
  all = all_roll Stands itself system log comes.valid comes.legal

  rolls : Rolls system log p was
  rolls = all.rolls p was there open_still

  next : before.next ≡ arrived_count log p
  next = (silently_counts ((before.small).steps - done from.kernel p) was before from.silent).next ∙ rolls_next system log p was rolls

  -- ---- where it is after the entry

  legal_more : IsLegalBy Stands system (log ++ e ∷ [])
  legal_more = IsLegal-snoc Stands system log e comes.legal comes.stands

  unended : IsUnended system (log ++ e ∷ []) p
  unended = by_home_there (placement system (log ++ e ∷ [])) (Cluster k) p comes.home

  done_is : (l : List Entry) (x : ProcState) → process_after system l p ≡ Some x → done_after system l p ≡ (x.small).steps
  done_is l x is = by_kernel (plain_after system l) is
    where
      by_kernel : (o : Option Kernel) → option_and_then (λ k. process_at k p) o ≡ Some x → option_map_or (λ k. done k p) o 0 ≡ (x.small).steps
      by_kernel None is = cc
      by_kernel (Some j) is = ap (λ (o : Option ProcState). option_map_or (λ (s : ProcState). (s.small).steps) o 0) is

  done_stays : done_after system (log ++ e ∷ []) p ≡ done_after system log p
  done_stays = count_stays system log e p (not_done (placement system log) (what e) (sym (is_over-snoc system log e) ∙ comes.goes_on)) (comes.stands).applies (comes.leaves).no_cut comes.no_deeds

  arrives : process_after system (log ++ e ∷ []) p ≡ Some (all_delivered was letters)
  arrives = by_process (process_after system (log ++ e ∷ []) p) refl (unended_there Stands itself system (log ++ e ∷ []) p comes.valid legal_more unended)
    where
      went : (now : ProcState) → process_after system (log ++ e ∷ []) p ≡ Some now → Came system log (what e) p now → now ≡ all_delivered was letters
      went now after (went_on w here birth g) =
          let same : w ≡ was = same_Some w was (sym here ∙ there) in
          let made : Replays g.made w [] g.to = subst (λ ds. Replays g.made w ds g.to) comes.no_deeds g.replays in
          let steps = (replays_counts g.made w g.to [] made).steps in
          let delivered_steps : (now.small).steps ≡ ((g.to).small).steps = ap (λ (x : ProcState). (x.small).steps) (g.arrives ∙ all_delivered-is g.to letters) in
          let before : done_after system log p ≡ (w.small).steps = done_is log w here in
          let later : done_after system (log ++ e ∷ []) p ≡ (now.small).steps = done_is (log ++ e ∷ []) now after in
          let stays = done_stays in
          let none : g.made ≡ 0 = omega (arith, steps, delivered_steps, before, later, stays) in
          g.arrives ∙ ap (λ x. all_delivered x letters) (no_steps g.made w g.to none made ∙ same)
      went now after (was_cut w here runs cut kept) = absurd (true≢false (sym cut ∙ (comes.leaves).no_cut))
      went now after (was_born birth none) = absurd (true≢false (sym birth ∙ (comes.leaves).no_birth))

      by_process : (o : Option ProcState) → process_after system (log ++ e ∷ []) p ≡ o → is_some o ≡ true → o ≡ Some (all_delivered was letters)
      by_process None after some = absurd (true≢false (sym some))
      by_process (Some now) after some =
          ap Some (went now after (came system log e comes.stands (two_apart system log all) p now after (unended_open Stands itself system (log ++ e ∷ []) p comes.valid legal_more unended now after)))

  reached : silent_upto system (log ++ e ∷ []) p (before.small).steps ≡ Some (all_delivered before letters)
  unfolding silent_upto
  reached =
      let steps : (before.small).steps - done_after system (log ++ e ∷ []) p ≡ (before.small).steps - done from.kernel p =
      ap (λ n. (before.small).steps - n) (done_stays ∙ done_kernel system log from.kernel p from.before) in
      (λ j. option_and_then (silently (steps j)) (arrives j))
      ∙ silently-all_delivered ((before.small).steps - done from.kernel p) was before letters from.silent

  -- ---- the letters

  saved_more : saved_of system (log ++ e ∷ []) p ≡ saved_of system log p ++ numbered before.next letters
  saved_more =
      ap (λ (o : Option ProcState). option_map_or (saved_letters (log ++ e ∷ []) p) o []) (start_stays system log e p (comes.leaves).no_cut (comes.leaves).no_birth ∙ rolls.started)
      ∙ saved_letters-other log e p rolls.start quiet
      ∙ (λ j. option_map_or (saved_letters log p) (sym rolls.started j) [] ++ numbered ((sym rolls.arrived ∙ sym next) j) letters)
    where
      quiet : starts p e ≡ false
      quiet = ap (λ b. b || is_birth_of p (what e)) (comes.leaves).no_cut ∙ (comes.leaves).no_birth

  below : are_below before.next (saved_of system log p) ≡ true
  below =
      ap (λ n. are_below n (saved_of system log p)) next
      ∙ (and_parts (are_in_order (saved_of system log p)) (are_below (arrived_count log p) (saved_of system log p)) (all_saved_numbered system log p was comes.valid comes.legal there open_still)).1

  -- of any mailbox the same were read
  reads_stay : (mail : List Arrived) → numbers_read (saved_of system (log ++ e ∷ []) p) (mail ++ numbered before.next letters) ≡ numbers_read (saved_of system log p) mail
  reads_stay mail = ap (λ saved. numbers_read saved (mail ++ numbered before.next letters)) saved_more ∙ same_read before.next letters mail (saved_of system log p) below

  -- ---- the batch

  -- the process with these letters, before its take and after it
  abbrev with_mail : ProcState → ProcState
  with_mail t = record t { mail = t.mail ++ numbered t.next letters; next = t.next + length letters }

  comes_to : (t : ProcState) → with_letters t letters ≡ with_mail t
  comes_to t = as_delivered t letters ∙ all_delivered-is t letters

  stated : has_state system (log ++ e ∷ []) p ≡ has_state system log p
  stated = has_state-snoc system log e p ∙ ap (λ b. has_state system log p || b) (comes.leaves).no_cut ∙ or_false (has_state system log p)

  counted : page_count system (log ++ e ∷ []) p ≡ page_count system log p
  counted = page_count-snoc system log e p (comes.leaves).no_birth (comes.stands).applies

  may_on : MaySend system (log ++ e ∷ []) (Cluster k) p (with_mail before)
  may_on = record { goes_on = comes.goes_on; by_home = comes.home; reached = reached ∙ ap Some (all_delivered-is before letters) }

  left_on : (steps : ℕ) (memory indices : List ℕ) → PagesLeft system log p steps memory indices → PagesLeft system (log ++ e ∷ []) p steps memory indices
  left_on steps memory indices l = record {
    in_order = l.in_order;
    within = ap (λ n. list_all (λ i. ltb i n) indices) counted ∙ l.within;
    unsent = (λ j. list_all (λ i. not (sent_stay system log e p comes.leaves i steps j)) indices) ∙ l.unsent;
    account = λ i within other. ap (λ (a : Account). page_in a.now i) (account_stays system log e p comes.leaves) ∙ l.account i (subst (λ n. i < n) counted within) other;
  }

  children_on : ChildrenSynced system log p → ChildrenSynced system (log ++ e ∷ []) p
  children_on = children_stay system log e p comes.valid comes.legal comes.stands comes.no_deeds

-- ---- its pages

pub pages_stay : (system : System) (log : List Entry) (e : Entry) (k : ClusterNo) (p : Pid) (s : ProcState) (indices : List ℕ) → ComesBetween system log e k p → PagesMay system log k p s indices
    → PagesMay system (log ++ e ∷ []) k p (with_letters s (letter_for p (what e))) indices
pages_stay system log e k p s indices comes m =
    subst (λ x. PagesMay system (log ++ e ∷ []) k p x indices) (sym (comes_to system log e k p s comes m.may m.runs s))
    (record {
      may = may_on system log e k p s comes m.may m.runs;
      runs = m.runs;
      left = left_on system log e k p s comes m.may m.runs (s.small).steps s.memory indices m.left;
      children = children_on system log e k p s comes m.may m.runs m.children;
    })

-- ---- its batch

module _ (system : System) (log : List Entry) (e : Entry) (k : ClusterNo) (p : Pid) (s : ProcState) (read : List ℕ) (took : Option ℕ) (indices : List ℕ) (comes : ComesBetween system log e k p) (b : BatchMay system log k p s read took indices) where
  abbrev letters_of : List Letter
  letters_of = letter_for p (what e)

  abbrev before_it : ProcState
  before_it = b.before

  runs_it : has_ended (before_it.small).status ≡ false
  runs_it = runs_before took before_it s b.takes b.runs

  same : LeavesSame before_it s
  same = takes_leave took before_it s b.takes

  abbrev mailed : ProcState → ProcState
  mailed = with_mail system log e k p before_it comes b.may runs_it

  comes_there : (t : ProcState) → with_letters t letters_of ≡ mailed t
  comes_there = comes_to system log e k p before_it comes b.may runs_it

  reads_there : (mail : List Arrived) → numbers_read (saved_of system (log ++ e ∷ []) p) (mail ++ numbered before_it.next letters_of) ≡ numbers_read (saved_of system log p) mail
  reads_there = reads_stay system log e k p before_it comes b.may runs_it

  due_stays : is_due_at system (log ++ e ∷ []) p took (mailed before_it) ≡ is_due_at system log p took before_it
  due_stays =
      λ j. nat_le system.syncreads (length (reads_there before_it.mail j)) || nat_le system.syncsteps ((before_it.small).steps - steps_stay system log e p comes.leaves j) || is_some took
      || not (stated system log e k p before_it comes b.may runs_it j)

  goes : BatchMay system (log ++ e ∷ []) k p (mailed s) read took indices
  goes = record {
    before = mailed before_it;
    takes = subst (λ (r : ProcState × ProcState). TakesTo took r.0 r.1) (λ j. (comes_there before_it j, comes_there s j)) (letters_come took before_it s letters_of b.takes);
    may = may_on system log e k p before_it comes b.may runs_it;
    runs = b.runs;
    left = left_on system log e k p before_it comes b.may runs_it (s.small).steps s.memory indices b.left;
    reads = b.reads ∙ sym (reads_there s.mail) ∙ ap (λ n. numbers_read (saved_of system (log ++ e ∷ []) p) (s.mail ++ numbered n letters_of)) (sym same.next);
    children = children_on system log e k p before_it comes b.may runs_it b.children;
    due = due_stays ∙ b.due;
  }

  pub batch_stays : BatchMay system (log ++ e ∷ []) k p (with_letters s letters_of) read took indices
  batch_stays = subst (λ x. BatchMay system (log ++ e ∷ []) k p x read took indices) (sym (comes_there s)) goes

  -- where it was before its take, it is with the letters
  pub batch_reached : (t : ProcState) → silent_upto system log p (s.small).steps ≡ Some t → silent_upto system (log ++ e ∷ []) p (s.small).steps ≡ Some (with_letters t letters_of)
  batch_reached t is =
      let here : before_it ≡ t = same_Some before_it t (sym (b.may).reached ∙ ap (silent_upto system log p) (sym same.steps) ∙ is) in
      ap (silent_upto system (log ++ e ∷ []) p) same.steps ∙ reached system log e k p before_it comes b.may runs_it ∙ ap Some (sym (as_delivered before_it letters_of) ∙ ap (λ (x : ProcState). with_letters x letters_of) here)

  -- so the batch is under way with the process as it is after the take from there
  pub batch_found : (at t : ProcState) → silent_upto system (log ++ e ∷ []) p (s.small).steps ≡ Some at → TakesTo took at t → BatchMay system (log ++ e ∷ []) k p t read took indices
  batch_found at t is takes =
      let here : with_letters before_it letters_of ≡ at = same_Some (with_letters before_it letters_of) at (ap Some (as_delivered before_it letters_of) ∙ sym (reached system log e k p before_it comes b.may runs_it) ∙ ap (silent_upto system (log ++ e ∷ []) p) (sym same.steps) ∙ is) in
      let later : with_letters s letters_of ≡ t = sym (letters_come took before_it s letters_of b.takes).after ∙ ap (after_take took) here ∙ takes.after in
      subst (λ x. BatchMay system (log ++ e ∷ []) k p x read took indices) later batch_stays

-- ---- the posts

-- letters that come leave them
pub same_posts : (k : ClusterNo) (p : Pid) (s : ProcState) (letters : List Letter) (read : List ℕ) (took : Option ℕ) (indices : List ℕ) → posts_left k p (with_letters s letters) read took indices ≡ posts_left k p s read took indices
same_posts k p s letters read took indices = ap (λ x. posts_left k p x read took indices) (as_delivered s letters ∙ all_delivered-is s letters)
