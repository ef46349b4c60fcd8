-- The marks of the processes that a cluster runs, with the entry that comes next and with the one post that is queued.
use Rattle.std.proofs.Common.{◌≡◌, ◌≤◌, ◌-◌, ℕ, refl, sym, ◌∙◌, ap, subst, arith, List, [], ◌∷◌, ◌++◌, Bool, true, false, cond, ◌&&◌, ne_eqb, Option, Some, None, true≢false, ◌⊎◌, inl, inr}
use Rattle.std.specs.Prelude.{⊤, ◌≢◌, nat_lt, option_and_then, option_map}
use Rattle.std.specs.List.{list_all}
use Rattle.std.specs.Option.{option_map_or}
use Rattle.std.proofs.lemmas.Bool.{and_parts}
use Rattle.t32_base.specs.declared.process.Pid.{Pid}
use Rattle.t32_base.specs.declared.process.ClusterNo.{ClusterNo}
use Rattle.t32_base.specs.declared.letter.Letter.{Letter}
use Rattle.t32_base.proofs.Facts.{or_first}
use Rattle.sys_text.specs.declared.system.System.{System}
use Rattle.sys_text.specs.Valid.{is_system}
use Rattle.proc_state.specs.declared.process.Process.{Process}
use Rattle.proc_state.specs.State.{ProcState, state_of, has_ended}
use Rattle.sys_calls.specs.declared.steps.Emission.{Emission}
use Rattle.sys_calls.specs.declared.steps.Emission.TheVariants.{Mail as Sent, Exit as Ended}
use Rattle.sys_calls.specs.Next.{last_emission}
use Rattle.sys_calls.proofs.Counting.{last_counts}
use Rattle.bus_msg.specs.declared.entry.What.{What}
use Rattle.bus_msg.specs.declared.entry.What.TheVariants.{Exit, Page}
use Rattle.bus_msg.specs.declared.entry.Post.{Post}
use Rattle.bus_msg.specs.declared.entry.Entry.{Entry}
use Rattle.bus_msg.specs.Places.{same_pid}
use Rattle.bus_msg.specs.PlacedAfter.{what}
use Rattle.cert_sched.specs.Account.{is_exit_of}
use Rattle.cert_sched.specs.Appended.{entry_of}
use Rattle.cert_sched.specs.Rules.{tells_or_closes}
use Rattle.cluster_core.specs.Sent.{SentMayStand}
use Rattle.cert_sched.specs.Deeds.{arrived_count, is_birth_of, is_cut, is_end_of}
use Rattle.cert_sched.specs.Legal.{IsLegalBy, Stands}
use Rattle.cert_sched.specs.Losses.{is_from}
use Rattle.cert_sched.specs.Moved.{any_since_moved}
use Rattle.cert_sched.specs.Schedule.{done_after, placement, process_after}
use Rattle.cert_sched.specs.Simulation.{IsUnended}
use Rattle.cert_sched.specs.Steps.{after_items, emission_at, process_of}
use Rattle.cert_sched.specs.Told.{cluster_lost, is_moved}
use Rattle.cert_sched.proofs.EndedLaws.{exit_told}
use Rattle.cert_sched.proofs.LogLaws.{IsLegal-before}
use Rattle.cert_sched.proofs.OpenLaws.{unended_open}
use Rattle.cert_sched.proofs.RollLaws.{all_roll, rolls_next}
use Rattle.cert_sched.proofs.StepLaws.{Tells}
use Rattle.log_laws.proofs.letters.LogReads.{itself}
use Rattle.log_laws.proofs.pages.OneEntry.{any_since-goes_on}
use Rattle.checkpoint_laws.specs.marks.Beside.{LeavesMarks, is_some_page}
use Rattle.checkpoint_laws.specs.marks.Sent.{SentUpto, is_later_page}
use Rattle.checkpoint_laws.proofs.marks.EntryMarks.{marks_before, marks_kept}
use Rattle.checkpoint_laws.proofs.marks.LetterMarks.{letter_kept}
use Rattle.checkpoint_laws.proofs.marks.SentPages.{sent_on}
use Rattle.residents.specs.Held.{Held, Runs, Rolls, Waits, arrived, arrived_held}
use Rattle.cluster_core.specs.Queue.{AreTogether, Queued, Nothing, One, posts_of, IsQueueLegal, is_lone, is_move_of, is_rebackup, move_of, state_by, state_now, taken_by, tells_steps, with_queue}
use Rattle.cluster_core.specs.Holds.{CarriesMarks, IsHeldAs, MarkedIfThere, process_in, unended_process}
use Rattle.cluster_core.proofs.absorbing.ByKind.{by_kind, by_page, is_of_page, lone_is, told_may}
use Rattle.cluster_core.proofs.here.Here.{arrival_at}
use Rattle.cluster_core.proofs.absorbing.Posted.{moves_it, no_end}
use Rattle.cluster_core.proofs.absorbing.Telling.{Telling, telling}
use Rattle.cluster_core.proofs.absorbing.Unmoved.{page_moves_none}
use Rattle.log_laws.proofs.letters.RollingReads.{silent_next}
use Rattle.replay_laws.proofs.rolling.Others.{rolls_next as rolling_next}

-- ---- what leaves the marks of a process

-- an entry that says this is no cut, birth or page of the process, and no crash that moves it
abbrev pub Leaves : System → List Entry → Pid → What → Type 0
Leaves system log p w = (is_cut p w ≡ false) × (is_birth_of p w ≡ false) × (is_some_page p w ≡ false) × (option_map_or (is_moved p (placement system log)) (cluster_lost w) false ≡ false)

pub told_leaves : (system : System) (log : List Entry) (p : Pid) (w : What) → tells_or_closes w ≡ true → Leaves system log p w
told_leaves system log p = by_kind (Leaves system log p) (λ at letter. (refl, refl, refl, refl)) (λ pid at end. (refl, refl, refl, refl)) (λ rests. (refl, refl, refl, refl)) (refl, refl, refl, refl)

pub page_leaves : (system : System) (log : List Entry) (p : Pid) (w : What) → is_of_page w ≡ true → Leaves system log p w
page_leaves system log p = by_page (Leaves system log p) (λ pid index. (refl, refl, refl, refl)) (λ pid index bytes. (refl, refl, refl, refl))

pub lone_leaves : (system : System) (log : List Entry) (p : Pid) (w : What) → is_lone w ≡ true → Leaves system log p w
lone_leaves system log p w lone = by_one (lone_is w lone)
  where
    by_one : (tells_or_closes w ≡ true) ⊎ (is_of_page w ≡ true) → Leaves system log p w
    by_one (inl tells) = told_leaves system log p w tells
    by_one (inr of) = page_leaves system log p w of

pub leaves_marks : (system : System) (log : List Entry) (e : Entry) (p : Pid) → Leaves system log p (what e) → is_exit_of p (what e) ≡ false → LeavesMarks system log e p
leaves_marks system log e p leaves no_exit = record { no_cut = leaves.0; no_birth = leaves.1; no_exit = no_exit; no_page = leaves.2; stays = leaves.3 }

-- ---- one more entry

pub not_later : (p : Pid) (n : ℕ) (w : What) → is_some_page p w ≡ false → is_later_page p n w ≡ false
not_later p n (Page pid at index bytes) none = ap (λ b. b && nat_lt n at) none
not_later p n _ none = refl

module _ (system : System) (log : List Entry) (e : Entry) (p : Pid) (leaves : LeavesMarks system log e p) where
  sent_before : (n : ℕ) → SentUpto system (log ++ e ∷ []) p n → SentUpto system log p n
  sent_before n upto =
      or_first (any_since_moved system log p (is_later_page p n)) (is_later_page p n (what e)) (sym (any_since-goes_on system log e p (is_later_page p n) leaves.stays) ∙ upto)

  module _ (valid : is_system system ≡ true) (legal : IsLegalBy Stands system log) (unended : IsUnended system log p) (s : Process) (came : (s.mail).next ≡ arrived_count log p) where
    low : (s.mail).next ≤ arrived_count log p
    low = omega (arith, came)

    carried_on : CarriesMarks system log p s → CarriesMarks system (log ++ e ∷ []) p s
    carried_on m = record {
      marked = marks_kept system log e p s valid legal unended leaves low m.marked;
      pages = m.pages;
      sent = sent_on system log p e (s.small).steps (not_later p (s.small).steps (what e) leaves.no_page) m.sent;
    }

    carried_before : CarriesMarks system (log ++ e ∷ []) p s → CarriesMarks system log p s
    carried_before m = record { marked = marks_before system log e p s valid legal unended leaves low m.marked; pages = m.pages; sent = sent_before (s.small).steps m.sent }

-- ---- a letter that arrives

carried_letter : (system : System) (log : List Entry) (p : Pid) (s : Process) (letter : Letter) → CarriesMarks system log p s → CarriesMarks system log p (arrived s letter)
carried_letter system log p s letter m = record { marked = letter_kept system log p s letter m.marked; pages = m.pages; sent = m.sent }

-- what an entry brings a process that is held leaves its marks
pub arrival_marked : (system : System) (log : List Entry) (w : What) (p : Pid) (h : Held) → tells_or_closes w ≡ true → MarkedIfThere CarriesMarks system log p (unended_process h) → MarkedIfThere CarriesMarks system log p (unended_process (arrival_at w p h))
arrival_marked system log w p h tells =
    by_kind (λ w. MarkedIfThere CarriesMarks system log p (unended_process h) → MarkedIfThere CarriesMarks system log p (unended_process (arrival_at w p h)))
    (λ at letter. by_end letter (is_end_of p letter.to)) (λ pid at end m. m) (λ rests m. m) (λ m. m) w tells
  where
    by_status : (letter : Letter) (s : Process) (b : Bool) → MarkedIfThere CarriesMarks system log p (cond b None (Some s)) → MarkedIfThere CarriesMarks system log p (cond b None (Some (arrived s letter)))
    by_status letter s true m = tt
    by_status letter s false m = carried_letter system log p s letter m

    by_held : (letter : Letter) (h : Held) → MarkedIfThere CarriesMarks system log p (unended_process h) → MarkedIfThere CarriesMarks system log p (unended_process (arrived_held h letter))
    by_held letter (Runs s) m = by_status letter s (has_ended (s.small).status) m
    by_held letter (Rolls s counts births) m = by_status letter s (has_ended (s.small).status) m
    by_held letter (Waits waiting) m = tt

    by_end : (letter : Letter) (b : Bool) → MarkedIfThere CarriesMarks system log p (unended_process h) → MarkedIfThere CarriesMarks system log p (unended_process (cond b (arrived_held h letter) h))
    by_end letter true m = by_held letter h m
    by_end letter false m = m

-- ---- one post in the log

lone_no_rebackup : (w : What) → is_lone w ≡ true → is_rebackup w ≡ false
lone_no_rebackup w lone = by_one (lone_is w lone)
  where
    by_one : (tells_or_closes w ≡ true) ⊎ (is_of_page w ≡ true) → is_rebackup w ≡ false
    by_one (inl tells) = by_kind (λ w. is_rebackup w ≡ false) (λ at letter. refl) (λ pid at end. refl) (λ rests. refl) refl w tells
    by_one (inr of) = by_page (λ w. is_rebackup w ≡ false) (λ pid index. refl) (λ pid index bytes. refl) w of

pub with_one : (system : System) (log : List Entry) (post : Post) → is_lone post.what ≡ true → with_queue system log (post ∷ []) ≡ log ++ entry_of system log post ∷ []
with_one system log post lone = ap (λ b. cond b log (log ++ entry_of system log post ∷ [])) (lone_no_rebackup post.what lone)

-- ---- how many letters came to a process

-- what is held is a process that has not ended
record Unended (h : Held) (s : Process) : Type 0 where
  pub process : process_in h ≡ Some s
  pub runs : has_ended (s.small).status ≡ false

unended_is : (h : Held) (s : Process) → unended_process h ≡ Some s → Unended h s
unended_is h s = by_process (process_in h) refl
  where
    by_status : (t : Process) (b : Bool) → process_in h ≡ Some t → has_ended (t.small).status ≡ b → cond b None (Some t) ≡ Some s → Unended h s
    by_status t true there ended is = cc
    by_status t false there ended is =
        let same : t ≡ s = cc in
        record { process = there ∙ ap Some same; runs = ap (λ (s : Process). has_ended (s.small).status) (sym same) ∙ ended }

    by_process : (o : Option Process) → process_in h ≡ o → option_and_then (λ (p : Process). cond (has_ended (p.small).status) None (Some p)) o ≡ Some s → Unended h s
    by_process None there is = cc
    by_process (Some t) there is = by_status t (has_ended (t.small).status) there refl is

-- a post that is queued and tells of steps tells what the log says
abbrev pub TellsAs : System → List Entry → Queued → Type 0
TellsAs system log Nothing = ⊤
TellsAs system log (One post) = tells_or_closes post.what ≡ true → Telling system log (entry_of system log post)

-- a letter and an exit leave what their step left
taken_told : (w : What) (s : ProcState) → tells_or_closes w ≡ true → taken_by w s ≡ s
taken_told w s = by_kind (λ w. taken_by w s ≡ s) (λ at letter. refl) (λ pid at end. refl) (λ rests. refl) refl w

-- what moves a process tells of steps
moving_tells : (p : Pid) (post : Post) (w : What) → is_lone post.what ≡ true → move_of p (post ∷ []) ≡ Some w → (tells_or_closes post.what ≡ true) × (post.what ≡ w)
moving_tells p post w lone moves = by_one (lone_is post.what lone)
  where
    same : (b : Bool) → option_map (λ (post : Post). post.what) (cond b (Some post) None) ≡ Some w → post.what ≡ w
    same true is = cc
    same false is = cc

    by_one : (tells_or_closes post.what ≡ true) ⊎ (is_of_page post.what ≡ true) → (tells_or_closes post.what ≡ true) × (post.what ≡ w)
    by_one (inl tells) = (tells, same (is_move_of p post) moves)
    by_one (inr of) = let none : None ≡ Some w = sym (ap (λ b. option_map (λ (post : Post). post.what) (cond b (Some post) None)) (page_moves_none p post of)) ∙ moves in cc

module _ (system : System) (log : List Entry) (p : Pid) (valid : is_system system ≡ true) (legal : IsLegalBy Stands system log) (unended : IsUnended system log p) where
  process_next : (s : ProcState) → process_after system log p ≡ Some s → s.next ≡ arrived_count log p
  process_next s there = rolls_next system log p s ((all_roll Stands itself system log valid legal).rolls p s there (unended_open Stands itself system log p valid legal unended s there))

  -- what a process sends ahead of the log leaves the number of the next letter
  sent_next : (at : ℕ) (m : Emission) (t : ProcState) → emission_at system log p at ≡ Some (m, t) → t.next ≡ arrived_count log p
  unfolding emission_at
  sent_next at m t is = by_process (process_after system log p) refl is
    where
      by_process : (o : Option ProcState) → process_after system log p ≡ o → option_and_then (last_emission (at - done_after system log p)) o ≡ Some (m, t) → t.next ≡ arrived_count log p
      by_process None there is = cc
      by_process (Some w) there is = (last_counts (at - done_after system log p) w m t is).next ∙ process_next w there

  -- a process that has sent a post
  moved_next : (q : Queued) (w : What) (s : ProcState) → AreTogether q → TellsAs system log q → move_of p (posts_of q) ≡ Some w → option_map (taken_by w) (after_items system log w) ≡ Some s → s.next ≡ arrived_count log p
  moved_next Nothing w s together tells moves is = cc
  moved_next (One post) w s together tells moves is =
      let m = moving_tells p post w together moves in
      let t = tells m.0 in
      let pids : Some t.pid ≡ Some p = sym t.process ∙ ap process_of m.1 ∙ moves_it p (post ∷ []) w moves in
      let pid : t.pid ≡ p = cc in
      let items : Some (taken_by post.what t.after) ≡ Some s = sym (ap (option_map (taken_by post.what)) t.items) ∙ ap (λ w. option_map (taken_by w) (after_items system log w)) m.1 ∙ is in
      let after : taken_by post.what t.after ≡ s = cc in
      ap (λ (s : ProcState). s.next) (sym after ∙ taken_told post.what t.after m.0) ∙ sent_next t.at t.emission t.after (ap (λ q. emission_at system log q t.at) (sym pid) ∙ t.is)

  -- as many letters have come to a process that is held as came to it in the log
  pub came_to : (q : Queued) (h : Held) (s : Process) → AreTogether q → TellsAs system log q → IsHeldAs system log (posts_of q) p h → unended_process h ≡ Some s → (s.mail).next ≡ arrived_count log p
  came_to q h s together tells held is = by_held h held (unended_is h s is)
    where
      by_move : (t : Process) (o : Option What) → move_of p (posts_of q) ≡ o → has_ended (t.small).status ≡ false → state_by system log p (t.small).steps o ≡ Some (state_of t) → (t.mail).next ≡ arrived_count log p
      by_move t None moves runs is = silent_next system log p (t.small).steps (state_of t) valid legal is runs
      by_move t (Some w) moves runs is = moved_next q w (state_of t) together tells moves is

      by_held : (h : Held) → IsHeldAs system log (posts_of q) p h → Unended h s → (s.mail).next ≡ arrived_count log p
      by_held (Runs t) held u =
          let same : t ≡ s = let is = u.process in cc in
          ap (λ (s : Process). (s.mail).next) (sym same)
          ∙ by_move t (move_of p (posts_of q)) refl (ap (λ (s : Process). has_ended (s.small).status) same ∙ u.runs) held
      by_held (Rolls t counts births) held u =
          let same : t ≡ s = let is = u.process in cc in
          ap (λ (s : Process). (s.mail).next) (sym same) ∙ rolling_next system log p (state_of t) counts births (held.1).rolls
      by_held (Waits waiting) held u = let is = u.process in cc

  -- ---- the post that is queued

  -- what is queued ends no process that is held and has not ended
  ends_other : (post : Post) (h : Held) (s : Process) → is_lone post.what ≡ true → TellsAs system log (One post) → IsHeldAs system log (post ∷ []) p h → unended_process h ≡ Some s → is_exit_of p post.what ≡ false
  ends_other post h s lone tells held is = by_exit (is_exit_of p post.what) refl
    where
      moved_by_it : (w : What) → is_exit_of p w ≡ true → option_map_or (λ q. same_pid q p) (process_of w) false ≡ true
      moved_by_it (Exit pid at end) exits = exits
      moved_by_it _ exits = absurd (true≢false (sym exits))

      tells_too : (w : What) → is_exit_of p w ≡ true → (tells_steps w ≡ true) × (tells_or_closes w ≡ true)
      tells_too (Exit pid at end) exits = (refl, refl)
      tells_too _ exits = absurd (true≢false (sym exits))

      -- what ends a process has ended it
      ended_by : (w : What) (q : Pid) (at : ℕ) (m : Emission) (t : ProcState) → is_exit_of p w ≡ true → Tells q at m w → emission_at system log q at ≡ Some (m, t) → has_ended (t.small).status ≡ true
      ended_by w q at (Ended end) t exits told is = exit_told system log q at end t is
      ended_by w q at (Sent letter) t exits told is = absurd (true≢false (sym exits ∙ ap (is_exit_of p) told.1))

      moves : is_exit_of p post.what ≡ true → move_of p (post ∷ []) ≡ Some post.what
      moves exits =
          ap (λ b. option_map (λ (post : Post). post.what) (cond b (Some post) None))
          (ap (λ b. cond b (option_map_or (λ q. same_pid q p) (process_of post.what) false) false) (tells_too post.what exits).0 ∙ moved_by_it post.what exits)

      has_ended_then : is_exit_of p post.what ≡ true → (t : Process) → state_now system log (post ∷ []) p (t.small).steps ≡ Some (state_of t) → has_ended (t.small).status ≡ true
      has_ended_then exits t held =
          let told = tells (tells_too post.what exits).1 in
          let items : Some (taken_by post.what told.after) ≡ Some (state_of t) = sym (ap (option_map (taken_by post.what)) told.items) ∙ sym (ap (state_by system log p (t.small).steps) (moves exits)) ∙ held in
          let after : taken_by post.what told.after ≡ state_of t = cc in
          ap (λ (s : ProcState). has_ended (s.small).status) (sym after ∙ taken_told post.what told.after (tells_too post.what exits).1) ∙ ended_by post.what told.pid told.at told.emission told.after exits told.tells told.is

      by_held : (h : Held) → is_exit_of p post.what ≡ true → IsHeldAs system log (post ∷ []) p h → Unended h s → ⊥
      by_held (Runs t) exits held u =
          let same : t ≡ s = let is = u.process in cc in
          true≢false (sym (has_ended_then exits t held) ∙ ap (λ (s : Process). has_ended (s.small).status) same ∙ u.runs)
      by_held (Rolls t counts births) exits held u = let none : Some post.what ≡ None = sym (moves exits) ∙ held.0 in cc
      by_held (Waits waiting) exits held u = let is = u.process in cc

      by_exit : (b : Bool) → is_exit_of p post.what ≡ b → b ≡ false
      by_exit true exits = absurd (by_held h exits held (unended_is h s is))
      by_exit false exits = refl

  -- its entry leaves the marks of each process that is held and has not ended
  queue_leaves : (post : Post) (h : Held) (s : Process) → is_lone post.what ≡ true → TellsAs system log (One post) → IsHeldAs system log (post ∷ []) p h → unended_process h ≡ Some s → LeavesMarks system log (entry_of system log post) p
  queue_leaves post h s lone tells held is = leaves_marks system log (entry_of system log post) p (lone_leaves system log p post.what lone) (ends_other post h s lone tells held is)

  -- with what is queued it has the marks that it has without, and the other way
  pub marked_queued : (q : Queued) (h : Held) → AreTogether q → TellsAs system log q → IsHeldAs system log (posts_of q) p h → MarkedIfThere CarriesMarks system log p (unended_process h)
      → MarkedIfThere CarriesMarks system (with_queue system log (posts_of q)) p (unended_process h)
  marked_queued Nothing h together tells held = λ m. m
  marked_queued (One post) h together tells held = subst (λ l. MarkedIfThere CarriesMarks system log p (unended_process h) → MarkedIfThere CarriesMarks system l p (unended_process h)) (sym (with_one system log post together)) (by_process (unended_process h) refl)
    where
      by_process : (o : Option Process) → unended_process h ≡ o → MarkedIfThere CarriesMarks system log p o → MarkedIfThere CarriesMarks system (log ++ entry_of system log post ∷ []) p o
      by_process None is m = tt
      by_process (Some s) is m = carried_on system log (entry_of system log post) p (queue_leaves post h s together tells held is) valid legal unended s (came_to (One post) h s together tells held is) m

  pub marked_unqueued : (q : Queued) (h : Held) → AreTogether q → TellsAs system log q → IsHeldAs system log (posts_of q) p h → MarkedIfThere CarriesMarks system (with_queue system log (posts_of q)) p (unended_process h)
      → MarkedIfThere CarriesMarks system log p (unended_process h)
  marked_unqueued Nothing h together tells held = λ m. m
  marked_unqueued (One post) h together tells held =
      subst (λ l. MarkedIfThere CarriesMarks system l p (unended_process h) → MarkedIfThere CarriesMarks system log p (unended_process h)) (sym (with_one system log post together)) (by_process (unended_process h) refl)
    where
      by_process : (o : Option Process) → unended_process h ≡ o → MarkedIfThere CarriesMarks system (log ++ entry_of system log post ∷ []) p o → MarkedIfThere CarriesMarks system log p o
      by_process None is m = tt
      by_process (Some s) is m = carried_before system log (entry_of system log post) p (queue_leaves post h s together tells held is) valid legal unended s (came_to (One post) h s together tells held is) m

  -- an entry that leaves its marks, where something may be queued
  pub marked_next : (e : Entry) (q : Queued) (h : Held) → AreTogether q → TellsAs system log q → IsHeldAs system log (posts_of q) p h → Leaves system log p (what e) → is_exit_of p (what e) ≡ false → MarkedIfThere CarriesMarks system log p (unended_process h)
      → MarkedIfThere CarriesMarks system (log ++ e ∷ []) p (unended_process h)
  marked_next e q h together tells held leaves no_exit = by_process (unended_process h) refl
    where
      by_process : (o : Option Process) → unended_process h ≡ o → MarkedIfThere CarriesMarks system log p o → MarkedIfThere CarriesMarks system (log ++ e ∷ []) p o
      by_process None is m = tt
      by_process (Some s) is m = carried_on system log e p (leaves_marks system log e p leaves no_exit) valid legal unended s (came_to q h s together tells held is) m

-- ---- an entry of another cluster

-- what tells of another process ends no other
pub exit_other : (p q : Pid) (at : ℕ) (m : Emission) (w : What) → Tells q at m w → p.0 ≢ q.0 → is_exit_of p w ≡ false
exit_other p q at (Sent letter) w tells other = ap (is_exit_of p) tells.1
exit_other p q at (Ended end) w tells other = ap (is_exit_of p) tells ∙ ne_eqb q.0 p.0 (λ same. other (sym same))

-- a queue whose posts may follow tells what the log says
pub queue_tells : (system : System) (log : List Entry) (k : ClusterNo) (q : Queued) → list_all (λ (post : Post). is_from k post.by) (posts_of q) ≡ true → IsQueueLegal SentMayStand system log (posts_of q) → TellsAs system log q
queue_tells system log k Nothing own legal = tt
queue_tells system log k (One post) own legal = λ tells.
    let from : is_from k post.by ≡ true = (and_parts (is_from k post.by) true own).0 in
    let may = told_may system log (entry_of system log post) legal.0 tells in
    telling system log (entry_of system log post) may (no_end k (placement system log) post.by post.what tells from (may.stands).by_right)

-- a process that an entry leaves, where something may be queued, is marked with it as without, also where something comes to it then
pub marked_after : (system : System) (log : List Entry) (e : Entry) (p : Pid) (q : Queued) (was h : Held) → is_system system ≡ true → IsLegalBy Stands system (log ++ e ∷ []) → IsUnended system log p → IsUnended system (log ++ e ∷ []) p
    → AreTogether q → TellsAs system log q → TellsAs system (log ++ e ∷ []) q → IsHeldAs system log (posts_of q) p was → IsHeldAs system (log ++ e ∷ []) (posts_of q) p h → Leaves system log p (what e) → is_exit_of p (what e) ≡ false
    → (MarkedIfThere CarriesMarks system (log ++ e ∷ []) p (unended_process was) → MarkedIfThere CarriesMarks system (log ++ e ∷ []) p (unended_process h))
    → MarkedIfThere CarriesMarks system (with_queue system log (posts_of q)) p (unended_process was) → MarkedIfThere CarriesMarks system (with_queue system (log ++ e ∷ []) (posts_of q)) p (unended_process h)
marked_after system log e p q was h valid legal unended later together tells tells_later held now leaves no_exit comes m =
    let before = IsLegal-before Stands system log e legal in
    marked_queued system (log ++ e ∷ []) p valid legal later q h together tells_later now
    (comes (marked_next system log p valid before unended e q was together tells held leaves no_exit (marked_unqueued system log p valid before unended q was together tells held m)))
