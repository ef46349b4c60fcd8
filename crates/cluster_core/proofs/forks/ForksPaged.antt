-- Which forks are still to be made again after a page: one whose pages have all come has all those of its record to make.
use Rattle.std.proofs.Common.{◌≡◌, ℕ, refl, sym, ◌∙◌, ap, subst, List, [], ◌∷◌, ◌++◌, Bool, true, false, cond, ◌&&◌, eqb-true, Option, Some, None, true≢false}
use Rattle.std.specs.Prelude.{option_map}
use Rattle.std.specs.List.{list_any}
use Rattle.std.specs.Option.{option_map_or}
use Rattle.std.proofs.lemmas.Bool.{and_parts}
use Rattle.t32_base.specs.declared.process.Pid.{Pid}
use Rattle.t32_base.specs.declared.process.Counts.{Counts}
use Rattle.t32_base.specs.Small.{SmallState}
use Rattle.proc_state.specs.declared.process.Process.{Process}
use Rattle.sys_text.specs.declared.system.System.{System}
use Rattle.sys_text.specs.Valid.{is_system}
use Rattle.bus_msg.specs.declared.entry.What.TheVariants.{PageIs}
use Rattle.bus_msg.specs.declared.entry.Entry.{Entry}
use Rattle.bus_msg.specs.declared.entry.Post.{Post}
use Rattle.bus_msg.specs.Places.{same_pid}
use Rattle.bus_msg.specs.PlacedAfter.{what}
use Rattle.cert_sched.specs.Family.{births_of, is_unsynced}
use Rattle.cert_sched.specs.Legal.{IsLegalBy, MayStand}
use Rattle.cert_sched.specs.Record.{has_state}
use Rattle.cert_sched.specs.Schedule.{placement}
use Rattle.cert_sched.specs.Simulation.{bears}
use Rattle.cert_sched.proofs.FamilyLaws.{Pair}
use Rattle.log_laws.proofs.records.Standing.{all_stand}
use Rattle.log_laws.proofs.pages.MovedStated.{moved_stated}
use Rattle.log_laws.specs.births.Unsynced.{unsynced_births}
use Rattle.log_laws.proofs.births.Filters.{any_kept, kept_passes, one_passes, passes_any}
use Rattle.log_laws.proofs.births.UnsyncedChild.{stateless}
use Rattle.page_waits.specs.Begun.{begun}
use Rattle.roll_forward.specs.RunsOut.{nothing_left}
use Rattle.page_waits.specs.Waiting.{WaitingState, is_whole, start_of, with_page}
use Rattle.replay_laws.proofs.forks.EitherWait.{kept_so, page_for}
use Rattle.replay_laws.proofs.forks.StatedAbove.{in_the_record}
use Rattle.residents.specs.Held.{Held, Runs, Rolls, Waits, going_on, held_of, is_waiting, page_held, rolling_held}
use Rattle.cluster_core.specs.Calls.{here_after}
use Rattle.cluster_core.specs.Families.{family_after}
use Rattle.cluster_core.specs.ForksAgain.{ForksLeft, has_to_bear}
use Rattle.cluster_core.specs.Holds.{is_fetch_queued}
use Rattle.cluster_core.proofs.absorbing.ByKind.{by_page, is_of_page}
use Rattle.cluster_core.proofs.forks.ForksAgain.{bears_by}
use Rattle.residents.proofs.Changing.{pid_same}
use Rattle.cluster_core.proofs.paging.Paged.{page_at, was_paged}
use Rattle.cluster_core.proofs.here.Beside.{WaitsAs}

-- ---- a birth of a child that never synchronised

-- the log tells of it, and the child has not synchronised since
pub record BornSo (system : System) (log : List Entry) (parent child : Pid) : Type 0 where
  pub born : bears log parent child ≡ true
  pub unsynced : is_unsynced (placement system log) child ≡ true
  pub among : list_any (λ (b : Pair). same_pid b.1 child) (unsynced_births system log) ≡ true

pub born_so : (system : System) (log : List Entry) (parent child : Pid) → list_any (bears_by parent child) (unsynced_births system log) ≡ true → BornSo system log parent child
born_so system log parent child among =
    let one = one_passes (bears_by parent child) (unsynced_births system log) among in
    let there = kept_passes (λ (b : Pair). is_unsynced (placement system log) b.1) (births_of log) one.pair one.member in
    let both = and_parts (same_pid (one.pair).0 parent) (same_pid (one.pair).1 child) one.passes in
    record {
      born = passes_any (bears_by parent child) (births_of log) one.pair there.0 one.passes;
      unsynced = ap (is_unsynced (placement system log)) (sym (pid_same (one.pair).1 child (eqb-true ((one.pair).1).0 child.0 both.1))) ∙ there.1;
      among = passes_any (λ (b : Pair). same_pid b.1 child) (unsynced_births system log) one.pair one.member both.1;
    }

-- and where both hold it is among those births
pub among_unsynced : (system : System) (log : List Entry) (parent child : Pid) → bears log parent child ≡ true → is_unsynced (placement system log) child ≡ true → list_any (bears_by parent child) (unsynced_births system log) ≡ true
among_unsynced system log parent child born unsynced =
    let one = one_passes (bears_by parent child) (births_of log) born in
    let both = and_parts (same_pid (one.pair).0 parent) (same_pid (one.pair).1 child) one.passes in
    sym (any_kept (bears_by parent child) (λ (b : Pair). is_unsynced (placement system log) b.1) (births_of log))
    ∙ passes_any (λ (b : Pair). bears_by parent child b && is_unsynced (placement system log) b.1) (births_of log) one.pair one.member
    (λ i. one.passes i && (ap (is_unsynced (placement system log)) (pid_same (one.pair).1 child (eqb-true ((one.pair).1).0 child.0 both.1)) ∙ unsynced) i)

-- ---- one whose pages have come

-- a child of its record is still to be born
left_to_bear : (process : Process) (counts : Counts) (child : Pid) (births : List Pid) → list_any (same_pid child) births ≡ true → has_to_bear child (cond (nothing_left counts births) (Runs process) (Rolls process counts births)) ≡ true
left_to_bear process counts child [] among = absurd (true≢false (sym among))
left_to_bear process counts child (b ∷ bs) among = among

bears_going_on : (w : WaitingState) (child : Pid) → list_any (same_pid child) (w.kept).births ≡ true → has_to_bear child (going_on w) ≡ true
bears_going_on w child among = by_whole (is_whole w) (w.kept).state
  where
    by_whole : (b : Bool) (o : Option SmallState) → has_to_bear child (cond b (option_map_or rolling_held (option_map (λ (small : SmallState). begun (start_of w small) w.kept) o) (Waits w)) (Waits w)) ≡ true
    by_whole false o = refl
    by_whole true None = refl
    by_whole true (Some small) = left_to_bear (begun (start_of w small) w.kept).process (w.kept).counts child (w.kept).births among

-- ---- all that are here

module _ (system : System) (valid : is_system system ≡ true) (log : List Entry) (e : Entry) (before : IsLegalBy MayStand system log) (legal : IsLegalBy MayStand system (log ++ e ∷ [])) (of : is_of_page (what e) ≡ true) (queue : List Post) where
  -- no page comes to a child without a state
  child_stays : (child : Pid) (was : Held) → WaitsAs system log queue child was → has_state system log child ≡ false → is_waiting (page_at (what e) child was) ≡ is_waiting was
  child_stays child was held none = by_page (λ w. what e ≡ w → is_waiting (page_at w child was) ≡ is_waiting was) (λ pid index is. refl) (λ pid index bytes is. by_pid pid index bytes is (same_pid pid child) refl) (what e) of refl
    where
      by_held : (index : ℕ) (bytes : List ℕ) → what e ≡ PageIs child index bytes → (was : Held) → WaitsAs system log queue child was → is_waiting (page_held index bytes was) ≡ is_waiting was
      by_held index bytes is (Waits w) held =
          let waits = page_for system log e child index bytes (is_fetch_queued child queue) w legal is held.1 in
          absurd (true≢false (sym (moved_stated system log child (all_stand system log before) waits.moved) ∙ none))
      by_held index bytes is _ held = refl

      by_pid : (pid : Pid) (index : ℕ) (bytes : List ℕ) → what e ≡ PageIs pid index bytes → (b : Bool) → same_pid pid child ≡ b → is_waiting (cond b (page_held index bytes was) was) ≡ is_waiting was
      by_pid pid index bytes is true own = by_held index bytes (is ∙ ap (λ q. PageIs q index bytes) (pid_same pid child (eqb-true pid.0 child.0 own))) was held
      by_pid pid index bytes is false other = refl

  -- a parent has its forks still to make
  parent_stays : (parent child : Pid) (was : Held) → ((w : WaitingState) → was ≡ Waits w → list_any (same_pid child) (w.kept).births ≡ true) → has_to_bear child (page_at (what e) parent was) ≡ has_to_bear child was
  parent_stays parent child was among = by_page (λ w. has_to_bear child (page_at w parent was) ≡ has_to_bear child was) (λ pid index. refl) (λ pid index bytes. by_pid index bytes (same_pid pid parent)) (what e) of
    where
      by_held : (index : ℕ) (bytes : List ℕ) (h : Held) → was ≡ h → has_to_bear child (page_held index bytes h) ≡ has_to_bear child h
      by_held index bytes (Waits w) is = bears_going_on (with_page index bytes w) child (among w is)
      by_held index bytes _ is = refl

      by_pid : (index : ℕ) (bytes : List ℕ) (b : Bool) → has_to_bear child (cond b (page_held index bytes was) was) ≡ has_to_bear child was
      by_pid index bytes true = by_held index bytes was refl
      by_pid index bytes false = refl

  pub forks_paged : (births : List Pair) (here : List (Pid × Held)) → births ≡ unsynced_births system log → ((p : Pid) (h : Held) → held_of here p ≡ Some h → WaitsAs system log queue p h) → ForksLeft births here
      → ForksLeft (family_after (what e) births) (here_after (what e) here)
  forks_paged births here are held left parent child q h at_parent at_child born =
      let a = was_paged (what e) here parent q of at_parent in
      let b = was_paged (what e) here child h of at_child in
      let before_born : list_any (bears_by parent child) births ≡ true = by_page (λ w. list_any (bears_by parent child) (family_after w births) ≡ true → list_any (bears_by parent child) births ≡ true) (λ pid index is. is) (λ pid index bytes is. is) (what e) of born in
      let so = born_so system log parent child (subst (λ bs. list_any (bears_by parent child) bs ≡ true) are before_born) in
      let in_record : (w : WaitingState) → a.was ≡ Waits w → list_any (same_pid child) (w.kept).births ≡ true =
      λ w is. in_the_record system log parent child w.kept valid (all_stand system log before) so.born so.unsynced
      (kept_so system log parent (is_fetch_queued parent queue) w (subst (WaitsAs system log queue parent) is (held parent a.was a.there)).1) in
      ap is_waiting b.same ∙ child_stays child b.was (held child b.was b.there) (stateless system log child valid (all_stand system log before) so.among)
      ∙ left parent child a.was b.was a.there b.there before_born
      ∙ sym (ap (has_to_bear child) a.same ∙ parent_stays parent child a.was in_record)
