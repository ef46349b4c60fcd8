-- An entry that does not concern a process which waits for no new backup leaves what is kept of it.
use Rattle.std.proofs.Common.{◌≡◌, ℕ, ◌+◌, refl, sym, ◌∙◌, ap, arith, length, Bool, true, false, cond, not, ◌&&◌, ◌||◌, eqb, Some, None, true≢false}
use Rattle.std.proofs.lemmas.Bool.{and_parts, or_parts}
use Rattle.std.proofs.lemmas.Bool.Decides.{nat_tests}
use Rattle.t32_base.specs.declared.process.Pid.{Pid}
use Rattle.proc_state.specs.State.{ProcState, state_of}
use Rattle.sys_calls.proofs.RunLemma.{all_delivered}
use Rattle.bus_msg.specs.declared.entry.What.{What}
use Rattle.bus_msg.specs.declared.entry.What.TheVariants.{Mail, Birth, Exit, Page, Sync, Crash}
use Rattle.bus_msg.specs.declared.entry.Entry.{Entry}
use Rattle.bus_msg.specs.Places.{Places, same_pid}
use Rattle.bus_msg.specs.PlacedAfter.{what}
use Rattle.cert_sched.specs.Deeds.{letter_for}
use Rattle.cert_sched.specs.Kinds.{is_done_by}
use Rattle.cert_sched.specs.Schedule.{placement}
use Rattle.cert_sched.specs.Told.{cluster_lost}
use Rattle.cert_sched.specs.Rules.{is_alone}
use Rattle.cert_sched.specs.Moved.{names}
use Rattle.log_laws.proofs.pages.OneEntry.{moves_none}
use Rattle.log_renewals.proofs.Unmoved.{keeps_on}
use Rattle.audited_process.specs.declared.audited.Audited.{Audited}
use Rattle.audited_process.specs.Audited.{TakesEntry}
use Rattle.audited_process.specs.Concerns.{changes, gets_letter, goes_on, page_sent, steps_by}
use Rattle.audited_process.proofs.ByKind.{no_exit, unchanged}
use Rattle.audited_process.proofs.GoingOn.{others_go_on, unborn}
use Rattle.audited_process.proofs.Paging.{pages_left}
use Rattle.audited_process.proofs.Waits.{waits_after}
use Rattle.audited_log.specs.Walk.{CanBeTaken, GoesOn, concerns, is_left, tells_of}

no_page_sent : (p : Pid) (w : What) → tells_of p w ≡ false → page_sent p w ≡ None
no_page_sent p (Page pid at index bytes) other = ap (λ b. cond b (Some (index, at)) None) other
no_page_sent p _ other = refl

no_loss : (p : Pid) (w : What) → tells_of p w ≡ false → cluster_lost w ≡ None
no_loss p (Crash k cause) other = absurd (true≢false other)
no_loss p _ other = refl

turned : (n m : ℕ) → eqb n m ≡ false → eqb m n ≡ false
turned n m other = grind (arith, nat_tests)

not_true : (b : Bool) → not b ≡ true → b ≡ false
not_true true is = absurd (true≢false (sym is))
not_true false is = refl

-- it has not done what the entry says
nothing_done : (p : Pid) (w : What) → steps_by p w ≡ false → tells_of p w ≡ false → goes_on p w ≡ true → is_done_by p w ≡ false
nothing_done p (Mail at letter) idle other goes =
    turned (letter.from).0 p.0 (or_parts (same_pid letter.from p) false (or_parts (same_pid letter.from p || false) false idle).0).0
nothing_done p (Birth parent at child end) idle other goes = turned parent.0 p.0 (or_parts (same_pid parent p) false idle).0
nothing_done p (Exit pid at end) idle other goes = turned pid.0 p.0 (not_true (same_pid pid p) goes)
nothing_done p (Page pid at index bytes) idle other goes = turned pid.0 p.0 other
nothing_done p (Sync pid small read took) idle other goes = turned pid.0 p.0 idle
nothing_done p _ idle other goes = refl

only_still : (only done : Bool) → done ≡ false → only ≡ (only && not done)
only_still true done is = sym (ap not is)
only_still false done is = refl

module _ (before : Places) (p : Pid) (a : Audited) (e : Entry) (left : is_left p (what e) a ≡ true) where
  idle : (a.since_moved).waits ≡ false
  idle = not_true (a.since_moved).waits (and_parts (not (a.since_moved).waits) (not (concerns p (what e))) left).0

  apart : concerns p (what e) ≡ false
  apart = not_true (concerns p (what e)) (and_parts (not (a.since_moved).waits) (not (concerns p (what e))) left).1

  abbrev w : What
  w = what e

  pub stays_so : TakesEntry p before a a e
  stays_so system log valid legal may here unended goes led =
      let parts = or_parts (changes p w) (tells_of p w) apart in
      let same = unchanged p w parts.0 in
      let steps = or_parts (steps_by p w) (gets_letter p w) parts.0 in
      let s : ProcState = state_of a.process in
      let count : length (letter_for p w) ≡ 0 = ap length same.none in
      let saved : (a.begun).saved ≡ (a.begun).saved + length (letter_for p w) = omega (arith, count) in
      let unsaved : a.begun ≡ record (a.begun) { saved = (a.begun).saved + length (letter_for p w) } = λ i. record (a.begun) { saved = saved i } in
      let on = others_go_on e p s a.begun s a.begun same.uncut (ap (all_delivered s) (sym same.none)) unsaved system log valid legal may unended goes led.there led.begun in
      let stays = moves_none system log e (no_loss p w parts.1) p in
      let waits = waits_after system log e p unended (unborn system log e p valid legal may unended goes) (no_exit p w goes) false (a.since_moved).waits stays (led.since_moved).waits in
      record {
        there = on.0;
        begun = on.1;
        since_moved = record {
          sent = pages_left p e (a.since_moved).sent (no_page_sent p w parts.1) system log valid may.stands stays (led.since_moved).sent;
          only = keeps_on p (a.since_moved).only (a.since_moved).only e (only_still (a.since_moved).only (is_done_by p w) (nothing_done p w steps.0 parts.1 goes)) system log stays
              (led.since_moved).only;
          waits = idle ∙ sym (ap (λ b. b && not (names p w) && not (is_alone p (placement system log))) idle) ∙ waits;
        };
      }

  -- so it goes on as it is
  pub goes_as_it_is : (goes_on p w ≡ true → CanBeTaken e p a) → GoesOn before e p a a
  goes_as_it_is can goes = (stays_so, ((can goes).led).ahead goes (or_parts (changes p w) (tells_of p w) apart).0)
