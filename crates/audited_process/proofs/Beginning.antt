-- What is kept of a process at boot, and of a child that is born.
use Rattle.std.proofs.Common.{◌≡◌, ℕ, refl, sym, ◌∙◌, ap, subst, List, [], ◌∷◌, ◌++◌, append-nil, length, true, false, not, ◌&&◌, ◌||◌, Option, Some, true≢false}
use Rattle.std.specs.Option.{option_map_or}
use Rattle.t32_base.specs.declared.process.Pid.{Pid}
use Rattle.t32_base.proofs.Facts.{and_false, or_true}
use Rattle.sys_text.specs.declared.system.System.{System}
use Rattle.sys_text.specs.Valid.{is_system}
use Rattle.proc_state.specs.State.{ProcState}
use Rattle.plain_kernel.specs.Kernel.{boot, process_at}
use Rattle.bus_msg.specs.declared.entry.What.{What}
use Rattle.bus_msg.specs.declared.entry.What.TheVariants.{Birth}
use Rattle.bus_msg.specs.declared.entry.Entry.{Entry}
use Rattle.bus_msg.specs.PlacedAfter.{what}
use Rattle.cert_sched.specs.Schedule.{placement, plain_after, process_after}
use Rattle.cert_sched.specs.Told.{cluster_lost, told}
use Rattle.cert_sched.specs.Moved.{any_since_moved, names, was_moved}
use Rattle.cert_sched.specs.Deeds.{is_birth_of, is_cut, saved_letters}
use Rattle.cert_sched.specs.Kinds.{KindHolds}
use Rattle.cert_sched.specs.Rules.{is_by_right}
use Rattle.cert_sched.specs.Legal.{IsLegalBy, Stands}
use Rattle.cert_sched.proofs.CameLaws.{same_of}
use Rattle.cert_sched.proofs.FreshLaws.{born_rightly, child_new, numbered}
use Rattle.cert_sched.proofs.UnplacedLaws.{never_moved}
use Rattle.log_laws.proofs.pages.OneEntry.{moves_none}
use Rattle.log_laws.proofs.records.Standing.{all_stand, itself}
use Rattle.backup_laws.proofs.Since.{was_moved-snoc}
use Rattle.log_cuts.specs.SentPages.{NoneSent}
use Rattle.log_cuts.specs.Start.{KeepsStart}
use Rattle.log_renewals.proofs.Unmoved.{begins}
use Rattle.audited_process.specs.declared.begun.Begun.{Begun}
use Rattle.audited_process.specs.declared.since_moved.SinceMoved.{SinceMoved}
use Rattle.audited_process.specs.declared.audited.Audited.{Audited}
use Rattle.audited_process.specs.Begun.{IsBegunOf, StandsAt}
use Rattle.audited_process.specs.SinceMoved.{BeginsUnmoved, IsSinceMovedOf, is_fullback, waited}
use Rattle.audited_process.specs.Audited.{Begins, BeginsAsChild, BeginsAsRoot}
use Rattle.audited_process.proofs.GoingOn.{starts_here}
use Rattle.audited_process.proofs.Waits.{was_alone}

-- ---- no loss moved it

-- no process waits that was not moved
unmoved_waits_not : (system : System) (log : List Entry) (p : Pid) → was_moved system log p ≡ false → waited system log p ≡ false
unmoved_waits_not system log p never =
    ap (λ b. is_fullback (placement system log) p && b && not (any_since_moved system log p (names p) || was_alone system log p)) never
    ∙ ap (λ b. b && not (any_since_moved system log p (names p) || was_alone system log p)) (and_false (is_fullback (placement system log) p))

never_at_boot : (system : System) (p : Pid) → was_moved system [] p ≡ false
unfolding told
never_at_boot system p = refl

never_born : (system : System) (log : List Entry) (e : Entry) (parent : Pid) (at : ℕ) (child : Pid) (end : ℕ) → is_system system ≡ true → IsLegalBy Stands system log → Stands system log e
    → what e ≡ Birth parent at child end
    → was_moved system (log ++ e ∷ []) child ≡ false
never_born system log e parent at child end valid legal stands is =
    let here = placement system log in
    let kind = subst (KindHolds system log e) is stands.kind in
    let right = born_rightly here (e.post).by parent child (subst (λ w. is_by_right here (e.post).by w ≡ true) is stands.by_right) kind.child_is in
    let new = child_new here parent child (numbered Stands itself system log valid legal) right in
    was_moved-snoc system log e child ∙ (λ i. never_moved Stands system log child legal new i || moves_none system log e (ap cluster_lost is) child i)

-- what an entry bears, by the birth that it is
by_birth : (P : Pid → Type 0) (e : Entry) (p : Pid) → is_birth_of p (what e) ≡ true → ((parent : Pid) (at : ℕ) (child : Pid) (end : ℕ) → what e ≡ Birth parent at child end → P child) → P p
by_birth P e p bears of = by_what (what e) refl bears
  where
    by_what : (w : What) → what e ≡ w → is_birth_of p w ≡ true → P p
    by_what (Birth parent at child end) is own = subst P (same_of child p own) (of parent at child end is)
    by_what _ is own = absurd (true≢false (sym own))

pub begins_unmoved : (m : SinceMoved) → NoneSent m.sent → m.only ≡ false → m.waits ≡ false → BeginsUnmoved m
begins_unmoved m none only waits = record {
  boot = λ system p. record { sent = none.boot system p; only = only ∙ sym (begins.boot system p); waits = waits ∙ sym (unmoved_waits_not system [] p (never_at_boot system p)) };
  born = λ system log e p valid legal stands bears. by_birth (λ q. IsSinceMovedOf system (log ++ e ∷ []) q m) e p bears (λ parent at child end is. record {
    sent = none.born system log e parent at child end valid legal stands is;
    only = only ∙ sym (begins.born system log e parent at child end valid legal stands is);
    waits = waits ∙ sym (unmoved_waits_not system (log ++ e ∷ []) child (never_born system log e parent at child end valid legal stands is));
  });
}

-- ---- the whole

there_at_boot : (system : System) (p : Pid) (s : ProcState) → process_at (boot system) p ≡ Some s → process_after system [] p ≡ Some s
unfolding plain_after
there_at_boot system p s there = there

begun_at_boot : (system : System) (p : Pid) (s : ProcState) (b : Begun) → is_system system ≡ true → StandsAt s true b → process_after system [] p ≡ Some s → IsBegunOf system [] p b
begun_at_boot system p s b valid at there = record {
  steps = at.steps ∙ ap (λ (o : Option ProcState). option_map_or (λ (s : ProcState). (s.small).steps) o 0) (sym there);
  saved = at.saved ∙ ap length (sym (append-nil s.mail)) ∙ ap (λ (o : Option ProcState). length (option_map_or (saved_letters [] p) o [])) (sym there);
  start = (at.start).boot system p valid at.stated there;
}

pub begins_as_root : (s : ProcState) (a : Audited) → Begins s true a → BeginsAsRoot s a
begins_as_root s a at system p valid there =
    let here = there_at_boot system p s there in
    record { there = here ∙ ap Some (sym at.there); begun = begun_at_boot system p s a.begun valid at.begun here; since_moved = (at.unmoved).boot system p }

pub begins_as_child : (s : ProcState) (a : Audited) → Begins s false a → BeginsAsChild s a
begins_as_child s a at system log e p valid legal may bears there = record {
  there = there ∙ ap Some (sym at.there);
  begun = starts_here system log e p s false a.begun at.begun (ap (λ b. is_cut p (what e) || b) bears ∙ or_true (is_cut p (what e))) there
      (by_birth (λ q. process_after system (log ++ e ∷ []) q ≡ Some s → KeepsStart q (a.begun).start system (log ++ e ∷ [])) e p bears
      (λ parent n child end is now. ((at.begun).start).born system log e parent n child end valid (all_stand system log legal) may.stands is (at.begun).stated now) there);
  since_moved = (at.unmoved).born system log e p valid (all_stand system log legal) may.stands bears;
}
