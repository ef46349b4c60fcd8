-- In a legal log the kernel without failures has the processes that the placement has, those that were born among them; and a child that is born is none of them.
use Rattle.std.proofs.Common.{◌≡◌, ℕ, ◌-◌, refl, sym, ◌∙◌, ap, subst, List, [], ◌∷◌, ◌++◌, map, Bool, true, false, ◌||◌, eqb, Option, Some, None, is_some, true≢false}
use Rattle.std.specs.List.{list_any}
use Rattle.std.proofs.lemmas.List.{map-append}
use Rattle.std.proofs.lemmas.List.Folds.{list_any-append}
use Rattle.std.proofs.lemmas.Option.{same_Some}
use Rattle.t32_base.specs.declared.process.Pid.{Pid}
use Rattle.sys_text.specs.declared.system.System.{System}
use Rattle.sys_text.specs.Valid.{is_system}
use Rattle.sys_text.specs.Boot.{roots_of}
use Rattle.plain_kernel.specs.Kernel.{Kernel, boot}
use Rattle.plain_kernel.specs.Apply.{apply_all}
use Rattle.plain_kernel.proofs.AtBoot.{boot-pids}
use Rattle.plain_kernel.proofs.Pids.{HasPids, IsRising, one_step-pids, pids_in, tied_pids}
use Rattle.plain_kernel.proofs.ForkPids.{fork_step-pids, with_pid-any}
use Rattle.bus_msg.specs.declared.entry.What.{What}
use Rattle.bus_msg.specs.declared.entry.What.TheVariants.{Birth}
use Rattle.bus_msg.specs.declared.entry.Entry.{Entry}
use Rattle.bus_msg.specs.declared.placed.Placed.{Placed}
use Rattle.bus_msg.specs.Places.{Places, placed_at}
use Rattle.bus_msg.specs.PlacedAfter.{what, placed_after, with_birth, child_of}
use Rattle.cert_sched.specs.Schedule.{done, items_of, run_upto, plain_after, placement}
use Rattle.cert_sched.specs.Kinds.{KindHolds}
use Rattle.cert_sched.specs.Legal.{IsLegalBy, Stands}
use Rattle.cert_sched.proofs.LogLaws.{placement-snoc}
use Rattle.cert_sched.proofs.BirthKind.{is_birth}
use Rattle.cert_sched.proofs.BootPids.{state_pids, root_pids, boot_numbers, numbers_are}
use Rattle.cert_sched.proofs.RisingLaws.{rising-any}
use Rattle.cert_sched.proofs.PidLaws.{placed_pids}
use Rattle.cert_sched.proofs.Induction.{legal_induction}
use Rattle.cert_sched.proofs.StepLaws.{applied}
use Rattle.cert_sched.proofs.RunItems.{forkless_keep, items_forkless, run_forkless}
use Rattle.cert_sched.proofs.RunAndFork.{run_and_fork}
use Rattle.cert_sched.proofs.BirthPlaces.{parent_unended, unended_placed}
use Rattle.cert_sched.proofs.CameLaws.{IsStandingRule}
use Rattle.cert_sched.proofs.FreshLaws.{same_pids}
use Rattle.plain_kernel.proofs.TakePids.{take_step-pids}

-- whether a pid is among the processes of a kernel, and among those placed
abbrev in_kernel : Kernel → Pid → Bool
in_kernel k p = list_any (λ m. eqb m p.0) (state_pids k.processes)

abbrev in_places : Places → Pid → Bool
in_places places p = list_any (λ m. eqb m p.0) (placed_pids places.placed)

abbrev in_pids : List Pid → Pid → Bool
in_pids pids p = list_any (λ (q : Pid). eqb q.0 p.0) pids

-- the processes rise, and are those that are placed
pub record Alike (system : System) (log : List Entry) (k : Kernel) : Type 0 where
  pub rising : IsRising k
  pub among : (p : Pid) → in_kernel k p ≡ in_places (placement system log) p

mapped_any : (ps : List Pid) (p : Pid) → list_any (λ m. eqb m p.0) (map (λ (q : Pid). q.0) ps) ≡ in_pids ps p
mapped_any [] p = refl
mapped_any (q ∷ ps) p = ap (λ b. eqb q.0 p.0 || b) (mapped_any ps p)

of_pids : (k : Kernel) (p : Pid) → in_kernel k p ≡ in_pids (pids_in k) p
of_pids k p = ap (list_any (λ m. eqb m p.0)) (sym (numbers_are k.processes)) ∙ mapped_any (pids_in k) p

-- ---- one more entry

module _ (system : System) (log : List Entry) (e : Entry) where
  -- items without a fork leave the pids
  quiet_pids : (k j : Kernel) → is_birth (what e) ≡ false → IsRising k → apply_all (items_of k (what e)) k ≡ Some j → HasPids (pids_in k) j
  quiet_pids k j other rising made =
      forkless_keep (HasPids (pids_in k)) (one_step-pids (pids_in k)) (take_step-pids (pids_in k)) (items_of k (what e)) k j (items_forkless k (what e) other) (record { rising = rising; are = refl }) made

  other_alike : (k j : Kernel) → is_birth (what e) ≡ false → Alike system log k → apply_all (items_of k (what e)) k ≡ Some j → Alike system (log ++ e ∷ []) j
  other_alike k j other a made =
      let has = quiet_pids k j other a.rising made in
      record {
        rising = has.rising;
        among = λ p.
            of_pids j p ∙ ap (λ ps. in_pids ps p) has.are ∙ sym (of_pids k p) ∙ a.among p
            ∙ sym (ap (λ places. in_places places p) (placement-snoc system log e) ∙ ap (list_any (λ m. eqb m p.0)) (same_pids (what e) other (placement system log)));
      }

  -- a birth puts the child into both
  born_pids : (child p : Pid) (o : Option Placed) → is_some o ≡ true → in_places (with_birth (placement system log) child o) p ≡ (eqb child.0 p.0 || in_places (placement system log) p)
  born_pids child p None there = absurd (true≢false (sym there))
  born_pids child p (Some q) there =
      ap (list_any (λ m. eqb m p.0)) (map-append (λ (q : Placed). (q.pid).0) (placement system log).placed (child_of q child ∷ []))
      ∙ list_any-append (λ m. eqb m p.0) (placed_pids (placement system log).placed) (child.0 ∷ []) ∙ turned (in_places (placement system log) p) (eqb child.0 p.0)
    where
      turned : (a b : Bool) → (a || (b || false)) ≡ (b || a)
      turned true true = refl
      turned true false = refl
      turned false true = refl
      turned false false = refl

  birth_alike : (parent : Pid) (at : ℕ) (child : Pid) (end : ℕ) (k j : Kernel) → what e ≡ Birth parent at child end → KindHolds system log e (Birth parent at child end) → Alike system log k → apply_all (items_of k (what e)) k ≡ Some j → Alike system (log ++ e ∷ []) j
  birth_alike parent at child end k j is kind a made =
      let r = run_and_fork (run_upto k parent (at - 1)) parent child k j (ap (λ w. apply_all (items_of k w) k) (sym is) ∙ made) in
      let ran : HasPids (pids_in k) r.to = forkless_keep (HasPids (pids_in k)) (one_step-pids (pids_in k)) (take_step-pids (pids_in k)) (run_upto k parent (at - 1)) k r.to (run_forkless parent (at - 1 - done k parent)) (record { rising = a.rising; are = refl }) r.ran in
      let has = fork_step-pids (pids_in k) parent child r.to j ran r.forks in
      record {
        rising = has.rising;
        among = λ p.
            of_pids j p ∙ ap (λ ps. in_pids ps p) has.are
            ∙ with_pid-any (λ (q : Pid). eqb q.0 p.0) child (pids_in k) (λ q tied. ap (λ (x : Pid). eqb x.0 p.0) (sym (tied_pids child q tied)))
            ∙ ap (λ b. eqb child.0 p.0 || b) (sym (of_pids k p) ∙ a.among p)
            ∙ sym (ap (λ places. in_places places p) (placement-snoc system log e ∙ ap (placed_after (placement system log)) is)
            ∙ born_pids child p (placed_at (placement system log) parent) (unended_placed parent (placement system log).placed (parent_unended (placement system log) parent child kind.child_is)));
      }

  alike_more : Stands system log e → ((k : Kernel) → plain_after system log ≡ Some k → Alike system log k) → (j : Kernel) → plain_after system (log ++ e ∷ []) ≡ Some j → Alike system (log ++ e ∷ []) j
  alike_more stands before j after =
      let a = applied system log e stands.applies in
      let made : apply_all (items_of a.old (what e)) a.old ≡ Some j = a.made ∙ ap Some (same_Some a.new j (sym a.after ∙ after)) in
      by_what (what e) refl stands.kind a.old made (before a.old a.before)
    where
      by_what : (w : What) → what e ≡ w → KindHolds system log e w → (k : Kernel) → apply_all (items_of k (what e)) k ≡ Some j → Alike system log k → Alike system (log ++ e ∷ []) j
      by_what (Birth parent at child end) is kind k made a = birth_alike parent at child end k j is kind a made
      by_what _ is kind k made a = other_alike k j (ap is_birth is) a made

-- ---- in a legal log

alike_at_boot : (system : System) → is_system system ≡ true → (k : Kernel) → plain_after system [] ≡ Some k → Alike system [] k
unfolding plain_after placement
alike_at_boot system valid k is = subst (Alike system []) (same_Some (boot system) k is) (record {
  rising = (boot-pids system).rising;
  among = λ p.
      sym (rising-any (λ m. eqb m p.0) (state_pids (boot system).processes)) ∙ ap (list_any (λ m. eqb m p.0)) (boot_numbers system valid)
      ∙ rising-any (λ m. eqb m p.0) (root_pids (roots_of system));
})

pub all_alike : (May : System → List Entry → Entry → Type 0) → IsStandingRule May → (system : System) (log : List Entry) → is_system system ≡ true → IsLegalBy May system log → (k : Kernel) → plain_after system log ≡ Some k → Alike system log k
all_alike May standing system log valid legal =
    legal_induction May system (λ log. (k : Kernel) → plain_after system log ≡ Some k → Alike system log k) (alike_at_boot system valid) (λ log e before may. alike_more system log e (standing system log e may) before) log legal
