-- An entry that the home of a process did not send is nothing that the process did: no cut, no exit and no page of it, and it tells no deed of it.
use Rattle.std.proofs.Common.{◌≡◌, refl, sym, ◌∙◌, ap, List, [], ◌∷◌, ◌++◌, Bool, true, false, cond, eqb-true, eq-eqb, Option, Some, None, true≢false}
use Rattle.std.proofs.lemmas.Bool.{and_parts}
use Rattle.t32_base.specs.declared.process.Pid.{Pid}
use Rattle.t32_base.specs.declared.process.ClusterNo.{ClusterNo}
use Rattle.sys_text.specs.declared.system.System.{System}
use Rattle.sys_text.specs.Valid.{is_system}
use Rattle.sys_calls.specs.declared.steps.Emission.TheVariants.{Mail as Sent, Exit as Ended}
use Rattle.bus_msg.specs.declared.entry.What.{What}
use Rattle.bus_msg.specs.declared.entry.What.TheVariants.{Mail, Birth, Exit, Page, Sync, Rebackup}
use Rattle.bus_msg.specs.declared.entry.By.{By}
use Rattle.bus_msg.specs.declared.entry.By.TheVariants.{Cluster, Bus}
use Rattle.bus_msg.specs.declared.entry.Entry.{Entry}
use Rattle.bus_msg.specs.Places.{Places, same_pid}
use Rattle.bus_msg.specs.PlacedAfter.{what}
use Rattle.roll_forward.specs.Deeds.{Deed, Bears, Sends}
use Rattle.cert_sched.specs.Schedule.{placement}
use Rattle.cert_sched.specs.Deeds.{deeds_in, is_cut}
use Rattle.cert_sched.specs.Account.{is_exit_of}
use Rattle.cert_sched.specs.Losses.{is_by_cluster, is_from}
use Rattle.cert_sched.specs.Rules.{home_at, is_by, is_by_home, is_by_right, is_living, is_over}
use Rattle.cert_sched.specs.Legal.{IsLegalBy, Stands}
use Rattle.cert_sched.proofs.CutLaws.{by_home_there}
use Rattle.cert_sched.proofs.CameLaws.{same_of}
use Rattle.cert_sched.proofs.ThereLaws.{unended_not_born}
use Rattle.log_laws.specs.pages.Next.{moves_next}
use Rattle.log_laws.proofs.letters.LogReads.{itself}
use Rattle.checkpoint_laws.specs.marks.Beside.{LeavesMarks, is_some_page}
use Rattle.checkpoint_laws.specs.batches.Between.{ComesBetween}
use Rattle.checkpoint_laws.proofs.batches.HomeStays.{home_stays}

-- ---- who sends as the home of a process

-- it is the home alone
by_one : (k : ClusterNo) (by : By) (home : Option ClusterNo) → is_by by home ≡ true → is_by (Cluster k) home ≡ true → is_from k by ≡ true
by_one k (Cluster j) (Some h) sends at = eq-eqb j.0 k.0 (eqb-true j.0 h.0 sends ∙ sym (eqb-true k.0 h.0 at))
by_one k (Cluster j) None sends at = absurd (true≢false (sym sends))
by_one k Bus home sends at = absurd (true≢false (sym sends))

-- so one that another cluster sends is not of this process
other_pid : (places : Places) (by : By) (k : ClusterNo) (q p : Pid) → is_by_home places by (Some q) ≡ true → is_from k by ≡ false → is_by_home places (Cluster k) (Some p) ≡ true → same_pid q p ≡ false
other_pid places by k q p right foreign home = by_test (same_pid q p) refl
  where
    by_test : (b : Bool) → same_pid q p ≡ b → b ≡ false
    by_test true is =
        let sends : is_by by (home_at places p) ≡ true = ap (λ r. is_by by (home_at places r)) (sym (same_of q p is)) ∙ (and_parts (is_living places by) (is_by by (home_at places q)) right).1 in
        let at : is_by (Cluster k) (home_at places p) ≡ true = (and_parts (is_living places (Cluster k)) (is_by (Cluster k) (home_at places p)) home).1 in
        sym (by_one k by (home_at places p) sends at) ∙ foreign
    by_test false is = refl

-- ---- by the kind of the entry

record TellsNone (p : Pid) (w : What) : Type 0 where
  pub no_cut : is_cut p w ≡ false
  pub no_exit : is_exit_of p w ≡ false
  pub no_page : is_some_page p w ≡ false
  pub no_deeds : deeds_in p w ≡ []

none_sent : (q p : Pid) (d : Deed) → same_pid q p ≡ false → cond (same_pid q p) (d ∷ []) [] ≡ []
none_sent q p d apart = ap (λ b. cond b (d ∷ []) []) apart

module _ (places : Places) (by : By) (k : ClusterNo) (p : Pid) (foreign : is_from k by ≡ false) (home : is_by_home places (Cluster k) (Some p) ≡ true) where
  apart : (q : Pid) → is_by_home places by (Some q) ≡ true → same_pid q p ≡ false
  apart q right = other_pid places by k q p right foreign home

  tells_none : (w : What) → is_by_right places by w ≡ true → TellsNone p w
  tells_none (Mail at letter) right = record { no_cut = refl; no_exit = refl; no_page = refl; no_deeds = none_sent letter.from p (Sends (Sent letter)) (apart letter.from right) }
  tells_none (Birth parent at child end) right = record { no_cut = refl; no_exit = refl; no_page = refl; no_deeds = none_sent parent p (Bears child) (apart parent right) }
  tells_none (Exit q at end) right = record { no_cut = refl; no_exit = apart q right; no_page = refl; no_deeds = none_sent q p (Sends (Ended end)) (apart q right) }
  tells_none (Page q at index bytes) right = record { no_cut = refl; no_exit = refl; no_page = apart q right; no_deeds = refl }
  tells_none (Sync q small read took) right = record { no_cut = apart q right; no_exit = refl; no_page = refl; no_deeds = refl }
  tells_none (Rebackup to true []) right = record { no_cut = refl; no_exit = refl; no_page = refl; no_deeds = refl }
  tells_none (Rebackup to true (r ∷ rs)) right = record { no_cut = apart r.pid right; no_exit = refl; no_page = refl; no_deeds = refl }
  tells_none _ right = record { no_cut = refl; no_exit = refl; no_page = refl; no_deeds = refl }

-- ---- the entry

module _ (system : System) (log : List Entry) (e : Entry) (k : ClusterNo) (p : Pid) (stands : Stands system log e) (foreign : is_by_cluster k e ≡ false) (home : is_by_home (placement system log) (Cluster k) (Some p) ≡ true) where
  facts : TellsNone p (what e)
  facts = tells_none (placement system log) (e.post).by k p foreign home (what e) stands.by_right

  pub others_deeds : deeds_in p (what e) ≡ []
  others_deeds = facts.no_deeds

  -- nor is the process born by it, which is at home somewhere
  pub others_leave : is_system system ≡ true → IsLegalBy Stands system log → moves_next system log e p ≡ false → LeavesMarks system log e p
  others_leave valid legal stays = record {
    no_cut = facts.no_cut;
    no_birth = unended_not_born Stands itself system log e p valid legal stands (by_home_there (placement system log) (Cluster k) p home);
    no_exit = facts.no_exit;
    no_page = facts.no_page;
    stays = stays;
  }

pub others_between : (system : System) (log : List Entry) (e : Entry) (k : ClusterNo) (p : Pid) → is_system system ≡ true → IsLegalBy Stands system log → Stands system log e → is_by_cluster k e ≡ false
    → is_by_home (placement system log) (Cluster k) (Some p) ≡ true → is_over system (log ++ e ∷ []) ≡ false → is_by_home (placement system (log ++ e ∷ [])) (Cluster k) (Some p) ≡ true → ComesBetween system log e k p
others_between system log e k p valid legal stands foreign at_home goes_on home = record {
  valid = valid;
  legal = legal;
  stands = stands;
  leaves = others_leave system log e k p stands foreign at_home valid legal (home_stays system log e k p valid legal at_home home);
  no_deeds = others_deeds system log e k p stands foreign at_home;
  goes_on = goes_on;
  home = home;
}
