-- What is printed of a run is explained.
use Rattle.std.proofs.Common.{◌≡◌, ℕ, ◌+◌, ◌<◌, ◌^◌, refl, sym, ◌∙◌, ap, subst, arith, List, [], ◌∷◌, ◌++◌, Bool, true, false, cond, ◌&&◌, eqb, eqb-true, Some, count_by, true≢false}
use Rattle.std.specs.Prelude.{nat_lt}
use Rattle.std.specs.List.{list_all}
use Rattle.std.proofs.lemmas.Bool.{and_parts}
use Rattle.std.proofs.lemmas.List.Sums.{sum_by-cons}
use Rattle.std.proofs.lemmas.Bool.Decides.{nat_tests}
use Rattle.t32_base.specs.declared.process.ClusterNo.{ClusterNo}
use Rattle.sys_text.specs.declared.system.System.{System}
use Rattle.plain_kernel.specs.Apply.{plain_run}
use Rattle.plain_kernel.specs.Kernel.{Kernel}
use Rattle.bus_msg.specs.declared.entry.Cause.TheVariants.{Place, Step, Disk}
use Rattle.bus_msg.specs.declared.entry.What.{What}
use Rattle.bus_msg.specs.declared.entry.What.TheVariants.{Crash}
use Rattle.bus_msg.specs.declared.entry.Entry.{Entry}
use Rattle.bus_msg.specs.Places.{Places, same_cluster}
use Rattle.bus_msg.specs.PlacedAfter.{placed_after, what}
use Rattle.cert_sched.specs.declared.script.ScriptWord.{ScriptWord}
use Rattle.cert_sched.specs.declared.script.ScriptWord.TheVariants.{CrashAt, CrashStep, DiskAt, ReturnAt}
use Rattle.cert_sched.specs.Losses.{has_disk_left, has_step_left, heard, is_disk_word, is_scripted_loss, is_step_word, least_calls, least_steps, may_be_lost_at, is_step_crash, is_disk_crash}
use Rattle.cert_sched.specs.Schedule.{places_at_boot}
use Rattle.cert_sched.specs.Told.{Told, told, told_from}
use Rattle.cert_sched.proofs.LogLaws.{plain_run-schedule_of}
use Rattle.report_text.specs.declared.run.Run.{Run}
use Rattle.report_text.specs.Good.{IsGoodBy}
use Rattle.report_text.specs.RunReport.{report_of, log_text_of}
use Rattle.audit_rules.specs.Explained.{ExplainedBy, has_small_cause, has_small_number, is_small}

below : (i n : ℕ) → nat_lt i n ≡ true → i < n
below i n is = grind (arith, nat_tests)

is_below : (i n : ℕ) → i < n → nat_lt i n ≡ true
is_below i n is = grind (arith, nat_tests)

-- ---- the number of a word that is in a script is small

some_counted : (test : ScriptWord → Bool) (small : Bool) (script : List ScriptWord)
    → ((w : ScriptWord) → has_small_number w ≡ true → test w ≡ true → small ≡ true) → list_all has_small_number script ≡ true → 0 < count_by test script → small ≡ true
some_counted test small [] each all some = absurd (omega (arith, some))
some_counted test small (w ∷ script) each all some =
    by_test (test w) refl (subst (λ (n : ℕ). 0 < n) (sum_by-cons (λ (v : ScriptWord). cond (test v) 1 0) w script) some) (some_counted test small script each parts.1)
  where
    parts : (has_small_number w ≡ true) × (list_all has_small_number script ≡ true)
    parts = and_parts (has_small_number w) (list_all has_small_number script) all

    by_test : (b : Bool) → test w ≡ b → 0 < cond b 1 0 + count_by test script → (0 < count_by test script → small ≡ true) → small ≡ true
    by_test true is some more = each w parts.0 is
    by_test false is some more = more (omega (arith, some))

step_small : (k : ClusterNo) (n : ℕ) (w : ScriptWord) → has_small_number w ≡ true → is_step_word k n w ≡ true → is_small n ≡ true
step_small k n (CrashStep j step) small is =
    let both = and_parts (same_cluster j k) (eqb step n) is in
    ap is_small (sym (eqb-true step n both.1)) ∙ small
step_small k n (CrashAt j place) small is = absurd (true≢false (sym is))
step_small k n (DiskAt j call) small is = absurd (true≢false (sym is))
step_small k n (ReturnAt j place) small is = absurd (true≢false (sym is))

disk_small : (k : ClusterNo) (n : ℕ) (w : ScriptWord) → has_small_number w ≡ true → is_disk_word k n w ≡ true → is_small n ≡ true
disk_small k n (DiskAt j call) small is =
    let both = and_parts (same_cluster j k) (eqb call n) is in
    ap is_small (sym (eqb-true call n both.1)) ∙ small
disk_small k n (CrashAt j place) small is = absurd (true≢false (sym is))
disk_small k n (CrashStep j step) small is = absurd (true≢false (sym is))
disk_small k n (ReturnAt j place) small is = absurd (true≢false (sym is))

-- ---- the causes of a log that has the losses of such a script

module _ (system : System) (script : List ScriptWord) (small : list_all has_small_number script ≡ true) where
  cause_small : (log : List Entry) (w : What) → is_scripted_loss system script log w ≡ true → has_small_cause w ≡ true
  cause_small log (Crash k Place) is = refl
  cause_small log (Crash k (Step n)) is =
      let left = (and_parts (has_step_left script log k n) (may_be_lost_at log k (least_steps (heard k log) log k) n) is).0 in
      let fewer = below (count_by (λ (e : Entry). is_step_crash k n (what e)) log) (count_by (is_step_word k n) script) left in
      some_counted (is_step_word k n) (is_small n) script (step_small k n) small (omega (arith, fewer))
  cause_small log (Crash k (Disk n)) is =
      let left = (and_parts (has_disk_left script log k n) (may_be_lost_at log k (least_calls system (heard k log) log k) n) is).0 in
      let fewer = below (count_by (λ (e : Entry). is_disk_crash k n (what e)) log) (count_by (is_disk_word k n) script) left in
      some_counted (is_disk_word k n) (is_small n) script (disk_small k n) small (omega (arith, fewer))
  cause_small log _ is = refl

  causes_from : (before : List Entry) (places : Places) (rest : List Entry) → list_all (λ (t : Told). is_scripted_loss system script t.log (what t.entry)) (told_from before places rest) ≡ true
      → list_all (λ (e : Entry). has_small_cause (what e)) rest ≡ true
  causes_from before places [] all = refl
  causes_from before places (e ∷ rest) all =
      let later = told_from (before ++ e ∷ []) (placed_after places (what e)) rest in
      let both = and_parts (is_scripted_loss system script before (what e)) (list_all (λ (t : Told). is_scripted_loss system script t.log (what t.entry)) later) all in
      λ i. cause_small before (what e) both.0 i && causes_from (before ++ e ∷ []) (placed_after places (what e)) rest both.1 i

  causes : (log : List Entry) → list_all (λ (t : Told). is_scripted_loss system script t.log (what t.entry)) (told system log) ≡ true → list_all (λ (e : Entry). has_small_cause (what e)) log ≡ true
  unfolding told
  causes log all = causes_from [] (places_at_boot system) log all

-- ---- the whole

pub printed_explained : (May : System → List Entry → Entry → Type 0) (enough : System → List Entry → List ℕ → List ℕ → ClusterNo → Bool) (system : System) (script : List ScriptWord)
    (run : Run) (kernel : Kernel) → IsGoodBy May enough system script run → plain_run system run.items ≡ Some kernel
    → list_all has_small_number script ≡ true → run.withheld < 2 ^ 64 → ExplainedBy May system (report_of kernel run ++ log_text_of run.log)
printed_explained May enough system script run kernel good runs small few = record {
  log = run.log;
  run = run;
  kernel = kernel;
  legal = good.legal;
  fits = λ i. causes system script small run.log (good.scripted).losses i && is_below run.withheld (2 ^ 64) few i;
  is = refl;
  items = good.items;
  withheld = good.withheld;
  ended = good.ended;
  plain = sym (plain_run-schedule_of system run.log) ∙ ap (plain_run system) (sym good.items) ∙ runs;
  section_is = refl;
}
