-- The numbers of a section that is explained.
use Rattle.std.proofs.Common.{◌≡◌, ℕ, ◌^◌, ◌<◌, ◌≤◌, refl, sym, ◌∙◌, ap, subst, arith, List, [], ◌∷◌, ◌++◌, length, true, Option, Some, None}
use Rattle.std.specs.Prelude.{nat_lt, option_and_then}
use Rattle.std.specs.List.{list_all}
use Rattle.std.proofs.lemmas.Bool.{and_parts}
use Rattle.std.proofs.lemmas.Bool.Decides.{nat_tests}
use Rattle.std.proofs.lemmas.Option.{same_Some}
use Rattle.t32_base.specs.declared.process.ClusterNo.{ClusterNo}
use Rattle.t32_base.specs.declared.process.Status.{Status}
use Rattle.t32_base.specs.declared.process.Status.TheVariants.{Live, Closing, Ended}
use Rattle.sys_text.specs.declared.system.System.{System}
use Rattle.sys_text.specs.Valid.{is_system}
use Rattle.plain_kernel.specs.Kernel.{process_at}
use Rattle.bus_msg.specs.declared.entry.What.{What}
use Rattle.bus_msg.specs.declared.entry.What.TheVariants.{Crash}
use Rattle.bus_msg.specs.declared.entry.Entry.{Entry}
use Rattle.bus_msg.specs.PlacedAfter.{what}
use Rattle.cert_sched.specs.Parts.{last_of}
use Rattle.cert_sched.specs.Told.{Told, cluster_lost, told}
use Rattle.cert_sched.specs.Legal.{MayFollow}
use Rattle.cert_sched.proofs.MayLaws.{legal_may_stand}
use Rattle.entry_lines.specs.Told.{Fits, IsSmall, WhatFits, told_of, told_what}
use Rattle.report_text.specs.declared.run.Ended.{Ended as RunEnd}
use Rattle.report_text.specs.declared.run.Ended.TheVariants.{Finished, Lost}
use Rattle.report_text.specs.Good.{EndsAs, IsLostAt}
use Rattle.report_text.specs.RunReport.{log_text_of, report_of}
use Rattle.state_numbers.specs.Fits.{StatusFits as SmallStatus}
use Rattle.number_laws.proofs.LogNumbers.{end_fits, word_small}
use Rattle.number_laws.proofs.LogPids.{states_fit, there_fits}
use Rattle.log_section.specs.Printed.{EndedFits, ItemsFit, KernelFits, LogFits, RunFits, StatusFits}
use Rattle.audit_rules.specs.Explained.{ExplainedBy, has_small_cause, is_small}
use Rattle.audit_numbers.proofs.LogSmall.{AllSmallIn, AllTold, all_small}
use Rattle.audit_numbers.proofs.Section.{entries_fit, items_count, tty_fits, ttys_fit}

below : (a b : ℕ) → nat_lt a b ≡ true → a < b
below a b is = grind (arith, nat_tests)

status_fits : (status : Status) → SmallStatus status → StatusFits status
status_fits Live fits = tt
status_fits (Closing end) fits = tt
status_fits (Ended end) fits = end_fits end fits

last_fits : (ts : List Told) (t : Told) → AllTold ts → last_of ts ≡ Some t → Fits (told_of t.entry)
last_fits [] t all is = cc
last_fits (s ∷ []) t all is = subst (λ (x : Told). Fits (told_of x.entry)) (same_Some s t is) all.0
last_fits (s ∷ u ∷ ts) t all is = last_fits (u ∷ ts) t all.1 is

lost_small : (w : What) (k : ClusterNo) → WhatFits (told_what w) → cluster_lost w ≡ Some k → IsSmall k.0
lost_small (Crash j cause) k fits is = subst (λ (x : ClusterNo). IsSmall x.0) (same_Some j k is) fits.0
lost_small w k fits is = cc

ended_fits : (system : System) (log : List Entry) (ended : RunEnd) → AllTold (told system log) → EndsAs system log ended → EndedFits ended
ended_fits system log Finished all ends = tt
ended_fits system log (Lost k at) all ends = by_last (last_of (told system log)) refl ends
  where
    by_last : (o : Option Told) → last_of (told system log) ≡ o → IsLostAt o k at → EndedFits (Lost k at)
    by_last None is ends = absurd ends
    by_last (Some t) is ends =
        let fits = last_fits (told system log) t all is in
        (lost_small (what t.entry) k fits.2 ends.0, subst IsSmall ends.2 fits.0)

module _ (system : System) (section : List ℕ) (valid : is_system system ≡ true) (short : length section < 2 ^ 64) (is : ExplainedBy MayFollow system section) where
  within : (n : ℕ) → n ≤ length (report_of is.kernel is.run ++ log_text_of (is.run).log) → IsSmall n
  within n less =
      let same : length section ≡ length (report_of is.kernel is.run ++ log_text_of (is.run).log) =
      ap length is.section_is ∙ ap (λ (log : List Entry). length (report_of is.kernel is.run ++ log_text_of log)) (sym is.is) in
      omega (arith, less, same, short)

  fits : (list_all (λ (e : Entry). has_small_cause (what e)) is.log ≡ true) × (is_small (is.run).withheld ≡ true)
  fits = and_parts (list_all (λ (e : Entry). has_small_cause (what e)) is.log) (is_small (is.run).withheld) is.fits

  entries : IsSmall (length (is.run).log)
  entries = within (length (is.run).log) (entries_fit is.kernel is.run)

  small : AllSmallIn system is.log
  small = all_small system is.log valid (legal_may_stand system is.log is.legal) (subst (λ (log : List Entry). length log < 2 ^ 64) is.is entries) fits.0

  pub kernel_small : KernelFits is.kernel
  kernel_small = record {
    ttys = λ t bytes there. within (length bytes) (tty_fits is.kernel is.run t bytes (ttys_fit system is.log is.kernel valid is.plain t bytes there) there);
    processes = λ p s there.
        let after = ap (option_and_then (λ k. process_at k p)) is.plain ∙ there in
        let f = states_fit system is.log p s valid (legal_may_stand system is.log is.legal) after in
        (word_small p.0 (there_fits system is.log p s valid (legal_may_stand system is.log is.legal) after), status_fits (s.small).status f.status);
  }

  pub run_small : RunFits is.run
  run_small = record {
    log = subst LogFits (sym is.is) small.entries;
    entries = entries;
    items = subst ItemsFit (sym is.items) small.items;
    count = within (length (is.run).items) (items_count is.kernel is.run);
    ended = ended_fits system is.log (is.run).ended small.lines is.ended;
    withheld = below (is.run).withheld (2 ^ 64) fits.1;
  }
