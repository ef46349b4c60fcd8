-- Logs that are alike have one end and the same printed lines.
use Rattle.std.proofs.Common.{◌≡◌, refl, sym, ◌∙◌, ap, ℕ, false, List, ◌++◌, map, Option, Some, None}
use Rattle.std.specs.Prelude.{option_map, codes}
use Rattle.std.specs.Fmt.{decimal}
use Rattle.std.specs.Option.{option_map_or}
use Rattle.std.proofs.lemmas.List.{length-map}
use Rattle.std.proofs.lemmas.Option.{same_Some}
use Rattle.t32_base.specs.declared.process.ClusterNo.{ClusterNo}
use Rattle.sys_text.specs.declared.system.System.{System}
use Rattle.bus_msg.specs.declared.entry.Entry.{Entry}
use Rattle.bus_msg.specs.Places.{is_covered}
use Rattle.bus_msg.specs.PlacedAfter.{what}
use Rattle.bus_msg.specs.Text.{by_text, line_of, what_text}
use Rattle.cert_sched.specs.Parts.{last_of}
use Rattle.cert_sched.specs.Scripted.{is_done, is_finished}
use Rattle.cert_sched.specs.Told.{Told, cluster_lost, told}
use Rattle.report_text.specs.declared.run.Ended.{Ended}
use Rattle.report_text.specs.declared.run.Ended.TheVariants.{Finished, Lost}
use Rattle.report_text.specs.Good.{EndsAs, IsLostAt}
use Rattle.report_text.specs.Report.{newline}
use Rattle.report_text.specs.RunReport.{log_text_of}
use Rattle.entry_lines.specs.Told.{told_by, told_of, told_what}
use Rattle.line_laws.specs.Meant.{with_reads_rising}
use Rattle.read_orders.specs.Alike.{AreAlike}
use Rattle.read_orders.proofs.Blind.{blind, flat_map-same, last_of-same, map-same}
use Rattle.read_orders.proofs.Since.{last_kept, told_rising}
use Rattle.read_orders.proofs.Same.{on_both}

-- ---- the end

finished_kept : (log : List Entry) → is_finished (map with_reads_rising log) ≡ is_finished log
finished_kept log = ap (λ (o : Option Entry). option_map_or (λ (e : Entry). is_done (what e)) o false) (last_of-same with_reads_rising log) ∙ by_last (last_of log)
  where
    by_last : (o : Option Entry) → option_map_or (λ (e : Entry). is_done (what e)) (option_map with_reads_rising o) false ≡ option_map_or (λ (e : Entry). is_done (what e)) o false
    by_last None = refl
    by_last (Some e) = blind is_done (λ q small read took. refl) (what e)

lost_kept : (t : Told) → cluster_lost (what (told_rising t).entry) ≡ cluster_lost (what t.entry)
lost_kept t = blind cluster_lost (λ q small read took. refl) (what t.entry)

same_loss : (o q : Option Told) → option_map told_rising o ≡ option_map told_rising q → (k : ClusterNo) (at : ℕ) → IsLostAt o k at → IsLostAt q k at
same_loss None q same k at h = absurd h
same_loss (Some t) None same k at h = cc
same_loss (Some t) (Some s) same k at h =
    let back : told_rising s ≡ told_rising t = sym (same_Some (told_rising t) (told_rising s) same) in
    (sym (lost_kept s) ∙ ap (λ (u : Told). cluster_lost (what u.entry)) back ∙ lost_kept t ∙ h.0, ap (λ (u : Told). is_covered u.places k) back ∙ h.1, ap (λ (u : Told). (u.entry).place) back ∙ h.2)

pub same_end : (system : System) (log other : List Entry) → AreAlike log other → (ended : Ended) → EndsAs system log ended → EndsAs system other ended
same_end system log other alike Finished h = sym (on_both is_finished finished_kept log other alike) ∙ h
same_end system log other alike (Lost k at) h =
    same_loss (last_of (told system log)) (last_of (told system other)) (sym (last_kept system log) ∙ ap (λ log. last_of (told system log)) alike ∙ last_kept system other) k at h

-- ---- in print

line_kept : (e : Entry) → line_of (with_reads_rising e) ≡ line_of e
line_kept e = ap (λ (text : List ℕ). decimal e.place ++ (codes " " ++ (by_text (e.post).by ++ (codes " " ++ text)))) (blind what_text (λ q small read took. refl) (what e))

text_kept : (log : List Entry) → log_text_of (map with_reads_rising log) ≡ log_text_of log
text_kept log = λ i.
    (codes "log " ++ (decimal (length-map log with_reads_rising i) ++ newline))
    ++ flat_map-same with_reads_rising (λ (e : Entry). line_of e ++ newline) (λ e. ap (λ (line : List ℕ). line ++ newline) (line_kept e)) log i

pub same_text : (log other : List Entry) → AreAlike log other → log_text_of log ≡ log_text_of other
same_text log other alike = on_both log_text_of text_kept log other alike

told_of_kept : (e : Entry) → told_of (with_reads_rising e) ≡ told_of e
told_of_kept e = λ i. record { place = e.place; by = told_by (e.post).by; what = blind told_what (λ q small read took. refl) (what e) i }

pub same_told : (log other : List Entry) → AreAlike log other → map told_of log ≡ map told_of other
same_told log other alike = on_both (map told_of) (map-same with_reads_rising told_of told_of_kept) log other alike
