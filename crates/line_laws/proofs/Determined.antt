-- Two entries that may stand next with one line differ at most in the order of the numbers that a synchronisation read.
use Rattle.std.proofs.Common.{◌≡◌, refl, sym, ◌∙◌, ap, List, Bool, true, false, Some, None}
use Rattle.std.specs.Prelude.{option_map}
use Rattle.std.proofs.lemmas.Option.{same_Some}
use Rattle.sys_text.specs.declared.system.System.{System}
use Rattle.sys_text.specs.Valid.{is_system}
use Rattle.bus_msg.specs.declared.entry.What.{What}
use Rattle.bus_msg.specs.declared.entry.What.TheVariants.{Done}
use Rattle.bus_msg.specs.declared.entry.Entry.{Entry}
use Rattle.bus_msg.specs.PlacedAfter.{what}
use Rattle.bus_msg.specs.Route.{route}
use Rattle.cert_sched.specs.Schedule.{placement}
use Rattle.cert_sched.specs.Kinds.{KindHolds}
use Rattle.cert_sched.specs.Legal.{IsLegalBy, Stands}
use Rattle.entry_lines.specs.declared.told.Told.{Told}
use Rattle.entry_lines.specs.Told.{told_of, told_what}
use Rattle.line_laws.specs.Meant.{SameButReads, by_meant, entry_meant, entry_saying, is_end, meant, reads_rising, with_reads_rising}
use Rattle.line_laws.proofs.Meaning.{by_back, entry_is_meant}
use Rattle.line_laws.proofs.Ends.{each_rests, same_rests}

-- the line of the end of the run means no entry by itself
end_is_open : (system : System) (log : List Entry) (w : What) → is_end w ≡ true → meant system log (told_what w) ≡ None
unfolding meant
end_is_open system log (Done rests) end = refl
end_is_open system log _ end = cc

same_ends : (system : System) (log : List Entry) (e f : Entry) → is_system system ≡ true → IsLegalBy Stands system log → (w v : What) → what e ≡ w → what f ≡ v → is_end w ≡ true → is_end v ≡ true
    → KindHolds system log e w → KindHolds system log f v → w ≡ v
same_ends system log e f valid legal (Done rs) (Done ts) here there end last h k =
    ap Done (same_rests system log rs ts (h.named ∙ sym k.named) (each_rests system log e rs valid legal here h) (each_rests system log f ts valid legal there k))
same_ends system log e f valid legal (Done rs) _ here there end last h k = cc
same_ends system log e f valid legal _ v here there end last h k = cc

pub same_entries : (system : System) (log : List Entry) (e f : Entry) → is_system system ≡ true → IsLegalBy Stands system log → Stands system log e → Stands system log f → told_of e ≡ told_of f
    → SameButReads e f
same_entries system log e f valid legal stands holds same = by_ends (is_end (what e)) (is_end (what f)) refl refl
  where
    open_end : (d : Entry) (b : Entry) → is_end (what d) ≡ true → is_end (what b) ≡ false → Stands system log b → told_of d ≡ told_of b → ⊥
    open_end d b end other stand line =
        let both : None ≡ Some (with_reads_rising b) =
        sym (ap (option_map (entry_saying system log (told_of d))) (end_is_open system log (what d) end)) ∙ ap (entry_meant system log) line ∙ entry_is_meant system log b stand other in
        cc

    by_ends : (b c : Bool) → is_end (what e) ≡ b → is_end (what f) ≡ c → SameButReads e f
    by_ends true true end last =
        let said : what e ≡ what f = same_ends system log e f valid legal (what e) (what f) refl refl end last stands.kind holds.kind in
        let by : (e.post).by ≡ (f.post).by = sym (by_back (e.post).by) ∙ ap (λ (t : Told). by_meant t.by) same ∙ by_back (f.post).by in
        let place : e.place ≡ f.place = ap (λ (t : Told). t.place) same in
        let dests : e.dests ≡ f.dests = (stands.placed).1 ∙ ap (route (placement system log)) said ∙ sym (holds.placed).1 in
        λ i. record { place = place i; post = record { by = by i; what = reads_rising (said i) }; dests = dests i }
    by_ends true false end other = absurd (open_end e f end other holds same)
    by_ends false true other end = absurd (open_end f e end other stands (sym same))
    by_ends false false other another =
        same_Some (with_reads_rising e) (with_reads_rising f) (sym (entry_is_meant system log e stands other) ∙ ap (entry_meant system log) same ∙ entry_is_meant system log f holds another)
