-- A cluster that has taken in all but the end of a log has taken in each page.
use Rattle.std.proofs.Common.{◌≡◌, ℕ, suc, ◌-◌, sym, ◌∙◌, ap, arith, List, [], ◌∷◌, ◌++◌, length, take, Bool, true, false, cond, Some, slice_get, true≢false, refl, inl, inr}
use Rattle.std.specs.Prelude.{count_by}
use Rattle.std.proofs.lemmas.List.{take_all}
use Rattle.std.proofs.lemmas.Option.{slice_get_cases}
use Rattle.bus_msg.specs.declared.entry.What.{What}
use Rattle.bus_msg.specs.declared.entry.What.TheVariants.{Page}
use Rattle.bus_msg.specs.declared.entry.Entry.{Entry}
use Rattle.bus_msg.specs.PlacedAfter.{what}
use Rattle.cert_sched.specs.Losses.{is_page_entry}
use Rattle.cert_sched.specs.Scripted.{is_done, is_finished}
use Rattle.cluster_core.proofs.absorbing.Counted.{count_by-snoc}
use Rattle.bus_order.proofs.LogParts.{take_one}
use Rattle.bus_order.proofs.OverLaws.{finished_some}

-- the end brings no page
end_no_page : (w : What) → is_done w ≡ true → is_page_entry w ≡ false
end_no_page (Page pid at index bytes) h = absurd (true≢false (sym h))
end_no_page _ h = refl

-- so as many pages stand before it as in the whole
pub pages_heard : (log : List Entry) (n : ℕ) → is_finished log ≡ true → n ≡ length log - 1 → count_by (λ (e : Entry). is_page_entry (what e)) log ≡ count_by (λ (e : Entry). is_page_entry (what e)) (take n log)
pages_heard log n finished last = elim (slice_get_cases log n).1 [
  | inl there ↦ with_end there.0 there.2
  | inr past ↦ ap (count_by (λ (e : Entry). is_page_entry (what e))) (sym (take_all n log past.0))
]
  where
    with_end : (e : Entry) → slice_get log n ≡ Some e → count_by (λ (e : Entry). is_page_entry (what e)) log ≡ count_by (λ (e : Entry). is_page_entry (what e)) (take n log)
    with_end e at =
        let whole : take (suc n) log ≡ log = take_all (suc n) log (omega (arith, last)) in
        let same : count_by (λ (e : Entry). is_page_entry (what e)) log ≡ count_by (λ (e : Entry). is_page_entry (what e)) (take n log ++ e ∷ []) = ap (count_by (λ (e : Entry). is_page_entry (what e))) (sym whole ∙ take_one log n e at) in
        let more = count_by-snoc (λ (e : Entry). is_page_entry (what e)) (take n log) e in
        let done : is_done (what e) ≡ true = sym (finished_some log e (ap (slice_get log) (sym last) ∙ at)) ∙ finished in
        let none : ◌≡◌ {A = ℕ} (cond (is_page_entry (what e)) 1 0) 0 = ap (λ (b : Bool). cond b 1 0) (end_no_page (what e) done) in
        omega (arith, same, more, none)
