-- The front of a legal log is legal, and the entry behind it may stand there.
use Rattle.std.proofs.Common.{◌≡◌, ℕ, zero, suc, ◌<◌, refl, sym, ◌∙◌, ap, subst, arith, List, [], ◌∷◌, ◌++◌, append_assoc, append-nil, length, map, take, Some, slice_get}
use Rattle.std.proofs.lemmas.Option.{same_Some, slice_get_within}
use Rattle.sys_text.specs.declared.system.System.{System}
use Rattle.bus_msg.specs.declared.entry.Entry.{Entry}
use Rattle.cert_sched.specs.Legal.{IsLegalBy, IsLegalFrom}
use Rattle.entry_lines.specs.declared.told.Told.{Told}
use Rattle.entry_lines.specs.Told.{told_of}
use Rattle.audit_rules.specs.Findings.{HasLines, IsRefusedAt}

-- the entry with a line of a log, and the lines in front of it
record HasEntry (lines : List Told) (log : List Entry) (index : ℕ) (line : Told) : Type 0 where
  pub entry : Entry
  pub there : slice_get log index ≡ Some entry
  pub said : told_of entry ≡ line
  pub before : map told_of (take index log) ≡ take index lines

entry_there : (lines : List Told) (log : List Entry) (n index : ℕ) (line : Told) → map told_of log ≡ take n lines → index < n → slice_get lines index ≡ Some line → HasEntry lines log index line
entry_there [] log n zero line same below at = cc
entry_there [] log n (suc index) line same below at = cc
entry_there (l ∷ lines) log zero index line same below at = absurd (omega (arith, below))
entry_there (l ∷ lines) [] (suc n) index line same below at = cc
entry_there (l ∷ lines) (e ∷ log) (suc n) zero line same below at =
    let first : told_of e ≡ l = cc in
    record { entry = e; there = refl; said = first ∙ same_Some l line at; before = refl }
entry_there (l ∷ lines) (e ∷ log) (suc n) (suc index) line same below at =
    let first : told_of e ≡ l = cc in
    let rest : map told_of log ≡ take n lines = cc in
    let h = entry_there lines log n index line rest (omega (arith, below)) at in
    record { entry = h.entry; there = h.there; said = h.said; before = λ i. first i ∷ h.before i }

module _ (May : System → List Entry → Entry → Type 0) (system : System) where
  front_legal : (before rest : List Entry) (index : ℕ) (e : Entry)
      → IsLegalFrom May system before rest → slice_get rest index ≡ Some e → IsLegalFrom May system before (take index rest) × May system (before ++ take index rest) e
  front_legal before [] zero e legal at = cc
  front_legal before [] (suc index) e legal at = cc
  front_legal before (f ∷ rest) zero e legal at = (tt, subst (λ (log : List Entry). May system log e) (sym (append-nil before)) (subst (May system before) (same_Some f e at) legal.0))
  front_legal before (f ∷ rest) (suc index) e legal at =
      let more = front_legal (before ++ f ∷ []) rest index e legal.1 at in
      ((legal.0, more.0), subst (λ (log : List Entry). May system log e) (append_assoc before (f ∷ []) (take index rest)) more.1)

  -- where an entry with a line may not stand, no legal log has that line and those in front of it
  pub refused : (lines : List Told) (index : ℕ) → IsRefusedAt May system lines index → (log : List Entry) (n : ℕ) → IsLegalBy May system log → map told_of log ≡ take n lines → index < n → ⊥
  unfolding IsLegalBy
  refused lines index r log n legal same below =
      let h = entry_there lines log n index r.line same below r.there in
      let front = front_legal [] log index h.entry legal h.there in
      r.none (take index log) h.entry (record { legal = front.0; said = h.before }) h.said front.1

take_all : (lines : List Told) → take (length lines) lines ≡ lines
take_all [] = refl
take_all (l ∷ lines) = ap (λ ls. l ∷ ls) (take_all lines)

-- nor does one have all lines
pub refused_whole : (May : System → List Entry → Entry → Type 0) (system : System) (lines : List Told) (index : ℕ)
    → IsRefusedAt May system lines index → (log : List Entry) → HasLines May system lines log → ⊥
refused_whole May system lines index r log has =
    refused May system lines index r log (length lines) has.legal (has.said ∙ sym (take_all lines)) (slice_get_within lines index r.line r.there)
