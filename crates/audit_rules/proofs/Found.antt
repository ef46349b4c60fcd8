-- There is one finding against a section and no other, and none against one that is explained.
use Rattle.std.proofs.Common.{◌≡◌, ℕ, ◌<◌, refl, sym, ◌∙◌, ap, subst, List, map, Some, None}
use Rattle.std.proofs.lemmas.Option.{same_Some}
use Rattle.sys_text.specs.declared.system.System.{System}
use Rattle.bus_msg.specs.declared.entry.Entry.{Entry}
use Rattle.entry_lines.specs.declared.told.Told.{Told}
use Rattle.entry_lines.specs.Told.{told_of}
use Rattle.log_section.specs.Form.{IsForm, form_of}
use Rattle.audit_text.specs.declared.finding.Finding.{Finding}
use Rattle.audit_text.specs.declared.finding.Finding.TheVariants.{Form, Entry as Refused, Unended, Report}
use Rattle.audit_rules.specs.Explained.{ExplainedBy}
use Rattle.audit_rules.specs.Findings.{AuditCause, HasLines, IsRefusedAt}
use Rattle.audit_rules.proofs.Fronts.{refused, refused_whole}
use Rattle.std.proofs.Common.{inl, inr}
use Rattle.std.proofs.lemmas.Bool.{cases_order}

module _ (May : System → List Entry → Entry → Type 0) (system : System) (section : List ℕ) where
  unformed : (lines : List Told) → form_of section ≡ None → IsForm section lines → ⊥
  unformed lines none form = let clash : None ≡ Some lines = sym none ∙ form in cc

  same_lines : (these those : List Told) → IsForm section these → IsForm section those → those ≡ these
  same_lines these those form other = same_Some those these (sym other ∙ form)

  as_said : {these those : List Told} (log : List Entry) → those ≡ these → HasLines May system those log → HasLines May system these log
  as_said log same has = subst (λ (lines : List Told). HasLines May system lines log) same has

  -- of two refused entries of one log the first is refused already
  not_later : (lines : List Told) (i j : ℕ) → IsRefusedAt May system lines i → IsRefusedAt May system lines j → i < j → ⊥
  not_later lines i j first later earlier = refused May system lines i first later.log j (later.before).legal (later.before).said earlier

  same_index : (lines : List Told) (i j : ℕ) → IsRefusedAt May system lines i → IsRefusedAt May system lines j → i ≡ j
  same_index lines i j a b = elim (cases_order i j) [ inl same ↦ same | inr (inl earlier) ↦ absurd (not_later lines i j a b earlier) | inr (inr later) ↦ absurd (not_later lines j i b a later) ]

  pub one_finding : (found other : Finding) → AuditCause May system section found → AuditCause May system section other → found ≡ other
  one_finding Form Form a b = refl
  one_finding Form (Refused j) a b = absurd (unformed b.0 a b.1)
  one_finding Form Unended a b = absurd (unformed b.0 a b.1)
  one_finding Form Report a b = absurd (unformed b.0 a b.1)
  one_finding (Refused i) Form a b = absurd (unformed a.0 b a.1)
  one_finding (Refused i) (Refused j) a b = ap Refused (same_index a.0 i j a.2 (subst (λ (lines : List Told). IsRefusedAt May system lines j) (same_lines a.0 b.0 a.1 b.1) b.2))
  one_finding (Refused i) Unended a b = absurd (refused_whole May system a.0 i a.2 (b.2).log (as_said (b.2).log (same_lines a.0 b.0 a.1 b.1) (b.2).all))
  one_finding (Refused i) Report a b = absurd (refused_whole May system a.0 i a.2 (b.2).log (as_said (b.2).log (same_lines a.0 b.0 a.1 b.1) (b.2).all))
  one_finding Unended Form a b = absurd (unformed a.0 b a.1)
  one_finding Unended (Refused j) a b = absurd (refused_whole May system b.0 j b.2 (a.2).log (as_said (a.2).log (same_lines b.0 a.0 b.1 a.1) (a.2).all))
  one_finding Unended Unended a b = refl
  one_finding Unended Report a b = absurd ((a.2).none (b.2).log (as_said (b.2).log (same_lines a.0 b.0 a.1 b.1) (b.2).all) (b.2).ended)
  one_finding Report Form a b = absurd (unformed a.0 b a.1)
  one_finding Report (Refused j) a b = absurd (refused_whole May system b.0 j b.2 (a.2).log (as_said (a.2).log (same_lines b.0 a.0 b.1 a.1) (a.2).all))
  one_finding Report Unended a b = absurd ((b.2).none (a.2).log (as_said (a.2).log (same_lines b.0 a.0 b.1 a.1) (a.2).all) (a.2).ended)
  one_finding Report Report a b = refl

  -- against what is explained, where its lines are those of its log
  pub none_found : (is : ExplainedBy May system section) → IsForm section (map told_of is.log) → (found : Finding) → AuditCause May system section found → ⊥
  none_found is form Form a = unformed (map told_of is.log) a form
  none_found is form (Refused i) a = refused_whole May system a.0 i a.2 is.log (record { legal = is.legal; said = same_lines a.0 (map told_of is.log) a.1 form })
  none_found is form Unended a = (a.2).none is.log (record { legal = is.legal; said = same_lines a.0 (map told_of is.log) a.1 form }) ((is.run).ended, is.ended)
  none_found is form Report a = (a.2).none is
