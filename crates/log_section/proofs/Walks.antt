-- Part after part of a text is passed.
use Rattle.std.proofs.Common.{◌≡◌, ℕ, zero, suc, List, [], ◌∷◌, ◌++◌, drop, Option, Some, None, refl, sym, ap, ◌∙◌, append_assoc}
use Rattle.std.specs.Option.{option_map, option_map_or, option_and_then}
use Rattle.log_section.specs.Lines.{behind_count, behind_most}
use Rattle.text_parts.specs.Lines.{is_newline, before, from}
use Rattle.entry_lines.specs.declared.told.Told.{Told}
use Rattle.entry_lines.specs.Reading.{told_in}
use Rattle.log_section.specs.Form.{ended_line, first_told, told_lines}

-- ---- parts

pub count_more : (part : List ℕ → Option (List ℕ)) (left less : ℕ) (text rest : List ℕ) (total : Option (List ℕ)) → left ≡ suc less → part text ≡ Some rest → behind_count part left text ≡ total
    → behind_count part less rest ≡ total
count_more part left less text rest total more e h = ap (option_and_then (behind_count part less)) (sym e) ∙ ap (λ (n : ℕ). behind_count part n text) (sym more) ∙ h

pub most_more : (part : List ℕ → Option (List ℕ)) (left less : ℕ) (text rest total : List ℕ) → left ≡ suc less → part text ≡ Some rest → behind_most part left text ≡ total
    → behind_most part less rest ≡ total
most_more part left less text rest total more e h = ap (λ (o : Option (List ℕ)). option_map_or (behind_most part less) o text) (sym e) ∙ ap (λ (n : ℕ). behind_most part n text) (sym more) ∙ h

pub most_bad : (part : List ℕ → Option (List ℕ)) (left : ℕ) (text total : List ℕ) → part text ≡ None → behind_most part left text ≡ total → total ≡ text
most_bad part zero text total e h = sym h
most_bad part (suc less) text total e h = sym h ∙ ap (λ (o : Option (List ℕ)). option_map_or (behind_most part less) o text) e

-- ---- lines of entries

-- what was read so far in front of what is read next
abbrev pub gathered : List Told → Option (List Told) → Option (List Told)
gathered found told = option_map (λ (ts : List Told). found ++ ts) told

pub gathered_more : (found : List Told) (t : Told) (told : Option (List Told)) → gathered (found ++ t ∷ []) told ≡ gathered found (option_map (λ (ts : List Told). t ∷ ts) told)
gathered_more found t None = refl
gathered_more found t (Some ts) = ap Some (append_assoc found (t ∷ []) ts)

-- what the line in front says
pub told_first : (line end text : List ℕ) (t : Told) (o : Option Told) → line ≡ before is_newline text → end ≡ from is_newline text → o ≡ option_and_then told_in (ended_line line end) → o ≡ Some t
    → first_told text ≡ Some t
told_first line end text t o l e h s =
    sym (h ∙ ap (λ (x : List ℕ). option_and_then told_in (ended_line x end)) l ∙ ap (λ (x : List ℕ). option_and_then told_in (ended_line (before is_newline text) x)) e) ∙ s

pub log_more : (found new : List Told) (left less : ℕ) (text rest : List ℕ) (t : Told) (total : Option (List Told)) → left ≡ suc less
    → first_told text ≡ Some t → rest ≡ drop 1 (from is_newline text) → new ≡ found ++ t ∷ [] → gathered found (told_lines left text) ≡ total → gathered new (told_lines less rest) ≡ total
log_more found new left less text rest t total more first rest_is new_is h =
    let after = drop 1 (from is_newline text) in
    ap (λ (r : List ℕ). gathered new (told_lines less r)) rest_is
    ∙ ap (λ (xs : List Told). gathered xs (told_lines less after)) new_is
    ∙ gathered_more found t (told_lines less after)
    ∙ ap (λ (o : Option Told). gathered found (option_and_then (λ (u : Told). option_map (λ (ts : List Told). u ∷ ts) (told_lines less after)) o)) (sym first)
    ∙ ap (λ (n : ℕ). gathered found (told_lines n text)) (sym more)
    ∙ h
