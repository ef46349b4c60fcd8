-- What lines that break no rule lead to.
use Rattle.std.proofs.Common.{◌≡◌, ℕ, ◌+◌, true, false, List, [], ◌∷◌, ◌++◌, map, Some, None, Ok, refl, ap, ◌∙◌}
use Rattle.std.specs.List.{list_all}
use Rattle.text_parts.specs.Lines.{are_printable, fields_of}
use Rattle.sys_text.specs.declared.stage.Keyword.{Keyword}
use Rattle.sys_text.specs.declared.state.State.{State}
use Rattle.sys_text.specs.declared.system.System.{System}
use Rattle.sys_text.specs.Rules.{keyword_in, begins_comment, broken_by, lowest_with, add}
use Rattle.sys_text.specs.Reading.{Step, Goes, Outside, step_outside, kept, is_asm, goes_on, reading_from}
use Rattle.sys_text.proofs.Keeping.{Keeps, kept_lowest}
use Rattle.sys_text.proofs.Printed.{both, all_joined, are_plain, joined, joined_printable, fields_printed}

-- ---- one line

-- the rules of a line whose fields are known
rules_of_fields : (state : State) (line : List ℕ) (keyword : Keyword) (first : List ℕ) (fields : List (List ℕ)) → are_printable line ≡ true → fields_of line ≡ first ∷ fields → begins_comment first ≡ false → keyword_in state.stage first ≡ Some keyword
    → broken_by state line ≡ lowest_with state keyword fields
rules_of_fields state line keyword first fields printable cut comment key = rw (printable, cut, comment, key) refl

kept_of_fields : (state : State) (line : List ℕ) (keyword : Keyword) (first : List ℕ) (fields : List (List ℕ)) → fields_of line ≡ first ∷ fields → begins_comment first ≡ false → keyword_in state.stage first ≡ Some keyword → kept state (fields_of line) ≡ (add state keyword fields, is_asm keyword)
kept_of_fields state line keyword first fields cut comment key = rw (cut, comment, key) refl

step_of_line : (state : State) (n : ℕ) (line : List ℕ) (after : State) → broken_by state line ≡ None → kept state (fields_of line) ≡ (after, false) → step_outside state n line ≡ Goes (Outside after)
step_of_line state n line after none is = rw (none, is) refl

-- ---- lines

-- the lines lead from a state to another, whatever follows them
pub record Leads (s : State) (ls : List (List (List ℕ))) (t : State) : Type 0 where
  pub plain : list_all are_plain ls ≡ true
  pub reads : (n : ℕ) (rest : List (List ℕ)) → (m : ℕ) × (reading_from (Outside s) n (map joined ls ++ rest) ≡ reading_from (Outside t) m rest)

pub leads_none : (s : State) → Leads s [] s
leads_none s = record { plain = refl; reads = λ n rest. (n, refl) }

map_joined : (ls ks : List (List (List ℕ))) (rest : List (List ℕ)) → map joined (ls ++ ks) ++ rest ≡ map joined ls ++ (map joined ks ++ rest)
map_joined [] ks rest = refl
map_joined (l ∷ ls) ks rest = ap (λ t. joined l ∷ t) (map_joined ls ks rest)

pub leads_then : (s t u : State) (ls ks : List (List (List ℕ))) → Leads s ls t → Leads t ks u → Leads s (ls ++ ks) u
leads_then s t u ls ks a b = record {
  plain = all_joined are_plain ls ks a.plain b.plain;
  reads = λ n rest.
      let x = a.reads n (map joined ks ++ rest) in
      let y = b.reads x.0 rest in
      (y.0, ap (reading_from (Outside s) n) (map_joined ls ks rest) ∙ x.1 ∙ y.1);
}

outside_line : (s t : State) (n : ℕ) (line : List ℕ) (lines : List (List ℕ)) → step_outside s (n + 1) line ≡ Goes (Outside t) → reading_from (Outside s) n (line ∷ lines) ≡ reading_from (Outside t) (n + 1) lines
outside_line s t n line lines e = ap (λ (x : Step). goes_on x lines (λ next. reading_from next (n + 1) lines)) e

-- a line with this keyword that breaks no rule
pub leads_one : (s t : State) (keyword : Keyword) (first : List ℕ) (fields : List (List ℕ)) → are_plain (first ∷ fields) ≡ true → begins_comment first ≡ false → keyword_in s.stage first ≡ Some keyword → is_asm keyword ≡ false → Keeps s keyword fields → add s keyword fields ≡ t
    → Leads s ((first ∷ fields) ∷ []) t
leads_one s t keyword first fields plain comment key no_block keeps is =
    let line = joined (first ∷ fields) in
    let cut = fields_printed first fields plain in
    let none = rules_of_fields s line keyword first fields (joined_printable (first ∷ fields) plain) cut comment key ∙ kept_lowest s keyword fields keeps in
    let same : (add s keyword fields, is_asm keyword) ≡ (t, false) = rw (is, no_block) refl in
    let goes = λ (n : ℕ). step_of_line s (n + 1) line t none (kept_of_fields s line keyword first fields cut comment key ∙ same) in
    record { plain = both _ _ plain refl; reads = λ n rest. (n + 1, outside_line s t n line rest (goes n)) }

-- ---- the end

-- the lines are the last, and the answer is a system
pub record Ends (s : State) (ls : List (List (List ℕ))) (system : System) : Type 0 where
  pub plain : list_all are_plain ls ≡ true
  pub reads : (n : ℕ) → reading_from (Outside s) n (map joined ls) ≡ Ok system

joined_both : (ls ks : List (List (List ℕ))) → map joined (ls ++ ks) ≡ map joined ls ++ map joined ks
joined_both [] ks = refl
joined_both (l ∷ ls) ks = ap (λ t. joined l ∷ t) (joined_both ls ks)

pub leads_to_end : (s t : State) (ls ks : List (List (List ℕ))) (system : System) → Leads s ls t → Ends t ks system → Ends s (ls ++ ks) system
leads_to_end s t ls ks system a b = record {
  plain = all_joined are_plain ls ks a.plain b.plain;
  reads = λ n.
      let x = a.reads n (map joined ks) in
      ap (reading_from (Outside s) n) (joined_both ls ks) ∙ x.1 ∙ b.reads x.0;
}
