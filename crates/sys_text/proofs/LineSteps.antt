use Rattle.std.proofs.Common.{◌≡◌, ℕ, ◌+◌, ◌*◌, ◌%◌, ◌^◌, ◌<◌, ◌≤◌, eqb, Bool, true, false, not, ◌&&◌, ◌||◌, leb, nat_lt, List, ◌∷◌, length, Option, Some, None, Ok, refl, sym, ap, ◌∙◌, arith}
use Rattle.std.specs.Prelude.{is_some}
use Rattle.std.proofs.lemmas.Bool.{and_parts, leb-true, not-false}
use Rattle.std.proofs.lemmas.Bool.Decides.{nat_tests}
use Rattle.text_parts.specs.Lines.{are_printable, fields_of}
use Rattle.sys_text.specs.declared.stage.Keyword.{Keyword}
use Rattle.sys_text.specs.declared.stage.Keyword.TheVariants.{Words}
use Rattle.sys_text.specs.declared.stage.Keyword.TheVariants as keywords
use Rattle.sys_text.specs.declared.refusal.Rule.{Rule}
use Rattle.sys_text.specs.declared.refusal.SystemRefused.{SystemRefused}
use Rattle.sys_text.specs.declared.refusal.SystemRefused.TheVariants as refusals
use Rattle.sys_text.specs.declared.state.State.{State}
use Rattle.sys_text.specs.Valid.{is_within, is_entry}
use Rattle.sys_text.specs.Line.{Line, line_of}
use Rattle.sys_text.specs.Line as lines
use Rattle.sys_text.specs.Rules.{may_stand, keyword_in, begins_comment, broken_by, lowest_of, lowest_of_file, add_line, add, HasRoom}
use Rattle.sys_text.specs.Numbers.{Fits}
use Rattle.sys_text.specs.Fronts.{Starts}
use Rattle.sys_text.specs.Reading.{is_asm, kept, kept_line, step_outside}
use Rattle.sys_text.specs.Answers.{RefusesStep, TakesLine}
use Rattle.sys_text.specs.WordLines.{IsWordsLine, RefusesBy}
use Rattle.sys_text.proofs.Keeping.{kept_rules, lowest_file, within_le}
use Rattle.sys_text.proofs.Spelling.{keyword_said, said_keyword}
use Rattle.sys_text.proofs.Standing.{rank, in_image, stands, stands_at}

-- ---- the front of a line

pub starts : (state : State) (line : List ℕ) (keyword : Keyword) (first : List ℕ) (fields : List (List ℕ)) → are_printable line ≡ true → fields_of line ≡ first ∷ fields → begins_comment first ≡ false → keyword_in state.stage first ≡ Some keyword → Starts state line keyword fields
starts state line keyword first fields printable cut comment key = record { stands = stands state.stage _ keyword key; broken = rw (printable, cut, comment, key) refl; kept = rw (cut, comment, key) refl }

pub words_start : (state : State) (line rest : List ℕ) → IsWordsLine state.stage line rest → Starts state line Words (fields_of rest)
words_start state line rest w = record { stands = rw w.in_image refl; broken = rw (w.printable, w.fields, w.in_image) refl; kept = rw (w.fields, w.in_image) refl }

-- ---- a line that breaks no rule

pair_le : (clusters a b : ℕ) → not (nat_lt a clusters && nat_lt b clusters) ≡ false → (a ≤ clusters) × (b ≤ clusters)
pair_le clusters a b h = (grind (arith, nat_tests), grind (arith, nat_tests))

chan_le : (roots a b : ℕ) → (not (leb 1 a && leb a roots) || not (leb 1 b && leb b roots)) ≡ false → (a ≤ roots) × (b ≤ roots)
chan_le roots a b h = (grind (arith, nat_tests), grind (arith, nat_tests))

not_both : (a b : Bool) → not (a && b) ≡ false → (not a ≡ false) × (not b ≡ false)
not_both true b h = (refl, h)
not_both false b h = absurd cc

within_ge : (low high n : ℕ) → not (is_within low high n) ≡ false → low ≤ n
within_ge low high n h = grind (arith, nat_tests)

entry_below : (pages entry : ℕ) → not (is_entry pages entry) ≡ false → pages ≤ 256 → entry < 2 ^ 32
entry_below pages entry h few = below (leb-true (entry + 4) (65536 + 256 * pages) (and_parts (leb 65536 entry) _ (and_parts (eqb (entry % 4) 0) _ (not-false (is_entry pages entry) h)).1).1)
  where
    below : entry + 4 ≤ 65536 + 256 * pages → entry < 2 ^ 32
    below le = omega (arith, le, few)

pub fits : (state : State) (line : Line) → lowest_of state line ≡ None → HasRoom state → Fits line
fits state (lines.Clusters count) e r = omega (arith, within_le 2 16 count (kept_rules state (lines.Clusters count) e).limits)
fits state (lines.Pager first second) e r =
    let le = pair_le state.system.clusters first second (kept_rules state (lines.Pager first second) e).limits in
    (omega (arith, le.0, r.clusters), omega (arith, le.1, r.clusters))
fits state (lines.Syncreads count) e r = omega (arith, within_le 1 1000 count (kept_rules state (lines.Syncreads count) e).limits)
fits state (lines.Syncsteps count) e r = within_le 64 100000 count (kept_rules state (lines.Syncsteps count) e).limits
fits state (lines.Image name pages entry) e r =
    let both = not_both (is_within 1 256 pages) (is_entry pages entry) (kept_rules state (lines.Image name pages entry) e).limits in
    record { least = within_ge 1 256 pages both.0; most = within_le 1 256 pages both.0; fits = entry_below pages entry both.1 (within_le 1 256 pages both.0) }
fits state (lines.Asm name pages) e r =
    let limits = (kept_rules state (lines.Asm name pages) e).limits in
    record { least = within_ge 1 256 pages limits; most = within_le 1 256 pages limits; fits = omega arith }
fits state (lines.Elf name pages size) e r =
    let both = not_both (is_within 1 256 pages) (is_within 1 65536 size) (kept_rules state (lines.Elf name pages size) e).limits in
    record { least = within_ge 1 256 pages both.0; most = within_le 1 256 pages both.0; fits = omega (arith, within_le 1 65536 size both.1) }
fits state (lines.Words words) e r = tt
fits state lines.End e r = tt
fits state (lines.Root root image) e r =
    let abcde = not_both _ (is_within 0 15 root.tty) (kept_rules state (lines.Root root image) e).limits in
    let abcd = not_both _ (is_within 0 31 root.births) abcde.0 in
    let abc = not_both _ (is_within 1 100000 root.limit) abcd.0 in
    let le = pair_le state.system.clusters root.home root.backup abc.0 in
    record {
      home = omega (arith, le.0, r.clusters);
      backup = omega (arith, le.1, r.clusters);
      limit = within_le 1 100000 root.limit abc.1;
      births = omega (arith, within_le 0 31 root.births abcd.1);
      tty = omega (arith, within_le 0 15 root.tty abcde.1);
    }
fits state (lines.Chan first second) e r =
    let le = chan_le (length state.system.roots) first second (kept_rules state (lines.Chan first second) e).name in
    (omega (arith, le.0, r.places), omega (arith, le.1, r.places))

-- ---- the block that is open where it stands, or behind it

pub end_closes : (state : State) (keyword : Keyword) (fields : List (List ℕ)) (read : Line) → line_of keyword fields ≡ Ok read → may_stand state.stage keyword ≡ true → HasRoom state → read ≡ lines.End → is_some state.block ≡ true
end_closes state keyword fields read e stands room is =
    let same : keyword ≡ keywords.End = sym (said_keyword keyword fields read e) ∙ ap keyword_said is in
    room.image (in_image state.stage (stands_at state.stage keywords.End (ap (may_stand state.stage) (sym same) ∙ stands)))

pub asm_line : (state : State) (line : Line) → is_asm (keyword_said line) ≡ true → (rank (add_line state line).stage ≡ 5) × (is_some (add_line state line).block ≡ true)
asm_line state (lines.Clusters count) h = absurd cc
asm_line state (lines.Pager first second) h = absurd cc
asm_line state (lines.Syncreads count) h = absurd cc
asm_line state (lines.Syncsteps count) h = absurd cc
asm_line state (lines.Image name pages entry) h = absurd cc
asm_line state (lines.Asm name pages) h = (refl, refl)
asm_line state (lines.Elf name pages size) h = absurd cc
asm_line state (lines.Words words) h = absurd cc
asm_line state lines.End h = absurd cc
asm_line state (lines.Root root image) h = absurd cc
asm_line state (lines.Chan first second) h = absurd cc

pub asm_opens_block : (state after : State) (keyword : Keyword) (fields : List (List ℕ)) (read : Line) (opens : Bool) → line_of keyword fields ≡ Ok read → after ≡ add_line state read → opens ≡ is_asm keyword → opens ≡ true → is_some after.block ≡ true
asm_opens_block state after keyword fields read opens e is asm h = rw is (asm_line state read (ap is_asm (said_keyword keyword fields read e) ∙ sym asm ∙ h)).1

-- ---- what it leads to

pub none_broken : (state : State) (line : List ℕ) (keyword : Keyword) (fields : List (List ℕ)) (read : Line) → Starts state line keyword fields → line_of keyword fields ≡ Ok read → lowest_of state read ≡ None → lowest_of_file state read ≡ None → broken_by state line ≡ None
none_broken state line keyword fields read s e none file = s.broken ∙ lowest_file state keyword fields read e none ∙ file

added : (state : State) (keyword : Keyword) (fields : List (List ℕ)) (read : Line) → line_of keyword fields ≡ Ok read → add state keyword fields ≡ add_line state read
added state keyword fields read e = rw e refl

pub kept_read : (state after : State) (line : List ℕ) (keyword : Keyword) (fields : List (List ℕ)) (read : Line) (opens : Bool) → Starts state line keyword fields → line_of keyword fields ≡ Ok read → after ≡ add_line state read → opens ≡ is_asm keyword → kept state (fields_of line) ≡ (after, opens)
kept_read state after line keyword fields read opens s e is asm = rw (is, asm, ← added state keyword fields read e) s.kept

opened : (state after : State) (n : ℕ) (line : List ℕ) (opens : Bool) → step_outside state n line ≡ kept_line n (after, opens) → TakesLine (Ok opens) after n (step_outside state n line)
opened state after n line true e = e
opened state after n line false e = e

pub goes_on : (state after : State) (n : ℕ) (line : List ℕ) (opens : Bool) → broken_by state line ≡ None → kept state (fields_of line) ≡ (after, opens) → TakesLine (Ok opens) after n (step_outside state n line)
goes_on state after n line opens none is = opened state after n line opens (rw (none, is) refl)

pub refused_at : (state : State) (n : ℕ) (line : List ℕ) (lowest : Option Rule) (refused : SystemRefused) → broken_by state line ≡ lowest → RefusesBy refused n lowest → RefusesStep refused (step_outside state n line)
refused_at state n line lowest (refusals.BadLine at rule) is by =
    let broken : broken_by state line ≡ Some by.0 = is ∙ by.1 in
    (by.0, rw (broken, by.2) refl, by.3)
refused_at state n line lowest refusals.NoMemory is by = tt
