-- The system of a text keeps the rules.
use Rattle.std.proofs.Common.{◌≡◌, ℕ, ◌+◌, ◌≤◌, Bool, true, false, ◌&&◌, nat_le, nat_lt, List, [], ◌∷◌, ◌++◌, length, Option, Some, None, Result, Ok, Err, refl, ap, ◌∙◌, arith}
use Rattle.std.specs.List.{list_all, range_with_len}
use Rattle.std.proofs.lemmas.Bool.{le-leb}
use Rattle.text_parts.specs.Lines.{are_printable, lines_of, fields_of}
use Rattle.rv_asm.specs.Program.{reading_of_lines}
use Rattle.rv_asm.specs.declared.refusal.Rule.{Rule as AsmRule}
use Rattle.sys_text.specs.declared.stage.Keyword.{Keyword}
use Rattle.sys_text.specs.declared.stage.Stage.{Stage}
use Rattle.sys_text.specs.declared.stage.Stage.TheVariants.{Start, AfterClusters, AfterPager, AfterSyncreads, Images, InImage, Roots, Chans}
use Rattle.sys_text.specs.declared.refusal.Rule.{Rule}
use Rattle.sys_text.specs.declared.system.System.{System}
use Rattle.sys_text.specs.declared.system.Image.{Image}
use Rattle.sys_text.specs.declared.system.Root.{Root}
use Rattle.sys_text.specs.declared.state.State.{State}
use Rattle.sys_text.specs.Valid.{is_within, is_pair, is_word, is_image, is_root, births_of, links, are_images, are_roots, are_chans, is_system}
use Rattle.sys_text.specs.Types.{have_words, have_numbers}
use Rattle.sys_text.specs.Rules.{keyword_in, first_of, rest_of, is_skipped, broken_by, fit_open, closed_with, add}
use Rattle.sys_text.specs.Reading.{Answer, Place, Step, Goes, Refuses, Outside, InBlock, close_block, is_end, is_asm, kept, kept_line, line_or_rule, step, ended, ended_in_block, may_end, nothing_yet, reading_from, system_of_lines, reading_of}
use Rattle.sys_text.proofs.Bounds.{first_of_two, second_of_two}
use Rattle.sys_text.proofs.Keeping.{Keeps, keeps}
use Rattle.sys_text.proofs.Spelling.{said_keyword}
use Rattle.sys_text.proofs.Taking.{lowest_none}
use Rattle.sys_text.proofs.Printed.{both}
use Rattle.sys_text.proofs.LineSteps.{asm_line}
use Rattle.sys_text.proofs.Standing.{rank, stands, stands_at}
use Rattle.sys_text.proofs.Sound.{IsSound, is_shaped, is_placed}
use Rattle.sys_text.proofs.Sounding.{sound_add, sound_closed_with}

-- ---- places

-- in an assembler block the image of the block is open
abbrev IsSoundAt : Place → Type 0
IsSoundAt (Outside state) = IsSound state
IsSoundAt (InBlock state header block) = IsSound state × (rank state.stage ≡ 5)

nothing_is_sound : IsSound nothing_yet
nothing_is_sound = record {
  clusters = λ r. absurd (omega (arith, r));
  pager = λ r. absurd (omega (arith, r));
  reads = λ r. absurd (omega (arith, r));
  steps = λ r. absurd (omega (arith, r));
  images = refl;
  once = refl;
  begins = λ e. refl;
  roots = refl;
  few = omega arith;
  some = λ r. absurd (omega (arith, r));
  chans = refl;
  linked = λ root. omega arith;
  block = λ e. absurd (omega (arith, e));
}

-- ---- a line outside blocks

asm_opens : (state : State) (keyword : Keyword) (fields : List (List ℕ)) → Keeps state keyword fields → is_asm keyword ≡ true → rank (add state keyword fields).stage ≡ 5
asm_opens state keyword fields k h = rw k.read (asm_line state k.line (ap is_asm (said_keyword keyword fields k.line k.read) ∙ h)).0

-- a state that is sound, and has an open image where it opens a block
IsSoundAfter : State × Bool → Type 0
IsSoundAfter after = IsSound after.0 × (after.1 ≡ true → rank (after.0).stage ≡ 5)

kept_sound : (state : State) (line : List ℕ) → broken_by state line ≡ None → IsSound state → IsSoundAfter (kept state (fields_of line))
unfolding IsSoundAfter
kept_sound state line e s = by_skip (is_skipped (fields_of line)) refl (keyword_in state.stage (first_of (fields_of line))) refl
  where
    fields : List (List ℕ)
    fields = rest_of (fields_of line)

    by_skip : (b : Bool) → is_skipped (fields_of line) ≡ b → (o : Option Keyword) → keyword_in state.stage (first_of (fields_of line)) ≡ o → IsSound (kept state (fields_of line)).0 × ((kept state (fields_of line)).1 ≡ true → rank ((kept state (fields_of line)).0).stage ≡ 5)
    by_skip true skip o key = rw skip (s, λ t. absurd cc)
    by_skip false skip None key = rw (skip, key) (s, λ t. absurd cc)
    by_skip false skip (Some keyword) key =
        let lowest = lowest_none state line keyword skip key e in
        let at = stands_at state.stage keyword (stands state.stage _ keyword key) in
        let k = keeps state keyword (rest_of (fields_of line)) lowest in
        rw (skip, key) (sound_add state keyword (rest_of (fields_of line)) k at s, asm_opens state keyword (rest_of (fields_of line)) k)

-- ---- a step

goes : (p q : Place) → Goes p ≡ Goes q → p ≡ q
goes p q e = ap place_in e
  where
    place_in : Step → Place
    place_in (Goes place) = place
    place_in (Refuses line rule) = p

kept_goes : (n : ℕ) (after : State × Bool) (next : Place) → kept_line n after ≡ Goes next → IsSoundAfter after → IsSoundAt next
unfolding IsSoundAfter
kept_goes n (state, true) next e s = rw (← goes (InBlock state n []) next e) (s.0, s.1 refl)
kept_goes n (state, false) next e s = rw (← goes (Outside state) next e) s.0

outside_goes_on : (state : State) (n : ℕ) (line : List ℕ) (o : Option Rule) (next : Place) → broken_by state line ≡ o → line_or_rule state n line o ≡ Goes next → IsSound state → IsSoundAt next
outside_goes_on state n line None next none e s = kept_goes n (kept state (fields_of line)) next e (kept_sound state line none s)
outside_goes_on state n line (Some rule) next broken e s = absurd cc

block_closes : (state : State) (header n : ℕ) (answer : Result (List ℕ) (ℕ × AsmRule)) (next : Place) → close_block state header n answer ≡ Goes next → IsSound state → rank state.stage ≡ 5 → IsSoundAt next
block_closes state header n (Err refused) next e s at = absurd cc
block_closes state header n (Ok words) next e s at = by_fit (fit_open state.block (length words)) refl
  where
    by_fit : (b : Bool) → fit_open state.block (length words) ≡ b → IsSoundAt next
    by_fit true h = let f = rw h at e in rw (← goes (Outside (closed_with state words)) next f) (sound_closed_with state words at h s)
    by_fit false h = let f = rw h at e in absurd cc

step_sound : (place : Place) (n : ℕ) (line : List ℕ) (next : Place) → step place n line ≡ Goes next → IsSoundAt place → IsSoundAt next
step_sound (Outside state) n line next e s = outside_goes_on state n line (broken_by state line) next refl e s
step_sound (InBlock state header block) n line next e s = by_end (is_end (fields_of line)) refl
  where
    by_end : (b : Bool) → is_end (fields_of line) ≡ b → IsSoundAt next
    by_end true h = let f = rw h at e in block_closes state header n (reading_of_lines block) next f s.0 s.1
    by_end false h = let f = rw h at e in rw (← goes (InBlock state header (block ++ line ∷ [])) next f) s

-- ---- a text

-- the system of a state after a root
record Comes (system : System) : Type 0 where
  state : State
  sound : IsSound state
  rooted : 6 ≤ rank state.stage
  same : state.system ≡ system

after_root : (stage : Stage) → may_end stage ≡ true → 6 ≤ rank stage
after_root Start h = absurd cc
after_root AfterClusters h = absurd cc
after_root AfterPager h = absurd cc
after_root AfterSyncreads h = absurd cc
after_root Images h = absurd cc
after_root InImage h = absurd cc
after_root Roots h = omega arith
after_root Chans h = omega arith

abbrev system_in : System → Answer → System
system_in d (Ok system) = system
system_in d (Err refused) = d

ended_comes : (state : State) (n : ℕ) (system : System) → ended state.stage state.system n ≡ Ok system → IsSound state → Comes system
ended_comes state n system e s = by_end (may_end state.stage) refl
  where
    by_end : (b : Bool) → may_end state.stage ≡ b → Comes system
    by_end true h = let f = rw h at e in record { state = state; sound = s; rooted = after_root state.stage h; same = ap (system_in system) f }
    by_end false h = let f = rw h at e in absurd cc

block_never_ends : (n : ℕ) (lines : List (List ℕ)) (system : System) → ended_in_block n lines ≡ Ok system → ⊥
block_never_ends n [] system e = absurd cc
block_never_ends n (line ∷ lines) system e = by_line (λ f. block_never_ends (n + 1) lines system f) (are_printable line) refl
  where
    by_line : (ended_in_block (n + 1) lines ≡ Ok system → ⊥) → (b : Bool) → are_printable line ≡ b → ⊥
    by_line next true h = let f = rw h at e in next f
    by_line next false h = let f = rw h at e in absurd cc

comes : (lines : List (List ℕ)) (place : Place) (n : ℕ) (system : System) → reading_from place n lines ≡ Ok system → IsSoundAt place → Comes system
comes [] (Outside state) n system e s = ended_comes state n system e s
comes [] (InBlock state header block) n system e s = absurd (block_never_ends header block system e)
comes (line ∷ lines) place n system e s = by_step (λ next f t. comes lines next (n + 1) system f t) (step place (n + 1) line) refl
  where
    by_step : ((next : Place) → reading_from next (n + 1) lines ≡ Ok system → IsSoundAt next → Comes system) → (x : Step) → step place (n + 1) line ≡ x → Comes system
    by_step go (Goes next) h = let f = rw h at e in go next f (step_sound place (n + 1) line next h s)
    by_step go (Refuses l rule) h = let f = rw h at e in absurd cc

-- ---- the rules of the whole

are_all_images : (images : List Image) → list_all is_shaped images ≡ true → have_words images ≡ true → list_all is_image images ≡ true
are_all_images [] h w = refl
are_all_images (image ∷ images) h w =
    both _ _ (both _ _ (first_of_two (is_shaped image) _ h) (first_of_two (list_all is_word image.words) _ w)) (are_all_images images (second_of_two (is_shaped image) _ h) (second_of_two (list_all is_word image.words) _ w))

is_a_root : (clusters images : ℕ) (root : Root) → is_placed clusters images root ≡ true → nat_lt root.image 18446744073709551616 ≡ true → is_root clusters images root ≡ true
is_a_root clusters images root h w =
    let p = is_pair clusters root.home root.backup in
    let l = is_within 1 100000 root.limit in
    let b = nat_le root.births 31 in
    let t = nat_le root.tty 15 in
    let i = nat_lt root.image images in
    let pilb = first_of_two (p && i && l && b) t h in
    let pil = first_of_two (p && i && l) b pilb in
    let pi = first_of_two (p && i) l pil in
    both _ _ (both _ _ (both _ _ (both _ _ (first_of_two p i pi) (both _ _ (second_of_two p i pi) w)) (second_of_two (p && i) l pil)) (second_of_two (p && i && l) b pilb)) (second_of_two (p && i && l && b) t h)

are_all_roots : (clusters images : ℕ) (roots : List Root) → list_all (is_placed clusters images) roots ≡ true → have_numbers roots ≡ true → list_all (is_root clusters images) roots ≡ true
are_all_roots clusters images [] h w = refl
are_all_roots clusters images (root ∷ roots) h w =
    both _ _ (is_a_root clusters images root (first_of_two (is_placed clusters images root) _ h) (first_of_two (nat_lt root.image 18446744073709551616) _ w))
    (are_all_roots clusters images roots (second_of_two (is_placed clusters images root) _ h) (second_of_two (nat_lt root.image 18446744073709551616) _ w))

all_of : (p : ℕ → Bool) → ((n : ℕ) → p n ≡ true) → (xs : List ℕ) → list_all p xs ≡ true
all_of p h [] = refl
all_of p h (x ∷ xs) = both _ _ (h x) (all_of p h xs)

sound_system : (state : State) → IsSound state → 6 ≤ rank state.stage → have_words state.system.images ≡ true → have_numbers state.system.roots ≡ true → is_system state.system ≡ true
sound_system state s r words numbers =
    let system = state.system in
    let header = both _ _ (both _ _ (both _ _ (s.clusters (omega (arith, r))) (s.pager (omega (arith, r)))) (s.reads (omega (arith, r)))) (s.steps (omega (arith, r))) in
    let images : are_images system.images ≡ true = both _ _ (are_all_images system.images s.images words) s.once in
    let roots : are_roots system.clusters (length system.images) system.roots ≡ true =
    both _ _ (both _ _ (le-leb 1 (length system.roots) (s.some r)) (le-leb (length system.roots + births_of system.roots) 32 s.few)) (are_all_roots system.clusters (length system.images) system.roots s.roots numbers) in
    let chans : are_chans (length system.roots) system.chans ≡ true =
    both _ _ s.chans (all_of (λ root. nat_le (links system.chans root) 31) (λ root. le-leb (links system.chans root) 31 (s.linked root)) (range_with_len 1 (length system.roots))) in
    both _ _ (both _ _ (both _ _ header images) roots) chans

pub system_is_valid : (text : List ℕ) (system : System) → reading_of text ≡ Ok system → have_words system.images ≡ true → have_numbers system.roots ≡ true → is_system system ≡ true
unfolding system_of_lines
system_is_valid text system e words numbers =
    let c = comes (lines_of text) (Outside nothing_yet) 0 system e nothing_is_sound in
    rw (← c.same) (sound_system c.state c.sound c.rooted (rw c.same words) (rw c.same numbers))
