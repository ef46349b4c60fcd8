-- The canonical text of a system that keeps the rules is read as this system.
use Rattle.std.proofs.Common.{◌≡◌, ℕ, ◌+◌, ◌<◌, ◌≤◌, ◌^◌, Bool, true, false, ◌&&◌, ◌||◌, cond, eqb, leb, List, [], ◌∷◌, ◌++◌, length, map, Some, None, Ok, refl, sym, ap, ◌∙◌, arith, append_assoc, append-nil}
use Rattle.std.specs.List.{flat_map, list_all}
use Rattle.std.specs.Prelude.{codes}
use Rattle.std.specs.Fmt.{decimal}
use Rattle.std.proofs.lemmas.Bool.{lt-leb, or_right}
use Rattle.std.proofs.lemmas.Bool.Decides.{nat_tests}
use Rattle.std.proofs.lemmas.List.Sums.{sum_by-cons, sum_by-append}
use Rattle.text_parts.specs.Numbers.{number_of}
use Rattle.sys_text.specs.declared.stage.Keyword.TheVariants as keywords
use Rattle.sys_text.specs.declared.stage.Stage.{Stage}
use Rattle.sys_text.specs.declared.stage.Stage.TheVariants.{Roots, Chans}
use Rattle.sys_text.specs.declared.system.System.{System}
use Rattle.sys_text.specs.declared.state.State.{State}
use Rattle.sys_text.specs.Valid.{is_chan, links, is_system}
use Rattle.sys_text.specs.Line as lines
use Rattle.sys_text.specs.Rules.{keyword_in, is_full, has_root, add}
use Rattle.sys_text.specs.Reading.{Outside, may_end, nothing_yet, reading_from, system_of_lines, reading_of}
use Rattle.sys_text.specs.Text.{chan_line, root_line, image_lines, header_lines, system_lines, system_text}
use Rattle.sys_text.proofs.Bounds.{first_of_two, second_of_two, tests, system_bounds, link_bounds}
use Rattle.sys_text.proofs.Keeping.{Keeps}
use Rattle.sys_text.proofs.Printed.{both, lines_printed}
use Rattle.sys_text.proofs.Headed.{with_lists, at_images, number_again, plain_number, leads_header}
use Rattle.sys_text.proofs.Imaged.{leads_all_images}
use Rattle.sys_text.proofs.Rooted.{at_roots, leads_all_roots}
use Rattle.sys_text.proofs.Leading.{Leads, Ends, leads_one, leads_to_end}

-- ---- a channel

abbrev at_chans : Stage → System → List (ℕ × ℕ) → State
at_chans stage s done = record { stage = stage; system = with_lists s s.images s.roots done; block = None; file = None }

record ChanParts (s : System) (chan : ℕ × ℕ) : Type 0 where
  first : has_root s chan.0 ≡ true
  second : has_root s chan.1 ≡ true
  apart : eqb chan.0 chan.1 ≡ false
  least_first : 1 ≤ chan.0
  most_first : chan.0 ≤ length s.roots
  least_second : 1 ≤ chan.1
  most_second : chan.1 ≤ length s.roots

chan_parts : (s : System) (chan : ℕ × ℕ) → is_chan (length s.roots) chan ≡ true → ChanParts s chan
chan_parts s chan h = record {
  first = first_of_two (has_root s chan.0) (has_root s chan.1) (first_of_two (has_root s chan.0 && has_root s chan.1) _ h);
  second = second_of_two (has_root s chan.0) (has_root s chan.1) (first_of_two (has_root s chan.0 && has_root s chan.1) _ h);
  apart = grind (arith, nat_tests);
  least_first = grind (arith, nat_tests);
  most_first = grind (arith, nat_tests);
  least_second = grind (arith, nat_tests);
  most_second = grind (arith, nat_tests);
}

keeps_chan : (state : State) (f g : List ℕ) (a b : ℕ) → number_of f ≡ Some a → number_of g ≡ Some b → eqb a b ≡ false → has_root state.system a ≡ true → has_root state.system b ≡ true → is_full state.system a ≡ false → is_full state.system b ≡ false
    → Keeps state keywords.Chan (f ∷ g ∷ [])
keeps_chan state f g a b e1 e2 apart first second free_a free_b = record { line = lines.Chan a b; read = rw (e1, e2) refl; rules = record { limits = refl; same = apart; name = rw (first, second) refl; room = rw (free_a, free_b) refl }; file = refl }

adds_chan : (stage : Stage) (s : System) (done : List (ℕ × ℕ)) (chan : ℕ × ℕ) (f g : List ℕ) → number_of f ≡ Some chan.0 → number_of g ≡ Some chan.1 → add (at_chans stage s done) keywords.Chan (f ∷ g ∷ []) ≡ at_chans Chans s (done ++ chan ∷ [])
adds_chan stage s done chan f g e1 e2 = rw (e1, e2) refl

-- ---- its ends

links-cons : (chan : ℕ × ℕ) (rest : List (ℕ × ℕ)) (root : ℕ) → links (chan ∷ rest) root ≡ cond (eqb chan.0 root || eqb chan.1 root) 1 0 + links rest root
links-cons chan rest root = sum_by-cons (λ (c : ℕ × ℕ). cond (eqb c.0 root || eqb c.1 root) 1 0) chan rest

links-append : (done rest : List (ℕ × ℕ)) (root : ℕ) → links (done ++ rest) root ≡ links done root + links rest root
links-append done rest root = sum_by-append (λ (c : ℕ × ℕ). cond (eqb c.0 root || eqb c.1 root) 1 0) done rest

links_more : (done : List (ℕ × ℕ)) (chan : ℕ × ℕ) (rest : List (ℕ × ℕ)) (root : ℕ) → (eqb chan.0 root || eqb chan.1 root) ≡ true → links (done ++ chan ∷ rest) root ≤ 31 → leb 31 (links done root) ≡ false
links_more done chan rest root e few =
    let here : links (chan ∷ rest) root ≡ 1 + links rest root = links-cons chan rest root ∙ ap (λ b. cond b 1 0 + links rest root) e in
    lt-leb 31 (links done root) (omega (arith, here, links-append done (chan ∷ rest) root, few))

same_number : (a : ℕ) → eqb a a ≡ true
same_number a = grind (arith, nat_tests)

or_first : (a b : Bool) → a ≡ true → (a || b) ≡ true
or_first a b h = rw h refl

free : (s : System) (done : List (ℕ × ℕ)) (chan : ℕ × ℕ) (rest : List (ℕ × ℕ)) (root : ℕ) → is_system s ≡ true → done ++ chan ∷ rest ≡ s.chans → 1 ≤ root → root ≤ length s.roots → (eqb chan.0 root || eqb chan.1 root) ≡ true → leb 31 (links done root) ≡ false
free s done chan rest root h e low high linked =
    let few : links (done ++ chan ∷ rest) root ≤ 31 = rw e (link_bounds s root h low high) in
    links_more done chan rest root linked few

leads_chan : (stage : Stage) (s : System) (done : List (ℕ × ℕ)) (chan : ℕ × ℕ) (rest : List (ℕ × ℕ)) → keyword_in stage (codes "chan") ≡ Some keywords.Chan → is_system s ≡ true → done ++ chan ∷ rest ≡ s.chans → is_chan (length s.roots) chan ≡ true
    → Leads (at_chans stage s done) (chan_line chan ∷ []) (at_chans Chans s (done ++ chan ∷ []))
leads_chan stage s done chan rest key h e ok =
    let p = chan_parts s chan ok in
    let b = system_bounds s h in
    let small_first : chan.0 < 2 ^ 32 = omega (arith, p.most_first, b.roots) in
    let small_second : chan.1 < 2 ^ 32 = omega (arith, p.most_second, b.roots) in
    let first = number_again chan.0 small_first in
    let second = number_again chan.1 small_second in
    let free_first = free s done chan rest chan.0 h e p.least_first p.most_first (or_first (eqb chan.0 chan.0) (eqb chan.1 chan.0) (same_number chan.0)) in
    let free_second = free s done chan rest chan.1 h e p.least_second p.most_second (or_right (eqb chan.0 chan.1) (eqb chan.1 chan.1) (same_number chan.1)) in
    leads_one (at_chans stage s done) (at_chans Chans s (done ++ chan ∷ [])) keywords.Chan (codes "chan") (decimal chan.0 ∷ decimal chan.1 ∷ []) (both _ _ refl (both _ _ (plain_number chan.0 small_first) (both _ _ (plain_number chan.1 small_second) refl))) refl key refl
    (keeps_chan (at_chans stage s done) (decimal chan.0) (decimal chan.1) chan.0 chan.1 first second p.apart p.first p.second free_first free_second) (adds_chan stage s done chan (decimal chan.0) (decimal chan.1) first second)

-- ---- all channels, and the end of the text

ends_here : (state : State) (n : ℕ) → may_end state.stage ≡ true → reading_from (Outside state) n [] ≡ Ok state.system
ends_here state n e = rw e refl

ends_chans : (stage : Stage) (s : System) (done rest : List (ℕ × ℕ)) → keyword_in stage (codes "chan") ≡ Some keywords.Chan → may_end stage ≡ true → is_system s ≡ true → done ++ rest ≡ s.chans → list_all (is_chan (length s.roots)) rest ≡ true
    → Ends (at_chans stage s done) (map chan_line rest) (with_lists s s.images s.roots s.chans)
ends_chans stage s done [] key end h e ok =
    let all : done ≡ s.chans = sym (append-nil done) ∙ e in
    record { plain = refl; reads = λ n. ends_here (at_chans stage s done) n end ∙ ap (λ cs. Ok (with_lists s s.images s.roots cs)) all }
ends_chans stage s done (chan ∷ rest) key end h e ok =
    let one = leads_chan stage s done chan rest key h e (first_of_two (is_chan (length s.roots) chan) _ ok) in
    let more = ends_chans Chans s (done ++ chan ∷ []) rest refl refl h (append_assoc done (chan ∷ []) rest ∙ e) (second_of_two (is_chan (length s.roots) chan) _ ok) in
    leads_to_end (at_chans stage s done) (at_chans Chans s (done ++ chan ∷ [])) (chan_line chan ∷ []) (map chan_line rest) (with_lists s s.images s.roots s.chans) one more

-- ---- the whole

ends_all : (s : System) → is_system s ≡ true → Ends nothing_yet (header_lines s ++ (flat_map image_lines s.images ++ (map (root_line s.images) s.roots ++ map chan_line s.chans))) s
ends_all s h =
    let chans = ends_chans Roots s [] s.chans refl refl h refl (first_of_two (list_all (is_chan (length s.roots)) s.chans) _ (tests s h).chans) in
    let roots = leads_to_end (at_images s s.images) (at_roots Roots s s.roots) (map (root_line s.images) s.roots) (map chan_line s.chans) s (leads_all_roots s h) chans in
    let images = leads_to_end (at_images s []) (at_images s s.images) (flat_map image_lines s.images) (map (root_line s.images) s.roots ++ map chan_line s.chans) s (leads_all_images s (tests s h).images) roots in
    leads_to_end nothing_yet (at_images s []) (header_lines s) (flat_map image_lines s.images ++ (map (root_line s.images) s.roots ++ map chan_line s.chans)) s (leads_header s h) images

all_lines : (s : System) → is_system s ≡ true → Ends nothing_yet (system_lines s) s
unfolding system_lines
all_lines s h = ends_all s h

pub reads_back : (s : System) → is_system s ≡ true → reading_of (system_text s) ≡ Ok s
unfolding system_of_lines
reads_back s h =
    let e = all_lines s h in
    ap (reading_from (Outside nothing_yet) 0) (lines_printed (system_lines s) e.plain) ∙ e.reads 0
