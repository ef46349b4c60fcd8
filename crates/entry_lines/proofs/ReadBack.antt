-- The guess of a line that says something is what it says.
use Rattle.std.proofs.Common.{◌≡◌, ℕ, Bool, false, if◌then◌else◌, List, [], ◌∷◌, ◌++◌, length, get_or, codes, Option, Some, None, refl, ap, sym, ◌∙◌, arith, append_assoc}
use Rattle.std.specs.Str.{bytes_eq}
use Rattle.std.specs.Fmt.{decimal}
use Rattle.std.specs.Char.{digit_value}
use Rattle.std.specs.Str.Parse.{AllDigits}
use Rattle.std.proofs.lemmas.Fmt.{decimal_is_IsNumeral}
use Rattle.std.proofs.lemmas.Bool.{false_from_ne_true}
use Rattle.std.proofs.lemmas.Slice.Eq.{bytes_eq-Decides}
use Rattle.hex.specs.Hex.{encode_lower, lower_digits, IsBytes}
use Rattle.hex.proofs.HexLemmas.{decode_of-encode_lower, length-encode_with}
use Rattle.text_parts.specs.Lines.{is_space, from}
use Rattle.bus_msg.specs.declared.entry.Cause.{Cause}
use Rattle.bus_msg.specs.declared.entry.Cause.TheVariants.{Place, Step, Disk}
use Rattle.bus_msg.specs.Text.{cause_text}
use Rattle.entry_lines.specs.declared.told.ToldBy.{ToldBy}
use Rattle.entry_lines.specs.declared.told.ToldBy.TheVariants.{Cluster, Bus}
use Rattle.entry_lines.specs.declared.told.ToldEnd.{ToldEnd}
use Rattle.entry_lines.specs.declared.told.ToldEnd.TheVariants.{Exit as Exited, Trap, Killed, Limit}
use Rattle.entry_lines.specs.declared.told.ToldLetter.{ToldLetter}
use Rattle.entry_lines.specs.declared.told.ToldLetter.TheVariants.{Shown, Said, EndOf, Signal}
use Rattle.entry_lines.specs.declared.told.ToldWhat.{ToldWhat}
use Rattle.entry_lines.specs.declared.told.ToldWhat.TheVariants.{Mail, Birth, Exit, Page, Sync, Fetch, PageIs, Crash, Return, Fresh, Standing, Done, Stop}
use Rattle.entry_lines.specs.declared.told.Told.{Told}
use Rattle.entry_lines.specs.Told.{IsSmall, ByFits, EndFits, LetterFits, CauseFits, TookFits, AllSmall, WhatFits, Fits}
use Rattle.entry_lines.specs.Text.{by_text, end_text, letter_text, took_text, spaced, what_text, text_of}
use Rattle.entry_lines.specs.Guess.{word, after, past, number_after, number, numbers_after, decoded, bytes_in, by_named, end_in, took_in, cause_in, body_in, sent_in, letter_in, birth_in, sync_in, crash_in, is_t, backup_in, rebackup_in, what_in, guess_of}
use Rattle.entry_lines.proofs.Words.{Without, word_spaced, after_spaced, before_first, from_first, clean, read_decimal, number_spaced, number_last, after_number, pids_ended, turned, clean_pids, numbers_read, without-append}

-- ---- a number, a word and more

-- what stands behind a number and the word after it
past_word : (n : ℕ) (w more : List ℕ) → IsSmall n → Without is_space w → past (decimal n ++ 32 ∷ (w ++ 32 ∷ more)) ≡ more
past_word n w more small h = ap after (after_number n (w ++ 32 ∷ more) small) ∙ after_spaced w more h

-- two numbers with a word between them, and what stands behind
abbrev pair : ℕ → List ℕ → ℕ → List ℕ → List ℕ
pair a w b more = decimal a ++ 32 ∷ (w ++ 32 ∷ (decimal b ++ 32 ∷ more))

two_back : {A : Type 0} (f : ℕ → ℕ → List ℕ → A) (a b : ℕ) (w more : List ℕ) → IsSmall a → IsSmall b → Without is_space w
    → f (number (pair a w b more)) (number (past (pair a w b more))) (after (past (pair a w b more))) ≡ f a b more
two_back f a b w more small small' h =
    let text = pair a w b more in
    let rest : List ℕ = decimal b ++ 32 ∷ more in
    ap (λ (n : ℕ). f n (number (past text)) (after (past text))) (number_spaced a (w ++ 32 ∷ rest) small)
    ∙ ap (λ (t : List ℕ). f a (number t) (after t)) (past_word a w rest small h)
    ∙ ap (λ (n : ℕ). f a n (after rest)) (number_spaced b more small')
    ∙ ap (f a b) (after_number b more small')

at_clean : Without is_space (codes "at")
at_clean = (refl, (refl, tt))

-- ---- parts

ending_back : (e : ToldEnd) → EndFits e → end_in (end_text e) ≡ e
ending_back (Exited s) h = ap Exited (number_last s h)
ending_back (Trap c) h = ap Trap (number_last c h)
ending_back (Killed g) h = ap Killed (number_last g h)
ending_back Limit h = refl

bytes_back : (bytes : List ℕ) → IsBytes bytes → bytes_in (encode_lower bytes) ≡ bytes
bytes_back bytes h = ap decoded (decode_of-encode_lower bytes h)

-- digits stand for whole bytes, so they are no three
no_end : (bytes : List ℕ) → bytes_eq (encode_lower bytes) (codes "eof") ≡ false
no_end bytes = false_from_ne_true (bytes_eq (encode_lower bytes) (codes "eof")) (λ e.
    let same : length (encode_lower bytes) ≡ 3 = ap length ((bytes_eq-Decides (encode_lower bytes) (codes "eof")).0 e) in
    omega (arith, same, length-encode_with lower_digits bytes))

-- the letter to end e of process q, behind the word `to`
abbrev carried : ℕ → ℕ → ℕ → List ℕ → ToldLetter
carried out q e text = if bytes_eq text (codes "eof") then EndOf out q e else Said out q e (bytes_in text)

end_clean : Without is_space (codes "end")
end_clean = (refl, (refl, (refl, tt)))

body_back : (out q e : ℕ) (text : List ℕ) → IsSmall q → IsSmall e → body_in out (decimal q ++ (codes " end " ++ (decimal e ++ (codes " " ++ text)))) ≡ carried out q e text
body_back out q e text small small' = two_back (carried out) q e (codes "end") text small small' end_clean

-- the letter behind the word `out`, by what stands behind its end
abbrev sent : List ℕ → List ℕ → ToldLetter
sent text rest = if bytes_eq (word rest) (codes "tty") then Shown (number text) (number (past text)) (bytes_in (after (past text))) else body_in (number text) (past text)

to_back : (out : ℕ) (text : List ℕ) → IsSmall out → sent_in (decimal out ++ (codes " to " ++ text)) ≡ body_in out text
to_back out text small =
    let all : List ℕ = decimal out ++ (codes " to " ++ text) in
    ap (sent all) (after_number out (codes "to " ++ text) small)
    ∙ ap (λ (n : ℕ). body_in n (past all)) (number_spaced out (codes "to " ++ text) small)
    ∙ ap (body_in out) (past_word out (codes "to") text small (refl, (refl, tt)))

tty_back : (out tty : ℕ) (text : List ℕ) → IsSmall out → IsSmall tty → sent_in (decimal out ++ (codes " tty " ++ (decimal tty ++ (codes " " ++ text)))) ≡ Shown out tty (bytes_in text)
tty_back out tty text small small' =
    let rest : List ℕ = codes "tty " ++ (decimal tty ++ (codes " " ++ text)) in
    let all : List ℕ = decimal out ++ 32 ∷ rest in
    ap (sent all) (after_number out rest small)
    ∙ two_back (λ (o t : ℕ) (more : List ℕ). Shown o t (bytes_in more)) out tty (codes "tty") text small small' (refl, (refl, (refl, tt)))

letter_back : (l : ToldLetter) → LetterFits l → letter_in (letter_text l) ≡ l
letter_back (Shown out tty bytes) h = tty_back out tty (encode_lower bytes) h.0 h.1 ∙ ap (Shown out tty) (bytes_back bytes h.2)
letter_back (Said out to end bytes) h =
    to_back out (decimal to ++ (codes " end " ++ (decimal end ++ (codes " " ++ encode_lower bytes)))) h.0
    ∙ body_back out to end (encode_lower bytes) h.1 h.2
    ∙ ap (λ (b : Bool). if b then EndOf out to end else Said out to end (bytes_in (encode_lower bytes))) (no_end bytes)
    ∙ ap (Said out to end) (bytes_back bytes h.3)
letter_back (EndOf out to end) h =
    to_back out (decimal to ++ (codes " end " ++ (decimal end ++ codes " eof"))) h.0
    ∙ body_back out to end (codes "eof") h.1 h.2
letter_back (Signal to signal) h =
    let text : List ℕ = decimal to ++ (codes " sig " ++ decimal signal) in
    ap (λ (n : ℕ). Signal n (number (past text))) (number_spaced to (codes "sig " ++ decimal signal) h.0)
    ∙ ap (λ (t : List ℕ). Signal to (number t)) (past_word to (codes "sig") (decimal signal) h.0 (refl, (refl, (refl, tt))))
    ∙ ap (Signal to) (number_last signal h.1)

-- ---- kinds

birth_back : (p s c e : ℕ) → IsSmall p → IsSmall s → IsSmall c → IsSmall e
    → birth_in (decimal p ++ (codes " at " ++ (decimal s ++ (codes " child " ++ (decimal c ++ (codes " end " ++ decimal e)))))) ≡ Birth p s c e
birth_back p s c e hp hs hc he =
    let third : List ℕ = decimal c ++ (codes " end " ++ decimal e) in
    let second : List ℕ = decimal s ++ (codes " child " ++ third) in
    let text : List ℕ = decimal p ++ (codes " at " ++ second) in
    ap (λ (n : ℕ). Birth n (number (past text)) (number (past (past text))) (number (past (past (past text))))) (number_spaced p (codes "at " ++ second) hp)
    ∙ ap (λ (t : List ℕ). Birth p (number t) (number (past t)) (number (past (past t)))) (past_word p (codes "at") second hp at_clean)
    ∙ ap (λ (n : ℕ). Birth p n (number (past second)) (number (past (past second)))) (number_spaced s (codes "child " ++ third) hs)
    ∙ ap (λ (t : List ℕ). Birth p s (number t) (number (past t))) (past_word s (codes "child") third hs (refl, (refl, (refl, (refl, (refl, tt))))))
    ∙ ap (λ (n : ℕ). Birth p s n (number (past third))) (number_spaced c (codes "end " ++ decimal e) hc)
    ∙ ap (λ (t : List ℕ). Birth p s c (number t)) (past_word c (codes "end") (decimal e) hc end_clean)
    ∙ ap (Birth p s c) (number_last e he)

sync_back : (p s : ℕ) (t : Option ℕ) → IsSmall p → IsSmall s → TookFits t → sync_in (decimal p ++ (codes " at " ++ (decimal s ++ took_text t))) ≡ Sync p s t
sync_back p s None hp hs h = two_back (λ (n m : ℕ) (more : List ℕ). Sync n m (took_in more)) p s (codes "at") (codes "plain") hp hs at_clean
sync_back p s (Some g) hp hs h =
    two_back (λ (n m : ℕ) (more : List ℕ). Sync n m (took_in more)) p s (codes "at") (codes "take " ++ decimal g) hp hs at_clean
    ∙ ap (λ (n : ℕ). Sync p s (Some n)) (number_last g h)

-- a number and a second one
pair_back : (f : ℕ → ℕ → ToldWhat) (a b : ℕ) → IsSmall a → IsSmall b → f (number (decimal a ++ spaced b)) (number (after (decimal a ++ spaced b))) ≡ f a b
pair_back f a b small small' =
    ap (λ (n : ℕ). f n (number (after (decimal a ++ spaced b)))) (number_spaced a (decimal b) small)
    ∙ ap (λ (t : List ℕ). f a (number t)) (after_number a (decimal b) small)
    ∙ ap (f a) (number_last b small')

lost_back : (k : ℕ) (text : List ℕ) → IsSmall k → crash_in (decimal k ++ 32 ∷ text) ≡ Crash k (cause_in text)
lost_back k text small =
    ap (λ (n : ℕ). Crash n (cause_in (after (decimal k ++ 32 ∷ text)))) (number_spaced k text small)
    ∙ ap (λ (t : List ℕ). Crash k (cause_in t)) (after_number k text small)

crash_back : (k : ℕ) (c : Cause) → IsSmall k → CauseFits c → crash_in (decimal k ++ cause_text c) ≡ Crash k c
crash_back k Place small h = lost_back k (codes "place") small
crash_back k (Step n) small h = lost_back k (codes "step " ++ decimal n) small ∙ ap (λ (m : ℕ). Crash k (Step m)) (number_last n h)
crash_back k (Disk n) small h = lost_back k (codes "disk " ++ decimal n) small ∙ ap (λ (m : ℕ). Crash k (Disk m)) (number_last n h)

-- pids, and then some bytes before a `t`
pids_back : (pids front rest : List ℕ) → AllSmall pids → Without is_t front → numbers_after 0 front ≡ []
    → rebackup_in (pids_ended pids ++ (front ++ 116 ∷ rest)) ≡ backup_in pids (116 ∷ rest)
pids_back pids front rest h clear none =
    let all : List ℕ = pids_ended pids ++ front in
    let without = without-append is_t (pids_ended pids) front (clean_pids pids h) clear in
    ap rebackup_in (sym (append_assoc (pids_ended pids) front (116 ∷ rest)))
    ∙ ap (λ (t : List ℕ). backup_in (numbers_after 0 t) (from is_t (all ++ 116 ∷ rest))) (before_first is_t all 116 rest without refl)
    ∙ ap (backup_in (numbers_after 0 all)) (from_first is_t all 116 rest without refl)
    ∙ ap (λ (ns : List ℕ). backup_in ns (116 ∷ rest)) (numbers_read pids front h none)

-- what follows the kind of a line
abbrev of_line : List ℕ → ToldWhat
of_line text = what_in (word text) (after text)

fresh_back : (pids : List ℕ) (s k : ℕ) → AllSmall pids → IsSmall s → IsSmall k → of_line (what_text (Fresh pids s k)) ≡ Fresh pids s k
fresh_back pids s k h hs hk =
    let rest : List ℕ = decimal k ++ codes " fresh" in
    let text : List ℕ = decimal s ++ (codes " to " ++ rest) in
    ap (λ (t : List ℕ). of_line (codes "rebackup" ++ t)) (turned pids (codes "at " ++ text))
    ∙ pids_back pids (97 ∷ []) (32 ∷ text) h (refl, tt) refl
    ∙ ap (λ (n : ℕ). Fresh pids n (number (past text))) (number_spaced s (codes "to " ++ rest) hs)
    ∙ ap (λ (t : List ℕ). Fresh pids s (number t)) (past_word s (codes "to") rest hs (refl, (refl, tt)))
    ∙ ap (Fresh pids s) (number_spaced k (codes "fresh") hk)

standing_back : (pids : List ℕ) (k : ℕ) → AllSmall pids → IsSmall k → of_line (what_text (Standing pids k)) ≡ Standing pids k
standing_back pids k h hk =
    ap (λ (t : List ℕ). of_line (codes "rebackup" ++ t)) (turned pids (codes "to " ++ (decimal k ++ codes " standing")))
    ∙ pids_back pids [] (codes "o " ++ (decimal k ++ codes " standing")) h tt refl
    ∙ ap (Standing pids) (number_spaced k (codes "standing") hk)

what_back : (w : ToldWhat) → WhatFits w → of_line (what_text w) ≡ w
what_back (Mail p s letter) h =
    two_back (λ (n m : ℕ) (more : List ℕ). Mail n m (letter_in more)) p s (codes "at") (letter_text letter) h.0 h.1 at_clean
    ∙ ap (Mail p s) (letter_back letter h.2)
what_back (Birth parent at child end) h = birth_back parent at child end h.0 h.1 h.2 h.3
what_back (Exit pid at end) h =
    two_back (λ (n m : ℕ) (more : List ℕ). Exit n m (end_in more)) pid at (codes "at") (end_text end) h.0 h.1 at_clean
    ∙ ap (Exit pid at) (ending_back end h.2)
what_back (Page pid at index) h =
    two_back (λ (n m : ℕ) (more : List ℕ). Page n m (number more)) pid at (codes "at") (decimal index) h.0 h.1 at_clean
    ∙ ap (Page pid at) (number_last index h.2)
what_back (Sync pid at took) h = sync_back pid at took h.0 h.1 h.2
what_back (Fetch pid index) h = pair_back Fetch pid index h.0 h.1
what_back (PageIs pid index) h = pair_back PageIs pid index h.0 h.1
what_back (Crash k cause) h = crash_back k cause h.0 h.1
what_back (Return k) h = ap Return (number_last k h)
what_back (Fresh pids at to) h = fresh_back pids at to h.0 h.1 h.2
what_back (Standing pids to) h = standing_back pids to h.0 h.1
what_back Done h = refl
what_back Stop h = refl

-- ---- who sent it

no_bus : (ds : List ℕ) → AllDigits 10 ds → bytes_eq ds (codes "bus") ≡ false
no_bus [] h = refl
no_bus (d ∷ ds) h = false_from_ne_true (bytes_eq (d ∷ ds) (codes "bus")) (λ e.
    let same : digit_value d ≡ digit_value 98 = ap (λ (xs : List ℕ). digit_value (get_or xs 0 0)) ((bytes_eq-Decides (d ∷ ds) (codes "bus")).0 e) in
    omega (arith, same, h.0))

by_clean : (b : ToldBy) → ByFits b → Without is_space (by_text b)
by_clean (Cluster k) h = clean k h
by_clean Bus h = (refl, (refl, (refl, tt)))

by_back : (b : ToldBy) → ByFits b → by_named (by_text b) ≡ b
by_back (Cluster k) h =
    ap (λ (t : Bool). if t then Bus else Cluster (number_after 0 (decimal k))) (no_bus (decimal k) (decimal_is_IsNumeral k h).0.1)
    ∙ ap Cluster (read_decimal k h)
by_back Bus h = refl

-- ---- the line

abbrev told : ℕ → ToldBy → ToldWhat → Told
told place by what = record { place = place; by = by; what = what }

pub guess_back : (t : Told) → Fits t → guess_of (text_of t) ≡ t
guess_back t h =
    let rest : List ℕ = by_text t.by ++ (codes " " ++ what_text t.what) in
    let line : List ℕ = decimal t.place ++ (codes " " ++ rest) in
    let name = by_clean t.by h.1 in
    ap (λ (n : ℕ). told n (by_named (word (after line))) (of_line (past line))) (number_spaced t.place rest h.0)
    ∙ ap (λ (r : List ℕ). told t.place (by_named (word r)) (of_line (after r))) (after_number t.place rest h.0)
    ∙ ap (λ (w : List ℕ). told t.place (by_named w) (of_line (after rest))) (word_spaced (by_text t.by) (what_text t.what) name)
    ∙ ap (λ (r : List ℕ). told t.place (by_named (by_text t.by)) (of_line r)) (after_spaced (by_text t.by) (what_text t.what) name)
    ∙ ap (λ (b : ToldBy). told t.place b (of_line (what_text t.what))) (by_back t.by h.1)
    ∙ ap (told t.place t.by) (what_back t.what h.2)

pub same_told : (t u : Told) → Fits t → Fits u → text_of t ≡ text_of u → t ≡ u
same_told t u h g e = sym (guess_back t h) ∙ ap guess_of e ∙ guess_back u g
