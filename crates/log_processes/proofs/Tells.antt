-- A line tells of what a process sent where its printed part is that of the line.
use Rattle.std.proofs.Common.{◌≡◌, ℕ, refl, sym, ◌∙◌, ap, List, Bool, true, ◌&&◌, eqb, eqb-true, eq-eqb, true≢false}
use Rattle.std.specs.Str.{bytes_eq}
use Rattle.std.proofs.lemmas.Bool.{and_parts, and_from}
use Rattle.std.proofs.lemmas.Slice.Eq.{bytes_eq-Decides}
use Rattle.t32_base.specs.declared.process.Pid.{Pid}
use Rattle.t32_base.specs.declared.process.End.{End}
use Rattle.t32_base.specs.declared.process.End.TheVariants.{Exit, Trap, Killed, Limit}
use Rattle.t32_base.specs.declared.letter.Letter.{Letter}
use Rattle.t32_base.specs.declared.letter.Body.{Body}
use Rattle.t32_base.specs.declared.letter.Body.TheVariants.{Said, EndOf, Signal}
use Rattle.t32_base.specs.declared.letter.To.{To}
use Rattle.t32_base.specs.declared.letter.To.TheVariants.{Proc, Tty}
use Rattle.bus_msg.specs.Text.{bytes_said}
use Rattle.entry_lines.specs.declared.told.ToldEnd.{ToldEnd}
use Rattle.entry_lines.specs.declared.told.ToldEnd.TheVariants.{Exit as ToldExit, Trap as ToldTrap, Killed as ToldKilled, Limit as ToldLimit}
use Rattle.entry_lines.specs.declared.told.ToldLetter.{ToldLetter}
use Rattle.entry_lines.specs.declared.told.ToldLetter.TheVariants.{Shown, Said as ToldSaid, EndOf as ToldEndOf, Signal as ToldSignal}
use Rattle.entry_lines.specs.Told.{told_body, told_end, told_letter}
use Rattle.log_processes.specs.Telling.{is_at_end, is_at_process, is_at_tty, is_end_told, is_letter_told, says, says_end, says_signal}

-- ---- ends

pub end_is : (t : ToldEnd) (e : End) → is_end_told t e ≡ true → told_end e ≡ t
end_is (ToldExit n) (Exit s) is = ap ToldExit (sym (eqb-true n s is))
end_is (ToldTrap n) (Trap c) is = ap ToldTrap (sym (eqb-true n c is))
end_is (ToldKilled n) (Killed g) is = ap ToldKilled (sym (eqb-true n g is))
end_is ToldLimit Limit is = refl
end_is t e is = absurd (true≢false (sym is))

same_end : (e : End) → is_end_told (told_end e) e ≡ true
same_end (Exit s) = eq-eqb s s refl
same_end (Trap c) = eq-eqb c c refl
same_end (Killed g) = eq-eqb g g refl
same_end Limit = refl

pub is_end : (t : ToldEnd) (e : End) → told_end e ≡ t → is_end_told t e ≡ true
is_end t e same = ap (λ t. is_end_told t e) (sym same) ∙ same_end e

-- ---- letters

same_bytes : (bytes : List ℕ) → bytes_eq bytes bytes ≡ true
same_bytes bytes = (bytes_eq-Decides bytes bytes).1 refl

bytes_are : (a b : List ℕ) → bytes_eq a b ≡ true → a ≡ b
bytes_are a b is = (bytes_eq-Decides a b).0 is

all_three : (a b c : Bool) → a ≡ true → b ≡ true → c ≡ true → ((a && b) && c) ≡ true
all_three a b c x y z = λ i. (x i && y i) && z i

three_parts : (a b c : Bool) → ((a && b) && c) ≡ true → (a ≡ true) × (b ≡ true) × (c ≡ true)
three_parts a b c is =
    let last = and_parts (a && b) c is in
    let first = and_parts a b last.0 in
    (first.0, first.1, last.1)

pub letter_is : (t : ToldLetter) (l : Letter) → is_letter_told t l ≡ true → told_letter l l.to ≡ t
letter_is (Shown n tty bytes) l is =
    let all = three_parts (eqb n l.out) (is_at_tty tty l.to) (bytes_eq bytes (bytes_said l.body)) is in
    by_to (eqb-true n l.out all.0) (bytes_are bytes (bytes_said l.body) all.2) l.to all.1
  where
    by_to : n ≡ l.out → bytes ≡ bytes_said l.body → (to : To) → is_at_tty tty to ≡ true → told_letter l to ≡ Shown n tty bytes
    by_to out said (Tty t) at = let same : tty ≡ t = eqb-true tty t at in λ i. Shown (sym out i) (sym same i) (sym said i)
    by_to out said (Proc p e) at = absurd (true≢false (sym at))
letter_is (ToldSaid n pid end bytes) l is =
    let all = three_parts (eqb n l.out) (is_at_end pid end l.to) (says bytes l.body) is in
    by_to (eqb-true n l.out all.0) all.2 l.to all.1
  where
    by_body : (m p e : ℕ) → n ≡ m → pid ≡ p → end ≡ e → (b : Body) → says bytes b ≡ true → told_body m p e b ≡ ToldSaid n pid end bytes
    by_body m p e out at far (Said b) said = let same : bytes ≡ b = bytes_are bytes b said in λ i. ToldSaid (sym out i) (sym at i) (sym far i) (sym same i)
    by_body m p e out at far EndOf said = absurd (true≢false (sym said))
    by_body m p e out at far (Signal g) said = absurd (true≢false (sym said))

    by_to : n ≡ l.out → says bytes l.body ≡ true → (to : To) → is_at_end pid end to ≡ true → told_letter l to ≡ ToldSaid n pid end bytes
    by_to out said (Proc p e) at =
        let both = and_parts (eqb pid p.0) (eqb end e) at in
        by_body l.out p.0 e out (eqb-true pid p.0 both.0) (eqb-true end e both.1) l.body said
    by_to out said (Tty t) at = absurd (true≢false (sym at))
letter_is (ToldEndOf n pid end) l is =
    let all = three_parts (eqb n l.out) (is_at_end pid end l.to) (says_end l.body) is in
    by_to (eqb-true n l.out all.0) all.2 l.to all.1
  where
    by_body : (m p e : ℕ) → n ≡ m → pid ≡ p → end ≡ e → (b : Body) → says_end b ≡ true → told_body m p e b ≡ ToldEndOf n pid end
    by_body m p e out at far EndOf said = λ i. ToldEndOf (sym out i) (sym at i) (sym far i)
    by_body m p e out at far (Said b) said = absurd (true≢false (sym said))
    by_body m p e out at far (Signal g) said = absurd (true≢false (sym said))

    by_to : n ≡ l.out → says_end l.body ≡ true → (to : To) → is_at_end pid end to ≡ true → told_letter l to ≡ ToldEndOf n pid end
    by_to out said (Proc p e) at =
        let both = and_parts (eqb pid p.0) (eqb end e) at in
        by_body l.out p.0 e out (eqb-true pid p.0 both.0) (eqb-true end e both.1) l.body said
    by_to out said (Tty t) at = absurd (true≢false (sym at))
letter_is (ToldSignal pid n) l is =
    let both = and_parts (is_at_process pid l.to) (says_signal n l.body) is in
    by_to both.1 l.to both.0
  where
    by_body : (m p e : ℕ) → pid ≡ p → (b : Body) → says_signal n b ≡ true → told_body m p e b ≡ ToldSignal pid n
    by_body m p e at (Signal g) said = let same : n ≡ g = eqb-true n g said in λ i. ToldSignal (sym at i) (sym same i)
    by_body m p e at EndOf said = absurd (true≢false (sym said))
    by_body m p e at (Said b) said = absurd (true≢false (sym said))

    by_to : says_signal n l.body ≡ true → (to : To) → is_at_process pid to ≡ true → told_letter l to ≡ ToldSignal pid n
    by_to said (Proc p e) at = by_body l.out p.0 e (eqb-true pid p.0 at) l.body said
    by_to said (Tty t) at = absurd (true≢false (sym at))

same_letter : (l : Letter) (to : To) (body : Body) → l.to ≡ to → l.body ≡ body → is_letter_told (told_letter l to) l ≡ true
same_letter l (Tty t) body goes says_it =
    all_three (eqb l.out l.out) (is_at_tty t l.to) (bytes_eq (bytes_said l.body) (bytes_said l.body)) (eq-eqb l.out l.out refl) (ap (is_at_tty t) goes ∙ eq-eqb t t refl) (same_bytes (bytes_said l.body))
same_letter l (Proc p e) (Said b) goes says_it =
    ap (λ (x : Body). is_letter_told (told_body l.out p.0 e x) l) says_it
    ∙ all_three (eqb l.out l.out) (is_at_end p.0 e l.to) (says b l.body) (eq-eqb l.out l.out refl) (ap (is_at_end p.0 e) goes ∙ both p e) (ap (says b) says_it ∙ same_bytes b)
  where
    both : (p : Pid) (e : ℕ) → (eqb p.0 p.0 && eqb e e) ≡ true
    both p e = and_from (eqb p.0 p.0) (eqb e e) (eq-eqb p.0 p.0 refl) (eq-eqb e e refl)
same_letter l (Proc p e) EndOf goes says_it =
    ap (λ (x : Body). is_letter_told (told_body l.out p.0 e x) l) says_it
    ∙ all_three (eqb l.out l.out) (is_at_end p.0 e l.to) (says_end l.body) (eq-eqb l.out l.out refl) (ap (is_at_end p.0 e) goes ∙ both p e) (ap says_end says_it)
  where
    both : (p : Pid) (e : ℕ) → (eqb p.0 p.0 && eqb e e) ≡ true
    both p e = and_from (eqb p.0 p.0) (eqb e e) (eq-eqb p.0 p.0 refl) (eq-eqb e e refl)
same_letter l (Proc p e) (Signal g) goes says_it =
    ap (λ (x : Body). is_letter_told (told_body l.out p.0 e x) l) says_it
    ∙ and_from (is_at_process p.0 l.to) (says_signal g l.body) (ap (is_at_process p.0) goes ∙ eq-eqb p.0 p.0 refl) (ap (says_signal g) says_it ∙ eq-eqb g g refl)

pub is_letter : (t : ToldLetter) (l : Letter) → told_letter l l.to ≡ t → is_letter_told t l ≡ true
is_letter t l same = ap (λ t. is_letter_told t l) (sym same) ∙ same_letter l l.to l.body refl refl
