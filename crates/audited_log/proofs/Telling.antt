-- What the line of an entry tells of its kind.
use Rattle.std.proofs.Common.{◌≡◌, ℕ, refl, ◌∙◌, ap, [], ◌∷◌, Bool, true, false, ◌||◌, eqb, eq-eqb, Some, None, true≢false}
use Rattle.t32_base.specs.declared.process.Pid.{Pid}
use Rattle.t32_base.proofs.Facts.{or_false}
use Rattle.bus_msg.specs.declared.entry.What.{What}
use Rattle.bus_msg.specs.declared.entry.What.TheVariants.{Mail, Birth, Rebackup}
use Rattle.bus_msg.specs.Places.{same_pid}
use Rattle.cert_sched.specs.Deeds.{is_birth_of}
use Rattle.entry_lines.specs.declared.told.ToldWhat.{ToldWhat}
use Rattle.entry_lines.specs.declared.told.ToldWhat.TheVariants.{Birth as ToldBirth, Mail as ToldMail, Sync as ToldSync, Fresh as ToldFresh, Done as ToldDone}
use Rattle.entry_lines.specs.Told.{told_what}
use Rattle.line_laws.specs.Meant.{is_end}
use Rattle.audited_process.specs.Concerns.{goes_on, steps_by}
use Rattle.audited_process.specs.Leading.{is_going_told, is_step_told}
use Rattle.audited_log.specs.Named.{doer}

pub itself : (n : ℕ) → eqb n n ≡ true
itself n = eq-eqb n n refl

-- ---- who steps, and who goes on

pub step_told : (p : Pid) (w : What) → steps_by p w ≡ is_step_told p.0 (told_what w)
step_told p (Mail at letter) = or_false (same_pid letter.from p || false) ∙ or_false (same_pid letter.from p)
step_told p (Birth parent at child end) = or_false (same_pid parent p)
step_told p (Rebackup to true []) = refl
step_told p (Rebackup to true (r ∷ rs)) = refl
step_told p (Rebackup to false recs) = refl
step_told p _ = refl

pub going_told : (p : Pid) (w : What) → goes_on p w ≡ is_going_told p.0 (told_what w)
going_told p (Rebackup to true recs) = refl
going_told p (Rebackup to false recs) = refl
going_told p _ = refl

-- whoever is not the doer of a line does not step by its entry
pub only_doer : (w : ToldWhat) (n m : ℕ) → doer w ≡ Some n → eqb n m ≡ false → is_step_told m w ≡ false
only_doer (ToldMail from at letter) n m is other = ap (λ (k : ℕ). eqb k m) (same from n is) ∙ other
  where
    same : (a b : ℕ) → Some a ≡ Some b → a ≡ b
    same a b is = cc
only_doer (ToldBirth parent at child end) n m is other = ap (λ (k : ℕ). eqb k m) (same parent n is) ∙ other
  where
    same : (a b : ℕ) → Some a ≡ Some b → a ≡ b
    same a b is = cc
only_doer (ToldSync pid at took) n m is other = ap (λ (k : ℕ). eqb k m) (same pid n is) ∙ other
  where
    same : (a b : ℕ) → Some a ≡ Some b → a ≡ b
    same a b is = cc
only_doer (ToldFresh [] at to) n m is other = refl
only_doer (ToldFresh (pid ∷ pids) at to) n m is other = ap (λ (k : ℕ). eqb k m) (same pid n is) ∙ other
  where
    same : (a b : ℕ) → Some a ≡ Some b → a ≡ b
    same a b is = cc
only_doer _ n m is other = refl

-- and nobody steps by one that has none
pub none_steps : (w : ToldWhat) (m : ℕ) → doer w ≡ None → is_step_told m w ≡ false
none_steps (ToldMail from at letter) m none = cc
none_steps (ToldBirth parent at child end) m none = cc
none_steps (ToldSync pid at took) m none = cc
none_steps (ToldFresh [] at to) m none = refl
none_steps (ToldFresh (pid ∷ pids) at to) m none = cc
none_steps _ m none = refl

-- ---- births, and the end

abbrev pub is_birth_told : ToldWhat → Bool
is_birth_told (ToldBirth parent at child end) = true
is_birth_told _ = false

pub unborn : (w : What) → is_birth_told (told_what w) ≡ false → (p : Pid) → is_birth_of p w ≡ false
unborn (Birth parent at child end) other p = absurd (true≢false other)
unborn _ other p = refl

abbrev pub is_done_told : ToldWhat → Bool
is_done_told ToldDone = true
is_done_told _ = false

pub done_told : (w : What) → is_end w ≡ is_done_told (told_what w)
done_told (Rebackup to true recs) = refl
done_told (Rebackup to false recs) = refl
done_told _ = refl
