-- Which kinds of entries are what to a process.
use Rattle.std.proofs.Common.{◌≡◌, ℕ, refl, sym, ap, List, [], ◌∷◌, Bool, true, false, cond, not, ◌&&◌, ◌||◌, Option, Some, None, true≢false}
use Rattle.std.proofs.lemmas.Bool.{or_parts}
use Rattle.std.proofs.lemmas.Option.{same_Some}
use Rattle.t32_base.specs.declared.process.Pid.{Pid}
use Rattle.t32_base.specs.declared.letter.To.{To}
use Rattle.t32_base.specs.declared.letter.To.TheVariants.{Proc, Tty}
use Rattle.t32_base.proofs.Facts.{or_false}
use Rattle.bus_msg.specs.declared.entry.What.{What}
use Rattle.bus_msg.specs.declared.entry.What.TheVariants.{Mail, Birth, Exit, Page, Sync, Rebackup, Done}
use Rattle.bus_msg.specs.Places.{same_pid}
use Rattle.cert_sched.specs.Account.{is_exit_of}
use Rattle.cert_sched.specs.Deeds.{is_birth_of, is_cut, is_end_of, letter_for, to_process}
use Rattle.cert_sched.proofs.CameLaws.{same_of}
use Rattle.checkpoint_laws.specs.marks.Beside.{is_some_page}
use Rattle.entry_lines.specs.Told.{told_what}
use Rattle.log_processes.specs.Arrivals.{is_writer, leaves}
use Rattle.audited_process.specs.Concerns.{changes, forks, gets_letter, goes_on, page_sent, steps_by}
use Rattle.audited_process.specs.Leading.{is_letter_told, is_standing_told}

not_true : (b : Bool) → not b ≡ true → b ≡ false
not_true true is = absurd (true≢false (sym is))
not_true false is = refl

-- an entry that ends neither the process nor the run, and by which it is not born, does not fork and is not cut, leaves it
pub leaves_it : (p : Pid) (w : What) → goes_on p w ≡ true → is_cut p w ≡ false → forks p w ≡ false → is_birth_of p w ≡ false → leaves p w ≡ true
leaves_it p (Birth parent at child end) goes uncut unforked unborn = λ i. not (unforked i) && not (unborn i)
leaves_it p (Exit pid at end) goes uncut unforked unborn = goes
leaves_it p (Sync pid small read took) goes uncut unforked unborn = ap not uncut
leaves_it p (Rebackup to fresh recs) goes uncut unforked unborn = ap not uncut
leaves_it p (Done rests) goes uncut unforked unborn = goes
leaves_it p _ goes uncut unforked unborn = refl

pub no_exit : (p : Pid) (w : What) → goes_on p w ≡ true → is_exit_of p w ≡ false
no_exit p (Exit pid at end) goes = not_true (same_pid pid p) goes
no_exit p _ goes = refl

-- a fork of it brings no letter
pub fork_brings_none : (p : Pid) (w : What) → forks p w ≡ true → letter_for p w ≡ []
fork_brings_none p (Birth parent at child end) is = refl
fork_brings_none p _ is = absurd (true≢false (sym is))

-- nor does a cut
pub cut_brings_none : (p : Pid) (w : What) → is_cut p w ≡ true → letter_for p w ≡ []
cut_brings_none p (Sync pid small read took) is = refl
cut_brings_none p (Rebackup to fresh recs) is = refl
cut_brings_none p _ is = absurd (true≢false (sym is))

-- no letter that goes elsewhere comes
pub none_comes : (p : Pid) (w : What) → gets_letter p w ≡ false → letter_for p w ≡ []
none_comes p (Mail at letter) none = by_to letter.to none
  where
    by_to : (to : To) → is_end_of p to ≡ false → to_process p letter to ≡ []
    by_to (Proc q end) none = ap (λ b. cond b (letter ∷ []) []) none
    by_to (Tty t) none = refl
none_comes p _ none = refl

-- what does not change the process does not cut it, and brings it no letter
pub record Unchanged (p : Pid) (w : What) : Type 0 where
  pub uncut : is_cut p w ≡ false
  pub none : letter_for p w ≡ []

pub unchanged : (p : Pid) (w : What) → changes p w ≡ false → Unchanged p w
unchanged p w is =
    let parts = or_parts (steps_by p w) (gets_letter p w) is in
    record { uncut = (or_parts (is_writer p w || forks p w) (is_cut p w) parts.0).1; none = none_comes p w parts.1 }

-- who writes a letter neither forks nor is cut by it
pub writer_stays : (p : Pid) (w : What) → is_writer p w ≡ true → (forks p w || is_cut p w) ≡ false
writer_stays p (Mail at letter) is = refl
writer_stays p _ is = absurd (true≢false (sym is))

-- ---- pages

-- it is this page of the process
pub record IsPageOf (p : Pid) (w : What) (index at : ℕ) : Type 0 where
  pub bytes : List ℕ
  pub is : w ≡ Page p at index bytes

pub page_is : (p : Pid) (w : What) (index at : ℕ) → page_sent p w ≡ Some (index, at) → IsPageOf p w index at
page_is p (Page pid n i bytes) index at is = by_pid (same_pid pid p) refl is
  where
    by_pid : (b : Bool) → same_pid pid p ≡ b → cond {A = Option (ℕ × ℕ)} b (Some (i, n)) None ≡ Some (index, at) → IsPageOf p (Page pid n i bytes) index at
    by_pid true own said =
        let pair : (i, n) ≡ (index, at) = same_Some (i, n) (index, at) said in
        let me : pid ≡ p = same_of pid p own in
        record { bytes = bytes; is = λ j. Page (me j) ((pair j).1) ((pair j).0) bytes }
    by_pid false own said = cc
page_is p _ index at is = cc

pub no_page : (p : Pid) (w : What) → page_sent p w ≡ None → is_some_page p w ≡ false
no_page p (Page pid n i bytes) is = by_pid (same_pid pid p) is
  where
    by_pid : (b : Bool) → cond {A = Option (ℕ × ℕ)} b (Some (i, n)) None ≡ None → b ≡ false
    by_pid true said = cc
    by_pid false said = refl
no_page p _ is = refl

-- ---- what a line tells

pub letter_told : (p : Pid) (w : What) → is_writer p w ≡ is_letter_told p.0 (told_what w)
letter_told p (Rebackup to true recs) = refl
letter_told p (Rebackup to false recs) = refl
letter_told p _ = refl

pub standing_told : (p : Pid) (w : What) → (forks p w || is_cut p w) ≡ is_standing_told p.0 (told_what w)
standing_told p (Birth parent at child end) = or_false (same_pid parent p)
standing_told p (Rebackup to true []) = refl
standing_told p (Rebackup to true (r ∷ rs)) = refl
standing_told p (Rebackup to false recs) = refl
standing_told p _ = refl
