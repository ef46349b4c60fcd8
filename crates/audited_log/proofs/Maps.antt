-- What is kept at a number of a map, where one is written, comes or goes.
use Rattle.std.proofs.Common.{◌≡◌, ℕ, ap, arith, List, true, false, eqb, Some}
use Rattle.std.specs.Map.{set_value}
use Rattle.std.specs.Ordering.{is_eq}
use Rattle.std.proofs.lemmas.Bool.Decides.{nat_tests}
use Rattle.t32_base.specs.declared.process.Pid.{Pid}
use Rattle.plain_kernel.specs.Maps.{at_key}
use Rattle.plain_kernel.proofs.Entries.{tied, written_other, written_there}
use Rattle.audited_process.specs.declared.audited.Audited.{Audited}
use Rattle.audited_log.specs.Processes.{kept_at}

-- ---- which number it is

pub key_same : (n m : ℕ) → at_key n m ≡ true → n ≡ m
key_same n m is = grind (arith, nat_tests)

pub key_other : (n m : ℕ) → eqb n m ≡ false → at_key n m ≡ false
key_other n m is = grind (arith, nat_tests)

pub same_key : (n m : ℕ) → eqb n m ≡ true → at_key n m ≡ true
same_key n m is = grind (arith, nat_tests)

pub key_itself : (n : ℕ) → at_key n n ≡ true
key_itself n = ap is_eq (tied n)

-- ---- one is written

pub here : (p : Pid) (processes : List (ℕ × Audited)) (old new : Audited) → kept_at processes p ≡ Some old → kept_at (set_value (at_key p.0) processes new) p ≡ Some new
here p processes old new there = written_there (at_key p.0) processes old new there

pub elsewhere : (p q : Pid) (processes : List (ℕ × Audited)) (new : Audited) → at_key p.0 q.0 ≡ false → kept_at (set_value (at_key p.0) processes new) q ≡ kept_at processes q
elsewhere p q processes new other = written_other p.0 q.0 processes new other

pub other_number : (n m : ℕ) → at_key n m ≡ false → eqb n m ≡ false
other_number n m is = grind (arith, nat_tests)
