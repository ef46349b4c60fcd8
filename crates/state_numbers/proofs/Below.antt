-- Lists of numbers that are all below a bound.
use Rattle.std.proofs.Common.{ℕ, zero, suc, ◌^◌, ◌<◌, arith, List, [], ◌∷◌, ◌++◌, take, drop, replicate, slice_index, slice_set}
use Rattle.byteorder.specs.Endian.{little_bytes, little_number}
use Rattle.std.specs.Int.{byte_at, bytes_low_first}
use Rattle.state_numbers.specs.Fits.{AllBelow, AreBytes}

module _ (b : ℕ) where
  pub below_index : (xs : List ℕ) (i : ℕ) → 0 < b → AllBelow b xs → slice_index xs i < b
  below_index [] i pos all = pos
  below_index (x ∷ xs) zero pos all = all.0
  below_index (x ∷ xs) (suc i) pos all = below_index xs i pos all.1

  pub below_set : (xs : List ℕ) (i v : ℕ) → v < b → AllBelow b xs → AllBelow b (slice_set xs i v)
  below_set [] i v less all = tt
  below_set (x ∷ xs) zero v less all = (less, all.1)
  below_set (x ∷ xs) (suc i) v less all = (all.0, below_set xs i v less all.1)

  pub below_take : (n : ℕ) (xs : List ℕ) → AllBelow b xs → AllBelow b (take n xs)
  below_take zero xs all = tt
  below_take (suc n) [] all = tt
  below_take (suc n) (x ∷ xs) all = (all.0, below_take n xs all.1)

  pub below_drop : (n : ℕ) (xs : List ℕ) → AllBelow b xs → AllBelow b (drop n xs)
  below_drop zero xs all = all
  below_drop (suc n) [] all = tt
  below_drop (suc n) (x ∷ xs) all = below_drop n xs all.1

  pub below_append : (xs ys : List ℕ) → AllBelow b xs → AllBelow b ys → AllBelow b (xs ++ ys)
  below_append [] ys all rest = rest
  below_append (x ∷ xs) ys all rest = (all.0, below_append xs ys all.1 rest)

  pub below_replicate : (n v : ℕ) → v < b → AllBelow b (replicate n v)
  below_replicate zero v less = tt
  below_replicate (suc n) v less = (less, below_replicate n v less)

-- ---- bytes

byte_below : (i n : ℕ) → byte_at i n < 256
byte_below zero n = omega arith
byte_below (suc i) n = omega arith

from_below : (i k n : ℕ) → AreBytes (bytes_low_first i k n)
from_below i zero n = tt
from_below i (suc k) n = (byte_below i n, from_below (suc i) k n)

pub little_below : (k n : ℕ) → AreBytes (little_bytes k n)
little_below k n = from_below 0 k n

-- a number of so many bytes
pub one_byte : (xs : List ℕ) → AreBytes xs → little_number 1 xs < 2 ^ 32
one_byte xs all = let a = below_index 256 xs 0 (omega arith) all in omega (arith, a)

pub two_bytes : (xs : List ℕ) → AreBytes xs → little_number 2 xs < 2 ^ 32
two_bytes xs all =
    let a = below_index 256 xs 0 (omega arith) all in
    let b = below_index 256 xs 1 (omega arith) all in
    omega (arith, a, b)

pub four_bytes : (xs : List ℕ) → AreBytes xs → little_number 4 xs < 2 ^ 32
four_bytes xs all =
    let a = below_index 256 xs 0 (omega arith) all in
    let b = below_index 256 xs 1 (omega arith) all in
    let c = below_index 256 xs 2 (omega arith) all in
    let d = below_index 256 xs 3 (omega arith) all in
    omega (arith, a, b, c, d)
