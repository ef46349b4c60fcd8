-- What the answer of a load or a store tells of why it is refused.
use Rattle.std.proofs.Common.{◌≡◌, ℕ, List, Option, Some, None, Ok, Err, refl, sym, ap, ◌∙◌}
use Rattle.t32_base.specs.Registers.{Registers}
use Rattle.rv_mem.specs.declared.BadAddr.{BadAddr}
use Rattle.rv_mem.specs.declared.BadAddr.TheVariants.{Misaligned, OutOfRange}
use Rattle.byteorder.specs.Endian.{little_bytes}
use Rattle.rv_mem.specs.Memory.{number_at, refusal, unless, with_bytes}
use Rattle.rv_cpu.specs.Exec.{Executed, Steps, Traps, loads, onward, set_reg, stores, unless_refused}

pub made : {A : Type 0} (given value : A) (o : Option BadAddr) (low high : ℕ) (done : Executed) → Ok given ≡ unless o value → (unless_refused o low high done ≡ done) × (given ≡ value)
made given value None low high done is = (refl, cc)
made given value (Some bad) low high done is = absurd cc

pub misaligned : {A : Type 0} (addr : ℕ) (value : A) (o : Option BadAddr) (low high : ℕ) (done : Executed) → Err (Misaligned addr) ≡ unless o value → unless_refused o low high done ≡ Traps low
misaligned addr value None low high done is = absurd cc
misaligned addr value (Some (Misaligned a)) low high done is = refl
misaligned addr value (Some (OutOfRange a)) low high done is = absurd cc

pub outside : {A : Type 0} (addr : ℕ) (value : A) (o : Option BadAddr) (low high : ℕ) (done : Executed) → Err (OutOfRange addr) ≡ unless o value → unless_refused o low high done ≡ Traps high
outside addr value None low high done is = absurd cc
outside addr value (Some (Misaligned a)) low high done is = absurd cc
outside addr value (Some (OutOfRange a)) low high done is = refl

-- ---- a load from an address, by the answer of the memory at a number equal to it

pub loaded : (r : Registers) (m : List ℕ) (width rd at addr given : ℕ) (wide : ℕ → ℕ) → at ≡ addr → Ok given ≡ unless (refusal m at width) (number_at m at width)
    → loads r m width wide rd addr ≡ Steps (onward (set_reg r rd (wide given))) m
loaded r m width rd at addr given wide same is =
    let parts = made given (number_at m addr width) (refusal m addr width) 4 5 (Steps (onward (set_reg r rd (wide (number_at m addr width)))) m) (is ∙ ap (λ (a : ℕ). unless (refusal m a width) (number_at m a width)) same) in
    parts.0 ∙ ap (λ (n : ℕ). Steps (onward (set_reg r rd (wide n))) m) (sym parts.1)

pub load_misaligned : (r : Registers) (m : List ℕ) (width rd at addr bad : ℕ) (wide : ℕ → ℕ) → at ≡ addr → Err (Misaligned bad) ≡ unless (refusal m at width) (number_at m at width)
    → loads r m width wide rd addr ≡ Traps 4
load_misaligned r m width rd at addr bad wide same is =
    misaligned bad (number_at m addr width) (refusal m addr width) 4 5 (Steps (onward (set_reg r rd (wide (number_at m addr width)))) m) (is ∙ ap (λ (a : ℕ). unless (refusal m a width) (number_at m a width)) same)

pub load_outside : (r : Registers) (m : List ℕ) (width rd at addr bad : ℕ) (wide : ℕ → ℕ) → at ≡ addr → Err (OutOfRange bad) ≡ unless (refusal m at width) (number_at m at width)
    → loads r m width wide rd addr ≡ Traps 5
load_outside r m width rd at addr bad wide same is =
    outside bad (number_at m addr width) (refusal m addr width) 4 5 (Steps (onward (set_reg r rd (wide (number_at m addr width)))) m) (is ∙ ap (λ (a : ℕ). unless (refusal m a width) (number_at m a width)) same)

-- ---- and a store

pub stored : {A : Type 0} {u : A} (r : Registers) (m : List ℕ) (width value at addr : ℕ) → at ≡ addr → Ok u ≡ unless (refusal m at width) u
    → stores r m width value addr ≡ Steps (onward r) (with_bytes m addr (little_bytes width value))
stored {u = u} r m width value at addr same is =
    (made u u (refusal m addr width) 6 7 (Steps (onward r) (with_bytes m addr (little_bytes width value))) (is ∙ ap (λ (a : ℕ). unless (refusal m a width) u) same)).0

pub store_misaligned : {A : Type 0} (u : A) (r : Registers) (m : List ℕ) (width value at addr bad : ℕ) → at ≡ addr → Err (Misaligned bad) ≡ unless (refusal m at width) u → stores r m width value addr ≡ Traps 6
store_misaligned u r m width value at addr bad same is =
    misaligned bad u (refusal m addr width) 6 7 (Steps (onward r) (with_bytes m addr (little_bytes width value))) (is ∙ ap (λ (a : ℕ). unless (refusal m a width) u) same)

pub store_outside : {A : Type 0} (u : A) (r : Registers) (m : List ℕ) (width value at addr bad : ℕ) → at ≡ addr → Err (OutOfRange bad) ≡ unless (refusal m at width) u → stores r m width value addr ≡ Traps 7
store_outside u r m width value at addr bad same is =
    outside bad u (refusal m addr width) 6 7 (Steps (onward r) (with_bytes m addr (little_bytes width value))) (is ∙ ap (λ (a : ℕ). unless (refusal m a width) u) same)
