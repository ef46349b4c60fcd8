-- A memory that holds what its headers say, byte by byte.
use Rattle.std.proofs.Common.{◌≡◌, ℕ, ◌+◌, List, length, arith}
use Rattle.std.proofs.lemmas.List.FromFn.{fill_by_all}
use Rattle.rv_elf.specs.declared.headers.Header.{Header}
use Rattle.rv_elf.specs.Loaded.{byte_at, memory_of}
use Rattle.rv_elf.specs.Placing.{Holds}

-- such a memory is the one that the headers describe
pub filled : (file bytes : List ℕ) (headers : List Header) (size : ℕ) → length bytes ≡ size → Holds bytes file headers → bytes ≡ memory_of file headers size
filled file bytes headers size long holds = fill_by_all (λ k. byte_at file headers (0x10000 + k)) bytes size 0 long (λ k lt. holds k (omega (arith, lt, long)))
