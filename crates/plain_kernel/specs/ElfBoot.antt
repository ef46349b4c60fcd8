-- A root whose image is that of an ELF file.
use Rattle.std.specs.Prelude.{◌≡◌, ℕ, List}
use Rattle.rv_elf.specs.File.{entry}
use Rattle.rv_elf.specs.Loaded.{loaded}
use Rattle.proc_state.specs.State.{ProcState}

-- the process has exactly the loaded memory of the file, and its first instruction is the one at the file's entry
pub record BootsFile (file : List ℕ) (pages : ℕ) (process : ProcState) : Type 0 where
  pub memory : process.memory ≡ loaded file pages
  pub pc : ((process.small).regs).pc ≡ entry file
  pub pages_are : (process.small).pages ≡ pages
