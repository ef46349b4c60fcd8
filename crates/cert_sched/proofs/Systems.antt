-- Systems for the worked logs, with their programs as words.
use Rattle.std.proofs.Common.{ℕ, List, [], ◌∷◌}
use Rattle.t32_base.specs.declared.process.ClusterNo.{ClusterNo}
use Rattle.t32_base.specs.declared.process.Mode.{Mode}
use Rattle.t32_base.specs.declared.process.Mode.TheVariants.{Quarter, Half, Full}
use Rattle.sys_text.specs.declared.system.System.{System}
use Rattle.sys_text.specs.declared.system.Image.{Image}
use Rattle.sys_text.specs.declared.system.Root.{Root}

abbrev pub cluster : ℕ → ClusterNo
cluster n = record { 0 = n }

-- one page with a program at its front
abbrev pub image : List ℕ → Image
image words = record { name = []; pages = 1; entry = 65536; words = words }

-- home, backup, mode and limit; no births, terminal 0
abbrev pub root : ℕ → ℕ → Mode → ℕ → Root
root home backup mode limit = record { home = cluster home; backup = cluster backup; mode = mode; image = 0; limit = limit; births = 0; tty = 0 }

-- so many clusters, of which two serve pages; the limit of steps between two synchronisations; a program and its root
abbrev pub system : ℕ → ℕ × ℕ → ℕ → List ℕ → Root → System
system clusters pager steps words r = record {
  clusters = clusters;
  pager = (cluster pager.0, cluster pager.1);
  syncreads = 32;
  syncsteps = steps;
  images = image words ∷ [];
  roots = r ∷ [];
  chans = [];
}

-- writes hi and a newline, and exits
abbrev pub hi_words : List ℕ
hi_words = 0x00200893 ∷ 0x00000513 ∷ 0x000105b7 ∷ 0x02458593 ∷ 0x00300613 ∷ 0x00000073 ∷ 0x00100893 ∷ 0x00000513 ∷ 0x00000073 ∷ 0x000a6968 ∷ []

-- writes a and a newline, then b and a newline, and exits
abbrev pub two_words : List ℕ
two_words = 0x00200893 ∷ 0x00000513 ∷ 0x000105b7 ∷ 0x03058593 ∷ 0x00200613 ∷ 0x00000073 ∷ 0x00258593 ∷ 0x00000513 ∷ 0x00000073 ∷ 0x00100893 ∷ 0x00000513 ∷ 0x00000073 ∷ 0x0a620a61 ∷ []

-- has no instruction
abbrev pub bad_words : List ℕ
bad_words = 0x00000000 ∷ []

-- jumps to itself
abbrev pub spin_words : List ℕ
spin_words = 0x0000006f ∷ []

-- stores 0x10000 at 0x10040, and then jumps to itself
abbrev pub store_words : List ℕ
store_words = 0x00010337 ∷ 0x04632023 ∷ 0x0000006f ∷ []

abbrev pub hi_system : System
hi_system = system 2 (0, 1) 4096 hi_words (root 0 1 Quarter 1000)

abbrev pub two_system : System
two_system = system 2 (0, 1) 4096 two_words (root 0 1 Quarter 1000)

abbrev pub bad_system : System
bad_system = system 2 (0, 1) 4096 bad_words (root 0 1 Quarter 1000)

abbrev pub spin_system : System
spin_system = system 2 (0, 1) 4096 spin_words (root 0 1 Quarter 1)

abbrev pub store_system : System
store_system = system 2 (0, 1) 64 store_words (root 0 1 Quarter 100)

abbrev pub full_system : System
full_system = system 3 (0, 1) 4096 two_words (root 0 1 Full 1000)

abbrev pub half_system : System
half_system = system 3 (1, 2) 4096 two_words (root 0 1 Half 1000)

-- reads its end 1
abbrev pub wait_words : List ℕ
wait_words = 0x00300893 ∷ 0x00100513 ∷ 0x000105b7 ∷ 0x00100613 ∷ 0x00000073 ∷ []

-- two such roots, linked to each other, of which the first is a fullback
abbrev pub wait_system : System
wait_system = record (system 3 (0, 1) 4096 wait_words (root 0 1 Full 1000)) {
  roots = root 0 1 Full 1000 ∷ root 1 2 Quarter 1000 ∷ [];
  chans = (1, 2) ∷ [];
}
