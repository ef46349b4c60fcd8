-- Worked examples: a system with its text and its pids, and for each rule a system that breaks it. Each is by evaluation.
use Rattle.std.proofs.Common.{◌≡◌, ℕ, true, false, List, [], ◌∷◌, map, refl}
use Rattle.std.specs.Prelude.{codes, replicate}
use Rattle.t32_base.specs.declared.process.Pid.{Pid}
use Rattle.t32_base.specs.declared.process.ClusterNo.{ClusterNo}
use Rattle.t32_base.specs.declared.process.Mode.TheVariants.{Half}
use Rattle.sys_text.specs.declared.system.System.{System}
use Rattle.sys_text.specs.declared.system.Image.{Image}
use Rattle.sys_text.specs.declared.system.Root.{Root}
use Rattle.sys_text.specs.Valid.{is_system, is_name}
use Rattle.sys_text.specs.Text.{system_text, system_lines, words_lines, word_text}
use Rattle.std.specs.Fmt.{digits}
use Rattle.sys_text.specs.Boot.{roots_of, bytes_of_words}

abbrev cluster : ℕ → ClusterNo
cluster n = record { 0 = n }

abbrev image : List ℕ → ℕ → List ℕ → Image
image name pages words = record { name = name; pages = pages; entry = 65536; words = words }

abbrev root : ℕ → ℕ → ℕ → ℕ → ℕ → ℕ → Root
root home backup number limit births tty = record {
  home = cluster home;
  backup = cluster backup;
  mode = Half;
  image = number;
  limit = limit;
  births = births;
  tty = tty;
}

abbrev system : List Image → List Root → List (ℕ × ℕ) → System
system images roots chans = record {
  clusters = 3;
  pager = (cluster 0, cluster 1);
  syncreads = 32;
  syncsteps = 4096;
  images = images;
  roots = roots;
  chans = chans;
}

abbrev hi : Image
hi = image (codes "hi") 1 (8391827 ∷ 115 ∷ [])

abbrev one : Root
one = root 0 1 0 1000 0 0

abbrev other : Root
other = root 1 2 0 1000 2 0

abbrev first : System
first = system (hi ∷ []) (one ∷ []) []

abbrev three : System
three = system (hi ∷ []) (one ∷ other ∷ one ∷ []) ((1, 2) ∷ (3, 1) ∷ [])

first_kept : is_system first ≡ true
first_kept = refl

three_kept : is_system three ≡ true
three_kept = refl

three_text : system_text three ≡ codes "clusters 3\npager 0 1\nsyncreads 32\nsyncsteps 4096\nimage hi 1\nwords 00800c93 00000073\nend\nroot 0 1 half hi 1000 0 0\nroot 1 2 half hi 1000 2 0\nroot 0 1 half hi 1000 0 0\nchan 1 2\nchan 3 1\n"
unfolding system_lines words_lines word_text digits
three_text = refl

-- the serials are counted in each home alone
three_pids : map (λ (entry : Pid × Root). (entry.0).0) (roots_of three) ≡ 16 ∷ 17 ∷ 32 ∷ []
three_pids = refl

word_bytes : bytes_of_words (hi.words) ≡ 147 ∷ 12 ∷ 128 ∷ 0 ∷ 115 ∷ 0 ∷ 0 ∷ 0 ∷ []
word_bytes = refl

-- ---- the header

too_many_clusters : is_system (record first { clusters = 17 }) ≡ false
too_many_clusters = refl

no_such_pager : is_system (record first { pager = (cluster 0, cluster 3) }) ≡ false
no_such_pager = refl

one_pager_twice : is_system (record first { pager = (cluster 1, cluster 1) }) ≡ false
one_pager_twice = refl

no_reads : is_system (record first { syncreads = 0 }) ≡ false
no_reads = refl

too_few_steps : is_system (record first { syncsteps = 63 }) ≡ false
too_few_steps = refl

-- ---- the images

a_name : is_name (codes "abcdefghijklmno9") ≡ true
a_name = refl

too_long_a_name : is_name (codes "abcdefghijklmnop9") ≡ false
too_long_a_name = refl

a_digit_first : is_name (codes "9a") ≡ false
a_digit_first = refl

upper_case : is_name (codes "Hi") ≡ false
upper_case = refl

no_page : is_system (system (image (codes "hi") 0 [] ∷ []) (one ∷ []) []) ≡ false
no_page = refl

too_many_words : is_system (system (image (codes "hi") 1 (replicate 65 0) ∷ []) (one ∷ []) []) ≡ false
too_many_words = refl

one_name_twice : is_system (system (hi ∷ hi ∷ []) (one ∷ []) []) ≡ false
one_name_twice = refl

-- ---- the roots

no_root : is_system (system (hi ∷ []) [] []) ≡ false
no_root = refl

no_such_image : is_system (system (hi ∷ []) (root 0 1 1 1000 0 0 ∷ []) []) ≡ false
no_such_image = refl

one_cluster_twice : is_system (system (hi ∷ []) (root 1 1 0 1000 0 0 ∷ []) []) ≡ false
one_cluster_twice = refl

no_instruction : is_system (system (hi ∷ []) (root 0 1 0 0 0 0 ∷ []) []) ≡ false
no_instruction = refl

no_such_terminal : is_system (system (hi ∷ []) (root 0 1 0 1000 0 16 ∷ []) []) ≡ false
no_such_terminal = refl

too_many_births : is_system (system (hi ∷ []) (root 0 1 0 1000 31 0 ∷ root 0 1 0 1000 0 0 ∷ []) []) ≡ false
too_many_births = refl

-- ---- the channels

one_root_twice : is_system (system (hi ∷ []) (one ∷ one ∷ []) ((1, 1) ∷ [])) ≡ false
one_root_twice = refl

no_such_root : is_system (system (hi ∷ []) (one ∷ one ∷ []) ((1, 3) ∷ [])) ≡ false
no_such_root = refl

ends_enough : is_system (system (hi ∷ []) (one ∷ one ∷ []) (replicate 31 (1, 2))) ≡ true
ends_enough = refl

too_few_ends : is_system (system (hi ∷ []) (one ∷ one ∷ []) (replicate 32 (1, 2))) ≡ false
too_few_ends = refl
