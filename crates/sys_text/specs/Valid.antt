-- The rules of a system: each system that keeps them has a text, and the system of a text keeps them.
use Rattle.std.specs.Prelude.{ℕ, ◌+◌, ◌*◌, ◌%◌, Bool, not, ◌&&◌, ◌||◌, ◌==◌, nat_le, nat_lt, List, length, take, count_by, sum_by}
use Rattle.std.specs.List.{list_all, range_with_len}
use Rattle.std.specs.Str.{bytes_eq}
use Rattle.t32_base.specs.declared.process.ClusterNo.{ClusterNo}
use Rattle.rv_elf.specs.Rules.{lies_within}
use Rattle.sys_text.specs.declared.system.System.{System}
use Rattle.sys_text.specs.declared.system.Image.{Image}
use Rattle.sys_text.specs.declared.system.Root.{Root}

-- a number is within its limits
abbrev pub is_within : ℕ → ℕ → ℕ → Bool
is_within low high n = nat_le low n && nat_le n high

-- two clusters of the system, which differ
abbrev pub is_pair : ℕ → ClusterNo → ClusterNo → Bool
is_pair clusters a b = nat_lt a.0 clusters && nat_lt b.0 clusters && not (a.0 == b.0)

-- 2 to 16 clusters, two of which serve pages, 1 to 1000 reads and 64 to 100000 steps between synchronisations
abbrev pub is_header : System → Bool
is_header s =
    is_within 2 16 s.clusters && is_pair s.clusters (s.pager).0 (s.pager).1 && is_within 1 1000 s.syncreads
    && is_within 64 100000 s.syncsteps

-- a letter from a to z
abbrev pub is_letter : ℕ → Bool
is_letter c = is_within 97 122 c

-- a letter or a digit
abbrev pub is_name_byte : ℕ → Bool
is_name_byte c = is_letter c || is_within 48 57 c

-- a letter, and up to 15 letters or digits
abbrev pub is_name : List ℕ → Bool
is_name name = is_within 1 16 (length name) && list_all is_letter (take 1 name) && list_all is_name_byte name

-- a number of 32 bits
abbrev pub is_word : ℕ → Bool
is_word word = nat_lt word 4294967296

-- an instruction may stand at this address, in so many pages
abbrev pub is_entry : (pages entry : ℕ) → Bool
is_entry pages entry = (entry % 4 == 0) && lies_within pages entry 4

-- a name, 1 to 256 pages of 256 bytes, an entry in them, and any words of four bytes that fit them
abbrev pub is_image : Image → Bool
is_image image =
    is_name image.name && is_within 1 256 image.pages && is_entry image.pages image.entry
    && nat_le (4 * length image.words) (256 * image.pages)
    && list_all is_word image.words

-- one image alone has this name
abbrev pub is_named_once : List Image → List ℕ → Bool
is_named_once images name = count_by (λ (image : Image). bytes_eq image.name name) images == 1

-- images, no two of which have one name
abbrev pub are_images : List Image → Bool
are_images images = list_all is_image images && list_all (λ (image : Image). is_named_once images image.name) images

-- the number of an image that is there, which has 64 bits
abbrev pub is_there : ℕ → ℕ → Bool
is_there images number = nat_lt number images && nat_lt number 18446744073709551616

-- two clusters, an image that is there, 1 to 100000 instructions, 31 births at most, and a terminal from 0 to 15
abbrev pub is_root : ℕ → ℕ → Root → Bool
is_root clusters images root =
    is_pair clusters root.home root.backup && is_there images root.image && is_within 1 100000 root.limit
    && nat_le root.births 31 && nat_le root.tty 15

-- how often the roots and their children may fork
abbrev pub births_of : List Root → ℕ
births_of roots = sum_by (λ (root : Root). root.births) roots

-- one root or more, which are 32 at most with all their births
abbrev pub are_roots : ℕ → ℕ → List Root → Bool
are_roots clusters images roots =
    nat_le 1 (length roots) && nat_le (length roots + births_of roots) 32 && list_all (is_root clusters images) roots

-- two different roots, numbered from 1
abbrev pub is_chan : ℕ → ℕ × ℕ → Bool
is_chan roots chan = is_within 1 roots chan.0 && is_within 1 roots chan.1 && not (chan.0 == chan.1)

-- how many ends of a root are linked: one for each channel that names it
abbrev pub links : List (ℕ × ℕ) → ℕ → ℕ
links chans root = count_by (λ (chan : ℕ × ℕ). (chan.0 == root) || (chan.1 == root)) chans

-- channels that link 31 ends at most of each root, the ends 1 to 31
abbrev pub are_chans : ℕ → List (ℕ × ℕ) → Bool
are_chans roots chans = list_all (is_chan roots) chans && list_all (λ root. nat_le (links chans root) 31) (range_with_len 1 roots)

-- a system that some text has
abbrev pub is_system : System → Bool
is_system s =
    is_header s && are_images s.images && are_roots s.clusters (length s.images) s.roots && are_chans (length s.roots) s.chans
