-- What the types of the code say of a system.
use Rattle.std.specs.Prelude.{Bool, nat_lt, List}
use Rattle.std.specs.List.{list_all}
use Rattle.sys_text.specs.declared.system.Image.{Image}
use Rattle.sys_text.specs.declared.system.Root.{Root}
use Rattle.sys_text.specs.Valid.{is_word}

-- the words of each image have 32 bits
abbrev pub have_words : List Image → Bool
have_words images = list_all (λ (image : Image). list_all is_word image.words) images

-- the number of each root's image has 64 bits
abbrev pub have_numbers : List Root → Bool
have_numbers roots = list_all (λ (root : Root). nat_lt root.image 18446744073709551616) roots
