-- The system of the workload.
use Rattle.std.specs.Prelude.{ℕ, ◌+◌, ◌-◌, ◌%◌, ◌==◌, nat_le, ◌&&◌, Bool, if◌then◌else◌, List, [], ◌∷◌, codes, map}
use Rattle.std.specs.List.{range_with_len}
use Rattle.t32_base.specs.declared.process.Mode.TheVariants.{Quarter}
use Rattle.sys_text.specs.declared.system.Image.{Image}
use Rattle.sys_text.specs.declared.system.Root.{Root}
use Rattle.sys_text.specs.declared.system.System.{System}
use Rattle.workload.specs.Programs.{head_words, link_words}

-- the sizes of a workload
abbrev pub is_size : ℕ → Bool
is_size size = nat_le 1 size && nat_le size 1000

-- the images `head` and `link`, in this order
abbrev pub images : ℕ → List Image
images size = record { name = codes "head"; pages = 1; entry = 65536; words = head_words size } ∷ record { name = codes "link"; pages = 1; entry = 65536; words = link_words } ∷ []

-- root number i: the first is `head`; each other one is `link` and may fork once
abbrev pub root : ℕ → Root
root i = record {
  home = record { 0 = (i - 1) % 4 };
  backup = record { 0 = i % 4 };
  mode = Quarter;
  image = if i == 1 then 0 else 1;
  limit = 100000;
  births = if i == 1 then 0 else 1;
  tty = 0;
}

-- channel number i: from root i to the next one, and from the last to the first
abbrev pub chan : ℕ → ℕ × ℕ
chan i = (i, i % 16 + 1)

-- four clusters, and sixteen roots that sixteen channels link to a ring
unfoldable pub workload : ℕ → System
workload size = record {
  clusters = 4;
  pager = (record { 0 = 0 }, record { 0 = 1 });
  syncreads = 32;
  syncsteps = 4096;
  images = images size;
  roots = map root (range_with_len 1 16);
  chans = map chan (range_with_len 1 16);
}
