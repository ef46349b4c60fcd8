-- Logs that were worked by hand, with their systems: of two processes that write, a loss moves one.
use Rattle.std.specs.Prelude.{ℕ, List, [], ◌∷◌, replicate, Some, None}
use Rattle.t32_base.specs.declared.process.Mode.TheVariants.{Quarter}
use Rattle.t32_base.specs.declared.process.EndState.TheVariants.{Never, Tty as Typed}
use Rattle.t32_base.specs.declared.process.Status.TheVariants.{Live}
use Rattle.t32_base.specs.declared.letter.Body.TheVariants.{Said}
use Rattle.t32_base.specs.declared.letter.To.TheVariants.{Tty}
use Rattle.t32_base.specs.Small.{SmallState}
use Rattle.sys_text.specs.declared.system.System.{System}
use Rattle.sys_text.specs.declared.system.Image.{Image}
use Rattle.sys_text.specs.declared.system.Root.{Root}
use Rattle.bus_msg.specs.declared.entry.Entry.{Entry}
use Rattle.bus_msg.specs.declared.entry.By.TheVariants.{Cluster, Bus}
use Rattle.bus_msg.specs.declared.entry.Cause.TheVariants.{Place}
use Rattle.bus_msg.specs.declared.entry.What.TheVariants.{Mail, Sync, Crash}

-- writes a and a line feed by its sixth step, b and a line feed by its ninth, and exits
abbrev pub words : List ℕ
words = 0x00200893 ∷ 0x00000513 ∷ 0x000105b7 ∷ 0x03058593 ∷ 0x00200613 ∷ 0x00000073 ∷ 0x00258593 ∷ 0x00000513 ∷ 0x00000073 ∷ 0x00100893 ∷ 0x00000513 ∷ 0x00000073 ∷ 0x0a620a61 ∷ []

-- does the same, but counts down from 28 between the two, so that its last letter goes out by its sixty-sixth step
abbrev pub waiting_words : List ℕ
waiting_words =
    0x00200893 ∷ 0x00000513 ∷ 0x000105b7 ∷ 0x03c58593 ∷ 0x00200613 ∷ 0x00000073 ∷ 0x01c00293 ∷ 0xfff28293 ∷ 0xfe029ee3 ∷ 0x00258593 ∷ 0x00000513 ∷ 0x00000073 ∷ 0x00100893 ∷ 0x00000513 ∷ 0x00000073
    ∷ 0x0a620a61 ∷ []

abbrev pub image : List ℕ → Image
image words = record { name = 116 ∷ 119 ∷ 111 ∷ []; pages = 1; entry = 65536; words = words }

abbrev pub writer : ℕ → ℕ → Root
writer home backup = record { home = record { 0 = home }; backup = record { 0 = backup }; mode = Quarter; image = 0; limit = 1000; births = 0; tty = 0 }

-- process 16 in cluster 0 and process 17 in cluster 1, each with its backup in the other's cluster; the steps between two
-- synchronisations, and the program of both
abbrev pub two_of : ℕ → List ℕ → System
two_of steps words = record {
  clusters = 2;
  pager = (record { 0 = 0 }, record { 0 = 1 });
  syncreads = 32;
  syncsteps = steps;
  images = image words ∷ [];
  roots = writer 0 1 ∷ writer 1 0 ∷ [];
  chans = [];
}

abbrev pub two_writers : System
two_writers = two_of 4096 words

abbrev pub two_waiting : System
two_waiting = two_of 64 waiting_words

-- by its step `at` a process of the cluster k writes a byte and a line feed; its backup is in the clusters of these bits
abbrev pub writes : ℕ → ℕ → ℕ → ℕ → ℕ → ℕ → Entry
writes place k pid backup at byte = record {
  place = place;
  post = record { by = Cluster (record { 0 = k }); what = Mail at (record { from = record { 0 = pid }; out = 0; to = Tty 0; body = Said (byte ∷ 10 ∷ []) }) };
  dests = record { clusters = backup; tty = Some 0 };
}

-- cluster 0 is lost
abbrev pub loss : ℕ → Entry
loss place = record { place = place; post = record { by = Bus; what = Crash (record { 0 = 0 }) Place }; dests = record { clusters = 3; tty = None } }

-- the first sends two letters and the second one, and then the first is moved
abbrev pub two_and_one : List Entry
two_and_one = writes 0 0 16 2 6 97 ∷ writes 1 1 17 1 6 97 ∷ writes 2 0 16 2 9 98 ∷ []

abbrev pub with_loss : List Entry
with_loss = writes 0 0 16 2 6 97 ∷ writes 1 1 17 1 6 97 ∷ writes 2 0 16 2 9 98 ∷ loss 3 ∷ []

-- process 16 after its sixty-fourth step of the program that waits: it has written, and counted down to 0
abbrev pub waited : SmallState
waited = record {
  pid = record { 0 = 16 };
  regs = record {
    x =
        0 ∷ 0 ∷ 0x10100 ∷ 0 ∷ 0 ∷ 0 ∷ 0 ∷ 0 ∷ 0 ∷ 0 ∷ 2 ∷ 0x1003e ∷ 2 ∷ 0 ∷ 0 ∷ 0 ∷ 0 ∷ 2 ∷ 0 ∷ 0 ∷ 0 ∷ 0 ∷ 0 ∷ 0 ∷ 0 ∷ 0 ∷ 0 ∷ 0 ∷ 0 ∷ 0 ∷ 0 ∷ 0 ∷ [];
    pc = 0x10028;
  };
  ends = Typed 0 ∷ replicate 31 Never;
  handler = 0;
  frame = None;
  left = 936;
  steps = 64;
  births = 0;
  status = Live;
  pages = 1;
}

-- it synchronises then
abbrev pub cut : ℕ → Entry
cut place = record { place = place; post = record { by = Cluster (record { 0 = 0 }); what = Sync (record { 0 = 16 }) waited [] None }; dests = record { clusters = 3; tty = None } }

-- each sends a letter, the first synchronises and sends another, and then it is moved: only this one is withheld
abbrev pub with_cut : List Entry
with_cut = writes 0 0 16 2 6 97 ∷ writes 1 1 17 1 6 97 ∷ cut 2 ∷ writes 3 0 16 2 66 98 ∷ loss 4 ∷ []
