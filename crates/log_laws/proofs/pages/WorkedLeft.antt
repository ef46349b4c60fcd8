-- A worked log: what is left of the pages of a process falls from the loss of its home to the last page that comes.
use Rattle.std.proofs.Common.{◌≡◌, ℕ, refl, [], ◌∷◌, None}
use Rattle.t32_base.specs.declared.process.Pid.{Pid}
use Rattle.t32_base.specs.declared.process.Mode.TheVariants.{Quarter}
use Rattle.sys_text.specs.declared.system.System.{System}
use Rattle.bus_msg.specs.declared.entry.What.{What}
use Rattle.bus_msg.specs.declared.entry.What.TheVariants.{Fetch, PageIs, Crash}
use Rattle.bus_msg.specs.declared.entry.Cause.TheVariants.{Place}
use Rattle.bus_msg.specs.declared.entry.By.{By}
use Rattle.bus_msg.specs.declared.entry.By.TheVariants.{Cluster, Bus}
use Rattle.bus_msg.specs.declared.entry.Entry.{Entry}
use Rattle.plain_kernel.specs.Kernel.{boot}
use Rattle.plain_kernel.specs.Apply.{one_step, steps}
use Rattle.cert_sched.specs.Schedule.{plain_after, placement}
use Rattle.cert_sched.specs.Told.{told}
use Rattle.cert_sched.proofs.Systems.{cluster, root}
use Rattle.log_laws.specs.pages.Left.{left_of_pages}

-- one process with two pages, at home in cluster 0 with its backup in cluster 1
abbrev two_pages : System
two_pages = record {
  clusters = 2;
  pager = (cluster 0, cluster 1);
  syncreads = 32;
  syncsteps = 4096;
  images = record { name = []; pages = 2; entry = 65536; words = 0x0000006f ∷ [] } ∷ [];
  roots = root 0 1 Quarter 1000 ∷ [];
  chans = [];
}

abbrev it : Pid
it = record { 0 = 16 }

abbrev entry : ℕ → By → What → Entry
entry place by what = record { place = place; post = record { by = by; what = what }; dests = record { clusters = 2; tty = None } }

-- cluster 0 is lost, its two pages are asked for, and both come
abbrev lost : Entry
lost = entry 0 Bus (Crash (cluster 0) Place)

abbrev first_asked : Entry
first_asked = entry 1 (Cluster (cluster 1)) (Fetch it 0)

abbrev second_asked : Entry
second_asked = entry 2 (Cluster (cluster 1)) (Fetch it 1)

abbrev first_came : Entry
first_came = entry 3 (Cluster (cluster 1)) (PageIs it 0 [])

abbrev second_came : Entry
second_came = entry 4 (Cluster (cluster 1)) (PageIs it 1 [])

-- nothing is left before the loss
none_at_first : left_of_pages two_pages [] ≡ 0
unfolding boot one_step steps plain_after placement told
none_at_first = refl

two_each_at_loss : left_of_pages two_pages (lost ∷ []) ≡ 4
unfolding boot one_step steps plain_after placement told
two_each_at_loss = refl

one_asked : left_of_pages two_pages (lost ∷ first_asked ∷ []) ≡ 3
unfolding boot one_step steps plain_after placement told
one_asked = refl

both_asked : left_of_pages two_pages (lost ∷ first_asked ∷ second_asked ∷ []) ≡ 2
unfolding boot one_step steps plain_after placement told
both_asked = refl

one_came : left_of_pages two_pages (lost ∷ first_asked ∷ second_asked ∷ first_came ∷ []) ≡ 1
unfolding boot one_step steps plain_after placement told
one_came = refl

none_at_last : left_of_pages two_pages (lost ∷ first_asked ∷ second_asked ∷ first_came ∷ second_came ∷ []) ≡ 0
unfolding boot one_step steps plain_after placement told
none_at_last = refl

-- refused: with a page that was asked for and has not come something is left
not_none : left_of_pages two_pages (lost ∷ first_asked ∷ second_asked ∷ first_came ∷ []) ≡ 0 → ⊥
unfolding boot one_step steps plain_after placement told
not_none e = cc
