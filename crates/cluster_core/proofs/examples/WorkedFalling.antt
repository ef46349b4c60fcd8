-- What falls out of worked queues, by computation: process 16 is at home in cluster 1 with its backup in cluster 2, process 18 at home there without one.
use Rattle.std.proofs.Common.{◌≡◌, refl, List, [], ◌∷◌, true, false, Some, None}
use Rattle.t32_base.specs.declared.process.Mode.TheVariants.{Full}
use Rattle.bus_msg.specs.declared.entry.What.{What}
use Rattle.bus_msg.specs.declared.entry.What.TheVariants.{Page, Fetch, PageIs, Crash, Rebackup, Stop}
use Rattle.bus_msg.specs.declared.entry.Cause.TheVariants.{Place}
use Rattle.bus_msg.specs.declared.entry.Post.{Post}
use Rattle.bus_msg.specs.Places.{Places}
use Rattle.cluster_core.specs.Queue.{falls, left_queued}
use Rattle.cluster_core.proofs.examples.WorkedViews.{by_cluster, cluster, pid}

abbrev placed_so : Places
placed_so = record {
  clusters = record { lives = false; was_lost = true; next_serial = 2 } ∷ record { lives = true; was_lost = false; next_serial = 1 } ∷ record { lives = true; was_lost = false; next_serial = 1 } ∷ [];
  pager = (cluster 1, cluster 2);
  placed =
      record { pid = pid 16; home = cluster 1; backup = Some (cluster 2); mode = Full; lost = Some (cluster 0); ended = false; synced = true }
      ∷ record { pid = pid 18; home = cluster 1; backup = None; mode = Full; lost = Some (cluster 0); ended = false; synced = true } ∷ [];
}

-- a queue of cluster 2
abbrev queue_of : What → List Post
queue_of w = record { by = by_cluster 2; what = w } ∷ []

-- the page that comes to 16 falls at the loss of cluster 1, which moves it, and so does no fetch
page_falls : left_queued placed_so (Crash (cluster 1) Place) (queue_of (PageIs (pid 16) 0 [])) ≡ []
page_falls = refl

fetch_stays : left_queued placed_so (Crash (cluster 1) Place) (queue_of (Fetch (pid 16) 0)) ≡ queue_of (Fetch (pid 16) 0)
fetch_stays = refl

-- it stays at another loss and at an entry that is none; that of 18, which has no backup, falls at no loss
stays_elsewhere : falls placed_so (Crash (cluster 2) Place) (PageIs (pid 16) 0 []) ≡ false
stays_elsewhere = refl

stays_unlost : falls placed_so Stop (PageIs (pid 16) 0 []) ≡ false
stays_unlost = refl

stays_unmoved : falls placed_so (Crash (cluster 1) Place) (PageIs (pid 18) 0 []) ≡ false
stays_unmoved = refl

-- a new backup falls at any entry, and the pages before it stay
backup_falls : left_queued placed_so (Fetch (pid 16) 0) (record { by = by_cluster 1; what = Page (pid 16) 5 0 [] } ∷ record { by = by_cluster 1; what = Rebackup (cluster 2) true [] } ∷ []) ≡ record { by = by_cluster 1; what = Page (pid 16) 5 0 [] } ∷ []
backup_falls = refl
