-- The posts of a batch: pages of the process, and at the end its state.
use Rattle.std.proofs.Common.{◌≡◌, ℕ, true, ltb, List, [], ◌∷◌, ◌++◌, map, length, refl, ap}
use Rattle.std.proofs.lemmas.Bool.{eq-eqb, and_from, and_parts}
use Rattle.std.proofs.lemmas.List.Elements.{All-map, All-push}
use Rattle.std.specs.List.{All, list_all}
use Rattle.t32_base.specs.declared.process.ClusterNo.{ClusterNo}
use Rattle.proc_state.specs.declared.process.Process.{Process}
use Rattle.bus_msg.specs.declared.entry.By.TheVariants.{Cluster}
use Rattle.bus_msg.specs.declared.entry.Post.{Post}
use Rattle.sync_point.specs.Batch.{batch, marked_pages, page_post, page_posts, sync_post, synced}
use Rattle.sync_point.specs.Laws.{EndsWithSync, is_page_of}
use Rattle.sync_point.proofs.WhichMarked.{marked_within, none_marked}

page_is_of : (p : Process) (by : ClusterNo) (i : ℕ) → ltb i (length (p.ram).dirty) ≡ true → is_page_of p (page_post p by i).what ≡ true
page_is_of p by i within = rw (eq-eqb ((p.small).pid).0 ((p.small).pid).0 refl, eq-eqb (p.small).steps (p.small).steps refl, within) refl

pages_are_of : (p : Process) (by : ClusterNo) (is : List ℕ) → list_all (λ i. ltb i (length (p.ram).dirty)) is ≡ true
    → list_all (λ (post : Post). is_page_of p post.what) (map (page_post p by) is) ≡ true
pages_are_of p by [] within = refl
pages_are_of p by (i ∷ is) within = let parts = and_parts _ _ within in and_from _ _ (page_is_of p by i parts.0) (pages_are_of p by is parts.1)

pub ends_with_sync : (p : Process) (by : ClusterNo) → EndsWithSync p (batch p by)
ends_with_sync p by = record {
  pages = page_posts p by;
  last = sync_post p by;
  parts = refl;
  before = pages_are_of p by (marked_pages p) (marked_within p);
  sync = refl;
}

pub all_by : (p : Process) (by : ClusterNo) → All (λ (post : Post). post.by ≡ Cluster by) (batch p by)
all_by p by =
    All-push (λ (post : Post). post.by ≡ Cluster by) (page_posts p by) (sync_post p by)
    (All-map (λ (post : Post). post.by ≡ Cluster by) (page_post p by) (marked_pages p) (λ k d within. refl)) refl

-- a process that has just synchronised sends its state alone
pub sync_alone : (p : Process) (by : ClusterNo) → batch (synced p) by ≡ sync_post (synced p) by ∷ []
sync_alone p by = ap (λ is. map (page_post (synced p) by) is ++ sync_post (synced p) by ∷ []) (none_marked p)
