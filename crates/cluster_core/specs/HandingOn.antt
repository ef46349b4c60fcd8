-- A family here gets its new backup: the post that hands on its records is queued.
use Rattle.std.specs.Prelude.{◌≡◌, false, List, [], ◌∷◌}
use Rattle.t32_base.specs.declared.process.ClusterNo.{ClusterNo}
use Rattle.t32_base.specs.declared.letter.BackRec.{BackRec}
use Rattle.bus_msg.specs.declared.entry.Post.{Post}
use Rattle.bus_msg.specs.declared.entry.What.TheVariants.{Rebackup}
use Rattle.cluster_core.specs.View.{ClusterView}

-- all that is queued is one new backup, of a family that has not run
pub record HandsOver (c : ClusterView) : Type 0 where
  pub post : Post
  pub posts : c.queue ≡ post ∷ []
  pub to : ClusterNo
  pub recs : List BackRec
  pub standing : post.what ≡ Rebackup to false recs
