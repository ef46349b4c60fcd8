use Rattle.std.proofs.Common.{◌≡◌, filter, map}
use Rattle.std.specs.List.{range_with_len}
use Rattle.sync_point.specs.Batch.{is_marked, page_post}
use Rattle.sync_point.proofs.batch.page_posts.Given as goal

-- the marked pages below the next have their posts
abbrev pub invariant-loop-index : goal.invariant-loop-index
invariant-loop-index l = (l.posts).items ≡ map (page_post l.process l.by) (filter (is_marked l.process) (range_with_len 0 l.index))
