use Rattle.std.proofs.Common.{◌+◌, ◌*◌, vec_len}
use Rattle.cluster_threads.proofs.running.+fn-follow_all-scope+follow_all.Given as goal

abbrev pub decreases-follow_all : goal.decreases-follow_all
decreases-follow_all g l = 2 * vec_len l.seats

abbrev pub decreases-scope : goal.decreases-scope
decreases-scope g l = 2 * vec_len l.seats + 1
