-- The head of a queue, and what stands behind it.
use Rattle.std.proofs.Common.{◌≡◌, ap, List, [], ◌∷◌, Some}
use Rattle.bus_msg.specs.declared.entry.Post.{Post}
use Rattle.cluster_core.specs.View.{head_of}

abbrev pub tail_of : List Post → List Post
tail_of [] = []
tail_of (post ∷ rest) = rest

pub head_first : (q : List Post) (post : Post) → head_of q ≡ Some post → q ≡ post ∷ tail_of q
head_first [] post is = cc
head_first (p ∷ rest) post is = let same : p ≡ post = cc in ap (λ p. p ∷ rest) same
