-- A cluster whose head was sent, whatever that was.
use Rattle.std.proofs.Common.{◌≡◌, refl, sym, ◌∙◌, ap, Bool, List, [], ◌∷◌, ◌++◌, Option, Some, None, true}
use Rattle.std.specs.Prelude.{option_to_list}
use Rattle.std.specs.List.{list_all}
use Rattle.std.proofs.lemmas.Bool.{and_parts}
use Rattle.bus_msg.specs.declared.entry.Post.{Post}
use Rattle.cluster_core.specs.View.{ClusterView, after_sent}

-- of its parts the processes here, the queue and whether its head was tried have changed at most
pub sent_is : (c : ClusterView) (queue : List Post) → after_sent c queue ≡ record c { here = (after_sent c queue).here; queue = (after_sent c queue).queue; tried = (after_sent c queue).tried }
sent_is c [] = refl
sent_is c (head ∷ rest) = refl

-- what holds of all posts holds of those behind the head
pub behind_all : (t : Post → Bool) (head : Option Post) (queue rest : List Post) → queue ≡ option_to_list head ++ rest → list_all t queue ≡ true → list_all t rest ≡ true
behind_all t None queue rest is all = ap (list_all t) (sym is) ∙ all
behind_all t (Some post) queue rest is all = (and_parts (t post) (list_all t rest) (ap (list_all t) (sym is) ∙ all)).1
