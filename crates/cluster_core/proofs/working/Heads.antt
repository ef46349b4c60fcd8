-- What a cluster is to send next keeps the rule of new backups: its process runs, and whoever runs waits for none.
use Rattle.std.proofs.Common.{◌≡◌, ℕ, refl, sym, ◌∙◌, ap, subst, List, [], ◌∷◌, Bool, true, false, Option, Some, None, inl, inr, true≢false, cond, option_map}
use Rattle.t32_base.specs.declared.process.Pid.{Pid}
use Rattle.t32_base.specs.declared.process.ClusterNo.{ClusterNo}
use Rattle.sys_text.specs.Valid.{is_system}
use Rattle.proc_state.specs.State.{state_of}
use Rattle.bus_msg.specs.declared.entry.What.{What}
use Rattle.bus_msg.specs.declared.entry.What.TheVariants.{Mail, Exit, Fetch, PageIs}
use Rattle.bus_msg.specs.declared.entry.Entry.{Entry}
use Rattle.bus_msg.specs.declared.entry.Post.{Post}
use Rattle.bus_msg.specs.Places.{Places}
use Rattle.cert_sched.specs.Appended.{entry_of}
use Rattle.cert_sched.specs.Legal.{MayFollow, MayStand}
use Rattle.cert_sched.specs.Rules.{has_awaited_backup, keeps_backups, is_by_right}
use Rattle.cert_sched.specs.Schedule.{placement}
use Rattle.cluster_core.specs.Follows.{Follows, IsOpen, QueuedIn}
use Rattle.cluster_core.specs.Holds.{IsHeldAs}
use Rattle.cluster_core.specs.Queue.{IsQueueLegal, Nothing, One, Queued, is_lone, is_move_of, move_of, posts_of, AreTogether}
use Rattle.cluster_core.specs.Renewing.{renewing_left}
use Rattle.cluster_core.specs.Sent.{SentMayStand}
use Rattle.cluster_core.specs.View.{ClusterView, head_of, held_at}
use Rattle.residents.specs.Held.{Held, Rolls, Runs, Waits}
use Rattle.residents.proofs.Changing.{same_itself}
use Rattle.cluster_core.proofs.losses.Homes.{HomeHere}
use Rattle.cluster_core.proofs.losses.HeldAtHome.{held_at_home}
use Rattle.cluster_core.proofs.paging.HasPages.{home_of_sender}
use Rattle.cert_sched.specs.Losses.{is_from}
use Rattle.std.proofs.lemmas.Option.{same_Some}
use Rattle.std.proofs.lemmas.Bool.{and_parts}
use Rattle.std.specs.List.{list_all}
use Rattle.checkpoint_laws.specs.batches.Underway.{posts_left}

module _ (c : ClusterView) (log : List Entry) (f : Follows c.system log c) where
  abbrev here : Places
  here = placement c.system log

  -- one that runs here waits for no backup
  runs_backed : (p : Pid) (h : Held) → held_at c p ≡ Some h → IsHeldAs c.system log c.queue p h → ((move_of p c.queue ≡ None) → ⊥) → has_awaited_backup c.system log p ≡ true
  runs_backed p (Runs s) there holds moves = f.backups p (Runs s) there refl
  runs_backed p (Rolls s counts births) there holds moves = absurd (moves holds.0)
  runs_backed p (Waits waiting) there holds moves = absurd (moves holds.0)

  -- a letter or an exit that is queued alone tells of one that runs
  teller_backed : (post : Post) (p : Pid) → c.queue ≡ post ∷ [] → HomeHere here p c.number → is_move_of p post ≡ true → has_awaited_backup c.system log p ≡ true
  teller_backed post p queue home moves =
      let held = held_at_home here c.number c.here p (f.processes).each_once home in
      runs_backed p held.0 held.1 ((f.processes).held p held.0 held.1) none
    where
      none : (move_of p c.queue ≡ None) → ⊥
      none is = by_move (is_move_of p post) moves (sym (ap (move_of p) queue) ∙ is)
        where
          by_move : (b : Bool) → b ≡ true → option_map (λ (x : Post). x.what) (cond b (Some post) None) ≡ None → ⊥
          by_move true h is = cc
          by_move false h is = true≢false (sym h)

  lone_backed : (post : Post) → c.queue ≡ post ∷ [] → is_lone post.what ≡ true → SentMayStand c.system log (entry_of c.system log post) → keeps_backups c.system log post.what ≡ true
  lone_backed post queue lone may = by_what post.what refl lone
    where
      own : is_from c.number post.by ≡ true
      own = (and_parts (is_from c.number post.by) true (sym (ap (list_all (λ (x : Post). is_from c.number x.by)) queue) ∙ (f.queue).own)).0

      by_what : (w : What) → post.what ≡ w → is_lone w ≡ true → keeps_backups c.system log w ≡ true
      by_what (Mail at letter) is lone =
          teller_backed post letter.from queue (home_of_sender here c.number post.by letter.from own (subst (λ w. is_by_right here post.by w ≡ true) is (may.stands).by_right))
          (ap (λ w. is_move_of letter.from (record { by = post.by; what = w })) is ∙ same_itself letter.from)
      by_what (Exit pid at end) is lone =
          teller_backed post pid queue (home_of_sender here c.number post.by pid own (subst (λ w. is_by_right here post.by w ≡ true) is (may.stands).by_right))
          (ap (λ w. is_move_of pid (record { by = post.by; what = w })) is ∙ same_itself pid)
      by_what (Fetch pid index) is lone = refl
      by_what (PageIs pid index bytes) is lone = refl
      by_what _ is lone = absurd (true≢false (sym lone))

  -- the first post of each form of a queue
  head_backed : (post : Post) → head_of c.queue ≡ Some post → SentMayStand c.system log (entry_of c.system log post) → QueuedIn c.system log c → keeps_backups c.system log post.what ≡ true
  head_backed post head may (inl q) = by_queued q.queued q.posts q.together
    where
      by_queued : (x : Queued) → c.queue ≡ posts_of x → AreTogether x → keeps_backups c.system log post.what ≡ true
      by_queued Nothing posts together = absurd (none_some (sym (ap head_of posts) ∙ head))
        where
          none_some : None ≡ Some post → ⊥
          none_some is = cc
      by_queued (One one) posts together =
          let same : one ≡ post = same_Some one post (sym (ap head_of posts) ∙ head) in
          lone_backed post (posts ∙ ap (λ (x : Post). x ∷ []) same) (ap (λ (x : Post). is_lone x.what) (sym same) ∙ together) may
  head_backed post head may (inr (inl y)) = by_indices y.indices y.posts
    where
      backed : has_awaited_backup c.system log y.pid ≡ true
      backed = f.backups y.pid (Runs y.process) y.there refl

      by_indices : (is : List ℕ) → c.queue ≡ posts_left c.number y.pid (state_of y.process) y.read y.took is → keeps_backups c.system log post.what ≡ true
      by_indices [] posts = ap (λ (x : Post). keeps_backups c.system log x.what) (sym (same_Some _ post (sym (ap head_of posts) ∙ head))) ∙ backed
      by_indices (i ∷ is) posts = ap (λ (x : Post). keeps_backups c.system log x.what) (sym (same_Some _ post (sym (ap head_of posts) ∙ head))) ∙ backed
  head_backed post head may (inr (inr (inl b))) =
      ap (λ (x : Post). keeps_backups c.system log x.what) (sym (same_Some _ post (sym (ap head_of b.posts) ∙ head))) ∙ f.backups b.pid (Runs b.process) b.there refl
  head_backed post head may (inr (inr (inr (inl h)))) =
      let same : h.post ≡ post = same_Some h.post post (sym (ap head_of h.posts) ∙ head) in
      ap (λ (x : Post). keeps_backups c.system log x.what) (sym same) ∙ ap (keeps_backups c.system log) h.standing
  head_backed post head may (inr (inr (inr (inr y)))) = by_indices y.indices y.to y.posts
    where
      backed : has_awaited_backup c.system log y.pid ≡ true
      backed = f.backups y.pid (Runs y.process) y.there refl

      by_indices : (is : List ℕ) (to : Option ClusterNo) → c.queue ≡ renewing_left c.number to y.pid (state_of y.process) is → keeps_backups c.system log post.what ≡ true
      by_indices [] None posts = absurd (none_some (sym (ap head_of posts) ∙ head))
        where
          none_some : None ≡ Some post → ⊥
          none_some is = cc
      by_indices [] (Some to) posts = ap (λ (x : Post). keeps_backups c.system log x.what) (sym (same_Some _ post (sym (ap head_of posts) ∙ head)))
      by_indices (i ∷ is) to posts = ap (λ (x : Post). keeps_backups c.system log x.what) (sym (same_Some _ post (sym (ap head_of posts) ∙ head))) ∙ backed

  -- it may stand next
  head_stands : (post : Post) (ps : List Post) → head_of ps ≡ Some post → IsQueueLegal SentMayStand c.system log ps → SentMayStand c.system log (entry_of c.system log post)
  head_stands post [] head legal = cc
  head_stands post (first ∷ rest) head legal = subst (λ x. SentMayStand c.system log (entry_of c.system log x)) (same_Some first post head) legal.0

pub head_follows : (c : ClusterView) (log : List Entry) (post : Post) → is_system c.system ≡ true → IsOpen MayStand c.system log → Follows c.system log c → head_of c.queue ≡ Some post
    → MayFollow c.system log (entry_of c.system log post)
head_follows c log post valid go f head =
    let may = head_stands c log f post c.queue head (f.queue).legal in
    record { stands = may.stands; limits = may.limits; backup = head_backed c log f post head may f.queued; new_page = may.new_page; pages = may.pages }
