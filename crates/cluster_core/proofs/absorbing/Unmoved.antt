-- An entry without an item leaves the kernel without failures as it is: what a cluster holds of its processes beside at most one post stays what the log says.
use Rattle.std.proofs.Common.{◌≡◌, ◌⊎◌, ℕ, ◌-◌, refl, sym, ◌∙◌, ap, List, [], ◌∷◌, ◌++◌, Bool, true, false, cond, Option, Some, None, inl, inr}
use Rattle.std.specs.Prelude.{option_map, option_and_then}
use Rattle.std.specs.Option.{option_map_or}
use Rattle.t32_base.specs.declared.process.Pid.{Pid}
use Rattle.sys_text.specs.declared.system.System.{System}
use Rattle.proc_state.specs.State.{ProcState}
use Rattle.sys_calls.specs.declared.steps.Emission.{Emission}
use Rattle.sys_calls.specs.Next.{silently, last_emission}
use Rattle.plain_kernel.specs.Kernel.{Kernel, process_at}
use Rattle.bus_msg.specs.declared.entry.What.{What}
use Rattle.bus_msg.specs.declared.entry.Post.{Post}
use Rattle.bus_msg.specs.declared.entry.Entry.{Entry}
use Rattle.bus_msg.specs.Places.{same_pid}
use Rattle.bus_msg.specs.PlacedAfter.{what}
use Rattle.cert_sched.specs.Rules.{tells_or_closes}
use Rattle.cert_sched.specs.Schedule.{done, items_of, plain_after}
use Rattle.cert_sched.specs.Steps.{after_items, emission_at, process_of, silent_upto}
use Rattle.cert_sched.proofs.LogLaws.{no_items}
use Rattle.cluster_core.specs.Queue.{AreTogether, Queued, Nothing, One, posts_of, is_move_of, state_by, state_now, taken_by, tells_steps}
use Rattle.cluster_core.proofs.absorbing.ByKind.{by_kind, by_page, is_of_page, lone_is}

-- a post of a page moves no process
pub page_moves_none : (p : Pid) (post : Post) → is_of_page post.what ≡ true → is_move_of p post ≡ false
page_moves_none p post of =
    by_page (λ w. cond (tells_steps w) (option_map_or (λ q. same_pid q p) (process_of w) false) false ≡ false) (λ pid index. refl) (λ pid index bytes. refl) post.what of

module _ (system : System) (log : List Entry) (e : Entry) (none : (k : Kernel) → items_of k (what e) ≡ []) where
  abbrev later : List Entry
  later = log ++ e ∷ []

  pub kernel_same : plain_after system later ≡ plain_after system log
  kernel_same = no_items system log e none

  pub silent_same : (p : Pid) (steps : ℕ) → silent_upto system later p steps ≡ silent_upto system log p steps
  unfolding silent_upto
  silent_same p steps = λ i. option_and_then (silently (steps - option_map_or (λ kernel. done kernel p) (kernel_same i) 0)) (option_and_then (λ kernel. process_at kernel p) (kernel_same i))

  pub emission_same : (p : Pid) (at : ℕ) → emission_at system later p at ≡ emission_at system log p at
  unfolding emission_at
  emission_same p at = λ i. option_and_then (last_emission (at - option_map_or (λ kernel. done kernel p) (kernel_same i) 0)) (option_and_then (λ kernel. process_at kernel p) (kernel_same i))

  pub items_same : (w : What) → tells_or_closes w ≡ true → after_items system later w ≡ after_items system log w
  items_same =
      by_kind (λ w. after_items system later w ≡ after_items system log w)
      (λ at letter. ap (option_map (λ (r : Emission × ProcState). r.1)) (emission_same letter.from at)) (λ pid at end. ap (option_map (λ (r : Emission × ProcState). r.1)) (emission_same pid at)) (λ rests. refl) refl

  -- a process stands where it stood, beside at most one post
  pub state_same : (q : Queued) (p : Pid) (steps : ℕ) → AreTogether q → state_now system later (posts_of q) p steps ≡ state_now system log (posts_of q) p steps
  state_same Nothing p steps together = silent_same p steps
  state_same (One post) p steps together = by_what (lone_is post.what together)
    where
      now_at : List Entry → Bool → Option ProcState
      now_at entries b = state_by system entries p steps (option_map (λ (post : Post). post.what) (cond b (Some post) None))

      by_move : (b : Bool) → tells_or_closes post.what ≡ true → now_at later b ≡ now_at log b
      by_move true tells = ap (option_map (taken_by post.what)) (items_same post.what tells)
      by_move false tells = silent_same p steps

      by_what : (tells_or_closes post.what ≡ true) ⊎ (is_of_page post.what ≡ true) → now_at later (is_move_of p post) ≡ now_at log (is_move_of p post)
      by_what (inl tells) = by_move (is_move_of p post) tells
      by_what (inr of) = ap (now_at later) (page_moves_none p post of) ∙ silent_same p steps ∙ ap (now_at log) (sym (page_moves_none p post of))
