-- A process that starts with its saved letters in the mailbox and makes steps reads them from the fronts of its ends.
use Rattle.std.proofs.Common.{◌≡◌, ℕ, zero, suc, refl, sym, ◌∙◌, ap, subst, List, [], ◌∷◌, length, Some, find}
use Rattle.std.specs.List.{AllPairs}
use Rattle.t32_base.specs.declared.letter.Arrived.{Arrived}
use Rattle.proc_state.specs.Mail.{is_on, without_first}
use Rattle.proc_state.specs.Queues.{DiffersFrom}
use Rattle.proc_state.specs.State.{ProcState}
use Rattle.sys_calls.specs.Calls.{Next, Silent, Blocked, Forks, Emits, Over}
use Rattle.sys_calls.specs.Next.{next_step}
use Rattle.sys_calls.specs.Fork.{fork_parent}
use Rattle.sys_calls.proofs.Leaving.{silent_ends, emits_ends, fork_ends}
use Rattle.backup_queue.specs.Fronts.{AreFronts, AreOnEnds}
use Rattle.backup_queue.specs.Queue.{unread}
use Rattle.backup_queue.proofs.QueueLaws.{unread-nothing}
use Rattle.backup_queue.proofs.ReadingLaws.{fronts_at_start, fronts_read, ends_at_start, ends_read, left_read}
use Rattle.roll_forward.specs.Deeds.{Deed, Sends, Bears}
use Rattle.cert_sched.specs.Steps.{numbers_read}
use Rattle.cert_sched.proofs.ReplayLaws.{Replays, ReplaysBy}
use Rattle.log_laws.specs.letters.ReadsFrom.{ReadsFrom}
use Rattle.log_laws.proofs.letters.SameRead.{same_gone, same_left, same_fronts, same_ends}
use Rattle.log_laws.proofs.letters.StepReads.{Took, none, first, silent_takes, sent_leaves}

-- it has read these numbers so
pub record HasRead (saved mail : List Arrived) : Type 0 where
  pub read : List ℕ
  pub left : mail ≡ unread read saved
  pub fronts : AreFronts read saved
  pub ends : AreOnEnds read saved

-- at its start it has read none
pub none_read : (saved : List Arrived) → HasRead saved saved
none_read saved = record { read = []; left = sym (unread-nothing saved); fronts = fronts_at_start saved; ends = ends_at_start saved }

-- the numbers are those that are in the mailbox no more
pub reads_from : (saved mail : List Arrived) → HasRead saved mail → ReadsFrom saved mail
reads_from saved mail h =
    let gone : List ℕ = numbers_read saved mail in
    let same = same_gone h.read saved mail h.left in
    record { left = h.left ∙ same_left h.read gone saved same; fronts = same_fronts h.read gone saved same h.fronts; ends = same_ends h.read gone saved same h.ends }

module _ (saved : List Arrived) (differ : AllPairs DiffersFrom saved) where
  -- a step that takes a letter reads one more
  pub took_read : (before after : List Arrived) → Took 32 before after → HasRead saved before → HasRead saved after
  took_read before after (none same) h = subst (HasRead saved) (sym same) h
  took_read before after (first end letter found within left) h =
      let is : find (is_on end) (unread h.read saved) ≡ Some letter = ap (find (is_on end)) (sym h.left) ∙ found in
      record {
        read = letter.number ∷ h.read;
        left = left ∙ ap (without_first (is_on end)) h.left ∙ sym (left_read h.read end saved letter differ is);
        fronts = fronts_read h.read end saved letter differ is h.fronts;
        ends = ends_read h.read end saved letter differ is within h.ends;
      }

  step_read : (n : ℕ) (s t : ProcState) (next : Next) (ds : List Deed) → next_step s ≡ next → ReplaysBy s (λ x r. Replays n x r t) next ds → length (s.small).ends ≡ 32 → HasRead saved s.mail
      → ((x : ProcState) (r : List Deed) → Replays n x r t → length (x.small).ends ≡ 32 → HasRead saved x.mail → HasRead saved t.mail) → HasRead saved t.mail
  step_read n s t (Silent x) ds is made ends h on = on x ds made (silent_ends s x is ∙ ends) (took_read s.mail x.mail (subst (λ n. Took n s.mail x.mail) ends (silent_takes s x is)) h)
  step_read n s t Blocked ds is made ends h on = absurd made
  step_read n s t Forks [] is made ends h on = absurd made
  step_read n s t Forks (Sends e ∷ rest) is made ends h on = absurd made
  step_read n s t Forks (Bears child ∷ rest) is made ends h on = on (fork_parent s child) rest made (fork_ends s child ∙ ends) h
  step_read n s t (Emits e x) [] is made ends h on = absurd made
  step_read n s t (Emits e x) (Sends m ∷ rest) is made ends h on = on x rest made.1 (emits_ends s x e is ∙ ends) (subst (HasRead saved) (sym (sent_leaves s x e is)) h)
  step_read n s t (Emits e x) (Bears child ∷ rest) is made ends h on = absurd made
  step_read n s t Over ds is made ends h on = absurd made

  pub replay_read : (n : ℕ) (s t : ProcState) (ds : List Deed) → Replays n s ds t → length (s.small).ends ≡ 32 → HasRead saved s.mail → HasRead saved t.mail
  replay_read zero s t ds made ends h = subst (λ (x : ProcState). HasRead saved x.mail) (sym made.1) h
  replay_read (suc n) s t ds made ends h = step_read n s t (next_step s) ds refl made ends h (λ x r more ends h. replay_read n x t r more ends h)
