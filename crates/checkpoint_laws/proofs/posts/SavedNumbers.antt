-- Each letter that is saved has arrived: its number is below the count of those that came.
use Rattle.std.proofs.Common.{◌≡◌, ℕ, ◌+◌, refl, ◌∙◌, ap, List, [], ◌∷◌, length, true, cond, Some}
use Rattle.std.specs.Prelude.{nat_lt}
use Rattle.std.proofs.lemmas.Bool.{and_parts}
use Rattle.t32_base.specs.declared.process.Pid.{Pid}
use Rattle.t32_base.specs.declared.letter.Arrived.{Arrived}
use Rattle.sys_text.specs.declared.system.System.{System}
use Rattle.proc_state.specs.State.{ProcState}
use Rattle.bus_msg.specs.declared.entry.Entry.{Entry}
use Rattle.cert_sched.specs.Parts.{after_last}
use Rattle.cert_sched.specs.Deeds.{starts, letters_to, saved_letters, start_of}
use Rattle.log_laws.specs.letters.Numbered.{are_below, are_in_order, are_numbered}
use Rattle.log_laws.proofs.letters.SavedNumbers.{saved_numbered}
use Rattle.checkpoint_laws.specs.posts.Marked.{arrived_below}

-- where all are below, none is left out
all_arrived : (m : ℕ) (xs : List Arrived) → are_below m xs ≡ true → arrived_below m xs ≡ xs
all_arrived m [] below = refl
all_arrived m (x ∷ xs) below =
    let parts = and_parts (nat_lt x.number m) (are_below m xs) below in
    ap (λ b. cond b (x ∷ arrived_below m xs) (arrived_below m xs)) parts.0 ∙ ap (λ ys. x ∷ ys) (all_arrived m xs parts.1)

pub saved_arrived : (system : System) (log : List Entry) (p : Pid) (start : ProcState) (m : ℕ) → start_of system log p ≡ Some start → m ≡ start.next + length (letters_to p (after_last (starts p) log)) → arrived_below m (saved_letters log p start) ≡ saved_letters log p start
saved_arrived system log p start m started count =
    let saved : List Arrived = saved_letters log p start in
    let numbered : are_numbered m saved ≡ true = ap (λ n. are_numbered n saved) count ∙ saved_numbered system log p start started in
    all_arrived m saved (and_parts (are_in_order saved) (are_below m saved) numbered).1
