-- The numbers of the saved letters rise too, and are below the count of those that came. So no two have one number.
use Rattle.std.proofs.Common.{◌≡◌, ℕ, ◌+◌, ◌≢◌, sym, ◌∙◌, arith, List, [], ◌∷◌, ◌++◌, length, append_assoc, append-nil, add-zero, true, ltb, Some, All}
use Rattle.std.specs.List.{AllPairs}
use Rattle.std.proofs.lemmas.Bool.{and_parts}
use Rattle.std.proofs.lemmas.Bool.Decides.{nat_tests}
use Rattle.std.proofs.lemmas.List.Elements.{All-nil, All-cons}
use Rattle.std.proofs.lemmas.List.Kept.{AllPairs-cons}
use Rattle.t32_base.specs.declared.process.Pid.{Pid}
use Rattle.t32_base.specs.declared.letter.Arrived.{Arrived}
use Rattle.t32_base.specs.declared.letter.Letter.{Letter}
use Rattle.sys_text.specs.declared.system.System.{System}
use Rattle.proc_state.specs.Queues.{DiffersFrom}
use Rattle.proc_state.specs.State.{ProcState}
use Rattle.bus_msg.specs.declared.entry.Entry.{Entry}
use Rattle.cert_sched.specs.Parts.{upto_last, after_last}
use Rattle.cert_sched.specs.Deeds.{starts, letters_to, numbered, saved_letters, start_of}
use Rattle.log_laws.specs.letters.Numbered.{are_above, are_in_order, are_numbered}
use Rattle.log_laws.proofs.letters.MailNumbers.{last_numbered, process_numbered}

-- letters that come, one after the other
more_numbered : (n : ℕ) (letters : List Letter) (mail : List Arrived) → are_numbered n mail ≡ true → are_numbered (n + length letters) (mail ++ numbered n letters) ≡ true
more_numbered n [] mail is = (λ i. are_numbered (add-zero n i) (append-nil mail i)) ∙ is
more_numbered n (letter ∷ letters) mail is =
    let last : Arrived = record { number = n; letter = letter } in
    let count : n + length (letter ∷ letters) ≡ n + 1 + length letters = omega arith in
    let parts : mail ++ last ∷ numbered (n + 1) letters ≡ (mail ++ last ∷ []) ++ numbered (n + 1) letters = sym (append_assoc mail (last ∷ []) (numbered (n + 1) letters)) in
    (λ i. are_numbered (count i) (parts i)) ∙ more_numbered (n + 1) letters (mail ++ last ∷ []) (last_numbered n letter mail is)

-- from where the process started
pub saved_numbered : (system : System) (log : List Entry) (p : Pid) (start : ProcState) → start_of system log p ≡ Some start
    → are_numbered (start.next + length (letters_to p (after_last (starts p) log))) (saved_letters log p start) ≡ true
saved_numbered system log p start started = more_numbered start.next (letters_to p (after_last (starts p) log)) start.mail (process_numbered system (upto_last (starts p) log) p start started)

-- ---- no two have one number

not_same : (m n : ℕ) → ltb m n ≡ true → m ≢ n
not_same m n less = grind (arith, nat_tests)

above_differ : (a : Arrived) (letters : List Arrived) → are_above a.number letters ≡ true → All (DiffersFrom a) letters
above_differ a [] above = All-nil (DiffersFrom a)
above_differ a (b ∷ letters) above =
    let parts = and_parts (ltb a.number b.number) (are_above a.number letters) above in
    All-cons (DiffersFrom a) b letters (not_same a.number b.number parts.0) (above_differ a letters parts.1)

pub order_differ : (letters : List Arrived) → are_in_order letters ≡ true → AllPairs DiffersFrom letters
order_differ [] rises = λ i j d below within. absurd (omega arith)
order_differ (a ∷ letters) rises =
    let parts = and_parts (are_above a.number letters) (are_in_order letters) rises in
    AllPairs-cons DiffersFrom a letters (above_differ a letters parts.0) (order_differ letters parts.1)
