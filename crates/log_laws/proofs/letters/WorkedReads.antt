-- Three letters that a process got, two of them for its end 1: it may have read the first of those, and not the second before it.
use Rattle.std.proofs.Common.{◌≡◌, ℕ, ◌<◌, refl, sym, arith, List, [], ◌∷◌, true, false, true≢false}
use Rattle.std.proofs.lemmas.List.Elements.{All-head, All-tail}
use Rattle.t32_base.specs.declared.letter.Arrived.{Arrived}
use Rattle.t32_base.specs.declared.letter.Body.TheVariants.{EndOf}
use Rattle.t32_base.specs.declared.letter.To.TheVariants.{Proc}
use Rattle.proc_state.specs.Mail.{end_of, is_on}
use Rattle.backup_queue.specs.Queue.{is_unread}
use Rattle.backup_queue.proofs.ReadingLaws.{ends_at_start, ends_read, fronts_at_start, fronts_read}
use Rattle.log_laws.specs.letters.Numbered.{are_in_order, are_numbered}
use Rattle.log_laws.specs.letters.ReadsFrom.{ReadsFrom}
use Rattle.log_laws.proofs.letters.SavedNumbers.{order_differ}

abbrev came : ℕ → ℕ → Arrived
came number end = record { number = number; letter = record { from = record { 0 = 17 }; out = 1; to = Proc (record { 0 = 16 }) end; body = EndOf } }

abbrev saved : List Arrived
saved = came 0 1 ∷ came 1 2 ∷ came 2 1 ∷ []

first_read : ReadsFrom saved (came 1 2 ∷ came 2 1 ∷ [])
first_read = record {
  left = refl;
  fronts = fronts_read [] 1 saved (came 0 1) (order_differ saved refl) refl (fronts_at_start saved);
  ends = ends_read [] 1 saved (came 0 1) (order_differ saved refl) refl (omega arith) (ends_at_start saved);
}

not_the_second : ReadsFrom saved (came 0 1 ∷ came 1 2 ∷ []) → ⊥
not_the_second reads =
    let behind = All-tail (λ (a : Arrived). is_on 1 a ≡ true → is_unread (2 ∷ []) a ≡ true) (came 1 2) (came 2 1 ∷ []) (reads.fronts.0 refl) in
    true≢false (sym (All-head (λ (a : Arrived). is_on 1 a ≡ true → is_unread (2 ∷ []) a ≡ true) (came 2 1) [] behind refl))

-- a letter that is not for one of the 32 ends was not read
not_beyond : ReadsFrom (came 0 32 ∷ []) [] → ⊥
not_beyond reads = let within = All-head (λ (a : Arrived). is_unread (0 ∷ []) a ≡ false → end_of (a.letter).to < 32) (came 0 32) [] reads.ends refl in absurd (omega (arith, within))

-- their numbers rise and are below 3
three_numbered : are_numbered 3 saved ≡ true
three_numbered = refl

-- and not all are below 2
not_below_two : are_numbered 2 saved ≡ false
not_below_two = refl

not_in_order : are_in_order (came 1 2 ∷ came 0 1 ∷ []) ≡ false
not_in_order = refl
