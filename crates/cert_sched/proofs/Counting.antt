-- So many items are read one after the other.
use Rattle.std.proofs.Common.{◌≡◌, ℕ, suc, ◌+◌, List, [], ◌∷◌, ◌++◌, Option, Some, None, Result, Ok, Err, refl, sym, ap, ◌∙◌, append_assoc}
use Rattle.std.specs.Option.{option_map}
use Rattle.plain_kernel.specs.declared.item.Item.{Item}
use Rattle.cert_sched.specs.ItemLine.{item_of}
use Rattle.cert_sched.specs.Reading.{next_item, with_item, reading_from}

-- items before what is read next
abbrev pub with_front : List Item → Result (List Item) ℕ → Result (List Item) ℕ
with_front front (Ok items) = Ok (front ++ items)
with_front front (Err bad) = Err bad

-- the items so far, and what reading the lines that are left gives
pub record ReadsOn (total : Result (List Item) ℕ) (items : List Item) (index left : ℕ) (lines : List (List (List ℕ))) : Type 0 where
  pub same : with_front items (reading_from index left lines) ≡ total

front-more : (front : List Item) (item : Item) (index : ℕ) (r : Result (List Item) ℕ) → with_front (front ++ item ∷ []) r ≡ with_front front (with_item index (Some item) r)
front-more front item index (Ok items) = ap Ok (append_assoc front (item ∷ []) items)
front-more front item index (Err bad) = refl

-- the next item is that of the first line
pub record IsNext (line : List (List ℕ)) (lines : List (List (List ℕ))) (item : Item) (after : List (List (List ℕ))) : Type 0 where
  pub item_is : item_of line ≡ Some item
  pub after_is : lines ≡ after

next_from : (line : List (List ℕ)) (lines : List (List (List ℕ))) (item : Item) (after : List (List (List ℕ))) (o : Option Item) → item_of line ≡ o → option_map {U = Item × List (List (List ℕ))} (λ (i : Item). (i, lines)) o ≡ Some (item, after) → IsNext line lines item after
next_from line lines item after None is e = absurd cc
next_from line lines item after (Some i) is e =
    let item_same : Some i ≡ Some item = ap (option_map (λ (x : Item × List (List (List ℕ))). x.0)) e in
    let after_same : Some lines ≡ Some after = ap (option_map (λ (x : Item × List (List (List ℕ))). x.1)) e in
    record { item_is = is ∙ item_same; after_is = cc }

pub reads_more : (total : Result (List Item) ℕ) (items new : List Item) (index left less : ℕ) (lines : List (List (List ℕ))) (item : Item) (after : List (List (List ℕ))) → left ≡ suc less
    → next_item lines ≡ Some (item, after) → new ≡ items ++ item ∷ [] → ReadsOn total items index left lines → ReadsOn total new (index + 1) less after
reads_more total items new index left less [] item after more e new_is reads = absurd cc
reads_more total items new index left less (line ∷ lines) item after more e new_is reads =
    let next = next_from line lines item after (item_of line) refl e in
    let first : with_front items (reading_from index (suc less) (line ∷ lines)) ≡ total = ap (λ (n : ℕ). with_front items (reading_from index n (line ∷ lines))) (sym more) ∙ reads.same in
    record {
      same = ap (λ (ls : List (List (List ℕ))). with_front new (reading_from (index + 1) less ls)) (sym next.after_is)
          ∙ ap (λ (front : List Item). with_front front (reading_from (index + 1) less lines)) new_is
          ∙ front-more items item index (reading_from (index + 1) less lines)
          ∙ ap (λ (o : Option Item). with_front items (with_item index o (reading_from (index + 1) less lines))) (sym next.item_is)
          ∙ first;
    }

none_from : (line : List (List ℕ)) (lines : List (List (List ℕ))) (o : Option Item) → option_map {U = Item × List (List (List ℕ))} (λ (i : Item). (i, lines)) o ≡ None → o ≡ None
none_from line lines None e = refl
none_from line lines (Some i) e = absurd cc

pub reads_bad : (total : Result (List Item) ℕ) (items : List Item) (index left less : ℕ) (lines : List (List (List ℕ))) → left ≡ suc less → next_item lines ≡ None → ReadsOn total items index left lines → total ≡ Err index
reads_bad total items index left less [] more e reads = sym reads.same ∙ rw more refl
reads_bad total items index left less (line ∷ lines) more e reads =
    sym reads.same ∙ rw more (ap (λ (o : Option Item). with_front items (with_item index o (reading_from (index + 1) less lines))) (none_from line lines (item_of line) e))
