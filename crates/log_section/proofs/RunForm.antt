-- The parts of a report that tell of the run are passed.
use Rattle.std.proofs.Common.{◌≡◌, ℕ, Bool, true, false, if◌then◌else◌, List, [], ◌∷◌, ◌++◌, ◌||◌, length, codes, Option, Some, None, refl, sym, ap, ◌∙◌, arith, append_assoc, true≢false}
use Rattle.std.specs.List.{flat_map, list_any}
use Rattle.std.specs.Option.{option_map, option_map_or, option_and_then}
use Rattle.std.specs.Fmt.{decimal}
use Rattle.t32_base.specs.declared.process.ClusterNo.{ClusterNo}
use Rattle.plain_kernel.specs.declared.item.Item.{Item}
use Rattle.plain_kernel.specs.declared.item.Item.TheVariants.{Run as Runs, Fork, Take}
use Rattle.bus_msg.specs.declared.entry.Entry.{Entry}
use Rattle.bus_msg.specs.declared.entry.What.{What}
use Rattle.bus_msg.specs.declared.entry.What.TheVariants.{Mail, Birth, Exit, Page, Sync, Fetch, PageIs, Crash, Return, Rebackup, Done, Stop}
use Rattle.bus_msg.specs.PlacedAfter.{what}
use Rattle.cert_sched.specs.Printing.{item_line, ended, item_lines, items_text_of}
use Rattle.entry_lines.specs.Told.{IsSmall, WhatFits, told_what}
use Rattle.report_text.specs.Report.{newline}
use Rattle.report_text.specs.RunReport.{at_place, loss_part, is_crash, no_crash, losses_part, lost_part, bus_part}
use Rattle.report_text.specs.declared.run.Ended.{Ended}
use Rattle.report_text.specs.declared.run.Ended.TheVariants.{Finished, Lost}
use Rattle.log_section.specs.Lines.{Left, past, behind_line, behind_one, behind_count, behind_most}
use Rattle.log_section.specs.Form.{behind_tty, process_shapes, no_crash_shape, loss_shapes, item_shapes, behind_some_losses, behind_losses, behind_lost, behind_bus, behind_items}
use Rattle.log_section.specs.Printed.{ItemFits, ItemsFit, LogFits, EndedFits}
use Rattle.log_section.proofs.Passing.{number_past, number_followed, no_number}
use Rattle.log_section.proofs.Reaching.{Reaches, of_part, of_nothing, reach_here, reach_more}

-- ---- losses

-- behind the word of a loss: a cluster, a place
place_line : (signs : List ℕ) (k n : ℕ) (rest : List ℕ) → IsSmall k → IsSmall n
    → past (codes "# at #\n") (0, (decimal k ++ (codes " at " ++ (decimal n ++ newline))) ++ rest) ≡ Some (n, rest)
place_line signs k n rest small small' =
    number_past (codes " at #\n") 0 k 32 (codes "at " ++ (decimal n ++ newline)) rest small refl
    ∙ number_past (codes "\n") k n 10 [] rest small' refl

crash_passed : (k : ClusterNo) (n : ℕ) (rest : List ℕ) → IsSmall k.0 → IsSmall n → behind_one loss_shapes (at_place (codes "crash ") k n ++ rest) ≡ Some rest
crash_passed k n rest small small' =
    ap (λ (o : Option Left). option_map_or (λ (left : Left). Some left.1) o (behind_one (codes "return # at #\n" ∷ []) (at_place (codes "crash ") k n ++ rest))) (place_line [] k.0 n rest small small')

return_passed : (k : ClusterNo) (n : ℕ) (rest : List ℕ) → IsSmall k.0 → IsSmall n → behind_one loss_shapes (at_place (codes "return ") k n ++ rest) ≡ Some rest
return_passed k n rest small small' =
    ap (λ (o : Option Left). option_map_or (λ (left : Left). Some left.1) o None) (place_line [] k.0 n rest small small')

-- a crash is no line that there was none
crash_is_some : (k : ClusterNo) (n : ℕ) (rest : List ℕ) → IsSmall k.0 → behind_line no_crash_shape (at_place (codes "crash ") k n ++ rest) ≡ None
crash_is_some k n rest small =
    let tail = codes " at " ++ (decimal n ++ newline) in
    ap (λ (text : List ℕ). past (codes "none\n") (0, text)) (append_assoc (decimal k.0) tail rest)
    ∙ no_number 110 (codes "one\n") 0 k.0 (tail ++ rest) small refl refl

-- neither a process nor a terminal stands in front
abbrev pub IsOther : List ℕ → Type 0
IsOther text = (behind_one process_shapes text ≡ None) × (behind_tty text ≡ None)

-- Nothing is printed of what is said, and it is no crash; or its line is passed as that of a loss, and does not say that there was no crash.
data LossIs (place : ℕ) (w : What) : Type 0 where
  NoLoss : loss_part place w ≡ [] → is_crash w ≡ false → LossIs place w
  OneLoss : (b : ℕ) (line : List ℕ) → loss_part place w ≡ b ∷ line → ((rest : List ℕ) → behind_one loss_shapes ((b ∷ line) ++ rest) ≡ Some rest)
      → ((rest : List ℕ) → behind_line no_crash_shape ((b ∷ line) ++ rest) ≡ None) → ((rest : List ℕ) → IsOther ((b ∷ line) ++ rest)) → LossIs place w

loss_is : (place : ℕ) (w : What) → IsSmall place → WhatFits (told_what w) → LossIs place w
loss_is place (Crash k cause) small fits = OneLoss _ _ refl (λ rest. crash_passed k place rest fits.0 small) (λ rest. crash_is_some k place rest fits.0) (λ rest. (refl, refl))
loss_is place (Return k) small fits = OneLoss _ _ refl (λ rest. return_passed k place rest fits small) (λ rest. refl) (λ rest. (refl, refl))
loss_is place (Mail a b) small fits = NoLoss refl refl
loss_is place (Birth a b c d) small fits = NoLoss refl refl
loss_is place (Exit a b c) small fits = NoLoss refl refl
loss_is place (Page a b c d) small fits = NoLoss refl refl
loss_is place (Sync a b c d) small fits = NoLoss refl refl
loss_is place (Fetch a b) small fits = NoLoss refl refl
loss_is place (PageIs a b c) small fits = NoLoss refl refl
loss_is place (Rebackup a b c) small fits = NoLoss refl refl
loss_is place (Done a) small fits = NoLoss refl refl
loss_is place Stop small fits = NoLoss refl refl

abbrev each_loss : List Entry → List ℕ
each_loss log = flat_map (λ (e : Entry). loss_part e.place (what e)) log

losses_reach : (log : List Entry) (rest : List ℕ) → LogFits log → behind_one loss_shapes rest ≡ None → Reaches (behind_one loss_shapes) (each_loss log ++ rest) rest
losses_reach [] rest fits stops = reach_here (behind_one loss_shapes) rest stops
losses_reach (e ∷ es) rest fits stops = by_loss (loss_is e.place (what e) fits.0.0 fits.0.2) (losses_reach es rest fits.1 stops)
  where
    by_loss : LossIs e.place (what e) → Reaches (behind_one loss_shapes) (each_loss es ++ rest) rest → Reaches (behind_one loss_shapes) ((loss_part e.place (what e) ++ each_loss es) ++ rest) rest
    by_loss (NoLoss none unlost) more = of_nothing (λ (text : List ℕ). Reaches (behind_one loss_shapes) text rest) (loss_part e.place (what e)) (each_loss es) rest none more
    by_loss (OneLoss b line is passes some other) more =
        of_part (λ (text : List ℕ). Reaches (behind_one loss_shapes) text rest) (loss_part e.place (what e)) (b ∷ line) (each_loss es) rest is
        (reach_more (behind_one loss_shapes) b line (each_loss es ++ rest) rest (passes (each_loss es ++ rest)) more)

some_losses : (log : List Entry) (rest : List ℕ) → LogFits log → list_any (λ (e : Entry). is_crash (what e)) log ≡ true → behind_one loss_shapes rest ≡ None
    → behind_losses (each_loss log ++ rest) ≡ Some rest
some_losses [] rest fits crashed stops = absurd (true≢false (sym crashed))
some_losses (e ∷ es) rest fits crashed stops = by_loss (λ h. some_losses es rest fits.1 h stops) (loss_is e.place (what e) fits.0.0 fits.0.2)
  where
    by_loss : (list_any (λ (f : Entry). is_crash (what f)) es ≡ true → behind_losses (each_loss es ++ rest) ≡ Some rest) → LossIs e.place (what e)
        → behind_losses ((loss_part e.place (what e) ++ each_loss es) ++ rest) ≡ Some rest
    by_loss more (NoLoss none unlost) =
        of_nothing (λ (text : List ℕ). behind_losses text ≡ Some rest) (loss_part e.place (what e)) (each_loss es) rest none
        (more (ap (λ (b : Bool). b || list_any (λ (f : Entry). is_crash (what f)) es) (sym unlost) ∙ crashed))
    by_loss more (OneLoss b line is passes some other) =
        let left = each_loss es ++ rest in
        let text = (b ∷ line) ++ left in
        of_part (λ (t : List ℕ). behind_losses t ≡ Some rest) (loss_part e.place (what e)) (b ∷ line) (each_loss es) rest is
        (ap (λ (o : Option Left). option_map_or (λ (l : Left). Some l.1) o (behind_some_losses text)) (some left)
        ∙ ap (option_map (λ (r : List ℕ). behind_most (behind_one loss_shapes) (length r) r)) (passes left)
        ∙ ap Some (losses_reach es rest fits.1 stops (length left) (omega arith)))

pub losses_passed : (log : List Entry) (rest : List ℕ) → LogFits log → behind_one loss_shapes rest ≡ None → behind_losses (losses_part log ++ rest) ≡ Some rest
losses_passed log rest fits stops = by_crash (list_any (λ (e : Entry). is_crash (what e)) log) refl
  where
    by_crash : (b : Bool) → list_any (λ (e : Entry). is_crash (what e)) log ≡ b → behind_losses ((if b then each_loss log else no_crash) ++ rest) ≡ Some rest
    by_crash true e = some_losses log rest fits e stops
    by_crash false e = refl

some_other : (log : List Entry) (rest : List ℕ) → LogFits log → list_any (λ (e : Entry). is_crash (what e)) log ≡ true → IsOther (each_loss log ++ rest)
some_other [] rest fits crashed = absurd (true≢false (sym crashed))
some_other (e ∷ es) rest fits crashed = by_loss (λ h. some_other es rest fits.1 h) (loss_is e.place (what e) fits.0.0 fits.0.2)
  where
    by_loss : (list_any (λ (f : Entry). is_crash (what f)) es ≡ true → IsOther (each_loss es ++ rest)) → LossIs e.place (what e) → IsOther ((loss_part e.place (what e) ++ each_loss es) ++ rest)
    by_loss more (NoLoss none unlost) =
        of_nothing IsOther (loss_part e.place (what e)) (each_loss es) rest none (more (ap (λ (b : Bool). b || list_any (λ (f : Entry). is_crash (what f)) es) (sym unlost) ∙ crashed))
    by_loss more (OneLoss b line is passes some other) = of_part IsOther (loss_part e.place (what e)) (b ∷ line) (each_loss es) rest is (other (each_loss es ++ rest))

-- the losses are neither processes nor terminals
pub losses_other : (log : List Entry) (rest : List ℕ) → LogFits log → IsOther (losses_part log ++ rest)
losses_other log rest fits = by_crash (list_any (λ (e : Entry). is_crash (what e)) log) refl
  where
    by_crash : (b : Bool) → list_any (λ (e : Entry). is_crash (what e)) log ≡ b → IsOther ((if b then each_loss log else no_crash) ++ rest)
    by_crash true e = some_other log rest fits e
    by_crash false e = (refl, refl)

-- ---- the run that was lost, and the bus

pub lost_passed : (ended : Ended) (more : List ℕ) → EndedFits ended → behind_lost (lost_part ended ++ (98 ∷ more)) ≡ 98 ∷ more
lost_passed Finished more fits = refl
lost_passed (Lost k at) more fits = ap (λ (o : Option Left). option_map_or (λ (left : Left). left.1) o (at_place (codes "lost ") k at ++ (98 ∷ more))) (place_line [] k.0 at (98 ∷ more) fits.0 fits.1)

pub bus_passed : (entries syncs withheld : ℕ) (rest : List ℕ) → IsSmall entries → IsSmall syncs → IsSmall withheld → behind_bus (bus_part entries syncs withheld ++ rest) ≡ Some rest
bus_passed entries syncs withheld rest e s w =
    ap (option_map (λ (left : Left). left.1))
    (number_past (codes " syncs # withheld #\n") 0 entries 32 (codes "syncs " ++ (decimal syncs ++ (codes " withheld " ++ (decimal withheld ++ newline)))) rest e refl
    ∙ number_past (codes " withheld #\n") entries syncs 32 (codes "withheld " ++ (decimal withheld ++ newline)) rest s refl
    ∙ number_past (codes "\n") syncs withheld 10 [] rest w refl)

-- ---- the schedule

-- behind the word of an item: two numbers, or one
two_ended : (a b : ℕ) (rest : List ℕ) → IsSmall a → IsSmall b → past (codes "# #\n") (0, ((decimal a ++ (32 ∷ decimal b)) ++ 10 ∷ []) ++ rest) ≡ Some (b, rest)
two_ended a b rest small small' =
    ap (λ (text : List ℕ). past (codes "# #\n") (0, text)) (append_assoc (decimal a ++ (32 ∷ decimal b)) (10 ∷ []) rest)
    ∙ number_past (codes " #\n") 0 a 32 (decimal b) (10 ∷ rest) small refl
    ∙ number_followed (codes "\n") a b 10 rest small' refl

item_passed : (item : Item) (rest : List ℕ) → ItemFits item → behind_one item_shapes (ended (item_line item) ++ rest) ≡ Some rest
item_passed (Runs p n) rest fits =
    ap (λ (o : Option Left). option_map_or (λ (left : Left). Some left.1) o (behind_one (codes "fork # #\n" ∷ codes "take #\n" ∷ []) (ended (item_line (Runs p n)) ++ rest)))
    (two_ended p.0 n rest fits.0 fits.1)
item_passed (Fork p c) rest fits =
    ap (λ (o : Option Left). option_map_or (λ (left : Left). Some left.1) o (behind_one (codes "take #\n" ∷ []) (ended (item_line (Fork p c)) ++ rest))) (two_ended p.0 c.0 rest fits.0 fits.1)
item_passed (Take p) rest fits = ap (λ (o : Option Left). option_map_or (λ (left : Left). Some left.1) o None) (number_past (codes "\n") 0 p.0 10 [] rest fits refl)

lines_passed : (items : List Item) (rest : List ℕ) → ItemsFit items → behind_count (behind_one item_shapes) (length items) (item_lines items ++ rest) ≡ Some rest
lines_passed [] rest fits = refl
lines_passed (item ∷ items) rest fits =
    ap (λ (text : List ℕ). behind_count (behind_one item_shapes) (length (item ∷ items)) text) (append_assoc (ended (item_line item)) (item_lines items) rest)
    ∙ ap (option_and_then (behind_count (behind_one item_shapes) (length items))) (item_passed item (item_lines items ++ rest) fits.0)
    ∙ lines_passed items rest fits.1

pub items_passed : (items : List Item) (rest : List ℕ) → ItemsFit items → IsSmall (length items) → behind_items (items_text_of items ++ rest) ≡ Some rest
items_passed items rest fits few =
    let head = decimal (length items) ++ 10 ∷ [] in
    ap (λ (text : List ℕ). behind_items (codes "schedule " ++ text)) (append_assoc head (item_lines items) rest)
    ∙ ap (option_and_then (λ (left : Left). behind_count (behind_one item_shapes) left.0 left.1)) (number_past (codes "\n") 0 (length items) 10 [] (item_lines items ++ rest) few refl)
    ∙ lines_passed items rest fits
