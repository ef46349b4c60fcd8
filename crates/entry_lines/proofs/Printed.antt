-- The line of an entry says its printed part.
use Rattle.std.proofs.Common.{◌≡◌, ℕ, true, false, List, [], ◌∷◌, ◌++◌, codes, Some, refl, ap, ◌∙◌}
use Rattle.std.specs.Fmt.{decimal}
use Rattle.t32_base.specs.declared.process.End.{End}
use Rattle.t32_base.specs.declared.process.End.TheVariants.{Exit as Exited, Trap, Killed, Limit}
use Rattle.t32_base.specs.declared.letter.Letter.{Letter}
use Rattle.t32_base.specs.declared.letter.BackRec.{BackRec}
use Rattle.t32_base.specs.declared.letter.Body.{Body}
use Rattle.t32_base.specs.declared.letter.Body.TheVariants.{Said, EndOf, Signal}
use Rattle.t32_base.specs.declared.letter.To.{To}
use Rattle.t32_base.specs.declared.letter.To.TheVariants.{Proc, Tty}
use Rattle.bus_msg.specs.declared.entry.What.{What}
use Rattle.bus_msg.specs.declared.entry.What.TheVariants.{Mail, Exit, Sync, Rebackup}
use Rattle.bus_msg.specs.declared.entry.By.{By}
use Rattle.bus_msg.specs.declared.entry.By.TheVariants.{Cluster, Bus}
use Rattle.bus_msg.specs.declared.entry.Entry.{Entry}
use Rattle.bus_msg.specs.Text.{line_of, what_text as entry_text, by_text as entry_by, end_text as entry_end, letter_text as entry_letter, pids_text as entry_pids, first_steps}
use Rattle.entry_lines.specs.Text.{by_text, end_text, letter_text, pids_text, spaced, what_text, text_of}
use Rattle.entry_lines.specs.Told.{told_by, told_end, told_letter, told_what, told_of, pids_of}

end_told : (e : End) → entry_end e ≡ end_text (told_end e)
end_told (Exited s) = refl
end_told (Trap c) = refl
end_told (Killed g) = refl
end_told Limit = refl

body_told : (l : Letter) (b : Body) (to : To) → l.body ≡ b → entry_letter l to ≡ codes " " ++ letter_text (told_letter l to)
body_told l b (Tty t) e = refl
body_told l (Said bytes) (Proc p end) e = rw e refl
body_told l EndOf (Proc p end) e = rw e refl
body_told l (Signal g) (Proc p end) e = rw e refl

letter_told : (l : Letter) (to : To) → entry_letter l to ≡ codes " " ++ letter_text (told_letter l to)
letter_told l to = body_told l l.body to refl

pids_told : (recs : List BackRec) → entry_pids recs ≡ pids_text (pids_of recs)
pids_told [] = refl
pids_told (r ∷ rs) = ap (λ (t : List ℕ). spaced (r.pid).0 ++ t) (pids_told rs)

what_told : (w : What) → entry_text w ≡ what_text (told_what w)
what_told (Mail at letter) = ap (λ (t : List ℕ). codes "mail " ++ (decimal (letter.from).0 ++ (codes " at " ++ (decimal at ++ t)))) (letter_told letter letter.to)
what_told (Exit pid at end) = ap (λ (t : List ℕ). codes "exit " ++ (decimal pid.0 ++ (codes " at " ++ (decimal at ++ (codes " " ++ t))))) (end_told end)
what_told (Sync pid small read (Some g)) = refl
what_told (Rebackup to true recs) =
    ap (λ (t : List ℕ). codes "rebackup" ++ (t ++ (codes " at " ++ (decimal (first_steps recs) ++ (codes " to " ++ (decimal to.0 ++ codes " fresh")))))) (pids_told recs)
what_told (Rebackup to false recs) = ap (λ (t : List ℕ). codes "rebackup" ++ (t ++ (codes " to " ++ (decimal to.0 ++ codes " standing")))) (pids_told recs)
what_told _ = refl

by_told : (b : By) → entry_by b ≡ by_text (told_by b)
by_told (Cluster k) = refl
by_told Bus = refl

pub line_told : (e : Entry) → line_of e ≡ text_of (told_of e)
line_told e =
    ap (λ (t : List ℕ). decimal e.place ++ (codes " " ++ (t ++ (codes " " ++ entry_text (e.post).what)))) (by_told (e.post).by)
    ∙ ap (λ (t : List ℕ). decimal e.place ++ (codes " " ++ (by_text (told_by (e.post).by) ++ (codes " " ++ t)))) (what_told (e.post).what)
