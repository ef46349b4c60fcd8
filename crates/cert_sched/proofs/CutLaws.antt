use Rattle.std.proofs.Common.{◌≡◌, refl, sym, ◌∙◌, ap, List, [], ◌∷◌, true, Option, Some, None, is_some, true≢false}
use Rattle.std.specs.Prelude.{option_map}
use Rattle.std.proofs.lemmas.Bool.{and_parts}
use Rattle.t32_base.specs.declared.process.Pid.{Pid}
use Rattle.t32_base.specs.declared.letter.BackRec.{BackRec}
use Rattle.bus_msg.specs.declared.entry.What.{What}
use Rattle.bus_msg.specs.declared.entry.What.TheVariants.{Sync, Rebackup}
use Rattle.bus_msg.specs.declared.entry.By.{By}
use Rattle.bus_msg.specs.declared.entry.By.TheVariants.{Cluster, Bus}
use Rattle.bus_msg.specs.declared.placed.Placed.{Placed}
use Rattle.bus_msg.specs.Places.{Places, unended_at}
use Rattle.cert_sched.specs.Deeds.{is_cut, is_first}
use Rattle.cert_sched.specs.Steps.{process_of}
use Rattle.cert_sched.specs.Rules.{is_by, is_living, is_by_home, is_by_right}
use Rattle.cert_sched.proofs.CameLaws.{same_of}

-- ---- who cuts a process

-- what cuts a process is an entry of that process
pub cut_is_of : (p : Pid) (w : What) → is_cut p w ≡ true → process_of w ≡ Some p
cut_is_of p (Sync pid small read took) cut = ap Some (same_of pid p cut)
cut_is_of p (Rebackup to fresh recs) cut = by_first recs (and_parts fresh (is_first p recs) cut).1
  where
    by_first : (recs : List BackRec) → is_first p recs ≡ true → process_of (Rebackup to fresh recs) ≡ Some p
    by_first [] first = absurd (true≢false (sym first))
    by_first (r ∷ rs) first = ap Some (same_of r.pid p first)
cut_is_of p _ cut = absurd (true≢false (sym cut))

-- it comes by right from the home of its process
pub cut_by_home : (places : Places) (by : By) (p : Pid) (w : What) → is_by_right places by w ≡ true → is_cut p w ≡ true → is_by_home places by (Some p) ≡ true
cut_by_home places by p (Sync pid small read took) right cut = ap (is_by_home places by) (sym (cut_is_of p (Sync pid small read took) cut)) ∙ right
cut_by_home places by p (Rebackup to fresh recs) right cut = ap (is_by_home places by) (sym (cut_is_of p (Rebackup to fresh recs) cut)) ∙ right
cut_by_home places by p _ right cut = absurd (true≢false (sym cut))

-- who sends as the home of a process has it among those that have not ended
pub by_home_there : (places : Places) (by : By) (p : Pid) → is_by_home places by (Some p) ≡ true → is_some (unended_at places p) ≡ true
by_home_there places by p right = by_placed (unended_at places p) (and_parts (is_living places by) (is_by by (option_map (λ (q : Placed). q.home) (unended_at places p))) right).1
  where
    by_none : (by : By) → is_by by None ≡ true → ⊥
    by_none (Cluster k) h = true≢false (sym h)
    by_none Bus h = true≢false (sym h)

    by_placed : (o : Option Placed) → is_by by (option_map (λ (q : Placed). q.home) o) ≡ true → is_some o ≡ true
    by_placed None h = absurd (by_none by h)
    by_placed (Some q) h = refl

-- so a process that is cut has not ended
pub cut_unended : (places : Places) (by : By) (p : Pid) (w : What) → is_by_right places by w ≡ true → is_cut p w ≡ true → is_some (unended_at places p) ≡ true
cut_unended places by p w right cut = by_home_there places by p (cut_by_home places by p w right cut)
