-- Two legal logs with the same printed lines are alike.
use Rattle.std.proofs.Common.{◌≡◌, refl, sym, List, [], ◌∷◌, ◌++◌, map, true}
use Rattle.sys_text.specs.declared.system.System.{System}
use Rattle.sys_text.specs.Valid.{is_system}
use Rattle.bus_msg.specs.declared.entry.Entry.{Entry}
use Rattle.cert_sched.specs.Legal.{IsLegal, IsLegalBy, IsLegalFrom, MayFollow, Stands}
use Rattle.cert_sched.proofs.LogLaws.{IsLegal-snoc}
use Rattle.entry_lines.specs.Told.{told_of}
use Rattle.line_laws.specs.Meant.{with_reads_rising}
use Rattle.line_laws.proofs.Determined.{same_entries}
use Rattle.read_orders.specs.Alike.{AreAlike}
use Rattle.read_orders.proofs.Same.{alike-snoc}
use Rattle.read_orders.proofs.GoesOn.{goes_on}

module _ (system : System) (valid : is_system system ≡ true) where
  -- logs that are alike so far go on alike, line by line
  alike_from : (log other rest more : List Entry) → AreAlike log other → IsLegalBy Stands system log → IsLegalFrom MayFollow system log rest → IsLegalFrom MayFollow system other more
      → map told_of rest ≡ map told_of more → AreAlike rest more
  alike_from log other [] [] alike legal follow others same = refl
  alike_from log other [] (f ∷ more) alike legal follow others same = cc
  alike_from log other (e ∷ rest) [] alike legal follow others same = cc
  alike_from log other (e ∷ rest) (f ∷ more) alike legal follow others same =
      let first : told_of e ≡ told_of f = cc in
      let later : map told_of rest ≡ map told_of more = cc in
      let here : MayFollow system log f = goes_on system other log (sym alike) f others.0 in
      let equal : with_reads_rising e ≡ with_reads_rising f = same_entries system log e f valid legal (follow.0).stands here.stands first in
      λ i. equal i ∷ alike_from (log ++ e ∷ []) (other ++ f ∷ []) rest more (alike-snoc log other e f alike equal) (IsLegal-snoc Stands system log e legal (follow.0).stands) follow.1 others.1 later i

  pub same_lines_alike : (log other : List Entry) → IsLegal system log → IsLegal system other → map told_of log ≡ map told_of other → AreAlike log other
  unfolding IsLegalBy
  same_lines_alike log other legal another same = alike_from [] [] log other refl tt legal another same
