-- Which logs are legal.
use Rattle.std.specs.Prelude.{◌≡◌, true, List, [], ◌∷◌, ◌++◌, is_some, ⊤}
use Rattle.sys_text.specs.declared.system.System.{System}
use Rattle.bus_msg.specs.declared.entry.What.{What}
use Rattle.bus_msg.specs.declared.entry.Entry.{Entry}
use Rattle.bus_msg.specs.PlacedAfter.{what}
use Rattle.cert_sched.specs.Schedule.{plain_after, placement}
use Rattle.cert_sched.specs.Steps.{process_of}
use Rattle.cert_sched.specs.Rules.{IsPlaced, is_by_right, holds_of, is_limited, awaits_pages, is_within_limits, keeps_backups, is_new_page, has_its_pages}
use Rattle.cert_sched.specs.Kinds.{KindHolds}

-- What every entry keeps: its place and destinations, who sends it, its items can be applied, and what its kind asks holds.
pub record Stands (system : System) (log : List Entry) (e : Entry) : Type 0 where
  pub placed : IsPlaced system log e
  pub by_right : is_by_right (placement system log) (e.post).by (what e) ≡ true
  pub applies : is_some (plain_after system (log ++ e ∷ [])) ≡ true
  pub kind : KindHolds system log e (what e)

-- what tells of steps leaves its process within the limits between two cuts
abbrev pub KeepsLimits : System → List Entry → What → Type 0
KeepsLimits system log w = holds_of (is_limited w) (process_of w) (is_within_limits system log w) ≡ true

-- a process that was moved with a state does nothing before it has got its pages
abbrev pub KeepsWaits : System → List Entry → Entry → Type 0
KeepsWaits system log e = holds_of (awaits_pages (what e)) (process_of (what e)) (has_its_pages system log) ≡ true

-- An entry may stand next in a log by all rules but that of new backups: it stands, and keeps the limits between two cuts and the waits for pages.
pub record MayStand (system : System) (log : List Entry) (e : Entry) : Type 0 where
  pub stands : Stands system log e
  pub limits : KeepsLimits system log (what e)
  pub new_page : is_new_page system log (what e) ≡ true
  pub pages : KeepsWaits system log e

-- An entry may follow in a log: it may stand next, and keeps the rule of new backups.
pub record MayFollow (system : System) (log : List Entry) (e : Entry) : Type 0 where
  pub stands : Stands system log e
  pub limits : KeepsLimits system log (what e)
  pub backup : keeps_backups system log (what e) ≡ true
  pub new_page : is_new_page system log (what e) ≡ true
  pub pages : KeepsWaits system log e

-- ---- logs

-- each further entry may stand where it stands, by a rule
abbrev pub IsLegalFrom : (System → List Entry → Entry → Type 0) → System → List Entry → List Entry → Type 0
IsLegalFrom May system log [] = ⊤
IsLegalFrom May system log (e ∷ rest) = May system log e × IsLegalFrom May system (log ++ e ∷ []) rest

-- each entry of a log may stand where it stands, by a rule
unfoldable pub IsLegalBy : (System → List Entry → Entry → Type 0) → System → List Entry → Type 0
IsLegalBy May system log = IsLegalFrom May system [] log

-- a legal log
abbrev pub IsLegal : System → List Entry → Type 0
IsLegal system log = IsLegalBy MayFollow system log
