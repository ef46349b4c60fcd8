-- What may be found against a printed section. What stands first is looked for first, and each leaves no room for the next.
use Rattle.std.specs.Prelude.{ℕ, ◌≡◌, List, map, take, slice_get, Option, Some, None}
use Rattle.sys_text.specs.declared.system.System.{System}
use Rattle.bus_msg.specs.declared.entry.Entry.{Entry}
use Rattle.cert_sched.specs.Legal.{IsLegalBy}
use Rattle.report_text.specs.declared.run.Ended.{Ended}
use Rattle.report_text.specs.Good.{EndsAs}
use Rattle.entry_lines.specs.declared.told.Told.{Told}
use Rattle.entry_lines.specs.Told.{told_of}
use Rattle.log_section.specs.Form.{IsForm, form_of}
use Rattle.audit_text.specs.declared.finding.Finding.{Finding}
use Rattle.audit_text.specs.declared.finding.Finding.TheVariants.{Form, Entry as Refused, Unended, Report}
use Rattle.audit_rules.specs.Explained.{ExplainedBy}

module _ (May : System → List Entry → Entry → Type 0) (system : System) where
  -- the log is legal, by the rule, and its entries have these lines
  pub record HasLines (lines : List Told) (log : List Entry) : Type 0 where
    pub legal : IsLegalBy May system log
    pub said : map told_of log ≡ lines

  -- done stands last, or a loss that was not covered
  abbrev pub HasEnded : List Entry → Type 0
  HasEnded log = (ended : Ended) × EndsAs system log ended

  -- some legal log has the lines in front of this one, and after no such log an entry with this line may stand
  pub record IsRefusedAt (lines : List Told) (index : ℕ) : Type 0 where
    pub log : List Entry
    pub before : HasLines (take index lines) log
    pub line : Told
    pub there : slice_get lines index ≡ Some line
    pub none : (log : List Entry) (e : Entry) → HasLines (take index lines) log → told_of e ≡ line → May system log e → ⊥

  -- some legal log has all lines, and no such log has ended
  pub record IsOpen (lines : List Told) : Type 0 where
    pub log : List Entry
    pub all : HasLines lines log
    pub none : (log : List Entry) → HasLines lines log → HasEnded log → ⊥

  -- some legal log has all lines and has ended, and the section is explained by none
  pub record IsMisreported (section : List ℕ) (lines : List Told) : Type 0 where
    pub log : List Entry
    pub all : HasLines lines log
    pub ended : HasEnded log
    pub none : ExplainedBy May system section → ⊥

  -- what is found
  abbrev pub AuditCause : List ℕ → Finding → Type 0
  AuditCause section Form = form_of section ≡ None
  AuditCause section (Refused index) = (lines : List Told) × IsForm section lines × IsRefusedAt lines index
  AuditCause section Unended = (lines : List Told) × IsForm section lines × IsOpen lines
  AuditCause section Report = (lines : List Told) × IsForm section lines × IsMisreported section lines

  -- what an audit answers: that the section is explained, or what is found against it
  abbrev pub Audits : List ℕ → Option Finding → Type 0
  Audits section None = ExplainedBy May system section
  Audits section (Some found) = AuditCause section found
