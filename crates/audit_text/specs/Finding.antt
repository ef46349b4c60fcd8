-- What is said of an audit.
use Rattle.std.specs.Prelude.{ℕ, List, ◌++◌, codes}
use Rattle.std.specs.Fmt.{decimal}
use Rattle.audit_text.specs.declared.finding.Finding.{Finding}
use Rattle.audit_text.specs.declared.finding.Finding.TheVariants.{Form, Entry, Unended, Report}

-- the line that is written
abbrev pub line_of : Finding → List ℕ
line_of Form = codes "t32: audit form\n"
line_of (Entry index) = codes "t32: audit entry " ++ (decimal index ++ codes "\n")
line_of Unended = codes "t32: audit unended\n"
line_of Report = codes "t32: audit report\n"

-- the same in plain words
abbrev pub words_of : Finding → List ℕ
words_of Form = codes "t32: what stands behind the system text is no report with its log: a line is malformed, missing or one too many\n"
words_of (Entry index) =
    codes "t32: entry " ++ (decimal index ++ codes " of the log may not stand there: no entry with this line may follow those before it\n")
words_of Unended = codes "t32: the log ends neither with done nor with a loss that was not covered\n"
words_of Report = codes "t32: the entries of the log may stand there, and the report in front of them is not what is printed of them\n"
