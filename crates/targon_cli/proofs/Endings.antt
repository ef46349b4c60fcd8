-- Why a command ended as it did.
use Rattle.std.proofs.Common.{◌≡◌, sym, refl, subst, ℕ, Bool, true, false, List, [], ◌∷◌, ◌⊎◌, inl, inr, Option, Some, None, Global, arith, cond}
use Rattle.std.specs.Prelude.{◌==◌, Result, Ok, Err, IfOk, is_some}
use Rattle.std.proofs.lemmas.Bool.Decides.{nat_tests}
use Rattle.std.specs.declared.sync.Arc.{Arc}
use Rattle.t32_base.specs.declared.streams.NoMemory.{NoMemory}
use Rattle.cluster_run.specs.declared.life.Ran.{Ran}
use Rattle.cert_sched.specs.declared.script.ScriptWord.{ScriptWord}
use Rattle.command_words.specs.Command.{command_of}
use Rattle.command_words.specs.declared.command.Command.{Command}
use Rattle.refusal_text.specs.Why.{why_of}
use Rattle.refusal_text.specs.declared.why.Why.{Why}
use Rattle.sys_text.specs.Reading.{Answer}
use Rattle.sys_text.specs.declared.system.System.{System}
use Rattle.targon_cli.specs.declared.reply.Reply.{Reply}
use Rattle.targon_cli.specs.declared.runs.Read.TheVariants.{System as AsSystem}
use Rattle.targon_cli.specs.Answer.{In, Out, Takes, Says, Wrote, WriteFault}
use Rattle.targon_cli.specs.Reply.{IsRead, status_of}
use Rattle.targon_cli.specs.Sections.{items_of_lines}
use Rattle.targon_cli.specs.Explained.{Explains, ExplainsRun, ExplainsSection, ExplainsRunBy, IsByStatus, HandsWhy, ExplainsEnd, ByInput, ByStatus, ExplainsFound, Explained}
use Rattle.std.specs.Arc.{arc_value}
use Rattle.targon_cli.specs.Noted.{HandsNotes, MayNoteRun, Noted, NotedEnd, NotedFound, Notes, NotesRun, NotesRunBy, NotesSection, NotesSystem}
use Rattle.report_text.specs.declared.run.Ended.{Ended}
use Rattle.report_text.specs.declared.run.Ended.TheVariants.{Finished, Lost}

-- the status of what is said tells why, where the wanted one does
pub said_tells : (wanted : ℕ) (text : List ℕ) (status : ℕ) (old new : Out) → is_some (why_of wanted) ≡ true → Says wanted text status old new → is_some (why_of status) ≡ true
said_tells wanted text status old new t (Wrote e a) = rw e t
said_tells wanted text status old new t (WriteFault e r a) = rw e refl

-- another status than the wanted one is that of a write fault
pub other_tells : (wanted : ℕ) (text : List ℕ) (status : ℕ) (old new : Out) → (status ≡ wanted → ⊥) → Says wanted text status old new → is_some (why_of status) ≡ true
other_tells wanted text status old new n (Wrote e a) = absurd (n e)
other_tells wanted text status old new n (WriteFault e r a) = rw e refl

-- what was made of the whole input, and handed out, tells why the command ended so
pub ends_by : (command : Command) (bytes : List ℕ) (made : Result (Reply × Option Ran) NoMemory) (status : ℕ) (old new : In) (ended : Bool) (why : Option Why)
    → Takes command old new ended bytes → IfOk made (λ (r : Reply × Option Ran). Explains command bytes (r.0).status (r.0).why) → HandsWhy made status why → ExplainsEnd command status old new ended why
ends_by command bytes (Ok r) status old new ended why reads tells (inl same) =
    let P : ℕ → Type 0 = λ k. Explains command bytes k why in
    let Q : Option Why → Type 0 = λ w. Explains command bytes (r.0).status w in
    ByInput bytes reads (subst P (sym same.0) (subst Q (sym same.1) tells))
ends_by command bytes (Ok r) status old new ended why reads tells (inr by) = ByStatus by
ends_by command bytes (Err e) status old new ended why reads tells by = ByStatus by

-- what is said under a status tells why, by the reason for it or by another status
pub hands_why : (wanted : ℕ) (text : List ℕ) (status : ℕ) (old new : Out) (reason why : Option Why) → Says wanted text status old new → why ≡ cond (status == wanted) reason (why_of status)
    → ((status ≡ wanted) × (why ≡ reason)) ⊎ IsByStatus status why
hands_why wanted text status old new reason why says is = by_test (status == wanted) refl
  where
    by_test : (b : Bool) → (status == wanted) ≡ b → ((status ≡ wanted) × (why ≡ reason)) ⊎ IsByStatus status why
    by_test true e = let same : status ≡ wanted = grind (arith, nat_tests, e) in inl (same, rw e at is)
    by_test false e =
        let other : status ≡ wanted → ⊥ = λ same. absurd (grind (arith, nat_tests, e, same)) in
        inr (record { tells = other_tells wanted text status old new other says; told = rw e at is })

-- want of memory before anything was read: this is told, whatever the words are
pub explained_6 : (words : List (List ℕ)) (old new : In) (ended : Bool) (why : Option Why) → why ≡ why_of 6 → Explained words 6 old new ended why
explained_6 words old new ended why is = by_found (command_of words)
  where
    by_found : (found : Option Command) → ExplainsFound found 6 old new ended why
    by_found None = record { tells = refl; told = is }
    by_found (Some command) = ByStatus (record { tells = refl; told = is })

pub explained_found : (words : List (List ℕ)) (found : Option Command) (status : ℕ) (old new : In) (ended : Bool) (why : Option Why) → found ≡ command_of words
    → ExplainsFound found status old new ended why → Explained words status old new ended why
explained_found words found status old new ended why is explains = subst (λ (o : Option Command). ExplainsFound o status old new ended why) is explains

pub ends_same : (command other : Command) (status : ℕ) (old new : In) (ended : Bool) (why : Option Why) → command ≡ other → ExplainsEnd command status old new ended why
    → ExplainsEnd other status old new ended why
ends_same command other status old new ended why same ends = subst (λ (c : Command). ExplainsEnd c status old new ended why) same ends

-- the status of a run is 0 or 7
status_of_run : (ended : Ended) (status : ℕ) → status ≡ status_of ended → (status ≡ 0) ⊎ (status ≡ 7)
status_of_run Finished status e = inl e
status_of_run (Lost cluster at) status e = inr e

-- a system that has the clusters of its script is told of with nothing to explain
pub nothing_to_explain : (reading : Answer) (script : List ScriptWord) (lines : List (List ℕ)) (shared : Arc System Global) (ended : Ended) (status : ℕ) (why : Option Why) → IsRead reading script (AsSystem shared) → status ≡ status_of ended → why ≡ None
    → ExplainsRun reading script lines status why
nothing_to_explain (Ok system) script lines shared ended status why is e n = rw is.2 (status_of_run ended status e, n)
nothing_to_explain (Err refused) script lines shared ended status why is e n = absurd is

-- a section that has lines is explained
pub section_explains : (system : System) (before lines : List (List ℕ)) (status : ℕ) (why : Option Why) → (lines ≡ [] → ⊥) → ExplainsSection system before lines (items_of_lines lines) status why
    → ExplainsRunBy system before lines status why
section_explains system before [] status why n e = absurd (n refl)
section_explains system before (line ∷ lines) status why n e = e

-- ---- what is noted

-- of what was made of the whole input, and handed out
pub noted_by : (command : Command) (bytes : List ℕ) (made : Result (Reply × Option Ran) NoMemory) (ran : Option Ran) (old new : In) (ended : Bool) (notes : Option (List ℕ))
    → Takes command old new ended bytes → IfOk made (λ (r : Reply × Option Ran). Notes command bytes r.1 (r.0).notes) → HandsNotes made ran notes → NotedEnd command old new ended ran notes
noted_by command bytes (Ok r) ran old new ended notes reads noted (same, inl whole) =
    let P : Option Ran → Type 0 = λ o. Notes command bytes o (r.0).notes in
    let Q : Option (List ℕ) → Type 0 = λ n. Notes command bytes ran n in
    inl (bytes, reads, subst Q (sym whole) (subst P (sym same) noted))
noted_by command bytes (Ok r) ran old new ended notes reads noted (same, inr none) = inr none
noted_by command bytes (Err e) ran old new ended notes reads noted none = inr none

pub noted_same : (command other : Command) (old new : In) (ended : Bool) (ran : Option Ran) (notes : Option (List ℕ)) → command ≡ other → NotedEnd command old new ended ran notes → NotedEnd other old new ended ran notes
noted_same command other old new ended ran notes same noted = subst (λ (c : Command). NotedEnd c old new ended ran notes) same noted

pub noted_found : (words : List (List ℕ)) (found : Option Command) (old new : In) (ended : Bool) (ran : Option Ran) (notes : Option (List ℕ)) → found ≡ command_of words
    → NotedFound words found old new ended ran notes → Noted words old new ended ran notes
noted_found words found old new ended ran notes is noted = subst (λ (o : Option Command). NotedFound words o old new ended ran notes) is noted

-- nothing is noted, whatever the words are
pub none_noted : (words : List (List ℕ)) (old new : In) (ended : Bool) (ran : Option Ran) (notes : Option (List ℕ)) → notes ≡ None → Noted words old new ended ran notes
none_noted words old new ended ran notes none = by_found (command_of words)
  where
    by_found : (found : Option Command) → NotedFound words found old new ended ran notes
    by_found None = inr none
    by_found (Some command) = inr none

-- of a system that was read and run
pub run_noted : (reading : Answer) (script : List ScriptWord) (lines : List (List ℕ)) (shared : Arc System Global) (ran : Ran) (notes : Option (List ℕ)) → IsRead reading script (AsSystem shared)
    → MayNoteRun lines (arc_value shared) script ran.run notes → NotesRun reading script lines (Some ran) notes
run_noted (Ok system) script lines shared ran notes is noted = subst (λ (s : System). MayNoteRun lines s script ran.run notes) is.0 noted
run_noted (Err refused) script lines shared ran notes is noted = absurd is

-- of one that was not
pub unread_noted : (reading : Answer) (script : List ScriptWord) (lines : List (List ℕ)) (notes : Option (List ℕ)) → NotesSystem reading lines notes → NotesRun reading script lines None notes
unread_noted (Ok system) script lines notes noted = noted
unread_noted (Err refused) script lines notes noted = noted

-- a section that has lines is noted
pub section_noted : (lines : List (List ℕ)) (system : System) (section : List (List ℕ)) (notes : Option (List ℕ)) → (section ≡ [] → ⊥) → NotesSection lines system (items_of_lines section) notes
    → NotesRunBy lines system section notes
section_noted lines system [] notes n e = absurd (n refl)
section_noted lines system (line ∷ rest) notes n e = e
