-- What a command answers, by what was made of its input.
use Rattle.std.proofs.Common.{◌≡◌, ℕ, Bool, true, false, List, [], Option, Some, None, refl, sym, subst}
use Rattle.std.specs.Prelude.{Result, Ok, Err, IfOk, IfErr}
use Rattle.t32_base.specs.declared.streams.NoMemory.{NoMemory}
use Rattle.cluster_run.specs.declared.life.Ran.{Ran}
use Rattle.cert_sched.specs.declared.script.ScriptWord.{ScriptWord}
use Rattle.command_words.specs.declared.command.Command.{Command}
use Rattle.command_words.specs.declared.command.Command.TheVariants as commands
use Rattle.targon_cli.specs.declared.reply.Reply.{Reply}
use Rattle.targon_cli.specs.Commands.{reads_input}
use Rattle.targon_cli.specs.Reply.{Makes}
use Rattle.targon_cli.specs.Answer.{In, Out, ReadsAll, Takes, TakesBy, LeavesInput, IsUnread, HandsOut, Answers, Replied, OutOfMemory}

-- ---- what was taken

-- a command that reads took all of the input
pub takes_all : (command : Command) (old new : In) (ended : Bool) (bytes : List ℕ) → Takes command old new ended bytes → reads_input (Some command) ≡ true → ReadsAll old new ended bytes
takes_all command old new ended bytes takes reads = subst (λ (b : Bool). TakesBy b old new ended bytes) reads takes

-- one that does not left it as it was
pub takes_left : (command : Command) (old new : In) (ended : Bool) (bytes : List ℕ) → Takes command old new ended bytes → LeavesInput (Some command) old new
takes_left command old new ended bytes takes unread = subst (λ (b : Bool). TakesBy b old new ended bytes) unread takes

pub reads_needed : (command : Command) (read : Result (List ℕ) ℕ) (old new : In) (ended : Bool) → reads_input (Some command) ≡ true → IfOk read (ReadsAll old new ended) → IfOk read (Takes command old new ended)
reads_needed command (Ok bytes) old new ended reads all = subst (λ (b : Bool). TakesBy b old new ended bytes) (sym reads) all
reads_needed command (Err status) old new ended reads all = tt

pub unread_needed : (command : Command) (read : Result (List ℕ) ℕ) (old new : In) (ended : Bool) (before after : Out) → reads_input (Some command) ≡ true
    → IfErr read (λ status. IsUnread status old new ended before after) → IfErr read (λ status. Answers command status old new ended before after None)
unread_needed command (Ok bytes) old new ended before after reads unread = tt
unread_needed command (Err status) old new ended before after reads unread = unread command reads

pub takes_nothing : (command : Command) (old : In) (ended : Bool) (bytes : List ℕ) → reads_input (Some command) ≡ false → Takes command old old ended bytes
takes_nothing command old ended bytes unread = subst (λ (b : Bool). TakesBy b old old ended bytes) (sym unread) refl

-- nor does `load` read any
pub takes_load : (command : Command) (size : ℕ) (script : List ScriptWord) (old : In) (ended : Bool) → command ≡ commands.Load size false script → Takes command old old ended []
takes_load command size script old ended same = subst (λ (c : Command). Takes c old old ended []) (sym same) refl

-- ---- what was made of it

-- what was made of the input that a command takes, and handed out, is what the command answers
handed : (command : Command) (bytes : List ℕ) (made : Result (Reply × Option Ran) NoMemory) (status : ℕ) (old new : In) (ended : Bool) (before after : Out) (ran : Option Ran)
    → Takes command old new ended bytes → IfOk made (λ (r : Reply × Option Ran). Makes command bytes (r.0).status (r.0).text r.1) → HandsOut made status before after ran
    → Answers command status old new ended before after ran
handed command bytes (Ok r) status old new ended before after ran takes makes hands =
    subst (λ (some : Option Ran). Answers command status old new ended before after some) (sym hands.1) (Replied bytes (r.0).status (r.0).text takes makes hands.0)
handed command bytes (Err e) status old new ended before after ran takes makes hands = OutOfMemory (takes_left command old new ended bytes takes) hands.0 hands.1 hands.2

-- the output was as before when it was handed out
pub handed_after : (command : Command) (bytes : List ℕ) (made : Result (Reply × Option Ran) NoMemory) (status : ℕ) (old new : In) (ended : Bool) (before mid after : Out) (ran : Option Ran)
    → Takes command old new ended bytes → IfOk made (λ (r : Reply × Option Ran). Makes command bytes (r.0).status (r.0).text r.1) → mid.holds ≡ before.holds → mid.faults ≡ before.faults
    → HandsOut made status mid after ran → Answers command status old new ended before after ran
handed_after command bytes made status old new ended before mid after ran takes makes kept counted hands =
    let same : mid ≡ before = λ i. record { holds = kept i; faults = counted i } in
    handed command bytes made status old new ended before after ran takes makes (subst (λ (out : Out). HandsOut made status out after ran) same hands)
