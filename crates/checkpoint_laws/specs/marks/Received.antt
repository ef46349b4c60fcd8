-- A process that receives a letter.
use Rattle.std.specs.Prelude.{◌+◌, [], ◌∷◌, ◌++◌}
use Rattle.t32_base.specs.declared.letter.Letter.{Letter}
use Rattle.proc_state.specs.declared.process.Process.{Process}

-- the letter is last in the mailbox, with the next number; all else is as it was
abbrev pub with_letter : Process → Letter → Process
with_letter p letter = record p { mail = record { letters = (p.mail).letters ++ record { number = (p.mail).next; letter = letter } ∷ []; next = (p.mail).next + 1 } }
