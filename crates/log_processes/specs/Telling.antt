-- Whether a line tells of what a process sent.
use Rattle.std.specs.Prelude.{ℕ, ◌==◌, ◌&&◌, Bool, true, false, List}
use Rattle.std.specs.Str.{bytes_eq}
use Rattle.t32_base.specs.declared.process.End.{End}
use Rattle.t32_base.specs.declared.process.End.TheVariants.{Exit, Trap, Killed, Limit}
use Rattle.t32_base.specs.declared.letter.Letter.{Letter}
use Rattle.t32_base.specs.declared.letter.Body.{Body}
use Rattle.t32_base.specs.declared.letter.Body.TheVariants.{Said, EndOf, Signal}
use Rattle.t32_base.specs.declared.letter.To.{To}
use Rattle.t32_base.specs.declared.letter.To.TheVariants.{Proc, Tty}
use Rattle.bus_msg.specs.Text.{bytes_said}
use Rattle.entry_lines.specs.declared.told.ToldEnd.{ToldEnd}
use Rattle.entry_lines.specs.declared.told.ToldEnd.TheVariants.{Exit as ToldExit, Trap as ToldTrap, Killed as ToldKilled, Limit as ToldLimit}
use Rattle.entry_lines.specs.declared.told.ToldLetter.{ToldLetter}
use Rattle.entry_lines.specs.declared.told.ToldLetter.TheVariants.{Shown, Said as ToldSaid, EndOf as ToldEndOf, Signal as ToldSignal}

-- this is how it ended
abbrev pub is_end_told : ToldEnd → End → Bool
is_end_told (ToldExit n) (Exit status) = n == status
is_end_told (ToldTrap n) (Trap code) = n == code
is_end_told (ToldKilled n) (Killed signal) = n == signal
is_end_told ToldLimit Limit = true
is_end_told told end = false

-- where a letter goes
abbrev pub is_at_tty : ℕ → To → Bool
is_at_tty n (Tty t) = n == t
is_at_tty n (Proc p e) = false

abbrev pub is_at_end : ℕ → ℕ → To → Bool
is_at_end n end (Proc p e) = n == p.0 && end == e
is_at_end n end (Tty t) = false

abbrev pub is_at_process : ℕ → To → Bool
is_at_process n (Proc p e) = n == p.0
is_at_process n (Tty t) = false

-- what it says
abbrev pub says : List ℕ → Body → Bool
says bytes (Said said) = bytes_eq bytes said
says bytes EndOf = false
says bytes (Signal g) = false

abbrev pub says_end : Body → Bool
says_end EndOf = true
says_end (Said said) = false
says_end (Signal g) = false

abbrev pub says_signal : ℕ → Body → Bool
says_signal n (Signal g) = n == g
says_signal n (Said said) = false
says_signal n EndOf = false

-- this is the letter, as far as a line prints it
abbrev pub is_letter_told : ToldLetter → Letter → Bool
is_letter_told (Shown out tty bytes) l = out == l.out && is_at_tty tty l.to && bytes_eq bytes (bytes_said l.body)
is_letter_told (ToldSaid out to end bytes) l = out == l.out && is_at_end to end l.to && says bytes l.body
is_letter_told (ToldEndOf out to end) l = out == l.out && is_at_end to end l.to && says_end l.body
is_letter_told (ToldSignal to g) l = is_at_process to l.to && says_signal g l.body
