-- Which process a line names.
use Rattle.std.specs.Prelude.{ℕ, ◌≡◌, ◌≤◌, ◌^◌, List, [], ◌∷◌, Option, Some, None}
use Rattle.t32_base.specs.declared.process.Pid.{Pid}
use Rattle.entry_lines.specs.declared.told.ToldWhat.{ToldWhat}
use Rattle.entry_lines.specs.declared.told.ToldWhat.TheVariants.{Mail, Birth, Exit, Page, Sync, Fetch, Fresh, Standing}

abbrev pub first_number : List ℕ → Option ℕ
first_number [] = None
first_number (n ∷ ns) = Some n

abbrev pub behind_first : List ℕ → List ℕ
behind_first [] = []
behind_first (n ∷ ns) = ns

-- the number of the process that does what the line says; of a new backup the first that it names
abbrev pub doer : ToldWhat → Option ℕ
doer (Mail from at letter) = Some from
doer (Birth parent at child end) = Some parent
doer (Exit pid at end) = Some pid
doer (Page pid at index) = Some pid
doer (Sync pid at took) = Some pid
doer (Fetch pid index) = Some pid
doer (Fresh pids at to) = first_number pids
doer (Standing pids to) = first_number pids
doer _ = None

-- it is the pid with this number, or there is none with so many bits
abbrev pub IsPidOf : ℕ → Option Pid → Type 0
IsPidOf n (Some p) = p.0 ≡ n
IsPidOf n None = 2 ^ 32 ≤ n
