-- The kernel without failures: a finite map of processes, and what each terminal was sent. It knows no clusters, backups, counts or pages.
use Rattle.std.specs.Prelude.{ℕ, ◌-◌, List, [], ◌++◌, fold, slice_get, Option, Some, None, option_and_then, unwrap_or, if◌then◌else◌}
use Rattle.std.specs.Option.{option_map_or}
use Rattle.std.specs.declared.cmp.Ordering.{Ordering}
use Rattle.std.specs.Ordering.{nat_cmp}
use Rattle.std.specs.FinMap.{find, put}
use Rattle.t32_base.specs.declared.process.Pid.{Pid}
use Rattle.t32_base.specs.declared.letter.Letter.{Letter}
use Rattle.t32_base.specs.declared.letter.Body.{Body}
use Rattle.t32_base.specs.declared.letter.Body.TheVariants.{Said, EndOf, Signal}
use Rattle.t32_base.specs.declared.letter.To.{To}
use Rattle.t32_base.specs.declared.letter.To.TheVariants.{Proc, Tty}
use Rattle.sys_text.specs.declared.system.System.{System}
use Rattle.sys_text.specs.declared.system.Image.{Image}
use Rattle.sys_text.specs.declared.system.Root.{Root}
use Rattle.sys_text.specs.Boot.{roots_of, bytes_of_words}
use Rattle.proc_state.specs.Ends.{free_end}
use Rattle.proc_state.specs.State.{ProcState, root_state, delivered, has_ended, linked_to}
use Rattle.sys_calls.specs.declared.steps.Emission.{Emission}
use Rattle.sys_calls.specs.declared.steps.Emission.TheVariants.{Mail, Exit}

-- the processes by rising pid, and the bytes that each terminal was sent, by rising terminal
pub record Kernel : Type 0 where
  pub processes : List (Pid × ProcState)
  pub ttys : List (ℕ × List ℕ)

abbrev pub pid_cmp : Pid → Pid → Ordering
pid_cmp p q = nat_cmp p.0 q.0

abbrev pub process_at : Kernel → Pid → Option ProcState
process_at k p = find pid_cmp p k.processes

abbrev pub with_process : Kernel → Pid → ProcState → Kernel
with_process k p s = record k { processes = put pid_cmp p s k.processes }

abbrev pub tty_at : Kernel → ℕ → Option (List ℕ)
tty_at k t = find nat_cmp t k.ttys

-- ---- boot

abbrev pub no_image : Image
no_image = record { name = []; pages = 1; entry = 0x10000; words = [] }

-- a root at its start; a valid system has its image
abbrev pub root_process : System → Pid → Root → ProcState
root_process system p r =
    let image = unwrap_or (slice_get system.images r.image) no_image in
    root_state p image.entry image.pages (bytes_of_words image.words) r.limit r.births r.tty

abbrev pub with_root : System → Kernel → Pid × Root → Kernel
with_root system k r = record {
  processes = put pid_cmp r.0 (root_process system r.0 r.1) k.processes;
  ttys = put nat_cmp (r.1).tty [] k.ttys;
}

abbrev pub empty : Kernel
empty = record { processes = []; ttys = [] }

-- the roots with their images, each with its pid, and the terminals that they name
abbrev pub boot_roots : System → Kernel
boot_roots system = fold (with_root system) empty (roots_of system)

-- the lowest end of a process that was never linked, if it is there and has one
abbrev pub free_end_at : List (Pid × ProcState) → Pid → Option ℕ
free_end_at processes p = option_and_then (λ (s : ProcState). free_end (s.small).ends) (find pid_cmp p processes)

abbrev pub link_put : Pid → Pid → ℕ → Option ProcState → List (Pid × ProcState) → List (Pid × ProcState)
link_put p peer far None processes = processes
link_put p peer far (Some s) processes = put pid_cmp p (linked_to s peer far) processes

-- the lowest such end of the process p is linked to an end of a peer
abbrev pub with_end_linked : List (Pid × ProcState) → Pid → Pid → ℕ → List (Pid × ProcState)
with_end_linked processes p peer far = link_put p peer far (find pid_cmp p processes) processes

-- an end of each of two processes is linked to the other's; where one has none to link, nothing is
abbrev pub ends_linked : List (Pid × ProcState) → Pid → Pid → Option ℕ → Option ℕ → List (Pid × ProcState)
ends_linked processes p q None far = processes
ends_linked processes p q (Some near) None = processes
ends_linked processes p q (Some near) (Some far) = with_end_linked (with_end_linked processes p q far) q p near

-- the lowest such ends of two processes are linked to each other
abbrev pub with_link : List (Pid × ProcState) → Pid → Pid → List (Pid × ProcState)
with_link processes p q = ends_linked processes p q (free_end_at processes p) (free_end_at processes q)

-- the pid of a root, whose number is counted from 1 in the order of the text
abbrev pub root_pid : System → ℕ → Pid
root_pid system number = option_map_or (λ (r : Pid × Root). r.0) (slice_get (roots_of system) (number - 1)) (record { 0 = 0 })

-- a channel links the roots with two numbers
abbrev pub with_chan : System → List (Pid × ProcState) → ℕ × ℕ → List (Pid × ProcState)
with_chan system processes chan = with_link processes (root_pid system chan.0) (root_pid system chan.1)

-- the roots, linked by the channels in the order of the text
unfoldable pub boot : System → Kernel
boot system = record (boot_roots system) { processes = fold (with_chan system) (boot_roots system).processes system.chans }

-- ---- letters

abbrev pub bytes_said : Body → List ℕ
bytes_said (Said bytes) = bytes
bytes_said EndOf = []
bytes_said (Signal g) = []

-- what a terminal was sent, after these bytes; a terminal that no root names has no list
abbrev pub text_put : ℕ → List ℕ → Option (List ℕ) → List (ℕ × List ℕ) → List (ℕ × List ℕ)
text_put t new None ttys = ttys
text_put t new (Some old) ttys = put nat_cmp t (old ++ new) ttys

-- a letter to a process that is not there or has ended changes nothing
abbrev pub letter_put : Letter → Pid → Option ProcState → List (Pid × ProcState) → List (Pid × ProcState)
letter_put letter p None processes = processes
letter_put letter p (Some s) processes = if has_ended (s.small).status then processes else put pid_cmp p (delivered s letter) processes

abbrev pub letter_to : Kernel → Letter → To → Kernel
letter_to k letter (Tty t) = record k { ttys = text_put t (bytes_said letter.body) (tty_at k t) k.ttys }
letter_to k letter (Proc p e) = record k { processes = letter_put letter p (process_at k p) k.processes }

-- a letter is delivered at once
abbrev pub deliver : Kernel → Letter → Kernel
deliver k letter = letter_to k letter letter.to

-- a process has sent something
abbrev pub emitted : Kernel → Emission → Kernel
emitted k (Mail letter) = deliver k letter
emitted k (Exit end) = k
