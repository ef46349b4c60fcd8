-- The roots of a system at their start, whose memories were not made yet.
use Rattle.std.specs.Prelude.{ℕ, ◌≡◌, ◌≤◌, ◌+◌, ◌*◌, ◌++◌, List, map, length, drop, replicate}
use Rattle.std.specs.List.{sum_by}
use Rattle.std.specs.Map.{values_of}
use Rattle.t32_base.specs.declared.process.Pid.{Pid}
use Rattle.t32_base.specs.Small.{SmallState}
use Rattle.proc_state.specs.State.{ProcState}
use Rattle.sys_calls.specs.Small.{weight_with_children}
use Rattle.sys_text.specs.declared.system.Image.{Image}
use Rattle.sys_text.specs.Boot.{bytes_of_words}
use Rattle.plain_kernel.specs.Kernel.{with_end_linked}
use Rattle.plain_kernel.specs.Maps.{pid_of}

-- a state that has made no step, with as many pages as the image has, which fits them
pub record IsReady (small : SmallState) (image : Image) : Type 0 where
  pub steps : small.steps ≡ 0
  pub pages : small.pages ≡ image.pages
  pub least : 1 ≤ image.pages
  pub most : image.pages ≤ 256
  pub fits : 4 * length image.words ≤ 256 * image.pages

-- a page that begins with the bytes of words, lowest byte first, followed by zero bytes
abbrev pub page_of_words : List ℕ → List ℕ
page_of_words words = bytes_of_words words ++ drop (4 * length words) (replicate 256 0)

-- the processes that a map of roots at their start stands for
abbrev pub starts_in : List (ℕ × ProcState) → List (Pid × ProcState)
starts_in es = map (λ (e : ℕ × ProcState). (pid_of e.0, e.1)) es

-- what is still to come of a process, as its map reckons it (`load` of `Maps`)
abbrev pub state_load : ProcState → ℕ
state_load s = 2 * weight_with_children s.small + s.next

-- what is still to come of all of them
abbrev pub starts_load : List (ℕ × ProcState) → ℕ
starts_load es = sum_by state_load (values_of es)

-- one more end of the root with a pid was linked, which leaves as much to come
pub record LinksStart (old new : List (ℕ × ProcState)) (pid : ℕ) (peer : Pid) (far : ℕ) : Type 0 where
  pub states : starts_in new ≡ with_end_linked (starts_in old) (pid_of pid) peer far
  pub load : starts_load new ≡ starts_load old
