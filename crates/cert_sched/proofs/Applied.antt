-- The kernel after a legal log: there is one, and where Done stands last nothing can move in it.
use Rattle.std.proofs.Common.{◌≡◌, ℕ, zero, suc, refl, sym, ◌∙◌, ap, List, [], ◌∷◌, ◌++◌, take, true, false, Option, Some, None}
use Rattle.std.specs.Prelude.{is_some, slice_get, option_map, option_and_then}
use Rattle.std.specs.Option.{option_map_or}
use Rattle.sys_text.specs.declared.system.System.{System}
use Rattle.plain_kernel.specs.declared.item.Item.{Item}
use Rattle.plain_kernel.specs.Kernel.{Kernel, boot}
use Rattle.plain_kernel.specs.Apply.{apply, apply_all, plain_run}
use Rattle.plain_kernel.specs.Answers.{BadAt}
use Rattle.plain_kernel.specs.Still.{is_still}
use Rattle.bus_msg.specs.declared.entry.What.{What}
use Rattle.bus_msg.specs.declared.entry.What.TheVariants.{Done}
use Rattle.bus_msg.specs.declared.entry.Entry.{Entry}
use Rattle.bus_msg.specs.PlacedAfter.{what}
use Rattle.cert_sched.specs.Schedule.{plain_after, schedule_of}
use Rattle.cert_sched.specs.Kinds.{KindHolds}
use Rattle.cert_sched.specs.Scripted.{is_done, is_finished}
use Rattle.cert_sched.specs.Legal.{IsLegalBy, MayStand}
use Rattle.cert_sched.proofs.ListLaws.{last_of-snoc}
use Rattle.cert_sched.proofs.LogLaws.{plain_run-schedule_of}
use Rattle.cert_sched.proofs.Induction.{legal_induction}

-- ---- its schedule is applied whole

-- each entry can be applied
pub legal_applies : (system : System) (log : List Entry) → IsLegalBy MayStand system log → is_some (plain_after system log) ≡ true
unfolding plain_after
legal_applies system log legal =
    legal_induction MayStand system (λ log. is_some (plain_after system log) ≡ true) refl (λ log e before may. (may.stands).applies) log legal

some_there : (o : Option Kernel) → is_some o ≡ true → (kernel : Kernel) × (o ≡ Some kernel)
some_there None h = cc
some_there (Some kernel) h = (kernel, refl)

-- so the schedule of the log leads to a kernel
pub legal_runs : (system : System) (log : List Entry) → IsLegalBy MayStand system log → (kernel : Kernel) × (plain_run system (schedule_of system log) ≡ Some kernel)
legal_runs system log legal =
    some_there (plain_run system (schedule_of system log)) (ap is_some (plain_run-schedule_of system log) ∙ legal_applies system log legal)

-- items lead nowhere where one of them cannot be applied after those before it
bad_item : (items : List Item) (index : ℕ) (from kernel : Kernel) (item : Item) →
    slice_get items index ≡ Some item → apply_all (take index items) from ≡ Some kernel → apply kernel item ≡ None → apply_all items from ≡ None
bad_item [] index from kernel item there before refused = cc
bad_item (x ∷ xs) zero from kernel item there before refused =
    let same : x ≡ item = cc in
    let here : from ≡ kernel = cc in
    rw (same, here, refused) refl
bad_item (x ∷ xs) (suc index) from kernel item there before refused = by_first (apply from x) (λ next e. bad_item xs index next kernel item there e refused) before
  where
    by_first : (o : Option Kernel) → ((next : Kernel) → apply_all (take index xs) next ≡ Some kernel → apply_all xs next ≡ None)
        → option_and_then (apply_all (take index xs)) o ≡ Some kernel → option_and_then (apply_all xs) o ≡ None
    by_first None more e = refl
    by_first (Some next) more e = more next e

-- no item of the schedule of a legal log is a bad one
pub no_bad_item : (system : System) (log : List Entry) (index : ℕ) → IsLegalBy MayStand system log → BadAt system (schedule_of system log) index → ⊥
no_bad_item system log index legal bad =
    let runs = legal_runs system log legal in
    let none = bad_item (schedule_of system log) index (boot system) bad.kernel bad.item bad.there bad.before bad.refused in
    let both : Some runs.0 ≡ None = sym runs.1 ∙ none in
    cc

-- ---- the end

at_done : (w : What) (system : System) (log : List Entry) (e : Entry) → is_done w ≡ true → KindHolds system log e w → option_map is_still (plain_after system (log ++ e ∷ [])) ≡ Some true
at_done (Done rests) system log e h k = k.still
at_done _ system log e h k = cc

last_done : (log : List Entry) (e : Entry) → is_finished (log ++ e ∷ []) ≡ true → is_done (what e) ≡ true
last_done log e h = ap (λ o. option_map_or (λ (e : Entry). is_done (what e)) o false) (sym (last_of-snoc log e)) ∙ h

-- where Done stands last nothing can move
pub finished_still : (system : System) (log : List Entry) → IsLegalBy MayStand system log → is_finished log ≡ true → option_map is_still (plain_after system log) ≡ Some true
finished_still system log legal =
    legal_induction MayStand system (λ log. is_finished log ≡ true → option_map is_still (plain_after system log) ≡ Some true) (λ h. cc)
    (λ log e before may h. at_done (what e) system log e (last_done log e h) (may.stands).kind) log legal

still_of : (o : Option Kernel) (kernel : Kernel) → option_map is_still o ≡ Some true → o ≡ Some kernel → is_still kernel ≡ true
still_of None kernel h e = cc
still_of (Some other) kernel h e =
    let same : other ≡ kernel = cc in
    rw same at (let inner : is_still other ≡ true = cc in inner)

-- the kernel of its schedule is then still
pub finished_kernel_still : (system : System) (log : List Entry) (kernel : Kernel) → IsLegalBy MayStand system log → is_finished log ≡ true →
    plain_run system (schedule_of system log) ≡ Some kernel → is_still kernel ≡ true
finished_kernel_still system log kernel legal finished runs =
    still_of (plain_after system log) kernel (finished_still system log legal finished) (sym (plain_run-schedule_of system log) ∙ runs)
