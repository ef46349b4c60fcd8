-- Worked logs: each is legal, has this schedule and this count of what was withheld, by computation.
use Rattle.std.proofs.Common.{◌≡◌, ℕ, refl, List, [], ◌∷◌, ◌++◌, replicate, Option, Some, None, true, false, lit<, lit≤}
use Rattle.std.specs.Option.{option_map_or}
use Rattle.t32_base.specs.declared.process.Pid.{Pid}
use Rattle.t32_base.specs.declared.process.End.TheVariants.{Exit as Exited, Trap, Limit}
use Rattle.t32_base.specs.declared.letter.BackRec.{BackRec}
use Rattle.t32_base.specs.declared.letter.Body.TheVariants.{Said}
use Rattle.t32_base.specs.declared.letter.To.TheVariants.{Tty}
use Rattle.sys_text.specs.declared.system.System.{System}
use Rattle.sys_text.specs.Boot.{bytes_of_words}
use Rattle.rv_mem.specs.Memory.{page_at}
use Rattle.proc_state.specs.State.{ProcState, root_state}
use Rattle.sys_calls.specs.Next.{silently}
use Rattle.plain_kernel.specs.declared.item.Item.TheVariants.{Run}
use Rattle.plain_kernel.specs.Kernel.{boot}
use Rattle.plain_kernel.specs.Apply.{one_step, steps}
use Rattle.bus_msg.specs.declared.entry.What.{What}
use Rattle.bus_msg.specs.declared.entry.What.TheVariants.{Mail, Exit, Page, Sync, Fetch, PageIs, Crash, Return, Rebackup, Done}
use Rattle.bus_msg.specs.declared.entry.Cause.TheVariants.{Place}
use Rattle.bus_msg.specs.declared.entry.By.{By}
use Rattle.bus_msg.specs.declared.entry.By.TheVariants.{Cluster, Bus}
use Rattle.bus_msg.specs.declared.entry.Entry.{Entry}
use Rattle.cert_sched.specs.Schedule.{plain_after, placement, schedule_of}
use Rattle.cert_sched.specs.Told.{told}
use Rattle.cert_sched.specs.Record.{backup_record, record_with}
use Rattle.cert_sched.specs.Account.{account_after}
use Rattle.cert_sched.specs.Counted.{counted}
use Rattle.cert_sched.specs.Rolling.{RollsForward}
use Rattle.cert_sched.specs.Steps.{silent_upto, emission_at, before_fork_at}
use Rattle.cert_sched.specs.Rules.{is_over}
use Rattle.cert_sched.specs.Legal.{IsLegal, IsLegalBy, MayFollow, Stands}
use Rattle.cert_sched.proofs.Systems.{cluster, two_words, store_words, hi_system, two_system, bad_system, spin_system, store_system, full_system, half_system, wait_system}

abbrev pub pid : ℕ → Pid
pid n = record { 0 = n }

-- the entry at a place: by whom, to which clusters (a bit each) and terminal, and what it says
abbrev pub entry : ℕ → By → ℕ → Option ℕ → What → Entry
entry place by clusters tty what = record { place = place; post = record { by = by; what = what }; dests = record { clusters = clusters; tty = tty } }

abbrev pub by_cluster : ℕ → By
by_cluster n = Cluster (cluster n)

-- process 16 writes bytes to terminal 0 by its step `at`
abbrev pub writes : ℕ → List ℕ → What
writes at bytes = Mail at (record { from = pid 16; out = 0; to = Tty 0; body = Said bytes })

abbrev pub no_process : ProcState
no_process = root_state (pid 0) 65536 1 [] 0 0 0

-- process 16 after silent steps up to a step count
abbrev pub process_upto : System → List Entry → ℕ → ProcState
process_upto system log at = option_map_or (λ s. s) (silent_upto system log (pid 16) at) no_process

-- its one page then
abbrev pub page_upto : System → List Entry → ℕ → List ℕ
page_upto system log at = page_at (process_upto system log at).memory 0

-- the page of an image
abbrev pub image_page : List ℕ → List ℕ
image_page words = page_at (bytes_of_words words ++ replicate 256 0) 0

abbrev pub to_list : Option BackRec → List BackRec
to_list None = []
to_list (Some r) = r ∷ []

-- ---- hi: one letter and the exit

abbrev pub hi_0 : Entry
hi_0 = entry 0 (by_cluster 0) 2 (Some 0) (writes 6 (104 ∷ 105 ∷ 10 ∷ []))

abbrev pub hi_1 : Entry
hi_1 = entry 1 (by_cluster 0) 3 None (Exit (pid 16) 10 (Exited 0))

abbrev pub hi_2 : Entry
hi_2 = entry 2 Bus 3 None (Done [])

abbrev pub hi_log : List Entry
hi_log = hi_0 ∷ hi_1 ∷ hi_2 ∷ []

hi_follows_0 : MayFollow hi_system ([]) hi_0
unfolding boot one_step steps silently plain_after schedule_of placement told is_over silent_upto emission_at before_fork_at backup_record account_after
hi_follows_0 = record { stands = record { placed = (refl, refl, refl); by_right = refl; applies = refl; kind = refl }; limits = refl; backup = refl; new_page = refl; pages = refl }

hi_follows_1 : MayFollow hi_system (hi_0 ∷ []) hi_1
unfolding boot one_step steps silently plain_after schedule_of placement told is_over silent_upto emission_at before_fork_at backup_record account_after
hi_follows_1 = record { stands = record { placed = (refl, refl, refl); by_right = refl; applies = refl; kind = (refl, refl) }; limits = refl; backup = refl; new_page = refl; pages = refl }

hi_follows_2 : MayFollow hi_system (hi_0 ∷ hi_1 ∷ []) hi_2
unfolding boot one_step steps silently plain_after schedule_of placement told is_over silent_upto emission_at before_fork_at backup_record account_after
hi_follows_2 = record { stands = record { placed = (refl, refl, refl); by_right = refl; applies = refl; kind = record { named = refl; silent = refl; still = refl } }; limits = refl; backup = refl; new_page = refl; pages = refl }

pub hi_legal : IsLegal hi_system hi_log
unfolding IsLegalBy
hi_legal = (hi_follows_0, (hi_follows_1, (hi_follows_2, tt)))

hi_schedule : schedule_of hi_system hi_log ≡ Run (pid 16) 6 ∷ Run (pid 16) 4 ∷ []
unfolding boot one_step steps silently plain_after schedule_of placement told is_over silent_upto emission_at before_fork_at backup_record account_after
hi_schedule = refl

hi_counted : counted hi_system hi_log ≡ 0
unfolding boot one_step steps silently plain_after schedule_of placement told is_over silent_upto emission_at before_fork_at backup_record account_after
hi_counted = refl

-- ---- bad: the trap of an illegal instruction

abbrev pub bad_0 : Entry
bad_0 = entry 0 (by_cluster 0) 3 None (Exit (pid 16) 2 (Trap 2))

abbrev pub bad_1 : Entry
bad_1 = entry 1 Bus 3 None (Done [])

abbrev pub bad_log : List Entry
bad_log = bad_0 ∷ bad_1 ∷ []

bad_follows_0 : MayFollow bad_system ([]) bad_0
unfolding boot one_step steps silently plain_after schedule_of placement told is_over silent_upto emission_at before_fork_at backup_record account_after
bad_follows_0 = record { stands = record { placed = (refl, refl, refl); by_right = refl; applies = refl; kind = (refl, refl) }; limits = refl; backup = refl; new_page = refl; pages = refl }

bad_follows_1 : MayFollow bad_system (bad_0 ∷ []) bad_1
unfolding boot one_step steps silently plain_after schedule_of placement told is_over silent_upto emission_at before_fork_at backup_record account_after
bad_follows_1 = record { stands = record { placed = (refl, refl, refl); by_right = refl; applies = refl; kind = record { named = refl; silent = refl; still = refl } }; limits = refl; backup = refl; new_page = refl; pages = refl }

pub bad_legal : IsLegal bad_system bad_log
unfolding IsLegalBy
bad_legal = (bad_follows_0, (bad_follows_1, tt))

bad_schedule : schedule_of bad_system bad_log ≡ Run (pid 16) 2 ∷ []
unfolding boot one_step steps silently plain_after schedule_of placement told is_over silent_upto emission_at before_fork_at backup_record account_after
bad_schedule = refl

bad_counted : counted bad_system bad_log ≡ 0
unfolding boot one_step steps silently plain_after schedule_of placement told is_over silent_upto emission_at before_fork_at backup_record account_after
bad_counted = refl

-- ---- spin: the limit of instructions

abbrev pub spin_0 : Entry
spin_0 = entry 0 (by_cluster 0) 3 None (Exit (pid 16) 3 Limit)

abbrev pub spin_1 : Entry
spin_1 = entry 1 Bus 3 None (Done [])

abbrev pub spin_log : List Entry
spin_log = spin_0 ∷ spin_1 ∷ []

spin_follows_0 : MayFollow spin_system ([]) spin_0
unfolding boot one_step steps silently plain_after schedule_of placement told is_over silent_upto emission_at before_fork_at backup_record account_after
spin_follows_0 = record { stands = record { placed = (refl, refl, refl); by_right = refl; applies = refl; kind = (refl, refl) }; limits = refl; backup = refl; new_page = refl; pages = refl }

spin_follows_1 : MayFollow spin_system (spin_0 ∷ []) spin_1
unfolding boot one_step steps silently plain_after schedule_of placement told is_over silent_upto emission_at before_fork_at backup_record account_after
spin_follows_1 = record { stands = record { placed = (refl, refl, refl); by_right = refl; applies = refl; kind = record { named = refl; silent = refl; still = refl } }; limits = refl; backup = refl; new_page = refl; pages = refl }

pub spin_legal : IsLegal spin_system spin_log
unfolding IsLegalBy
spin_legal = (spin_follows_0, (spin_follows_1, tt))

spin_schedule : schedule_of spin_system spin_log ≡ Run (pid 16) 3 ∷ []
unfolding boot one_step steps silently plain_after schedule_of placement told is_over silent_upto emission_at before_fork_at backup_record account_after
spin_schedule = refl

spin_counted : counted spin_system spin_log ≡ 0
unfolding boot one_step steps silently plain_after schedule_of placement told is_over silent_upto emission_at before_fork_at backup_record account_after
spin_counted = refl

-- ---- two: two letters and the exit

abbrev pub two_0 : Entry
two_0 = entry 0 (by_cluster 0) 2 (Some 0) (writes 6 (97 ∷ 10 ∷ []))

abbrev pub two_1 : Entry
two_1 = entry 1 (by_cluster 0) 2 (Some 0) (writes 9 (98 ∷ 10 ∷ []))

abbrev pub two_2 : Entry
two_2 = entry 2 (by_cluster 0) 3 None (Exit (pid 16) 13 (Exited 0))

abbrev pub two_3 : Entry
two_3 = entry 3 Bus 3 None (Done [])

abbrev pub two_log : List Entry
two_log = two_0 ∷ two_1 ∷ two_2 ∷ two_3 ∷ []

two_follows_0 : MayFollow two_system ([]) two_0
unfolding boot one_step steps silently plain_after schedule_of placement told is_over silent_upto emission_at before_fork_at backup_record account_after
two_follows_0 = record { stands = record { placed = (refl, refl, refl); by_right = refl; applies = refl; kind = refl }; limits = refl; backup = refl; new_page = refl; pages = refl }

two_follows_1 : MayFollow two_system (two_0 ∷ []) two_1
unfolding boot one_step steps silently plain_after schedule_of placement told is_over silent_upto emission_at before_fork_at backup_record account_after
two_follows_1 = record { stands = record { placed = (refl, refl, refl); by_right = refl; applies = refl; kind = refl }; limits = refl; backup = refl; new_page = refl; pages = refl }

two_follows_2 : MayFollow two_system (two_0 ∷ two_1 ∷ []) two_2
unfolding boot one_step steps silently plain_after schedule_of placement told is_over silent_upto emission_at before_fork_at backup_record account_after
two_follows_2 = record { stands = record { placed = (refl, refl, refl); by_right = refl; applies = refl; kind = (refl, refl) }; limits = refl; backup = refl; new_page = refl; pages = refl }

two_follows_3 : MayFollow two_system (two_0 ∷ two_1 ∷ two_2 ∷ []) two_3
unfolding boot one_step steps silently plain_after schedule_of placement told is_over silent_upto emission_at before_fork_at backup_record account_after
two_follows_3 = record { stands = record { placed = (refl, refl, refl); by_right = refl; applies = refl; kind = record { named = refl; silent = refl; still = refl } }; limits = refl; backup = refl; new_page = refl; pages = refl }

pub two_legal : IsLegal two_system two_log
unfolding IsLegalBy
two_legal = (two_follows_0, (two_follows_1, (two_follows_2, (two_follows_3, tt))))

two_schedule : schedule_of two_system two_log ≡ Run (pid 16) 6 ∷ Run (pid 16) 3 ∷ Run (pid 16) 4 ∷ []
unfolding boot one_step steps silently plain_after schedule_of placement told is_over silent_upto emission_at before_fork_at backup_record account_after
two_schedule = refl

two_counted : counted two_system two_log ≡ 0
unfolding boot one_step steps silently plain_after schedule_of placement told is_over silent_upto emission_at before_fork_at backup_record account_after
two_counted = refl

two_rolls_1 : RollsForward two_system (two_0 ∷ []) (pid 16)
unfolding boot one_step steps silently plain_after schedule_of placement told is_over silent_upto emission_at before_fork_at backup_record account_after
two_rolls_1 = refl

two_rolls_2 : RollsForward two_system (two_0 ∷ two_1 ∷ []) (pid 16)
unfolding boot one_step steps silently plain_after schedule_of placement told is_over silent_upto emission_at before_fork_at backup_record account_after
two_rolls_2 = refl

-- ---- two, and cluster 0 is lost at place 0

abbrev pub first_0 : Entry
first_0 = entry 0 Bus 3 None (Crash (cluster 0) Place)

abbrev pub first_1 : Entry
first_1 = entry 1 (by_cluster 1) 2 None (Fetch (pid 16) 0)

abbrev pub first_2 : Entry
first_2 = entry 2 (by_cluster 1) 2 None (PageIs (pid 16) 0 (image_page two_words))

abbrev pub first_3 : Entry
first_3 = entry 3 (by_cluster 1) 0 (Some 0) (writes 6 (97 ∷ 10 ∷ []))

abbrev pub first_4 : Entry
first_4 = entry 4 (by_cluster 1) 0 (Some 0) (writes 9 (98 ∷ 10 ∷ []))

abbrev pub first_5 : Entry
first_5 = entry 5 (by_cluster 1) 2 None (Exit (pid 16) 13 (Exited 0))

abbrev pub first_6 : Entry
first_6 = entry 6 Bus 2 None (Done [])

abbrev pub first_log : List Entry
first_log = first_0 ∷ first_1 ∷ first_2 ∷ first_3 ∷ first_4 ∷ first_5 ∷ first_6 ∷ []

first_follows_0 : MayFollow two_system ([]) first_0
unfolding boot one_step steps silently plain_after schedule_of placement told is_over silent_upto emission_at before_fork_at backup_record account_after
first_follows_0 = record { stands = record { placed = (refl, refl, refl); by_right = refl; applies = refl; kind = refl }; limits = refl; backup = refl; new_page = refl; pages = refl }

first_follows_1 : MayFollow two_system (first_0 ∷ []) first_1
unfolding boot one_step steps silently plain_after schedule_of placement told is_over silent_upto emission_at before_fork_at backup_record account_after
first_follows_1 = record { stands = record { placed = (refl, refl, refl); by_right = refl; applies = refl; kind = record { within = lit< tt; moved = refl; unasked = refl } }; limits = refl; backup = refl; new_page = refl; pages = refl }

first_follows_2 : MayFollow two_system (first_0 ∷ first_1 ∷ []) first_2
unfolding boot one_step steps silently plain_after schedule_of placement told is_over silent_upto emission_at before_fork_at backup_record account_after
first_follows_2 = record { stands = record { placed = (refl, refl, refl); by_right = refl; applies = refl; kind = record { asked = refl; page = refl } }; limits = refl; backup = refl; new_page = refl; pages = refl }

first_follows_3 : MayFollow two_system (first_0 ∷ first_1 ∷ first_2 ∷ []) first_3
unfolding boot one_step steps silently plain_after schedule_of placement told is_over silent_upto emission_at before_fork_at backup_record account_after
first_follows_3 = record { stands = record { placed = (refl, refl, refl); by_right = refl; applies = refl; kind = refl }; limits = refl; backup = refl; new_page = refl; pages = refl }

first_follows_4 : MayFollow two_system (first_0 ∷ first_1 ∷ first_2 ∷ first_3 ∷ []) first_4
unfolding boot one_step steps silently plain_after schedule_of placement told is_over silent_upto emission_at before_fork_at backup_record account_after
first_follows_4 = record { stands = record { placed = (refl, refl, refl); by_right = refl; applies = refl; kind = refl }; limits = refl; backup = refl; new_page = refl; pages = refl }

first_follows_5 : MayFollow two_system (first_0 ∷ first_1 ∷ first_2 ∷ first_3 ∷ first_4 ∷ []) first_5
unfolding boot one_step steps silently plain_after schedule_of placement told is_over silent_upto emission_at before_fork_at backup_record account_after
first_follows_5 = record { stands = record { placed = (refl, refl, refl); by_right = refl; applies = refl; kind = (refl, refl) }; limits = refl; backup = refl; new_page = refl; pages = refl }

first_follows_6 : MayFollow two_system (first_0 ∷ first_1 ∷ first_2 ∷ first_3 ∷ first_4 ∷ first_5 ∷ []) first_6
unfolding boot one_step steps silently plain_after schedule_of placement told is_over silent_upto emission_at before_fork_at backup_record account_after
first_follows_6 = record { stands = record { placed = (refl, refl, refl); by_right = refl; applies = refl; kind = record { named = refl; silent = refl; still = refl } }; limits = refl; backup = refl; new_page = refl; pages = refl }

pub first_legal : IsLegal two_system first_log
unfolding IsLegalBy
first_legal = (first_follows_0, (first_follows_1, (first_follows_2, (first_follows_3, (first_follows_4, (first_follows_5, (first_follows_6, tt)))))))

first_schedule : schedule_of two_system first_log ≡ Run (pid 16) 6 ∷ Run (pid 16) 3 ∷ Run (pid 16) 4 ∷ []
unfolding boot one_step steps silently plain_after schedule_of placement told is_over silent_upto emission_at before_fork_at backup_record account_after
first_schedule = refl

first_counted : counted two_system first_log ≡ 0
unfolding boot one_step steps silently plain_after schedule_of placement told is_over silent_upto emission_at before_fork_at backup_record account_after
first_counted = refl

first_rolls_1 : RollsForward two_system (first_0 ∷ []) (pid 16)
unfolding boot one_step steps silently plain_after schedule_of placement told is_over silent_upto emission_at before_fork_at backup_record account_after
first_rolls_1 = refl

first_rolls_3 : RollsForward two_system (first_0 ∷ first_1 ∷ first_2 ∷ []) (pid 16)
unfolding boot one_step steps silently plain_after schedule_of placement told is_over silent_upto emission_at before_fork_at backup_record account_after
first_rolls_3 = refl

-- ---- two, and cluster 0 is lost at place 1

abbrev pub later_0 : Entry
later_0 = entry 0 (by_cluster 0) 2 (Some 0) (writes 6 (97 ∷ 10 ∷ []))

abbrev pub later_1 : Entry
later_1 = entry 1 Bus 3 None (Crash (cluster 0) Place)

abbrev pub later_2 : Entry
later_2 = entry 2 (by_cluster 1) 2 None (Fetch (pid 16) 0)

abbrev pub later_3 : Entry
later_3 = entry 3 (by_cluster 1) 2 None (PageIs (pid 16) 0 (image_page two_words))

abbrev pub later_4 : Entry
later_4 = entry 4 (by_cluster 1) 0 (Some 0) (writes 9 (98 ∷ 10 ∷ []))

abbrev pub later_5 : Entry
later_5 = entry 5 (by_cluster 1) 2 None (Exit (pid 16) 13 (Exited 0))

abbrev pub later_6 : Entry
later_6 = entry 6 Bus 2 None (Done [])

abbrev pub later_log : List Entry
later_log = later_0 ∷ later_1 ∷ later_2 ∷ later_3 ∷ later_4 ∷ later_5 ∷ later_6 ∷ []

later_follows_0 : MayFollow two_system ([]) later_0
unfolding boot one_step steps silently plain_after schedule_of placement told is_over silent_upto emission_at before_fork_at backup_record account_after
later_follows_0 = record { stands = record { placed = (refl, refl, refl); by_right = refl; applies = refl; kind = refl }; limits = refl; backup = refl; new_page = refl; pages = refl }

later_follows_1 : MayFollow two_system (later_0 ∷ []) later_1
unfolding boot one_step steps silently plain_after schedule_of placement told is_over silent_upto emission_at before_fork_at backup_record account_after
later_follows_1 = record { stands = record { placed = (refl, refl, refl); by_right = refl; applies = refl; kind = refl }; limits = refl; backup = refl; new_page = refl; pages = refl }

later_follows_2 : MayFollow two_system (later_0 ∷ later_1 ∷ []) later_2
unfolding boot one_step steps silently plain_after schedule_of placement told is_over silent_upto emission_at before_fork_at backup_record account_after
later_follows_2 = record { stands = record { placed = (refl, refl, refl); by_right = refl; applies = refl; kind = record { within = lit< tt; moved = refl; unasked = refl } }; limits = refl; backup = refl; new_page = refl; pages = refl }

later_follows_3 : MayFollow two_system (later_0 ∷ later_1 ∷ later_2 ∷ []) later_3
unfolding boot one_step steps silently plain_after schedule_of placement told is_over silent_upto emission_at before_fork_at backup_record account_after
later_follows_3 = record { stands = record { placed = (refl, refl, refl); by_right = refl; applies = refl; kind = record { asked = refl; page = refl } }; limits = refl; backup = refl; new_page = refl; pages = refl }

later_follows_4 : MayFollow two_system (later_0 ∷ later_1 ∷ later_2 ∷ later_3 ∷ []) later_4
unfolding boot one_step steps silently plain_after schedule_of placement told is_over silent_upto emission_at before_fork_at backup_record account_after
later_follows_4 = record { stands = record { placed = (refl, refl, refl); by_right = refl; applies = refl; kind = refl }; limits = refl; backup = refl; new_page = refl; pages = refl }

later_follows_5 : MayFollow two_system (later_0 ∷ later_1 ∷ later_2 ∷ later_3 ∷ later_4 ∷ []) later_5
unfolding boot one_step steps silently plain_after schedule_of placement told is_over silent_upto emission_at before_fork_at backup_record account_after
later_follows_5 = record { stands = record { placed = (refl, refl, refl); by_right = refl; applies = refl; kind = (refl, refl) }; limits = refl; backup = refl; new_page = refl; pages = refl }

later_follows_6 : MayFollow two_system (later_0 ∷ later_1 ∷ later_2 ∷ later_3 ∷ later_4 ∷ later_5 ∷ []) later_6
unfolding boot one_step steps silently plain_after schedule_of placement told is_over silent_upto emission_at before_fork_at backup_record account_after
later_follows_6 = record { stands = record { placed = (refl, refl, refl); by_right = refl; applies = refl; kind = record { named = refl; silent = refl; still = refl } }; limits = refl; backup = refl; new_page = refl; pages = refl }

pub later_legal : IsLegal two_system later_log
unfolding IsLegalBy
later_legal = (later_follows_0, (later_follows_1, (later_follows_2, (later_follows_3, (later_follows_4, (later_follows_5, (later_follows_6, tt)))))))

later_schedule : schedule_of two_system later_log ≡ Run (pid 16) 6 ∷ Run (pid 16) 3 ∷ Run (pid 16) 4 ∷ []
unfolding boot one_step steps silently plain_after schedule_of placement told is_over silent_upto emission_at before_fork_at backup_record account_after
later_schedule = refl

later_counted : counted two_system later_log ≡ 1
unfolding boot one_step steps silently plain_after schedule_of placement told is_over silent_upto emission_at before_fork_at backup_record account_after
later_counted = refl

later_rolls_1 : RollsForward two_system (later_0 ∷ []) (pid 16)
unfolding boot one_step steps silently plain_after schedule_of placement told is_over silent_upto emission_at before_fork_at backup_record account_after
later_rolls_1 = refl

later_rolls_2 : RollsForward two_system (later_0 ∷ later_1 ∷ []) (pid 16)
unfolding boot one_step steps silently plain_after schedule_of placement told is_over silent_upto emission_at before_fork_at backup_record account_after
later_rolls_2 = refl

-- ---- two, and cluster 0 is lost at place 2

abbrev pub last_0 : Entry
last_0 = entry 0 (by_cluster 0) 2 (Some 0) (writes 6 (97 ∷ 10 ∷ []))

abbrev pub last_1 : Entry
last_1 = entry 1 (by_cluster 0) 2 (Some 0) (writes 9 (98 ∷ 10 ∷ []))

abbrev pub last_2 : Entry
last_2 = entry 2 Bus 3 None (Crash (cluster 0) Place)

abbrev pub last_3 : Entry
last_3 = entry 3 (by_cluster 1) 2 None (Fetch (pid 16) 0)

abbrev pub last_4 : Entry
last_4 = entry 4 (by_cluster 1) 2 None (PageIs (pid 16) 0 (image_page two_words))

abbrev pub last_5 : Entry
last_5 = entry 5 (by_cluster 1) 2 None (Exit (pid 16) 13 (Exited 0))

abbrev pub last_6 : Entry
last_6 = entry 6 Bus 2 None (Done [])

abbrev pub last_log : List Entry
last_log = last_0 ∷ last_1 ∷ last_2 ∷ last_3 ∷ last_4 ∷ last_5 ∷ last_6 ∷ []

last_follows_0 : MayFollow two_system ([]) last_0
unfolding boot one_step steps silently plain_after schedule_of placement told is_over silent_upto emission_at before_fork_at backup_record account_after
last_follows_0 = record { stands = record { placed = (refl, refl, refl); by_right = refl; applies = refl; kind = refl }; limits = refl; backup = refl; new_page = refl; pages = refl }

last_follows_1 : MayFollow two_system (last_0 ∷ []) last_1
unfolding boot one_step steps silently plain_after schedule_of placement told is_over silent_upto emission_at before_fork_at backup_record account_after
last_follows_1 = record { stands = record { placed = (refl, refl, refl); by_right = refl; applies = refl; kind = refl }; limits = refl; backup = refl; new_page = refl; pages = refl }

last_follows_2 : MayFollow two_system (last_0 ∷ last_1 ∷ []) last_2
unfolding boot one_step steps silently plain_after schedule_of placement told is_over silent_upto emission_at before_fork_at backup_record account_after
last_follows_2 = record { stands = record { placed = (refl, refl, refl); by_right = refl; applies = refl; kind = refl }; limits = refl; backup = refl; new_page = refl; pages = refl }

last_follows_3 : MayFollow two_system (last_0 ∷ last_1 ∷ last_2 ∷ []) last_3
unfolding boot one_step steps silently plain_after schedule_of placement told is_over silent_upto emission_at before_fork_at backup_record account_after
last_follows_3 = record { stands = record { placed = (refl, refl, refl); by_right = refl; applies = refl; kind = record { within = lit< tt; moved = refl; unasked = refl } }; limits = refl; backup = refl; new_page = refl; pages = refl }

last_follows_4 : MayFollow two_system (last_0 ∷ last_1 ∷ last_2 ∷ last_3 ∷ []) last_4
unfolding boot one_step steps silently plain_after schedule_of placement told is_over silent_upto emission_at before_fork_at backup_record account_after
last_follows_4 = record { stands = record { placed = (refl, refl, refl); by_right = refl; applies = refl; kind = record { asked = refl; page = refl } }; limits = refl; backup = refl; new_page = refl; pages = refl }

last_follows_5 : MayFollow two_system (last_0 ∷ last_1 ∷ last_2 ∷ last_3 ∷ last_4 ∷ []) last_5
unfolding boot one_step steps silently plain_after schedule_of placement told is_over silent_upto emission_at before_fork_at backup_record account_after
last_follows_5 = record { stands = record { placed = (refl, refl, refl); by_right = refl; applies = refl; kind = (refl, refl) }; limits = refl; backup = refl; new_page = refl; pages = refl }

last_follows_6 : MayFollow two_system (last_0 ∷ last_1 ∷ last_2 ∷ last_3 ∷ last_4 ∷ last_5 ∷ []) last_6
unfolding boot one_step steps silently plain_after schedule_of placement told is_over silent_upto emission_at before_fork_at backup_record account_after
last_follows_6 = record { stands = record { placed = (refl, refl, refl); by_right = refl; applies = refl; kind = record { named = refl; silent = refl; still = refl } }; limits = refl; backup = refl; new_page = refl; pages = refl }

pub last_legal : IsLegal two_system last_log
unfolding IsLegalBy
last_legal = (last_follows_0, (last_follows_1, (last_follows_2, (last_follows_3, (last_follows_4, (last_follows_5, (last_follows_6, tt)))))))

last_schedule : schedule_of two_system last_log ≡ Run (pid 16) 6 ∷ Run (pid 16) 3 ∷ Run (pid 16) 4 ∷ []
unfolding boot one_step steps silently plain_after schedule_of placement told is_over silent_upto emission_at before_fork_at backup_record account_after
last_schedule = refl

last_counted : counted two_system last_log ≡ 2
unfolding boot one_step steps silently plain_after schedule_of placement told is_over silent_upto emission_at before_fork_at backup_record account_after
last_counted = refl

last_rolls_2 : RollsForward two_system (last_0 ∷ last_1 ∷ []) (pid 16)
unfolding boot one_step steps silently plain_after schedule_of placement told is_over silent_upto emission_at before_fork_at backup_record account_after
last_rolls_2 = refl

last_rolls_3 : RollsForward two_system (last_0 ∷ last_1 ∷ last_2 ∷ []) (pid 16)
unfolding boot one_step steps silently plain_after schedule_of placement told is_over silent_upto emission_at before_fork_at backup_record account_after
last_rolls_3 = refl

-- ---- store: a synchronisation with its one page

abbrev pub store_0 : Entry
store_0 = entry 0 (by_cluster 0) 3 None (Page (pid 16) 64 0 (page_upto store_system ([]) 64))

abbrev pub store_1 : Entry
store_1 = entry 1 (by_cluster 0) 3 None (Sync (pid 16) ((process_upto store_system (store_0 ∷ []) 64).small) [] None)

abbrev pub store_2 : Entry
store_2 = entry 2 (by_cluster 0) 3 None (Exit (pid 16) 102 Limit)

abbrev pub store_3 : Entry
store_3 = entry 3 Bus 3 None (Done [])

abbrev pub store_log : List Entry
store_log = store_0 ∷ store_1 ∷ store_2 ∷ store_3 ∷ []

store_follows_0 : MayFollow store_system ([]) store_0
unfolding boot one_step steps silently plain_after schedule_of placement told is_over silent_upto emission_at before_fork_at backup_record account_after
store_follows_0 = record { stands = record { placed = (refl, refl, refl); by_right = refl; applies = refl; kind = record { within = lit< tt; not_before = lit≤ tt; page = refl } }; limits = refl; backup = refl; new_page = refl; pages = refl }

store_follows_1 : MayFollow store_system (store_0 ∷ []) store_1
unfolding boot one_step steps silently plain_after schedule_of placement told is_over silent_upto emission_at before_fork_at backup_record account_after
store_follows_1 = record { stands = record { placed = (refl, refl, refl); by_right = refl; applies = refl; kind = record { state = refl; took_first = refl; reads = refl; children = refl; account = refl; due = refl } }; limits = refl; backup = refl; new_page = refl; pages = refl }

store_follows_2 : MayFollow store_system (store_0 ∷ store_1 ∷ []) store_2
unfolding boot one_step steps silently plain_after schedule_of placement told is_over silent_upto emission_at before_fork_at backup_record account_after
store_follows_2 = record { stands = record { placed = (refl, refl, refl); by_right = refl; applies = refl; kind = (refl, refl) }; limits = refl; backup = refl; new_page = refl; pages = refl }

store_follows_3 : MayFollow store_system (store_0 ∷ store_1 ∷ store_2 ∷ []) store_3
unfolding boot one_step steps silently plain_after schedule_of placement told is_over silent_upto emission_at before_fork_at backup_record account_after
store_follows_3 = record { stands = record { placed = (refl, refl, refl); by_right = refl; applies = refl; kind = record { named = refl; silent = refl; still = refl } }; limits = refl; backup = refl; new_page = refl; pages = refl }

pub store_legal : IsLegal store_system store_log
unfolding IsLegalBy
store_legal = (store_follows_0, (store_follows_1, (store_follows_2, (store_follows_3, tt))))

store_schedule : schedule_of store_system store_log ≡ Run (pid 16) 64 ∷ Run (pid 16) 38 ∷ []
unfolding boot one_step steps silently plain_after schedule_of placement told is_over silent_upto emission_at before_fork_at backup_record account_after
store_schedule = refl

store_counted : counted store_system store_log ≡ 0
unfolding boot one_step steps silently plain_after schedule_of placement told is_over silent_upto emission_at before_fork_at backup_record account_after
store_counted = refl

store_rolls_1 : RollsForward store_system (store_0 ∷ []) (pid 16)
unfolding boot one_step steps silently plain_after schedule_of placement told is_over silent_upto emission_at before_fork_at backup_record account_after
store_rolls_1 = refl

store_rolls_2 : RollsForward store_system (store_0 ∷ store_1 ∷ []) (pid 16)
unfolding boot one_step steps silently plain_after schedule_of placement told is_over silent_upto emission_at before_fork_at backup_record account_after
store_rolls_2 = refl

-- ---- store, and cluster 0 is lost between the page and the synchronisation

abbrev pub halfway_0 : Entry
halfway_0 = entry 0 (by_cluster 0) 3 None (Page (pid 16) 64 0 (page_upto store_system ([]) 64))

abbrev pub halfway_1 : Entry
halfway_1 = entry 1 Bus 3 None (Crash (cluster 0) Place)

abbrev pub halfway_2 : Entry
halfway_2 = entry 2 (by_cluster 1) 2 None (Fetch (pid 16) 0)

abbrev pub halfway_3 : Entry
halfway_3 = entry 3 (by_cluster 1) 2 None (PageIs (pid 16) 0 (image_page store_words))

abbrev pub halfway_4 : Entry
halfway_4 = entry 4 (by_cluster 1) 2 None (Page (pid 16) 64 0 (page_upto store_system (halfway_0 ∷ halfway_1 ∷ halfway_2 ∷ halfway_3 ∷ []) 64))

abbrev pub halfway_5 : Entry
halfway_5 = entry 5 (by_cluster 1) 2 None (Sync (pid 16) ((process_upto store_system (halfway_0 ∷ halfway_1 ∷ halfway_2 ∷ halfway_3 ∷ halfway_4 ∷ []) 64).small) [] None)

abbrev pub halfway_6 : Entry
halfway_6 = entry 6 (by_cluster 1) 2 None (Exit (pid 16) 102 Limit)

abbrev pub halfway_7 : Entry
halfway_7 = entry 7 Bus 2 None (Done [])

abbrev pub halfway_log : List Entry
halfway_log = halfway_0 ∷ halfway_1 ∷ halfway_2 ∷ halfway_3 ∷ halfway_4 ∷ halfway_5 ∷ halfway_6 ∷ halfway_7 ∷ []

halfway_follows_0 : MayFollow store_system ([]) halfway_0
unfolding boot one_step steps silently plain_after schedule_of placement told is_over silent_upto emission_at before_fork_at backup_record account_after
halfway_follows_0 = record { stands = record { placed = (refl, refl, refl); by_right = refl; applies = refl; kind = record { within = lit< tt; not_before = lit≤ tt; page = refl } }; limits = refl; backup = refl; new_page = refl; pages = refl }

halfway_follows_1 : MayFollow store_system (halfway_0 ∷ []) halfway_1
unfolding boot one_step steps silently plain_after schedule_of placement told is_over silent_upto emission_at before_fork_at backup_record account_after
halfway_follows_1 = record { stands = record { placed = (refl, refl, refl); by_right = refl; applies = refl; kind = refl }; limits = refl; backup = refl; new_page = refl; pages = refl }

halfway_follows_2 : MayFollow store_system (halfway_0 ∷ halfway_1 ∷ []) halfway_2
unfolding boot one_step steps silently plain_after schedule_of placement told is_over silent_upto emission_at before_fork_at backup_record account_after
halfway_follows_2 = record { stands = record { placed = (refl, refl, refl); by_right = refl; applies = refl; kind = record { within = lit< tt; moved = refl; unasked = refl } }; limits = refl; backup = refl; new_page = refl; pages = refl }

halfway_follows_3 : MayFollow store_system (halfway_0 ∷ halfway_1 ∷ halfway_2 ∷ []) halfway_3
unfolding boot one_step steps silently plain_after schedule_of placement told is_over silent_upto emission_at before_fork_at backup_record account_after
halfway_follows_3 = record { stands = record { placed = (refl, refl, refl); by_right = refl; applies = refl; kind = record { asked = refl; page = refl } }; limits = refl; backup = refl; new_page = refl; pages = refl }

halfway_follows_4 : MayFollow store_system (halfway_0 ∷ halfway_1 ∷ halfway_2 ∷ halfway_3 ∷ []) halfway_4
unfolding boot one_step steps silently plain_after schedule_of placement told is_over silent_upto emission_at before_fork_at backup_record account_after
halfway_follows_4 = record { stands = record { placed = (refl, refl, refl); by_right = refl; applies = refl; kind = record { within = lit< tt; not_before = lit≤ tt; page = refl } }; limits = refl; backup = refl; new_page = refl; pages = refl }

halfway_follows_5 : MayFollow store_system (halfway_0 ∷ halfway_1 ∷ halfway_2 ∷ halfway_3 ∷ halfway_4 ∷ []) halfway_5
unfolding boot one_step steps silently plain_after schedule_of placement told is_over silent_upto emission_at before_fork_at backup_record account_after
halfway_follows_5 = record { stands = record { placed = (refl, refl, refl); by_right = refl; applies = refl; kind = record { state = refl; took_first = refl; reads = refl; children = refl; account = refl; due = refl } }; limits = refl; backup = refl; new_page = refl; pages = refl }

halfway_follows_6 : MayFollow store_system (halfway_0 ∷ halfway_1 ∷ halfway_2 ∷ halfway_3 ∷ halfway_4 ∷ halfway_5 ∷ []) halfway_6
unfolding boot one_step steps silently plain_after schedule_of placement told is_over silent_upto emission_at before_fork_at backup_record account_after
halfway_follows_6 = record { stands = record { placed = (refl, refl, refl); by_right = refl; applies = refl; kind = (refl, refl) }; limits = refl; backup = refl; new_page = refl; pages = refl }

halfway_follows_7 : MayFollow store_system (halfway_0 ∷ halfway_1 ∷ halfway_2 ∷ halfway_3 ∷ halfway_4 ∷ halfway_5 ∷ halfway_6 ∷ []) halfway_7
unfolding boot one_step steps silently plain_after schedule_of placement told is_over silent_upto emission_at before_fork_at backup_record account_after
halfway_follows_7 = record { stands = record { placed = (refl, refl, refl); by_right = refl; applies = refl; kind = record { named = refl; silent = refl; still = refl } }; limits = refl; backup = refl; new_page = refl; pages = refl }

pub halfway_legal : IsLegal store_system halfway_log
unfolding IsLegalBy
halfway_legal = (halfway_follows_0, (halfway_follows_1, (halfway_follows_2, (halfway_follows_3, (halfway_follows_4, (halfway_follows_5, (halfway_follows_6, (halfway_follows_7, tt))))))))

halfway_schedule : schedule_of store_system halfway_log ≡ Run (pid 16) 64 ∷ Run (pid 16) 38 ∷ []
unfolding boot one_step steps silently plain_after schedule_of placement told is_over silent_upto emission_at before_fork_at backup_record account_after
halfway_schedule = refl

halfway_counted : counted store_system halfway_log ≡ 0
unfolding boot one_step steps silently plain_after schedule_of placement told is_over silent_upto emission_at before_fork_at backup_record account_after
halfway_counted = refl

-- ---- store, and cluster 0 is lost directly after the synchronisation

abbrev pub synced_0 : Entry
synced_0 = entry 0 (by_cluster 0) 3 None (Page (pid 16) 64 0 (page_upto store_system ([]) 64))

abbrev pub synced_1 : Entry
synced_1 = entry 1 (by_cluster 0) 3 None (Sync (pid 16) ((process_upto store_system (synced_0 ∷ []) 64).small) [] None)

abbrev pub synced_2 : Entry
synced_2 = entry 2 Bus 3 None (Crash (cluster 0) Place)

abbrev pub synced_3 : Entry
synced_3 = entry 3 (by_cluster 1) 2 None (Fetch (pid 16) 0)

abbrev pub synced_4 : Entry
synced_4 = entry 4 (by_cluster 1) 2 None (PageIs (pid 16) 0 (page_upto store_system [] 64))

abbrev pub synced_5 : Entry
synced_5 = entry 5 (by_cluster 1) 2 None (Exit (pid 16) 102 Limit)

abbrev pub synced_6 : Entry
synced_6 = entry 6 Bus 2 None (Done [])

abbrev pub synced_log : List Entry
synced_log = synced_0 ∷ synced_1 ∷ synced_2 ∷ synced_3 ∷ synced_4 ∷ synced_5 ∷ synced_6 ∷ []

synced_follows_0 : MayFollow store_system ([]) synced_0
unfolding boot one_step steps silently plain_after schedule_of placement told is_over silent_upto emission_at before_fork_at backup_record account_after
synced_follows_0 = record { stands = record { placed = (refl, refl, refl); by_right = refl; applies = refl; kind = record { within = lit< tt; not_before = lit≤ tt; page = refl } }; limits = refl; backup = refl; new_page = refl; pages = refl }

synced_follows_1 : MayFollow store_system (synced_0 ∷ []) synced_1
unfolding boot one_step steps silently plain_after schedule_of placement told is_over silent_upto emission_at before_fork_at backup_record account_after
synced_follows_1 = record { stands = record { placed = (refl, refl, refl); by_right = refl; applies = refl; kind = record { state = refl; took_first = refl; reads = refl; children = refl; account = refl; due = refl } }; limits = refl; backup = refl; new_page = refl; pages = refl }

synced_follows_2 : MayFollow store_system (synced_0 ∷ synced_1 ∷ []) synced_2
unfolding boot one_step steps silently plain_after schedule_of placement told is_over silent_upto emission_at before_fork_at backup_record account_after
synced_follows_2 = record { stands = record { placed = (refl, refl, refl); by_right = refl; applies = refl; kind = refl }; limits = refl; backup = refl; new_page = refl; pages = refl }

synced_follows_3 : MayFollow store_system (synced_0 ∷ synced_1 ∷ synced_2 ∷ []) synced_3
unfolding boot one_step steps silently plain_after schedule_of placement told is_over silent_upto emission_at before_fork_at backup_record account_after
synced_follows_3 = record { stands = record { placed = (refl, refl, refl); by_right = refl; applies = refl; kind = record { within = lit< tt; moved = refl; unasked = refl } }; limits = refl; backup = refl; new_page = refl; pages = refl }

synced_follows_4 : MayFollow store_system (synced_0 ∷ synced_1 ∷ synced_2 ∷ synced_3 ∷ []) synced_4
unfolding boot one_step steps silently plain_after schedule_of placement told is_over silent_upto emission_at before_fork_at backup_record account_after
synced_follows_4 = record { stands = record { placed = (refl, refl, refl); by_right = refl; applies = refl; kind = record { asked = refl; page = refl } }; limits = refl; backup = refl; new_page = refl; pages = refl }

synced_follows_5 : MayFollow store_system (synced_0 ∷ synced_1 ∷ synced_2 ∷ synced_3 ∷ synced_4 ∷ []) synced_5
unfolding boot one_step steps silently plain_after schedule_of placement told is_over silent_upto emission_at before_fork_at backup_record account_after
synced_follows_5 = record { stands = record { placed = (refl, refl, refl); by_right = refl; applies = refl; kind = (refl, refl) }; limits = refl; backup = refl; new_page = refl; pages = refl }

synced_follows_6 : MayFollow store_system (synced_0 ∷ synced_1 ∷ synced_2 ∷ synced_3 ∷ synced_4 ∷ synced_5 ∷ []) synced_6
unfolding boot one_step steps silently plain_after schedule_of placement told is_over silent_upto emission_at before_fork_at backup_record account_after
synced_follows_6 = record { stands = record { placed = (refl, refl, refl); by_right = refl; applies = refl; kind = record { named = refl; silent = refl; still = refl } }; limits = refl; backup = refl; new_page = refl; pages = refl }

pub synced_legal : IsLegal store_system synced_log
unfolding IsLegalBy
synced_legal = (synced_follows_0, (synced_follows_1, (synced_follows_2, (synced_follows_3, (synced_follows_4, (synced_follows_5, (synced_follows_6, tt)))))))

synced_schedule : schedule_of store_system synced_log ≡ Run (pid 16) 64 ∷ Run (pid 16) 38 ∷ []
unfolding boot one_step steps silently plain_after schedule_of placement told is_over silent_upto emission_at before_fork_at backup_record account_after
synced_schedule = refl

synced_counted : counted store_system synced_log ≡ 0
unfolding boot one_step steps silently plain_after schedule_of placement told is_over silent_upto emission_at before_fork_at backup_record account_after
synced_counted = refl

-- ---- a fullback: it gets its new backup before it runs on

abbrev pub full_0 : Entry
full_0 = entry 0 (by_cluster 0) 2 (Some 0) (writes 6 (97 ∷ 10 ∷ []))

abbrev pub full_1 : Entry
full_1 = entry 1 Bus 7 None (Crash (cluster 0) Place)

abbrev pub full_2 : Entry
full_2 = entry 2 (by_cluster 1) 6 None (Rebackup (cluster 2) false (to_list (backup_record full_system (full_0 ∷ full_1 ∷ []) (pid 16))))

abbrev pub full_3 : Entry
full_3 = entry 3 (by_cluster 1) 2 None (Fetch (pid 16) 0)

abbrev pub full_4 : Entry
full_4 = entry 4 (by_cluster 1) 2 None (PageIs (pid 16) 0 (image_page two_words))

abbrev pub full_5 : Entry
full_5 = entry 5 (by_cluster 1) 4 (Some 0) (writes 9 (98 ∷ 10 ∷ []))

abbrev pub full_6 : Entry
full_6 = entry 6 (by_cluster 1) 6 None (Exit (pid 16) 13 (Exited 0))

abbrev pub full_7 : Entry
full_7 = entry 7 Bus 6 None (Done [])

abbrev pub full_log : List Entry
full_log = full_0 ∷ full_1 ∷ full_2 ∷ full_3 ∷ full_4 ∷ full_5 ∷ full_6 ∷ full_7 ∷ []

full_follows_0 : MayFollow full_system ([]) full_0
unfolding boot one_step steps silently plain_after schedule_of placement told is_over silent_upto emission_at before_fork_at backup_record account_after
full_follows_0 = record { stands = record { placed = (refl, refl, refl); by_right = refl; applies = refl; kind = refl }; limits = refl; backup = refl; new_page = refl; pages = refl }

full_follows_1 : MayFollow full_system (full_0 ∷ []) full_1
unfolding boot one_step steps silently plain_after schedule_of placement told is_over silent_upto emission_at before_fork_at backup_record account_after
full_follows_1 = record { stands = record { placed = (refl, refl, refl); by_right = refl; applies = refl; kind = refl }; limits = refl; backup = refl; new_page = refl; pages = refl }

full_follows_2 : MayFollow full_system (full_0 ∷ full_1 ∷ []) full_2
unfolding boot one_step steps silently plain_after schedule_of placement told is_over silent_upto emission_at before_fork_at backup_record account_after
full_follows_2 = record { stands = record { placed = (refl, refl, refl); by_right = refl; applies = refl; kind = record { backup = refl; fullback = refl; waits = refl; stated = refl; family = refl; records = refl } }; limits = refl; backup = refl; new_page = refl; pages = refl }

full_follows_3 : MayFollow full_system (full_0 ∷ full_1 ∷ full_2 ∷ []) full_3
unfolding boot one_step steps silently plain_after schedule_of placement told is_over silent_upto emission_at before_fork_at backup_record account_after
full_follows_3 = record { stands = record { placed = (refl, refl, refl); by_right = refl; applies = refl; kind = record { within = lit< tt; moved = refl; unasked = refl } }; limits = refl; backup = refl; new_page = refl; pages = refl }

full_follows_4 : MayFollow full_system (full_0 ∷ full_1 ∷ full_2 ∷ full_3 ∷ []) full_4
unfolding boot one_step steps silently plain_after schedule_of placement told is_over silent_upto emission_at before_fork_at backup_record account_after
full_follows_4 = record { stands = record { placed = (refl, refl, refl); by_right = refl; applies = refl; kind = record { asked = refl; page = refl } }; limits = refl; backup = refl; new_page = refl; pages = refl }

full_follows_5 : MayFollow full_system (full_0 ∷ full_1 ∷ full_2 ∷ full_3 ∷ full_4 ∷ []) full_5
unfolding boot one_step steps silently plain_after schedule_of placement told is_over silent_upto emission_at before_fork_at backup_record account_after
full_follows_5 = record { stands = record { placed = (refl, refl, refl); by_right = refl; applies = refl; kind = refl }; limits = refl; backup = refl; new_page = refl; pages = refl }

full_follows_6 : MayFollow full_system (full_0 ∷ full_1 ∷ full_2 ∷ full_3 ∷ full_4 ∷ full_5 ∷ []) full_6
unfolding boot one_step steps silently plain_after schedule_of placement told is_over silent_upto emission_at before_fork_at backup_record account_after
full_follows_6 = record { stands = record { placed = (refl, refl, refl); by_right = refl; applies = refl; kind = (refl, refl) }; limits = refl; backup = refl; new_page = refl; pages = refl }

full_follows_7 : MayFollow full_system (full_0 ∷ full_1 ∷ full_2 ∷ full_3 ∷ full_4 ∷ full_5 ∷ full_6 ∷ []) full_7
unfolding boot one_step steps silently plain_after schedule_of placement told is_over silent_upto emission_at before_fork_at backup_record account_after
full_follows_7 = record { stands = record { placed = (refl, refl, refl); by_right = refl; applies = refl; kind = record { named = refl; silent = refl; still = refl } }; limits = refl; backup = refl; new_page = refl; pages = refl }

pub full_legal : IsLegal full_system full_log
unfolding IsLegalBy
full_legal = (full_follows_0, (full_follows_1, (full_follows_2, (full_follows_3, (full_follows_4, (full_follows_5, (full_follows_6, (full_follows_7, tt))))))))

full_schedule : schedule_of full_system full_log ≡ Run (pid 16) 6 ∷ Run (pid 16) 3 ∷ Run (pid 16) 4 ∷ []
unfolding boot one_step steps silently plain_after schedule_of placement told is_over silent_upto emission_at before_fork_at backup_record account_after
full_schedule = refl

full_counted : counted full_system full_log ≡ 1
unfolding boot one_step steps silently plain_after schedule_of placement told is_over silent_upto emission_at before_fork_at backup_record account_after
full_counted = refl

-- ---- a halfback: it gets its new backup when its lost cluster is back

abbrev pub half_0 : Entry
half_0 = entry 0 (by_cluster 0) 2 (Some 0) (writes 6 (97 ∷ 10 ∷ []))

abbrev pub half_1 : Entry
half_1 = entry 1 Bus 7 None (Crash (cluster 0) Place)

abbrev pub half_2 : Entry
half_2 = entry 2 (by_cluster 1) 6 None (Fetch (pid 16) 0)

abbrev pub half_3 : Entry
half_3 = entry 3 (by_cluster 1) 6 None (PageIs (pid 16) 0 (image_page two_words))

abbrev pub half_4 : Entry
half_4 = entry 4 Bus 7 None (Return (cluster 0))

abbrev pub half_5 : Entry
half_5 = entry 5 (by_cluster 1) 0 (Some 0) (writes 9 (98 ∷ 10 ∷ []))

abbrev pub half_6 : Entry
half_6 = entry 6 (by_cluster 1) 7 None (Rebackup (cluster 0) true (record_with (pid 16) true [] 0 [] (process_upto half_system (half_0 ∷ half_1 ∷ half_2 ∷ half_3 ∷ half_4 ∷ half_5 ∷ []) 9) ∷ []))

abbrev pub half_7 : Entry
half_7 = entry 7 (by_cluster 1) 7 None (Exit (pid 16) 13 (Exited 0))

abbrev pub half_8 : Entry
half_8 = entry 8 Bus 7 None (Done [])

abbrev pub half_log : List Entry
half_log = half_0 ∷ half_1 ∷ half_2 ∷ half_3 ∷ half_4 ∷ half_5 ∷ half_6 ∷ half_7 ∷ half_8 ∷ []

half_follows_0 : MayFollow half_system ([]) half_0
unfolding boot one_step steps silently plain_after schedule_of placement told is_over silent_upto emission_at before_fork_at backup_record account_after
half_follows_0 = record { stands = record { placed = (refl, refl, refl); by_right = refl; applies = refl; kind = refl }; limits = refl; backup = refl; new_page = refl; pages = refl }

half_follows_1 : MayFollow half_system (half_0 ∷ []) half_1
unfolding boot one_step steps silently plain_after schedule_of placement told is_over silent_upto emission_at before_fork_at backup_record account_after
half_follows_1 = record { stands = record { placed = (refl, refl, refl); by_right = refl; applies = refl; kind = refl }; limits = refl; backup = refl; new_page = refl; pages = refl }

half_follows_2 : MayFollow half_system (half_0 ∷ half_1 ∷ []) half_2
unfolding boot one_step steps silently plain_after schedule_of placement told is_over silent_upto emission_at before_fork_at backup_record account_after
half_follows_2 = record { stands = record { placed = (refl, refl, refl); by_right = refl; applies = refl; kind = record { within = lit< tt; moved = refl; unasked = refl } }; limits = refl; backup = refl; new_page = refl; pages = refl }

half_follows_3 : MayFollow half_system (half_0 ∷ half_1 ∷ half_2 ∷ []) half_3
unfolding boot one_step steps silently plain_after schedule_of placement told is_over silent_upto emission_at before_fork_at backup_record account_after
half_follows_3 = record { stands = record { placed = (refl, refl, refl); by_right = refl; applies = refl; kind = record { asked = refl; page = refl } }; limits = refl; backup = refl; new_page = refl; pages = refl }

half_follows_4 : MayFollow half_system (half_0 ∷ half_1 ∷ half_2 ∷ half_3 ∷ []) half_4
unfolding boot one_step steps silently plain_after schedule_of placement told is_over silent_upto emission_at before_fork_at backup_record account_after
half_follows_4 = record { stands = record { placed = (refl, refl, refl); by_right = refl; applies = refl; kind = refl }; limits = refl; backup = refl; new_page = refl; pages = refl }

half_follows_5 : MayFollow half_system (half_0 ∷ half_1 ∷ half_2 ∷ half_3 ∷ half_4 ∷ []) half_5
unfolding boot one_step steps silently plain_after schedule_of placement told is_over silent_upto emission_at before_fork_at backup_record account_after
half_follows_5 = record { stands = record { placed = (refl, refl, refl); by_right = refl; applies = refl; kind = refl }; limits = refl; backup = refl; new_page = refl; pages = refl }

half_follows_6 : MayFollow half_system (half_0 ∷ half_1 ∷ half_2 ∷ half_3 ∷ half_4 ∷ half_5 ∷ []) half_6
unfolding boot one_step steps silently plain_after schedule_of placement told is_over silent_upto emission_at before_fork_at backup_record account_after
half_follows_6 = record { stands = record { placed = (refl, refl, refl); by_right = refl; applies = refl; kind = record { backup = refl; silent = refl; records = refl; children = refl; account = refl } }; limits = refl; backup = refl; new_page = refl; pages = refl }

half_follows_7 : MayFollow half_system (half_0 ∷ half_1 ∷ half_2 ∷ half_3 ∷ half_4 ∷ half_5 ∷ half_6 ∷ []) half_7
unfolding boot one_step steps silently plain_after schedule_of placement told is_over silent_upto emission_at before_fork_at backup_record account_after
half_follows_7 = record { stands = record { placed = (refl, refl, refl); by_right = refl; applies = refl; kind = (refl, refl) }; limits = refl; backup = refl; new_page = refl; pages = refl }

half_follows_8 : MayFollow half_system (half_0 ∷ half_1 ∷ half_2 ∷ half_3 ∷ half_4 ∷ half_5 ∷ half_6 ∷ half_7 ∷ []) half_8
unfolding boot one_step steps silently plain_after schedule_of placement told is_over silent_upto emission_at before_fork_at backup_record account_after
half_follows_8 = record { stands = record { placed = (refl, refl, refl); by_right = refl; applies = refl; kind = record { named = refl; silent = refl; still = refl } }; limits = refl; backup = refl; new_page = refl; pages = refl }

pub half_legal : IsLegal half_system half_log
unfolding IsLegalBy
half_legal = (half_follows_0, (half_follows_1, (half_follows_2, (half_follows_3, (half_follows_4, (half_follows_5, (half_follows_6, (half_follows_7, (half_follows_8, tt)))))))))

half_schedule : schedule_of half_system half_log ≡ Run (pid 16) 6 ∷ Run (pid 16) 3 ∷ Run (pid 16) 4 ∷ []
unfolding boot one_step steps silently plain_after schedule_of placement told is_over silent_upto emission_at before_fork_at backup_record account_after
half_schedule = refl

half_counted : counted half_system half_log ≡ 1
unfolding boot one_step steps silently plain_after schedule_of placement told is_over silent_upto emission_at before_fork_at backup_record account_after
half_counted = refl

-- ---- wait: a fullback that was moved and waits for ever; but for the rule of new backups the end may stand without one

abbrev pub wait_0 : Entry
wait_0 = entry 0 Bus 7 None (Crash (cluster 0) Place)

abbrev pub wait_1 : Entry
wait_1 = entry 1 Bus 6 None (Done ((pid 16, 4) ∷ (pid 17, 4) ∷ []))

pub wait_stands_1 : Stands wait_system (wait_0 ∷ []) wait_1
unfolding boot one_step steps silently plain_after schedule_of placement told is_over silent_upto emission_at before_fork_at backup_record account_after
wait_stands_1 = record { placed = (refl, refl, refl); by_right = refl; applies = refl; kind = record { named = refl; silent = refl; still = refl } }
