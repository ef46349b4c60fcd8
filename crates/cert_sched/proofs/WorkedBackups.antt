-- The rule of new backups against all others: a fullback that a crash moved may neither run on nor rest without its new backup, by computation.
use Rattle.std.proofs.Common.{◌≡◌, refl, List, [], ◌∷◌, Some, None, false}
use Rattle.sys_calls.specs.Next.{silently}
use Rattle.plain_kernel.specs.Kernel.{boot}
use Rattle.plain_kernel.specs.Apply.{one_step, steps}
use Rattle.bus_msg.specs.declared.entry.What.TheVariants.{PageIs, Fetch}
use Rattle.bus_msg.specs.declared.entry.Entry.{Entry}
use Rattle.bus_msg.specs.PlacedAfter.{what}
use Rattle.cert_sched.specs.Schedule.{plain_after, placement, schedule_of}
use Rattle.cert_sched.specs.Told.{told}
use Rattle.cert_sched.specs.Record.{backup_record}
use Rattle.cert_sched.specs.Account.{account_after}
use Rattle.cert_sched.specs.Steps.{silent_upto, emission_at, before_fork_at}
use Rattle.cert_sched.specs.Rules.{is_over, keeps_backups}
use Rattle.cert_sched.specs.Rests.{IsRestOf, owes_no_backup_at}
use Rattle.cert_sched.specs.Legal.{MayFollow, MayStand}
use Rattle.cert_sched.proofs.Systems.{cluster, two_words, full_system, wait_system}
use Rattle.cert_sched.proofs.WorkedLogs.{pid, entry, by_cluster, writes, image_page, full_0, full_1, wait_0, wait_1, wait_stands_1}

-- ---- the fullback of the worked log gets its page, and no new backup

abbrev bare_2 : Entry
bare_2 = entry 2 (by_cluster 1) 2 None (Fetch (pid 16) 0)

abbrev bare_3 : Entry
bare_3 = entry 3 (by_cluster 1) 2 None (PageIs (pid 16) 0 (image_page two_words))

-- its next letter, which goes to the terminal alone
abbrev bare_4 : Entry
bare_4 = entry 4 (by_cluster 1) 0 (Some 0) (writes 9 (98 ∷ 10 ∷ []))

abbrev bare_log : List Entry
bare_log = full_0 ∷ full_1 ∷ bare_2 ∷ bare_3 ∷ []

-- the letter comes before the new backup, against the rule
bare_breaks : keeps_backups full_system bare_log (what bare_4) ≡ false
unfolding placement told
bare_breaks = refl

-- so no legal log goes on by it,
bare_refused : MayFollow full_system bare_log bare_4 → ⊥
unfolding placement told
bare_refused h = let e = h.backup in cc

-- where all other rules are kept
bare_goes_on : MayStand full_system bare_log bare_4
unfolding boot one_step steps silently plain_after schedule_of placement told is_over silent_upto emission_at before_fork_at backup_record account_after
bare_goes_on = record { stands = record { placed = (refl, refl, refl); by_right = refl; applies = refl; kind = refl }; limits = refl; new_page = refl; pages = refl }

-- ---- a fullback that was moved waits for ever, and is owed a new backup

wait_breaks : keeps_backups wait_system (wait_0 ∷ []) (what wait_1) ≡ false
unfolding placement told
wait_breaks = refl

-- all other rules are kept
wait_ends : MayStand wait_system (wait_0 ∷ []) wait_1
unfolding placement told
wait_ends = record { stands = wait_stands_1; limits = refl; new_page = refl; pages = refl }

-- and its home may not tell that all rests there
wait_owed : owes_no_backup_at wait_system (wait_0 ∷ []) (cluster 1) ≡ false
unfolding placement told
wait_owed = refl

wait_rests_not : IsRestOf wait_system (wait_0 ∷ []) (cluster 1) ((pid 16, 4) ∷ (pid 17, 4) ∷ []) → ⊥
unfolding placement told
wait_rests_not h = let e = h.backed in cc
