-- Entries that may not follow, each refused by one rule, by computation.
use Rattle.std.proofs.Common.{◌≡◌, ℕ, ap, slice_index, List, [], ◌∷◌, Option, Some, None, false}
use Rattle.std.specs.Prelude.{option_map}
use Rattle.t32_base.specs.declared.process.End.TheVariants.{Exit as Exited, Limit}
use Rattle.sys_calls.specs.Next.{silently}
use Rattle.plain_kernel.specs.Kernel.{boot}
use Rattle.plain_kernel.specs.Apply.{one_step, steps}
use Rattle.bus_msg.specs.declared.entry.What.TheVariants.{Exit, Page, PageIs, Sync, Fetch, Return, Rebackup, Done, Stop}
use Rattle.bus_msg.specs.declared.entry.Dests.{Dests}
use Rattle.bus_msg.specs.declared.entry.By.TheVariants.{Bus}
use Rattle.cert_sched.specs.Schedule.{plain_after, placement, schedule_of}
use Rattle.cert_sched.specs.Told.{told}
use Rattle.cert_sched.specs.Record.{backup_record}
use Rattle.cert_sched.specs.Account.{account_after, page_in}
use Rattle.cert_sched.specs.Steps.{silent_upto, emission_at, before_fork_at}
use Rattle.cert_sched.specs.Rules.{is_over}
use Rattle.cert_sched.specs.Legal.{MayFollow}
use Rattle.cert_sched.proofs.Systems.{cluster, two_words, hi_system, two_system, store_system, full_system, half_system, wait_system}
use Rattle.cert_sched.proofs.WorkedLogs.{pid, entry, by_cluster, writes, process_upto, page_upto, image_page, to_list, hi_0, hi_1, hi_2, two_0, later_0, later_1, later_2, later_3, store_0, halfway_0, halfway_1, halfway_2, full_0, full_1, half_0, half_1, wait_0, wait_1}

-- two large lists are told apart by one byte
zero_is_not_one : ◌≡◌ {A = Option ℕ} (Some 0) (Some 1) → ⊥
zero_is_not_one e = cc

zero_is_not_two : ◌≡◌ {A = ℕ} 0 2 → ⊥
zero_is_not_two e = cc

-- the third byte of the word at 0x10040, which the program stores there
abbrev byte_of_page : Option (List ℕ) → ℕ
byte_of_page None = 0
byte_of_page (Some bytes) = slice_index bytes 66

-- a letter a second time, after the crash
letter_again : MayFollow two_system (later_0 ∷ later_1 ∷ later_2 ∷ later_3 ∷ []) (entry 4 (by_cluster 1) 0 (Some 0) (writes 6 (97 ∷ 10 ∷ []))) → ⊥
unfolding boot one_step steps silently plain_after schedule_of placement told is_over silent_upto emission_at before_fork_at backup_record account_after
letter_again h = let e = h.stands.kind in cc

-- a letter before its step
letter_early : MayFollow two_system ([]) (entry 0 (by_cluster 0) 2 (Some 0) (writes 5 (97 ∷ 10 ∷ []))) → ⊥
unfolding boot one_step steps silently plain_after schedule_of placement told is_over silent_upto emission_at before_fork_at backup_record account_after
letter_early h = let e = h.stands.kind in cc

-- an exit in place of the letter that is sent
exit_in_place : MayFollow two_system ([]) (entry 0 (by_cluster 0) 3 None (Exit (pid 16) 6 (Exited 0))) → ⊥
unfolding boot one_step steps silently plain_after schedule_of placement told is_over silent_upto emission_at before_fork_at backup_record account_after
exit_in_place h = let e = h.stands.kind.0 in cc

-- a place that is taken
wrong_place : MayFollow two_system (two_0 ∷ []) (entry 0 (by_cluster 0) 2 (Some 0) (writes 9 (98 ∷ 10 ∷ []))) → ⊥
unfolding boot one_step steps silently plain_after schedule_of placement told is_over silent_upto emission_at before_fork_at backup_record account_after
wrong_place h = let e = h.stands.placed.0 in cc

-- a letter that leaves out the backup of its sender
not_to_the_backup : MayFollow two_system ([]) (entry 0 (by_cluster 0) 0 (Some 0) (writes 6 (97 ∷ 10 ∷ []))) → ⊥
unfolding boot one_step steps silently plain_after schedule_of placement told is_over silent_upto emission_at before_fork_at backup_record account_after
not_to_the_backup h = zero_is_not_two (ap (λ (d : Dests). d.clusters) h.stands.placed.1)

-- an entry after the end
after_the_end : MayFollow hi_system (hi_0 ∷ hi_1 ∷ hi_2 ∷ []) (entry 3 Bus 3 None Stop) → ⊥
unfolding boot one_step steps silently plain_after schedule_of placement told is_over silent_upto emission_at before_fork_at backup_record account_after
after_the_end h = let e = h.stands.placed.2 in cc

-- an entry by a cluster that is not the home of the process
by_another : MayFollow two_system ([]) (entry 0 (by_cluster 1) 2 (Some 0) (writes 6 (97 ∷ 10 ∷ []))) → ⊥
unfolding boot one_step steps silently plain_after schedule_of placement told is_over silent_upto emission_at before_fork_at backup_record account_after
by_another h = let e = h.stands.by_right in cc

-- an entry by a cluster that was lost
by_a_lost_cluster : MayFollow two_system (later_0 ∷ later_1 ∷ []) (entry 2 (by_cluster 0) 0 (Some 0) (writes 9 (98 ∷ 10 ∷ []))) → ⊥
unfolding boot one_step steps silently plain_after schedule_of placement told is_over silent_upto emission_at before_fork_at backup_record account_after
by_a_lost_cluster h = let e = h.stands.by_right in cc

-- the end while a process can move
end_too_early : MayFollow hi_system (hi_0 ∷ []) (entry 1 Bus 3 None (Done ((pid 16, 6) ∷ []))) → ⊥
unfolding boot one_step steps silently plain_after schedule_of placement told is_over silent_upto emission_at before_fork_at backup_record account_after
end_too_early h = let e = h.stands.kind.still in cc

-- an end that leaves out a process that has not ended
end_leaves_one_out : MayFollow hi_system (hi_0 ∷ []) (entry 1 Bus 3 None (Done [])) → ⊥
unfolding boot one_step steps silently plain_after schedule_of placement told is_over silent_upto emission_at before_fork_at backup_record account_after
end_leaves_one_out h = let e = h.stands.kind.named in cc

-- a synchronisation that is not due
sync_too_soon : MayFollow store_system ([]) (entry 0 (by_cluster 0) 3 None (Sync (pid 16) ((process_upto store_system [] 1).small) [] None)) → ⊥
unfolding boot one_step steps silently plain_after schedule_of placement told is_over silent_upto emission_at before_fork_at backup_record account_after
sync_too_soon h = let e = h.stands.kind.due in cc

-- a synchronisation whose changed page was not sent
page_not_sent : MayFollow store_system ([]) (entry 0 (by_cluster 0) 3 None (Sync (pid 16) ((process_upto store_system [] 64).small) [] None)) → ⊥
unfolding boot one_step steps silently plain_after schedule_of placement told is_over silent_upto emission_at before_fork_at backup_record account_after
page_not_sent h = zero_is_not_one (ap (option_map (λ (pages : List (ℕ × List ℕ)). byte_of_page (page_in pages 0))) h.stands.kind.account)

-- a page a second time at one step count
page_again : MayFollow store_system (store_0 ∷ []) (entry 1 (by_cluster 0) 3 None (Page (pid 16) 64 0 (page_upto store_system [] 64))) → ⊥
unfolding boot one_step steps silently plain_after schedule_of placement told is_over silent_upto emission_at before_fork_at backup_record account_after
page_again h = let e = h.new_page in cc

-- an exit after more steps than a process may make without a synchronisation
too_many_steps : MayFollow store_system ([]) (entry 0 (by_cluster 0) 3 None (Exit (pid 16) 102 Limit)) → ⊥
unfolding boot one_step steps silently plain_after schedule_of placement told is_over silent_upto emission_at before_fork_at backup_record account_after
too_many_steps h = let e = h.limits in cc

-- the answer to a fetch with a page that was sent and not synchronised
page_not_kept : MayFollow store_system (halfway_0 ∷ halfway_1 ∷ halfway_2 ∷ []) (entry 3 (by_cluster 1) 2 None (PageIs (pid 16) 0 (page_upto store_system [] 64))) → ⊥
unfolding boot one_step steps silently plain_after schedule_of placement told is_over silent_upto emission_at before_fork_at backup_record account_after
page_not_kept h = zero_is_not_one (ap (option_map (λ (bytes : List ℕ). slice_index bytes 66)) h.stands.kind.page)

-- a page that was not asked for
not_asked : MayFollow two_system (later_0 ∷ later_1 ∷ []) (entry 2 (by_cluster 1) 2 None (PageIs (pid 16) 0 (image_page two_words))) → ⊥
unfolding boot one_step steps silently plain_after schedule_of placement told is_over silent_upto emission_at before_fork_at backup_record account_after
not_asked h = let e = h.stands.kind.asked in cc

-- a page asked for a second time
fetch_again : MayFollow two_system (later_0 ∷ later_1 ∷ later_2 ∷ []) (entry 3 (by_cluster 1) 2 None (Fetch (pid 16) 0)) → ⊥
unfolding boot one_step steps silently plain_after schedule_of placement told is_over silent_upto emission_at before_fork_at backup_record account_after
fetch_again h = let e = h.stands.kind.unasked in cc

-- a page asked for by a process that no crash moved
fetch_unmoved : MayFollow two_system ([]) (entry 0 (by_cluster 0) 3 None (Fetch (pid 16) 0)) → ⊥
unfolding boot one_step steps silently plain_after schedule_of placement told is_over silent_upto emission_at before_fork_at backup_record account_after
fetch_unmoved h = let e = h.stands.kind.moved in cc

-- a letter of a process that was moved, before its page has come
before_its_pages : MayFollow two_system (later_0 ∷ later_1 ∷ []) (entry 2 (by_cluster 1) 0 (Some 0) (writes 9 (98 ∷ 10 ∷ []))) → ⊥
unfolding boot one_step steps silently plain_after schedule_of placement told is_over silent_upto emission_at before_fork_at backup_record account_after
before_its_pages h = let e = h.pages in cc

-- a letter of a fullback that was moved, before it has a new backup
before_its_backup : MayFollow full_system (full_0 ∷ full_1 ∷ []) (entry 2 (by_cluster 1) 0 (Some 0) (writes 9 (98 ∷ 10 ∷ []))) → ⊥
unfolding boot one_step steps silently plain_after schedule_of placement told is_over silent_upto emission_at before_fork_at backup_record account_after
before_its_backup h = let e = h.backup in cc

-- a new backup in another cluster than the lowest that lives
wrong_backup : MayFollow full_system (full_0 ∷ full_1 ∷ []) (entry 2 (by_cluster 1) 6 None (Rebackup (cluster 1) false (to_list (backup_record full_system (full_0 ∷ full_1 ∷ []) (pid 16))))) → ⊥
unfolding boot one_step steps silently plain_after schedule_of placement told is_over silent_upto emission_at before_fork_at backup_record account_after
wrong_backup h = let e = h.stands.kind.backup in cc

-- the return of a cluster that lives
return_of_the_living : MayFollow half_system (half_0 ∷ half_1 ∷ []) (entry 2 Bus 6 None (Return (cluster 1))) → ⊥
unfolding boot one_step steps silently plain_after schedule_of placement told is_over silent_upto emission_at before_fork_at backup_record account_after
return_of_the_living h = let e = h.stands.kind in cc

-- the return of a cluster that the system does not have
return_of_none : MayFollow half_system (half_0 ∷ half_1 ∷ []) (entry 2 Bus 14 None (Return (cluster 3))) → ⊥
unfolding boot one_step steps silently plain_after schedule_of placement told is_over silent_upto emission_at before_fork_at backup_record account_after
return_of_none h = let e = h.stands.kind in cc

-- the end while a fullback that was moved is owed its new backup
owed_at_the_end : MayFollow wait_system (wait_0 ∷ []) wait_1 → ⊥
unfolding boot one_step steps silently plain_after schedule_of placement told is_over silent_upto emission_at before_fork_at backup_record account_after
owed_at_the_end h = let e = h.backup in cc
