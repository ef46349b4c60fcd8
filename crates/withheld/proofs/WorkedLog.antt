-- In the worked logs each entry stands, and two letters and one are withheld in them, by computation.
use Rattle.std.proofs.Common.{◌≡◌, refl, sym, subst, List, [], ◌∷◌, true}
use Rattle.sys_text.specs.declared.system.System.{System}
use Rattle.bus_msg.specs.declared.entry.Entry.{Entry}
use Rattle.plain_kernel.specs.Kernel.{boot}
use Rattle.plain_kernel.specs.Apply.{one_step, steps}
use Rattle.sys_calls.specs.Next.{silently}
use Rattle.sys_text.specs.Valid.{is_system}
use Rattle.cert_sched.specs.Schedule.{plain_after, placement}
use Rattle.cert_sched.specs.Told.{told}
use Rattle.cert_sched.specs.Account.{account_after}
use Rattle.cert_sched.specs.Record.{backup_record}
use Rattle.cert_sched.specs.Steps.{emission_at, silent_upto}
use Rattle.cert_sched.specs.Counted.{counted}
use Rattle.cert_sched.specs.Rules.{is_over}
use Rattle.cert_sched.specs.Legal.{IsLegalBy, Stands}
use Rattle.withheld.specs.Worked.{cut, loss, two_and_one, two_waiting, two_writers, with_cut, with_loss, writes}

pub valid : is_system two_writers ≡ true
valid = refl

follows_0 : Stands two_writers [] (writes 0 0 16 2 6 97)
unfolding boot one_step steps silently plain_after placement told is_over silent_upto emission_at backup_record
follows_0 = record { placed = (refl, refl, refl); by_right = refl; applies = refl; kind = refl }

follows_1 : Stands two_writers (writes 0 0 16 2 6 97 ∷ []) (writes 1 1 17 1 6 97)
unfolding boot one_step steps silently plain_after placement told is_over silent_upto emission_at backup_record
follows_1 = record { placed = (refl, refl, refl); by_right = refl; applies = refl; kind = refl }

follows_2 : Stands two_writers (writes 0 0 16 2 6 97 ∷ writes 1 1 17 1 6 97 ∷ []) (writes 2 0 16 2 9 98)
unfolding boot one_step steps silently plain_after placement told is_over silent_upto emission_at backup_record
follows_2 = record { placed = (refl, refl, refl); by_right = refl; applies = refl; kind = refl }

follows_3 : Stands two_writers two_and_one (loss 3)
unfolding boot one_step steps silently plain_after placement told is_over silent_upto emission_at backup_record
follows_3 = record { placed = (refl, refl, refl); by_right = refl; applies = refl; kind = refl }

pub legal_before : IsLegalBy Stands two_writers two_and_one
unfolding IsLegalBy
legal_before = (follows_0, (follows_1, (follows_2, tt)))

pub legal : IsLegalBy Stands two_writers with_loss
unfolding IsLegalBy
legal = (follows_0, (follows_1, (follows_2, (follows_3, tt))))

two_withheld : counted two_writers with_loss ≡ 2
unfolding boot one_step steps silently plain_after placement told is_over silent_upto emission_at backup_record
two_withheld = refl

-- ---- with a synchronisation between two letters

cut_follows_0 : Stands two_waiting [] (writes 0 0 16 2 6 97)
unfolding boot one_step steps silently plain_after placement told is_over silent_upto emission_at backup_record account_after
cut_follows_0 = record { placed = (refl, refl, refl); by_right = refl; applies = refl; kind = refl }

cut_follows_1 : Stands two_waiting (writes 0 0 16 2 6 97 ∷ []) (writes 1 1 17 1 6 97)
unfolding boot one_step steps silently plain_after placement told is_over silent_upto emission_at backup_record account_after
cut_follows_1 = record { placed = (refl, refl, refl); by_right = refl; applies = refl; kind = refl }

cut_follows_2 : Stands two_waiting (writes 0 0 16 2 6 97 ∷ writes 1 1 17 1 6 97 ∷ []) (cut 2)
unfolding boot one_step steps silently plain_after placement told is_over silent_upto emission_at backup_record account_after
cut_follows_2 = record { placed = (refl, refl, refl); by_right = refl; applies = refl; kind = record { state = refl; took_first = refl; reads = refl; children = refl; account = refl; due = refl } }

cut_follows_3 : Stands two_waiting (writes 0 0 16 2 6 97 ∷ writes 1 1 17 1 6 97 ∷ cut 2 ∷ []) (writes 3 0 16 2 66 98)
unfolding boot one_step steps silently plain_after placement told is_over silent_upto emission_at backup_record account_after
cut_follows_3 = record { placed = (refl, refl, refl); by_right = refl; applies = refl; kind = refl }

cut_follows_4 : Stands two_waiting (writes 0 0 16 2 6 97 ∷ writes 1 1 17 1 6 97 ∷ cut 2 ∷ writes 3 0 16 2 66 98 ∷ []) (loss 4)
unfolding boot one_step steps silently plain_after placement told is_over silent_upto emission_at backup_record account_after
cut_follows_4 = record { placed = (refl, refl, refl); by_right = refl; applies = refl; kind = refl }

pub legal_with_cut : IsLegalBy Stands two_waiting with_cut
unfolding IsLegalBy
legal_with_cut = (cut_follows_0, (cut_follows_1, (cut_follows_2, (cut_follows_3, (cut_follows_4, tt)))))

one_withheld : counted two_waiting with_cut ≡ 1
unfolding boot one_step steps silently plain_after placement told is_over silent_upto emission_at backup_record account_after
one_withheld = refl

-- ---- a system and a log that equal them

-- each entry of such a log stands too
pub legal_as : (system other : System) (log these : List Entry) → IsLegalBy Stands system log → other ≡ system → these ≡ log → IsLegalBy Stands other these
legal_as system other log these known same are = subst (λ (s : System). IsLegalBy Stands s these) (sym same) (subst (IsLegalBy Stands system) (sym are) known)
