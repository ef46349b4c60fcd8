-- What is here once the processes of some records wait for their pages.
use Rattle.std.proofs.Common.{◌≡◌, ◌⊎◌, refl, ◌∙◌, ap, List, [], ◌∷◌, map, Bool, true, false, cond, ltb, Some, inl, inr}
use Rattle.std.specs.Prelude.{find, option_map}
use Rattle.std.specs.List.{AllByRecursion}
use Rattle.t32_base.specs.declared.process.Pid.{Pid}
use Rattle.t32_base.specs.declared.letter.BackRec.{BackRec}
use Rattle.bus_msg.specs.Places.{same_pid}
use Rattle.cert_sched.specs.Parts.{put_rising, rising}
use Rattle.cert_sched.proofs.RisingLaws.{put_all, put_all-put, put_rising-swap}
use Rattle.page_waits.specs.Begun.{number_of}
use Rattle.replay_laws.specs.pages.Waits.{first_wait}
use Rattle.residents.specs.Held.{Held, Waits, held_of}
use Rattle.residents.specs.Residents.{pids_in}
use Rattle.residents.specs.Changed.{with_more}
use Rattle.cluster_core.specs.Recovered.{with_all_waiting, with_waiting}

-- ---- one more

-- what is found is the one more, or was there
pub held_more : (q : Pid) (x : Held) (here : List (Pid × Held)) (p : Pid) (h : Held) → held_of (with_more q x here) p ≡ Some h → ((same_pid q p ≡ true) × (h ≡ x)) ⊎ (held_of here p ≡ Some h)
held_more q x here p h = in_list here
  where
    first : (rest : List (Pid × Held)) (b : Bool) → same_pid q p ≡ b → option_map (λ (e : Pid × Held). e.1) (cond b (Some (q, x)) (find (λ (e : Pid × Held). same_pid e.0 p) rest)) ≡ Some h → ((same_pid q p ≡ true) × (h ≡ x)) ⊎ (held_of rest p ≡ Some h)
    first rest true is at = let same : h ≡ x = cc in inl (is, same)
    first rest false is at = inr at

    in_list : (here : List (Pid × Held)) → held_of (with_more q x here) p ≡ Some h → ((same_pid q p ≡ true) × (h ≡ x)) ⊎ (held_of here p ≡ Some h)
    in_list [] at = first [] (same_pid q p) refl at
    in_list (e ∷ here) at = by_order (ltb q.0 (e.0).0) at (in_list here)
      where
        by_pid : (b : Bool) → option_map (λ (e : Pid × Held). e.1) (cond b (Some e) (find (λ (e : Pid × Held). same_pid e.0 p) (with_more q x here))) ≡ Some h
            → (held_of (with_more q x here) p ≡ Some h → ((same_pid q p ≡ true) × (h ≡ x)) ⊎ (held_of here p ≡ Some h))
            → ((same_pid q p ≡ true) × (h ≡ x)) ⊎ (option_map (λ (e : Pid × Held). e.1) (cond b (Some e) (find (λ (e : Pid × Held). same_pid e.0 p) here)) ≡ Some h)
        by_pid true at more = inr at
        by_pid false at more = more at

        by_order : (b : Bool) → held_of (cond b ((q, x) ∷ e ∷ here) (e ∷ with_more q x here)) p ≡ Some h → (held_of (with_more q x here) p ≡ Some h → ((same_pid q p ≡ true) × (h ≡ x)) ⊎ (held_of here p ≡ Some h))
            → ((same_pid q p ≡ true) × (h ≡ x)) ⊎ (held_of (e ∷ here) p ≡ Some h)
        by_order true at more = first (e ∷ here) (same_pid q p) refl at
        by_order false at more = by_pid (same_pid e.0 p) at more

pub pids_more : (q : Pid) (x : Held) (here : List (Pid × Held)) → rising (pids_in (with_more q x here)) ≡ put_rising q.0 (rising (pids_in here))
pids_more q x [] = refl
pids_more q x (e ∷ here) = by_order (ltb q.0 (e.0).0) (pids_more q x here)
  where
    by_order : (b : Bool) → rising (pids_in (with_more q x here)) ≡ put_rising q.0 (rising (pids_in here)) → rising (pids_in (cond b ((q, x) ∷ e ∷ here) (e ∷ with_more q x here))) ≡ put_rising q.0 (rising (pids_in (e ∷ here)))
    by_order true more = refl
    by_order false more = ap (put_rising (e.0).0) more ∙ put_rising-swap (e.0).0 q.0 (rising (pids_in here))

-- ---- all of them

-- it is the process of a record of which something holds, which waits for its pages
pub record Recovery (P : BackRec → Type 0) (p : Pid) (h : Held) : Type 0 where
  pub kept : BackRec
  pub has : P kept
  pub own : same_pid kept.pid p ≡ true
  pub is : h ≡ Waits (first_wait kept)

-- what is found was there, or waits from now on
pub held_waiting : (P : BackRec → Type 0) (moved : List BackRec) (here : List (Pid × Held)) (p : Pid) (h : Held) → AllByRecursion P moved → held_of (with_all_waiting moved here) p ≡ Some h → (held_of here p ≡ Some h) ⊎ Recovery P p h
held_waiting P [] here p h all at = inl at
held_waiting P (r ∷ rest) here p h all at = by_either (held_waiting P rest (with_waiting here r) p h all.1 at)
  where
    by_more : ((same_pid r.pid p ≡ true) × (h ≡ Waits (first_wait r))) ⊎ (held_of here p ≡ Some h) → (held_of here p ≡ Some h) ⊎ Recovery P p h
    by_more (inl mine) = inr (record { kept = r; has = all.0; own = mine.0; is = mine.1 })
    by_more (inr was) = inl was

    by_either : (held_of (with_waiting here r) p ≡ Some h) ⊎ Recovery P p h → (held_of here p ≡ Some h) ⊎ Recovery P p h
    by_either (inl there) = by_more (held_more r.pid (Waits (first_wait r)) here p h there)
    by_either (inr mine) = inr mine

-- the pids are those that were there, and theirs
pub pids_waiting : (moved : List BackRec) (here : List (Pid × Held)) → rising (pids_in (with_all_waiting moved here)) ≡ put_all (map number_of moved) (rising (pids_in here))
pids_waiting [] here = refl
pids_waiting (r ∷ rest) here =
    pids_waiting rest (with_waiting here r)
    ∙ ap (put_all (map number_of rest)) (pids_more r.pid (Waits (first_wait r)) here)
    ∙ put_all-put (map number_of rest) (number_of r) (rising (pids_in here))
