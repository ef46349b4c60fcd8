-- A letter for a process that is here goes to this cluster.
use Rattle.std.proofs.Common.{◌≡◌, ℕ, refl, sym, ◌∙◌, ap, subst, arith, List, [], ◌∷◌, ◌++◌, Bool, true, false, cond, eqb, eqb-true, inl, inr, Option, Some, true≢false}
use Rattle.std.specs.Prelude.{◌^◌, bit_or, find, option_map}
use Rattle.std.specs.Option.{option_map_or}
use Rattle.std.specs.Int.{bit_at}
use Rattle.std.proofs.lemmas.Nat.Bits.{bit_at-lt, bit_at-pow_same, bit_at_or}
use Rattle.t32_base.specs.declared.process.Pid.{Pid}
use Rattle.t32_base.specs.declared.process.ClusterNo.{ClusterNo}
use Rattle.t32_base.specs.declared.letter.Letter.{Letter}
use Rattle.t32_base.specs.declared.letter.To.{To}
use Rattle.t32_base.specs.declared.letter.To.TheVariants.{Proc, Tty}
use Rattle.sys_text.specs.declared.system.System.{System}
use Rattle.sys_text.specs.Valid.{is_system}
use Rattle.bus_msg.specs.declared.entry.What.{What}
use Rattle.bus_msg.specs.declared.entry.What.TheVariants.{Mail}
use Rattle.bus_msg.specs.declared.entry.Entry.{Entry}
use Rattle.bus_msg.specs.declared.placed.Placed.{Placed}
use Rattle.bus_msg.specs.Places.{Places, lives_in, same_pid}
use Rattle.bus_msg.specs.PlacedAfter.{what}
use Rattle.bus_msg.specs.Route.{backup_of, bits_of, letter_dests, route}
use Rattle.cert_sched.specs.Rules.{tells_or_closes}
use Rattle.cert_sched.specs.Deeds.{is_end_of}
use Rattle.cert_sched.specs.Parts.{rising}
use Rattle.cert_sched.specs.Rests.{home_pids}
use Rattle.cert_sched.specs.Schedule.{placement}
use Rattle.cluster_core.specs.Absorbing.{ComesHere, goes_to, is_letter_for}
use Rattle.cluster_core.specs.Calls.{IsReady, ReadyFor, here_after}
use Rattle.residents.specs.Residents.{pids_in}
use Rattle.cluster_core.specs.View.{ClusterView}
use Rattle.residents.specs.Held.{Held, arrived_held, held_of}
use Rattle.cluster_core.proofs.absorbing.Fallen.{handed_is}
use Rattle.cluster_core.proofs.births.BirthQueued.{birth_is}
use Rattle.cluster_core.proofs.syncs.Batching.{batch_head}
use Rattle.cluster_core.proofs.absorbing.Following.{Next, left_of, next_of}
use Rattle.cluster_core.proofs.here.Here.{is_among}
use Rattle.residents.proofs.Changing.{pid_same, same_itself}
use Rattle.cluster_core.proofs.losses.Homes.{HomeHere, pids_apart, home_here, home_lives}
use Rattle.cluster_core.specs.Follows.{QueuedIn}
use Rattle.cluster_core.proofs.renewing.RenewalPosts.{renewal_head, renewal_tells_not}
use Rattle.cluster_core.proofs.absorbing.ByKind.{OneOf, by_kind, by_page, by_sync, kind_is}

-- ---- a letter that goes elsewhere

-- where none of them is its receiver it changes nothing
none_arrives : (at : ℕ) (letter : Letter) (here : List (Pid × Held)) → ((p : Pid) (h : Held) → held_of here p ≡ Some h → is_end_of p letter.to ≡ false) → here_after (Mail at letter) here ≡ here
none_arrives at letter [] none = refl
none_arrives at letter (e ∷ here) none =
    (λ i. cond (first i) (e.0, arrived_held e.1 letter) e ∷ none_arrives at letter here (λ p s there. later p s there (same_pid e.0 p) refl) i)
  where
    first : is_end_of e.0 letter.to ≡ false
    first = none e.0 e.1 (ap (λ b. option_map (λ (x : Pid × Held). x.1) (cond b (Some e) (find (λ (x : Pid × Held). same_pid x.0 e.0) here))) (same_itself e.0))

    later : (p : Pid) (h : Held) → held_of here p ≡ Some h → (b : Bool) → same_pid e.0 p ≡ b → is_end_of p letter.to ≡ false
    later p s there true is = ap (λ q. is_end_of q letter.to) (sym (pid_same e.0 p (eqb-true (e.0).0 p.0 is))) ∙ first
    later p s there false is = none p s (ap (λ b. option_map (λ (x : Pid × Held). x.1) (cond b (Some e) (find (λ (x : Pid × Held). same_pid x.0 p) here))) is ∙ there)

pub goes_elsewhere : (k : ClusterNo) (e : Entry) (at : ℕ) (letter : Letter) (here : List (Pid × Held)) → what e ≡ Mail at letter → ComesHere k e here → goes_to e.dests k ≡ false → here_after (what e) here ≡ here
goes_elsewhere k e at letter here is comes elsewhere = ap (λ w. here_after w here) is ∙ none_arrives at letter here (λ p s there. by_test p s there (is_end_of p letter.to) refl)
  where
    by_test : (p : Pid) (h : Held) → held_of here p ≡ Some h → (b : Bool) → is_end_of p letter.to ≡ b → b ≡ false
    by_test p s there true for = absurd (true≢false (sym (comes p s there (ap (is_letter_for p) is ∙ for)) ∙ elsewhere))
    by_test p s there false for = refl

-- ---- the destinations of a letter

first_bit : (n rest : ℕ) → eqb (bit_at (bit_or (2 ^ n) rest) n) 1 ≡ true
first_bit n rest =
    let one : bit_at (bit_or (2 ^ n) rest) n ≡ 1 = omega (arith, bit_at_or (2 ^ n) rest n, bit_at-pow_same n, bit_at-lt rest n) in
    ap (λ m. eqb m 1) one

-- the home of its receiver is the first of them
goes_home : (places : Places) (from p : Pid) (end : ℕ) (k : ClusterNo) → HomeHere places p k → lives_in places k ≡ true → goes_to (letter_dests places from (Proc p end)) k ≡ true
goes_home places from p end k home lives =
    let same : (home.placed).home ≡ k = λ i. record { 0 = eqb-true ((home.placed).home).0 k.0 home.home i } in
    ap (λ (o : Option Placed). eqb (bit_at (bits_of places (option_map_or (λ (q : Placed). q.home ∷ []) o [] ++ backup_of places p ++ backup_of places from)) k.0) 1) home.found
    ∙ ap (λ j. eqb (bit_at (bits_of places (j ∷ (backup_of places p ++ backup_of places from))) k.0) 1) same
    ∙ ap (λ b. eqb (bit_at (cond b (bit_or (2 ^ k.0) (bits_of places (backup_of places p ++ backup_of places from))) (bits_of places (backup_of places p ++ backup_of places from))) k.0) 1) lives
    ∙ first_bit k.0 (bits_of places (backup_of places p ++ backup_of places from))

letter_comes : (places : Places) (k : ClusterNo) (from p : Pid) (to : To) → lives_in places k ≡ true → HomeHere places p k → is_end_of p to ≡ true → goes_to (letter_dests places from to) k ≡ true
letter_comes places k from p (Proc q end) lives home is = goes_home places from q end k (subst (λ r. HomeHere places r k) (sym (pid_same q p (eqb-true q.0 p.0 is))) home) lives
letter_comes places k from p (Tty t) lives home is = absurd (true≢false (sym is))

entry_comes : (places : Places) (k : ClusterNo) (p : Pid) (w : What) → lives_in places k ≡ true → HomeHere places p k → tells_or_closes w ≡ true → is_letter_for p w ≡ true → goes_to (route places w) k ≡ true
entry_comes places k p w lives home =
    by_kind (λ w. is_letter_for p w ≡ true → goes_to (route places w) k ≡ true)
    (λ at letter is. letter_comes places k letter.from p letter.to lives home is) (λ pid at end is. absurd (true≢false (sym is))) (λ rests is. absurd (true≢false (sym is))) (λ is. absurd (true≢false (sym is))) w

-- ---- the entry for which a cluster is ready

comes_of : (system : System) (log : List Entry) (e : Entry) (k : ClusterNo) (here : List (Pid × Held)) → is_system system ≡ true → Next system log e
    → rising (pids_in here) ≡ rising (home_pids system log k) → ComesHere k e here
comes_of system log e k here valid n once p h there is =
    let home = home_here (placement system log) k (pids_in here) p (pids_apart system log valid n.legal) once (is_among here p h there) in
    ap (λ dests. goes_to dests k) ((((n.may).stands).placed).1) ∙ entry_comes (placement system log) k p (what e) (home_lives system log p k valid n.legal n.before home) home (n.may).of_kind is

pub comes_here : (c : ClusterView) (e : Entry) → is_system c.system ≡ true → ReadyFor e c → ComesHere c.number e c.here
comes_here c e valid r = by_loss (kind_is (what e))
  where
    by_case : Next c.system r.log e → IsReady r.log e c → ComesHere c.number e c.here
    by_case n (inl f) = comes_of c.system r.log e c.number c.here valid n ((f.0).processes).each_once
    by_case n (inr s) = by_queue (s.followed).queued
      where
        by_queue : QueuedIn c.system r.log s.before → ComesHere c.number e c.here
        by_queue (inl alone) =
            let l = left_of c r.log e s alone in
            let here_is : (l.before).here ≡ c.here = sym (ap (λ (d : ClusterView). d.here) l.same) in
            let number : (l.before).number ≡ c.number = sym (ap (λ (d : ClusterView). d.number) l.same) in
            comes_of c.system r.log e c.number c.here valid n (ap (λ hs. rising (pids_in hs)) (sym here_is) ∙ ((l.followed).processes).each_once ∙ ap (λ k. rising (home_pids c.system r.log k)) number)
        by_queue (inr (inr (inr (inr y)))) = absurd (true≢false (sym (n.may).of_kind ∙ renewal_tells_not (what e) (renewal_head c.system r.log e s.before y s.head)))
        by_queue (inr (inr (inr (inl h)))) = absurd (true≢false (sym (n.may).of_kind ∙ ap tells_or_closes (handed_is c.system r.log e s.before h s.head)))
        by_queue (inr (inr (inl b))) = absurd (true≢false (sym (n.may).of_kind ∙ ap tells_or_closes (birth_is c.system r.log e s.before b s.head)))
        by_queue (inr (inl y)) =
            let of = batch_head c.system r.log e s.before y s.head in
            absurd (true≢false (sym (n.may).of_kind ∙ by_sync (λ w. tells_or_closes w ≡ false) (λ pid at index bytes. refl) (λ pid small read took. refl) (what e) of))

    by_loss : OneOf (what e) → ComesHere c.number e c.here
    by_loss (inl tells) = by_case (next_of c.system r.log e tells r.open_log r.open_next) r.ready
    by_loss (inr (inl page)) = λ p h there is. absurd (true≢false (sym is ∙ by_page (λ w. is_letter_for p w ≡ false) (λ pid index. refl) (λ pid index bytes. refl) (what e) page))
    by_loss (inr (inr (inl loss))) = λ p h there is. absurd (true≢false (sym is ∙ ap (is_letter_for p) loss.same))
    by_loss (inr (inr (inr (inr (inl b))))) = λ p h there is. absurd (true≢false (sym is ∙ ap (is_letter_for p) b.same))
    by_loss (inr (inr (inr (inr (inr (inl y)))))) = λ p h there is. absurd (true≢false (sym is ∙ ap (is_letter_for p) y.same))
    by_loss (inr (inr (inr (inr (inr (inr y)))))) = λ p h there is. absurd (true≢false (sym is ∙ ap (is_letter_for p) y.same))
    by_loss (inr (inr (inr (inl of)))) = λ p h there is. absurd (true≢false (sym is ∙ by_sync (λ w. is_letter_for p w ≡ false) (λ pid at index bytes. refl) (λ pid small read took. refl) (what e) of))
