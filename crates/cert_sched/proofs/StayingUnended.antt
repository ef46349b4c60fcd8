-- Which processes have not ended after one more entry.
use Rattle.std.proofs.Common.{◌≡◌, refl, sym, ◌∙◌, ap, [], ◌∷◌, map, Bool, true, false, cond, not, ◌&&◌, Option, Some, None, is_some, true≢false}
use Rattle.std.specs.Prelude.{find, option_map}
use Rattle.std.specs.Option.{option_or}
use Rattle.std.proofs.lemmas.List.Folds.{find-append}
use Rattle.t32_base.specs.declared.process.Pid.{Pid}
use Rattle.bus_msg.specs.declared.entry.What.{What}
use Rattle.bus_msg.specs.declared.entry.What.TheVariants.{Birth, Exit, Sync, Crash, Rebackup}
use Rattle.bus_msg.specs.declared.placed.Placed.{Placed}
use Rattle.bus_msg.specs.Places.{Places, same_pid, placed_at, unended_at}
use Rattle.bus_msg.specs.PlacedAfter.{placed_after, with_birth, child_of, after_exit, after_sync, after_loss, after_rebackup}
use Rattle.sys_calls.specs.declared.steps.Emission.TheVariants.{Exit as Ended}
use Rattle.roll_forward.specs.Deeds.{Sends}
use Rattle.cert_sched.specs.Account.{is_exit_of}
use Rattle.cert_sched.specs.Deeds.{deeds_in, is_birth_of}
use Rattle.cert_sched.proofs.ExitLaws.{exited, unended_exit}
use Rattle.cert_sched.proofs.UnendedLaws.{Keeps, unended_map, sync_keeps, backup_keeps, loss_keeps}
use Rattle.cert_sched.proofs.BirthKind.{is_birth}
use Rattle.cert_sched.proofs.BirthPlaces.{born_beside}
use Rattle.cert_sched.proofs.MadeLaws.{apart_from}
use Rattle.cert_sched.proofs.CameLaws.{same_of}

-- an entry that tells of no deed of a process is not its exit
pub no_deed_no_exit : (p : Pid) (w : What) → deeds_in p w ≡ [] → is_exit_of p w ≡ false
no_deed_no_exit p (Exit q at end) none = by_test (same_pid q p) none
  where
    by_test : (b : Bool) → cond b (Sends (Ended end) ∷ []) [] ≡ [] → b ≡ false
    by_test true e = cc
    by_test false e = refl
no_deed_no_exit p w none = refl

some_still : (f : Placed → Placed) (o : Option Placed) → is_some (option_map f o) ≡ is_some o
some_still f None = refl
some_still f (Some q) = refl

-- a change of each process that leaves its pid and whether it has ended leaves who has not ended
mapped : (places : Places) (p : Pid) (f : Placed → Placed) → Keeps f → (after : Places) → after.placed ≡ map f places.placed → is_some (unended_at after p) ≡ is_some (unended_at places p)
mapped places p f keeps after is = ap is_some (unended_map f keeps places after is p) ∙ some_still f (unended_at places p)

-- who has not ended stays so where the entry is not its exit
pub unended_stays : (w : What) → is_birth w ≡ false → (places : Places) (p : Pid) → is_exit_of p w ≡ false → is_some (unended_at places p) ≡ true → is_some (unended_at (placed_after places w) p) ≡ true
unended_stays w no_birth places p no_exit there = by_what w no_birth no_exit
  where
    by_what : (w : What) → is_birth w ≡ false → is_exit_of p w ≡ false → is_some (unended_at (placed_after places w) p) ≡ true
    by_what (Birth parent at child end) other stays = absurd (true≢false other)
    by_what (Exit q at end) other stays = ap is_some (unended_exit q p places.placed (apart_from q p stays)) ∙ there
    by_what (Sync q small read took) other stays = mapped places p (after_sync q) (sync_keeps q) (placed_after places (Sync q small read took)) refl ∙ there
    by_what (Crash k cause) other stays = mapped places p (after_loss k) (loss_keeps k) (placed_after places (Crash k cause)) refl ∙ there
    by_what (Rebackup to fresh recs) other stays = mapped places p (after_rebackup to fresh recs) (backup_keeps to fresh recs) (placed_after places (Rebackup to fresh recs)) refl ∙ there
    by_what _ other stays = there

-- who has not ended after it had not ended before, and the entry is not its exit
pub unended_before : (w : What) → is_birth w ≡ false → (places : Places) (p : Pid) → is_some (unended_at (placed_after places w) p) ≡ true → (is_exit_of p w ≡ false) × (is_some (unended_at places p) ≡ true)
unended_before w no_birth places p there = by_what w no_birth there
  where
    by_exit : (q : Pid) (b : Bool) → same_pid q p ≡ b → is_some (find (λ (r : Placed). same_pid r.pid p && not r.ended) (map (after_exit q) places.placed)) ≡ true → (b ≡ false) × (is_some (unended_at places p) ≡ true)
    by_exit q true is there =
        absurd (true≢false (sym there ∙ ap (λ x. is_some (find (λ (r : Placed). same_pid r.pid p && not r.ended) (map (after_exit x) places.placed))) (same_of q p is) ∙ ap is_some (exited p places.placed)))
    by_exit q false is there = (refl, sym (ap is_some (unended_exit q p places.placed (apart_from q p is))) ∙ there)

    by_what : (w : What) → is_birth w ≡ false → is_some (unended_at (placed_after places w) p) ≡ true → (is_exit_of p w ≡ false) × (is_some (unended_at places p) ≡ true)
    by_what (Birth parent at child end) other there = absurd (true≢false other)
    by_what (Exit q at end) other there = by_exit q (same_pid q p) refl there
    by_what (Sync q small read took) other there = (refl, sym (mapped places p (after_sync q) (sync_keeps q) (placed_after places (Sync q small read took)) refl) ∙ there)
    by_what (Crash k cause) other there = (refl, sym (mapped places p (after_loss k) (loss_keeps k) (placed_after places (Crash k cause)) refl) ∙ there)
    by_what (Rebackup to fresh recs) other there = (refl, sym (mapped places p (after_rebackup to fresh recs) (backup_keeps to fresh recs) (placed_after places (Rebackup to fresh recs)) refl) ∙ there)
    by_what _ other there = (refl, there)

-- ---- births too

-- who has not ended stays so over a birth
birth_stays : (p child : Pid) (places : Places) (o : Option Placed) → is_some (unended_at places p) ≡ true → is_some (unended_at (with_birth places child o) p) ≡ true
birth_stays p child places None there = there
birth_stays p child places (Some q) there =
    ap is_some (find-append (λ (q : Placed). same_pid q.pid p && not q.ended) places.placed (child_of q child ∷ [])) ∙ by_found (unended_at places p) there
  where
    by_found : (o : Option Placed) → is_some o ≡ true → is_some (option_or o (find (λ (q : Placed). same_pid q.pid p && not q.ended) (child_of q child ∷ []))) ≡ true
    by_found None h = absurd (true≢false (sym h))
    by_found (Some r) h = refl

-- who has not ended stays so over every entry but its exit
pub stays_unended : (w : What) (places : Places) (p : Pid) → is_exit_of p w ≡ false → is_some (unended_at places p) ≡ true → is_some (unended_at (placed_after places w) p) ≡ true
stays_unended (Birth parent at child end) places p no_exit there = birth_stays p child places (placed_at places parent) there
stays_unended w places p no_exit there = unended_stays w refl places p no_exit there

-- who has not ended after an entry that does not bear it had not ended before, and the entry is not its exit
pub before_unended : (w : What) (places : Places) (p : Pid) → is_birth_of p w ≡ false → is_some (unended_at (placed_after places w) p) ≡ true → (is_exit_of p w ≡ false) × (is_some (unended_at places p) ≡ true)
before_unended (Birth parent at child end) places p other there = (refl, sym (ap is_some (born_beside p child places (placed_at places parent) other)) ∙ there)
before_unended w places p other there = unended_before w refl places p there
