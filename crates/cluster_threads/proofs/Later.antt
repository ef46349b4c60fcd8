-- A cluster with its past lives, at a bus to which others have added.
use Rattle.std.proofs.Common.{◌≡◌, ℕ, ◌-◌, ◌≤◌, ◌⊎◌, arith, cond, length, refl, sym, ◌∙◌, ap, subst, List, [], ◌++◌, drop, Bool, true, false, inl, inr, true≢false}
use Rattle.std.proofs.lemmas.Bool.{or_parts}
use Rattle.std.proofs.lemmas.List.{drop-append-le}
use Rattle.std.proofs.lemmas.List.Folds.{list_any-append}
use Rattle.t32_base.specs.declared.process.ClusterNo.{ClusterNo}
use Rattle.bus_msg.specs.declared.entry.Entry.{Entry}
use Rattle.bus_msg.specs.PlacedAfter.{what}
use Rattle.cert_sched.specs.Losses.{is_crash_of, was_lost_in}
use Rattle.cert_sched.specs.Rules.{is_over}
use Rattle.cluster_core.specs.View.{ClusterView}
use Rattle.bus_order.specs.View.{BusView}
use Rattle.bus_order.specs.declared.shared.Origin.{Origin}
use Rattle.cluster_turns.specs.Along.{IsAlong, IsFailed, IsMember, IsSound, IsStopped}
use Rattle.cluster_turns.specs.Disks.{HasFailed}
use Rattle.cluster_turns.specs.Ends.{followed_length}
use Rattle.bus_order.specs.Log.{open_length}
use Rattle.cluster_turns.proofs.TakingIn.{followed_open}
use Rattle.cluster_turns.proofs.Growing.{grown_then}
use Rattle.cluster_turns.proofs.Staying.{life_on}
use Rattle.cluster_run.proofs.LivesTurned.{past_turned}
use Rattle.cluster_run.specs.Past.{IsStillPast}
use Rattle.cluster_turns.specs.Offers.{HasGrown, IsLonger}
use Rattle.cluster_turns.proofs.Offering.{along_longer, grows_none}
use Rattle.cluster_turns.proofs.Prefixes.{whole_part}
use Rattle.cluster_turns.proofs.Quiet.{stopped_longer}
use Rattle.cluster_turns.proofs.StepLosses.{before_longer}
use Rattle.cluster_run.proofs.AtTheEnd.{member_on}
use Rattle.cluster_run.proofs.OverLives.{each_longer, its_longer}
use Rattle.cluster_run.proofs.Together.{member_within}
use Rattle.cluster_threads.specs.declared.followed.Followed.{Followed}
use Rattle.cluster_threads.specs.declared.standing.Standing.{Standing}
use Rattle.cluster_threads.specs.declared.standing.Standing.TheVariants.{Over as IsOverThere, Off, Lives}
use Rattle.cluster_threads.specs.Seated.{LivesOn, StandsAt, bus_of, origin_of}
use Rattle.cluster_threads.specs.Threads.{HasPast}

-- ---- others have added

moving_later : (b after : BusView) (c : ClusterView) → IsSound after → IsLonger c.number b after → IsAlong b c ⊎ IsFailed b c → IsAlong after c ⊎ IsFailed after c
moving_later b after c sound longer (inl along) = inl (along_longer b after c along longer)
moving_later b after c sound longer (inr failed) = inr (record {
  before = before_longer b after c (longer.2).more sound.legal longer.0 longer.1 (longer.2).longer (longer.2).others failed.before;
  disk = subst (λ words. HasFailed words c) (sym longer.1) failed.disk;
})

three_later : (b after : BusView) (c : ClusterView) → IsSound after → IsLonger c.number b after → IsAlong b c ⊎ IsStopped b c ⊎ IsFailed b c → IsAlong after c ⊎ IsStopped after c ⊎ IsFailed after c
three_later b after c sound longer (inl along) = inl (along_longer b after c along longer)
three_later b after c sound longer (inr (inl stopped)) = inr (inl (stopped_longer b after c (longer.2).more sound longer.0 longer.1 (longer.2).longer (longer.2).others stopped))
three_later b after c sound longer (inr (inr failed)) = by_way (moving_later b after c sound longer (inr failed))
  where
    by_way : IsAlong after c ⊎ IsFailed after c → IsAlong after c ⊎ IsStopped after c ⊎ IsFailed after c
    by_way (inl along) = inl along
    by_way (inr failed) = inr (inr failed)

-- none has taken in more than there is
pub three_within : (b : BusView) (c : ClusterView) → IsAlong b c ⊎ IsStopped b c ⊎ IsFailed b c → c.cursor ≤ length b.log
three_within b c (inl along) = (along.beside).within
three_within b c (inr (inl stopped)) = member_within b c stopped.sound (inr (inl stopped))
three_within b c (inr (inr failed)) = (failed.before).within

pub three_system : (b : BusView) (c : ClusterView) → IsAlong b c ⊎ IsStopped b c ⊎ IsFailed b c → c.system ≡ b.system
three_system b c (inl along) = along.system
three_system b c (inr (inl stopped)) = ((stopped.gone).left).system
three_system b c (inr (inr failed)) = (failed.before).system

pub member_later : (b after : BusView) (n : ℕ) (c : ClusterView) → IsSound after → IsLonger c.number b after → IsMember b n c → IsMember after n c
member_later b after n c sound longer member = record {
  number = member.number;
  along = three_later b after c sound longer member.along;
  empty = by_end (is_over b.system b.log) refl;
}
  where
    more : List Entry
    more = (longer.2).more

    lived : was_lost_in (drop c.cursor after.log) c.number ≡ false → was_lost_in (drop c.cursor b.log) c.number ≡ false
    lived lives =
        let back : drop c.cursor after.log ≡ drop c.cursor b.log ++ more = ap (drop c.cursor) (longer.2).longer ∙ drop-append-le c.cursor b.log more (three_within b c member.along) in
        (or_parts (was_lost_in (drop c.cursor b.log) c.number) (was_lost_in more c.number)
        (sym (list_any-append (λ (e : Entry). is_crash_of c.number (what e)) (drop c.cursor b.log) more) ∙ ap (λ l. was_lost_in l c.number) (sym back) ∙ lives)).0

    by_end : (t : Bool) → is_over b.system b.log ≡ t → is_over after.system after.log ≡ false → was_lost_in (drop c.cursor after.log) c.number ≡ false → c.queue ≡ []
    by_end true over on lives =
        let ended : is_over after.system b.log ≡ true = ap (λ s. is_over s b.log) longer.0 ∙ over in
        let whole = whole_part after.system b.log after.log sound.legal (more, sym (longer.2).longer) ended in
        absurd (true≢false (sym (ap (is_over after.system) (sym whole) ∙ ended) ∙ on))
    by_end false goes_on on lives = member.empty goes_on (lived lives)

pub past_later : (b after : BusView) (f : Followed) → HasGrown b after → (f.cluster).cursor ≤ length b.log → HasPast b f → HasPast after f
past_later b after f grown within has = record {
  past = record {
    each = each_longer b after grown.more (f.past).items grown.system grown.script grown.log (has.past).each;
    distinct = (has.past).distinct;
    its = its_longer b.log grown.more after.log (f.past).items f.cluster grown.log within (has.past).its;
  };
  own = has.own;
}

-- ---- what a seat has seen of a bus

-- nothing was added to it
pub seen_longer : (k : ClusterNo) (b : BusView) → IsLonger k b (bus_of (origin_of b) b.log)
seen_longer k b = (refl, refl, grows_none k b.log)

pub at_seen : (P : BusView → Type 0) (b : BusView) (from : Origin) (log : List Entry) → origin_of b ≡ from → log ≡ b.log → P (bus_of (origin_of b) b.log) → P (bus_of from log)
at_seen P b from log came whole there = subst (λ (o : Origin). P (bus_of o log)) came (subst (λ (l : List Entry). P (bus_of (origin_of b) l)) (sym whole) there)

pub stands_seen : (b : BusView) (s : Standing) (c : ClusterView) → IsSound (bus_of (origin_of b) b.log) → StandsAt b s c → StandsAt (bus_of (origin_of b) b.log) s c
stands_seen b IsOverThere c sound stands = stands
stands_seen b (Off length) c sound stands = tt
stands_seen b (Lives shown) c sound stands = (moving_later b (bus_of (origin_of b) b.log) c sound (seen_longer c.number b) stands.0, stands.1, stands.2, stands.3, stands.4)

-- ---- a cluster lives on

pub lives_then : (b mid after : BusView) (old one new : ClusterView) → one.number ≡ old.number → LivesOn b mid old one → LivesOn mid after one new → LivesOn b after old new
lives_then b mid after old one new same first then = record {
  sound = then.sound;
  grows = grown_then b mid after first.grows then.grows;
  life = life_on old one new mid after same then.grows first.life then.life;
}

-- so its past lives are those that they were
pub past_lived : (b after : BusView) (f : Followed) (new : ClusterView) → new.number ≡ (f.cluster).number → IsAlong b f.cluster ⊎ IsStopped b f.cluster ⊎ IsFailed b f.cluster → IsAlong after new ⊎ IsStopped after new ⊎ IsFailed after new → LivesOn b after f.cluster new → HasPast b f
    → HasPast after (record f { cluster = new })
past_lived b after f new same before there lives has = record {
  past = past_turned b after (f.past).items f.cluster new lives.sound lives.grows same (three_within b f.cluster before) (three_within after new there) (member_on b f.cluster before) lives.life has.past;
  own = subst (λ (k : ClusterNo). IsStillPast k [] (f.past).items) (sym same) has.own;
}

-- ---- what is new is open

pub open_of : (b : BusView) (n : ℕ) → IsSound b → is_over b.system b.log ≡ false → n ≤ length b.log → n ≤ open_length b.log
open_of b n sound goes_on within =
    let most = followed_open b.system b.log sound.legal in
    let all : followed_length b.system b.log ≡ length b.log - 0 = ap (λ t. length b.log - cond t 1 0) goes_on in
    omega (arith, most, all, within)
