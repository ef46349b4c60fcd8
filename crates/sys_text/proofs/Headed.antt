-- The four lines of a header that is printed are read.
use Rattle.std.proofs.Common.{◌≡◌, ℕ, ◌<◌, ◌^◌, Bool, true, false, not, ◌&&◌, nat_lt, eqb, List, [], ◌∷◌, Some, None, refl, arith}
use Rattle.std.specs.Prelude.{codes}
use Rattle.std.specs.Fmt.{decimal}
use Rattle.text_parts.specs.Numbers.{number_of}
use Rattle.text_parts.proofs.Numerals.{number_of-decimal}
use Rattle.t32_base.specs.declared.process.ClusterNo.{ClusterNo}
use Rattle.sys_text.specs.declared.stage.Keyword.TheVariants as keywords
use Rattle.sys_text.specs.declared.stage.Stage.{Stage}
use Rattle.sys_text.specs.declared.stage.Stage.TheVariants.{AfterClusters, AfterPager, AfterSyncreads, Images}
use Rattle.sys_text.specs.declared.system.System.{System}
use Rattle.sys_text.specs.declared.system.Image.{Image}
use Rattle.sys_text.specs.declared.system.Root.{Root}
use Rattle.sys_text.specs.declared.state.State.{State}
use Rattle.sys_text.specs.Valid.{is_within, is_pair, is_header, is_system}
use Rattle.sys_text.specs.Line as lines
use Rattle.sys_text.specs.Rules.{add}
use Rattle.sys_text.specs.Reading.{nothing_yet}
use Rattle.sys_text.specs.Text.{header_lines}
use Rattle.sys_text.proofs.Bounds.{first_of_two, second_of_two, system_bounds, tests}
use Rattle.sys_text.proofs.Keeping.{Keeps}
use Rattle.sys_text.proofs.Printed.{both, is_plain, plain_decimal}
use Rattle.sys_text.proofs.Leading.{Leads, leads_then, leads_one}

-- ---- numbers

pub number_again : (n : ℕ) → n < 2 ^ 32 → number_of (decimal n) ≡ Some n
number_again n p = number_of-decimal n (omega arith)

pub plain_number : (n : ℕ) → n < 2 ^ 32 → is_plain (decimal n) ≡ true
plain_number n p = plain_decimal n (omega arith)

pub not_equal : (a b : ℕ) → not (eqb a b) ≡ true → eqb a b ≡ false
not_equal a b h = by_test (eqb a b) h
  where
    by_test : (x : Bool) → not x ≡ true → x ≡ false
    by_test true h = absurd cc
    by_test false h = refl

-- ---- the lines

keeps_clusters : (state : State) (f : List ℕ) (n : ℕ) → number_of f ≡ Some n → is_within 2 16 n ≡ true → Keeps state keywords.Clusters (f ∷ [])
keeps_clusters state f n e w = record { line = lines.Clusters n; read = rw e refl; rules = record { limits = rw w refl; same = refl; name = refl; room = refl }; file = refl }

keeps_pager : (state : State) (f g : List ℕ) (a b : ClusterNo) → number_of f ≡ Some a.0 → number_of g ≡ Some b.0 → is_pair state.system.clusters a b ≡ true → Keeps state keywords.Pager (f ∷ g ∷ [])
keeps_pager state f g a b e1 e2 pair =
    let below = first_of_two (nat_lt a.0 state.system.clusters && nat_lt b.0 state.system.clusters) _ pair in
    let first = first_of_two (nat_lt a.0 state.system.clusters) _ below in
    let second = second_of_two (nat_lt a.0 state.system.clusters) _ below in
    let apart = not_equal a.0 b.0 (second_of_two (nat_lt a.0 state.system.clusters && nat_lt b.0 state.system.clusters) _ pair) in
    record { line = lines.Pager a.0 b.0; read = rw (e1, e2) refl; rules = record { limits = rw (first, second) refl; same = apart; name = refl; room = refl }; file = refl }

keeps_syncreads : (state : State) (f : List ℕ) (n : ℕ) → number_of f ≡ Some n → is_within 1 1000 n ≡ true → Keeps state keywords.Syncreads (f ∷ [])
keeps_syncreads state f n e w = record { line = lines.Syncreads n; read = rw e refl; rules = record { limits = rw w refl; same = refl; name = refl; room = refl }; file = refl }

keeps_syncsteps : (state : State) (f : List ℕ) (n : ℕ) → number_of f ≡ Some n → is_within 64 100000 n ≡ true → Keeps state keywords.Syncsteps (f ∷ [])
keeps_syncsteps state f n e w = record { line = lines.Syncsteps n; read = rw e refl; rules = record { limits = rw w refl; same = refl; name = refl; room = refl }; file = refl }

-- ---- the states

-- these numbers, and no image, root or channel
abbrev numbers : Stage → ℕ → ClusterNo × ClusterNo → ℕ → ℕ → State
numbers stage clusters pager reads steps = record {
  stage = stage;
  system = record { clusters = clusters; pager = pager; syncreads = reads; syncsteps = steps; images = []; roots = []; chans = [] };
  block = None;
  file = None;
}

abbrev no_pager : ClusterNo × ClusterNo
no_pager = (record { 0 = 0 }, record { 0 = 0 })

-- the header of a system, and these images, roots and channels
abbrev pub with_lists : System → List Image → List Root → List (ℕ × ℕ) → System
with_lists s images roots chans = record {
  clusters = s.clusters;
  pager = s.pager;
  syncreads = s.syncreads;
  syncsteps = s.syncsteps;
  images = images;
  roots = roots;
  chans = chans;
}

abbrev pub at_images : System → List Image → State
at_images s done = record { stage = Images; system = with_lists s done [] []; block = None; file = None }

adds_clusters : (f : List ℕ) (n : ℕ) → number_of f ≡ Some n → add nothing_yet keywords.Clusters (f ∷ []) ≡ numbers AfterClusters n no_pager 0 0
adds_clusters f n e = rw e refl

adds_pager : (f g : List ℕ) (c : ℕ) (p : ClusterNo × ClusterNo) → number_of f ≡ Some (p.0).0 → number_of g ≡ Some (p.1).0 → add (numbers AfterClusters c no_pager 0 0) keywords.Pager (f ∷ g ∷ []) ≡ numbers AfterPager c p 0 0
adds_pager f g c p e1 e2 = rw (e1, e2) refl

adds_syncreads : (f : List ℕ) (n c : ℕ) (p : ClusterNo × ClusterNo) → number_of f ≡ Some n → add (numbers AfterPager c p 0 0) keywords.Syncreads (f ∷ []) ≡ numbers AfterSyncreads c p n 0
adds_syncreads f n c p e = rw e refl

adds_syncsteps : (f : List ℕ) (n c r : ℕ) (p : ClusterNo × ClusterNo) → number_of f ≡ Some n → add (numbers AfterSyncreads c p r 0) keywords.Syncsteps (f ∷ []) ≡ numbers Images c p r n
adds_syncsteps f n c r p e = rw e refl

-- ---- the header

record HeaderTests (s : System) : Type 0 where
  clusters : is_within 2 16 s.clusters ≡ true
  pager : is_pair s.clusters (s.pager).0 (s.pager).1 ≡ true
  reads : is_within 1 1000 s.syncreads ≡ true
  steps : is_within 64 100000 s.syncsteps ≡ true

header_tests : (s : System) → is_header s ≡ true → HeaderTests s
header_tests s h =
    let a = is_within 2 16 s.clusters in
    let b = is_pair s.clusters (s.pager).0 (s.pager).1 in
    let c = is_within 1 1000 s.syncreads in
    let d = is_within 64 100000 s.syncsteps in
    let abc = first_of_two (a && b && c) d h in
    let ab = first_of_two (a && b) c abc in
    record { clusters = first_of_two a b ab; pager = second_of_two a b ab; reads = second_of_two (a && b) c abc; steps = second_of_two (a && b && c) d h }

pub leads_header : (s : System) → is_system s ≡ true → Leads nothing_yet (header_lines s) (at_images s [])
leads_header s h =
    let t = header_tests s (tests s h).header in
    let b = system_bounds s h in
    let c = s.clusters in
    let p = s.pager in
    let small_c : c < 2 ^ 32 = omega (arith, b.clusters) in
    let small_0 : (p.0).0 < 2 ^ 32 = omega (arith, b.first, b.clusters) in
    let small_1 : (p.1).0 < 2 ^ 32 = omega (arith, b.second, b.clusters) in
    let small_r : s.syncreads < 2 ^ 32 = omega (arith, b.syncreads) in
    let small_s : s.syncsteps < 2 ^ 32 = omega (arith, b.syncsteps) in
    let s1 = numbers AfterClusters c no_pager 0 0 in
    let s2 = numbers AfterPager c p 0 0 in
    let s3 = numbers AfterSyncreads c p s.syncreads 0 in
    let one = leads_one nothing_yet s1 keywords.Clusters (codes "clusters") (decimal c ∷ []) (both _ _ refl (both _ _ (plain_number c small_c) refl)) refl refl refl
    (keeps_clusters nothing_yet (decimal c) c (number_again c small_c) t.clusters) (adds_clusters (decimal c) c (number_again c small_c)) in
    let two = leads_one s1 s2 keywords.Pager (codes "pager") (decimal (p.0).0 ∷ decimal (p.1).0 ∷ []) (both _ _ refl (both _ _ (plain_number (p.0).0 small_0) (both _ _ (plain_number (p.1).0 small_1) refl))) refl refl refl
    (keeps_pager s1 (decimal (p.0).0) (decimal (p.1).0) p.0 p.1 (number_again (p.0).0 small_0) (number_again (p.1).0 small_1) t.pager)
    (adds_pager (decimal (p.0).0) (decimal (p.1).0) c p (number_again (p.0).0 small_0) (number_again (p.1).0 small_1)) in
    let three = leads_one s2 s3 keywords.Syncreads (codes "syncreads") (decimal s.syncreads ∷ []) (both _ _ refl (both _ _ (plain_number s.syncreads small_r) refl)) refl refl refl
    (keeps_syncreads s2 (decimal s.syncreads) s.syncreads (number_again s.syncreads small_r) t.reads) (adds_syncreads (decimal s.syncreads) s.syncreads c p (number_again s.syncreads small_r)) in
    let four = leads_one s3 (at_images s []) keywords.Syncsteps (codes "syncsteps") (decimal s.syncsteps ∷ []) (both _ _ refl (both _ _ (plain_number s.syncsteps small_s) refl)) refl refl refl
    (keeps_syncsteps s3 (decimal s.syncsteps) s.syncsteps (number_again s.syncsteps small_s) t.steps) (adds_syncsteps (decimal s.syncsteps) s.syncsteps c s.syncreads p (number_again s.syncsteps small_s)) in
    leads_then nothing_yet s1 (at_images s []) _ _ one (leads_then s1 s2 (at_images s []) _ _ two (leads_then s2 s3 (at_images s []) _ _ three four))
