-- Two segments share an address where the marks of the one meet an address of the other.
use Rattle.std.proofs.Common.{◌≡◌, ℕ, zero, suc, ◌+◌, ◌-◌, ◌<◌, ◌≤◌, Bool, true, false, ◌||◌, not, eqb, leb, ltb, List, [], ◌∷◌, length, drop, refl, sym, ap, ◌∙◌, arith, inl, inr}
use Rattle.std.specs.List.{list_any}
use Rattle.std.proofs.lemmas.Bool.{and_from, and_parts, cases_lt, false_from_ne_true, le-leb, leb-true, lt-ltb, ltb-true, ne_eqb, or_from, or_left, or_parts, or_right, or_cases, true≢false}
use Rattle.rv_elf.specs.declared.headers.Header.{Header}
use Rattle.rv_elf.specs.Loaded.{is_segment, is_among}
use Rattle.rv_elf.specs.Rules.{overlap, share}
use Rattle.rv_elf.specs.Placing.{takes, IsFree, IsTaken, Marks}

-- ---- an address of a segment

record Takes (x : ℕ) (h : Header) : Type 0 where
  segment : is_segment h ≡ true
  from : h.address ≤ x
  upto : x < h.address + h.memory_size

takes_parts : (x : ℕ) (h : Header) → takes x h ≡ true → Takes x h
takes_parts x h e =
    let p = and_parts (is_segment h) (is_among h.address h.memory_size x) e in
    let q = and_parts (leb h.address x) (ltb x (h.address + h.memory_size)) p.1 in
    record { segment = p.0; from = leb-true h.address x q.0; upto = ltb-true x (h.address + h.memory_size) q.1 }

takes_from : (x : ℕ) (h : Header) → Takes x h → takes x h ≡ true
takes_from x h t = and_from (is_segment h) (is_among h.address h.memory_size x) t.segment
    (and_from (leb h.address x) (ltb x (h.address + h.memory_size)) (le-leb h.address x t.from) (lt-ltb x (h.address + h.memory_size) t.upto))

-- ---- an address of both

shared_by : (a b : Header) (x : ℕ) → Takes x a → Takes x b → share a b ≡ true
shared_by a b x s t =
    let some_a : not (eqb a.memory_size 0) ≡ true = ap not (ne_eqb a.memory_size 0 (λ e. absurd (omega (arith, e, s.from, s.upto)))) in
    let some_b : not (eqb b.memory_size 0) ≡ true = ap not (ne_eqb b.memory_size 0 (λ e. absurd (omega (arith, e, t.from, t.upto)))) in
    let low : ltb a.address (b.address + b.memory_size) ≡ true = lt-ltb a.address (b.address + b.memory_size) (omega (arith, s.from, t.upto)) in
    let high : ltb b.address (a.address + a.memory_size) ≡ true = lt-ltb b.address (a.address + a.memory_size) (omega (arith, t.from, s.upto)) in
    rw (s.segment, t.segment, some_a, some_b, low, high) refl

record Common (a b : Header) : Type 0 where
  at : ℕ
  first : Takes at a
  second : Takes at b

some : (n : ℕ) → not (eqb n 0) ≡ true → 0 < n
some zero e = absurd cc
some (suc n) e = omega arith

-- the greater of the two first addresses
common_at : (a b : Header) → is_segment a ≡ true → is_segment b ≡ true → 0 < a.memory_size → 0 < b.memory_size → a.address < b.address + b.memory_size → b.address < a.address + a.memory_size
    → Common a b
common_at a b sa sb some_a some_b low high =
    elim (cases_lt a.address b.address) [
      | inl before ↦ record
          { at = b.address; first = record { segment = sa; from = omega (arith, before); upto = high }; second = record { segment = sb; from = omega arith; upto = omega (arith, some_b) } }
      | inr behind ↦ record { at = a.address; first = record { segment = sa; from = omega arith; upto = omega (arith, some_a) }; second = record { segment = sb; from = behind; upto = low } }
    ]

common : (a b : Header) → share a b ≡ true → Common a b
common a b e =
    let f = and_parts _ _ e in
    let g = and_parts _ _ f.0 in
    let h = and_parts _ _ g.0 in
    let i = and_parts _ _ h.0 in
    let j = and_parts _ _ i.0 in
    common_at a b j.0 j.1 (some a.memory_size i.1) (some b.memory_size h.1) (ltb-true a.address (b.address + b.memory_size) g.1) (ltb-true b.address (a.address + a.memory_size) f.1)

-- ---- with one of several

-- an address of a header that one of the others has too
pub some_share : (h : Header) (x : ℕ) (hs : List Header) → takes x h ≡ true → list_any (takes x) hs ≡ true → list_any (share h) hs ≡ true
some_share h x [] t any = absurd (true≢false (sym any))
some_share h x (g ∷ gs) t any =
    elim (or_cases (takes x g) (list_any (takes x) gs) any) [
      | inl here ↦ or_left (share h g) (list_any (share h) gs) (shared_by h g x (takes_parts x h t) (takes_parts x g here))
      | inr later ↦ or_right (share h g) (list_any (share h) gs) (some_share h x gs t later)
    ]

-- none of the others has any
pub none_share : (h : Header) (hs : List Header) → ((x : ℕ) → takes x h ≡ true → list_any (takes x) hs ≡ false) → list_any (share h) hs ≡ false
none_share h [] free = refl
none_share h (g ∷ gs) free =
    or_from (share h g) (list_any (share h) gs)
    (false_from_ne_true (share h g) (λ e. let c = common h g e in
    true≢false (sym (takes_from c.at g c.second) ∙ (or_parts (takes c.at g) (list_any (takes c.at) gs) (free c.at (takes_from c.at h c.first))).0)))
    (none_share h gs (λ x t. (or_parts (takes x g) (list_any (takes x) gs) (free x t)).1))

-- ---- by the marks

-- the marks of a memory from 0x10000 on
module _ (h : Header) (taken : List Bool) (behind : List Header) where
  takes_inside : (x : ℕ) → 0x10000 ≤ h.address → takes x h ≡ true → (h.address - 0x10000 ≤ x - 0x10000) × (x - 0x10000 < h.address - 0x10000 + h.memory_size) × (0x10000 + (x - 0x10000) ≡ x)
  takes_inside x low t = let p = takes_parts x h t in (omega (arith, p.from), omega (arith, p.from, p.upto, low), omega (arith, p.from, low))

  pub shares_where_taken : is_segment h ≡ true → 0x10000 ≤ h.address → h.address - 0x10000 + h.memory_size ≤ length taken → Marks taken behind
      → IsTaken taken (h.address - 0x10000) (h.address - 0x10000 + h.memory_size) → list_any (share h) behind ≡ true
  shares_where_taken segment low fits marks t =
      some_share h (0x10000 + t.place) behind (takes_from (0x10000 + t.place) h (record { segment = segment; from = omega (arith, t.from); upto = omega (arith, t.below, low) }))
      (sym (marks t.place (omega (arith, t.below, fits))) ∙ t.marked)

  pub shares_none_where_free : 0x10000 ≤ h.address → h.address - 0x10000 + h.memory_size ≤ length taken → Marks taken behind → IsFree taken (h.address - 0x10000) (h.address - 0x10000 + h.memory_size)
      → list_any (share h) behind ≡ false
  shares_none_where_free low fits marks free =
      none_share h behind (λ x t.
      let i = takes_inside x low t in
      ap (λ y. list_any (takes y) behind) (sym i.2) ∙ sym (marks (x - 0x10000) (omega (arith, i.1, fits))) ∙ free (x - 0x10000) i.0 i.1)

  -- a mark is free where no header behind shares an address, and only there
  pub shares_by_marks : (free : Bool) → is_segment h ≡ true → 0x10000 ≤ h.address → h.address - 0x10000 + h.memory_size ≤ length taken → Marks taken behind
      → (free ≡ false → IsTaken taken (h.address - 0x10000) (h.address - 0x10000 + h.memory_size)) → (free ≡ true → IsFree taken (h.address - 0x10000) (h.address - 0x10000 + h.memory_size))
      → list_any (share h) behind ≡ not free
  shares_by_marks true segment low fits marks found none = shares_none_where_free low fits marks (none refl)
  shares_by_marks false segment low fits marks found none = shares_where_taken segment low fits marks (found refl)

-- ---- headers that take no memory

pub no_segment : (h : Header) (hs : List Header) → is_segment h ≡ false → list_any (share h) hs ≡ false
no_segment h hs other = none_share h hs (λ x t. let p = takes_parts x h t in absurd (true≢false (sym p.segment ∙ other)))

pub no_memory : (h : Header) (hs : List Header) → h.memory_size ≡ 0 → list_any (share h) hs ≡ false
no_memory h hs empty = none_share h hs (λ x t. let p = takes_parts x h t in absurd (omega (arith, empty, p.from, p.upto)))

-- ---- the headers from one on

pub overlap_from : (i : ℕ) (hs : List Header) → overlap (drop i hs) ≡ true → overlap hs ≡ true
overlap_from zero hs e = e
overlap_from (suc i) [] e = e
overlap_from (suc i) (h ∷ hs) e = or_right (list_any (share h) hs) (overlap hs) (overlap_from i hs e)

pub or_last : (a b c : Bool) → a ≡ c → b ≡ false → (a || b) ≡ c
or_last true b true e f = refl
or_last true b false e f = absurd cc
or_last false b c e f = f ∙ e

pub both_share : (a b : Header) (x : ℕ) → takes x a ≡ true → takes x b ≡ true → share a b ≡ true
both_share a b x s t = shared_by a b x (takes_parts x a s) (takes_parts x b t)
