-- What the posts of a batch are, and what they make of an account of the pages.
use Rattle.std.specs.Prelude.{ℕ, ◌≡◌, ◌<◌, ◌≤◌, Bool, true, false, ◌&&◌, ◌==◌, nat_lt, List, [], ◌∷◌, ◌++◌, map, length, Option, Some, None}
use Rattle.std.specs.FinMap.{is_sorted}
use Rattle.std.specs.List.{filter_map, list_all, range_with_len}
use Rattle.std.specs.Ordering.{nat_cmp}
use Rattle.t32_base.specs.Account.{Account, page_in, with_page}
use Rattle.rv_mem.specs.Memory.{page_at}
use Rattle.proc_state.specs.declared.process.Process.{Process}
use Rattle.bus_msg.specs.declared.entry.What.{What}
use Rattle.bus_msg.specs.declared.entry.What.TheVariants.{Page, Sync}
use Rattle.bus_msg.specs.declared.entry.Post.{Post}
use Rattle.bus_msg.specs.Places.{same_pid}
use Rattle.sync_point.specs.Batch.{is_marked}

-- ---- the posts

-- a page of the process, at its step count
abbrev pub is_page_of : Process → What → Bool
is_page_of p (Page pid at index bytes) = same_pid pid (p.small).pid && at == (p.small).steps && nat_lt index (length (p.ram).dirty)
is_page_of p _ = false

abbrev pub is_sync : What → Bool
is_sync (Sync pid small read took) = true
is_sync _ = false

-- one post synchronises, and it is the last; each before it is a page of the process
pub record EndsWithSync (p : Process) (posts : List Post) : Type 0 where
  pub pages : List Post
  pub last : Post
  pub parts : posts ≡ pages ++ last ∷ []
  pub before : list_all (λ (post : Post). is_page_of p post.what) pages ≡ true
  pub sync : is_sync last.what ≡ true

-- ---- the pages

-- the number and the bytes of a page
abbrev pub page_sent : What → Option (ℕ × List ℕ)
page_sent (Page pid at index bytes) = Some (index, bytes)
page_sent _ = None

-- the pages that posts send, in their order
abbrev pub pages_sent : List Post → List (ℕ × List ℕ)
pages_sent posts = filter_map (λ (post : Post). page_sent post.what) posts

-- an account after these pages came, one after the other
abbrev pub with_pages : List (ℕ × List ℕ) → Account → Account
with_pages [] a = a
with_pages (page ∷ rest) a = with_pages rest (with_page page.0 page.1 a)

-- every page of the memory, by rising number
abbrev pub whole_memory : Process → List (ℕ × List ℕ)
whole_memory p = map (λ i. (i, page_at (p.ram).bytes i)) (range_with_len 0 (length (p.ram).dirty))

-- an account by rising number that has each page without a mark as the process has it, and no page behind its memory
pub record HasUnmarked (p : Process) (a : Account) : Type 0 where
  pub rising : is_sorted nat_cmp a.now ≡ true
  pub clean : (i : ℕ) → i < length (p.ram).dirty → is_marked p i ≡ false → page_in a.now i ≡ Some (page_at (p.ram).bytes i)
  pub within : (i : ℕ) → length (p.ram).dirty ≤ i → page_in a.now i ≡ None
