-- The items of an entry that is no birth are runs and takes: what each step keeps they keep.
use Rattle.std.proofs.Common.{◌≡◌, ℕ, ◌-◌, refl, sym, ◌∙◌, subst, List, [], ◌∷◌, ◌++◌, Bool, true, false, cond, eqb, Option, Some, None, true≢false}
use Rattle.std.specs.Prelude.{option_and_then}
use Rattle.std.specs.List.{list_all}
use Rattle.std.proofs.lemmas.Bool.{and_from, and_parts}
use Rattle.std.proofs.lemmas.List.Folds.{list_all-append}
use Rattle.std.proofs.lemmas.Option.{same_Some}
use Rattle.t32_base.specs.declared.process.Pid.{Pid}
use Rattle.plain_kernel.specs.declared.item.Item.{Item}
use Rattle.plain_kernel.specs.declared.item.Item.TheVariants.{Run, Fork, Take}
use Rattle.plain_kernel.specs.Kernel.{Kernel}
use Rattle.plain_kernel.specs.Apply.{one_step, steps, apply, apply_all, take_step}
use Rattle.plain_kernel.proofs.Others.{steps-keep}
use Rattle.bus_msg.specs.declared.entry.What.{What}
use Rattle.bus_msg.specs.declared.entry.What.TheVariants.{Mail, Birth, Exit, Sync, Rebackup, Done}
use Rattle.cert_sched.specs.Schedule.{done, items_of, run_of, run_upto, runs_of, steps_in, take_of}
use Rattle.cert_sched.proofs.BirthKind.{is_birth}

abbrev pub is_no_fork : Item → Bool
is_no_fork (Run p n) = true
is_no_fork (Fork p c) = false
is_no_fork (Take p) = true

module _ (P : Kernel → Type 0) (one : (p : Pid) (k j : Kernel) → P k → one_step p k ≡ Some j → P j) (take : (p : Pid) (k j : Kernel) → P k → take_step p k ≡ Some j → P j) where
  item_kept : (i : Item) (k j : Kernel) → is_no_fork i ≡ true → P k → apply k i ≡ Some j → P j
  item_kept (Run p n) k j other has made = by_count (eqb n 0) made
    where
      by_count : (b : Bool) → cond b None (steps n p k) ≡ Some j → P j
      by_count true e = cc
      by_count false e = steps-keep P one n p k j has e
  item_kept (Fork p c) k j other has made = absurd (true≢false (sym other))
  item_kept (Take p) k j other has made = take p k j has made

  -- items without a fork keep it
  pub forkless_keep : (is : List Item) (k j : Kernel) → list_all is_no_fork is ≡ true → P k → apply_all is k ≡ Some j → P j
  forkless_keep [] k j other has made = subst P (same_Some k j made) has
  forkless_keep (i ∷ is) k j other has made =
      let both = and_parts (is_no_fork i) (list_all is_no_fork is) other in
      by_case (apply k i) refl made (λ l there. item_kept i k l both.0 has there) (λ l. forkless_keep is l j both.1)
    where
      by_case : (o : Option Kernel) → apply k i ≡ o → option_and_then (apply_all is) o ≡ Some j → ((l : Kernel) → apply k i ≡ Some l → P l) → ((l : Kernel) → P l → apply_all is l ≡ Some j → P j) → P j
      by_case None is_o e first more = cc
      by_case (Some l) is_o e first more = more l (first l is_o) e

pub run_forkless : (p : Pid) (n : ℕ) → list_all is_no_fork (run_of p n) ≡ true
run_forkless p n = by_count (eqb n 0)
  where
    by_count : (b : Bool) → list_all is_no_fork (cond b [] (Run p n ∷ [])) ≡ true
    by_count true = refl
    by_count false = refl

take_forkless : (p : Pid) (took : Option ℕ) → list_all is_no_fork (take_of p took) ≡ true
take_forkless p None = refl
take_forkless p (Some g) = refl

parts_forkless : (xs ys : List Item) → list_all is_no_fork xs ≡ true → list_all is_no_fork ys ≡ true → list_all is_no_fork (xs ++ ys) ≡ true
parts_forkless xs ys first second = list_all-append is_no_fork xs ys ∙ and_from (list_all is_no_fork xs) (list_all is_no_fork ys) first second

runs_forkless : (k : Kernel) (rests : List (Pid × ℕ)) → list_all is_no_fork (runs_of k rests) ≡ true
runs_forkless k [] = refl
runs_forkless k (r ∷ rests) = parts_forkless (run_upto k r.0 r.1) (runs_of k rests) (run_forkless r.0 (r.1 - done k r.0)) (runs_forkless k rests)

pub items_forkless : (k : Kernel) (w : What) → is_birth w ≡ false → list_all is_no_fork (items_of k w) ≡ true
items_forkless k (Mail at letter) other = run_forkless letter.from (at - done k letter.from)
items_forkless k (Birth parent at child end) other = absurd (true≢false other)
items_forkless k (Exit pid at end) other = run_forkless pid (at - done k pid)
items_forkless k (Sync pid small read took) other = parts_forkless (run_upto k pid small.steps) (take_of pid took) (run_forkless pid (small.steps - done k pid)) (take_forkless pid took)
items_forkless k (Rebackup to true []) other = refl
items_forkless k (Rebackup to true (r ∷ rs)) other = run_forkless r.pid (steps_in r.state - done k r.pid)
items_forkless k (Done rests) other = runs_forkless k rests
items_forkless k _ other = refl
