-- The pages of the roots of a system are those of its processes at boot.
use Rattle.std.proofs.Common.{◌≡◌, ℕ, ◌+◌, ◌≤◌, Bool, true, false, ◌||◌, cond, eqb, T, is_some, List, [], ◌∷◌, ◌++◌, map, refl, sym, ap, ◌∙◌, arith, Some, eqb-true, eq-eqb, true≢false, add-zero}
use Rattle.std.specs.Prelude.{fold}
use Rattle.std.specs.List.{list_any, sum_by}
use Rattle.std.specs.Ordering.{nat_cmp, is_eq}
use Rattle.std.specs.declared.cmp.Ordering.{Ordering}
use Rattle.std.specs.declared.cmp.Ordering.TheVariants.{Less, Equal, Greater}
use Rattle.std.specs.FinMap.{put, find, is_sorted}
use Rattle.std.specs.FinMap.Entries.{by_order, is_sorted-put}
use Rattle.std.proofs.lemmas.Bool.Decides.{nat_tests}
use Rattle.std.proofs.lemmas.List.Sums.{sum_by-append, sum_by-cons, sum_by_push}
use Rattle.std.proofs.lemmas.Option.{same_Some}
use Rattle.std.proofs.lemmas.Bool.{or_parts}
use Rattle.t32_base.specs.declared.process.Pid.{Pid}
use Rattle.sys_text.specs.declared.system.System.{System}
use Rattle.sys_text.specs.declared.system.Root.{Root}
use Rattle.sys_text.specs.Valid.{is_system}
use Rattle.sys_text.specs.Boot.{roots_of}
use Rattle.proc_state.specs.State.{ProcState, linked_to}
use Rattle.plain_kernel.specs.Kernel.{Kernel, boot, boot_roots, empty, pid_cmp, process_at, root_process, with_process, with_root}
use Rattle.plain_kernel.specs.Maps.{linked_processes, pid_of}
use Rattle.plain_kernel.specs.Starts.{starts_in}
use Rattle.plain_kernel.proofs.AtBoot.{chans-keep, roots-rising}
use Rattle.plain_kernel.proofs.Laws.{pid_cmp_total}
use Rattle.plain_kernel.proofs.Pids.{IsRising, left_true, not_found, right_true}
use Rattle.cert_sched.specs.Losses.{root_pages}
use Rattle.cert_sched.specs.Schedule.{placed_root}
use Rattle.cert_sched.proofs.BootPids.{root_pids, state_pids}
use Rattle.cert_sched.proofs.PidLaws.{apart_of}
use Rattle.cert_sched.proofs.RisingLaws.{NoTwo}
use Rattle.cert_sched.proofs.RootPids.{root_pids_differ}
use Rattle.page_accounts.specs.Booting.{pages_of}
use Rattle.page_accounts.proofs.Booted.{boot_has}

-- ---- a sum over the processes of a kernel

abbrev pages : ProcState → ℕ
pages s = (s.small).pages

abbrev state_pages : List (Pid × ProcState) → ℕ
state_pages es = sum_by (λ (e : Pid × ProcState). pages e.1) es

page_sum : (e : Pid × ProcState) (es : List (Pid × ProcState)) → state_pages (e ∷ es) ≡ pages e.1 + state_pages es
page_sum e es = sum_by-cons (λ (e : Pid × ProcState). pages e.1) e es

tied_same : (n m : ℕ) → nat_cmp n m ≡ Equal → eqb m n ≡ true
tied_same n m tied = grind (arith, nat_tests)

swapped : (a b c m n : ℕ) → m ≡ b + c → n ≡ a + c → a + m ≡ b + n
swapped a b c m n h g = omega (arith, h, g)

-- a process that is put where none is adds its pages
put_new : (p : Pid) (s : ProcState) (es : List (Pid × ProcState)) → list_any (λ n. eqb n p.0) (state_pids es) ≡ false → state_pages (put pid_cmp p s es) ≡ pages s + state_pages es
put_new p s [] none = page_sum (p, s) []
put_new p s (e ∷ es) none =
    let parts = or_parts (eqb (e.0).0 p.0) (list_any (λ n. eqb n p.0) (state_pids es)) none in
    by_case (pid_cmp p e.0) refl parts.0 (put_new p s es parts.1)
  where
    by_case : (o : Ordering) → pid_cmp p e.0 ≡ o → eqb (e.0).0 p.0 ≡ false → state_pages (put pid_cmp p s es) ≡ pages s + state_pages es
        → state_pages (by_order o ((p, s) ∷ e ∷ es) ((e.0, s) ∷ es) (e ∷ put pid_cmp p s es)) ≡ pages s + state_pages (e ∷ es)
    by_case Less is apart more = page_sum (p, s) (e ∷ es)
    by_case Equal is apart more = absurd (true≢false (sym (tied_same p.0 (e.0).0 is) ∙ apart))
    by_case Greater is apart more = page_sum e (put pid_cmp p s es) ∙ swapped (pages e.1) (pages s) (state_pages es) (state_pages (put pid_cmp p s es)) (state_pages (e ∷ es)) more (page_sum e es)

-- one that is put where it was, with as much memory, changes no sum
put_again : (p : Pid) (was now : ProcState) (es : List (Pid × ProcState)) → T (is_sorted pid_cmp es) → find pid_cmp p es ≡ Some was → pages now ≡ pages was → state_pages (put pid_cmp p now es) ≡ state_pages es
put_again p was now [] rising found same = cc
put_again p was now (e ∷ es) rising found same = by_case (pid_cmp p e.0) refl found (λ there. put_again p was now es (right_true _ _ rising) there same)
  where
    by_case : (o : Ordering) → pid_cmp p e.0 ≡ o → cond (is_eq o) (Some e.1) (find pid_cmp p es) ≡ Some was → (find pid_cmp p es ≡ Some was → state_pages (put pid_cmp p now es) ≡ state_pages es)
        → state_pages (by_order o ((p, now) ∷ e ∷ es) ((e.0, now) ∷ es) (e ∷ put pid_cmp p now es)) ≡ state_pages (e ∷ es)
    by_case Less is there more = absurd (true≢false (ap is_some (sym there ∙ not_found p e.0 es is (left_true _ _ rising))))
    by_case Equal is there more = page_sum (e.0, now) es ∙ ap (λ n. n + state_pages es) (same ∙ ap pages (sym (same_Some e.1 was there))) ∙ sym (page_sum e es)
    by_case Greater is there more = page_sum e (put pid_cmp p now es) ∙ ap (λ n. pages e.1 + n) (more there) ∙ sym (page_sum e es)

-- ---- the channels leave them

record HasPages (n : ℕ) (k : Kernel) : Type 0 where
  pub rising : IsRising k
  pub sum : state_pages k.processes ≡ n

linked_pages : (n : ℕ) (k : Kernel) (p : Pid) (s : ProcState) (peer : Pid) (far : ℕ) → process_at k p ≡ Some s → HasPages n k → HasPages n (with_process k p (linked_to s peer far))
linked_pages n k p s peer far there has = record {
  rising = is_sorted-put pid_cmp pid_cmp_total p (linked_to s peer far) k.processes has.rising;
  sum = put_again p s (linked_to s peer far) k.processes has.rising there refl ∙ has.sum;
}

chans_leave : (system : System) → state_pages (boot system).processes ≡ state_pages (boot_roots system).processes
unfolding boot
chans_leave system = (chans-keep (HasPages (state_pages (boot_roots system).processes)) (linked_pages _) system (boot_roots system) system.chans (record { rising = roots-rising system; sum = refl })).sum

-- ---- root by root

-- the pids that are there after one was put
any_put : (t : ℕ → Bool) (p : Pid) (s : ProcState) (es : List (Pid × ProcState)) → list_any t (state_pids (put pid_cmp p s es)) ≡ (t p.0 || list_any t (state_pids es))
any_put t p s [] = refl
any_put t p s (e ∷ es) = by_case (pid_cmp p e.0) refl (any_put t p s es)
  where
    swapped : (a b c : Bool) → (a || (b || c)) ≡ (b || (a || c))
    swapped true true c = refl
    swapped true false c = refl
    swapped false true c = refl
    swapped false false c = refl

    twice : (a c : Bool) → (a || c) ≡ (a || (a || c))
    twice true c = refl
    twice false c = refl

    by_case : (o : Ordering) → pid_cmp p e.0 ≡ o → list_any t (state_pids (put pid_cmp p s es)) ≡ (t p.0 || list_any t (state_pids es))
        → list_any t (state_pids (by_order o ((p, s) ∷ e ∷ es) ((e.0, s) ∷ es) (e ∷ put pid_cmp p s es))) ≡ (t p.0 || (t (e.0).0 || list_any t (state_pids es)))
    by_case Less is more = refl
    by_case Equal is more = twice (t (e.0).0) (list_any t (state_pids es)) ∙ ap (λ n. t n || (t (e.0).0 || list_any t (state_pids es))) (eqb-true (e.0).0 p.0 (tied_same p.0 (e.0).0 is))
    by_case Greater is more = ap (λ b. t (e.0).0 || b) more ∙ swapped (t (e.0).0) (t p.0) (list_any t (state_pids es))

abbrev root_sum : System → List (Pid × Root) → ℕ
root_sum system roots = sum_by (λ (r : Pid × Root). pages (root_process system r.0 r.1)) roots

turned : (a b c n : ℕ) → n ≡ a + c → a + b + c ≡ b + n
turned a b c n h = omega (arith, h)

pages_from : (system : System) (k : Kernel) (roots : List (Pid × Root)) → NoTwo (root_pids roots)
    → ((n : ℕ) → list_any (λ m. eqb m n) (root_pids roots) ≡ true → list_any (λ m. eqb m n) (state_pids k.processes) ≡ false)
    → state_pages (fold (with_root system) k roots).processes ≡ state_pages k.processes + root_sum system roots
pages_from system k [] two apart = sym (add-zero (state_pages k.processes))
pages_from system k (r ∷ roots) two apart =
    pages_from system (with_root system k r) roots two.1 later ∙ ap (λ n. n + root_sum system roots) one
    ∙ turned (pages (root_process system r.0 r.1)) (state_pages k.processes) (root_sum system roots) (root_sum system (r ∷ roots)) (sum_by-cons (λ (r : Pid × Root). pages (root_process system r.0 r.1)) r roots)
  where
    is_first : list_any (λ m. eqb m (r.0).0) (root_pids (r ∷ roots)) ≡ true
    is_first = ap (λ b. b || list_any (λ m. eqb m (r.0).0) (root_pids roots)) (eq-eqb (r.0).0 (r.0).0 refl)

    one : state_pages (with_root system k r).processes ≡ pages (root_process system r.0 r.1) + state_pages k.processes
    one = put_new r.0 (root_process system r.0 r.1) k.processes (apart (r.0).0 is_first)

    later : (n : ℕ) → list_any (λ m. eqb m n) (root_pids roots) ≡ true → list_any (λ m. eqb m n) (state_pids (with_root system k r).processes) ≡ false
    later n among = by_test (eqb (r.0).0 n) refl
      where
        by_test : (b : Bool) → eqb (r.0).0 n ≡ b → list_any (λ m. eqb m n) (state_pids (with_root system k r).processes) ≡ false
        by_test true is = absurd (true≢false (sym among ∙ ap (λ p. list_any (λ m. eqb m p) (root_pids roots)) (sym (eqb-true (r.0).0 n is)) ∙ two.0))
        by_test false is =
            any_put (λ m. eqb m n) r.0 (root_process system r.0 r.1) k.processes
            ∙ ap (λ b. b || list_any (λ m. eqb m n) (state_pids k.processes)) is
            ∙ apart n (ap (λ b. b || list_any (λ m. eqb m n) (root_pids roots)) is ∙ among)

none_before : (n : ℕ) → 0 + n ≡ n
none_before n = omega arith

boot_pages : (system : System) → is_system system ≡ true → state_pages (boot system).processes ≡ root_pages system
boot_pages system valid =
    chans_leave system ∙ pages_from system empty (roots_of system) (apart_of (map placed_root (roots_of system)) (root_pids_differ system valid)) (λ n among. refl) ∙ none_before (root_sum system (roots_of system))

-- ---- the roots of a map

state_pages_of : (es : List (ℕ × ProcState)) → pages_of es ≡ state_pages (starts_in es)
state_pages_of [] = refl
state_pages_of (e ∷ es) =
    sum_by-cons (λ (e : ℕ × ProcState). ((e.1).small).pages) e es ∙ ap (λ n. ((e.1).small).pages + n) (state_pages_of es)
    ∙ sym (page_sum (pid_of e.0, e.1) (starts_in es))

pub all_pages_of : (system : System) (es : List (ℕ × ProcState)) → is_system system ≡ true → starts_in es ≡ linked_processes system → pages_of es ≡ root_pages system
all_pages_of system es valid states = state_pages_of es ∙ ap state_pages (states ∙ sym (boot_has system)) ∙ boot_pages system valid

-- one root more
pub pages_last : (es : List (ℕ × ProcState)) (e : ℕ × ProcState) → pages_of (es ++ e ∷ []) ≡ pages_of es + ((e.1).small).pages
pages_last es e = sum_by_push (λ (e : ℕ × ProcState). ((e.1).small).pages) es e

-- and those behind it are no fewer
pub pages_upto : (es : List (ℕ × ProcState)) (e : ℕ × ProcState) (rest : List (ℕ × ProcState)) → pages_of es + ((e.1).small).pages ≤ pages_of (es ++ e ∷ rest)
pages_upto es e rest =
    let f : ℕ × ProcState → ℕ = λ (e : ℕ × ProcState). ((e.1).small).pages in
    at_most (pages_of es) ((e.1).small).pages (pages_of rest) (pages_of (e ∷ rest)) (pages_of (es ++ e ∷ rest)) (sum_by-append f es (e ∷ rest)) (sum_by-cons f e rest)
  where
    at_most : (a b c m n : ℕ) → n ≡ a + m → m ≡ b + c → a + b ≤ n
    at_most a b c m n h g = omega (arith, h, g)
