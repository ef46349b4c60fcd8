-- In a kernel whose pids have 32 bits the numbers of each process stay small, from boot on.
use Rattle.std.proofs.Common.{◌≡◌, ℕ, zero, suc, ◌+◌, ◌*◌, ◌-◌, ◌^◌, ◌≤◌, refl, sym, ◌∙◌, ap, subst, arith, List, [], ◌∷◌, ◌++◌, length, length-append, replicate, slice_get, Bool, true, false, cond, eqb, eq-eqb, Option, Some, None, true≢false}
use Rattle.std.specs.Prelude.{◌≢◌, fold, option_and_then, option_map, unwrap_or}
use Rattle.std.specs.List.{list_all}
use Rattle.std.specs.Option.{option_map_or}
use Rattle.std.proofs.lemmas.List.Sums.{count_by-le-length}
use Rattle.std.proofs.lemmas.Option.{same_Some}
use Rattle.t32_base.specs.declared.process.Pid.{Pid}
use Rattle.t32_base.specs.declared.process.EndState.TheVariants.{Never, Tty}
use Rattle.sys_text.specs.declared.system.System.{System}
use Rattle.sys_text.specs.declared.system.Image.{Image}
use Rattle.sys_text.specs.declared.system.Root.{Root}
use Rattle.sys_text.specs.Boot.{bytes_of_words, roots_of, with_pids}
use Rattle.sys_text.specs.Valid.{is_root, is_system}
use Rattle.sys_text.proofs.Bounds.{first_of_two, image_bounds, root_fits, root_tests, second_of_two, system_bounds, tests}
use Rattle.byteorder.specs.Endian.{little_bytes}
use Rattle.proc_state.specs.Ends.{free_end}
use Rattle.proc_state.specs.State.{ProcState, delivered, has_ended, linked_to, root_state}
use Rattle.sys_calls.specs.declared.steps.Emission.{Emission}
use Rattle.sys_calls.specs.declared.steps.Emission.TheVariants.{Mail as Sent, Exit as Ended}
use Rattle.sys_calls.specs.Calls.{Next, Silent, Blocked, Forks, Emits, Over}
use Rattle.sys_calls.specs.Next.{next_step}
use Rattle.sys_calls.specs.Fork.{fork_child, fork_parent}
use Rattle.sys_calls.specs.Take.{taken}
use Rattle.plain_kernel.specs.Kernel.{Kernel, boot, boot_roots, emitted, empty, ends_linked, free_end_at, link_put, no_image, process_at, root_pid, root_process, with_chan, with_end_linked, with_process, with_root}
use Rattle.plain_kernel.specs.Apply.{after_step, fork_step, one_step, take_step}
use Rattle.plain_kernel.proofs.Forking.{fork_made}
use Rattle.plain_kernel.proofs.Laws.{process_at-same}
use Rattle.plain_kernel.proofs.Others.{process_at-other}
use Rattle.plain_kernel.proofs.Taking.{take_made}
use Rattle.bus_msg.specs.declared.entry.Entry.{Entry}
use Rattle.bus_msg.specs.Places.{same_pid}
use Rattle.cert_sched.specs.Deeds.{is_end_of}
use Rattle.cert_sched.specs.Schedule.{plain_after}
use Rattle.cert_sched.proofs.CameLaws.{same_of}
use Rattle.cert_sched.proofs.MailLaws.{process_at-emitted, received}
use Rattle.cert_sched.proofs.StepLaws.{log_keeps_all}
use Rattle.state_numbers.specs.Fits.{AreBytes, EmissionFits, IsWord, NextFits, StateFits}
use Rattle.state_numbers.proofs.Below.{below_append, below_replicate, below_set, little_below}
use Rattle.state_numbers.proofs.Parts.{free_below, links_set}
use Rattle.state_numbers.proofs.Stepping.{child_fits, delivered_fits, linked_fits, never_fit, next_fits, parent_fits, take_fits}

abbrev pub PidsFit : Kernel → Type 0
PidsFit k = (p : Pid) (s : ProcState) → process_at k p ≡ Some s → IsWord p.0

abbrev pub AllFit : Kernel → Type 0
AllFit k = (p : Pid) (s : ProcState) → process_at k p ≡ Some s → StateFits s

abbrev Fitting : Kernel → Type 0
Fitting k = PidsFit k → AllFit k

-- ---- a kernel that changes

turned_apart : (p q : Pid) → same_pid p q ≡ false → q.0 ≢ p.0
turned_apart p q is e = true≢false (sym (eq-eqb p.0 q.0 (sym e)) ∙ is)

put_pids : (k : Kernel) (p : Pid) (t : ProcState) → PidsFit (with_process k p t) → PidsFit k
put_pids k p t fit q s there = by_pid (same_pid p q) refl
  where
    by_pid : (b : Bool) → same_pid p q ≡ b → IsWord q.0
    by_pid true is = subst (λ (r : Pid). IsWord r.0) (same_of p q is) (fit p t (process_at-same k p t))
    by_pid false is = fit q s (process_at-other k p t q (turned_apart p q is) ∙ there)

put_all : (k : Kernel) (p : Pid) (t : ProcState) → StateFits t → AllFit k → AllFit (with_process k p t)
put_all k p t one all q s there = by_pid (same_pid p q) refl
  where
    by_pid : (b : Bool) → same_pid p q ≡ b → StateFits s
    by_pid true is = subst StateFits (same_Some t s (sym (process_at-same k p t) ∙ ap (process_at (with_process k p t)) (same_of p q is) ∙ there)) one
    by_pid false is = all q s (sym (process_at-other k p t q (turned_apart p q is)) ∙ there)

emitted_pids : (k : Kernel) (e : Emission) → PidsFit (emitted k e) → PidsFit k
emitted_pids k e fit q s there = fit q (received e q s) (process_at-emitted k e q ∙ ap (option_map (received e q)) there)

received_fits : (e : Emission) (q : Pid) (s : ProcState) → EmissionFits e → StateFits s → StateFits (received e q s)
received_fits (Ended end) q s e f = f
received_fits (Sent letter) q s e f = by_tests (has_ended (s.small).status) (is_end_of q letter.to)
  where
    by_tests : (b c : Bool) → StateFits (cond b s (cond c (delivered s letter) s))
    by_tests true c = f
    by_tests false true = delivered_fits s letter e f
    by_tests false false = f

emitted_all : (k : Kernel) (e : Emission) → EmissionFits e → AllFit k → AllFit (emitted k e)
emitted_all k e one all q s there = by_process (process_at k q) refl (sym (process_at-emitted k e q) ∙ there)
  where
    by_process : (o : Option ProcState) → process_at k q ≡ o → option_map (received e q) o ≡ Some s → StateFits s
    by_process None here h = cc
    by_process (Some was) here h = subst StateFits (same_Some (received e q was) s h) (received_fits e q was one (all q was here))

one_fits : (p : Pid) (k j : Kernel) → Fitting k → one_step p k ≡ Some j → Fitting j
unfolding one_step
one_fits p k j fitting made pids = by_process (process_at k p) refl made
  where
    by_next : (s : ProcState) (next : Next) → process_at k p ≡ Some s → next_step s ≡ next → after_step k p next ≡ Some j → AllFit j
    by_next s (Silent t) there is e =
        let same : with_process k p t ≡ j = same_Some (with_process k p t) j e in
        let all = fitting (put_pids k p t (subst PidsFit (sym same) pids)) in
        subst AllFit same (put_all k p t (subst NextFits is (next_fits s (all p s there))) all)
    by_next s (Emits sent t) there is e =
        let same : emitted (with_process k p t) sent ≡ j = same_Some (emitted (with_process k p t) sent) j e in
        let all = fitting (put_pids k p t (emitted_pids (with_process k p t) sent (subst PidsFit (sym same) pids))) in
        let fits = subst NextFits is (next_fits s (all p s there)) in
        subst AllFit same (emitted_all (with_process k p t) sent fits.0 (put_all k p t fits.1 all))
    by_next s Blocked there is e = cc
    by_next s Forks there is e = cc
    by_next s Over there is e = cc

    by_process : (o : Option ProcState) → process_at k p ≡ o → option_and_then (λ s. after_step k p (next_step s)) o ≡ Some j → AllFit j
    by_process None there e = cc
    by_process (Some s) there e = by_next s (next_step s) there refl e

fork_fits : (p c : Pid) (k j : Kernel) → Fitting k → fork_step p c k ≡ Some j → Fitting j
fork_fits p c k j fitting made pids =
    let f = fork_made p c k j made in
    let parent : Kernel = with_process k p (fork_parent f.was c) in
    let later : PidsFit (with_process parent c (fork_child f.was c)) = subst PidsFit (sym f.after) pids in
    let child : IsWord c.0 = later c (fork_child f.was c) (process_at-same parent c (fork_child f.was c)) in
    let all = fitting (put_pids k p (fork_parent f.was c) (put_pids parent c (fork_child f.was c) later)) in
    let had = all p f.was f.there in
    subst AllFit f.after (put_all parent c (fork_child f.was c) (child_fits f.was c child had) (put_all k p (fork_parent f.was c) (parent_fits f.was c child had) all))

takes_fit : (p : Pid) (k j : Kernel) → Fitting k → take_step p k ≡ Some j → Fitting j
takes_fit p k j fitting made pids =
    let t = take_made p k j made in
    let all = fitting (put_pids k p (taken t.was) (subst PidsFit t.after pids)) in
    subst AllFit (sym t.after) (put_all k p (taken t.was) (take_fits t.was (all p t.was t.there)) all)

-- ---- the roots

words_bytes : (words : List ℕ) → AreBytes (bytes_of_words words)
words_bytes [] = tt
words_bytes (w ∷ words) = below_append 256 (little_bytes 4 w) (bytes_of_words words) (little_below 4 w) (words_bytes words)

first_fits : (p : Pid) (entry pages : ℕ) (words : List ℕ) (limit births tty : ℕ) → IsWord p.0 → pages ≤ 256 → tty ≤ 15 → StateFits (root_state p entry pages (bytes_of_words words) limit births tty)
first_fits p entry pages words limit births tty pid few terminal = record {
  pid = pid;
  pages = omega (arith, few);
  regs = below_set (2 ^ 32) (replicate 32 0) 2 (0x10000 + 256 * pages) (omega (arith, few)) (below_replicate (2 ^ 32) 32 0 (omega arith));
  frame = tt;
  ends = links_set (replicate 32 Never) 0 (Tty tty) (omega (arith, terminal)) (never_fit 32);
  few = omega arith;
  status = tt;
  memory = below_append 256 (bytes_of_words words) (replicate (256 * pages - length (bytes_of_words words)) 0) (words_bytes words) (below_replicate 256 (256 * pages - length (bytes_of_words words)) 0 (omega arith));
  mail = tt;
}

root_one : (system : System) (p : Pid) (r : Root) → is_system system ≡ true → IsWord p.0 → r.tty ≤ 15 → StateFits (root_process system p r)
root_one system p r valid pid terminal = by_image (slice_get system.images r.image) refl
  where
    by_image : (o : Option Image) → slice_get system.images r.image ≡ o
        → StateFits (root_state p (unwrap_or o no_image).entry (unwrap_or o no_image).pages (bytes_of_words (unwrap_or o no_image).words) r.limit r.births r.tty)
    by_image None is = first_fits p no_image.entry 1 [] r.limit r.births r.tty pid (omega arith) terminal
    by_image (Some image) is = first_fits p image.entry image.pages image.words r.limit r.births r.tty pid (image_bounds system r.image image valid is).pages terminal

abbrev pub RootsFit : List (Pid × Root) → Type 0
RootsFit [] = Unit {0}
RootsFit (r ∷ roots) = (IsWord (r.0).0 × ((r.1).tty ≤ 15)) × RootsFit roots

each_root : (s : System) → s.clusters ≤ 16 → (earlier roots : List Root) → list_all (is_root s.clusters (length s.images)) roots ≡ true → length earlier + length roots ≤ 32 → RootsFit (with_pids earlier roots)
each_root s few earlier [] all within = tt
each_root s few earlier (r ∷ roots) all within =
    let b = root_fits s r few (first_of_two _ (list_all (is_root s.clusters (length s.images)) roots) all) in
    let count = count_by-le-length (λ (q : Root). eqb (q.home).0 (r.home).0) earlier in
    let more = length-append earlier (r ∷ []) in (
      (omega (arith, b.home, b.clusters, count, within), b.tty),
      each_root s few (earlier ++ r ∷ []) roots (second_of_two (is_root s.clusters (length s.images) r) _ all) (omega (arith, more, within)),
    )

pub roots_fit : (system : System) → is_system system ≡ true → RootsFit (roots_of system)
roots_fit system valid =
    let b = system_bounds system valid in
    let t = root_tests system.clusters (length system.images) system.roots (tests system valid).roots in
    each_root system b.clusters [] system.roots t.each (omega (arith, b.roots))

roots_all : (system : System) → is_system system ≡ true → (k : Kernel) (roots : List (Pid × Root)) → RootsFit roots → AllFit k → AllFit (fold (with_root system) k roots)
roots_all system valid k [] fit all = all
roots_all system valid k (r ∷ roots) fit all =
    roots_all system valid (with_root system k r) roots fit.1 (put_all k r.0 (root_process system r.0 r.1) (root_one system r.0 r.1 valid fit.0.0 fit.0.1) all)

-- ---- the channels

root_at : (roots : List (Pid × Root)) (i : ℕ) (r : Pid × Root) → RootsFit roots → slice_get roots i ≡ Some r → IsWord (r.0).0
root_at [] i r fit is = cc
root_at (q ∷ roots) zero r fit is = subst (λ (x : Pid × Root). IsWord (x.0).0) (same_Some q r is) fit.0.0
root_at (q ∷ roots) (suc i) r fit is = root_at roots i r fit.1 is

pid_fits_at : (system : System) (number : ℕ) → is_system system ≡ true → IsWord (root_pid system number).0
pid_fits_at system number valid = by_root (slice_get (roots_of system) (number - 1)) refl
  where
    by_root : (o : Option (Pid × Root)) → slice_get (roots_of system) (number - 1) ≡ o → IsWord (option_map_or (λ (r : Pid × Root). r.0) o (record { 0 = 0 })).0
    by_root None is = omega arith
    by_root (Some r) is = root_at (roots_of system) (number - 1) r (roots_fit system valid) is

free_word : (k : Kernel) (p : Pid) (i : ℕ) → AllFit k → free_end_at k.processes p ≡ Some i → IsWord i
free_word k p i all is = by_process (process_at k p) refl is
  where
    by_process : (o : Option ProcState) → process_at k p ≡ o → option_and_then (λ (s : ProcState). free_end (s.small).ends) o ≡ Some i → IsWord i
    by_process None there e = cc
    by_process (Some s) there e = let less = free_below (s.small).ends i e in let few = (all p s there).few in omega (arith, less, few)

linked_all : (k : Kernel) (p peer : Pid) (far : ℕ) → IsWord peer.0 → IsWord far → AllFit k → AllFit (record k { processes = with_end_linked k.processes p peer far })
linked_all k p peer far near less all = by_process (process_at k p) refl
  where
    by_process : (o : Option ProcState) → process_at k p ≡ o → AllFit (record k { processes = link_put p peer far o k.processes })
    by_process None there = all
    by_process (Some s) there = put_all k p (linked_to s peer far) (linked_fits s peer far near less (all p s there)) all

chans_all : (system : System) → is_system system ≡ true → (k : Kernel) (chans : List (ℕ × ℕ)) → AllFit k → AllFit (record k { processes = fold (with_chan system) k.processes chans })
chans_all system valid k [] all = all
chans_all system valid k (chan ∷ chans) all =
    chans_all system valid (record k { processes = with_chan system k.processes chan }) chans
    (by_ends (free_end_at k.processes p) (free_end_at k.processes q) refl refl)
  where
    p : Pid
    p = root_pid system chan.0

    q : Pid
    q = root_pid system chan.1

    by_ends : (near far : Option ℕ) → free_end_at k.processes p ≡ near → free_end_at k.processes q ≡ far → AllFit (record k { processes = ends_linked k.processes p q near far })
    by_ends None far here there = all
    by_ends (Some near) None here there = all
    by_ends (Some near) (Some far) here there =
        linked_all (record k { processes = with_end_linked k.processes p q far }) q p near (pid_fits_at system chan.0 valid) (free_word k p near all here)
        (linked_all k p q far (pid_fits_at system chan.1 valid) (free_word k q far all there) all)

boot_fits : (system : System) → is_system system ≡ true → AllFit (boot system)
unfolding boot
boot_fits system valid = chans_all system valid (boot_roots system) system.chans (roots_all system valid empty (roots_of system) (roots_fit system valid) (λ p s there. cc))

-- ---- after a log

pub kernel_fits : (system : System) (log : List Entry) (k : Kernel) → is_system system ≡ true → plain_after system log ≡ Some k → PidsFit k → AllFit k
kernel_fits system log k valid is = log_keeps_all Fitting one_fits fork_fits takes_fit system log k (λ _. boot_fits system valid) is
