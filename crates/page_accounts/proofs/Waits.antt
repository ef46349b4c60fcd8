-- What one more entry makes of the fetches that wait.
use Rattle.std.proofs.Common.{◌≡◌, ℕ, Bool, true, false, ◌||◌, not, cond, List, [], ◌∷◌, ◌++◌, refl, sym, ◌∙◌, ap, Option, Some, None}
use Rattle.std.specs.Prelude.{filter}
use Rattle.std.specs.List.{list_any}
use Rattle.std.specs.Option.{option_to_list}
use Rattle.std.proofs.lemmas.List.Folds.{list_any-append}
use Rattle.t32_base.specs.declared.process.Pid.{Pid}
use Rattle.sys_text.specs.declared.system.System.{System}
use Rattle.bus_msg.specs.declared.entry.Entry.{Entry}
use Rattle.bus_msg.specs.PlacedAfter.{what}
use Rattle.cert_sched.specs.Told.{Told, told}
use Rattle.cert_sched.specs.Moved.{add_wait, ends_wait, fetched, waiting_fetches, waiting_in}
use Rattle.cert_sched.proofs.LogLaws.{told-snoc, told_last}

-- a fetch that the entry lets wait
abbrev pub waits_on : Told → Pid × ℕ → Bool
waits_on t f = not (ends_wait f.0 f.1 t)

-- those that wait on, and the one that the entry asks for
abbrev pub waits_next : Told → List (Pid × ℕ) → List (Pid × ℕ)
waits_next t waits = filter (waits_on t) waits ++ option_to_list (fetched (what t.entry))

one_more : (t : Told) (f : Pid × ℕ) (rest : List Told) (waits : List (Pid × ℕ)) →
    cond (list_any (ends_wait f.0 f.1) (rest ++ t ∷ [])) (waits_next t waits) (f ∷ waits_next t waits) ≡ waits_next t (cond (list_any (ends_wait f.0 f.1) rest) waits (f ∷ waits))
one_more t f rest waits = ap (λ b. cond b (waits_next t waits) (f ∷ waits_next t waits)) (list_any-append (ends_wait f.0 f.1) rest (t ∷ [])) ∙ by_tests (list_any (ends_wait f.0 f.1) rest) (ends_wait f.0 f.1 t) refl
  where
    by_tests : (any last : Bool) → ends_wait f.0 f.1 t ≡ last → cond (any || (last || false)) (waits_next t waits) (f ∷ waits_next t waits) ≡ waits_next t (cond any waits (f ∷ waits))
    by_tests true last is = refl
    by_tests false true is = sym (ap (λ b. cond (not b) (f ∷ filter (waits_on t) waits) (filter (waits_on t) waits) ++ option_to_list (fetched (what t.entry))) is)
    by_tests false false is = sym (ap (λ b. cond (not b) (f ∷ filter (waits_on t) waits) (filter (waits_on t) waits) ++ option_to_list (fetched (what t.entry))) is)

waiting_in-snoc : (ts : List Told) (t : Told) → waiting_in (ts ++ t ∷ []) ≡ waits_next t (waiting_in ts)
waiting_in-snoc [] t = by_fetch (fetched (what t.entry))
  where
    by_fetch : (o : Option (Pid × ℕ)) → add_wait o [] [] ≡ option_to_list o
    by_fetch None = refl
    by_fetch (Some f) = refl
waiting_in-snoc (u ∷ ts) t = by_fetch (fetched (what u.entry)) (waiting_in-snoc ts t)
  where
    by_fetch : (o : Option (Pid × ℕ)) → waiting_in (ts ++ t ∷ []) ≡ waits_next t (waiting_in ts) → add_wait o (ts ++ t ∷ []) (waiting_in (ts ++ t ∷ [])) ≡ waits_next t (add_wait o ts (waiting_in ts))
    by_fetch None more = more
    by_fetch (Some f) more = ap (λ ws. cond (list_any (ends_wait f.0 f.1) (ts ++ t ∷ [])) ws (f ∷ ws)) more ∙ one_more t f ts (waiting_in ts)

pub waiting_fetches-snoc : (system : System) (log : List Entry) (e : Entry) → waiting_fetches system (log ++ e ∷ []) ≡ waits_next (told_last system log e) (waiting_fetches system log)
waiting_fetches-snoc system log e = ap waiting_in (told-snoc system log e) ∙ waiting_in-snoc (told system log) (told_last system log e)
